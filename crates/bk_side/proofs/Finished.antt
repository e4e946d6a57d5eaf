-- What is shown while a batch is sealed, copied and cleared.
use Rattle.std.proofs.Common.{◌≡◌, ◌⊎◌, ℕ, List, [], ◌∷◌, length, map, Option, Some, refl, inl, inr, sym, ap, subst, ◌∙◌, arith}
use Rattle.std.specs.Prelude.{slice_get, unwrap_or}
use Rattle.bk_device.specs.Calls.{contents, read_at, LeavesSame, CallsOn, ChangesNothing}
use Rattle.bk_device.specs.Compose.{effect_none, effect_then, effect_widen, effect_then_sync, durable_kept, keeps_by_effect}
use Rattle.bk_device.specs.Disk.{Files, Disk, IsDurable, IsLawful}
use Rattle.bk_device.specs.Effects.{Effect, IsName, KeepsFiles, MayLeaveOwn}
use Rattle.bk_device.specs.Laws.{keeps_by_same, nothing_then}
use Rattle.bk_device.specs.Names.{same_or_other}
use Rattle.bk_gate.specs.Blobs.{sealed, part_of, IsGateFile}
use Rattle.bk_gate.specs.Gate.{IsGate, Kept as KeptGate}
use Rattle.bk_gate.specs.Laws.{gate_kept, gate_sealed}
use Rattle.bk_side.specs.Names.{IsData, IsOwn, AreApart}
use Rattle.bk_side.specs.Pages.{Entry, page_of, entries_of, batched, first_batch, batch_of, shown, Shows}
use Rattle.bk_side.specs.Side.{AreDurable, HasNoBatch}
use Rattle.bk_side.specs.BatchLaws.{twice}
use Rattle.bk_side.specs.Laws.{batch_same, page_same, shows_same, plain}
use Rattle.bk_side.proofs.Steps.{batch_whole}

-- ---- where the batch lies

no_parts : (file : List ℕ) (spans : List (ℕ × ℕ)) → length spans ≡ 0 → map (part_of file) spans ≡ []
no_parts file [] none = refl
no_parts file (s ∷ spans) none = absurd (omega (arith, none))

pub none_sealed : (a : Disk) (gate : KeptGate) → IsGate a gate → length gate.spans ≡ 0 → sealed (a.files gate.name) ≡ []
none_sealed a gate is none = gate_sealed is ∙ no_parts (contents (a.files gate.name)) gate.spans none

no_spans : (file : List ℕ) (spans : List (ℕ × ℕ)) → map (part_of file) spans ≡ [] → length spans ≡ 0
no_spans file [] none = refl
no_spans file (s ∷ spans) none = absurd cc

pub none_there : (a : Disk) (gate : KeptGate) → IsGate a gate → sealed (a.files gate.name) ≡ [] → length gate.spans ≡ 0
none_there a gate is none = no_spans (contents (a.files gate.name)) gate.spans (sym (gate_sealed is) ∙ none)

first_of : (file : List ℕ) (spans : List (ℕ × ℕ)) (span : ℕ × ℕ) → slice_get spans 0 ≡ Some span → first_batch (map (part_of file) spans) ≡ entries_of (read_at file span.0 span.1)
first_of file [] span there = absurd cc
first_of file (first ∷ spans) span there =
    let here : first ≡ span = ap (λ (o : Option (ℕ × ℕ)). unwrap_or o first) there in
    ap (λ (s : ℕ × ℕ). entries_of (read_at file s.0 s.1)) here

pub batch_there : (a : Disk) (gate : KeptGate) (span : ℕ × ℕ) → IsGate a gate → slice_get gate.spans 0 ≡ Some span → batch_of (a.files gate.name) ≡ entries_of (read_at (contents (a.files gate.name)) span.0 span.1)
unfolding batch_of
batch_there a gate span is there = ap first_batch (gate_sealed is) ∙ first_of (contents (a.files gate.name)) gate.spans span there

-- ---- copied, synced and cleared

-- nothing was done
pub rest_effect : (side : List ℕ) (names : List (List ℕ)) (a : Disk) → AreDurable (IsOwn side names) a → Effect (IsOwn side names) (Shows side names (shown side names a.files)) a a
rest_effect side names a durable = effect_none a (λ image mine.
    let same : (name : List ℕ) → IsOwn side names name → image name ≡ a.files name = λ name own. durable name own (image name) (mine name own) in
    shows_same side names a.files image (ap sealed (same side (inl refl))) (λ name data'. same name (inr data')))

pub rest_shows : (side : List ℕ) (names : List (List ℕ)) (a : Disk) → Shows side names (shown side names a.files) a.files
rest_shows side names a = shows_same side names a.files a.files refl (λ name data'. refl)

-- after what leaves the pages, a sync of the data files leaves them
pub synced_effect : {side : List ℕ} {names : List (List ℕ)} {P : Files → Type 0} {a b c : Disk} → AreApart side names → Effect (IsOwn side names) P a b → Effect (IsData names) (MayLeaveOwn (IsData names) b) b c → Effect (IsOwn side names) P a c
synced_effect {side} {names} apart first second =
    effect_then first (effect_widen (λ name data'. inr data') (λ image mine left. first.now image (λ name own. elim own [
      | inl same ↦ left name (λ data'. apart.from_side data'.0 name data'.1 same) (inl same)
      | inr data' ↦ mine name data'
    ])) second)

-- a name of no data file is kept by what is done to data files
pub side_durable : {side : List ℕ} {names : List (List ℕ)} {P : Files → Type 0} {b c : Disk} → AreApart side names → Effect (IsData names) P b c → IsDurable b side → IsDurable c side
side_durable {side} apart effect durable content may =
    durable content (effect.others_left side (λ data'. apart.from_side data'.0 side data'.1 refl) content may) ∙ sym (effect.others side (λ data'. apart.from_side data'.0 side data'.1 refl))

-- the gate is as it was, once its file reads so and is durable
pub same_gate : (a c : Disk) (gate : KeptGate) → IsLawful a → IsGate a gate → c.files gate.name ≡ a.files gate.name → IsDurable c gate.name → IsGate c gate
same_gate a c gate lawful is same durable =
    gate_kept (keeps_by_same lawful (λ name at. let Of : List ℕ → Type 0 = λ n. c.files n ≡ a.files n in subst Of (sym at) same)
    (λ name at. let Of : List ℕ → Type 0 = λ n. IsDurable c n in subst Of (sym at) durable)) is

-- the pages of the batch stand in the data files
pub record Copied (side : List ℕ) (names : List (List ℕ)) (a c : Disk) : Type 0 where
  pub same : c.files side ≡ a.files side
  pub pages : (p : ℕ × ℕ) → page_of names c.files p ≡ shown side names a.files p
  pub durable : AreDurable (IsData names) c

-- then it may be cleared
cleared : {side : List ℕ} {names : List (List ℕ)} {a c : Disk} (image : Files) → Copied side names a c → ((name : List ℕ) → IsData names name → image name ≡ c.files name)
    → (sealed (image side) ≡ sealed (c.files side)) ⊎ (sealed (image side) ≡ []) → Shows side names (shown side names a.files) image
cleared {side} {names} {a} {c} image is datas left =
    let page : (p : ℕ × ℕ) → page_of names image p ≡ shown side names a.files p = λ p. page_same names c.files image datas p ∙ is.pages p in
    record {
      pages = λ p. elim left [
        | inl before ↦
            let batch : batch_of (image side) ≡ batch_of (a.files side) = batch_same (image side) (a.files side) (before ∙ ap sealed is.same) in
            ap (λ (es : List Entry). batched es p (page_of names image p)) batch ∙ ap (batched (batch_of (a.files side)) p) (page p)
            ∙ twice (batch_of (a.files side)) p (page_of names a.files p) (batch_whole (a.files side))
        | inr none ↦ plain side names image none p ∙ page p
      ];
    }

pub clear_effect : {side : List ℕ} {names : List (List ℕ)} {a c d : Disk} → AreApart side names → Copied side names a c → Effect (IsName side) (λ image. (sealed (image side) ≡ sealed (c.files side)) ⊎ (sealed (image side) ≡ [])) c d
    → Effect (IsOwn side names) (Shows side names (shown side names a.files)) c d
clear_effect {side} {names} {a} {c} {d} apart is effect =
    effect_widen (λ name at. inl at) (λ image here left. cleared image is (λ name data'. is.durable name data' (image name) (left name (λ at. apart.from_side data'.0 name data'.1 at) (inr data'))) here) effect

-- what is done to the side file alone leaves the data files
pub datas_kept : {side : List ℕ} {names : List (List ℕ)} {P : Files → Type 0} {c d : Disk} → AreApart side names → Effect (IsName side) P c d → KeepsFiles (IsData names) c d
datas_kept apart effect = keeps_by_effect (λ name data' at. apart.from_side data'.0 name data'.1 at) effect

pub datas_durable : {side : List ℕ} {names : List (List ℕ)} {P : Files → Type 0} {c d : Disk} → AreApart side names → Effect (IsName side) P c d → AreDurable (IsData names) c → AreDurable (IsData names) d
datas_durable {names = names} apart effect durable name data' = durable_kept {names = IsData names} name data' (datas_kept apart effect) (durable name data')

pub clear_shows : {side : List ℕ} {names : List (List ℕ)} {P : Files → Type 0} {a c d : Disk} → AreApart side names → Copied side names a c → Effect (IsName side) P c d → sealed (d.files side) ≡ [] → Shows side names (shown side names a.files) d.files
clear_shows {d = d} apart is effect none = cleared d.files is (λ name data'. (datas_kept apart effect).same name data') (inr none)

-- by another name of the side file

pub finish_crash : {names : List (List ℕ)} (side name : List ℕ) (a b s d : Disk) → side ≡ name → AreApart name names → Effect (IsOwn side names) (Shows side names (shown side names a.files)) a b
    → Effect (IsData names) (MayLeaveOwn (IsData names) b) b s → Copied name names a s → Effect (IsName name) (λ image. (sealed (image name) ≡ sealed (s.files name)) ⊎ (sealed (image name) ≡ [])) s d
    → Effect (IsOwn name names) (Shows name names (shown name names a.files)) a d
finish_crash {names} side name a b s d same apart first second copied third =
    let Of : List ℕ → Type 0 = λ n. Effect (IsOwn n names) (Shows n names (shown n names a.files)) a b in
    effect_then (synced_effect apart (subst Of same first) second) (clear_effect apart copied third)

pub sync_crash : {names : List (List ℕ)} (side name : List ℕ) (a b s : Disk) → side ≡ name → AreApart name names → Effect (IsOwn side names) (Shows side names (shown side names a.files)) a b
    → Effect (IsData names) (MayLeaveOwn (IsData names) b) b s → Effect (IsOwn name names) (Shows name names (shown name names a.files)) a s
sync_crash {names} side name a b s same apart first second =
    let Of : List ℕ → Type 0 = λ n. Effect (IsOwn n names) (Shows n names (shown n names a.files)) a b in
    synced_effect apart (subst Of same first) second

pub copied_at : {names : List (List ℕ)} (side name : List ℕ) (a b s : Disk) → side ≡ name → b.files side ≡ a.files side → ((p : ℕ × ℕ) → page_of names b.files p ≡ shown side names a.files p)
    → ((other : List ℕ) → s.files other ≡ b.files other) → AreDurable (IsData names) s → Copied name names a s
copied_at {names} side name a b s same kept pages synced durable =
    let At : List ℕ → Type 0 = λ n. Copied n names a s in
    subst At same (record {
      same = synced side ∙ kept;
      pages = λ p. page_same names b.files s.files (λ other _. synced other) p ∙ pages p;
      durable = durable;
    })

pub copied_gate : {names : List (List ℕ)} (side : List ℕ) (a b s : Disk) (gate : KeptGate) {P : Files → Type 0} → side ≡ gate.name → AreApart gate.name names → IsLawful a → IsGate a gate → b.files side ≡ a.files side → IsDurable b side
    → ((other : List ℕ) → s.files other ≡ b.files other) → Effect (IsData names) P b s → IsGate s gate
copied_gate {names} side a b s gate same apart lawful is kept durable synced effect =
    let Kept' : List ℕ → Type 0 = λ n. b.files n ≡ a.files n in
    let Durable : List ℕ → Type 0 = λ n. IsDurable b n in
    same_gate a s gate lawful is (synced gate.name ∙ subst Kept' same kept) (side_durable apart effect (subst Durable same durable))

-- ---- nothing is sealed

-- the files were made durable, the side file opened, and nothing finished
pub settle_still : (side name : List ℕ) {a b o d : Disk} → name ≡ side → IsLawful a → ChangesNothing a b → (IsGateFile (contents (b.files side)) → ChangesNothing b o) → (sealed (o.files name) ≡ [] → ChangesNothing o d) → HasNoBatch side a.files → ChangesNothing a d
settle_still side name {a} {b} {o} {d} same lawful first second third is =
    let Gate : Option (List ℕ) → Type 0 = λ file. IsGateFile (contents file) in
    let opened = nothing_then lawful first (second (subst Gate (sym (first.files side)) is.is_gate)) in
    nothing_then lawful opened (third (ap (λ (n : List ℕ). sealed (o.files n)) same ∙ ap sealed (opened.files side) ∙ is.none))

-- ---- making the files durable first

pub own_synced : {side : List ℕ} {names : List (List ℕ)} {a b c : Disk} → AreApart side names → Effect (IsData names) (MayLeaveOwn (IsData names) a) a b → CallsOn side LeavesSame b c → Effect (IsOwn side names) (MayLeaveOwn (IsOwn side names) a) a c
own_synced {a = a} apart first call = effect_then_sync (synced_effect apart (effect_none a (λ image mine. mine)) first) (inl refl) call

pub own_synced_files : {side : List ℕ} {names : List (List ℕ)} {a b : Disk} → AreApart side names → Effect (IsData names) (MayLeaveOwn (IsData names) a) a b → Effect (IsOwn side names) (MayLeaveOwn (IsOwn side names) a) a b
own_synced_files {a = a} apart first = synced_effect apart (effect_none a (λ image mine. mine)) first

pub own_synced_same : {side : List ℕ} (a : Disk) {b c : Disk} → ((name : List ℕ) → b.files name ≡ a.files name) → CallsOn side LeavesSame b c → c.files side ≡ b.files side → (name : List ℕ) → c.files name ≡ a.files name
own_synced_same {side} a {b} {c} first call same name = elim (same_or_other side name) [
  | inl here ↦ ap c.files here ∙ same ∙ ap b.files (sym here) ∙ first name
  | inr off ↦ call.others name off ∙ first name
]

pub own_synced_durable : {side : List ℕ} (names : List (List ℕ)) {b c : Disk} → AreDurable (IsData names) b → CallsOn side LeavesSame b c → IsDurable c side → AreDurable (IsOwn side names) c
own_synced_durable {side} names {b} {c} datas call at name own = elim (same_or_other side name) [
  | inl here ↦ let Of : List ℕ → Type 0 = λ n. IsDurable c n in subst Of (sym here) at
  | inr off ↦ λ content may. datas name (elim own [ inl same ↦ absurd (off same) | inr data' ↦ data' ]) content (call.others_left name content off may) ∙ sym (call.others name off)
]
