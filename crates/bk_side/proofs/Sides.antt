-- What a side is, and what its calls leave.
use Rattle.std.proofs.Common.{◌≡◌, ◌≢◌, ◌⊎◌, ◌≤◌, ◌+◌, ◌*◌, ℕ, Bool, List, [], ◌∷◌, ◌++◌, length, take, Option, Some, refl, inl, inr, sym, ap, subst, ◌∙◌, arith, length-append}
use Rattle.std.specs.Prelude.{unwrap_or}
use Rattle.std.proofs.lemmas.List.{drop_all}
use Rattle.bk_device.specs.Calls.{contents, read_at}
use Rattle.bk_device.specs.Compose.{effect_then, effect_weaken, effect_widen, keeps_by_effect}
use Rattle.bk_device.specs.Disk.{Files, Disk, IsDurable}
use Rattle.bk_device.specs.Effects.{Effect, IsName, KeepsFiles, MayLeaveOwn}
use Rattle.bk_device.specs.Names.{same_or_other}
use Rattle.bk_gate.specs.Blobs.{sealed}
use Rattle.bk_gate.specs.Gate.{IsGate, begun_of, Kept as KeptGate}
use Rattle.bk_gate.specs.Laws.{gate_kept, gate_left, gate_begun}
use Rattle.bk_side.specs.Names.{name_of, IsData, IsOwn, AreApart}
use Rattle.bk_side.specs.Pages.{Entry, page_in, page_of, entry_of, entries_of, batched, batch_of, shown, Shows}
use Rattle.bk_side.specs.Making.{ShowsOthers}
use Rattle.bk_side.specs.Side.{Kept, IsSide, IsOwnOf, pages_of, ShowsPages, AreDurable, added_of}
use Rattle.bk_side.specs.BatchLaws.{content_at, content_same}
use Rattle.bk_side.proofs.Entries.{entries_added}
use Rattle.bk_side.specs.Laws.{batch_same, batch_one, shown_same, shows_same, shows_as, plain}
use Rattle.bk_side.proofs.Finished.{datas_kept, datas_durable}

-- ---- the side file alone

-- the sealed batch stays
pub same_effect : {side : List ℕ} {names : List (List ℕ)} {a b : Disk} → AreApart side names → AreDurable (IsData names) a → Effect (IsName side) (λ image. sealed (image side) ≡ sealed (a.files side)) a b
    → Effect (IsOwn side names) (Shows side names (shown side names a.files)) a b
same_effect {side} {names} {a} apart durable effect =
    effect_widen (λ name at. inl at) (λ image here left.
    shows_same side names a.files image here (λ name data'. durable name data' (image name) (left name (λ at. apart.from_side data'.0 name data'.1 at) (inr data')))) effect

pub same_shows : {side : List ℕ} {names : List (List ℕ)} {P : Files → Type 0} {a b : Disk} → AreApart side names → Effect (IsName side) P a b → sealed (b.files side) ≡ sealed (a.files side) → Shows side names (shown side names a.files) b.files
same_shows {side} {names} {P} {a} {b} apart effect same = shows_same side names a.files b.files same (λ name data'. (datas_kept apart effect).same name data')

-- what is durable then
pub own_durable : {side : List ℕ} {names : List (List ℕ)} {P : Files → Type 0} {a b : Disk} → AreApart side names → Effect (IsName side) P a b → AreDurable (IsData names) a → IsDurable b side → AreDurable (IsOwn side names) b
own_durable {side} {names} {P} {a} {b} apart effect datas at name own = elim own [
  | inl same ↦ let Of : List ℕ → Type 0 = λ n. IsDurable b n in subst Of (sym same) at
  | inr data' ↦ datas_durable apart effect datas name data'
]

-- ---- a batch is sealed

-- what it makes of the pages
abbrev pub applied_of : Disk → Kept → ℕ × ℕ → List ℕ
applied_of a side p = batched (added_of a side) p (pages_of side a.files p)

seal_one : (a : Disk) (side : Kept) (image : Files) → IsSide a side → sealed (image side.gate.name) ≡ sealed (a.files side.gate.name) ++ begun_of a side.gate ∷ [] → ((name : List ℕ) → IsData side.names name → image name ≡ a.files name)
    → ShowsPages side (applied_of a side) image
seal_one a side image is grown datas =
    let batch : batch_of (image side.gate.name) ≡ added_of a side =
    batch_one (image side.gate.name) (begun_of a side.gate) (grown ∙ ap (λ (blobs : List (List ℕ)). blobs ++ begun_of a side.gate ∷ []) is.none) in
    record {
      pages = λ p.
          ap (λ (es : List Entry). batched es p (page_of side.names image p)) batch
          ∙ ap (batched (added_of a side) p) (ap (λ (c : List ℕ). page_in c p.1) (content_same side.names a.files image p.0 (λ name at. datas name (p.0, at))) ∙ sym (plain side.gate.name side.names a.files is.none p));
    }

pub seal_effect : (a b : Disk) (side : Kept) → IsSide a side
    → Effect (IsName side.gate.name) (λ image. (sealed (image side.gate.name) ≡ sealed (a.files side.gate.name)) ⊎ (sealed (image side.gate.name) ≡ sealed (a.files side.gate.name) ++ begun_of a side.gate ∷ [])) a b
    → Effect (IsOwnOf side) (λ image. ShowsPages side (pages_of side a.files) image ⊎ ShowsPages side (applied_of a side) image) a b
seal_effect a b side is effect =
    effect_widen (λ name at. inl at) (λ image here left.
    let datas : (name : List ℕ) → IsData side.names name → image name ≡ a.files name =
    λ name data'. is.durable name data' (image name) (left name (λ at. is.apart.from_side data'.0 name data'.1 at) (inr data')) in
    elim here [
      | inl before ↦ inl (shows_same side.gate.name side.names a.files image before datas)
      | inr after ↦ inr (seal_one a side image is after datas)
    ]) effect

pub seal_shows : {P : Files → Type 0} (a b : Disk) (side : Kept) → IsSide a side → Effect (IsName side.gate.name) P a b → sealed (b.files side.gate.name) ≡ sealed (a.files side.gate.name) ++ begun_of a side.gate ∷ [] → ShowsPages side (applied_of a side) b.files
seal_shows a b side is effect grown = seal_one a side b.files is grown (λ name data'. (datas_kept is.apart effect).same name data')

-- sealed, and then finished
pub apply_effect : {P : Files → Type 0} (a b c : Disk) (side : Kept) → IsSide a side → Effect (IsName side.gate.name) P a b → sealed (b.files side.gate.name) ≡ sealed (a.files side.gate.name) ++ begun_of a side.gate ∷ []
    → Effect (IsOwnOf side) (λ image. ShowsPages side (pages_of side a.files) image ⊎ ShowsPages side (applied_of a side) image) a b
    → Effect (IsOwnOf side) (ShowsPages side (pages_of side b.files)) b c
    → Effect (IsOwnOf side) (λ image. ShowsPages side (pages_of side a.files) image ⊎ ShowsPages side (applied_of a side) image) a c
apply_effect a b c side is effect grown first second =
    effect_then first (effect_weaken (λ image here. inr (shows_as (applied_of a side) (seal_shows a b side is effect grown).pages here)) second)

pub apply_shows : {P : Files → Type 0} (a b c : Disk) (side : Kept) → IsSide a side → Effect (IsName side.gate.name) P a b → sealed (b.files side.gate.name) ≡ sealed (a.files side.gate.name) ++ begun_of a side.gate ∷ []
    → ShowsPages side (pages_of side b.files) c.files → ShowsPages side (applied_of a side) c.files
apply_shows a b c side is effect grown shows = shows_as (applied_of a side) (seal_shows a b side is effect grown).pages shows

-- a side without a batch
pub fresh_side : (d : Disk) (gate : KeptGate) (names : List (List ℕ)) (failed : Bool) → IsGate d gate → sealed (d.files gate.name) ≡ [] → AreDurable (IsData names) d → AreApart gate.name names → IsSide d (record { gate = record gate { begun = Some 0 }; names = names; failed = failed })
fresh_side d gate names failed is none durable apart = record {
  gates = gate_begun is;
  none = none;
  durable = durable;
  apart = apart;
  whole = (0, refl);
}

pub none_added : (d : Disk) (gate : KeptGate) → entries_of (begun_of d (record gate { begun = Some 0 })) ≡ []
unfolding entries_of
none_added d gate = refl

-- ---- a page is added

pub add_entries : (a b : Disk) (side : Kept) (gate : KeptGate) (entry : List ℕ) (e : Entry) → IsSide a side → begun_of b gate ≡ begun_of a side.gate ++ entry → length entry ≡ 8198 → entry_of entry ≡ e
    → entries_of (begun_of b gate) ≡ added_of a side ++ e ∷ []
add_entries a b side gate entry e is grown size spelled =
    ap entries_of grown ∙ entries_added is.whole.0 (begun_of a side.gate) entry is.whole.1 size ∙ ap (λ (x : Entry). added_of a side ++ x ∷ []) spelled

pub add_side : {P : Files → Type 0} (a b : Disk) (side : Kept) (gate : KeptGate) (entry : List ℕ) (failed : Bool) → IsSide a side → Effect (IsName side.gate.name) P a b → IsGate b gate → gate.name ≡ side.gate.name
    → begun_of b gate ≡ begun_of a side.gate ++ entry → length entry ≡ 8198 → sealed (b.files side.gate.name) ≡ sealed (a.files side.gate.name) → IsSide b (record { gate = gate; names = side.names; failed = failed })
add_side {P} a b side gate entry failed is effect gates named grown size same =
    let None' : List ℕ → Type 0 = λ n. sealed (b.files n) ≡ [] in
    let Apart : List ℕ → Type 0 = λ n. AreApart n side.names in
    record {
      gates = gates;
      none = subst None' (sym named) (same ∙ is.none);
      durable = datas_durable is.apart effect is.durable;
      apart = subst Apart (sym named) is.apart;
      whole = (is.whole.0 + 1, omega (arith, ap length grown, length-append (begun_of a side.gate) entry, is.whole.1, size));
    }

-- ---- a data file is made, or removed

-- the other pages stay
pub others_effect : {P : Files → Type 0} (a b : Disk) (side : Kept) (file : ℕ) (name : List ℕ) → IsSide a side → name_of side.names file ≡ Some name → Effect (IsName name) P a b → Effect (IsOwnOf side) (ShowsOthers side.gate.name side.names file a.files) a b
others_effect a b side file name is at effect =
    effect_widen (λ other same. inr (file, let At : List ℕ → Type 0 = λ n. name_of side.names file ≡ Some n in subst At (sym same) at)) (λ image here left p differ.
    let off : (other : List ℕ) → name_of side.names p.0 ≡ Some other → other ≢ name = λ other there same.
    let At : List ℕ → Type 0 = λ n. name_of side.names p.0 ≡ Some n in
    differ (is.apart.different file p.0 name at (subst At same there)) in
    let batch : sealed (image side.gate.name) ≡ sealed (a.files side.gate.name) =
    gate_left (image side.gate.name) is.gates (left side.gate.name (λ same. is.apart.from_side file name at (sym same)) (inl refl)) in
    ap (λ (es : List Entry). batched es p (page_of side.names image p)) (batch_same (image side.gate.name) (a.files side.gate.name) batch)
    ∙ ap (λ (c : List ℕ). batched (batch_of (a.files side.gate.name)) p (page_in c p.1))
    (content_same side.names a.files image p.0 (λ other there. is.durable other (p.0, there) (image other) (left other (off other there) (inr (p.0, there)))))) effect

side_keeps : {P : Files → Type 0} (a b : Disk) (side : Kept) (file : ℕ) (name : List ℕ) → IsSide a side → name_of side.names file ≡ Some name → Effect (IsName name) P a b → KeepsFiles (IsName side.gate.name) a b
side_keeps a b side file name is at effect = keeps_by_effect (λ other same there. is.apart.from_side file name at (sym there ∙ same)) effect

pub others_show : {P : Files → Type 0} (a b : Disk) (side : Kept) (file : ℕ) (name : List ℕ) → IsSide a side → name_of side.names file ≡ Some name → Effect (IsName name) P a b → ShowsOthers side.gate.name side.names file a.files b.files
others_show a b side file name is at effect p differ =
    let off : (other : List ℕ) → name_of side.names p.0 ≡ Some other → other ≢ name = λ other there same.
    let At : List ℕ → Type 0 = λ n. name_of side.names p.0 ≡ Some n in
    differ (is.apart.different file p.0 name at (subst At same there)) in
    ap (λ (f : Option (List ℕ)). batched (batch_of f) p (page_of side.names b.files p)) ((side_keeps a b side file name is at effect).same side.gate.name refl)
    ∙ ap (λ (c : List ℕ). batched (batch_of (a.files side.gate.name)) p (page_in c p.1)) (content_same side.names a.files b.files p.0 (λ other there. effect.others other (off other there)))

begun_same : (a b : Disk) (gate : KeptGate) → KeepsFiles (IsName gate.name) a b → begun_of b gate ≡ begun_of a gate
begun_same a b gate keeps = ap (λ (f : Option (List ℕ)). read_at (contents f) (gate.end + 9) (unwrap_or gate.begun 0)) (keeps.same gate.name refl)

pub others_side : {P : Files → Type 0} (a b : Disk) (side : Kept) (file : ℕ) (name : List ℕ) (failed : Bool) → IsSide a side → name_of side.names file ≡ Some name → Effect (IsName name) P a b → IsDurable b name → IsSide b (record side { failed = failed })
others_side a b side file name failed is at effect durable =
    let keeps = side_keeps a b side file name is at effect in
    record {
      gates = gate_kept keeps is.gates;
      none = ap sealed (keeps.same side.gate.name refl) ∙ is.none;
      durable = λ other data'. elim (same_or_other name other) [
        | inl same ↦ let Of : List ℕ → Type 0 = λ n. IsDurable b n in subst Of (sym same) durable
        | inr off ↦ λ content may. is.durable other data' content (effect.others_left other off content may) ∙ sym (effect.others other off)
      ];
      apart = is.apart;
      whole = (is.whole.0, ap length (begun_same a b side.gate keeps) ∙ is.whole.1);
    }

-- a file that was made is shown as it is
pub made_page : {P : Files → Type 0} (a b : Disk) (side : Kept) (file : ℕ) (name : List ℕ) (number : ℕ) → IsSide a side → name_of side.names file ≡ Some name → Effect (IsName name) P a b → pages_of side b.files (file, number) ≡ page_in (contents (b.files name)) number
made_page a b side file name number is at effect =
    plain side.gate.name side.names b.files (ap sealed ((side_keeps a b side file name is at effect).same side.gate.name refl) ∙ is.none) (file, number)
    ∙ ap (λ (c : List ℕ). page_in c number) (content_at side.names b.files file name at)

pub page_behind : (content : List ℕ) (pages number : ℕ) → length content ≡ 8192 * pages → pages ≤ number → page_in content number ≡ []
page_behind content pages number size behind = ap (take 8192) (drop_all (8192 * number) content (omega (arith, size, behind)))

pub no_page : (content : List ℕ) (number : ℕ) → content ≡ [] → page_in content number ≡ []
no_page content number none = ap (λ (c : List ℕ). page_in c number) none ∙ page_behind [] 0 number refl (omega arith)

-- the pages that are read are those that are shown
pub read_shown : (a : Disk) (side : Kept) (p : ℕ × ℕ) → IsSide a side → page_of side.names a.files p ≡ pages_of side a.files p
read_shown a side p is = sym (plain side.gate.name side.names a.files is.none p)

-- ---- loading

-- synced, and then opened
pub open_crash : {side : List ℕ} {names : List (List ℕ)} {a s o : Disk} → AreApart side names → Effect (IsOwn side names) (MayLeaveOwn (IsOwn side names) a) a s → ((name : List ℕ) → s.files name ≡ a.files name) → AreDurable (IsOwn side names) s
    → Effect (IsName side) (λ image. sealed (image side) ≡ sealed (s.files side)) s o → Effect (IsOwn side names) (λ image. MayLeaveOwn (IsOwn side names) a image ⊎ Shows side names (shown side names a.files) image) a o
open_crash {side} {names} {a} {s} {o} apart first same durable second =
    effect_then (effect_weaken (λ image here. inl here) first)
    (effect_weaken (λ image here. inr (shows_as (shown side names a.files) (shown_same side names a.files s.files (ap sealed (same side)) (λ name _. same name)) here))
    (same_effect apart (λ name data'. durable name (inr data')) second))

-- what it shows then
pub open_shown : {side : List ℕ} {names : List (List ℕ)} {P : Files → Type 0} (a : Disk) {s o : Disk} → AreApart side names → ((name : List ℕ) → s.files name ≡ a.files name) → Effect (IsName side) P s o → sealed (o.files side) ≡ sealed (s.files side)
    → (p : ℕ × ℕ) → shown side names o.files p ≡ shown side names a.files p
open_shown {side} {names} {P} a {s} {o} apart same effect kept p =
    shown_same side names s.files o.files kept (λ name data'. (datas_kept apart effect).same name data') p ∙ shown_same side names a.files s.files (ap sealed (same side)) (λ name _. same name) p

-- and then finished, by another name of the side file
pub settle_crash : {names : List (List ℕ)} (side other : List ℕ) {a o d : Disk} → other ≡ side → Effect (IsOwn side names) (λ image. MayLeaveOwn (IsOwn side names) a image ⊎ Shows side names (shown side names a.files) image) a o
    → ((p : ℕ × ℕ) → shown side names o.files p ≡ shown side names a.files p) → Effect (IsOwn other names) (Shows other names (shown other names o.files)) o d
    → Effect (IsOwn side names) (λ image. MayLeaveOwn (IsOwn side names) a image ⊎ Shows side names (shown side names a.files) image) a d
settle_crash {names} side other {a} {o} {d} is first same second =
    let Of : List ℕ → Type 0 = λ n. Effect (IsOwn n names) (Shows n names (shown n names o.files)) o d in
    effect_then first (effect_weaken (λ image here. inr (shows_as (shown side names a.files) same here)) (subst Of is second))

pub settle_shows : {names : List (List ℕ)} (side other : List ℕ) (a o d : Disk) → other ≡ side → ((p : ℕ × ℕ) → shown side names o.files p ≡ shown side names a.files p) → Shows other names (shown other names o.files) d.files → Shows side names (shown side names a.files) d.files
settle_shows {names} side other a o d is same shows =
    let Of : List ℕ → Type 0 = λ n. Shows n names (shown n names o.files) d.files in
    shows_as (shown side names a.files) same (subst Of is shows)
