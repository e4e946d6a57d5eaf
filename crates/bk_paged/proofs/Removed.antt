-- A database that is removed.
use Rattle.std.proofs.Common.{◌≡◌, ◌≢◌, ◌<◌, ℕ, zero, suc, ◌+◌, List, length, Option, Some, None, refl, inl, inr, sym, ap, subst, ◌∙◌, arith}
use Rattle.std.specs.Prelude.{IsSomeAnd, slice_get}
use Rattle.std.proofs.lemmas.Option.{same_Some, slice_get_within}
use Rattle.bk_bytes.specs.Codec.{◌>>=◌}
use Rattle.bk_log.specs.ControlSlots.{control_of}
use Rattle.bk_device.specs.Calls.{ChangesNothing}
use Rattle.bk_device.specs.Compose.{durable_kept, effect_then, effect_weaken, effect_widen, keeps_by_effect}
use Rattle.bk_device.specs.Disk.{Files, Disk, IsDurable, IsLawful}
use Rattle.bk_device.specs.Effects.{Effect, IsName, KeepsFiles, MayLeaveOwn}
use Rattle.bk_device.specs.Laws.{durable_by_nothing, effect_after_nothing}
use Rattle.bk_device.specs.Names.{same_or_other}
use Rattle.bk_facts.specs.declared.facts.DataFile.{DataFile}
use Rattle.bk_facts.specs.Facts.{Notes}
use Rattle.bk_lemmas.specs.Tests.{equal_or_not}
use Rattle.bk_log.specs.Laws.{control_there, one_logged}
use Rattle.bk_log.specs.Log.{value_of, IsLog, Kept as KeptLog}
use Rattle.bk_segments.specs.declared.head.Head.{Head}
use Rattle.bk_segments.specs.Control.{read_control}
use Rattle.bk_segments.specs.FileLaws.{durable_settles, log_moved, log_stays}
use Rattle.bk_segments.specs.Files.{control_file, segment_file, AreDurable as LogsAreDurable, AreGone as SegmentsAreGone, Holds as HoldsHead, IsOwn as IsOfLog, LogIs, Logged}
use Rattle.bk_side.specs.Names.{IsData, name_of, side_file, IsOwn as IsOfSide}
use Rattle.bk_paged.specs.Laws.{apart}
use Rattle.bk_paged.specs.Making.{AreAbsent, AreGone, AreNoted, IsAmong, IsLogGone, NamesFiles, Removes, StillNames}
use Rattle.bk_paged.specs.Names.{IsOwn, names_of}

-- ---- files that go

below : (names : List (List ℕ)) (i j : ℕ) (name other : List ℕ) → slice_get names i ≡ Some name → slice_get names j ≡ Some other → j < i + 1 → other ≢ name → j < i
below names i j name other here there low differ = elim (equal_or_not j i) [
  | inl same ↦ absurd (differ (same_Some other name (sym there ∙ ap (slice_get names) same ∙ here)))
  | inr apart ↦ omega (arith, low, apart)
]

-- what is gone stays so while another file goes
pub gone_still : {P : Files → Type 0} (name other : List ℕ) (b c : Disk) → Effect (IsName name) P b c → (b.files other ≡ None) × IsDurable b other → (c.files name ≡ None) × IsDurable c name → (c.files other ≡ None) × IsDurable c other
gone_still name other b c effect before here = elim (same_or_other name other) [
  | inl same ↦ subst (λ (n : List ℕ). (c.files n ≡ None) × IsDurable c n) (sym same) here
  | inr differ ↦
      let keeps : KeepsFiles (IsName other) b c = keeps_by_effect (λ n at own. differ (sym at ∙ own)) effect in
      (effect.others other differ ∙ before.0, durable_kept {names = IsName other} other refl keeps before.1)
]

-- one more of several
gone_more : {P : Files → Type 0} (names : List (List ℕ)) (i : ℕ) (name : List ℕ) (b c : Disk) → slice_get names i ≡ Some name → AreGone (IsAmong names i) b → Effect (IsName name) P b c → (c.files name ≡ None) × IsDurable c name → AreGone (IsAmong names (i + 1)) c
gone_more names i name b c is gone effect here other among = elim (same_or_other name other) [
  | inl same ↦ subst (λ (n : List ℕ). (c.files n ≡ None) × IsDurable c n) (sym same) here
  | inr differ ↦ gone_still name other b c effect (gone other (among.0, below names i among.0 name other is among.2 among.1 differ, among.2)) here
]

pub record RemovedSome (names : List (List ℕ)) (i : ℕ) (a b : Disk) : Type 0 where
  pub gone : AreGone (IsAmong names i) b
  pub effect : Effect (IsData names) (λ _. Unit {0}) a b

pub removing_effect : {P : Files → Type 0} {names : List (List ℕ)} {i : ℕ} {a b : Disk} (name : List ℕ) (c : Disk) → RemovedSome names i a b → slice_get names i ≡ Some name → Effect (IsName name) P b c → Effect (IsData names) (λ _. Unit {0}) a c
removing_effect {i = i} name c is here effect = effect_then is.effect (effect_widen (λ other at. (suc i, here ∙ ap Some (sym at))) (λ image was left. tt) effect)

pub removing_more : {P : Files → Type 0} {names : List (List ℕ)} {i : ℕ} {a b : Disk} (name : List ℕ) (c : Disk) → RemovedSome names i a b → slice_get names i ≡ Some name → Effect (IsName name) P b c → c.files name ≡ None → IsDurable c name → RemovedSome names (i + 1) a c
removing_more {names = names} {i = i} {b = b} name c is here effect absent durable = record {
  gone = gone_more names i name b c here is.gone effect (absent, durable);
  effect = removing_effect name c is here effect;
}

-- all data files, and then the side file
pub pages_gone : {P : Files → Type 0} (side : List ℕ) (names : List (List ℕ)) (b c : Disk) → AreGone (IsAmong names (length names)) b → Effect (IsName side) P b c → c.files side ≡ None → IsDurable c side → AreGone (IsOfSide side names) c
pages_gone side names b c gone effect absent durable name own = elim own [
  | inl is ↦ subst (λ (n : List ℕ). (c.files n ≡ None) × IsDurable c n) (sym is) (absent, durable)
  | inr file ↦ gone_still side name b c effect (gone name (place file.0 file.1)) (absent, durable)
]
  where
    place : (file : ℕ) → name_of names file ≡ Some name → IsAmong names (length names) name
    place zero at = absurd cc
    place (suc i) at = (i, slice_get_within names i name at, at)

pub files_effect : {P : Files → Type 0} (side : List ℕ) (names : List (List ℕ)) (a b : Disk) → Effect (IsData names) P a b → Effect (IsOfSide side names) (λ _. Unit {0}) a b
files_effect side names a b effect = effect_widen (λ name at. inr at) (λ image was left. tt) effect

pub pages_effect : {P Q : Files → Type 0} (side : List ℕ) (names : List (List ℕ)) (a b c : Disk) → Effect (IsData names) P a b → Effect (IsName side) Q b c → Effect (IsOfSide side names) (λ _. Unit {0}) a c
pages_effect side names a b c first second =
    effect_then (effect_widen (λ name at. inr at) (λ image was left. tt) first) (effect_widen (λ name at. inl at) (λ image was left. tt) second)

-- ---- the log that names them

-- what is in the log's note
pub named_files : (db : ℕ) (files : List DataFile) (image : Files) (log : KeptLog) → LogIs image db (value_of image log) → NamesFiles db files image → AreNoted log.note files
named_files db files image log is names =
    let note : log.note ≡ names.log.note = ap (λ (l : Logged). l.note) (one_logged image db (value_of image log) names.log is names.log_is) in
    let Of : List ℕ → Type 0 = λ n. Notes n (record { checkpoint = names.checkpoint; files = files }) names.note in
    (names.checkpoint, names.note, subst Of (sym note) names.noted)

-- what was found then
pub found_none : {X : Type 0} (P : X → Type 0) (found : Option X) → found ≡ None → IsSomeAnd found P → ⊥
found_none {X = X} P found is some = let Of : Option X → Type 0 = λ o. IsSomeAnd o P in subst Of is some

pub found_some : {X : Type 0} (P : X → Type 0) (found : Option X) (x : X) → found ≡ Some x → IsSomeAnd found P → P x
found_some {X = X} P found x is some = let Of : Option X → Type 0 = λ o. IsSomeAnd o P in subst Of is some

-- what changes nothing leaves them named
pub names_moved : (db : ℕ) (files : List DataFile) {a b : Disk} → ChangesNothing a b → NamesFiles db files a.files → NamesFiles db files b.files
names_moved db files call names = record { log = names.log; checkpoint = names.checkpoint; note = names.note; log_is = log_moved db names.log call names.log_is; noted = names.noted }

-- what is left while what counts of the log is made durable
pub settling_names : (db : ℕ) (a b : Disk) → LogsAreDurable db a → Effect (IsOfLog db) (MayLeaveOwn (IsOfLog db) a) a b → Effect (IsOfLog db) (StillNames db a.files) a b
settling_names db a b durable effect =
    effect_weaken (λ image mine files names. record { log = names.log; checkpoint = names.checkpoint; note = names.note; log_is = log_stays db a image names.log (durable_settles db a durable) mine names.log_is; noted = names.noted }) effect

-- and while it is read then
pub still_names : (db : ℕ) {a b c : Disk} → IsLawful a → ChangesNothing a b → LogsAreDurable db a → (LogsAreDurable db b → Effect (IsOfLog db) (λ image. (log : Logged) → LogIs b.files db log → LogIs image db log) b c) → Effect (IsOfLog db) (StillNames db a.files) a c
still_names db lawful call durable effect =
    effect_after_nothing lawful call
    (effect_weaken (λ image leads files names. record { log = names.log; checkpoint = names.checkpoint; note = names.note; log_is = leads names.log (log_moved db names.log call names.log_is); noted = names.noted })
    (effect (λ name own. durable_by_nothing name call (durable name own))))

-- its control file is durable
pub control_stands : (db : ℕ) (disk : Disk) (log : KeptLog) → log.db ≡ db → IsLog disk log → IsDurable disk (control_file db)
control_stands db disk log named is = let Of : ℕ → Type 0 = λ n. IsDurable disk (control_file n) in subst Of named (control_there is)

-- the same under all names
pub reading_left : (db : ℕ) (files : List DataFile) (a b : Disk) → NamesFiles db files a.files → Effect (IsOfLog db) (StillNames db a.files) a b → Effect (IsOwn db files) (Removes db files) a b
reading_left db files a b names effect = effect_widen (λ name at. inl at) (λ image leads left. inl (leads files names)) effect

-- while data files and side file are removed
pub pages_left : (db : ℕ) (files : List DataFile) (a b c : Disk) → NamesFiles db files a.files → Effect (IsOfLog db) (StillNames db a.files) a b → Effect (IsOfSide (side_file db) (names_of files)) (λ _. Unit {0}) b c → Effect (IsOwn db files) (Removes db files) a c
pages_left db files a b c names first second =
    effect_then (reading_left db files a b names first)
    (effect_widen (λ name at. inr at) (λ image was left. inl (first.now image (λ name log. left name (λ side. apart db files name log side) (inl log)) files names)) second)

-- and while the log is
pub log_left_then : {P : Files → Type 0} (db : ℕ) (files : List DataFile) (c d : Disk) → AreGone (IsOfSide (side_file db) (names_of files)) c → Effect (IsOfLog db) P c d → Effect (IsOwn db files) (Removes db files) c d
log_left_then db files c d gone effect =
    effect_widen (λ name at. inl at) (λ image was left. inr (λ name side. (gone name side).1 (image name) (left name (λ log. apart db files name log side) (inr side)) ∙ (gone name side).0)) effect

pub absent_then : {P : Files → Type 0} (db : ℕ) (files : List DataFile) (c d : Disk) → AreGone (IsOfSide (side_file db) (names_of files)) c → Effect (IsOfLog db) P c d → AreAbsent (IsOfSide (side_file db) (names_of files)) d.files
absent_then db files c d gone effect name side = effect.others name (λ log. apart db files name log side) ∙ (gone name side).0

-- they leave its control file as it is
pub control_same : {P : Files → Type 0} (db : ℕ) (files : List DataFile) (c d : Disk) → Effect (IsOfSide (side_file db) (names_of files)) P c d → d.files (control_file db) ≡ c.files (control_file db)
control_same db files c d effect = effect.others (control_file db) (λ side. apart db files (control_file db) (inl refl) side)

-- so the head in it is still there
pub holds_still : (db : ℕ) (a b : Files) (head : Head) → b (control_file db) ≡ a (control_file db) → HoldsHead a db head → HoldsHead b db head
holds_still db a b head same holds = (holds.0, ap (λ (file : Option (List ℕ)). control_of file >>= read_control) same ∙ holds.1, holds.2)

-- and nothing of the log is left where its segments and its control file are gone
pub log_gone : (db : ℕ) (head : Head) (b c : Files) → HoldsHead b db head → ((other : Head) → HoldsHead b db other → c (control_file db) ≡ None) → SegmentsAreGone b c db → ((other : Head) → HoldsHead b db other → c (segment_file db (other.back + 1)) ≡ None) → IsLogGone db head c
log_gone db head b c holds control segments begun = record {
  control = control head holds;
  segments = λ n low high. elim (equal_or_not n (head.back + 1)) [
    | inl same ↦ ap (λ (m : ℕ). c (segment_file db m)) same ∙ begun head holds
    | inr differ ↦ segments head holds n low (omega (arith, high, differ))
  ];
}
