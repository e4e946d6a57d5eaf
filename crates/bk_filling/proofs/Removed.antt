-- Files that go.
use Rattle.std.proofs.Common.{◌≡◌, ◌≢◌, ◌≤◌, ◌<◌, ℕ, zero, suc, ◌+◌, List, map, length, Some, None, refl, inl, inr, sym, ap, subst, ◌∙◌, arith}
use Rattle.std.specs.Prelude.{slice_get}
use Rattle.std.proofs.lemmas.Option.{same_Some, slice_get_within}
use Rattle.bk_device.specs.Calls.{ChangesNothing}
use Rattle.bk_device.specs.Compose.{durable_kept, effect_none, effect_of_nothing, effect_then, effect_widen, keeps_by_effect}
use Rattle.bk_device.specs.Disk.{Files, Disk, IsDurable}
use Rattle.bk_device.specs.Effects.{Effect, IsName, KeepsFiles}
use Rattle.bk_device.specs.Laws.{durable_by_nothing}
use Rattle.bk_device.specs.Names.{same_or_other}
use Rattle.bk_lemmas.specs.Tests.{equal_or_not}
use Rattle.bk_segments.specs.declared.head.Head.{Head}
use Rattle.bk_segments.specs.Files.{control_file, segment_file, AreDurable, Holds, IsBetween, IsOwn as IsOfLog, IsUnheld}
use Rattle.bk_side.specs.Names.{IsData, data_file, name_of, side_file, IsOwn as IsOfSide}
use Rattle.bk_filling.specs.Laws.{apart_paths, still}
use Rattle.bk_filling.specs.Removing.{AreGone, IsAmong, IsPart, IsRecorded}
use Rattle.bk_filling.proofs.Blobs.{durable_more}

-- the file of this name is gone
abbrev pub Gone : Disk → List ℕ → Type 0
Gone disk name = (disk.files name ≡ None) × IsDurable disk name

-- what is gone stays so while another file goes
pub gone_still : {P : Files → Type 0} (name other : List ℕ) (b c : Disk) → Effect (IsName name) P b c → Gone b other → Gone c name → Gone c other
gone_still name other b c effect before here = elim (same_or_other name other) [
  | inl same ↦ subst (Gone c) (sym same) here
  | inr differ ↦ (effect.others other differ ∙ before.0, still name other b c effect differ before.1)
]

pub all_gone : {P : Files → Type 0} (names : List ℕ → Type 0) (name : List ℕ) (b c : Disk) → AreGone names b → Effect (IsName name) P b c → Gone c name → AreGone names c
all_gone names name b c gone effect here other at = gone_still name other b c effect (gone other at) here

-- what is said of names is said of the same names
pub named : (Of : List ℕ → List (List ℕ) → Type 0) (side other : List ℕ) (names others : List (List ℕ)) → side ≡ other → names ≡ others → Of side names → Of other others
named Of side other names others one two of = subst (λ (s : List ℕ). Of s others) one (subst (Of side) two of)

-- ---- one more of several

below : (names : List (List ℕ)) (i j : ℕ) (name other : List ℕ) → slice_get names i ≡ Some name → slice_get names j ≡ Some other → j < i + 1 → other ≢ name → j < i
below names i j name other here there low differ = elim (equal_or_not j i) [
  | inl same ↦ absurd (differ (same_Some other name (sym there ∙ ap (slice_get names) same ∙ here)))
  | inr apart ↦ omega (arith, low, apart)
]

gone_more : {P : Files → Type 0} (names : List (List ℕ)) (i : ℕ) (name : List ℕ) (b c : Disk) → slice_get names i ≡ Some name → AreGone (IsAmong names i) b → Effect (IsName name) P b c → Gone c name → AreGone (IsAmong names (i + 1)) c
gone_more names i name b c is gone effect here other among = elim (same_or_other name other) [
  | inl same ↦ subst (Gone c) (sym same) here
  | inr differ ↦ gone_still name other b c effect (gone other (among.0, below names i among.0 name other is among.2 among.1 differ, among.2)) here
]

pub record RemovedSome (names : List (List ℕ)) (i : ℕ) (a b : Disk) : Type 0 where
  pub gone : AreGone (IsAmong names i) b
  pub effect : Effect (IsData names) (λ _. Unit {0}) a b

pub removing_effect : {P : Files → Type 0} {names : List (List ℕ)} {i : ℕ} {a b : Disk} (name : List ℕ) (c : Disk) → RemovedSome names i a b → slice_get names i ≡ Some name → Effect (IsName name) P b c → Effect (IsData names) (λ _. Unit {0}) a c
removing_effect {i = i} name c is here effect = effect_then is.effect (effect_widen (λ other at. (suc i, here ∙ ap Some (sym at))) (λ image was left. tt) effect)

pub removing_more : {P : Files → Type 0} {names : List (List ℕ)} {i : ℕ} {a b : Disk} (name : List ℕ) (c : Disk) → RemovedSome names i a b → slice_get names i ≡ Some name → Effect (IsName name) P b c → c.files name ≡ None → IsDurable c name → RemovedSome names (i + 1) a c
removing_more {names = names} {i = i} {b = b} name c is here effect absent durable = record {
  gone = gone_more names i name b c here is.gone effect (absent, durable);
  effect = removing_effect name c is here effect;
}

-- all data files, and then the side file
pub pages_gone : {P : Files → Type 0} (side : List ℕ) (names : List (List ℕ)) (b c : Disk) → AreGone (IsAmong names (length names)) b → Effect (IsName side) P b c → c.files side ≡ None → IsDurable c side → AreGone (IsOfSide side names) c
pages_gone side names b c gone effect absent durable name own = elim own [
  | inl is ↦ subst (Gone c) (sym is) (absent, durable)
  | inr file ↦ gone_still side name b c effect (gone name (place file.0 file.1)) (absent, durable)
]
  where
    place : (file : ℕ) → name_of names file ≡ Some name → IsAmong names (length names) name
    place zero at = absurd cc
    place (suc i) at = (i, slice_get_within names i name at, at)

pub files_effect : {P : Files → Type 0} (side : List ℕ) (names : List (List ℕ)) (a b : Disk) → Effect (IsData names) P a b → Effect (IsOfSide side names) (λ _. Unit {0}) a b
files_effect side names a b effect = effect_widen (λ name at. inr at) (λ image was left. tt) effect

pub pages_effect : {P Q : Files → Type 0} (side : List ℕ) (names : List (List ℕ)) (a b c : Disk) → Effect (IsData names) P a b → Effect (IsName side) Q b c → Effect (IsOfSide side names) (λ _. Unit {0}) a c
pages_effect side names a b c first second =
    effect_then (effect_widen (λ name at. inr at) (λ image was left. tt) first) (effect_widen (λ name at. inl at) (λ image was left. tt) second)

-- ---- segments

pub record RemovedTo (db from to n : ℕ) (a b : Disk) : Type 0 where
  pub gone : AreGone (IsBetween db from n) b
  pub durable : AreDurable db a → AreDurable db b
  pub effect : Effect (IsBetween db from to) (λ _. Unit {0}) a b

pub segments_none : (db from to : ℕ) (a : Disk) → RemovedTo db from to from a a
segments_none db from to a = record { gone = λ name at. absurd (omega (arith, at.1, at.2)); durable = λ are. are; effect = effect_none a (λ image mine. tt) }

pub segments_effect : {db from to n : ℕ} {a b : Disk} (c : Disk) → RemovedTo db from to n a b → from ≤ n → n < to → Effect (IsName (segment_file db n)) (λ _. Unit {0}) b c → Effect (IsBetween db from to) (λ _. Unit {0}) a c
segments_effect {n = n} c is low high effect = effect_then is.effect (effect_widen (λ name at. (n, low, high, at)) (λ image was left. tt) effect)

pub segments_more : {db from to n : ℕ} {a b : Disk} (c : Disk) → RemovedTo db from to n a b → from ≤ n → n < to → Effect (IsName (segment_file db n)) (λ _. Unit {0}) b c → AreGone (IsName (segment_file db n)) c → RemovedTo db from to (n + 1) a c
segments_more {db = db} {n = n} {b = b} c is low high effect gone = record {
  gone = λ name at. elim (equal_or_not at.0 n) [
    | inl same ↦ gone name (at.3 ∙ ap (segment_file db) same)
    | inr other ↦ gone_still (segment_file db n) name b c effect (is.gone name (at.0, at.1, omega (arith, at.2, other), at.3)) (gone (segment_file db n) refl)
  ];
  durable = λ are. durable_more db (segment_file db n) b c effect (gone (segment_file db n) refl).1 (is.durable are);
  effect = segments_effect c is low high effect;
}

-- a control file holds one head
pub one_held : (image : Files) (db : ℕ) (one two : Head) → Holds image db one → Holds image db two → one ≡ two
one_held image db one two first second = ap (λ (x : Head × List ℕ). x.0) (same_Some (one, first.0) (two, second.0) (sym first.1 ∙ second.1))

-- the segments that a control record names
pub recorded_gone : (db : ℕ) (head : Head) (a c : Disk) → Holds a.files db head → AreGone (IsBetween db head.gone (head.back + 2)) c → AreGone (IsRecorded a.files db) c
recorded_gone db head a c holds gone name recorded =
    let same : recorded.0 ≡ head = one_held a.files db recorded.0 head recorded.2 holds in
    let low : head.gone ≤ recorded.1 = subst (λ (h : Head). h.gone ≤ recorded.1) same recorded.3 in
    let high : recorded.1 ≤ head.back + 1 = subst (λ (h : Head). recorded.1 ≤ h.back + 1) same recorded.4 in
    gone name (recorded.1, low, omega (arith, high), recorded.5)

pub none_recorded : (db : ℕ) (a b : Disk) → IsUnheld a.files db → AreGone (IsRecorded a.files db) b
none_recorded db a b unheld name recorded = absurd (unheld recorded.0 recorded.2)

pub nothing_effect : (db : ℕ) (a b : Disk) → ChangesNothing a b → Effect (IsOfLog db) (λ _. Unit {0}) a b
nothing_effect db a b call = effect_of_nothing (λ image mine. tt) call

pub nothing_durable : (db : ℕ) (a b : Disk) → ChangesNothing a b → AreDurable db a → AreDurable db b
nothing_durable db a b call are name own = durable_by_nothing name call (are name own)

pub between_effect : (db from to : ℕ) (a b c : Disk) → ChangesNothing a b → Effect (IsBetween db from to) (λ _. Unit {0}) b c → Effect (IsOfLog db) (λ _. Unit {0}) a c
between_effect db from to a b c call effect = effect_then (nothing_effect db a b call) (effect_widen (λ name at. inr (at.0, at.3)) (λ image was left. tt) effect)

-- ---- the log

pub control_effect : {P : Files → Type 0} (db : ℕ) (name : List ℕ) (a b c : Disk) → name ≡ control_file db → Effect (IsOfLog db) (λ _. Unit {0}) a b → Effect (IsName name) P b c → Effect (IsOfLog db) (λ _. Unit {0}) a c
control_effect db name a b c named first second = effect_then first (effect_widen (λ other at. inl (at ∙ named)) (λ image was left. tt) second)

-- ---- all

pub log_effect : (db : ℕ) (names : List (List ℕ)) (a b : Disk) → Effect (IsOfLog db) (λ _. Unit {0}) a b → Effect (IsPart db names) (λ _. Unit {0}) a b
log_effect db names a b effect = effect_widen (λ name at. inl at) (λ image was left. tt) effect

pub parts_effect : (db : ℕ) (names : List (List ℕ)) (a b c : Disk) → Effect (IsOfLog db) (λ _. Unit {0}) a b → Effect (IsOfSide (side_file db) names) (λ _. Unit {0}) b c → Effect (IsPart db names) (λ _. Unit {0}) a c
parts_effect db names a b c first second = effect_then (log_effect db names a b first) (effect_widen (λ name at. inr at) (λ image was left. tt) second)

-- what is gone of the log stays so while the pages go
pub log_stays : (db : ℕ) (paths : List (List ℕ)) (names : List ℕ → Type 0) (b c : Disk) → ((name : List ℕ) → names name → IsOfLog db name) → AreGone names b → Effect (IsOfSide (side_file db) (map data_file paths)) (λ _. Unit {0}) b c → AreGone names c
log_stays db paths names b c within gone effect name at =
    let keeps : KeepsFiles (IsName name) b c = keeps_by_effect (λ n is side. apart_paths db paths name (within name at) (subst (IsOfSide (side_file db) (map data_file paths)) is side)) effect in
    (keeps.same name refl ∙ (gone name at).0, durable_kept {names = IsName name} name refl keeps (gone name at).1)

pub durable_stays : (db : ℕ) (paths : List (List ℕ)) (b c : Disk) → Effect (IsOfSide (side_file db) (map data_file paths)) (λ _. Unit {0}) b c → AreDurable db b → AreDurable db c
durable_stays db paths b c effect are name own =
    let keeps : KeepsFiles (IsName name) b c = keeps_by_effect (λ n is side. apart_paths db paths name own (subst (IsOfSide (side_file db) (map data_file paths)) is side)) effect in
    durable_kept {names = IsName name} name refl keeps (are name own)
