-- A database that is made in parts.
use Rattle.std.proofs.Common.{◌≡◌, ◌+◌, ℕ, List, [], length, Ok, refl, sym, subst, arith}
use Rattle.std.specs.List.{AllByRecursion}
use Rattle.std.specs.Prelude.{IsErrOf}
use Rattle.bk_device.specs.Compose.{effect_then, keeps_by_effect}
use Rattle.bk_device.specs.Counts.{HasCause}
use Rattle.bk_device.specs.Disk.{Disk}
use Rattle.bk_device.specs.Effects.{Effect, IsName, KeepsFiles}
use Rattle.bk_facts.specs.declared.facts.DataFile.{DataFile}
use Rattle.bk_filling.specs.Filling.{begun}
use Rattle.bk_filling.specs.Records.{Spell}
use Rattle.bk_ids.specs.declared.record.Rec.{Rec}
use Rattle.bk_lemmas.specs.Lists.{all_at}
use Rattle.bk_restoring.specs.PagedNames.{IsOwn}
use Rattle.bk_restoring.specs.Arriving.{Kept}
use Rattle.bk_segments.specs.Files.{AreDurable as LogsAreDurable}
use Rattle.bk_arriving.specs.Extents.{HasExtents}
use Rattle.bk_arriving.specs.Steps.{IsEven}
use Rattle.bk_arriving.proofs.Adding.{Touches}
use Rattle.bk_arriving.proofs.Ahead.{here, nothing}

-- at first no page is there
pub begun_even : (files : List DataFile) → AllByRecursion HasExtents files → IsEven (begun files)
begun_even files all = record {
  files = all;
  inside = λ more.
      let has = all_at HasExtents files 0 nothing more all in
      let same = here (begun files) more in
      omega (arith, has.some, same);
  even = refl;
}

-- ---- files and log of this database

pub own_as : (k : Kept) (db : ℕ) (files : List DataFile) (name : List ℕ) → k.log.db ≡ db → k.filling.files ≡ files → IsOwn k.log.db k.filling.files name → IsOwn db files name
own_as k db files name same_db same_files own = subst (λ (n : ℕ). IsOwn n files name) same_db (subst (λ (fs : List DataFile). IsOwn k.log.db fs name) same_files own)

pub made_effect : (k : Kept) (db : ℕ) (files : List DataFile) (a b c : Disk) → k.log.db ≡ db → k.filling.files ≡ files → Effect (IsOwn db files) (λ _. Unit {0}) a b → Touches k b c → Effect (IsOwn db files) (λ _. Unit {0}) a c
made_effect k db files a b c same_db same_files first second =
    effect_then first (subst (λ (n : ℕ). Effect (IsOwn n files) (λ _. Unit {0}) b c) same_db (subst (λ (fs : List DataFile). Effect (IsOwn k.log.db fs) (λ _. Unit {0}) b c) same_files second))

pub durable_then : (db : ℕ) (k : Kept) (b c : Disk) → k.log.db ≡ db → (LogsAreDurable k.log.db b → LogsAreDurable k.log.db c) → LogsAreDurable db b → LogsAreDurable db c
durable_then db k b c same then are = subst (λ (n : ℕ). LogsAreDurable n c) same (then (subst (λ (n : ℕ). LogsAreDurable n b) (sym same) are))

pub medium_kept : (db : ℕ) (files : List DataFile) (name : List ℕ) (a b : Disk) → (IsOwn db files name → ⊥) → Effect (IsOwn db files) (λ _. Unit {0}) a b → KeepsFiles (IsName name) a b
medium_kept db files name a b apart effect = keeps_by_effect (λ other at own. apart (subst (IsOwn db files) at own)) effect

-- the bytes that were read spell the first records
pub spell_first : (bytes log : List ℕ) (kept first : ℕ) (records : List Rec) → bytes ≡ log → kept ≡ first → Spell log first records → Spell bytes (kept + length {A = Rec} []) records
spell_first bytes log kept first records same_bytes same_first spell =
    let at : first ≡ kept + length {A = Rec} [] = omega (arith, same_first) in
    subst (λ (n : ℕ). Spell bytes n records) at (subst (λ (bs : List ℕ). Spell bs first records) (sym same_bytes) spell)

-- ---- causes

pub cause_as : {D : Type 0} {disk tell : D → ℕ} {a b : D} {P Q : Type 0} → (Q → P) → HasCause disk tell a b P → HasCause disk tell a b Q
cause_as turn cause = record { rose = λ bad. cause.rose (turn bad); never_falls = cause.never_falls; tell_faults = cause.tell_faults }

pub no_error : {T E : Type 0} (x : T) (d : E) → IsErrOf {T = T} {E = E} (Ok x) d → ⊥
no_error x d bad = absurd cc
