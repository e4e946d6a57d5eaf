-- CREATE DATABASE makes a database of a new name, with files as a database may have them.
use Rattle.std.proofs.Common.{◌≡◌, ◌≤◌, inl, inr, ℕ, Bool, true, false, ◌||◌, List, Option, None, refl, subst, arith}
use Rattle.std.specs.Prelude.{is_some, nat_le, nat_lt, not, length, Ok}
use Rattle.std.proofs.lemmas.Bool.Decides.{nat_tests}
use Rattle.bk_items.specs.declared.item.NewFile.{NewFile}
use Rattle.bk_items.specs.declared.item.NewGroup.{NewGroup}
use Rattle.bk_world.specs.declared.database.Storage.{Storage}
use Rattle.bk_world.specs.declared.rule.Limit.TheVariants as which
use Rattle.bk_world.specs.declared.rule.Rule.TheVariants.{DatabaseExists, LimitReached, NotBuilt}
use Rattle.bk_machine.specs.Acts.{created}
use Rattle.bk_machine.specs.CheckLaws.{passed, not-refused, second-false, is-none}
use Rattle.bk_machine.specs.Checks.{is_system, limit, most_databases, outside, refuse_if, used_up}
use Rattle.bk_machine.specs.Files.{extents_in, most_extents, most_files}
use Rattle.bk_machine.specs.Fits.{FitsStorage}
use Rattle.bk_machine.specs.Outcome.{Outcome}
use Rattle.bk_machine.specs.World.{World, database_named}
use Rattle.bk_machine.specs.statements.CreateDatabase.{are_named, check_create_database, check_free, check_in_use, check_limits, new_storage, DoesCreateDatabase}
use Rattle.bk_machine.specs.statements.CreateTable.{most_groups}
use Rattle.bk_machine.proofs.NewFiles.{new-files, new-storage-fits}
use Rattle.bk_machine.proofs.statements.Facts.{Facts, NoMedium, facts-of}

-- ---- what was checked

-- a test by < that doesn't hold
not-above : (most n : ℕ) → nat_lt most n ≡ false → n ≤ most
not-above most n e = grind (arith, nat_tests, e)

record KeepsLimits (s : Storage) : Type 0 where
  files : length s.files ≤ most_files
  groups : length s.groups ≤ most_groups
  extents : extents_in s.files ≤ most_extents

within : (s : Storage) (u : Unit {0}) → check_limits s ≡ Ok u → KeepsLimits s
unfolding check_limits
within s u e =
    let one = passed (refuse_if (nat_lt most_files (length s.files)) (LimitReached which.Files)) _ u e in
    let two = passed (refuse_if (nat_lt most_groups (length s.groups)) (LimitReached which.Groups)) _ u one.then in
    record {
      files = not-above most_files (length s.files) (not-refused (nat_lt most_files (length s.files)) (LimitReached which.Files) one.found one.is);
      groups = not-above most_groups (length s.groups) (not-refused (nat_lt most_groups (length s.groups)) (LimitReached which.Groups) two.found two.is);
      extents = not-above most_extents (extents_in s.files) (not-refused (nat_lt most_extents (extents_in s.files)) (LimitReached which.Extents) u two.then);
    }

-- what was free is what was asked for
freed : (w : World) (asked s : Storage) → check_free w asked ≡ Ok s → asked ≡ s
unfolding check_free
freed w asked s e =
    let one = passed (check_in_use w.databases asked) _ s e in
    let two = passed (limit (used_up w.counter)) _ s one.then in
    let last = two.then in
    cc

-- what isn't denied holds
was-not : (b : Bool) → not b ≡ false → b ≡ true
was-not true e = refl
was-not false e = absurd cc

-- a new name, and files and filegroups as a database may have them
record MayMake (w : World) (name : List ℕ) (s : Storage) : Type 0 where
  new : database_named w.databases name ≡ None
  fits : FitsStorage s

checked : (w : World) (line : ℕ) (name : List ℕ) (primary : List NewFile) (groups : List NewGroup) (log : Option NewFile) (s : Storage)
    → check_create_database w line name primary groups log ≡ Ok s → MayMake w name s
unfolding check_create_database
checked w line name primary groups log s e =
    let one = passed (refuse_if (not (are_named name primary groups log)) (NotBuilt line)) _ s e in
    let out = passed (outside w) _ s one.then in
    let two = passed (refuse_if (is_system name || is_some (database_named w.databases name)) DatabaseExists) _ s out.then in
    let three = passed (refuse_if (nat_le most_databases (length w.databases)) (LimitReached which.Databases)) _ s two.then in
    let four = passed (check_limits (new_storage name primary groups log)) _ s three.then in
    let same : new_storage name primary groups log ≡ s = freed w (new_storage name primary groups log) s four.then in
    let named : are_named name primary groups log ≡ true = was-not (are_named name primary groups log) (not-refused (not (are_named name primary groups log)) (NotBuilt line) one.found one.is) in
    let keeps : KeepsLimits (new_storage name primary groups log) = within (new_storage name primary groups log) four.found four.is in
    subst (MayMake w name) same (record {
      new = is-none (database_named w.databases name) (second-false (is_system name) (is_some (database_named w.databases name)) (not-refused (is_system name || is_some (database_named w.databases name)) DatabaseExists two.found two.is));
      fits = new-storage-fits name primary groups log named keeps.groups (new-files name primary groups keeps.files keeps.extents);
    })

pub facts : (w : World) (line : ℕ) (name : List ℕ) (primary : List NewFile) (groups : List NewGroup) (log : Option NewFile) (now : ℕ) (s : Storage)
    → check_create_database w line name primary groups log ≡ Ok s → (outcome : Outcome) → DoesCreateDatabase w name now s outcome → Facts w NoMedium outcome
facts w line name primary groups log now s e outcome is =
    let made : MayMake w name s = checked w line name primary groups log s e in
    facts-of w _ outcome is (record {
      writes = (tt, tt);
      refused = λ rule no. absurd cc;
      well = λ sound. record {
        may = (record { family = refl; branch = refl; new = made.new; fits = made.fits; time = omega arith }, tt);
        opens = (tt, tt);
        own = (tt, tt);
        numbers = (tt, tt);
        ends = inr (inl (created _, tt, refl));
        plain = λ built. (tt, tt);
      };
    })
