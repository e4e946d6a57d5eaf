-- Media to which the backups of kept databases write are those of the world's.
use Rattle.std.proofs.Common.{◌≡◌, ℕ, Bool, true, false, List, [], ◌∷◌, map, refl, sym, ◌∙◌, ap, subst}
use Rattle.std.specs.List.{list_any}
use Rattle.std.specs.Prelude.{◌||◌, Ok, Err}
use Rattle.bk_machine.specs.Checks.{Checked, refuse_if}
use Rattle.bk_machine.specs.World.{World, Database}
use Rattle.bk_machine.specs.statements.Backup.{check_unwritten, is_written_by}
use Rattle.bk_world.specs.declared.rule.Rule.TheVariants.{FileInUse}
use Rattle.bk_kept.specs.declared.kept.Database.{Database as KeptDatabase}
use Rattle.bk_kept.specs.declared.kept.Kept.{Kept}
use Rattle.bk_kept.specs.Keeps.{Sees, database_of}
use Rattle.bk_plans.specs.declared.refusal.Refusal.{Refusal}
use Rattle.bk_plans.specs.declared.refusal.Refusal.TheVariants.{Broken, NoMemory}
use Rattle.bk_plans.specs.Checking.{IsInUse, IsRefused}

-- the backup of one of some databases writes to the medium at a path
abbrev pub any_writes : List ℕ → List KeptDatabase → Bool
any_writes path ks = list_any (λ (d : KeptDatabase). is_written_by path d.job) ks

written-mapped : (path : List ℕ) (ks : List KeptDatabase) → list_any (λ (db : Database). is_written_by path db.job) (map database_of ks) ≡ any_writes path ks
written-mapped path [] = refl
written-mapped path (d ∷ ks) = ap (λ t. is_written_by path d.job || t) (written-mapped path ks)

check-is : (w : World) (k : Kept) (path : List ℕ) (t : Bool) → Sees w k → t ≡ any_writes path k.databases.items → check_unwritten w.databases path ≡ refuse_if t (FileInUse path)
check-is w k path t sees is = ap (λ (dbs : List Database). check_unwritten dbs path) sees.databases ∙ ap (λ (b : Bool). refuse_if b (FileInUse path)) (written-mapped path k.databases.items ∙ sym is)

pub unwritten-passed : (w : World) (k : Kept) (path : List ℕ) (t : Bool) → Sees w k → t ≡ any_writes path k.databases.items → t ≡ false → check_unwritten w.databases path ≡ Ok tt
unwritten-passed w k path t sees is free = check-is w k path t sees is ∙ ap (λ (b : Bool). refuse_if b (FileInUse path)) free

in-use-refused : (refusal : Refusal) (machine : Checked (Unit {0})) (path : List ℕ) → IsInUse path refusal → machine ≡ Err (FileInUse path) → IsRefused refusal machine
in-use-refused (Broken rule) machine path is refuses = refuses ∙ ap Err (sym is)
in-use-refused NoMemory machine path is refuses = tt

pub written-refused : (w : World) (k : Kept) (path : List ℕ) (t : Bool) (refusal : Refusal) → Sees w k → t ≡ any_writes path k.databases.items → t ≡ true → IsInUse path refusal → IsRefused refusal (check_unwritten w.databases path)
written-refused w k path t refusal sees is own taken = in-use-refused refusal (check_unwritten w.databases path) path taken (check-is w k path t sees is ∙ ap (λ (b : Bool). refuse_if b (FileInUse path)) own)
