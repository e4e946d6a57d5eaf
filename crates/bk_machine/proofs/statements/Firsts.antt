-- The first record that a full set holds.
use Rattle.std.proofs.Common.{◌≡◌, ◌<◌, ◌≤◌, ℕ, true, List, [], ◌∷◌, Some, min, arith}
use Rattle.std.specs.List.{AllByRecursion}
use Rattle.std.proofs.Math.Nat.{min-le_left, min-le_right}
use Rattle.bk_ids.specs.declared.guid.Guid.{Guid}
use Rattle.bk_items.specs.declared.options.BackupOptions.{BackupOptions}
use Rattle.bk_lemmas.specs.Lists.{all_mapped}
use Rattle.bk_world.specs.Pending.{Pending, pending}
use Rattle.bk_world.specs.declared.database.Status.TheVariants.{Online}
use Rattle.bk_world.specs.Telling.{model}
use Rattle.bk_machine.proofs.Keeping.{checkpoint-least}
use Rattle.bk_machine.specs.Acts.{kept_after}
use Rattle.bk_machine.specs.BeginLaws.{least-end, of-begin}
use Rattle.bk_machine.specs.Sound.{IsSound, has_begin}
use Rattle.bk_machine.proofs.Histories.{counts-positive}
use Rattle.bk_machine.specs.UpLaws.{IsUp, is-up}
use Rattle.bk_world.specs.declared.transaction.Open.{Open}
use Rattle.bk_machine.specs.World.{Database, World, database_named, least_begin, log_of}
use Rattle.bk_machine.specs.statements.Backup.{full_header}

least-each : (ts : List Open) (end n : ℕ) → n ≤ least_begin ts end → AllByRecursion (λ (t : Open). n ≤ t.begin) ts
least-each [] end n le = tt
least-each (t ∷ ts) end n le =
    let one : min t.begin (least_begin ts end) ≤ t.begin = min-le_left t.begin (least_begin ts end) in
    let two : min t.begin (least_begin ts end) ≤ least_begin ts end = min-le_right t.begin (least_begin ts end) in
    (omega (arith, one, le), least-each ts end n (omega (arith, two, le)))

least-some : (ts : List Open) (end : ℕ) → 1 ≤ end → AllByRecursion (λ (t : Open). (0 < t.begin) × (t.begin < end)) ts → 1 ≤ least_begin ts end
least-some [] end some all = some
least-some (t ∷ ts) end some all = omega (arith, all.0.0, least-some ts end some all.1)

module _ (w : World) (db : Database) (options : BackupOptions) (path : List ℕ) (set : Guid) (time : ℕ) where
  pub first-checkpoint : (full_header w db options path set time).first ≤ (full_header w db options path set time).checkpoint
  unfolding full_header
  first-checkpoint = least-end db.transactions db.end

  pub first-some : IsUp w db → 1 ≤ (full_header w db options path set time).first
  unfolding full_header
  first-some r = least-some db.transactions db.end (counts-positive 1 db.end (log_of w.history db) r.whole.log.counts) r.opens.begins

  pub first-begins : AllByRecursion (λ (t : Open). (full_header w db options path set time).first ≤ t.begin) db.transactions
  unfolding full_header
  first-begins = least-each db.transactions db.end (least_begin db.transactions db.end) (omega arith)

  pub first-pending : IsSound w → database_named w.databases db.name ≡ Some db → db.status ≡ Online → AllByRecursion (λ (p : Pending). (full_header w db options path set time).first ≤ p.begin) (pending (log_of w.history db))
  first-pending sound named up =
      let r : IsUp w db = is-up w db sound named up in
      all_mapped (λ (p : Pending). has_begin db.transactions p.begin ≡ true) (λ (p : Pending). (full_header w db options path set time).first ≤ p.begin)
      (λ p there. of-begin db.transactions (full_header w db options path set time).first p.begin first-begins there) (pending (log_of w.history db)) r.opens.pending

  pub first-kept : IsSound w → database_named w.databases db.name ≡ Some db → db.status ≡ Online → kept_after db (model (log_of w.history db)) db.end ≤ (full_header w db options path set time).first
  unfolding full_header
  first-kept sound named up = let r : IsUp w db = is-up w db sound named up in checkpoint-least (model (log_of w.history db)) db r.whole.kept r.keeps.begins
