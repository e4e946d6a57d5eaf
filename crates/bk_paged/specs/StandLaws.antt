-- What keeps log, side file and data files of a database standing, whatever it stands for.
use Rattle.std.proofs.Common.{◌≡◌, ◌≤◌, ◌+◌, ℕ, Bool, List, [], ◌∷◌, ◌++◌, length, inl, inr, sym, ap, subst, ◌∙◌}
use Rattle.bk_device.specs.Calls.{ChangesNothing}
use Rattle.bk_device.specs.Compose.{effect_none, effect_of_nothing, effect_widen, keeps_by_effect, keeps_by_nothing}
use Rattle.bk_device.specs.Disk.{Files, Disk}
use Rattle.bk_device.specs.Effects.{Effect, KeepsFiles}
use Rattle.bk_facts.specs.declared.facts.DataFile.{DataFile}
use Rattle.bk_facts.specs.declared.facts.Facts.{Facts}
use Rattle.bk_facts.specs.Facts.{Notes}
use Rattle.bk_ids.specs.declared.record.Rec.{Rec}
use Rattle.bk_log.specs.Laws.{log_kept, log_waits}
use Rattle.bk_log.specs.Log.{IsLog, Kept as KeptLog}
use Rattle.bk_pool.specs.Pool.{Pool}
use Rattle.bk_segments.specs.Files.{IsOwn as IsOfLog}
use Rattle.bk_side.specs.Laws.{added_kept, side_kept}
use Rattle.bk_side.specs.Names.{AreDifferent, side_file, IsOwn as IsOfSide}
use Rattle.bk_side.specs.Side.{IsSide, IsOwnOf, added_of, Kept as KeptSide}
use Rattle.bk_paged.specs.Appends.{with_waiting}
use Rattle.bk_paged.specs.Holds.{HaveRoom}
use Rattle.bk_paged.specs.Laws.{apart}
use Rattle.bk_paged.specs.Leaving.{with_note}
use Rattle.bk_paged.specs.Named.{own_keeps, side_keeps}
use Rattle.bk_paged.specs.Names.{IsOwn, names_of}
use Rattle.bk_paged.specs.Paged.{Kept, Standing, Touches}

-- what only the log was done to: it is another one, with these facts and this note
pub standing-log : {P : Files → Type 0} (p : Kept) (log : KeptLog) (facts : Facts) (note : List ℕ) (failed : Bool) {a b : Disk} → Standing a p → Effect (IsOfLog p.log.db) P a b → IsLog b log → log.db ≡ p.log.db → Notes log.note facts note → facts.files ≡ p.facts.files → length note ≤ 30720
    → Standing b (record p { log = log; facts = facts; note = note; failed = failed })
standing-log p log facts note failed is effect logs db noted files short =
    let own = own_keeps p.log.db p.facts.files p.side is.side_name is.side_names (side_keeps p.log.db p.facts.files effect) in
    record {
      logs = logs;
      side_name = is.side_name ∙ ap side_file (sym db);
      side_names = is.side_names ∙ ap names_of (sym files);
      sides = side_kept own is.sides;
      fresh = added_kept p.side own ∙ is.fresh;
      noted = noted;
      room = with_note (subst (λ (fs : List DataFile). HaveRoom fs p.note) (sym files) is.room) short;
      different = subst (λ (fs : List DataFile). AreDifferent (names_of fs)) (sym files) is.different;
    }

-- what only side file and data files were done to: they are others of the same names, and no batch is begun
pub standing-side : {P : Files → Type 0} (p : Kept) (side : KeptSide) (pool : Pool) (since : ℕ) (failed : Bool) {a b : Disk} → Standing a p → Effect (IsOfSide (side_file p.log.db) (names_of p.facts.files)) P a b → IsSide b side → side.gate.name ≡ p.side.gate.name → side.names ≡ p.side.names → added_of b side ≡ []
    → Standing b (record p { side = side; pool = pool; since = since; failed = failed })
standing-side p side pool since failed {a} {b} is effect sides name names none =
    let keeps : KeepsFiles (IsOfLog p.log.db) a b = keeps_by_effect (λ n log own. apart p.log.db p.facts.files n log own) effect in
    record {
      logs = log_kept keeps is.logs;
      side_name = name ∙ is.side_name;
      side_names = names ∙ is.side_names;
      sides = sides;
      fresh = none;
      noted = is.noted;
      room = is.room;
      different = is.different;
    }

-- the same of what was done to the files of the side
pub standing-own : {P : Files → Type 0} (p : Kept) (side : KeptSide) (pool : Pool) (since : ℕ) (failed : Bool) {a b : Disk} → Standing a p → Effect (IsOwnOf p.side) P a b → IsSide b side → side.gate.name ≡ p.side.gate.name → side.names ≡ p.side.names → added_of b side ≡ []
    → Standing b (record p { side = side; pool = pool; since = since; failed = failed })
standing-own {P} p side pool since failed {a} {b} is effect sides name names none =
    let Of : List ℕ → List (List ℕ) → Type 0 = λ s ns. Effect (IsOfSide s ns) P a b in
    let here : Of (side_file p.log.db) (names_of p.facts.files) = subst (Of (side_file p.log.db)) is.side_names (subst (λ (s : List ℕ). Of s p.side.names) is.side_name effect) in
    standing-side p side pool since failed is here sides name names none

-- where nothing was done
pub standing-kept : (p : Kept) {a b : Disk} → Standing a p → ChangesNothing a b → Standing b p
standing-kept p {a} {b} is call =
    let log : KeepsFiles (IsOfLog p.log.db) a b = keeps_by_nothing call in
    let side : KeepsFiles (IsOwnOf p.side) a b = keeps_by_nothing call in
    record {
      logs = log_kept log is.logs;
      side_name = is.side_name;
      side_names = is.side_names;
      sides = side_kept side is.sides;
      fresh = added_kept p.side side ∙ is.fresh;
      noted = is.noted;
      room = is.room;
      different = is.different;
    }

-- with whatever pages in memory
pub standing-pool : (p : Kept) (pool : Pool) {a : Disk} → Standing a p → Standing a (record p { pool = pool })
standing-pool p pool is = record { logs = is.logs; side_name = is.side_name; side_names = is.side_names; sides = is.sides; fresh = is.fresh; noted = is.noted; room = is.room; different = is.different }

-- with these records waiting, this end and this room
pub standing-waits : (p : Kept) (waiting : List Rec) (end bytes flushes : ℕ) {a : Disk} → Standing a p → Standing a (record p { log = record p.log { waiting = waiting; end = end; spare_bytes = bytes; spare_flushes = flushes } })
standing-waits p waiting end bytes flushes is = record {
  logs = log_waits waiting end bytes flushes is.logs;
  side_name = is.side_name;
  side_names = is.side_names;
  sides = is.sides;
  fresh = is.fresh;
  noted = is.noted;
  room = is.room;
  different = is.different;
}

-- with one more record that waits
pub standing-waiting : (p : Kept) (r : Rec) {a : Disk} → Standing a p → Standing a (with_waiting p r)
standing-waiting p r is = standing-waits p (p.log.waiting ++ r ∷ []) (p.log.end + 1) p.log.spare_bytes p.log.spare_flushes is

-- ---- which files a call touched

-- what only the log's files were touched by
pub log-touches : {P : Files → Type 0} (p : Kept) {a b : Disk} → Effect (IsOfLog p.log.db) P a b → Touches p a b
log-touches p effect = effect_widen (λ name at. inl at) (λ image here left. tt) effect

-- what only side file and data files were touched by
pub side-touches : {P : Files → Type 0} (p : Kept) {a b : Disk} → Standing a p → Effect (IsOwnOf p.side) P a b → Touches p a b
side-touches {P} p {a} {b} is effect =
    let Of : List ℕ → List (List ℕ) → Type 0 = λ s ns. Effect (IsOfSide s ns) P a b in
    let here : Of (side_file p.log.db) (names_of p.facts.files) = subst (Of (side_file p.log.db)) is.side_names (subst (λ (s : List ℕ). Of s p.side.names) is.side_name effect) in
    effect_widen (λ name at. inr at) (λ image there left. tt) here

pub nothing-touches : (p : Kept) {a b : Disk} → ChangesNothing a b → Touches p a b
nothing-touches p call = effect_of_nothing (λ image mine. tt) call

pub none-touches : (p : Kept) (a : Disk) → Touches p a a
none-touches p a = effect_none a (λ image mine. tt)

-- what touches the files of the same database
pub touches-as : (p q : Kept) {a b : Disk} → q.log.db ≡ p.log.db → q.facts.files ≡ p.facts.files → Touches q a b → Touches p a b
touches-as p q {a} {b} db files effect =
    let Of : ℕ → List DataFile → Type 0 = λ n fs. Effect (IsOwn n fs) (λ _. Unit {0}) a b in
    subst (λ (n : ℕ). Of n p.facts.files) db (subst (Of q.log.db) files effect)
