-- Which records may be said behind a database's path.
use Rattle.std.specs.Prelude.{◌≡◌, ◌≤◌, ◌<◌, ◌+◌, ◌^◌, ℕ, [], ◌∷◌, ◌++◌}
use Rattle.bk_ids.specs.declared.record.Body.{Body}
use Rattle.bk_ids.specs.declared.record.Body.TheVariants.{Bulk, Compensation, Write}
use Rattle.bk_ids.specs.declared.record.Place.{Place}
use Rattle.bk_ids.specs.declared.record.Rec.{Rec}
use Rattle.bk_record.specs.Spelling.{KeepsLimits}
use Rattle.bk_redo.specs.declared.place.PageAt.{PageAt}
use Rattle.bk_paged.specs.Names.{IsThere}
use Rattle.bk_paged.specs.Paged.{Kept}

-- the page of a cell
abbrev pub page_at : Place → PageAt
page_at place = record { file = place.file; page = place.page }

-- a write begins at the kept point or behind it; a cell that is set lies on a page that is there; rows aren't loaded minimally
abbrev pub MaySay : Kept → ℕ → Body → Type 0
MaySay p begin (Write place before after) = (p.log.head.kept ≤ begin) × IsThere p.facts.files (page_at place)
MaySay p begin (Compensation place cell undone) = IsThere p.facts.files (page_at place)
MaySay p begin (Bulk table first count value extents) = ⊥
MaySay p begin _ = Unit {0}

-- a record may be said next: it has the next number, while there are some, and none below the first record of its transaction
pub record MayAppend (p : Kept) (r : Rec) : Type 0 where
  pub number : r.lsn ≡ p.log.«end»
  pub room : r.lsn < 2 ^ 62
  pub begun : r.begin ≤ r.lsn
  pub limits : KeepsLimits r.body
  pub may : MaySay p r.begin r.body

-- the same with one more record that waits in the log
abbrev pub with_waiting : Kept → Rec → Kept
with_waiting p r = record p { log = record p.log { waiting = p.log.waiting ++ r ∷ []; end = p.log.end + 1 } }
