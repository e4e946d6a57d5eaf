-- What a record over borrowed bytes says, without where they lie in memory.
use Rattle.std.specs.Prelude.{Option, Some, None, option_map}
use Rattle.bk_ids.specs.declared.record.Mark.{Mark}
use Rattle.bk_ids.specs.declared.record.Place.{Place}
use Rattle.bk_ids.specs.declared.record.Rec.{Rec}
use Rattle.bk_ids.specs.declared.record.Body.{Body}
use Rattle.bk_ids.specs.declared.record.Body.TheVariants as owned
use Rattle.bk_record.specs.declared.view.MarkRef.{MarkRef}
use Rattle.bk_record.specs.declared.view.PlaceRef.{PlaceRef}
use Rattle.bk_record.specs.declared.view.RecRef.{RecRef}
use Rattle.bk_record.specs.Extents.{extents_shown}
use Rattle.bk_record.specs.declared.view.BodyRef.{BodyRef}
use Rattle.bk_record.specs.declared.view.BodyRef.TheVariants.{Database, Table, Begin, Write, Commit, RollbackEnd, Compensation, Checkpoint, Stamp, Model, Bulk, Recovery}

abbrev pub place_of : PlaceRef → Place
place_of place = record { file = place.file; page = place.page; slot = place.slot }

abbrev pub mark_of : Option MarkRef → Option Mark
mark_of None = None
mark_of (Some mark) = Some (record { name = mark.name.now; description = option_map (λ text. text.now) mark.description })

abbrev pub body_of : BodyRef → Body
body_of (Database time family branch) = owned.Database time family branch
body_of (Table time number name group) = owned.Table time number name.now group
body_of Begin = owned.Begin
body_of (Write place before after) = owned.Write (place_of place) (record { bytes = before.now }) (record { bytes = after.now })
body_of (Commit time mark) = owned.Commit time (mark_of mark)
body_of RollbackEnd = owned.RollbackEnd
body_of (Compensation place cell undone) = owned.Compensation (place_of place) (record { bytes = cell.now }) undone
body_of (Checkpoint time) = owned.Checkpoint time
body_of (Stamp time set) = owned.Stamp time set
body_of (Model time model) = owned.Model time model
body_of (Bulk table first count value extents) = owned.Bulk table first count value.now (extents_shown extents)
body_of (Recovery branch) = owned.Recovery branch

abbrev pub record_of : RecRef → Rec
record_of r = record { lsn = r.lsn; begin = r.begin; body = body_of r.body }
