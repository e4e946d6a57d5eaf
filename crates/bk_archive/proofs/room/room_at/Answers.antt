use Rattle.std.proofs.Common.{refl, ◌∙◌}
use Rattle.bk_archive.specs.TextLaws.{text-bytes}
use Rattle.bk_archive.proofs.Rooms.{room-none, room-some}
use Rattle.bk_archive.proofs.room.room_at.Goals as goal

pub returns-in-Ok-clause-room : goal.returns-in-Ok-clause-room
returns-in-Ok-clause-room g c tells w media =
    room-some w (g.D.Device.disk c.args.dev.now).files c.args.path.now c.count.result c.room_behind.result (text-bytes c.args.path.now c.utf8.path) media (c.in-Ok.ensures.sets tells) (c.count.ensures ∙ c.in-Ok.ensures.count tells) c.room_behind.ensures

pub returns-in-Err-Missing-clause-room : goal.returns-in-Err-Missing-clause-room
returns-in-Err-Missing-clause-room g c tells w media =
    let missing = rw c.in-Err-Missing.field-0-is at (c.in-Err-Missing.ensures.missing tells) in
    room-none w _ c.args.path.now (text-bytes c.args.path.now c.utf8.path) media (missing refl)
