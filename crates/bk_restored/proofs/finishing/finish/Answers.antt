use Rattle.std.proofs.Common.{◌≡◌, ◌++◌, ◌∙◌}
use Rattle.bk_known.specs.Known.{known_bytes}
use Rattle.bk_reopening.specs.StoreTold.{stood_of}
use Rattle.bk_restored.proofs.Closed.{arrived-closed, both-ok, suffices-bytes}
use Rattle.bk_restored.proofs.finishing.finish.Goals as goal

pub returns-clause-closed : goal.returns-clause-closed
returns-clause-closed g c t durable given records told arrives enough =
    let b = g.D.Device.disk c.finish.new.dev in
    let known = c.args.known.now in
    let spelled : c.deref.result.now ≡ known_bytes known ++ c.args.note.now = c.deref.ensures.value ∙ c.in_ok-bytes.ensures.bytes in
    let suffices = suffices-bytes c.args.arriving c.args.checkpoint c.args.note.now c.deref.result.now given records known told spelled enough in
    both-ok c.finish.result (arrived-closed c.args.arriving c.args.checkpoint c.args.note.now given records known told b enough) (c.finish.ensures.durable t durable)
    (c.finish.ensures.holds t given records (stood_of known told) arrives suffices)
