use Rattle.bk_side.specs.Side.{pages_of}
use Rattle.bk_opening.proofs.Places.{sound_read}
use Rattle.bk_opening.proofs.reading.load_frames.Goals as goal

pub returns-clause-foreign : goal.returns-clause-foreign
returns-clause-foreign g c t is all =
    c.check_frames.ensures.foreign is (sound_read (pages_of c.args.side.now (g.D.Device.disk c.args.dev.now).files) c.args.places.now c.read_frames.new.frames (c.in_ok-read_frames.ensures.read t) all)
