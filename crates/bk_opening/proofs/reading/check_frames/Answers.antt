use Rattle.std.proofs.Common.{[], subst}
use Rattle.std.proofs.lemmas.Option.{get_or_from_slice_get}
use Rattle.bk_side.specs.Pages.{IsSound}
use Rattle.bk_opening.proofs.Places.{sound_more}
use Rattle.bk_opening.proofs.reading.check_frames.Goals as goal

pub returns-then-not-is_sound-clause-foreign : goal.returns-then-not-is_sound-clause-foreign
returns-then-not-is_sound-clause-foreign g c is all =
    c.if-not-is_sound.ensures (subst IsSound (get_or_from_slice_get c.args.frames.now c.loop-i.i c.page.result.now [] c.page.ensures) (all c.loop-i.i c.loop-i-test.true))

pub loop-i-preserved : goal.loop-i-preserved
loop-i-preserved g c = sound_more c.loop-i.i c.args.frames.now c.page.result.now c.loop-i.invariant c.page.ensures c.if-not-is_sound.ensures
