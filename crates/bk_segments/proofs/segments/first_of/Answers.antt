use Rattle.std.proofs.Common.{length, refl, ap}
use Rattle.std.proofs.lemmas.Option.{slice_get_read}
use Rattle.bk_segments.specs.declared.segments.Segment.{Segment}
use Rattle.bk_segments.proofs.segments.first_of.Goals as goal

pub returns : goal.returns
returns c = (c.index-segments-i.result, slice_get_read c.args.segments.now (length c.args.segments.now) c.args.i c.index-segments-i.result refl c.requires c.index-segments-i.is, ap (λ (s : Segment). s.first) c.index-segments-i.is)
