use Rattle.std.proofs.Common.{◌++◌, ◌+◌, List, ℕ, refl, ap, ◌∙◌, arith}
use Rattle.bk_device.specs.Laws.{nothing_yet, nothing_then, cause_then}
use Rattle.bk_segments.specs.FileLaws.{blobs_moved}
use Rattle.bk_segments.specs.Files.{blobs_at}
use Rattle.bk_segments.specs.Records.{joined}
use Rattle.bk_segments.proofs.Joined.{joined_segment}
use Rattle.bk_segments.proofs.reading.gather.Goals as goal

pub returns-in_err-add_segment-clause-effect : goal.returns-in_err-add_segment-clause-effect
returns-in_err-add_segment-clause-effect g c t = nothing_then (g.met.D.Device.lawful t c.args.dev.now) (c.loop-i.invariant.nothing t) (c.add_segment.ensures.effect t)

pub loop-i-init : goal.loop-i-init
loop-i-init g c = record {
  nothing = λ t. nothing_yet (g.D.Device.disk c.args.dev.now);
  bytes = λ t. c.new-bytes.ensures.items;
  cause = record { rose = λ none. absurd none; never_falls = omega arith; tell_faults = refl };
}

pub loop-i-preserved : goal.loop-i-preserved
loop-i-preserved g c = record {
  nothing = λ t. nothing_then (g.met.D.Device.lawful t c.args.dev.now) (c.loop-i.invariant.nothing t) (c.add_segment.ensures.effect t);
  bytes = λ t.
      let same = blobs_moved c.args.db (c.args.head.front + c.loop-i.i) (c.loop-i.invariant.nothing t) in
      joined_segment (blobs_at (g.D.Device.disk c.args.dev.now).files c.args.db) c.args.head.front c.loop-i.i c.loop-i.bytes.items c.add_segment.new.out.items (c.loop-i.invariant.bytes t)
      (c.in_ok-add_segment.ensures.added t ∙ ap (λ (bs : List (List ℕ)). c.loop-i.bytes.items ++ joined bs) same);
  cause = cause_then c.loop-i.invariant.cause c.add_segment.ensures.cause (λ none. absurd none);
}
