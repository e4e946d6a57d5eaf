use Rattle.std.proofs.Common.{◌≤◌, ◌+◌, ◌∙◌, ap, refl, sym, arith, length}
use Rattle.bk_device.specs.Calls.{contents}
use Rattle.bk_device.specs.Laws.{nothing_then, cause_then}
use Rattle.bk_gate.proofs.Gates.{within_pushed}
use Rattle.bk_gate.proofs.Reading.{read_more}
use Rattle.bk_gate.proofs.read.read_spans.Goals as goal

pub blobs-preserved : goal.blobs-preserved
blobs-preserved g c =
    let inside : c.blobs.gate + 9 + c.in-Some.size ≤ c.args.len = rw c.in-Some.is at c.in_ok-size.ensures.inside in
    record {
      inside = omega (arith, inside);
      nothing = λ t. nothing_then (g.met.D.Device.lawful t c.args.dev.now) (c.blobs.invariant.nothing t) (c.read_blob.ensures.effect t);
      lies = λ t size.
          let same = ap contents ((c.blobs.invariant.nothing t).files c.args.name.now) in
          read_more _ _ c.blobs.gate c.in-Some.size _ _ same (c.blobs.invariant.lies t size) (c.in_ok-size.ensures.blob t (size ∙ sym (ap length same)) ∙ c.in-Some.is) c.in_ok-push_span.ensures;
      within = within_pushed c.blobs.gate (c.blobs.gate + (9 + c.in-Some.size)) _ _ (c.blobs.gate + 9, c.in-Some.size) (omega arith) (omega arith) c.in_ok-push_span.ensures c.blobs.invariant.within;
      cause = cause_then c.blobs.invariant.cause c.read_blob.ensures.cause (λ none. absurd none);
    }

pub returns-in_err-size-clause-effect : goal.returns-in_err-size-clause-effect
returns-in_err-size-clause-effect g c t = nothing_then (g.met.D.Device.lawful t c.args.dev.now) (c.blobs.invariant.nothing t) (c.read_blob.ensures.effect t)

pub returns-in_err-size-clause-cause : goal.returns-in_err-size-clause-cause
returns-in_err-size-clause-cause g c = cause_then c.blobs.invariant.cause c.in_err-size.ensures.cause (λ _. refl)

pub returns-in_err-push_span-clause-effect : goal.returns-in_err-push_span-clause-effect
returns-in_err-push_span-clause-effect g c t = nothing_then (g.met.D.Device.lawful t c.args.dev.now) (c.blobs.invariant.nothing t) (c.read_blob.ensures.effect t)

pub returns-clause-lies : goal.returns-clause-lies
returns-clause-lies g c = c.blobs.invariant.lies

pub returns-clause-inside : goal.returns-clause-inside
returns-clause-inside g c = c.blobs.invariant.inside

pub returns-clause-within : goal.returns-clause-within
returns-clause-within g c = c.blobs.invariant.within

pub returns-clause-effect : goal.returns-clause-effect
returns-clause-effect g c t = nothing_then (g.met.D.Device.lawful t c.args.dev.now) (c.blobs.invariant.nothing t) (c.read_blob.ensures.effect t)
