use Rattle.std.proofs.Common.{rules, ◌≤◌, ◌<◌, ℕ, List, inl, inr, sym, subst}
use Rattle.bk_record.specs.Spelling.{BeginsWith}
use Rattle.bk_hosting.proofs.Noted.{has-none, has-read}
use Rattle.bk_hosting.proofs.states.reaches.Goals as goal
use Rattle.bk_hosting.proofs.states.reaches.Goals.{then-number-eq0-via-then-number-eq0, then-number-eq0-via-else-number-eq0+then-end-number}

pub returns-then-number-eq0-clause-is : goal.returns-then-number-eq0-clause-is
returns-then-number-eq0-clause-is g c = λ tells told is.
    sym (has-none c.args.store.now told (g.D.Device.disk c.args.dev.now) c.args.number is (elim c.then-number-eq0.branch [
      | then-number-eq0-via-then-number-eq0 w ↦ inl (search rules)
      | then-number-eq0-via-else-number-eq0+then-end-number w ↦ inr (search rules)
    ]))

pub returns-clause-is : goal.returns-clause-is
returns-clause-is g c = λ tells told is.
    let low : 1 ≤ c.args.number = search rules in
    let inside : c.args.number < c.args.store.now.paged.log.end = search rules in
    has-read c.args.store.now told (g.D.Device.disk c.args.dev.now) c.args.number is c.in_ok-bytes.bytes.items _ low inside (c.in_ok-bytes.ensures.bytes tells told is)
    (λ r after begins. c.is_checkpoint.ensures r after (subst (λ (bytes : List ℕ). BeginsWith bytes r after) (sym c.deref.ensures.value) begins))
