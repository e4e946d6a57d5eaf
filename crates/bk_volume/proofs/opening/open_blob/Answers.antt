use Rattle.std.proofs.Common.{◌≤◌, ap, arith}
use Rattle.bk_device.specs.Calls.{contents}
use Rattle.bk_volume.proofs.Opened.{short_none, part_damaged, part_whole, test_true, test_false, opens_after}
use Rattle.bk_volume.proofs.opening.open_blob.Goals as goal

pub returns-then-len-lt-DIGEST_BYTES-clause-answer : goal.returns-then-len-lt-DIGEST_BYTES-clause-answer
returns-then-len-lt-DIGEST_BYTES-clause-answer g c t =
    short_none (contents ((g.D.Device.disk c.args.dev.now).files c.args.from.now)) c.args.at c.args.len (c.requires.inside t) c.if-len-lt-DIGEST_BYTES.true

pub returns-then-agree-clause-answer : goal.returns-then-agree-clause-answer
returns-then-agree-clause-answer g c t =
    let file = contents ((g.D.Device.disk c.args.dev.now).files c.args.from.now) in
    let long : 32 ≤ c.args.len = omega (arith, c.if-len-lt-DIGEST_BYTES.false) in
    let whole = part_whole file c.in_ok-digests.digests.stored c.in_ok-digests.digests.found c.args.at c.args.len (c.requires.inside t) long (c.in_ok-digests.ensures.stored t) (c.in_ok-digests.ensures.found t) (test_true _ _ c.agree.result c.agree.ensures c.if-agree.true) in
    opens_after file (contents ((g.D.Device.disk c.read_digests.new.dev).files c.args.from.now)) c.args.at c.args.len c.open_body-set.result c.opened.result (ap contents ((c.read_digests.ensures.effect t).files c.args.from.now)) (c.requires.inside t) long whole
    (λ body is spelled. c.open_body-set.ensures.set t body is spelled) c.opened.ensures

pub returns-else-agree-clause-answer : goal.returns-else-agree-clause-answer
returns-else-agree-clause-answer g c t =
    part_damaged (contents ((g.D.Device.disk c.args.dev.now).files c.args.from.now)) c.in_ok-digests.digests.stored c.in_ok-digests.digests.found c.args.at c.args.len (c.requires.inside t) (omega (arith, c.if-len-lt-DIGEST_BYTES.false))
    (c.in_ok-digests.ensures.stored t) (c.in_ok-digests.ensures.found t) (test_false _ _ c.agree.result c.agree.ensures c.if-agree.false)
