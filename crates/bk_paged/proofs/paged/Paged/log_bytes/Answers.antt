use Rattle.std.proofs.Common.{◌≡◌, ◌-◌, take, drop, subst}
use Rattle.std.specs.List.{flat_map}
use Rattle.bk_log.specs.Log.{value_of}
use Rattle.bk_record.specs.Spelling.{spelling}
use Rattle.bk_paged.specs.Paged.{Kept}
use Rattle.bk_paged.proofs.Fetching.{paged_kept}
use Rattle.bk_paged.proofs.Told.{bytes_read}
use Rattle.bk_paged.specs.StandLaws.{standing-kept}
use Rattle.bk_paged.proofs.paged.Paged.log_bytes.Goals as goal

pub returns-in_err-bytes-clause-stands : goal.returns-in_err-bytes-clause-stands
returns-in_err-bytes-clause-stands g c t stood is = paged_kept c.args.self.now stood (g.D.Device.disk c.args.dev.now) (g.D.Device.disk c.bytes.new.dev) is (c.bytes.ensures.effect t)

pub returns-clause-stands : goal.returns-clause-stands
returns-clause-stands g c t stood is = paged_kept c.args.self.now stood (g.D.Device.disk c.args.dev.now) (g.D.Device.disk c.bytes.new.dev) is (c.bytes.ensures.effect t)

pub returns-clause-bytes : goal.returns-clause-bytes
returns-clause-bytes g c t stood is =
    let a = g.D.Device.disk c.args.dev.now in
    let Read : Kept → Type 0 = λ k. c.in_ok-bytes.bytes.items ≡ flat_map spelling (take (c.args.to - c.args.from) (drop (c.args.from - k.log.head.kept) (value_of a.files k.log).records)) in
    bytes_read c.args.self.now stood a c.args.from c.args.to c.in_ok-bytes.bytes.items is c.requires.kept c.requires.order c.requires.inside (subst Read c.self.view_is (c.in_ok-bytes.ensures.bytes t))

pub returns-in_err-bytes-clause-standing : goal.returns-in_err-bytes-clause-standing
returns-in_err-bytes-clause-standing g c t is = standing-kept c.args.self.now is (c.bytes.ensures.effect t)

pub returns-clause-standing : goal.returns-clause-standing
returns-clause-standing g c t is = standing-kept c.args.self.now is (c.bytes.ensures.effect t)
