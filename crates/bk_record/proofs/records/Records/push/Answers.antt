use Rattle.bk_record.specs.RecordsLaws.{pushed}
use Rattle.bk_record.proofs.records.Records.push.Goals as goal

pub invariant_of-self : goal.invariant_of-self
invariant_of-self c = pushed c.self.inside.bytes.items c.args.r.now c.encode.new.out.items c.encode.result c.self.invariant c.encode.ensures.ok c.encode.ensures.fits c.encode.ensures.err
