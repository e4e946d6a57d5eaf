use Rattle.std.proofs.Common.{◌≡◌, List, ℕ, None, sym, subst, rules}
use Rattle.bk_record.specs.Log.{IsLog}
use Rattle.bk_record.specs.Records.{AreRecords, records_from}
use Rattle.bk_record.proofs.records.Records.from.Goals as goal

pub invariant_of-result : goal.invariant_of-result
invariant_of-result c =
    let copied : c.in_ok-bytes.bytes.items ≡ c.rest_from.result.now = search rules in
    subst AreRecords (sym copied) (records_from c.args.lsn c.self.invariant.0, c.rest_from.ensures c.self.invariant.0 (subst (λ (b : List ℕ). IsLog b c.self.invariant.0 None) (sym c.deref.ensures.value) c.self.invariant.1))
