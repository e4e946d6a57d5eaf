use Rattle.std.proofs.Common.{◌≡◌, ◌++◌, List, ℕ, sym, ◌∙◌, ap, subst}
use Rattle.bk_record.specs.Records.{AreRecords}
use Rattle.bk_record.specs.RecordsLaws.{records_append}
use Rattle.bk_record.proofs.records.Records.append.Goals as goal

pub invariant_of-self-2 : goal.invariant_of-self-2
invariant_of-self-2 c =
    let same : c.extend_from_slice.new.self.items ≡ c.self.inside.bytes.items ++ c.more.inside.bytes.items =
    c.in_ok-extend_from_slice.ensures.items ∙ ap (λ (b : List ℕ). c.self.inside.bytes.items ++ b) c.deref.ensures.value in
    subst AreRecords (sym same) (records_append c.self.inside.bytes.items c.more.inside.bytes.items c.self.invariant c.more.invariant)
