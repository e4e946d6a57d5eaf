use Rattle.std.proofs.Common.{arith, rules}
use Rattle.std.proofs.lemmas.List.Sorted.{answers_always}
use Rattle.bk_reopening.proofs.Found.{not-before}
use Rattle.bk_reopening.proofs.restoring.sort_rows.Goals as goal

pub returns-clause-sorted : goal.returns-clause-sorted
returns-clause-sorted c = λ k d low.
    not-before c.sort_unstable_by_key.new.self.items k d (c.sort_unstable_by_key.ensures.sorted (λ row. (row.table, row.key)) (answers_always _ _ _ (λ f a r g h. search rules)) k d (omega arith) (omega (arith, low)))
