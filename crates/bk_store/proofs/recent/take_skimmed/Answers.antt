use Rattle.std.proofs.Common.{subst}
use Rattle.std.specs.Prelude.{OnOk}
use Rattle.bk_ids.specs.declared.record.Rec.{Rec}
use Rattle.bk_store.specs.Recent.{Takes}
use Rattle.bk_store.proofs.Behind.{row-takes}
use Rattle.bk_store.proofs.recent.take_skimmed.Goals as goal

pub returns-in-Write-clause-takes : goal.returns-in-Write-clause-takes
returns-in-Write-clause-takes c r shows = row-takes r.body c.args.recent.now (rw c.in-Write.is at shows).0

pub returns-in-Other-clause-takes : goal.returns-in-Other-clause-takes
returns-in-Other-clause-takes c r shows = subst (λ (x : Rec). OnOk c.take_record.result (Takes x.body c.args.recent.now c.take_record.new.recent)) (rw c.in-Other.is at shows) c.take_record.ensures.takes
