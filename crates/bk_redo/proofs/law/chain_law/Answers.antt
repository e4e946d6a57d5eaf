use Rattle.bk_redo.proofs.ChainLaws.{all_sets, copied_leads, end_leads, log_leads, unheld_leads}
use Rattle.bk_redo.proofs.law.chain_law.Goals as goal

pub returns : goal.returns
returns c = record {
  chain = all_sets;
  copied = copied_leads;
  copied_at_end = end_leads;
  logged = log_leads;
  not_held = unheld_leads;
}
