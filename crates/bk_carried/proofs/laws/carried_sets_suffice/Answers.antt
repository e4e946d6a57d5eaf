use Rattle.std.proofs.Common.{None}
use Rattle.bk_carried.proofs.Enough.{Laws, log-spelled, suffices}
use Rattle.bk_carried.proofs.laws.carried_sets_suffice.Goals as goal

pub returns : goal.returns
returns c =
    let laws : Laws = record {
      one_list = λ bytes records others log other. (c.log_law.ensures.one_list bytes records others None None log other).0;
      fresh = c.page_law.ensures.fresh;
      machine = c.settling_law.ensures.machine;
      opened = c.settling_law.ensures.opened;
    } in record {
      log = λ w body records carries sound is log. log-spelled laws w body carries sound is records log;
      told = λ w body name r note a records carries sound is may fits log. suffices laws w body carries sound is name r note may a records fits log;
    }
