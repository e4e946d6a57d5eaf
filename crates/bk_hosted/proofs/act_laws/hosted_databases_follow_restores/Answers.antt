use Rattle.bk_hosted.proofs.Restores.{hosts-parked, hosts-parked-new, hosts-up}
use Rattle.bk_hosted.proofs.act_laws.hosted_databases_follow_restores.Goals as goal

pub returns-clause-replaced : goal.returns-clause-replaced
returns-clause-replaced c = λ w name header hosted i sound hosts may place. hosts-parked w name header may c.acts_keep_what_is_read.ensures.act hosted sound hosts i place

pub returns-clause-new : goal.returns-clause-new
returns-clause-new c = λ w name header hosted sound hosts may none. hosts-parked-new w name header may c.acts_keep_what_is_read.ensures.act hosted sound hosts none

pub returns-clause-brought_up : goal.returns-clause-brought_up
returns-clause-brought_up c = λ w name header r hosted i sound hosts is_set may at place there.
    hosts-up c.acts_keep_worlds_sound.ensures.act c.acts_keep_what_is_read.ensures.act c.a_recovery_is_said_last.ensures.log w name header r hosted i sound hosts is_set may at place there
