use Rattle.bk_world.proofs.rule.Rule.text.Goals as goal

pub returns-in-OtherFamily : goal.returns-in-OtherFamily
returns-in-OtherFamily c = rw c.in-OtherFamily.is c.family_text.ensures
