use Rattle.bk_engine.proofs.bringing.laws.Goals as goal

pub returns : goal.returns
returns c = record {
  listed = c.extents_lie_in_order.ensures.listed;
  suffices = c.carried_sets_suffice.ensures.told;
  brings = c.hosted_databases_follow_restores.ensures.brought_up;
  sound = c.acts_keep_worlds_sound.ensures.acts;
  media = c.acts_keep_media.ensures.acts;
}
