use Rattle.bk_archive.proofs.Acts.{media-behind, media-behind-all}
use Rattle.bk_archive.proofs.laws.acts_keep_media.Goals as goal

pub returns : goal.returns
returns c = record { act = media-behind c.sets_that_stay.ensures.act; acts = media-behind-all c.acts_keep_worlds_sound.ensures.act c.sets_that_stay.ensures.act }
