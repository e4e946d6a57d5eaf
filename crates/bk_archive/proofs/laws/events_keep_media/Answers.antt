use Rattle.bk_archive.proofs.Happens.{media-added, media-changed, media-removed}
use Rattle.bk_archive.proofs.laws.events_keep_media.Goals as goal

pub returns : goal.returns
returns c = record { removed = media-removed; changed = media-changed; added = media-added (record { event = c.sets_that_stay.ensures.event; grown = c.sets_that_stay.ensures.grown }) }
