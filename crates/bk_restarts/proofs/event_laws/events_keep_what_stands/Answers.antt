use Rattle.bk_restarts.proofs.Happens.{EventLaws, added-stands, changed-stands, events-happen, events-stand, removed-stands, standby-stands}
use Rattle.bk_restarts.proofs.event_laws.events_keep_what_stands.Goals as goal

pub returns : goal.returns
returns c =
    let laws : EventLaws = record {
      sound = c.events_keep_worlds_sound.ensures.one;
      removed = c.logs_that_stay.ensures.medium_removed;
      standby = c.logs_that_stay.ensures.standby_removed;
      changed = c.logs_that_stay.ensures.medium_changed;
      added = c.logs_that_stay.ensures.medium_added;
      removed_media = c.events_keep_media.ensures.removed;
      changed_media = c.events_keep_media.ensures.changed;
      added_media = c.events_keep_media.ensures.added;
    } in
    record {
      removed = removed-stands laws;
      standby = standby-stands laws;
      changed = changed-stands laws;
      added = added-stands laws;
      any = events-stand laws;
      of_world = events-happen;
    }
