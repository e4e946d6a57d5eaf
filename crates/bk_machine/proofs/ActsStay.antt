-- What stays sound where a world's history grows: sets, media, and databases that say nothing.
use Rattle.std.proofs.Common.{◌≡◌, ◌≤◌, inl, inr, ℕ, ◌+◌, Bool, List, length, Option, sym, subst, arith}
use Rattle.std.specs.Prelude.{Contains}
use Rattle.std.specs.List.{AllByRecursion}
use Rattle.bk_ids.specs.Path.{branch_at}
use Rattle.bk_world.specs.declared.database.Base.{Base}
use Rattle.bk_world.specs.declared.database.Status.TheVariants.{Online}
use Rattle.bk_world.specs.declared.database.Unit.{Unit as RestoreUnit}
use Rattle.bk_world.specs.declared.header.Header.{Header}
use Rattle.bk_world.specs.Lines.{Grew, MayGoOn, RecordLine, RecordLines, log_below}
use Rattle.bk_lemmas.specs.Lists.{all_mapped}
use Rattle.bk_world.specs.Medium.{Slot, Reading, readable, damaged, no_set, not_media, medium}
use Rattle.bk_world.specs.Pending.{pending}
use Rattle.bk_world.specs.Records.{Counts}
use Rattle.bk_world.specs.Telling.{model, time}
use Rattle.bk_world.specs.GrowthLaws.{records-grown}
use Rattle.bk_machine.specs.JobLaws.{job-on}
use Rattle.bk_machine.specs.Checks.{last_number}
use Rattle.bk_machine.specs.Fits.{FitsSet}
use Rattle.bk_machine.specs.Sound.{AreOpen, IsHeld, IsLog, IsOnline, IsSoundLine, IsSoundReading, IsSoundSet, IsSoundSlot, IsWholeDatabase, OpenBy, files_of_set, storage_in, storage_of, IsFitJob, JobIs, IsNotToCome, IsKept}
use Rattle.bk_machine.specs.declared.job.Job.{Job}
use Rattle.bk_machine.specs.World.{World, Database, log_of}
use Rattle.bk_machine.proofs.Histories.{held-grew, not_to_come-later, passed-grew, path-later}

-- a world follows another: it draws later GUIDs, and its history has grown
pub record Follows (old new : World) : Type 0 where
  pub instance : new.instance ≡ old.instance
  pub counter : old.counter ≤ new.counter
  pub grew : Grew old.history new.history

-- Lines.

pub line-stays : (old new : World) → Follows old new → (line : RecordLine) → IsSoundLine old line → IsSoundLine new line
line-stays old new on line is = record { drawn = not_to_come-later old new line.branch on.instance on.counter is.drawn; rises = is.rises }

pub lines-stay : (old new : World) → Follows old new → (lines : RecordLines) → AllByRecursion (IsSoundLine old) lines → AllByRecursion (IsSoundLine new) lines
lines-stay old new on lines all = all_mapped (IsSoundLine old) (IsSoundLine new) (line-stays old new on) lines all

-- Sets and media.

-- a set, where its log and what holds it are as they were
pub set-there : (old new : World) → new.instance ≡ old.instance → old.counter ≤ new.counter → (header : Header) → log_below new.history header.path header.last ≡ log_below old.history header.path header.last
    → IsHeld new.history header.path header.last → IsSoundSet old header → IsSoundSet new header
set-there old new instance counter header same held is = record {
  log = subst (λ rs. IsLog (files_of_set header) rs header.last) (sym same) is.log;
  path = is.path;
  starts = is.starts;
  drawn = path-later old new header.path instance counter is.drawn;
  set = not_to_come-later old new header.set instance counter is.set;
  family = not_to_come-later old new header.family instance counter is.family;
  held = held;
  model = subst (λ rs. header.model ≡ model rs) (sym same) is.model;
  finish = subst (λ rs. header.finish ≡ time rs) (sym same) is.finish;
  numbers = subst (λ rs. header.last + (length (pending rs) + 1) ≤ last_number) (sym same) is.numbers;
  fits = subst (FitsSet (storage_in header) header.path) (sym same) is.fits;
}

pub set-stays : (old new : World) → Follows old new → (header : Header) → IsSoundSet old header → IsSoundSet new header
set-stays old new on header is =
    set-there old new on.instance on.counter header (records-grown old.history new.history on.grew header.path header.last is.log.counts) (held-grew old.history new.history header.path header.last on.grew is.held) is

-- media, where their sets stay sound
pub media-there : (old new : World) → ((header : Header) → IsSoundSet old header → IsSoundSet new header) → (media : List (List ℕ × Reading)) → AllByRecursion (λ (m : List ℕ × Reading). IsSoundReading old m.1) media
    → AllByRecursion (λ (m : List ℕ × Reading). IsSoundReading new m.1) media
media-there old new sets media all = all_mapped (λ (m : List ℕ × Reading). IsSoundReading old m.1) (λ (m : List ℕ × Reading). IsSoundReading new m.1) (λ m is. reading m.1 is) media all
  where
    slot : (s : Slot) → IsSoundSlot old s → IsSoundSlot new s
    slot (readable header) is = sets header is
    slot (damaged stored found) is = tt
    slot no_set is = tt

    reading : (r : Reading) → IsSoundReading old r → IsSoundReading new r
    reading not_media is = tt
    reading (medium slots) is = all_mapped (IsSoundSlot old) (IsSoundSlot new) slot slots is

pub media-stay : (old new : World) → Follows old new → (media : List (List ℕ × Reading)) → AllByRecursion (λ (m : List ℕ × Reading). IsSoundReading old m.1) media → AllByRecursion (λ (m : List ℕ × Reading). IsSoundReading new m.1) media
media-stay old new on media all = media-there old new (set-stays old new on) media all

-- Databases.

pub log-stays : (old new : World) → Follows old new → (db : Database) → Counts 1 (log_of old.history db) db.end → log_of new.history db ≡ log_of old.history db
unfolding log_of
log-stays old new on db counts = records-grown old.history new.history on.grew db.path db.end counts

-- one that goes on where it is online
pub database-stays : (old new : World) → Follows old new → (db : Database) → (db.status ≡ Online → MayGoOn new.history db.path db.end) → IsWholeDatabase old db → IsWholeDatabase new db
database-stays old new on db goes is =
    let same : log_of new.history db ≡ log_of old.history db = log-stays old new on db is.log.counts in record {
      log = subst (λ rs. IsLog db.files rs db.end) (sym same) is.log;
      path = is.path;
      starts = is.starts;
      kept = is.kept;
      drawn = path-later old new db.path on.instance on.counter is.drawn;
      family = not_to_come-later old new db.family on.instance on.counter is.family;
      job = job-on (λ (job : Job). IsNotToCome old job.set) (λ (job : Job). IsNotToCome new job.set) (λ job one. not_to_come-later old new job.set on.instance on.counter one) db.job is.job;
      held = λ k pos lt. elim (is.held k pos lt) [ inl last ↦ inl last | inr passed ↦ inr (passed-grew old.history new.history (branch_at db.path k) k on.grew passed) ];
      online = λ up. let was : IsOnline old.history db = is.online up in record {
        goes_on = goes up;
        anchor = (was.anchor.0, subst (λ rs. Contains rs was.anchor.0) (sym same) was.anchor.1, was.anchor.2, was.anchor.3);
        holds = (was.holds.0, subst (λ rs. Contains rs was.holds.0) (sym same) was.holds.1, was.holds.2, was.holds.3);
      };
      fits = subst (FitsSet (storage_of db) db.path) (sym same) is.fits;
    }

pub open-stays : (old new : World) → Follows old new → (db : Database) → IsWholeDatabase old db → OpenBy old.history db → OpenBy new.history db
open-stays old new on db is opens = record {
  online = λ up. subst (λ rs. AreOpen rs db.end db.transactions) (sym (log-stays old new on db is.log.counts)) (opens.online up);
  offline = opens.offline;
  job = subst (λ rs. JobIs (IsFitJob rs db.end db.transactions) db.job) (sym (log-stays old new on db is.log.counts)) opens.job;
  keeps = opens.keeps;
}

-- Points, units and bases that change.

-- a database with these
abbrev pub retouched : Database → ℕ → ℕ → ℕ → Bool → Bool → Option Base → List RestoreUnit → Database
retouched db archive kept checkpoint chain began base units = record db { archive = archive; kept = kept; checkpoint = checkpoint; chain = chain; began = began; base = base; units = units }

module _ (w : World) (db : Database) (archive kept checkpoint : ℕ) (chain began : Bool) (base : Option Base) (units : List RestoreUnit) where
  pub whole-retouched : kept ≡ db.kept → IsWholeDatabase w db → IsWholeDatabase w (retouched db archive kept checkpoint chain began base units)
  unfolding log_of
  whole-retouched same is = record {
    log = is.log;
    path = is.path;
    starts = is.starts;
    kept = omega (arith, same, is.kept);
    drawn = is.drawn;
    family = is.family;
    job = is.job;
    held = is.held;
    online = λ up. let was : IsOnline w.history db = is.online up in record {
      goes_on = was.goes_on;
      anchor = was.anchor;
      holds = (was.holds.0, was.holds.1, was.holds.2, omega (arith, same, was.holds.3));
    };
    fits = is.fits;
  }

  pub open-retouched : kept ≡ db.kept → OpenBy w.history db → OpenBy w.history (retouched db archive kept checkpoint chain began base units)
  unfolding log_of
  open-retouched same is = record { online = is.online; offline = λ off. record { job = (is.offline off).job; transactions = (is.offline off).transactions }; job = is.job; keeps = subst (λ (k : ℕ). IsKept k db.transactions db.job) (sym same) is.keeps }
