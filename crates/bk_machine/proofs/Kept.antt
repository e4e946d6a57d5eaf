-- What stays sound in a world that goes on with the same history, and in another world.
use Rattle.std.proofs.Common.{◌≡◌, ◌≤◌, ℕ, ◌+◌, List, length, sym, ◌∙◌, ap, subst}
use Rattle.std.specs.List.{AllByRecursion}
use Rattle.bk_ids.specs.declared.path.Branch.{Branch}
use Rattle.bk_world.specs.Lines.{MayGoOn, log_below}
use Rattle.bk_lemmas.specs.Lists.{all_both, all_mapped}
use Rattle.bk_world.specs.Medium.{Reading}
use Rattle.bk_world.specs.Pending.{pending}
use Rattle.bk_world.specs.Records.{Logged}
use Rattle.bk_world.specs.Telling.{model, time}
use Rattle.bk_world.specs.declared.header.Header.{Header}
use Rattle.bk_machine.specs.Checks.{last_number}
use Rattle.bk_machine.specs.Fits.{FitsSet}
use Rattle.bk_machine.specs.Sound.{AreDifferent, IsHeld, IsLog, IsNotToCome, IsOnce, IsSound, IsSoundLine, IsSoundReading, IsSoundSet, IsWhole, IsWholeDatabase, OpenBy, files_of_set, storage_in}
use Rattle.bk_machine.specs.World.{Database, World, most_sessions}
use Rattle.bk_machine.proofs.ActsStay.{Follows, database-stays, lines-stay, media-stay, open-stays}

-- a set whose GUIDs are drawn, and whose log reads the same and is held, is sound in another world
pub set-moved : (old new : World) (header : Header) → IsSoundSet old header → log_below new.history header.path header.last ≡ log_below old.history header.path header.last
    → IsHeld new.history header.path header.last → AllByRecursion (λ (b : Branch). IsNotToCome new b.guid) header.path → IsNotToCome new header.set → IsNotToCome new header.family → IsSoundSet new header
set-moved old new header is same held path set family =
    let OfLog : List Logged → Type 0 = λ rs. IsLog (files_of_set header) rs header.last in record {
      log = subst OfLog (sym same) is.log;
      path = is.path;
      starts = is.starts;
      drawn = path;
      set = set;
      family = family;
      held = held;
      model = is.model ∙ ap model (sym same);
      finish = is.finish ∙ ap time (sym same);
      numbers = subst (λ rs. header.last + (length (pending rs) + 1) ≤ last_number) (sym same) is.numbers;
      fits = subst (FitsSet (storage_in header) header.path) (sym same) is.fits;
    }

-- where history, databases and media are the same, all stays whole and sound
module _ (old new : World) (on : Follows old new) (history : new.history ≡ old.history) (databases : new.databases ≡ old.databases) (media : new.media ≡ old.media) where
  goes : (db : Database) → MayGoOn old.history db.path db.end → MayGoOn new.history db.path db.end
  goes db on = subst (λ lines. MayGoOn lines db.path db.end) (sym history) on

  pub whole-later : IsWhole old → IsWhole new
  whole-later is =
      let OfDatabases : List Database → Type 0 = AllByRecursion (IsWholeDatabase new) in
      let OfMedia : List (List ℕ × Reading) → Type 0 = AllByRecursion (λ (m : List ℕ × Reading). IsSoundReading new m.1) in record {
        once = subst IsOnce (sym history) is.once;
        lines = subst (AllByRecursion (IsSoundLine new)) (sym history) (lines-stay old new on old.history is.lines);
        databases = subst OfDatabases (sym databases) (all_mapped (IsWholeDatabase old) (IsWholeDatabase new) (λ db one. database-stays old new on db (λ up. goes db (one.online up).goes_on) one) old.databases is.databases);
        different = subst AreDifferent (sym databases) is.different;
        media = subst OfMedia (sym media) (media-stay old new on old.media is.media);
      }

  pub sound-later : new.session ≤ most_sessions → IsSound old → IsSound new
  sound-later seat is =
      let OfOpens : List Database → Type 0 = AllByRecursion (OpenBy new.history) in
      record { whole = whole-later is.whole; opens = subst OfOpens (sym databases) (all_both (IsWholeDatabase old) (OpenBy old.history) (OpenBy new.history) (open-stays old new on) old.databases is.whole.databases is.opens); seat = seat }
