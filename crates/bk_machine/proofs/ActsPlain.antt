-- Acts that say nothing leave a sound world: databases go or are based or restored or replaced, and media grow.
use Rattle.std.proofs.Common.{◌≡◌, ◌≤◌, inr, ℕ, Bool, true, false, cond, List, [], ◌∷◌, Option, Some, refl, sym, subst, arith, None}
use Rattle.std.specs.Prelude.{not}
use Rattle.std.specs.List.{AllByRecursion}
use Rattle.std.specs.Str.{bytes_eq}
use Rattle.bk_world.specs.declared.database.Base.{Base}
use Rattle.bk_world.specs.declared.database.State.TheVariants as state
use Rattle.bk_world.specs.declared.database.Status.TheVariants.{Online, Down}
use Rattle.bk_world.specs.declared.header.Header.{Header}
use Rattle.bk_world.specs.Lines.{Grew, MayGoOn}
use Rattle.bk_lemmas.specs.Lists.{all_filter, all_joined}
use Rattle.bk_world.specs.Medium.{Reading, readable, not_media, medium, medium_at, without_medium}
use Rattle.bk_machine.specs.declared.history_row.HistoryRow.{HistoryRow}
use Rattle.bk_machine.specs.Acts.{based, based_on, done, dropped, medium_made, set_drawn, noted, replaced, restored, seated, set_sealed, taken_over, turned, units_in, with_slot, readied}
use Rattle.bk_machine.specs.JobLaws.{without-one}
use Rattle.bk_machine.specs.Sound.{AreDifferent, IsOnce, IsSound, IsSoundLine, IsSoundReading, IsSoundSet, IsSoundSlot, IsWhole, IsWholeDatabase, OpenBy}
use Rattle.bk_machine.specs.World.{World, Database, log_of, most_sessions}
use Rattle.bk_machine.proofs.ActsStay.{Follows, database-stays, lines-stay, media-stay, open-retouched, whole-retouched}
use Rattle.bk_machine.proofs.Histories.{grew-same}
use Rattle.bk_machine.specs.NamedLaws.{all-placed, all-with, all-without, different-placed, different-with, different-without}

-- A world with the history of another: each of its databases could stand in the other, and each of its media.
pub record Plain (old new : World) : Type 0 where
  pub instance : new.instance ≡ old.instance
  pub counter : old.counter ≤ new.counter
  pub history : new.history ≡ old.history
  pub databases : AllByRecursion (IsWholeDatabase old) new.databases
  pub different : AreDifferent new.databases
  pub opens : AllByRecursion (OpenBy old.history) new.databases
  pub media : AllByRecursion (λ (m : List ℕ × Reading). IsSoundReading old m.1) new.media
  pub seat : new.session ≤ most_sessions

pub plain-follows : (old new : World) → Plain old new → Follows old new
plain-follows old new plain = record { instance = plain.instance; counter = plain.counter; grew = subst (λ h. Grew old.history h) (sym plain.history) (grew-same old.history) }

pub plain-sound : (old new : World) → Plain old new → IsWhole old → IsSound new
plain-sound old new plain whole =
    let on : Follows old new = plain-follows old new plain in record {
      whole = record {
        once = subst IsOnce (sym plain.history) whole.once;
        lines = subst (λ h. AllByRecursion (IsSoundLine new) h) (sym plain.history) (lines-stay old new on old.history whole.lines);
        databases = each new.databases plain.databases;
        different = plain.different;
        media = media-stay old new on new.media plain.media;
      };
      opens = subst (λ h. AllByRecursion (OpenBy h) new.databases) (sym plain.history) plain.opens;
      seat = plain.seat;
    }
  where
    goes : (db : Database) → IsWholeDatabase old db → db.status ≡ Online → MayGoOn new.history db.path db.end
    goes db is up = subst (λ h. MayGoOn h db.path db.end) (sym plain.history) (is.online up).goes_on

    each : (dbs : List Database) → AllByRecursion (IsWholeDatabase old) dbs → AllByRecursion (IsWholeDatabase new) dbs
    each [] all = tt
    each (db ∷ dbs) all = (database-stays old new (plain-follows old new plain) db (goes db all.0) all.0, each dbs all.1)

module _ (w : World) (is : IsSound w) where
  -- USE

  turned-plain : (name : Option (List ℕ)) → Plain w (done w (turned name))
  unfolding done
  turned-plain name = record { instance = refl; counter = omega arith; history = refl; databases = is.whole.databases; different = is.whole.different; opens = is.opens; media = is.whole.media; seat = is.seat }

  pub turned-sound : (name : Option (List ℕ)) → IsSound (done w (turned name))
  turned-sound name = plain-sound w (done w (turned name)) (turned-plain name) is.whole

  pub turned-follows : (name : Option (List ℕ)) → Follows w (done w (turned name))
  turned-follows name = plain-follows w (done w (turned name)) (turned-plain name)

  -- another session

  seated-plain : (session : ℕ) → session ≤ most_sessions → Plain w (done w (seated session))
  unfolding done
  seated-plain session seat = record { instance = refl; counter = omega arith; history = refl; databases = is.whole.databases; different = is.whole.different; opens = is.opens; media = is.whole.media; seat = seat }

  pub seated-sound : (session : ℕ) → session ≤ most_sessions → IsSound (done w (seated session))
  seated-sound session seat = plain-sound w (done w (seated session)) (seated-plain session seat) is.whole

  pub seated-follows : (session : ℕ) → session ≤ most_sessions → Follows w (done w (seated session))
  seated-follows session seat = plain-follows w (done w (seated session)) (seated-plain session seat)

  -- `:start`

  readied-plain : (starts : Bool) → Plain w (done w (readied starts))
  unfolding done
  readied-plain starts = record { instance = refl; counter = omega arith; history = refl; databases = is.whole.databases; different = is.whole.different; opens = is.opens; media = is.whole.media; seat = is.seat }

  pub readied-sound : (starts : Bool) → IsSound (done w (readied starts))
  readied-sound starts = plain-sound w (done w (readied starts)) (readied-plain starts) is.whole

  pub readied-follows : (starts : Bool) → Follows w (done w (readied starts))
  readied-follows starts = plain-follows w (done w (readied starts)) (readied-plain starts)

  -- DROP DATABASE

  dropped-plain : (name : List ℕ) → Plain w (done w (dropped name))
  unfolding done
  dropped-plain name = record {
    instance = refl;
    counter = omega arith;
    history = refl;
    databases = all-without (IsWholeDatabase w) w.databases name is.whole.databases;
    different = different-without w.databases name is.whole.different;
    opens = all-without (OpenBy w.history) w.databases name is.opens;
    media = is.whole.media;
    seat = is.seat;
  }

  pub dropped-sound : (name : List ℕ) → IsSound (done w (dropped name))
  dropped-sound name = plain-sound w (done w (dropped name)) (dropped-plain name) is.whole

  pub dropped-follows : (name : List ℕ) → Follows w (done w (dropped name))
  dropped-follows name = plain-follows w (done w (dropped name)) (dropped-plain name)

  -- BACKUP

  without : (path : List ℕ) → AllByRecursion (λ (m : List ℕ × Reading). IsSoundReading w m.1) (without_medium w.media path)
  without path = all_filter (λ (m : List ℕ × Reading). IsSoundReading w m.1) (λ (m : List ℕ × Reading). not (bytes_eq m.0 path)) w.media is.whole.media

  medium_made-plain : (path : List ℕ) → Plain w (done w (medium_made path))
  unfolding done
  medium_made-plain path = record {
    instance = refl;
    counter = omega arith;
    history = refl;
    databases = is.whole.databases;
    different = is.whole.different;
    opens = is.opens;
    media = (tt, without path);
    seat = is.seat;
  }

  pub medium_made-sound : (path : List ℕ) → IsSound (done w (medium_made path))
  medium_made-sound path = plain-sound w (done w (medium_made path)) (medium_made-plain path) is.whole

  pub medium_made-follows : (path : List ℕ) → Follows w (done w (medium_made path))
  medium_made-follows path = plain-follows w (done w (medium_made path)) (medium_made-plain path)

  set_drawn-plain : Plain w (done w set_drawn)
  unfolding done
  set_drawn-plain = record {
    instance = refl;
    counter = omega arith;
    history = refl;
    databases = is.whole.databases;
    different = is.whole.different;
    opens = is.opens;
    media = is.whole.media;
    seat = is.seat;
  }

  pub set_drawn-sound : IsSound (done w set_drawn)
  set_drawn-sound = plain-sound w (done w set_drawn) set_drawn-plain is.whole

  pub set_drawn-follows : Follows w (done w set_drawn)
  set_drawn-follows = plain-follows w (done w set_drawn) set_drawn-plain

  -- rows of msdb

  noted-plain : (row : HistoryRow) → Plain w (done w (noted row))
  unfolding done
  noted-plain row = record {
    instance = refl;
    counter = omega arith;
    history = refl;
    databases = is.whole.databases;
    different = is.whole.different;
    opens = is.opens;
    media = is.whole.media;
    seat = is.seat;
  }

  pub noted-sound : (row : HistoryRow) → IsSound (done w (noted row))
  noted-sound row = plain-sound w (done w (noted row)) (noted-plain row) is.whole

  pub noted-follows : (row : HistoryRow) → Follows w (done w (noted row))
  noted-follows row = plain-follows w (done w (noted row)) (noted-plain row)

  -- the reading at a path with one slot more
  slotted : (header : Header) → IsSoundSet w header → (path : List ℕ) (media : List (List ℕ × Reading)) → AllByRecursion (λ (m : List ℕ × Reading). IsSoundReading w m.1) media
      → IsSoundReading w (with_slot (medium_at media path) (readable header))
  slotted header set path [] all = (set, tt)
  slotted header set path (m ∷ media) all = by (bytes_eq m.0 path) (slotted header set path media all.1)
    where
      here : (r : Reading) → IsSoundReading w r → IsSoundReading w (with_slot (Some r) (readable header))
      here not_media sound = (set, tt)
      here (medium slots) sound = all_joined (IsSoundSlot w) slots (readable header ∷ []) sound (set, tt)

      by : (t : Bool) → IsSoundReading w (with_slot (medium_at media path) (readable header)) → IsSoundReading w (with_slot (cond t (Some m.1) (medium_at media path)) (readable header))
      by true later = here m.1 all.0
      by false later = later

  sealed-plain : (path : List ℕ) (header : Header) → IsSoundSet w header → Plain w (done w (set_sealed path header))
  unfolding done
  sealed-plain path header set = record {
    instance = refl;
    counter = omega arith;
    history = refl;
    databases = is.whole.databases;
    different = is.whole.different;
    opens = is.opens;
    media = (slotted header set path w.media is.whole.media, without path);
    seat = is.seat;
  }

  pub sealed-sound : (path : List ℕ) (header : Header) → IsSoundSet w header → IsSound (done w (set_sealed path header))
  sealed-sound path header set = plain-sound w (done w (set_sealed path header)) (sealed-plain path header set) is.whole

  pub sealed-follows : (path : List ℕ) (header : Header) → IsSoundSet w header → Follows w (done w (set_sealed path header))
  sealed-follows path header set = plain-follows w (done w (set_sealed path header)) (sealed-plain path header set)

  based-plain : (name : List ℕ) (header : Header) → Plain w (done w (based name header))
  unfolding done
  based-plain name header =
      let next : Database → Database = based_on header in record {
        instance = refl;
        counter = omega arith;
        history = refl;
        databases = all-with (IsWholeDatabase w) (IsWholeDatabase w) w.databases name (based_on header) is.whole.databases
            (λ o one. whole-retouched w o (next o).archive o.kept o.checkpoint (next o).chain (next o).began (next o).base o.units refl one) (λ o one. one);
        different = different-with w.databases name (based_on header) (λ o other differ. record { names = differ.names; branches = differ.branches; sets = differ.sets }) is.whole.different;
        opens = all-with (OpenBy w.history) (OpenBy w.history) w.databases name (based_on header) is.opens
            (λ o one. open-retouched w o (next o).archive o.kept o.checkpoint (next o).chain (next o).began (next o).base o.units refl one) (λ o one. one);
        media = is.whole.media;
        seat = is.seat;
      }

  pub based-sound : (name : List ℕ) (header : Header) → IsSound (done w (based name header))
  based-sound name header = plain-sound w (done w (based name header)) (based-plain name header) is.whole

  pub based-follows : (name : List ℕ) (header : Header) → Follows w (done w (based name header))
  based-follows name header = plain-follows w (done w (based name header)) (based-plain name header)

  -- RESTORE

  restored-plain : (name : List ℕ) (base : Option Base) (redo : ℕ) → Plain w (done w (restored name base redo))
  unfolding done
  restored-plain name base redo = record {
    instance = refl;
    counter = omega arith;
    history = refl;
    databases = all-with (IsWholeDatabase w) (IsWholeDatabase w) w.databases name _ is.whole.databases
        (λ o one. whole-retouched w o o.archive o.kept o.checkpoint o.chain o.began o.base (units_in (state.Restoring base redo) o.units) refl one) (λ o one. one);
    different = different-with w.databases name _ (λ o other differ. record { names = differ.names; branches = differ.branches; sets = differ.sets }) is.whole.different;
    opens = all-with (OpenBy w.history) (OpenBy w.history) w.databases name _ is.opens
        (λ o one. open-retouched w o o.archive o.kept o.checkpoint o.chain o.began o.base (units_in (state.Restoring base redo) o.units) refl one) (λ o one. one);
    media = is.whole.media;
    seat = is.seat;
  }

  pub restored-sound : (name : List ℕ) (base : Option Base) (redo : ℕ) → IsSound (done w (restored name base redo))
  restored-sound name base redo = plain-sound w (done w (restored name base redo)) (restored-plain name base redo) is.whole

  pub restored-follows : (name : List ℕ) (base : Option Base) (redo : ℕ) → Follows w (done w (restored name base redo))
  restored-follows name base redo = plain-follows w (done w (restored name base redo)) (restored-plain name base redo)

  -- a set that takes the place of a database, or comes behind the others

  none-online : {A : Type 0} → Down ≡ Online → A
  none-online e = absurd cc

  taken_over-whole : (name : List ℕ) (header : Header) → IsSoundSet w header → IsWholeDatabase w (taken_over name header)
  unfolding log_of
  taken_over-whole name header set = record {
    log = set.log;
    path = set.path;
    starts = set.starts;
    kept = omega arith;
    drawn = set.drawn;
    family = set.family;
    job = tt;
    held = λ k pos lt. inr (set.held k pos lt);
    online = λ up. none-online up;
    fits = set.fits;
  }

  taken_over-open : (name : List ℕ) (header : Header) → OpenBy w.history (taken_over name header)
  taken_over-open name header = record { online = λ up. none-online up; offline = λ off. record { job = refl; transactions = refl }; job = tt; keeps = record { begins = tt; job = tt } }

  replaced-plain : (name : List ℕ) (header : Header) → IsSoundSet w header → Plain w (done w (replaced name header))
  unfolding done
  replaced-plain name header set = record {
    instance = refl;
    counter = omega arith;
    history = refl;
    databases = all-placed (IsWholeDatabase w) (IsWholeDatabase w) w.databases (taken_over name header) is.whole.databases (taken_over-whole name header set) (λ o one. one);
    different = different-placed w.databases (taken_over name header) is.whole.different (λ o apart. record { names = λ same. apart (sym same); branches = λ up. none-online up; sets = λ job some. without-one None job refl some });
    opens = all-placed (OpenBy w.history) (OpenBy w.history) w.databases (taken_over name header) is.opens (taken_over-open name header) (λ o one. one);
    media = is.whole.media;
    seat = is.seat;
  }

  pub replaced-sound : (name : List ℕ) (header : Header) → IsSoundSet w header → IsSound (done w (replaced name header))
  replaced-sound name header set = plain-sound w (done w (replaced name header)) (replaced-plain name header set) is.whole

  pub replaced-follows : (name : List ℕ) (header : Header) → IsSoundSet w header → Follows w (done w (replaced name header))
  replaced-follows name header set = plain-follows w (done w (replaced name header)) (replaced-plain name header set)
