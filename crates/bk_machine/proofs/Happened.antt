-- Events keep sound worlds sound, and idle ones idle.
use Rattle.std.proofs.Common.{◌≡◌, ◌<◌, inl, inr, ℕ, zero, suc, Bool, true, false, cond, not, ◌||◌, List, [], ◌∷◌, take, Option, Some, refl, sym, ◌∙◌, ap, subst, arith}
use Rattle.std.specs.Prelude.{filter}
use Rattle.std.specs.List.{AllByRecursion, AllZip}
use Rattle.std.specs.Str.{bytes_eq}
use Rattle.bk_ids.specs.Path.{last_branch}
use Rattle.bk_ids.specs.declared.guid.Guid.{Guid}
use Rattle.bk_world.specs.Lines.{Grew, MayGoOn, RecordLine, RecordLines, has_record_line, line_on}
use Rattle.bk_lemmas.specs.Lists.{all_both, all_filter, all_mapped}
use Rattle.bk_world.specs.Medium.{Reading, Slot, damaged, medium, medium_at, no_set, not_media, readable, with_medium, without_medium}
use Rattle.bk_world.specs.Records.{Logged}
use Rattle.bk_world.specs.declared.database.Status.TheVariants.{Online}
use Rattle.bk_world.specs.declared.database.Unit.{Unit as RestoreUnit}
use Rattle.bk_world.specs.declared.header.Header.{Header}
use Rattle.bk_world.specs.GrowthLaws.{records-grown}
use Rattle.bk_machine.specs.JoinLaws.{rise-line}
use Rattle.bk_machine.specs.Events.{Happen, Happens, IsLatest, Joins, ReadingChanged, ReadingIsNotToCome, SlotChanged, SlotIsNotToCome, file_lost, is_page_of, nothing_more, one_more, page_lost}
use Rattle.bk_machine.specs.Sound.{AreIdle, Differ, IsIdle, IsNotToCome, IsSound, IsSoundLine, IsSoundReading, IsSoundSet, IsSoundSlot, IsWholeDatabase, OpenBy, RiseFrom}
use Rattle.bk_machine.specs.World.{Database, World, with_database}
use Rattle.bk_machine.proofs.ActsStay.{Follows, database-stays, line-stays, lines-stay, media-stay, open-retouched, open-stays, whole-retouched}
use Rattle.bk_machine.proofs.Histories.{grew-same, held-grew}
use Rattle.bk_machine.proofs.Joined.{have-lines, here-grew, joined-rises, not-longer, of-lines, own-line, there-grew}
use Rattle.bk_machine.proofs.Kept.{set-moved, sound-later}
use Rattle.bk_machine.specs.NamedLaws.{all-with, different-with}

-- ---- units change

abbrev pub with_units : (List RestoreUnit → List RestoreUnit) → Database → Database
with_units change db = record db { units = change db.units }

-- a world that goes on with the same history
same-follows : (old new : World) → new.instance ≡ old.instance → new.counter ≡ old.counter → new.history ≡ old.history → Follows old new
same-follows old new instance counter history = record { instance = instance; counter = omega (arith, counter); grew = subst (Grew old.history) (sym history) (grew-same old.history) }

module _ (old : World) (name : List ℕ) (change : List RestoreUnit → List RestoreUnit) where
  changed-whole : (db : Database) → IsWholeDatabase old db → IsWholeDatabase old (with_units change db)
  changed-whole db = whole-retouched old db db.archive db.kept db.checkpoint db.chain db.began db.base (change db.units) refl

  changed-opens : (db : Database) → OpenBy old.history db → OpenBy old.history (with_units change db)
  changed-opens db = open-retouched old db db.archive db.kept db.checkpoint db.chain db.began db.base (change db.units) refl

  changed-differs : (a b : Database) → Differ a b → Differ (with_units change a) b
  changed-differs a b is = record { names = is.names; branches = is.branches; sets = is.sets }

  changed-idle : (db : Database) → IsIdle db → IsIdle (with_units change db)
  changed-idle db is = record { job = is.job; transactions = is.transactions }

  pub units-sound : IsSound old → IsSound (record old { databases = with_database old.databases name (with_units change) })
  units-sound is =
      let new : World = record old { databases = with_database old.databases name (with_units change) } in
      let follows : Follows old new = same-follows old new refl refl refl in
      let later : (db : Database) → IsWholeDatabase old db → IsWholeDatabase new db = λ db one. database-stays old new follows db (λ up. (one.online up).goes_on) one in record {
        whole = record {
          once = is.whole.once;
          lines = lines-stay old new follows old.history is.whole.lines;
          databases = all-with (IsWholeDatabase old) (IsWholeDatabase new) old.databases name (with_units change) is.whole.databases (λ db one. later (with_units change db) (changed-whole db one)) later;
          different = different-with old.databases name (with_units change) changed-differs is.whole.different;
          media = media-stay old new follows old.media is.whole.media;
        };
        opens = all-with (OpenBy old.history) (OpenBy old.history) old.databases name (with_units change) is.opens changed-opens (λ db one. one);
        seat = is.seat;
      }

  pub units-idle : AreIdle old → AreIdle (record old { databases = with_database old.databases name (with_units change) })
  units-idle is = all-with IsIdle IsIdle old.databases name (with_units change) is changed-idle (λ db one. one)

-- ---- media change

module _ (old : World) (media : List (List ℕ × Reading)) (is : IsSound old) (sound : AllByRecursion (λ (m : List ℕ × Reading). IsSoundReading old m.1) media) where
  pub media-sound : IsSound (record old { media = media })
  media-sound =
      let new : World = record old { media = media } in
      let follows : Follows old new = same-follows old new refl refl refl in record {
        whole = record {
          once = is.whole.once;
          lines = lines-stay old new follows old.history is.whole.lines;
          databases = all_mapped (IsWholeDatabase old) (IsWholeDatabase new) (λ db one. database-stays old new follows db (λ up. (one.online up).goes_on) one) old.databases is.whole.databases;
          different = is.whole.different;
          media = media-stay old new follows media sound;
        };
        opens = is.opens;
        seat = is.seat;
      }

-- the medium at a path is one of all
pub of-medium : (P : Reading → Type 0) (media : List (List ℕ × Reading)) (path : List ℕ) (reading : Reading) → AllByRecursion (λ (m : List ℕ × Reading). P m.1) media → medium_at media path ≡ Some reading → P reading
of-medium P [] path reading all is = absurd (cc)
of-medium P (m ∷ media) path reading all is = by (bytes_eq m.0 path) is (of-medium P media path reading all.1)
  where
    by : (t : Bool) → cond t (Some m.1) (medium_at media path) ≡ Some reading → (medium_at media path ≡ Some reading → P reading) → P reading
    by true e later = let same : m.1 ≡ reading = cc in subst P same all.0
    by false e later = later e

-- the slots that stay were there
slots-changed : (w : World) (before slots : List Slot) → AllByRecursion (IsSoundSlot w) before → AllZip SlotChanged before slots → AllByRecursion (IsSoundSlot w) slots
slots-changed w [] [] all each = tt
slots-changed w [] (slot ∷ slots) all each = absurd each
slots-changed w (old ∷ before) [] all each = absurd each
slots-changed w (old ∷ before) (slot ∷ slots) all each = (by slot each.0, slots-changed w before slots all.1 each.1)
  where
    by : (s : Slot) → SlotChanged old s → IsSoundSlot w s
    by (readable header) is = subst (IsSoundSlot w) is all.0
    by no_set is = tt
    by (damaged stored found) is = tt

all-take : (w : World) (n : ℕ) (slots : List Slot) → AllByRecursion (IsSoundSlot w) slots → AllByRecursion (IsSoundSlot w) (take n slots)
all-take w zero slots all = tt
all-take w (suc n) [] all = tt
all-take w (suc n) (slot ∷ slots) all = (all.0, all-take w n slots all.1)

reading-changed : (w : World) (before after : Reading) → IsSoundReading w before → ReadingChanged before after → IsSoundReading w after
reading-changed w before not_media all is = tt
reading-changed w not_media (medium slots) all is = absurd is
reading-changed w (medium before) (medium slots) all is = slots-changed w (take is.0 before) slots (all-take w is.0 before all) is.1

-- ---- a medium is added

module _ (old other : World) (history : RecordLines) (joins : Joins old.history other.history history) (is : IsSound old) (there : IsSound other)
    (latest : AllByRecursion (λ (db : Database). db.status ≡ Online → IsLatest old.history other.history (last_branch db.path)) old.databases)
    (not_to_come : AllByRecursion (λ (line : RecordLine). IsNotToCome old line.branch) other.history) where
  rise_here : (g : Guid) → RiseFrom 0 (line_on old.history g).records
  rise_here g = rise-line old old.history g is.whole.lines

  rise_there : (g : Guid) → RiseFrom 0 (line_on other.history g).records
  rise_there g = rise-line other other.history g there.whole.lines

  grew : Grew old.history history
  grew = here-grew old.history other.history history joins rise_here rise_there

  grew_there : Grew other.history history
  grew_there = there-grew old.history other.history history joins rise_here rise_there

  -- each line of the joined history is sound
  lines-joined : AllByRecursion (IsSoundLine old) history
  lines-joined = each history (own-line history joins.once) (have-lines history)
    where
      drawn : (g : Guid) → has_record_line history g ≡ true → IsNotToCome old g
      drawn g has = by (has_record_line old.history g) refl (sym (joins.lines g) ∙ has)
        where
          by : (t : Bool) → has_record_line old.history g ≡ t → (t || has_record_line other.history g) ≡ true → IsNotToCome old g
          by true here e = of-lines (IsNotToCome old) old.history g (all_mapped (IsSoundLine old) (λ (line : RecordLine). IsNotToCome old line.branch) (λ line one. one.drawn) old.history is.whole.lines) here
          by false here e = of-lines (IsNotToCome old) other.history g not_to_come e

      each : (lines : RecordLines) → AllByRecursion (λ (line : RecordLine). line_on history line.branch ≡ line) lines → AllByRecursion (λ (line : RecordLine). has_record_line history line.branch ≡ true) lines → AllByRecursion (IsSoundLine old) lines
      each [] own has = tt
      each (line ∷ lines) own has = (
        record {
          drawn = drawn line.branch has.0;
          rises = subst (λ (l : RecordLine). RiseFrom 0 l.records) own.0 (joined-rises old.history other.history history joins rise_here rise_there line.branch);
        },
        each lines own.1 has.1,
      )

  -- a database that is online goes on, as nothing came on its last branch
  goes_on-joined : (db : Database) → IsLatest old.history other.history (last_branch db.path) → MayGoOn old.history db.path db.end → MayGoOn history db.path db.end
  goes_on-joined db last on =
      let Latest : Option Guid → Type 0 = IsLatest old.history other.history in
      let stays : (line_on history on.branch).records ≡ (line_on old.history on.branch).records =
      not-longer (line_on old.history on.branch).records (line_on other.history on.branch).records (line_on history on.branch).records (joins.records on.branch) (subst Latest on.last last) in record {
        branch = on.branch;
        last = on.last;
        there = joins.lines on.branch ∙ ap (λ t. t || has_record_line other.history on.branch) on.there;
        starts = on.starts;
        below = subst (λ (rs : List Logged). AllByRecursion (λ r. r.lsn < db.end) rs) (sym stays) on.below;
      }

  follows : Follows old (record old { history = history })
  follows = record { instance = refl; counter = omega arith; grew = grew }

  -- a set of the other world
  set-there : (header : Header) → SlotIsNotToCome old (readable header) → IsSoundSet other header → IsSoundSet (record old { history = history }) header
  set-there header drawn one =
      set-moved other (record old { history = history }) header one (records-grown other.history history grew_there header.path header.last one.log.counts) (held-grew other.history history header.path header.last grew_there one.held)
      drawn.2 drawn.0 drawn.1

  reading-there : (reading : Reading) → ReadingIsNotToCome old reading → IsSoundReading other reading → IsSoundReading (record old { history = history }) reading
  reading-there not_media drawn sound = tt
  reading-there (medium slots) drawn sound = all_both (SlotIsNotToCome old) (IsSoundSlot other) (IsSoundSlot (record old { history = history })) by slots drawn sound
    where
      by : (slot : Slot) → SlotIsNotToCome old slot → IsSoundSlot other slot → IsSoundSlot (record old { history = history }) slot
      by (readable header) one two = set-there header one two
      by (damaged stored found) one two = tt
      by no_set one two = tt

  history-sound : IsSound (record old { history = history })
  history-sound =
      let new : World = record old { history = history } in record {
        whole = record {
          once = joins.once;
          lines = all_mapped (IsSoundLine old) (IsSoundLine new) (line-stays old new follows) history lines-joined;
          databases = all_both (IsWholeDatabase old) (λ (db : Database). db.status ≡ Online → IsLatest old.history other.history (last_branch db.path)) (IsWholeDatabase new)
              (λ db one last. database-stays old new follows db (λ up. goes_on-joined db (last up) (one.online up).goes_on) one) old.databases is.whole.databases latest;
          different = is.whole.different;
          media = media-stay old new follows old.media is.whole.media;
        };
        opens = all_both (IsWholeDatabase old) (OpenBy old.history) (OpenBy history) (open-stays old new follows) old.databases is.whole.databases is.opens;
        seat = is.seat;
      }

  pub added-sound : (path at : List ℕ) (reading : Reading) → medium_at other.media at ≡ Some reading → ReadingIsNotToCome old reading → IsSound (record old { media = (path, reading) ∷ old.media; history = history })
  added-sound path at reading stood drawn =
      let new : World = record old { history = history } in
      let reads : IsSoundReading new reading = reading-there reading drawn (of-medium (IsSoundReading other) other.media at reading there.whole.media stood) in
      media-sound new ((path, reading) ∷ old.media) history-sound (reads, history-sound.whole.media)

-- ---- events

pub event-sound : (old new : World) → IsSound old → Happens old new → IsSound new
event-sound old new is event =
    elim event [
      | inl e ↦ subst IsSound (sym e.becomes) (units-sound old e.name (page_lost e.file e.page) is)
      | inr (inl e) ↦ subst IsSound (sym e.becomes) (units-sound old e.name (λ units. file_lost e.file (filter (λ u. not (is_page_of e.file u.id)) units)) is)
      | inr (inr (inl e)) ↦
          subst IsSound (sym e.becomes) (media-sound old (without_medium old.media e.path) is (all_filter (λ (m : List ℕ × Reading). IsSoundReading old m.1) (λ (m : List ℕ × Reading). not (bytes_eq m.0 e.path)) old.media is.whole.media))
      | inr (inr (inr (inl e))) ↦ subst IsSound (sym e.becomes) (sound-later old (record old { standbys = filter (λ s. not (bytes_eq s e.path)) old.standbys }) (same-follows old _ refl refl refl) refl refl refl is.seat is)
      | inr (inr (inr (inr (inl e)))) ↦
          subst IsSound (sym e.becomes)
          (media-sound old (with_medium old.media e.path e.after) is (
            reading-changed old e.before e.after (of-medium (IsSoundReading old) old.media e.path e.before is.whole.media e.there) e.changed,
            all_filter (λ (m : List ℕ × Reading). IsSoundReading old m.1) (λ (m : List ℕ × Reading). not (bytes_eq m.0 e.path)) old.media is.whole.media,
          ))
      | inr (inr (inr (inr (inr e)))) ↦
          subst IsSound (sym e.becomes) (added-sound old e.other e.history e.joins is e.was_sound e.latest e.not_to_come.1 e.path e.stood.0 e.reading e.stood.1 e.not_to_come.0)
    ]

pub events-sound : (old new : World) → IsSound old → Happen old new → IsSound new
events-sound old new is nothing_more = is
events-sound old new is (one_more {mid = mid} event more) = events-sound mid new (event-sound old mid is event) more

event-idle : (old new : World) → AreIdle old → Happens old new → AreIdle new
event-idle old new is event =
    elim event [
      | inl e ↦ subst AreIdle (sym e.becomes) (units-idle old e.name (page_lost e.file e.page) is)
      | inr (inl e) ↦ subst AreIdle (sym e.becomes) (units-idle old e.name (λ units. file_lost e.file (filter (λ u. not (is_page_of e.file u.id)) units)) is)
      | inr (inr (inl e)) ↦ subst AreIdle (sym e.becomes) is
      | inr (inr (inr (inl e))) ↦ subst AreIdle (sym e.becomes) is
      | inr (inr (inr (inr (inl e)))) ↦ subst AreIdle (sym e.becomes) is
      | inr (inr (inr (inr (inr e)))) ↦ subst AreIdle (sym e.becomes) is
    ]

pub events-idle : (old new : World) → AreIdle old → Happen old new → AreIdle new
events-idle old new is nothing_more = is
events-idle old new is (one_more {mid = mid} event more) = events-idle mid new (event-idle old mid is event) more
