-- Runs, crashes and events leave worlds of logs without loads, and a run of statements comes to outcomes.
use Rattle.std.proofs.Common.{◌≡◌, inr, ℕ, zero, suc, not, List, [], ◌∷◌, take, drop, length, reverse, refl, sym, ap, subst, arith}
use Rattle.std.specs.Prelude.{filter}
use Rattle.std.specs.List.{AllByRecursion, AllZip}
use Rattle.std.specs.Str.{bytes_eq}
use Rattle.bk_items.specs.declared.item.ScriptEntry.{ScriptEntry}
use Rattle.bk_world.specs.Cut.{end_behind, settled}
use Rattle.bk_world.specs.Lines.{Grew, log_below}
use Rattle.bk_lemmas.specs.Lists.{all_both, all_filter, all_front, all_joined}
use Rattle.bk_world.specs.Medium.{Reading, Slot, damaged, medium, no_set, not_media, readable, with_medium, without_medium}
use Rattle.bk_world.specs.Pending.{pending}
use Rattle.bk_world.specs.Records.{Logged, numbered}
use Rattle.bk_world.specs.Says.{settle_said}
use Rattle.bk_world.specs.declared.database.Status.{Status}
use Rattle.bk_world.specs.declared.database.Status.TheVariants.{Online, Standby, Down}
use Rattle.bk_world.specs.declared.database.Unit.{Unit as RestoreUnit}
use Rattle.bk_machine.proofs.SettledSteps.{undoing-plain}
use Rattle.bk_machine.specs.JoinLaws.{rise-line}
use Rattle.bk_machine.specs.Acts.{done_all}
use Rattle.bk_machine.specs.Built.{AreFilesApart, IsBuilt, IsBuiltReading, IsBuiltSlot, IsNoLoad, SayNoLoad}
use Rattle.bk_machine.specs.Crash.{DatabaseLeft, StatusLeft, WorldLeft, cut_between, next_acts, open_begins}
use Rattle.bk_machine.specs.Events.{FileRemoved, MediumAdded, MediumChanged, MediumRemoved, PageDamaged, ReadingChanged, SlotChanged, StandbyRemoved, file_lost, is_page_of, page_lost}
use Rattle.bk_machine.specs.Machine.{May, behind}
use Rattle.bk_machine.specs.Outcome.{Outcome}
use Rattle.bk_machine.specs.Run.{IsRun, behind_all}
use Rattle.bk_machine.specs.Sound.{IsSound, IsSoundReading, IsSoundSlot, IsWhole, files_of_set}
use Rattle.bk_machine.specs.World.{Database, World, empty_world, ended, log_of, opened, restarted, with_database}
use Rattle.bk_machine.proofs.Crashed.{crash-reads, zipped}
use Rattle.bk_machine.proofs.Happened.{of-medium, with_units}
use Rattle.bk_machine.proofs.Joined.{there-grew}
use Rattle.bk_machine.proofs.Lasting.{event-grows}
use Rattle.bk_machine.proofs.Loads.{BuiltIn, acts-built, built-same, databases-built, media-built, media-there, no-load-front, numbered-no-load, reading-built}
use Rattle.bk_machine.specs.NamedLaws.{all-with}
use Rattle.bk_machine.proofs.statements.Each.{statement-comes, statement-does, statement-plain}
use Rattle.bk_machine.proofs.statements.Running.{Within, sound-behind, may-front, within-run}

-- ---- statements and runs

-- behind each front of what a statement comes to
pub front-built : (w : World) (s : ScriptEntry) (now : ℕ) (outcome : Outcome) → IsSound w → IsBuilt w → May w s now outcome → (k : ℕ) → IsBuilt (done_all w (take k outcome.acts))
front-built w s now outcome sound built may k =
    acts-built w (take k outcome.acts) sound built (may-front w outcome.acts k (statement-does w sound s now outcome may)) (no-load-front w outcome.acts k (statement-plain w sound built s now outcome may))

behind-built : (w : World) (s : ScriptEntry) (now : ℕ) (outcome : Outcome) → IsSound w → IsBuilt w → May w s now outcome → IsBuilt (behind w outcome)
behind-built w s now outcome sound built may = acts-built w outcome.acts sound built (statement-does w sound s now outcome may) (statement-plain w sound built s now outcome may)

sound-run-built : (w : World) (statements : List ScriptEntry) (moments : List ℕ) (outcomes : List Outcome) → IsSound w → IsBuilt w → IsRun w statements moments outcomes → IsBuilt (behind_all w outcomes)
sound-run-built w [] [] [] sound built run = built
sound-run-built w [] [] (o ∷ os) sound built run = absurd run
sound-run-built w [] (m ∷ ms) os sound built run = absurd run
sound-run-built w (s ∷ ss) [] os sound built run = absurd run
sound-run-built w (s ∷ ss) (m ∷ ms) [] sound built run = absurd run
sound-run-built w (s ∷ ss) (m ∷ ms) (o ∷ os) sound built run = sound-run-built (behind w o) ss ms os (sound-behind w s m o sound run.0) (behind-built w s m o sound built run.0) run.1

pub run-built : (w : World) (statements : List ScriptEntry) (moments : List ℕ) (outcomes : List Outcome) → IsSound w → IsBuilt w → IsRun w statements moments outcomes → IsBuilt (behind_all w outcomes)
run-built w statements moments outcomes sound built run = sound-run-built w statements moments outcomes sound built run

-- within a run: the world behind some of its outcomes, and what the next one does
record WithinBuilt (w : World) (outcomes : List Outcome) (n : ℕ) : Type 0 where
  built : IsBuilt (behind_all w (take n outcomes))
  none : SayNoLoad (behind_all w (take n outcomes)) (next_acts (drop n outcomes))

within-built : (w : World) (statements : List ScriptEntry) (moments : List ℕ) (outcomes : List Outcome) (n : ℕ) → IsSound w → IsBuilt w → IsRun w statements moments outcomes → WithinBuilt w outcomes n
within-built w [] [] [] zero sound built run = record { built = built; none = tt }
within-built w [] [] [] (suc n) sound built run = record { built = built; none = tt }
within-built w [] [] (o ∷ os) n sound built run = absurd run
within-built w [] (m ∷ ms) os n sound built run = absurd run
within-built w (s ∷ ss) [] os n sound built run = absurd run
within-built w (s ∷ ss) (m ∷ ms) [] n sound built run = absurd run
within-built w (s ∷ ss) (m ∷ ms) (o ∷ os) zero sound built run = record { built = built; none = statement-plain w sound built s m o run.0 }
within-built w (s ∷ ss) (m ∷ ms) (o ∷ os) (suc n) sound built run =
    let later : WithinBuilt (behind w o) os n = within-built (behind w o) ss ms os n (sound-behind w s m o sound run.0) (behind-built w s m o sound built run.0) run.1 in
    record { built = later.built; none = later.none }

-- where a run is cut between two acts
pub between-built : (old : World) (statements : List ScriptEntry) (moments : List ℕ) (outcomes : List Outcome) (n k : ℕ) → IsSound old → IsBuilt old → IsRun old statements moments outcomes → IsBuilt (cut_between old outcomes n k)
between-built old statements moments outcomes n k sound built run =
    let here : Within old outcomes n = within-run old statements moments outcomes n sound run in
    let its : WithinBuilt old outcomes n = within-built old statements moments outcomes n sound built run in
    acts-built (behind_all old (take n outcomes)) (take k (next_acts (drop n outcomes))) here.sound its.built (may-front (behind_all old (take n outcomes)) (next_acts (drop n outcomes)) k here.well.may)
    (no-load-front (behind_all old (take n outcomes)) (next_acts (drop n outcomes)) k its.none)

-- statements at moments come to outcomes, one after another
sound-run-comes : (w : World) (statements : List ScriptEntry) (moments : List ℕ) → IsSound w → IsBuilt w → length moments ≡ length statements → (outcomes : List Outcome) × IsRun w statements moments outcomes
sound-run-comes w [] [] sound built same = ([], tt)
sound-run-comes w [] (m ∷ ms) sound built same = absurd (omega (arith, same))
sound-run-comes w (s ∷ ss) [] sound built same = absurd (omega (arith, same))
sound-run-comes w (s ∷ ss) (m ∷ ms) sound built same =
    let one : (outcome : Outcome) × May w s m outcome = statement-comes w sound built s m in
    let rest : (outcomes : List Outcome) × IsRun (behind w one.0) ss ms outcomes = sound-run-comes (behind w one.0) ss ms (sound-behind w s m one.0 sound one.1) (behind-built w s m one.0 sound built one.1) (omega (arith, same)) in
    (one.0 ∷ rest.0, (one.1, rest.1))

pub run-comes : (w : World) (statements : List ScriptEntry) (moments : List ℕ) → IsSound w → IsBuilt w → length moments ≡ length statements → (outcomes : List Outcome) × IsRun w statements moments outcomes
run-comes w statements moments sound built same = sound-run-comes w statements moments sound built same

-- ---- where a run begins and ends

pub opened-built : (w : World) → IsSound w → IsBuilt w → IsBuilt (opened w)
unfolding opened
opened-built w sound built = record { databases = built.databases; media = media-there w (opened w) refl w.media sound.whole.media built.media }

pub ended-built : (w : World) → IsSound w → IsBuilt w → IsBuilt (ended w)
unfolding ended
ended-built w sound built = record { databases = built.databases; media = media-there w (ended w) refl w.media sound.whole.media built.media }

pub restarted-built : (counter : ℕ) (w : World) → IsSound w → IsBuilt w → IsBuilt (restarted counter w)
unfolding restarted
restarted-built counter w sound built = record { databases = built.databases; media = media-there w (restarted counter w) refl w.media sound.whole.media built.media }

-- ---- crashes

settled-no-load : (rs : List Logged) → AllByRecursion (λ (r : Logged). IsNoLoad r.deed) rs → AllByRecursion (λ (r : Logged). IsNoLoad r.deed) (settled rs)
unfolding settled
settled-no-load rs none =
    all_joined (λ (r : Logged). IsNoLoad r.deed) rs (numbered (end_behind rs) (settle_said (pending rs))) none (numbered-no-load (end_behind rs) (settle_said (pending rs)) (undoing-plain (reverse (pending rs))))

module _ (before whole cut left : World) (is : IsWhole cut) (built : IsBuilt cut) (l : WorldLeft before whole cut left) where
  database-left : (old new : Database) → BuiltIn cut.history old → DatabaseLeft before whole cut left old new → BuiltIn left.history new
  database-left old new was one =
      let files : new.files ≡ old.files = ap (λ (d : Database). d.files) one.same in
      record { apart = subst AreFilesApart (sym files) was.apart; loads = by old.status one.log }
    where
      by : (s : Status) → StatusLeft s before whole cut left (open_begins before old) old new → AllByRecursion (λ (r : Logged). IsNoLoad r.deed) (log_of left.history new)
      by Online is =
          let NoLoads : List Logged → Type 0 = AllByRecursion (λ (r : Logged). IsNoLoad r.deed) in
          subst NoLoads (sym is.log.is) (settled-no-load is.log.kept (all_front (λ (r : Logged). IsNoLoad r.deed) is.log.kept is.log.lost (subst NoLoads is.log.splits was.loads)))
      by (Standby file) is = let NoLoads : List Logged → Type 0 = AllByRecursion (λ (r : Logged). IsNoLoad r.deed) in subst NoLoads (sym is.log) was.loads
      by Down is = let NoLoads : List Logged → Type 0 = AllByRecursion (λ (r : Logged). IsNoLoad r.deed) in subst NoLoads (sym is.log) was.loads

  slot-left : (s : Slot) → IsSoundSlot cut s → IsBuiltSlot cut s → IsBuiltSlot left s
  slot-left (readable header) one its =
      built-same (files_of_set header) (log_below cut.history header.path header.last) (log_below left.history header.path header.last) (crash-reads before whole cut left l is header.path header.last one.held) its
  slot-left (damaged stored found) one its = tt
  slot-left no_set one its = tt

  reading-left : (r : Reading) → IsSoundReading cut r → IsBuiltReading cut r → IsBuiltReading left r
  reading-left not_media one its = tt
  reading-left (medium slots) one its = all_both (IsSoundSlot cut) (IsBuiltSlot cut) (IsBuiltSlot left) slot-left slots one its

  pub crash-built : IsBuilt left
  crash-built =
      let OfMedia : List (List ℕ × Reading) → Type 0 = AllByRecursion (λ (m : List ℕ × Reading). IsBuiltReading left m.1) in record {
        databases = zipped (BuiltIn cut.history) (DatabaseLeft before whole cut left) (BuiltIn left.history) database-left cut.databases left.databases built.databases l.databases;
        media = subst OfMedia (sym l.media)
            (all_both (λ (m : List ℕ × Reading). IsSoundReading cut m.1) (λ (m : List ℕ × Reading). IsBuiltReading cut m.1) (λ (m : List ℕ × Reading). IsBuiltReading left m.1) (λ m. reading-left m.1) cut.media is.media built.media);
      }

-- ---- events

units-built : (old : World) (name : List ℕ) (change : List RestoreUnit → List RestoreUnit) → IsSound old → IsBuilt old → IsBuilt (record old { databases = with_database old.databases name (with_units change) })
unfolding log_of
units-built old name change sound built = record {
  databases = all-with (BuiltIn old.history) (BuiltIn old.history) old.databases name (with_units change) built.databases (λ db is. record { apart = is.apart; loads = is.loads }) (λ db is. is);
  media = media-there old (record old { databases = with_database old.databases name (with_units change) }) refl old.media sound.whole.media built.media;
}

pub page-built : (old new : World) → IsSound old → IsBuilt old → PageDamaged old new → IsBuilt new
page-built old new sound built e = subst IsBuilt (sym e.becomes) (units-built old e.name (page_lost e.file e.page) sound built)

pub file-built : (old new : World) → IsSound old → IsBuilt old → FileRemoved old new → IsBuilt new
file-built old new sound built e = subst IsBuilt (sym e.becomes) (units-built old e.name (λ units. file_lost e.file (filter (λ u. not (is_page_of e.file u.id)) units)) sound built)

pub removed-built : (old new : World) → IsSound old → IsBuilt old → MediumRemoved old new → IsBuilt new
removed-built old new sound built e =
    let later : World = record old { media = without_medium old.media e.path } in
    subst IsBuilt (sym e.becomes) (record {
      databases = built.databases;
      media = all_filter (λ (m : List ℕ × Reading). IsBuiltReading later m.1) (λ (m : List ℕ × Reading). not (bytes_eq m.0 e.path)) old.media (media-there old later refl old.media sound.whole.media built.media);
    })

pub standby-built : (old new : World) → IsSound old → IsBuilt old → StandbyRemoved old new → IsBuilt new
standby-built old new sound built e =
    let later : World = record old { standbys = filter (λ s. not (bytes_eq s e.path)) old.standbys } in
    subst IsBuilt (sym e.becomes) (record { databases = built.databases; media = media-there old later refl old.media sound.whole.media built.media })

-- the slots that stay were there
slots-changed : (w : World) (before slots : List Slot) → AllByRecursion (IsBuiltSlot w) before → AllZip SlotChanged before slots → AllByRecursion (IsBuiltSlot w) slots
slots-changed w [] [] all each = tt
slots-changed w [] (slot ∷ slots) all each = absurd each
slots-changed w (old ∷ before) [] all each = absurd each
slots-changed w (old ∷ before) (slot ∷ slots) all each = (by slot each.0, slots-changed w before slots all.1 each.1)
  where
    by : (s : Slot) → SlotChanged old s → IsBuiltSlot w s
    by (readable header) is = subst (IsBuiltSlot w) is all.0
    by no_set is = tt
    by (damaged stored found) is = tt

slots-front : (w : World) (n : ℕ) (slots : List Slot) → AllByRecursion (IsBuiltSlot w) slots → AllByRecursion (IsBuiltSlot w) (take n slots)
slots-front w zero slots all = tt
slots-front w (suc n) [] all = tt
slots-front w (suc n) (slot ∷ slots) all = (all.0, slots-front w n slots all.1)

reading-changed : (w : World) (before after : Reading) → IsBuiltReading w before → ReadingChanged before after → IsBuiltReading w after
reading-changed w before not_media all is = tt
reading-changed w not_media (medium slots) all is = absurd is
reading-changed w (medium before) (medium slots) all is = slots-changed w (take is.0 before) slots (slots-front w is.0 before all) is.1

pub changed-built : (old new : World) → IsSound old → IsBuilt old → MediumChanged old new → IsBuilt new
changed-built old new sound built e =
    let later : World = record old { media = with_medium old.media e.path e.after } in
    let media : AllByRecursion (λ (m : List ℕ × Reading). IsBuiltReading later m.1) old.media = media-there old later refl old.media sound.whole.media built.media in
    subst IsBuilt (sym e.becomes) (record {
      databases = built.databases;
      media = (
        reading-changed later e.before e.after (of-medium (IsBuiltReading later) old.media e.path e.before media e.there) e.changed,
        all_filter (λ (m : List ℕ × Reading). IsBuiltReading later m.1) (λ (m : List ℕ × Reading). not (bytes_eq m.0 e.path)) old.media media,
      );
    })

-- a medium is added that stood in such a world
pub added-built : (old new : World) → IsSound old → IsBuilt old → (e : MediumAdded old new) → IsBuilt e.other → IsBuilt new
added-built old new sound built e other =
    let later : World = record old { media = (e.path, e.reading) ∷ old.media; history = e.history } in
    let here : Grew old.history e.history = subst (Grew old.history) (ap (λ (w : World). w.history) e.becomes) (event-grows old new sound (inr (inr (inr (inr (inr e)))))) in
    let there : Grew e.other.history e.history = there-grew old.history e.other.history e.history e.joins (λ g. rise-line old old.history g sound.whole.lines) (λ g. rise-line e.other e.other.history g e.was_sound.whole.lines) in
    let reading : IsBuiltReading later e.reading =
    reading-built e.other later there e.reading (of-medium (IsSoundReading e.other) e.other.media e.stood.0 e.reading e.was_sound.whole.media e.stood.1)
    (of-medium (IsBuiltReading e.other) e.other.media e.stood.0 e.reading other.media e.stood.1) in
    subst IsBuilt (sym e.becomes) (record {
      databases = databases-built old later here old.databases sound.whole.databases built.databases;
      media = (reading, media-built old later here old.media sound.whole.media built.media);
    })

pub empty-built : (instance : ℕ) → IsBuilt (empty_world instance)
unfolding empty_world
empty-built instance = record { databases = tt; media = tt }
