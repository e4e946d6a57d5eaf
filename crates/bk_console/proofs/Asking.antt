-- Asking the clock, telling, and what both leave.
use Rattle.std.proofs.Common.{◌≡◌, ◌<◌, inl, inr, ℕ, zero, suc, ◌+◌, List, [], ◌∷◌, length, get_or, None, Result, Ok, Err, refl, sym, ◌∙◌, ap, subst, arith, add_comm}
use Rattle.std.specs.Result.{OnErr}
use Rattle.std.proofs.lemmas.List.{append-nil}
use Rattle.bk_executing.specs.ArchiveMediaLaws.{media-in}
use Rattle.bk_device.specs.Calls.{Elapses, TellsFront, TellsBytes}
use Rattle.bk_device.specs.Compose.{durable_kept, keeps_by_telling, keeps_by_effect}
use Rattle.bk_device.specs.Disk.{Files, Disk, MayLeave}
use Rattle.bk_device.specs.Effects.{Effect, KeepsFiles, LeavesSince}
use Rattle.bk_device.specs.declared.trouble.Trouble.{Trouble}
use Rattle.bk_device.specs.declared.trouble.Trouble.TheVariants as trouble
use Rattle.bk_executing.specs.EngineBesideLaws.{hosting-stays, stores-stand}
use Rattle.bk_executing.specs.EngineCopiedLaws.{copied-files}
use Rattle.bk_executing.specs.EngineStands.{IsOurs, Kept, StandsFor}
use Rattle.bk_executing.specs.EngineTouched.{IsPath, TouchesOnly}
use Rattle.bk_machine.specs.Machine.{behind}
use Rattle.bk_machine.specs.Outcome.{Outcome}
use Rattle.bk_machine.specs.World.{World}
use Rattle.bk_restarts.specs.Crashes.{CutIn}
use Rattle.bk_stores.specs.Standing.{AreStanding}
use Rattle.bk_stores.specs.Stores.{IsOurs as IsOfStores}
use Rattle.bk_executing.specs.EngineRows.{rows_in}
use Rattle.bk_msdb.specs.Laws.{shows_same}
use Rattle.bk_msdb.specs.Msdb.{msdb_file}
use Rattle.bk_volume.specs.Names.{medium_file}
use Rattle.bk_report.specs.Listing.{listing_text}
use Rattle.bk_world.specs.Text.{reply_text}
use Rattle.bk_console.specs.declared.answers.AnswerError.TheVariants.{Console, Broken}
use Rattle.bk_console.specs.Answers.{Asked, NotOurs, CutBefore, CutWithin, HoldsNow, executed_error}

pub OnErr-from : {T E : Type 0} {P : Type 0} → (r : Result T E) → P → OnErr r P
OnErr-from (Ok x) p = tt
OnErr-from (Err e) p = p

pub asked_once : (tells : Type 0) (before after : ℕ → ℕ) (now : ℕ) → (tells → now ≡ before 0) → (tells → (i : ℕ) → after i ≡ before (i + 1)) → Asked tells before after (now ∷ [])
asked_once tells before after now first next = record {
  shown = λ t i lt. one i lt (first t);
  moved = λ t i. next t i ∙ ap before (add_comm i 1);
}
  where
    one : (i : ℕ) → i < length (now ∷ []) → now ≡ before 0 → get_or (now ∷ []) i 0 ≡ before i
    one zero lt e = e
    one (suc i) lt e = absurd (omega (arith, lt))

-- Crashes since some moment.

pub elapses-none : (Now : Files → List ℕ → Type 0) (a : Disk) → Elapses a a Now
elapses-none Now a = record {
  later = omega arith;
  nothing_else = λ since image heard early left. inl left;
  nothing_forgotten = λ since image heard early left. left;
}

pub elapses-then : (First Second Both : Files → List ℕ → Type 0) (a b c : Disk) → ((image : Files) (heard : List ℕ) → First image heard → Both image heard)
    → ((image : Files) (heard : List ℕ) → Second image heard → Both image heard) → Elapses a b First → Elapses b c Second → Elapses a c Both
elapses-then First Second Both a b c one two first second = record {
  later = omega (arith, first.later, second.later);
  nothing_else = λ since image heard early left.
      elim (second.nothing_else since image heard (omega (arith, early, first.later)) left) [
        | inl before ↦ elim (first.nothing_else since image heard early before) [ inl there ↦ inl there | inr here ↦ inr (one image heard here) ]
        | inr here ↦ inr (two image heard here)
      ];
  nothing_forgotten = λ since image heard early left.
      second.nothing_forgotten since image heard (omega (arith, early, first.later)) (first.nothing_forgotten since image heard early left);
}

pub elapses-weaken : (Now Weaker : Files → List ℕ → Type 0) (a b : Disk) → ((image : Files) (heard : List ℕ) → Now image heard → Weaker image heard) → Elapses a b Now → Elapses a b Weaker
elapses-weaken Now Weaker a b weaker one = record {
  later = one.later;
  nothing_else = λ since image heard early left.
      elim (one.nothing_else since image heard early left) [ inl there ↦ inl there | inr here ↦ inr (weaker image heard here) ];
  nothing_forgotten = one.nothing_forgotten;
}

-- what was left since some moment, and then of these calls
pub left-elapses : (entry : ℕ) (Q Now : Files → List ℕ → Type 0) (a b : Disk) → LeavesSince entry Q a → ((image : Files) (heard : List ℕ) → Now image heard → Q image heard) → Elapses a b Now → LeavesSince entry Q b
left-elapses entry Q Now a b since leads one = record {
  later = omega (arith, since.later, one.later);
  each = λ image heard left.
      elim (one.nothing_else entry image heard since.later left) [ inl there ↦ since.each image heard there | inr here ↦ leads image heard here ];
}

-- Telling.

-- what is told leaves the stores standing
pub told-standing : (e : Kept) (before after : Disk) (bytes : List ℕ) → TellsBytes bytes before after → AreStanding before e.hosting.stores → AreStanding after e.hosting.stores
told-standing e before after bytes tells standing = stores-stand e.hosting.stores (keeps_by_telling {names = IsOfStores} tells) standing

-- and the instance on its world
pub told-stands : (e : Kept) (before after : Disk) (w : World) (bytes : List ℕ) → TellsBytes bytes before after → StandsFor before e w → StandsFor after e w
told-stands e before after w bytes tells is = record {
  sound = is.sound;
  instance = is.instance;
  counter = is.counter;
  session = is.session;
  sessions = is.sessions;
  hosted = is.hosted;
  hosts = is.hosts;
  hosting = hosting-stays e.hosting is.hosted (keeps_by_telling {names = IsOfStores} tells) is.hosting;
  media = media-in w None before.files after.files (λ path bytes. tells.files (medium_file path)) is.media;
  calm = record {
    media = λ path bytes. durable_kept {names = λ (name : List ℕ). Unit {0}} (medium_file path) tt (keeps_by_telling tells) (is.calm.media path bytes);
    rows = shows_same before.files after.files (rows_in w) (tells.files msdb_file) is.calm.rows;
    durable = durable_kept {names = λ (name : List ℕ). Unit {0}} msdb_file tt (keeps_by_telling tells) is.calm.durable;
  };
  copied = copied-files before after is.hosted tells.files is.copied;
}

-- One statement.

-- executing it
executing-cut : (w : World) (outcome : Outcome) (a b : Disk) → Effect IsOurs (CutIn w outcome.acts) a b → Elapses a b (CutBefore w outcome a.told)
executing-cut w outcome a b effect = elapses-weaken _ _ a b (λ image heard here. (here.0, here.2)) effect.time

-- and telling nothing of its reply
pub silent-cut : (w : World) (outcome : Outcome) (a b : Disk) → Effect IsOurs (CutIn w outcome.acts) a b → Elapses a b (CutWithin w outcome a.told)
silent-cut w outcome a b effect = elapses-weaken _ _ a b (λ image heard here. inl here) (executing-cut w outcome a b effect)

pub silent-front : (bytes : List ℕ) (a b : Disk) → b.told ≡ a.told → TellsFront bytes a.told b.told
silent-front bytes a b same = (0, same ∙ sym (append-nil a.told))

-- no fault of the console comes from executing
pub not-console : (e : Trouble) → executed_error e ≡ Console → ⊥
not-console trouble.Fault h = cc h
not-console trouble.NoMemory h = cc h
not-console trouble.Broken h = cc h

-- nothing is found broken but by it
pub executed-broken : (e : Trouble) → executed_error e ≡ Broken → e ≡ trouble.Broken
executed-broken trouble.Fault h = absurd cc
executed-broken trouble.NoMemory h = absurd cc
executed-broken trouble.Broken h = refl

-- executing it, and telling some of its reply: the files hold its world meanwhile, but for what waits
pub telling-cut : (w : World) (outcome : Outcome) (bytes : List ℕ) (a b c : Disk) → HoldsNow b (behind w outcome) → b.told ≡ a.told → bytes ≡ reply_text listing_text outcome.reply → Effect IsOurs (CutIn w outcome.acts) a b → TellsBytes bytes b c
    → Elapses a c (CutWithin w outcome a.told)
telling-cut w outcome bytes a b c holds told text effect tells =
    elapses-then _ _ _ a b c (λ image heard here. inl here)
    (λ image heard here. inr (
      holds image (λ name. tells.nothing_more name (image name) (here.0 name)),
      subst (λ bs. TellsFront bs a.told heard) text (subst (λ front. TellsFront bytes front heard) told here.1),
    )) (executing-cut w outcome a b effect) tells.time

-- Files that aren't ours.

pub keeps-touched : {a b : Disk} → TouchesOnly IsPath a b → KeepsFiles NotOurs a b
keeps-touched effect = keeps_by_effect (λ name off at. off at) effect
