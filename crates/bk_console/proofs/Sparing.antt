-- Which files are left alone by several calls.
use Rattle.std.proofs.Common.{◌≡◌, inl, inr, ℕ, List, [], ◌∷◌, ◌++◌, ap, sym, ◌∙◌}
use Rattle.std.specs.List.{AllByRecursion}
use Rattle.bk_device.specs.Calls.{ChangesNothing, Elapses, TellsBytes, TellsFront}
use Rattle.bk_device.specs.Compose.{keeps_by_effect, keeps_by_nothing, keeps_by_telling, keeps_then}
use Rattle.bk_device.specs.Disk.{Files, Disk, MayLeave}
use Rattle.bk_device.specs.Effects.{Effect, MayLeaveOthers}
use Rattle.bk_device.specs.Laws.{nothing_yet}
use Rattle.bk_executing.specs.EngineStands.{Kept, StandsFor}
use Rattle.bk_executing.specs.EngineTouched.{IsTouched, TouchesOnly}
use Rattle.bk_executing.specs.Executing.{Failed, Rests}
use Rattle.bk_items.specs.declared.item.ScriptEntry.{ScriptEntry}
use Rattle.bk_machine.specs.Acts.{Act, done, done_all, turned, seated, readied, created, dropped, logged, medium_made, set_drawn, noted, set_sealed, based, job_set, jobs_dropped, replaced, restored, recovered}
use Rattle.bk_machine.specs.Machine.{May}
use Rattle.bk_machine.specs.Outcome.{Outcome}
use Rattle.bk_machine.specs.Run.{behind_all}
use Rattle.bk_machine.specs.Sound.{AreIdle}
use Rattle.bk_machine.specs.World.{World}
use Rattle.bk_machine.specs.Writes.{ActsWrite, IsStill, IsTurn}
use Rattle.bk_master.specs.declared.record.Own.{Own}
use Rattle.bk_report.specs.Listing.{listing_text}
use Rattle.bk_world.specs.Text.{reply_text}
use Rattle.bk_console.specs.Answers.{Asked, CutShort, CutWithin, HoldsNow, IsNotDone}
use Rattle.bk_console.specs.Spares.{AreStill, OutcomesWrite, ReservesNone, Spares}
use Rattle.bk_console.proofs.Asking.{elapses-none, elapses-then, elapses-weaken, silent-cut, silent-front}

pub spares-none : {touched : List ℕ → Type 0} (a : Disk) → Spares touched a a
spares-none a = record { files = keeps_by_nothing (nothing_yet a); crashes = elapses-none _ a }

pub spares-then : {touched : List ℕ → Type 0} {a b c : Disk} → Spares touched a b → Spares touched b c → Spares touched a c
spares-then {touched} {a} {b} {c} first second = record {
  files = keeps_then first.files second.files;
  crashes = elapses-then (λ image heard. MayLeaveOthers touched a image) (λ image heard. MayLeaveOthers touched b image) (λ image heard. MayLeaveOthers touched a image) a b c
      (λ image heard others. others) (λ image heard others name off. first.files.nothing_more name off (image name) (others name off)) first.crashes second.crashes;
}

-- more may be touched
pub spares-wider : {touched wider : List ℕ → Type 0} {a b : Disk} → ((name : List ℕ) → touched name → wider name) → Spares touched a b → Spares wider a b
spares-wider {touched} {wider} {a} {b} within one = record {
  files = record {
    same = λ name off. one.files.same name (λ at. off (within name at));
    nothing_more = λ name off. one.files.nothing_more name (λ at. off (within name at));
  };
  crashes = elapses-weaken (λ image heard. MayLeaveOthers touched a image) (λ image heard. MayLeaveOthers wider a image) a b (λ image heard others name off. others name (λ at. off (within name at))) one.crashes;
}

-- by what was done

pub spares-effect : {touched : List ℕ → Type 0} {P : Files → Type 0} {a b : Disk} → Effect touched P a b → Spares touched a b
spares-effect {touched} {P} {a} {b} effect = record {
  files = keeps_by_effect (λ name off at. off at) effect;
  crashes = elapses-weaken (λ image heard. P image × MayLeaveOthers touched a image × (heard ≡ a.told)) (λ image heard. MayLeaveOthers touched a image) a b (λ image heard here. here.1) effect.time;
}

pub spares-nothing : {touched : List ℕ → Type 0} {a b : Disk} → ChangesNothing a b → Spares touched a b
spares-nothing {touched} {a} {b} call = record {
  files = keeps_by_nothing call;
  crashes = elapses-weaken (λ image heard. MayLeave b image × (heard ≡ a.told)) (λ image heard. MayLeaveOthers touched a image) a b (λ image heard here name off. call.nothing_more name (image name) (here.0 name)) call.time;
}

pub spares-telling : {touched : List ℕ → Type 0} {bytes : List ℕ} {a b : Disk} → TellsBytes bytes a b → Spares touched a b
spares-telling {touched} {bytes} {a} {b} call = record {
  files = keeps_by_telling call;
  crashes = elapses-weaken (λ image heard. MayLeave b image × TellsFront bytes a.told heard) (λ image heard. MayLeaveOthers touched a image) a b (λ image heard here name off. call.nothing_more name (image name) (here.0 name)) call.time;
}

-- more media may be
pub spares-more : {written wider : List ℕ → Type 0} {a b : Disk} → ((path : List ℕ) → written path → wider path) → Spares (IsTouched written) a b → Spares (IsTouched wider) a b
spares-more {written} {wider} within one = spares-wider within-touched one
  where
    within-touched : (name : List ℕ) → IsTouched written name → IsTouched wider name
    within-touched name (inl store) = inl store
    within-touched name (inr (inl set)) = inr (inl set)
    within-touched name (inr (inr (inl medium))) = inr (inr (inl (medium.0, within medium.0 medium.1, medium.2, medium.3)))
    within-touched name (inr (inr (inr rows))) = inr (inr (inr rows))

-- One statement more.

pub writes-before : (os more : List Outcome) (path : List ℕ) → OutcomesWrite os path → OutcomesWrite (os ++ more) path
writes-before [] more path writes = absurd writes
writes-before (o ∷ os) more path (inl here) = inl here
writes-before (o ∷ os) more path (inr there) = inr (writes-before os more path there)

pub writes-last : (os : List Outcome) (o : Outcome) (path : List ℕ) → ActsWrite o.acts path → OutcomesWrite (os ++ o ∷ []) path
writes-last [] o path writes = inl writes
writes-last (first ∷ os) o path writes = inr (writes-last os o path writes)

pub still-front : (os : List Outcome) (o : Outcome) → AreStill (os ++ o ∷ []) → AreStill os × IsStill o
still-front [] o all = (tt, all.0)
still-front (first ∷ os) o all = let rest = still-front os o all.1 in ((all.0, rest.0), rest.1)

-- nothing more is open behind acts that touch memory alone
turns-idle : (w : World) (acts : List Act) → AllByRecursion IsTurn acts → AreIdle w → AreIdle (done_all w acts)
unfolding done
turns-idle w [] all idle = idle
turns-idle w (turned name ∷ acts) all idle = turns-idle (done w (turned name)) acts all.1 idle
turns-idle w (seated session ∷ acts) all idle = turns-idle (done w (seated session)) acts all.1 idle
turns-idle w (readied starts ∷ acts) all idle = turns-idle (done w (readied starts)) acts all.1 idle
turns-idle w (created c ∷ acts) all idle = absurd all.0
turns-idle w (dropped name ∷ acts) all idle = absurd all.0
turns-idle w (logged name said transactions ∷ acts) all idle = absurd all.0
turns-idle w (medium_made path ∷ acts) all idle = absurd all.0
turns-idle w (set_drawn ∷ acts) all idle = absurd all.0
turns-idle w (noted row ∷ acts) all idle = absurd all.0
turns-idle w (set_sealed path header ∷ acts) all idle = absurd all.0
turns-idle w (based name header ∷ acts) all idle = absurd all.0
turns-idle w (job_set name job ∷ acts) all idle = absurd all.0
turns-idle w (jobs_dropped ∷ acts) all idle = absurd all.0
turns-idle w (replaced name header ∷ acts) all idle = absurd all.0
turns-idle w (restored name base redo ∷ acts) all idle = absurd all.0
turns-idle w (recovered name r ∷ acts) all idle = absurd all.0

pub still-idle : (w : World) (os : List Outcome) → AreStill os → AreIdle w → AreIdle (behind_all w os)
still-idle w [] all idle = idle
still-idle w (o ∷ os) all idle = still-idle (done_all w o.acts) os all.1 (turns-idle w o.acts all.0 idle)

-- An answer that is cut short.

-- an answer that comes to something, and was told in part
pub cut-in_reply : (old : Kept) (s : ScriptEntry) (ct : Type 0) (before after : ℕ → ℕ) (dt : Type 0) (disk disk_after : Disk) (has_reply : Type 0) (now : ℕ)
    → Asked ct before after (now ∷ []) → (outcome : Outcome) → (dt → (w : World) → StandsFor disk old w → May w s now outcome) → (dt → (w : World) → StandsFor disk old w → Elapses disk disk_after (CutWithin w outcome disk.told))
    → (dt → TellsFront (reply_text listing_text outcome.reply) disk.told disk_after.told) → (dt → (w : World) → StandsFor disk old w → Spares (IsTouched (ActsWrite outcome.acts)) disk disk_after) → CutShort old s ct before after dt disk disk_after has_reply
cut-in_reply old s ct before after dt disk disk_after has_reply now asked outcome may crashes front spares =
    record { now = now; asked = asked; front = inl (record { outcome = outcome; may = may; crashes = crashes; front = front; spares = spares }) }

-- one that wasn't executed
pub cut-before_reply : (old : Kept) (s : ScriptEntry) (ct : Type 0) (before after : ℕ → ℕ) (dt : Type 0) (disk disk_after : Disk) (has_reply : Type 0) (now : ℕ)
    → Asked ct before after (now ∷ []) → (has_reply → ⊥) → IsNotDone dt old disk s now disk_after → (dt → disk_after.told ≡ disk.told) → CutShort old s ct before after dt disk disk_after has_reply
cut-before_reply old s ct before after dt disk disk_after has_reply now asked none not_done silent = by not_done.failed
  where
    by : Failed dt old disk s now disk_after → CutShort old s ct before after dt disk disk_after has_reply
    by (inl nothing) = record {
      now = now;
      asked = asked;
      front = inr (
        none,
        record {
          crashes = λ t w stands. elapses-weaken _ _ disk disk_after (λ image heard here. (not_done.held t w stands image (λ name. (nothing t).nothing_more name (image name) (here.0 name)), here.1)) (nothing t).time;
          silent = silent;
          spares = λ t. spares-nothing (nothing t);
        },
      );
    }
    by (inr off) =
        cut-in_reply old s ct before after dt disk disk_after has_reply now asked off.outcome off.may (λ t w stands. silent-cut w off.outcome disk disk_after (off.crash t w stands))
        (λ t. silent-front (reply_text listing_text off.outcome.reply) disk disk_after (silent t)) (λ t w stands. spares-effect (off.spares t w stands))

-- where the device was left as it was, no GUID was reserved
pub reserves-none : {old new : Kept} {disk disk_after : Disk} → Rests old disk new disk_after → ReservesNone old → ReservesNone new
reserves-none rests exact = ap (λ (o : Own). o.counter) rests.own ∙ exact ∙ sym rests.drawn
