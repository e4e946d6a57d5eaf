-- What answering statements does: to the instance, the device, the clock and the told bytes, and what a crash meanwhile leaves.
use Rattle.std.specs.Prelude.{◌≡◌, ◌⊎◌, ◌<◌, ◌≤◌, ℕ, zero, suc, ◌+◌, ◌-◌, Bool, true, false, nat_le, if◌then◌else◌, List, [], ◌∷◌, ◌++◌, length, take, slice_index}
use Rattle.std.specs.List.{list_any}
use Rattle.bk_device.specs.Calls.{Elapses, TellsFront}
use Rattle.bk_device.specs.Disk.{Files, Disk, MayLeave}
use Rattle.bk_device.specs.declared.trouble.Trouble.{Trouble}
use Rattle.bk_device.specs.declared.trouble.Trouble.TheVariants as trouble
use Rattle.bk_executing.specs.Executing.{Executed, Failed}
use Rattle.bk_executing.specs.EngineLoading.{Stands}
use Rattle.bk_executing.specs.EngineStands.{Covers, Kept, StandsFor}
use Rattle.bk_executing.specs.EngineTouched.{IsPath, IsTouched}
use Rattle.bk_items.specs.declared.item.ScriptEntry.{ScriptEntry}
use Rattle.bk_machine.specs.Crash.{Leaves}
use Rattle.bk_machine.specs.Machine.{May, behind}
use Rattle.bk_machine.specs.Outcome.{Outcome}
use Rattle.bk_machine.specs.Run.{IsRun, behind_all, replies_of}
use Rattle.bk_machine.specs.World.{World}
use Rattle.bk_machine.specs.Writes.{ActsWrite, IsStill}
use Rattle.bk_restarts.specs.Crashes.{CutIn}
use Rattle.bk_report.specs.Listing.{listing_text}
use Rattle.bk_world.specs.declared.reply.Reply.{Reply}
use Rattle.bk_world.specs.declared.reply.Reply.TheVariants.{Refused}
use Rattle.bk_world.specs.declared.rule.Rule.{Rule}
use Rattle.bk_world.specs.Text.{reply_text, replies_text}
use Rattle.bk_console.specs.declared.answers.AnswerError.{AnswerError}
use Rattle.bk_console.specs.declared.answers.AnswerError.TheVariants.{Device, NoMemory, Broken}
use Rattle.bk_console.specs.declared.answers.Ended.{Ended}
use Rattle.bk_console.specs.declared.answers.Ended.TheVariants.{AtTheEnd, AtARefusal}
use Rattle.bk_console.specs.Spares.{AreStill, LeavesAlone, NoName, OutcomesWrite, Spares}

-- Refusals.

abbrev pub is_refusal : Reply → Bool
is_refusal (Refused rule) = true
is_refusal _ = false

abbrev pub NoneRefused : List Reply → Type 0
NoneRefused replies = list_any is_refusal replies ≡ false

-- the last reply is a refusal
abbrev pub EndsRefused : List Reply → Type 0
EndsRefused replies = (before : List Reply) × (rule : Rule) × (replies ≡ before ++ Refused rule ∷ [])

-- of so many statements that were begun, none was begun behind a refusal
abbrev pub GoesOnAccepted : ℕ → List Reply → Type 0
GoesOnAccepted begun replies = NoneRefused (take (begun - 1) replies)

-- The clock was asked once for each of these moments, which it showed.
pub record Asked (tells : Type 0) (before after : ℕ → ℕ) (moments : List ℕ) : Type 0 where
  pub shown : tells → (i : ℕ) → i < length moments → slice_index moments i ≡ before i
  pub moved : tells → (i : ℕ) → after i ≡ before (length moments + i)

-- the files that no instance touches
abbrev pub NotOurs : List ℕ → Type 0
NotOurs name = IsTouched IsPath name → ⊥

-- Crashes.

-- a reply with this text, and so many behind it: alone it counts only where its text isn't empty
abbrev pub told_before : List ℕ → ℕ → ℕ
told_before [] zero = 0
told_before [] (suc n) = suc (suc n)
told_before (byte ∷ text) n = suc n

-- how many replies come up to the last one with a text that isn't empty and is whole among the first m bytes that are told
unfoldable pub told_whole : List Reply → ℕ → ℕ
told_whole [] m = 0
told_whole (reply ∷ replies) m =
    if nat_le (length (reply_text listing_text reply)) m then told_before (reply_text listing_text reply) (told_whole replies (m - length (reply_text listing_text reply))) else 0

-- These files, with these bytes told, are left by a crash of a run from this world that came to these outcomes: it did at least the statements up to the last
-- one of whose reply a text was told whole.
pub record LeavesOf (number : ℕ) (first : World) (outcomes : List Outcome) (told : List ℕ) (image : Files) (heard : List ℕ) : Type 0 where
  -- how many bytes were told
  pub count : ℕ
  pub bytes : heard ≡ told ++ take count (replies_text listing_text (replies_of outcomes))
  pub within : count ≤ length (replies_text listing_text (replies_of outcomes))
  -- how many statements were begun
  pub begun : ℕ
  pub few : begun ≤ length outcomes
  -- the world that is left
  pub left : World
  pub leaves : Leaves first (take begun outcomes) (told_whole (replies_of outcomes) count) left
  pub stands : Stands number image left

-- from a world for which the engine stands, under each number that is asked for
abbrev pub CrashLeaves : World → List Outcome → List ℕ → Files → List ℕ → Type 0
CrashLeaves w outcomes told image heard = (number : ℕ) → LeavesOf number w outcomes told image heard

-- what a crash leaves before a reply is told
abbrev pub CutBefore : World → Outcome → List ℕ → Files → List ℕ → Type 0
CutBefore w outcome told image heard = CutIn w outcome.acts image × (heard ≡ told)

-- and what it leaves while a reply is told, or behind that
abbrev pub CutWithin : World → Outcome → List ℕ → Files → List ℕ → Type 0
CutWithin w outcome told image heard = CutBefore w outcome told image heard ⊎ (Covers (behind w outcome) image × TellsFront (reply_text listing_text outcome.reply) told heard)

-- what a crash leaves before anything is done
abbrev pub CutNowhere : World → List ℕ → Files → List ℕ → Type 0
CutNowhere w told image heard = Covers w image × (heard ≡ told)

-- One statement.

-- whatever a crash leaves now is a world, but for what waits
abbrev pub HoldsNow : Disk → World → Type 0
HoldsNow disk w = (image : Files) → MayLeave disk image → Covers w image

-- A statement was executed, and between two calls its world is held.
pub record IsDone (tells : Type 0) (old : Kept) (before : Disk) (s : ScriptEntry) (now : ℕ) (reply : Reply) (new : Kept) (after : Disk) : Type 0 where
  pub executed : Executed tells old before s now reply new after
  pub holds : tells → (w : World) → StandsFor before old w → HoldsNow after (behind w executed.outcome)

-- It failed, and before that its world was held.
pub record IsNotDone (tells : Type 0) (old : Kept) (before : Disk) (s : ScriptEntry) (now : ℕ) (after : Disk) : Type 0 where
  pub failed : Failed tells old before s now after
  pub held : tells → (w : World) → StandsFor before old w → HoldsNow before w

-- A statement was answered: the clock was asked once, and the text of the reply was told, which is a refusal or isn't.
pub record Answered (old new : Kept) (s : ScriptEntry) (clock_tells : Type 0) (before after : ℕ → ℕ) (device_tells : Type 0) (disk disk_after : Disk) (refused : Bool) : Type 0 where
  pub now : ℕ
  pub outcome : Outcome
  pub asked : Asked clock_tells before after (now ∷ [])
  pub may : device_tells → (w : World) → StandsFor disk old w → May w s now outcome
  pub does : device_tells → (w : World) → StandsFor disk old w → StandsFor disk_after new (behind w outcome)
  pub crashes : device_tells → (w : World) → StandsFor disk old w → Elapses disk disk_after (CutWithin w outcome disk.told)
  pub text : device_tells → disk_after.told ≡ disk.told ++ reply_text listing_text outcome.reply
  pub which : refused ≡ is_refusal outcome.reply
  -- where the instance stood for a world: an outcome that stores nothing left all files as they were
  pub still : device_tells → (w : World) → StandsFor disk old w → IsStill outcome → LeavesAlone old disk new disk_after
  -- and no medium was touched but those to which its acts write
  pub spares : device_tells → (w : World) → StandsFor disk old w → Spares (IsTouched (ActsWrite outcome.acts)) disk disk_after

-- It comes to something, and of the text of its reply a front was told.
pub record CutTelling (old : Kept) (s : ScriptEntry) (now : ℕ) (device_tells : Type 0) (disk disk_after : Disk) : Type 0 where
  pub outcome : Outcome
  pub may : device_tells → (w : World) → StandsFor disk old w → May w s now outcome
  pub crashes : device_tells → (w : World) → StandsFor disk old w → Elapses disk disk_after (CutWithin w outcome disk.told)
  pub front : device_tells → TellsFront (reply_text listing_text outcome.reply) disk.told disk_after.told
  pub spares : device_tells → (w : World) → StandsFor disk old w → Spares (IsTouched (ActsWrite outcome.acts)) disk disk_after

-- Nothing was done yet, and nothing was told.
pub record CutExecuting (old : Kept) (device_tells : Type 0) (disk disk_after : Disk) : Type 0 where
  pub crashes : device_tells → (w : World) → StandsFor disk old w → Elapses disk disk_after (CutNowhere w disk.told)
  pub silent : device_tells → disk_after.told ≡ disk.told
  pub spares : device_tells → Spares NoName disk disk_after

-- Answering a statement ended early: the clock was asked once.
pub record CutShort (old : Kept) (s : ScriptEntry) (clock_tells : Type 0) (before after : ℕ → ℕ) (device_tells : Type 0) (disk disk_after : Disk) (has_reply : Type 0) : Type 0 where
  pub now : ℕ
  pub asked : Asked clock_tells before after (now ∷ [])
  pub front : CutTelling old s now device_tells disk disk_after ⊎ ((has_reply → ⊥) × CutExecuting old device_tells disk disk_after)

-- Several.

-- The machine goes from each world for which the instance and its device stand, by this run, to one for which they stand then.
abbrev pub Runs : Kept → Disk → List ScriptEntry → List ℕ → List Outcome → Kept → Disk → Type 0
Runs old disk ss moments outcomes new disk_after = (w : World) → StandsFor disk old w → IsRun w ss moments outcomes × StandsFor disk_after new (behind_all w outcomes)

-- The same without saying what stands then.
abbrev pub MayRun : Kept → Disk → List ScriptEntry → List ℕ → List Outcome → Type 0
MayRun old disk ss moments outcomes = (w : World) → StandsFor disk old w → IsRun w ss moments outcomes

-- A front of a script was answered, one statement after the other; where a refusal stops it there was none.
pub record AnsweredFront (stop : Bool) (old new : Kept) (front : List ScriptEntry) (clock_tells : Type 0) (before after : ℕ → ℕ) (device_tells : Type 0) (disk disk_after : Disk) : Type 0 where
  pub moments : List ℕ
  pub outcomes : List Outcome
  pub each_moment : length moments ≡ length front
  pub each_outcome : length outcomes ≡ length front
  pub asked : Asked clock_tells before after moments
  pub runs : device_tells → Runs old disk front moments outcomes new disk_after
  pub crashes : device_tells → (w : World) → StandsFor disk old w → Elapses disk disk_after (CrashLeaves w outcomes disk.told)
  pub text : device_tells → disk_after.told ≡ disk.told ++ replies_text listing_text (replies_of outcomes)
  pub accepted : stop ≡ true → NoneRefused (replies_of outcomes)
  -- where the instance stood for a world: outcomes that store nothing left all files as they were
  pub still : device_tells → (w : World) → StandsFor disk old w → AreStill outcomes → LeavesAlone old disk new disk_after
  -- and no medium was touched but those to which their acts write
  pub spares : device_tells → (w : World) → StandsFor disk old w → Spares (IsTouched (OutcomesWrite outcomes)) disk disk_after

-- All these statements were.
abbrev pub AnsweredAll : Bool → Kept → Kept → List ScriptEntry → Type 0 → (ℕ → ℕ) → (ℕ → ℕ) → Type 0 → Disk → Disk → Type 0
AnsweredAll stop old new ss = AnsweredFront stop old new ss

-- A front of these statements was answered, and the last of them was the first that was refused, where a refusal stops it.
pub record Stopped (stop : Bool) (old new : Kept) (ss : List ScriptEntry) (clock_tells : Type 0) (before after : ℕ → ℕ) (device_tells : Type 0) (disk disk_after : Disk) : Type 0 where
  pub moments : List ℕ
  pub outcomes : List Outcome
  pub each_moment : length moments ≡ length outcomes
  pub within : length outcomes ≤ length ss
  pub asked : Asked clock_tells before after moments
  pub runs : device_tells → Runs old disk (take (length outcomes) ss) moments outcomes new disk_after
  pub crashes : device_tells → (w : World) → StandsFor disk old w → Elapses disk disk_after (CrashLeaves w outcomes disk.told)
  pub text : device_tells → disk_after.told ≡ disk.told ++ replies_text listing_text (replies_of outcomes)
  pub stops : stop ≡ true
  pub accepted : GoesOnAccepted (length outcomes) (replies_of outcomes)
  pub refused : EndsRefused (replies_of outcomes)
  pub still : device_tells → (w : World) → StandsFor disk old w → AreStill outcomes → LeavesAlone old disk new disk_after
  pub spares : device_tells → (w : World) → StandsFor disk old w → Spares (IsTouched (OutcomesWrite outcomes)) disk disk_after

-- how answering ended
abbrev pub AnsweredBy : Ended → Bool → Kept → Kept → List ScriptEntry → Type 0 → (ℕ → ℕ) → (ℕ → ℕ) → Type 0 → Disk → Disk → Type 0
AnsweredBy AtTheEnd = AnsweredAll
AnsweredBy AtARefusal = Stopped

-- A front of these statements came to outcomes, and of the texts of their replies a front was told. One more may have been begun.
pub record CutAll (stop : Bool) (old : Kept) (ss : List ScriptEntry) (clock_tells : Type 0) (before after : ℕ → ℕ) (device_tells : Type 0) (disk disk_after : Disk) (has_reply : Type 0) : Type 0 where
  pub moments : List ℕ
  pub outcomes : List Outcome
  pub asked_each : (length outcomes ≤ length moments) × (length moments ≤ length outcomes + 1)
  pub within : length outcomes ≤ length ss
  pub asked : Asked clock_tells before after moments
  pub runs : device_tells → MayRun old disk (take (length outcomes) ss) (take (length outcomes) moments) outcomes
  pub crashes : device_tells → (w : World) → StandsFor disk old w → Elapses disk disk_after (CrashLeaves w outcomes disk.told)
  pub front : device_tells → TellsFront (replies_text listing_text (replies_of outcomes)) disk.told disk_after.told
  pub some : has_reply → 0 < length outcomes
  pub accepted : stop ≡ true → GoesOnAccepted (length moments) (replies_of outcomes)
  -- no medium was touched but those to which acts of the outcomes write
  pub spares : device_tells → (w : World) → StandsFor disk old w → Spares (IsTouched (OutcomesWrite outcomes)) disk disk_after

-- why an answer is cut short where executing its statement fails
abbrev pub executed_error : Trouble → AnswerError
executed_error trouble.Fault = Device
executed_error trouble.NoMemory = NoMemory
executed_error trouble.Broken = Broken
