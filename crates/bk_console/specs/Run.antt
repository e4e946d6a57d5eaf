-- The run: what a call of the console read, told and did, and how it ended.
use Rattle.std.specs.Prelude.{◌≡◌, ◌≢◌, ◌⊎◌, ◌<◌, ◌≤◌, ℕ, ◌+◌, true, List, [], ◌∷◌, ◌++◌, length, take, Option, None, Some, Result, Ok, Err, IfErr}
use Rattle.bk_device.specs.Calls.{ChangesNothing, TellsFront}
use Rattle.bk_device.specs.Disk.{Files, Disk, IsSettled, MayLeave}
use Rattle.bk_device.specs.Effects.{KeepsFiles, LeavesSince}
use Rattle.bk_device.specs.declared.trouble.Trouble.{Trouble}
use Rattle.bk_device.specs.declared.trouble.Trouble.TheVariants as trouble
use Rattle.bk_executing.specs.EngineLoading.{Stands}
use Rattle.bk_executing.specs.EngineTouched.{IsTouched}
use Rattle.bk_master.specs.Master.{IsMade, IsNoInstance}
use Rattle.bk_settling.specs.declared.error.SettleError.{SettleError}
use Rattle.bk_settling.specs.declared.error.SettleError.TheVariants as settle
use Rattle.bk_stores.specs.Quiet.{AreQuiet}
use Rattle.bk_stores.specs.declared.error.LoadError.{LoadError}
use Rattle.bk_stores.specs.declared.error.LoadError.TheVariants as load
use Rattle.bk_items.specs.declared.item.ScriptEntry.{ScriptEntry}
use Rattle.bk_machine.specs.Acts.{Act, done_all}
use Rattle.bk_machine.specs.Closing.{AreClosing, closed_by}
use Rattle.bk_machine.specs.Outcome.{Outcome}
use Rattle.bk_machine.specs.Run.{IsRun, behind_all, replies_of}
use Rattle.bk_machine.specs.World.{World, opened, ended}
use Rattle.bk_syntax.specs.Items.{AreItems}
use Rattle.bk_report.specs.Listing.{listing_text}
use Rattle.bk_world.specs.Text.{replies_text}
use Rattle.bk_console.specs.declared.status.Status.{Status}
use Rattle.bk_console.specs.declared.status.Status.TheVariants.{Done, StoppedAtRefusal, Usage, SourceFault, ConsoleFault, DeviceFault, NoMemory, Broken, NotAnInstance, ScriptTooLong}
use Rattle.bk_console.specs.declared.reading.ReadError.{ReadError}
use Rattle.bk_console.specs.declared.reading.ReadError.TheVariants as read
use Rattle.bk_console.specs.declared.answers.AnswerError.{AnswerError}
use Rattle.bk_console.specs.declared.answers.AnswerError.TheVariants as answer
use Rattle.bk_console.specs.declared.answers.Ended.{Ended}
use Rattle.bk_console.specs.declared.answers.Ended.TheVariants.{AtTheEnd, AtARefusal}
use Rattle.bk_console.specs.declared.command_line.WordsError.{WordsError}
use Rattle.bk_console.specs.declared.command_line.WordsError.TheVariants as words
use Rattle.bk_console.specs.Answers.{NotOurs, Asked, NoneRefused, EndsRefused, GoesOnAccepted, LeavesOf}
use Rattle.bk_console.specs.Spares.{AreStill, NoName, RunWrites, Spares}
use Rattle.bk_console.specs.Words.{WordOptions}

-- the exit status
abbrev pub code_of : Status → ℕ
code_of Done = 0
code_of StoppedAtRefusal = 1
code_of Usage = 2
code_of SourceFault = 3
code_of ConsoleFault = 4
code_of DeviceFault = 5
code_of NoMemory = 6
code_of Broken = 6
code_of NotAnInstance = 7
code_of ScriptTooLong = 8

-- how a run ends where the words, the script, an answer, or loading or closing the instance fails
abbrev pub words_status : WordsError → Status
words_status words.Usage = Usage
words_status words.NoMemory = NoMemory

abbrev pub read_status : ReadError → Status
read_status read.TooLong = ScriptTooLong
read_status read.Fault = SourceFault
read_status read.NoMemory = NoMemory

abbrev pub answer_status : AnswerError → Status
answer_status answer.Console = ConsoleFault
answer_status answer.Device = DeviceFault
answer_status answer.NoMemory = NoMemory
answer_status answer.Broken = Broken

abbrev pub load_status : LoadError → Status
load_status load.NotAnInstance = NotAnInstance
load_status load.Broken = Broken
load_status load.Fault = DeviceFault
load_status load.NoMemory = NoMemory

abbrev pub close_status : Trouble → Status
close_status trouble.Fault = DeviceFault
close_status trouble.NoMemory = NoMemory
close_status trouble.Broken = Broken

abbrev pub settle_status : SettleError → Status
settle_status settle.Fault = DeviceFault
settle_status settle.NoMemory = NoMemory

-- how a run ended whose statements were answered
abbrev pub ended_status : Ended → Status
ended_status AtTheEnd = Done
ended_status AtARefusal = StoppedAtRefusal

-- how a run ended
abbrev pub status_of : Result Ended Status → Status
status_of (Ok ended) = ended_status ended
status_of (Err status) = status

-- the greatest length of a script
abbrev pub script_bytes : ℕ
script_bytes = 16777216

-- the words ask to stop at the first refusal
abbrev pub AsksStop : Option WordOptions → Type 0
AsksStop None = ⊥
AsksStop (Some options) = options.stop ≡ true

-- the run that they ask for may begin with this world on these files
abbrev pub MayBegin : Option WordOptions → Files → World → Type 0
MayBegin None files w = ⊥
MayBegin (Some options) files w = Stands options.instance files w

-- the number that they give to an instance which isn't made: none matters where they ask for no run
abbrev pub asked_number : Option WordOptions → ℕ
asked_number None = 0
asked_number (Some options) = options.instance

-- These bytes are the whole source, and the statements are its items.
pub record IsWhole (tells : Type 0) (bytes rest_after : List ℕ) (statements : List ScriptEntry) : Type 0 where
  pub script : AreItems bytes statements
  pub to_its_end : tells → rest_after ≡ []
  pub short : length bytes ≤ script_bytes

-- These files, with these bytes told, are left by a crash of a run, or of its closing by these acts, which is begun once all texts are told.
pub record LeavesRun (number : ℕ) (first : World) (outcomes : List Outcome) (acts : List Act) (told : List ℕ) (image : Files) (heard : List ℕ) : Type 0 where
  -- what was cut
  pub cut : List Outcome
  pub which : (cut ≡ outcomes) ⊎ ((cut ≡ outcomes ++ closed_by acts ∷ []) × (heard ≡ told ++ replies_text listing_text (replies_of outcomes)))
  pub leaves : LeavesOf number first cut told image heard

-- A run from this world that came to these outcomes is closed: what is open is rolled back.
pub record Closes (asks : Option WordOptions) (first : World) (outcomes : List Outcome) (disk disk_after : Disk) (status : ℕ) : Type 0 where
  pub acts : List Act
  pub closing : AreClosing (behind_all first outcomes) acts
  -- at the end the files stand for the world behind that
  pub stands : (status ≡ 0) ⊎ (status ≡ 1) → MayBegin asks disk_after.files (ended (done_all (behind_all first outcomes) acts))
  -- and so does whatever a crash may leave of them then
  pub lasts : (status ≡ 0) ⊎ (status ≡ 1) → (image : Files) → MayLeave disk_after image → MayBegin asks image (ended (done_all (behind_all first outcomes) acts))
  -- each crash meanwhile left what a crash of the run or of its closing leaves, so that the next run with these words may begin with it
  pub crashes : LeavesSince disk.moment (LeavesRun (asked_number asks) first outcomes acts disk.told) disk_after

-- Executing statements, from each world with which the run may begin: the machine's outcomes, what was told of their replies, and what is left.
pub record Executed (asks : Option WordOptions) (statements : List ScriptEntry) (clock_tells : Type 0) (coming coming_after : ℕ → ℕ)
    (device_tells : Type 0) (disk disk_after : Disk) (status : ℕ) : Type 0 where
  -- one moment for each time that the clock was asked
  pub moments : List ℕ
  -- what statements came to, from the first one on
  pub outcomes : List Outcome
  pub asked : Asked clock_tells coming coming_after moments
  pub asked_each : (length outcomes ≤ length moments) × (length moments ≤ length outcomes + 1)
  -- where nothing was pending at entry: the machine's run over a front of the statements
  pub runs : device_tells → IsSettled disk → (w : World) → MayBegin asks disk.files w
      → IsRun (opened w) (take (length outcomes) statements) (take (length outcomes) moments) outcomes
  -- its closing, and what each crash meanwhile left
  pub closes : device_tells → IsSettled disk → (w : World) → MayBegin asks disk.files w → Closes asks (opened w) outcomes disk disk_after status
  -- the instance is made then, also by an empty script
  pub made : device_tells → (status ≡ 0) ⊎ (status ≡ 1) → IsMade disk_after.files
  -- No file was touched but the instance's own and its stores', those of sets that are being written, a medium that was being made at entry, and media to which acts of the
  -- outcomes write: the others are byte for byte as they were, and each crash meanwhile left them so.
  pub spares : device_tells → IsSettled disk → (w : World) → MayBegin asks disk.files w
      → Spares (IsTouched (RunWrites disk.files outcomes)) disk disk_after
  -- Where all that was executed stores nothing, as what is refused, USE, `:session` and SELECT, and nothing was to be finished in the files, no file was touched at all.
  pub still : device_tells → IsSettled disk → (w : World) → MayBegin asks disk.files w → (status ≡ 0) ⊎ (status ≡ 1) → AreQuiet disk.files → AreStill outcomes
      → Spares NoName disk disk_after
  -- whole texts of replies, and then perhaps a front of the next
  pub front : device_tells → TellsFront (replies_text listing_text (replies_of outcomes)) disk.told disk_after.told
  -- where a refusal stops the run, no statement is begun behind one
  pub accepted : AsksStop asks → GoesOnAccepted (length moments) (replies_of outcomes)
  -- at the end every statement has its reply, and all are told whole
  pub done : status ≡ 0 → (length outcomes ≡ length statements) × (length moments ≡ length outcomes)
      × (device_tells → disk_after.told ≡ disk.told ++ replies_text listing_text (replies_of outcomes)) × (AsksStop asks → NoneRefused (replies_of outcomes))
  -- it was asked to stop at a refusal, and the last reply is one; all replies are told whole
  pub stopped : status ≡ 1 → AsksStop asks × EndsRefused (replies_of outcomes) × (length moments ≡ length outcomes)
      × (device_tells → disk_after.told ≡ disk.told ++ replies_text listing_text (replies_of outcomes))
  -- a fault of the console comes where a reply is told
  pub cut : status ≡ 4 → 0 < length outcomes

-- What executing a script over an instance comes to.
pub record Over (options : WordOptions) (script : List ℕ) (clock_tells : Type 0) (coming coming_after : ℕ → ℕ) (device_tells : Type 0) (disk disk_after : Disk) (result : Result Ended Status) : Type 0 where
  pub executed : (statements : List ScriptEntry) → AreItems script statements → Executed (Some options) statements clock_tells coming coming_after device_tells disk disk_after (code_of (status_of result))
  -- how it doesn't end, and when it ends so
  pub begun : (status_of result ≡ Usage) ⊎ (status_of result ≡ SourceFault) ⊎ (status_of result ≡ ScriptTooLong) → ⊥
  pub fails : IfErr result (λ status. (status ≡ Done) ⊎ (status ≡ StoppedAtRefusal) → ⊥)
  pub not_an_instance : device_tells → status_of result ≡ NotAnInstance → IsNoInstance disk.files
  pub no_instance : device_tells → IsNoInstance disk.files → (status_of result ≡ Done) ⊎ (status_of result ≡ StoppedAtRefusal) ⊎ (status_of result ≡ ConsoleFault) → ⊥
  pub unbroken : device_tells → IsSettled disk → (w : World) → Stands options.instance disk.files w → status_of result ≢ Broken
  -- what is left alone
  pub unchanged : device_tells → status_of result ≡ NotAnInstance → ChangesNothing disk disk_after
  pub others : device_tells → KeepsFiles NotOurs disk disk_after

-- A run: what was read, and what was executed of it.
pub record Ran (asks : Option WordOptions) (source_tells : Type 0) (rest rest_after : List ℕ) (clock_tells : Type 0) (coming coming_after : ℕ → ℕ)
    (device_tells : Type 0) (disk disk_after : Disk) (status : ℕ) : Type 0 where
  pub bytes : List ℕ
  pub statements : List ScriptEntry
  -- the bytes that were read, at most one above the limit, which is exactly where the script is too long
  pub read : source_tells → rest ≡ bytes ++ rest_after
  pub few : length bytes ≤ script_bytes + 1
  pub too_long : status ≡ 8 → script_bytes < length bytes
  pub long : script_bytes < length bytes → (status ≡ 8) ⊎ (status ≡ 6)
  pub executed : Executed asks statements clock_tells coming coming_after device_tells disk disk_after status
  -- where a statement was begun, and at the end, they are those of the whole script
  pub whole : (0 < length executed.moments) ⊎ (status ≡ 0) ⊎ (status ≡ 1) → IsWhole source_tells bytes rest_after statements
