-- How a run ends, from what its parts did.
use Rattle.std.proofs.Common.{◌≡◌, ◌⊎◌, ◌<◌, ◌≤◌, ℕ, ◌+◌, true, Bool, List, [], ◌∷◌, ◌++◌, length, take, Option, None, Some, inl, inr, refl, sym, ◌∙◌, ap, subst, arith, Err}
use Rattle.std.specs.Prelude.{IsErrOf}
use Rattle.std.proofs.lemmas.List.{append-nil}
use Rattle.std.proofs.Math.Seq.{take-length}
use Rattle.bk_device.specs.Calls.{ChangesNothing, Elapses}
use Rattle.bk_device.specs.Compose.{left_begins, left_effect, left_weaken}
use Rattle.bk_device.specs.Disk.{Files, Disk, MayLeave, IsSettled, IsLawful}
use Rattle.bk_device.specs.Effects.{Effect, LeavesSince}
use Rattle.bk_device.specs.declared.trouble.Trouble.{Trouble}
use Rattle.bk_device.specs.declared.trouble.Trouble.TheVariants as trouble
use Rattle.bk_executing.specs.EngineLoading.{Leaves, Stands}
use Rattle.bk_executing.specs.EngineStands.{IsOurs, Kept, StandsFor}
use Rattle.bk_executing.specs.EngineTouched.{IsMadeAt, IsPath, IsTouched, NoMedium, TouchesOnly}
use Rattle.bk_executing.specs.Closing.{CutsEnd}
use Rattle.bk_items.specs.declared.item.ScriptEntry.{ScriptEntry}
use Rattle.bk_machine.specs.Acts.{Act, done_all}
use Rattle.bk_machine.specs.Closing.{AreClosing, closed_by}
use Rattle.bk_machine.specs.Outcome.{Outcome}
use Rattle.bk_machine.specs.Sound.{AreIdle, IsSound}
use Rattle.bk_machine.specs.Run.{IsRun, behind_all, replies_of}
use Rattle.bk_machine.specs.World.{World, opened, ended}
use Rattle.bk_master.specs.Master.{IsMade}
use Rattle.bk_master.specs.declared.record.Own.{Own}
use Rattle.bk_restarts.specs.Crashes.{CrashLaws}
use Rattle.bk_stores.specs.Quiet.{AreQuiet}
use Rattle.bk_stores.specs.declared.error.LoadError.{LoadError}
use Rattle.bk_stores.specs.declared.error.LoadError.TheVariants as load
use Rattle.bk_syntax.specs.Items.{AreItems}
use Rattle.bk_report.specs.Listing.{listing_text}
use Rattle.bk_world.specs.Text.{replies_text}
use Rattle.bk_console.specs.declared.reading.ReadError.{ReadError}
use Rattle.bk_console.specs.declared.reading.ReadError.TheVariants.{TooLong, Fault, NoMemory}
use Rattle.bk_console.specs.declared.answers.AnswerError.{AnswerError}
use Rattle.bk_console.specs.declared.answers.AnswerError.TheVariants as answer
use Rattle.bk_console.specs.declared.answers.Ended.{Ended}
use Rattle.bk_console.specs.declared.answers.Ended.TheVariants.{AtTheEnd, AtARefusal}
use Rattle.bk_console.specs.declared.command_line.WordsError.{WordsError}
use Rattle.bk_console.specs.declared.command_line.WordsError.TheVariants as words
use Rattle.bk_console.specs.declared.status.Status.{Status}
use Rattle.bk_console.specs.declared.status.Status.TheVariants as status
use Rattle.bk_console.specs.Answers.{NoneRefused, EndsRefused, GoesOnAccepted, Asked, LeavesOf, CrashLeaves, Runs, AnsweredAll, Stopped, AnsweredBy, CutAll}
use Rattle.bk_console.proofs.Answering.{none-front}
use Rattle.bk_console.proofs.Asking.{left-elapses}
use Rattle.bk_console.proofs.Leaving.{LeavesOf-none, LeavesOf-closing, LeavesOf-ended}
use Rattle.bk_console.specs.Run.{code_of, ended_status, words_status, read_status, answer_status, load_status, close_status, script_bytes, MayBegin, asked_number, IsWhole, LeavesRun, Closes, Executed, Ran}
use Rattle.bk_console.specs.Spares.{AreStill, IsMaking, LeavesAlone, NoName, OutcomesWrite, ReservesNone, RunWrites, Spares}
use Rattle.bk_console.specs.Words.{WordOptions}
use Rattle.bk_console.proofs.Sparing.{spares-effect, spares-more, spares-none, spares-nothing, spares-then, still-idle}

-- Statuses.

not_ended : (n : ℕ) → 1 < n → (n ≡ 0) ⊎ (n ≡ 1) → ⊥
not_ended n above (inl h) = omega (arith, h)
not_ended n above (inr h) = omega (arith, h)

-- What comes only from what is broken.

pub load-broken : (e : LoadError) → load_status e ≡ status.Broken → e ≡ load.Broken
load-broken load.NotAnInstance h = absurd cc
load-broken load.Broken h = refl
load-broken load.Fault h = absurd cc
load-broken load.NoMemory h = absurd cc

pub answer-broken : (e : AnswerError) → answer_status e ≡ status.Broken → e ≡ answer.Broken
answer-broken answer.Console h = absurd cc
answer-broken answer.Device h = absurd cc
answer-broken answer.NoMemory h = absurd cc
answer-broken answer.Broken h = refl

pub close-broken : (e : Trouble) → close_status e ≡ status.Broken → e ≡ trouble.Broken
close-broken trouble.Fault h = cc h
close-broken trouble.NoMemory h = cc h
close-broken trouble.Broken h = refl

-- Worlds.

-- What is known of crashes, and of worlds in which a run begins.
pub record Laws : Type 0 where
  pub crashes : CrashLaws
  pub begins : (w : World) → IsSound w → IsSound (opened w)
  pub begins_idle : (w : World) → AreIdle w → AreIdle (opened w)

-- a world with which the run may begin is sound as it is opened
begin-sound : Laws → (asks : Option WordOptions) (files : Files) (w : World) → MayBegin asks files w → IsSound (opened w)
begin-sound laws None files w may = absurd may
begin-sound laws (Some options) files w may = laws.begins w may.sound

-- where nothing is pending, a crash leaves files that stand for the world with which a run begins
settled-stands : Laws → (number : ℕ) (disk : Disk) (w : World) (image : Files) → IsSettled disk → MayLeave disk image → Stands number disk.files w → Stands number image w
settled-stands laws number disk w image settled left stands = laws.crashes.same number w disk.files image (λ name ours. settled name (image name) (left name)) stands

begin-stands : Laws → (asks : Option WordOptions) (disk : Disk) (w : World) (image : Files) → IsSettled disk → MayLeave disk image → MayBegin asks disk.files w → Stands (asked_number asks) image w
begin-stands laws None disk w image settled left may = absurd may
begin-stands laws (Some options) disk w image settled left may = settled-stands laws options.instance disk w image settled left may

-- the medium that is being made is named in the record that the files hold
made-making : (number : ℕ) (files : Files) (w : World) (is : Stands number files w) (path : List ℕ) → IsMadeAt is.own.making path → IsMaking files path
made-making number files w is path made = elim is.holds [
  | inl new ↦ let none : None ≡ Some path = sym (ap (λ (o : Own). o.making) new.1) ∙ made in absurd cc
  | inr held ↦ (held.record, held.holds.is_record.is, ap (λ (o : Own). o.making) held.is_own ∙ made)
]

-- what a crash of a run leaves one of it and its closing leaves
run-left : (number : ℕ) (first : World) (outcomes : List Outcome) (acts : List Act) (told : List ℕ) (image : Files) (heard : List ℕ) → LeavesOf number first outcomes told image heard → LeavesRun number first outcomes acts told image heard
run-left number first outcomes acts told image heard leaves = record { cut = outcomes; which = inl refl; leaves = leaves }

-- a run that wasn't closed
not-closing : Laws → (asks : Option WordOptions) (w : World) (disk disk1 : Disk) (code : ℕ) → MayBegin asks disk.files w → (statements : List ScriptEntry) (moments : List ℕ) (outcomes : List Outcome)
    → IsRun (opened w) statements moments outcomes → LeavesSince disk.moment (LeavesOf (asked_number asks) (opened w) outcomes disk.told) disk1 → 1 < code → Closes asks (opened w) outcomes disk disk1 code
not-closing laws asks w disk disk1 code may statements moments outcomes run since above =
    let to = laws.crashes.closes (opened w) statements moments outcomes (begin-sound laws asks disk.files w may) run in
    record {
      acts = to.0;
      closing = to.1;
      stands = λ h. absurd (not_ended code above h);
      lasts = λ h. absurd (not_ended code above h);
      crashes = left_weaken (run-left (asked_number asks) (opened w) outcomes to.0 disk.told) since;
    }

-- no statement was begun
pub nothing-executed : Laws → (asks : Option WordOptions) (statements : List ScriptEntry) (ct : Type 0) (coming : ℕ → ℕ) (dt : Type 0) (disk : Disk) (code : ℕ)
    → (dt → IsLawful disk) → 1 < code → (code ≡ 4 → ⊥) → Executed asks statements ct coming coming dt disk disk code
nothing-executed laws asks statements ct coming dt disk code lawful above not_cut = record {
  moments = [];
  outcomes = [];
  asked = record { shown = λ t i lt. absurd (omega (arith, lt)); moved = λ t i. ap coming (omega arith) };
  asked_each = (omega arith, omega arith);
  runs = λ t settled w may. tt;
  closes = λ t settled w may. not-closing laws asks w disk disk code may [] [] [] tt
      (left_begins disk (lawful t) (λ image left. LeavesOf-none laws.crashes (asked_number asks) w [] disk.told image disk.told (begin-stands laws asks disk w image settled left may) refl)) above;
  made = λ t h. absurd (not_ended code above h);
  spares = λ t settled w may. spares-none disk;
  still = λ t settled w may h. absurd (not_ended code above h);
  front = λ t. (0, sym (append-nil disk.told));
  accepted = λ asked. refl;
  done = λ h. absurd (omega (arith, h));
  stopped = λ h. absurd (omega (arith, h));
  cut = λ h. absurd (not_cut h);
}

-- What was answered, wherever it ended.
pub record Came (stop : Bool) (old new : Kept) (ss : List ScriptEntry) (clock_tells : Type 0) (before after : ℕ → ℕ) (device_tells : Type 0) (disk disk_after : Disk) : Type 0 where
  pub moments : List ℕ
  pub outcomes : List Outcome
  pub each : length moments ≡ length outcomes
  pub asked : Asked clock_tells before after moments
  pub runs : device_tells → Runs old disk (take (length outcomes) ss) moments outcomes new disk_after
  pub crashes : device_tells → (w : World) → StandsFor disk old w → Elapses disk disk_after (CrashLeaves w outcomes disk.told)
  pub text : device_tells → disk_after.told ≡ disk.told ++ replies_text listing_text (replies_of outcomes)
  pub accepted : stop ≡ true → GoesOnAccepted (length moments) (replies_of outcomes)
  pub still : device_tells → (w : World) → StandsFor disk old w → AreStill outcomes → LeavesAlone old disk new disk_after
  pub spares : device_tells → (w : World) → StandsFor disk old w → Spares (IsTouched (OutcomesWrite outcomes)) disk disk_after

abbrev pub came-all : (stop : Bool) (old new : Kept) (ss : List ScriptEntry) (ct : Type 0) (before after : ℕ → ℕ) (dt : Type 0) (disk disk1 : Disk)
    → AnsweredAll stop old new ss ct before after dt disk disk1 → Came stop old new ss ct before after dt disk disk1
came-all stop old new ss ct before after dt disk disk1 all = record {
  moments = all.moments;
  outcomes = all.outcomes;
  each = all.each_moment ∙ sym all.each_outcome;
  asked = all.asked;
  runs = λ t. subst (λ xs. Runs old disk xs all.moments all.outcomes new disk1) (sym (ap (λ n. take n ss) all.each_outcome ∙ take-length ss)) (all.runs t);
  crashes = all.crashes;
  text = all.text;
  accepted = λ on. none-front _ (replies_of all.outcomes) (all.accepted on);
  still = all.still;
  spares = all.spares;
}

abbrev pub came-stopped : (stop : Bool) (old new : Kept) (ss : List ScriptEntry) (ct : Type 0) (before after : ℕ → ℕ) (dt : Type 0) (disk disk1 : Disk)
    → Stopped stop old new ss ct before after dt disk disk1 → Came stop old new ss ct before after dt disk disk1
came-stopped stop old new ss ct before after dt disk disk1 there = record {
  moments = there.moments;
  outcomes = there.outcomes;
  each = there.each_moment;
  asked = there.asked;
  runs = there.runs;
  crashes = there.crashes;
  text = there.text;
  accepted = λ on. subst (λ n. GoesOnAccepted n (replies_of there.outcomes)) (sym there.each_moment) there.accepted;
  still = there.still;
  spares = there.spares;
}

abbrev pub came : (end : Ended) (stop : Bool) (old new : Kept) (ss : List ScriptEntry) (ct : Type 0) (before after : ℕ → ℕ) (dt : Type 0) (disk disk1 : Disk)
    → AnsweredBy end stop old new ss ct before after dt disk disk1 → Came stop old new ss ct before after dt disk disk1
came AtTheEnd stop old new ss ct before after dt disk disk1 all = came-all stop old new ss ct before after dt disk disk1 all
came AtARefusal stop old new ss ct before after dt disk disk1 there = came-stopped stop old new ss ct before after dt disk disk1 there

-- What loading an instance did, whether it was loaded or not.
pub record Loads (device_tells : Type 0) (number : ℕ) (disk disk_after : Disk) : Type 0 where
  pub lawful : device_tells → IsLawful disk
  pub crash : device_tells → IsSettled disk → (w : World) → Stands number disk.files w → Effect IsOurs (λ image. Stands number image w) disk disk_after
  pub touches : device_tells → TouchesOnly IsPath disk disk_after
  pub spares : device_tells → IsSettled disk → (w : World) (is : Stands number disk.files w) → TouchesOnly (IsMadeAt is.own.making) disk disk_after

-- What was loaded.
pub record Begins (device_tells : Type 0) (number : ℕ) (disk disk_after : Disk) (start : Kept) : Type 0 where
  pub stands : device_tells → IsSettled disk → (w : World) → Stands number disk.files w → StandsFor disk_after start (opened w)
  pub still : device_tells → IsSettled disk → AreQuiet disk.files → ChangesNothing disk disk_after
  pub exact : ReservesNone start

-- What closing an instance did, whether it was closed or not.
pub record Ends (device_tells : Type 0) (finish : Kept) (disk disk_after : Disk) : Type 0 where
  pub lawful : device_tells → IsLawful disk_after
  pub crash : device_tells → (number : ℕ) (w : World) → StandsFor disk finish w → (acts : List Act) × AreClosing w acts × Effect IsOurs (CutsEnd number w acts) disk disk_after
  pub still : device_tells → ReservesNone finish → (w : World) → StandsFor disk finish w → AreIdle w → ChangesNothing disk disk_after
  pub touches : device_tells → TouchesOnly NoMedium disk disk_after

-- What was closed.
pub record Closed (device_tells : Type 0) (finish : Kept) (disk disk_after : Disk) : Type 0 where
  pub closes : device_tells → (number : ℕ) (w : World) → StandsFor disk finish w
      → (acts : List Act) × AreClosing w acts × Leaves number disk_after (ended (done_all w acts)) × Effect IsOurs (CutsEnd number w acts) disk disk_after
  pub made : device_tells → IsMade disk_after.files

-- Acts close a world, wherever that is cut off; and files stand for the world in which the run has ended, where it was done.
pub record ClosesTo (number : ℕ) (w : World) (was_done : Type 0) (disk disk_after : Disk) : Type 0 where
  pub acts : List Act
  pub closing : AreClosing w acts
  pub cuts : Effect IsOurs (CutsEnd number w acts) disk disk_after
  pub stands : was_done → (image : Files) → MayLeave disk_after image → Stands number image (ended (done_all w acts))

module _ (laws : Laws) (options : WordOptions) (statements : List ScriptEntry) (ct : Type 0) (coming coming_after : ℕ → ℕ) (dt : Type 0) (disk disk1 : Disk) (loads : Loads dt options.instance disk disk1) where
  since-load : dt → IsSettled disk → (w : World) → Stands options.instance disk.files w → (outcomes : List Outcome)
      → LeavesSince disk.moment (LeavesOf options.instance (opened w) outcomes disk.told) disk1
  since-load t settled w stands outcomes = left_effect
      (left_begins disk (loads.lawful t) (λ image left.
      LeavesOf-none laws.crashes options.instance w outcomes disk.told image disk.told (settled-stands laws options.instance disk w image settled left stands) refl))
      (λ image here others.
      LeavesOf-none laws.crashes options.instance w outcomes disk.told image disk.told here refl)
      (loads.crash t settled w stands)

  -- loading may touch a medium that was being made
  spares-load : dt → IsSettled disk → (w : World) → Stands options.instance disk.files w → (os : List Outcome) → Spares (IsTouched (RunWrites disk.files os)) disk disk1
  spares-load t settled w stands os = spares-more (λ path made. inl (made-making options.instance disk.files w stands path made)) (spares-effect (loads.spares t settled w stands))

  -- the instance wasn't loaded
  pub not-loaded : (e : LoadError) → Executed (Some options) statements ct coming coming dt disk disk1 (code_of (load_status e))
  not-loaded e = record {
    moments = [];
    outcomes = [];
    asked = record { shown = λ t i lt. absurd (omega (arith, lt)); moved = λ t i. ap coming (omega arith) };
    asked_each = (omega arith, omega arith);
    runs = λ t settled w may. tt;
    closes = λ t settled w may. not-closing laws (Some options) w disk disk1 (code_of (load_status e)) may [] [] [] tt (since-load t settled w may []) (above e);
    made = λ t h. absurd (not_ended _ (above e) h);
    spares = λ t settled w may. spares-load t settled w may [];
    still = λ t settled w may h. absurd (not_ended _ (above e) h);
    front = λ t. (0, (loads.touches t).told ∙ sym (append-nil disk.told));
    accepted = λ asked. refl;
    done = λ h. absurd (not_ended _ (above e) (inl h));
    stopped = λ h. absurd (not_ended _ (above e) (inr h));
    cut = λ h. absurd (not_cut e h);
  }
    where
      above : (e : LoadError) → 1 < code_of (load_status e)
      above load.NotAnInstance = omega arith
      above load.Broken = omega arith
      above load.Fault = omega arith
      above load.NoMemory = omega arith

      not_cut : (e : LoadError) → code_of (load_status e) ≡ 4 → ⊥
      not_cut load.NotAnInstance h = omega (arith, h)
      not_cut load.Broken h = omega (arith, h)
      not_cut load.Fault h = omega (arith, h)
      not_cut load.NoMemory h = omega (arith, h)

  module _ (disk2 : Disk) (start : Kept) (begins : Begins dt options.instance disk disk1 start) where
    since-answers : dt → IsSettled disk → (w : World) → Stands options.instance disk.files w → (outcomes : List Outcome) → Elapses disk1 disk2 (CrashLeaves (opened w) outcomes disk1.told)
        → LeavesSince disk.moment (LeavesOf options.instance (opened w) outcomes disk.told) disk2
    since-answers t settled w stands outcomes crashes = left-elapses disk.moment _ _ disk1 disk2 (since-load t settled w stands outcomes)
        (λ image heard leaves.
        subst (λ told. LeavesOf options.instance (opened w) outcomes told image heard) (loads.touches t).told (leaves options.instance)) crashes

    -- an answer was cut short
    pub cut-short : (e : AnswerError) → CutAll options.stop start statements ct coming coming_after dt disk1 disk2 (IsErrOf {T = Ended} (Err e) answer.Console)
        → Executed (Some options) statements ct coming coming_after dt disk disk2 (code_of (answer_status e))
    cut-short e cut = record {
      moments = cut.moments;
      outcomes = cut.outcomes;
      asked = cut.asked;
      asked_each = cut.asked_each;
      runs = λ t settled w may. cut.runs t (opened w) (begins.stands t settled w may);
      closes = λ t settled w may.
          let begin = begins.stands t settled w may in
          not-closing laws (Some options) w disk disk2 (code_of (answer_status e)) may _ _ cut.outcomes (cut.runs t (opened w) begin)
          (since-answers t settled w may cut.outcomes (cut.crashes t (opened w) begin)) (above e);
      made = λ t h. absurd (not_ended _ (above e) h);
      spares = λ t settled w may. spares-then (spares-load t settled w may cut.outcomes) (spares-more (λ path writes. inr writes) (cut.spares t (opened w) (begins.stands t settled w may)));
      still = λ t settled w may h. absurd (not_ended _ (above e) h);
      front = λ t. let some = cut.front t in (some.0, some.1 ∙ ap (λ told. told ++ take some.0 (replies_text listing_text (replies_of cut.outcomes))) (loads.touches t).told);
      accepted = cut.accepted;
      done = λ h. absurd (not_ended _ (above e) (inl h));
      stopped = λ h. absurd (not_ended _ (above e) (inr h));
      cut = λ h. cut.some (ap Err (is_console e h));
    }
      where
        above : (e : AnswerError) → 1 < code_of (answer_status e)
        above answer.Console = omega arith
        above answer.Device = omega arith
        above answer.NoMemory = omega arith
        above answer.Broken = omega arith

        is_console : (e : AnswerError) → code_of (answer_status e) ≡ 4 → e ≡ answer.Console
        is_console answer.Console h = refl
        is_console answer.Device h = absurd (omega (arith, h))
        is_console answer.NoMemory h = absurd (omega (arith, h))
        is_console answer.Broken h = absurd (omega (arith, h))

    module _ (disk3 : Disk) (finish : Kept) (there : Came options.stop start finish statements ct coming coming_after dt disk1 disk2) (ends : Ends dt finish disk2 disk3) where
      told-answers : dt → disk2.told ≡ disk.told ++ replies_text listing_text (replies_of there.outcomes)
      told-answers t = there.text t ∙ ap (λ told. told ++ replies_text listing_text (replies_of there.outcomes)) (loads.touches t).told

      told-then : dt → disk3.told ≡ disk.told ++ replies_text listing_text (replies_of there.outcomes)
      told-then t = (ends.touches t).told ∙ told-answers t

      moments-are : take (length there.outcomes) there.moments ≡ there.moments
      moments-are = ap (λ n. take n there.moments) (sym there.each) ∙ take-length there.moments

      -- the run, and the world behind it
      run-there : dt → IsSettled disk → (w : World) → Stands options.instance disk.files w
          → IsRun (opened w) (take (length there.outcomes) statements) there.moments there.outcomes × StandsFor disk2 finish (behind_all (opened w) there.outcomes)
      run-there t settled w stands = there.runs t (opened w) (begins.stands t settled w stands)

      -- a crash while the acts are done that close it, or behind them
      cut-closing : dt → IsSettled disk → (w : World) → Stands options.instance disk.files w → (acts : List Act) → AreClosing (behind_all (opened w) there.outcomes) acts → (image : Files)
          → CutsEnd options.instance (behind_all (opened w) there.outcomes) acts image → LeavesRun options.instance (opened w) there.outcomes acts disk.told image disk2.told
      cut-closing t settled w stands acts closes image here =
          let sound : IsSound (opened w) = laws.begins w stands.sound in
          let run = (run-there t settled w stands).0 in
          record {
            cut = there.outcomes ++ closed_by acts ∷ [];
            which = inr (refl, told-answers t);
            leaves = elim here [
              | inl cut ↦ LeavesOf-closing laws.crashes options.instance (opened w) sound (take (length there.outcomes) statements) there.moments there.outcomes run acts closes disk.told image disk2.told cut (told-answers t)
              | inr end' ↦ LeavesOf-ended laws.crashes options.instance (opened w) sound (take (length there.outcomes) statements) there.moments there.outcomes run acts closes disk.told image disk2.told end' (told-answers t)
            ];
          }

      since-close : dt → (settled : IsSettled disk) (w : World) (stands : Stands options.instance disk.files w) (acts : List Act) → AreClosing (behind_all (opened w) there.outcomes) acts
          → Effect IsOurs (CutsEnd options.instance (behind_all (opened w) there.outcomes) acts) disk2 disk3 → LeavesSince disk.moment (LeavesRun options.instance (opened w) there.outcomes acts disk.told) disk3
      since-close t settled w stands acts closes effect = left_effect
          (left_weaken (run-left options.instance (opened w) there.outcomes acts disk.told)
          (since-answers t settled w stands there.outcomes (there.crashes t (opened w) (begins.stands t settled w stands))))
          (λ image here others. cut-closing t settled w stands acts closes image here)
          effect

      -- statements that were begun were answered
      spares-close : dt → IsSettled disk → (w : World) → Stands options.instance disk.files w → Spares (IsTouched (RunWrites disk.files there.outcomes)) disk disk3
      spares-close t settled w may = spares-then (spares-load t settled w may there.outcomes)
          (spares-then (spares-more (λ path writes. inr writes) (there.spares t (opened w) (begins.stands t settled w may))) (spares-more (λ path no. absurd no) (spares-effect (ends.touches t))))

      -- none of them stored something
      still-close : dt → IsSettled disk → (w : World) → Stands options.instance disk.files w → AreQuiet disk.files → AreStill there.outcomes → Spares NoName disk disk3
      still-close t settled w may quiet all =
          let rests = there.still t (opened w) (begins.stands t settled w may) all in
          let idle : AreIdle (opened w) = laws.begins_idle w (laws.crashes.idle options.instance w disk.files may) in
          spares-then (spares-nothing (begins.still t settled quiet))
          (spares-then rests.files (spares-nothing (ends.still t (rests.reserves begins.exact) (behind_all (opened w) there.outcomes) (run-there t settled w may).1 (still-idle (opened w) there.outcomes all idle))))

      -- the instance was closed, or it failed
      pub ended-by : (code : ℕ) → (code ≡ 4 → ⊥)
          → (dt → (w : World) → StandsFor disk2 finish w → ClosesTo options.instance w ((code ≡ 0) ⊎ (code ≡ 1)) disk2 disk3)
          → (dt → (code ≡ 0) ⊎ (code ≡ 1) → IsMade disk3.files)
          → (code ≡ 0 → (length there.outcomes ≡ length statements) × (options.stop ≡ true → NoneRefused (replies_of there.outcomes)))
          → (code ≡ 1 → (options.stop ≡ true) × EndsRefused (replies_of there.outcomes))
          → Executed (Some options) statements ct coming coming_after dt disk disk3 code
      ended-by code not_cut to_end made all refused = record {
        moments = there.moments;
        outcomes = there.outcomes;
        asked = there.asked;
        asked_each = (omega (arith, there.each), omega (arith, there.each));
        runs = λ t settled w may.
            subst (λ ms. IsRun (opened w) (take (length there.outcomes) statements) ms there.outcomes) (sym moments-are) (run-there t settled w may).0;
        closes = λ t settled w may.
            let last = (run-there t settled w may).1 in
            let to = to_end t (behind_all (opened w) there.outcomes) last in
            record {
              acts = to.acts;
              closing = to.closing;
              stands = λ h. to.stands h disk3.files (ends.lawful t).reads;
              lasts = λ h. to.stands h;
              crashes = since-close t settled w may to.acts to.closing to.cuts;
            };
        made = made;
        spares = spares-close;
        still = λ t settled w may h quiet all. still-close t settled w may quiet all;
        front = λ t. let texts = replies_text listing_text (replies_of there.outcomes) in (length texts, told-then t ∙ ap (λ all. disk.told ++ all) (sym (take-length texts)));
        accepted = there.accepted;
        done = λ h. ((all h).0, there.each, told-then, (all h).1);
        stopped = λ h. ((refused h).0, (refused h).1, there.each, told-then);
        cut = λ h. absurd (not_cut h);
      }

      -- closing failed
      pub not-closed : (e : Trouble) → Executed (Some options) statements ct coming coming_after dt disk disk3 (code_of (close_status e))
      not-closed e = ended-by (code_of (close_status e)) (not_cut e)
          (λ t w stands. let cut = ends.crash t options.instance w stands in record { acts = cut.0; closing = cut.1; cuts = cut.2; stands = λ h. absurd (not_ended _ (above e) h) })
          (λ t h. absurd (not_ended _ (above e) h)) (λ h. absurd (not_ended _ (above e) (inl h))) (λ h. absurd (not_ended _ (above e) (inr h)))
        where
          above : (e : Trouble) → 1 < code_of (close_status e)
          above trouble.Fault = omega arith
          above trouble.NoMemory = omega arith
          above trouble.Broken = omega arith

          not_cut : (e : Trouble) → code_of (close_status e) ≡ 4 → ⊥
          not_cut trouble.Fault h = omega (arith, h)
          not_cut trouble.NoMemory h = omega (arith, h)
          not_cut trouble.Broken h = omega (arith, h)

    -- it was closed
    closed-to : {finish : Kept} {disk3 : Disk} (was_done : Type 0) → dt → Closed dt finish disk2 disk3 → (w : World) → StandsFor disk2 finish w → ClosesTo options.instance w was_done disk2 disk3
    closed-to {finish} {disk3} was_done t closed w stands =
        let one = closed.closes t options.instance w stands in
        record { acts = one.0; closing = one.1; cuts = one.3; stands = λ h image left. one.2 image (λ name ours. left name) }

    -- the statements were answered, and the instance closed
    pub closed-there : (disk3 : Disk) (finish : Kept) (end' : Ended) → AnsweredBy end' options.stop start finish statements ct coming coming_after dt disk1 disk2 → Ends dt finish disk2 disk3 → Closed dt finish disk2 disk3
        → Executed (Some options) statements ct coming coming_after dt disk disk3 (code_of (ended_status end'))
    closed-there disk3 finish AtTheEnd all ends closed =
        ended-by disk3 finish (came-all options.stop start finish statements ct coming coming_after dt disk1 disk2 all) ends 0 (λ h. omega (arith, h))
        (λ t w stands. closed-to _ t closed w stands)
        (λ t h. closed.made t) (λ h. (all.each_outcome, all.accepted)) (λ h. absurd (omega (arith, h)))
    closed-there disk3 finish AtARefusal there ends closed =
        ended-by disk3 finish (came-stopped options.stop start finish statements ct coming coming_after dt disk1 disk2 there) ends 1 (λ h. omega (arith, h))
        (λ t w stands. closed-to _ t closed w stands)
        (λ t h. closed.made t) (λ h. absurd (omega (arith, h))) (λ h. (there.stops, there.refused))

-- Runs.

module _ (laws : Laws) (asks : Option WordOptions) (st : Type 0) (rest rest_after : List ℕ) (ct : Type 0) (coming : ℕ → ℕ) (dt : Type 0) (disk : Disk)
    (lawful : dt → IsLawful disk) where
  -- no statement was begun
  nothing-ran : (code : ℕ) (bytes : List ℕ) → (st → rest ≡ bytes ++ rest_after) → length bytes ≤ script_bytes + 1 → (code ≡ 8 → script_bytes < length bytes)
      → (script_bytes < length bytes → (code ≡ 8) ⊎ (code ≡ 6)) → 1 < code → (code ≡ 4 → ⊥) → Ran asks st rest rest_after ct coming coming dt disk disk code
  unfolding nothing-executed
  nothing-ran code bytes read few too_long long above not_cut = record {
    bytes = bytes;
    statements = [];
    read = read;
    few = few;
    too_long = too_long;
    long = long;
    executed = nothing-executed laws asks [] ct coming dt disk code lawful above not_cut;
    whole = none;
  }
    where
      none : (0 < length (nothing-executed laws asks [] ct coming dt disk code lawful above not_cut).moments) ⊎ (code ≡ 0) ⊎ (code ≡ 1) → IsWhole st bytes rest_after []
      none (inl some) = absurd (omega (arith, some))
      none (inr h) = absurd (not_ended code above h)

  -- the words were refused
  pub refused-words : (e : WordsError) → (st → rest ≡ rest_after) → Ran asks st rest rest_after ct coming coming dt disk disk (code_of (words_status e))
  refused-words words.Usage same = nothing-ran 2 [] same (omega arith) (λ h. absurd (omega (arith, h))) (λ h. absurd (omega (arith, h))) (omega arith) (λ h. omega (arith, h))
  refused-words words.NoMemory same = nothing-ran 6 [] same (omega arith) (λ h. absurd (omega (arith, h))) (λ h. inr refl) (omega arith) (λ h. omega (arith, h))

  -- the script wasn't read whole
  pub failed-reading : (e : ReadError) (bytes : List ℕ) → (st → rest ≡ bytes ++ rest_after) → length bytes ≤ script_bytes + 1 → (e ≡ TooLong → script_bytes < length bytes) → (e ≡ Fault → length bytes ≤ script_bytes)
      → Ran asks st rest rest_after ct coming coming dt disk disk (code_of (read_status e))
  failed-reading TooLong bytes read few more less = nothing-ran 8 bytes read few (λ h. more refl) (λ h. inl refl) (omega arith) (λ h. omega (arith, h))
  failed-reading Fault bytes read few more less = nothing-ran 3 bytes read few (λ h. absurd (omega (arith, h))) (λ h. absurd (omega (arith, h, less refl))) (omega arith) (λ h. omega (arith, h))
  failed-reading NoMemory bytes read few more less = nothing-ran 6 bytes read few (λ h. absurd (omega (arith, h))) (λ h. inr refl) (omega arith) (λ h. omega (arith, h))

-- a status is the one of its number
is_too_long : (s : Status) → code_of s ≡ 8 → s ≡ status.ScriptTooLong
is_too_long status.Done h = absurd (omega (arith, h))
is_too_long status.StoppedAtRefusal h = absurd (omega (arith, h))
is_too_long status.Usage h = absurd (omega (arith, h))
is_too_long status.SourceFault h = absurd (omega (arith, h))
is_too_long status.ConsoleFault h = absurd (omega (arith, h))
is_too_long status.DeviceFault h = absurd (omega (arith, h))
is_too_long status.NoMemory h = absurd (omega (arith, h))
is_too_long status.Broken h = absurd (omega (arith, h))
is_too_long status.NotAnInstance h = absurd (omega (arith, h))
is_too_long status.ScriptTooLong h = refl

-- the statements of the whole script were executed
pub ran-whole : (asks : Option WordOptions) (st : Type 0) (rest rest_after : List ℕ) (ct : Type 0) (coming coming_after : ℕ → ℕ) (dt : Type 0) (disk disk_after : Disk) (s : Status)
    (bytes : List ℕ) (statements : List ScriptEntry) → (st → (rest ≡ bytes) × (rest_after ≡ [])) → length bytes ≤ script_bytes → AreItems bytes statements → (s ≡ status.ScriptTooLong → ⊥)
    → Executed asks statements ct coming coming_after dt disk disk_after (code_of s) → Ran asks st rest rest_after ct coming coming_after dt disk disk_after (code_of s)
ran-whole asks st rest rest_after ct coming coming_after dt disk disk_after s bytes statements whole short script not_long executed = record {
  bytes = bytes;
  statements = statements;
  read = λ t. (whole t).0 ∙ sym (append-nil bytes) ∙ ap (λ r. bytes ++ r) (sym (whole t).1);
  few = omega arith;
  too_long = λ h. absurd (not_long (is_too_long s h));
  long = λ h. absurd (omega (arith, h));
  executed = executed;
  whole = λ _. record { script = script; to_its_end = λ t. (whole t).1; short = short };
}
