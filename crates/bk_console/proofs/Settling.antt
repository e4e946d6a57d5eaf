-- What a run has done stays so where all is made durable behind it.
use Rattle.std.proofs.Common.{◌≡◌, ◌⊎◌, ◌<◌, ℕ, List, [], ◌∷◌, Option, Some, Ok, Err, inl, inr, sym, ◌∙◌, ap, subst, arith}
use Rattle.bk_device.specs.Compose.{keeps_by_effect, keeps_then}
use Rattle.bk_device.specs.Disk.{Files, Disk, IsLawful, IsSettled, MayLeave}
use Rattle.bk_device.specs.Effects.{Effect, KeepsFiles, LeavesSince, MayLeaveOthers}
use Rattle.bk_executing.specs.EngineTouched.{IsPath, IsTouched}
use Rattle.bk_items.specs.declared.item.ScriptEntry.{ScriptEntry}
use Rattle.bk_master.specs.Master.{made_file}
use Rattle.bk_names.specs.Names.{IsOfInstance}
use Rattle.bk_settling.specs.Settling.{Narrows}
use Rattle.bk_settling.specs.declared.error.SettleError.{SettleError}
use Rattle.bk_settling.specs.declared.error.SettleError.TheVariants as settle
use Rattle.bk_console.specs.Answers.{NotOurs}
use Rattle.bk_console.specs.declared.answers.Ended.{Ended}
use Rattle.bk_console.specs.declared.answers.Ended.TheVariants.{AtTheEnd, AtARefusal}
use Rattle.bk_console.specs.declared.status.Status.TheVariants.{Done, StoppedAtRefusal, Usage, SourceFault, ConsoleFault, Broken, NotAnInstance, ScriptTooLong}
use Rattle.bk_console.specs.Run.{code_of, ended_status, settle_status, Executed, Over}
use Rattle.bk_console.specs.Spares.{Spares}
use Rattle.bk_console.specs.Words.{WordOptions}
use Rattle.bk_console.proofs.Asking.{elapses-then, left-elapses}

-- a run isn't at its end
not_ended : (n : ℕ) → 1 < n → (n ≡ 0) ⊎ (n ≡ 1) → ⊥
not_ended n above (inl h) = omega (arith, h)
not_ended n above (inr h) = omega (arith, h)

module _ (disk disk1 disk2 : Disk) (lawful : IsLawful disk1) (later : IsLawful disk2) (narrows : Narrows disk1 disk2) where
  -- what may be left then might have been left before
  left-narrows : (image : Files) → MayLeave disk2 image → MayLeave disk1 image
  left-narrows image left name = narrows.nothing_more name (image name) (left name)

  since-narrows : (Q : Files → List ℕ → Type 0) → LeavesSince disk.moment Q disk1 → LeavesSince disk.moment Q disk2
  since-narrows Q since = left-elapses disk.moment Q (λ image heard. MayLeave disk1 image × (heard ≡ disk1.told)) disk1 disk2 since
      (λ image heard here. since.each image heard (heard-left image heard here))
      narrows.time
    where
      heard-left : (image : Files) (heard : List ℕ) → MayLeave disk1 image × (heard ≡ disk1.told) → disk1.left disk.moment image heard
      heard-left image heard here = subst (λ bytes. disk1.left disk.moment image bytes) (sym here.1) (lawful.counts_now disk.moment image since.later here.0)

  -- what wasn't touched before isn't then: nothing was pending there
  spares-narrows : {touched : List ℕ → Type 0} → IsSettled disk → Spares touched disk disk1 → Spares touched disk disk2
  spares-narrows {touched} settled one = record {
    files = record {
      same = λ name off. settled name (disk2.files name) (one.files.nothing_more name off (disk2.files name) (narrows.nothing_more name (disk2.files name) (later.reads name)));
      nothing_more = λ name off content may. one.files.nothing_more name off content (narrows.nothing_more name content may);
    };
    crashes = elapses-then (λ image heard. MayLeaveOthers touched disk image) (λ image heard. MayLeave disk1 image × (heard ≡ disk1.told)) (λ image heard. MayLeaveOthers touched disk image) disk disk1 disk2
        (λ image heard others. others) (λ image heard here name off. one.files.nothing_more name off (image name) (here.0 name)) one.crashes narrows.time;
  }

module _ (asks : Option WordOptions) (statements : List ScriptEntry) (ct : Type 0) (coming coming_after : ℕ → ℕ) (dt : Type 0) (disk disk1 disk2 : Disk)
    (lawful : dt → IsLawful disk1) (later : dt → IsLawful disk2) (narrows : dt → Narrows disk1 disk2) where
  -- it ended as it did
  pub executed-settled : (code : ℕ) → (dt → (name : List ℕ) → disk2.files name ≡ disk1.files name) → Executed asks statements ct coming coming_after dt disk disk1 code → Executed asks statements ct coming coming_after dt disk disk2 code
  executed-settled code same was = record {
    moments = was.moments;
    outcomes = was.outcomes;
    asked = was.asked;
    asked_each = was.asked_each;
    runs = was.runs;
    closes = λ t settled w may.
        let close = was.closes t settled w may in
        record {
          acts = close.acts;
          closing = close.closing;
          stands = λ h. close.lasts h disk2.files (left-narrows disk disk1 disk2 (lawful t) (later t) (narrows t) disk2.files (later t).reads);
          lasts = λ h image left. close.lasts h image (left-narrows disk disk1 disk2 (lawful t) (later t) (narrows t) image left);
          crashes = since-narrows disk disk1 disk2 (lawful t) (later t) (narrows t) _ close.crashes;
        };
    made = λ t h none. was.made t h (sym (same t made_file) ∙ none);
    spares = λ t settled w may. spares-narrows disk disk1 disk2 (lawful t) (later t) (narrows t) settled (was.spares t settled w may);
    still = λ t settled w may h quiet all. spares-narrows disk disk1 disk2 (lawful t) (later t) (narrows t) settled (was.still t settled w may h quiet all);
    front = λ t. let some = was.front t in (some.0, (narrows t).told ∙ some.1);
    accepted = was.accepted;
    done = λ h. let all = was.done h in (all.0, all.1, λ t. (narrows t).told ∙ all.2 t, all.3);
    stopped = λ h. let all = was.stopped h in (all.0, all.1, all.2, λ t. (narrows t).told ∙ all.3 t);
    cut = was.cut;
  }

  -- it failed at last
  pub executed-failed : (code failed : ℕ) → 1 < failed → (failed ≡ 4 → ⊥) → Executed asks statements ct coming coming_after dt disk disk1 code → Executed asks statements ct coming coming_after dt disk disk2 failed
  executed-failed code failed above not_cut was = record {
    moments = was.moments;
    outcomes = was.outcomes;
    asked = was.asked;
    asked_each = was.asked_each;
    runs = was.runs;
    closes = λ t settled w may.
        let close = was.closes t settled w may in
        record {
          acts = close.acts;
          closing = close.closing;
          stands = λ h. absurd (not_ended failed above h);
          lasts = λ h. absurd (not_ended failed above h);
          crashes = since-narrows disk disk1 disk2 (lawful t) (later t) (narrows t) _ close.crashes;
        };
    made = λ t h. absurd (not_ended failed above h);
    spares = λ t settled w may. spares-narrows disk disk1 disk2 (lawful t) (later t) (narrows t) settled (was.spares t settled w may);
    still = λ t settled w may h. absurd (not_ended failed above h);
    front = λ t. let some = was.front t in (some.0, (narrows t).told ∙ some.1);
    accepted = was.accepted;
    done = λ h. absurd (not_ended failed above (inl h));
    stopped = λ h. absurd (not_ended failed above (inr h));
    cut = λ h. absurd (not_cut h);
  }

-- an instance's names are among those that it may touch
ours-touched : (name : List ℕ) → IsOfInstance name → IsTouched IsPath name
ours-touched name (inl master) = inl (inl master)
ours-touched name (inr (inl log)) = inl (inr (log.0, [], inl log.1))
ours-touched name (inr (inr (inl side))) = inl (inr (side.0, [], inr (inl side.1)))
ours-touched name (inr (inr (inr (inl data')))) = inl (inr (0, (record { path = data'.0; pages = 0 }) ∷ [], inr (inr (1, ap Some (sym data'.1)))))
ours-touched name (inr (inr (inr (inr (inl medium))))) = inr (inr (inl (medium.0, tt, medium.1, medium.2)))
ours-touched name (inr (inr (inr (inr (inr (inl staging)))))) = inr (inl staging)
ours-touched name (inr (inr (inr (inr (inr (inr rows)))))) = inr (inr (inr rows))

pub keeps-ours : {P : Files → Type 0} {a b : Disk} → Effect IsOfInstance P a b → KeepsFiles NotOurs a b
keeps-ours effect = keeps_by_effect (λ name off own. off (ours-touched name own)) effect

-- a run that came to its end isn't one over no instance
ended-instance : (end' : Ended) → ended_status end' ≡ NotAnInstance → ⊥
ended-instance AtTheEnd is = cc is
ended-instance AtARefusal is = cc is

module _ (options : WordOptions) (script : List ℕ) (ct : Type 0) (coming coming_after : ℕ → ℕ) (dt : Type 0) (disk disk1 disk2 : Disk)
    (lawful : dt → IsLawful disk1) (later : dt → IsLawful disk2) (narrows : dt → Narrows disk1 disk2) (end' : Ended) (over : Over options script ct coming coming_after dt disk disk1 (Ok end')) (others : dt → KeepsFiles NotOurs disk1 disk2) where
  -- all was made durable
  pub over-settled : (dt → (name : List ℕ) → disk2.files name ≡ disk1.files name) → Over options script ct coming coming_after dt disk disk2 (Ok end')
  over-settled same = record {
    executed = λ ss are. executed-settled (Some options) ss ct coming coming_after dt disk disk1 disk2 lawful later narrows (code_of (ended_status end')) same (over.executed ss are);
    begun = over.begun;
    fails = tt;
    not_an_instance = over.not_an_instance;
    no_instance = over.no_instance;
    unbroken = over.unbroken;
    unchanged = λ t is. absurd (ended-instance end' is);
    others = λ t. keeps_then (over.others t) (others t);
  }

  -- it wasn't
  pub over-failed : (e : SettleError) → Over options script ct coming coming_after dt disk disk2 (Err (settle_status e))
  over-failed e = record {
    executed = λ ss are. executed-failed (Some options) ss ct coming coming_after dt disk disk1 disk2 lawful later narrows (code_of (ended_status end')) (code_of (settle_status e)) (above e) (not_cut e) (over.executed ss are);
    begun = begun e;
    fails = fails e;
    not_an_instance = λ t is. absurd (instance e is);
    no_instance = λ t none. no_instance e;
    unbroken = λ t settled w stands. unbroken e;
    unchanged = λ t is. absurd (instance e is);
    others = λ t. keeps_then (over.others t) (others t);
  }
    where
      above : (e : SettleError) → 1 < code_of (settle_status e)
      above settle.Fault = omega arith
      above settle.NoMemory = omega arith

      not_cut : (e : SettleError) → code_of (settle_status e) ≡ 4 → ⊥
      not_cut settle.Fault h = omega (arith, h)
      not_cut settle.NoMemory h = omega (arith, h)

      instance : (e : SettleError) → settle_status e ≡ NotAnInstance → ⊥
      instance settle.Fault h = cc h
      instance settle.NoMemory h = cc h

      unbroken : (e : SettleError) → settle_status e ≡ Broken → ⊥
      unbroken settle.Fault h = cc h
      unbroken settle.NoMemory h = cc h

      begun : (e : SettleError) → (settle_status e ≡ Usage) ⊎ (settle_status e ≡ SourceFault) ⊎ (settle_status e ≡ ScriptTooLong) → ⊥
      begun settle.Fault (inl h) = cc h
      begun settle.Fault (inr (inl h)) = cc h
      begun settle.Fault (inr (inr h)) = cc h
      begun settle.NoMemory (inl h) = cc h
      begun settle.NoMemory (inr (inl h)) = cc h
      begun settle.NoMemory (inr (inr h)) = cc h

      fails : (e : SettleError) → (settle_status e ≡ Done) ⊎ (settle_status e ≡ StoppedAtRefusal) → ⊥
      fails settle.Fault (inl h) = cc h
      fails settle.Fault (inr h) = cc h
      fails settle.NoMemory (inl h) = cc h
      fails settle.NoMemory (inr h) = cc h

      no_instance : (e : SettleError) → (settle_status e ≡ Done) ⊎ (settle_status e ≡ StoppedAtRefusal) ⊎ (settle_status e ≡ ConsoleFault) → ⊥
      no_instance settle.Fault (inl h) = cc h
      no_instance settle.Fault (inr (inl h)) = cc h
      no_instance settle.Fault (inr (inr h)) = cc h
      no_instance settle.NoMemory (inl h) = cc h
      no_instance settle.NoMemory (inr (inl h)) = cc h
      no_instance settle.NoMemory (inr (inr h)) = cc h
