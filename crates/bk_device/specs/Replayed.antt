-- A device in memory keeps what every device keeps, and each call on it does what it is to do.
use Rattle.std.proofs.Common.{◌≡◌, ◌≢◌, ℕ, List, [], ◌∷◌, ◌++◌, length, take, Option, None, Some, refl, inl, inr, subst, ap, sym, ◌∙◌, arith, ◌⊎◌, ◌+◌, ◌≤◌}
use Rattle.std.specs.Prelude.{◌↔◌, option_map, Bool, true, false, if◌then◌else◌}
use Rattle.std.proofs.lemmas.List.{take_all, append-nil}
use Rattle.bk_device.specs.Calls.{contents, written, LeavesWrite, LeavesCut, LeavesRemoval, LeavesSame, Elapses, CallsOn, ChangesNothing, TellsFront, TellsBytes}
use Rattle.bk_device.specs.Disk.{Files, Disk, MayLeave, IsDurable, IsSettled, IsLawful, replaced}
use Rattle.bk_device.specs.Replay.{Step, begun, left_by, later, later_told, after, replay, Memory, disk_of, IsNext, IsStill, files_of, durable_after, replay_durable, durable_files_of, LeftBy, WasLeft}
use Rattle.bk_device.specs.Replay.Step.{Wrote, Synced, CutTo, Removed, Told}
use Rattle.bk_device.specs.Names.{same_or_other, replaced-same, replaced-other}
use Rattle.bk_device.specs.Torn.{torn-written}

begun_lawful : (files : Files) (told : List ℕ) → IsLawful (begun files told)
begun_lawful files told = record {
  reads = λ name. refl;
  counts_now = λ since image early may. (early, may, refl);
  only_now = λ image heard left. (left.1, left.2);
}

-- the next moment is lawful where what a read gives may be left
later_lawful : (disk : Disk) (files : Files) (may : List ℕ → Option (List ℕ) → Type 0) → ((name : List ℕ) → may name (files name)) → IsLawful (later disk files may)
later_lawful disk files may reads = record {
  reads = reads;
  counts_now = λ since image early here. inr (early, here, refl);
  only_now = λ image heard left. elim left [ inl before ↦ absurd (omega (arith, before.0)) | inr here ↦ (here.1, here.2) ];
}

told_lawful : (disk : Disk) (bytes : List ℕ) → IsLawful disk → IsLawful (later_told disk bytes)
told_lawful disk bytes lawful = record {
  reads = lawful.reads;
  counts_now = λ since image early here. inr (inr (early, here, refl));
  only_now = λ image heard left. elim left [
    | inl before ↦ absurd (omega (arith, before.0))
    | inr rest ↦ elim rest [ inl meanwhile ↦ absurd (omega (arith, meanwhile.0)) | inr here ↦ (here.1, here.2) ]
  ];
}

-- what a read gives after a call on one file may be left
reads_left : (disk : Disk) (name : List ℕ) (content : Option (List ℕ)) (leaves : Option (List ℕ) → Option (List ℕ) → Type 0) → IsLawful disk → leaves (disk.files name) content → (other : List ℕ) → left_by disk name leaves other (replaced disk.files name content other)
reads_left disk name content leaves lawful left other =
    elim (same_or_other name other) [
      | inl same ↦
          let At : List ℕ → Type 0 = λ n. left_by disk name leaves n (replaced disk.files name content n) in
          let To : Option (List ℕ) → Type 0 = λ c. leaves (disk.files name) c in
          subst At (sym same) (inl (refl, (disk.files name, lawful.reads name, subst To (sym (replaced-same disk.files name content)) left)))
      | inr differ ↦
          let May : Option (List ℕ) → Type 0 = λ c. disk.may other c in
          inr (differ, subst May (sym (replaced-other disk.files name content other differ)) (lawful.reads other))
    ]

reads_synced : (disk : Disk) (name : List ℕ) → IsLawful disk → (other : List ℕ) → left_by disk name (λ _ content. content ≡ disk.files name) other (disk.files other)
reads_synced disk name lawful other =
    elim (same_or_other name other) [
      | inl same ↦ inl (same, (disk.files other, lawful.reads other, ap disk.files same))
      | inr differ ↦ inr (differ, lawful.reads other)
    ]

after_lawful : (disk : Disk) (step : Step) → IsLawful disk → IsLawful (after disk step)
unfolding after
after_lawful disk (Wrote name at bytes) lawful =
    later_lawful disk _ _ (reads_left disk name (Some (written (contents (disk.files name)) at bytes)) (LeavesWrite at (length bytes)) lawful (inr (written (contents (disk.files name)) at bytes, refl, torn-written at (contents (disk.files name)) bytes)))
after_lawful disk (Synced name) lawful = later_lawful disk _ _ (reads_synced disk name lawful)
after_lawful disk (CutTo name len) lawful =
    later_lawful disk _ _ (reads_left disk name (option_map (take len) (disk.files name)) (LeavesCut len) lawful (inr refl))
after_lawful disk (Removed name) lawful = later_lawful disk _ _ (reads_left disk name None LeavesRemoval lawful (inr refl))
after_lawful disk (Told bytes) lawful = told_lawful disk bytes lawful

replay_lawful : (disk : Disk) (steps : List Step) → IsLawful disk → IsLawful (replay disk steps)
replay_lawful disk [] lawful = lawful
replay_lawful disk (step ∷ steps) lawful = replay_lawful (after disk step) steps (after_lawful disk step lawful)

pub memory_lawful : (memory : Memory) → IsLawful (disk_of memory)
memory_lawful memory = replay_lawful (begun (files_of memory.begin) memory.told_before) memory.steps (begun_lawful (files_of memory.begin) memory.told_before)

replay-more : (disk : Disk) (steps : List Step) (step : Step) → replay disk (steps ++ step ∷ []) ≡ after (replay disk steps) step
replay-more disk [] step = refl
replay-more disk (first ∷ steps) step = replay-more (after disk first) steps step

pub disk_of-next : (old new : Memory) (step : Step) → IsNext old new step → disk_of new ≡ after (disk_of old) step
disk_of-next old new step next =
    ap (λ (files : Files). replay (begun files new.told_before) new.steps) next.begin
    ∙ ap (λ (told : List ℕ). replay (begun (files_of old.begin) told) new.steps) next.told_before
    ∙ ap (λ (steps : List Step). replay (begun (files_of old.begin) old.told_before) steps) next.steps
    ∙ replay-more (begun (files_of old.begin) old.told_before) old.steps step

pub disk_of-still : (old new : Memory) → IsStill old new → disk_of new ≡ disk_of old
disk_of-still old new still =
    ap (λ (files : Files). replay (begun files new.told_before) new.steps) still.begin
    ∙ ap (λ (told : List ℕ). replay (begun (files_of old.begin) told) new.steps) still.told_before
    ∙ ap (λ (steps : List Step). replay (begun (files_of old.begin) old.told_before) steps) still.steps

-- what each call did

later_elapses : (disk : Disk) (files : Files) (may : List ℕ → Option (List ℕ) → Type 0) → Elapses disk (later disk files may) (λ image heard. ((name : List ℕ) → may name (image name)) × (heard ≡ disk.told))
later_elapses disk files may = record {
  later = omega arith;
  nothing_else = λ since image heard early left. elim left [ inl before ↦ inl before.1 | inr here ↦ inr (here.1, here.2) ];
  nothing_forgotten = λ since image heard early left. inl (early, left);
}

left_on : (disk : Disk) (name : List ℕ) (leaves : Option (List ℕ) → Option (List ℕ) → Type 0) (content : Option (List ℕ)) → left_by disk name leaves name content → (before : Option (List ℕ)) × disk.may name before × leaves before content
left_on disk name leaves content left = elim left [ inl here ↦ here.1 | inr off ↦ absurd (off.0 refl) ]

left_off : (disk : Disk) (name : List ℕ) (leaves : Option (List ℕ) → Option (List ℕ) → Type 0) (other : List ℕ) (content : Option (List ℕ)) → other ≢ name → left_by disk name leaves other content → disk.may other content
left_off disk name leaves other content differ left = elim left [ inl here ↦ absurd (differ here.0) | inr off ↦ off.1 ]

later_calls_on : (disk : Disk) (name : List ℕ) (content : Option (List ℕ)) (leaves : Option (List ℕ) → Option (List ℕ) → Type 0) → CallsOn name leaves disk (later disk (replaced disk.files name content) (left_by disk name leaves))
later_calls_on disk name content leaves = record {
  others = λ other differ. replaced-other disk.files name content other differ;
  others_left = λ other after differ left. left_off disk name leaves other after differ left;
  left = λ after left. left_on disk name leaves after left;
  told = refl;
  time = later_elapses disk (replaced disk.files name content) (left_by disk name leaves);
}

synced_calls_on : (disk : Disk) (name : List ℕ) → IsLawful disk → CallsOn name LeavesSame disk (later disk disk.files (left_by disk name (λ _ content. content ≡ disk.files name)))
synced_calls_on disk name lawful = record {
  others = λ other differ. refl;
  others_left = λ other after differ left. left_off disk name (λ _ content. content ≡ disk.files name) other after differ left;
  left = λ after left. (disk.files name, lawful.reads name, (left_on disk name (λ _ content. content ≡ disk.files name) after left).2);
  told = refl;
  time = later_elapses disk disk.files (left_by disk name (λ _ content. content ≡ disk.files name));
}

pub wrote : (old new : Memory) (name : List ℕ) (at : ℕ) (bytes : List ℕ) → IsNext old new (Wrote name at bytes) → CallsOn name (LeavesWrite at (length bytes)) (disk_of old) (disk_of new)
unfolding after
wrote old new name at bytes next =
    let From : Disk → Type 0 = λ disk. CallsOn name (LeavesWrite at (length bytes)) (disk_of old) disk in
    subst From (sym (disk_of-next old new (Wrote name at bytes) next)) (later_calls_on (disk_of old) name _ (LeavesWrite at (length bytes)))

pub cut : (old new : Memory) (name : List ℕ) (len : ℕ) → IsNext old new (CutTo name len) → CallsOn name (LeavesCut len) (disk_of old) (disk_of new)
unfolding after
cut old new name len next =
    let From : Disk → Type 0 = λ disk. CallsOn name (LeavesCut len) (disk_of old) disk in
    subst From (sym (disk_of-next old new (CutTo name len) next)) (later_calls_on (disk_of old) name _ (LeavesCut len))

pub removed : (old new : Memory) (name : List ℕ) → IsNext old new (Removed name) → CallsOn name LeavesRemoval (disk_of old) (disk_of new)
unfolding after
removed old new name next =
    let From : Disk → Type 0 = λ disk. CallsOn name LeavesRemoval (disk_of old) disk in
    subst From (sym (disk_of-next old new (Removed name) next)) (later_calls_on (disk_of old) name _ LeavesRemoval)

pub synced : (old new : Memory) (name : List ℕ) → IsNext old new (Synced name) → CallsOn name LeavesSame (disk_of old) (disk_of new)
unfolding after
synced old new name next =
    let From : Disk → Type 0 = λ disk. CallsOn name LeavesSame (disk_of old) disk in
    subst From (sym (disk_of-next old new (Synced name) next)) (synced_calls_on (disk_of old) name (memory_lawful old))

pub synced_durable : (old new : Memory) (name : List ℕ) → IsNext old new (Synced name) → IsDurable (disk_of new) name
unfolding after
synced_durable old new name next =
    let From : Disk → Type 0 = λ disk. IsDurable disk name in
    subst From (sym (disk_of-next old new (Synced name) next)) (λ content left. (left_on (disk_of old) name (λ _ content. content ≡ (disk_of old).files name) content left).2)

-- no call was done

still_elapses : (disk : Disk) → IsLawful disk → Elapses disk disk (λ image heard. MayLeave disk image × (heard ≡ disk.told))
still_elapses disk lawful = record { later = omega arith; nothing_else = λ since image heard early left. inl left; nothing_forgotten = λ since image heard early left. left }

pub nothing_done : (old new : Memory) → IsStill old new → ChangesNothing (disk_of old) (disk_of new)
nothing_done old new still =
    let From : Disk → Type 0 = λ disk. ChangesNothing (disk_of old) disk in
    subst From (sym (disk_of-still old new still)) (record {
      files = λ name. refl;
      nothing_more = λ name content may. may;
      told = refl;
      time = still_elapses (disk_of old) (memory_lawful old);
    })

-- a failed call that did nothing
pub still_on : (old new : Memory) (name : List ℕ) (leaves : Option (List ℕ) → Option (List ℕ) → Type 0) → ((content : Option (List ℕ)) → leaves content content) → IsStill old new → CallsOn name leaves (disk_of old) (disk_of new)
still_on old new name leaves same still =
    let From : Disk → Type 0 = λ disk. CallsOn name leaves (disk_of old) disk in
    subst From (sym (disk_of-still old new still)) (record {
      others = λ other differ. refl;
      others_left = λ other content differ may. may;
      left = λ content may. (content, may, same content);
      told = refl;
      time = still_elapses (disk_of old) (memory_lawful old);
    })

pub still_telling : (old new : Memory) (bytes : List ℕ) → IsStill old new → TellsBytes bytes (disk_of old) (disk_of new)
still_telling old new bytes still =
    let From : Disk → Type 0 = λ disk. TellsBytes bytes (disk_of old) disk in
    subst From (sym (disk_of-still old new still)) (record {
      files = λ name. refl;
      nothing_more = λ name content may. may;
      front = (0, sym (append-nil (disk_of old).told));
      time = record { later = omega arith; nothing_else = λ since image heard early left. inl left; nothing_forgotten = λ since image heard early left. left };
    })

pub told : (old new : Memory) (bytes : List ℕ) → IsNext old new (Told bytes) → TellsBytes bytes (disk_of old) (disk_of new)
unfolding after
told old new bytes next =
    let From : Disk → Type 0 = λ disk. TellsBytes bytes (disk_of old) disk in
    let whole : take (length bytes) bytes ≡ bytes = take_all (length bytes) bytes (omega arith) in
    let all : TellsFront bytes (disk_of old).told ((disk_of old).told ++ bytes) = (length bytes, ap (λ (b : List ℕ). (disk_of old).told ++ b) (sym whole)) in
    subst From (sym (disk_of-next old new (Told bytes) next)) (record {
      files = λ name. refl;
      nothing_more = λ name content may. may;
      front = all;
      time = record {
        later = omega arith;
        nothing_else = λ since image heard early left. elim left [
          | inl before ↦ inl before.1
          | inr rest ↦ elim rest [
            | inl meanwhile ↦ inr (meanwhile.1, meanwhile.2)
            | inr here ↦ inr (here.1, (length bytes, here.2 ∙ all.1))
          ]
        ];
        nothing_forgotten = λ since image heard early left. inl (early, left);
      };
    })

-- the files as each was last synced

durable-more : (disk : Disk) (durable : Files) (steps : List Step) (step : Step) → replay_durable disk durable (steps ++ step ∷ []) ≡ durable_after (replay disk steps) (replay_durable disk durable steps) step
durable-more disk durable [] step = refl
durable-more disk durable (first ∷ steps) step = durable-more (after disk first) (durable_after disk durable first) steps step

pub durable_files_of-next : (old new : Memory) (step : Step) → IsNext old new step → durable_files_of new ≡ durable_after (disk_of old) (durable_files_of old) step
durable_files_of-next old new step next =
    ap (λ (files : Files). replay_durable (begun files new.told_before) files new.steps) next.begin
    ∙ ap (λ (told : List ℕ). replay_durable (begun (files_of old.begin) told) (files_of old.begin) new.steps) next.told_before
    ∙ ap (λ (steps : List Step). replay_durable (begun (files_of old.begin) old.told_before) (files_of old.begin) steps) next.steps
    ∙ durable-more (begun (files_of old.begin) old.told_before) (files_of old.begin) old.steps step

pub durable_files_of-still : (old new : Memory) → IsStill old new → durable_files_of new ≡ durable_files_of old
durable_files_of-still old new still =
    ap (λ (files : Files). replay_durable (begun files new.told_before) files new.steps) still.begin
    ∙ ap (λ (told : List ℕ). replay_durable (begun (files_of old.begin) told) (files_of old.begin) new.steps) still.told_before
    ∙ ap (λ (steps : List Step). replay_durable (begun (files_of old.begin) old.told_before) (files_of old.begin) steps) still.steps

-- they are among what a crash may leave

durable_after_left : (disk : Disk) (durable : Files) (step : Step) → IsLawful disk → MayLeave disk durable → MayLeave (after disk step) (durable_after disk durable step)
unfolding after
durable_after_left disk durable (Wrote name at bytes) lawful left other =
    elim (same_or_other name other) [ inl same ↦ inl (same, (durable other, left other, inl refl)) | inr differ ↦ inr (differ, left other) ]
durable_after_left disk durable (Synced name) lawful left other =
    elim (same_or_other name other) [
      | inl same ↦
          let here : replaced durable name (disk.files name) other ≡ disk.files name = ap (replaced durable name (disk.files name)) same ∙ replaced-same durable name (disk.files name) in
          inl (same, (durable other, left other, here))
      | inr differ ↦
          let May : Option (List ℕ) → Type 0 = λ content. disk.may other content in
          inr (differ, subst May (sym (replaced-other durable name (disk.files name) other differ)) (left other))
    ]
durable_after_left disk durable (CutTo name len) lawful left other =
    elim (same_or_other name other) [ inl same ↦ inl (same, (durable other, left other, inl refl)) | inr differ ↦ inr (differ, left other) ]
durable_after_left disk durable (Removed name) lawful left other =
    elim (same_or_other name other) [ inl same ↦ inl (same, (durable other, left other, inl refl)) | inr differ ↦ inr (differ, left other) ]
durable_after_left disk durable (Told bytes) lawful left other = left other

replay_durable_left : (disk : Disk) (durable : Files) (steps : List Step) → IsLawful disk → MayLeave disk durable → MayLeave (replay disk steps) (replay_durable disk durable steps)
replay_durable_left disk durable [] lawful left = left
replay_durable_left disk durable (step ∷ steps) lawful left =
    replay_durable_left (after disk step) (durable_after disk durable step) steps (after_lawful disk step lawful) (durable_after_left disk durable step lawful left)

pub durable_left : (memory : Memory) → MayLeave (disk_of memory) (durable_files_of memory)
durable_left memory = replay_durable_left (begun (files_of memory.begin) memory.told_before) (files_of memory.begin) memory.steps (begun_lawful (files_of memory.begin) memory.told_before) (λ name. refl)

-- calls one after the other

pub still_then : {a b c : Memory} → IsStill a b → IsStill b c → IsStill a c
still_then first second = record { begin = second.begin ∙ first.begin; told_before = second.told_before ∙ first.told_before; steps = second.steps ∙ first.steps }

pub next_after : {a b c : Memory} {step : Step} → IsStill a b → IsNext b c step → IsNext a c step
next_after {step = step} first second = record {
  begin = second.begin ∙ first.begin;
  told_before = second.told_before ∙ first.told_before;
  steps = second.steps ∙ ap (λ (steps : List Step). steps ++ step ∷ []) first.steps;
}

-- what a read gives after a call

pub files_still : {old new : Memory} → IsStill old new → (name : List ℕ) → (disk_of new).files name ≡ (disk_of old).files name
files_still {old} {new} still name = ap (λ (disk : Disk). disk.files name) (disk_of-still old new still)

pub wrote_files : (old new : Memory) (name : List ℕ) (at : ℕ) (bytes : List ℕ) → IsNext old new (Wrote name at bytes) → (disk_of new).files name ≡ Some (written (contents ((disk_of old).files name)) at bytes)
unfolding after
wrote_files old new name at bytes next = ap (λ (disk : Disk). disk.files name) (disk_of-next old new (Wrote name at bytes) next) ∙ replaced-same (disk_of old).files name (Some (written (contents ((disk_of old).files name)) at bytes))

pub cut_files : (old new : Memory) (name : List ℕ) (len : ℕ) → IsNext old new (CutTo name len) → (disk_of new).files name ≡ option_map (take len) ((disk_of old).files name)
unfolding after
cut_files old new name len next = ap (λ (disk : Disk). disk.files name) (disk_of-next old new (CutTo name len) next) ∙ replaced-same (disk_of old).files name (option_map (take len) ((disk_of old).files name))

pub removed_files : (old new : Memory) (name : List ℕ) → IsNext old new (Removed name) → (disk_of new).files name ≡ None
unfolding after
removed_files old new name next = ap (λ (disk : Disk). disk.files name) (disk_of-next old new (Removed name) next) ∙ replaced-same (disk_of old).files name None

pub synced_files : (old new : Memory) (name : List ℕ) → IsNext old new (Synced name) → (disk_of new).files name ≡ (disk_of old).files name
unfolding after
synced_files old new name next = ap (λ (disk : Disk). disk.files name) (disk_of-next old new (Synced name) next)

pub told_bytes : (old new : Memory) (bytes : List ℕ) → IsNext old new (Told bytes) → (disk_of new).told ≡ (disk_of old).told ++ bytes
unfolding after
told_bytes old new bytes next = ap (λ (disk : Disk). disk.told) (disk_of-next old new (Told bytes) next)

-- a device that did no call since it began

pub fresh_disk : (memory : Memory) → memory.steps ≡ [] → disk_of memory ≡ begun (files_of memory.begin) memory.told_before
fresh_disk memory none = ap (λ (steps : List Step). replay (begun (files_of memory.begin) memory.told_before) steps) none

pub fresh_durable : (memory : Memory) → memory.steps ≡ [] → durable_files_of memory ≡ files_of memory.begin
fresh_durable memory none = ap (λ (steps : List Step). replay_durable (begun (files_of memory.begin) memory.told_before) (files_of memory.begin) steps) none

pub fresh_settled : (memory : Memory) → memory.steps ≡ [] → IsSettled (disk_of memory)
fresh_settled memory none = let From : Disk → Type 0 = λ disk. IsSettled disk in subst From (sym (fresh_disk memory none)) (λ name content left. left)

-- what stands after a restart might have been left
pub restart_left : (memory : Memory) (keep : Bool) → MayLeave (disk_of memory) (if keep then (disk_of memory).files else durable_files_of memory)
restart_left memory true = (memory_lawful memory).reads
restart_left memory false = durable_left memory

-- what crashes leave is told by the calls that were done

left_in_step : (disk : Disk) (step : Step) (since : ℕ) (image : Files) (heard : List ℕ) → (after disk step).left since image heard → disk.left since image heard ⊎ LeftBy disk step since image heard
unfolding after LeftBy
left_in_step disk (Wrote name at bytes) since image heard left = elim left [ inl before ↦ inl before.1 | inr here ↦ inr (inr here) ]
left_in_step disk (Synced name) since image heard left = elim left [ inl before ↦ inl before.1 | inr here ↦ inr (inr here) ]
left_in_step disk (CutTo name len) since image heard left = elim left [ inl before ↦ inl before.1 | inr here ↦ inr (inr here) ]
left_in_step disk (Removed name) since image heard left = elim left [ inl before ↦ inl before.1 | inr here ↦ inr (inr here) ]
left_in_step disk (Told bytes) since image heard left =
    elim left [
      | inl before ↦ inl before.1
      | inr rest ↦ elim rest [ inl meanwhile ↦ inr (inl (meanwhile.0, meanwhile.1, (bytes, refl, meanwhile.2))) | inr here ↦ inr (inr here) ]
    ]

left_in_replay : (disk : Disk) (steps : List Step) (since : ℕ) (image : Files) (heard : List ℕ) → (replay disk steps).left since image heard → disk.left since image heard ⊎ ((front : List Step) × (step : Step) × (back : List Step) × (steps ≡ front ++ step ∷ back) × LeftBy (replay disk front) step since image heard)
left_in_replay disk [] since image heard left = inl left
left_in_replay disk (first ∷ steps) since image heard left =
    elim (left_in_replay (after disk first) steps since image heard left) [
      | inl begun ↦ elim (left_in_step disk first since image heard begun) [ inl before ↦ inl before | inr here ↦ inr ([], first, steps, refl, here) ]
      | inr there ↦ inr (first ∷ there.0, there.1, there.2, ap (λ (rest : List Step). first ∷ rest) there.3, there.4)
    ]

moment_grows : (disk : Disk) (step : Step) → (after disk step).moment ≡ disk.moment + 1
unfolding after
moment_grows disk (Wrote name at bytes) = refl
moment_grows disk (Synced name) = refl
moment_grows disk (CutTo name len) = refl
moment_grows disk (Removed name) = refl
moment_grows disk (Told bytes) = refl

step_keeps : (disk : Disk) (step : Step) (since : ℕ) (image : Files) (heard : List ℕ) → since ≤ disk.moment → disk.left since image heard → (after disk step).left since image heard
unfolding after
step_keeps disk (Wrote name at bytes) since image heard early left = inl (early, left)
step_keeps disk (Synced name) since image heard early left = inl (early, left)
step_keeps disk (CutTo name len) since image heard early left = inl (early, left)
step_keeps disk (Removed name) since image heard early left = inl (early, left)
step_keeps disk (Told bytes) since image heard early left = inl (early, left)

replay_keeps : (disk : Disk) (steps : List Step) (since : ℕ) (image : Files) (heard : List ℕ) → since ≤ disk.moment → disk.left since image heard → (replay disk steps).left since image heard
replay_keeps disk [] since image heard early left = left
replay_keeps disk (step ∷ steps) since image heard early left =
    replay_keeps (after disk step) steps since image heard (omega (arith, moment_grows disk step)) (step_keeps disk step since image heard early left)

step_leaves : (disk : Disk) (step : Step) (since : ℕ) (image : Files) (heard : List ℕ) → LeftBy disk step since image heard → (since ≤ disk.moment + 1) × (after disk step).left since image heard
unfolding after LeftBy
step_leaves disk (Wrote name at bytes) since image heard left = elim left [ inl meanwhile ↦ absurd (cc meanwhile.2.1) | inr here ↦ (here.0, inr here) ]
step_leaves disk (Synced name) since image heard left = elim left [ inl meanwhile ↦ absurd (cc meanwhile.2.1) | inr here ↦ (here.0, inr here) ]
step_leaves disk (CutTo name len) since image heard left = elim left [ inl meanwhile ↦ absurd (cc meanwhile.2.1) | inr here ↦ (here.0, inr here) ]
step_leaves disk (Removed name) since image heard left = elim left [ inl meanwhile ↦ absurd (cc meanwhile.2.1) | inr here ↦ (here.0, inr here) ]
step_leaves disk (Told bytes) since image heard left =
    elim left [
      | inl meanwhile ↦
          let same : bytes ≡ meanwhile.2.0 = (cc meanwhile.2.1) in
          let Front : List ℕ → Type 0 = λ b. TellsFront b disk.told heard in
          (omega (arith, meanwhile.0), inr (inl (meanwhile.0, meanwhile.1, subst Front (sym same) meanwhile.2.2)))
      | inr here ↦ (here.0, inr (inr here))
    ]

replay-append : (disk : Disk) (front back : List Step) → replay disk (front ++ back) ≡ replay (replay disk front) back
replay-append disk [] back = refl
replay-append disk (step ∷ front) back = replay-append (after disk step) front back

replay_leaves : (disk : Disk) (front : List Step) (step : Step) (back : List Step) (since : ℕ) (image : Files) (heard : List ℕ) → LeftBy (replay disk front) step since image heard → (replay disk (front ++ step ∷ back)).left since image heard
replay_leaves disk front step back since image heard left =
    let there = step_leaves (replay disk front) step since image heard left in
    let From : Disk → Type 0 = λ d. d.left since image heard in
    subst From (sym (replay-append disk front (step ∷ back))) (replay_keeps (after (replay disk front) step) back since image heard (omega (arith, there.0, moment_grows (replay disk front) step)) there.1)

pub was_left : (memory : Memory) (since : ℕ) (image : Files) (heard : List ℕ) → (disk_of memory).left since image heard ↔ WasLeft memory since image heard
was_left memory since image heard = (
  λ left. left_in_replay (begun (files_of memory.begin) memory.told_before) memory.steps since image heard left,
  λ was. elim was [
    | inl first ↦ replay_keeps (begun (files_of memory.begin) memory.told_before) memory.steps since image heard first.0 first
    | inr there ↦
        let From : List Step → Type 0 = λ steps. (replay (begun (files_of memory.begin) memory.told_before) steps).left since image heard in
        subst From (sym there.3) (replay_leaves (begun (files_of memory.begin) memory.told_before) there.0 there.1 there.2 since image heard there.4)
  ],
)
