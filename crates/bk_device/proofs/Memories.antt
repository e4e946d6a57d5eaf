-- The kept files and bytes of a device in memory stay what its calls give.
use Rattle.std.proofs.Common.{◌≡◌, ◌≤◌, ℕ, List, [], ◌∷◌, ◌++◌, ◌+◌, length, take, map, Option, Some, None, refl, ap, sym, ◌∙◌, subst, arith}
use Rattle.std.specs.Prelude.{if◌then◌else◌, Result, Ok, Err, OnOk, OnErr, option_map}
use Rattle.std.specs.Str.{bytes_eq}
use Rattle.std.proofs.Math.Path.{fun_ext}
use Rattle.std.proofs.lemmas.List.{map_push, length-append, take_all}
use Rattle.bk_device.specs.Calls.{contents, written}
use Rattle.bk_device.specs.Disk.{Files, Disk, replaced}
use Rattle.bk_device.specs.Held.{name_of, begin_of, begin_files, durable_files, current_files}
use Rattle.bk_device.specs.Memory.{begin_list, step_of, IsReplayed}
use Rattle.bk_device.specs.Replay.{Step, look, begun, replay, after, Memory, files_of, disk_of, durable_files_of, IsNext, IsStill}
use Rattle.bk_device.specs.Replay.Step.{Wrote, Synced, CutTo, Removed, Told}
use Rattle.bk_device.specs.declared.held.Held.{Held}
use Rattle.bk_device.specs.declared.call.Call.{Call}
use Rattle.bk_device.specs.Replayed.{disk_of-next, disk_of-still, durable_files_of-next, durable_files_of-still, fresh_disk, fresh_durable}

begin_list_at : (held : List Held) (name : List ℕ) → files_of (begin_list held) name ≡ begin_files held name
begin_list_at [] name = refl
begin_list_at (file ∷ held) name = ap (λ (rest : Option (List ℕ)). if bytes_eq (name_of file) name then begin_of file else rest) (begin_list_at held name)

-- the listed files are those by name
pub files_of-begin_list : (held : List Held) → files_of (begin_list held) ≡ begin_files held
files_of-begin_list held = fun_ext (λ name. begin_list_at held name)

pub same_begin : (before after : List Held) → begin_files after ≡ begin_files before → files_of (begin_list after) ≡ files_of (begin_list before)
same_begin before after same = files_of-begin_list after ∙ same ∙ sym (files_of-begin_list before)

-- one more call, one more step
pub steps-push : (done more : List Call) (call : Call) (step : Step) → more ≡ done ++ call ∷ [] → step_of call ≡ step → map step_of more ≡ map step_of done ++ step ∷ []
steps-push done more call step is same = ap (map step_of) is ∙ map_push step_of done call ∙ ap (λ (s : Step). map step_of done ++ s ∷ []) same

pub on_err_always : {T E P : Type 0} (result : Result T E) → P → OnErr result P
on_err_always (Ok value) holds = tt
on_err_always (Err error) holds = holds

pub on_ok_always : {T E P : Type 0} (result : Result T E) → P → OnOk result P
on_ok_always (Ok value) holds = holds
on_ok_always (Err error) holds = tt

-- no call was done
pub replayed_still : (before after : List Held) (heard : List ℕ) (past : ℕ) (old new : Memory) → IsStill old new → current_files after ≡ current_files before → durable_files after ≡ durable_files before → IsReplayed before heard past old → IsReplayed after heard past new
replayed_still before after heard past old new still current durable replayed = record {
  current = current ∙ replayed.current ∙ sym (ap (λ (disk : Disk). disk.files) (disk_of-still old new still));
  durable = durable ∙ replayed.durable ∙ sym (durable_files_of-still old new still);
  told = replayed.told ∙ sym (ap (λ (disk : Disk). disk.told) (disk_of-still old new still));
  enough = replayed.enough;
}

pub replayed_write : (before after : List Held) (heard : List ℕ) (past : ℕ) (old new : Memory) (name : List ℕ) (at : ℕ) (bytes : List ℕ) → IsNext old new (Wrote name at bytes) → current_files after ≡ replaced (current_files before) name (Some (written (contents (current_files before name)) at bytes)) → durable_files after ≡ durable_files before → IsReplayed before heard past old → IsReplayed after heard past new
unfolding Rattle.bk_device.specs.Replay.after
replayed_write before after heard past old new name at bytes next current durable replayed = record {
  current =
      current
      ∙ ap (λ (files : Files). replaced files name (Some (written (contents (files name)) at bytes))) replayed.current
      ∙ sym (ap (λ (disk : Disk). disk.files) (disk_of-next old new (Wrote name at bytes) next));
  durable = durable ∙ replayed.durable ∙ sym (durable_files_of-next old new (Wrote name at bytes) next);
  told = replayed.told ∙ sym (ap (λ (disk : Disk). disk.told) (disk_of-next old new (Wrote name at bytes) next));
  enough = replayed.enough;
}

pub replayed_cut : (before after : List Held) (heard : List ℕ) (past : ℕ) (old new : Memory) (name : List ℕ) (len : ℕ) → IsNext old new (CutTo name len) → current_files after ≡ replaced (current_files before) name (option_map (take len) (current_files before name)) → durable_files after ≡ durable_files before → IsReplayed before heard past old → IsReplayed after heard past new
unfolding Rattle.bk_device.specs.Replay.after
replayed_cut before after heard past old new name len next current durable replayed = record {
  current =
      current
      ∙ ap (λ (files : Files). replaced files name (option_map (take len) (files name))) replayed.current
      ∙ sym (ap (λ (disk : Disk). disk.files) (disk_of-next old new (CutTo name len) next));
  durable = durable ∙ replayed.durable ∙ sym (durable_files_of-next old new (CutTo name len) next);
  told = replayed.told ∙ sym (ap (λ (disk : Disk). disk.told) (disk_of-next old new (CutTo name len) next));
  enough = replayed.enough;
}

pub replayed_removal : (before after : List Held) (heard : List ℕ) (past : ℕ) (old new : Memory) (name : List ℕ) → IsNext old new (Removed name) → current_files after ≡ replaced (current_files before) name None → durable_files after ≡ durable_files before → IsReplayed before heard past old → IsReplayed after heard past new
unfolding Rattle.bk_device.specs.Replay.after
replayed_removal before after heard past old new name next current durable replayed = record {
  current =
      current
      ∙ ap (λ (files : Files). replaced files name None) replayed.current
      ∙ sym (ap (λ (disk : Disk). disk.files) (disk_of-next old new (Removed name) next));
  durable = durable ∙ replayed.durable ∙ sym (durable_files_of-next old new (Removed name) next);
  told = replayed.told ∙ sym (ap (λ (disk : Disk). disk.told) (disk_of-next old new (Removed name) next));
  enough = replayed.enough;
}

pub replayed_sync : (before after : List Held) (heard : List ℕ) (past : ℕ) (old new : Memory) (name : List ℕ) → IsNext old new (Synced name) → current_files after ≡ current_files before → durable_files after ≡ replaced (durable_files before) name (current_files before name) → IsReplayed before heard past old → IsReplayed after heard past new
unfolding Rattle.bk_device.specs.Replay.after
replayed_sync before after heard past old new name next current durable replayed = record {
  current = current ∙ replayed.current ∙ sym (ap (λ (disk : Disk). disk.files) (disk_of-next old new (Synced name) next));
  durable =
      durable
      ∙ ap (λ (files : Files). replaced files name (current_files before name)) replayed.durable
      ∙ ap (λ (files : Files). replaced (durable_files_of old) name (files name)) replayed.current
      ∙ sym (durable_files_of-next old new (Synced name) next);
  told = replayed.told ∙ sym (ap (λ (disk : Disk). disk.told) (disk_of-next old new (Synced name) next));
  enough = replayed.enough;
}

pub replayed_telling : (held : List Held) (heard more : List ℕ) (past : ℕ) (old new : Memory) (bytes : List ℕ) → IsNext old new (Told bytes) → more ≡ heard ++ bytes → IsReplayed held heard past old → IsReplayed held more past new
unfolding Rattle.bk_device.specs.Replay.after
replayed_telling held heard more past old new bytes next told replayed = record {
  current = replayed.current ∙ sym (ap (λ (disk : Disk). disk.files) (disk_of-next old new (Told bytes) next));
  durable = replayed.durable ∙ sym (durable_files_of-next old new (Told bytes) next);
  told = told ∙ ap (λ (front : List ℕ). front ++ bytes) replayed.told ∙ sym (ap (λ (disk : Disk). disk.told) (disk_of-next old new (Told bytes) next));
  enough = let longer : length more ≡ length heard + length bytes = ap length told ∙ length-append heard bytes in omega (arith, longer, replayed.enough);
}

-- what was inside of the device is what it held

pub still_from : (inside old new : Memory) → inside ≡ old → IsStill inside new → IsStill old new
still_from inside old new is still = let From : Memory → Type 0 = λ memory. IsStill memory new in subst From is still

pub next_from : (inside old new : Memory) (step : Step) → inside ≡ old → IsNext inside new step → IsNext old new step
next_from inside old new step is next = let From : Memory → Type 0 = λ memory. IsNext memory new step in subst From is next

pub files_in : (held : List Held) (heard : List ℕ) (past : ℕ) (inside old : Memory) → inside ≡ old → IsReplayed held heard past inside → (disk_of old).files ≡ current_files held
files_in held heard past inside old is replayed = sym (replayed.current ∙ ap (λ (memory : Memory). (disk_of memory).files) is)

pub room_in : (held : List Held) (heard : List ℕ) (past : ℕ) (inside old : Memory) (name : List ℕ) (at : ℕ) → inside ≡ old → IsReplayed held heard past inside → at ≤ length (contents ((disk_of old).files name)) → at ≤ length (contents (current_files held name))
room_in held heard past inside old name at is replayed room =
    let Room : Files → Type 0 = λ files. at ≤ length (contents (files name)) in
    subst Room (files_in held heard past inside old is replayed) room

-- the device began anew
pub replayed_fresh : (held : List Held) (heard : List ℕ) (past : ℕ) (memory : Memory) → memory.begin ≡ begin_list held → memory.told_before ≡ heard → memory.steps ≡ [] → begin_files held ≡ current_files held → durable_files held ≡ current_files held → past ≤ length heard → IsReplayed held heard past memory
replayed_fresh held heard past memory begin told none same_begin same_durable enough =
    let listed : files_of memory.begin ≡ current_files held = ap files_of begin ∙ files_of-begin_list held ∙ same_begin in
    record {
      current = sym (ap (λ (disk : Disk). disk.files) (fresh_disk memory none) ∙ listed);
      durable = same_durable ∙ sym (fresh_durable memory none ∙ listed);
      told = sym (ap (λ (disk : Disk). disk.told) (fresh_disk memory none) ∙ told);
      enough = enough;
    }

-- what a read gives, and what was told, of a device that began anew

pub fresh_files : (held : List Held) (told : List ℕ) (steps : List Step) → steps ≡ [] → begin_files held ≡ current_files held → (replay (begun (files_of (begin_list held)) told) steps).files ≡ current_files held
fresh_files held told steps none same_begin = ap (λ (s : List Step). (replay (begun (files_of (begin_list held)) told) s).files) none ∙ files_of-begin_list held ∙ same_begin

pub fresh_told : (held : List Held) (heard told : List ℕ) (steps : List Step) → told ≡ heard → steps ≡ [] → (replay (begun (files_of (begin_list held)) told) steps).told ≡ heard
fresh_told held heard told steps same none = ap (λ (s : List Step). (replay (begun (files_of (begin_list held)) told) s).told) none ∙ same

-- all of what was told was told before
pub all_before : (n : ℕ) (heard : List ℕ) → n ≡ length heard → take n heard ≡ heard
all_before n heard is = take_all n heard (omega arith)

-- what was told by the device
pub told_in : (held : List Held) (heard : List ℕ) (past : ℕ) (inside old : Memory) → inside ≡ old → IsReplayed held heard past inside → (disk_of old).told ≡ heard
told_in held heard past inside old is replayed = sym (replayed.told ∙ ap (λ (memory : Memory). (disk_of memory).told) is)

-- the files as last synced of the device
pub durable_in : (held : List Held) (heard : List ℕ) (past : ℕ) (inside old : Memory) → inside ≡ old → IsReplayed held heard past inside → durable_files_of old ≡ durable_files held
durable_in held heard past inside old is replayed = sym (replayed.durable ∙ ap durable_files_of is)
