-- Parts of frames that are written.
use Rattle.std.proofs.Common.{◌≡◌, ◌≤◌, ◌<◌, ℕ, ◌+◌, ◌-◌, List, [], ◌++◌, length, get_or, take, drop, refl, ap, subst, ◌∙◌, sym, ⊎_elim, arith}
use Rattle.std.proofs.lemmas.Bool.{cases_lt}
use Rattle.std.proofs.lemmas.List.{length-append, length-drop, length-take-le, get_or-take, get_or-drop, get_or_append_left, get_or-append_right}
use Rattle.bk_redo.specs.declared.writes.CellWrite.{CellWrite}
use Rattle.bk_redo.specs.PageStates.{page_of}
use Rattle.bk_redo.specs.Frames.{Becomes}
use Rattle.bk_redo.specs.CellWrites.{written_by, PartWritten}
use Rattle.bk_redo.specs.declared.worker.Task.{Task}
use Rattle.bk_redo.specs.Tasks.{IsDone}

-- the page of a frame is written
abbrev pub IsWritten : List CellWrite → ℕ → List ℕ → List ℕ → Type 0
IsWritten writes frame old new = Becomes old (written_by frame writes (page_of old)) new

-- ---- two parts, one after the other

pub same_written : (writes : List CellWrite) (frame other : ℕ) (old new before after : List ℕ) → frame ≡ other → old ≡ before → new ≡ after → IsWritten writes frame old new → IsWritten writes other before after
same_written writes frame other old new before after place first second is =
    subst (λ (page : List ℕ). IsWritten writes other page after) first
    (subst (λ (page : List ℕ). IsWritten writes other old page) second (subst (λ (n : ℕ). IsWritten writes n old new) place is))

part_joined : (writes : List CellWrite) (first mid at : ℕ) (old front back new_front new_back : List (List ℕ)) → PartWritten first writes front new_front → PartWritten mid writes back new_back
    → front ≡ take at old → back ≡ drop at old → at ≤ length old → mid ≡ first + at → PartWritten first writes old (new_front ++ new_back)
part_joined writes first mid at old front back new_front new_back ahead behind is_front is_back within place =
    let front_len : length front ≡ at = ap length is_front ∙ length-take-le at old within in
    let back_len : length back ≡ length old - at = ap length is_back ∙ length-drop at old in
    let new_len : length new_front ≡ at = ahead.size ∙ front_len in
    record {
      size = omega (arith, length-append new_front new_back, behind.size);
      pages = λ i low. ⊎_elim
          (λ (early : i < at).
          same_written writes (first + i) (first + i) (get_or front i []) (get_or new_front i []) (get_or old i []) (get_or (new_front ++ new_back) i [])
          refl
          (ap (λ (l : List (List ℕ)). get_or l i []) is_front ∙ get_or-take at old i [] early)
          (sym (get_or_append_left new_front new_back [] i (omega arith)))
          (ahead.pages i (omega arith)))
          (λ (late : at ≤ i).
          let k : ℕ = i - at in
          let there : at + k ≡ i = omega arith in
          same_written writes (mid + k) (first + i) (get_or back k []) (get_or new_back k []) (get_or old i []) (get_or (new_front ++ new_back) i [])
          (omega arith)
          (ap (λ (l : List (List ℕ)). get_or l k []) is_back ∙ get_or-drop at old k [] ∙ ap (λ (j : ℕ). get_or old j []) there)
          (sym (get_or-append_right new_front new_back at i [] new_len late))
          (behind.pages k (omega arith)))
          (cases_lt i at);
    }

-- what two halves of the workers did
pub done_joined : (task : Task) (first ahead behind at : ℕ) (old front back new_front new_back : List (List ℕ)) → IsDone task ahead front new_front → IsDone task behind back new_back
    → front ≡ take at old → back ≡ drop at old → ahead ≡ first → at ≤ length old → behind ≡ first + at → IsDone task first old (new_front ++ new_back)
done_joined task first ahead behind at old front back new_front new_back earlier later is_front is_back start within place =
    let done : IsDone task first front new_front = subst (λ (n : ℕ). IsDone task n front new_front) start earlier in
    record { made = part_joined task.writes.now first behind at old front back new_front new_back done.made later.made is_front is_back within place }
