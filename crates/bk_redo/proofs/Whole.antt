-- All frames, and the causes of errors.
use Rattle.std.proofs.Common.{◌≡◌, ◌≤◌, ◌<◌, ℕ, ◌+◌, ◌-◌, List, [], ◌++◌, length, get_or, take, drop, Some, None, Result, Err, ap, subst, ◌∙◌, sym, zero-add, arith}
use Rattle.std.specs.Prelude.{◌↔◌}
use Rattle.std.proofs.lemmas.List.{append-nil, length-append, length-drop, length-take-le, take_all, drop_all, get_or-take, get_or-drop, get_or_append_left, get_or-append_right}
use Rattle.bk_ids.specs.declared.record.Rec.{Rec}
use Rattle.bk_record.specs.Log.{IsLog}
use Rattle.bk_record.specs.WalkLaws.{one_log}
use Rattle.bk_redo.specs.declared.error.RedoError.{RedoError}
use Rattle.bk_redo.specs.declared.error.RedoError.TheVariants.{BadRecord}
use Rattle.bk_redo.specs.declared.place.PageAt.{PageAt}
use Rattle.bk_redo.specs.declared.writes.CellWrite.{CellWrite}
use Rattle.bk_redo.specs.PageStates.{PageState, page_of}
use Rattle.bk_redo.specs.Redo.{redone_by}
use Rattle.bk_redo.specs.Frames.{Becomes, FramesRedone}
use Rattle.bk_redo.specs.CellWrites.{IsListOf, PartWritten}
use Rattle.bk_redo.proofs.Parts.{IsWritten, same_written}

-- as many pages as were lent come back
refilled : (old new : List (List ℕ)) → length new ≡ length old → take (length old) (new ++ drop (length new) old) ≡ new
refilled old new same =
    ap (λ (rest : List (List ℕ)). take (length old) (new ++ rest)) (drop_all (length new) old (omega arith))
    ∙ ap (take (length old)) (append-nil new) ∙ take_all (length old) new (omega arith)

front_redone : (places : List PageAt) (records : List Rec) (writes : List CellWrite) (n : ℕ) (old front back new_front : List (List ℕ)) → IsListOf places records writes → PartWritten 0 writes front new_front
    → front ≡ take n old → back ≡ drop n old → n ≡ length places → n ≤ length old → FramesRedone places records old (new_front ++ back)
front_redone places records writes n old front back new_front list part is_front is_back count within =
    let front_len : length front ≡ n = ap length is_front ∙ length-take-le n old within in
    let back_len : length back ≡ length old - n = ap length is_back ∙ length-drop n old in
    let new_len : length new_front ≡ n = part.size ∙ front_len in
    record {
      size = omega (arith, length-append new_front back);
      pages = λ i nowhere low.
          redone_here places records writes i nowhere (get_or front i []) (get_or new_front i []) (get_or old i []) (get_or (new_front ++ back) i []) list low
          (ap (λ (l : List (List ℕ)). get_or l i []) is_front ∙ get_or-take n old i [] (omega arith))
          (sym (get_or_append_left new_front back [] i (omega arith)))
          (part.pages i (omega arith));
      others = λ i past.
          get_or-append_right new_front back n i [] new_len (omega arith)
          ∙ ap (λ (l : List (List ℕ)). get_or l (i - n) []) is_back ∙ get_or-drop n old (i - n) []
          ∙ ap (λ (j : ℕ). get_or old j []) (let there : n + (i - n) ≡ i = omega arith in there);
    }
  where
    redone_here : (places : List PageAt) (records : List Rec) (writes : List CellWrite) (i : ℕ) (nowhere : PageAt) (old new before after : List ℕ) → IsListOf places records writes → i < length places
        → old ≡ before → new ≡ after → IsWritten writes (0 + i) old new → Becomes before (redone_by (get_or places i nowhere) records (page_of before)) after
    redone_here places records writes i nowhere old new before after list low first second is =
        subst (λ (page : PageState). Becomes before page after) (list.pages i nowhere (page_of before) low)
        (same_written writes (0 + i) i old new before after (zero-add i) first second is)

pub frames_redone : (places : List PageAt) (records : List Rec) (writes : List CellWrite) (n : ℕ) (old lent front back new_front : List (List ℕ)) → IsListOf places records writes → PartWritten 0 writes front new_front
    → lent ≡ old → front ≡ take n lent → back ≡ drop n lent → n ≡ length places → n ≤ length old
    → FramesRedone places records old (take (length old) (new_front ++ back ++ drop (length (new_front ++ back)) old))
frames_redone places records writes n old lent front back new_front list part same is_front is_back count within =
    let whole = front_redone places records writes n old front back new_front list part (is_front ∙ ap (take n) same) (is_back ∙ ap (drop n) same) count within in
    subst (FramesRedone places records old) (sym (refilled old (new_front ++ back) whole.size)) whole

-- ---- the place at which reading breaks off

pub bad_there : (log : List ℕ) (error : RedoError) (place : ℕ) (records : List Rec) → error ≡ BadRecord place → IsLog log records (Some place)
    → (at : ℕ) → (error ≡ BadRecord at) ↔ ((others : List Rec) × IsLog log others (Some at))
bad_there log error place records is broken at = (
  (λ also.
      let same : place ≡ at = cc in
      (records, subst (λ (n : ℕ). IsLog log records (Some n)) same broken)),
  (λ other.
      let bads : Some place ≡ Some at = (one_log log records other.0 (Some place) (Some at) broken other.1).1 in
      let same : place ≡ at = cc in
      is ∙ ap BadRecord same),
)

-- the same of an answer
pub bad_answer : {T : Type 0} (log : List ℕ) (result : Result T RedoError) (error : RedoError) → result ≡ Err error
    → ((at : ℕ) → (error ≡ BadRecord at) ↔ ((others : List Rec) × IsLog log others (Some at)))
    → (at : ℕ) → (result ≡ Err (BadRecord at)) ↔ ((others : List Rec) × IsLog log others (Some at))
bad_answer log result error gives is at = (
  (λ bad. let same : error ≡ BadRecord at = cc in (is at).0 same),
  (λ broken. gives ∙ ap (λ (e : RedoError). Err e) ((is at).1 broken)),
)

-- the log is whole
pub never_bad : (log : List ℕ) (records : List Rec) (P : ℕ → Type 0) → ((at : ℕ) → P at → ⊥) → IsLog log records None → (at : ℕ) → P at ↔ ((others : List Rec) × IsLog log others (Some at))
never_bad log records P other whole at = (
  (λ bad. absurd (other at bad)),
  (λ broken.
      let bads : None ≡ Some at = (one_log log records broken.0 None (Some at) whole broken.1).1 in
      absurd cc),
)
