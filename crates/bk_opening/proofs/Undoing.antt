-- The records that undo what is pending, behind a log and behind its bytes.
use Rattle.std.proofs.Common.{◌≡◌, ℕ, ◌+◌, List, [], ◌∷◌, ◌++◌, length, Some, None, sym, ap, ap₂, subst, ◌∙◌, arith, append_assoc}
use Rattle.std.specs.List.{AllByRecursion, flat_map}
use Rattle.std.proofs.lemmas.List.{append-nil, length-append}
use Rattle.std.proofs.lemmas.List.Concat.{flat_map-append}
use Rattle.bk_ids.specs.declared.record.Rec.{Rec}
use Rattle.bk_lemmas.specs.Lists.{all_joined}
use Rattle.bk_log.specs.Log.{Kept}
use Rattle.bk_paths.specs.PathLaws.{numbered_join}
use Rattle.bk_paths.specs.Paths.{numbered}
use Rattle.bk_record.specs.Log.{IsLog}
use Rattle.bk_record.specs.Spelling.{IsRecord, spelling}
use Rattle.bk_record.specs.WalkLaws.{one_log}

-- a log with more records waiting, under the next numbers
abbrev pub with_undoing : Kept → List Rec → Kept
with_undoing log done = record log { waiting = log.waiting ++ numbered log.end done; end = log.end + length done }

-- these records were added to a log and to bytes
pub record Undone (done : List Rec) (old new : Kept) (bytes more : List ℕ) : Type 0 where
  pub log : new ≡ with_undoing old done
  pub spelled : more ≡ bytes ++ flat_map spelling (numbered old.end done)
  pub are : AllByRecursion IsRecord (numbered old.end done)

-- one more
pub undone_more : (done : List Rec) (r : Rec) (old mid new : Kept) (bytes more most : List ℕ) → Undone done old mid bytes more
    → new ≡ record mid { waiting = mid.waiting ++ (record r { lsn = mid.end }) ∷ []; end = mid.end + 1 } → most ≡ more ++ spelling (record r { lsn = mid.end }) → IsRecord (record r { lsn = mid.end })
    → Undone (done ++ r ∷ []) old new bytes most
undone_more done r old mid new bytes more most is grown spelled is_record =
    let n : ℕ = old.end + length done in
    let one : Rec = record r { lsn = n } in
    let at : mid.end ≡ n = ap (λ (l : Kept). l.end) is.log in
    let waits : mid.waiting ≡ old.waiting ++ numbered old.end done = ap (λ (l : Kept). l.waiting) is.log in
    let all : numbered old.end (done ++ r ∷ []) ≡ numbered old.end done ++ one ∷ [] = numbered_join old.end done (r ∷ []) in
    let Grown : Kept → Kept = λ l. record l { waiting = l.waiting ++ (record r { lsn = l.end }) ∷ []; end = l.end + 1 } in
    let size : length (done ++ r ∷ []) ≡ length done + 1 = length-append done (r ∷ []) in
    record {
      log = grown ∙ ap Grown is.log
          ∙ ap₂ (λ (w : List Rec) (k : ℕ). let l : Kept = record old { waiting = w; end = k } in l)
          (append_assoc old.waiting (numbered old.end done) (one ∷ []) ∙ ap (λ (rs : List Rec). old.waiting ++ rs) (sym all)) (omega (arith, size));
      spelled = spelled
          ∙ ap (λ (k : ℕ). more ++ spelling (record r { lsn = k })) at
          ∙ ap (λ (b : List ℕ). b ++ spelling one) is.spelled
          ∙ append_assoc bytes (flat_map spelling (numbered old.end done)) (spelling one)
          ∙ ap (λ (b : List ℕ). bytes ++ b) (sym (ap (flat_map spelling) all ∙ flat_map-append spelling (numbered old.end done) (one ∷ []) ∙ ap (λ (b : List ℕ). flat_map spelling (numbered old.end done) ++ b) (append-nil (spelling one))));
      are = subst (AllByRecursion IsRecord) (sym all) (all_joined IsRecord (numbered old.end done) (one ∷ []) is.are (subst (λ (k : ℕ). IsRecord (record r { lsn = k })) at is_record, tt));
    }

-- a log has one list of records, and reading it breaks off nowhere
pub one_list : (bytes : List ℕ) (held found : List Rec) → IsLog bytes held None → IsLog bytes found None → found ≡ held
one_list bytes held found log other = (one_log bytes found held None None other log).0

pub not_bad : (bytes : List ℕ) (held found : List Rec) (at : ℕ) → IsLog bytes held None → IsLog bytes found (Some at) → ⊥
not_bad bytes held found at log bad = let both = (one_log bytes held found None (Some at) log bad).1 in absurd cc
