-- Two histories that are joined: each branch has the longer one of two lines, one a front of the other.
use Rattle.std.proofs.Common.{◌≡◌, ◌≤◌, inl, inr, ◌+◌, Bool, true, false, cond, List, [], ◌∷◌, ◌++◌, length, refl, sym, ◌∙◌, ap, subst, arith}
use Rattle.std.specs.List.{AllByRecursion}
use Rattle.std.proofs.lemmas.List.{append-nil, length-append}
use Rattle.bk_ids.specs.declared.guid.Guid.{Guid}
use Rattle.bk_world.specs.History.{is_guid}
use Rattle.bk_world.specs.Lines.{Grew, LineGrew, RecordLine, RecordLines, has_record_line, line_on}
use Rattle.bk_lemmas.specs.Lists.{all_mapped}
use Rattle.bk_world.specs.Records.{Logged}
use Rattle.bk_world.specs.ElsewhereLaws.{guid_is}
use Rattle.bk_world.specs.SameLaws.{is_guid-refl}
use Rattle.bk_machine.specs.JoinLaws.{grown}
use Rattle.bk_machine.specs.Events.{IsLonger, Joins}
use Rattle.bk_machine.specs.Sound.{IsOnce, RiseFrom}

-- a line whose records are those of another, and then more, has grown
same-line : (old new : RecordLine) → new.records ≡ old.records → RiseFrom 0 new.records → LineGrew old new
same-line old new is rise = grown old new [] (is ∙ sym (append-nil old.records)) rise

-- the line of a line's own branch, where each branch has one
pub own-line : (lines : RecordLines) → IsOnce lines → AllByRecursion (λ (line : RecordLine). line_on lines line.branch ≡ line) lines
own-line [] once = tt
own-line (line ∷ lines) once = (ap (λ t. cond t line (line_on lines line.branch)) (is_guid-refl line.branch), others lines (λ g there. there) (own-line lines once.1))
  where
    -- none of the others is on this branch
    others : (ls : RecordLines) → ((g : Guid) → has_record_line ls g ≡ true → has_record_line lines g ≡ true) → AllByRecursion (λ (other : RecordLine). line_on lines other.branch ≡ other) ls
        → AllByRecursion (λ (other : RecordLine). line_on (line ∷ lines) other.branch ≡ other) ls
    others [] has all = tt
    others (other ∷ ls) has all = (
      by (is_guid line.branch other.branch) refl,
      others ls (λ g there. has g (later (is_guid other.branch g) (has_record_line ls g) there)) all.1,
    )
      where
        later : (s t : Bool) → t ≡ true → cond s true t ≡ true
        later true t is = refl
        later false t is = is

        first : has_record_line (other ∷ ls) other.branch ≡ true
        first = ap (λ t. cond t true (has_record_line ls other.branch)) (is_guid-refl other.branch)

        by : (t : Bool) → is_guid line.branch other.branch ≡ t → cond t line (line_on lines other.branch) ≡ other
        by true is =
            let same : line.branch ≡ other.branch = guid_is line.branch other.branch is in
            let there : has_record_line lines line.branch ≡ true = ap (has_record_line lines) same ∙ has other.branch first in
            let wrong : false ≡ true = sym once.0 ∙ there in
            absurd (cc)
        by false is = all.0

-- what holds of each branch with a line
pub of-lines : (P : Guid → Type 0) (lines : RecordLines) (g : Guid) → AllByRecursion (λ (line : RecordLine). P line.branch) lines → has_record_line lines g ≡ true → P g
of-lines P [] g all there = absurd (cc)
of-lines P (line ∷ lines) g all there = by (is_guid line.branch g) refl there (of-lines P lines g all.1)
  where
    by : (t : Bool) → is_guid line.branch g ≡ t → cond t true (has_record_line lines g) ≡ true → (has_record_line lines g ≡ true → P g) → P g
    by true is e later = subst P (guid_is line.branch g is) all.0
    by false is e later = later e

-- and each line is on a branch that has one
pub have-lines : (lines : RecordLines) → AllByRecursion (λ (line : RecordLine). has_record_line lines line.branch ≡ true) lines
have-lines [] = tt
have-lines (line ∷ lines) = (
  ap (λ t. cond t true (has_record_line lines line.branch)) (is_guid-refl line.branch),
  all_mapped (λ (other : RecordLine). has_record_line lines other.branch ≡ true) (λ (other : RecordLine). has_record_line (line ∷ lines) other.branch ≡ true) (λ other there. later (is_guid line.branch other.branch) (has_record_line lines other.branch) there) lines
      (have-lines lines),
)
  where
    later : (s t : Bool) → t ≡ true → cond s true t ≡ true
    later true t is = refl
    later false t is = is

module _ (here there joined : RecordLines) (joins : Joins here there joined) (rise_here : (g : Guid) → RiseFrom 0 (line_on here g).records) (rise_there : (g : Guid) → RiseFrom 0 (line_on there g).records) where
  pub joined-rises : (g : Guid) → RiseFrom 0 (line_on joined g).records
  joined-rises g = elim (joins.records g) [ inl one ↦ subst (RiseFrom 0) (sym one.2) (rise_there g) | inr one ↦ subst (RiseFrom 0) (sym one.2) (rise_here g) ]

  -- each of the two histories grows
  pub here-grew : Grew here joined
  here-grew g =
      elim (joins.records g) [
        | inl one ↦ grown (line_on here g) (line_on joined g) one.0 (one.2 ∙ sym one.1) (joined-rises g)
        | inr one ↦ same-line (line_on here g) (line_on joined g) one.2 (joined-rises g)
      ]

  pub there-grew : Grew there joined
  there-grew g =
      elim (joins.records g) [
        | inl one ↦ same-line (line_on there g) (line_on joined g) one.2 (joined-rises g)
        | inr one ↦ grown (line_on there g) (line_on joined g) one.0 (one.2 ∙ sym one.1) (joined-rises g)
      ]

-- where the other line isn't longer, this one stays
pub not-longer : (here there joined : List Logged) → IsLonger here there joined → length there ≤ length here → joined ≡ here
not-longer here there joined longer le = elim longer [ inl one ↦ one.2 ∙ sym (nothing one.0 one.1) | inr one ↦ one.2 ]
  where
    nothing : (more : List Logged) → here ++ more ≡ there → here ≡ there
    nothing [] is = sym (append-nil here) ∙ is
    nothing (r ∷ more) is =
        let sum : length (here ++ r ∷ more) ≡ length here + length (r ∷ more) = length-append here (r ∷ more) in
        let same : length (here ++ r ∷ more) ≡ length there = ap length is in
        absurd (omega (arith, sum, same, le))
