-- What is said, one record after the other: records say what they say from one number alone.
use Rattle.std.proofs.Common.{◌≡◌, ◌<◌, ℕ, ◌+◌, List, [], ◌∷◌, ◌++◌, length, map, refl, sym, ap, subst, ◌∙◌, arith}
use Rattle.bk_ids.specs.declared.record.Rec.{Rec}
use Rattle.bk_undo.specs.Spelled.{spelled}
use Rattle.bk_world.specs.Records.{Said, numbered}
use Rattle.bk_acts.specs.Meaning.{Spell, under}

pub nothing-said : (n : ℕ) → Spell [] n []
nothing-said n = refl

-- one thing more is said under the next number
numbered-more : (n : ℕ) (said : List Said) (s : Said) → map spelled (numbered n (said ++ s ∷ [])) ≡ map spelled (numbered n said) ++ under (n + length said) s ∷ []
numbered-more n [] s = let same : n ≡ n + 0 = omega arith in ap (λ (k : ℕ). under k s ∷ []) same
numbered-more n (first ∷ said) s =
    let next : (n + 1) + length said ≡ n + length (first ∷ said) = omega arith in
    ap (λ (rest : List Rec). under n first ∷ rest) (numbered-more (n + 1) said s ∙ ap (λ (k : ℕ). map spelled (numbered (n + 1) said) ++ under k s ∷ []) next)

pub said-more : (records : List Rec) (n : ℕ) (said : List Said) (s : Said) → Spell records n said → Spell (records ++ under (n + length said) s ∷ []) n (said ++ s ∷ [])
said-more records n said s spell = ap (λ (rs : List Rec). rs ++ under (n + length said) s ∷ []) spell ∙ sym (numbered-more n said s)

-- the number of the first record
abbrev first_number : List Rec → ℕ
first_number [] = 0
first_number (r ∷ records) = r.lsn

pub one-number : (records : List Rec) (n m : ℕ) (said others : List Said) → Spell records n said → Spell records m others → 0 < length said → n ≡ m
one-number records n m said others spell other some = by said others some (sym spell ∙ other)
  where
    by : (said others : List Said) → 0 < length said → map spelled (numbered n said) ≡ map spelled (numbered m others) → n ≡ m
    by [] others some same = absurd (omega (arith, some))
    by (s ∷ said) [] some same = absurd cc
    by (s ∷ said) (o ∷ others) some same = ap first_number same

pub spell-from : (records : List Rec) (n m : ℕ) (said others : List Said) → Spell records n said → Spell records m others → Spell records m said
spell-from records n m [] others spell other = spell
spell-from records n m (s ∷ said) others spell other =
    let same : n ≡ m = one-number records n m (s ∷ said) others spell other (omega arith) in
    subst (λ (k : ℕ). Spell records k (s ∷ said)) same spell
