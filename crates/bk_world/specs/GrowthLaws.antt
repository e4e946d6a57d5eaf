-- What a whole path reads stays as a history grows.
use Rattle.std.proofs.Common.{◌≡◌, ◌<◌, ◌≤◌, ◌⊎◌, inl, inr, ℕ, zero, suc, subst, Bool, true, false, cond, List, [], ◌∷◌, ◌++◌, Option, None, Some, refl, sym, ◌∙◌, ap, arith, eqb, filter, append_assoc}
use Rattle.std.specs.List.{AllByRecursion}
use Rattle.std.proofs.lemmas.List.{append-nil}
use Rattle.std.proofs.lemmas.List.Elements.{filter-append}
use Rattle.std.proofs.lemmas.Bool.Decides.{nat_tests}
use Rattle.bk_ids.specs.declared.guid.Guid.{Guid}
use Rattle.bk_ids.specs.declared.path.Branch.{Branch}
use Rattle.bk_ids.specs.Path.{branch_at}
use Rattle.bk_world.specs.History.{is_guid, at_branch, along}
use Rattle.bk_world.specs.ApartLaws.{along-on}
use Rattle.bk_world.specs.SaidLaws.{numbered-above, line_of-appended}
use Rattle.bk_world.specs.ElsewhereLaws.{HasSome, some_at, along_at, line_of-other, guid_is}
use Rattle.bk_lemmas.specs.Lists.{all_both, all_joined, all_mapped}
use Rattle.bk_world.specs.Records.{Counts, Logged, Said, numbered}
use Rattle.bk_world.specs.Lines.{Grew, LineGrew, RecordLine, RecordLines, has_record_line, line_on, log_below, logged_on, said_on}

-- where one has the number, all that is above lies above the number
above_number : (old more : List Logged) (k : ℕ) → AllByRecursion (λ r. AllByRecursion (λ m. r.lsn < m.lsn) more) old → HasSome (filter (λ r. eqb r.lsn k) old) → AllByRecursion (λ m. k < m.lsn) more
above_number [] more k all some = absurd some
above_number (r ∷ old) more k all some = by (eqb r.lsn k) refl some (above_number old more k all.1)
  where
    by : (t : Bool) → eqb r.lsn k ≡ t → HasSome (cond t (r ∷ filter (λ s. eqb s.lsn k) old) (filter (λ s. eqb s.lsn k) old)) → (HasSome (filter (λ s. eqb s.lsn k) old) → AllByRecursion (λ m. k < m.lsn) more) → AllByRecursion (λ m. k < m.lsn) more
    by true is there rest = all_mapped (λ m. r.lsn < m.lsn) (λ m. k < m.lsn) (λ m lt. grind (arith, nat_tests, is, lt)) more all.0
    by false isnt there rest = rest there

none_above : (more : List Logged) (k : ℕ) → AllByRecursion (λ m. k < m.lsn) more → filter (λ r. eqb r.lsn k) more ≡ []
none_above [] k all = refl
none_above (m ∷ more) k all = let other : eqb m.lsn k ≡ false = grind (arith, nat_tests, all.0) in rw other (none_above more k all.1)

-- what a branch has at a number that it passed
grown_at : (old new : RecordLine) (k : ℕ) → LineGrew old new → (k ≡ 0) ⊎ HasSome (filter (λ r. eqb r.lsn k) old.records) → filter (λ r. eqb r.lsn k) new.records ≡ filter (λ r. eqb r.lsn k) old.records
grown_at old new k g there =
    ap (filter (λ r. eqb r.lsn k)) g.is ∙ filter-append (λ r. eqb r.lsn k) old.records g.more
    ∙ ap (λ rest. filter (λ r. eqb r.lsn k) old.records ++ rest) (none_above g.more k (past there)) ∙ append-nil _
  where
    past : (k ≡ 0) ⊎ HasSome (filter (λ r. eqb r.lsn k) old.records) → AllByRecursion (λ m. k < m.lsn) g.more
    past (inl e) = all_mapped (λ m. 0 < m.lsn) (λ m. k < m.lsn) (λ m lt. omega (arith, lt, e)) g.more g.positive
    past (inr some) = above_number old.records g.more k g.above some

pub records-grown : (h new : RecordLines) → Grew h new → (path : List Branch) (n : ℕ) → Counts 1 (log_below h path n) n → log_below new path n ≡ log_below h path n
unfolding log_below
records-grown h new grows path n counts = along-on (logged_on new) (logged_on h) path n (λ k lt. here k (branch_at path k) (there k lt))
  where
    there : (k : ℕ) → k < n → (k ≡ 0) ⊎ HasSome (at_branch (logged_on h) (branch_at path k) k)
    there zero lt = inl refl
    there (suc k) lt = inr (subst HasSome (along_at h path n (suc k) lt) (some_at 1 n (suc k) (along (logged_on h) path n) counts (omega arith) lt))

    here : (k : ℕ) (o : Option Guid) → (k ≡ 0) ⊎ HasSome (at_branch (logged_on h) o k) → at_branch (logged_on new) o k ≡ at_branch (logged_on h) o k
    here k None some = refl
    here k (Some b) some = grown_at (line_on h b) (line_on new b) k (grows b) some

-- what is said at the end of a branch makes a history grow
pub grows-said : (h : RecordLines) (g : Guid) (end : ℕ) (said : List Said) → has_record_line h g ≡ true → 0 < end → AllByRecursion (λ r. r.lsn < end) (line_on h g).records → Grew h (said_on h g (numbered end said))
grows-said h g end said there positive below b = by (is_guid g b) refl
  where
    over : (rs : List Logged) → AllByRecursion (λ r. r.lsn < end) rs → AllByRecursion (λ r. AllByRecursion (λ m. r.lsn < m.lsn) (numbered end said)) rs
    over rs all = all_mapped (λ r. r.lsn < end) (λ r. AllByRecursion (λ m. r.lsn < m.lsn) (numbered end said)) (λ r lt. all_mapped (λ m. end ≤ m.lsn) (λ m. r.lsn < m.lsn) (λ m le. omega arith) (numbered end said) (numbered-above end said)) rs all

    no_more : (rs : List Logged) → AllByRecursion (λ (r : Logged). AllByRecursion (λ (m : Logged). r.lsn < m.lsn) []) rs
    no_more [] = tt
    no_more (r ∷ rs) = (tt, no_more rs)

    by : (t : Bool) → is_guid g b ≡ t → LineGrew (line_on h b) (line_on (said_on h g (numbered end said)) b)
    by true is =
        subst (λ x. LineGrew (line_on h x) (line_on (said_on h g (numbered end said)) x)) (guid_is g b is) (record {
          more = numbered end said;
          is = ap (λ (line : RecordLine). line.records) (line_of-appended h g (numbered end said) there);
          above = over (line_on h g).records below;
          positive = all_mapped (λ m. end ≤ m.lsn) (λ m. 0 < m.lsn) (λ m le. omega arith) (numbered end said) (numbered-above end said);
        })
    by false isnt = record {
      more = [];
      is = ap (λ (line : RecordLine). line.records) (line_of-other h g (numbered end said) b isnt) ∙ sym (append-nil _);
      above = no_more (line_on h b).records;
      positive = tt;
    }

-- and growing twice is growing
pub grows-on : (a b c : RecordLines) → Grew a b → Grew b c → Grew a c
grows-on a b c first second g =
    let one : LineGrew (line_on a g) (line_on b g) = first g in
    let two : LineGrew (line_on b g) (line_on c g) = second g in
    let above : AllByRecursion (λ r. AllByRecursion (λ m. r.lsn < m.lsn) two.more) ((line_on a g).records ++ one.more) = subst (AllByRecursion (λ r. AllByRecursion (λ m. r.lsn < m.lsn) two.more)) one.is two.above in record {
      more = one.more ++ two.more;
      is = two.is ∙ ap (λ rs. rs ++ two.more) one.is ∙ append_assoc (line_on a g).records one.more two.more;
      above = all_both (λ r. AllByRecursion (λ m. r.lsn < m.lsn) one.more) (λ r. AllByRecursion (λ m. r.lsn < m.lsn) two.more) (λ r. AllByRecursion (λ m. r.lsn < m.lsn) (one.more ++ two.more))
          (λ r x y. all_joined (λ m. r.lsn < m.lsn) one.more two.more x y) (line_on a g).records one.above (front (line_on a g).records one.more two.more above);
      positive = all_joined (λ m. 0 < m.lsn) one.more two.more one.positive two.positive;
    }
  where
    front : (xs ys more : List Logged) → AllByRecursion (λ r. AllByRecursion (λ m. r.lsn < m.lsn) more) (xs ++ ys) → AllByRecursion (λ r. AllByRecursion (λ m. r.lsn < m.lsn) more) xs
    front [] ys more all = tt
    front (x ∷ xs) ys more all = (all.0, front xs ys more all.1)
