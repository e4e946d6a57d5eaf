-- Whether records are the log of a set, found one after the other.
use Rattle.std.proofs.Common.{◌≡◌, ℕ, ◌+◌, ◌<◌, ◌≤◌, Bool, true, false, eqb, ltb, leb, List, [], ◌∷◌, ◌++◌, length, None, refl, sym, ap, subst, ◌∙◌, arith, length-append}
use Rattle.std.specs.Prelude.{◌&&◌}
use Rattle.std.specs.List.{list_all, flat_map}
use Rattle.std.proofs.lemmas.Bool.{and_parts, and_from, eq-eqb, eqb-true, leb-true, lt-ltb}
use Rattle.bk_ids.specs.declared.record.Rec.{Rec}
use Rattle.bk_record.specs.Log.{Left, Reads, IsBad, IsLog}
use Rattle.bk_record.specs.RecordsLaws.{whole_is, some_bytes, log_behind, log_ends}
use Rattle.bk_record.specs.Spelling.{spelling}
use Rattle.bk_world.specs.declared.database.TableSpec.{TableSpec}
use Rattle.bk_world.specs.declared.header.Header.{Header}
use Rattle.bk_body.specs.Conditions.{made_by, tables_made, with_table, joined}
use Rattle.bk_body.specs.Laws.{joined_more}
use Rattle.bk_body.specs.Reading.{are_different, keep_tables, keeps_deed, follow_on, keep_records}

-- the test from a number on, with these tables so far
abbrev pub rest_keeps : Header → ℕ → List TableSpec → List Rec → Bool
rest_keeps h next all later = follow_on h next later && keep_tables (length h.groups) (joined all (tables_made later))

-- records are left in these bytes, and decide
pub record Later (h : Header) (tables : List TableSpec) (records : List Rec) (next : ℕ) (all : List TableSpec) (left : List ℕ) : Type 0 where
  pub later : List Rec
  pub log : IsLog left later None
  pub same : keep_records h tables records ≡ rest_keeps h next all later

pub starts : (h : Header) (tables : List TableSpec) (records : List Rec) (log : List ℕ) → IsLog log records None → Later h tables records h.first tables log
unfolding keep_records
starts h tables records log is = record { later = records; log = is; same = refl }

joined_append : (tables one two : List TableSpec) → joined tables (one ++ two) ≡ joined (joined tables one) two
joined_append tables [] two = refl
joined_append tables (table ∷ one) two = joined_append (with_table tables table) one two

-- one record more
pub goes_on : (h : Header) (tables : List TableSpec) (records : List Rec) (next : ℕ) (all more : List TableSpec) (old new : Left) (r : Rec)
    → Later h tables records next all old.bytes → Reads old r new → r.lsn ≡ next → keeps_deed h r.body ≡ true → more ≡ joined all (made_by r.body) → Later h tables records (next + 1) more new.bytes
goes_on h tables records next all more old new r so_far reads numbered keeps is =
    let behind = log_behind old.bytes so_far.later r new.bytes so_far.log reads.begins in
    let first : eqb r.lsn next ≡ true = eq-eqb _ _ numbered in
    let step : rest_keeps h next all (r ∷ behind.0) ≡ rest_keeps h (next + 1) (joined all (made_by r.body)) behind.0 =
    rw (first, keeps) (ap (λ (ts : List TableSpec). follow_on h (next + 1) behind.0 && keep_tables (length h.groups) ts) (joined_append all (made_by r.body) (tables_made behind.0))) in
    record {
      later = behind.0;
      log = behind.1.1;
      same = so_far.same ∙ ap (rest_keeps h next all) behind.1.0 ∙ step ∙ ap (λ (ts : List TableSpec). rest_keeps h (next + 1) ts behind.0) (sym is);
    }

false_or_true : (b : Bool) → (b ≡ true → ⊥) → b ≡ false
false_or_true true not = absurd (not refl)
false_or_true false not = refl

follow_length : (h : Header) (first : ℕ) (records : List Rec) → follow_on h first records ≡ true → first + length records ≡ h.last
follow_length h first [] e = omega (arith, eqb-true _ _ e)
follow_length h first (r ∷ records) e =
    let p = and_parts (eqb r.lsn first && keeps_deed h r.body) (follow_on h (first + 1) records) e in
    omega (arith, follow_length h (first + 1) records p.1)

-- a record that doesn't fit decides
pub fits_not : (h : Header) (tables : List TableSpec) (records : List Rec) (next : ℕ) (all : List TableSpec) (old new : Left) (r : Rec)
    → Later h tables records next all old.bytes → Reads old r new → (ltb next h.last && eqb r.lsn next && keeps_deed h r.body) ≡ false → keep_records h tables records ≡ false
fits_not h tables records next all old new r so_far reads wrong =
    let behind = log_behind old.bytes so_far.later r new.bytes so_far.log reads.begins in
    false_or_true _ (λ is.
    let whole : rest_keeps h next all (r ∷ behind.0) ≡ true = sym (so_far.same ∙ ap (rest_keeps h next all) behind.1.0) ∙ is in
    let p = and_parts (follow_on h next (r ∷ behind.0)) (keep_tables (length h.groups) (joined all (tables_made (r ∷ behind.0)))) whole in
    let q = and_parts (eqb r.lsn next && keeps_deed h r.body) (follow_on h (next + 1) behind.0) p.0 in
    let s = and_parts (eqb r.lsn next) (keeps_deed h r.body) q.0 in
    let below : next < h.last = omega (arith, follow_length h next (r ∷ behind.0) p.0) in
    let all_true : (ltb next h.last && eqb r.lsn next && keeps_deed h r.body) ≡ true = and_from _ _ (and_from _ _ (lt-ltb _ _ below) s.0) s.1 in
    cc)

-- and so do too many tables
pub too_many : (h : Header) (tables : List TableSpec) (records : List Rec) (next : ℕ) (all : List TableSpec) (left : List ℕ) → Later h tables records next all left → 64 < length all → keep_records h tables records ≡ false
too_many h tables records next all left so_far many =
    false_or_true _ (λ is.
    let p = and_parts (follow_on h next so_far.later) (keep_tables (length h.groups) (joined all (tables_made so_far.later))) (sym so_far.same ∙ is) in
    let q = and_parts (leb (length (joined all (tables_made so_far.later))) 64 && list_all (λ table. ltb table.group (length h.groups)) (joined all (tables_made so_far.later))) (are_different (joined all (tables_made so_far.later))) p.1 in
    let r = and_parts (leb (length (joined all (tables_made so_far.later))) 64) (list_all (λ table. ltb table.group (length h.groups)) (joined all (tables_made so_far.later))) q.0 in
    let few : length (joined all (tables_made so_far.later)) ≤ 64 = leb-true _ _ r.0 in
    omega (arith, few, many, joined_more all (tables_made so_far.later)))

none_left : (later : List Rec) → IsLog [] later None → later ≡ []
none_left [] log = refl
none_left (r ∷ later) log = absurd (omega (arith, ap length (whole_is [] (r ∷ later) log), length-append (spelling r) (flat_map spelling later), some_bytes r))

-- at the end
pub ends : (h : Header) (tables : List TableSpec) (records : List Rec) (next : ℕ) (all : List TableSpec) (left : List ℕ) → Later h tables records next all left → left ≡ [] → keep_records h tables records ≡ (eqb next h.last && keep_tables (length h.groups) all)
ends h tables records next all left so_far nothing =
    let none : so_far.later ≡ [] = none_left so_far.later (subst (λ (b : List ℕ). IsLog b so_far.later None) nothing so_far.log) in
    so_far.same ∙ ap (rest_keeps h next all) none

-- whole records don't break off
pub never_bad : (h : Header) (tables : List TableSpec) (records : List Rec) (next : ℕ) (all : List TableSpec) (left : List ℕ) → Later h tables records next all left → IsBad left → ⊥
never_bad h tables records next all left so_far bad =
    let none : so_far.later ≡ [] = log_ends left so_far.later so_far.log bad.unspelled in
    bad.some (whole_is left so_far.later so_far.log ∙ ap (flat_map spelling) none)
