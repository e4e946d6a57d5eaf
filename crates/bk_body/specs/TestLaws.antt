-- A body passes the tests exactly where it keeps the conditions.
use Rattle.std.proofs.Common.{◌≡◌, ◌⊎◌, ℕ, zero, suc, ◌+◌, ◌*◌, ◌<◌, ◌≤◌, Bool, true, false, eqb, ltb, leb, List, [], ◌∷◌, length, get_or, refl, inl, inr, sym, subst, arith}
use Rattle.std.specs.Prelude.{◌&&◌, ◌||◌, not}
use Rattle.std.specs.List.{list_all, range_with_len, AllByRecursion}
use Rattle.std.specs.Str.{bytes_eq}
use Rattle.std.proofs.lemmas.Bool.{not-true, ne_eqb, lt-ltb, ltb-true, le-leb, leb-true, eqb-true, eq-eqb, and_parts, and_from}
use Rattle.std.proofs.lemmas.List.FromFn.{length-range_with_len, get_or-range_with_len}
use Rattle.std.proofs.lemmas.Slice.Eq.{bytes_eq-Decides}
use Rattle.bk_ids.specs.Name.{same_name}
use Rattle.bk_ids.specs.declared.record.Rec.{Rec}
use Rattle.bk_ids.specs.declared.record.ExtentId.{ExtentId}
use Rattle.bk_ids.specs.declared.record.Body.{Body as Deed}
use Rattle.bk_ids.specs.declared.record.Body.TheVariants.{Database, Table, Begin, Write, Commit, RollbackEnd, Compensation, Checkpoint, Stamp, Model, Bulk, Recovery}
use Rattle.bk_lemmas.specs.Lists.{all_at, all_tested}
use Rattle.bk_page.specs.Page.{part, number_of_page, file_of, digest_field, page_digest}
use Rattle.bk_world.specs.declared.database.TableSpec.{TableSpec}
use Rattle.bk_world.specs.declared.header.Header.{Header}
use Rattle.bk_world.specs.declared.header.HeaderFile.{HeaderFile}
use Rattle.bk_header.specs.Conditions.{IsTime}
use Rattle.bk_body.specs.Body.{Extent}
use Rattle.bk_body.specs.Conditions.{Differ, AreDifferent, KeepTables, has_extent, holds_extent, ComesBefore, ExtentsRise, IsPageOf, KeepsExtent, FollowOn, KeepsDeed, tables_made, joined, KeepsRecords}
use Rattle.bk_body.specs.Reading.{differ, are_different, keep_tables, IsExtent, is_page_of, are_pages, keeps_extent, is_from, keep_extents, is_time, keeps_deed, follow_on, keep_records}

all_from : {A : Type 0} (test : A → Bool) (P : A → Type 0) → ((x : A) → P x → test x ≡ true) → (xs : List A) → AllByRecursion P xs → list_all test xs ≡ true
all_from test P is [] h = refl
all_from test P is (x ∷ xs) h = and_from _ _ (is x h.0) (all_from test P is xs h.1)

-- ---- tables

differ_true : (table other : TableSpec) → differ table other ≡ true → Differ table other
differ_true table other e =
    let p = and_parts (not (eqb table.number other.number)) (not (same_name table.name other.name)) e in
    let numbers : eqb table.number other.number ≡ false = not-true _ p.0 in
    ((λ same. let equal : eqb table.number other.number ≡ true = eq-eqb _ _ same in cc), not-true _ p.1)

differ_from : (table other : TableSpec) → Differ table other → differ table other ≡ true
differ_from table other h =
    let numbers : eqb table.number other.number ≡ false = ne_eqb _ _ h.0 in
    let names : same_name table.name other.name ≡ false = h.1 in
    rw (numbers, names) refl

different_true : (tables : List TableSpec) → are_different tables ≡ true → AreDifferent tables
different_true [] e = tt
different_true (table ∷ tables) e =
    let p = and_parts (list_all (differ table) tables) (are_different tables) e in
    (all_tested (differ table) (Differ table) (differ_true table) tables p.0, different_true tables p.1)

different_from : (tables : List TableSpec) → AreDifferent tables → are_different tables ≡ true
different_from [] h = refl
different_from (table ∷ tables) h = and_from _ _ (all_from (differ table) (Differ table) (differ_from table) tables h.0) (different_from tables h.1)

tables_true : (groups : ℕ) (tables : List TableSpec) → keep_tables groups tables ≡ true → KeepTables groups tables
tables_true groups tables e =
    let p = and_parts (leb (length tables) 64 && list_all (λ table. ltb table.group groups) tables) (are_different tables) e in
    let q = and_parts (leb (length tables) 64) (list_all (λ table. ltb table.group groups) tables) p.0 in
    record {
      few = leb-true _ _ q.0;
      different = different_true tables p.1;
      groups_there = all_tested (λ table. ltb table.group groups) (λ table. table.group < groups) (λ table t. ltb-true _ _ t) tables q.1;
    }

tables_from : (groups : ℕ) (tables : List TableSpec) → KeepTables groups tables → keep_tables groups tables ≡ true
tables_from groups tables h =
    and_from _ _ (and_from _ _ (le-leb _ _ h.few) (all_from (λ table. ltb table.group groups) (λ table. table.group < groups) (λ table t. lt-ltb _ _ t) tables h.groups_there)) (different_from tables h.different)

-- ---- extents

page_true : (file number : ℕ) (page : List ℕ) → is_page_of file number page ≡ true → IsPageOf file number page
page_true file number page e =
    let p = and_parts (eqb (file_of page) file && eqb (number_of_page page) number) (bytes_eq (digest_field page) (page_digest page)) e in
    let q = and_parts (eqb (file_of page) file) (eqb (number_of_page page) number) p.0 in
    record { of_file = eqb-true _ _ q.0; of_number = eqb-true _ _ q.1; digest = (bytes_eq-Decides (digest_field page) (page_digest page)).0 p.1 }

page_from : (file number : ℕ) (page : List ℕ) → IsPageOf file number page → is_page_of file number page ≡ true
page_from file number page is =
    and_from _ _ (and_from _ _ (eq-eqb _ _ is.of_file) (eq-eqb _ _ is.of_number)) ((bytes_eq-Decides (digest_field page) (page_digest page)).1 is.digest)

all_range : (test : ℕ → Bool) (a n : ℕ) → ((j : ℕ) → a ≤ j → j < a + n → test j ≡ true) → list_all test (range_with_len a n) ≡ true
all_range test a zero each = refl
all_range test a (suc n) each = and_from _ _ (each a (omega arith) (omega arith)) (all_range test (a + 1) n (λ j from below. each j (omega arith) (omega arith)))

pages_true : (file first : ℕ) (bytes : List ℕ) → are_pages file first bytes ≡ true → (j : ℕ) → j < 8 → IsPageOf file (first + j) (part bytes (8192 * j) 8192)
unfolding are_pages
pages_true file first bytes e j below =
    let P : ℕ → Type 0 = λ i. IsPageOf file (first + i) (part bytes (8192 * i) 8192) in
    let all = all_tested (λ i. is_page_of file (first + i) (part bytes (8192 * i) 8192)) P (λ i t. page_true file (first + i) (part bytes (8192 * i) 8192) t) (range_with_len 0 8) e in
    let at : get_or (range_with_len 0 8) j j ≡ j = omega (arith, get_or-range_with_len 0 8 j j below) in
    let size : length (range_with_len 0 8) ≡ 8 = length-range_with_len 0 8 in
    subst P at (all_at P (range_with_len 0 8) j j (omega arith) all)

pages_from : (file first : ℕ) (bytes : List ℕ) → ((j : ℕ) → j < 8 → IsPageOf file (first + j) (part bytes (8192 * j) 8192)) → are_pages file first bytes ≡ true
unfolding are_pages
pages_from file first bytes each =
    all_range (λ i. is_page_of file (first + i) (part bytes (8192 * i) 8192)) 0 8 (λ j from below. page_from file (first + j) (part bytes (8192 * j) 8192) (each j (omega arith)))

extent_true : (files : List HeaderFile) (extent : Extent) → IsExtent extent → keeps_extent files extent ≡ true → KeepsExtent files extent
extent_true files extent is e =
    let p = and_parts (holds_extent files extent.file extent.extent) (are_pages extent.file (8 * extent.extent) extent.bytes) e in
    record { file = is.file; number = is.number; size = is.size; there = p.0; pages = pages_true extent.file (8 * extent.extent) extent.bytes p.1 }

extent_from : (files : List HeaderFile) (extent : Extent) → KeepsExtent files extent → keeps_extent files extent ≡ true
extent_from files extent is = and_from _ _ is.there (pages_from extent.file (8 * extent.extent) extent.bytes is.pages)

or_either : (a b : Bool) → (a || b) ≡ true → (a ≡ true) ⊎ (b ≡ true)
or_either true b e = inl refl
or_either false b e = inr e

or_left : (a b : Bool) → a ≡ true → (a || b) ≡ true
or_left a b e = rw e refl

or_right : (a b : Bool) → b ≡ true → (a || b) ≡ true
or_right true b e = refl
or_right false b e = e

-- an extent is of this file and number, or comes behind it
abbrev IsFrom : ℕ → ℕ → Extent → Type 0
IsFrom file number extent = (file < extent.file) ⊎ ((file ≡ extent.file) × (number ≤ extent.extent))

from_true : (file number : ℕ) (extent : Extent) → is_from file number extent ≡ true → IsFrom file number extent
from_true file number extent e =
    elim (or_either (ltb file extent.file) (eqb file extent.file && leb number extent.extent) e) [
      | inl less ↦ inl (ltb-true _ _ less)
      | inr both ↦ let p = and_parts (eqb file extent.file) (leb number extent.extent) both in inr (eqb-true _ _ p.0, leb-true _ _ p.1)
    ]

from_from : (file number : ℕ) (extent : Extent) → IsFrom file number extent → is_from file number extent ≡ true
from_from file number extent h =
    elim h [
      | inl less ↦ or_left (ltb file extent.file) (eqb file extent.file && leb number extent.extent) (lt-ltb _ _ less)
      | inr both ↦ or_right (ltb file extent.file) (eqb file extent.file && leb number extent.extent) (and_from _ _ (eq-eqb _ _ both.0) (le-leb _ _ both.1))
    ]

-- extents rise, from this file and number on
abbrev RiseFrom : ℕ → ℕ → List Extent → Type 0
RiseFrom file number [] = Unit {0}
RiseFrom file number (extent ∷ extents) = IsFrom file number extent × RiseFrom extent.file (extent.extent + 1) extents

rise_all : (file number : ℕ) (extents : List Extent) → RiseFrom file number extents → ExtentsRise extents
rise_all file number [] rise = tt
rise_all file number (one ∷ []) rise = tt
rise_all file number (one ∷ other ∷ extents) rise = (before rise.1.0, rise_all one.file (one.extent + 1) (other ∷ extents) rise.1)
  where
    before : IsFrom one.file (one.extent + 1) other → ComesBefore one other
    before (inl less) = inl less
    before (inr both) = inr (both.0, omega (arith, both.1))

rise_behind : (one : Extent) (extents : List Extent) → ExtentsRise (one ∷ extents) → RiseFrom one.file (one.extent + 1) extents
rise_behind one [] rise = tt
rise_behind one (other ∷ extents) rise = (behind rise.0, rise_behind other extents rise.1)
  where
    behind : ComesBefore one other → IsFrom one.file (one.extent + 1) other
    behind (inl less) = inl less
    behind (inr both) = inr (both.0, omega (arith, both.1))

least : (one : Extent) → IsFrom 0 0 one
least one = go one.file refl
  where
    go : (n : ℕ) → one.file ≡ n → IsFrom 0 0 one
    go zero is = inr (sym is, omega arith)
    go (suc n) is = inl (omega (arith, is))

rise_least : (extents : List Extent) → ExtentsRise extents → RiseFrom 0 0 extents
rise_least [] rise = tt
rise_least (one ∷ extents) rise = (least one, rise_behind one extents rise)

extents_true_from : (files : List HeaderFile) (file number : ℕ) (extents : List Extent) → AllByRecursion IsExtent extents → keep_extents files file number extents ≡ true → RiseFrom file number extents × AllByRecursion (KeepsExtent files) extents
extents_true_from files file number [] are e = (tt, tt)
extents_true_from files file number (extent ∷ extents) are e =
    let p = and_parts (is_from file number extent && keeps_extent files extent) (keep_extents files extent.file (extent.extent + 1) extents) e in
    let q = and_parts (is_from file number extent) (keeps_extent files extent) p.0 in
    let others = extents_true_from files extent.file (extent.extent + 1) extents are.1 p.1 in
    ((from_true file number extent q.0, others.0), (extent_true files extent are.0 q.1, others.1))

extents_from_from : (files : List HeaderFile) (file number : ℕ) (extents : List Extent) → RiseFrom file number extents → AllByRecursion (KeepsExtent files) extents → keep_extents files file number extents ≡ true
extents_from_from files file number [] rise keep = refl
extents_from_from files file number (extent ∷ extents) rise keep =
    and_from _ _ (and_from _ _ (from_from file number extent rise.0) (extent_from files extent keep.0)) (extents_from_from files extent.file (extent.extent + 1) extents rise.1 keep.1)

pub extents_true : (files : List HeaderFile) (extents : List Extent) → AllByRecursion IsExtent extents → keep_extents files 0 0 extents ≡ true → ExtentsRise extents × AllByRecursion (KeepsExtent files) extents
extents_true files extents are e =
    let both = extents_true_from files 0 0 extents are e in
    (rise_all 0 0 extents both.0, both.1)

pub extents_from : (files : List HeaderFile) (extents : List Extent) → ExtentsRise extents → AllByRecursion (KeepsExtent files) extents → keep_extents files 0 0 extents ≡ true
extents_from files extents rise keep = extents_from_from files 0 0 extents (rise_least extents rise) keep

-- ---- records

time_true : (time : ℕ) → is_time time ≡ true → IsTime time
time_true time e = leb-true _ _ e

time_from : (time : ℕ) → IsTime time → is_time time ≡ true
time_from time is = le-leb _ _ is

deed_true : (h : Header) (deed : Deed) → keeps_deed h deed ≡ true → KeepsDeed h deed
deed_true h (Database time family branch) e = time_true time e
deed_true h (Table time number name group) e = let p = and_parts (is_time time) (ltb group (length h.groups)) e in (time_true time p.0, ltb-true _ _ p.1)
deed_true h Begin e = tt
deed_true h (Write place before after) e = e
deed_true h (Commit time mark) e = time_true time e
deed_true h RollbackEnd e = tt
deed_true h (Compensation place cell undone) e = e
deed_true h (Checkpoint time) e = time_true time e
deed_true h (Stamp time set) e = time_true time e
deed_true h (Model time model) e = time_true time e
deed_true h (Bulk table first count value extents) e =
    all_tested (λ (x : ExtentId). has_extent h.files x.file x.extent) (λ (x : ExtentId). has_extent h.files x.file x.extent ≡ true) (λ x t. t) extents e
deed_true h (Recovery branch) e = tt

deed_from : (h : Header) (deed : Deed) → KeepsDeed h deed → keeps_deed h deed ≡ true
deed_from h (Database time family branch) is = time_from time is
deed_from h (Table time number name group) is = and_from _ _ (time_from time is.0) (lt-ltb _ _ is.1)
deed_from h Begin is = refl
deed_from h (Write place before after) is = is
deed_from h (Commit time mark) is = time_from time is
deed_from h RollbackEnd is = refl
deed_from h (Compensation place cell undone) is = is
deed_from h (Checkpoint time) is = time_from time is
deed_from h (Stamp time set) is = time_from time is
deed_from h (Model time model) is = time_from time is
deed_from h (Bulk table first count value extents) is =
    all_from (λ (x : ExtentId). has_extent h.files x.file x.extent) (λ (x : ExtentId). has_extent h.files x.file x.extent ≡ true) (λ x t. t) extents is
deed_from h (Recovery branch) is = refl

follow_true : (h : Header) (first : ℕ) (records : List Rec) → follow_on h first records ≡ true → FollowOn first records h.last × AllByRecursion (λ (r : Rec). KeepsDeed h r.body) records
follow_true h first [] e = (eqb-true _ _ e, tt)
follow_true h first (r ∷ records) e =
    let p = and_parts (eqb r.lsn first && keeps_deed h r.body) (follow_on h (first + 1) records) e in
    let q = and_parts (eqb r.lsn first) (keeps_deed h r.body) p.0 in
    let others = follow_true h (first + 1) records p.1 in
    ((eqb-true _ _ q.0, others.0), (deed_true h r.body q.1, others.1))

follow_from : (h : Header) (first : ℕ) (records : List Rec) → FollowOn first records h.last → AllByRecursion (λ (r : Rec). KeepsDeed h r.body) records → follow_on h first records ≡ true
follow_from h first [] numbers each = eq-eqb _ _ numbers
follow_from h first (r ∷ records) numbers each =
    and_from _ _ (and_from _ _ (eq-eqb _ _ numbers.0) (deed_from h r.body each.0)) (follow_from h (first + 1) records numbers.1 each.1)

pub records_true : (h : Header) (tables : List TableSpec) (records : List Rec) → keep_records h tables records ≡ true → KeepsRecords h tables records
unfolding keep_records
records_true h tables records e =
    let p = and_parts (follow_on h h.first records) (keep_tables (length h.groups) (joined tables (tables_made records))) e in
    let both = follow_true h h.first records p.0 in
    record { numbers = both.0; each = both.1; all_tables = tables_true (length h.groups) (joined tables (tables_made records)) p.1 }

pub records_from : (h : Header) (tables : List TableSpec) (records : List Rec) → KeepsRecords h tables records → keep_records h tables records ≡ true
unfolding keep_records
records_from h tables records is = and_from _ _ (follow_from h h.first records is.numbers is.each) (tables_from (length h.groups) (joined tables (tables_made records)) is.all_tables)
