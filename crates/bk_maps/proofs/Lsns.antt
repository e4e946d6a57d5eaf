-- The marks after one more LSN.
use Rattle.std.proofs.Common.{◌≡◌, ℕ, ◌-◌, ◌≤◌, List, [], length, Option, Some, None, Bool, true, false, sym, ap, ◌∙◌, subst, arith, ⊎_elim, inl, inr, ◌⊎◌, length-set, get_or-set_same, get_or-set_other}
use Rattle.std.specs.Prelude.{slice_index_or, slice_set}
use Rattle.std.proofs.lemmas.Bool.{cases_eq, cases_lt}
use Rattle.bk_maps.specs.declared.file_marks.Marks.{Marks}
use Rattle.bk_maps.specs.Marks.{unmarked, raised, raised_mark, IsMarkFrom}
use Rattle.bk_maps.specs.Maps.{ChangeMaps, HasExtent, file_of, marks_of, with_lsn}
use Rattle.bk_maps.specs.Calls.{Call, called, IsCallOn, SetsPage, SetsBulk}
use Rattle.bk_maps.specs.Calls.Call.{set, rebase, clear_bulk}

pub raised-to : (from lsn : ℕ) (mark : Option ℕ) → IsMarkFrom from (raised_mark mark lsn) → IsMarkFrom from mark ⊎ (from ≤ lsn)
raised-to from lsn None h = inr h
raised-to from lsn (Some mark) h = ⊎_elim (λ lt. inl (omega arith)) (λ ge. inr ge) (cases_lt lsn from)

pub raised-old : (from lsn : ℕ) (mark : Option ℕ) → IsMarkFrom from mark → IsMarkFrom from (raised_mark mark lsn)
raised-old from lsn None h = absurd h
raised-old from lsn (Some mark) h = omega arith

pub raised-new : (from lsn : ℕ) (mark : Option ℕ) → from ≤ lsn → IsMarkFrom from (raised_mark mark lsn)
raised-new from lsn None h = h
raised-new from lsn (Some mark) h = omega arith

module _ (maps : ChangeMaps) (file extent lsn : ℕ) (bulk : Bool) (has : HasExtent maps file extent) where
  abbrev new : ChangeMaps
  new = with_lsn maps file extent lsn bulk

  abbrev written : List Marks
  written = slice_set (file_of maps file) (extent - 1) (raised (marks_of maps file extent) lsn bulk)

  pub file_of-same : file_of new file ≡ written
  file_of-same = get_or-set_same maps.files (file - 1) written [] (omega (arith, has.first_file, has.last_file))

  pub file_of-other : (f : ℕ) → (f - 1 ≡ file - 1 → ⊥) → file_of new f ≡ file_of maps f
  file_of-other f apart = get_or-set_other maps.files (file - 1) (f - 1) written [] apart

  pub marks_of-same : marks_of new file extent ≡ raised (marks_of maps file extent) lsn bulk
  marks_of-same =
      ap (λ l. slice_index_or l (extent - 1) unmarked) file_of-same
      ∙ get_or-set_same (file_of maps file) (extent - 1) (raised (marks_of maps file extent) lsn bulk) unmarked (omega (arith, has.first_extent, has.last_extent))

  length-file_of : (f : ℕ) → length (file_of new f) ≡ length (file_of maps f)
  length-file_of f = ⊎_elim
      (λ same. ap (λ k. length (slice_index_or new.files k [])) same
      ∙ ap (λ (l : List Marks). length l) file_of-same
      ∙ length-set (file_of maps file) (extent - 1) (raised (marks_of maps file extent) lsn bulk)
      ∙ ap (λ k. length (slice_index_or maps.files k [])) (sym same))
      (λ apart. ap (λ (l : List Marks). length l) (file_of-other f apart))
      (cases_eq (f - 1) (file - 1))

  pub HasExtent-with_lsn : (f e : ℕ) → HasExtent maps f e → HasExtent new f e
  HasExtent-with_lsn f e h = record {
    first_file = h.first_file;
    last_file = omega (arith, h.last_file, length-set maps.files (file - 1) written);
    first_extent = h.first_extent;
    last_extent = omega (arith, h.last_extent, length-file_of f);
  }

  pub marks_of-other : (f e : ℕ) → HasExtent maps f e → (file ≡ f → extent ≡ e → ⊥) → marks_of new f e ≡ marks_of maps f e
  marks_of-other f e h apart = ⊎_elim
      (λ same.
      let one_file : file ≡ f = omega (arith, h.first_file, has.first_file) in
      let others : e - 1 ≡ extent - 1 → ⊥ = λ k. apart one_file (omega (arith, h.first_extent, has.first_extent)) in
      ap (λ k. slice_index_or (slice_index_or new.files k []) (e - 1) unmarked) same
      ∙ ap (λ l. slice_index_or l (e - 1) unmarked) file_of-same
      ∙ get_or-set_other (file_of maps file) (extent - 1) (e - 1) (raised (marks_of maps file extent) lsn bulk) unmarked others
      ∙ ap (λ k. slice_index_or (slice_index_or maps.files k []) (e - 1) unmarked) (sym same))
      (λ differ. ap (λ l. slice_index_or l (e - 1) unmarked) (file_of-other f differ))
      (cases_eq (f - 1) (file - 1))

pub HasExtent-called : (maps : ChangeMaps) (call : Call) (f e : ℕ) → IsCallOn maps call → HasExtent maps f e → HasExtent (called maps call) f e
HasExtent-called maps (set file extent lsn bulk) f e on h = HasExtent-with_lsn maps file extent lsn bulk on f e h
HasExtent-called maps (rebase base) f e on h = record { first_file = h.first_file; last_file = h.last_file; first_extent = h.first_extent; last_extent = h.last_extent }
HasExtent-called maps (clear_bulk archive) f e on h = record { first_file = h.first_file; last_file = h.last_file; first_extent = h.first_extent; last_extent = h.last_extent }

-- the call names this extent or another one
here_or_elsewhere : (file extent f e : ℕ) → ((file ≡ f) × (extent ≡ e)) ⊎ (file ≡ f → extent ≡ e → ⊥)
here_or_elsewhere file extent f e = ⊎_elim
    (λ same. ⊎_elim (λ also. inl (same, also)) (λ apart. inr (λ x y. apart y)) (cases_eq extent e))
    (λ apart. inr (λ x y. apart x))
    (cases_eq file f)

-- the marks of an extent after a call
marks_at : (maps : ChangeMaps) (file extent lsn : ℕ) (bulk : Bool) (f e : ℕ) → HasExtent maps file extent → file ≡ f → extent ≡ e
    → marks_of (with_lsn maps file extent lsn bulk) f e ≡ raised (marks_of maps f e) lsn bulk
marks_at maps file extent lsn bulk f e on same also =
    ap (λ k. marks_of (with_lsn maps file extent lsn bulk) k e) (sym same)
    ∙ ap (λ k. marks_of (with_lsn maps file extent lsn bulk) file k) (sym also)
    ∙ marks_of-same maps file extent lsn bulk on
    ∙ ap (λ k. raised (marks_of maps k extent) lsn bulk) same
    ∙ ap (λ k. raised (marks_of maps f k) lsn bulk) also

module _ (f e from : ℕ) where
  abbrev PageFrom : ChangeMaps → Type 0
  PageFrom maps = IsMarkFrom from ((marks_of maps f e).page)

  abbrev BulkFrom : ChangeMaps → Type 0
  BulkFrom maps = IsMarkFrom from ((marks_of maps f e).bulk)

  pub page-to : (maps : ChangeMaps) (call : Call) → IsCallOn maps call → HasExtent maps f e → PageFrom (called maps call) → PageFrom maps ⊎ SetsPage f e from call
  page-to maps (set file extent lsn bulk) on has h = ⊎_elim
      (λ here. ⊎_elim (λ old. inl old) (λ lsn. inr (here.0, here.1, lsn))
      (raised-to from lsn ((marks_of maps f e).page) (subst (λ (m : Marks). IsMarkFrom from m.page) (marks_at maps file extent lsn bulk f e on here.0 here.1) h)))
      (λ apart. inl (subst (λ (m : Marks). IsMarkFrom from m.page) (marks_of-other maps file extent lsn bulk on f e has apart) h))
      (here_or_elsewhere file extent f e)
  page-to maps (rebase base) on has h = inl h
  page-to maps (clear_bulk archive) on has h = inl h

  pub page-from : (maps : ChangeMaps) (call : Call) → IsCallOn maps call → HasExtent maps f e → PageFrom maps ⊎ SetsPage f e from call → PageFrom (called maps call)
  page-from maps (set file extent lsn bulk) on has h = ⊎_elim
      (λ here. subst (λ (m : Marks). IsMarkFrom from m.page) (sym (marks_at maps file extent lsn bulk f e on here.0 here.1))
      (⊎_elim (λ old. raised-old from lsn ((marks_of maps f e).page) old) (λ sets. raised-new from lsn ((marks_of maps f e).page) sets.2) h))
      (λ apart. subst (λ (m : Marks). IsMarkFrom from m.page) (sym (marks_of-other maps file extent lsn bulk on f e has apart))
      (⊎_elim (λ old. old) (λ sets. absurd (apart sets.0 sets.1)) h))
      (here_or_elsewhere file extent f e)
  page-from maps (rebase base) on has h = ⊎_elim (λ old. old) (λ none. absurd none) h
  page-from maps (clear_bulk archive) on has h = ⊎_elim (λ old. old) (λ none. absurd none) h

  pub bulk-to : (maps : ChangeMaps) (call : Call) → IsCallOn maps call → HasExtent maps f e → BulkFrom (called maps call) → BulkFrom maps ⊎ SetsBulk f e from call
  bulk-to maps (set file extent lsn true) on has h = ⊎_elim
      (λ here. ⊎_elim (λ old. inl old) (λ lsn. inr (here.0, here.1, lsn))
      (raised-to from lsn ((marks_of maps f e).bulk) (subst (λ (m : Marks). IsMarkFrom from m.bulk) (marks_at maps file extent lsn true f e on here.0 here.1) h)))
      (λ apart. inl (subst (λ (m : Marks). IsMarkFrom from m.bulk) (marks_of-other maps file extent lsn true on f e has apart) h))
      (here_or_elsewhere file extent f e)
  bulk-to maps (set file extent lsn false) on has h = ⊎_elim
      (λ here. inl (subst (λ (m : Marks). IsMarkFrom from m.bulk) (marks_at maps file extent lsn false f e on here.0 here.1) h))
      (λ apart. inl (subst (λ (m : Marks). IsMarkFrom from m.bulk) (marks_of-other maps file extent lsn false on f e has apart) h))
      (here_or_elsewhere file extent f e)
  bulk-to maps (rebase base) on has h = inl h
  bulk-to maps (clear_bulk archive) on has h = inl h

  pub bulk-from : (maps : ChangeMaps) (call : Call) → IsCallOn maps call → HasExtent maps f e → BulkFrom maps ⊎ SetsBulk f e from call → BulkFrom (called maps call)
  bulk-from maps (set file extent lsn true) on has h = ⊎_elim
      (λ here. subst (λ (m : Marks). IsMarkFrom from m.bulk) (sym (marks_at maps file extent lsn true f e on here.0 here.1))
      (⊎_elim (λ old. raised-old from lsn ((marks_of maps f e).bulk) old) (λ sets. raised-new from lsn ((marks_of maps f e).bulk) sets.2) h))
      (λ apart. subst (λ (m : Marks). IsMarkFrom from m.bulk) (sym (marks_of-other maps file extent lsn true on f e has apart))
      (⊎_elim (λ old. old) (λ sets. absurd (apart sets.0 sets.1)) h))
      (here_or_elsewhere file extent f e)
  bulk-from maps (set file extent lsn false) on has h = ⊎_elim
      (λ here. subst (λ (m : Marks). IsMarkFrom from m.bulk) (sym (marks_at maps file extent lsn false f e on here.0 here.1)) (⊎_elim (λ old. old) (λ none. absurd none) h))
      (λ apart. subst (λ (m : Marks). IsMarkFrom from m.bulk) (sym (marks_of-other maps file extent lsn false on f e has apart)) (⊎_elim (λ old. old) (λ none. absurd none) h))
      (here_or_elsewhere file extent f e)
  bulk-from maps (rebase base) on has h = ⊎_elim (λ old. old) (λ none. absurd none) h
  bulk-from maps (clear_bulk archive) on has h = ⊎_elim (λ old. old) (λ none. absurd none) h
