-- What each log has, it has with one record more.
use Rattle.std.proofs.Common.{◌≡◌, ◌<◌, ◌≤◌, ℕ, ◌+◌, not, List, [], ◌∷◌, ◌++◌, Some, None, ◌⊎◌, inl, inr, refl, sym, subst, arith, append_assoc}
use Rattle.std.specs.Prelude.{◌==◌, ◌&&◌}
use Rattle.std.specs.List.{filter, AllByRecursion}
use Rattle.std.proofs.lemmas.List.{append-nil}
use Rattle.bk_ids.specs.declared.record.Place.{Place}
use Rattle.bk_world.specs.declared.database.FileSpec.{FileSpec}
use Rattle.bk_lemmas.specs.Lists.{all_filter, all_joined, all_mapped}
use Rattle.bk_world.specs.Pending.{Lies, Pending, pending, pending_after}
use Rattle.bk_world.specs.Places.{homes, homes_after, place_of, IsFreePlace}
use Rattle.bk_world.specs.ReadingLaws.{LieAt, lies-later, rise-filter, rise-one_more}
use Rattle.bk_world.specs.Records.{Counts, Deed, Logged, RowId, database_made, table_made, begun, written, committed, rolled_back, undone, checkpointed, stamped, model_set, loaded, recovered, id_of}
use Rattle.bk_world.specs.SoundLogs.{MayCome, MayFollow}
use Rattle.bk_world.specs.Telling as telling
use Rattle.bk_shown.specs.Shown.{AreNumbered, ArePlaced, IsPlaced, LogKeeps, PlacesAgree, lies_at}
use Rattle.bk_shown.proofs.Agree.{agree-commit, agree-filter, agree-write}
use Rattle.bk_shown.specs.Readings.{counts-more, follow-more, homes-with, made_by, pending-with, tables-with, with}
use Rattle.bk_shown.proofs.Tables.{numbered-more}

module _ (files : List FileSpec) (rs : List Logged) (n begin : ℕ) where
  abbrev then : Deed → List Pending
  then d = pending_after (pending rs) n begin d

  loads-by : (d : Deed) → IsPlaced files (telling.tables rs) d → AllByRecursion (λ w. w.extents ≡ []) (pending rs) → AllByRecursion (λ w. w.extents ≡ []) (then d)
  loads-by (written at before c) placed none =
      all_joined (λ w. w.extents ≡ []) (pending rs) ((record { lsn = n; begin = begin; place = at; before = before; change = c; extents = [] }) ∷ []) none (refl, tt)
  loads-by (committed time mark) placed none = all_filter (λ w. w.extents ≡ []) (λ w. not (w.begin == begin)) (pending rs) none
  loads-by rolled_back placed none = all_filter (λ w. w.extents ≡ []) (λ w. not (w.begin == begin)) (pending rs) none
  loads-by (undone at c k) placed none = all_filter (λ w. w.extents ≡ []) (λ w. not (w.begin == begin && w.lsn == k)) (pending rs) none
  loads-by (loaded load) placed none = absurd placed
  loads-by (database_made time family branch) placed none = none
  loads-by (table_made time spec) placed none = none
  loads-by begun placed none = none
  loads-by (checkpointed time) placed none = none
  loads-by (stamped time set) placed none = none
  loads-by (model_set time model) placed none = none
  loads-by (recovered branch) placed none = none

  later : (ws : List Pending) → LieAt ws n → LieAt ws (n + 1)
  later ws lie = let le : n ≤ n + 1 = omega arith in record { rise = lie.rise; each = lies-later n (n + 1) le ws lie.each }

  fewer : (p : Pending → _) (ws : List Pending) → LieAt ws n → LieAt (filter p ws) (n + 1)
  fewer p ws lie = later (filter p ws) (record { rise = rise-filter p ws lie.rise; each = all_filter (Lies n) p ws lie.each })

  lie-by : (d : Deed) → IsPlaced files (telling.tables rs) d → MayCome rs n begin d → LieAt (pending rs) n → LieAt (then d) (n + 1)
  lie-by (written at before c) placed may lie =
      let w : Pending = record { lsn = n; begin = begin; place = at; before = before; change = c; extents = [] } in
      let next : n < n + 1 = omega arith in
      record {
        rise = rise-one_more (pending rs) w lie.rise (all_mapped (Lies n) (λ v. v.lsn < n) (λ v l. l.below) (pending rs) lie.each);
        each = all_joined (Lies (n + 1)) (pending rs) (w ∷ []) ((later (pending rs) lie).each) (record { behind = may.behind; below = next }, tt);
      }
  lie-by (committed time mark) placed may lie = fewer (λ w. not (w.begin == begin)) (pending rs) lie
  lie-by rolled_back placed may lie = fewer (λ w. not (w.begin == begin)) (pending rs) lie
  lie-by (undone at c k) placed may lie = fewer (λ w. not (w.begin == begin && w.lsn == k)) (pending rs) lie
  lie-by (loaded load) placed may lie = absurd placed
  lie-by (database_made time family branch) placed may lie = later (pending rs) lie
  lie-by (table_made time spec) placed may lie = later (pending rs) lie
  lie-by begun placed may lie = later (pending rs) lie
  lie-by (checkpointed time) placed may lie = later (pending rs) lie
  lie-by (stamped time set) placed may lie = later (pending rs) lie
  lie-by (model_set time model) placed may lie = later (pending rs) lie
  lie-by (recovered branch) placed may lie = later (pending rs) lie

  place-may : (id : RowId) (at : Place) → (place_of rs id ≡ Some at) ⊎ ((place_of rs id ≡ None) × IsFreePlace rs at) → (lies_at (pending rs) (homes rs) id ≡ Some at) ⊎ (lies_at (pending rs) (homes rs) id ≡ None)
  unfolding place_of
  place-may id at (inl there) = inl there
  place-may id at (inr free) = inr free.0

  agree-by : (d : Deed) → IsPlaced files (telling.tables rs) d → MayCome rs n begin d → PlacesAgree (pending rs) (homes rs) → PlacesAgree (then d) (homes_after (pending rs) (homes rs) begin d)
  agree-by (written at before c) placed may agree =
      agree-write (pending rs) (record { lsn = n; begin = begin; place = at; before = before; change = c; extents = [] }) (homes rs) agree (place-may (id_of c) at may.place) may.unlocked
  agree-by (committed time mark) placed may agree = agree-commit begin (pending rs) (homes rs) agree
  agree-by rolled_back placed may agree = agree-filter (λ w. not (w.begin == begin)) (pending rs) (homes rs) agree
  agree-by (undone at c k) placed may agree = agree-filter (λ w. not (w.begin == begin && w.lsn == k)) (pending rs) (homes rs) agree
  agree-by (loaded load) placed may agree = absurd placed
  agree-by (database_made time family branch) placed may agree = agree
  agree-by (table_made time spec) placed may agree = agree
  agree-by begun placed may agree = agree
  agree-by (checkpointed time) placed may agree = agree
  agree-by (stamped time set) placed may agree = agree
  agree-by (model_set time model) placed may agree = agree
  agree-by (recovered branch) placed may agree = agree

  numbers-by : (d : Deed) → IsPlaced files (telling.tables rs) d → AreNumbered 1 (telling.tables rs) → AreNumbered 1 (telling.tables rs ++ made_by d)
  numbers-by (table_made time spec) placed all = numbered-more 1 (telling.tables rs) spec all placed.0
  numbers-by (written at before c) placed all = subst (AreNumbered 1) (sym (append-nil (telling.tables rs))) all
  numbers-by (committed time mark) placed all = subst (AreNumbered 1) (sym (append-nil (telling.tables rs))) all
  numbers-by rolled_back placed all = subst (AreNumbered 1) (sym (append-nil (telling.tables rs))) all
  numbers-by (undone at c k) placed all = subst (AreNumbered 1) (sym (append-nil (telling.tables rs))) all
  numbers-by (loaded load) placed all = absurd placed
  numbers-by (database_made time family branch) placed all = subst (AreNumbered 1) (sym (append-nil (telling.tables rs))) all
  numbers-by begun placed all = subst (AreNumbered 1) (sym (append-nil (telling.tables rs))) all
  numbers-by (checkpointed time) placed all = subst (AreNumbered 1) (sym (append-nil (telling.tables rs))) all
  numbers-by (stamped time set) placed all = subst (AreNumbered 1) (sym (append-nil (telling.tables rs))) all
  numbers-by (model_set time model) placed all = subst (AreNumbered 1) (sym (append-nil (telling.tables rs))) all
  numbers-by (recovered branch) placed all = subst (AreNumbered 1) (sym (append-nil (telling.tables rs))) all

  pub keeps-more : (d : Deed) → IsPlaced files (telling.tables rs) d → MayCome rs n begin d → LogKeeps rs n → LogKeeps (with rs n begin d) (n + 1)
  keeps-more d placed may log = record {
    counts = counts-more 1 rs n (record { lsn = n; begin = begin; deed = d }) log.counts refl;
    sound = follow-more [] rs (record { lsn = n; begin = begin; deed = d }) log.sound may;
    loads = subst (AllByRecursion (λ w. w.extents ≡ [])) (sym (pending-with rs n begin d)) (loads-by d placed log.loads);
    lie = subst (λ ws. LieAt ws (n + 1)) (sym (pending-with rs n begin d)) (lie-by d placed may log.lie);
    numbers = subst (AreNumbered 1) (sym (tables-with rs n begin d)) (numbers-by d placed log.numbers);
    places = subst (λ ws. PlacesAgree ws (homes (with rs n begin d))) (sym (pending-with rs n begin d))
        (subst (PlacesAgree (then d)) (sym (homes-with rs n begin d)) (agree-by d placed may log.places));
  }

-- a log whose records come one behind the other, in their places
pub keeps-along : (files : List FileSpec) (front rest : List Logged) (n end : ℕ) → Counts n rest end → MayFollow front rest → ArePlaced files front rest → LogKeeps front n → LogKeeps (front ++ rest) end
keeps-along files front [] n end counts follow placed log = subst (λ (l : List Logged). LogKeeps l end) (sym (append-nil front)) (subst (LogKeeps front) counts log)
keeps-along files front (r ∷ rest) n end counts follow placed log =
    subst (λ (l : List Logged). LogKeeps l end) (append_assoc front (r ∷ []) rest)
    (keeps-along files (front ++ r ∷ []) rest (n + 1) end counts.1 follow.1 placed.1
    (subst (λ (k : ℕ). LogKeeps (front ++ r ∷ []) (k + 1)) counts.0 (keeps-more files front r.lsn r.begin r.deed placed.0 follow.0 (subst (LogKeeps front) (sym counts.0) log))))

pub placed-join : (files : List FileSpec) (front rs next : List Logged) → ArePlaced files front rs → ArePlaced files (front ++ rs) next → ArePlaced files front (rs ++ next)
placed-join files front [] next first then = subst (λ (l : List Logged). ArePlaced files l next) (append-nil front) then
placed-join files front (r ∷ rs) next first then =
    (first.0, placed-join files (front ++ r ∷ []) rs next first.1 (subst (λ (l : List Logged). ArePlaced files l next) (sym (append_assoc front (r ∷ []) rs)) then))
