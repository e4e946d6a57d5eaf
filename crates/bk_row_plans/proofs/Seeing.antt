-- What a transaction sees it could commit: a row that it sees lies somewhere.
use Rattle.std.proofs.Common.{◌≡◌, ℕ, Bool, true, false, cond, List, [], ◌∷◌, Option, Some, None, refl, sym, ◌∙◌, ap}
use Rattle.std.specs.Prelude.{◌==◌, is_some}
use Rattle.std.specs.List.{filter}
use Rattle.bk_ids.specs.declared.record.Place.{Place}
use Rattle.bk_world.specs.HomeLaws.{homed}
use Rattle.bk_world.specs.Pending.{Pending, of_transaction, pending}
use Rattle.bk_world.specs.Places.{home_behind, homes, last_of, later, place_behind, place_of}
use Rattle.bk_world.specs.ReadingLaws.{homes-commit, rows-commit}
use Rattle.bk_world.specs.Records.{Logged, RowId, id_of, is_row, more}
use Rattle.bk_world.specs.Says.{commit_said}
use Rattle.bk_world.specs.Telling.{row_at, rows, seen}

-- Lists.

-- what holds of all transactions holds of that of a session
-- where none of some writes is of a row, none of fewer is
last-none : (id : RowId) (p : Pending → Bool) (ws : List Pending) → last_of id ws ≡ None → last_of id (filter p ws) ≡ None
last-none id p [] none = refl
last-none id p (w ∷ ws) none = by (last_of id ws) (is_row (id_of w.change) id) refl none (p w) (last-none id p ws)
  where
    by : (o : Option Pending) (b : Bool) → is_row (id_of w.change) id ≡ b → later o (cond b (Some w) None) ≡ None → (c : Bool) → (o ≡ None → last_of id (filter p ws) ≡ None) → last_of id (cond c (w ∷ filter p ws) (filter p ws)) ≡ None
    by (Some v) b is none c rest = absurd (cc (none))
    by None true is none c rest = absurd (cc (none))
    by None false is none true rest = ap (λ (o : Option Pending). later o (cond (is_row (id_of w.change) id) (Some w) None)) (rest refl) ∙ ap (λ (b : Bool). cond b (Some w) None) is
    by None false is none false rest = rest refl

-- A commit that would come next.

module _ (rs : List Logged) (end begin : ℕ) where
  abbrev pub committed : List Logged
  committed = more rs end (commit_said begin 0 None)

  -- a row that the transaction sees lies somewhere
  pub seen-lies : (id : RowId) (value : List ℕ) → row_at (seen rs begin id.0) id.1 ≡ Some value → place_of rs id ≡ None → ⊥
  unfolding place_of
  seen-lies id value there none =
      let there_then : is_some (row_at (rows (more rs end (commit_said begin 0 None)) id.0) id.1) ≡ true = ap (λ es. is_some (row_at es id.1)) (rows-commit rs end begin 0 None id.0) ∙ ap is_some there in
      let home : is_some (homes (more rs end (commit_said begin 0 None)) id) ≡ true = sym (homed (more rs end (commit_said begin 0 None)) id) ∙ there_then in
      by (last_of id (pending rs)) refl (homes rs id) refl none (sym (ap is_some (homes-commit rs end begin 0 None id)) ∙ home)
    where
      by : (o : Option Pending) → last_of id (pending rs) ≡ o → (h : Option Place) → homes rs id ≡ h → place_behind o h ≡ None → is_some (home_behind (last_of id (of_transaction begin (pending rs))) (homes rs id)) ≡ true → ⊥
      by (Some w) is h at none home = cc (none)
      by None is (Some p) at none home = cc (none)
      by None is None at none home =
          let gone : last_of id (of_transaction begin (pending rs)) ≡ None = last-none id (λ w. w.begin == begin) (pending rs) is in
          let nowhere : is_some (home_behind None None) ≡ true = sym (ap (λ o. is_some (home_behind o (homes rs id))) gone ∙ ap (λ h. is_some (home_behind None h)) at) ∙ home in
          let wrong : false ≡ true = nowhere in
          absurd (cc (wrong))
