-- Where a row of a table lies, or may lie, by what is found in memory.
use Rattle.std.proofs.Common.{◌≡◌, ◌⊎◌, inl, inr, ℕ, Bool, true, false, List, [], ◌∷◌, Option, Some, None, Ok, refl, sym, ◌∙◌, ap, subst}
use Rattle.std.specs.Prelude.{◌==◌, is_some, Err, MatchOption}
use Rattle.std.specs.List.{find}
use Rattle.bk_ids.specs.declared.record.Place.{Place}
use Rattle.bk_kept.specs.Keeps.{ShowsLog, database_of}
use Rattle.bk_kept.specs.declared.kept.Database.{Database as KeptDatabase}
use Rattle.bk_machine.specs.Built.{FreeCell}
use Rattle.bk_machine.specs.Checks.{refuse_if}
use Rattle.bk_machine.specs.Room.{is_full}
use Rattle.bk_machine.specs.Seen.{tables_in, visible, visible_by}
use Rattle.bk_machine.specs.Sound.{IsLog, IsSound, IsWholeDatabase}
use Rattle.bk_machine.specs.TargetLaws.{IsTarget, numbered-named}
use Rattle.bk_machine.specs.World.{World, log_of, transaction_of}
use Rattle.bk_machine.specs.statements.Target.{MayPlace, is_full_for}
use Rattle.bk_shown.specs.Shown.{IsFreeFor, LieInCells, Shows}
use Rattle.bk_world.specs.HomeLaws.{homed}
use Rattle.bk_world.specs.Pending.{Pending, pending}
use Rattle.bk_world.specs.Places.{IsCellOf, IsFreePlace, homes, last_of, place_behind, place_of}
use Rattle.bk_world.specs.Records.{Logged}
use Rattle.bk_world.specs.Telling.{row_at, tables}
use Rattle.bk_world.specs.declared.database.FileSpec.{FileSpec}
use Rattle.bk_world.specs.declared.database.TableSpec.{TableSpec}
use Rattle.bk_world.specs.declared.rule.Rule.{Rule}
use Rattle.bk_world.specs.declared.transaction.Open.{Open}
use Rattle.bk_plans.specs.Checking.{IsBrokenBy, IsRefused}
use Rattle.bk_row_plans.specs.Targets.{target_of}
use Rattle.bk_plans.specs.declared.refusal.Refusal.{Refusal}
use Rattle.bk_plans.specs.declared.refusal.Refusal.TheVariants.{Broken, NoMemory}
use Rattle.bk_row_plans.proofs.FullGroups.{FullWhere}
use Rattle.bk_row_plans.proofs.Seeing.{seen-lies}
use Rattle.bk_row_plans.proofs.Sounds.{of-current}

-- what a log shows, by the machine's word for the log
pub shows-of : (w : World) (d : KeptDatabase) → ShowsLog w.history d → Shows d.files (log_of w.history (database_of d)) d.shown
unfolding log_of
shows-of w d shows = shows

-- In memory alone.

module _ (w : World) (d : KeptDatabase) (t : TableSpec) (key : ℕ) where
  abbrev pub own : Place → Type 0
  own at = place_of (log_of w.history (database_of d)) (t.number, key) ≡ Some at

  abbrev pub may : Place → Type 0
  may at = MayPlace w (target_of d t) (t.number, key) at

  module _ (there : find (λ (m : TableSpec). m.number == t.number) (tables_in w (database_of d)) ≡ Some t) where
    -- it may lie where it lies
    pub may-own : (at : Place) → Some at ≡ place_of (log_of w.history (database_of d)) (t.number, key) → LieInCells d.files (log_of w.history (database_of d)) → may at
    unfolding tables_in
    may-own at is lie =
        let its = lie (t.number, key) at (sym is) in
        let both : Some its.0 ≡ Some t = sym its.1 ∙ there in
        let same : its.0 ≡ t = cc in
        record { place = inl (sym is); cell = subst (λ (u : TableSpec). IsCellOf d.files u.group at) same its.2 }

    -- or, where it lies nowhere, in a free cell
    pub may-free : (at : Place) → None ≡ place_of (log_of w.history (database_of d)) (t.number, key) → IsFreeFor d.files (log_of w.history (database_of d)) t.number at → may at
    unfolding tables_in
    may-free at none free =
        let both : Some free.spec ≡ Some t = sym free.there ∙ there in
        let same : free.spec ≡ t = cc in
        record { place = inr (sym none, free.free); cell = subst (λ (u : TableSpec). IsCellOf d.files u.group at) same free.cell }

    -- and nowhere else
    pub may-none : None ≡ place_of (log_of w.history (database_of d)) (t.number, key) → ((at : Place) → ¬ IsFreeFor d.files (log_of w.history (database_of d)) t.number at) → (at : Place) → ¬ may at
    unfolding tables_in
    may-none none taken at its = by its.place
      where
        by : (own at) ⊎ ((place_of (log_of w.history (database_of d)) (t.number, key) ≡ None) × IsFreePlace (log_of w.history (database_of d)) at) → ⊥
        by (inl here) = let wrong : None ≡ Some at = none ∙ here in absurd cc
        by (inr free) = taken at (record { spec = t; there = there; cell = its.cell; free = free.1 })

    -- where it lies nowhere, by what was found free
    pub cell-or-none : (found : Option Place) → Shows d.files (log_of w.history (database_of d)) d.shown → None ≡ place_of (log_of w.history (database_of d)) (t.number, key)
        → MatchOption found ((files : List FileSpec) (ss : List Logged) → Shows files ss d.shown → (at : Place) → ¬ IsFreeFor files ss t.number at)
        (λ at. (files : List FileSpec) (ss : List Logged) → Shows files ss d.shown → IsFreeFor files ss t.number at)
        → MatchOption found ((at : Place) → ¬ MayPlace w (target_of d t) (t.number, key) at) (λ at. MayPlace w (target_of d t) (t.number, key) at)
    cell-or-none None shows none given = may-none none (given d.files (log_of w.history (database_of d)) shows)
    cell-or-none (Some at) shows none given = may-free at none (given d.files (log_of w.history (database_of d)) shows)

-- In a sound world.

-- what is known of a table of a database that is kept
pub record Known (w : World) (d : KeptDatabase) (t : TableSpec) : Type 0 where
  pub log : IsLog d.files (log_of w.history (database_of d)) d.shown.«end»
  pub there : find (λ (m : TableSpec). m.number == t.number) (tables_in w (database_of d)) ≡ Some t

pub known : (w : World) (name : List ℕ) (d : KeptDatabase) (t : TableSpec) → IsSound w → IsTarget w name (target_of d t) → Known w d t
unfolding tables_in
known w name d t sound its =
    let whole = of-current (IsWholeDatabase w) w (database_of d) sound.whole.databases its.is in
    record {
      log = whole.log;
      there = numbered-named (tables (log_of w.history (database_of d))) name t whole.log.tables its.table;
    }

module _ (w : World) (d : KeptDatabase) (t : TableSpec) (key : ℕ) (its : Known w d t) (full : FullWhere d.files (log_of w.history (database_of d))) where
  abbrev rs : List Logged
  rs = log_of w.history (database_of d)

  -- where there is a cell, the group isn't full
  pub room-there : (at : Place) → MayPlace w (target_of d t) (t.number, key) at → is_full_for w (target_of d t) key ≡ false
  unfolding tables_in
  room-there at may = by may.place
    where
      by : (place_of rs (t.number, key) ≡ Some at) ⊎ ((place_of rs (t.number, key) ≡ None) × IsFreePlace rs at) → is_full rs d.files t.group ((t.number, key) ∷ []) ≡ false
      by (inl own) = full.own (t.number, key) at t own its.there
      by (inr free) = full.free t.group (t.number, key) free.0 (record { at = at; cell = may.cell; free = free.1 })

  -- where there is none, it is
  pub room-none : ((at : Place) → ¬ MayPlace w (target_of d t) (t.number, key) at) → is_full_for w (target_of d t) key ≡ true
  unfolding tables_in
  room-none none = by (place_of rs (t.number, key)) refl (is_full rs d.files t.group ((t.number, key) ∷ [])) refl
    where
      by : (o : Option Place) → place_of rs (t.number, key) ≡ o → (b : Bool) → is_full rs d.files t.group ((t.number, key) ∷ []) ≡ b → is_full rs d.files t.group ((t.number, key) ∷ []) ≡ true
      by o is true e = e
      by (Some at) is false e =
          let lies = full.lies (t.number, key) at is in
          let both : Some lies.table ≡ Some t = sym lies.there ∙ its.there in
          let same : lies.table ≡ t = cc in
          absurd (none at (record { place = inl is; cell = subst (λ (u : TableSpec). IsCellOf d.files u.group at) same lies.cell }))
      by None is false e =
          let cell : FreeCell rs d.files t.group = full.room t.group (t.number, key) is e in
          absurd (none cell.at (record { place = inr (is, cell.free); cell = cell.cell }))

-- a refusal by a rule is the machine's, where its test holds
pub refused-by : (rule : Rule) (refusal : Refusal) (test : Bool) → IsBrokenBy rule refusal → test ≡ true → IsRefused refusal (refuse_if test rule)
refused-by rule (Broken other) test is holds = ap (λ (b : Bool). refuse_if b rule) holds ∙ ap (λ (r : Rule). Err r) (sym is)
refused-by rule NoMemory test is holds = tt

pub passes-by : (rule : Rule) (test : Bool) → test ≡ false → refuse_if test rule ≡ Ok tt
passes-by rule test is = ap (λ (b : Bool). refuse_if b rule) is

-- What the current session sees of a row.

module _ (w : World) (d : KeptDatabase) (t : TableSpec) (key : ℕ) (before : List ℕ) (there : row_at (visible w (database_of d) t) key ≡ Some before) where
  -- it lies somewhere
  pub visible-lies : place_of (log_of w.history (database_of d)) (t.number, key) ≡ None → ⊥
  unfolding visible place_of
  visible-lies none = by (transaction_of d.transactions w.session) there
    where
      home : (o : Option Pending) (h : Option Place) → place_behind o h ≡ None → is_some h ≡ true → ⊥
      home (Some v) h none some = cc (none)
      home None (Some at) none some = cc (none)
      home None None none some = cc (some)

      by : (o : Option Open) → row_at (visible_by (log_of w.history (database_of d)) o t.number) key ≡ Some before → ⊥
      by None is = home (last_of (t.number, key) (pending (log_of w.history (database_of d)))) (homes (log_of w.history (database_of d)) (t.number, key)) none (sym (homed (log_of w.history (database_of d)) (t.number, key)) ∙ ap is_some is)
      by (Some own) is = seen-lies (log_of w.history (database_of d)) d.shown.«end» own.begin (t.number, key) before is none

pub where-none : {X : Type 0} (o : Option X) (A : Type 0) (B : X → Type 0) → o ≡ None → A → MatchOption o A B
where-none o A B is a = subst (λ p. MatchOption p A B) (sym is) a
