-- A free cell of the groups is free for a new row.
use Rattle.std.proofs.Common.{◌≡◌, ℕ, List, Option, Some, None, sym, ◌∙◌, ap, subst}
use Rattle.std.specs.Prelude.{◌==◌, IfSome, MatchOption, option_map}
use Rattle.std.specs.List.{find}
use Rattle.bk_groups.specs.Groups.{IsFreeCell, LiesIn, group_of}
use Rattle.bk_ids.specs.declared.record.Place.{Place}
use Rattle.bk_world.specs.Records.{Logged}
use Rattle.bk_world.specs.Telling as telling
use Rattle.bk_world.specs.declared.database.FileSpec.{FileSpec}
use Rattle.bk_world.specs.declared.database.TableSpec.{TableSpec}
use Rattle.bk_shown.specs.Shown.{IsFreeFor, Shows}
use Rattle.bk_shown.specs.declared.shown.Shown.{Shown}
use Rattle.bk_shown.proofs.Agree.{some-none}
use Rattle.bk_shown.proofs.Places.{cell-back, cell-of, group-in}

module _ (files : List FileSpec) (rs : List Logged) (s : Shown) (shows : Shows files rs s) (table : ℕ) where
  -- the group of a table that is there
  its-group : (t : TableSpec) → find (λ (u : TableSpec). u.number == table) (telling.tables rs) ≡ Some t → group_of s.groups table ≡ Some t.group
  its-group t there = shows.kept.groups table ∙ ap (option_map (λ (u : TableSpec). u.group)) there

  pub is-free : (group : ℕ) → group_of s.groups table ≡ Some group → (at : Place) → IsFreeCell s.groups at → IfSome (group_of s.groups table) (λ g. LiesIn s.groups.rooms g at) → IsFreeFor files rs table at
  is-free group made at free lies = by (find (λ (u : TableSpec). u.number == table) (telling.tables rs)) Rattle.std.proofs.Common.refl
    where
      by : (o : Option TableSpec) → find (λ (u : TableSpec). u.number == table) (telling.tables rs) ≡ o → IsFreeFor files rs table at
      by None none = some-none (group_of s.groups table) group made (shows.kept.groups table ∙ ap (option_map (λ (u : TableSpec). u.group)) none)
      by (Some t) there =
          let lies_in : LiesIn s.groups.rooms t.group at = subst (λ o. IfSome o (λ g. LiesIn s.groups.rooms g at)) (its-group t there) lies in
          record {
            spec = t;
            there = there;
            cell = cell-back files shows.files_are t.group at (subst (λ rooms. LiesIn rooms t.group at) shows.kept.rooms lies_in);
            free = λ id e. free id.0 id.1 (shows.kept.places id ∙ e);
          }

  pub none-free : IfSome (group_of s.groups table) (λ g. (at : Place) → LiesIn s.groups.rooms g at → ¬ IsFreeCell s.groups at) → (at : Place) → ¬ IsFreeFor files rs table at
  none-free taken at free =
      let full : (p : Place) → LiesIn s.groups.rooms free.spec.group p → ¬ IsFreeCell s.groups p =
      subst (λ o. IfSome o (λ g. (p : Place) → LiesIn s.groups.rooms g p → ¬ IsFreeCell s.groups p)) (its-group free.spec free.there) taken in
      full at
      (subst (λ rooms. LiesIn rooms free.spec.group at) (sym shows.kept.rooms) (cell-of files shows.files_are free.spec.group at free.cell, group-in files shows.files_are free.spec.group at free.cell))
      (λ t k e. free.free (t, k) (sym (shows.kept.places (t, k)) ∙ e))

  pub no-table : group_of s.groups table ≡ None → (at : Place) → ¬ IsFreeFor files rs table at
  no-table none at free = some-none (group_of s.groups table) free.spec.group (its-group free.spec free.there) none

-- what the groups answer, as every log that is shown says it
pub answer : (s : Shown) (table group : ℕ) (found : Option Place) → group_of s.groups table ≡ Some group
    → MatchOption found (IfSome (group_of s.groups table) (λ g. (at : Place) → LiesIn s.groups.rooms g at → ¬ IsFreeCell s.groups at))
    (λ at. IsFreeCell s.groups at × IfSome (group_of s.groups table) (λ g. LiesIn s.groups.rooms g at))
    → MatchOption found ((files : List FileSpec) (rs : List Logged) → Shows files rs s → (at : Place) → ¬ IsFreeFor files rs table at) (λ at. (files : List FileSpec) (rs : List Logged) → Shows files rs s → IsFreeFor files rs table at)
answer s table group None made given = λ files rs shows at. none-free files rs s shows table given at
answer s table group (Some at) made given = λ files rs shows. is-free files rs s shows table group made at given.0 given.1
