-- A record that may come next is taken.
use Rattle.std.proofs.Common.{◌≡◌, ◌≤◌, ℕ, ◌+◌, List, length, Option, None, ◌⊎◌, inl, inr, refl, sym, ◌∙◌, ap, subst, arith}
use Rattle.std.specs.Prelude.{option_map}
use Rattle.bk_groups.specs.Groups.{IsCell}
use Rattle.bk_ids.specs.declared.record.Place.{Place}
use Rattle.bk_undo.specs.Spelled.{body_of}
use Rattle.bk_world.specs.Places.{place_of, IsFreePlace}
use Rattle.bk_world.specs.Records.{Deed, Logged, RowId, database_made, table_made, begun, written, committed, rolled_back, undone, checkpointed, stamped, model_set, loaded, recovered, id_of}
use Rattle.bk_world.specs.SoundLogs.{MayCome}
use Rattle.bk_world.specs.Telling as telling
use Rattle.bk_world.specs.declared.database.FileSpec.{FileSpec}
use Rattle.bk_world.specs.declared.database.TableSpec.{TableSpec}
use Rattle.bk_shown.specs.Shown.{IsPlaced, Shows}
use Rattle.bk_shown.specs.Steps.{IsUnfit, MayLie}
use Rattle.bk_shown.specs.Writes.{lacks_entry}
use Rattle.bk_shown.specs.declared.shown.Shown.{Shown}
use Rattle.bk_lemmas.specs.Tests.{clash}
use Rattle.bk_shown.proofs.Places.{cell-of}
use Rattle.bk_shown.proofs.Tables.{none-numbered}
use Rattle.bk_shown.proofs.Waiting.{none-lacks}

module _ (files : List FileSpec) (rs : List Logged) (n begin : ℕ) (s : Shown) (shows : Shows files rs s) where
  may-lie : (id : RowId) (at : Place) (group : ℕ) → Rattle.bk_world.specs.Places.IsCellOf files group at → (place_of rs id ≡ Rattle.std.proofs.Common.Some at) ⊎ ((place_of rs id ≡ None) × IsFreePlace rs at) → MayLie s.groups id at
  may-lie id at group cell (inl there) = inl (shows.kept.places id ∙ there)
  may-lie id at group cell (inr free) =
      inr (shows.kept.places id ∙ free.0, (subst (λ rooms. IsCell rooms at) (sym shows.kept.rooms) (cell-of files shows.files_are group at cell), (λ table key e. free.1 (table, key) (sym (shows.kept.places (table, key)) ∙ e))))

  pub fits : (d : Deed) → MayCome rs n begin d → IsPlaced files (telling.tables rs) d → IsUnfit begin (body_of d) s → ⊥
  fits (table_made time spec) may placed unfit =
      let above : length (telling.tables rs) + 1 ≤ spec.number = omega (arith, placed.0) in
      unfit (shows.kept.groups spec.number ∙ ap (option_map (λ (t : TableSpec). t.group)) (none-numbered 1 (telling.tables rs) spec.number shows.log.numbers above), placed.1)
  fits (written at before c) may placed unfit =
      unfit c.table c.key before c.value (record { fits = placed.0; old_is = refl; new_is = refl }) (may-lie (id_of c) at placed.1.0.group placed.1.1.1 may.place) placed.1.1.1.slot
  fits (loaded load) may placed unfit = absurd placed
  fits (committed time mark) may placed unfit = clash (lacks_entry begin s.rows s.written.items) unfit (none-lacks begin s.rows s.written.items shows.kept.entries)
  fits rolled_back may placed unfit = unfit
  fits (undone at c k) may placed unfit = unfit
  fits (database_made time family branch) may placed unfit = unfit
  fits begun may placed unfit = unfit
  fits (checkpointed time) may placed unfit = unfit
  fits (stamped time set) may placed unfit = unfit
  fits (model_set time model) may placed unfit = unfit
  fits (recovered branch) may placed unfit = unfit
