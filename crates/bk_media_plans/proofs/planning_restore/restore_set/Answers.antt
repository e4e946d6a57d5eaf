use Rattle.std.proofs.Common.{◌≡◌, List, Ok, subst, sym}
use Rattle.bk_items.specs.declared.options.FileMove.{FileMove}
use Rattle.bk_kept.specs.Keeps.{Sees}
use Rattle.bk_machine.specs.World.{World}
use Rattle.bk_machine.specs.statements.Restore.{check_set, moved, position_of}
use Rattle.bk_plans.specs.Checking.{IsRefused}
use Rattle.bk_plans.specs.PlanLaws.{if-ok}
use Rattle.bk_world.specs.declared.header.Header.{Header}
use Rattle.bk_media_plans.specs.Found.{Found, IsFit, KeepsFound, under}
use Rattle.bk_media_plans.specs.Restoring.{LeavesRecovery, RestoresWhole}
use Rattle.bk_media_plans.proofs.MovedSets.{kept-moved, moves-fit}
use Rattle.bk_media_plans.proofs.PlannedRestore.{Laws, keeps-restore, kept-found, leaves-recovery, refused-keeps, refused-plan, whole-plan, with-both}
use Rattle.bk_media_plans.proofs.planning_restore.restore_set.Goals as goal

pub check_set-requires : goal.check_set-requires
check_set-requires c = subst (λ (ms : List FileMove). c.in_ok-header.header ≡ moved ms c.set.inside.header.now) c.as_slice.ensures c.in_ok-header.ensures

pub returns-in-Ok-clause-plans : goal.returns-in-Ok-clause-plans
returns-in-Ok-clause-plans c =
    let laws : Laws = record {
      sets = c.sets_that_stay.ensures.sound;
      may = c.statements_do_what_they_may.ensures.may;
      recovers = c.recoveries_undo_what_is_pending.ensures.recovers;
      keeps = c.placed_logs.ensures.keeps;
    } in
    let moves : List FileMove = c.args.options.now.moves in
    let set : Found = c.args.set.now in
    let header : Header = c.in_ok-header.header in
    let is : header ≡ moved moves set.header =
    subst (λ (f : Found). header ≡ moved moves f.header) c.set.view_is (subst (λ (ms : List FileMove). header ≡ moved ms c.set.inside.header.now) c.as_slice.ensures c.in_ok-header.ensures) in
    let checked : (w : World) → Sees w c.args.kept.now → check_set w c.args.database.now c.args.options.now set.header ≡ Ok header =
    subst (λ (f : Found). (w : World) → Sees w c.args.kept.now → check_set w c.args.database.now c.args.options.now f.header ≡ Ok header) c.set.view_is c.in-Ok.ensures in
    let passes : (w : World) → Sees w c.args.kept.now → check_set w c.args.database.now c.args.options.now set.header ≡ Ok (moved moves set.header) =
    subst (λ (h : Header). (w : World) → Sees w c.args.kept.now → check_set w c.args.database.now c.args.options.now set.header ≡ Ok h) is checked in
    if-ok _ _ c.bringing_up.result
    (λ plan whole. whole-plan c.args.kept.now c.args.line c.args.now c.args.database.now c.args.units.now c.args.disk.now c.args.options.now set plan c.requires.built c.requires.out laws passes
    (subst (λ (h : Header). RestoresWhole c.args.kept.now c.args.database.now c.args.now c.args.options.now (under h set) plan) is whole))
    c.bringing_up.ensures.whole

pub returns-in-Ok-clause-keeps : goal.returns-in-Ok-clause-keeps
returns-in-Ok-clause-keeps c =
    let moves : List FileMove = c.args.options.now.moves in
    let set : Found = c.args.set.now in
    let header : Header = c.in_ok-header.header in
    let is : header ≡ moved moves set.header =
    subst (λ (f : Found). header ≡ moved moves f.header) c.set.view_is (subst (λ (ms : List FileMove). header ≡ moved ms c.set.inside.header.now) c.as_slice.ensures c.in_ok-header.ensures) in
    if-ok _ _ c.bringing_up.result
    (λ plan both. keeps-restore c.args.kept.now c.args.database.now c.args.now c.args.options.now set plan (subst (λ (h : Header). RestoresWhole c.args.kept.now c.args.database.now c.args.now c.args.options.now (under h set) plan) is both.0) (subst (λ (h : Header). IsFit (under h set)) is both.1))
    (with-both _ _ c.bringing_up.result c.bringing_up.ensures.whole c.bringing_up.ensures.fits)

pub returns-in-Ok-clause-unfit : goal.returns-in-Ok-clause-unfit
returns-in-Ok-clause-unfit c = λ unfit w sound known.
    let moves : List FileMove = c.args.options.now.moves in
    let set : Found = c.args.set.now in
    let header : Header = c.in_ok-header.header in
    let is : header ≡ moved moves set.header =
    subst (λ (f : Found). header ≡ moved moves f.header) c.set.view_is (subst (λ (ms : List FileMove). header ≡ moved ms c.set.inside.header.now) c.as_slice.ensures c.in_ok-header.ensures) in
    let keeps : KeepsFound (under (moved moves set.header) set) =
    kept-moved moves (moves-fit c.args.database.now c.args.units.now c.args.disk.now c.args.options.now c.requires.built) set (kept-found c.sets_that_stay.ensures.sound (position_of c.args.options.now.file) c.args.disk.now set w sound known) in
    c.bringing_up.ensures.unfit unfit (subst (λ (h : Header). KeepsFound (under h set)) (sym is) keeps)
    (subst (λ (h : Header). LeavesRecovery set.log h.last) (sym is) (leaves-recovery c.sets_that_stay.ensures.sound (position_of c.args.options.now.file) c.args.disk.now set w sound known))

pub returns-in-Err-clause-plans : goal.returns-in-Err-clause-plans
returns-in-Err-clause-plans c =
    let refuses : (w : World) → Sees w c.args.kept.now → IsRefused c.in-Err.refusal (check_set w c.args.database.now c.args.options.now c.args.set.now.header) =
    subst (λ (f : Found). (w : World) → Sees w c.args.kept.now → IsRefused c.in-Err.refusal (check_set w c.args.database.now c.args.options.now f.header)) c.set.view_is c.in-Err.ensures in
    if-ok _ _ c.refusing_restore.result
    (λ plan by. refused-plan c.args.kept.now c.args.line c.args.now c.args.database.now c.args.units.now c.args.disk.now c.args.options.now c.args.set.now c.in-Err.refusal plan c.requires.built c.requires.out by refuses)
    c.refusing_restore.ensures.rule

pub returns-in-Err-clause-keeps : goal.returns-in-Err-clause-keeps
returns-in-Err-clause-keeps c = if-ok _ _ c.refusing_restore.result (λ plan by. refused-keeps c.args.options.now (Ok c.args.set.now) c.in-Err.refusal plan by) c.refusing_restore.ensures.rule
