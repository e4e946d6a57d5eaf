use Rattle.std.proofs.Common.{◌≤◌, ◌+◌, ◌^◌, ℕ, List, ◌∙◌, ap, map, length, subst, arith}
use Rattle.bk_acts.specs.Meaning.{Spell}
use Rattle.bk_acts.specs.declared.act.StoredAct.TheVariants.{Logged}
use Rattle.bk_kept.specs.Keeps.{database_of}
use Rattle.bk_machine.specs.World.{log_of}
use Rattle.bk_plans.specs.PlanLaws.{if-ok}
use Rattle.bk_shown.specs.Shown.{pending_of}
use Rattle.bk_world.specs.Says.{rollback_said}
use Rattle.bk_world.specs.declared.transaction.Open.{Open}
use Rattle.bk_planning.proofs.PlannedEnds.{rollback-done, says-rollback}
use Rattle.bk_kept.specs.declared.kept.Database.{Database as KeptDatabase}
use Rattle.bk_kept.specs.ViewsLaws.{shows-as}
use Rattle.bk_planning.proofs.undoing.rollback_act.Goals as goal

pub rollback_records-requires : goal.rollback_records-requires
rollback_records-requires c = omega (arith, c.requires, ap length c.written-written.ensures.same, ap (λ (x : KeptDatabase). length x.shown.written.items) c.database.view_is, c.end.ensures.same, ap (λ (x : KeptDatabase). x.shown.«end») c.database.view_is)

pub returns-in-Ok-clause-says : goal.returns-in-Ok-clause-says
unfolding log_of
returns-in-Ok-clause-says c =
    let d = c.args.database.now in
    let t = c.args.transaction.now in
    let written = c.written-written.result.now in
    let low : d.shown.«end» + (length written + 1) ≤ 2 ^ 62 = omega (arith, c.requires, ap length c.written-written.ensures.same, ap (λ (x : KeptDatabase). length x.shown.written.items) c.database.view_is) in
    let records = c.in_ok-records.records in
    if-ok _ _ c.logged.result
    (λ act is.
    says-rollback d act records written (λ w shows. c.written-written.ensures.shown d.files (log_of w.history (database_of d)) (shows-as (ap (λ (x : KeptDatabase). x.shown) c.database.view_is) shows)) t (is ∙ ap (λ (ts : List Open). Logged d.name ts records) c.in-Ok.ensures)
    (subst (λ (n : ℕ). Spell records n (rollback_said t.begin (map pending_of written))) (c.end.ensures.same ∙ ap (λ (x : KeptDatabase). x.shown.«end») c.database.view_is) c.in_ok-records.ensures.said) low)
    c.logged.ensures.is

pub returns-in-Ok-clause-is_done : goal.returns-in-Ok-clause-is_done
unfolding log_of
returns-in-Ok-clause-is_done c =
    let d = c.args.database.now in
    let t = c.args.transaction.now in
    let written = c.written-written.result.now in
    let low : d.shown.«end» + (length written + 1) ≤ 2 ^ 62 = omega (arith, c.requires, ap length c.written-written.ensures.same, ap (λ (x : KeptDatabase). length x.shown.written.items) c.database.view_is) in
    let records = c.in_ok-records.records in
    if-ok _ _ c.logged.result
    (λ act is w named shows may.
    rollback-done w d act named shows t
    (says-rollback d act records written (λ v sh. c.written-written.ensures.shown d.files (log_of v.history (database_of d)) (shows-as (ap (λ (x : KeptDatabase). x.shown) c.database.view_is) sh)) t (is ∙ ap (λ (ts : List Open). Logged d.name ts records) c.in-Ok.ensures)
    (subst (λ (n : ℕ). Spell records n (rollback_said t.begin (map pending_of written))) (c.end.ensures.same ∙ ap (λ (x : KeptDatabase). x.shown.«end») c.database.view_is) c.in_ok-records.ensures.said) low)
    may)
    c.logged.ensures.is
