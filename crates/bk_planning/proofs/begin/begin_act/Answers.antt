use Rattle.std.proofs.Common.{ℕ, List, [], ◌∷◌, ◌++◌, Option, ◌∙◌, ap, refl, subst}
use Rattle.bk_acts.specs.Meaning.{Spell}
use Rattle.bk_acts.specs.declared.act.StoredAct.TheVariants.{Logged}
use Rattle.bk_ids.specs.declared.record.Mark.{Mark}
use Rattle.bk_plans.specs.PlanLaws.{if-ok}
use Rattle.bk_plans.specs.SaidLaws.{says-now}
use Rattle.bk_world.specs.Records.{begun}
use Rattle.bk_world.specs.Says.{begin_said}
use Rattle.bk_world.specs.declared.transaction.Open.{Open}
use Rattle.bk_planning.specs.Opening.{begun_in}
use Rattle.bk_kept.specs.declared.kept.Database.{Database as KeptDatabase}
use Rattle.bk_kept.specs.declared.kept.Kept.{Kept}
use Rattle.bk_planning.proofs.begin.begin_act.Goals as goal

abbrev with_one : List Open → ℕ → Option Mark → ℕ → List Open
with_one ts session mark n = ts ++ (record { session = session; begin = n; mark = mark }) ∷ []

pub returns-in-Ok-clause-says : goal.returns-in-Ok-clause-says
returns-in-Ok-clause-says c =
    let d = c.args.database.now in
    let records = c.in-Ok.records in
    let spell = c.in-Ok.ensures.said (record { begin = c.end-end.result; deed = begun }) refl in
    let opens = c.in_ok-transactions.ensures ∙ ap (λ (k : Kept). with_one d.transactions k.session c.args.mark c.end-end.result) c.kept.view_is ∙ ap (with_one d.transactions c.args.kept.now.session c.args.mark) (c.end-end.ensures.same ∙ ap (λ (d : KeptDatabase). d.shown.«end») c.database.view_is) in
    if-ok _ _ c.logged.result
    (λ act is.
    says-now d (begin_said d.shown.«end») (begun_in d c.args.kept.now.session c.args.mark) act records (is ∙ ap (λ (ts : List Open). Logged d.name ts records) opens)
    (subst (λ (m : ℕ). Spell records m (begin_said m)) (c.end-end.ensures.same ∙ ap (λ (d : KeptDatabase). d.shown.«end») c.database.view_is) spell))
    c.logged.ensures.is
