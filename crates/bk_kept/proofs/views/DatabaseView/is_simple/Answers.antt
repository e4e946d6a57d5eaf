use Rattle.std.proofs.Common.{◌≡◌, List, ◌∙◌, ap, subst}
use Rattle.bk_machine.specs.Acts.{is_simple}
use Rattle.bk_shown.specs.Shown.{Shows}
use Rattle.bk_world.specs.Records.{Logged}
use Rattle.bk_world.specs.Telling as telling
use Rattle.bk_kept.specs.declared.kept.Database.{Database as KeptDatabase}
use Rattle.bk_kept.proofs.Tells.{model-is}
use Rattle.bk_kept.proofs.views.DatabaseView.is_simple.Goals as goal

pub returns : goal.returns
returns c = λ w shows.
    c.is_simple.ensures
    ∙ ap is_simple
    (model-is w c.args.self.now c.model.result
    (subst (λ (d : KeptDatabase). (rs : List Logged) → Shows c.args.self.now.files rs d.shown → c.model.result ≡ telling.model rs) c.self.view_is (c.model.ensures c.args.self.now.files)) shows)
