use Rattle.std.proofs.Common.{◌≡◌, List, subst}
use Rattle.bk_shown.specs.Shown.{Shows}
use Rattle.bk_world.specs.Records.{Logged}
use Rattle.bk_world.specs.Telling as telling
use Rattle.bk_kept.specs.declared.kept.Database.{Database as KeptDatabase}
use Rattle.bk_kept.proofs.Tells.{tables-are}
use Rattle.bk_kept.proofs.views.DatabaseView.tables.Goals as goal

pub returns : goal.returns
returns c = λ w shows.
    tables-are w c.args.self.now c.tables.result.now
    (subst (λ (d : KeptDatabase). (rs : List Logged) → Shows c.args.self.now.files rs d.shown → c.tables.result.now ≡ telling.tables rs) c.self.view_is (c.tables.ensures c.args.self.now.files)) shows
