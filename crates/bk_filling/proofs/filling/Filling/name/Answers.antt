use Rattle.std.proofs.Common.{◌≡◌, ◌∙◌, ℕ, List, Some, get_or, ap, sym, subst}
use Rattle.std.specs.Prelude.{slice_get}
use Rattle.bk_filling.specs.Filling.{Kept}
use Rattle.bk_filling.proofs.Pages.{next_name}
use Rattle.bk_filling.proofs.filling.Filling.name.Goals as goal

pub returns : goal.returns
returns c d at =
    next_name c.self.inside.files.items c.self.inside.names.items c.self.inside.whole d c.as_str.result.now c.self.invariant.0 (subst (λ (k : Kept). slice_get k.files k.whole ≡ Some d) (sym c.self.view_is) at) (c.as_str.ensures ∙ c.index.ensures ∙ ap (λ (x : List ℕ). get_or c.self.inside.names.items c.self.inside.whole x) (sym c.as_str.ensures))
