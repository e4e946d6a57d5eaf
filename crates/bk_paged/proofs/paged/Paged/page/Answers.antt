use Rattle.std.proofs.Common.{◌≡◌, ℕ, List, [], ap, sym, subst, ◌∙◌}
use Rattle.std.specs.Prelude.{slice_index_or}
use Rattle.bk_redo.specs.declared.place.PageAt.{PageAt}
use Rattle.bk_paged.specs.Paged.{IsLast, Kept}
use Rattle.bk_paged.proofs.paged.Paged.page.Goals as goal

pub returns-clause-page : goal.returns-clause-page
returns-clause-page g c t stood is =
    let at : PageAt = record { file = c.args.file; page = c.args.page } in
    let same : c.copy_frame.result ≡ slice_index_or c.bring.new.self.pool.frames c.in_ok-i.i [] = c.copy_frame.ensures.page ∙ ap (λ (p : Kept). slice_index_or p.pool.frames c.in_ok-i.i []) c.self.view_is in
    subst (λ (page : List ℕ). IsLast stood.records at page) (sym same) ((c.in_ok-i.ensures.stands t stood is).frames c.in_ok-i.i at c.in_ok-i.ensures.found.here).1
