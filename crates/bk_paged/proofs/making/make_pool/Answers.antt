use Rattle.std.proofs.Common.{◌≡◌, ℕ, List, Option, Some, None, ap, sym, ◌∙◌}
use Rattle.std.specs.Prelude.{slice_get}
use Rattle.bk_pool.specs.Laws.{replicated}
use Rattle.bk_paged.proofs.making.make_pool.Goals as goal

pub returns-clause-none : goal.returns-clause-none
returns-clause-none c i file page here =
    let same : ◌≡◌ {A = Option (ℕ × ℕ)} (Some (file, page)) None =
    replicated c.args.frames i None (Some (file, page)) (ap (λ (ps : List (Option (ℕ × ℕ))). slice_get ps i) (sym c.in_ok-pool.ensures.pages) ∙ here) in
    absurd cc
