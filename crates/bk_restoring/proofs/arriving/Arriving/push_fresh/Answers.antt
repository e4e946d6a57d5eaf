use Rattle.std.proofs.Common.{◌∙◌, ℕ, ap, sym}
use Rattle.bk_page.specs.Page.{fresh_page}
use Rattle.bk_restoring.proofs.arriving.Arriving.push_fresh.Goals as goal

pub returns-clause-arrives : goal.returns-clause-arrives
returns-clause-arrives g c t given records arrives here =
    c.push_page.ensures.arrives t given records arrives (here ∙ ap (λ (p : ℕ × ℕ). fresh_page p.0 p.1) (sym c.place-file.ensures) ∙ sym c.format_page.ensures)
