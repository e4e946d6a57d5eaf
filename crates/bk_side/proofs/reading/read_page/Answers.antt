use Rattle.std.proofs.Common.{◌≡◌, ℕ, List, Bool, false, sym, subst}
use Rattle.std.specs.Prelude.{IfOk}
use Rattle.bk_side.specs.Pages.{page_in, IsSound}
use Rattle.bk_side.specs.BatchLaws.{content_at}
use Rattle.bk_side.proofs.reading.read_page.Goals as goal

pub returns-in-Some-clause-broken : goal.returns-in-Some-clause-broken
returns-in-Some-clause-broken g c t =
    let Of : List ℕ → Type 0 = λ content. IfOk c.read_from.result (λ (is_sound : Bool). is_sound ≡ false → IsSound (page_in content c.args.number) → ⊥) in
    subst Of (sym (content_at c.args.names.now (g.D.Device.disk c.args.dev.now).files c.args.file c.in-Some.name.now c.in-Some.ensures)) (c.read_from.ensures.broken t)
