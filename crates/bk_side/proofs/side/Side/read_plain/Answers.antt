use Rattle.std.proofs.lemmas.Result.{IfOk-weaker}
use Rattle.std.proofs.Common.{◌≡◌, ℕ, Bool, true, false, List, sym, subst, ap, ◌∙◌}
use Rattle.bk_side.specs.Pages.{page_of, IsSound}
use Rattle.bk_side.specs.Side.{Kept, pages_of}
use Rattle.bk_side.proofs.Sides.{read_shown}
use Rattle.bk_side.proofs.side.Side.read_plain.Goals as goal

pub returns-clause-short : goal.returns-clause-short
returns-clause-short g c t =
    let a = g.D.Device.disk c.args.dev.now in
    let p : ℕ × ℕ = (c.args.file, c.args.number) in
    let same : page_of c.deref.result.now a.files p ≡ pages_of c.args.self.now a.files p =
    ap (λ (names : List (List ℕ)). page_of names a.files p) (c.deref.ensures.value ∙ ap (λ (k : Kept). k.names) c.self.view_is) ∙ read_shown a c.args.self.now p (c.requires t) in
    IfOk-weaker c.read_plain.result (λ (is : Bool). is ≡ false → IsSound (page_of c.deref.result.now a.files p) → ⊥) (λ (is : Bool). is ≡ false → IsSound (pages_of c.args.self.now a.files p) → ⊥)
    (λ is not so sound. not so (subst IsSound (sym same) sound)) (c.read_plain.ensures.short t)

pub returns-clause-page : goal.returns-clause-page
returns-clause-page g c t =
    let a = g.D.Device.disk c.args.dev.now in
    let p : ℕ × ℕ = (c.args.file, c.args.number) in
    let same : page_of c.deref.result.now a.files p ≡ pages_of c.args.self.now a.files p =
    ap (λ (names : List (List ℕ)). page_of names a.files p) (c.deref.ensures.value ∙ ap (λ (k : Kept). k.names) c.self.view_is) ∙ read_shown a c.args.self.now p (c.requires t) in
    IfOk-weaker c.read_plain.result (λ (is : Bool). is ≡ true → c.read_plain.new.page ≡ page_of c.deref.result.now a.files p) (λ (is : Bool). is ≡ true → c.read_plain.new.page ≡ pages_of c.args.self.now a.files p)
    (λ is page so. page so ∙ same) (c.read_plain.ensures.page t)
