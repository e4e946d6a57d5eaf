use Rattle.std.proofs.Common.{◌≡◌, ◌<◌, ◌^◌, ◌*◌, ◌+◌, ◌++◌, ℕ, List, Some, get_or, length, ap, sym, subst, ◌∙◌}
use Rattle.std.specs.Prelude.{slice_get}
use Rattle.std.proofs.lemmas.Option.{slice_get-get_or}
use Rattle.bk_device.specs.Calls.{contents}
use Rattle.bk_device.specs.Effects.{Effect, IsName}
use Rattle.bk_facts.specs.declared.facts.DataFile.{DataFile}
use Rattle.bk_side.specs.Names.{AreDifferent}
use Rattle.bk_filling.specs.Filling.{IsFilling, Kept, Shows, names_of}
use Rattle.bk_filling.proofs.Pages.{nothing, page_effect, put_shows, put_stands}
use Rattle.bk_filling.proofs.filling.Filling.put.Goals as goal

pub append_page-requires : goal.append_page-requires
append_page-requires g c t =
    let k = c.args.self.now in
    let d : DataFile = get_or k.files k.whole nothing in
    let at : slice_get k.files k.whole ≡ Some d = slice_get-get_or k.files k.whole nothing c.requires.next in
    ap (λ (n : List ℕ). length (contents ((g.D.Device.disk c.args.dev.now).files n))) (c.name.ensures d at) ∙ (c.requires.stands t).begun d at ∙ ap (λ (j : Kept). 8192 * j.page) (sym c.self.view_is)

pub returns-in_err-append_page-clause-crash : goal.returns-in_err-append_page-clause-crash
returns-in_err-append_page-clause-crash g c t =
    let k = c.args.self.now in
    let d : DataFile = get_or k.files k.whole nothing in
    let at : slice_get k.files k.whole ≡ Some d = slice_get-get_or k.files k.whole nothing c.requires.next in
    let a = g.D.Device.disk c.args.dev.now in
    let b = g.D.Device.disk c.append_page.new.dev in
    let At : List ℕ → Type 0 = λ n. Effect (IsName n) (λ _. Unit {0}) a b in
    page_effect k.files k.whole d a b at (subst At (c.name.ensures d at) (c.append_page.ensures.crash t))

pub overflow_add-self : goal.overflow_add-self
overflow_add-self g c = let small : c.self.inside.page + 1 < 2 ^ 32 = subst (λ (j : Kept). j.page + 1 < 2 ^ 32) (sym c.self.view_is) c.requires.small in search

pub returns-clause-stands : goal.returns-clause-stands
returns-clause-stands g c t =
    let k = c.args.self.now in
    let d : DataFile = get_or k.files k.whole nothing in
    let at : slice_get k.files k.whole ≡ Some d = slice_get-get_or k.files k.whole nothing c.requires.next in
    let a = g.D.Device.disk c.args.dev.now in
    let b = g.D.Device.disk c.append_page.new.dev in
    let name = c.name.ensures d at in
    let At : List ℕ → Type 0 = λ n. Effect (IsName n) (λ _. Unit {0}) a b in
    let More : List ℕ → Type 0 = λ n. contents (b.files n) ≡ contents (a.files n) ++ c.args.bytes.now in
    let different : AreDifferent (names_of k.files) = subst (λ (j : Kept). AreDifferent (names_of j.files)) c.self.view_is c.self.invariant.1.different in
    let W : Kept → Type 0 = λ j. IsFilling b (record j { page = j.page + 1 }) in
    subst W (sym c.self.view_is) (put_stands k d a b c.args.bytes.now different at (subst At name (c.append_page.ensures.crash t)) (c.requires.stands t) (subst More name (c.in_ok-append_page.ensures.more t)) c.append_page.ensures.size)

pub returns-clause-shows : goal.returns-clause-shows
returns-clause-shows g c t given shows here =
    let k = c.args.self.now in
    let d : DataFile = get_or k.files k.whole nothing in
    let at : slice_get k.files k.whole ≡ Some d = slice_get-get_or k.files k.whole nothing c.requires.next in
    let a = g.D.Device.disk c.args.dev.now in
    let b = g.D.Device.disk c.append_page.new.dev in
    let name = c.name.ensures d at in
    let At : List ℕ → Type 0 = λ n. Effect (IsName n) (λ _. Unit {0}) a b in
    let More : List ℕ → Type 0 = λ n. contents (b.files n) ≡ contents (a.files n) ++ c.args.bytes.now in
    let different : AreDifferent (names_of k.files) = subst (λ (j : Kept). AreDifferent (names_of j.files)) c.self.view_is c.self.invariant.1.different in
    let W : Kept → Type 0 = λ j. Shows b.files (record j { page = j.page + 1 }) given in
    subst W (sym c.self.view_is) (put_shows k d a b c.args.bytes.now different at (subst At name (c.append_page.ensures.crash t)) (c.requires.stands t) (subst More name (c.in_ok-append_page.ensures.more t)) c.append_page.ensures.size given shows here)

pub returns-clause-crash : goal.returns-clause-crash
returns-clause-crash g c t =
    let k = c.args.self.now in
    let d : DataFile = get_or k.files k.whole nothing in
    let at : slice_get k.files k.whole ≡ Some d = slice_get-get_or k.files k.whole nothing c.requires.next in
    let a = g.D.Device.disk c.args.dev.now in
    let b = g.D.Device.disk c.append_page.new.dev in
    let At : List ℕ → Type 0 = λ n. Effect (IsName n) (λ _. Unit {0}) a b in
    page_effect k.files k.whole d a b at (subst At (c.name.ensures d at) (c.append_page.ensures.crash t))
