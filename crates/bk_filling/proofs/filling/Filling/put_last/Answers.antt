use Rattle.std.proofs.Common.{◌≡◌, ◌<◌, ◌*◌, ◌+◌, ◌++◌, ℕ, List, Some, get_or, length, ap, sym, subst, ◌∙◌, arith}
use Rattle.std.specs.Prelude.{slice_get}
use Rattle.std.proofs.lemmas.Option.{slice_get-get_or}
use Rattle.bk_device.specs.Calls.{contents}
use Rattle.bk_device.specs.Disk.{IsDurable}
use Rattle.bk_device.specs.Effects.{Effect, IsName}
use Rattle.bk_facts.specs.declared.facts.DataFile.{DataFile}
use Rattle.bk_side.specs.Names.{AreDifferent}
use Rattle.bk_filling.specs.Filling.{HasPages, IsFilling, Kept, Shows, names_of}
use Rattle.bk_filling.proofs.Pages.{has_page, last_shows, last_stands, nothing, page_effect}
use Rattle.bk_filling.proofs.filling.Filling.put_last.Goals as goal

pub append_last-requires : goal.append_last-requires
append_last-requires g c t =
    let k = c.args.self.now in
    let d : DataFile = get_or k.files k.whole nothing in
    let at : slice_get k.files k.whole ≡ Some d = slice_get-get_or k.files k.whole nothing c.requires.next in
    ap (λ (n : List ℕ). length (contents ((g.D.Device.disk c.args.dev.now).files n))) (c.name.ensures d at) ∙ (c.requires.stands t).begun d at ∙ ap (λ (j : Kept). 8192 * j.page) (sym c.self.view_is)

pub returns-in_err-append_last-clause-crash : goal.returns-in_err-append_last-clause-crash
returns-in_err-append_last-clause-crash g c t =
    let k = c.args.self.now in
    let d : DataFile = get_or k.files k.whole nothing in
    let at : slice_get k.files k.whole ≡ Some d = slice_get-get_or k.files k.whole nothing c.requires.next in
    let a = g.D.Device.disk c.args.dev.now in
    let b = g.D.Device.disk c.append_last.new.dev in
    let At : List ℕ → Type 0 = λ n. Effect (IsName n) (λ _. Unit {0}) a b in
    page_effect k.files k.whole d a b at (subst At (c.name.ensures d at) (c.append_last.ensures.crash t))

pub invariant_of-self : goal.invariant_of-self
invariant_of-self g c =
    let inv = c.self.invariant in
    let next : c.self.inside.whole < length c.self.inside.files.items = subst (λ (j : Kept). j.whole < length j.files) (sym c.self.view_is) c.requires.next in
    (inv.0, inv.1, omega (arith, next), (λ d at. has_page HasPages c.self.inside.files.items (c.self.inside.whole + 1) d inv.1.some at))

pub returns-clause-stands : goal.returns-clause-stands
returns-clause-stands g c t =
    let k = c.args.self.now in
    let d : DataFile = get_or k.files k.whole nothing in
    let at : slice_get k.files k.whole ≡ Some d = slice_get-get_or k.files k.whole nothing c.requires.next in
    let a = g.D.Device.disk c.args.dev.now in
    let b = g.D.Device.disk c.append_last.new.dev in
    let name = c.name.ensures d at in
    let At : List ℕ → Type 0 = λ n. Effect (IsName n) (λ _. Unit {0}) a b in
    let More : List ℕ → Type 0 = λ n. contents (b.files n) ≡ contents (a.files n) ++ c.args.bytes.now in
    let different : AreDifferent (names_of k.files) = subst (λ (j : Kept). AreDifferent (names_of j.files)) c.self.view_is c.self.invariant.1.different in
    let W : Kept → Type 0 = λ j. IsFilling b (record j { whole = j.whole + 1; page = 0 }) in
    subst W (sym c.self.view_is) (last_stands k d a b c.args.bytes.now different at (subst At name (c.append_last.ensures.crash t)) (c.requires.stands t) (subst More name (c.in_ok-append_last.ensures.more t)) c.append_last.ensures.size (subst (IsDurable b) name (c.in_ok-append_last.ensures.durable t)))

pub returns-clause-shows : goal.returns-clause-shows
returns-clause-shows g c t given shows here =
    let k = c.args.self.now in
    let d : DataFile = get_or k.files k.whole nothing in
    let at : slice_get k.files k.whole ≡ Some d = slice_get-get_or k.files k.whole nothing c.requires.next in
    let a = g.D.Device.disk c.args.dev.now in
    let b = g.D.Device.disk c.append_last.new.dev in
    let name = c.name.ensures d at in
    let At : List ℕ → Type 0 = λ n. Effect (IsName n) (λ _. Unit {0}) a b in
    let More : List ℕ → Type 0 = λ n. contents (b.files n) ≡ contents (a.files n) ++ c.args.bytes.now in
    let different : AreDifferent (names_of k.files) = subst (λ (j : Kept). AreDifferent (names_of j.files)) c.self.view_is c.self.invariant.1.different in
    let W : Kept → Type 0 = λ j. Shows b.files (record j { whole = j.whole + 1; page = 0 }) given in
    subst W (sym c.self.view_is) (last_shows k d a b c.args.bytes.now different at (subst At name (c.append_last.ensures.crash t)) (c.requires.stands t) (subst More name (c.in_ok-append_last.ensures.more t)) c.append_last.ensures.size given (c.requires.last d at) shows here)

pub returns-clause-crash : goal.returns-clause-crash
returns-clause-crash g c t =
    let k = c.args.self.now in
    let d : DataFile = get_or k.files k.whole nothing in
    let at : slice_get k.files k.whole ≡ Some d = slice_get-get_or k.files k.whole nothing c.requires.next in
    let a = g.D.Device.disk c.args.dev.now in
    let b = g.D.Device.disk c.append_last.new.dev in
    let At : List ℕ → Type 0 = λ n. Effect (IsName n) (λ _. Unit {0}) a b in
    page_effect k.files k.whole d a b at (subst At (c.name.ensures d at) (c.append_last.ensures.crash t))
