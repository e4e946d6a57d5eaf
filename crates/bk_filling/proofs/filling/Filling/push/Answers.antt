use Rattle.std.proofs.lemmas.Result.{on_ok_weaker}
use Rattle.std.proofs.Common.{◌≡◌, ◌<◌, ◌≤◌, ◌+◌, Some, get_or, ap, sym, ◌∙◌, arith}
use Rattle.std.specs.Prelude.{slice_get}
use Rattle.std.proofs.lemmas.Option.{slice_get-get_or}
use Rattle.bk_facts.specs.declared.facts.DataFile.{DataFile}
use Rattle.bk_filling.specs.Filling.{Kept}
use Rattle.bk_filling.proofs.Pages.{last_page, more_page, nothing}
use Rattle.bk_filling.proofs.filling.Filling.push.Goals as goal

pub returns-then-self-pages-clause-next : goal.returns-then-self-pages-clause-next
returns-then-self-pages-clause-next g c =
    let k = c.args.self.now in
    let d : DataFile = get_or k.files k.whole nothing in
    let at : slice_get k.files k.whole ≡ Some d = slice_get-get_or k.files k.whole nothing c.requires.next in
    let page : c.self.inside.page ≡ k.page = ap (λ (j : Kept). j.page) c.self.view_is in
    let inside : k.page + 1 < d.pages = omega (arith, c.if-self-pages.true, page, c.pages-pages.ensures.pages d at) in
    on_ok_weaker c.put.result (λ next. next ∙ sym (more_page k d at inside)) c.put.ensures.next

pub returns-clause-next : goal.returns-clause-next
returns-clause-next g c =
    let k = c.args.self.now in
    let d : DataFile = get_or k.files k.whole nothing in
    let at : slice_get k.files k.whole ≡ Some d = slice_get-get_or k.files k.whole nothing c.requires.next in
    let page : c.self.inside.page ≡ k.page = ap (λ (j : Kept). j.page) c.self.view_is in
    let past : d.pages ≤ k.page + 1 = omega (arith, c.if-self-pages.false, page, c.pages-pages.ensures.pages d at) in
    on_ok_weaker c.put_last.result (λ next. next ∙ sym (last_page k d at past)) c.put_last.ensures.next
