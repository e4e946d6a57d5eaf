use Rattle.std.proofs.Common.{ap, ◌∙◌}
use Rattle.rayon.proofs.ListFacts.{IfOk-then}
use Rattle.rayon.proofs.ToStd.{slice-map}
use Rattle.bk_page.specs.Page.{page_digest}
use Rattle.bk_page.proofs.digests.page_digests.Goals as goal

pub returns : goal.returns
returns g c =
    let slice = ap (λ it. it.slice.now) c.map.ensures.base ∙ c.par_iter.ensures ∙ c.as_slice.ensures in
    IfOk-then c.collect.result _ _ c.collect.ensures (λ v h.
    let chain = h.1 in
    h.2 ∙ slice-map chain.0 c.args.pages.now (chain.1 ∙ slice) page_digest h.0 chain.2)
