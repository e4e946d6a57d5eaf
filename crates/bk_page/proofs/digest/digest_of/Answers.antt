use Rattle.std.proofs.Common.{◌≤◌, [], ◌++◌, length, take, drop, ap, ◌∙◌, arith, length-drop}
use Rattle.std.proofs.lemmas.List.{take_all}
use Rattle.std.specs.Prelude.{replicate}
use Rattle.sha2.specs.Sha256.{sha256}
use Rattle.bk_page.specs.Page.{page_digest}
use Rattle.bk_page.proofs.digest.digest_of.Goals as goal

pub returns : goal.returns
unfolding page_digest
returns c =
    let page = c.args.page.now in
    let first = c.update.ensures [] c.new-hasher.ensures in
    let second = c.update-2.ensures _ first in
    let third = c.update-3.ensures _ second in
    let short : length (drop 64 page) ≤ 8128 = omega (arith, length-drop 64 page, c.told-page) in
    c.finalize.ensures _ third ∙ ap (λ rest. sha256 ((take 32 page ++ replicate 32 0) ++ rest)) (take_all 8128 (drop 64 page) short)
