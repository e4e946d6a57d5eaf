use Rattle.std.proofs.Common.{◌≡◌, length, drop, ap, ◌∙◌, arith, length-take, length-drop}
use Rattle.bk_page.specs.Page.{page_digest}
use Rattle.bk_page.specs.PartLaws.{put-with_field}
use Rattle.bk_page.proofs.digest.seal_digest.Goals as goal

pub returns : goal.returns
returns c =
    let page = c.args.page.now in
    let written : c.copy_from_slice.new.self ≡ page_digest page = c.copy_from_slice.ensures.after ∙ c.digest_of-digest.ensures in
    let len : length (page_digest page) ≡ 32 =
    omega (arith, ap length written, c.copy_from_slice.ensures.len, length-take 32 (drop 32 page), length-drop 32 page, c.told-page) in
    rw written (put-with_field page 32 32 (page_digest page) len)
