use Rattle.std.proofs.Common.{◌≡◌, ◌+◌, ◌*◌, ◌-◌}
use Rattle.std.specs.List.{list_all, range_with_len}
use Rattle.bk_page.specs.Page.{part}
use Rattle.bk_body.specs.Reading.{is_page_of, are_pages}
use Rattle.bk_body.proofs.pages.are_pages.Given as goal

abbrev pub invariant-loop-j : goal.invariant-loop-j
invariant-loop-j l = list_all (λ i. is_page_of l.file (l.first + i) (part l.bytes (8192 * i) 8192)) (range_with_len l.j (8 - l.j)) ≡ are_pages l.file l.first l.bytes
