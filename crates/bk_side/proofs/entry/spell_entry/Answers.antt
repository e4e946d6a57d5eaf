use Rattle.std.proofs.Common.{ℕ, List, ap, ◌∙◌}
use Rattle.std.proofs.lemmas.List.{length-replicate}
use Rattle.bk_bytes.specs.Field.{bytes_of, with_field}
use Rattle.bk_side.specs.Pages.{entry_of}
use Rattle.bk_side.proofs.Files.{entry_spelled}
use Rattle.bk_side.proofs.entry.spell_entry.Goals as goal

pub returns-clause-entry : goal.returns-clause-entry
returns-clause-entry c =
    ap entry_of (c.put_page.ensures ∙ ap (λ (e : List ℕ). with_field e 6 c.args.bytes.now) (c.put_u32.ensures ∙ ap (λ (e : List ℕ). with_field e 2 (bytes_of 4 c.args.page)) c.put_u16.ensures))
    ∙ entry_spelled c.args.file c.args.page c.args.bytes.now _ c.ranges.file.fits c.ranges.page.fits c.told-bytes (length-replicate {A = ℕ} 8198 0)
