use Rattle.std.proofs.Common.{ℕ, List, ◌++◌, ap, ◌∙◌}
use Rattle.bk_msdb.specs.Spelling.{read_row, row_bytes}
use Rattle.bk_msdb.proofs.Forms.{row_read}
use Rattle.bk_msdb.proofs.writing.spell_row.Goals as goal

pub returns : goal.returns
returns c = ap read_row (c.in_ok-append_row.ensures.ok ∙ ap (λ (front : List ℕ). front ++ row_bytes c.args.row.now) c.new-bytes.ensures.items) ∙ row_read c.args.row.now c.in_ok-append_row.ensures.fits
