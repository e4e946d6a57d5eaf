use Rattle.std.proofs.Common.{◌∙◌, ap, refl, ◌-◌, min, ℕ}
use Rattle.bk_control.proofs.Finding.{head_read}
use Rattle.bk_control.proofs.found.read_head.Goals as goal

pub returns-clause-head : goal.returns-clause-head
returns-clause-head g c t size =
    head_read _ c.read.new.buf _ c.args.start c.min-room.result c.entry_of.result
    (c.min-room.ensures ∙ ap (λ (n : ℕ). min n 65600) (c.saturating_sub.ensures ∙ ap (λ (n : ℕ). n - c.args.start) size))
    refl (c.in_ok-read.ensures.bytes t) c.entry_of.ensures.entry c.entry_of.ensures.inside
