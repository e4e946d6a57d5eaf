use Rattle.std.proofs.Common.{◌≡◌, ◌∙◌, ap, inl, inr, ⊎_elim, min, length, ◌-◌}
use Rattle.bk_syntax.specs.Items.{line_at, from_place}
use Rattle.bk_syntax.proofs.FrontLaws.{read_known, stuck_known}
use Rattle.bk_syntax.proofs.front.front_of.Goals as goal

pub returns-then-left-gt1 : goal.returns-then-left-gt1
returns-then-left-gt1 c =
    read_known c.args.src.now c.args.tokens.now c.args.first.now c.requires.first.0 c.args.whole c.in-Ok.item c.measured-item.result c.in-Ok.rest.now c.requires.first.1 c.requires.no_end c.in-Ok.ensures c.measured-item.ensures
    (⊎_elim (λ w. inl w) (λ few. inr few.1) c.if-left-gt1.either)

pub returns-then-left-gt1-2 : goal.returns-then-left-gt1-2
returns-then-left-gt1-2 c =
    let src = c.args.src.now in
    let tokens = c.args.tokens.now in
    let left = c.in-Err-At.left in
    let stuck = rw c.in-Err-At.field-0-is at c.in-Err-At.ensures in
    let there : c.line_at-there.result ≡ line_at src (from_place left tokens) = c.line_at-there.ensures ∙ ap (line_at src) c.from_place.ensures in
    let least : c.min-left.result ≡ min left (length tokens - 1) = c.min-left.ensures ∙ ap (min left) c.saturating_sub.ensures in
    rw least
    (stuck_known src tokens c.args.first.now c.requires.first.0 c.args.whole left c.line_at-there.result c.requires.first.1 c.requires.no_end stuck there
    (⊎_elim (λ w. inl w) (λ few. inr few.1) c.if-left-gt1-2.either))
