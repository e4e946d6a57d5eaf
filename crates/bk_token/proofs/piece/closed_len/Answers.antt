use Rattle.std.proofs.Common.{◌≡◌, drop, ◌∙◌, sym, ap, false, Some, None}
use Rattle.std.proofs.lemmas.List.{take_rest}
use Rattle.std.proofs.lemmas.Bool.{MatchBool-at_true, MatchBool-at_false}
use Rattle.bk_token.specs.Reading.{closing}
use Rattle.bk_token.proofs.QuoteLemmas.{cuts_closed, unclosed_none, unclosed_utf8}
use Rattle.bk_token.proofs.piece.closed_len.Goals as goal

pub returns-in_err-len : goal.returns-in_err-len
returns-in_err-len c =
    let bytes = c.args.bytes.now in
    let read : closing c.args.close false 0 (drop c.args.front bytes) ≡ None = sym (ap (closing c.args.close false 0) (take_rest bytes c.args.front)) ∙ sym c.closing.ensures.value ∙ c.in_err-len.was in
    rw c.from_residual.ensures (unclosed_none c.args.front c.args.close bytes c.requires.fits c.requires.within_line read)

pub returns-then-is_utf8 : goal.returns-then-is_utf8
returns-then-is_utf8 c =
    let bytes = c.args.bytes.now in
    let read : closing c.args.close false 0 (drop c.args.front bytes) ≡ Some c.in_ok-len.field-0 = sym (ap (closing c.args.close false 0) (take_rest bytes c.args.front)) ∙ sym c.closing.ensures.value ∙ c.in_ok-len.was in
    cuts_closed c.args.front c.args.close c.in_ok-len.field-0 bytes c.requires.some c.requires.fits read (MatchBool-at_true _ _ c.if-is_utf8.true c.is_utf8.ensures)

pub returns-else-is_utf8 : goal.returns-else-is_utf8
returns-else-is_utf8 c =
    let bytes = c.args.bytes.now in
    let read : closing c.args.close false 0 (drop c.args.front bytes) ≡ Some c.in_ok-len.field-0 = sym (ap (closing c.args.close false 0) (take_rest bytes c.args.front)) ∙ sym c.closing.ensures.value ∙ c.in_ok-len.was in
    unclosed_utf8 c.args.front c.args.close c.in_ok-len.field-0 bytes c.requires.fits c.requires.within_line read (MatchBool-at_false _ _ c.if-is_utf8.false c.is_utf8.ensures)
