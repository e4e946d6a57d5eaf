use Rattle.bk_syntax.proofs.ReaderLaws.{reads_over}
use Rattle.bk_syntax.proofs.reader.read_on.Goals as goal

pub returns-in_default-clause-read : goal.returns-in_default-clause-read
returns-in_default-clause-read c =
    reads_over c.args.src.now c.args.place.now c.loop-place.place c.next_token.new.place c.args.tokens.now.items c.loop-place.tokens.items c.loop-place.invariant c.in_default.ensures.place c.in_default.ensures.next c.in_default.ensures.goes_on
