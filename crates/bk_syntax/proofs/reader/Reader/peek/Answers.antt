use Rattle.std.proofs.Common.{◌≡◌, ◌<◌, length, arith, ap}
use Rattle.bk_syntax.specs.Reader.{ahead}
use Rattle.bk_syntax.proofs.ReaderLaws.{head_of, nothing_there}
use Rattle.bk_syntax.proofs.reader.Reader.peek.Goals as goal

pub returns-in-len1-up-clause-first : goal.returns-in-len1-up-clause-first
returns-in-len1-up-clause-first c = head_of c.ahead.result.now _ _ c.in-len1-up.len_at_least c.ahead.ensures

pub returns-in-empty-clause-first : goal.returns-in-empty-clause-first
returns-in-empty-clause-first c =
    let none : length (ahead c.fill.new.self) ≡ 0 = omega (arith, c.in-empty.len_below, ap length c.ahead-2.ensures) in
    let few : length (ahead c.fill.new.self) < 64 = omega (arith, none) in
    nothing_there c.args.src.now c.args.self.now c.fill.new.self c.in_ok-fill.ensures.fills none (c.in_ok-fill.ensures.over few)

pub returns-in-len1-up-ahead-clause-first : goal.returns-in-len1-up-ahead-clause-first
returns-in-len1-up-ahead-clause-first c = head_of c.ahead-2.result.now _ _ c.in-len1-up-ahead.len_at_least c.ahead-2.ensures
