use Rattle.std.proofs.Common.{◌∙◌, sym, subst, Option}
use Rattle.bk_token.specs.declared.token.Token.{Token}
use Rattle.bk_syntax.specs.Reader.{Peeked}
use Rattle.bk_syntax.proofs.ReaderLaws.{passes_filled, passes_end, none_begun}
use Rattle.bk_syntax.proofs.reader.Reader.pass_ends.Goals as goal

pub loop-first-preserved : goal.loop-first-preserved
loop-first-preserved c =
    let src = c.args.src.now in
    let P : Option Token → Type 0 = Peeked src c.loop-first.self c.peek.new.self in
    passes_end src c.args.self.now c.peek.new.self c.skip.new.self c.in-Some.first
    (passes_filled src c.args.self.now c.loop-first.self c.peek.new.self c.loop-first.invariant c.in_ok-first.ensures.fills)
    (sym c.ends.ensures ∙ c.if-ends.true) (subst P c.in-Some.is c.in_ok-first.ensures.first) c.skip.ensures.ahead c.skip.ensures.place c.skip.ensures.within

pub returns-else-ends-clause-passes : goal.returns-else-ends-clause-passes
returns-else-ends-clause-passes c = passes_filled c.args.src.now c.args.self.now c.loop-first.self c.peek.new.self c.loop-first.invariant c.in_ok-first.ensures.fills

pub returns-clause-passes : goal.returns-clause-passes
returns-clause-passes c = passes_filled c.args.src.now c.args.self.now c.loop-first.self c.peek.new.self c.loop-first.invariant c.in_ok-first.ensures.fills

pub returns-clause-first : goal.returns-clause-first
returns-clause-first c =
    let src = c.args.src.now in
    let P : Option Token → Type 0 = Peeked src c.loop-first.self c.peek.new.self in
    none_begun src c.args.self.now c.loop-first.self c.loop-first.invariant (subst P c.in_default.is c.in_ok-first.ensures.first)
