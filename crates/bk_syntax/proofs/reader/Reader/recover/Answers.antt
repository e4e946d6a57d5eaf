use Rattle.std.proofs.Common.{◌∙◌, sym, subst, Option}
use Rattle.bk_token.specs.declared.token.Token.{Token}
use Rattle.bk_syntax.specs.Reader.{Peeked}
use Rattle.bk_syntax.proofs.ReaderLaws.{Recovering, recovering_filled, recovering_other, recovers_end, recovers_colon, recovers_over, recovers_filled}
use Rattle.bk_syntax.proofs.reader.Reader.recover.Goals as goal

pub returns-then-ends : goal.returns-then-ends
returns-then-ends c =
    let src = c.args.src.now in
    let P : Option Token → Type 0 = Peeked src c.loop-token.self c.peek.new.self in
    let so_far : Recovering src c.args.self.now c.peek.new.self = recovering_filled src c.args.self.now c.loop-token.self c.peek.new.self c.loop-token.invariant c.in_ok-token.ensures.fills in
    recovers_end src c.args.self.now c.peek.new.self c.skip.new.self c.in-Some.token so_far (sym c.ends.ensures ∙ c.if-ends.true) (subst P c.in-Some.is c.in_ok-token.ensures.first) c.skip.ensures.ahead c.skip.ensures.place c.skip.ensures.within

pub returns-then-is_colon : goal.returns-then-is_colon
returns-then-is_colon c =
    let src = c.args.src.now in
    let P : Option Token → Type 0 = Peeked src c.loop-token.self c.peek.new.self in
    let so_far : Recovering src c.args.self.now c.peek.new.self = recovering_filled src c.args.self.now c.loop-token.self c.peek.new.self c.loop-token.invariant c.in_ok-token.ensures.fills in
    recovers_colon src c.args.self.now c.peek.new.self c.in-Some.token so_far (sym c.ends.ensures ∙ c.if-ends.false) (sym c.is_colon.ensures ∙ c.if-is_colon.true) (subst P c.in-Some.is c.in_ok-token.ensures.first)

pub loop-token-preserved : goal.loop-token-preserved
loop-token-preserved c =
    let src = c.args.src.now in
    let P : Option Token → Type 0 = Peeked src c.loop-token.self c.peek.new.self in
    let so_far : Recovering src c.args.self.now c.peek.new.self = recovering_filled src c.args.self.now c.loop-token.self c.peek.new.self c.loop-token.invariant c.in_ok-token.ensures.fills in
    recovering_other src c.args.self.now c.peek.new.self c.skip-in-Some.new.self c.in-Some.token so_far (sym c.ends.ensures ∙ c.if-ends.false) (sym c.is_colon.ensures ∙ c.if-is_colon.false) (subst P c.in-Some.is c.in_ok-token.ensures.first)
    c.skip-in-Some.ensures.ahead c.skip-in-Some.ensures.place c.skip-in-Some.ensures.within

pub returns : goal.returns
returns c =
    let src = c.args.src.now in
    let P : Option Token → Type 0 = Peeked src c.loop-token.self c.peek.new.self in
    recovers_filled src c.args.self.now c.loop-token.self c.peek.new.self
    (recovers_over src c.args.self.now c.loop-token.self c.loop-token.invariant (subst P c.in_default.is c.in_ok-token.ensures.first)) c.in_ok-token.ensures.fills
