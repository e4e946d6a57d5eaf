use Rattle.std.proofs.Common.{subst, Option}
use Rattle.bk_token.specs.Places.{AreTokensAt}
use Rattle.bk_token.specs.declared.token.Token.{Token}
use Rattle.bk_syntax.specs.Reader.{ahead, Begun, IsInFront}
use Rattle.bk_syntax.specs.declared.front.Front.{Front}
use Rattle.bk_syntax.proofs.ReaderLaws.{gives_read, gives_stuck}
use Rattle.bk_syntax.proofs.reader.Reader.next.Goals as goal

pub returns-in_default-clause-item : goal.returns-in_default-clause-item
returns-in_default-clause-item c =
    let P : Option Token → Type 0 = Begun c.args.src.now c.args.self.now c.pass_ends.new.self in
    subst P c.in_default.is c.in_ok-first.ensures.first

pub returns-in-Read-clause-item : goal.returns-in-Read-clause-item
returns-in-Read-clause-item c =
    let src = c.args.src.now in
    let line = c.in-Some.first.line in
    let P : Front → Type 0 = IsInFront src line (ahead c.front.new.self) (AreTokensAt src c.front.new.self.place) ⊥ in
    gives_read src c.args.self.now c.pass_ends.new.self c.front.new.self c.leave.new.self line c.in-Read.left c.in-Read.item c.in_ok-first.ensures.passes c.in_ok-front.ensures.fills
    (subst P c.in-Read.is c.in_ok-front.ensures.front) c.leave.ensures.ahead c.leave.ensures.place

pub returns-in_ok-recover-in-Stuck-clause-item : goal.returns-in_ok-recover-in-Stuck-clause-item
returns-in_ok-recover-in-Stuck-clause-item c =
    let src = c.args.src.now in
    let line = c.in-Some.first.line in
    let P : Front → Type 0 = IsInFront src line (ahead c.front.new.self) (AreTokensAt src c.front.new.self.place) ⊥ in
    gives_stuck src c.args.self.now c.pass_ends.new.self c.front.new.self c.leave-in-Stuck.new.self c.recover.new.self line c.in-Stuck.left c.in-Stuck.there c.in_ok-first.ensures.passes c.in_ok-front.ensures.fills
    (subst P c.in-Stuck.is c.in_ok-front.ensures.front) c.leave-in-Stuck.ensures.ahead c.leave-in-Stuck.ensures.place c.in_ok-recover-in-Stuck.ensures
