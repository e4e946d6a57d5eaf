use Rattle.std.proofs.Common.{◌≡◌, None, Some, [], sym, ◌∙◌, subst, rules}
use Rattle.std.specs.Prelude.{MatchOption}
use Rattle.std.specs.List.{AllByRecursion}
use Rattle.bk_machine.specs.Closing.{IsFirst}
use Rattle.bk_machine.specs.World.{Database}
use Rattle.bk_asked.specs.Asked.{held_of}
use Rattle.bk_asked.proofs.Foremost.{first-there, none-open}
use Rattle.bk_asked.proofs.opens.first_held.Goals as goal

pub returns-in_err-session-clause-first : goal.returns-in_err-session-clause-first
returns-in_err-session-clause-first c = λ w sees.
    let none : c.from_residual.result ≡ None = search rules in
    let gone : c.least_open.result ≡ None = search rules in
    subst (λ found. MatchOption found (AllByRecursion (λ (db : Database). db.transactions ≡ []) w.databases) (λ h. IsFirst w (held_of h))) (sym none)
    (none-open w.databases (sym (c.least_open.ensures w sees) ∙ gone))

pub returns-clause-first : goal.returns-clause-first
returns-clause-first c = λ w sees.
    let there : c.least_open.result ≡ Some c.in_ok-session.session = search rules in
    first-there w c.in_ok-session.session c.held_by.result (sym there ∙ c.least_open.ensures w sees) (c.held_by.ensures.found w sees)
