use Rattle.std.proofs.Common.{rules, ◌≡◌, ◌≤◌, ◌<◌, ◌∙◌, Some, true, length, inl, inr, sym, ap, slice_get, arith}
use Rattle.std.proofs.lemmas.Bool.{cases_lt}
use Rattle.bk_hosted.specs.Hosted.{names}
use Rattle.bk_stores.specs.ListLaws.{got, got-inside}
use Rattle.bk_hosting.specs.Asking.{is_named}
use Rattle.bk_hosting.proofs.Asked.{found-at, found-none}
use Rattle.bk_hosting.proofs.hosting.Hosting.find.Goals as goal

pub loop-at-init : goal.loop-at-init
loop-at-init c = λ hosted is k h low there. absurd (omega (arith, low))

pub loop-at-preserved : goal.loop-at-preserved
loop-at-preserved c = λ hosted is k h low there. elim (cases_lt k c.loop-at.at) [
  | inl below ↦ c.loop-at.invariant hosted is k h below there
  | inr above ↦
      let one : c.loop-at.at ≡ k = omega (arith, low, above) in
      let here : slice_get hosted c.loop-at.at ≡ Some h = ap (λ n. slice_get hosted n) one ∙ there in
      sym (c.has_name.ensures ∙ ap (is_named c.args.name.now) (c.spec.ensures hosted h is here)) ∙ c.if-has_name.false
]

pub returns-then-has_name-clause-found : goal.returns-then-has_name-clause-found
returns-then-has_name-clause-found c = λ hosted is.
    let count = is.count in
    let low : c.loop-at.at < length c.args.self.now.states = search rules in
    let one = got hosted c.loop-at.at (omega (arith, low, count)) in
    let passes : names c.args.name.now one.0 ≡ true = sym (c.has_name.ensures ∙ ap (is_named c.args.name.now) (c.spec.ensures hosted one.0 is one.1)) ∙ c.if-has_name.true in
    sym (found-at (names c.args.name.now) hosted c.loop-at.at one.0 one.1 passes (λ k h below there. c.loop-at.invariant hosted is k h below there))

pub returns-clause-found : goal.returns-clause-found
returns-clause-found c = λ hosted is.
    let count = is.count in
    let all : length c.args.self.now.states ≤ c.loop-at.at = search rules in
    sym (found-none (names c.args.name.now) hosted (λ k h there. let less = got-inside hosted k h there in c.loop-at.invariant hosted is k h (omega (arith, less, count, all)) there))
