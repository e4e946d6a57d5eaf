use Rattle.std.proofs.Common.{◌≡◌, Err, List, Option, refl, ap, subst, ◌∙◌}
use Rattle.std.proofs.lemmas.Result.{err_from_is_err_and}
use Rattle.bk_device.specs.Compose.{keeps_by_nothing, keeps_then}
use Rattle.bk_device.specs.Laws.{nothing_yet}
use Rattle.bk_machine.specs.Acts.{done_all}
use Rattle.bk_items.specs.declared.item.ScriptEntry.{ScriptEntry}
use Rattle.bk_syntax.specs.Reader.{HasItems, GivesItem}
use Rattle.bk_console.specs.declared.answers.AnswerError.TheVariants.{Console, Broken}
use Rattle.bk_console.proofs.Asking.{OnErr-from}
use Rattle.bk_console.proofs.Answering.{not-stopped}
use Rattle.bk_console.proofs.Causes.{causes-none, causes-then}
use Rattle.bk_console.proofs.OneByOne.{so_far-none, so_far-all, so_far-unread, so_far-cut, so_far-more, so_far-stopped}
use Rattle.bk_console.proofs.answers.answer_all.Goals as goal

pub loop-reader-init : goal.loop-reader-init
loop-reader-init g c = record {
  reader = c.new-reader.ensures.reader c.args.script.now;
  answered = λ ss are. so_far-none _ _ _ _ ss _ _ _ _ (c.new-reader.ensures.items c.args.script.now) are;
  stands = λ t w stands. (w, stands);
  ready = c.requires.ready;
  number = refl;
  none = c.requires.none;
  standing = c.requires.standing;
  others = λ t. keeps_by_nothing (nothing_yet _);
  causes = causes-none _;
}

pub loop-reader-preserved : goal.loop-reader-preserved
loop-reader-preserved g c =
    let src = c.args.script.now in
    let now = c.in_ok-refused.ensures in
    let before = c.loop-reader.invariant in
    let P : Option ScriptEntry → Type 0 = λ found. (ss : List ScriptEntry) → HasItems src c.loop-reader.reader ss → GivesItem src found ss c.next.new.self in
    let gives = subst P c.in-Some.is c.in_ok-statement.ensures.item in
    record {
      reader = c.in_ok-statement.ensures.reader;
      answered = λ ss are. so_far-more c.crashes_leave_worlds.ensures _ _ _ _ _ ss _ _ _ _ _ _ (before.answered ss are) c.next.new.self c.in-Some.statement gives _ _ _ _ now.answered (not-stopped _ _ c.else-refused.either);
      stands = λ t w stands. let to = before.stands t w stands in (done_all to.0 now.answered.outcome.acts, now.answered.does t to.0 to.1);
      ready = now.ready;
      number = now.own.0 ∙ before.number;
      none = now.own.1;
      standing = now.standing;
      others = λ t. keeps_then (before.others t) (now.others t);
      causes = causes-then before.causes now.causes.disk_faults now.causes.tell_faults;
    }

pub returns-then-stop-clause-answered : goal.returns-then-stop-clause-answered
returns-then-stop-clause-answered g c ss are =
    let src = c.args.script.now in
    let P : Option ScriptEntry → Type 0 = λ found. (ss : List ScriptEntry) → HasItems src c.loop-reader.reader ss → GivesItem src found ss c.next.new.self in
    let gives = subst P c.in-Some.is c.in_ok-statement.ensures.item in
    so_far-stopped c.crashes_leave_worlds.ensures _ _ _ _ _ ss _ _ _ _ _ _ (c.loop-reader.invariant.answered ss are) c.next.new.self c.in-Some.statement gives _ _ _ _ c.in_ok-refused.ensures.answered c.if-refused.true c.if-stop.true

pub returns-in_err-refused-clause-cut_short : goal.returns-in_err-refused-clause-cut_short
returns-in_err-refused-clause-cut_short g c ss are =
    let src = c.args.script.now in
    let P : Option ScriptEntry → Type 0 = λ found. (ss : List ScriptEntry) → HasItems src c.loop-reader.reader ss → GivesItem src found ss c.next.new.self in
    let gives = subst P c.in-Some.is c.in_ok-statement.ensures.item in
    let p = err_from_is_err_and c.from_residual-in_err-refused.result c.from_residual-in_err-refused.ensures.1 in
    OnErr-from _ (so_far-cut c.crashes_leave_worlds.ensures _ _ _ _ _ ss _ _ _ _ _ _ (c.loop-reader.invariant.answered ss are) c.next.new.self c.in-Some.statement gives _ _ _ _
    (λ h. let same : c.in_err-refused.field-0.0 ≡ Console = cc (p.1, p.2, h) in ap Err same) c.in_err-refused.ensures.cut_short)

pub returns-in_err-refused-clause-broken : goal.returns-in_err-refused-clause-broken
returns-in_err-refused-clause-broken g c t h w stands =
    let p = err_from_is_err_and c.from_residual-in_err-refused.result c.from_residual-in_err-refused.ensures.1 in
    let same : c.in_err-refused.field-0.0 ≡ Broken = cc (p.1, p.2, h) in
    let to = c.loop-reader.invariant.stands t w stands in
    c.in_err-refused.ensures.broken t (ap Err same) to.0 to.1

pub returns-in_err-statement-clause-broken : goal.returns-in_err-statement-clause-broken
returns-in_err-statement-clause-broken g c t h w stands =
    let p = err_from_is_err_and c.from_residual.result c.from_residual.ensures.1 in
    let never : ⊥ = cc (p.1, p.2, h) in
    never

pub returns-then-stop-clause-others : goal.returns-then-stop-clause-others
returns-then-stop-clause-others g c t = keeps_then (c.loop-reader.invariant.others t) (c.in_ok-refused.ensures.others t)

pub returns-in_err-statement-clause-cut_short : goal.returns-in_err-statement-clause-cut_short
returns-in_err-statement-clause-cut_short g c ss are =
    let p = err_from_is_err_and c.from_residual.result c.from_residual.ensures.1 in
    OnErr-from _ (so_far-unread c.crashes_leave_worlds.ensures _ _ _ _ _ ss _ _ _ _ _ _ (c.loop-reader.invariant.answered ss are) _ (λ h. let never : ⊥ = cc (p.1, p.2, h) in never))

pub returns-clause-answered : goal.returns-clause-answered
returns-clause-answered g c ss are =
    let src = c.args.script.now in
    let P : Option ScriptEntry → Type 0 = λ found. (ss : List ScriptEntry) → HasItems src c.loop-reader.reader ss → GivesItem src found ss c.next.new.self in
    so_far-all c.crashes_leave_worlds.ensures _ _ _ _ _ ss _ _ _ _ _ _ (c.loop-reader.invariant.answered ss are) c.next.new.self (subst P c.in_default.is c.in_ok-statement.ensures.item)

pub returns-in_err-refused-clause-others : goal.returns-in_err-refused-clause-others
returns-in_err-refused-clause-others g c t = keeps_then (c.loop-reader.invariant.others t) (c.in_err-refused.ensures.others t)

pub returns-clause-stands : goal.returns-clause-stands
returns-clause-stands g c t w stands = c.loop-reader.invariant.stands t w stands

pub returns-then-stop-clause-stands : goal.returns-then-stop-clause-stands
returns-then-stop-clause-stands g c t w stands =
    let to = c.loop-reader.invariant.stands t w stands in
    let one = c.in_ok-refused.ensures.answered in
    (done_all to.0 one.outcome.acts, one.does t to.0 to.1)
