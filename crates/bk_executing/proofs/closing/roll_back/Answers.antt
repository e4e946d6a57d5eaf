use Rattle.std.proofs.Common.{rules, ◌≡◌, [], ◌∷◌, None, Some}
use Rattle.bk_machine.specs.statements.Rollback.{rolls_back}
use Rattle.bk_executing.proofs.Closings.{CloseLaws, found-rolls, none-cuts, none-first, one-cuts, one-rolls}
use Rattle.bk_executing.proofs.closing.roll_back.Goals as goal

pub returns-in_err-act-clause-crash : goal.returns-in_err-act-clause-crash
returns-in_err-act-clause-crash g c tells w held stands first = none-cuts w (rolls_back w held ∷ []) (c.at_rest.ensures.crash tells w stands)

pub returns-in_default-clause-rolls : goal.returns-in_default-clause-rolls
returns-in_default-clause-rolls g c tells w held stands first =
    let laws : CloseLaws = record { comes = c.runs_are_closed_one_by_one.ensures.comes; alone = c.runs_are_closed_one_by_one.ensures.alone; fewer = c.runs_are_closed_one_by_one.ensures.fewer; more = c.runs_are_closed_one_by_one.ensures.front_more } in
    let none : c.in_ok-act.field-0 ≡ None = search rules in
    none-first laws w held stands.sound (found-rolls (g.D.Device.disk c.args.dev.now) c.args.engine.now c.in_ok-act.field-0 None none c.in_ok-act.ensures.act w stands) first

pub returns-in_default-clause-crash : goal.returns-in_default-clause-crash
returns-in_default-clause-crash g c tells w held stands first = none-cuts w (rolls_back w held ∷ []) (c.at_rest.ensures.crash tells w stands)

pub returns-clause-rolls : goal.returns-clause-rolls
returns-clause-rolls g c tells =
    let laws : CloseLaws = record { comes = c.runs_are_closed_one_by_one.ensures.comes; alone = c.runs_are_closed_one_by_one.ensures.alone; fewer = c.runs_are_closed_one_by_one.ensures.fewer; more = c.runs_are_closed_one_by_one.ensures.front_more } in
    one-rolls laws g.D.Device.disk c.args.dev.now c.at_rest.new.dev c.do_act-done.new.dev c.at_rest.ensures.same c.args.engine.now c.do_act-done.new.engine c.in-Some.act
    (found-rolls (g.D.Device.disk c.args.dev.now) c.args.engine.now c.in_ok-act.field-0 (Some c.in-Some.act) c.in-Some.is c.in_ok-act.ensures.act) c.do_act-done.result (c.do_act-done.ensures.does tells)

pub returns-clause-crash : goal.returns-clause-crash
returns-clause-crash g c tells =
    let laws : CloseLaws = record { comes = c.runs_are_closed_one_by_one.ensures.comes; alone = c.runs_are_closed_one_by_one.ensures.alone; fewer = c.runs_are_closed_one_by_one.ensures.fewer; more = c.runs_are_closed_one_by_one.ensures.front_more } in
    one-cuts laws g.D.Device.disk c.args.dev.now c.at_rest.new.dev c.do_act-done.new.dev c.at_rest.ensures.same c.args.engine.now c.do_act-done.new.engine c.in-Some.act
    (found-rolls (g.D.Device.disk c.args.dev.now) c.args.engine.now c.in_ok-act.field-0 (Some c.in-Some.act) c.in-Some.is c.in_ok-act.ensures.act) (c.do_act-done.ensures.crash tells)
