use Rattle.std.proofs.Common.{◌∙◌, refl, arith}
use Rattle.bk_device.specs.Laws.{cause_then}
use Rattle.bk_paged.proofs.Adding.{adding_begins, adding_effect, adding_ends, adding_more}
use Rattle.bk_paged.proofs.placing.add_frames.Goals as goal

pub frames-init : goal.frames-init
frames-init g c = record {
  adding = adding_begins g.D.Device.tells c.args.pool.now (g.D.Device.disk c.args.dev.now) c.args.side.now c.requires.fit c.requires.stands c.requires.fresh;
  cause = record { rose = λ none. absurd none; never_falls = omega arith; tell_faults = refl };
}

pub add_frame-requires-clause-fit : goal.add_frame-requires-clause-fit
add_frame-requires-clause-fit g c = c.frames.invariant.adding.fit

pub add_frame-requires-clause-stands : goal.add_frame-requires-clause-stands
add_frame-requires-clause-stands g c t = (c.frames.invariant.adding.there t).sides

pub returns-in_err-add_frame-clause-crash : goal.returns-in_err-add_frame-clause-crash
returns-in_err-add_frame-clause-crash g c t = adding_effect (g.D.Device.disk c.add_frame.new.dev) c.frames.invariant.adding t (c.add_frame.ensures.crash t)

pub returns-in_err-add_frame-clause-name : goal.returns-in_err-add_frame-clause-name
returns-in_err-add_frame-clause-name g c = c.add_frame.ensures.name ∙ c.frames.invariant.adding.name

pub returns-in_err-add_frame-clause-names : goal.returns-in_err-add_frame-clause-names
returns-in_err-add_frame-clause-names g c = c.add_frame.ensures.names ∙ c.frames.invariant.adding.names

pub frames-preserved : goal.frames-preserved
frames-preserved g c = record {
  adding = adding_more (g.D.Device.disk c.add_frame.new.dev) c.add_frame.new.side c.frames.invariant.adding c.in_ok-add_frame.ensures.fit c.add_frame.ensures.name c.add_frame.ensures.names c.in_ok-add_frame.ensures.stands c.in_ok-add_frame.ensures.added
      c.in_ok-add_frame.ensures.shown c.add_frame.ensures.crash;
  cause = cause_then c.frames.invariant.cause c.in_ok-add_frame.ensures.cause (λ none. absurd none);
}

pub returns-clause-fit : goal.returns-clause-fit
returns-clause-fit g c = c.frames.invariant.adding.fit

pub returns-clause-name : goal.returns-clause-name
returns-clause-name g c = c.frames.invariant.adding.name

pub returns-clause-names : goal.returns-clause-names
returns-clause-names g c = c.frames.invariant.adding.names

pub returns-clause-stands : goal.returns-clause-stands
returns-clause-stands g c t = (c.frames.invariant.adding.there t).sides

pub returns-clause-added : goal.returns-clause-added
returns-clause-added g c t = adding_ends c.frames.invariant.adding (omega (arith, c.frames-test.false, c.len-i-end.ensures)) t

pub returns-clause-shown : goal.returns-clause-shown
returns-clause-shown g c t = (c.frames.invariant.adding.there t).same

pub returns-clause-crash : goal.returns-clause-crash
returns-clause-crash g c t = (c.frames.invariant.adding.there t).effect
