use Rattle.std.proofs.Common.{◌∙◌, refl, arith}
use Rattle.bk_device.specs.Laws.{cause_then}
use Rattle.bk_paged.proofs.Made.{making_begins, making_effect, making_ends, making_more}
use Rattle.bk_paged.proofs.making.make_files.Goals as goal

pub files-init : goal.files-init
files-init g c = record {
  making = making_begins g.D.Device.tells c.args.files.now (g.D.Device.disk c.args.dev.now) c.args.side.now c.requires.fit c.requires.stands;
  cause = record { rose = λ none. absurd none; never_falls = omega arith; tell_faults = refl };
}

pub make_file-requires-clause-fit : goal.make_file-requires-clause-fit
make_file-requires-clause-fit g c = c.files.invariant.making.fit

pub make_file-requires-clause-names : goal.make_file-requires-clause-names
make_file-requires-clause-names g c = c.files.invariant.making.names ∙ c.requires.names

pub make_file-requires-clause-stands : goal.make_file-requires-clause-stands
make_file-requires-clause-stands g c t = (c.files.invariant.making.there t).sides

pub returns-in_err-make_file-clause-crash : goal.returns-in_err-make_file-clause-crash
returns-in_err-make_file-clause-crash g c t = making_effect (g.D.Device.disk c.make_file.new.dev) c.files.invariant.making t (c.make_file.ensures.crash t)

pub returns-in_err-make_file-clause-gate : goal.returns-in_err-make_file-clause-gate
returns-in_err-make_file-clause-gate g c = c.make_file.ensures.gate ∙ c.files.invariant.making.gate

pub returns-in_err-make_file-clause-names : goal.returns-in_err-make_file-clause-names
returns-in_err-make_file-clause-names g c = c.make_file.ensures.names ∙ c.files.invariant.making.names

pub files-preserved : goal.files-preserved
files-preserved g c = record {
  making = making_more (g.D.Device.disk c.make_file.new.dev) c.make_file.new.side c.files.invariant.making c.in_ok-make_file.ensures.fit c.make_file.ensures.gate c.make_file.ensures.names c.in_ok-make_file.ensures.stands
      c.in_ok-make_file.ensures.added c.in_ok-make_file.ensures.first c.make_file.ensures.crash;
  cause = cause_then c.files.invariant.cause c.in_ok-make_file.ensures.cause (λ none. absurd none);
}

pub returns-clause-fit : goal.returns-clause-fit
returns-clause-fit g c = c.files.invariant.making.fit

pub returns-clause-gate : goal.returns-clause-gate
returns-clause-gate g c = c.files.invariant.making.gate

pub returns-clause-names : goal.returns-clause-names
returns-clause-names g c = c.files.invariant.making.names

pub returns-clause-stands : goal.returns-clause-stands
returns-clause-stands g c t = (c.files.invariant.making.there t).sides

pub returns-clause-added : goal.returns-clause-added
returns-clause-added g c t = (c.files.invariant.making.there t).added

pub returns-clause-first : goal.returns-clause-first
returns-clause-first g c t = making_ends c.files.invariant.making (omega (arith, c.files-test.false, c.files.auto.i-end)) t

pub returns-clause-crash : goal.returns-clause-crash
returns-clause-crash g c t = (c.files.invariant.making.there t).effect
