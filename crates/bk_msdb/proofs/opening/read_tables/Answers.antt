use Rattle.std.proofs.Common.{◌≡◌, List, ℕ, Option, Some, refl, sym, ap, ◌∙◌, arith}
use Rattle.std.specs.Prelude.{slice_get}
use Rattle.bk_device.specs.Laws.{nothing_yet, nothing_then, cause_then}
use Rattle.bk_gate.specs.Blobs.{sealed}
use Rattle.bk_msdb.proofs.Steps.{gate_there, read_all, read_more, spans_there}
use Rattle.bk_msdb.proofs.opening.read_tables.Goals as goal

pub read_blob-requires-clause-spans : goal.read_blob-requires-clause-spans
read_blob-requires-clause-spans g c t = spans_there c.args.gate.now c.args.gate.now.name refl (c.loop-i.invariant.nothing t) (c.requires.spans t)

pub read_blob-requires-clause-gate_file : goal.read_blob-requires-clause-gate_file
read_blob-requires-clause-gate_file g c t = gate_there c.args.gate.now c.args.gate.now.name refl (c.loop-i.invariant.nothing t) (c.requires.gate_file t)

pub returns-in_err-bytes-clause-effect : goal.returns-in_err-bytes-clause-effect
returns-in_err-bytes-clause-effect g c t = nothing_then (g.met.D.Device.lawful t c.args.dev.now) (c.loop-i.invariant.nothing t) (c.read_blob.ensures.effect t)

pub returns-in_err-read-clause-effect : goal.returns-in_err-read-clause-effect
returns-in_err-read-clause-effect g c t = nothing_then (g.met.D.Device.lawful t c.args.dev.now) (c.loop-i.invariant.nothing t) (c.read_blob.ensures.effect t)

pub loop-i-init : goal.loop-i-init
loop-i-init g c = record {
  nothing = λ t. nothing_yet (g.D.Device.disk c.args.dev.now);
  tables = λ t. c.new-tables.ensures;
  cause = record { rose = λ none. absurd none; never_falls = omega arith; tell_faults = refl };
}

pub loop-i-preserved : goal.loop-i-preserved
loop-i-preserved g c = record {
  nothing = λ t. nothing_then (g.met.D.Device.lawful t c.args.dev.now) (c.loop-i.invariant.nothing t) (c.read_blob.ensures.effect t);
  tables = λ t.
      let there : slice_get (sealed ((g.D.Device.disk c.args.dev.now).files c.args.gate.now.name)) c.loop-i.i ≡ Some c.in_ok-bytes.bytes.items =
      ap (λ (file : Option (List ℕ)). slice_get (sealed file) c.loop-i.i) (sym ((c.loop-i.invariant.nothing t).files c.args.gate.now.name)) ∙ c.in_ok-bytes.ensures.bytes t in
      read_more ((g.D.Device.disk c.args.dev.now).files c.args.gate.now.name) c.loop-i.i c.in_ok-bytes.bytes.items c.deref.result.now c.loop-i.tables c.read.new.self c.in_ok-read.ensures c.deref.ensures.value there (c.loop-i.invariant.tables t);
  cause = cause_then c.loop-i.invariant.cause c.read_blob.ensures.cause (λ none. absurd none);
}

pub returns-clause-tables : goal.returns-clause-tables
returns-clause-tables g c t = read_all ((g.D.Device.disk c.args.dev.now).files c.args.gate.now.name) c.args.gate.now.spans c.loop-i.i c.loop-i.tables (c.requires.gate_file t) (c.requires.spans t) (omega (arith, c.loop-i-test.false, c.count-i-end.ensures)) (c.loop-i.invariant.tables t)
