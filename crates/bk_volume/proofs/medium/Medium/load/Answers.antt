use Rattle.std.proofs.Common.{false, sym, ap, ◌∙◌}
use Rattle.std.specs.Prelude.{not}
use Rattle.std.proofs.lemmas.Result.{err_from_is_err_and}
use Rattle.bk_volume.specs.Names.{medium_file}
use Rattle.bk_volume.proofs.Sets.{well_has, count_is, ill_read}
use Rattle.bk_device.specs.Laws.{nothing_then}
use Rattle.bk_volume.proofs.Steps.{opened, opened_medium, shown_medium, medium_flag, shows_flag, is_there, foreign_read}
use Rattle.bk_volume.proofs.medium.Medium.load.Goals as goal

pub returns-in_err-gate-clause-not_media : goal.returns-in_err-gate-clause-not_media
returns-in_err-gate-clause-not_media g c t =
    let a = g.D.Device.disk c.args.dev.now in
    let p = err_from_is_err_and c.from_residual-in_err-gate.result c.from_residual-in_err-gate.ensures.1 in
    let there = is_there (medium_file c.args.path.now) c.deref.result.now a c.in_ok-len.field-0 (c.deref.ensures ∙ c.in_ok-name.ensures) (c.in_ok-len.ensures.value t) (c.is_none.ensures ∙ ap not c.if-is_none.false) in
    rw (p.1, p.2) (λ is. foreign_read (medium_file c.args.path.now) c.deref-2.result.now a (g.D.Device.disk c.len.new.self) (c.deref-2.ensures ∙ c.in_ok-name.ensures) (c.len.ensures.effect t) there (c.in_err-gate.ensures.foreign t is))

pub returns-in_err-begins_well-clause-effect : goal.returns-in_err-begins_well-clause-effect
returns-in_err-begins_well-clause-effect g c t =
    nothing_then (g.met.D.Device.lawful t c.args.dev.now) (nothing_then (g.met.D.Device.lawful t c.args.dev.now) (c.len.ensures.effect t) (c.load_gate.ensures.effect t)) (c.begins_well.ensures.effect t)

pub returns-clause-effect : goal.returns-clause-effect
returns-clause-effect g c t =
    nothing_then (g.met.D.Device.lawful t c.args.dev.now) (nothing_then (g.met.D.Device.lawful t c.args.dev.now) (c.len.ensures.effect t) (c.load_gate.ensures.effect t)) (c.begins_well.ensures.effect t)

pub returns-then-branch-clause-effect : goal.returns-then-branch-clause-effect
returns-then-branch-clause-effect g c t =
    nothing_then (g.met.D.Device.lawful t c.args.dev.now) (nothing_then (g.met.D.Device.lawful t c.args.dev.now) (c.len.ensures.effect t) (c.load_gate.ensures.effect t)) (c.begins_well.ensures.effect t)

pub returns-then-branch-clause-sets : goal.returns-then-branch-clause-sets
returns-then-branch-clause-sets g c t =
    let a = g.D.Device.disk c.args.dev.now in
    let is = opened (medium_file c.args.path.now) c.deref-2.result.now a (g.D.Device.disk c.len.new.self) (g.D.Device.disk c.load_gate.new.dev) c.in_ok-gate.gate c.in_ok-begins_well.field-0
    (c.deref-2.ensures ∙ c.in_ok-name.ensures) c.in_ok-gate.ensures.name (c.len.ensures.effect t) (c.load_gate.ensures.effect t) (c.in_ok-gate.ensures.gate_file t) (c.in_ok-gate.ensures.spans t) (c.in_ok-begins_well.ensures.value t) in
    well_has (a.files (medium_file c.args.path.now)) (sym is.begins ∙ c.if-branch.true)

pub returns-then-branch-clause-count : goal.returns-then-branch-clause-count
returns-then-branch-clause-count g c t =
    let a = g.D.Device.disk c.args.dev.now in
    let is = opened (medium_file c.args.path.now) c.deref-2.result.now a (g.D.Device.disk c.len.new.self) (g.D.Device.disk c.load_gate.new.dev) c.in_ok-gate.gate c.in_ok-begins_well.field-0
    (c.deref-2.ensures ∙ c.in_ok-name.ensures) c.in_ok-gate.ensures.name (c.len.ensures.effect t) (c.load_gate.ensures.effect t) (c.in_ok-gate.ensures.gate_file t) (c.in_ok-gate.ensures.spans t) (c.in_ok-begins_well.ensures.value t) in
    count_is c.in_ok-gate.gate (a.files (medium_file c.args.path.now)) is.spans is.gate_file (well_has (a.files (medium_file c.args.path.now)) (sym is.begins ∙ c.if-branch.true))

pub returns-then-branch-clause-shows : goal.returns-then-branch-clause-shows
returns-then-branch-clause-shows g c t =
    let a = g.D.Device.disk c.args.dev.now in
    let is = opened (medium_file c.args.path.now) c.deref-2.result.now a (g.D.Device.disk c.len.new.self) (g.D.Device.disk c.load_gate.new.dev) c.in_ok-gate.gate c.in_ok-begins_well.field-0
    (c.deref-2.ensures ∙ c.in_ok-name.ensures) c.in_ok-gate.ensures.name (c.len.ensures.effect t) (c.load_gate.ensures.effect t) (c.in_ok-gate.ensures.gate_file t) (c.in_ok-gate.ensures.spans t) (c.in_ok-begins_well.ensures.value t) in
    shows_flag false (shown_medium (medium_file c.args.path.now) c.deref-2.result.now a (g.D.Device.disk c.len.new.self) (g.D.Device.disk c.load_gate.new.dev) (g.D.Device.disk c.begins_well.new.dev) c.in_ok-gate.gate c.in_ok-begins_well.field-0
    (c.deref-2.ensures ∙ c.in_ok-name.ensures) c.in_ok-gate.ensures.name (c.len.ensures.effect t) (c.load_gate.ensures.effect t) (c.begins_well.ensures.effect t)
    is (well_has (a.files (medium_file c.args.path.now)) (sym is.begins ∙ c.if-branch.true)))

pub returns-then-branch-clause-stands : goal.returns-then-branch-clause-stands
returns-then-branch-clause-stands g c t durable =
    let a = g.D.Device.disk c.args.dev.now in
    let is = opened (medium_file c.args.path.now) c.deref-2.result.now a (g.D.Device.disk c.len.new.self) (g.D.Device.disk c.load_gate.new.dev) c.in_ok-gate.gate c.in_ok-begins_well.field-0
    (c.deref-2.ensures ∙ c.in_ok-name.ensures) c.in_ok-gate.ensures.name (c.len.ensures.effect t) (c.load_gate.ensures.effect t) (c.in_ok-gate.ensures.gate_file t) (c.in_ok-gate.ensures.spans t) (c.in_ok-begins_well.ensures.value t) in
    medium_flag false (opened_medium (medium_file c.args.path.now) c.deref-2.result.now a (g.D.Device.disk c.len.new.self) (g.D.Device.disk c.load_gate.new.dev) (g.D.Device.disk c.begins_well.new.dev) c.in_ok-gate.gate
    (c.deref-2.ensures ∙ c.in_ok-name.ensures) c.in_ok-gate.ensures.name (c.len.ensures.effect t) (c.load_gate.ensures.effect t) (c.begins_well.ensures.effect t)
    durable (c.in_ok-gate.ensures.stands t) (well_has (a.files (medium_file c.args.path.now)) (sym is.begins ∙ c.if-branch.true)))

pub returns-clause-not_media : goal.returns-clause-not_media
returns-clause-not_media g c t _ =
    let a = g.D.Device.disk c.args.dev.now in
    let is = opened (medium_file c.args.path.now) c.deref-2.result.now a (g.D.Device.disk c.len.new.self) (g.D.Device.disk c.load_gate.new.dev) c.in_ok-gate.gate c.in_ok-begins_well.field-0
    (c.deref-2.ensures ∙ c.in_ok-name.ensures) c.in_ok-gate.ensures.name (c.len.ensures.effect t) (c.load_gate.ensures.effect t) (c.in_ok-gate.ensures.gate_file t) (c.in_ok-gate.ensures.spans t) (c.in_ok-begins_well.ensures.value t) in
    let there = is_there (medium_file c.args.path.now) c.deref.result.now a c.in_ok-len.field-0 (c.deref.ensures ∙ c.in_ok-name.ensures) (c.in_ok-len.ensures.value t) (c.is_none.ensures ∙ ap not c.if-is_none.false) in
    ill_read (a.files (medium_file c.args.path.now)) there (sym is.begins ∙ c.if-branch.false)
