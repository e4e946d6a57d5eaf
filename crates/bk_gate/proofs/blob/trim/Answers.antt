use Rattle.std.proofs.lemmas.Result.{on_ok_weaker}
use Rattle.std.proofs.Common.{◌∙◌, ap, refl}
use Rattle.bk_gate.specs.Blobs.{sealed}
use Rattle.bk_gate.proofs.Steps.{only_cause, last_cause, keeps_then}
use Rattle.bk_gate.proofs.blob.trim.Goals as goal

pub cut_behind-requires : goal.cut_behind-requires
cut_behind-requires g c = c.requires

pub settle-requires : goal.settle-requires
settle-requires g c t =
    let quiet = c.requires t in
    (quiet.0, c.in_ok-cut_behind.ensures.quiet t quiet.0 quiet.1)

pub returns-in_err-cut_behind-clause-crash : goal.returns-in_err-cut_behind-clause-crash
returns-in_err-cut_behind-clause-crash g c = c.cut_behind.ensures.crash

pub returns-in_err-cut_behind-clause-cause : goal.returns-in_err-cut_behind-clause-cause
returns-in_err-cut_behind-clause-cause g c = only_cause c.in_err-cut_behind.ensures.cause (λ _. refl)

pub returns-clause-quiet : goal.returns-clause-quiet
returns-clause-quiet g c t spans quiet = c.settle.ensures.quiet t spans (c.in_ok-cut_behind.ensures.quiet t spans quiet)

pub returns-clause-durable : goal.returns-clause-durable
returns-clause-durable g c = c.settle.ensures.durable

pub returns-clause-sealed : goal.returns-clause-sealed
returns-clause-sealed g c t = on_ok_weaker c.settle.result (λ same. ap sealed same ∙ c.in_ok-cut_behind.ensures.sealed t) (c.settle.ensures.same t)

pub returns-clause-crash : goal.returns-clause-crash
returns-clause-crash g c t =
    let disk = g.D.Device.disk in
    keeps_then c.args.name.now (disk c.args.dev.now) (disk c.cut_behind.new.dev) (disk c.settle.new.dev) (c.in_ok-cut_behind.ensures.sealed t) (c.cut_behind.ensures.crash t) (c.settle.ensures.crash t)

pub returns-clause-cause : goal.returns-clause-cause
returns-clause-cause g c = last_cause c.in_ok-cut_behind.ensures.cause c.settle.ensures.cause (λ is. is)
