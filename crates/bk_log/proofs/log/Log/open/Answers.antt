use Rattle.std.proofs.Common.{◌≡◌, ◌+◌, List, ℕ, length, sym, ap, subst, ◌∙◌, arith}
use Rattle.std.proofs.lemmas.Result.{err_from_is_err_and}
use Rattle.bk_segments.specs.declared.error.LogError.TheVariants.{Foreign}
use Rattle.bk_segments.specs.BatchLaws.{part_none, records_none}
use Rattle.bk_segments.specs.Records.{IsPart, records_in}
use Rattle.bk_lemmas.specs.Tests.{same_error}
use Rattle.bk_segments.specs.Files.{blobs_of}
use Rattle.bk_log.proofs.Makes.{found_holds, load_log}
use Rattle.bk_log.proofs.Parts.{joined_spelled, records_are}
use Rattle.bk_log.proofs.log.Log.open.Goals as goal

pub returns-in_err-found-clause-foreign : goal.returns-in_err-found-clause-foreign
returns-in_err-found-clause-foreign g c t =
    let p = err_from_is_err_and c.from_residual-in_err-found.result c.from_residual-in_err-found.ensures.1 in
    rw (p.1, p.2) (λ is. c.in_err-found.ensures.foreign t (same_error c.in_err-found.field-0.0 Foreign is))

pub invariant_of-log : goal.invariant_of-log
invariant_of-log g c = (
  (λ fit. c.in_ok-found.ensures.gate.1),
  c.in_ok-found.ensures.room.0,
  c.in_ok-found.ensures.room.1,
  omega (arith, c.in_ok-spelled.ensures.capacity),
  subst (λ (bs : List ℕ). IsPart c.in_ok-found.found.stored bs c.in_ok-found.found.stored) (sym c.new.ensures.items) (part_none c.in_ok-found.found.stored),
  c.in_ok-found.ensures.small,
  c.in_ok-found.ensures.sound,
  c.in_ok-found.ensures.count,
  omega (arith, c.new.ensures.len),
  (λ fit. omega arith),
)

pub returns-clause-none : goal.returns-clause-none
returns-clause-none g c = ap records_in c.new.ensures.items ∙ records_none

pub returns-clause-stands : goal.returns-clause-stands
returns-clause-stands g c t settled =
    let found = c.in_ok-found.found in
    let a = g.D.Device.disk c.args.dev.now in
    let count : found.head.front + length found.segments.items ≡ found.head.back + 1 = omega (arith, c.in_ok-found.ensures.count) in
    let holds = found_holds a.files c.args.db found.head found.note.items found.control.content (c.in_ok-found.ensures.content t) c.in_ok-found.ensures.reads c.in_ok-found.ensures.sound in
    load_log c.args.db found.head found.note.items found.stored a (g.D.Device.disk c.find.new.dev) found.control found.gate found.segments.items found.stored _ _ _ _
    (c.in_ok-found.ensures.segments t) count settled holds (c.find.ensures.effect t) c.in_ok-found.ensures.name c.in_ok-found.ensures.gate.0 (c.in_ok-found.ensures.stands t settled.control)
    (c.in_ok-found.ensures.last t (settled.counted found.head holds found.head.back c.in_ok-found.ensures.sound.front (omega arith))) c.in_ok-found.ensures.reads c.in_ok-found.ensures.sound (c.in_ok-found.ensures.begun t) (c.in_ok-found.ensures.run t) c.in_ok-found.ensures.inside c.in_ok-found.ensures.small

pub returns-clause-bytes : goal.returns-clause-bytes
returns-clause-bytes g c t all = c.in_ok-found.ensures.bytes t all ∙ joined_spelled (blobs_of (g.D.Device.disk c.args.dev.now).files c.args.db c.in_ok-found.found.head) (c.in_ok-found.ensures.run t).batches

pub returns-clause-records : goal.returns-clause-records
returns-clause-records g c t = records_are (blobs_of (g.D.Device.disk c.args.dev.now).files c.args.db c.in_ok-found.found.head) (c.in_ok-found.ensures.run t).batches

pub returns-clause-enough : goal.returns-clause-enough
returns-clause-enough g c t = omega (arith, (c.in_ok-found.ensures.run t).ends, c.in_ok-found.ensures.inside)
