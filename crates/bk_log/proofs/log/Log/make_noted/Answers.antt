use Rattle.std.proofs.Common.{◌<◌, ◌^◌, ◌++◌, List, ℕ, sym, ap, subst, ◌∙◌, arith}
use Rattle.bk_segments.specs.BatchLaws.{part_none, records_none}
use Rattle.bk_segments.specs.declared.segments.Segment.{Segment}
use Rattle.bk_segments.specs.Control.{read_control}
use Rattle.bk_segments.specs.Files.{IsAdded}
use Rattle.bk_segments.specs.Records.{IsPart, records_in}
use Rattle.bk_log.proofs.Makes.{made_sound, made_untouched, made_value, made_crash, made_log}
use Rattle.bk_log.proofs.log.Log.make_noted.Goals as goal

pub returns-in_err-note-clause-crash : goal.returns-in_err-note-clause-crash
returns-in_err-note-clause-crash g c t durable none = made_untouched c.args.db c.args.at c.args.bytes.now (g.D.Device.disk c.args.dev.now) durable none

pub returns-in_err-add_segment-clause-crash : goal.returns-in_err-add_segment-clause-crash
returns-in_err-add_segment-clause-crash g c t durable none = made_untouched c.args.db c.args.at c.args.bytes.now (g.D.Device.disk c.args.dev.now) durable none

pub returns-in_err-spelled-clause-crash : goal.returns-in_err-spelled-clause-crash
returns-in_err-spelled-clause-crash g c t durable none = made_untouched c.args.db c.args.at c.args.bytes.now (g.D.Device.disk c.args.dev.now) durable none

pub returns-in_err-control-clause-crash : goal.returns-in_err-control-clause-crash
returns-in_err-control-clause-crash g c t durable none =
    let small : c.args.at < 2 ^ 64 = omega arith in
    made_crash c.args.db c.args.at c.args.bytes.now c.deref.result.now (g.D.Device.disk c.args.dev.now) (g.D.Device.disk c.make_files.new.dev) small c.requires.short (ap read_control c.deref.ensures.value ∙ c.spell.ensures.reads) (c.make_files.ensures.crash t durable none)

pub invariant_of-result : goal.invariant_of-result
invariant_of-result g c = (
  (λ fit. c.in_ok-control.ensures.none),
  omega (arith, c.in_ok-note.ensures.capacity, c.add.ensures.room),
  omega (arith, c.in_ok-note.ensures.len, c.add.ensures.len, c.requires.short),
  omega (arith, c.in_ok-spelled.ensures.capacity, c.spell.ensures.room),
  subst (λ (bs : List ℕ). IsPart c.args.at bs c.args.at) (sym c.new.ensures.items) (part_none c.args.at),
  omega arith,
  made_sound c.args.at c.add.new.out.items c.args.bytes.now (c.add.ensures.items ∙ ap (λ (bs : List ℕ). bs ++ c.args.bytes.now) c.in_ok-note.ensures.items) c.requires.short,
  omega (arith, c.in_ok-add_segment.ensures.len, c.new-segments.ensures.len),
  omega (arith, c.new.ensures.len),
  (λ fit. omega arith),
)

pub returns-clause-none : goal.returns-clause-none
returns-clause-none g c = ap records_in c.new.ensures.items ∙ records_none

pub returns-clause-stands : goal.returns-clause-stands
returns-clause-stands g c t =
    let small : c.args.at < 2 ^ 64 = omega arith in
    let stands = c.in_ok-control.ensures.stands t in
    let added = subst (λ (xs : List Segment). IsAdded xs c.add_segment.new.segments.items c.args.db 1 c.args.at) c.new-segments.ensures.items c.in_ok-add_segment.ensures.added in
    made_log c.args.db c.args.at c.deref.result.now c.add.new.out.items c.args.bytes.now (g.D.Device.disk c.make_files.new.dev) c.in_ok-control.control c.in_ok-control.gate c.add_segment.new.segments.items c.args.at _ _ _ _ small added (c.add.ensures.items ∙ ap (λ (bs : List ℕ). bs ++ c.args.bytes.now) c.in_ok-note.ensures.items) c.requires.short
    (ap read_control c.deref.ensures.value ∙ c.spell.ensures.reads) c.in_ok-control.ensures.names.0 c.in_ok-control.ensures.content c.in_ok-control.ensures.names.1 stands.0 stands.1 (c.in_ok-control.ensures.durable t) (c.in_ok-control.ensures.sealed t)

pub returns-clause-crash : goal.returns-clause-crash
returns-clause-crash g c t durable none =
    let small : c.args.at < 2 ^ 64 = omega arith in
    made_crash c.args.db c.args.at c.args.bytes.now c.deref.result.now (g.D.Device.disk c.args.dev.now) (g.D.Device.disk c.make_files.new.dev) small c.requires.short (ap read_control c.deref.ensures.value ∙ c.spell.ensures.reads) (c.make_files.ensures.crash t durable none)

pub returns-clause-value : goal.returns-clause-value
returns-clause-value g c t =
    made_value (g.D.Device.disk c.make_files.new.dev).files c.args.db c.args.at c.add.new.out.items c.args.bytes.now (c.add.ensures.items ∙ ap (λ (bs : List ℕ). bs ++ c.args.bytes.now) c.in_ok-note.ensures.items) (c.in_ok-control.ensures.sealed t)
