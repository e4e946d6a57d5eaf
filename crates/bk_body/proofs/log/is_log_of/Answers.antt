use Rattle.std.proofs.Common.{◌≡◌, ◌<◌, ℕ, Bool, true, false, ltb, eqb, length, sym, ap, ◌∙◌, arith}
use Rattle.std.specs.Prelude.{◌&&◌}
use Rattle.std.proofs.lemmas.Bool.{and_parts, ltb-true, eqb-true, eq-eqb}
use Rattle.bk_lemmas.specs.Tests.{test_false}
use Rattle.bk_record.specs.View.{body_of, record_of}
use Rattle.bk_body.specs.Reading.{keep_tables, keeps_deed}
use Rattle.bk_body.proofs.Logs.{starts, goes_on, fits_not, too_many, ends, never_bad}
use Rattle.bk_body.proofs.log.is_log_of.Goals as goal

-- what a record that may be next is
fits : (next last lsn : ℕ) (keeps test : Bool) → test ≡ (ltb next last && eqb lsn next && keeps) → test ≡ true → (next < last) × (lsn ≡ next) × (keeps ≡ true)
fits next last lsn keeps test is passed =
    let p = and_parts (ltb next last && eqb lsn next) keeps (sym is ∙ passed) in
    let q = and_parts (ltb next last) (eqb lsn next) p.0 in
    (ltb-true _ _ q.0, eqb-true _ _ q.1, p.1)

pub loop-record-init : goal.loop-record-init
loop-record-init c = record {
  can = tt;
  finite = tt;
  kept = λ records log.
      let left : c.into_iter-record-iterator.result.bytes ≡ c.args.log.now = cc in
      let copied : c.in_ok-all.all.items ≡ c.args.tables.now = c.in_ok-all.ensures in
      rw (left, copied) (starts c.args.header.now c.args.tables.now records c.args.log.now log);
}

pub returns-in_default : goal.returns-in_default
returns-in_default c = λ records log.
    let step = rw c.in_default.is at c.in-Some.ensures.steps in
    absurd (never_bad c.args.header.now c.args.tables.now records c.loop-record.next c.loop-record.all.items c.loop-record.record-iterator.bytes (c.loop-record.invariant.kept records log) step.bad)

pub returns-then-not-fits_next : goal.returns-then-not-fits_next
returns-then-not-fits_next c = λ records log.
    let step = rw c.in-Ok.is at c.in-Some.ensures.steps in
    let wrong : (ltb c.loop-record.next c.args.header.now.last && eqb c.in-Ok.record.lsn c.loop-record.next && keeps_deed c.args.header.now (body_of c.in-Ok.record.body)) ≡ false = cc in
    sym (fits_not c.args.header.now c.args.tables.now records c.loop-record.next c.loop-record.all.items c.loop-record.record-iterator c.next.new.self (record_of c.in-Ok.record) (c.loop-record.invariant.kept records log) step wrong)

pub returns-then-len-gt-MOST_TABLES : goal.returns-then-len-gt-MOST_TABLES
returns-then-len-gt-MOST_TABLES c = λ records log.
    sym (too_many c.args.header.now c.args.tables.now records c.loop-record.next c.loop-record.all.items c.loop-record.record-iterator.bytes (c.loop-record.invariant.kept records log) (omega arith))

pub overflow_add-next : goal.overflow_add-next
overflow_add-next c =
    let is = fits c.loop-record.next c.args.header.now.last c.in-Ok.record.lsn (keeps_deed c.args.header.now (body_of c.in-Ok.record.body)) c.fits_next.result c.fits_next.ensures (cc) in
    omega (arith, is.0)

pub loop-record-preserved : goal.loop-record-preserved
loop-record-preserved c =
    let step = rw c.in-Ok.is at c.in-Some.ensures.steps in
    let is = fits c.loop-record.next c.args.header.now.last c.in-Ok.record.lsn (keeps_deed c.args.header.now (body_of c.in-Ok.record.body)) c.fits_next.result c.fits_next.ensures (cc) in
    record {
      can = tt;
      finite = tt;
      kept = λ records log.
          goes_on c.args.header.now c.args.tables.now records c.loop-record.next c.loop-record.all.items c.take_in.new.tables.items c.loop-record.record-iterator c.next.new.self (record_of c.in-Ok.record)
          (c.loop-record.invariant.kept records log) step is.1 is.2 c.in_ok-take_in.ensures;
    }

pub returns-then-next-last : goal.returns-then-next-last
returns-then-next-last c = λ records log.
    let at_end = ends c.args.header.now c.args.tables.now records c.loop-record.next c.loop-record.all.items c.loop-record.record-iterator.bytes (c.loop-record.invariant.kept records log) c.in-None.ensures.steps.0 in
    let other : eqb c.loop-record.next c.args.header.now.last ≡ false = test_false c.loop-record.next c.args.header.now.last (omega arith) in
    sym (at_end ∙ ap (λ (b : Bool). b && keep_tables (length c.args.header.now.groups) c.loop-record.all.items) other)

pub returns : goal.returns
returns c = λ records log.
    let at_end = ends c.args.header.now c.args.tables.now records c.loop-record.next c.loop-record.all.items c.loop-record.record-iterator.bytes (c.loop-record.invariant.kept records log) c.in-None.ensures.steps.0 in
    let here : eqb c.loop-record.next c.args.header.now.last ≡ true = eq-eqb c.loop-record.next c.args.header.now.last (omega arith) in
    let groups : length c.as_slice-groups.result.now ≡ length c.args.header.now.groups = ap length c.as_slice-groups.ensures in
    c.are_tables.ensures ∙ ap (λ (n : ℕ). keep_tables n c.deref.result.now) groups ∙ ap (keep_tables (length c.args.header.now.groups)) c.deref.ensures.value
    ∙ sym (at_end ∙ ap (λ (b : Bool). b && keep_tables (length c.args.header.now.groups) c.loop-record.all.items) here)
