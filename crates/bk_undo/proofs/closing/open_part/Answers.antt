use Rattle.std.proofs.Common.{◌≡◌, [], drop, arith}
use Rattle.std.proofs.lemmas.Bool.Decides.{nat_tests}
use Rattle.std.proofs.lemmas.List.{nil_from_length, take_rest}
use Rattle.bk_undo.proofs.Covered.{read-closed, read-empty, read-more}
use Rattle.bk_undo.proofs.closing.open_part.Goals as goal

pub records-preserved-then-is_empty : goal.records-preserved-then-is_empty
records-preserved-then-is_empty c = record {
  inside = c.in-Some.ensures.inside.1;
  closed_inside = c.in-Some.ensures.inside.1;
  so_far = λ records log.
      read-more c.args.below records c.args.log.now c.records.at c.in-Some.next c.in-Some.skimmed c.records.begun.items c.note_skimmed.new.begun.items (c.records.invariant.so_far records log) c.in-Some.ensures.inside c.in-Some.ensures.shows
      c.in_ok-note_skimmed.ensures;
  behind = λ records log.
      let none : c.note_skimmed.new.begun.items ≡ [] = nil_from_length c.note_skimmed.new.begun.items (grind (arith, nat_tests, c.if-is_empty.ensures)) in
      read-empty c.args.below records c.note_skimmed.new.begun.items (drop c.in-Some.next c.args.log.now) none
      (read-more c.args.below records c.args.log.now c.records.at c.in-Some.next c.in-Some.skimmed c.records.begun.items c.note_skimmed.new.begun.items (c.records.invariant.so_far records log) c.in-Some.ensures.inside c.in-Some.ensures.shows
      c.in_ok-note_skimmed.ensures);
}

pub records-preserved : goal.records-preserved
records-preserved c = record {
  inside = c.in-Some.ensures.inside.1;
  closed_inside = c.records.invariant.closed_inside;
  so_far = λ records log.
      read-more c.args.below records c.args.log.now c.records.at c.in-Some.next c.in-Some.skimmed c.records.begun.items c.note_skimmed.new.begun.items (c.records.invariant.so_far records log) c.in-Some.ensures.inside c.in-Some.ensures.shows
      c.in_ok-note_skimmed.ensures;
  behind = c.records.invariant.behind;
}

pub returns : goal.returns
returns c records log = rw (take_rest c.args.log.now c.records.closed) (read-closed c.args.below records (drop c.records.closed c.args.log.now) (c.records.invariant.behind records log))
