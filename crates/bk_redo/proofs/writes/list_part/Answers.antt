use Rattle.std.proofs.Common.{◌≡◌, [], ◌∷◌, ◌++◌, Option, Some, ap, sym, ◌∙◌, append-nil}
use Rattle.std.specs.Option.{option_to_list}
use Rattle.bk_record.specs.View.{record_of}
use Rattle.bk_record.specs.WalkLaws.{walked_more}
use Rattle.bk_redo.specs.declared.writes.CellWrite.{CellWrite}
use Rattle.bk_redo.proofs.Listed.{listed_more}
use Rattle.bk_redo.proofs.writes.list_part.Goals as goal

pub loop-record-preserved-in_default-write_of : goal.loop-record-preserved-in_default-write_of
loop-record-preserved-in_default-write_of c =
    let wanted = c.args.wanted in
    let step = rw c.in-Ok.is at c.in-Some.ensures.steps in
    let behind = c.loop-record.invariant.walked in
    let r = record_of c.in-Ok.logged in
    let writes = c.loop-record.writes.items in
    let none : writes ≡ writes ++ option_to_list c.write_of.result = sym (ap (λ (o : Option CellWrite). writes ++ option_to_list o) c.in_default-write_of.is ∙ append-nil writes) in
    record {
      can = tt;
      finite = tt;
      walked = (
        behind.0 ++ r ∷ [],
        walked_more c.args.log.now behind.0 c.loop-record.record-iterator c.next.new.self r behind.1 step,
        listed_more wanted.places.now wanted.from wanted.to behind.0 (r ∷ []) writes (option_to_list c.write_of.result) writes behind.2 c.write_of.ensures none,
      );
    }

pub loop-record-preserved : goal.loop-record-preserved
loop-record-preserved c =
    let wanted = c.args.wanted in
    let step = rw c.in-Ok.is at c.in-Some.ensures.steps in
    let behind = c.loop-record.invariant.walked in
    let r = record_of c.in-Ok.logged in
    record {
      can = tt;
      finite = tt;
      walked = (
        behind.0 ++ r ∷ [],
        walked_more c.args.log.now behind.0 c.loop-record.record-iterator c.next.new.self r behind.1 step,
        listed_more wanted.places.now wanted.from wanted.to behind.0 (r ∷ []) c.loop-record.writes.items (option_to_list (Some c.in-Some-write_of.write)) c.push.new.self.items behind.2 c.in-Some-write_of.ensures c.in-Ok-push.ensures.items,
      );
    }
