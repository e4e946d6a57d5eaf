use Rattle.std.proofs.Common.{arith}
use Rattle.bk_record.specs.View.{record_of}
use Rattle.bk_undo.proofs.Covered.{covers-end-kind, covers-quiet, covers-write, quiet-kind}
use Rattle.bk_undo.proofs.closing.note_record.Goals as goal

pub returns-in_ok-add_begun-in-Write : goal.returns-in_ok-add_begun-in-Write
returns-in_ok-add_begun-in-Write c ws covers = covers-write _ c.args.below (record_of c.args.logged) ws (c.in_ok-add_begun-in-Write.ensures.covers ws covers) c.in_ok-add_begun-in-Write.ensures.added

pub returns-in-Commit : goal.returns-in-Commit
returns-in-Commit c ws covers =
    rw c.drop_begun.ensures (covers-end-kind c.args.begun.now.items c.args.below c.args.logged.lsn c.args.logged.begin c.args.logged.body ws (omega (arith, c.if-logged-below.false)) c.in-Commit.is covers)

pub returns-in_default : goal.returns-in_default
returns-in_default c ws covers =
    covers-quiet c.args.begun.now.items c.args.below (record_of c.args.logged) ws (quiet-kind c.args.logged.lsn c.args.logged.begin c.args.logged.body c.in_default.not-Write) covers
