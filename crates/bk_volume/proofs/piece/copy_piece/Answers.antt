use Rattle.std.proofs.lemmas.Result.{on_ok_weaker}
use Rattle.std.proofs.Common.{length, refl}
use Rattle.bk_volume.proofs.Copying.{piece_copied, sealed_left}
use Rattle.bk_volume.proofs.piece.copy_piece.Goals as goal

pub returns-in_err-read-clause-crash : goal.returns-in_err-read-clause-crash
returns-in_err-read-clause-crash g c t = sealed_left c.args.gate.now c.args.gate.now.name refl (c.requires.stands t) (c.read.ensures.effect t)

pub returns-clause-copied : goal.returns-clause-copied
returns-clause-copied g c t =
    on_ok_weaker c.put.result (piece_copied c.args.from.now c.args.at (length c.args.buffer.now) c.args.buffer.now c.read.new.buf c.args.gate.now c.put.new.gate c.put.new.hasher (c.read.ensures.effect t) c.requires.apart refl (c.requires.inside t)
    (c.in_ok-read.ensures.bytes t) (c.put.ensures.crash t)) (c.put.ensures.added t)
