use Rattle.std.proofs.Common.{subst}
use Rattle.bk_archive.specs.TextLaws.{text-bytes}
use Rattle.bk_bytes.specs.Field.{AreBytes}
use Rattle.bk_engine.proofs.making.path_law.Goals as goal

pub returns : goal.returns
returns c = subst AreBytes c.as_str-path.ensures (text-bytes c.as_str-path.result.now c.as_str-path.utf8)
