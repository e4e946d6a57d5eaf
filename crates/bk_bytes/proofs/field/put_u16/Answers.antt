use Rattle.bk_bytes.proofs.Putting.{put_mid-field}
use Rattle.bk_bytes.proofs.field.put_u16.Goals as goal

pub returns : goal.returns
returns c = put_mid-field 2 c.args.v c.args.at c.args.b.now c.write_u16.new.buf c.requires c.write_u16.ensures
