use Rattle.bk_bytes.proofs.Cells.{image_written}
use Rattle.bk_bytes.proofs.cell.used_image.Goals as goal

pub returns : goal.returns
returns c =
    image_written c.args.table c.args.key c.args.value.now c.put_u16.new.b c.put_u32.new.b c.put_u64.new.b c.copy_from_slice.new.self
    c.put_u16.ensures c.put_u32.ensures c.put_u64.ensures c.copy_from_slice.ensures.after
