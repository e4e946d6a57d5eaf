use Rattle.std.proofs.Common.{[]}
use Rattle.bk_carried.proofs.Copies.{backup-carries, copied, plain}
use Rattle.bk_carried.proofs.laws.backups_carry.Goals as goal

pub returns : goal.returns
returns c = record {
  pages = λ rs files since e path placed read. copied rs since e path (plain files [] rs placed) read;
  carries = backup-carries;
}
