use Rattle.std.proofs.Common.{◌≡◌, subst}
use Rattle.std.specs.Option.{option_map}
use Rattle.bk_machine.specs.World.{transaction_of}
use Rattle.bk_kept.specs.declared.kept.Kept.{Kept}
use Rattle.bk_asked.proofs.Opened.{own-is}
use Rattle.bk_asked.proofs.opens.own_open.Goals as goal

pub returns : goal.returns
returns c = λ w sees. own-is w c.args.kept.now c.args.database.now (option_map (λ t. t.now) c.open_of.result) (subst (λ (k : Kept). option_map (λ t. t.now) c.open_of.result ≡ transaction_of c.args.database.now.transactions k.session) c.kept.view_is c.open_of.ensures) sees
