use Rattle.std.proofs.lemmas.Result.{on_ok_weaker}
use Rattle.bk_side.specs.Pages.{entry_of}
use Rattle.bk_side.proofs.Files.{entry_put}
use Rattle.bk_side.proofs.copying.copy_entry.Goals as goal

pub returns-clause-done : goal.returns-clause-done
returns-clause-done g c t =
    on_ok_weaker c.write_page.result (entry_put c.args.names.now (entry_of c.args.entry.now) c.place_of-file.result.0 c.place_of-file.result.1 c.in-Some.name.now c.page_bytes.result.now (g.D.Device.disk c.args.dev.now) (g.D.Device.disk c.write_page.new.dev)
    c.place_of-file.ensures c.page_bytes.ensures.page c.in-Some.ensures) (c.write_page.ensures.done t)
