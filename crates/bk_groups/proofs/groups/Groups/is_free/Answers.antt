use Rattle.bk_groups.proofs.Rows.{is_free-shown}
use Rattle.bk_groups.proofs.groups.Groups.is_free.Goals as goal

pub returns : goal.returns
returns c =
    let free = rw c.deref.ensures.value at c.is_free_cell.ensures in
    is_free-shown c.self.inside.files.items c.self.inside.tables.entries c.self.inside.places.entries c.args.self.now c.args.at.now c.is_free_cell.result
    c.self.invariant c.self.view_is free
