use Rattle.bk_groups.proofs.Rows.{free_cell-found}
use Rattle.bk_groups.proofs.groups.Groups.free_cell.Goals as goal

pub returns : goal.returns
returns c =
    let group = c.in_ok-group.group in
    let found = rw c.deref.ensures.value at c.first_free.ensures in
    free_cell-found c.self.inside.files.items c.self.inside.tables.entries c.self.inside.places.entries c.args.self.now c.args.table group
    c.self.invariant c.self.view_is c.in_ok-group.ensures c.first_free.result found
