use Rattle.bk_kept.specs.Keeps.{database_of}
use Rattle.bk_machine.specs.World.{log_of}
use Rattle.bk_machine.specs.statements.Target.{group_name}
use Rattle.bk_world.specs.declared.rule.Rule.TheVariants.{GroupFull}
use Rattle.bk_kept.specs.BuiltLaws.{is-built}
use Rattle.bk_row_plans.proofs.FullGroups.{FullWhere}
use Rattle.bk_row_plans.proofs.Placing.{known, passes-by, refused-by, room-none, room-there, shows-of}
use Rattle.bk_row_plans.proofs.cells.check_room.Goals as goal

pub returns-in-Some-clause-check : goal.returns-in-Some-clause-check
returns-in-Some-clause-check c = λ w name sound shows its.
    let d = c.args.database.now in
    let t = c.args.table.now in
    let rs = log_of w.history (database_of d) in
    let all = known w name d t sound its in
    let law = c.groups_are_full_where_no_cell_is_free.ensures in
    let built = is-built d.files rs d.shown (shows-of w d shows) in
    let full : FullWhere d.files rs = record {
      lies = law.lies d.files rs d.shown.«end» all.log built;
      room = law.room d.files rs d.shown.«end» all.log built;
      free = law.free d.files rs d.shown.«end» all.log built;
      own = law.own d.files rs d.shown.«end» all.log built;
    } in
    passes-by (GroupFull (group_name (database_of d) t.group)) _ (room-there w d t c.args.key all full c.in-Some.place (c.in-Some.ensures w shows all.there))

pub returns-in-Some-clause-cell : goal.returns-in-Some-clause-cell
returns-in-Some-clause-cell c = λ w name sound shows its. c.in-Some.ensures w shows (known w name c.args.database.now c.args.table.now sound its).there

pub returns-in-None-clause-check : goal.returns-in-None-clause-check
returns-in-None-clause-check c = λ w name sound shows its.
    let d = c.args.database.now in
    let t = c.args.table.now in
    let rs = log_of w.history (database_of d) in
    let all = known w name d t sound its in
    let law = c.groups_are_full_where_no_cell_is_free.ensures in
    let built = is-built d.files rs d.shown (shows-of w d shows) in
    let full : FullWhere d.files rs = record {
      lies = law.lies d.files rs d.shown.«end» all.log built;
      room = law.room d.files rs d.shown.«end» all.log built;
      free = law.free d.files rs d.shown.«end» all.log built;
      own = law.own d.files rs d.shown.«end» all.log built;
    } in
    refused-by (GroupFull (group_name (database_of d) t.group)) c.group_full.result _ c.group_full.ensures (room-none w d t c.args.key all full (c.in-None.ensures w shows all.there))
