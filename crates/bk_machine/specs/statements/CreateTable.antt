-- CREATE TABLE, in PRIMARY or in a filegroup that is named. SQL Server: CREATE TABLE (Transact-SQL).
use Rattle.std.specs.Prelude.{◌≡◌, ℕ, suc, ◌+◌, not, nat_le, List, [], ◌∷◌, length, take, Option, Some, None, is_some, Ok, if◌then◌else◌}
use Rattle.std.specs.Option.{option_map}
use Rattle.bk_ids.specs.Name.{same_name}
use Rattle.bk_world.specs.declared.database.TableSpec.{TableSpec}
use Rattle.bk_world.specs.declared.reply.Reply.TheVariants.{Done}
use Rattle.bk_world.specs.declared.rule.Limit.TheVariants.{Tables}
use Rattle.bk_world.specs.declared.rule.Rule.TheVariants.{NoSuchDatabase, TableExists, NoSuchGroup, LimitReached, NotBuilt}
use Rattle.bk_world.specs.Records.{table_made}
use Rattle.bk_world.specs.Says.{alone}
use Rattle.bk_machine.specs.Acts.{logged, said_time}
use Rattle.bk_machine.specs.Checks.{Checked, ◌>>=◌, refuse_if, or_refuse, outside, online, limit, used_up, is_name, table_named}
use Rattle.bk_machine.specs.Outcome.{Outcome, in_one}
use Rattle.bk_machine.specs.Seen.{tables_in}
use Rattle.bk_machine.specs.World.{World, Database, current_database}

-- how many filegroups and tables a database has at most
abbrev pub most_groups : ℕ
most_groups = 8

abbrev pub most_tables : ℕ
most_tables = 64

-- the position of the first group of a name
abbrev pub group_named : List (List ℕ) → List ℕ → Option ℕ
group_named [] name = None
group_named (group ∷ groups) name = if same_name group name then Some 0 else option_map suc (group_named groups name)

-- the group that is named, or PRIMARY
abbrev pub check_group : Database → Option (List ℕ) → Checked ℕ
check_group db None = Ok 0
check_group db (Some name) = or_refuse (group_named (take most_groups db.groups) name) NoSuchGroup

-- where a table is made
pub record Room : Type 0 where
  pub database : Database
  pub group : ℕ

unfoldable pub check_create_table : World → ℕ → List ℕ → Option (List ℕ) → Checked Room
check_create_table w line table group = do
  _ ← refuse_if (not (is_name table)) (NotBuilt line)
  _ ← outside w
  current ← or_refuse (current_database w) NoSuchDatabase
  db ← online current
  _ ← refuse_if (is_some (table_named (tables_in w db) table)) TableExists
  number ← check_group db group
  _ ← refuse_if (nat_le most_tables (length (tables_in w db))) (LimitReached Tables)
  _ ← limit (used_up db.end)
  Ok (record { database = db; group = number })

-- the table that is made
abbrev pub new_table : World → Room → List ℕ → TableSpec
new_table w room name = record { number = length (tables_in w room.database) + 1; name = name; group = room.group }

abbrev pub DoesCreateTable : World → List ℕ → ℕ → Room → Outcome → Type 0
DoesCreateTable w name now room outcome =
    outcome ≡ in_one (logged room.database.name (alone (table_made (said_time w room.database now) (new_table w room name))) room.database.transactions) Done
