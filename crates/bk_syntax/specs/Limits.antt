-- Lengths above their limits, and where reading goes on behind a fault.
use Rattle.std.specs.Prelude.{ℕ, ◌-◌, Bool, true, false, ◌||◌, ◌==◌, nat_lt, slice_get, if◌then◌else◌, List, [], ◌∷◌, length, Option, Some, None}
use Rattle.std.specs.List.{list_any}
use Rattle.bk_token.specs.declared.token.Kind.{Kind}
use Rattle.bk_token.specs.declared.token.Kind.TheVariants.{Sign, Go}
use Rattle.bk_token.specs.declared.token.Token.{Token}
use Rattle.bk_items.specs.declared.item.NamedTransaction.{NamedTransaction}
use Rattle.bk_items.specs.declared.item.NewFile.{NewFile}
use Rattle.bk_items.specs.declared.item.NewGroup.{NewGroup}
use Rattle.bk_items.specs.declared.item.UnitName.{UnitName}
use Rattle.bk_items.specs.declared.item.UnitName.TheVariants.{File, Group}
use Rattle.bk_items.specs.declared.item.RestoredUnits.{RestoredUnits}
use Rattle.bk_items.specs.declared.item.RestoredUnits.TheVariants.{Named, Pages}
use Rattle.bk_items.specs.declared.options.Ending.{Ending}
use Rattle.bk_items.specs.declared.options.Ending.TheVariants.{Recovery, NoRecovery, Standby}
use Rattle.bk_items.specs.declared.options.FileMove.{FileMove}
use Rattle.bk_items.specs.declared.options.RestoreOptions.{RestoreOptions}
use Rattle.bk_syntax.specs.Statement.{next_colon}
use Rattle.bk_items.specs.declared.item.ScriptItem.{ScriptItem}
use Rattle.bk_items.specs.declared.item.ScriptItem.TheVariants.{CreateDatabase, BackupDatabase, BackupLog, RestoreDatabase, RestoreLog, QueryMedium, CreateTable, Rows, Begin, Use, SetRecovery, DropDatabase}

-- a name has more than 64 bytes
abbrev pub long_name : List ℕ → Bool
long_name n = nat_lt 64 (length n)

-- a path has more than 100 bytes
abbrev pub long_path : List ℕ → Bool
long_path p = nat_lt 100 (length p)

abbrev pub long_file : NewFile → Bool
long_file f = long_name f.name || long_path f.path

abbrev pub long_log : Option NewFile → Bool
long_log None = false
long_log (Some f) = long_file f

abbrev pub long_group : NewGroup → Bool
long_group g = long_name g.name || list_any long_file g.files

abbrev pub long_unit : UnitName → Bool
long_unit (File n) = long_name n
long_unit (Group n) = long_name n

abbrev pub long_units : RestoredUnits → Bool
long_units (Named units) = list_any long_unit units
long_units (Pages pages) = false

abbrev pub long_disk : Option (List ℕ) → Bool
long_disk None = false
long_disk (Some p) = long_path p

abbrev pub long_ending : Option Ending → Bool
long_ending None = false
long_ending (Some Recovery) = false
long_ending (Some NoRecovery) = false
long_ending (Some (Standby p)) = long_path p

abbrev pub long_move : FileMove → Bool
long_move m = long_name m.name || long_path m.path

abbrev pub long_options : RestoreOptions → Bool
long_options o = long_ending o.ending || list_any long_move o.moves

abbrev pub long_table_group : Option (List ℕ) → Bool
long_table_group None = false
long_table_group (Some n) = long_name n

abbrev pub long_transaction : Option NamedTransaction → Bool
long_transaction None = false
long_transaction (Some t) = long_name t.name

-- a name or a path of the item is above its limit
unfoldable pub is_long : ScriptItem → Bool
is_long (CreateDatabase d p g l) = long_name d || list_any long_file p || list_any long_group g || long_log l
is_long (BackupDatabase d u p o) = long_name d || list_any long_unit u || long_path p
is_long (BackupLog d p o) = long_name d || long_path p
is_long (RestoreDatabase d u p o) = long_name d || long_units u || long_disk p || long_options o
is_long (RestoreLog d p o) = long_name d || long_disk p || long_options o
is_long (QueryMedium q p f) = long_path p
is_long (CreateTable t g) = long_name t || long_table_group g
is_long (Rows t s) = long_name t
is_long (Begin t) = long_transaction t
is_long (Use d) = long_name d
is_long (SetRecovery d m) = long_name d
is_long (DropDatabase d) = long_name d
is_long _ = false

-- a semicolon or GO, which end a statement
abbrev pub ends : Kind → Bool
ends (Sign b) = b == 59
ends Go = true
ends _ = false

-- where reading goes on behind a fault: behind the next semicolon or GO, or before the next colon that begins a line
abbrev pub recovered : List Token → List Token
recovered [] = []
recovered (t ∷ ts) = if ends t.kind then ts else (if next_colon (t ∷ ts) then t ∷ ts else recovered ts)

abbrev pub wide_by : Option Token → Option Token → Bool
wide_by (Some first) (Some last) = nat_lt 65536 (last.«end» - first.start)
wide_by _ _ = false

-- from the first byte of the first token to the last of the last before the rest there are more than 65536 bytes
abbrev pub is_wide : List Token → List Token → Bool
is_wide ts rest = wide_by (slice_get ts 0) (slice_get ts (length ts - length rest - 1))
