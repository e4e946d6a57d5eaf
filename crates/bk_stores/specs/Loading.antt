-- An instance whose stores are opened.
use Rattle.std.specs.Prelude.{◌≡◌, ◌⊎◌, ℕ, List, [], None, Some, length, map, replicate, slice_get}
use Rattle.bk_device.specs.Disk.{Files, Disk}
use Rattle.bk_device.specs.Effects.{Effect}
use Rattle.bk_filling.specs.Removing.{IsPart}
use Rattle.bk_master.specs.declared.record.Record.{Record}
use Rattle.bk_master.specs.declared.record.Unfinished.{Unfinished}
use Rattle.bk_master.specs.Master.{IsNotMade, fresh, Kept as KeptMaster}
use Rattle.bk_side.specs.Names.{data_file}
use Rattle.bk_store.specs.Told.{Told}
use Rattle.bk_stores.specs.Stores.{Fixed, HoldsStores, IsOurs, Kept, fixed_of}

-- files hold an instance with these databases, whose record has this own part and so many of them stored: it is made, or is yet to be, with this number and none
abbrev pub HoldsInstance : ℕ → Fixed → Files → List Told → Type 0
HoldsInstance number fixed image tolds = (IsNotMade image × (fixed ≡ fixed_of (fresh number)) × (tolds ≡ [])) ⊎ ((r : Record) × (fixed_of r ≡ fixed) × HoldsStores image r tolds)

-- the name is that of a part of one of these stores
abbrev pub IsOfAny : List Unfinished → List ℕ → Type 0
IsOfAny us name = (k : ℕ) × (u : Unfinished) × (slice_get us k ≡ Some u) × IsPart u.store (map data_file u.paths) name

-- a crash leaves such an instance
abbrev pub Opens : ℕ → Fixed → List Told → Disk → Disk → Type 0
Opens number fixed tolds old after = Effect IsOurs (λ image. HoldsInstance number fixed image tolds) old after

-- the stores of an instance none of which is open
abbrev pub shut : KeptMaster → Kept
shut m = record { master = m; slots = replicate (length m.record.databases) None }
