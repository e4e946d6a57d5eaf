-- The sets of backups that run.
use Rattle.std.specs.List.{AllByRecursion}
use Rattle.bk_ids.specs.declared.guid.Guid.{Guid}
use Rattle.bk_machine.specs.Sound.{IsOther}
use Rattle.bk_machine.specs.World.{World}

-- no backup that runs in a world has this set
abbrev pub IsApart : World → Guid → Type 0
IsApart w set = AllByRecursion (IsOther set) w.databases
