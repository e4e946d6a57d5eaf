-- Where some acts are cut.
-- SQL Server: "Restore and Recovery Overview", the undo phase.
use Rattle.std.specs.Prelude.{ℕ, List, ◌++◌, drop, take}
use Rattle.bk_machine.specs.Acts.{Act, done_all}
use Rattle.bk_machine.specs.Crash.{front_of}
use Rattle.bk_machine.specs.World.{World}

-- a world behind so many of some acts, and so many records of the next one
abbrev pub cut_in : World → List Act → ℕ → ℕ → World
cut_in w acts done records = done_all w (take done acts ++ front_of records (drop done acts))
