-- The records of a log at a glance.
use Rattle.std.specs.Prelude.{◌≡◌}
use Rattle.bk_ids.specs.declared.record.Body.{Body}
use Rattle.bk_ids.specs.declared.record.Body.TheVariants.{Write}
use Rattle.bk_ids.specs.declared.record.Rec.{Rec}
use Rattle.bk_record.specs.View.{record_of}
use Rattle.bk_record.specs.declared.skimming.Skimmed.{Skimmed}
use Rattle.bk_record.specs.declared.skimming.Skimmed.TheVariants as skimmed

-- it is a write
abbrev pub IsWrite : Body → Type 0
IsWrite (Write place before after) = Unit {0}
IsWrite _ = ⊥

-- what is seen of a record: that it is a write, its number and that of its transaction's first record, or all of it
abbrev pub Shows : Skimmed → Rec → Type 0
Shows (skimmed.Write lsn begin) r = IsWrite r.body × ((r.lsn ≡ lsn) × (r.begin ≡ begin))
Shows (skimmed.Other x) r = record_of x ≡ r
