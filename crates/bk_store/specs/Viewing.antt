-- Records as they are taken in.
use Rattle.bk_ids.specs.declared.record.Body.{Body}
use Rattle.bk_ids.specs.declared.record.Body.TheVariants.{Bulk}

-- the record of a minimal load
abbrev pub IsLoad : Body → Type 0
IsLoad (Bulk table first count value extents) = Unit {0}
IsLoad _ = ⊥
