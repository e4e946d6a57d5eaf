-- What a database says that may wait in memory.
-- SQL Server: "Transaction Log Architecture and Management Guide", the log buffer.
use Rattle.std.specs.Prelude.{Bool, true, false, ◌&&◌, List, nat_lt}
use Rattle.std.specs.List.{list_all}
use Rattle.bk_ids.specs.declared.record.Body.{Body}
use Rattle.bk_ids.specs.declared.record.Body.TheVariants.{Begin, Write}
use Rattle.bk_ids.specs.declared.record.Rec.{Rec}
use Rattle.bk_machine.specs.Sound.{has_begin}
use Rattle.bk_world.specs.declared.transaction.Open.{Open}

-- a record begins a transaction, or is a write of one
abbrev pub is_begin_or_write : Body → Bool
is_begin_or_write Begin = true
is_begin_or_write (Write place before after) = true
is_begin_or_write _ = false

-- of one that is open
abbrev pub is_open_write : List Open → Rec → Bool
is_open_write transactions r = nat_lt 0 r.begin && has_begin transactions r.begin && is_begin_or_write r.body

-- records may wait where each is so, and what was open before is still open
abbrev pub may_wait : List Rec → List Open → List Open → Bool
may_wait records transactions before = list_all (is_open_write transactions) records && list_all (λ (t : Open). has_begin transactions t.begin) before
