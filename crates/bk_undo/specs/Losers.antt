-- Which writes of a log are to be undone, and by which records.
use Rattle.std.specs.Prelude.{ℕ, ◌<◌, ◌++◌, ◌==◌, ◌&&◌, nat_lt, not, if◌then◌else◌, Bool, false, List, [], ◌∷◌, map, reverse}
use Rattle.std.specs.List.{filter, list_all, AllByRecursion}
use Rattle.bk_ids.specs.declared.record.Rec.{Rec}
use Rattle.bk_ids.specs.declared.record.Body.{Body}
use Rattle.bk_ids.specs.declared.record.Body.TheVariants.{Write, Commit, RollbackEnd, Compensation}
use Rattle.bk_undo.specs.declared.pending.Pending.{Pending}

-- a record of this transaction, if it has one, undoes the write or ends its transaction
abbrev pub body_closes : Body → ℕ → Pending → Bool
body_closes (Commit time mark) begin write = write.begin == begin
body_closes RollbackEnd begin write = write.begin == begin
body_closes (Compensation place cell undone) begin write = write.begin == begin && write.lsn == undone
body_closes _ begin write = false

abbrev pub closes : Rec → Pending → Bool
closes r write = body_closes r.body r.begin write

-- none of these records undoes the write or ends its transaction
abbrev pub is_open : List Rec → Pending → Bool
is_open records write = list_all (λ r. not (closes r write)) records

-- the write that a record is
abbrev pub body_writes : ℕ → ℕ → Body → List Pending
body_writes lsn begin (Write place before after) = (record { lsn = lsn; begin = begin; place = place; before = before }) ∷ []
body_writes lsn begin _ = []

abbrev pub writes : Rec → List Pending
writes r = body_writes r.lsn r.begin r.body

-- the writes that no later record undoes, of transactions that no later record ends
abbrev pub pending : List Rec → List Pending
pending [] = []
pending (r ∷ records) = filter (is_open records) (writes r) ++ pending records

abbrev pub records_below : ℕ → List Rec → List Rec
records_below n records = filter (λ r. nat_lt r.lsn n) records

-- the record that undoes a write, without a number
abbrev pub compensation_of : Pending → Rec
compensation_of write = record { lsn = 0; begin = write.begin; body = Compensation write.place write.before write.lsn }

-- the compensation below an LSN: the pending writes undone, the last one first
abbrev pub compensation : ℕ → List Rec → List Rec
compensation n records = map compensation_of (reverse (pending (records_below n records)))

-- a record without its number
abbrev pub unnumbered : Rec → Rec
unnumbered r = record { lsn = 0; begin = r.begin; body = r.body }

-- the records lie by rising number
abbrev pub Rises : List Rec → Type 0
Rises [] = Unit {0}
Rises (r ∷ records) = AllByRecursion (λ s. r.lsn < s.lsn) records × Rises records

-- what a record makes of the writes that were pending before it, if it lies below this LSN
abbrev pub noted : ℕ → Rec → List Pending → List Pending
noted n r before = if nat_lt r.lsn n then filter (is_open (r ∷ [])) before ++ writes r else before
