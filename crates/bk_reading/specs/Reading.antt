-- What a reader that takes memory returned, by what the reading gives.
use Rattle.std.specs.Prelude.{◌≡◌, Option, Some, None, Result, Ok, Err}
use Rattle.bk_reading.specs.declared.unread.Unread.{Unread}
use Rattle.bk_reading.specs.declared.unread.Unread.TheVariants.{NoMemory, Unspelled}

-- nothing is read, unless memory ran out
abbrev pub Refuses : {Y : Type 0} → Unread → Option Y → Type 0
Refuses NoMemory read = Unit {0}
Refuses Unspelled read = read ≡ None

-- what it returned is what is read, unless memory ran out
abbrev pub Reads : {X Y : Type 0} → (X → Y) → Result X Unread → Option Y → Type 0
Reads view (Ok x) read = read ≡ Some (view x)
Reads view (Err e) read = Refuses e read
