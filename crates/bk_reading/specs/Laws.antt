-- A list that isn't read whole.
use Rattle.std.proofs.Common.{◌≡◌, ℕ, ◌-◌, ◌<◌, List, Option}
use Rattle.bk_bytes.specs.Codec.{times_at}
use Rattle.bk_bytes.specs.LoopLaws.{with_front, stops}
use Rattle.bk_reading.specs.declared.unread.Unread.{Unread}
use Rattle.bk_reading.specs.declared.unread.Unread.TheVariants.{NoMemory, Unspelled}
use Rattle.bk_reading.specs.Reading.{Refuses}

-- a list stops where a value of it isn't read
pub refuses_list : {A : Type 0} (item : List ℕ → Option (A × List ℕ)) (front : List A) (count i : ℕ) (bytes : List ℕ) (total : Option (List A × List ℕ)) (e : Unread)
    → i < count → Refuses e (item bytes) → with_front front (times_at item (count - i) bytes) ≡ total → Refuses e total
refuses_list item front count i bytes total NoMemory lt h so_far = tt
refuses_list item front count i bytes total Unspelled lt h so_far = stops item front count i bytes total lt h so_far
