-- How a log's control record is spelled: the kept point, the first segment that may still be there, the first that counts and
-- the last, and the number of the first record that they hold, each in eight bytes, the lowest first; and the note behind them.
use Rattle.std.specs.Prelude.{◌≤◌, ◌<◌, ◌^◌, ◌+◌, ℕ, List, ◌++◌, length, Option, Some}
use Rattle.bk_bytes.specs.Field.{bytes_of}
use Rattle.bk_bytes.specs.Codec.{◌>>=◌, number_at}
use Rattle.bk_segments.specs.declared.head.Head.{Head}

-- the bytes of a control record
unfoldable pub control_bytes : Head → List ℕ → List ℕ
control_bytes head note = bytes_of 8 head.kept ++ (bytes_of 8 head.gone ++ (bytes_of 8 head.front ++ (bytes_of 8 head.back ++ (bytes_of 8 head.first ++ note))))

-- the head and the note that these bytes spell
unfoldable pub read_control : List ℕ → Option (Head × List ℕ)
read_control bytes = do
  kept ← number_at 8 bytes
  gone ← number_at 8 kept.1
  front ← number_at 8 gone.1
  back ← number_at 8 front.1
  first ← number_at 8 back.1
  Some (record { kept = kept.0; gone = gone.0; front = front.0; back = back.0; first = first.0 }, first.1)

-- the segments' numbers rise, there are not too many of them, the records that count are among those that are there, and the note is short
pub record IsSound (head : Head) (note : List ℕ) : Type 0 where
  pub gone : head.gone ≤ head.front
  pub front : head.front ≤ head.back
  pub back : head.back < 2 ^ 62
  pub few : head.back ≤ head.gone + 65536
  pub kept : head.first ≤ head.kept
  pub short : length note ≤ 32768
