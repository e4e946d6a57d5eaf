-- What a walk reads of bytes that spell the records of a log.
use Rattle.std.proofs.Common.{◌≡◌, ℕ, List, [], ◌∷◌, ◌++◌, length, map, Some, None, refl, sym, ◌∙◌, ap, append_assoc, arith}
use Rattle.std.specs.List.{flat_map}
use Rattle.bk_ids.specs.declared.record.Rec.{Rec}
use Rattle.bk_record.specs.Laws.{one_record}
use Rattle.bk_record.specs.Log.{IsLog, Left, Reads, BreaksOff}
use Rattle.bk_record.specs.Spelling.{spelling}
use Rattle.bk_record.specs.WalkLaws.{one_log, reads_shorter}
use Rattle.bk_record.specs.declared.walk.BadRecord.{BadRecord}
use Rattle.bk_undo.specs.Spelled.{spelled}
use Rattle.bk_world.specs.Records.{Logged}

-- the record that is read is the next one
pub record NextRead (r : Rec) (rest : List Logged) (left : List ℕ) : Type 0 where
  pub first : Logged
  pub others : List Logged
  pub rest_is : rest ≡ first ∷ others
  pub read_is : r ≡ spelled first
  pub behind : IsLog left (map spelled others) None

pub next-read : (left new : Left) (r : Rec) (rest : List Logged) → IsLog left.bytes (map spelled rest) None → Reads left r new → NextRead r rest new.bytes
next-read left new r [] log reads =
    let none : left.bytes ≡ [] = log.spelled ∙ log.ends in
    absurd (omega (arith, reads_shorter left new r reads, ap length none))
next-read left new r (s ∷ rest) log reads =
    let same = one_record r (spelled s) new.bytes (flat_map spelling (map spelled rest) ++ log.rest) reads.begins.is_record log.are_records.0
    (sym reads.begins.spelled ∙ log.spelled ∙ append_assoc (spelling (spelled s)) (flat_map spelling (map spelled rest)) log.rest) in
    record {
      first = s;
      others = rest;
      rest_is = refl;
      read_is = same.0;
      behind = record { rest = log.rest; spelled = same.1; are_records = log.are_records.1; ends = log.ends };
    }

-- at the end no record is left
pub none-left : (rest : List Logged) → IsLog [] (map spelled rest) None → rest ≡ []
none-left [] log = refl
none-left (s ∷ rest) log =
    let other = one_log [] (map spelled (s ∷ rest)) [] None None log (record { rest = []; spelled = refl; are_records = tt; ends = refl }) in
    absurd (cc (other.0))

-- and it doesn't break off before
pub none-bad : (left new : Left) (e : BadRecord) (rest : List Logged) → IsLog left.bytes (map spelled rest) None → BreaksOff left e new → ⊥
none-bad left new e rest log breaks =
    let other = one_log left.bytes (map spelled rest) [] None (Some 0) log (record { rest = left.bytes; spelled = refl; are_records = tt; ends = (refl, breaks.bad) }) in
    absurd (cc (other.1))
