-- The part of a log in which all lies that can be pending at its end.
use Rattle.std.specs.Prelude.{◌≡◌, ◌==◌, ℕ, ◌++◌, List, None, true}
use Rattle.std.specs.List.{list_any, AllByRecursion}
use Rattle.bk_ids.specs.declared.record.Rec.{Rec}
use Rattle.bk_record.specs.Log.{IsLog}
use Rattle.bk_undo.specs.Losers.{compensation, pending, records_below}
use Rattle.bk_undo.specs.declared.pending.Pending.{Pending}

-- each of these writes is of one of these transactions
abbrev pub Covers : List ℕ → List Pending → Type 0
Covers begun ws = AllByRecursion (λ w. list_any (λ b. b == w.begin) begun ≡ true) ws

-- these bytes are the back of a log of these records, and of its front no write is pending below an LSN but of these transactions
pub record ReadTo (n : ℕ) (records : List Rec) (begun : List ℕ) (bytes : List ℕ) : Type 0 where
  pub front : List Rec
  pub left : List Rec
  pub splits : records ≡ front ++ left
  pub log : IsLog bytes left None
  pub covers : Covers begun (pending (records_below n front))

-- these bytes are a log that has the compensation of these records
pub record Suffices (n : ℕ) (records : List Rec) (part : List ℕ) : Type 0 where
  pub left : List Rec
  pub log : IsLog part left None
  pub same : compensation n left ≡ compensation n records
