-- Lists of the cells that the records of a log set.
use Rattle.std.specs.Prelude.{◌≢◌, ℕ, List, None, length}
use Rattle.std.specs.List.{AllPairs}
use Rattle.bk_ids.specs.declared.record.Rec.{Rec}
use Rattle.bk_record.specs.Log.{IsLog}
use Rattle.bk_redo.specs.declared.writes.CellWrite.{CellWrite}
use Rattle.bk_redo.specs.declared.writes.Wanted.{Wanted}
use Rattle.bk_redo.specs.Redo.{records_between}
use Rattle.bk_redo.specs.Frames.{IsIndex}
use Rattle.bk_redo.specs.CellWrites.{IsListOf}

-- the places are all different, and the map has their frames
pub record IsWanted (wanted : Wanted) : Type 0 where
  pub different : AllPairs (λ a b. a ≢ b) wanted.places.now
  pub indexed : IsIndex wanted.places.now (length wanted.places.now) wanted.index.now.entries

-- the bytes are whole records, and these are the wanted cells that they set
pub record IsListed (wanted : Wanted) (bytes : List ℕ) (writes : List CellWrite) : Type 0 where
  pub records : List Rec
  pub whole : IsLog bytes records None
  pub list : IsListOf wanted.places.now (records_between wanted.from wanted.to records) writes
