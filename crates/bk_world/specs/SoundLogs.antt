-- Which log records may come behind others: what every log keeps, and with it each front of it.
-- SQL Server: "Transaction Log Architecture and Management Guide"; "Transaction Locking and Row Versioning Guide".
use Rattle.std.specs.Prelude.{◌≡◌, ◌⊎◌, ◌<◌, ◌≤◌, ℕ, ◌*◌, ◌==◌, ◌&&◌, Bool, true, false, List, [], ◌∷◌, ◌++◌, length, Option, Some, None}
use Rattle.std.specs.List.{AllByRecursion}
use Rattle.bk_ids.specs.declared.record.Place.{Place}
use Rattle.bk_world.specs.Entry.{RowChange}
use Rattle.bk_world.specs.Records.{Deed, Load, Logged, written, committed, rolled_back, undone, loaded, id_of, is_row}
use Rattle.bk_world.specs.Pending.{Pending, pending, of_transaction, load_writes}
use Rattle.bk_world.specs.Telling.{seen, row_at}
use Rattle.bk_world.specs.Places.{place_of, IsFreePlace}
use Rattle.bk_world.specs.Says.{change_back}

-- how many writes are pending in a log at most
abbrev pub most_pending : ℕ
most_pending = 2200000

-- A transaction may write a row: at its own place, or, where it has none, at a free one. What the transaction saw there is noted, and no other one
-- has a pending write of the row.
pub record MayWrite (rs : List Logged) (lsn begin : ℕ) (at : Place) (before : Option (List ℕ)) (c : RowChange) : Type 0 where
  pub place : (place_of rs (id_of c) ≡ Some at) ⊎ ((place_of rs (id_of c) ≡ None) × IsFreePlace rs at)
  pub noted : before ≡ row_at (seen rs begin c.table) c.key
  pub unlocked : AllByRecursion (λ w. is_row (id_of w.change) (id_of c) ≡ true → w.begin ≡ begin) (pending rs)
  pub behind : begin < lsn
  pub room : length (pending rs) < most_pending

-- A transaction's last pending write may be undone, if it is none of a load: its row gets back what was noted, where it lies.
pub record MayUndo (rs : List Logged) (begin : ℕ) (at : Place) (c : RowChange) (n : ℕ) : Type 0 where
  pub before : List Pending
  pub write : Pending
  pub last : of_transaction begin (pending rs) ≡ before ++ write ∷ []
  pub single : write.extents ≡ []
  pub place : at ≡ write.place
  pub back : c ≡ change_back write
  pub number : n ≡ write.lsn

-- an undone write of this transaction
abbrev pub undoes : ℕ → Logged → Bool
undoes begin r = is_undoing r.deed && r.begin == begin
  where
    is_undoing : Deed → Bool
    is_undoing (undone at c n) = true
    is_undoing _ = false

-- a write of a load may come: a new row in a free cell
pub record MayLay (rs : List Logged) (w : Pending) : Type 0 where
  pub new : place_of rs (id_of w.change) ≡ None
  pub free : IsFreePlace rs w.place

-- A load may come: its rows are new, and each lies in a free cell of the load's extents.
pub record MayLoad (rs : List Logged) (lsn begin : ℕ) (load : Load) : Type 0 where
  pub rows : AllByRecursion (MayLay rs) (load_writes lsn begin load 0 load.count)
  pub fits : load.count ≤ 504 * length load.extents
  pub behind : begin < lsn
  pub only : of_transaction begin (pending rs) ≡ []

-- a record may come behind those of a log
abbrev pub MayCome : List Logged → ℕ → ℕ → Deed → Type 0
MayCome rs lsn begin (written at before c) = MayWrite rs lsn begin at before c
MayCome rs lsn begin (undone at c n) = MayUndo rs begin at c n
MayCome rs lsn begin (committed time mark) = AllByRecursion (λ r. undoes begin r ≡ false) rs
MayCome rs lsn begin rolled_back = of_transaction begin (pending rs) ≡ []
MayCome rs lsn begin (loaded load) = MayLoad rs lsn begin load
MayCome rs lsn begin _ = Unit {0}

-- some records may come one behind the other, behind those of a log
abbrev pub MayFollow : List Logged → List Logged → Type 0
MayFollow rs [] = Unit {0}
MayFollow rs (r ∷ more) = MayCome rs r.lsn r.begin r.deed × MayFollow (rs ++ r ∷ []) more

-- a log each of whose records may come behind those before it
abbrev pub IsSound : List Logged → Type 0
IsSound rs = MayFollow [] rs

-- no minimal load is pending: its three records are said at once, and a crash leaves none or all
abbrev pub NoLoadPends : List Logged → Type 0
NoLoadPends rs = AllByRecursion (λ w. w.extents ≡ []) (pending rs)
