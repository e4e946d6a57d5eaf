-- How an instance's record is spelled, field behind field: its number, its counter, the medium that is being made, the set that is being staged, the sets that are being copied beside the sessions, the
-- number of the next store, the databases, and the stores that are being made or removed. A list or a text stands behind its length in two bytes; all numbers have the lowest byte first, and nothing
-- stands behind them.
use Rattle.std.specs.Prelude.{◌≤◌, ◌<◌, ◌^◌, ◌==◌, ℕ, zero, suc, Bool, true, false, List, [], ◌∷◌, ◌++◌, length, Option, Some, None, unwrap_or, if◌then◌else◌}
use Rattle.std.specs.List.{AllByRecursion, flat_map}
use Rattle.bk_bytes.specs.Field.{bytes_of}
use Rattle.bk_bytes.specs.Codec.{◌>>=◌, Codec, IsString, number, number_at, string, followed, converted, counted}
use Rattle.bk_fields.specs.Guids.{IsGuid, guid_bytes, guid_form}
use Rattle.bk_ids.specs.declared.guid.Guid.{Guid}
use Rattle.bk_master.specs.declared.record.Entry.{Entry}
use Rattle.bk_master.specs.declared.record.Own.{Own}
use Rattle.bk_master.specs.declared.record.Record.{Record}
use Rattle.bk_master.specs.declared.record.Unfinished.{Unfinished}

-- ---- its limits

-- the path has 1 to 100 bytes, if there is one
abbrev pub IsShort : Option (List ℕ) → Type 0
IsShort None = Unit {0}
IsShort (Some path) = (1 ≤ length path) × (length path ≤ 100)

-- a path of 1 to 100 bytes
abbrev pub IsShortPath : List ℕ → Type 0
IsShortPath path = (1 ≤ length path) × (length path ≤ 100)

-- a store that is being made or removed has at most 16 data files
abbrev pub IsSmall : Unfinished → Type 0
IsSmall u = (length u.paths ≤ 16) × AllByRecursion IsShortPath u.paths

-- what an instance may keep beside its databases
pub record KeepsOwn (o : Own) : Type 0 where
  pub path : IsShort o.making
  pub copying : length o.copying ≤ 16

-- a record that an instance may keep
pub record KeepsRecord (r : Record) : Type 0 where
  pub own : KeepsOwn r.own
  pub few : length r.databases ≤ 16
  pub one : length r.unfinished ≤ 2
  pub small : AllByRecursion IsSmall r.unfinished

-- ---- which have a spelling

-- the path is a text of 1 to 100 bytes, if there is one
abbrev pub HasPath : Option (List ℕ) → Type 0
HasPath None = Unit {0}
HasPath (Some path) = IsString 1 100 path

abbrev pub IsEntry : Entry → Type 0
IsEntry e = e.store < 2 ^ 32

pub record IsUnfinished (u : Unfinished) : Type 0 where
  pub store : u.store < 2 ^ 32
  pub paths : (length u.paths < 256 ^ 2) × AllByRecursion (IsString 1 100) u.paths

-- the GUID is one, if there is one
abbrev pub IsStaging : Option Guid → Type 0
IsStaging None = Unit {0}
IsStaging (Some set) = IsGuid set

pub record IsOwnPart (o : Own) : Type 0 where
  pub number : o.number < 2 ^ 64
  pub counter : o.counter < 2 ^ 64
  pub path : HasPath o.making
  pub staging : IsStaging o.staging
  pub copying : (length o.copying < 256 ^ 2) × AllByRecursion IsGuid o.copying

pub record IsRecord (r : Record) : Type 0 where
  pub own : IsOwnPart r.own
  pub next : r.next < 2 ^ 32
  pub databases : (length r.databases < 256 ^ 2) × AllByRecursion IsEntry r.databases
  pub unfinished : (length r.unfinished < 256 ^ 2) × AllByRecursion IsUnfinished r.unfinished

-- ---- its spelling

-- the path's bytes, none where there is no path
abbrev pub path_bytes : Option (List ℕ) → List ℕ
path_bytes making = unwrap_or making []

abbrev pub text_bytes : List ℕ → List ℕ
text_bytes text = bytes_of 2 (length text) ++ text

abbrev pub flag : Bool → ℕ
flag true = 1
flag false = 0

-- its store's number, and whether it is stored, 1 or 0
abbrev pub entry_bytes : Entry → List ℕ
entry_bytes e = bytes_of 4 e.store ++ bytes_of 1 (flag e.is_stored)

abbrev pub paths_bytes : List (List ℕ) → List ℕ
paths_bytes paths = bytes_of 2 (length paths) ++ flat_map text_bytes paths

-- its number, and the paths of its data files
abbrev pub unfinished_bytes : Unfinished → List ℕ
unfinished_bytes u = bytes_of 4 u.store ++ paths_bytes u.paths

-- a byte of 1 and the GUID, or a byte of 0 where there is none
abbrev pub staging_bytes : Option Guid → List ℕ
staging_bytes None = bytes_of 1 0
staging_bytes (Some set) = bytes_of 1 1 ++ guid_bytes set

abbrev pub copying_bytes : List Guid → List ℕ
copying_bytes sets = bytes_of 2 (length sets) ++ flat_map guid_bytes sets

abbrev pub own_bytes : Own → List ℕ
own_bytes o = bytes_of 8 o.number ++ (bytes_of 8 o.counter ++ (text_bytes (path_bytes o.making) ++ (staging_bytes o.staging ++ copying_bytes o.copying)))

-- the bytes of a record
unfoldable pub record_bytes : Record → List ℕ
record_bytes r = own_bytes r.own
    ++ (bytes_of 4 r.next ++ ((bytes_of 2 (length r.databases) ++ flat_map entry_bytes r.databases) ++ (bytes_of 2 (length r.unfinished) ++ flat_map unfinished_bytes r.unfinished)))

-- ---- how it is read

-- the path that these bytes are, none where there are none
abbrev pub path_in : List ℕ → Option (List ℕ)
path_in [] = None
path_in (byte ∷ path) = Some (byte ∷ path)

-- a path of at most 100 bytes behind its length, or a length of 0
unfoldable pub path_form : Codec (Option (List ℕ))
path_form = converted (string 0 100) (λ text. Some (path_in text)) path_bytes HasPath

-- what stands behind the byte
abbrev pub staging_behind : ℕ → List ℕ → Option (Option Guid × List ℕ)
staging_behind zero bytes = Some (None, bytes)
staging_behind (suc zero) bytes = do
  set ← guid_form.reading bytes
  Some (Some set.0, set.1)
staging_behind (suc (suc kind)) bytes = None

-- a GUID behind a byte of 1, or a byte of 0
unfoldable pub staging_form : Codec (Option Guid)
staging_form = record {
  spelling = staging_bytes;
  Fits = IsStaging;
  reading = λ bytes. do
    kind ← number_at 1 bytes
    staging_behind kind.0 kind.1;
}

unfoldable pub own_form : Codec Own
own_form = converted (followed (number 8) (λ _. followed (number 8) (λ _. followed path_form (λ _. followed staging_form (λ _. counted 2 guid_form)))))
    (λ x. Some (record { number = x.0; counter = x.1.0; making = x.1.1.0; staging = x.1.1.1.0; copying = x.1.1.1.1 }))
    (λ o. (o.number, (o.counter, (o.making, (o.staging, o.copying)))))
    IsOwnPart

-- 1 or 0
abbrev pub flag_in : ℕ → Option Bool
flag_in zero = Some false
flag_in (suc zero) = Some true
flag_in (suc (suc n)) = None

unfoldable pub entry_form : Codec Entry
entry_form = converted (followed (number 4) (λ _. converted (number 1) flag_in flag (λ _. Unit {0})))
    (λ x. Some (record { store = x.0; is_stored = x.1 }))
    (λ e. (e.store, e.is_stored))
    IsEntry

unfoldable pub unfinished_form : Codec Unfinished
unfinished_form = converted (followed (number 4) (λ _. counted 2 (string 1 100)))
    (λ x. Some (record { store = x.0; paths = x.1 }))
    (λ u. (u.store, u.paths))
    IsUnfinished

unfoldable pub record_form : Codec Record
record_form = converted (followed own_form (λ _. followed (number 4) (λ _. followed (counted 2 entry_form) (λ _. counted 2 unfinished_form))))
    (λ x. Some (record { own = x.0; next = x.1.0; databases = x.1.1.0; unfinished = x.1.1.1 }))
    (λ r. (r.own, (r.next, (r.databases, r.unfinished))))
    IsRecord

-- the record that all of these bytes spell
unfoldable pub read_record : List ℕ → Option Record
read_record bytes = do
  r ← record_form.reading bytes
  if length r.1 == 0 then Some r.0 else None
