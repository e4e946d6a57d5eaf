-- What the parts of a set give that is being opened.
use Rattle.std.specs.Prelude.{◌≡◌, ◌<◌, ◌^◌, ℕ, List, ◌++◌, length, drop, Option, Some, None, Result, Ok, Err}
use Rattle.std.specs.List.{flat_map}
use Rattle.bk_body.specs.Body.{Body}
use Rattle.bk_body.specs.declared.front.Front.{Front}
use Rattle.bk_body.specs.Reading.{front_form}
use Rattle.bk_body.specs.Spelling.{log_bytes, front_bytes, extent_bytes}
use Rattle.bk_volume.specs.declared.error.ReadError.{ReadError}
use Rattle.bk_volume.specs.declared.error.ReadError.TheVariants.{Fault, NoMemory}
use Rattle.bk_volume.specs.declared.error.SetError.{SetError}
use Rattle.bk_volume.specs.declared.error.SetError.TheVariants as opening
use Rattle.bk_volume.specs.Stored.{Stored, IsOf}

-- what was read at the front of bytes, and how many of them it takes
abbrev pub SplitsFront : List ℕ → Option (Front × ℕ) → Type 0
SplitsFront bytes None = front_form.reading bytes ≡ None
SplitsFront bytes (Some read) = front_form.reading bytes ≡ Some ((read.0.header, (read.0.tables, read.0.extents)), drop read.1 bytes)

-- a front is this body's, and takes so many bytes
pub record IsFrontOf (body : Body) (front : Front) (size : ℕ) : Type 0 where
  pub header : front.header ≡ body.header
  pub tables : front.tables ≡ body.tables
  pub extents : front.extents ≡ length body.extents
  pub size_is : size ≡ length (front_bytes body.header body.tables (length body.extents))

-- this body's front was read
abbrev pub GivesFront : Body → Option (Front × ℕ) → Type 0
GivesFront body None = ⊥
GivesFront body (Some read) = IsFrontOf body read.0 read.1

-- bytes are this body's extents, of that length, and its log behind its length
pub record AreBehind (body : Body) (extents : ℕ) (bytes : List ℕ) : Type 0 where
  pub size : extents ≡ length (flat_map extent_bytes body.extents)
  pub short : length body.log < 2 ^ 64
  pub all : bytes ≡ flat_map extent_bytes body.extents ++ log_bytes body.log

-- this body was opened
abbrev pub GivesSet : List ℕ → Body → Option Stored → Type 0
GivesSet file body None = ⊥
GivesSet file body (Some set) = IsOf file body set

-- what is answered for a set that was opened, or wasn't
abbrev pub answer_of : Result (Option Stored) ReadError → Result Stored SetError
answer_of (Ok (Some set)) = Ok set
answer_of (Ok None) = Err opening.NotMedia
answer_of (Err Fault) = Err opening.Fault
answer_of (Err NoMemory) = Err opening.NoMemory
