-- What the bytes of a set are read as. SQL Server: "RESTORE VERIFYONLY"; "RESTORE HEADERONLY".
use Rattle.std.specs.Prelude.{◌≡◌, ◌≢◌, ◌⊎◌, ℕ, ◌-◌, ◌<◌, ◌≤◌, List, length, take, drop, Option, Some, None, nat_lt, if◌then◌else◌}
use Rattle.std.specs.Str.{bytes_eq}
use Rattle.sha2.specs.Sha256.{sha256}
use Rattle.bk_world.specs.Medium as shown
use Rattle.bk_body.specs.Body.{Body}
use Rattle.bk_body.specs.Conditions.{IsBody}
use Rattle.bk_body.specs.Spelling.{body_bytes, set_bytes}
use Rattle.bk_body.specs.Reading.{body_of}

-- what a slot of a medium is read as: a set; one whose stored digest isn't the one that was found; bytes that are no set
pub data Slot : Type 0 where
  holds : Body → Slot
  damaged : List ℕ → List ℕ → Slot
  no_set : Slot

-- all but the last 32 bytes
abbrev pub front_of : List ℕ → List ℕ
front_of blob = take (length blob - 32) blob

-- the last 32 bytes, in which the digest of all others is stored
abbrev pub digest_in : List ℕ → List ℕ
digest_in blob = drop (length blob - 32) blob

-- A blob is read as a set exactly where it is the spelling of one; as damaged where its last 32 bytes aren't the digest of the
-- others; else as no set.
abbrev pub ReadsAs : List ℕ → Slot → Type 0
ReadsAs blob (holds body) = IsBody body × (blob ≡ set_bytes body)
ReadsAs blob (damaged stored found) = (32 ≤ length blob) × (stored ≡ digest_in blob) × (found ≡ sha256 (front_of blob)) × (stored ≢ found)
ReadsAs blob no_set = (length blob < 32) ⊎ ((digest_in blob ≡ sha256 (front_of blob)) × ((body : Body) → IsBody body → front_of blob ≢ body_bytes body))

abbrev pub holds_or_none : Option Body → Slot
holds_or_none None = no_set
holds_or_none (Some body) = holds body

-- the same as a function
unfoldable pub slot_of : List ℕ → Slot
slot_of blob =
    if nat_lt (length blob) 32 then no_set
    else if bytes_eq (digest_in blob) (sha256 (front_of blob)) then holds_or_none (body_of (front_of blob))
    else damaged (digest_in blob) (sha256 (front_of blob))

-- what a medium shows of a slot
abbrev pub shown_of : Slot → shown.Slot
shown_of (holds body) = shown.readable body.header
shown_of (damaged stored found) = shown.damaged stored found
shown_of no_set = shown.no_set
