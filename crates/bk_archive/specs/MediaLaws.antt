-- Media that stay.
use Rattle.std.proofs.Common.{◌≡◌, ℕ, Bool, true, false, List, map, Option, None, Some, refl, sym, ◌∙◌, ap, subst}
use Rattle.std.specs.Prelude.{if◌then◌else◌, ◌&&◌, is_some}
use Rattle.std.specs.List.{Contains}
use Rattle.bk_body.specs.Body.{Body}
use Rattle.bk_body.specs.Slots.{holds, shown_of}
use Rattle.bk_bytes.specs.Field.{AreBytes}
use Rattle.bk_carried.specs.Carried.{Carries, HoldsLog}
use Rattle.bk_device.specs.Disk.{Files}
use Rattle.bk_gate.specs.Blobs.{sealed}
use Rattle.bk_machine.specs.Same.{SameMedia}
use Rattle.bk_machine.specs.Sound.{SetIn}
use Rattle.bk_machine.specs.World.{World}
use Rattle.bk_volume.specs.Media.{read_medium, sets_of, slot_at, slot_in}
use Rattle.bk_volume.specs.Names.{medium_file}
use Rattle.bk_volume.specs.Stored.{IsSetAt}
use Rattle.bk_world.specs.declared.header.Header.{Header}
use Rattle.bk_world.specs.Lines.{RecordLines, log_below}
use Rattle.bk_world.specs.Medium.{Slot as Shown, Reading, medium_at}
use Rattle.bk_world.specs.Records.{Logged}
use Rattle.bk_archive.specs.Media.{KeepsMedia, is_begun, is_making, shown_medium}
use Rattle.bk_archive.specs.SlotLaws.{set-medium, slot-blob}

-- ---- files

-- the same files under the names of media
abbrev pub SameFiles : Files → Files → Type 0
SameFiles files image = (path : List ℕ) → AreBytes path → image (medium_file path) ≡ files (medium_file path)

pub media-in : (w : World) (making : Option (List ℕ)) (files image : Files) → SameFiles files image → KeepsMedia w making files → KeepsMedia w making image
media-in w making files image same media = record {
  read = λ path bytes. media.read path bytes ∙ ap (shown_medium making path) (sym (same path bytes));
  carried = λ path p body bytes is. media.carried path p body bytes (ap (λ f. slot_at f p) (sym (same path bytes)) ∙ is);
  whole = λ path p blob bytes is. media.whole path p blob bytes (subst (λ f. IsSetAt f p blob) (same path bytes) is);
}

-- where the record names none, a medium is read as its file is
pub media-read : (w : World) (files : Files) (path : List ℕ) → KeepsMedia w None files → AreBytes path → medium_at w.media path ≡ read_medium (files (medium_file path))
media-read w files path media bytes = media.read path bytes

read-some : (file : Option (List ℕ)) → is_some (read_medium file) ≡ is_some file
unfolding read_medium
read-some None = refl
read-some (Some file) = refl

-- and it is there where its file is
pub media-there : (w : World) (files : Files) (path : List ℕ) → KeepsMedia w None files → AreBytes path → is_some (medium_at w.media path) ≡ is_some (files (medium_file path))
media-there w files path media bytes = ap is_some (media.read path bytes) ∙ read-some (files (medium_file path))

-- ---- sets

shown-some : (t b : Bool) (reading : Option Reading) → b ≡ false → (if t && b then None else reading) ≡ reading
shown-some true true reading is = absurd (cc)
shown-some true false reading is = refl
shown-some false b reading is = refl

-- a medium with a sealed blob is shown as it is read
pub shown-sealed : (making : Option (List ℕ)) (path : List ℕ) (file : Option (List ℕ)) → is_begun (sealed file) ≡ false → shown_medium making path file ≡ read_medium file
shown-sealed making path file some = shown-some (is_making making path) (is_begun (sealed file)) (read_medium file) some

-- a set that is found is one of the world
pub set-in : (w : World) (making : Option (List ℕ)) (files : Files) (path : List ℕ) (p : ℕ) (body : Body) → KeepsMedia w making files → AreBytes path → slot_at (files (medium_file path)) p ≡ Some (holds body) → SetIn w path body.header
set-in w making files path p body media bytes is =
    let file : Option (List ℕ) = files (medium_file path) in
    let found = slot-blob file p (holds body) is in
    let there = set-medium file p found.0 found.1 in
    let In : Shown → Type 0 = λ slot. Contains (map slot_in (sets_of file)) slot in
    (map slot_in (sets_of file), media.read path bytes ∙ shown-sealed making path file there.some ∙ there.reads, subst In (ap shown_of found.2) there.there)

-- ---- worlds

-- a set holds what its path shows in each history in which that reads the same
pub carries-same : (old new : RecordLines) (body : Body) → log_below new body.header.path body.header.last ≡ log_below old body.header.path body.header.last → Carries old body → Carries new body
carries-same old new body same carries = subst (λ (rs : List Logged). HoldsLog rs body) (sym same) carries

-- the logs of the sets on the media of a world read the same in another
abbrev pub SetsStay : World → World → Type 0
SetsStay w v = (path : List ℕ) (header : Header) → SetIn w path header → log_below v.history header.path header.last ≡ log_below w.history header.path header.last

pub media-on : (w v : World) (making : Option (List ℕ)) (files : Files) → v.media ≡ w.media → SetsStay w v → KeepsMedia w making files → KeepsMedia v making files
media-on w v making files same stay media = record {
  read = λ path bytes. ap (λ m. medium_at m path) same ∙ media.read path bytes;
  carried = λ path p body bytes is. carries-same w.history v.history body (stay path body.header (set-in w making files path p body media bytes is)) (media.carried path p body bytes is);
  whole = media.whole;
}

-- worlds with the same media have the same files
pub media-same : (w v : World) (making : Option (List ℕ)) (files : Files) → SameMedia w v → KeepsMedia w making files → KeepsMedia v making files
media-same w v making files same media = media-on w v making files same.media same.reads media
