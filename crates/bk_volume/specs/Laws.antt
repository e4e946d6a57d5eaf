-- What the layers above may take of a medium.
use Rattle.std.proofs.Common.{◌≡◌, ◌≢◌, ◌⊎◌, ℕ, Bool, List, [], ◌∷◌, ◌++◌, length, map, Option, Some, None, refl, inl, inr, sym, ap, subst, ◌∙◌, arith}
use Rattle.std.specs.Prelude.{if◌then◌else◌, unwrap_or}
use Rattle.std.proofs.lemmas.List.{map-append, length-map}
use Rattle.std.proofs.lemmas.Slice.Eq.{bytes_eq-Decides}
use Rattle.hex.specs.Hex.{encode_lower, decode_of}
use Rattle.hex.proofs.HexLemmas.{decode_of-encode_lower}
use Rattle.bk_ids.specs.declared.guid.Guid.{Guid}
use Rattle.bk_bytes.specs.Field.{AreBytes}
use Rattle.bk_world.specs.Medium.{Slot, readable, not_media, medium}
use Rattle.bk_device.specs.Calls.{contents}
use Rattle.bk_device.specs.Disk.{Disk}
use Rattle.bk_device.specs.Effects.{IsName, KeepsFiles}
use Rattle.bk_gate.specs.Blobs.{sealed, part_of}
use Rattle.bk_gate.specs.BlobLaws.{foreign_blobs}
use Rattle.bk_gate.specs.Gate.{Kept}
use Rattle.bk_gate.specs.Laws.{gate_kept, gate_left, blobs_are}
use Rattle.bk_body.specs.Body.{Body}
use Rattle.bk_body.specs.Spelling.{set_bytes}
use Rattle.bk_body.specs.Slots.{shown_of}
use Rattle.bk_body.specs.SlotLaws.{slot_spelled}
use Rattle.bk_volume.specs.Names.{medium_file, staging_file, letter}
use Rattle.bk_volume.specs.Media.{medium_letters, sets_in, HasSets, HasAdded, sets_of, slot_in, reading_of, read_medium, IsMedium, ShowsMedium, count_of}

letters_first : (sets : List (List ℕ)) → sets_in (medium_letters ∷ sets) ≡ Some sets
letters_first sets = ap (λ (b : Bool). if b then Some sets else None) ((bytes_eq-Decides medium_letters medium_letters).1 refl)

pub nothing_sealed : sealed None ≡ []
nothing_sealed = foreign_blobs [] (λ is. absurd (omega (arith, is.1)))

-- the sets among the blobs of a file
pub has_sets : (sets : List (List ℕ)) (file : Option (List ℕ)) → HasSets sets file → sets_in (sealed file) ≡ Some sets
has_sets sets file has = ap sets_in has ∙ letters_first sets

-- a file with these sets is read as a medium with their slots
pub sets_read : (sets : List (List ℕ)) (file : Option (List ℕ)) → HasSets sets file → read_medium file ≡ Some (medium (map slot_in sets))
unfolding read_medium
sets_read sets None has = let none : [] ≡ medium_letters ∷ sets = sym nothing_sealed ∙ has in absurd (cc)
sets_read sets (Some file) has = ap (λ (s : Option (List (List ℕ))). Some (reading_of s)) (has_sets sets (Some file) has)

-- and its sets are these
pub sets_are : (sets : List (List ℕ)) (file : Option (List ℕ)) → HasSets sets file → sets_of file ≡ sets
unfolding sets_of
sets_are sets file has = ap (λ (s : Option (List (List ℕ))). unwrap_or s []) (has_sets sets file has)

none_shown : (file : Option (List ℕ)) → sealed file ≡ [] → (read_medium file ≡ None) ⊎ (read_medium file ≡ Some not_media)
unfolding read_medium
none_shown None none = inl refl
none_shown (Some file) none = inr (ap (λ (blobs : List (List ℕ)). Some (reading_of (sets_in blobs))) none)

-- a file with no sealed blob has no set
pub none_read : (file : Option (List ℕ)) → sealed file ≡ [] → (sets_of file ≡ []) × ((read_medium file ≡ None) ⊎ (read_medium file ≡ Some not_media))
unfolding sets_of
none_read file none = (ap (λ (blobs : List (List ℕ)). unwrap_or (sets_in blobs) []) none, none_shown file none)

-- a set that was added has the last slot, which shows its header
pub added_read : (sets : List (List ℕ)) (body : Body) (file : Option (List ℕ)) → HasAdded sets body file → read_medium file ≡ Some (medium (map slot_in sets ++ readable body.header ∷ []))
added_read sets body file added =
    let shown : slot_in (set_bytes body) ≡ readable body.header = ap shown_of (slot_spelled body added.is_body) in
    sets_read (sets ++ set_bytes body ∷ []) file added.has
    ∙ ap (λ (slots : List Slot). Some (medium slots)) (map-append slot_in sets (set_bytes body ∷ []) ∙ ap (λ (slot : Slot). map slot_in sets ++ slot ∷ []) shown)

-- what is done under other names leaves the medium
pub medium_kept : {a b : Disk} {kept : Kept} → KeepsFiles (IsName kept.name) a b → IsMedium a kept → IsMedium b kept
medium_kept {a = a} {b = b} {kept = kept} keeps is =
    let Has : Option (List ℕ) → Type 0 = λ file. HasSets (sets_of file) file in
    record { gate = gate_kept keeps is.gate; sets = subst Has (sym (keeps.same kept.name refl)) is.sets }

-- each crash leaves the sets
pub medium_left : {a : Disk} {kept : Kept} (content : Option (List ℕ)) → IsMedium a kept → a.may kept.name content → HasSets (sets_of (a.files kept.name)) content
medium_left content is may = gate_left content is.gate may ∙ is.sets

-- the count is the number of the sets that a read shows
pub shown_count : {a : Disk} {kept : Kept} → ShowsMedium a kept → count_of kept ≡ length (sets_of (a.files kept.name))
shown_count {a = a} {kept = kept} is =
    let blobs : sealed (a.files kept.name) ≡ map (part_of (contents (a.files kept.name))) kept.spans =
    blobs_are (contents (a.files kept.name)) kept.spans is.gate_file is.spans in
    let same : map (part_of (contents (a.files kept.name))) kept.spans ≡ medium_letters ∷ sets_of (a.files kept.name) = sym blobs ∙ is.sets in
    omega (arith, ap (λ (parts : List (List ℕ)). length parts) same, length-map kept.spans (part_of (contents (a.files kept.name))))

-- media at different paths have different names
pub names_differ : (path other : List ℕ) → AreBytes path → AreBytes other → medium_file path ≡ medium_file other → path ≡ other
unfolding medium_file
names_differ path other bytes other_bytes same =
    let digits : encode_lower path ≡ encode_lower other = cc in
    let decoded : decode_of (encode_lower path) ≡ decode_of (encode_lower other) = ap decode_of digits in
    let one = decode_of-encode_lower path bytes in
    let two = decode_of-encode_lower other other_bytes in
    cc

-- the letters of the names

pub medium_letter : (path : List ℕ) → letter (medium_file path) ≡ 109
unfolding medium_file
medium_letter path = refl

pub staging_letter : (set : Guid) → letter (staging_file set) ≡ 116
unfolding staging_file
staging_letter set = refl

-- a name with another letter is no medium's
pub no_medium : (path name : List ℕ) → letter name ≢ 109 → name ≢ medium_file path
no_medium path name other same = other (ap letter same ∙ medium_letter path)

-- nor that of a set that is being written
pub no_staging : (set : Guid) (name : List ℕ) → letter name ≢ 116 → name ≢ staging_file set
no_staging set name other same = other (ap letter same ∙ staging_letter set)

-- and no such set lies in a medium's file
pub staging_apart : (path : List ℕ) (set : Guid) → staging_file set ≢ medium_file path
staging_apart path set = no_medium path (staging_file set) (λ is. let both : 116 ≡ 109 = sym (staging_letter set) ∙ is in absurd (omega (arith, both)))
