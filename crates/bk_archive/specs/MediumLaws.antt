-- The medium at one path, and the media at others.
use Rattle.std.proofs.Common.{◌≡◌, ◌≢◌, ◌⊎◌, inl, inr, ℕ, zero, suc, Bool, true, false, cond, List, [], ◌∷◌, Option, None, Some, refl, sym, ◌∙◌, ap, subst}
use Rattle.std.specs.Prelude.{if◌then◌else◌, ◌&&◌, not, slice_get}
use Rattle.std.specs.Str.{bytes_eq}
use Rattle.std.proofs.lemmas.Slice.Eq.{bytes_eq-Decides}
use Rattle.bk_body.specs.Body.{Body}
use Rattle.bk_body.specs.Slots.{holds}
use Rattle.bk_bytes.specs.Field.{AreBytes}
use Rattle.bk_carried.specs.Carried.{Carries}
use Rattle.bk_device.specs.Disk.{Files}
use Rattle.bk_device.specs.Names.{same_or_other}
use Rattle.bk_gate.specs.Blobs.{sealed}
use Rattle.bk_machine.specs.World.{World}
use Rattle.bk_volume.specs.Laws.{names_differ, none_read, nothing_sealed}
use Rattle.bk_volume.specs.Media.{read_medium, sets_of, slot_at}
use Rattle.bk_volume.specs.Names.{medium_file}
use Rattle.bk_volume.specs.Stored.{IsSetAt, IsWhole}
use Rattle.bk_world.specs.Lines.{RecordLines}
use Rattle.bk_world.specs.Medium.{Reading, medium_at, with_medium, without_medium}
use Rattle.bk_archive.specs.Media.{IsSpelled, KeepsMedia, is_begun, is_making, shown_medium}
use Rattle.bk_archive.specs.MediaLaws.{shown-sealed}
use Rattle.bk_archive.specs.SlotLaws.{slot-blob}

-- ---- paths

pub is-self : (path : List ℕ) → bytes_eq path path ≡ true
is-self path = (bytes_eq-Decides path path).1 refl

pub not-other : (path other : List ℕ) → other ≢ path → bytes_eq path other ≡ false
not-other path other apart = by (bytes_eq path other) refl
  where
    by : (t : Bool) → bytes_eq path other ≡ t → t ≡ false
    by true is = absurd (apart (sym ((bytes_eq-Decides path other).0 is)))
    by false is = refl

-- the files of two media at different paths
pub files-apart : (path other : List ℕ) → AreBytes path → AreBytes other → other ≢ path → medium_file other ≢ medium_file path
files-apart path other bytes are apart same = apart (sym (names_differ path other bytes are (sym same)))

-- ---- what is read at a path

pub without-own : (media : List (List ℕ × Reading)) (path : List ℕ) → medium_at (without_medium media path) path ≡ None
without-own [] path = refl
without-own (m ∷ media) path = by (without-own media path) (bytes_eq m.0 path) refl
  where
    by : medium_at (without_medium media path) path ≡ None → (t : Bool) → bytes_eq m.0 path ≡ t → medium_at (cond (not t) (m ∷ without_medium media path) (without_medium media path)) path ≡ None
    by later true is = later
    by later false is = ap (λ t. cond t (Some m.1) (medium_at (without_medium media path) path)) is ∙ later

pub medium_at-other : (media : List (List ℕ × Reading)) (path other : List ℕ) → bytes_eq path other ≡ false → medium_at (without_medium media path) other ≡ medium_at media other
medium_at-other [] path other apart = refl
medium_at-other (m ∷ media) path other apart = by (medium_at-other media path other apart) (bytes_eq m.0 path) refl
  where
    by : medium_at (without_medium media path) other ≡ medium_at media other → (t : Bool) → bytes_eq m.0 path ≡ t
        → medium_at (cond (not t) (m ∷ without_medium media path) (without_medium media path)) other ≡ cond (bytes_eq m.0 other) (Some m.1) (medium_at media other)
    by later true is =
        let same : m.0 ≡ path = (bytes_eq-Decides m.0 path).0 is in
        later ∙ sym (ap (λ p. cond (bytes_eq p other) (Some m.1) (medium_at media other)) same ∙ ap (λ t. cond t (Some m.1) (medium_at media other)) apart)
    by later false is = ap (λ r. cond (bytes_eq m.0 other) (Some m.1) r) later

pub with_medium-own : (media : List (List ℕ × Reading)) (path : List ℕ) (reading : Reading) → medium_at (with_medium media path reading) path ≡ Some reading
with_medium-own media path reading = ap (λ t. cond t (Some reading) (medium_at (without_medium media path) path)) (is-self path)

pub with_medium-other : (media : List (List ℕ × Reading)) (path other : List ℕ) (reading : Reading) → bytes_eq path other ≡ false → medium_at (with_medium media path reading) other ≡ medium_at media other
with_medium-other media path other reading apart = ap (λ t. cond t (Some reading) (medium_at (without_medium media path) other)) apart ∙ medium_at-other media path other apart

-- ---- what is shown where a medium is being made

-- it is shown as none while no blob of it is sealed
pub begun-shown : (path : List ℕ) (file : Option (List ℕ)) → is_begun (sealed file) ≡ true → shown_medium (Some path) path file ≡ None
begun-shown path file begun = rw (is-self path, begun) refl

-- and others as they are read
pub other-shown : (path other : List ℕ) (file : Option (List ℕ)) → other ≢ path → shown_medium (Some path) other file ≡ read_medium file
other-shown path other file apart = ap (λ (t : Bool). if t && is_begun (sealed file) then None else read_medium file) (not-other path other apart)

-- a record names this medium, or none
abbrev pub NamesAtMost : List ℕ → Option (List ℕ) → Type 0
NamesAtMost path making = (making ≡ None) ⊎ (making ≡ Some path)

pub named-shown : (path other : List ℕ) (making : Option (List ℕ)) (file : Option (List ℕ)) → NamesAtMost path making → other ≢ path → shown_medium making other file ≡ read_medium file
named-shown path other making file (inl none) apart = ap (λ m. shown_medium m other file) none
named-shown path other making file (inr some) apart = ap (λ m. shown_medium m other file) some ∙ other-shown path other file apart

-- a medium that isn't shown while it is being made has no sealed blob
pub unshown-begun : (path : List ℕ) (making : Option (List ℕ)) (file : Option (List ℕ)) → shown_medium making path file ≡ None → is_begun (sealed file) ≡ true
unfolding read_medium
unshown-begun path making None none = ap is_begun nothing_sealed
unshown-begun path making (Some file) none = by (is_making making path) (is_begun (sealed (Some file))) refl none
  where
    by : (t b : Bool) → is_begun (sealed (Some file)) ≡ b → (if t && b then None else read_medium (Some file)) ≡ None → is_begun (sealed (Some file)) ≡ true
    by true true is none = is
    by true false is none = absurd (cc)
    by false b is none = absurd (cc)

-- ---- the sets of one file

-- sets hold what their paths show in this history, and bytes with their own digest are sets
pub record AreKept (history : RecordLines) (file : Option (List ℕ)) : Type 0 where
  pub carried : (p : ℕ) (body : Body) → slot_at file p ≡ Some (holds body) → Carries history body
  pub whole : (p : ℕ) (blob : List ℕ) → IsSetAt file p blob → IsWhole blob → IsSpelled blob

-- those of a medium are
pub are-kept : (w : World) (making : Option (List ℕ)) (files : Files) (path : List ℕ) → KeepsMedia w making files → AreBytes path → AreKept w.history (files (medium_file path))
are-kept w making files path media bytes = record { carried = λ p body is. media.carried path p body bytes is; whole = λ p blob is. media.whole path p blob bytes is }

-- where there are none, all are
no-blob : (file : Option (List ℕ)) → sets_of file ≡ [] → (p : ℕ) (blob : List ℕ) → IsSetAt file p blob → ⊥
no-blob file none zero blob there = there
no-blob file none (suc i) blob there = by (sym (ap (λ sets. slice_get sets i) none) ∙ there)
  where
    by : slice_get [] i ≡ Some blob → ⊥
    by e = cc

pub none-kept : (history : RecordLines) (file : Option (List ℕ)) → sets_of file ≡ [] → AreKept history file
none-kept history file none = record {
  carried = λ p body is. let found = slot-blob file p (holds body) is in absurd (no-blob file none p found.0 found.1);
  whole = λ p blob there. absurd (no-blob file none p blob there);
}

-- where there is no file, no medium is read, and there is no set
pub nothing-read : (file : Option (List ℕ)) → file ≡ None → read_medium file ≡ None
unfolding read_medium
nothing-read file none = ap read_medium none

pub nothing-begun : (file : Option (List ℕ)) → file ≡ None → is_begun (sealed file) ≡ true
nothing-begun file none = ap (λ f. is_begun (sealed f)) none ∙ ap is_begun nothing_sealed

pub nothing-kept : (history : RecordLines) (file : Option (List ℕ)) → file ≡ None → AreKept history file
nothing-kept history file none = none-kept history file (none_read file (ap sealed none ∙ nothing_sealed)).0

-- ---- the medium at a path becomes another, and the others stay

-- the same files under the names of the other media
abbrev pub SameOthers : Files → List ℕ → Files → Type 0
SameOthers files path image = (other : List ℕ) → AreBytes other → other ≢ path → image (medium_file other) ≡ files (medium_file other)

pub media-at : (w v : World) (was making : Option (List ℕ)) (files image : Files) (path : List ℕ) → NamesAtMost path was → NamesAtMost path making → KeepsMedia w was files → SameOthers files path image
    → medium_at v.media path ≡ shown_medium making path (image (medium_file path)) → ((other : List ℕ) → other ≢ path → medium_at v.media other ≡ medium_at w.media other)
    → ((other : List ℕ) (p : ℕ) (body : Body) → AreBytes other → slot_at (files (medium_file other)) p ≡ Some (holds body) → Carries v.history body)
    → AreKept v.history (image (medium_file path)) → KeepsMedia v making image
media-at w v was making files image path before now keeps others own beside carried kept = record {
  read = λ other are. elim (same_or_other path other) [
    | inl is ↦ subst (λ o. medium_at v.media o ≡ shown_medium making o (image (medium_file o))) (sym is) own
    | inr apart ↦
        beside other apart ∙ keeps.read other are ∙ named-shown path other was (files (medium_file other)) before apart
        ∙ ap read_medium (sym (others other are apart)) ∙ sym (named-shown path other making (image (medium_file other)) now apart)
  ];
  carried = λ other p body are is. elim (same_or_other path other) [
    | inl same ↦ kept.carried p body (subst (λ o. slot_at (image (medium_file o)) p ≡ Some (holds body)) same is)
    | inr apart ↦ carried other p body are (ap (λ f. slot_at f p) (sym (others other are apart)) ∙ is)
  ];
  whole = λ other p blob are is. elim (same_or_other path other) [
    | inl same ↦ kept.whole p blob (subst (λ o. IsSetAt (image (medium_file o)) p blob) same is)
    | inr apart ↦ keeps.whole other p blob are (subst (λ f. IsSetAt f p blob) (others other are apart) is)
  ];
}

-- ---- a record begins or ends to name a medium

same-others : (files : Files) (path : List ℕ) → SameOthers files path files
same-others files path other are apart = refl

-- it may name one that isn't there
pub media-named : (w : World) (files : Files) (path : List ℕ) → AreBytes path → KeepsMedia w None files → medium_at w.media path ≡ None → KeepsMedia w (Some path) files
media-named w files path bytes media absent =
    let file : Option (List ℕ) = files (medium_file path) in
    let begun : is_begun (sealed file) ≡ true = unshown-begun path None file (sym (media.read path bytes) ∙ absent) in
    media-at w w None (Some path) files files path (inl refl) (inr refl) media (same-others files path) (absent ∙ sym (begun-shown path file begun)) (λ other apart. refl)
    (λ other p body are is. media.carried other p body are is) (are-kept w None files path media bytes)

-- and need no longer name one that has a sealed blob, or whose file is gone
pub media-unnamed : (w : World) (files : Files) (path : List ℕ) → AreBytes path → KeepsMedia w (Some path) files → (files (medium_file path) ≡ None) ⊎ (is_begun (sealed (files (medium_file path))) ≡ false) → KeepsMedia w None files
media-unnamed w files path bytes media is =
    let file : Option (List ℕ) = files (medium_file path) in
    let same : shown_medium (Some path) path file ≡ read_medium file = elim is [
      | inl gone ↦ begun-shown path file (nothing-begun file gone) ∙ sym (nothing-read file gone)
      | inr some ↦ shown-sealed (Some path) path file some
    ] in
    media-at w w (Some path) None files files path (inr refl) (inl refl) media (same-others files path) (media.read path bytes ∙ same) (λ other apart. refl)
    (λ other p body are is. media.carried other p body are is) (are-kept w (Some path) files path media bytes)
