-- A medium is made, while the record names it.
use Rattle.std.proofs.Common.{◌≡◌, inl, inr, ℕ, List, [], None, Some, refl, sym, subst}
use Rattle.bk_bytes.specs.Field.{AreBytes}
use Rattle.bk_device.specs.Compose.{effect_widen}
use Rattle.bk_device.specs.Disk.{Files, Disk}
use Rattle.bk_device.specs.Effects.{Effect, IsName}
use Rattle.bk_device.specs.Names.{same_or_other}
use Rattle.bk_volume.specs.Media.{HasSets, LeavesMade}
use Rattle.bk_volume.specs.Names.{medium_file}
use Rattle.bk_archive.specs.ActLaws.{begun-media, made-media}
use Rattle.bk_archive.specs.Calls.{HasMade, LeavesMaking}
use Rattle.bk_archive.specs.DiskLaws.{others-after, others-left}
use Rattle.bk_archive.specs.Media.{IfDurable, IsMediumFile}
use Rattle.bk_archive.specs.MediaLaws.{SameFiles, media-in}
use Rattle.bk_archive.specs.MediumLaws.{SameOthers}

-- the same file at a path and at the others
all-same : (files image : Files) (path : List ℕ) → image (medium_file path) ≡ files (medium_file path) → SameOthers files path image → SameFiles files image
all-same files image path own others other are = elim (same_or_other path other) [
  | inl same ↦ let Same : List ℕ → Type 0 = λ n. image (medium_file n) ≡ files (medium_file n) in subst Same (sym same) own
  | inr apart ↦ others other are apart
]

-- the file of a medium is made one without sets, or not yet
abbrev pub Makes : List ℕ → Disk → Disk → Type 0
Makes path a b = Effect (IsName (medium_file path)) (λ image. LeavesMade (a.may (medium_file path)) (image (medium_file path))) a b

-- a crash leaves no medium, or one without sets
pub made-crash : (a b : Disk) (path : List ℕ) → AreBytes path → Makes path a b → Effect IsMediumFile (IfDurable a (LeavesMaking path a.files)) a b
made-crash a b path bytes effect =
    effect_widen (λ name is. (path, bytes, is))
    (λ image here rest durable w media absent.
    let others : SameOthers a.files path image = others-left a image path bytes durable rest in
    elim here [
      | inl was ↦ inl (media-in w (Some path) a.files image (all-same a.files image path (durable path bytes (image (medium_file path)) was) others) media)
      | inr next ↦ elim next [
        | inl begun ↦ inl (begun-media w path (Some path) a.files image (inr refl) media absent begun others)
        | inr made ↦ inr (made-media w path (Some path) (Some path) a.files image (inr refl) (inr refl) media made others)
      ]
    ]) effect

-- afterwards it is one without sets
pub made-has : (a b : Disk) (path : List ℕ) → AreBytes path → Makes path a b → HasSets [] (b.files (medium_file path)) → HasMade path a.files b.files
made-has a b path bytes effect has w media absent =
    let others : SameOthers a.files path b.files = others-after a b path bytes effect in
    (made-media w path (Some path) (Some path) a.files b.files (inr refl) (inr refl) media has others, made-media w path (Some path) None a.files b.files (inr refl) (inl refl) media has others)
