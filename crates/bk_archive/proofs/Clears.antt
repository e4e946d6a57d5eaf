-- The medium that was being made is finished.
use Rattle.std.proofs.Common.{inl, inr, ℕ, List}
use Rattle.bk_bytes.specs.Field.{AreBytes}
use Rattle.bk_device.specs.Compose.{effect_widen}
use Rattle.bk_device.specs.Disk.{Disk}
use Rattle.bk_device.specs.Effects.{Effect, IsName}
use Rattle.bk_volume.specs.Names.{medium_file}
use Rattle.bk_archive.specs.Calls.{HasFinished, IsCleared, LeavesCleared, LeavesFinishing}
use Rattle.bk_archive.specs.ClearLaws.{IsClearing, cleared-clearing, media-cleared, media-clearing}
use Rattle.bk_archive.specs.DiskLaws.{others-after, others-left}
use Rattle.bk_archive.specs.Media.{IfDurable, IsMediumFile}
use Rattle.bk_archive.specs.MediumLaws.{SameOthers}

-- its file is removed where no blob of it was sealed, or not yet
abbrev pub Clears : List ℕ → Disk → Disk → Type 0
Clears path a b = Effect (IsName (medium_file path)) (λ image. LeavesCleared (a.may (medium_file path)) (a.files (medium_file path)) (image (medium_file path))) a b

-- a crash leaves the media as they were
pub finish-crash : (a b : Disk) (path : List ℕ) → AreBytes path → Clears path a b → Effect IsMediumFile (IfDurable a (LeavesFinishing path a.files)) a b
finish-crash a b path bytes effect =
    effect_widen (λ name is. (path, bytes, is))
    (λ image here rest durable w media.
    let clearing : IsClearing (a.files (medium_file path)) (image (medium_file path)) = elim here [ inl may ↦ inl (durable path bytes (image (medium_file path)) may) | inr gone ↦ inr gone ] in
    media-clearing w path a.files image bytes clearing (others-left a image path bytes durable rest) media) effect

-- and so they are afterwards
pub finish-has : (a b : Disk) (path : List ℕ) → AreBytes path → Clears path a b → IsCleared (a.files (medium_file path)) (b.files (medium_file path)) → HasFinished path a.files b.files
finish-has a b path bytes effect cleared w media =
    let others : SameOthers a.files path b.files = others-after a b path bytes effect in
    (media-clearing w path a.files b.files bytes (cleared-clearing (a.files (medium_file path)) (b.files (medium_file path)) cleared) others media, media-cleared w path a.files b.files bytes cleared others media)
