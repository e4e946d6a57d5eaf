-- The medium that is being made is cleared: its file is removed where no blob of it is sealed.
use Rattle.std.proofs.Common.{◌≡◌, ◌⊎◌, inl, inr, ℕ, true, List, Option, None, Some, refl, sym, ◌∙◌, ap, subst}
use Rattle.bk_bytes.specs.Field.{AreBytes}
use Rattle.bk_device.specs.Disk.{Files}
use Rattle.bk_gate.specs.Blobs.{sealed}
use Rattle.bk_machine.specs.World.{World}
use Rattle.bk_volume.specs.Names.{medium_file}
use Rattle.bk_archive.specs.Calls.{IsCleared}
use Rattle.bk_archive.specs.Media.{KeepsMedia, is_begun, shown_medium}
use Rattle.bk_archive.specs.MediumLaws.{AreKept, SameOthers, are-kept, begun-shown, media-at, media-unnamed, nothing-begun, nothing-kept}

-- the file is as it was, or it is gone and no blob of it was sealed
abbrev pub IsClearing : Option (List ℕ) → Option (List ℕ) → Type 0
IsClearing before after = (after ≡ before) ⊎ ((is_begun (sealed before) ≡ true) × (after ≡ None))

pub cleared-clearing : (before after : Option (List ℕ)) → IsCleared before after → IsClearing before after
cleared-clearing before after (inl gone) = inr gone
cleared-clearing before after (inr kept) = inl kept.1

-- while a record names it, the medium is shown as before
pub media-clearing : (w : World) (path : List ℕ) (files image : Files) → AreBytes path → IsClearing (files (medium_file path)) (image (medium_file path)) → SameOthers files path image → KeepsMedia w (Some path) files → KeepsMedia w (Some path) image
media-clearing w path files image bytes clearing others media =
    let was : Option (List ℕ) = files (medium_file path) in
    let now : Option (List ℕ) = image (medium_file path) in
    let same : shown_medium (Some path) path was ≡ shown_medium (Some path) path now = elim clearing [
      | inl kept ↦ ap (shown_medium (Some path) path) (sym kept)
      | inr gone ↦ begun-shown path was gone.0 ∙ sym (begun-shown path now (nothing-begun now gone.1))
    ] in
    let sets : AreKept w.history now = elim clearing [
      | inl kept ↦ subst (AreKept w.history) (sym kept) (are-kept w (Some path) files path media bytes)
      | inr gone ↦ nothing-kept w.history now gone.1
    ] in
    media-at w w (Some path) (Some path) files image path (inr refl) (inr refl) media others (media.read path bytes ∙ same) (λ other apart. refl) (λ other p body are is. media.carried other p body are is) sets

-- and once it is cleared, no record need name it
pub media-cleared : (w : World) (path : List ℕ) (files image : Files) → AreBytes path → IsCleared (files (medium_file path)) (image (medium_file path)) → SameOthers files path image → KeepsMedia w (Some path) files → KeepsMedia w None image
media-cleared w path files image bytes cleared others media =
    media-unnamed w image path bytes (media-clearing w path files image bytes (cleared-clearing (files (medium_file path)) (image (medium_file path)) cleared) others media)
    (elim cleared [ inl gone ↦ inl gone.1 | inr kept ↦ inr (ap (λ f. is_begun (sealed f)) kept.1 ∙ kept.0) ])
