-- What is done to media on a device, and what a crash leaves of them.
use Rattle.std.proofs.Common.{◌≡◌, inl, inr, ℕ, List, refl, sym, ◌∙◌, subst}
use Rattle.bk_bytes.specs.Field.{AreBytes}
use Rattle.bk_device.specs.Calls.{ChangesNothing}
use Rattle.bk_device.specs.Disk.{Files, Disk, IsDurable}
use Rattle.bk_device.specs.Effects.{Effect, IsName, MayLeaveOwn}
use Rattle.bk_device.specs.Laws.{durable_by_nothing}
use Rattle.bk_device.specs.Names.{same_or_other}
use Rattle.bk_volume.specs.Names.{medium_file}
use Rattle.bk_archive.specs.Media.{IsMediumFile, MediaAreDurable}
use Rattle.bk_archive.specs.MediaLaws.{SameFiles}
use Rattle.bk_archive.specs.MediumLaws.{SameOthers, files-apart}

-- what is done under other names leaves media
pub media-after : {own : List ℕ → Type 0} {P : Files → Type 0} (before after : Disk) → ((path : List ℕ) → own (medium_file path) → ⊥) → Effect own P before after → SameFiles before.files after.files
media-after before after apart effect path bytes = effect.others (medium_file path) (apart path)

pub media-durable : {own : List ℕ → Type 0} {P : Files → Type 0} (before after : Disk) → ((path : List ℕ) → own (medium_file path) → ⊥) → Effect own P before after → MediaAreDurable before → MediaAreDurable after
media-durable before after apart effect durable path bytes content may =
    durable path bytes content (effect.others_left (medium_file path) (apart path) content may) ∙ sym (effect.others (medium_file path) (apart path))

-- and so does what is done to nothing
pub calm-nothing : {a b : Disk} → ChangesNothing a b → MediaAreDurable a → MediaAreDurable b
calm-nothing call calm path bytes = durable_by_nothing (medium_file path) call (calm path bytes)

-- what is done to one medium leaves the others
pub others-after : {P : Files → Type 0} (before after : Disk) (path : List ℕ) → AreBytes path → Effect (IsName (medium_file path)) P before after → SameOthers before.files path after.files
others-after before after path bytes effect other are apart = effect.others (medium_file other) (files-apart path other bytes are apart)

-- and nothing more is pending in media
pub one-durable : {P : Files → Type 0} (before after : Disk) (path : List ℕ) → Effect (IsName (medium_file path)) P before after → IsDurable after (medium_file path) → MediaAreDurable before → MediaAreDurable after
one-durable before after path effect mine durable other are = elim (same_or_other (medium_file path) (medium_file other)) [
  | inl same ↦ subst (IsDurable after) (sym same) mine
  | inr apart ↦ λ content may. durable other are content (effect.others_left (medium_file other) apart content may) ∙ sym (effect.others (medium_file other) apart)
]

-- a crash leaves media in which nothing is pending
pub media-left : (disk : Disk) (image : Files) → MediaAreDurable disk → MayLeaveOwn IsMediumFile disk image → SameFiles disk.files image
media-left disk image durable left path bytes = durable path bytes (image (medium_file path)) (left (medium_file path) (path, bytes, refl))

-- and the others, in what is done to one
pub others-left : (disk : Disk) (image : Files) (path : List ℕ) → AreBytes path → MediaAreDurable disk → ((name : List ℕ) → (name ≡ medium_file path → ⊥) → IsMediumFile name → disk.may name (image name)) → SameOthers disk.files path image
others-left disk image path bytes durable left other are apart =
    durable other are (image (medium_file other)) (left (medium_file other) (files-apart path other bytes are apart) (other, are, refl))
