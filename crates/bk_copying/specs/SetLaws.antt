-- The set's file is none of a database's, so that what is done to the one leaves the other.
use Rattle.std.proofs.Common.{◌≡◌, ℕ, List, length, refl, ap, ◌∙◌, inl, inr, arith}
use Rattle.bk_body.specs.Body.{Extent}
use Rattle.bk_device.specs.Calls.{contents}
use Rattle.bk_device.specs.Compose.{keeps_by_effect}
use Rattle.bk_device.specs.Disk.{Disk, Files}
use Rattle.bk_device.specs.Effects.{Effect, IsName, KeepsFiles}
use Rattle.bk_facts.specs.declared.facts.DataFile.{DataFile}
use Rattle.bk_ids.specs.declared.guid.Guid.{Guid}
use Rattle.bk_paged.specs.Laws.{letter, log_letter, own_letter}
use Rattle.bk_paged.specs.Names.{IsOwn}
use Rattle.bk_volume.specs.Laws.{staging_letter}
use Rattle.bk_volume.specs.Names.{staging_file}
use Rattle.bk_volume.specs.Staging.{HoldsParts, IsStaged, Staging, staged}
use Rattle.bk_copying.specs.Copying.{IsNamed, IsOfBoth}

-- a set that was begun is named so
pub begun-named : (set : Staging) (id : Guid) → set.name ≡ staging_file id → IsNamed set
begun-named set id is = ap letter is ∙ staging_letter id

-- no file of a database is the set's
pub own-apart : (db : ℕ) (files : List DataFile) (set : Staging) → IsNamed set → (name : List ℕ) → IsOwn db files name → IsName set.name name → ⊥
own-apart db files set named name own is =
    let here : letter name ≡ 116 = ap letter is ∙ named in
    elim own [
      | inl log ↦ elim (log_letter db name log) [ inl c ↦ absurd (omega (arith, here, c)) | inr g ↦ absurd (omega (arith, here, g)) ]
      | inr side ↦ elim (own_letter db files name side) [ inl b ↦ absurd (omega (arith, here, b)) | inr p ↦ absurd (omega (arith, here, p)) ]
    ]

-- what is done to the set leaves the files of each database
pub own-keeps : {P : Files → Type 0} {a b : Disk} (db : ℕ) (files : List DataFile) (set : Staging) → IsNamed set → Effect (IsName set.name) P a b → KeepsFiles (IsOwn db files) a b
own-keeps db files set named effect = keeps_by_effect (λ name own is. own-apart db files set named name own is) effect

-- nor is any file of another database than the one that is copied
pub both-apart : (db : ℕ) (files : List DataFile) (other : ℕ) (others : List DataFile) (set : Staging) → IsNamed set → ((name : List ℕ) → IsOwn db files name → IsOwn other others name → ⊥) → (name : List ℕ) → IsOwn other others name → IsOfBoth db files set name → ⊥
both-apart db files other others set named apart name its both = elim both [
  | inl own ↦ apart name own its
  | inr is ↦ own-apart other others set named name its is
]

-- what is done to a database leaves the set's file
pub set-same : {P : Files → Type 0} {a b : Disk} (db : ℕ) (files : List DataFile) (set : Staging) → IsNamed set → Effect (IsOwn db files) P a b → staged b set ≡ staged a set
set-same db files set named effect = ap contents (effect.others set.name (λ own. own-apart db files set named set.name own refl))

-- and so does what is done to any other files
pub set-kept : {a b : Disk} (set : Staging) → KeepsFiles (IsName set.name) a b → staged b set ≡ staged a set
set-kept set keeps = ap contents (keeps.same set.name refl)

-- and so its length, and what it holds

pub length-same : (a b : Disk) (set : Staging) → staged b set ≡ staged a set → IsStaged a set → IsStaged b set
length-same a b set same is = ap (λ (bs : List ℕ). length bs) same ∙ is

pub parts-same : {a b : Disk} (set : Staging) (extents : List Extent) (log : List ℕ) → staged b set ≡ staged a set → HoldsParts a set extents log → HoldsParts b set extents log
parts-same set extents log same parts = record { count = parts.count; size = parts.size; bytes = same ∙ parts.bytes }
