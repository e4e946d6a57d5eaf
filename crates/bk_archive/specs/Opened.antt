-- The set at a position of a medium. SQL Server: "RESTORE VERIFYONLY".
use Rattle.std.specs.Prelude.{◌≡◌, ◌⊎◌, ℕ, List, Option, Some, Result, Ok, Err}
use Rattle.bk_body.specs.Body.{Body}
use Rattle.bk_body.specs.Slots.{holds, no_set, ReadsAs}
use Rattle.bk_carried.specs.Carried.{Carries}
use Rattle.bk_device.specs.Calls.{contents}
use Rattle.bk_machine.specs.World.{World}
use Rattle.bk_machine.specs.statements.Restore.{set_at}
use Rattle.bk_volume.specs.Media.{read_medium, slot_at}
use Rattle.bk_volume.specs.Stored.{IsOf, IsSetAt, IsWhole, Stored}
use Rattle.bk_world.specs.Medium.{medium_at}
use Rattle.bk_world.specs.declared.rule.Rule.{Rule}
use Rattle.bk_world.specs.declared.rule.Rule.TheVariants.{NotMedia}
use Rattle.bk_archive.specs.declared.opening.OpenedSet.{OpenedSet}

-- ---- of a file

-- the bytes of the set at a position of a file have their own digest, and where they are a set, this one was opened
pub record OpensAt (position : ℕ) (file : Option (List ℕ)) (set : Stored) : Type 0 where
  pub blob : List ℕ
  pub there : IsSetAt file position blob
  pub whole : IsWhole blob
  pub opens : (body : Body) → ReadsAs blob (holds body) → IsOf (contents file) body set

-- the bytes in the slot at a position of a file are no set
abbrev pub HasNone : ℕ → Option (List ℕ) → Type 0
HasNone position file = (blob : List ℕ) × IsSetAt file position blob × ReadsAs blob no_set

-- what stands at a position of a file is the set that was opened, or is refused by this rule
abbrev pub IsFound : ℕ → Option (List ℕ) → Result Stored Rule → Type 0
IsFound position file (Ok set) = OpensAt position file set
IsFound position file (Err rule) = (set_at position (read_medium file) ≡ Err rule) ⊎ ((rule ≡ NotMedia) × HasNone position file)

-- what is opened of a medium and a set on it
abbrev pub set_of : Result OpenedSet Rule → Result Stored Rule
set_of (Ok opened) = Ok opened.set
set_of (Err rule) = Err rule

-- ---- of a world

-- the set at a position of the medium at a path of a world is this one, which holds what its path shows
pub record IsOpened (w : World) (path : List ℕ) (position : ℕ) (file : Option (List ℕ)) (set : Stored) : Type 0 where
  pub body : Body
  pub is : set_at position (medium_at w.media path) ≡ Ok body.header
  pub there : slot_at file position ≡ Some (holds body)
  pub opened : IsOf (contents file) body set
  pub carries : Carries w.history body

-- what is answered for it is what the machine answers
abbrev pub AnswersSet : World → List ℕ → ℕ → Option (List ℕ) → Result Stored Rule → Type 0
AnswersSet w path position file (Ok set) = IsOpened w path position file set
AnswersSet w path position file (Err rule) = set_at position (medium_at w.media path) ≡ Err rule
