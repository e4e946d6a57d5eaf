-- What an engine does with statements.
use Rattle.std.specs.Prelude.{◌≡◌, ◌⊎◌, ℕ}
use Rattle.bk_device.specs.Calls.{ChangesNothing}
use Rattle.bk_device.specs.Disk.{Disk}
use Rattle.bk_device.specs.Effects.{Effect}
use Rattle.bk_engine.specs.Stands.{IsOurs, Kept, StandsFor, own_in}
use Rattle.bk_engine.specs.Touched.{TouchesOnly}
use Rattle.bk_items.specs.declared.item.ScriptEntry.{ScriptEntry}
use Rattle.bk_machine.specs.Acts.{done_all}
use Rattle.bk_machine.specs.Machine.{May}
use Rattle.bk_machine.specs.Outcome.{Outcome}
use Rattle.bk_machine.specs.World.{World}
use Rattle.bk_machine.specs.Writes.{ActsWrite, IsStill}
use Rattle.bk_restarts.specs.Crashes.{CutIn}
use Rattle.bk_world.specs.declared.reply.Reply.{Reply}

-- The device was left as it was, and no GUID was reserved or drawn.
pub record Rests (old : Kept) (before : Disk) (new : Kept) (after : Disk) : Type 0 where
  pub device : ChangesNothing before after
  pub own : own_in new ≡ own_in old
  pub drawn : new.drawn ≡ old.drawn

-- A statement was executed: it has one outcome, for its reply, for the world to which it leads, and for what each crash meanwhile leaves.
pub record Executed (tells : Type 0) (old : Kept) (before : Disk) (s : ScriptEntry) (now : ℕ) (reply : Reply) (new : Kept) (after : Disk) : Type 0 where
  pub outcome : Outcome
  pub replies : outcome.reply ≡ reply
  pub may : tells → (w : World) → StandsFor before old w → May w s now outcome
  pub does : tells → (w : World) → StandsFor before old w → StandsFor after new (done_all w outcome.acts)
  pub crash : tells → (w : World) → StandsFor before old w → Effect IsOurs (CutIn w outcome.acts) before after
  -- where it stood for a world: an outcome that stores nothing left the device as it was
  pub still : tells → (w : World) → StandsFor before old w → IsStill outcome → Rests old before new after
  -- and no medium was touched but those to which its acts write
  pub spares : tells → (w : World) → StandsFor before old w → TouchesOnly (ActsWrite outcome.acts) before after

-- It was cut off in what it comes to.
pub record CutOff (tells : Type 0) (old : Kept) (before : Disk) (s : ScriptEntry) (now : ℕ) (after : Disk) : Type 0 where
  pub outcome : Outcome
  pub may : tells → (w : World) → StandsFor before old w → May w s now outcome
  pub crash : tells → (w : World) → StandsFor before old w → Effect IsOurs (CutIn w outcome.acts) before after
  pub spares : tells → (w : World) → StandsFor before old w → TouchesOnly (ActsWrite outcome.acts) before after

-- It failed: nothing was done yet, or it was cut off.
abbrev pub Failed : Type 0 → Kept → Disk → ScriptEntry → ℕ → Disk → Type 0
Failed tells old before s now after = (tells → ChangesNothing before after) ⊎ CutOff tells old before s now after
