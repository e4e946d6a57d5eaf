-- What is known of a statement that was executed between two moments of rest.
use Rattle.std.proofs.Common.{◌≡◌, ℕ, sym, subst}
use Rattle.bk_device.specs.Disk.{Disk}
use Rattle.bk_device.specs.Effects.{Effect}
use Rattle.bk_executing.specs.EngineStands.{Covers, IsOurs, Kept, StandsFor}
use Rattle.bk_executing.specs.Executing.{Executed, Failed}
use Rattle.bk_items.specs.declared.item.ScriptEntry.{ScriptEntry}
use Rattle.bk_machine.specs.Machine.{behind}
use Rattle.bk_machine.specs.World.{World}
use Rattle.bk_world.specs.declared.reply.Reply.{Reply}
use Rattle.bk_console.specs.Answers.{HoldsNow, IsDone, IsNotDone}

-- between two calls, from a device to one that is the same
abbrev pub Rests : {D : Type 0} → Type 0 → (D → Disk) → Kept → D → D → Type 0
Rests tells disk e x y = tells → (w : World) → StandsFor (disk x) e w → Effect IsOurs (Covers w) (disk x) (disk y)

rest-holds : {D : Type 0} (tells : Type 0) (disk : D → Disk) (e : Kept) (x y : D) → y ≡ x → Rests tells disk e x y → tells → (w : World) → StandsFor (disk x) e w → HoldsNow (disk x) w
rest-holds tells disk e x y same rests t w stands =
    subst (λ d. HoldsNow (disk d) w) same (λ image left. (rests t w stands).now image (λ name ours. left name))

module _ {D : Type 0} (tells : Type 0) (disk : D → Disk) (old : Kept) (s : ScriptEntry) (now : ℕ) (x a b : D) (same : a ≡ x) where
  -- it was
  pub was-done : (new : Kept) (reply : Reply) (y : D) → y ≡ b → Executed tells old (disk a) s now reply new (disk b) → Rests tells disk new b y → IsDone tells old (disk x) s now reply new (disk y)
  was-done new reply y after executed rests =
      subst (λ d. IsDone tells old (disk d) s now reply new (disk y)) same (subst (λ d. IsDone tells old (disk a) s now reply new (disk d)) (sym after) (record {
        executed = executed;
        holds = λ t w stands. rest-holds tells disk new b y after rests t (behind w executed.outcome) (executed.does t w stands);
      }))

  -- it wasn't
  pub was-not_done : Failed tells old (disk a) s now (disk b) → Rests tells disk old x a → IsNotDone tells old (disk x) s now (disk b)
  was-not_done failed rests = record {
    failed = subst (λ d. Failed tells old (disk d) s now (disk b)) same failed;
    held = λ t w stands. rest-holds tells disk old x a same rests t w stands;
  }
