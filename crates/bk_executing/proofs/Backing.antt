-- What is known of a backup once it is told of its medium.
use Rattle.std.proofs.Common.{◌≡◌, ℕ, List, Option, subst}
use Rattle.std.specs.Prelude.{Result}
use Rattle.bk_device.specs.Calls.{ChangesNothing}
use Rattle.bk_device.specs.Disk.{Disk, IsLawful}
use Rattle.bk_engine.specs.Stands.{Kept, StandsFor}
use Rattle.bk_items.specs.declared.item.ScriptItem.TheVariants as script
use Rattle.bk_items.specs.declared.item.UnitName.{UnitName}
use Rattle.bk_items.specs.declared.options.BackupOptions.{BackupOptions}
use Rattle.bk_machine.specs.Outcome.{Outcome}
use Rattle.bk_machine.specs.World.{World}
use Rattle.bk_machine.specs.statements.Backup.{ShowsRoom}
use Rattle.bk_plans.specs.declared.parts.Plan.{Plan}
use Rattle.bk_world.specs.Medium.{medium_at}
use Rattle.bk_world.specs.declared.rule.Rule.{Rule}
use Rattle.bk_executing.proofs.BackedUp.{Laws, plan-sets}
use Rattle.bk_executing.proofs.Other.{DoWhatTheyMay}
use Rattle.bk_executing.proofs.Planned.{Knows}

pub knows-backup : {tells : Type 0} (e : Kept) (a b : Disk) (line : ℕ) (name : List ℕ) (units : List UnitName) (disk : List ℕ) (options : BackupOptions) (now : ℕ) (room : Result (Option ℕ) Rule) (plan : Plan) (outcome : Outcome) → (tells → IsLawful a) → (tells → ChangesNothing a b)
    → Laws → DoWhatTheyMay → (tells → (w : World) → StandsFor a e w → ShowsRoom (medium_at w.media disk) room)
    → Knows tells e a b (λ w. ShowsRoom (medium_at w.media disk) room) plan (record { item = script.BackupDatabase name units disk options; line = line }) now outcome
knows-backup e a b line name units disk options now room plan outcome lawful call laws does known = record {
  lawful = lawful;
  call = call;
  known = known;
  may = λ w sound may. does w (record { item = script.BackupDatabase name units disk options; line = line }) now outcome sound may;
  sets = λ w sound may acts. plan-sets laws w line name units disk options now outcome plan sound may (does w (record { item = script.BackupDatabase name units disk options; line = line }) now outcome sound may) acts;
}

-- it has this room, by the path that was asked for
pub room-there : (w : World) (path other : List ℕ) (room : Result (Option ℕ) Rule) → other ≡ path → ShowsRoom (medium_at w.media other) room → ShowsRoom (medium_at w.media path) room
room-there w path other room same is = subst (λ (p : List ℕ). ShowsRoom (medium_at w.media p) room) same is
