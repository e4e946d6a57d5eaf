-- What a recovery says.
use Rattle.std.proofs.Common.{◌≡◌, ℕ, ◌+◌, true, false, List, [], ◌++◌, map, length, sym, ◌∙◌, ap, arith}
use Rattle.std.specs.Prelude.{nat_le}
use Rattle.std.proofs.lemmas.Bool.{le-leb}
use Rattle.std.proofs.lemmas.List.{length-map}
use Rattle.bk_ids.specs.declared.guid.Guid.{Guid}
use Rattle.bk_machine.specs.Acts.{Recovery}
use Rattle.bk_machine.specs.Checks.{last_number}
use Rattle.bk_shown.specs.Ends.{HoldsPending}
use Rattle.bk_shown.specs.Shown.{ArePlaced, pending_of}
use Rattle.bk_shown.specs.declared.shown.Written.{Written}
use Rattle.bk_world.specs.Pending.{Pending, pending}
use Rattle.bk_world.specs.Records.{Counts, Logged, recovered}
use Rattle.bk_world.specs.Says.{alone, settle_said}
use Rattle.bk_world.specs.SoundLogs.{IsSound}
use Rattle.bk_world.specs.declared.database.FileSpec.{FileSpec}
use Rattle.bk_media_plans.specs.Restoring.{ArePending, LeavesRecovery}

-- the recovery at a number that undoes some writes, the last one first, and names its branch
abbrev pub recovery_of : ℕ → Guid → List Pending → Recovery
recovery_of at branch ws = record { at = at; branch = branch; said = settle_said ws ++ alone (recovered branch) }

-- Where numbers are left for it, it isn't refused.

pub pending-told : (held : List ℕ) (at : ℕ) → LeavesRecovery held at
    → ((files : List FileSpec) (rs : List Logged) (first «end» : ℕ) → Counts 1 rs «end» → IsSound rs → ArePlaced files [] rs → HoldsPending rs first held → ⊥) → ⊥
pending-told held at of none = none of.files of.log of.first at of.counts of.sound of.placed of.holds

pub numbers-there : (held : List ℕ) (at : ℕ) (ws : List Written) → LeavesRecovery held at → ArePending held (map pending_of ws) → nat_le (at + (length ws + 1)) last_number ≡ false → ⊥
numbers-there held at ws of are few =
    let same : length ws ≡ length (pending of.log) = sym (length-map ws pending_of) ∙ ap length (are of.files of.log of.first at of.counts of.sound of.placed of.holds) in
    let fits : nat_le (at + (length ws + 1)) last_number ≡ true = le-leb (at + (length ws + 1)) last_number (omega (arith, same, of.numbers)) in
    let wrong : true ≡ false = sym fits ∙ few in
    cc
