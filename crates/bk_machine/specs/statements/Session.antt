-- The console's line `:session n`, until which session 1 is the current one. That sessions interleave as a script says is this project's own.
use Rattle.std.specs.Prelude.{◌≡◌, ℕ, Bool, not, ◌&&◌, nat_le, nat_lt, Ok}
use Rattle.bk_world.specs.declared.reply.Reply.TheVariants.{Nothing}
use Rattle.bk_world.specs.declared.rule.Rule.TheVariants.{NotBuilt}
use Rattle.bk_machine.specs.Acts.{seated}
use Rattle.bk_machine.specs.Checks.{Checked, ◌>>=◌, refuse_if}
use Rattle.bk_machine.specs.Outcome.{Outcome, in_one}
use Rattle.bk_machine.specs.World.{most_sessions}

-- sessions are numbered from 1 (a script has no others)
abbrev pub is_session : ℕ → Bool
is_session n = nat_lt 0 n && nat_le n most_sessions

unfoldable pub check_session : ℕ → ℕ → Checked ℕ
check_session line n = do
  _ ← refuse_if (not (is_session n)) (NotBuilt line)
  Ok n

abbrev pub DoesSession : ℕ → Outcome → Type 0
DoesSession n outcome = outcome ≡ in_one (seated n) Nothing
