-- What a statement comes to: its acts, one for each of its parts, and its reply.
use Rattle.std.specs.Prelude.{◌≡◌, List, [], ◌∷◌, Ok, Err}
use Rattle.bk_world.specs.declared.reply.Reply.{Reply}
use Rattle.bk_world.specs.declared.reply.Reply.TheVariants.{Refused}
use Rattle.bk_world.specs.declared.rule.Rule.{Rule}
use Rattle.bk_machine.specs.Acts.{Act}
use Rattle.bk_machine.specs.Checks.{Checked}

pub record Outcome : Type 0 where
  pub acts : List Act
  pub reply : Reply

-- a statement that is refused does nothing
abbrev pub refused : Rule → Outcome
refused rule = record { acts = []; reply = Refused rule }

-- a statement that only answers
abbrev pub answered : Reply → Outcome
answered reply = record { acts = []; reply = reply }

-- a statement of one part
abbrev pub in_one : Act → Reply → Outcome
in_one act reply = record { acts = act ∷ []; reply = reply }

-- Checks come to this: the refusal by the first broken rule, or else what may be done with what they found.
abbrev pub ComesTo : {A : Type 0} → Checked A → (A → Outcome → Type 0) → Outcome → Type 0
ComesTo (Err rule) may outcome = outcome ≡ refused rule
ComesTo (Ok found) may outcome = may found outcome
