-- Runs of the machine over a script. What a run comes to fixes its replies, and what each crash of it leaves.
use Rattle.std.specs.Prelude.{ℕ, List, [], ◌∷◌, map}
use Rattle.bk_items.specs.declared.item.ScriptEntry.{ScriptEntry}
use Rattle.bk_world.specs.declared.reply.Reply.{Reply}
use Rattle.bk_machine.specs.Machine.{May, behind}
use Rattle.bk_machine.specs.Outcome.{Outcome}
use Rattle.bk_machine.specs.World.{World}

-- the world behind several outcomes
abbrev pub behind_all : World → List Outcome → World
behind_all w [] = w
behind_all w (outcome ∷ outcomes) = behind_all (behind w outcome) outcomes

-- these statements may come to these outcomes at these moments, one after another
abbrev pub IsRun : World → List ScriptEntry → List ℕ → List Outcome → Type 0
IsRun w [] [] [] = Unit {0}
IsRun w (s ∷ statements) (now ∷ moments) (outcome ∷ outcomes) = May w s now outcome × IsRun (behind w outcome) statements moments outcomes
IsRun w _ _ _ = ⊥

-- the replies of a run
abbrev pub replies_of : List Outcome → List Reply
replies_of outcomes = map (λ (o : Outcome). o.reply) outcomes
