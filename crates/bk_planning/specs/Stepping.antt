-- The plan of `:step`.
use Rattle.std.specs.Prelude.{◌≡◌, ℕ, List, [], ◌∷◌}
use Rattle.bk_plans.specs.declared.parts.Part.TheVariants.{JobStepped}
use Rattle.bk_plans.specs.declared.parts.Plan.{Plan}
use Rattle.bk_plans.specs.declared.parts.Plan.TheVariants.{Parts}
use Rattle.bk_world.specs.declared.reply.Reply.TheVariants.{Done}

-- a plan copies so many extents more of the backup of the database of a name
abbrev pub IsStep : List ℕ → ℕ → Plan → Type 0
IsStep name count (Parts parts answer) = (parts.items ≡ JobStepped name count ∷ []) × (answer ≡ Done)
IsStep name count _ = ⊥
