-- Runs of statements keep a world sound, behind each of their outcomes.
use Rattle.std.proofs.Common.{ℕ, zero, suc, List, [], ◌∷◌, ◌++◌, take, drop}
use Rattle.bk_items.specs.declared.item.ScriptEntry.{ScriptEntry}
use Rattle.bk_machine.specs.Acts.{Act, done, done_all}
use Rattle.bk_machine.specs.Crash.{next_acts}
use Rattle.bk_machine.specs.Machine.{May, behind}
use Rattle.bk_machine.specs.MayDo.{MayDoAll}
use Rattle.bk_machine.specs.Outcome.{Outcome}
use Rattle.bk_machine.specs.Run.{IsRun, behind_all}
use Rattle.bk_machine.specs.Sound.{IsSound}
use Rattle.bk_machine.specs.World.{World}
use Rattle.bk_machine.proofs.Acting.{acts-sound}
use Rattle.bk_machine.proofs.Cutting.{HaveNumbers}
use Rattle.bk_machine.proofs.statements.Each.{statement-does, statement-goes}
use Rattle.bk_machine.proofs.statements.Facts.{GoWell}
use Rattle.std.proofs.Common.{inl}

-- ---- several acts

pub may-front : (w : World) (acts : List Act) (n : ℕ) → MayDoAll w acts → MayDoAll w (take n acts)
may-front w acts zero may = tt
may-front w [] (suc n) may = tt
may-front w (act ∷ acts) (suc n) may = (may.0, may-front (done w act) acts n may.1)

pub may-rest : (w : World) (acts : List Act) (n : ℕ) → MayDoAll w acts → MayDoAll (done_all w (take n acts)) (drop n acts)
may-rest w acts zero may = may
may-rest w [] (suc n) may = tt
may-rest w (act ∷ acts) (suc n) may = may-rest (done w act) acts n may.1

pub numbers-rest : (w : World) (acts : List Act) (n : ℕ) → HaveNumbers w acts → HaveNumbers (done_all w (take n acts)) (drop n acts)
numbers-rest w acts zero left = left
numbers-rest w [] (suc n) left = tt
numbers-rest w (act ∷ acts) (suc n) left = numbers-rest (done w act) acts n left.1

-- ---- runs

-- outcomes whose acts go well, one after another
abbrev pub RunsWell : World → List Outcome → Type 0
RunsWell w [] = Unit {0}
RunsWell w (outcome ∷ outcomes) = (IsSound w → GoWell w outcome.acts) × RunsWell (behind w outcome) outcomes

pub runs-well : (w : World) (statements : List ScriptEntry) (moments : List ℕ) (outcomes : List Outcome) → IsRun w statements moments outcomes → RunsWell w outcomes
runs-well w [] [] [] run = tt
runs-well w [] [] (o ∷ os) run = absurd run
runs-well w [] (m ∷ ms) os run = absurd run
runs-well w (s ∷ ss) [] os run = absurd run
runs-well w (s ∷ ss) (m ∷ ms) [] run = absurd run
runs-well w (s ∷ ss) (m ∷ ms) (o ∷ os) run = (λ sound. statement-goes w sound s m o run.0, runs-well (behind w o) ss ms os run.1)

-- and one more
pub well-one_more : (w : World) (outcomes : List Outcome) (o : Outcome) → RunsWell w outcomes → (IsSound (behind_all w outcomes) → GoWell (behind_all w outcomes) o.acts) → RunsWell w (outcomes ++ o ∷ [])
well-one_more w [] o well goes = (goes, tt)
well-one_more w (first ∷ outcomes) o well goes = (well.0, well-one_more (behind w first) outcomes o well.1 goes)

pub sound-behind : (w : World) (s : ScriptEntry) (now : ℕ) (outcome : Outcome) → IsSound w → May w s now outcome → IsSound (behind w outcome)
sound-behind w s now outcome sound may = acts-sound w outcome.acts sound (statement-does w sound s now outcome may)

pub sound-well : (w : World) (outcomes : List Outcome) → IsSound w → RunsWell w outcomes → IsSound (behind_all w outcomes)
sound-well w [] sound well = sound
sound-well w (o ∷ os) sound well = sound-well (behind w o) os (acts-sound w o.acts sound (well.0 sound).may) well.1

pub sound-run : (w : World) (statements : List ScriptEntry) (moments : List ℕ) (outcomes : List Outcome) → IsSound w → IsRun w statements moments outcomes → IsSound (behind_all w outcomes)
sound-run w statements moments outcomes sound run = sound-well w outcomes sound (runs-well w statements moments outcomes run)

-- within a run: the world behind some of its outcomes, and what the next one does
pub record Within (w : World) (outcomes : List Outcome) (n : ℕ) : Type 0 where
  pub sound : IsSound (behind_all w (take n outcomes))
  pub well : GoWell (behind_all w (take n outcomes)) (next_acts (drop n outcomes))

-- behind the last one nothing is done
nothing-well : (w : World) → GoWell w []
nothing-well w = record { may = tt; opens = tt; own = tt; numbers = tt; ends = inl tt; plain = λ built. tt }

pub within-well : (w : World) (outcomes : List Outcome) (n : ℕ) → IsSound w → RunsWell w outcomes → Within w outcomes n
within-well w [] zero sound well = record { sound = sound; well = nothing-well w }
within-well w [] (suc n) sound well = record { sound = sound; well = nothing-well w }
within-well w (o ∷ os) zero sound well = record { sound = sound; well = well.0 sound }
within-well w (o ∷ os) (suc n) sound well =
    let later : Within (behind w o) os n = within-well (behind w o) os n (acts-sound w o.acts sound (well.0 sound).may) well.1 in
    record { sound = later.sound; well = later.well }

pub within-run : (w : World) (statements : List ScriptEntry) (moments : List ℕ) (outcomes : List Outcome) (n : ℕ) → IsSound w → IsRun w statements moments outcomes → Within w outcomes n
within-run w statements moments outcomes n sound run = within-well w outcomes n sound (runs-well w statements moments outcomes run)
