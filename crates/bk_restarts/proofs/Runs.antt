-- Runs and their closings: what is known of them where they are cut.
use Rattle.std.proofs.Common.{◌≡◌, ◌≤◌, ℕ, zero, suc, ◌+◌, List, [], ◌∷◌, ◌++◌, drop, length, map, take, refl, ap, ◌∙◌, arith}
use Rattle.std.proofs.lemmas.List.{take_all}
use Rattle.std.specs.List.{AllByRecursion}
use Rattle.bk_hosted.specs.Fronts.{AreFronts, SameRows, TellsLast, settling}
use Rattle.bk_hosted.specs.Hosted.{Hosted, Hosts}
use Rattle.bk_items.specs.declared.item.ScriptEntry.{ScriptEntry}
use Rattle.bk_lemmas.specs.Lists.{all_joined}
use Rattle.bk_machine.specs.Acts.{Act, done_all}
use Rattle.bk_machine.specs.Closing.{closed_by}
use Rattle.bk_machine.specs.Crash.{CutsRun, Leaves, cut_between, next_acts}
use Rattle.bk_machine.specs.Machine.{May, behind}
use Rattle.bk_machine.specs.Outcome.{Outcome}
use Rattle.bk_machine.specs.Run.{IsRun, behind_all}
use Rattle.bk_machine.specs.Same.{SameMedia}
use Rattle.bk_machine.specs.Sound.{IsSound}
use Rattle.bk_machine.specs.World.{World}
use Rattle.bk_restarts.proofs.Cuts.{CutAt, OpenAmong, OpensAt, cut-at, cut-opens}
use Rattle.bk_restarts.specs.Cuts.{cut_in}

-- ---- acts

abbrev pub TellLast : Outcome → Type 0
TellLast outcome = AllByRecursion TellsLast outcome.acts

pub run-last : ((w : World) (s : ScriptEntry) (now : ℕ) (outcome : Outcome) → May w s now outcome → TellLast outcome) → (w : World) (statements : List ScriptEntry) (moments : List ℕ) (outcomes : List Outcome)
    → IsRun w statements moments outcomes → AllByRecursion TellLast outcomes
run-last tells w [] [] [] run = tt
run-last tells w [] [] (o ∷ outcomes) run = absurd run
run-last tells w [] (now ∷ moments) outcomes run = absurd run
run-last tells w (s ∷ statements) [] outcomes run = absurd run
run-last tells w (s ∷ statements) (now ∷ moments) [] run = absurd run
run-last tells w (s ∷ statements) (now ∷ moments) (o ∷ outcomes) run = (tells w s now o run.0, run-last tells (behind w o) statements moments outcomes run.1)

pub closing-last : (outcomes : List Outcome) (acts : List Act) → AllByRecursion TellLast outcomes → AllByRecursion TellsLast acts → AllByRecursion TellLast (outcomes ++ closed_by acts ∷ [])
closing-last outcomes acts run closing = all_joined TellLast outcomes (closed_by acts ∷ []) run (closing, tt)

next-last : (outcomes : List Outcome) → AllByRecursion TellLast outcomes → (n : ℕ) → AllByRecursion TellsLast (next_acts (drop n outcomes))
next-last [] last zero = tt
next-last [] last (suc n) = tt
next-last (o ∷ outcomes) last zero = last.0
next-last (o ∷ outcomes) last (suc n) = next-last outcomes last.1 n

-- ---- where it is cut

-- What is known of a run, or of its closing: between any two acts its world is sound, and what is open there was open before the statement or is of it. A crash may leave fronts of what it hosts, settled.
pub record IsCuttable (old : World) (outcomes : List Outcome) : Type 0 where
  pub sound : (n k : ℕ) → IsSound (cut_between old outcomes n k)
  pub opens : (n k : ℕ) → AllByRecursion (OpenAmong (behind_all old (take n outcomes))) (cut_between old outcomes n k).databases
  pub last : AllByRecursion TellLast outcomes
  pub fronts : (least : ℕ) (before cut whole : World) (hosted fronts : List Hosted) (counter : ℕ) → CutsRun old outcomes least before cut whole → Hosts cut hosted → AreFronts before hosted fronts
      → cut.counter ≤ counter → counter ≤ cut.counter + 1024 → (left : World) × Leaves old outcomes least left × (left.counter ≡ counter) × Hosts left (map settling fronts) × SameMedia cut left × SameRows cut left
  pub sound_left : (least : ℕ) (left : World) → Leaves old outcomes least left → IsSound left

module _ (old : World) (outcomes : List Outcome) (run : IsCuttable old outcomes) (least n : ℕ) (enough : least ≤ n) (within : n ≤ length outcomes) (k records : ℕ) where
  abbrev before : World
  before = behind_all old (take n outcomes)

  abbrev acts : List Act
  acts = next_acts (drop n outcomes)

  abbrev cut : World
  cut = cut_in before acts k records

  -- among records that tell no entry
  pub cuts-there : CutsRun old outcomes least before cut (done_all before acts)
  cuts-there =
      let at : CutAt before acts cut = cut-at before acts (next-last outcomes run.last n) k records in
      record { done = n; enough = enough; within = within; acts = at.done; records = at.records; quiet = at.quiet; is_before = refl; is_cut = at.is; is_whole = refl }

  pub opens-there : AllByRecursion (OpensAt before) cut.databases
  opens-there = cut-opens before before acts (λ j. (run.sound n j, run.opens n j)) k records

-- ---- where it has ended

behind-joined : (w : World) (a b : List Outcome) → behind_all w (a ++ b) ≡ behind_all (behind_all w a) b
behind-joined w [] b = refl
behind-joined w (o ∷ a) b = behind-joined (behind w o) a b

-- behind all of its acts
pub ended-there : (old : World) (outcomes : List Outcome) (acts : List Act)
    → cut_between old (outcomes ++ closed_by acts ∷ []) (length (outcomes ++ closed_by acts ∷ [])) 0 ≡ done_all (behind_all old outcomes) acts
ended-there old outcomes acts =
    let all : List Outcome = outcomes ++ closed_by acts ∷ [] in
    ap (behind_all old) (take_all (length all) all (omega arith)) ∙ behind-joined old outcomes (closed_by acts ∷ [])
