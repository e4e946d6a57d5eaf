-- What is answered where a medium is asked of, and what is known of a statement that only answers.
use Rattle.std.proofs.Common.{◌≡◌, ◌∙◌, ℕ, Bool, true, false, List, Option, Ok, Err, refl, sym, ap, subst}
use Rattle.std.specs.Prelude.{IfOk, Result, not}
use Rattle.bk_device.specs.Calls.{ChangesNothing}
use Rattle.bk_device.specs.Disk.{Disk, IsLawful}
use Rattle.bk_device.specs.declared.trouble.Trouble.{Trouble}
use Rattle.bk_engine.specs.Stands.{Kept, StandsFor}
use Rattle.bk_items.specs.declared.item.MediumQuery.{MediumQuery}
use Rattle.bk_items.specs.declared.item.ScriptEntry.{ScriptEntry}
use Rattle.bk_items.specs.declared.item.ScriptItem.TheVariants as script
use Rattle.bk_machine.specs.Checks.{Checked, ◌>>=◌, is_path, refuse_if}
use Rattle.bk_machine.specs.Machine.{May}
use Rattle.bk_machine.specs.Outcome.{ComesTo, answered}
use Rattle.bk_machine.specs.World.{World}
use Rattle.bk_machine.specs.statements.Query.{DoesQuery, answer_of, check_query}
use Rattle.bk_plans.specs.declared.parts.Plan.TheVariants as plan
use Rattle.bk_world.specs.declared.reply.Reply.{Reply}
use Rattle.bk_world.specs.declared.reply.Reply.TheVariants.{Refused}
use Rattle.bk_world.specs.declared.rule.Rule.TheVariants.{NotBuilt}
use Rattle.bk_world.specs.Medium.{medium_at}
use Rattle.bk_executing.specs.Planned.{IsPlanned}
use Rattle.bk_executing.specs.Querying.{replied}
use Rattle.bk_executing.proofs.Planned.{Knows}

-- ---- the path that is asked for

-- what is replied by whether it is one
abbrev by_path : World → ℕ → MediumQuery → List ℕ → Option ℕ → Bool → Reply
by_path w line query disk file test = replied (refuse_if (not test) (NotBuilt line) >>= (λ (u : Unit {0}). answer_of (medium_at w.media disk) file query))

pub path-refused : (w : World) (line : ℕ) (query : MediumQuery) (disk path : List ℕ) (file : Option ℕ) → path ≡ disk → is_path path ≡ false → Refused (NotBuilt line) ≡ replied (check_query w line query disk file)
unfolding check_query
path-refused w line query disk path file same is = ap (by_path w line query disk file) (sym (subst (λ (p : List ℕ). is_path p ≡ false) same is))

pub path-asked : (w : World) (line : ℕ) (query named : MediumQuery) (disk path : List ℕ) (file : Option ℕ) (result : Result Reply Trouble) → path ≡ disk → query ≡ named → is_path path ≡ true
    → IfOk result (λ answer. answer ≡ replied (answer_of (medium_at w.media path) file named)) → IfOk result (λ answer. answer ≡ replied (check_query w line query disk file))
unfolding check_query
path-asked w line query named disk path file (Ok answer) same meant is says =
    subst (λ (q : MediumQuery). answer ≡ replied (answer_of (medium_at w.media disk) file q)) (sym meant) (subst (λ (p : List ℕ). answer ≡ replied (answer_of (medium_at w.media p) file named)) same says)
    ∙ ap (by_path w line query disk file) (sym (subst (λ (p : List ℕ). is_path p ≡ true) same is))
path-asked w line query named disk path file (Err error) same meant is says = tt

-- ---- the statement

-- a query on a line
abbrev pub asking : ℕ → MediumQuery → List ℕ → Option ℕ → ScriptEntry
asking line query disk file = record { item = script.QueryMedium query disk file; line = line }

-- this is what it comes to in a world
abbrev pub IsAnswer : ℕ → MediumQuery → List ℕ → Option ℕ → Reply → World → Type 0
IsAnswer line query disk file answer w = answer ≡ replied (check_query w line query disk file)

query-may : (w : World) (line : ℕ) (query : MediumQuery) (disk : List ℕ) (file : Option ℕ) (now : ℕ) (answer : Reply) → IsAnswer line query disk file answer w → May w (asking line query disk file) now (answered answer)
unfolding May
query-may w line query disk file now answer is = by (check_query w line query disk file) is
  where
    by : (checked : Checked Reply) → answer ≡ replied checked → ComesTo checked DoesQuery (answered answer)
    by (Ok found) same = ap (λ (r : Reply). answered r) same
    by (Err rule) same = ap (λ (r : Reply). answered r) same

-- it is planned to answer so
pub query-planned : (e : Kept) (line : ℕ) (query : MediumQuery) (disk : List ℕ) (file : Option ℕ) (now : ℕ) (answer : Reply) → IsPlanned e (IsAnswer line query disk file answer) (asking line query disk file) now (plan.Answered answer)
query-planned e line query disk file now answer = record { outcome = answered answer; replies = refl; may = λ w sound has known. query-may w line query disk file now answer known; acts = λ w sound has known. refl }

pub knows-query : {tells : Type 0} (e : Kept) (a b : Disk) (line : ℕ) (query : MediumQuery) (disk : List ℕ) (file : Option ℕ) (now : ℕ) (answer : Reply) → (tells → IsLawful a) → (tells → ChangesNothing a b) → (tells → (w : World) → StandsFor a e w → IsAnswer line query disk file answer w)
    → Knows tells e a b (IsAnswer line query disk file answer) (plan.Answered answer) (asking line query disk file) now (query-planned e line query disk file now answer).outcome
unfolding query-planned
knows-query e a b line query disk file now answer lawful call known = record { lawful = lawful; call = call; known = known; may = λ w sound may. tt; sets = λ w sound may acts. tt }
