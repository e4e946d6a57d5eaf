-- What is proved of what a statement comes to, and of its acts in a sound world.
use Rattle.std.proofs.Common.{◌≡◌, ◌⊎◌, inl, ℕ, zero, suc, Bool, true, false, List, [], ◌∷◌, take, Option, None, Some, refl, sym, ◌∙◌, ap, subst, arith}
use Rattle.std.specs.Prelude.{◌==◌, ◌||◌, Contains, Ok, Err}
use Rattle.std.specs.List.{AllByRecursion}
use Rattle.std.proofs.lemmas.Bool.Decides.{nat_tests}
use Rattle.bk_ids.specs.declared.guid.Guid.{Guid}
use Rattle.bk_ids.specs.declared.record.Place.{Place}
use Rattle.bk_world.specs.Cut.{is_among}
use Rattle.bk_world.specs.Entry.{RowChange}
use Rattle.bk_lemmas.specs.Lists.{all_mapped}
use Rattle.bk_world.specs.Records.{Said, checkpointed, stamped, table_made}
use Rattle.bk_world.specs.Says.{alone, single_said}
use Rattle.bk_world.specs.Telling.{telling}
use Rattle.bk_world.specs.declared.database.Base.{Base}
use Rattle.bk_world.specs.declared.database.TableSpec.{TableSpec}
use Rattle.bk_world.specs.declared.header.Header.{Header}
use Rattle.bk_world.specs.declared.rule.Rule.{Rule}
use Rattle.bk_machine.specs.declared.history_row.HistoryRow.{HistoryRow}
use Rattle.bk_machine.specs.Acts.{Act, Recovery, logged, noted, medium_made, set_sealed, replaced, restored, recovered}
use Rattle.bk_machine.specs.Built.{IsBuilt, SayNoLoad}
use Rattle.bk_machine.specs.Checks.{Checked}
use Rattle.bk_machine.specs.Crash.{begins_in, begins_of}
use Rattle.bk_machine.specs.MayDo.{MayDoAll}
use Rattle.bk_machine.specs.Outcome.{ComesTo, Outcome, answered, refused}
use Rattle.bk_machine.specs.Sound.{IsSound}
use Rattle.bk_world.specs.declared.transaction.Open.{Open}
use Rattle.bk_machine.specs.World.{Database, World, database_named}
use Rattle.bk_world.specs.declared.reply.Reply.{Reply}
use Rattle.bk_world.specs.declared.reply.Reply.TheVariants.{Refused}
use Rattle.bk_machine.proofs.Cutting.{HaveNumbers, IsOwn, OpensOwn, more-own, among-own}
use Rattle.bk_machine.proofs.Ends.{IsSteady}
use Rattle.bk_machine.proofs.Left.{of-contained}

-- ---- where acts are cut

pub all-take : {X : Type 0} (P : X → Type 0) (n : ℕ) (xs : List X) → AllByRecursion P xs → AllByRecursion P (take n xs)
all-take P zero xs all = tt
all-take P (suc n) [] all = tt
all-take P (suc n) (x ∷ xs) all = (all.0, all-take P n xs all.1)

abbrev pub NotLogged : Act → Type 0
NotLogged (logged name said transactions) = ⊥
NotLogged _ = Unit {0}

-- one act that isn't cut
abbrev pub IsOne : List Act → Type 0
IsOne acts = (act : Act) × NotLogged act × (acts ≡ act ∷ [])

abbrev pub IsRestore : List Act → Type 0
IsRestore acts = (name : List ℕ) × (header : Header) × (base : Option Base) × (redo : ℕ) × (r : Recovery) × (row : HistoryRow) × (acts ≡ replaced name header ∷ restored name base redo ∷ recovered name r ∷ noted row ∷ [])

abbrev pub EndWell : List Act → Type 0
EndWell acts = AllByRecursion IsSteady acts ⊎ (IsOne acts ⊎ IsRestore acts)

-- Acts may be done, none opens more than one transaction of its own, and none says a load. Where they are cut, each front that is quiet is of an open
-- transaction and leaves numbers to undo what is pending, and the ends of databases lie within those before and behind.
pub record GoWell (w : World) (acts : List Act) : Type 0 where
  pub may : MayDoAll w acts
  pub opens : AllByRecursion (OpensOwn w) acts
  pub own : AllByRecursion (IsOwn w) acts
  pub numbers : HaveNumbers w acts
  pub ends : EndWell acts
  pub plain : IsBuilt w → SayNoLoad w acts

-- ---- what a statement comes to

-- an act writes to no medium but those that are named
abbrev pub WritesOnly : (List ℕ → Type 0) → Act → Type 0
WritesOnly named (medium_made path) = named path
WritesOnly named (set_sealed path header) = named path
WritesOnly named _ = Unit {0}

-- no medium is named
abbrev pub NoMedium : List ℕ → Type 0
NoMedium path = ⊥

-- Each act writes to no medium but those that the statement names. Where it is refused it does nothing.
pub record Facts (w : World) (named : List ℕ → Type 0) (outcome : Outcome) : Type 0 where
  pub writes : AllByRecursion (WritesOnly named) outcome.acts
  pub refused : (rule : Rule) → outcome.reply ≡ Refused rule → outcome.acts ≡ []
  pub well : IsSound w → GoWell w outcome.acts

-- an outcome that is known
pub facts-of : {named : List ℕ → Type 0} (w : World) (known outcome : Outcome) → outcome ≡ known → Facts w named known → Facts w named outcome
facts-of {named} w known outcome is facts = subst (Facts w named) (sym is) facts

-- a statement that only answers, or is refused
pub facts-answered : {named : List ℕ → Type 0} (w : World) (reply : Reply) → Facts w named (answered reply)
facts-answered w reply = record { writes = tt; refused = λ rule is. refl; well = λ sound. record { may = tt; opens = tt; own = tt; numbers = tt; ends = inl tt; plain = λ built. tt } }

pub facts-refused : {named : List ℕ → Type 0} (w : World) (rule : Rule) → Facts w named (refused rule)
facts-refused w rule = facts-answered w (Refused rule)

-- checks come to something where what they find leads to something
pub comes-by : {A : Type 0} (checked : Checked A) (may : A → Outcome → Type 0) → ((found : A) → checked ≡ Ok found → (outcome : Outcome) × may found outcome) → (outcome : Outcome) × ComesTo checked may outcome
comes-by (Err rule) may leads = (refused rule, refl)
comes-by (Ok found) may leads = leads found refl

-- ---- begins

pub itself : (m : ℕ) (rest : List ℕ) → is_among (m ∷ rest) m ≡ true
itself m rest = let same : (m == m) ≡ true = grind (arith, nat_tests) in rw same refl

or-true : (b : Bool) → (b || true) ≡ true
or-true true = refl
or-true false = refl

pub later : (b : ℕ) (bs : List ℕ) (n : ℕ) → is_among bs n ≡ true → is_among (b ∷ bs) n ≡ true
later b bs n is = ap (λ t. (b == n) || t) is ∙ or-true (b == n)

pub among-there : (ts : List Open) (t : Open) → Contains ts t → is_among (begins_of ts) t.begin ≡ true
among-there ts t there = of-contained (λ (u : Open). is_among (begins_of ts) u.begin ≡ true) ts t (among-own ts) there

-- ---- what a database says

-- one record that tells an entry isn't cut
pub own-table : (w : World) (name : List ℕ) (time : ℕ) (spec : TableSpec) (transactions : List Open) → IsOwn w (logged name (alone (table_made time spec)) transactions)
own-table w name time spec transactions n quiet = let wrong : telling (table_made time spec) ≡ None = quiet.0 in absurd (cc)

pub own-checkpoint : (w : World) (name : List ℕ) (time : ℕ) (transactions : List Open) → IsOwn w (logged name (alone (checkpointed time)) transactions)
own-checkpoint w name time transactions n quiet = let wrong : telling (checkpointed time) ≡ None = quiet.0 in absurd (cc)

pub own-stamp : (w : World) (name : List ℕ) (time : ℕ) (set : Guid) (transactions : List Open) → IsOwn w (logged name (alone (stamped time set)) transactions)
own-stamp w name time set transactions n quiet = let wrong : telling (stamped time set) ≡ None = quiet.0 in absurd (cc)

-- a row is written by a transaction that begins at the end
pub own-single : (w : World) (db : Database) (at : Place) (note : Option (List ℕ)) (c : RowChange) (time : ℕ) (transactions : List Open) → database_named w.databases db.name ≡ Some db
    → IsOwn w (logged db.name (single_said db.end at note c time) transactions)
own-single w db at note c time transactions named n quiet =
    let its : is_among (begins_in (database_named w.databases db.name)) db.end ≡ true = ap (λ o. is_among (begins_in o) db.end) named ∙ itself db.end (begins_of db.transactions) in
    all-take (λ (s : Said). is_among (begins_in (database_named w.databases db.name)) s.begin ≡ true) (suc n) (single_said db.end at note c time) (its, (its, (its, tt)))

-- what is said in one of the transactions that are open
pub own-within : (w : World) (db : Database) (t : Open) (said : List Said) (transactions : List Open) → database_named w.databases db.name ≡ Some db → Contains db.transactions t
    → AllByRecursion (λ (s : Said). s.begin ≡ t.begin) said → IsOwn w (logged db.name said transactions)
own-within w db t said transactions named there all n quiet =
    let its : is_among (begins_in (database_named w.databases db.name)) t.begin ≡ true = ap (λ o. is_among (begins_in o) t.begin) named ∙ later db.end (begins_of db.transactions) t.begin (among-there db.transactions t there) in
    all-take (λ (s : Said). is_among (begins_in (database_named w.databases db.name)) s.begin ≡ true) (suc n) said
    (all_mapped (λ (s : Said). s.begin ≡ t.begin) (λ (s : Said). is_among (begins_in (database_named w.databases db.name)) s.begin ≡ true) (λ s same. ap (is_among (begins_in (database_named w.databases db.name))) same ∙ its) said all)

-- the same transactions are open
pub opens-those : (w : World) (db : Database) (said : List Said) → database_named w.databases db.name ≡ Some db → OpensOwn w (logged db.name said db.transactions)
opens-those w db said named =
    subst (λ (o : Option Database). AllByRecursion (λ (t : Open). is_among (begins_in o) t.begin ≡ true) db.transactions) (sym named) (more-own db.end (begins_of db.transactions) db.transactions (among-own db.transactions))
