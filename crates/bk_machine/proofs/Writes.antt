-- What the acts of each statement write to, and which statements store nothing.
use Rattle.std.proofs.Common.{◌≡◌, inl, inr, ℕ, List, [], ◌∷◌, Option, sym, subst}
use Rattle.std.specs.List.{AllByRecursion}
use Rattle.bk_items.specs.declared.item.ScriptEntry.{ScriptEntry}
use Rattle.bk_items.specs.declared.item.Catalog.{Catalog}
use Rattle.bk_items.specs.declared.item.MediumQuery.{MediumQuery}
use Rattle.bk_items.specs.declared.item.ScriptItem.TheVariants.{QueryMedium, Rows, SelectCatalog, Use, Session, Start}
use Rattle.bk_items.specs.declared.rows.RowStatement.TheVariants.{Select}
use Rattle.bk_world.specs.declared.reply.Reply.{Reply}
use Rattle.bk_world.specs.declared.reply.Reply.TheVariants.{Done, Refused}
use Rattle.bk_world.specs.declared.rule.Rule.{Rule}
use Rattle.bk_machine.specs.Acts.{Act, turned, medium_made, set_sealed}
use Rattle.bk_machine.specs.CheckLaws.{comes-to}
use Rattle.bk_machine.specs.Machine.{May}
use Rattle.bk_machine.specs.Outcome.{Outcome, answered, in_one}
use Rattle.bk_machine.specs.World.{World}
use Rattle.bk_machine.specs.Writes.{ActWrites, ActsWrite, IsStill, IsTurn, StatementWrites}
use Rattle.bk_machine.specs.statements.Catalog.{check_catalog, DoesSelectCatalog}
use Rattle.bk_machine.specs.statements.Query.{check_query, DoesQuery}
use Rattle.bk_machine.specs.statements.Session.{check_session, DoesSession}
use Rattle.bk_machine.specs.statements.Select.{check_select, DoesSelect}
use Rattle.bk_machine.specs.statements.Use.{check_use, DoesUse}
use Rattle.bk_machine.proofs.statements.Each.{statement-facts}
use Rattle.bk_machine.proofs.statements.Facts.{WritesOnly}

act-writes : (named : List ℕ → Type 0) (act : Act) (path : List ℕ) → WritesOnly named act → ActWrites act path → named path
act-writes named (medium_made at) path only is = subst named (sym is) only
act-writes named (set_sealed at header) path only is = subst named (sym is) only
act-writes named _ path only is = absurd is

acts-write : (named : List ℕ → Type 0) (acts : List Act) (path : List ℕ) → AllByRecursion (WritesOnly named) acts → ActsWrite acts path → named path
acts-write named [] path only writes = absurd writes
acts-write named (act ∷ acts) path only (inl here) = act-writes named act path only.0 here
acts-write named (act ∷ acts) path only (inr there) = acts-write named acts path only.1 there

-- a statement writes to no medium but the one that it names
pub statement-writes : (w : World) (s : ScriptEntry) (now : ℕ) (outcome : Outcome) (path : List ℕ) → May w s now outcome → ActsWrite outcome.acts path → StatementWrites w s.item path
statement-writes w s now outcome path may writes = acts-write (StatementWrites w s.item) outcome.acts path (statement-facts w s now outcome may).writes writes

-- a refused statement stores nothing
pub refused-still : (w : World) (s : ScriptEntry) (now : ℕ) (outcome : Outcome) (rule : Rule) → May w s now outcome → outcome.reply ≡ Refused rule → IsStill outcome
refused-still w s now outcome rule may is = subst (AllByRecursion IsTurn) (sym ((statement-facts w s now outcome may).refused rule is)) tt

turned-still : (name : Option (List ℕ)) (outcome : Outcome) → outcome ≡ in_one (turned name) Done → IsStill outcome
turned-still name outcome is =
    let still : IsStill (in_one (turned name) Done) = (tt, tt) in
    subst IsStill (sym is) still

-- nor does USE
pub use-still : (w : World) (line : ℕ) (name : List ℕ) (now : ℕ) (outcome : Outcome) → May w (record { item = Use name; line = line }) now outcome → IsStill outcome
unfolding May
use-still w line name now = comes-to IsStill (check_use w name) DoesUse (λ rule. tt) (λ found e. turned-still found)

-- nor does another session
pub session-still : (w : World) (line n : ℕ) (now : ℕ) (outcome : Outcome) → May w (record { item = Session n; line = line }) now outcome → IsStill outcome
unfolding May
session-still w line n now = comes-to IsStill (check_session line n) DoesSession (λ rule. tt) (λ found e outcome is. subst IsStill (sym is) (tt, tt))

-- nor do the headers of sets, their files, and the word that a set can be read
pub query-still : (w : World) (line : ℕ) (query : MediumQuery) (disk : List ℕ) (file : Option ℕ) (now : ℕ) (outcome : Outcome) → May w (record { item = QueryMedium query disk file; line = line }) now outcome → IsStill outcome
unfolding May
query-still w line query disk file now = comes-to IsStill (check_query w line query disk file) DoesQuery (λ rule. tt) (λ reply e outcome is. subst IsStill (sym is) tt)

-- nor the tables of msdb
pub catalog-still : (w : World) (line : ℕ) (catalog : Catalog) (now : ℕ) (outcome : Outcome) → May w (record { item = SelectCatalog catalog; line = line }) now outcome → IsStill outcome
unfolding May
catalog-still w line catalog now = comes-to IsStill (check_catalog w line catalog) DoesSelectCatalog (λ rule. tt) (λ listing e outcome is. subst IsStill (sym is) tt)

-- nor does `:start`
pub start-still : (w : World) (line : ℕ) (now : ℕ) (outcome : Outcome) → May w (record { item = Start; line = line }) now outcome → IsStill outcome
unfolding May
start-still w line now outcome is = subst IsStill (sym is) (tt, tt)

answered-still : (answer : Reply) (outcome : Outcome) → outcome ≡ answered answer → IsStill outcome
answered-still answer outcome is = subst IsStill (sym is) tt

-- nor SELECT
pub select-still : (w : World) (line : ℕ) (table : List ℕ) (key : Option ℕ) (now : ℕ) (outcome : Outcome) → May w (record { item = Rows table (Select key); line = line }) now outcome → IsStill outcome
unfolding May
select-still w line table key now = comes-to IsStill (check_select w table) (DoesSelect w key) (λ rule. tt) (λ to e. answered-still _)
