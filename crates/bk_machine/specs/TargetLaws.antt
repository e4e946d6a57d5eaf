-- What is known of the table of a row statement behind its check.
use Rattle.std.proofs.Common.{◌≡◌, ◌≤◌, ℕ, ◌+◌, Bool, true, false, cond, List, [], ◌∷◌, Some, sym, ◌∙◌, ap, subst, arith}
use Rattle.std.specs.Prelude.{◌==◌, Ok}
use Rattle.std.specs.List.{find}
use Rattle.std.proofs.lemmas.Bool.Decides.{nat_tests}
use Rattle.bk_ids.specs.Name.{same_name}
use Rattle.bk_world.specs.declared.database.TableSpec.{TableSpec}
use Rattle.bk_world.specs.declared.database.Status.TheVariants.{Online}
use Rattle.bk_world.specs.declared.rule.Rule.TheVariants.{NoSuchDatabase, NoSuchTable}
use Rattle.bk_world.specs.Telling.{rows, tables}
use Rattle.bk_machine.specs.CheckLaws.{Up, passed, was-found, was-online}
use Rattle.bk_machine.specs.Checks.{online, or_refuse, table_named}
use Rattle.bk_machine.specs.FindingLaws.{current-found}
use Rattle.bk_machine.specs.ReadyLaws.{IsReady, ready}
use Rattle.bk_machine.specs.Seen.{tables_in, visible, visible_by}
use Rattle.bk_machine.specs.Sound.{AreIdle, AreNumbered, IsSound, IsWholeDatabase}
use Rattle.bk_machine.specs.UpLaws.{IsUp, is-up}
use Rattle.bk_world.specs.declared.transaction.Open.{Open}
use Rattle.bk_machine.specs.World.{World, Database, current_database, log_of, transaction_of}
use Rattle.bk_machine.specs.statements.Target.{Target, check_table}

-- What was checked.

-- it is the table of this name in the current database, which is online
pub record IsTarget (w : World) (name : List ℕ) (to : Target) : Type 0 where
  pub is : current_database w ≡ Some to.database
  pub up : to.database.status ≡ Online
  pub table : table_named (tables_in w to.database) name ≡ Some to.table

pub is-target : (w : World) (table : List ℕ) (to : Target) → check_table w table ≡ Ok to → IsTarget w table to
unfolding check_table
is-target w table to e =
    let two = passed (or_refuse (current_database w) NoSuchDatabase) _ to e in
    let three = passed (online two.found) _ to two.then in
    let four = passed (or_refuse (table_named (tables_in w three.found) table) NoSuchTable) _ to three.then in
    let up : Up two.found three.found = was-online two.found three.found three.is in
    let mine : Target = record { database = three.found; table = four.found } in
    let last = four.then in
    let same : mine ≡ to = cc in
    subst (IsTarget w table) same (record {
      is = was-found (current_database w) NoSuchDatabase two.found two.is ∙ ap (λ (d : Database). Some d) up.is;
      up = up.up;
      table = was-found (table_named (tables_in w three.found) table) NoSuchTable four.found four.is;
    })

-- Tables by name and by number.

pub record ByNumber (n : ℕ) (made : List TableSpec) (t : TableSpec) : Type 0 where
  pub from : n ≤ t.number
  pub is : find (λ (m : TableSpec). m.number == t.number) made ≡ Some t

-- found by its number among tables that are numbered from n on
pub by-number : (n : ℕ) (made : List TableSpec) (name : List ℕ) (t : TableSpec) → AreNumbered n made → table_named made name ≡ Some t → ByNumber n made t
by-number n [] name t all e = absurd cc
by-number n (m ∷ made) name t all e = by (same_name m.name name) e (by-number (n + 1) made name t all.1)
  where
    by : (b : Bool) → cond b (Some m) (table_named made name) ≡ Some t → (table_named made name ≡ Some t → ByNumber (n + 1) made t) → ByNumber n (m ∷ made) t
    by true e rest =
        let same : m ≡ t = cc in
        let number : t.number ≡ n = ap (λ (x : TableSpec). x.number) (sym same) ∙ all.0 in
        let own : (m.number == t.number) ≡ true = grind (arith, nat_tests, all.0, number) in
        record { from = omega (arith, number); is = ap (λ b. cond b (Some m) (find (λ (x : TableSpec). x.number == t.number) made)) own ∙ ap (λ (x : TableSpec). Some x) same }
    by false e rest =
        let later : ByNumber (n + 1) made t = rest e in
        let from : n + 1 ≤ t.number = later.from in
        let other : (m.number == t.number) ≡ false = grind (arith, nat_tests, all.0, from) in
        record { from = omega (arith, from); is = ap (λ b. cond b (Some m) (find (λ (x : TableSpec). x.number == t.number) made)) other ∙ later.is }

-- where tables are numbered in their order, one that is found by its name is found by its number
pub numbered-named : (made : List TableSpec) (name : List ℕ) (t : TableSpec) → AreNumbered 1 made → table_named made name ≡ Some t → find (λ (m : TableSpec). m.number == t.number) made ≡ Some t
numbered-named made name t all e = (by-number 1 made name t all e).is

-- In a sound world.

pub target-up : (w : World) (name : List ℕ) (to : Target) → IsSound w → IsTarget w name to → IsUp w to.database
target-up w name to sound its = is-up w to.database sound (current-found w to.database its.is) its.up

-- the table is found by its number
pub target-there : (w : World) (name : List ℕ) (to : Target) → IsWholeDatabase w to.database → IsTarget w name to → find (λ (m : TableSpec). m.number == to.table.number) (tables (log_of w.history to.database)) ≡ Some to.table
unfolding tables_in
target-there w name to whole its = numbered-named (tables (log_of w.history to.database)) name to.table whole.log.tables its.table

-- In a sound world in which nothing is open.

pub target-ready : (w : World) (name : List ℕ) (to : Target) → IsSound w → AreIdle w → IsTarget w name to → IsReady w to.database
target-ready w name to sound idle its = ready w to.database sound idle (current-found w to.database its.is) its.up

pub target-numbered : (w : World) (name : List ℕ) (to : Target) → IsReady w to.database → IsTarget w name to → find (λ (m : TableSpec). m.number == to.table.number) (tables (log_of w.history to.database)) ≡ Some to.table
target-numbered w name to r its = target-there w name to r.whole its

-- a session sees the committed rows
pub sees-committed : (w : World) (to : Target) → IsReady w to.database → visible w to.database to.table ≡ rows (log_of w.history to.database) to.table.number
unfolding visible
sees-committed w to r = ap (λ (ts : List Open). visible_by (log_of w.history to.database) (transaction_of ts w.session) to.table.number) r.closed
