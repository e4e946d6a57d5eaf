-- CREATE TABLE as it is planned.
use Rattle.std.proofs.Common.{◌≡◌, ◌≤◌, ◌<◌, ℕ, ◌+◌, true, false, not, List, [], ◌∷◌, length, Option, Some, None, Ok, refl, sym, ◌∙◌, ap, arith}
use Rattle.std.specs.List.{position, position_or_len}
use Rattle.std.specs.Option.{option_map}
use Rattle.std.specs.Prelude.{is_some, nat_le, nat_lt, take, zero, suc, Bool, cond}
use Rattle.std.proofs.lemmas.Bool.Decides.{nat_tests}
use Rattle.bk_ids.specs.Name.{same_name}
use Rattle.bk_items.specs.declared.item.ScriptEntry.{ScriptEntry}
use Rattle.bk_items.specs.declared.item.ScriptItem.TheVariants as script
use Rattle.bk_kept.specs.Keeps.{Sees, ShowsLog, database_of}
use Rattle.bk_kept.specs.declared.kept.Database.{Database as KeptDatabase}
use Rattle.bk_kept.specs.declared.kept.Kept.{Kept}
use Rattle.bk_machine.specs.Acts.{logged, said_time}
use Rattle.bk_machine.specs.CheckLaws.{passed, was-found, was-online}
use Rattle.bk_machine.specs.Checks.{is_name, limit, online, or_refuse, outside, refuse_if, table_named, used_up}
use Rattle.bk_machine.specs.FindingLaws.{current-found}
use Rattle.bk_machine.specs.Machine.{May}
use Rattle.bk_machine.specs.Outcome.{in_one}
use Rattle.bk_machine.specs.Seen.{tables_in}
use Rattle.bk_machine.specs.World.{World, Database, current_database}
use Rattle.bk_machine.specs.statements.CreateTable.{Room, check_create_table, check_group, group_named, most_tables, DoesCreateTable}
use Rattle.bk_world.specs.Records.{table_made}
use Rattle.bk_world.specs.Says.{alone}
use Rattle.bk_world.specs.declared.database.TableSpec.{TableSpec}
use Rattle.bk_world.specs.declared.reply.Reply.TheVariants.{Done}
use Rattle.bk_world.specs.declared.rule.Limit.TheVariants.{Tables}
use Rattle.bk_world.specs.declared.rule.Rule.TheVariants.{LimitReached, NoSuchDatabase, NotBuilt, TableExists}
use Rattle.bk_plans.specs.Checking.{IsRefused}
use Rattle.bk_plans.specs.PlanLaws.{DoWhatTheyMay, comes-found, comes-refused, plans-refusal}
use Rattle.bk_plans.specs.Planned.{IsRefusedBy, SaysThen, StoresOne}
use Rattle.bk_plans.specs.Planning.{Plans}
use Rattle.bk_plans.specs.declared.parts.Plan.{Plan}
use Rattle.bk_plans.specs.declared.refusal.Refusal.{Refusal}
use Rattle.bk_plans.specs.SaidLaws.{low-left, plans-said}

-- Filegroups.

-- the first of some groups that has a name, if it is one of the first so many
abbrev pub first_of : ℕ → Option ℕ → Option ℕ
first_of n None = None
first_of n (Some at) = cond (nat_lt at n) (Some at) None

first-suc : (n : ℕ) (o : Option ℕ) → option_map suc (first_of n o) ≡ first_of (suc n) (option_map suc o)
first-suc n None = refl
first-suc n (Some at) = by (nat_lt at n) refl
  where
    by : (b : Bool) → nat_lt at n ≡ b → option_map suc (cond b (Some at) None) ≡ cond (nat_lt (suc at) (suc n)) (Some (suc at)) None
    by true e = let more : nat_lt (suc at) (suc n) ≡ true = grind (arith, nat_tests, e) in ap (λ (b : Bool). cond b (Some (suc at)) None) (sym more)
    by false e = let more : nat_lt (suc at) (suc n) ≡ false = grind (arith, nat_tests, e) in ap (λ (b : Bool). cond b (Some (suc at)) None) (sym more)

first-none : (o : Option ℕ) → None ≡ first_of 0 o
first-none None = refl
first-none (Some at) = let never : nat_lt at 0 ≡ false = grind (arith, nat_tests) in ap (λ (b : Bool). cond b (Some at) None) (sym never)

-- the first of some things that fit is the one in front, or comes behind it
position-behind : (p : List ℕ → Bool) (x : List ℕ) (xs : List (List ℕ)) → position p (x ∷ xs) ≡ cond (p x) (Some 0) (option_map suc (position p xs))
position-behind p x xs = by (p x) (nat_lt (position_or_len p xs) (length xs)) refl
  where
    one : 1 + position_or_len p xs ≡ suc (position_or_len p xs)
    one = omega arith

    by : (b t : Bool) → nat_lt (position_or_len p xs) (length xs) ≡ t
        → cond (nat_lt (cond (not b) (1 + position_or_len p xs) 0) (suc (length xs))) (Some (cond (not b) (1 + position_or_len p xs) 0)) None ≡ cond b (Some 0) (option_map suc (cond t (Some (position_or_len p xs)) None))
    by true t is = let less : nat_lt 0 (suc (length xs)) ≡ true = grind (arith, nat_tests) in ap (λ (u : Bool). cond u (Some 0) None) less
    by false true is =
        let less : nat_lt (1 + position_or_len p xs) (suc (length xs)) ≡ true = grind (arith, nat_tests, is) in
        ap (λ (u : Bool). cond u (Some (1 + position_or_len p xs)) None) less ∙ ap (λ (n : ℕ). Some n) one
    by false false is = let more : nat_lt (1 + position_or_len p xs) (suc (length xs)) ≡ false = grind (arith, nat_tests, is) in ap (λ (u : Bool). cond u (Some (1 + position_or_len p xs)) None) more

pub among-first : (n : ℕ) (groups : List (List ℕ)) (name : List ℕ) → group_named (take n groups) name ≡ first_of n (position (λ group. same_name group name) groups)
among-first zero groups name = first-none (position (λ group. same_name group name) groups)
among-first (suc n) [] name = refl
among-first (suc n) (group ∷ groups) name =
    by (same_name group name) (among-first n groups name) ∙ ap (first_of (suc n)) (sym (position-behind (λ g. same_name g name) group groups))
  where
    by : (b : Bool) → group_named (take n groups) name ≡ first_of n (position (λ g. same_name g name) groups) → cond b (Some 0) (option_map suc (group_named (take n groups) name)) ≡ first_of (suc n) (cond b (Some 0) (option_map suc (position (λ g. same_name g name) groups)))
    by true rest = let is : nat_lt 0 (suc n) ≡ true = grind (arith, nat_tests) in ap (λ (t : Bool). cond t (Some 0) None) (sym is)
    by false rest = ap (option_map suc) rest ∙ first-suc n (position (λ g. same_name g name) groups)

pub first-kept : (at : ℕ) → at < 8 → Some at ≡ first_of 8 (Some at)
first-kept at low = let is : nat_lt at 8 ≡ true = grind (arith, nat_tests, low) in ap (λ (b : Bool). cond b (Some at) None) (sym is)

pub first-left : (at : ℕ) → 8 ≤ at → None ≡ first_of 8 (Some at)
first-left at high = let is : nat_lt at 8 ≡ false = grind (arith, nat_tests, high) in ap (λ (b : Bool). cond b (Some at) None) (sym is)

-- Checks.

checked-table : (w : World) (line : ℕ) (table : List ℕ) (group : Option (List ℕ)) (room : Room) → check_create_table w line table group ≡ Ok room → current_database w ≡ Some room.database
unfolding check_create_table
checked-table w line table group room e =
    let one = passed (refuse_if (not (is_name table)) (NotBuilt line)) _ room e in
    let out = passed (outside w) _ room one.then in
    let two = passed (or_refuse (current_database w) NoSuchDatabase) _ room out.then in
    let three = passed (online two.found) _ room two.then in
    let four = passed (refuse_if (is_some (table_named (tables_in w three.found) table)) TableExists) _ room three.then in
    let five = passed (check_group three.found group) _ room four.then in
    let six = passed (refuse_if (nat_le most_tables (length (tables_in w three.found))) (LimitReached Tables)) _ room five.then in
    let seven = passed (limit (used_up three.found.end)) _ room six.then in
    let last = seven.then in
    let made : Room = record { database = three.found; group = five.found } in
    let same : made ≡ room = cc in
    let up = was-online two.found three.found three.is in
    was-found (current_database w) NoSuchDatabase two.found two.is ∙ ap (λ (db : Database). Some db) up.is ∙ ap (λ (r : Room). Some r.database) same

-- Plans.

module _ (k : Kept) (line now : ℕ) (table : List ℕ) (group : Option (List ℕ)) where
  pub table-refused : (refusal : Refusal) (plan : Plan) → IsRefusedBy refusal plan → ((w : World) → Sees w k → IsRefused refusal (check_create_table w line table group))
      → Plans k (λ w. Unit {0}) (record { item = script.CreateTable table group; line = line }) now plan
  unfolding May
  table-refused refusal plan is refuses =
      plans-refusal k (λ w. Unit {0}) (record { item = script.CreateTable table group; line = line }) now (λ w. check_create_table w line table group) refusal plan is
      (λ w sound sees known. refuses w sees) (λ w rule e. comes-refused (check_create_table w line table group) (DoesCreateTable w table now) rule e)

  module _ (d : KeptDatabase) (number in_group : ℕ) (named : is_name table ≡ true) (left : used_up d.shown.«end» ≡ false)
      (passes : (w : World) → Sees w k → check_create_table w line table group ≡ Ok (record { database = database_of d; group = in_group })) (shows : (w : World) → Sees w k → ShowsLog w.history d)
      (counted : (w : World) → Sees w k → number ≡ length (tables_in w (database_of d)) + 1) (law : DoWhatTheyMay) where
    abbrev spec : TableSpec
    spec = record { number = number; name = table; group = in_group }

    abbrev s : ScriptEntry
    s = record { item = script.CreateTable table group; line = line }

    pub table-planned : (plan : Plan) → StoresOne (SaysThen d now (λ time. alone (table_made time (record { number = number; name = table; group = in_group }))) d.transactions) Done plan
        → Plans k (λ w. Unit {0}) (record { item = script.CreateTable table group; line = line }) now plan
    unfolding May tables_in
    table-planned plan (stored, one, says) =
        plans-said k (λ w. Unit {0}) s now d (alone (table_made says.time spec)) d.transactions stored Done plan one says.says law
        (λ w sound sees known. current-found w (database_of d) (checked-table w line table group _ (passes w sees))) (λ w sound sees known. shows w sees) (low-left d.shown.«end» 1 left (omega arith))
        (λ w sound sees known.
        comes-found (check_create_table w line table group) (DoesCreateTable w table now) (record { database = database_of d; group = in_group }) (in_one (logged d.name (alone (table_made says.time spec)) d.transactions) Done) (passes w sees)
        (ap (λ (t : ℕ). in_one (logged d.name (alone (table_made t spec)) d.transactions) Done) (says.time_is w (shows w sees))
        ∙ ap (λ (n : ℕ). in_one (logged d.name (alone (table_made (said_time w (database_of d) now) (record { number = n; name = table; group = in_group }))) d.transactions) Done) (counted w sees)))
        (λ w sound sees known logs.
        let some : 0 < length table = grind (arith, nat_tests, named) in
        let short : length table ≤ 64 = grind (arith, nat_tests, named) in
        ((counted w sees, (some, short)), tt))
