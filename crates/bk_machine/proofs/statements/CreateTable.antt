-- CREATE TABLE says a table of the next number.
use Rattle.std.proofs.Common.{◌≡◌, ◌<◌, ◌≤◌, inl, ℕ, suc, ◌+◌, Bool, true, false, cond, List, [], ◌∷◌, ◌++◌, take, Option, None, Some, length-append, length-take, refl, sym, ◌∙◌, ap, subst, arith}
use Rattle.std.specs.Prelude.{is_some, nat_le, not, length, Ok}
use Rattle.std.specs.List.{AllByRecursion}
use Rattle.std.specs.Option.{option_map}
use Rattle.std.proofs.lemmas.Bool.Decides.{nat_tests}
use Rattle.bk_ids.specs.Name.{same_name}
use Rattle.bk_lemmas.specs.Lists.{all_joined}
use Rattle.bk_world.specs.declared.database.FileSpec.{FileSpec}
use Rattle.bk_world.specs.declared.database.TableSpec.{TableSpec}
use Rattle.bk_world.specs.declared.database.Status.TheVariants.{Online}
use Rattle.bk_world.specs.Pending.{pending}
use Rattle.bk_world.specs.ReadingLaws.{pending-more}
use Rattle.bk_world.specs.Records.{Logged, more, numbered, table_made}
use Rattle.bk_world.specs.Says.{alone}
use Rattle.bk_world.specs.Telling.{tables}
use Rattle.bk_machine.specs.JobLaws.{leaves-same}
use Rattle.bk_machine.specs.Acts.{logged, said_time}
use Rattle.bk_machine.specs.Checks.{is_name, last_number, limit, online, or_refuse, outside, refuse_if, table_named, used_up}
use Rattle.bk_world.specs.declared.rule.Rule.TheVariants.{LimitReached, NoSuchDatabase, NoSuchGroup, NotBuilt, TableExists}
use Rattle.bk_world.specs.declared.rule.Limit.TheVariants.{Lsn, Tables}
use Rattle.bk_machine.specs.FitLaws.{said-time}
use Rattle.bk_machine.specs.Fits.{AreNamedApart, FitsLog, FitsStorage}
use Rattle.bk_machine.specs.MayDo.{MayDo}
use Rattle.bk_machine.specs.Seen.{tables_in}
use Rattle.bk_machine.specs.Sound.{AreNumbered, IsSound, storage_of}
use Rattle.bk_machine.specs.World.{World, Database, current_database, log_of}
use Rattle.bk_machine.specs.statements.CreateTable.{DoesCreateTable, Room, check_create_table, check_group, group_named, most_groups, most_tables, new_table}
use Rattle.bk_machine.specs.CheckLaws.{Up, is-none, not-refused, passed, was-found, was-online}
use Rattle.bk_machine.specs.FindingLaws.{current-found}
use Rattle.bk_machine.specs.UpLaws.{IsUp, is-up, may-tell}
use Rattle.bk_machine.specs.Outcome.{Outcome}
use Rattle.bk_machine.proofs.Fitting.{apart-more, times-more}
use Rattle.bk_machine.proofs.LeftNumbers.{numbers-before}
use Rattle.bk_machine.proofs.statements.Facts.{Facts, NoMedium, facts-of, opens-those, own-table}
use Rattle.bk_machine.proofs.statements.Numbering.{numbers-loud}
use Rattle.bk_machine.proofs.statements.Telling.{numbered-more, tables-made}

-- the current database, which is online and has numbers, and room for a table of this name
record IsCurrent (w : World) (name : List ℕ) (asked : Option (List ℕ)) (room : Room) : Type 0 where
  is : current_database w ≡ Some room.database
  up : room.database.status ≡ Online
  low : used_up room.database.end ≡ false
  new : table_named (tables_in w room.database) name ≡ None
  group_is : check_group room.database asked ≡ Ok room.group
  few : length (tables_in w room.database) < most_tables

checked : (w : World) (line : ℕ) (table : List ℕ) (group : Option (List ℕ)) (room : Room) → check_create_table w line table group ≡ Ok room → IsCurrent w table group room
unfolding check_create_table
checked w line table group room e =
    let one = passed (refuse_if (not (is_name table)) (NotBuilt line)) _ room e in
    let out = passed (outside w) _ room one.then in
    let two = passed (or_refuse (current_database w) NoSuchDatabase) _ room out.then in
    let three = passed (online two.found) _ room two.then in
    let four = passed (refuse_if (is_some (table_named (tables_in w three.found) table)) TableExists) _ room three.then in
    let five = passed (check_group three.found group) _ room four.then in
    let six = passed (refuse_if (nat_le most_tables (length (tables_in w three.found))) (LimitReached Tables)) _ room five.then in
    let seven = passed (limit (used_up three.found.end)) _ room six.then in
    let up : Up two.found three.found = was-online two.found three.found three.is in
    let mine : Room = record { database = three.found; group = five.found } in
    let last = seven.then in
    let same : mine ≡ room = cc in
    let most : nat_le most_tables (length (tables_in w three.found)) ≡ false = not-refused (nat_le most_tables (length (tables_in w three.found))) (LimitReached Tables) six.found six.is in
    subst (IsCurrent w table group) same (record {
      is = was-found (current_database w) NoSuchDatabase two.found two.is ∙ ap (λ (d : Database). Some d) up.is;
      up = up.up;
      low = not-refused (used_up three.found.end) (LimitReached Lsn) seven.found seven.is;
      new = is-none (table_named (tables_in w three.found) table) (not-refused (is_some (table_named (tables_in w three.found) table)) TableExists four.found four.is);
      group_is = five.is;
      few = grind (arith, nat_tests, most);
    })

its-up : (w : World) (line : ℕ) (table : List ℕ) (group : Option (List ℕ)) (room : Room) → IsSound w → check_create_table w line table group ≡ Ok room → IsUp w room.database
its-up w line table group room sound e = let its : IsCurrent w table group room = checked w line table group room e in is-up w room.database sound (current-found w room.database its.is) its.up

-- ---- it fits

-- a name that no table has is another one than each has
no-namesake : (made : List TableSpec) (name : List ℕ) → table_named made name ≡ None → AllByRecursion (λ (u : TableSpec). same_name u.name name ≡ false) made
no-namesake [] name none = tt
no-namesake (u ∷ made) name none = by (no-namesake made name) (same_name u.name name) refl none
  where
    by : (table_named made name ≡ None → AllByRecursion (λ (v : TableSpec). same_name v.name name ≡ false) made) → (t : Bool) → same_name u.name name ≡ t → cond t (Some u) (table_named made name) ≡ None
        → AllByRecursion (λ (v : TableSpec). same_name v.name name ≡ false) (u ∷ made)
    by rest true is there = absurd cc
    by rest false isnt there = (isnt, rest there)

-- a group that is found by its name is there
group-below : (groups : List (List ℕ)) (name : List ℕ) (n : ℕ) → group_named groups name ≡ Some n → n < length groups
group-below [] name n found = absurd cc
group-below (g ∷ groups) name n found = by (group-below groups name) (same_name g name) (group_named groups name) refl found
  where
    by : ((m : ℕ) → group_named groups name ≡ Some m → m < length groups) → (t : Bool) (o : Option ℕ) → group_named groups name ≡ o → cond t (Some 0) (option_map suc o) ≡ Some n → n < length (g ∷ groups)
    by rest true o is there = let same : 0 ≡ n = cc in omega (arith, same)
    by rest false None is there = absurd cc
    by rest false (Some m) is there = let same : suc m ≡ n = cc in omega (arith, same, rest m is)

group-there : (db : Database) (asked : Option (List ℕ)) (group : ℕ) → FitsStorage (storage_of db) → check_group db asked ≡ Ok group → group < length db.groups
group-there db None group fits is = let same : 0 ≡ group = cc in omega (arith, same, some-group db.files (length db.groups) fits.files.some fits.files.grouped)
  where
    some-group : (files : List FileSpec) (groups : ℕ) → 0 < length files → AllByRecursion (λ (f : FileSpec). f.group < groups) files → 0 < groups
    some-group [] groups some all = absurd (omega (arith, some))
    some-group (f ∷ files) groups some all = omega (arith, all.0)
group-there db (Some name) group fits is =
    let below : group < length (take most_groups db.groups) = group-below (take most_groups db.groups) name group (was-found (group_named (take most_groups db.groups) name) NoSuchGroup group is) in
    omega (arith, below, length-take most_groups db.groups)

fits-with : (w : World) (name : List ℕ) (asked : Option (List ℕ)) (now : ℕ) (room : Room) (r : IsUp w room.database) → IsCurrent w name asked room
    → FitsLog (length room.database.groups) (more (log_of w.history room.database) room.database.end (alone (table_made (said_time w room.database now) (new_table w room name))))
unfolding tables_in
fits-with w name asked now room r its =
    let db : Database = room.database in
    let rs : List Logged = log_of w.history db in
    let t : TableSpec = new_table w room name in
    let fits : FitsLog (length db.groups) rs = r.whole.fits.log in
    let made : tables (more rs db.end (alone (table_made (said_time w db now) t))) ≡ tables rs ++ t ∷ [] = tables-made rs db.end (said_time w db now) t in
    let count : length (tables (more rs db.end (alone (table_made (said_time w db now) t)))) ≡ length (tables rs) + 1 = ap length made ∙ length-append (tables rs) (t ∷ []) in
    record {
      few = omega (arith, count, its.few);
      names = subst AreNamedApart (sym made) (apart-more (tables rs) t fits.names (no-namesake (tables rs) name its.new));
      grouped = subst (AllByRecursion (λ (u : TableSpec). u.group < length db.groups)) (sym made)
          (all_joined (λ (u : TableSpec). u.group < length db.groups) (tables rs) (t ∷ []) fits.grouped (group-there db asked room.group r.whole.fits.storage its.group_is, tt));
      times = times-more (length db.groups) rs db.end (alone (table_made (said_time w db now) t)) fits (said-time w db now (length db.groups) fits, tt);
    }

does : (w : World) (name : List ℕ) (asked : Option (List ℕ)) (now : ℕ) (room : Room) → IsUp w room.database → IsCurrent w name asked room → MayDo w (logged room.database.name (alone (table_made (said_time w room.database now) (new_table w room name))) room.database.transactions)
unfolding tables_in
does w name asked now room r its =
    let db : Database = room.database in
    let rs : List Logged = log_of w.history db in
    let t : TableSpec = new_table w room name in
    let left : db.end + (length (pending rs) + (length db.transactions + 16)) ≤ last_number = numbers-before rs db.end db.transactions r.opens its.low in
    may-tell w db (alone (table_made (said_time w db now) t)) r (record {
      online = r.up;
      may = (tt, tt);
      tables = subst (AreNumbered 1) (sym (tables-made rs db.end (said_time w db now) t)) (numbered-more 1 (tables rs) t r.whole.log.tables (omega arith));
      places = (tt, tt);
      fits = fits-with w name asked now room r its;
      marks = inl (tt, tt);
    }) (λ b. refl, tt) (pending-more rs (numbered db.end (alone (table_made (said_time w db now) t)))) (omega (arith, left))
    (leaves-same rs (more rs db.end (alone (table_made (said_time w db now) t))) (db.end + 1) db.transactions db.job (pending-more rs (numbered db.end (alone (table_made (said_time w db now) t)))) (omega (arith, left)))

pub facts : (w : World) (line : ℕ) (name : List ℕ) (group : Option (List ℕ)) (now : ℕ) (room : Room) → check_create_table w line name group ≡ Ok room
    → (outcome : Outcome) → DoesCreateTable w name now room outcome → Facts w NoMedium outcome
facts w line name group now room e outcome is = facts-of w _ outcome is (record {
  writes = (tt, tt);
  refused = λ rule no. absurd cc;
  well = λ sound. let r : IsUp w room.database = its-up w line name group room sound e in record {
    may = (does w name group now room r (checked w line name group room e), tt);
    opens = (opens-those w room.database (alone (table_made (said_time w room.database now) (new_table w room name))) r.named, tt);
    own = (own-table w room.database.name (said_time w room.database now) (new_table w room name) room.database.transactions, tt);
    numbers = (numbers-loud w room.database.name _ room.database.transactions (λ none. absurd cc), tt);
    ends = inl (tt, tt);
    plain = λ built. ((tt, tt), tt);
  };
})
