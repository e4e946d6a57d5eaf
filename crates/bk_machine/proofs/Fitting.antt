-- Logs that fit a set: their fronts, and what comes behind them.
use Rattle.std.proofs.Common.{◌≡◌, ◌<◌, ◌≤◌, ℕ, ◌+◌, false, List, [], ◌∷◌, ◌++◌, length, sym, ◌∙◌, ap, subst, arith, length-append}
use Rattle.std.specs.Prelude.{IfSome}
use Rattle.std.specs.List.{AllByRecursion}
use Rattle.bk_ids.specs.Name.{same_name}
use Rattle.bk_lemmas.specs.Lists.{all_front, all_joined}
use Rattle.bk_world.specs.declared.database.TableSpec.{TableSpec}
use Rattle.bk_world.specs.Entry.{Entry}
use Rattle.bk_world.specs.Pending.{Pending, pending, pending_after}
use Rattle.bk_world.specs.ReadingLaws.{entries-more}
use Rattle.bk_world.specs.Records.{Deed, Logged, Said, more, numbered, database_made, table_made, begun, written, committed, rolled_back, undone, checkpointed, stamped, model_set, loaded, recovered}
use Rattle.bk_world.specs.Rows.{tables_of}
use Rattle.bk_world.specs.Telling.{entries, entries_from, entry_of, tables, telling}
use Rattle.bk_machine.specs.Acts.{latest}
use Rattle.bk_machine.specs.Fits.{AreNamedApart, FitsLog}
use Rattle.bk_machine.specs.statements.CreateTable.{most_tables}
use Rattle.bk_machine.proofs.ActsLogs.{tables-more}

-- ---- times

abbrev pub IsOnTime : Entry → Type 0
IsOnTime e = e.time ≤ latest

-- what tells a time tells none past the last one
abbrev pub IsTimely : Deed → Type 0
IsTimely deed = IfSome (telling deed) (λ told. told.0 ≤ latest)

entry-timely : (ws : List Pending) (lsn begin : ℕ) (deed : Deed) → IsTimely deed → AllByRecursion IsOnTime (entry_of ws lsn begin deed)
entry-timely ws lsn begin (database_made time family branch) is = (is, tt)
entry-timely ws lsn begin (table_made time spec) is = (is, tt)
entry-timely ws lsn begin begun is = tt
entry-timely ws lsn begin (written at before c) is = tt
entry-timely ws lsn begin (committed time mark) is = (is, tt)
entry-timely ws lsn begin rolled_back is = tt
entry-timely ws lsn begin (undone at c n) is = tt
entry-timely ws lsn begin (checkpointed time) is = (is, tt)
entry-timely ws lsn begin (stamped time set) is = (is, tt)
entry-timely ws lsn begin (model_set time model) is = (is, tt)
entry-timely ws lsn begin (loaded load) is = tt
entry-timely ws lsn begin (recovered branch) is = tt

said-timely : (ws : List Pending) (n : ℕ) (said : List Said) → AllByRecursion (λ (s : Said). IsTimely s.deed) said → AllByRecursion IsOnTime (entries_from ws (numbered n said))
said-timely ws n [] all = tt
said-timely ws n (s ∷ said) all =
    all_joined IsOnTime (entry_of ws n s.begin s.deed) (entries_from (pending_after ws n s.begin s.deed) (numbered (n + 1) said)) (entry-timely ws n s.begin s.deed all.0)
    (said-timely (pending_after ws n s.begin s.deed) (n + 1) said all.1)

pub times-more : (groups : ℕ) (rs : List Logged) (n : ℕ) (said : List Said) → FitsLog groups rs → AllByRecursion (λ (s : Said). IsTimely s.deed) said → AllByRecursion IsOnTime (entries (more rs n said))
times-more groups rs n said fits timely =
    subst (AllByRecursion IsOnTime) (sym (entries-more rs (numbered n said))) (all_joined IsOnTime (entries rs) (entries_from (pending rs) (numbered n said)) fits.times (said-timely (pending rs) n said timely))

-- ---- logs

-- a log that tells the same fits as well
pub fits-told : (groups : ℕ) (rs ss : List Logged) → entries ss ≡ entries rs → FitsLog groups rs → FitsLog groups ss
unfolding tables
fits-told groups rs ss same fits =
    let made : tables ss ≡ tables rs = ap tables_of same in record {
      few = subst (λ (ts : List TableSpec). length ts ≤ most_tables) (sym made) fits.few;
      names = subst AreNamedApart (sym made) fits.names;
      grouped = subst (AllByRecursion (λ (t : TableSpec). t.group < groups)) (sym made) fits.grouped;
      times = subst (AllByRecursion IsOnTime) (sym same) fits.times;
    }

-- and so does one with more behind it that makes no table, at times that are known
pub fits-more : (groups : ℕ) (rs : List Logged) (n : ℕ) (said : List Said) → FitsLog groups rs → tables (more rs n said) ≡ tables rs → AllByRecursion (λ (s : Said). IsTimely s.deed) said → FitsLog groups (more rs n said)
fits-more groups rs n said fits made timely = record {
  few = subst (λ (ts : List TableSpec). length ts ≤ most_tables) (sym made) fits.few;
  names = subst AreNamedApart (sym made) fits.names;
  grouped = subst (AllByRecursion (λ (t : TableSpec). t.group < groups)) (sym made) fits.grouped;
  times = times-more groups rs n said fits timely;
}

apart-front : (a b : List TableSpec) → AreNamedApart (a ++ b) → AreNamedApart a
apart-front [] b apart = tt
apart-front (t ∷ a) b apart = (all_front (λ (u : TableSpec). same_name t.name u.name ≡ false) a b apart.0, apart-front a b apart.1)

-- and so does each front
pub fits-front : (groups : ℕ) (rs rest : List Logged) → FitsLog groups (rs ++ rest) → FitsLog groups rs
fits-front groups rs rest fits =
    let behind : List TableSpec = tables_of (entries_from (pending rs) rest) in
    let made : tables (rs ++ rest) ≡ tables rs ++ behind = tables-more rs rest in
    let count : length (tables (rs ++ rest)) ≡ length (tables rs) + length behind = ap length made ∙ length-append (tables rs) behind in record {
      few = omega (arith, fits.few, count);
      names = apart-front (tables rs) behind (subst AreNamedApart made fits.names);
      grouped = all_front (λ (t : TableSpec). t.group < groups) (tables rs) behind (subst (AllByRecursion (λ (t : TableSpec). t.group < groups)) made fits.grouped);
      times = all_front IsOnTime (entries rs) (entries_from (pending rs) rest) (subst (AllByRecursion IsOnTime) (entries-more rs rest) fits.times);
    }

-- one table more, with a new name
pub apart-more : (made : List TableSpec) (t : TableSpec) → AreNamedApart made → AllByRecursion (λ (u : TableSpec). same_name u.name t.name ≡ false) made → AreNamedApart (made ++ t ∷ [])
apart-more [] t apart new = (tt, tt)
apart-more (u ∷ made) t apart new = (all_joined (λ (v : TableSpec). same_name u.name v.name ≡ false) made (t ∷ []) apart.0 (new.0, tt), apart-more made t apart.1 new.1)
