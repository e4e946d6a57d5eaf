-- Sound logs of databases: their fronts, and what comes behind them.
use Rattle.std.proofs.Common.{◌≡◌, ℕ, ◌+◌, List, [], ◌∷◌, ◌++◌, length, refl, sym, ◌∙◌, ap, subst, append_assoc}
use Rattle.std.proofs.lemmas.List.{append-nil}
use Rattle.bk_world.specs.declared.database.FileSpec.{FileSpec}
use Rattle.bk_world.specs.declared.database.TableSpec.{TableSpec}
use Rattle.bk_world.specs.Entry.{Entry}
use Rattle.bk_world.specs.Pending.{pending}
use Rattle.bk_world.specs.ReadingLaws.{entries-more}
use Rattle.bk_world.specs.Records.{Counts, Logged, Said, more, numbered}
use Rattle.bk_world.specs.Rows.{table_of, tables_of}
use Rattle.bk_world.specs.SoundLogs.{MayFollow}
use Rattle.bk_world.specs.Telling.{entries, entries_from, tables}
use Rattle.bk_world.specs.SoundLaws.{follow-front, follow-join}
use Rattle.bk_machine.specs.JoinLaws.{placed-join}
use Rattle.bk_machine.specs.Sound.{AreNumbered, ArePlaced, IsLog}
use Rattle.bk_machine.proofs.Histories.{counts-more}

-- Tables.

pub tables_of-append : (es fs : List Entry) → tables_of (es ++ fs) ≡ tables_of es ++ tables_of fs
tables_of-append [] fs = refl
tables_of-append (e ∷ es) fs = ap (λ ts. table_of e.change ++ ts) (tables_of-append es fs) ∙ sym (append_assoc (table_of e.change) (tables_of es) (tables_of fs))

pub tables-more : (rs ss : List Logged) → tables (rs ++ ss) ≡ tables rs ++ tables_of (entries_from (pending rs) ss)
unfolding tables
tables-more rs ss = ap tables_of (entries-more rs ss) ∙ tables_of-append (entries rs) (entries_from (pending rs) ss)

-- records that tell nothing make no table
pub tables-quiet : (rs ss : List Logged) → entries_from (pending rs) ss ≡ [] → tables (rs ++ ss) ≡ tables rs
tables-quiet rs ss quiet = tables-more rs ss ∙ ap (λ es. tables rs ++ tables_of es) quiet ∙ append-nil (tables rs)

pub numbered-front : (n : ℕ) (a b : List TableSpec) → AreNumbered n (a ++ b) → AreNumbered n a
numbered-front n [] b are = tt
numbered-front n (t ∷ a) b are = (are.0, numbered-front (n + 1) a b are.1)

-- Places.

pub placed-front : (files : List FileSpec) (before a b : List Logged) → ArePlaced files before (a ++ b) → ArePlaced files before a
placed-front files before [] b are = tt
placed-front files before (r ∷ a) b are = (are.0, placed-front files (before ++ r ∷ []) a b are.1)

-- Logs.

-- a front of a sound log, up to an end
pub log-of-front : (files : List FileSpec) (rs rest : List Logged) (n end : ℕ) → Counts 1 rs n → IsLog files (rs ++ rest) end → IsLog files rs n
log-of-front files rs rest n end counts is = record {
  counts = counts;
  sound = follow-front [] rs rest is.sound;
  tables = numbered-front 1 (tables rs) (tables_of (entries_from (pending rs) rest)) (subst (AreNumbered 1) (tables-more rs rest) is.tables);
  places = placed-front files [] rs rest is.places;
}

-- a sound log with more said behind its end
pub log-of-more : (files : List FileSpec) (rs : List Logged) (end : ℕ) (said : List Said) → IsLog files rs end → MayFollow rs (numbered end said) → AreNumbered 1 (tables (more rs end said)) → ArePlaced files rs (numbered end said)
    → IsLog files (more rs end said) (end + length said)
log-of-more files rs end said is may numbers places = record {
  counts = counts-more rs end said is.counts;
  sound = follow-join [] rs (numbered end said) is.sound may;
  tables = numbers;
  places = placed-join files [] rs (numbered end said) is.places places;
}
