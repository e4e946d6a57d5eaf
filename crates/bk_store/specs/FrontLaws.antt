-- Fronts of a log, and a log with one record more.
use Rattle.std.proofs.Common.{◌≡◌, ◌≤◌, ℕ, zero, suc, ◌+◌, ◌-◌, List, [], ◌∷◌, ◌++◌, length, take, drop, refl, sym, ◌∙◌, ap, subst, arith}
use Rattle.std.specs.Prelude.{min}
use Rattle.std.proofs.lemmas.List.{take-append-drop, take-append-le, length-take, length-append}
use Rattle.bk_known.specs.declared.known.AsOf.{AsOf}
use Rattle.bk_shown.specs.Shown.{ArePlaced, Shows}
use Rattle.bk_shown.specs.declared.shown.Shown.{Shown}
use Rattle.bk_world.specs.declared.database.FileSpec.{FileSpec}
use Rattle.bk_world.specs.CrashLaws.{counts-front, counts-length}
use Rattle.bk_world.specs.Cut.{end_behind}
use Rattle.bk_world.specs.Records.{Counts, Logged}
use Rattle.bk_world.specs.SoundLaws.{follow-front}
use Rattle.bk_world.specs.SoundLogs.{IsSound}
use Rattle.bk_world.specs.Telling as telling
use Rattle.bk_store.specs.Told.{IsAsOf, IsLogIn, below}

pub take-take : {A : Type 0} (j k : ℕ) (xs : List A) → j ≤ k → take j (take k xs) ≡ take j xs
take-take zero k xs low = refl
take-take (suc j) zero xs low = absurd (omega (arith, low))
take-take (suc j) (suc k) [] low = refl
take-take (suc j) (suc k) (x ∷ xs) low = ap (λ (ys : List _). x ∷ ys) (take-take j k xs (omega (arith, low)))

placed-front : (files : List FileSpec) (before a b : List Logged) → ArePlaced files before (a ++ b) → ArePlaced files before a
placed-front files before [] b all = tt
placed-front files before (r ∷ a) b all = (all.0, placed-front files (before ++ r ∷ []) a b all.1)

pub log-front : (files : List FileSpec) (k : ℕ) (rs : List Logged) → IsLogIn files rs → IsLogIn files (take k rs)
log-front files k rs is =
    let both : take k rs ++ drop k rs ≡ rs = take-append-drop k rs in
    record {
      files_are = is.files_are;
      counts = counts-front 1 (end_behind rs) (take k rs) (drop k rs) (subst (λ (l : List Logged). Counts 1 l (end_behind rs)) (sym both) is.counts);
      sound = follow-front [] (take k rs) (drop k rs) (subst IsSound (sym both) is.sound);
      placed = placed-front files [] (take k rs) (drop k rs) (subst (ArePlaced files []) (sym both) is.placed);
    }

-- what is shown is a log in its files
pub shown-log : (files : List FileSpec) (rs : List Logged) (s : Shown) → Shows files rs s → IsLogIn files rs
shown-log files rs s shows = record {
  files_are = shows.files_are;
  counts = subst (Counts 1 rs) (counts-length 1 rs s.end shows.log.counts) shows.log.counts;
  sound = shows.log.sound;
  placed = shows.placed;
}

pub shown-end : (files : List FileSpec) (rs : List Logged) (s : Shown) → Shows files rs s → s.end ≡ end_behind rs
shown-end files rs s shows = counts-length 1 rs s.end shows.log.counts

-- what the records below a number say is what those of a front say that has them all
as_of-by : (a : AsOf) (rs other : List Logged) → IsAsOf a rs → below a.from other ≡ below a.from rs → a.from ≤ end_behind other → IsAsOf a other
as_of-by a rs other is same inside = record {
  some = is.some;
  inside = inside;
  tables = is.tables ∙ ap telling.tables (sym same);
  model = is.model ∙ ap telling.model (sym same);
  time = is.time ∙ ap telling.time (sym same);
}

pub as_of-front : (a : AsOf) (k : ℕ) (rs : List Logged) → IsAsOf a rs → a.from ≤ k + 1 → IsAsOf a (take k rs)
as_of-front a k rs is low =
    let size : length (take k rs) ≡ min k (length rs) = length-take k rs in
    as_of-by a rs (take k rs) is (take-take (a.from - 1) k rs (omega (arith, low))) (omega (arith, size, low, is.inside))

pub as_of-more : (a : AsOf) (rs more : List Logged) → IsAsOf a rs → IsAsOf a (rs ++ more)
as_of-more a rs more is =
    as_of-by a rs (rs ++ more) is (take-append-le (a.from - 1) rs more (omega (arith, is.inside))) (omega (arith, is.inside, length-append rs more))
