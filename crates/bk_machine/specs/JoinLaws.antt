-- Records that rise, and logs in two parts.
use Rattle.std.proofs.Common.{◌≡◌, ◌<◌, ℕ, Bool, true, false, cond, List, [], ◌∷◌, ◌++◌, sym, subst, append_assoc, arith}
use Rattle.std.specs.List.{AllByRecursion}
use Rattle.std.proofs.lemmas.List.{append-nil}
use Rattle.bk_ids.specs.declared.guid.Guid.{Guid}
use Rattle.bk_lemmas.specs.Lists.{all_mapped}
use Rattle.bk_world.specs.declared.database.FileSpec.{FileSpec}
use Rattle.bk_world.specs.History.{is_guid}
use Rattle.bk_world.specs.Lines.{LineGrew, RecordLine, RecordLines, line_on}
use Rattle.bk_world.specs.Records.{Logged}
use Rattle.bk_machine.specs.Sound.{ArePlaced, IsSoundLine, RiseFrom}
use Rattle.bk_machine.specs.World.{World}

pub rise-all : (n : ℕ) (rs : List Logged) → RiseFrom n rs → AllByRecursion (λ r. n < r.lsn) rs
rise-all n [] rise = tt
rise-all n (r ∷ rs) rise = (rise.0, all_mapped (λ (s : Logged). r.lsn < s.lsn) (λ (s : Logged). n < s.lsn) (λ s lt. omega (arith, lt, rise.0)) rs (rise-all r.lsn rs rise.1))

pub rise-line : (w : World) (lines : RecordLines) (branch : Guid) → AllByRecursion (IsSoundLine w) lines → RiseFrom 0 (line_on lines branch).records
rise-line w [] branch all = tt
rise-line w (line ∷ lines) branch all = by (is_guid line.branch branch) (rise-line w lines branch all.1)
  where
    by : (t : Bool) → RiseFrom 0 (line_on lines branch).records → RiseFrom 0 (cond t line (line_on lines branch)).records
    by true later = all.0.rises
    by false later = later

-- records that rise, in two parts: those behind lie above all before
pub rise-apart : (n : ℕ) (rs more : List Logged) → RiseFrom n (rs ++ more) → AllByRecursion (λ r. AllByRecursion (λ m. r.lsn < m.lsn) more) rs
rise-apart n [] more rise = tt
rise-apart n (r ∷ rs) more rise = (behind rs (rise-all r.lsn (rs ++ more) rise.1), rise-apart r.lsn rs more rise.1)
  where
    behind : (xs : List Logged) → AllByRecursion (λ (m : Logged). r.lsn < m.lsn) (xs ++ more) → AllByRecursion (λ (m : Logged). r.lsn < m.lsn) more
    behind [] all = all
    behind (x ∷ xs) all = behind xs all.1

pub rise-above : (n : ℕ) (rs more : List Logged) → RiseFrom n (rs ++ more) → AllByRecursion (λ m. n < m.lsn) more
rise-above n rs more rise = behind rs (rise-all n (rs ++ more) rise)
  where
    behind : (xs : List Logged) → AllByRecursion (λ (m : Logged). n < m.lsn) (xs ++ more) → AllByRecursion (λ (m : Logged). n < m.lsn) more
    behind [] all = all
    behind (x ∷ xs) all = behind xs all.1

-- a line whose records rise has grown where records stand behind its old ones
pub grown : (old new : RecordLine) (more : List Logged) → new.records ≡ old.records ++ more → RiseFrom 0 new.records → LineGrew old new
grown old new more is rise =
    let rises : RiseFrom 0 (old.records ++ more) = subst (RiseFrom 0) is rise in
    record { more = more; is = is; above = rise-apart 0 old.records more rises; positive = rise-above 0 old.records more rises }

-- writes that are placed, and further ones behind them
pub placed-join : (files : List FileSpec) (before a b : List Logged) → ArePlaced files before a → ArePlaced files (before ++ a) b → ArePlaced files before (a ++ b)
placed-join files before [] b first then = subst (λ front. ArePlaced files front b) (append-nil before) then
placed-join files before (r ∷ a) b first then =
    (first.0, placed-join files (before ++ r ∷ []) a b first.1 (subst (λ front. ArePlaced files front b) (sym (append_assoc before (r ∷ []) a)) then))
