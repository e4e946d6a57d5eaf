-- What waits in memory may be lost.
use Rattle.std.proofs.Common.{◌≡◌, ◌<◌, ℕ, Bool, true, false, List, [], ◌∷◌, ◌++◌, None, refl, subst, arith}
use Rattle.std.specs.Prelude.{◌==◌, ◌||◌}
use Rattle.std.specs.List.{AllByRecursion}
use Rattle.std.proofs.lemmas.Bool.Decides.{nat_tests}
use Rattle.bk_lemmas.specs.Lists.{all_mapped}
use Rattle.bk_machine.specs.Sound.{has_begin}
use Rattle.bk_world.specs.declared.transaction.Open.{Open}
use Rattle.bk_world.specs.Cut.{is_among}
use Rattle.bk_world.specs.Records.{Logged}
use Rattle.bk_world.specs.SoundLogs.{NoLoadPends}
use Rattle.bk_world.specs.Telling.{telling}
use Rattle.bk_hosted.specs.Fronts.{IsFrontOf, Waits}
use Rattle.bk_hosted.specs.Hosted.{Hosted, is_up}

-- what holds of the begin of each transaction holds of a begin that one of them has
of-begin : (P : ℕ → Type 0) (ts : List Open) (n : ℕ) → AllByRecursion (λ (t : Open). P t.begin) ts → has_begin ts n ≡ true → P n
of-begin P [] n all there = absurd (cc)
of-begin P (t ∷ ts) n all there = by (t.begin == n) refl there (of-begin P ts n all.1)
  where
    by : (b : Bool) → (t.begin == n) ≡ b → (b || has_begin ts n) ≡ true → (has_begin ts n ≡ true → P n) → P n
    by true is there later = let same : t.begin ≡ n = grind (arith, nat_tests, is) in subst P same all.0
    by false is there later = later there

-- where nothing is open, nothing waits
none-waits : (lost : List Logged) → AllByRecursion (Waits []) lost → lost ≡ []
none-waits [] all = refl
none-waits (r ∷ lost) all = absurd (cc (all.0.of_open))

pub front-waits : (begins : List ℕ) (h : Hosted) (records lost : List Logged) → h.records ≡ records ++ lost → AllByRecursion (Waits h.transactions) lost
    → AllByRecursion (λ (t : Open). is_among begins t.begin ≡ true) h.transactions → (is_up h ≡ true → NoLoadPends records) → (is_up h ≡ false → h.transactions ≡ []) → IsFrontOf begins h (record h { records = records })
front-waits begins h records lost splits waits among loads idle = record {
  same = refl;
  lost = lost;
  splits = splits;
  of_open = all_mapped (Waits h.transactions) (λ (r : Logged). is_among begins r.begin ≡ true) (λ r one. of-begin (λ (n : ℕ). is_among begins n ≡ true) h.transactions r.begin among one.of_open) lost waits;
  of_some = all_mapped (Waits h.transactions) (λ (r : Logged). 0 < r.begin) (λ r one. one.some) lost waits;
  quiet = all_mapped (Waits h.transactions) (λ (r : Logged). telling r.deed ≡ None) (λ r one. one.quiet) lost waits;
  loads = loads;
  whole = λ down. none-waits lost (subst (λ (ts : List Open). AllByRecursion (Waits ts) lost) (idle down) waits);
}
