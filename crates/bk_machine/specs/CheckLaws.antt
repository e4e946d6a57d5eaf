-- What is known behind checks that were passed.
use Rattle.std.proofs.Common.{◌≡◌, Bool, true, false, ◌||◌, Option, Some, None, refl, sym, subst}
use Rattle.std.specs.Prelude.{is_some, Ok, Err}
use Rattle.bk_world.specs.declared.database.Status.{Status}
use Rattle.bk_world.specs.declared.database.Status.TheVariants as status
use Rattle.bk_world.specs.declared.rule.Rule.{Rule}
use Rattle.bk_machine.specs.Checks.{Checked, ◌>>=◌, refuse_if, or_refuse, online, online_by, word_of}
use Rattle.bk_machine.specs.Outcome.{Outcome, ComesTo, refused}
use Rattle.bk_machine.specs.World.{Database}

-- a check that is followed by others was passed, and then they were
pub record Passed {A B : Type 0} (first : Checked A) (next : A → Checked B) (b : B) : Type 0 where
  pub found : A
  pub is : first ≡ Ok found
  pub then : next found ≡ Ok b

pub passed : {A B : Type 0} (first : Checked A) (next : A → Checked B) (b : B) → (first >>= next) ≡ Ok b → Passed first next b
passed (Err rule) next b e = absurd cc
passed (Ok a) next b e = record { found = a; is = refl; then = e }

-- a test that isn't refused doesn't hold
pub not-refused : (test : Bool) (rule : Rule) (u : Unit {0}) → refuse_if test rule ≡ Ok u → test ≡ false
not-refused true rule u e = absurd cc
not-refused false rule u e = refl

-- what isn't refused was found
pub was-found : {A : Type 0} (o : Option A) (rule : Rule) (a : A) → or_refuse o rule ≡ Ok a → o ≡ Some a
was-found None rule a e = absurd cc
was-found (Some b) rule a e = let same : b ≡ a = cc in cc

-- of two tests of which none holds, the first doesn't, and the second doesn't; nor does the third of three
pub second-false : (a b : Bool) → (a || b) ≡ false → b ≡ false
second-false true b e = absurd cc
second-false false b e = e

pub third-false : (a b c : Bool) → (a || b || c) ≡ false → c ≡ false
third-false true b c e = absurd cc
third-false false true c e = absurd cc
third-false false false c e = e

pub is-none : {A : Type 0} (o : Option A) → is_some o ≡ false → o ≡ None
is-none None e = refl
is-none (Some a) e = absurd cc

-- a database that passed is the one that was asked for, and online
pub record Up (asked db : Database) : Type 0 where
  pub is : asked ≡ db
  pub online : asked.status ≡ status.Online
  pub up : db.status ≡ status.Online

pub was-online : (asked db : Database) → online asked ≡ Ok db → Up asked db
was-online asked db e = by asked.status refl e
  where
    by : (s : Status) → asked.status ≡ s → online_by (word_of s asked.units) asked ≡ Ok db → Up asked db
    by status.Online is e =
        let same : asked ≡ db = cc in
        record { is = same; online = is; up = subst (λ (x : Database). x.status ≡ status.Online) same is }
    by (status.Standby file) is e = absurd cc
    by status.Down is e = absurd cc

-- What holds of refusals and of what checks lead to holds of all that they come to.
pub comes-to : {A : Type 0} (P : Outcome → Type 0) (checked : Checked A) (may : A → Outcome → Type 0) → ((rule : Rule) → P (refused rule))
    → ((found : A) → checked ≡ Ok found → (outcome : Outcome) → may found outcome → P outcome) → (outcome : Outcome) → ComesTo checked may outcome → P outcome
comes-to P (Err rule) may refusal leads outcome is = subst P (sym is) (refusal rule)
comes-to P (Ok found) may refusal leads outcome does = leads found refl outcome does
