-- What is found among the databases that are kept is what is found among the world's.
use Rattle.std.proofs.Common.{◌≡◌, ℕ, Bool, true, false, cond, List, [], ◌∷◌, map, Option, Some, None, refl, sym, ◌∙◌, ap, subst, Bor}
use Rattle.std.specs.List.{AllByRecursion, find}
use Rattle.std.specs.Option.{option_map}
use Rattle.std.specs.Prelude.{IfSome}
use Rattle.bk_ids.specs.Name.{same_name}
use Rattle.bk_machine.specs.World.{World, database_named}
use Rattle.bk_kept.specs.declared.kept.Database.{Database as KeptDatabase}
use Rattle.bk_kept.specs.declared.kept.Kept.{Kept}
use Rattle.bk_kept.specs.Keeps.{IsSeenOf, Sees, database_of}

-- the first of a name
abbrev pub first : List ℕ → List KeptDatabase → Option KeptDatabase
first name ks = find (λ d. same_name d.name name) ks

pub first-named : (name : List ℕ) (ks : List KeptDatabase) → option_map database_of (first name ks) ≡ database_named (map database_of ks) name
first-named name [] = refl
first-named name (d ∷ ks) = by (same_name d.name name) (first-named name ks)
  where
    by : (t : Bool) → option_map database_of (first name ks) ≡ database_named (map database_of ks) name
        → option_map database_of (cond t (Some d) (first name ks)) ≡ cond t (Some (database_of d)) (database_named (map database_of ks) name)
    by true later = refl
    by false later = later

-- what holds of all holds of it
pub first-has : (P : KeptDatabase → Type 0) (name : List ℕ) (ks : List KeptDatabase) (k : KeptDatabase) → AllByRecursion P ks → first name ks ≡ Some k → P k
first-has P name [] k all is = absurd cc
first-has P name (d ∷ ks) k all is = by (λ e. first-has P name ks k all.1 e) (same_name d.name name) is
  where
    by : (first name ks ≡ Some k → P k) → (t : Bool) → cond t (Some d) (first name ks) ≡ Some k → P k
    by later true here = let same : d ≡ k = cc in subst P same all.0
    by later false there = later there

-- behind a reference
pub seen-behind : (found : Option (Bor KeptDatabase)) → option_map (λ d. database_of d.now) found ≡ option_map database_of (option_map (λ d. d.now) found)
seen-behind None = refl
seen-behind (Some d) = refl

pub found-named : (w : World) (k : Kept) (name : List ℕ) (found : Option (Bor KeptDatabase)) → option_map (λ d. d.now) found ≡ first name k.databases.items → Sees w k
    → option_map (λ d. database_of d.now) found ≡ database_named w.databases name
found-named w k name found is sees =
    seen-behind found ∙ ap (option_map database_of) is ∙ first-named name k.databases.items ∙ ap (λ dbs. database_named dbs name) (sym sees.databases)

pub found-seen : (w : World) (k : Kept) (name : List ℕ) (found : Option (Bor KeptDatabase)) → option_map (λ d. d.now) found ≡ first name k.databases.items → Sees w k
    → IfSome found (λ d. IsSeenOf w.history d.now)
found-seen w k name None is sees = tt
found-seen w k name (Some d) is sees = first-has (IsSeenOf w.history) name k.databases.items d.now sees.seen (sym is)
