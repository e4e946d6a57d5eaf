-- Databases by name: the one that is found, the others beside it, and all of them where one changes, comes or goes.
use Rattle.std.proofs.Common.{◌≡◌, ◌≢◌, ℕ, Bool, true, false, cond, List, [], ◌∷◌, ◌++◌, None, Some, refl, sym, ◌∙◌, ap, subst}
use Rattle.std.specs.List.{AllByRecursion}
use Rattle.std.specs.Str.{bytes_eq}
use Rattle.std.proofs.lemmas.Slice.Eq.{bytes_eq-Decides}
use Rattle.bk_ids.specs.Name.{same_name, lowered}
use Rattle.bk_lemmas.specs.Lists.{all_both, all_mapped}
use Rattle.bk_world.specs.SameLaws.{same_name-refl}
use Rattle.bk_machine.specs.Sound.{Differ, AreDifferent}
use Rattle.bk_machine.specs.World.{Database, database_named, with_database, without_database, with_new_database}

-- Names.

pub named-same : (a b : List ℕ) → same_name a b ≡ true → lowered a ≡ lowered b
named-same a b is = (bytes_eq-Decides (lowered a) (lowered b)).0 is

pub same-named : (a b : List ℕ) → lowered a ≡ lowered b → same_name a b ≡ true
same-named a b is = (bytes_eq-Decides (lowered a) (lowered b)).1 is

pub named-apart : (a b : List ℕ) → same_name a b ≡ false → lowered a ≢ lowered b
named-apart a b apart same = let yes : same_name a b ≡ true = same-named a b same in cc

pub apart-named : (a b : List ℕ) → lowered a ≢ lowered b → same_name a b ≡ false
apart-named a b apart = by (same_name a b) refl
  where
    by : (t : Bool) → same_name a b ≡ t → same_name a b ≡ false
    by true is = absurd (apart (named-same a b is))
    by false is = is

pub differ-sym : {a b : Database} → Differ a b → Differ b a
differ-sym is = record { names = λ same. is.names (sym same); branches = λ one other same. is.branches other one (sym same); sets = λ job one other two same. is.sets other two job one (sym same) }

-- The database of a name.

-- what holds of all holds of it
pub of-named : (P : Database → Type 0) (dbs : List Database) (name : List ℕ) (db : Database) → AllByRecursion P dbs → database_named dbs name ≡ Some db → P db
of-named P [] name db all is = absurd cc
of-named P (d ∷ dbs) name db all is = by (of-named P dbs name db all.1) (same_name d.name name) is
  where
    by : (database_named dbs name ≡ Some db → P db) → (t : Bool) → cond t (Some d) (database_named dbs name) ≡ Some db → P db
    by later true here = let same : d ≡ db = cc in subst P same all.0
    by later false there = later there

-- it has that name
pub name-of-named : (dbs : List Database) (name : List ℕ) (db : Database) → database_named dbs name ≡ Some db → lowered db.name ≡ lowered name
name-of-named [] name db is = absurd cc
name-of-named (d ∷ dbs) name db is = by (name-of-named dbs name db) (same_name d.name name) refl is
  where
    by : (database_named dbs name ≡ Some db → lowered db.name ≡ lowered name) → (t : Bool) → same_name d.name name ≡ t → cond t (Some d) (database_named dbs name) ≡ Some db
        → lowered db.name ≡ lowered name
    by later true same here = let is_it : d ≡ db = cc in subst (λ (x : Database). lowered x.name ≡ lowered name) is_it (named-same d.name name same)
    by later false same there = later there

-- the same name finds the same database
pub named-alike : (dbs : List Database) (name other : List ℕ) → lowered name ≡ lowered other → database_named dbs name ≡ database_named dbs other
named-alike [] name other same = refl
named-alike (d ∷ dbs) name other same =
    let test : same_name d.name name ≡ same_name d.name other = ap (bytes_eq (lowered d.name)) same in
    λ x. cond (test x) (Some d) (named-alike dbs name other same x)

-- it is found by its own name
pub named-own : (dbs : List Database) (name : List ℕ) (db : Database) → database_named dbs name ≡ Some db → database_named dbs db.name ≡ Some db
named-own dbs name db is = named-alike dbs db.name name (name-of-named dbs name db is) ∙ is

-- where none has the name, all have others
pub none-named : (dbs : List Database) (name : List ℕ) → database_named dbs name ≡ None → AllByRecursion (λ (o : Database). lowered o.name ≢ lowered name) dbs
none-named [] name none = tt
none-named (d ∷ dbs) name none = by (none-named dbs name) (same_name d.name name) refl none
  where
    by : (database_named dbs name ≡ None → AllByRecursion (λ (o : Database). lowered o.name ≢ lowered name) dbs) → (t : Bool) → same_name d.name name ≡ t
        → cond t (Some d) (database_named dbs name) ≡ None → AllByRecursion (λ (o : Database). lowered o.name ≢ lowered name) (d ∷ dbs)
    by later true same e = absurd cc
    by later false same e = (named-apart d.name name same, later e)

-- One of them changes.

-- it is found, changed, where its name stays
pub named-changed : (dbs : List Database) (name : List ℕ) (db : Database) (change : Database → Database) → lowered (change db).name ≡ lowered db.name → database_named dbs name ≡ Some db
    → database_named (with_database dbs name change) name ≡ Some (change db)
named-changed [] name db change stays is = absurd cc
named-changed (d ∷ dbs) name db change stays is = by (named-changed dbs name db change stays) (same_name d.name name) refl is
  where
    by : (database_named dbs name ≡ Some db → database_named (with_database dbs name change) name ≡ Some (change db)) → (t : Bool) → same_name d.name name ≡ t
        → cond t (Some d) (database_named dbs name) ≡ Some db → database_named (cond t (change d ∷ dbs) (d ∷ with_database dbs name change)) name ≡ Some (change db)
    by later true same e =
        let is_it : d ≡ db = cc in
        let yes : same_name (change d).name name ≡ true = same-named (change d).name name (ap (λ x. lowered (change x).name) is_it ∙ stays ∙ sym (ap (λ (x : Database). lowered x.name) is_it) ∙ named-same d.name name same) in
        ap (λ t. cond t (Some (change d)) (database_named dbs name)) yes ∙ ap (λ x. Some (change x)) is_it
    by later false same e = ap (λ t. cond t (Some d) (database_named (with_database dbs name change) name)) same ∙ later e

-- those of other names stay
pub named-beside : (dbs : List Database) (name other : List ℕ) (change : Database → Database) → ((o : Database) → lowered (change o).name ≡ lowered o.name) → lowered name ≢ lowered other
    → database_named (with_database dbs name change) other ≡ database_named dbs other
named-beside [] name other change stays apart = refl
named-beside (d ∷ dbs) name other change stays apart = by (named-beside dbs name other change stays apart) (same_name d.name name) refl
  where
    by : database_named (with_database dbs name change) other ≡ database_named dbs other → (t : Bool) → same_name d.name name ≡ t
        → database_named (cond t (change d ∷ dbs) (d ∷ with_database dbs name change)) other ≡ database_named (d ∷ dbs) other
    by later true same =
        let is : lowered d.name ≡ lowered name = named-same d.name name same in
        let one : same_name (change d).name other ≡ false = apart-named (change d).name other (λ e. apart (sym is ∙ sym (stays d) ∙ e)) in
        let two : same_name d.name other ≡ false = apart-named d.name other (λ e. apart (sym is ∙ e)) in
        ap (λ t. cond t (Some (change d)) (database_named dbs other)) one ∙ sym (ap (λ t. cond t (Some d) (database_named dbs other)) two)
    by later false same = ap (λ rest. cond (same_name d.name other) (Some d) rest) later

-- all of them
pub all-with : (P Q : Database → Type 0) (dbs : List Database) (name : List ℕ) (change : Database → Database) → AllByRecursion P dbs → ((o : Database) → P o → Q (change o)) → ((o : Database) → P o → Q o)
    → AllByRecursion Q (with_database dbs name change)
all-with P Q [] name change all changed others = tt
all-with P Q (d ∷ dbs) name change all changed others = by (all-with P Q dbs name change all.1 changed others) (same_name d.name name)
  where
    by : AllByRecursion Q (with_database dbs name change) → (t : Bool) → AllByRecursion Q (cond t (change d ∷ dbs) (d ∷ with_database dbs name change))
    by later true = (changed d all.0, all_mapped P Q others dbs all.1)
    by later false = (others d all.0, later)

-- where they are different: the one that is found, and each that differs from it
pub all-changed : (P Q : Database → Type 0) (dbs : List Database) (name : List ℕ) (db : Database) (change : Database → Database) → AllByRecursion P dbs → AreDifferent dbs → database_named dbs name ≡ Some db
    → (P db → Q (change db)) → ((o : Database) → P o → Differ db o → Q o) → AllByRecursion Q (with_database dbs name change)
all-changed P Q [] name db change all apart is here others = tt
all-changed P Q (d ∷ dbs) name db change all apart is here others = by (λ e. all-changed P Q dbs name db change all.1 apart.1 e here others) (same_name d.name name) is
  where
    rest : (ds : List Database) → AllByRecursion P ds → AllByRecursion (Differ db) ds → AllByRecursion Q ds
    rest [] a b = tt
    rest (o ∷ ds) a b = (others o a.0 b.0, rest ds a.1 b.1)

    by : (database_named dbs name ≡ Some db → AllByRecursion Q (with_database dbs name change)) → (t : Bool) → cond t (Some d) (database_named dbs name) ≡ Some db
        → AllByRecursion Q (cond t (change d ∷ dbs) (d ∷ with_database dbs name change))
    by later true e =
        let same : d ≡ db = cc in
        (subst (λ x. P x → Q (change x)) (sym same) here all.0, rest dbs all.1 (subst (λ x. AllByRecursion (Differ x) dbs) same apart.0))
    by later false e = (others d all.0 (differ-sym (of-named (Differ d) dbs name db apart.0 e)), later e)

-- it differs from all of other names
pub differs-named : (dbs : List Database) (name : List ℕ) (db : Database) → AreDifferent dbs → database_named dbs name ≡ Some db → AllByRecursion (λ (o : Database). lowered o.name ≢ lowered db.name → Differ db o) dbs
differs-named [] name db apart is = tt
differs-named (d ∷ dbs) name db apart is = by (differs-named dbs name db apart.1) (same_name d.name name) is
  where
    by : (database_named dbs name ≡ Some db → AllByRecursion (λ (o : Database). lowered o.name ≢ lowered db.name → Differ db o) dbs) → (t : Bool) → cond t (Some d) (database_named dbs name) ≡ Some db
        → AllByRecursion (λ (o : Database). lowered o.name ≢ lowered db.name → Differ db o) (d ∷ dbs)
    by later true e =
        let same : d ≡ db = cc in
        (λ other. absurd (other (ap (λ (x : Database). lowered x.name) same)), all_mapped (Differ d) (λ (o : Database). lowered o.name ≢ lowered db.name → Differ db o) (λ o differ other. subst (λ x. Differ x o) same differ) dbs apart.0)
    by later false e = (λ other. differ-sym (of-named (Differ d) dbs name db apart.0 e), later e)

pub different-with : (dbs : List Database) (name : List ℕ) (change : Database → Database) → ((o other : Database) → Differ o other → Differ (change o) other) → AreDifferent dbs → AreDifferent (with_database dbs name change)
different-with [] name change still all = tt
different-with (d ∷ dbs) name change still all = by (different-with dbs name change still all.1) (same_name d.name name)
  where
    by : AreDifferent (with_database dbs name change) → (t : Bool) → AreDifferent (cond t (change d ∷ dbs) (d ∷ with_database dbs name change))
    by later true = (all_mapped (Differ d) (Differ (change d)) (still d) dbs all.0, all.1)
    by later false = (all-with (Differ d) (Differ d) dbs name change all.0 (λ o apart. differ-sym (still o d (differ-sym apart))) (λ o a. a), later)

pub different-changed : (P : Database → Type 0) (dbs : List Database) (name : List ℕ) (db : Database) (change : Database → Database) → AllByRecursion P dbs → AreDifferent dbs → database_named dbs name ≡ Some db
    → ((o : Database) → P o → Differ db o → Differ (change db) o) → AreDifferent (with_database dbs name change)
different-changed P [] name db change all apart is still = tt
different-changed P (d ∷ dbs) name db change all apart is still = by (λ e. different-changed P dbs name db change all.1 apart.1 e still) (same_name d.name name) is
  where
    mapped : (ds : List Database) → AllByRecursion P ds → AllByRecursion (Differ db) ds → AllByRecursion (Differ (change db)) ds
    mapped [] a b = tt
    mapped (o ∷ ds) a b = (still o a.0 b.0, mapped ds a.1 b.1)

    by : (database_named dbs name ≡ Some db → AreDifferent (with_database dbs name change)) → (t : Bool) → cond t (Some d) (database_named dbs name) ≡ Some db
        → AreDifferent (cond t (change d ∷ dbs) (d ∷ with_database dbs name change))
    by later true e =
        let same : d ≡ db = cc in
        (subst (λ x. AllByRecursion (Differ (change x)) dbs) (sym same) (mapped dbs all.1 (subst (λ x. AllByRecursion (Differ x) dbs) same apart.0)), apart.1)
    by later false e = (
      all-changed (Differ d) (Differ d) dbs name db change apart.0 apart.1 e (λ one. differ-sym (still d all.0 (differ-sym one))) (λ o a b. a),
      later e,
    )

-- One of them goes.

pub all-without : (P : Database → Type 0) (dbs : List Database) (name : List ℕ) → AllByRecursion P dbs → AllByRecursion P (without_database dbs name)
all-without P [] name all = tt
all-without P (d ∷ dbs) name all = by (same_name d.name name) (all-without P dbs name all.1)
  where
    by : (t : Bool) → AllByRecursion P (without_database dbs name) → AllByRecursion P (cond t dbs (d ∷ without_database dbs name))
    by true later = all.1
    by false later = (all.0, later)

pub different-without : (dbs : List Database) (name : List ℕ) → AreDifferent dbs → AreDifferent (without_database dbs name)
different-without [] name all = tt
different-without (d ∷ dbs) name all = by (same_name d.name name) (different-without dbs name all.1)
  where
    by : (t : Bool) → AreDifferent (without_database dbs name) → AreDifferent (cond t dbs (d ∷ without_database dbs name))
    by true later = all.1
    by false later = (all-without (Differ d) dbs name all.0, later)

-- One comes.

pub all-placed : (P Q : Database → Type 0) (dbs : List Database) (new : Database) → AllByRecursion P dbs → Q new → ((o : Database) → P o → Q o) → AllByRecursion Q (with_new_database dbs new)
all-placed P Q [] new all here others = (here, tt)
all-placed P Q (d ∷ dbs) new all here others = by (same_name d.name new.name) (all-placed P Q dbs new all.1 here others)
  where
    by : (t : Bool) → AllByRecursion Q (with_new_database dbs new) → AllByRecursion Q (cond t (new ∷ dbs) (d ∷ with_new_database dbs new))
    by true later = (here, all_mapped P Q others dbs all.1)
    by false later = (others d all.0, later)

pub all-one_more : (P : Database → Type 0) (dbs : List Database) (new : Database) → AllByRecursion P dbs → P new → AllByRecursion P (dbs ++ new ∷ [])
all-one_more P [] new all here = (here, tt)
all-one_more P (d ∷ dbs) new all here = (all.0, all-one_more P dbs new all.1 here)

-- it differs from all of other names
pub different-placed : (dbs : List Database) (new : Database) → AreDifferent dbs → ((o : Database) → lowered o.name ≢ lowered new.name → Differ new o) → AreDifferent (with_new_database dbs new)
different-placed [] new all apart = (tt, tt)
different-placed (d ∷ dbs) new all apart = by (same_name d.name new.name) refl (different-placed dbs new all.1 apart)
  where
    by : (t : Bool) → same_name d.name new.name ≡ t → AreDifferent (with_new_database dbs new) → AreDifferent (cond t (new ∷ dbs) (d ∷ with_new_database dbs new))
    by true same later = (all_mapped (Differ d) (Differ new) (λ o one. apart o (λ e. one.names (named-same d.name new.name same ∙ sym e))) dbs all.0, all.1)
    by false same later = (all-placed (Differ d) (Differ d) dbs new all.0 (differ-sym (apart d (named-apart d.name new.name same))) (λ o a. a), later)

pub different-one_more : (dbs : List Database) (new : Database) → AreDifferent dbs → AllByRecursion (λ o. Differ o new) dbs → AreDifferent (dbs ++ new ∷ [])
different-one_more [] new all apart = (tt, tt)
different-one_more (d ∷ dbs) new all apart = (all-one_more (Differ d) dbs new all.0 apart.0, different-one_more dbs new all.1 apart.1)

-- Where they are different each is found by its own name.
pub named-each : (dbs : List Database) → AreDifferent dbs → AllByRecursion (λ (db : Database). database_named dbs db.name ≡ Some db) dbs
named-each [] different = tt
named-each (d ∷ ds) different = (
  ap (λ t. cond t (Some d) (database_named ds d.name)) (same_name-refl d.name),
  all_both (Differ d) (λ (db : Database). database_named ds db.name ≡ Some db) (λ (db : Database). database_named (d ∷ ds) db.name ≡ Some db)
      (λ x apart is. ap (λ t. cond t (Some d) (database_named ds x.name)) (apart-named d.name x.name apart.names) ∙ is) ds different.0 (named-each ds different.1),
)
