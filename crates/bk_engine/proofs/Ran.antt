-- An instance among whose databases backups run.
use Rattle.std.proofs.Common.{◌≡◌, ◌≤◌, ◌+◌, ◌∙◌, ℕ, Bool, true, false, List, [], ◌∷◌, length, map, Option, Some, None, refl, sym, ap, subst, arith}
use Rattle.std.specs.Option.{option_map}
use Rattle.std.proofs.lemmas.Option.{slice_get-map}
use Rattle.std.specs.Prelude.{slice_get, IfOk, IfSome, Result, Ok, Err, if◌then◌else◌}
use Rattle.std.specs.List.{AllByRecursion, position}
use Rattle.bk_device.specs.Disk.{Disk}
use Rattle.bk_hosted.specs.Hosted.{Hosted, Hosts, database_of, names}
use Rattle.bk_hosted.specs.PlaceLaws.{named-there}
use Rattle.bk_hosting.specs.Hosting.{IsReady as AreReady, own_of, Kept as KeptHosting}
use Rattle.bk_ids.specs.declared.guid.Guid.{Guid}
use Rattle.bk_machine.specs.Acts.{done, jobs_dropped}
use Rattle.bk_machine.specs.declared.job.Job.{Job}
use Rattle.bk_machine.specs.World.{Database, World, database_named}
use Rattle.bk_master.specs.declared.record.Own.{Own}
use Rattle.bk_stores.specs.Standing.{AreStanding}
use Rattle.bk_stores.specs.Stores.{Kept as KeptStores}
use Rattle.bk_volume.specs.Staging.{HoldsParts, IsStaged, Staging, staged}
use Rattle.bk_engine.specs.Stands.{IsReady, Kept, NamesSet, StandsFor, own_in}
use Rattle.bk_engine.specs.Viewing.{Remembers}
use Rattle.bk_engine.proofs.Named.{found-at}

-- ---- the backup of a name

-- the one that is given is that of the database, where it is the one that is kept
pub named-some : {X : Type 0} (f : X → Job) (o : Option X) (e : Kept) (name : List ℕ) → ((w : World) (db : Database) → Remembers e w → database_named w.databases name ≡ Some db → option_map f o ≡ db.job)
    → IfSome o (λ (x : X). (w : World) (db : Database) → Remembers e w → database_named w.databases name ≡ Some db → db.job ≡ Some (f x))
named-some f None e name is = tt
named-some f (Some x) e name is = λ w db knows there. sym (is w db knows there)

-- ---- what hosts the same stores

module _ (e : Kept) (x : KeptHosting) (stores : x.stores ≡ e.hosting.stores) where
  pub same-own : own_of x ≡ own_in e
  same-own = ap (λ (s : KeptStores). s.master.record.own) stores

  pub ready-same : IsReady e → AreReady x → IsReady (record e { hosting = x })
  ready-same ready hosting = record {
    hosting = hosting;
    no_medium = ap (λ (o : Own). o.making) same-own ∙ ready.no_medium;
    no_less = subst (λ (o : Own). e.drawn ≤ o.counter) (sym same-own) ready.no_less;
    no_more = subst (λ (o : Own). o.counter ≤ e.drawn + 1024) (sym same-own) ready.no_more;
  }

  pub standing-same : (disk : Disk) → AreStanding disk e.hosting.stores → AreStanding disk x.stores
  standing-same disk is = subst (AreStanding disk) (sym stores) is

-- ---- databases of which no backup runs

pub none-run : (hosted : List Hosted) → AllByRecursion (λ (h : Hosted). h.job ≡ None) hosted → AllByRecursion (λ (db : Database). db.job ≡ None) (map database_of hosted)
none-run [] none = tt
none-run (h ∷ hosted) none = (none.0, none-run hosted none.1)

-- ---- results

-- what holds where there is no error, from what holds there
pub ok-then : {A E : Type 0} {P Q : A → Type 0} (result : Result A E) → ((value : A) → P value → Q value) → IfOk result P → IfOk result Q
ok-then (Ok value) next is = next value is
ok-then (Err error) next is = tt

pub ok-both : {A E : Type 0} {P Q R : A → Type 0} (result : Result A E) → ((value : A) → P value → Q value → R value) → IfOk result P → IfOk result Q → IfOk result R
ok-both (Ok value) next one two = next value one two
ok-both (Err error) next one two = tt

-- the record names the set still
pub names-then : (set : Option Guid) (old mid new : Kept) → NamesSet set old mid → NamesSet (own_in mid).staging mid new → NamesSet set old new
names-then set old mid new one two = (two.0 ∙ one.0, two.1 ∙ one.1)

-- no backup runs any more, where one ran
pub dropped-by : (ran : Bool) (disk : Disk) (e : Kept) (w : World) → StandsFor disk e (done w jobs_dropped) → (ran ≡ false → StandsFor disk e w) → StandsFor disk e (if ran then done w jobs_dropped else w)
dropped-by true disk e w dropped none = dropped
dropped-by false disk e w dropped none = none refl

-- ---- places

-- the database of a name at the place of the hosted one
pub place-there : (w : World) (name : List ℕ) (hosted : List Hosted) (at : ℕ) (db : Database) → Hosts w hosted → position (names name) hosted ≡ Some at → database_named w.databases name ≡ Some db → slice_get w.databases at ≡ Some db
place-there w name hosted at db hosts place found =
    let there = found-at name hosted at place in
    let named = named-there w name hosted at there.0 hosts place there.1 in
    subst (λ (dbs : List Database). slice_get dbs at ≡ Some db) (sym hosts.same)
    (slice_get-map database_of hosted at ∙ ap (λ (o : Option Hosted). option_map database_of o) there.1 ∙ sym named.0 ∙ found)

-- ---- sets

-- one in whose file nothing is
pub none-staged : (disk : Disk) (set : Staging) → HoldsParts disk set [] [] → IsStaged disk set
none-staged disk set parts =
    let size : length (staged disk set) ≡ 0 = ap (λ (bs : List ℕ). length bs) parts.bytes in
    let none = parts.count in
    let short = parts.size in
    omega (arith, size, none, short)
