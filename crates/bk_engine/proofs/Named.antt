-- The hosted database of a name, and the world's.
use Rattle.std.proofs.Common.{◌≡◌, ◌<◌, ℕ, Bool, true, List, [], ◌∷◌, length, map, Option, Some, refl, sym, ap, subst, ◌∙◌}
use Rattle.std.specs.Prelude.{slice_get, Result, Ok, Err, OnOk}
use Rattle.std.specs.List.{AllByRecursion, position}
use Rattle.std.proofs.lemmas.List.Quantifiers.{position-Some}
use Rattle.std.proofs.lemmas.Option.{same_Some}
use Rattle.bk_device.specs.Compose.{effect_weaken}
use Rattle.bk_device.specs.Disk.{Disk, Files}
use Rattle.bk_device.specs.Effects.{Effect}
use Rattle.bk_hosted.specs.Fronts.{Waits}
use Rattle.bk_hosted.specs.Hosted.{Hosted, Hosts, IsHosted, database_of, is_up, names}
use Rattle.bk_hosted.specs.PlaceLaws.{named-there}
use Rattle.bk_hosting.specs.Hosting.{MaySayNow}
use Rattle.bk_ids.specs.declared.record.Rec.{Rec}
use Rattle.bk_machine.specs.MayDo.{HoldsOf, MayLog}
use Rattle.bk_machine.specs.Sound.{has_begin}
use Rattle.bk_machine.specs.World.{Database, World, database_named, log_of}
use Rattle.bk_machine.specs.statements.Restore.{is_online}
use Rattle.bk_shown.specs.Shown.{AreNext}
use Rattle.bk_stores.specs.ListLaws.{got}
use Rattle.bk_undo.specs.Spelled.{spelled}
use Rattle.bk_world.specs.declared.transaction.Open.{Open}
use Rattle.bk_world.specs.Cut.{end_behind}
use Rattle.bk_world.specs.Records.{Logged, Said, numbered}
use Rattle.bk_ids.specs.declared.guid.Guid.{Guid}
use Rattle.bk_master.specs.declared.record.Own.{Own}
use Rattle.bk_engine.specs.Acts.{MaySayIn}
use Rattle.bk_engine.specs.Stands.{Kept, NamesSet, own_in}

-- ---- results

-- what follows where there is no error
pub on-all : {A E Q : Type 0} (result : Result A E) → ((value : A) → result ≡ Ok value → Q) → OnOk result Q
on-all (Ok value) then = then value refl
on-all (Err error) then = tt

-- what holds where there is no error holds there
pub of-ok : {A E P : Type 0} (result : Result A E) (value : A) → result ≡ Ok value → OnOk result P → P
of-ok {P = P} result value is holds = subst (λ r. OnOk r P) is holds

-- ---- devices that are the same

-- what was done from a device on was done from one that is the same
pub moved : {D : Type 0} {own : List ℕ → Type 0} {P : Files → Type 0} (disk : D → Disk) (x y : D) {b : Disk} → y ≡ x → Effect own P (disk y) b → Effect own P (disk x) b
moved {own = own} {P = P} disk x y {b = b} same effect = subst (λ d. Effect own P (disk d) b) same effect

-- whatever it left
pub plain : {own : List ℕ → Type 0} {P : Files → Type 0} {a b : Disk} → Effect own P a b → Effect own (λ image. Unit {0}) a b
plain effect = effect_weaken (λ image left. tt) effect

-- ---- places

-- the one at a place that was found
pub found-at : (name : List ℕ) (hosted : List Hosted) (i : ℕ) → position (names name) hosted ≡ Some i → (h : Hosted) × (slice_get hosted i ≡ Some h)
found-at name hosted i place = got hosted i (inside hosted place)
  where
    inside : (hs : List Hosted) → position (names name) hs ≡ Some i → i < length hs
    inside [] at = absurd (cc)
    inside (h ∷ hs) at = (position-Some (names name) (h ∷ hs) i h at).0

module _ (w : World) (name : List ℕ) (said : List Said) (ts : List Open) (records : List Rec) (lasting : Bool) (hosted : List Hosted) (i : ℕ) (h : Hosted) (hosts : Hosts w hosted) (place : position (names name) hosted ≡ Some i) (there : slice_get hosted i ≡ Some h)
    (may : MaySayIn w name said ts records lasting) where
  found : (database_named w.databases name ≡ Some (database_of h)) × IsHosted w.history h
  found = named-there w name hosted i h hosts place there

  same : database_of h ≡ may.db
  same = same_Some (database_of h) may.db (sym found.0 ∙ may.found)

  -- it can be used
  pub says-up : is_up h ≡ true
  says-up =
      let log : MayLog w may.db said ts = subst (λ (o : Option Database). HoldsOf o (λ db. MayLog w db said ts)) may.found may.may in
      ap (λ (db : Database). is_online db.status) same ∙ ap is_online log.says.online

  -- and may say this now
  pub says-now : MaySayNow h said ts records lasting
  says-now =
      let Next : Database → Type 0 = λ db. AreNext db.files (log_of w.history db) (numbered db.end said) in
      record {
        next = subst (λ (rs : List Logged). AreNext h.spec.storage.files rs (numbered (end_behind h.records) said)) found.1.log (subst Next (sym same) may.next);
        spelled_are = ap (λ (db : Database). map spelled (numbered db.end said)) same ∙ may.spelled_are;
        plain = may.plain;
        waits = λ is. record {
          waits = subst (λ (db : Database). AllByRecursion (Waits ts) (numbered db.end said)) (sym same) (may.waits is).0;
          opens = subst (λ (db : Database). AllByRecursion (λ (t : Open). has_begin ts t.begin ≡ true) db.transactions) (sym same) (may.waits is).1;
        };
      }

-- ---- the own part

-- it keeps its number, and names the same set, where it stays
pub own-kept : {A E : Type 0} (result : Result A E) (e old new : Kept) → e ≡ old → OnOk result (own_in new ≡ own_in e) → OnOk result (NamesSet (own_in old).staging old new)
own-kept (Ok value) e old new is stays =
    let whole : own_in new ≡ own_in old = stays ∙ ap own_in is in
    (ap (λ (o : Own). o.number) whole, ap (λ (o : Own). o.staging) whole)
own-kept (Err error) e old new is stays = tt

-- it names this set where it is put so
pub own-put : {A E : Type 0} (result : Result A E) (e old new : Kept) (own : Own) (set : Option Guid) → e ≡ old → own.number ≡ (own_in e).number → own.staging ≡ set → OnOk result (own_in new ≡ own) → OnOk result (NamesSet set old new)
own-put (Ok value) e old new own set is number staging put =
    (ap (λ (o : Own). o.number) put ∙ number ∙ ap (λ (k : Kept). (own_in k).number) is, ap (λ (o : Own). o.staging) put ∙ staging)
own-put (Err error) e old new own set is number staging put = tt
