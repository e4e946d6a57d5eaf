-- The backups that run are in no file: without them, or with others, files hold the same databases.
use Rattle.std.proofs.Common.{◌≡◌, ◌∙◌, ℕ, zero, suc, Bool, List, [], ◌∷◌, map, Option, Some, None, refl, sym, ap, subst}
use Rattle.std.specs.Prelude.{set, slice_get}
use Rattle.std.specs.List.{AllByRecursion, AllZip}
use Rattle.bk_device.specs.Disk.{Disk, Files}
use Rattle.bk_hosted.specs.Hosted.{Hosted, is_up, running}
use Rattle.bk_machine.specs.declared.job.Job.{Job}
use Rattle.bk_master.specs.declared.record.Own.{Own}
use Rattle.bk_store.specs.Store.{Kept as KeptStore}
use Rattle.bk_store.specs.Told.{Told}
use Rattle.bk_stores.specs.Stores.{AreStores, fixed_of, Kept as KeptStores}
use Rattle.bk_hosting.specs.Hosting.{HasRecord, HoldsHosted, IsHosting, Kept, LeavesHosted, LosesWaiting, Tells, WaitsBehind, state_of}
use Rattle.bk_hosting.specs.Jobs.{AreButJobs}

-- ---- lists

-- one that has another backup, or none
pub set-but : (hosted : List Hosted) (at : ℕ) (h : Hosted) (job : Option Job) → slice_get hosted at ≡ Some h → AreButJobs hosted (set hosted at (running job h))
set-but [] at h job is = absurd cc
set-but (x ∷ hosted) zero h job is = let same : x ≡ h = cc in (ap (λ (y : Hosted). record y { job = job }) (sym same), same-each hosted)
  where
    same-each : (hs : List Hosted) → AreButJobs hs hs
    same-each [] = tt
    same-each (y ∷ hs) = (refl, same-each hs)
set-but (x ∷ hosted) (suc at) h job is = (refl, set-but hosted at h job is)

-- none has one
pub dropped-but : (hosted : List Hosted) → AreButJobs hosted (map (running None) hosted)
dropped-but [] = tt
dropped-but (h ∷ hosted) = (refl, dropped-but hosted)

-- what doesn't see it holds of each beside another one
but-zip : {A : Type 0} (R : A → Hosted → Type 0) → ((x : A) (h : Hosted) (job : Option Job) → R x h → R x (running job h)) → (xs : List A) (hosted others : List Hosted) → AreButJobs hosted others → AllZip R xs hosted → AllZip R xs others
but-zip R keeps [] [] [] but zip = tt
but-zip R keeps [] [] (g ∷ others) but zip = absurd but
but-zip R keeps [] (h ∷ hosted) others but zip = absurd zip
but-zip R keeps (x ∷ xs) [] others but zip = absurd zip
but-zip R keeps (x ∷ xs) (h ∷ hosted) [] but zip = absurd but
but-zip R keeps (x ∷ xs) (h ∷ hosted) (g ∷ others) but zip = (subst (R x) (sym but.0) (keeps x h g.job zip.0), but-zip R keeps xs hosted others but.1 zip.1)

but-up : (hosted others : List Hosted) → AreButJobs hosted others → map is_up others ≡ map is_up hosted
but-up [] [] but = refl
but-up [] (g ∷ others) but = absurd but
but-up (h ∷ hosted) [] but = absurd but
but-up (h ∷ hosted) (g ∷ others) but = ap (λ (y : Hosted). is_up y ∷ map is_up others) but.0 ∙ ap (λ (bs : List Bool). is_up h ∷ bs) (but-up hosted others but.1)

but-some : (hosted others : List Hosted) → AreButJobs hosted others → AllByRecursion HasRecord hosted → AllByRecursion HasRecord others
but-some [] [] but all = tt
but-some [] (g ∷ others) but all = absurd but
but-some (h ∷ hosted) [] but all = absurd but
but-some (h ∷ hosted) (g ∷ others) but all = (subst HasRecord (sym but.0) all.0, but-some hosted others but.1 all.1)

-- ---- one database

tells-but : (told : Told) (h : Hosted) (job : Option Job) → Tells told h → Tells told (running job h)
tells-but told h job is = record { spec = is.spec; note = is.note; records = is.records }

waits-but : (slot : Option KeptStore) (h : Hosted) (job : Option Job) → WaitsBehind slot h → WaitsBehind slot (running job h)
waits-but None h job is = is
waits-but (Some s) h job is = is

-- ---- what is hosted

-- with the same stores
pub hosting-but : (disk : Disk) (x y : Kept) (hosted others : List Hosted) → IsHosting disk x hosted → AreButJobs hosted others → y.stores ≡ x.stores → y.states ≡ map state_of others → IsHosting disk y others
hosting-but disk x y hosted others is but stores states = record {
  tolds = is.tolds;
  stores = subst (λ (s : KeptStores). AreStores disk s is.tolds) (sym stores) is.stores;
  stored = ap (λ (s : KeptStores). (fixed_of s.master.record).stored) stores ∙ is.stored ∙ sym (but-up hosted others but);
  tells = but-zip Tells tells-but is.tolds hosted others but is.tells;
  states = states;
  waits = but-zip WaitsBehind waits-but y.stores.slots hosted others but (subst (λ (s : KeptStores). AllZip WaitsBehind s.slots hosted) (sym stores) is.waits);
  some = but-some hosted others but is.some;
}

-- ---- files

pub holds-but : (own : Own) (image : Files) (hosted others : List Hosted) → AreButJobs hosted others → HoldsHosted own image hosted → HoldsHosted own image others
holds-but own image hosted others but is = record {
  «record» = is.«record»;
  is_own = is.is_own;
  tolds = is.tolds;
  holds = is.holds;
  stored = is.stored ∙ sym (but-up hosted others but);
  tells = but-zip Tells tells-but is.tolds hosted others but is.tells;
  some = but-some hosted others but is.some;
}

-- a front has it too
front-but : (h front : Hosted) (job : Option Job) → LosesWaiting h front → LosesWaiting (running job h) (running job front)
front-but h front job is = record { same = ap (running job) is.same; lost = is.lost; splits = is.splits; waits = is.waits }

fronts-but : (hosted others fronts : List Hosted) → AreButJobs hosted others → AllZip LosesWaiting hosted fronts → (gs : List Hosted) × AllZip LosesWaiting others gs × AreButJobs fronts gs
fronts-but [] [] [] but zip = ([], tt, tt)
fronts-but [] [] (f ∷ fronts) but zip = absurd zip
fronts-but [] (g ∷ others) fronts but zip = absurd but
fronts-but (h ∷ hosted) [] fronts but zip = absurd but
fronts-but (h ∷ hosted) (g ∷ others) [] but zip = absurd zip
fronts-but (h ∷ hosted) (g ∷ others) (f ∷ fronts) but zip =
    let rest = fronts-but hosted others fronts but.1 zip.1 in
    (running g.job f ∷ rest.0, (subst (λ (y : Hosted). LosesWaiting y (running g.job f)) (sym but.0) (front-but h f g.job zip.0), rest.1), (refl, rest.2))

-- so does what a crash leaves
pub leaves-but : (own : Own) (image : Files) (hosted others : List Hosted) → AreButJobs hosted others → LeavesHosted own hosted image → LeavesHosted own others image
leaves-but own image hosted others but left =
    let fronts = fronts-but hosted others left.0 but left.1 in
    (fronts.0, fronts.1, holds-but own image left.0 fronts.0 fronts.2 left.2)
