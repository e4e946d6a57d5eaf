-- The logs that files hold of hosted databases: none has a load pending, and what is pending comes in the order of its numbers.
use Rattle.std.proofs.Common.{◌≡◌, ℕ, zero, suc, Bool, true, List, [], ◌∷◌, ◌++◌, map, refl, subst, ◌∙◌}
use Rattle.std.specs.List.{AllByRecursion, AllZip}
use Rattle.bk_device.specs.Disk.{Files}
use Rattle.bk_hosted.specs.Hosted.{Hosted, is_up}
use Rattle.bk_engine.specs.Hosting.{HoldsHosted, Tells}
use Rattle.bk_lemmas.specs.Lists.{all_filter, all_joined}
use Rattle.bk_master.specs.declared.record.Entry.{Entry}
use Rattle.bk_master.specs.declared.record.Own.{Own}
use Rattle.bk_shown.specs.Shown.{ArePlaced, IsPlaced}
use Rattle.bk_engine.specs.StoreTold.{IsLogIn, Told, files_of}
use Rattle.bk_engine.specs.Stores.{HoldsBy, HoldsEntry, IsAt}
use Rattle.bk_world.specs.declared.database.FileSpec.{FileSpec}
use Rattle.bk_world.specs.declared.database.TableSpec.{TableSpec}
use Rattle.bk_world.specs.Pending.{Pending, PendingRise, pending, pending_after, pending_from}
use Rattle.bk_world.specs.Records.{Deed, Logged, begun, checkpointed, committed, database_made, loaded, model_set, recovered, rolled_back, stamped, table_made, undone, written}
use Rattle.bk_world.specs.SoundLaws.{sound-rise}
use Rattle.bk_world.specs.SoundLogs.{NoLoadPends}
use Rattle.bk_world.specs.Telling.{tables}

-- ---- one log

-- a write of no load
abbrev IsSingle : Pending → Type 0
IsSingle w = w.extents ≡ []

single-after : (files : List FileSpec) (made : List TableSpec) (deed : Deed) → IsPlaced files made deed → (ws : List Pending) (lsn begin : ℕ) → AllByRecursion IsSingle ws → AllByRecursion IsSingle (pending_after ws lsn begin deed)
single-after files made (written at before c) placed ws lsn begin all = all_joined IsSingle ws _ all (refl, tt)
single-after files made (committed time mark) placed ws lsn begin all = all_filter IsSingle _ ws all
single-after files made rolled_back placed ws lsn begin all = all_filter IsSingle _ ws all
single-after files made (undone at c n) placed ws lsn begin all = all_filter IsSingle _ ws all
single-after files made (loaded load) placed ws lsn begin all = absurd placed
single-after files made (database_made time family branch) placed ws lsn begin all = all
single-after files made (table_made time spec) placed ws lsn begin all = all
single-after files made begun placed ws lsn begin all = all
single-after files made (checkpointed time) placed ws lsn begin all = all
single-after files made (stamped time set) placed ws lsn begin all = all
single-after files made (model_set time model) placed ws lsn begin all = all
single-after files made (recovered branch) placed ws lsn begin all = all

single-from : (files : List FileSpec) (before : List Logged) (ws : List Pending) (rs : List Logged) → ArePlaced files before rs → AllByRecursion IsSingle ws → AllByRecursion IsSingle (pending_from ws rs)
single-from files before ws [] placed all = all
single-from files before ws (r ∷ rs) placed all =
    single-from files (before ++ r ∷ []) (pending_after ws r.lsn r.begin r.deed) rs placed.1 (single-after files (tables before) r.deed placed.0 ws r.lsn r.begin all)

none-loads : (files : List FileSpec) (rs : List Logged) → ArePlaced files [] rs → NoLoadPends rs
unfolding pending
none-loads files rs placed = single-from files [] [] rs placed tt

-- What is known of what is pending in a log.
pub record Pends (rs : List Logged) : Type 0 where
  pub loads : NoLoadPends rs
  pub rise : PendingRise (pending rs)

log-pends : (files : List FileSpec) (rs : List Logged) → IsLogIn files rs → Pends rs
log-pends files rs log = let loads : NoLoadPends rs = none-loads files rs log.placed in record { loads = loads; rise = sound-rise rs log.sound log.counts loads }

-- ---- those of hosted databases

-- the log of one that can be used
abbrev pub PendsUp : Hosted → Type 0
PendsUp f = is_up f ≡ true → Pends f.records

entry-pends : (image : Files) (e : Entry) (t : Told) (f : Hosted) → e.is_stored ≡ is_up f → Tells t f → HoldsEntry e t image → PendsUp f
entry-pends image e t f same tells holds up =
    let By : Bool → Type 0 = λ b. HoldsBy b e.store t image in
    let stored : HoldsBy true e.store t image = subst By (same ∙ up) holds in
    subst Pends tells.records (log-pends (files_of t) t.records stored.log)

entries-pend : (image : Files) (entries : List Entry) (tolds : List Told) (fronts : List Hosted) → map (λ (e : Entry). e.is_stored) entries ≡ map is_up fronts → AllZip Tells tolds fronts
    → ((i : ℕ) (e : Entry) (t : Told) → IsAt entries tolds i e t → HoldsEntry e t image) → AllByRecursion PendsUp fronts
entries-pend image entries tolds [] same tells each = tt
entries-pend image [] tolds (f ∷ fronts) same tells each = absurd cc
entries-pend image (e ∷ entries) [] (f ∷ fronts) same tells each = absurd tells
entries-pend image (e ∷ entries) (t ∷ tolds) (f ∷ fronts) same tells each =
    let first : e.is_stored ≡ is_up f = cc in
    let rest : map (λ (x : Entry). x.is_stored) entries ≡ map is_up fronts = cc in
    (entry-pends image e t f first tells.0 (each zero e t (refl, refl)), entries-pend image entries tolds fronts rest tells.1 (λ i x u at. each (suc i) x u at))

pub hosted-pend : (own : Own) (image : Files) (fronts : List Hosted) → HoldsHosted own image fronts → AllByRecursion PendsUp fronts
hosted-pend own image fronts is = entries-pend image is.«record».databases is.tolds fronts is.stored is.tells is.holds.each
