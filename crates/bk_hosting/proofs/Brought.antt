-- Hosted databases of which one is brought up.
use Rattle.std.proofs.Common.{◌≡◌, ◌≤◌, ◌+◌, ◌∙◌, ℕ, true, false, cond, List, [], ◌∷◌, length, Option, Some, None, inl, sym, ap, subst, arith}
use Rattle.std.specs.Prelude.{set, slice_get}
use Rattle.std.specs.List.{AllByRecursion}
use Rattle.std.proofs.lemmas.List.{length-append, length-set}
use Rattle.bk_device.specs.Disk.{Disk}
use Rattle.bk_device.specs.Effects.{Effect}
use Rattle.bk_facts.specs.declared.facts.DataFile.{DataFile}
use Rattle.bk_hosted.specs.Fronts.{Waits}
use Rattle.bk_hosted.specs.Hosted.{Hosted, folded, has_checkpoint, is_up}
use Rattle.bk_hosted.specs.PointLaws.{has-below}
use Rattle.bk_ids.specs.declared.record.Rec.{Rec}
use Rattle.bk_known.specs.declared.known.Known.{Known}
use Rattle.bk_machine.specs.declared.job.Job.{Job}
use Rattle.bk_points.specs.declared.points.Points.{Points}
use Rattle.bk_points.specs.Points.{IsPoints, points_bytes}
use Rattle.bk_stores.specs.Reopening.{settled}
use Rattle.bk_store.specs.FrontLaws.{shown-log}
use Rattle.bk_store.specs.Store.{IsStore, sealed_in, Kept as KeptStore}
use Rattle.bk_store.specs.Told.{Told, files_of, said}
use Rattle.bk_stores.specs.Beside.{ShareNoFile}
use Rattle.bk_stores.specs.ListLaws.{got-inside, got-set}
use Rattle.bk_stores.specs.Making.{IsSealed, Swaps, set_stored}
use Rattle.bk_stores.specs.Records.{SharesNone}
use Rattle.bk_stores.specs.Stores.{AreStores, Fixed, IsOurs, IsReady as AreReady, fixed_of, Kept as KeptStores}
use Rattle.bk_volume.specs.Stored.{Stored}
use Rattle.bk_world.specs.Cut.{end_behind}
use Rattle.bk_world.specs.Records.{Counts, Logged}
use Rattle.bk_hosting.specs.declared.hosting.State.{State}
use Rattle.bk_hosting.specs.Bringing.{ComesUp, HaveNone, IsUpAs}
use Rattle.bk_hosting.specs.Hosting.{AreFit, HasRecord, IsFitSlot, IsHosting, IsReady, Kept, LeavesEither, Tells, WaitsBehind, own_of, state_of}
use Rattle.bk_hosting.specs.Making.{kept_files}
use Rattle.bk_hosting.proofs.Lists.{all-at, all-set}
use Rattle.bk_hosting.proofs.MadeHosted.{entry-files, host-of}
use Rattle.bk_hosting.proofs.Parked.{put-crash, put-hosting, stored-set}
use Rattle.bk_hosting.proofs.SaidHosted.{Placed, all-sealed, drop-past, placed-of, state-up}
use Rattle.bk_hosting.proofs.StoreSaid.{its-store}

-- no database's store has one of the new data files
pub shares-kept : (a : Disk) (x : Kept) (hosted : List Hosted) (files : List DataFile) (is : IsHosting a x hosted) → HaveNone hosted files → SharesNone x.stores.master.record.databases is.tolds files
shares-kept a x hosted files is none = λ i e t at.
    let host = host-of a x hosted is i t at.1 in
    subst (ShareNoFile files) (sym (entry-files a x hosted is i e t host.0 at.0 at.1 host.1)) (all-at (λ (h : Hosted). ShareNoFile files (kept_files (is_up h) h)) hosted i host.0 host.1 none)

-- what holds of these parts holds of what has them
pub by-parts : (P : Kept → Type 0) (then : Kept) (stores : KeptStores) (states : List State) → then.stores ≡ stores → then.states ≡ states → P (record { stores = stores; states = states }) → P then
by-parts P then stores states one two is = subst (λ (st : List State). P (record { stores = then.stores; states = st })) (sym two) (subst (λ (ks : KeptStores). P (record { stores = ks; states = states })) (sym one) is)

-- calls may be made on all of them
pub up-ready : (x then : Kept) (at : ℕ) (s : KeptStore) (st : State) → IsReady x → IsSealed s → AreReady then.stores → then.stores.slots ≡ set x.stores.slots at (Some s) → then.states ≡ set x.states at st → IsReady then
up-ready x then at s st ready sealed stores slots states = record {
  stores = stores;
  fit = subst AreFit (sym slots) (all-set IsFitSlot x.stores.slots at (Some s) sealed.fit ready.fit);
  count = ap (λ (xs : List State). length xs) states ∙ length-set x.states at st ∙ ready.count ∙ sym (ap (λ (sl : List (Option KeptStore)). length sl) slots ∙ length-set x.stores.slots at (Some s));
}

-- ---- points

-- points with no checkpoint to come have none to take in
folded-none : (points : Points) (rs : List Logged) → points.next_checkpoint ≡ 0 → points.next_kept ≡ 0 → Counts 1 rs (end_behind rs) → folded points rs ≡ points
folded-none points rs next kept counts =
    let none : has_checkpoint points.next_checkpoint rs ≡ false = ap (λ (n : ℕ). has_checkpoint n rs) next ∙ has-below 0 1 (end_behind rs) rs counts (omega arith) in
    let first : folded points rs ≡ record points { next_checkpoint = 0; next_kept = 0 } =
    ap (λ t. record points { next_checkpoint = 0; next_kept = 0; kept = cond t points.next_kept points.kept; checkpoint = cond t points.next_checkpoint points.checkpoint }) none in
    let second : record points { next_checkpoint = 0; next_kept = 0 } ≡ points = ap (λ (n : ℕ). record points { next_checkpoint = n; next_kept = 0 }) (sym next) ∙ ap (λ (n : ℕ). record points { next_kept = n }) (sym kept) in
    first ∙ second

-- what is kept in memory of a database with these points
abbrev pub state_at : Points → State
state_at points = record { points = points; job = None; transactions = []; known = None }

-- ---- the database

module _ (told : Told) (r : Logged) (points : Points) (h : Hosted) (is : IsUpAs told r points h) where
  -- what its store holds
  abbrev new : Told
  new = said (settled told) r

  pub up-tells : told.note ≡ points_bytes points → IsPoints points → Tells new h
  up-tells note spelled = record { spec = is.spec; note = inl (note ∙ ap points_bytes is.points_are, subst IsPoints is.points_are spelled); records = is.records }

  pub up-some : HasRecord h
  up-some =
      let size : length new.records ≡ length (settled told).records + 1 = length-append (settled told).records (r ∷ []) in
      let same : length new.records ≡ length h.records = ap (λ (rs : List Logged). length rs) is.records in
      omega (arith, size, same)

  -- all of it is durable
  pub up-waits : (b : Disk) (s : KeptStore) → IsStore b s new → IsSealed s → WaitsBehind (Some s) h
  up-waits b s store sealed =
      let all : sealed_in s ≡ length new.records = all-sealed s new b store sealed.all in
      let same : length new.records ≡ length h.records = ap (λ (rs : List Logged). length rs) is.records in
      let some : 1 ≤ length h.records = up-some in
      (is.up, omega (arith, all, same, some), subst (AllByRecursion (Waits h.transactions)) (sym (drop-past (sealed_in s) h.records (omega (arith, all, same)))) tt)

  -- what is kept of it in memory
  pub up-state : (b : Disk) (s : KeptStore) → IsStore b s new → state_at points ≡ state_of h
  up-state b s store =
      let counts : Counts 1 h.records (end_behind h.records) = subst (λ (rs : List Logged). Counts 1 rs (end_behind rs)) is.records (shown-log (files_of new) new.records s.shown store.shows).counts in
      let none : folded h.points h.records ≡ points = ap (λ (p : Points). folded p h.records) (sym is.points_are) ∙ folded-none points h.records is.none_next is.none_kept counts in
      ap state_at (sym none) ∙ ap (λ (o : Option Job). record (state_at (folded h.points h.records)) { job = o }) (sym is.runs) ∙ ap (λ ts. record (state_at (folded h.points h.records)) { job = h.job; transactions = ts }) (sym is.idle) ∙ sym (state-up h is.up)

-- ---- all of them

module _ (a b : Disk) (x : Kept) (hosted : List Hosted) (at : ℕ) (name : List ℕ) (stored : Stored) (files : List DataFile) (checkpoint : ℕ) (known : Known) (points : Points) (last : Rec) (told : Told) (r : Logged) (h : Hosted) (is : IsHosting a x hosted)
    (comes : ComesUp a x hosted at name stored files checkpoint known points last told r) (spelled : IsPoints points) (up : IsUpAs told r points h) where
  place : Placed x at comes.parked is.tolds
  place = placed-of a x hosted at comes.parked is comes.there

  -- what its store holds
  abbrev held : Told
  held = said (settled told) r

  tell : Tells held h
  tell = up-tells told r points h up comes.makes.suffices.same_note spelled

  pub up-hosting : (then : Kept) (s : KeptStore) → then.stores.slots ≡ set x.stores.slots at (Some s) → IsSealed s → fixed_of then.stores.master.record ≡ set_stored (fixed_of x.stores.master.record) at true → AreStores b then.stores (set is.tolds at held)
      → then.states ≡ set x.states at (state_at points) → IsHosting b then (set hosted at h)
  up-hosting then s slots sealed fixed after states =
      let put : slice_get then.stores.slots at ≡ Some (Some s) = ap (λ (sl : List (Option KeptStore)). slice_get sl at) slots ∙ got-set x.stores.slots at (Some s) (got-inside x.stores.slots at place.slot place.in_place) in
      let told-put : slice_get (set is.tolds at held) at ≡ Some held = got-set is.tolds at held (got-inside is.tolds at place.told place.there) in
      let store : IsStore b s held = its-store b then.stores (set is.tolds at held) at held s after told-put put in
      let some : HasRecord h = up-some told r points h up in
      put-hosting a b x hosted at comes.parked h place.told held (Some s) is comes.there place.there tell some then slots
      (ap (λ (f : Fixed). f.stored) fixed ∙ stored-set a b x hosted at comes.parked h place.told held (Some s) is comes.there place.there tell some (fixed_of x.stores.master.record) true is.stored (sym up.up))
      after (up-waits told r points h up b s store sealed) (states ∙ ap (λ (st : State). set x.states at st) (up-state told r points h up b s store))

  pub up-crash : Swaps x.stores is.tolds at true held a b → Effect IsOurs (LeavesEither (own_of x) hosted (set hosted at h)) a b
  up-crash effect = put-crash a b x hosted at comes.parked h place.told held None is comes.there place.there tell (up-some told r points h up) true (sym up.up) effect
