-- What files stand for where a run begins, and where it has ended.
use Rattle.std.proofs.Common.{◌≡◌, ◌≤◌, ℕ, ◌+◌, List, [], ◌∷◌, ◌++◌, inl, inr, length, map, refl, sym, subst, ◌∙◌, arith}
use Rattle.std.specs.List.{AllByRecursion}
use Rattle.bk_archive.specs.MediaLaws.{media-in, media-on}
use Rattle.bk_device.specs.Disk.{Files}
use Rattle.bk_engine.specs.Loading.{Stands}
use Rattle.bk_engine.specs.Rows.{rows_in}
use Rattle.bk_engine.specs.Stands.{IsOurs}
use Rattle.bk_hosted.specs.Fronts.{settling}
use Rattle.bk_hosted.specs.Hosted.{Hosted, database_of}
use Rattle.bk_engine.specs.Hosting.{HoldsHosted}
use Rattle.bk_engine.specs.HostingLoading.{HoldsHosting}
use Rattle.bk_items.specs.declared.item.ScriptEntry.{ScriptEntry}
use Rattle.bk_machine.specs.Acts.{Act, done_all}
use Rattle.bk_machine.specs.Closing.{closed_by}
use Rattle.bk_machine.specs.Crash.{Leaves, cut_between}
use Rattle.bk_machine.specs.Outcome.{Outcome}
use Rattle.bk_machine.specs.Run.{IsRun, behind_all}
use Rattle.bk_machine.specs.Sound.{AreIdle, IsIdle, IsSound}
use Rattle.bk_machine.specs.World.{World, ended, opened, restarted}
use Rattle.bk_master.specs.declared.record.Own.{Own}
use Rattle.bk_master.specs.declared.record.Record.{Record}
use Rattle.bk_master.specs.Laws.{holds_same, own_made}
use Rattle.bk_msdb.specs.Laws.{shows_same}
use Rattle.bk_msdb.specs.Msdb.{msdb_file}
use Rattle.bk_restarts.proofs.Runs.{ended-there}
use Rattle.bk_restarts.specs.Crashes.{LeavesEnded}
use Rattle.bk_engine.specs.StoreTold.{Told}
use Rattle.bk_engine.specs.StoresSlotLaws.{entry-same}
use Rattle.bk_engine.specs.Stores.{HoldsStores, IsOurs as IsOfStores, its_files}
use Rattle.bk_volume.specs.Names.{medium_file}

-- ---- the same files

stores-same : (f g : Files) (r : Record) (tolds : List Told) → ((name : List ℕ) → IsOfStores name → g name ≡ f name) → HoldsStores f r tolds → HoldsStores g r tolds
stores-same f g r tolds same is = record {
  is_record = holds_same (λ name own. same name (inl own)) is.is_record;
  entries = is.entries;
  each = λ i e t at. entry-same e t f g (λ name own. same name (inr (e.store, its_files e t, own))) (is.each i e t at);
}

hosted-same : (f g : Files) (own : Own) (hosted : List Hosted) → ((name : List ℕ) → IsOfStores name → g name ≡ f name) → HoldsHosted own f hosted → HoldsHosted own g hosted
hosted-same f g own hosted same is = record {
  «record» = is.«record»;
  is_own = is.is_own;
  tolds = is.tolds;
  holds = stores-same f g is.«record» is.tolds same is.holds;
  stored = is.stored;
  tells = is.tells;
  some = is.some;
}

pub hosting-same : (number : ℕ) (f g : Files) (own : Own) (hosted : List Hosted) → ((name : List ℕ) → IsOfStores name → g name ≡ f name) → HoldsHosting number own f hosted → HoldsHosting number own g hosted
hosting-same number f g own hosted same (inl (not, new, none)) = inl (same _ (inl own_made) ∙ not, new, none)
hosting-same number f g own hosted same (inr is) = inr (hosted-same f g own hosted same is)

pub stands-same : (number : ℕ) (w : World) (f g : Files) → ((name : List ℕ) → IsOurs name → g name ≡ f name) → Stands number f w → Stands number g w
stands-same number w f g same is = record {
  sound = is.sound;
  own = is.own;
  instance = is.instance;
  counter = is.counter;
  hosted = is.hosted;
  pends = is.pends;
  hosts = is.hosts;
  holds = hosting-same number f g is.own is.hosted (λ name own. same name (inl own)) is.holds;
  media = media-in w is.own.making f g (λ path bytes. same (medium_file path) (inr (inl (path, bytes, refl)))) is.media;
  rows = shows_same f g (rows_in w) (same msdb_file (inr (inr (inr refl)))) is.rows;
  finished = is.finished;
}

-- ---- nothing is open

settled-idle : (hosted : List Hosted) → AllByRecursion IsIdle (map database_of (map settling hosted))
settled-idle [] = tt
settled-idle (h ∷ hosted) = (record { job = refl; transactions = refl }, settled-idle hosted)

pub stands-idle : (number : ℕ) (w : World) (files : Files) → Stands number files w → AreIdle w
stands-idle number w files is = subst (AllByRecursion IsIdle) (sym is.hosts.same) (settled-idle is.hosted)

-- ---- a run begins

-- what a crash of a run leaves that has just begun
pub begun-stands : (number : ℕ) (w : World) (image : Files) → Stands number image w → IsSound (restarted w.counter (opened w)) → Stands number image (restarted w.counter (opened w))
unfolding opened restarted rows_in
begun-stands number w image is sound = record {
  sound = sound;
  own = is.own;
  instance = is.instance;
  counter = is.counter;
  hosted = is.hosted;
  pends = is.pends;
  hosts = record { same = is.hosts.same; each = is.hosts.each };
  holds = is.holds;
  media = media-on w (restarted w.counter (opened w)) is.own.making image refl (λ path header there. refl) is.media;
  rows = is.rows;
  finished = λ closed. absurd (cc);
}

opened-idle : (w : World) → AreIdle w → AreIdle (opened w)
unfolding opened
opened-idle w idle = idle

opened-counter : (w : World) → (opened w).counter ≡ w.counter
unfolding opened
opened-counter w = refl

-- What the machine's laws say of a run, or of its closing, that is cut where nothing is open.
pub record BeginLaws : Type 0 where
  pub begins : (w : World) → IsSound w → IsSound (opened w)
  pub leaves : (old : World) (statements : List ScriptEntry) (moments : List ℕ) (outcomes : List Outcome) (least done k counter : ℕ) → IsSound old → IsRun old statements moments outcomes
      → AreIdle (cut_between old outcomes done k) → least ≤ done → done ≤ length outcomes → (cut_between old outcomes done k).counter ≤ counter → counter ≤ (cut_between old outcomes done k).counter + 1024
      → Leaves old outcomes least (restarted counter (cut_between old outcomes done k))
  pub sound_left : (old : World) (statements : List ScriptEntry) (moments : List ℕ) (outcomes : List Outcome) (least : ℕ) (left : World) → IsSound old → IsRun old statements moments outcomes → Leaves old outcomes least left → IsSound left

-- it leaves the world in which the run begins
pub begun-leaves : BeginLaws → (number : ℕ) (w : World) (image : Files) → Stands number image w → (left : World) × Leaves (opened w) [] 0 left × Stands number image left
begun-leaves laws number w image is =
    let sound : IsSound (opened w) = laws.begins w is.sound in
    let same : (opened w).counter ≡ w.counter = opened-counter w in
    let left : Leaves (opened w) [] 0 (restarted w.counter (opened w)) =
    laws.leaves (opened w) [] [] [] 0 0 0 w.counter sound tt (opened-idle w (stands-idle number w image is)) (omega arith) (omega arith) (omega (arith, same)) (omega (arith, same)) in
    (restarted w.counter (opened w), left, begun-stands number w image is (laws.sound_left (opened w) [] [] [] 0 (restarted w.counter (opened w)) sound tt left))

-- ---- a run has ended

ended-idle : (w : World) → AreIdle (ended w) → AreIdle w
unfolding ended
ended-idle w idle = idle

ended-stands : (number : ℕ) (w : World) (image : Files) → Stands number image (ended w) → IsSound (restarted w.counter w) → Stands number image (restarted w.counter w)
unfolding ended restarted rows_in
ended-stands number w image is sound = record {
  sound = sound;
  own = is.own;
  instance = is.instance;
  counter = is.counter;
  hosted = is.hosted;
  pends = is.pends;
  hosts = record { same = is.hosts.same; each = is.hosts.each };
  holds = is.holds;
  media = media-on (ended w) (restarted w.counter w) is.own.making image refl (λ path header there. refl) is.media;
  rows = is.rows;
  finished = λ closed. absurd (cc);
}

-- a crash leaves the world that it came to
pub ended-leaves : (number : ℕ) (first : World) (outcomes : List Outcome) (acts : List Act)
    → ((least done k counter : ℕ) → AreIdle (cut_between first (outcomes ++ closed_by acts ∷ []) done k) → least ≤ done → done ≤ length (outcomes ++ closed_by acts ∷ [])
    → (cut_between first (outcomes ++ closed_by acts ∷ []) done k).counter ≤ counter → counter ≤ (cut_between first (outcomes ++ closed_by acts ∷ []) done k).counter + 1024
    → Leaves first (outcomes ++ closed_by acts ∷ []) least (restarted counter (cut_between first (outcomes ++ closed_by acts ∷ []) done k)))
    → ((least : ℕ) (left : World) → Leaves first (outcomes ++ closed_by acts ∷ []) least left → IsSound left) → LeavesEnded number first outcomes acts
ended-leaves number first outcomes acts leaves sound_left least image enough is =
    let all : List Outcome = outcomes ++ closed_by acts ∷ [] in
    let last : World = done_all (behind_all first outcomes) acts in
    let Left : World → Type 0 = λ w. AreIdle w → Leaves first all least (restarted w.counter w) in
    let there : Left (cut_between first all (length all) 0) = λ idle. leaves least (length all) 0 _ idle enough (omega arith) (omega arith) (omega arith) in
    let left : Leaves first all least (restarted last.counter last) = subst Left (ended-there first outcomes acts) there (ended-idle last (stands-idle number (ended last) image is)) in
    (restarted last.counter last, left, ended-stands number last image is (sound_left least (restarted last.counter last) left))
