-- How files live on, whatever comes.
use Rattle.std.proofs.Common.{◌≡◌, ◌⊎◌, ◌<◌, ◌≤◌, inl, inr, ℕ, zero, suc, true, List, [], ◌∷◌, ◌++◌, length, take, Option, None, Some, refl, sym, ◌∙◌, ap, subst, arith, length-append}
use Rattle.std.proofs.lemmas.Bool.{cases_lt}
use Rattle.std.proofs.lemmas.List.{take-append-le}
use Rattle.std.proofs.Math.Seq.{take-length}
use Rattle.bk_bytes.specs.Field.{AreBytes}
use Rattle.bk_device.specs.Disk.{Files, Disk, IsLawful, MayLeave}
use Rattle.bk_executing.specs.EngineLoading.{Stands}
use Rattle.bk_executing.specs.EngineStands.{IsOurs}
use Rattle.bk_executing.specs.HostingLoading.{HoldsHosting}
use Rattle.bk_items.specs.declared.item.ScriptEntry.{ScriptEntry}
use Rattle.bk_machine.specs.Acts.{Act, done_all}
use Rattle.bk_machine.specs.Closing.{AreClosing, closed_by}
use Rattle.bk_machine.specs.Crash.{Leaves}
use Rattle.bk_machine.specs.Events.{Happen, nothing_more, one_more}
use Rattle.bk_machine.specs.Machine.{behind}
use Rattle.bk_machine.specs.Outcome.{Outcome}
use Rattle.bk_machine.specs.Reached.{IsReached, nothing, ran, crashed, crashed_closing, happened}
use Rattle.bk_machine.specs.Run.{IsRun, behind_all, replies_of}
use Rattle.bk_machine.specs.World.{World, empty_world, opened, ended}
use Rattle.bk_master.specs.declared.record.Own.{Own}
use Rattle.bk_master.specs.Laws.{record_is_instance}
use Rattle.bk_master.specs.Master.{IsNotMade, IsNoInstance, fresh_own}
use Rattle.bk_msdb.specs.Msdb.{msdb_file}
use Rattle.bk_restarts.specs.Events.{HappenOn, StandsAtRest}
use Rattle.bk_volume.specs.Names.{medium_file}
use Rattle.bk_report.specs.Listing.{listing_text}
use Rattle.bk_world.specs.Text.{replies_text}
use Rattle.bk_console.specs.Answers.{LeavesOf, told_whole}
use Rattle.bk_console.specs.Life.{SameFiles, IsEmpty, MayAsk, Live, Called, Lasts}
use Rattle.bk_console.specs.Run.{LeavesRun}
use Rattle.bk_console.specs.Words.{WordOptions}

-- Files.

-- what laws say of files that are the same, of events, and of a device on which nothing happened yet
pub record EventLaws : Type 0 where
  pub same : (number : ℕ) (f g : Files) (w : World) → ((name : List ℕ) → IsOurs name → g name ≡ f name) → Stands number f w → Stands number g w
  pub any : (number : ℕ) (f g : Files) (w v : World) → HappenOn f w g v → StandsAtRest number f w → StandsAtRest number g v
  pub of_world : (f g : Files) (w v : World) → HappenOn f w g v → Happen w v
  pub closed : (old new : World) → old.closed ≡ true → Happen old new → new.closed ≡ true
  pub empty : (number : ℕ) (files : Files) → IsNotMade files → ((path : List ℕ) → AreBytes path → files (medium_file path) ≡ None) → files msdb_file ≡ None → StandsAtRest number files (empty_world number)

-- files that stand for a world under one number do so under each that may be asked for
stands-under : (number : ℕ) (files : Files) (w : World) → Stands number files w → (other : ℕ) → MayAsk other files w → Stands other files w
stands-under number files w stands other asks = record {
  sound = stands.sound;
  own = stands.own;
  instance = stands.instance;
  counter = stands.counter;
  hosted = stands.hosted;
  pends = stands.pends;
  hosts = stands.hosts;
  holds = holds stands.holds;
  media = stands.media;
  rows = stands.rows;
  finished = stands.finished;
}
  where
    holds : HoldsHosting number stands.own files stands.hosted → HoldsHosting other stands.own files stands.hosted
    holds (inl new) =
        let is : other ≡ number = asks new.0 ∙ stands.instance ∙ ap (λ (o : Own). o.number) new.1 in
        inl (new.0, new.1 ∙ ap fresh_own (sym is), new.2)
    holds (inr held) = inr held

-- files that stand for a world aren't those of no instance
stands-instance : (number : ℕ) (files : Files) (w : World) → Stands number files w → IsNoInstance files → ⊥
stands-instance number files w stands none = elim stands.holds [ inl new ↦ none.0 new.0 | inr held ↦ record_is_instance held.holds.is_record none ]

lives-for : (number : ℕ) (files : Files) (w : World) → IsReached w → Stands number files w → Live files w
lives-for number files w reached stands = record { reached = reached; stands = stands-under number files w stands; instance = stands-instance number files w stands }

-- under the number of its world
own-stands : (files : Files) (w : World) → Live files w → Stands w.instance files w
own-stands files w live = live.stands w.instance (λ _. refl)

live-same : EventLaws → (f g : Files) (w : World) → SameFiles f g → Live f w → Live g w
live-same laws f g w same live = lives-for w.instance g w live.reached (laws.same w.instance f g w (λ name ours. same name) (own-stands f w live))

-- Runs.

-- a front of a run
run-front : (w : World) (n : ℕ) (ss : List ScriptEntry) (ms : List ℕ) (os : List Outcome) → IsRun w ss ms os → IsRun w (take n ss) (take n ms) (take n os)
run-front w zero ss ms os run = tt
run-front w (suc n) [] [] [] run = tt
run-front w (suc n) [] [] (o ∷ os) run = absurd run
run-front w (suc n) [] (m ∷ ms) os run = absurd run
run-front w (suc n) (s ∷ ss) [] os run = absurd run
run-front w (suc n) (s ∷ ss) (m ∷ ms) [] run = absurd run
run-front w (suc n) (s ∷ ss) (m ∷ ms) (o ∷ os) run = (run.0, run-front (behind w o) n ss ms os run.1)

-- what a crash of a run, or of its closing, leaves is reached
reached-cut : (w : World) (ss : List ScriptEntry) (ms : List ℕ) (os : List Outcome) (acts : List Act) {number : ℕ} {told : List ℕ} {image : Files} {heard : List ℕ}
    → IsReached w → IsRun (opened w) ss ms os → AreClosing (behind_all (opened w) os) acts → (left : LeavesRun number (opened w) os acts told image heard) → IsReached left.leaves.left
reached-cut w ss ms os acts {number} {told} {image} {heard} reached run closing left = by left.cut left.leaves left.which
  where
    front : (xs : List Outcome) (leaves : LeavesOf number (opened w) xs told image heard) → xs ≡ os ++ closed_by acts ∷ [] → (leaves.begun < length xs) ⊎ (length xs ≤ leaves.begun) → IsReached leaves.left
    front xs leaves same (inl below) =
        let few : leaves.begun ≤ length os = omega (arith, below, ap length same, length-append os (closed_by acts ∷ [])) in
        let is : take leaves.begun xs ≡ take leaves.begun os = ap (take leaves.begun) same ∙ take-append-le leaves.begun os (closed_by acts ∷ []) few in
        crashed w leaves.left _ _ _ _ reached (run-front (opened w) leaves.begun ss ms os run) (subst (λ ys. Leaves (opened w) ys (told_whole (replies_of xs) leaves.count) leaves.left) is leaves.leaves)
    front xs leaves same (inr all) =
        let is : take leaves.begun xs ≡ os ++ closed_by acts ∷ [] = ap (λ n. take n xs) (omega (arith, all, leaves.few)) ∙ take-length xs ∙ same in
        crashed_closing w leaves.left ss ms os acts _ reached run closing (subst (λ ys. Leaves (opened w) ys (told_whole (replies_of xs) leaves.count) leaves.left) is leaves.leaves)

    by : (xs : List Outcome) (leaves : LeavesOf number (opened w) xs told image heard) → (xs ≡ os) ⊎ ((xs ≡ os ++ closed_by acts ∷ []) × (heard ≡ told ++ replies_text listing_text (replies_of os))) → IsReached leaves.left
    by xs leaves (inl same) =
        crashed w leaves.left _ _ _ _ reached (run-front (opened w) leaves.begun ss ms os run)
        (subst (λ ys. Leaves (opened w) (take leaves.begun ys) (told_whole (replies_of xs) leaves.count) leaves.left) same leaves.leaves)
    by xs leaves (inr closes) = front xs leaves closes.0 (cases_lt leaves.begun (length xs))

-- Events.

reached-by : EventLaws → (w v : World) → IsReached w → w.closed ≡ true → Happen w v → IsReached v
reached-by laws w v reached closed nothing_more = reached
reached-by laws w v reached closed (one_more {mid = mid} happens more) =
    reached-by laws mid v (happened w mid reached closed happens) (laws.closed w mid closed (one_more happens nothing_more)) more

happen-lives : EventLaws → (f g : Files) (w v : World) → Live f w → w.closed ≡ true → HappenOn f w g v → Live g v
happen-lives laws f g w v live closed happen =
    let at = laws.any w.instance f g w v happen (record { stands = own-stands f w live; rest = inl closed }) in
    lives-for w.instance g v (reached-by laws w v live.reached closed (laws.of_world f g w v happen)) at.stands

pub empty-lives : EventLaws → (number : ℕ) (files : Files) → IsEmpty files → Live files (empty_world number)
empty-lives laws number files is =
    let at = laws.empty number files is.not_made is.no_media is.no_rows in
    lives-for number files (empty_world number) (nothing number) at.stands

-- Calls.

module _ {D : Type 0} (source_tells clock_tells device_tells : Type 0) (disk : D → Disk) (lawful : device_tells → (device : D) → IsLawful (disk device)) (laws : EventLaws) (files : Files) (w : World) (live : Live files w)
    (before after : D) (status : ℕ) where
  abbrev Call : Option WordOptions → Type 0
  Call asks = Called source_tells clock_tells device_tells disk asks files before after status

  -- the run may begin with the world
  call-begins : (options : WordOptions) → Call (Some options) → MayAsk options.instance files w → Stands options.instance (disk before).files w
  call-begins options call asks = laws.same options.instance files (disk before).files w (λ name ours. call.begins name) (live.stands options.instance asks)

  ended-lives : (options : WordOptions) (call : Call (Some options)) → MayAsk options.instance files w → (status ≡ 0) ⊎ (status ≡ 1)
      → (acts : List Act) × AreClosing (behind_all (opened w) call.ran.executed.outcomes) acts
      × Live (disk after).files (ended (done_all (behind_all (opened w) call.ran.executed.outcomes) acts))
      × ((image : Files) → MayLeave (disk after) image → Live image (ended (done_all (behind_all (opened w) call.ran.executed.outcomes) acts)))
  ended-lives options call asks ends =
      let begins = call-begins options call asks in
      let run = call.ran.executed.runs call.tells call.settled w begins in
      let close = call.ran.executed.closes call.tells call.settled w begins in
      let reached : IsReached (ended (done_all (behind_all (opened w) call.ran.executed.outcomes) close.acts)) = ran w _ _ _ _ live.reached run close.closing in
      (close.acts, close.closing, lives-for options.instance (disk after).files _ reached (close.stands ends), λ image left. lives-for options.instance image _ reached (close.lasts ends image left))

  cut-lives : (options : WordOptions) (call : Call (Some options)) → MayAsk options.instance files w → (image : Files) (heard : List ℕ) → (disk after).left (disk before).moment image heard
      → (acts : List Act) × AreClosing (behind_all (opened w) call.ran.executed.outcomes) acts
      × (left : LeavesRun options.instance (opened w) call.ran.executed.outcomes acts (disk before).told image heard) × Live image left.leaves.left
  cut-lives options call asks image heard left =
      let begins = call-begins options call asks in
      let run = call.ran.executed.runs call.tells call.settled w begins in
      let close = call.ran.executed.closes call.tells call.settled w begins in
      let cut = close.crashes.each image heard left in
      (close.acts, close.closing, cut, lives-for options.instance image cut.leaves.left (reached-cut w _ _ _ close.acts live.reached run close.closing cut) cut.leaves.stands)

  stayed-lives : (asks : Option WordOptions) → Call asks → (status ≡ 2) ⊎ (status ≡ 3) ⊎ (status ≡ 8) → (image : Files) (heard : List ℕ) → (disk after).left (disk before).moment image heard → Live image w
  stayed-lives asks call stays image heard left =
      let at : (disk before).left (disk before).moment image heard = subst (λ (device : D). (disk device).left (disk before).moment image heard) (call.untouched stays) left in
      let now = (lawful call.tells before).only_now image heard at in
      live-same laws files image w (λ name. call.settled name (image name) (now.0 name) ∙ call.begins name) live

  never-none : (asks : Option WordOptions) → Call asks → status ≡ 7 → ⊥
  never-none asks call seven = (live-same laws files (disk before).files w call.begins live).instance (call.not_an_instance seven)

module _ {D : Type 0} (source_tells clock_tells device_tells : Type 0) (disk : D → Disk) (lawful : device_tells → (device : D) → IsLawful (disk device)) (laws : EventLaws) where
  pub live-lasts : (n : ℕ) (files : Files) (w : World) → Live files w → Lasts source_tells clock_tells device_tells disk n files w
  live-lasts zero files w live = live
  live-lasts (suc n) files w live = record {
    live = live;
    ends = λ options before after status call asks ends.
        let found = ended-lives source_tells clock_tells device_tells disk lawful laws files w live before after status options call asks ends in
        (found.0, found.1, live-lasts n _ _ found.2, λ image left. live-lasts n _ _ (found.3 image left));
    cuts = λ options before after status call asks image heard left.
        let found = cut-lives source_tells clock_tells device_tells disk lawful laws files w live before after status options call asks image heard left in
        (found.0, found.1, found.2, live-lasts n _ _ found.3);
    stays = λ asks before after status call stays image heard left.
        live-lasts n _ _ (stayed-lives source_tells clock_tells device_tells disk lawful laws files w live before after status asks call stays image heard left);
    never = λ asks before after call. never-none source_tells clock_tells device_tells disk lawful laws files w live before after 7 asks call refl;
    happens = λ next new closed happen. live-lasts n _ _ (happen-lives laws files next w new live closed happen);
    numbered = λ number is. live-lasts n _ _ (empty-lives laws number files is);
  }
