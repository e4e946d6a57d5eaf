-- A run is closed: no backup runs any more, and what is open is rolled back, one transaction after the other.
use Rattle.std.proofs.Common.{◌≡◌, ◌≤◌, ◌<◌, ◌⊎◌, Bool, true, false, inl, inr, ℕ, zero, suc, ◌+◌, List, [], ◌∷◌, ◌++◌, length, map, take, Option, None, Some, refl, sym, ◌∙◌, ap, subst, arith, add-one}
use Rattle.std.specs.Prelude.{OnOk, Result, slice_get, if◌then◌else◌}
use Rattle.std.specs.List.{AllByRecursion}
use Rattle.std.proofs.lemmas.List.{append-nil}
use Rattle.bk_acts.specs.declared.act.StoredAct.{StoredAct}
use Rattle.bk_asked.specs.Asked.{held_of}
use Rattle.bk_asked.specs.declared.opens.Held.{Held as HeldRef}
use Rattle.bk_device.specs.Compose.{effect_then, effect_weaken}
use Rattle.bk_device.specs.Disk.{Disk, Files}
use Rattle.bk_device.specs.Effects.{Effect}
use Rattle.bk_engine.specs.Loading.{Stands}
use Rattle.bk_engine.specs.Stands.{Covers, IsOurs, Kept, StandsFor}
use Rattle.bk_engine.specs.ViewLaws.{remembers}
use Rattle.bk_engine.specs.Viewing.{Remembers}
use Rattle.bk_kept.specs.declared.kept.Database.{Database as KeptDatabase}
use Rattle.bk_kept.specs.declared.kept.Kept.{Kept as KeptOf}
use Rattle.bk_kept.specs.Keeps.{Sees, ShowsLog, database_of}
use Rattle.bk_kept.specs.Stored.{IsDone}
use Rattle.bk_machine.specs.Acts.{Act, done, done_all, jobs_dropped}
use Rattle.bk_machine.specs.Closing.{AreClosing, HasNoJobs, IsClosingFront, IsFirst, count_open}
use Rattle.bk_machine.specs.ClosingLaws.{closing-joined, done-joined, front-joined}
use Rattle.bk_machine.specs.HeldLaws.{held-is}
use Rattle.bk_machine.specs.MayDo.{MayDo}
use Rattle.bk_machine.specs.NamedLaws.{named-each}
use Rattle.bk_machine.specs.Sound.{AreIdle, IsIdle, IsSound}
use Rattle.bk_machine.specs.World.{Database, Held, World, database_named, ended}
use Rattle.bk_machine.specs.statements.Rollback.{rolls_back}
use Rattle.bk_restarts.specs.Crashes.{CutIn}
use Rattle.bk_restarts.specs.CutLaws.{cut-first}
use Rattle.bk_executing.specs.Closing.{ClosesBy, CutsClosing, CutsEnd, DropsJobs, HasNoneOpen, RollsAll, RollsBack, RollsFirst, RollsSeen}
use Rattle.bk_executing.specs.Parts.{CutsStored, DoesStored}
use Rattle.bk_executing.proofs.PartByPart.{cut-before, cut-behind}
use Rattle.bk_executing.proofs.Results.{moved, of-ok, on-all}

-- ---- nothing is open

none-count : (dbs : List Database) → AllByRecursion (λ (db : Database). db.transactions ≡ []) dbs → count_open dbs ≡ 0
none-count [] none = refl
none-count (db ∷ dbs) none =
    let here : length db.transactions ≡ 0 = ap (λ ts. length ts) none.0 in
    let rest : count_open dbs ≡ 0 = none-count dbs none.1 in
    omega (arith, here, rest)

idle-none : (dbs : List Database) → AllByRecursion IsIdle dbs → AllByRecursion (λ (db : Database). db.transactions ≡ []) dbs
idle-none [] idle = tt
idle-none (db ∷ dbs) idle = (idle.0.transactions, idle-none dbs idle.1)

pub idle-count : (w : World) → AreIdle w → count_open w.databases ≡ 0
idle-count w idle = none-count w.databases (idle-none w.databases idle)

idle-jobs : (dbs : List Database) → AllByRecursion IsIdle dbs → AllByRecursion (λ (db : Database). db.job ≡ None) dbs
idle-jobs [] idle = tt
idle-jobs (db ∷ dbs) idle = (idle.0.job, idle-jobs dbs idle.1)

-- no backup runs where nothing is open
pub idle-jobless : (w : World) → AreIdle w → HasNoJobs w
idle-jobless w idle = idle-jobs w.databases idle

-- ---- the first one

-- what the machine's laws say of closing
pub record CloseLaws : Type 0 where
  pub comes : (w : World) → IsSound w → HasNoneOpen w ⊎ ((held : Held) × IsFirst w held)
  pub alone : (w : World) (a b : Held) → IsFirst w a → IsFirst w b → a ≡ b
  pub fewer : (w : World) (held : Held) → IsSound w → IsFirst w held → count_open (done w (rolls_back w held)).databases + 1 ≡ count_open w.databases
  pub more : (w : World) (acts : List Act) (held : Held) → IsClosingFront w acts → IsFirst (done_all w acts) held → IsClosingFront w (acts ++ rolls_back (done_all w acts) held ∷ [])

-- where none is open there is none
pub no-first : CloseLaws → (w : World) (held : Held) → IsSound w → IsFirst w held → count_open w.databases ≡ 0 → ⊥
no-first laws w held sound first none =
    let less : count_open (done w (rolls_back w held)).databases + 1 ≡ count_open w.databases = laws.fewer w held sound first in
    omega (arith, less, none)

-- where some are open there is one
pub some-first : CloseLaws → (w : World) → IsSound w → 0 < count_open w.databases → (held : Held) × IsFirst w held
some-first laws w sound some = by (laws.comes w sound)
  where
    by : HasNoneOpen w ⊎ ((held : Held) × IsFirst w held) → (held : Held) × IsFirst w held
    by (inl none) = let nothing : count_open w.databases ≡ 0 = none-count w.databases none in absurd (omega (arith, nothing, some))
    by (inr first) = first

-- the stored act that is found rolls the first one back
first-done : CloseLaws → (w : World) (stored : StoredAct) (held : Held) → RollsBack w (Some stored) → IsFirst w held → IsDone w stored (rolls_back w held)
first-done laws w stored held (other, least, is_done) first = subst (λ (h : Held). IsDone w stored (rolls_back w h)) (laws.alone w other held least first) is_done

-- where none is open none is the first
pub none-first : {P : Type 0} → CloseLaws → (w : World) (held : Held) → IsSound w → HasNoneOpen w → IsFirst w held → P
none-first laws w held sound none first = absurd (no-first laws w held sound first (none-count w.databases none))

module _ {D : Type 0} (laws : CloseLaws) (disk : D → Disk) (x y z : D) (same : y ≡ x) (old new : Kept) (stored : StoredAct) (rolls : (w : World) → StandsFor (disk x) old w → RollsBack w (Some stored)) where
  pub one-rolls : {A E : Type 0} (result : Result A E) → OnOk result (DoesStored old (disk y) stored new (disk z)) → (w : World) (held : Held) → StandsFor (disk x) old w → IsFirst w held → OnOk result (StandsFor (disk z) new (done w (rolls_back w held)))
  one-rolls result does w held stands first = on-all result (λ value ok. of-ok result value ok does w (rolls_back w held) (subst (λ d. StandsFor (disk d) old w) (sym same) stands) (first-done laws w stored held (rolls w stands) first))

  pub one-cuts : CutsStored old (disk y) stored (disk z) → (w : World) (held : Held) → StandsFor (disk x) old w → IsFirst w held → Effect IsOurs (CutIn w (rolls_back w held ∷ [])) (disk x) (disk z)
  one-cuts cuts w held stands first =
      let whole : Effect IsOurs (CutIn w (rolls_back w held ∷ [])) (disk y) (disk z) = cuts w (rolls_back w held) [] (subst (λ d. StandsFor (disk d) old w) (sym same) stands) (first-done laws w stored held (rolls w stands) first) in
      moved disk x y same whole

-- the act that is found, in each world for which an engine stands
pub found-rolls : (disk : Disk) (e : Kept) (found act : Option StoredAct) → found ≡ act → RollsFirst e found → (w : World) → StandsFor disk e w → RollsBack w act
found-rolls disk e found act is rolls w stands = subst (RollsBack w) is (rolls w stands.sound (remembers disk e w stands))

-- nothing is done
pub none-cuts : (w : World) (acts : List Act) {a b : Disk} → Effect IsOurs (Covers w) a b → Effect IsOurs (CutIn w acts) a b
none-cuts w acts effect = effect_weaken (λ image covers. cut-first w acts image covers) effect

-- ---- acts that close, one after another

-- no act was done yet
pub cuts-none : (w : World) {a b : Disk} → Effect IsOurs (Covers w) a b → CutsClosing w a b
cuts-none w effect = record { acts = []; closes = tt; cuts = none-cuts w [] effect }

abbrev pub by-none : (w : World) (e : Kept) {a b : Disk} → Effect IsOurs (Covers w) a b → StandsFor b e w → ClosesBy w a e b
by-none w e effect stands = record { acts = []; closes = tt; cuts = none-cuts w [] effect; stands = stands }

-- backups that run were dropped, or none ran
pub drops-by : ((v : World) → HasNoJobs (done v jobs_dropped)) → (w : World) (new : Kept) {a b : Disk} (ran : Bool) → Effect IsOurs (Covers w) a b → StandsFor b new (if ran then done w jobs_dropped else w) → (ran ≡ false → HasNoJobs w) → DropsJobs w a new b
drops-by drops w new true effect stands idle = record { by = record { acts = jobs_dropped ∷ []; closes = (inl refl, tt); cuts = none-cuts w (jobs_dropped ∷ []) effect; stands = stands }; none = drops w }
drops-by drops w new false effect stands idle = record { by = by-none w new effect stands; none = idle refl }

-- what was done is cut nowhere but inside of its acts
pub by-cut : {w : World} {e : Kept} {a b : Disk} → ClosesBy w a e b → CutsClosing w a b
by-cut so = record { acts = so.acts; closes = so.closes; cuts = so.cuts }

-- what is cut off behind a front was cut off
module _ (w : World) (a b c : Disk) (mid : Kept) (so : ClosesBy w a mid b) where
  pub goes : (acts : List Act) → Effect IsOurs (CutIn (done_all w so.acts) acts) b c → Effect IsOurs (CutIn w (so.acts ++ acts)) a c
  goes acts cuts = effect_then (effect_weaken (λ image cut. cut-before w so.acts acts image cut) so.cuts) (effect_weaken (λ image cut. cut-behind w so.acts acts image cut) cuts)

  pub cuts-then : CutsClosing (done_all w so.acts) b c → CutsClosing w a c
  cuts-then later = record { acts = so.acts ++ later.acts; closes = front-joined w so.acts later.acts so.closes later.closes; cuts = goes later.acts later.cuts }

  abbrev pub by-then : (new : Kept) → ClosesBy (done_all w so.acts) b new c → ClosesBy w a new c
  by-then new later = record {
    acts = so.acts ++ later.acts;
    closes = front-joined w so.acts later.acts so.closes later.closes;
    cuts = goes later.acts later.cuts;
    stands = subst (StandsFor c new) (sym (done-joined w so.acts later.acts)) later.stands;
  }

-- ---- all that is open

-- so many were rolled back
pub record RollsTo (i : ℕ) (w : World) (before : Disk) (new : Kept) (after : Disk) : Type 0 where
  pub by : ClosesBy w before new after
  pub left : count_open (done_all w by.acts).databases + i ≡ count_open w.databases

pub none-rolled : (w : World) (e : Kept) {a b : Disk} → Effect IsOurs (Covers w) a b → StandsFor b e w → RollsTo 0 w a e b
none-rolled w e effect stands = record { by = by-none w e effect stands; left = omega arith }

-- one more is rolled back, or that is cut off
module _ (laws : CloseLaws) (w : World) (i count : ℕ) (some : i < count) (counted : count ≡ count_open w.databases) (a b c : Disk) (mid : Kept) (so : RollsTo i w a mid b) where
  next-held : (held : Held) × IsFirst (done_all w so.by.acts) held
  next-held = let left = so.left in some-first laws (done_all w so.by.acts) so.by.stands.sound (omega (arith, left, some, counted))

  pub more-cuts : ((v : World) (held : Held) → StandsFor b mid v → IsFirst v held → Effect IsOurs (CutIn v (rolls_back v held ∷ [])) b c) → CutsClosing w a c
  more-cuts cuts =
      let next = next-held in
      let acts : List Act = rolls_back (done_all w so.by.acts) next.0 ∷ [] in
      record { acts = so.by.acts ++ acts; closes = laws.more w so.by.acts next.0 so.by.closes next.1; cuts = goes w a b c mid so.by acts (cuts (done_all w so.by.acts) next.0 so.by.stands next.1) }

  pub more-rolls : (new : Kept) → ((v : World) (held : Held) → StandsFor b mid v → IsFirst v held → StandsFor c new (done v (rolls_back v held))) → ((v : World) (held : Held) → StandsFor b mid v → IsFirst v held → Effect IsOurs (CutIn v (rolls_back v held ∷ [])) b c)
      → RollsTo (i + 1) w a new c
  more-rolls new does cuts =
      let next = next-held in
      let v : World = done_all w so.by.acts in
      let acts : List Act = rolls_back v next.0 ∷ [] in
      let joined : done_all w (so.by.acts ++ acts) ≡ done v (rolls_back v next.0) = done-joined w so.by.acts acts in
      let less : count_open (done v (rolls_back v next.0)).databases + 1 ≡ count_open v.databases = laws.fewer v next.0 so.by.stands.sound next.1 in
      let same : count_open (done_all w (so.by.acts ++ acts)).databases ≡ count_open (done v (rolls_back v next.0)).databases = ap (λ (x : World). count_open x.databases) joined in
      let left = so.left in
      record {
        by = record {
          acts = so.by.acts ++ acts;
          closes = laws.more w so.by.acts next.0 so.by.closes next.1;
          cuts = goes w a b c mid so.by acts (cuts v next.0 so.by.stands next.1);
          stands = subst (StandsFor c new) (sym joined) (does v next.0 so.by.stands next.1);
        };
        left = omega (arith, less, same, left);
      }

-- behind so many rollbacks nothing is open
pub all-rolled : (count i : ℕ) (w : World) (a b : Disk) (new : Kept) → count ≤ i → count ≡ count_open w.databases → RollsTo i w a new b → RollsAll w a new b
all-rolled count i w a b new all counted so = let left = so.left in record { by = so.by; none = omega (arith, left, all, counted) }

-- ---- the end of the run

-- what the machine's laws say of the acts that close a run
pub record EndLaws : Type 0 where
  pub comes : (w : World) → IsSound w → (acts : List Act) × AreClosing w acts
  pub sound : (w : World) (acts : List Act) → IsSound w → IsClosingFront w acts → IsSound (done_all w acts)
  pub jobless : (w : World) (acts : List Act) → IsClosingFront w acts → HasNoJobs w → HasNoJobs (done_all w acts)
  pub closed : (w : World) → count_open w.databases ≡ 0 → HasNoJobs w → AreClosing w []

-- cut off before its end, a closing is cut inside of acts that close the run
pub ends-early : EndLaws → (number : ℕ) (w : World) (a b : Disk) → IsSound w → CutsClosing w a b → (acts : List Act) × AreClosing w acts × Effect IsOurs (CutsEnd number w acts) a b
ends-early laws number w a b sound cut =
    let rest = laws.comes (done_all w cut.acts) (laws.sound w cut.acts sound cut.closes) in (
      cut.acts ++ rest.0,
      closing-joined w cut.acts rest.0 cut.closes rest.1,
      effect_weaken (λ image is. inl (cut-before w cut.acts rest.0 image is)) cut.cuts,
    )

-- jobs are dropped, and what is open is rolled back
module _ (laws : EndLaws) (w : World) (a b c : Disk) (mid new : Kept) (drops : DropsJobs w a mid b) (rolls : RollsAll (done_all w drops.by.acts) b new c) where
  abbrev pub whole : ClosesBy w a new c
  whole = by-then w a b c mid drops.by new rolls.by

  pub ends-idle : AreIdle (done_all w whole.acts)
  ends-idle =
      let v : World = done_all w drops.by.acts in
      subst AreIdle (sym (done-joined w drops.by.acts rolls.by.acts)) (laws.closed (done_all v rolls.by.acts) rolls.none (laws.jobless v rolls.by.acts rolls.by.closes drops.none))

  pub ends-closed : AreClosing w whole.acts
  ends-closed = subst (AreClosing w) (append-nil whole.acts) (closing-joined w whole.acts [] whole.closes ends-idle)

  -- behind all of it, before the run has ended or once it has
  pub ends-cut : (number : ℕ) (d : Disk) → Effect IsOurs (λ image. Covers (done_all w whole.acts) image ⊎ Stands number image (ended (done_all w whole.acts))) c d → Effect IsOurs (CutsEnd number w whole.acts) a d
  ends-cut number d effect = effect_then (effect_weaken (λ image cut. inl cut) whole.cuts) (effect_weaken (λ image left. last image left) effect)
    where
      last : (image : Files) → Covers (done_all w whole.acts) image ⊎ Stands number image (ended (done_all w whole.acts)) → CutsEnd number w whole.acts image
      last image (inl covers) = inl (subst (λ (all : List Act). CutIn w all image) (append-nil whole.acts) (cut-behind w whole.acts [] image (cut-first (done_all w whole.acts) [] image covers)))
      last image (inr stands) = inr stands

-- ---- the act that is found

pub held-rolls : (k : KeptOf) (held : HeldRef) (stored : StoredAct) → ((w : World) (held : Held) → IsSound w → IsFirst w held → MayDo w (rolls_back w held))
    → ((w : World) → database_named w.databases held.database.now.name ≡ Some (database_of held.database.now) → ShowsLog w.history held.database.now → MayDo w (rolls_back w (held_of held)) → IsDone w stored (rolls_back w (held_of held)))
    → ((w : World) → Sees w k → IsFirst w (held_of held)) → ((w : World) → Sees w k → ShowsLog w.history held.database.now) → RollsSeen k (Some stored)
held-rolls k held stored may done_so is shows w sound sees =
    let first : IsFirst w (held_of held) = is w sees in
    let Named : Database → Type 0 = λ (db : Database). database_named w.databases db.name ≡ Some db in
    let there = held-is Named w.databases held.transaction.now.session (held_of held) (named-each w.databases sound.whole.different) first.there in
    (held_of held, first, done_so w there.0 (shows w sees) (may w (held_of held) sound first))

-- what is found in what is seen
pub seen-rolls : (k : KeptOf) (e : Kept) (found : Option StoredAct) → ((w : World) → Remembers e w → Sees w k) → RollsSeen k found → RollsFirst e found
seen-rolls k e found sees rolls w sound has = rolls w sound (sees w has)

-- ---- how many are counted

take-last : (ds : List KeptDatabase) (i : ℕ) (d : KeptDatabase) → slice_get ds i ≡ Some d → take (suc i) ds ≡ take i ds ++ d ∷ []
take-last [] i d there = absurd cc
take-last (x ∷ ds) zero d there = let same : x ≡ d = cc in ap (λ (y : KeptDatabase). y ∷ []) same
take-last (x ∷ ds) (suc i) d there = ap (λ (more : List KeptDatabase). x ∷ more) (take-last ds i d there)

pub count-more : (ds : List KeptDatabase) (i : ℕ) (d : KeptDatabase) → slice_get ds i ≡ Some d → count_open (map database_of (take (i + 1) ds)) ≡ count_open (map database_of (take i ds)) + length d.transactions
count-more ds i d there =
    let same : take (i + 1) ds ≡ take i ds ++ d ∷ [] = rw add-one (take-last ds i d there) in
    ap (λ (xs : List KeptDatabase). count_open (map database_of xs)) same ∙ last (take i ds) d
  where
    last : (xs : List KeptDatabase) (d : KeptDatabase) → count_open (map database_of (xs ++ d ∷ [])) ≡ count_open (map database_of xs) + length d.transactions
    last [] d = omega arith
    last (x ∷ xs) d = let rest = last xs d in omega (arith, rest)
