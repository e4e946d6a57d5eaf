-- Where a run is cut that begins in a sound world.
use Rattle.std.proofs.Common.{◌≡◌, ◌≤◌, inl, inr, ℕ, zero, suc, ◌+◌, List, [], ◌∷◌, ◌++◌, take, drop, refl, sym, ◌∙◌, ap, subst, Option}
use Rattle.std.specs.List.{AllByRecursion, AllZip}
use Rattle.std.proofs.lemmas.List.{take-append-drop}
use Rattle.bk_world.specs.Cut.{settled}
use Rattle.bk_lemmas.specs.Lists.{all_both}
use Rattle.bk_world.specs.Records.{Logged}
use Rattle.bk_world.specs.declared.database.Status.TheVariants.{Online}
use Rattle.bk_world.specs.declared.header.Header.{Header}
use Rattle.bk_world.specs.declared.database.Base.{Base}
use Rattle.bk_machine.specs.declared.history_row.HistoryRow.{HistoryRow}
use Rattle.bk_machine.specs.Acts.{Act, turned, seated, created, dropped, logged, medium_made, set_drawn, noted, set_sealed, based, replaced, restored, recovered, done, done_all, readied, job_set, jobs_dropped, Recovery}
use Rattle.bk_machine.specs.Crash.{CutsRun, IsQuiet, Leaves, WorldLeft, front_of, next_acts}
use Rattle.bk_machine.specs.MayDo.{MayDoAll}
use Rattle.bk_machine.specs.Outcome.{Outcome}
use Rattle.bk_machine.specs.Run.{behind_all}
use Rattle.bk_machine.specs.Sound.{IsSound, IsWhole, IsWholeDatabase}
use Rattle.bk_machine.specs.Stays.{IsCutOf, IsFront, MayStay}
use Rattle.bk_machine.specs.World.{Database, World, log_of}
use Rattle.bk_machine.proofs.Acting.{acts-sound}
use Rattle.bk_machine.proofs.LeftNumbers.{may-stay}
use Rattle.bk_machine.proofs.Cutting.{HaveNumbers, IsOwn, OpenOwn, OpensOwn, PendsOwn, cut-pends, open-before, open-done-all}
use Rattle.bk_machine.proofs.Ends.{IsSteady, IsWithin, Rose, rose-cut, within-before, within-replaced, within-restored, within-rose, within-whole}
use Rattle.bk_machine.proofs.Remaining.{what-stays}
use Rattle.bk_machine.proofs.statements.Facts.{EndWell, NotLogged, all-take}
use Rattle.bk_machine.proofs.statements.Fronts.{cut-whole}
use Rattle.bk_machine.specs.ClosingLaws.{done-joined}
use Rattle.bk_machine.proofs.statements.Running.{RunsWell, Within, may-front, may-rest, numbers-rest, within-well}

-- ---- lists

all-drop : {X : Type 0} (P : X → Type 0) (n : ℕ) (xs : List X) → AllByRecursion P xs → AllByRecursion P (drop n xs)
all-drop P zero xs all = all
all-drop P (suc n) [] all = tt
all-drop P (suc n) (x ∷ xs) all = all-drop P n xs all.1

take-none : {X : Type 0} (n : ℕ) → let none : List X = [] in take n none ≡ none
take-none zero = refl
take-none (suc n) = refl

drop-none : {X : Type 0} (n : ℕ) → let none : List X = [] in drop n none ≡ none
drop-none zero = refl
drop-none (suc n) = refl

front-none : (n : ℕ) → front_of n [] ≡ []
front-none zero = refl
front-none (suc n) = refl

-- ---- what a statement does, as far as it can be cut

record CutWell (w : World) (acts : List Act) : Type 0 where
  opens : AllByRecursion (OpensOwn w) acts
  own : AllByRecursion (IsOwn w) acts
  numbers : HaveNumbers w acts
  ends : EndWell acts

none-said : (act : Act) (acts : List Act) (n : ℕ) → NotLogged act → front_of n (act ∷ acts) ≡ []
none-said act acts zero not_logged = refl
none-said (logged name said transactions) acts (suc n) not_logged = absurd not_logged
none-said (turned name) acts (suc n) not_logged = refl
none-said (seated session) acts (suc n) not_logged = refl
none-said (readied starts) acts (suc n) not_logged = refl
none-said (created c) acts (suc n) not_logged = refl
none-said (dropped name) acts (suc n) not_logged = refl
none-said (medium_made path) acts (suc n) not_logged = refl
none-said set_drawn acts (suc n) not_logged = refl
none-said (set_sealed path header) acts (suc n) not_logged = refl
none-said (noted row) acts (suc n) not_logged = refl
none-said (based name header) acts (suc n) not_logged = refl
none-said (job_set name job) acts (suc n) not_logged = refl
none-said jobs_dropped acts (suc n) not_logged = refl
none-said (replaced name header) acts (suc n) not_logged = refl
none-said (restored name base redo) acts (suc n) not_logged = refl
none-said (recovered name r) acts (suc n) not_logged = refl

-- the acts of a restore
abbrev restoring : List ℕ → Header → Option Base → ℕ → Recovery → HistoryRow → List Act
restoring name header base redo r row = replaced name header ∷ restored name base redo ∷ recovered name r ∷ noted row ∷ []

-- a row of msdb leaves the databases
noted-leaves : (w : World) (row : HistoryRow) → (done w (noted row)).databases ≡ w.databases
unfolding done
noted-leaves w row = refl

-- the world where acts are cut
abbrev cut_at : World → List Act → ℕ → ℕ → World
cut_at before acts k n = done_all (done_all before (take k acts)) (front_of n (drop k acts))

module _ (before : World) (sound : IsSound before) where
  -- the ends of databases lie within those before and behind
  within-cut : (acts : List Act) (k n : ℕ) → MayDoAll before acts → EndWell acts → AllByRecursion (IsWithin before (done_all before acts)) (cut_at before acts k n).databases
  within-cut acts k n may (inl steady) =
      let whole : World = done_all before acts in
      let all : done_all (done_all before (take k acts)) (drop k acts) ≡ whole = sym (done-joined before (take k acts) (drop k acts)) ∙ ap (done_all before) (take-append-drop k acts) in
      within-rose before whole (cut_at before acts k n).databases
      (subst (λ (w : World). AllZip Rose (cut_at before acts k n).databases w.databases) all (rose-cut (done_all before (take k acts)) (drop k acts) n (all-drop IsSteady k acts steady)))
      (acts-sound before acts sound may).whole.different
  within-cut acts k n may (inr (inl one)) =
      subst (λ rest. AllByRecursion (IsWithin before (done_all before rest)) (cut_at before rest k n).databases) (sym one.2) (by k (subst (MayDoAll before) one.2 may))
    where
      by : (k : ℕ) → MayDoAll before (one.0 ∷ []) → AllByRecursion (IsWithin before (done_all before (one.0 ∷ []))) (cut_at before (one.0 ∷ []) k n).databases
      by zero may =
          subst (λ rest. AllByRecursion (IsWithin before (done_all before (one.0 ∷ []))) (done_all before rest).databases) (sym (none-said one.0 [] n one.1)) (within-before before (done_all before (one.0 ∷ [])) sound.whole.different)
      by (suc k) may =
          let nothing : front_of n (drop k []) ≡ [] = ap (front_of n) (drop-none k) ∙ front-none n in
          let taken : take k [] ≡ [] = take-none k in
          subst (λ rest. AllByRecursion (IsWithin before (done before one.0)) (done_all (done_all (done before one.0) (take k [])) rest).databases) (sym nothing)
          (subst (λ rest. AllByRecursion (IsWithin before (done before one.0)) (done_all (done before one.0) rest).databases) (sym taken) (within-whole before (done before one.0) (acts-sound before (one.0 ∷ []) sound may).whole.different))
  within-cut acts k n may (inr (inr (name, header, base, redo, r, row, is))) =
      subst (λ rest. AllByRecursion (IsWithin before (done_all before rest)) (cut_at before rest k n).databases) (sym is) (by k (subst (MayDoAll before) is may))
    where
      first : AllByRecursion (IsWithin before (done_all before (restoring name header base redo r row))) before.databases
      first = within-before before (done_all before (restoring name header base redo r row)) sound.whole.different

      second : AllByRecursion (IsWithin before (done_all before (restoring name header base redo r row))) (done before (replaced name header)).databases
      second = within-replaced before (done_all before (restoring name header base redo r row)) before name header first

      third : AllByRecursion (IsWithin before (done_all before (restoring name header base redo r row))) (done (done before (replaced name header)) (restored name base redo)).databases
      third = within-restored before (done_all before (restoring name header base redo r row)) (done before (replaced name header)) name base redo second

      last : MayDoAll before (restoring name header base redo r row) → AllByRecursion (IsWithin before (done_all before (restoring name header base redo r row))) (done_all before (restoring name header base redo r row)).databases
      last may = within-whole before (done_all before (restoring name header base redo r row)) (acts-sound before (restoring name header base redo r row) sound may).whole.different

      -- nothing is said where one of these acts is cut
      unsaid : (w : World) (act : Act) (acts : List Act) → NotLogged act → AllByRecursion (IsWithin before (done_all before (restoring name header base redo r row))) w.databases
          → AllByRecursion (IsWithin before (done_all before (restoring name header base redo r row))) (done_all w (front_of n (act ∷ acts))).databases
      unsaid w act acts not_logged all = subst (λ front. AllByRecursion (IsWithin before (done_all before (restoring name header base redo r row))) (done_all w front).databases) (sym (none-said act acts n not_logged)) all

      by : (k : ℕ) → MayDoAll before (restoring name header base redo r row) → AllByRecursion (IsWithin before (done_all before (restoring name header base redo r row))) (cut_at before (restoring name header base redo r row) k n).databases
      by zero may = unsaid before (replaced name header) (restored name base redo ∷ recovered name r ∷ noted row ∷ []) tt first
      by (suc zero) may = unsaid (done before (replaced name header)) (restored name base redo) (recovered name r ∷ noted row ∷ []) tt second
      by (suc (suc zero)) may = unsaid (done (done before (replaced name header)) (restored name base redo)) (recovered name r) (noted row ∷ []) tt third
      by (suc (suc (suc zero))) may =
          let online : World = done (done (done before (replaced name header)) (restored name base redo)) (recovered name r) in
          unsaid online (noted row) [] tt (subst (λ (ds : List Database). AllByRecursion (IsWithin before (done_all before (restoring name header base redo r row))) ds) (noted-leaves online row) (last may))
      by (suc (suc (suc (suc k)))) may =
          let whole : World = done_all before (restoring name header base redo r row) in
          let nothing : front_of n (drop k []) ≡ [] = ap (front_of n) (drop-none k) ∙ front-none n in
          let taken : take k [] ≡ [] = take-none k in
          subst (λ rest. AllByRecursion (IsWithin before whole) (done_all (done_all whole (take k [])) rest).databases) (sym nothing)
          (subst (λ rest. AllByRecursion (IsWithin before whole) (done_all whole rest).databases) (sym taken) (last may))

-- acts of a statement that are cut, in a sound world
module _ (before : World) (sound : IsSound before) (acts : List Act) (may : MayDoAll before acts) (well : CutWell before acts) (k n : ℕ) (quiet : AllByRecursion IsQuiet (front_of n (drop k acts))) where
  mid-sound : IsSound (done_all before (take k acts))
  mid-sound = acts-sound before (take k acts) sound (may-front before acts k may)

  mid-open : AllByRecursion (OpenOwn before) (done_all before (take k acts)).databases
  mid-open = open-done-all before before (take k acts) sound (may-front before acts k may) (all-take (OpensOwn before) k acts well.opens) (open-before before sound.whole.different)

  is-whole : IsWhole (cut_at before acts k n)
  is-whole = cut-whole (done_all before (take k acts)) (drop k acts) n mid-sound.whole (may-rest before acts k may)

  is-cut : AllByRecursion (λ (db : Database). db.status ≡ Online → IsCutOf before (done_all before acts) (cut_at before acts k n) db) (cut_at before acts k n).databases
  is-cut =
      all_both (IsWithin before (done_all before acts)) (PendsOwn before (cut_at before acts k n))
      (λ (db : Database). db.status ≡ Online → IsCutOf before (done_all before acts) (cut_at before acts k n) db) (λ db within pends up. record { of_open = (pends up).own; end = within up; numbers = (pends up).numbers })
      (cut_at before acts k n).databases (within-cut before sound acts k n may well.ends)
      (cut-pends before (done_all before (take k acts)) mid-sound mid-open (drop k acts) n (may-rest before acts k may) (all-drop (IsOwn before) k acts well.own) (numbers-rest before acts k well.numbers) quiet)

-- ---- runs

module _ (old : World) (outcomes : List Outcome) (least : ℕ) (before cut whole : World) (sound : IsSound old) (run : RunsWell old outcomes)
    (cuts : CutsRun old outcomes least before cut whole) where
  acts : List Act
  acts = next_acts (drop cuts.done outcomes)

  here : Within old outcomes cuts.done
  here = within-well old outcomes cuts.done sound run

  well : CutWell (behind_all old (take cuts.done outcomes)) (next_acts (drop cuts.done outcomes))
  well = record { opens = here.well.opens; own = here.well.own; numbers = here.well.numbers; ends = here.well.ends }

  cut-is : cut ≡ cut_at (behind_all old (take cuts.done outcomes)) (next_acts (drop cuts.done outcomes)) cuts.acts cuts.records
  cut-is =
      cuts.is_cut ∙ ap (λ w. done_all w (take cuts.acts (next_acts (drop cuts.done outcomes)) ++ front_of cuts.records (drop cuts.acts (next_acts (drop cuts.done outcomes))))) cuts.is_before
      ∙ done-joined (behind_all old (take cuts.done outcomes)) (take cuts.acts (next_acts (drop cuts.done outcomes))) (front_of cuts.records (drop cuts.acts (next_acts (drop cuts.done outcomes))))

  whole-is : whole ≡ done_all (behind_all old (take cuts.done outcomes)) (next_acts (drop cuts.done outcomes))
  whole-is = cuts.is_whole ∙ ap (λ w. done_all w (next_acts (drop cuts.done outcomes))) cuts.is_before

  pub run-whole : IsWhole cut
  run-whole =
      subst IsWhole (sym cut-is) (is-whole (behind_all old (take cuts.done outcomes)) here.sound (next_acts (drop cuts.done outcomes)) here.well.may well cuts.acts cuts.records cuts.quiet)

  pub run-cut : AllByRecursion (λ (db : Database). db.status ≡ Online → IsCutOf before whole cut db) cut.databases
  run-cut =
      subst (λ w. AllByRecursion (λ (db : Database). db.status ≡ Online → IsCutOf w whole cut db) cut.databases) (sym cuts.is_before)
      (subst (λ w. AllByRecursion (λ (db : Database). db.status ≡ Online → IsCutOf (behind_all old (take cuts.done outcomes)) w cut db) cut.databases) (sym whole-is)
      (subst (λ w. AllByRecursion (λ (db : Database). db.status ≡ Online → IsCutOf (behind_all old (take cuts.done outcomes)) (done_all (behind_all old (take cuts.done outcomes)) (next_acts (drop cuts.done outcomes))) w db) w.databases) (sym cut-is)
      (is-cut (behind_all old (take cuts.done outcomes)) here.sound (next_acts (drop cuts.done outcomes)) here.well.may well cuts.acts cuts.records cuts.quiet)))

  -- for any fronts of its logs a crash of the run may leave a world in which they are settled
  pub run-stays : (kept : Database → List Logged) (counter : ℕ) → AllByRecursion (λ (db : Database). db.status ≡ Online → IsFront before cut db (kept db)) cut.databases → cut.counter ≤ counter → counter ≤ cut.counter + 1024
      → (left : World) × WorldLeft before whole cut left × (left.counter ≡ counter) × AllZip (λ (now new : Database). now.status ≡ Online → log_of left.history new ≡ settled (kept now)) cut.databases left.databases
  run-stays kept counter fronts no_less no_more =
      let stays : AllByRecursion (λ (db : Database). db.status ≡ Online → MayStay before whole cut db (kept db)) cut.databases =
      all_both (IsWholeDatabase cut) (λ (db : Database). (db.status ≡ Online → IsCutOf before whole cut db) × (db.status ≡ Online → IsFront before cut db (kept db))) (λ (db : Database). db.status ≡ Online → MayStay before whole cut db (kept db))
      (λ db one both up. may-stay before whole cut db (kept db) one (both.0 up) (both.1 up)) cut.databases run-whole.databases
      (all_both (λ (db : Database). db.status ≡ Online → IsCutOf before whole cut db) (λ (db : Database). db.status ≡ Online → IsFront before cut db (kept db))
      (λ (db : Database). (db.status ≡ Online → IsCutOf before whole cut db) × (db.status ≡ Online → IsFront before cut db (kept db))) (λ db a b. (a, b)) cut.databases run-cut fronts) in
      what-stays before whole cut kept counter run-whole stays no_less no_more

  pub run-leaves : (kept : Database → List Logged) (counter : ℕ) → AllByRecursion (λ (db : Database). db.status ≡ Online → IsFront before cut db (kept db)) cut.databases → cut.counter ≤ counter → counter ≤ cut.counter + 1024
      → (left : World) × Leaves old outcomes least left × (left.counter ≡ counter) × AllZip (λ (now new : Database). now.status ≡ Online → log_of left.history new ≡ settled (kept now)) cut.databases left.databases
  run-leaves kept counter fronts no_less no_more =
      let rest = run-stays kept counter fronts no_less no_more in
      (rest.0, record { before = before; cut = cut; whole = whole; cuts = cuts; world = rest.1 }, rest.2, rest.3)
