-- Where a statement is cut in a sound world, what is pending is of what was open, or of the statement, and numbers are left to undo it.
use Rattle.std.proofs.Common.{◌≡◌, ◌≤◌, ℕ, zero, suc, ◌+◌, Bool, true, false, not, ◌&&◌, ◌||◌, List, [], ◌∷◌, length, take, Option, None, Some, refl, sym, ◌∙◌, ap, subst, arith}
use Rattle.std.specs.Prelude.{◌==◌}
use Rattle.std.specs.List.{AllByRecursion}
use Rattle.std.proofs.lemmas.Bool.Decides.{nat_tests}
use Rattle.bk_world.specs.Cut.{is_among}
use Rattle.bk_lemmas.specs.Lists.{all_both, all_filter, all_joined, all_mapped}
use Rattle.bk_world.specs.Pending.{Pending, load_writes, pending, pending_after, pending_from}
use Rattle.bk_world.specs.ReadingLaws.{pending-more}
use Rattle.bk_world.specs.Records.{Deed, Load, Logged, Said, more, numbered, database_made, table_made, begun, written, committed, rolled_back, undone, checkpointed, stamped, model_set, loaded, recovered as recovery}
use Rattle.bk_world.specs.Telling.{model}
use Rattle.bk_world.specs.declared.database.Status.TheVariants.{Online}
use Rattle.bk_machine.proofs.ActsJobs.{all-dropped}
use Rattle.bk_machine.specs.Acts.{Act, turned, seated, created, dropped, logged, medium_made, set_drawn, noted, set_sealed, based, replaced, restored, recovered, done, done_all, gone_on, gone_online, goes_online, new_database, says, taken_over, where_found, readied, job_set, jobs_dropped}
use Rattle.bk_machine.specs.Checks.{last_number}
use Rattle.bk_machine.specs.Crash.{AreQuiet, IsQuiet, begins_in, begins_of, front_of, open_begins}
use Rattle.bk_machine.specs.MayDo.{HoldsOf, MayDoAll, MayLog, MaySay}
use Rattle.bk_machine.specs.Sound.{AreDifferent, AreOpen, IsSound, IsWholeDatabase, OpenBy, has_begin}
use Rattle.bk_world.specs.declared.transaction.Open.{Open}
use Rattle.bk_machine.specs.World.{Database, World, database_named, log_of, log_to}
use Rattle.bk_machine.proofs.ActsSays.{gone_on-is, says-follows, says-log}
use Rattle.bk_machine.proofs.ActsStay.{Follows, log-stays}
use Rattle.bk_machine.specs.NamedLaws.{named-each}
use Rattle.bk_machine.specs.NamedLaws.{all-changed, all-placed, all-with, all-without, of-named, name-of-named, named-alike, named-own}
use Rattle.bk_machine.proofs.statements.Fronts.{says-front}
use Rattle.bk_machine.proofs.Acting.{act-sound}

-- ---- begins

module _ (begins : List ℕ) where
  abbrev pub AmongThem : Pending → Type 0
  AmongThem w = is_among begins w.begin ≡ true

  among-load : (lsn begin : ℕ) (load : Load) (i n : ℕ) → is_among begins begin ≡ true → AllByRecursion AmongThem (load_writes lsn begin load i n)
  among-load lsn begin load i zero among = tt
  among-load lsn begin load i (suc n) among = (among, among-load lsn begin load (i + 1) n among)

  among-after : (ws : List Pending) (n begin : ℕ) (deed : Deed) → is_among begins begin ≡ true → AllByRecursion AmongThem ws → AllByRecursion AmongThem (pending_after ws n begin deed)
  among-after ws n begin (database_made time family branch) among all = all
  among-after ws n begin (table_made time spec) among all = all
  among-after ws n begin begun among all = all
  among-after ws n begin (written at before c) among all = all_joined AmongThem ws ((record { lsn = n; begin = begin; place = at; before = before; change = c; extents = [] }) ∷ []) all (among, tt)
  among-after ws n begin (committed time mark) among all = all_filter AmongThem (λ w. not (w.begin == begin)) ws all
  among-after ws n begin rolled_back among all = all_filter AmongThem (λ w. not (w.begin == begin)) ws all
  among-after ws n begin (undone at c m) among all = all_filter AmongThem (λ w. not (w.begin == begin && w.lsn == m)) ws all
  among-after ws n begin (checkpointed time) among all = all
  among-after ws n begin (stamped time set) among all = all
  among-after ws n begin (model_set time model) among all = all
  among-after ws n begin (loaded load) among all = all_joined AmongThem ws (load_writes n begin load 0 load.count) all (among-load n begin load 0 load.count among)
  among-after ws n begin (recovery branch) among all = all

  -- what pends behind what is said under these begins
  among-said : (ws : List Pending) (n : ℕ) (said : List Said) → AllByRecursion (λ (s : Said). is_among begins s.begin ≡ true) said → AllByRecursion AmongThem ws → AllByRecursion AmongThem (pending_from ws (numbered n said))
  among-said ws n [] own all = all
  among-said ws n (s ∷ said) own all = among-said (pending_after ws n s.begin s.deed) (n + 1) said own.1 (among-after ws n s.begin s.deed own.0 all)

-- ---- what acts open

-- of an act, each front that is quiet is said by transactions that are open, or by one of the statement itself
abbrev pub IsOwn : World → Act → Type 0
IsOwn before (logged name said transactions) = (n : ℕ) → AreQuiet (take (suc n) said) → AllByRecursion (λ (s : Said). is_among (begins_in (database_named before.databases name)) s.begin ≡ true) (take (suc n) said)
IsOwn before _ = Unit {0}

-- and so is each transaction that it leaves open
abbrev pub OpensOwn : World → Act → Type 0
OpensOwn before (logged name said transactions) = AllByRecursion (λ (t : Open). is_among (begins_in (database_named before.databases name)) t.begin ≡ true) transactions
OpensOwn before _ = Unit {0}

-- Behind each front of an act that is quiet, numbers are left to undo what is pending.
abbrev pub HasNumbers : World → Act → Type 0
HasNumbers w (logged name said transactions) = (db : Database) → database_named w.databases name ≡ Some db → (n : ℕ) → AreQuiet (take (suc n) said)
    → db.end + (length (take (suc n) said) + length (pending (more (log_of w.history db) db.end (take (suc n) said)))) ≤ last_number
HasNumbers w _ = Unit {0}

abbrev pub HaveNumbers : World → List Act → Type 0
HaveNumbers w [] = Unit {0}
HaveNumbers w (act ∷ acts) = HasNumbers w act × HaveNumbers (done w act) acts

-- where each transaction is among some, so is what has the begin of one
has-among : (bs : List ℕ) (ts : List Open) (n : ℕ) → AllByRecursion (λ (t : Open). is_among bs t.begin ≡ true) ts → has_begin ts n ≡ true → is_among bs n ≡ true
has-among bs [] n all there = absurd (cc)
has-among bs (t ∷ ts) n all there = by (t.begin == n) refl there (has-among bs ts n all.1)
  where
    by : (b : Bool) → (t.begin == n) ≡ b → (b || has_begin ts n) ≡ true → (has_begin ts n ≡ true → is_among bs n ≡ true) → is_among bs n ≡ true
    by true is there later = let same : n ≡ t.begin = grind (arith, nat_tests, is) in ap (is_among bs) same ∙ all.0
    by false is there later = later there

-- each is among themselves
pub among-own : (ts : List Open) → AllByRecursion (λ (t : Open). is_among (begins_of ts) t.begin ≡ true) ts
among-own [] = tt
among-own (t ∷ ts) =
    let own : (t.begin == t.begin) ≡ true = grind (arith, nat_tests) in
    (rw own refl, all_mapped (λ (u : Open). is_among (begins_of ts) u.begin ≡ true) (λ (u : Open). is_among (begins_of (t ∷ ts)) u.begin ≡ true) (λ u is. more (t.begin == u.begin) (is_among (begins_of ts) u.begin) is) ts (among-own ts))
  where
    more : (a b : Bool) → b ≡ true → (a || b) ≡ true
    more true b is = refl
    more false b is = is

pub more-own : (n : ℕ) (bs : List ℕ) (ts : List Open) → AllByRecursion (λ (t : Open). is_among bs t.begin ≡ true) ts → AllByRecursion (λ (t : Open). is_among (n ∷ bs) t.begin ≡ true) ts
more-own n bs ts all = all_mapped (λ (t : Open). is_among bs t.begin ≡ true) (λ (t : Open). is_among (n ∷ bs) t.begin ≡ true) (λ t is. more (n == t.begin) (is_among bs t.begin) is) ts all
  where
    more : (a b : Bool) → b ≡ true → (a || b) ≡ true
    more true b is = refl
    more false b is = is

module _ (before : World) where
  -- what is open in a database is of what was open, or of the statement itself
  abbrev pub OpenOwn : Database → Type 0
  OpenOwn db = AllByRecursion (λ (t : Open). is_among (open_begins before db) t.begin ≡ true) db.transactions

  pub open-before : AreDifferent before.databases → AllByRecursion OpenOwn before.databases
  open-before different =
      all_mapped (λ (db : Database). database_named before.databases db.name ≡ Some db) OpenOwn
      (λ db is. subst (λ (o : Option Database). AllByRecursion (λ (t : Open). is_among (begins_in o) t.begin ≡ true) db.transactions) (sym is) (more-own db.end (begins_of db.transactions) db.transactions (among-own db.transactions)))
      before.databases (named-each before.databases different)

  -- behind what a database says
  says-open : (w : World) (db : Database) (said : List Said) (transactions : List Open) → AreDifferent w.databases → database_named w.databases db.name ≡ Some db
      → AllByRecursion (λ (t : Open). is_among (open_begins before db) t.begin ≡ true) transactions → AllByRecursion OpenOwn w.databases → AllByRecursion OpenOwn (says w db said transactions).databases
  unfolding says
  says-open w db said transactions different there own all =
      let points = gone_on-is (model (log_of w.history db)) said transactions db in
      all-changed OpenOwn OpenOwn w.databases db.name db (gone_on (model (log_of w.history db)) said transactions) all different there
      (λ one. subst OpenOwn (sym points.2) own) (λ o one apart. one)

  pub open-done : (w : World) (act : Act) → AreDifferent w.databases → OpensOwn before act → AllByRecursion OpenOwn w.databases → AllByRecursion OpenOwn (done w act).databases
  unfolding done goes_online new_database
  open-done w (turned name) different own all = all
  open-done w (seated session) different own all = all
  open-done w (readied starts) different own all = all
  open-done w (created c) different own all = all_joined OpenOwn w.databases (new_database c ∷ []) all (tt, tt)
  open-done w (dropped name) different own all = all-without OpenOwn w.databases name all
  open-done w (logged name said transactions) different own all = by (database_named w.databases name) refl
    where
      by : (o : Option Database) → database_named w.databases name ≡ o → AllByRecursion OpenOwn (where_found w o (λ db. says w db said transactions)).databases
      by None is = all
      by (Some db) is =
          let same : database_named before.databases db.name ≡ database_named before.databases name = named-alike before.databases db.name name (name-of-named w.databases name db is) in
          says-open w db said transactions different (named-own w.databases name db is)
          (subst (λ (o : Option Database). AllByRecursion (λ (t : Open). is_among (begins_in o) t.begin ≡ true) transactions) (sym same) own) all
  open-done w (medium_made path) different own all = all
  open-done w set_drawn different own all = all
  open-done w (set_sealed path header) different own all = all
  open-done w (noted row) different own all = all
  open-done w (based name header) different own all = all-with OpenOwn OpenOwn w.databases name _ all (λ d was. was) (λ d was. was)
  open-done w (job_set name job) different own all = all-with OpenOwn OpenOwn w.databases name _ all (λ d was. was) (λ d was. was)
  open-done w jobs_dropped different own all = all-dropped OpenOwn OpenOwn (λ d was. was) w.databases all
  open-done w (replaced name header) different own all = all-placed OpenOwn OpenOwn w.databases (taken_over name header) all tt (λ d was. was)
  open-done w (restored name base redo) different own all = all-with OpenOwn OpenOwn w.databases name _ all (λ d was. was) (λ d was. was)
  open-done w (recovered name r) different own all = by (database_named w.databases name)
    where
      by : (o : Option Database) → AllByRecursion OpenOwn (where_found w o (λ db. goes_online w db r)).databases
      by None = all
      by (Some db) = all-with OpenOwn OpenOwn w.databases db.name (gone_online (model (log_to w.history db r.at)) r) all (λ d was. was) (λ d was. was)

  pub open-done-all : (w : World) (acts : List Act) → IsSound w → MayDoAll w acts → AllByRecursion (OpensOwn before) acts → AllByRecursion OpenOwn w.databases → AllByRecursion OpenOwn (done_all w acts).databases
  open-done-all w [] sound may own all = all
  open-done-all w (act ∷ acts) sound may own all = open-done-all (done w act) acts (act-sound w act sound may.0) may.1 own.1 (open-done w act sound.whole.different own.0 all)

-- ---- acts that are cut

module _ (before : World) where
  -- what is pending in a database is of what was open, and numbers are left to undo it
  pub record Pends (w : World) (db : Database) : Type 0 where
    pub own : AllByRecursion (λ (p : Pending). is_among (open_begins before db) p.begin ≡ true) (pending (log_of w.history db))
    pub numbers : db.end + length (pending (log_of w.history db)) ≤ last_number

  abbrev pub PendsOwn : World → Database → Type 0
  PendsOwn w db = db.status ≡ Online → Pends w db

  -- in a sound world it is of what is open
  pub sound-pends : (w : World) → IsSound w → AllByRecursion (OpenOwn before) w.databases → AllByRecursion (PendsOwn w) w.databases
  sound-pends w sound open_own =
      all_both (OpenBy w.history) (OpenOwn before) (PendsOwn w)
      (λ db opens own up. let its : AreOpen (log_of w.history db) db.end db.transactions = opens.online up in record {
        own = all_mapped (λ (p : Pending). has_begin db.transactions p.begin ≡ true) (λ (p : Pending). is_among (open_begins before db) p.begin ≡ true)
            (λ p there. has-among (open_begins before db) db.transactions p.begin own there) (pending (log_of w.history db)) its.pending;
        numbers = omega (arith, its.numbers);
      })
      w.databases sound.opens open_own

  module _ (w : World) (sound : IsSound w) (open_own : AllByRecursion (OpenOwn before) w.databases) where
    -- a database says a front of what it may
    front-pends : (name : List ℕ) (said : List Said) (transactions : List Open) (n : ℕ) → HoldsOf (database_named w.databases name) (λ db. MayLog w db said transactions) → IsOwn before (logged name said transactions)
        → HasNumbers w (logged name said transactions) → AreQuiet (take (suc n) said) → AllByRecursion (PendsOwn (done w (logged name (take (suc n) said) transactions))) (done w (logged name (take (suc n) said) transactions)).databases
    unfolding done says
    front-pends name said transactions n may own left quiet = by (database_named w.databases name) refl may
      where
        by : (o : Option Database) → database_named w.databases name ≡ o → HoldsOf o (λ db. MayLog w db said transactions)
            → AllByRecursion (PendsOwn (where_found w o (λ db. says w db (take (suc n) said) transactions))) (where_found w o (λ db. says w db (take (suc n) said) transactions)).databases
        by None is may = absurd may
        by (Some db) is may =
            let new : World = says w db (take (suc n) said) transactions in
            let there : database_named w.databases db.name ≡ Some db = named-own w.databases name db is in
            let may_front : MaySay w db (take (suc n) said) = says-front w db said (suc n) may.says in
            let follows : Follows w new = says-follows w db (take (suc n) said) transactions sound.whole there may_front in
            let change : Database → Database = gone_on (model (log_of w.history db)) (take (suc n) said) transactions in
            let its_name : (change db).name ≡ db.name = ap (λ (d : Database). d.name) (gone_on-is (model (log_of w.history db)) (take (suc n) said) transactions db).2 in
            let begins : List ℕ = open_begins before db in
            let same_begins : open_begins before (change db) ≡ begins = ap (λ (x : List ℕ). begins_in (database_named before.databases x)) its_name in
            let was : AllByRecursion (AmongThem begins) (pending (log_of w.history db)) = (of-named (PendsOwn w) w.databases db.name db (sound-pends w sound open_own) there may.says.online).own in
            let log : log_of new.history (change db) ≡ more (log_of w.history db) db.end (take (suc n) said) = says-log w db (take (suc n) said) transactions sound.whole there may_front in
            let pends : pending (log_of new.history (change db)) ≡ pending_from (pending (log_of w.history db)) (numbered db.end (take (suc n) said)) =
            ap pending log ∙ pending-more (log_of w.history db) (numbered db.end (take (suc n) said)) in
            let many : length (pending (log_of new.history (change db))) ≡ length (pending (more (log_of w.history db) db.end (take (suc n) said))) = ap (λ (rs : List Logged). length (pending rs)) log in
            let numbers : (db.end + length (take (suc n) said)) + length (pending (log_of new.history (change db))) ≤ last_number =
            (let room : db.end + (length (take (suc n) said) + length (pending (more (log_of w.history db) db.end (take (suc n) said)))) ≤ last_number = left db is n quiet in omega (arith, room, many)) in
            let OfOwn : Option Database → Type 0 = λ o. AllByRecursion (λ (s : Said). is_among (begins_in o) s.begin ≡ true) (take (suc n) said) in
            let owns : OfOwn (database_named before.databases db.name) = subst OfOwn (sym (named-alike before.databases db.name name (name-of-named w.databases name db is))) (own n quiet) in
            let now : AllByRecursion (AmongThem begins) (pending_from (pending (log_of w.history db)) (numbered db.end (take (suc n) said))) = among-said begins (pending (log_of w.history db)) db.end (take (suc n) said) owns was in
            let OfPending : List Pending → Type 0 = AllByRecursion (AmongThem begins) in
            let own_pends : OfPending (pending (log_of new.history (change db))) = subst OfPending (sym pends) now in
            all-changed (λ (o : Database). IsWholeDatabase w o × PendsOwn w o) (PendsOwn new) w.databases db.name db change
            (all_both (IsWholeDatabase w) (PendsOwn w) (λ (o : Database). IsWholeDatabase w o × PendsOwn w o) (λ o a b. (a, b)) w.databases sound.whole.databases (sound-pends w sound open_own))
            sound.whole.different there
            (λ one up. record { own = subst (λ bs. AllByRecursion (AmongThem bs) (pending (log_of new.history (change db)))) (sym same_begins) own_pends; numbers = numbers })
            (λ o one apart up. let its : Pends w o = one.1 up in record {
              own = subst (λ rs. AllByRecursion (λ (p : Pending). is_among (open_begins before o) p.begin ≡ true) (pending rs)) (sym (log-stays w new follows o one.0.log.counts)) its.own;
              numbers = subst (λ rs. o.end + length (pending rs) ≤ last_number) (sym (log-stays w new follows o one.0.log.counts)) its.numbers;
            })

    nothing-said : AllByRecursion (PendsOwn w) w.databases
    nothing-said = sound-pends w sound open_own

    -- acts are cut
    pub cut-pends : (acts : List Act) (n : ℕ) → MayDoAll w acts → AllByRecursion (IsOwn before) acts → HaveNumbers w acts → AllByRecursion IsQuiet (front_of n acts) → AllByRecursion (PendsOwn (done_all w (front_of n acts))) (done_all w (front_of n acts)).databases
    cut-pends acts zero may own left quiet = nothing-said
    cut-pends [] (suc n) may own left quiet = nothing-said
    cut-pends (logged name said transactions ∷ acts) (suc n) may own left quiet = front-pends name said transactions n may.0 own.0 left.0 quiet.0
    cut-pends (turned name ∷ acts) (suc n) may own left quiet = nothing-said
    cut-pends (seated session ∷ acts) (suc n) may own left quiet = nothing-said
    cut-pends (readied starts ∷ acts) (suc n) may own left quiet = nothing-said
    cut-pends (created c ∷ acts) (suc n) may own left quiet = nothing-said
    cut-pends (dropped name ∷ acts) (suc n) may own left quiet = nothing-said
    cut-pends (medium_made path ∷ acts) (suc n) may own left quiet = nothing-said
    cut-pends (set_drawn ∷ acts) (suc n) may own left quiet = nothing-said
    cut-pends (set_sealed path header ∷ acts) (suc n) may own left quiet = nothing-said
    cut-pends (noted row ∷ acts) (suc n) may own left quiet = nothing-said
    cut-pends (based name header ∷ acts) (suc n) may own left quiet = nothing-said
    cut-pends (job_set name job ∷ acts) (suc n) may own left quiet = nothing-said
    cut-pends (jobs_dropped ∷ acts) (suc n) may own left quiet = nothing-said
    cut-pends (replaced name header ∷ acts) (suc n) may own left quiet = nothing-said
    cut-pends (restored name base redo ∷ acts) (suc n) may own left quiet = nothing-said
    cut-pends (recovered name r ∷ acts) (suc n) may own left quiet = nothing-said
