-- What a database that shows its log says by a statement is taken in.
use Rattle.std.proofs.Common.{◌≡◌, ◌≤◌, ℕ, ◌+◌, ◌^◌, false, List, [], ◌∷◌, ◌++◌, length, Option, Some, refl, sym, subst, arith, length-append}
use Rattle.std.proofs.lemmas.Bool.Decides.{nat_tests}
use Rattle.bk_acts.specs.declared.act.StoredAct.{StoredAct}
use Rattle.bk_acts.specs.declared.act.StoredAct.TheVariants.{Logged as LoggedAct}
use Rattle.bk_acts.specs.Meaning.{Means, Spell}
use Rattle.bk_ids.specs.declared.record.Rec.{Rec}
use Rattle.bk_items.specs.declared.item.ScriptEntry.{ScriptEntry}
use Rattle.bk_machine.specs.Acts.{logged, said_time}
use Rattle.bk_machine.specs.Checks.{used_up}
use Rattle.bk_machine.specs.Machine.{May}
use Rattle.bk_machine.specs.MayDo.{HoldsOf, MayDo, MayLog}
use Rattle.bk_machine.specs.Outcome.{in_one}
use Rattle.bk_machine.specs.World.{World, Database, database_named, log_of}
use Rattle.bk_shown.specs.Shown.{AreNext, ArePlaced}
use Rattle.bk_world.specs.Records.{Logged, Said, checkpointed, numbered}
use Rattle.bk_world.specs.Says.{alone}
use Rattle.bk_world.specs.SoundLogs.{MayFollow}
use Rattle.bk_world.specs.declared.database.FileSpec.{FileSpec}
use Rattle.bk_world.specs.declared.reply.Reply.{Reply}
use Rattle.bk_world.specs.declared.transaction.Open.{Open}
use Rattle.bk_kept.specs.declared.kept.Database.{Database as KeptDatabase}
use Rattle.bk_kept.specs.declared.kept.Kept.{Kept}
use Rattle.bk_kept.specs.Keeps.{ShowsLog, database_of}
use Rattle.bk_kept.specs.Stored.{IsDone, MarksEnd}
use Rattle.bk_world.specs.CrashLaws.{counts-length}
use Rattle.bk_plans.specs.declared.parts.Plan.{Plan}
use Rattle.bk_plans.specs.PlanLaws.{DoWhatTheyMay, InEach, Stores, plans-one}
use Rattle.bk_plans.specs.Planned.{IsOne, MarksNow, SaysNow, SaysThen}
use Rattle.bk_plans.specs.Planning.{Plans}

-- records that may follow, each in its place, may come next
pub next-all : (files : List FileSpec) (rs : List Logged) (n : ℕ) (said : List Said) → n ≡ length rs + 1 → n + length said ≤ 2 ^ 62 → MayFollow rs (numbered n said) → ArePlaced files rs (numbered n said) → AreNext files rs (numbered n said)
next-all files rs n [] from low may placed = tt
next-all files rs n (s ∷ said) from low may placed =
    let r : Logged = record { lsn = n; begin = s.begin; deed = s.deed } in (
      record { number = from; low = omega (arith, low); may = may.0; placed = placed.0 },
      next-all files (rs ++ r ∷ []) (n + 1) said (omega (arith, from, length-append rs (r ∷ []))) (omega (arith, low)) may.1 placed.1,
    )

-- a few numbers are left where they aren't used up
pub low-left : (end few : ℕ) → used_up end ≡ false → few ≤ 3 → end + few ≤ 2 ^ 62
low-left end few left lt = grind (arith, nat_tests, left, lt)

-- an act with these records is one by which a database says this
pub says-now : (d : KeptDatabase) (said : List Said) (ts : List Open) (stored : StoredAct) (records : List Rec) → stored ≡ LoggedAct d.name ts records → Spell records d.shown.«end» said → SaysNow d said ts stored
says-now d said ts stored records is spell = record { records = records; is = is; spell = spell }

-- and it is what is said now
pub says-then : (d : KeptDatabase) (now : ℕ) (said : ℕ → List Said) (ts : List Open) (stored : StoredAct) (time : ℕ) → SaysNow d (said time) ts stored
    → ((w : World) → ShowsLog w.history d → time ≡ said_time w (database_of d) now) → SaysThen d now said ts stored
says-then d now said ts stored time says is = record { time = time; says = says; time_is = is }

-- an act by which a database says this is the machine's
pub means-said : (d : KeptDatabase) (said : List Said) (ts : List Open) (stored : StoredAct) → SaysNow d said ts stored → Means stored (logged d.name said ts)
means-said d said ts stored says =
    subst (λ (s : StoredAct). Means s (logged d.name said ts)) (sym says.is) (record { n = d.shown.«end»; said = said; act_is = refl; spell = says.spell })

-- what is known of such an act where it is stored
module _ (w : World) (d : KeptDatabase) (said : List Said) (ts : List Open) (stored : StoredAct) (says : SaysNow d said ts stored) (named : database_named w.databases d.name ≡ Some (database_of d)) (shows : ShowsLog w.history d)
    (may : MayDo w (logged d.name said ts)) (low : d.shown.«end» + length said ≤ 2 ^ 62)
    (placed : MayLog w (database_of d) said ts → ArePlaced d.files (log_of w.history (database_of d)) (numbered d.shown.«end» said)) where
  next-said : AreNext d.files (log_of w.history (database_of d)) (numbered d.shown.«end» said)
  unfolding log_of
  next-said =
      let its : MayLog w (database_of d) said ts = subst (λ (o : Option Database). HoldsOf o (λ db. MayLog w db said ts)) named may in
      let rs : List Logged = log_of w.history (database_of d) in
      let counted : d.shown.«end» ≡ 1 + length rs = counts-length 1 rs d.shown.«end» shows.log.counts in
      let from : d.shown.«end» ≡ length rs + 1 = omega (arith, counted) in
      next-all d.files rs d.shown.«end» said from low its.says.may (placed its)

  pub stores-said : Stores stored (logged d.name said ts) w
  stores-said = subst (λ (s : StoredAct). Stores s (logged d.name said ts) w) (sym says.is) (record {
    draws = tt;
    unused = tt;
    from_end = subst (λ (o : Option Database). HoldsOf o (λ db. (others : List Said) × Spell says.records db.end others)) (sym named) (said, says.spell);
    marked = tt;
    taken = subst (λ (o : Option Database). HoldsOf o (λ db. AreNext db.files (log_of w.history db) (numbered db.end said))) (sym named) next-said;
  })

  pub done-said : IsDone w stored (logged d.name said ts)
  done-said =
      let its : Stores stored (logged d.name said ts) w = stores-said in
      record { means = means-said d said ts stored says; may = may; draws = its.draws; unused = its.unused; from_end = its.from_end; marked = its.marked; taken = its.taken }

-- an act by which a database marks a checkpoint is the machine's
means-marked : (d : KeptDatabase) (time : ℕ) (stored : StoredAct) → MarksNow d time stored → Means stored (logged d.name (alone (checkpointed time)) d.transactions)
means-marked d time stored marks = subst (λ (s : StoredAct). Means s (logged d.name (alone (checkpointed time)) d.transactions)) (sym marks.is) (record { transactions = d.transactions; act_is = refl })

-- what is known of an act by which a database marks a checkpoint
module _ (w : World) (d : KeptDatabase) (time : ℕ) (stored : StoredAct) (marks : MarksNow d time stored) (named : database_named w.databases d.name ≡ Some (database_of d)) (shows : ShowsLog w.history d)
    (may : MayDo w (logged d.name (alone (checkpointed time)) d.transactions)) (low : d.shown.«end» + 1 ≤ 2 ^ 62) where
  next-marked : AreNext d.files (log_of w.history (database_of d)) (numbered d.shown.«end» (alone (checkpointed time)))
  unfolding log_of
  next-marked =
      let rs : List Logged = log_of w.history (database_of d) in
      let counted : d.shown.«end» ≡ 1 + length rs = counts-length 1 rs d.shown.«end» shows.log.counts in
      (record { number = omega (arith, counted); low = omega (arith, low); may = tt; placed = tt }, tt)

  pub done-marked : IsDone w stored (logged d.name (alone (checkpointed time)) d.transactions)
  done-marked = subst (λ (s : StoredAct). IsDone w s (logged d.name (alone (checkpointed time)) d.transactions)) (sym marks.is) (record {
    means = record { transactions = d.transactions; act_is = refl };
    may = may;
    draws = tt;
    unused = tt;
    from_end = tt;
    marked = subst (λ (o : Option Database). HoldsOf o (MarksEnd w d.name time marks.kept (logged d.name (alone (checkpointed time)) d.transactions))) (sym named) (record { act_is = refl; kept_is = marks.kept_is w shows });
    taken = subst (λ (o : Option Database). HoldsOf o (λ db. AreNext db.files (log_of w.history db) (numbered db.end (alone (checkpointed time))))) (sym named) next-marked;
  })

-- a statement by which a database says this
pub plans-said : (k : Kept) (Known : World → Type 0) (s : ScriptEntry) (now : ℕ) (d : KeptDatabase) (said : List Said) (ts : List Open) (stored : StoredAct) (answer : Reply) (plan : Plan)
    → IsOne stored answer plan → SaysNow d said ts stored → DoWhatTheyMay → InEach k Known (λ w. database_named w.databases d.name ≡ Some (database_of d)) → InEach k Known (λ w. ShowsLog w.history d)
    → d.shown.«end» + length said ≤ 2 ^ 62 → InEach k Known (λ w. May w s now (in_one (logged d.name said ts) answer))
    → InEach k Known (λ w. MayLog w (database_of d) said ts → ArePlaced d.files (log_of w.history (database_of d)) (numbered d.shown.«end» said)) → Plans k Known s now plan
plans-said k Known s now d said ts stored answer plan one says law named shows low may placed =
    plans-one k Known s now stored (logged d.name said ts) answer plan one (means-said d said ts stored says) law may
    (λ w sound sees known.
    stores-said w d said ts stored says (named w sound sees known) (shows w sound sees known) (law w s now (in_one (logged d.name said ts) answer) sound (may w sound sees known)).0 low (placed w sound sees known))

-- a statement by which a database marks a checkpoint
pub plans-marked : (k : Kept) (Known : World → Type 0) (s : ScriptEntry) (now : ℕ) (d : KeptDatabase) (time : ℕ) (stored : StoredAct) (answer : Reply) (plan : Plan)
    → IsOne stored answer plan → MarksNow d time stored → DoWhatTheyMay → InEach k Known (λ w. database_named w.databases d.name ≡ Some (database_of d)) → InEach k Known (λ w. ShowsLog w.history d)
    → d.shown.«end» + 1 ≤ 2 ^ 62 → InEach k Known (λ w. May w s now (in_one (logged d.name (alone (checkpointed time)) d.transactions) answer)) → Plans k Known s now plan
plans-marked k Known s now d time stored answer plan one marks law named shows low may =
    plans-one k Known s now stored (logged d.name (alone (checkpointed time)) d.transactions) answer plan one (means-marked d time stored marks) law may
    (λ w sound sees known.
    let its : IsDone w stored (logged d.name (alone (checkpointed time)) d.transactions) =
    done-marked w d time stored marks (named w sound sees known) (shows w sound sees known)
    (law w s now (in_one (logged d.name (alone (checkpointed time)) d.transactions) answer) sound (may w sound sees known)).0 low in
    record { draws = its.draws; unused = its.unused; from_end = its.from_end; marked = its.marked; taken = its.taken })
