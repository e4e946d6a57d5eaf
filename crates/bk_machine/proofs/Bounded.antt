-- What settles a front takes no more numbers than lie between the first begin of what is pending and the front's end.
use Rattle.std.proofs.Common.{◌≡◌, ◌<◌, ◌≤◌, ℕ, zero, suc, ◌+◌, ◌-◌, Bool, true, false, cond, not, ◌&&◌, ◌||◌, List, [], ◌∷◌, ◌++◌, length, reverse, Option, None, Some, refl, sym, ◌∙◌, ap, subst, arith, append_assoc}
use Rattle.std.specs.Prelude.{◌==◌, min}
use Rattle.std.specs.List.{AllByRecursion, filter}
use Rattle.std.proofs.Math.Nat.{min-le_left, min-le_right}
use Rattle.std.proofs.lemmas.Bool.Decides.{nat_tests}
use Rattle.std.proofs.lemmas.List.{append-nil, length-append, length-reverse}
use Rattle.bk_world.specs.Cut.{end_behind, is_among, settled}
use Rattle.bk_lemmas.specs.Lists.{all_both, all_filter, all_front, all_joined, all_mapped}
use Rattle.bk_world.specs.Pending.{Pending, PendingRise, load_writes, pending, pending_after, pending_from}
use Rattle.bk_world.specs.ReadingLaws.{pending-more, rise-length}
use Rattle.bk_world.specs.Records.{Counts, Deed, Load, Logged, database_made, table_made, begun, written, committed, rolled_back, undone, checkpointed, stamped, model_set, loaded, recovered}
use Rattle.bk_world.specs.Says.{settle_said}
use Rattle.bk_world.specs.SoundLogs.{IsSound, MayCome, MayFollow, NoLoadPends}
use Rattle.bk_world.specs.SettledLaws.{end-more, length-undoing}
use Rattle.bk_world.specs.SoundLaws.{follow-front, sound-lying, sound-rise}
use Rattle.bk_world.specs.CrashLaws.{counts-front}
use Rattle.bk_machine.specs.BeginLaws.{least-end}
use Rattle.bk_machine.specs.Crash.{begin_in, begins_in, begins_of, greatest_end, most_end, open_begins}
use Rattle.bk_machine.specs.Sound.{IsWholeDatabase}
use Rattle.bk_machine.specs.Stays.{IsCutOf, IsFront}
use Rattle.bk_world.specs.declared.transaction.Open.{Open}
use Rattle.bk_machine.specs.World.{Database, World, database_named, least_begin, log_of}
use Rattle.bk_machine.specs.SettledLaws.{counts-end}

-- ---- pending writes lie behind their begins

abbrev Behind : Pending → Type 0
Behind w = w.begin < w.lsn

load-behind : (lsn begin : ℕ) (load : Load) (i n : ℕ) → begin < lsn → AllByRecursion Behind (load_writes lsn begin load i n)
load-behind lsn begin load i zero lt = tt
load-behind lsn begin load i (suc n) lt = (lt, load-behind lsn begin load (i + 1) n lt)

behind-after : (rs : List Logged) (ws : List Pending) (n begin : ℕ) (deed : Deed) → MayCome rs n begin deed → AllByRecursion Behind ws → AllByRecursion Behind (pending_after ws n begin deed)
behind-after rs ws n begin (database_made time family branch) may all = all
behind-after rs ws n begin (table_made time spec) may all = all
behind-after rs ws n begin begun may all = all
behind-after rs ws n begin (written at before c) may all = all_joined Behind ws ((record { lsn = n; begin = begin; place = at; before = before; change = c; extents = [] }) ∷ []) all (may.behind, tt)
behind-after rs ws n begin (committed time mark) may all = all_filter Behind (λ w. not (w.begin == begin)) ws all
behind-after rs ws n begin rolled_back may all = all_filter Behind (λ w. not (w.begin == begin)) ws all
behind-after rs ws n begin (undone at c m) may all = all_filter Behind (λ w. not (w.begin == begin && w.lsn == m)) ws all
behind-after rs ws n begin (checkpointed time) may all = all
behind-after rs ws n begin (stamped time set) may all = all
behind-after rs ws n begin (model_set time model) may all = all
behind-after rs ws n begin (loaded load) may all = all_joined Behind ws (load_writes n begin load 0 load.count) all (load-behind n begin load 0 load.count may.behind)
behind-after rs ws n begin (recovered branch) may all = all

behind-more : (rs ss : List Logged) → MayFollow rs ss → AllByRecursion Behind (pending rs) → AllByRecursion Behind (pending (rs ++ ss))
behind-more rs [] may all = subst (λ log. AllByRecursion Behind (pending log)) (sym (append-nil rs)) all
behind-more rs (r ∷ ss) may all =
    let one : AllByRecursion Behind (pending (rs ++ r ∷ [])) = subst (AllByRecursion Behind) (sym (pending-more rs (r ∷ []))) (behind-after rs (pending rs) r.lsn r.begin r.deed may.0 all) in
    subst (λ log. AllByRecursion Behind (pending log)) (append_assoc rs (r ∷ []) ss) (behind-more (rs ++ r ∷ []) ss may.1 one)

pub sound-behind : (rs : List Logged) → IsSound rs → AllByRecursion Behind (pending rs)
unfolding pending
sound-behind rs sound = behind-more [] rs sound tt

-- ---- how many there are

pub end-settled : (rs : List Logged) → end_behind (settled rs) ≡ end_behind rs + length (pending rs)
unfolding settled
end-settled rs = end-more rs (end_behind rs) (settle_said (pending rs)) ∙ ap (λ n. end_behind rs + n) (length-undoing (reverse (pending rs)) ∙ length-reverse (pending rs))

pub settled-bound : (rs : List Logged) (least greatest : ℕ) → IsSound rs → Counts 1 rs (end_behind rs) → NoLoadPends rs → AllByRecursion (λ (w : Pending). least ≤ w.begin) (pending rs) → end_behind rs ≤ greatest
    → end_behind (settled rs) ≤ greatest + (greatest - least)
settled-bound rs least greatest sound counts none from within = by (pending rs) refl
  where
    few : (ws : List Pending) → PendingRise ws → AllByRecursion Behind ws → AllByRecursion (λ (w : Pending). least ≤ w.begin) ws → AllByRecursion (λ (w : Pending). w.lsn < end_behind rs) ws → least ≤ end_behind rs → length ws + least ≤ end_behind rs
    few ws rise behind begins below le =
        rise-length ws least (end_behind rs) le rise (all_both Behind (λ (w : Pending). least ≤ w.begin) (λ (w : Pending). least ≤ w.lsn) (λ w lt low. omega (arith, lt, low)) ws behind begins) below

    by : (ws : List Pending) → pending rs ≡ ws → end_behind (settled rs) ≤ greatest + (greatest - least)
    by [] is =
        let ends : end_behind (settled rs) ≡ end_behind rs + length (pending rs) = end-settled rs in
        let nothing : length (pending rs) ≡ 0 = ap length is in
        omega (arith, ends, nothing, within)
    by (w ∷ ws) is =
        let ends : end_behind (settled rs) ≡ end_behind rs + length (pending rs) = end-settled rs in
        let OfFrom : List Pending → Type 0 = AllByRecursion (λ (v : Pending). least ≤ v.begin) in
        let OfBehind : List Pending → Type 0 = AllByRecursion Behind in
        let OfBelow : List Pending → Type 0 = AllByRecursion (λ (v : Pending). v.lsn < end_behind rs) in
        let low : OfFrom (w ∷ ws) = subst OfFrom is from in
        let behind : OfBehind (w ∷ ws) = subst OfBehind is (sound-behind rs sound) in
        let lies : OfBelow (w ∷ ws) = subst OfBelow is (sound-lying rs (end_behind rs) sound counts).below in
        let most : length (pending rs) + least ≤ end_behind rs =
        few (pending rs) (sound-rise rs sound counts none) (sound-behind rs sound) from (sound-lying rs (end_behind rs) sound counts).below (omega (arith, low.0, behind.0, lies.0)) in
        omega (arith, ends, most, within)

-- ---- what pends in a front

-- what is pending before a record is of its transaction, or is pending behind it
filter-back : (P : Pending → Type 0) (p : Pending → Bool) (ws : List Pending) → ((w : Pending) → p w ≡ false → P w) → AllByRecursion P (filter p ws) → AllByRecursion P ws
filter-back P p [] out all = tt
filter-back P p (w ∷ ws) out all = by (p w) refl all (filter-back P p ws out)
  where
    by : (t : Bool) → p w ≡ t → AllByRecursion P (cond t (w ∷ filter p ws) (filter p ws)) → (AllByRecursion P (filter p ws) → AllByRecursion P ws) → AllByRecursion P (w ∷ ws)
    by true is all later = (all.0, later all.1)
    by false is all later = (out w is, later all)

module _ (begins : List ℕ) where
  abbrev Among : Pending → Type 0
  Among w = is_among begins w.begin ≡ true

  of-begin : (begin : ℕ) → is_among begins begin ≡ true → (w : Pending) → (w.begin == begin) ≡ true → Among w
  of-begin begin among w is = let same : w.begin ≡ begin = grind (arith, nat_tests, is) in ap (is_among begins) same ∙ among

  not-not : (begin : ℕ) (w : Pending) → not (w.begin == begin) ≡ false → (w.begin == begin) ≡ true
  not-not begin w is = by (w.begin == begin) is
    where
      by : (t : Bool) → not t ≡ false → t ≡ true
      by true e = refl
      by false e = absurd (cc)

  not-both : (begin m : ℕ) (w : Pending) → not (w.begin == begin && w.lsn == m) ≡ false → (w.begin == begin) ≡ true
  not-both begin m w is = by (w.begin == begin) (w.lsn == m) is
    where
      by : (s t : Bool) → not (s && t) ≡ false → s ≡ true
      by true t e = refl
      by false t e = absurd (cc)

  before-one : (ws : List Pending) (n begin : ℕ) (deed : Deed) → is_among begins begin ≡ true → AllByRecursion Among (pending_after ws n begin deed) → AllByRecursion Among ws
  before-one ws n begin (database_made time family branch) among all = all
  before-one ws n begin (table_made time spec) among all = all
  before-one ws n begin begun among all = all
  before-one ws n begin (written at before c) among all = all_front Among ws ((record { lsn = n; begin = begin; place = at; before = before; change = c; extents = [] }) ∷ []) all
  before-one ws n begin (committed time mark) among all = filter-back Among (λ w. not (w.begin == begin)) ws (λ w is. of-begin begin among w (not-not begin w is)) all
  before-one ws n begin rolled_back among all = filter-back Among (λ w. not (w.begin == begin)) ws (λ w is. of-begin begin among w (not-not begin w is)) all
  before-one ws n begin (undone at c m) among all = filter-back Among (λ w. not (w.begin == begin && w.lsn == m)) ws (λ w is. of-begin begin among w (not-both begin m w is)) all
  before-one ws n begin (checkpointed time) among all = all
  before-one ws n begin (stamped time set) among all = all
  before-one ws n begin (model_set time model) among all = all
  before-one ws n begin (loaded load) among all = all_front Among ws (load_writes n begin load 0 load.count) all
  before-one ws n begin (recovered branch) among all = all

  before-lost : (ws : List Pending) (lost : List Logged) → AllByRecursion (λ (r : Logged). is_among begins r.begin ≡ true) lost → AllByRecursion Among (pending_from ws lost) → AllByRecursion Among ws
  before-lost ws [] of_open all = all
  before-lost ws (r ∷ lost) of_open all = before-one ws r.lsn r.begin r.deed of_open.0 (before-lost (pending_after ws r.lsn r.begin r.deed) lost of_open.1 all)

  -- one of some numbers lies where all lie
  among-from : (least n : ℕ) (bs : List ℕ) → AllByRecursion (λ b. least ≤ b) bs → is_among bs n ≡ true → least ≤ n
  among-from least n [] all is = absurd (cc)
  among-from least n (b ∷ bs) all is = by (b == n) refl is (among-from least n bs all.1)
    where
      by : (t : Bool) → (b == n) ≡ t → (t || is_among bs n) ≡ true → (is_among bs n ≡ true → least ≤ n) → least ≤ n
      by true same e later = let one : b ≡ n = grind (arith, nat_tests, same) in omega (arith, one, all.0)
      by false same e later = later e

-- ---- a database

least-each : (least end : ℕ) (ts : List Open) → least ≤ least_begin ts end → AllByRecursion (λ b. least ≤ b) (begins_of ts)
least-each least end [] le = tt
least-each least end (t ∷ ts) le =
    let one : min t.begin (least_begin ts end) ≤ t.begin = min-le_left t.begin (least_begin ts end) in
    let two : min t.begin (least_begin ts end) ≤ least_begin ts end = min-le_right t.begin (least_begin ts end) in
    (omega (arith, one, le), least-each least end ts (omega (arith, two, le)))

begins-from : (o : Option Database) (end : ℕ) → AllByRecursion (λ b. begin_in o end ≤ b) (begins_in o)
begins-from None end = tt
begins-from (Some db) end = (least-end db.transactions db.end, least-each (least_begin db.transactions db.end) db.end db.transactions (omega arith))

-- the front, settled, lies within the bound
pub front-bound : (before whole cut : World) (db : Database) (kept : List Logged) → IsWholeDatabase cut db → IsCutOf before whole cut db → IsFront before cut db kept → end_behind (settled kept) ≤ most_end before whole db
front-bound before whole cut db kept is at front =
    let rs : List Logged = log_of cut.history db in
    let least : ℕ = begin_in (database_named before.databases db.name) (greatest_end before whole db) in
    let begins : List ℕ = open_begins before db in
    let counts : Counts 1 kept (end_behind kept) = counts-front 1 db.end kept front.lost (subst (λ log. Counts 1 log db.end) front.splits is.log.counts) in
    let sound : IsSound kept = follow-front [] kept front.lost (subst IsSound front.splits is.log.sound) in
    let all : db.end ≡ 1 + length rs = counts-end 1 db.end rs is.log.counts in
    let parts : length rs ≡ length kept + length front.lost = ap length front.splits ∙ length-append kept front.lost in
    let OfPending : List Pending → Type 0 = AllByRecursion (Among begins) in
    let among : OfPending (pending kept) = before-lost begins (pending kept) front.lost front.of_open (subst OfPending (ap pending front.splits ∙ pending-more kept front.lost) at.of_open) in
    let froms : AllByRecursion (λ b. least ≤ b) begins = begins-from (database_named before.databases db.name) (greatest_end before whole db) in
    let low : AllByRecursion (λ (w : Pending). least ≤ w.begin) (pending kept) = all_mapped (Among begins) (λ (w : Pending). least ≤ w.begin) (λ w one. among-from begins least w.begin begins froms one) (pending kept) among in
    let within : end_behind kept ≤ greatest_end before whole db = omega (arith, all, parts, at.end) in
    let bound : end_behind (settled kept) ≤ greatest_end before whole db + (greatest_end before whole db - least) = settled-bound kept least (greatest_end before whole db) sound counts front.loads low within in
    omega (arith, bound)
