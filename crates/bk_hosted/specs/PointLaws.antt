-- The points of a hosted database: which of them what it says moves.
use Rattle.std.proofs.Common.{◌≡◌, ◌<◌, ◌≤◌, ℕ, ◌+◌, Bool, true, false, cond, List, [], ◌∷◌, ◌++◌, length, reverse, None, refl, sym, ◌∙◌, ap, arith}
use Rattle.std.specs.Prelude.{◌==◌, ◌&&◌, ◌||◌}
use Rattle.std.specs.List.{AllByRecursion}
use Rattle.std.proofs.lemmas.Bool.Decides.{nat_tests}
use Rattle.bk_ids.specs.declared.record.RecoveryModel.{RecoveryModel}
use Rattle.bk_machine.specs.Acts.{gone_on, pointed, pointed_by}
use Rattle.bk_machine.specs.World.{Database}
use Rattle.bk_points.specs.declared.points.Points.{Points}
use Rattle.bk_world.specs.declared.transaction.Open.{Open}
use Rattle.bk_world.specs.Cut.{end_behind, settled}
use Rattle.bk_world.specs.Pending.{Pending, pending}
use Rattle.bk_world.specs.Records.{Counts, Deed, Logged, Said, database_made, table_made, begun, written, committed, rolled_back, undone, checkpointed, stamped, model_set, loaded, recovered, more, numbered}
use Rattle.bk_world.specs.Says.{alone, settle_said, undoing}
use Rattle.bk_world.specs.SettledLaws.{end-more}
use Rattle.bk_world.specs.Telling.{model, telling}
use Rattle.bk_hosted.specs.Hosted.{Hosted, SaysNoCheckpoint, awaiting, checkpoint_of, database_of, folded, folding, has_checkpoint, is_checkpoint, kept_next, kept_of, noting, saying}

-- ---- checkpoints in a log

pub has-joined : (n : ℕ) (a b : List Logged) → has_checkpoint n (a ++ b) ≡ (has_checkpoint n a || has_checkpoint n b)
has-joined n [] b = refl
has-joined n (r ∷ a) b = by (r.lsn == n && is_checkpoint r.deed) (has-joined n a b)
  where
    by : (t : Bool) → has_checkpoint n (a ++ b) ≡ (has_checkpoint n a || has_checkpoint n b) → (t || has_checkpoint n (a ++ b)) ≡ ((t || has_checkpoint n a) || has_checkpoint n b)
    by true later = refl
    by false later = later

and-false : (t : Bool) → (t && false) ≡ false
and-false true = refl
and-false false = refl

-- none is among records that are no checkpoints
pub has-plain : (n : ℕ) (rs : List Logged) → AllByRecursion (λ (r : Logged). is_checkpoint r.deed ≡ false) rs → has_checkpoint n rs ≡ false
has-plain n [] all = refl
has-plain n (r ∷ rs) all =
    let here : (r.lsn == n && is_checkpoint r.deed) ≡ false = ap (λ t. r.lsn == n && t) all.0 ∙ and-false (r.lsn == n) in
    rw here (has-plain n rs all.1)

numbered-plain : (n : ℕ) (said : List Said) → SaysNoCheckpoint said → AllByRecursion (λ (r : Logged). is_checkpoint r.deed ≡ false) (numbered n said)
numbered-plain n [] all = tt
numbered-plain n (s ∷ said) all = (all.0, numbered-plain (n + 1) said all.1)

or-false : (t : Bool) → (t || false) ≡ t
or-false true = refl
or-false false = refl

-- behind records that are none the log has those that it had
pub has-behind : (n : ℕ) (rs more : List Logged) → AllByRecursion (λ (r : Logged). is_checkpoint r.deed ≡ false) more → has_checkpoint n (rs ++ more) ≡ has_checkpoint n rs
has-behind n rs more none = has-joined n rs more ∙ ap (λ t. has_checkpoint n rs || t) (has-plain n more none) ∙ or-false (has_checkpoint n rs)

-- none has a number above those of the log
pub has-above : (n from end : ℕ) (rs : List Logged) → Counts from rs end → end ≤ n → has_checkpoint n rs ≡ false
has-above n from end [] counts above = refl
has-above n from end (r ∷ rs) counts above =
    let up : from + 1 ≤ end = counts-low (from + 1) end rs counts.1 in
    let low : from < end = omega (arith, up) in
    let other : (r.lsn == n) ≡ false = let is : r.lsn ≡ from = counts.0 in grind (arith, nat_tests, is, low, above) in
    rw other (has-above n (from + 1) end rs counts.1 above)
  where
    counts-low : (m e : ℕ) (xs : List Logged) → Counts m xs e → m ≤ e
    counts-low m e [] is = omega (arith, is)
    counts-low m e (x ∷ xs) is = let rest : m + 1 ≤ e = counts-low (m + 1) e xs is.1 in omega (arith, rest)

-- nor below them
pub has-below : (n from end : ℕ) (rs : List Logged) → Counts from rs end → n < from → has_checkpoint n rs ≡ false
has-below n from end [] counts below = refl
has-below n from end (r ∷ rs) counts below =
    let other : (r.lsn == n) ≡ false = let is : r.lsn ≡ from = counts.0 in grind (arith, nat_tests, is, below) in
    rw other (has-below n (from + 1) end rs counts.1 (omega (arith, below)))

-- ---- what is said

-- what tells no entry is no checkpoint
pub quiet-plain : (deed : Deed) → telling deed ≡ None → is_checkpoint deed ≡ false
quiet-plain (database_made time family branch) quiet = refl
quiet-plain (table_made time spec) quiet = refl
quiet-plain begun quiet = refl
quiet-plain (written at before c) quiet = refl
quiet-plain (committed time mark) quiet = refl
quiet-plain rolled_back quiet = refl
quiet-plain (undone at c number) quiet = refl
quiet-plain (checkpointed time) quiet = absurd (cc)
quiet-plain (stamped time set) quiet = refl
quiet-plain (model_set time new) quiet = refl
quiet-plain (loaded load) quiet = refl
quiet-plain (recovered branch) quiet = refl

undoing-plain : (n : ℕ) (ws : List Pending) → AllByRecursion (λ (r : Logged). is_checkpoint r.deed ≡ false) (numbered n (undoing ws))
undoing-plain n [] = tt
undoing-plain n (w ∷ ws) = (refl, undoing-plain (n + 1) ws)

-- a settled log has the checkpoints that it had
pub has-settled : (n : ℕ) (rs : List Logged) → has_checkpoint n (settled rs) ≡ has_checkpoint n rs
unfolding settled
has-settled n rs = has-behind n rs (numbered (end_behind rs) (settle_said (pending rs))) (undoing-plain (end_behind rs) (reverse (pending rs)))

-- points are the same where the log has the same checkpoints
pub kept-same : (points : Points) (a b : List Logged) → has_checkpoint points.next_checkpoint a ≡ has_checkpoint points.next_checkpoint b → kept_of points a ≡ kept_of points b
kept-same points a b is = ap (λ t. cond t points.next_kept points.kept) is

pub checkpoint-same : (points : Points) (a b : List Logged) → has_checkpoint points.next_checkpoint a ≡ has_checkpoint points.next_checkpoint b → checkpoint_of points a ≡ checkpoint_of points b
checkpoint-same points a b is = ap (λ t. cond t points.next_checkpoint points.checkpoint) is

-- ---- a database that says something

-- a record that is no checkpoint moves no point
point-still : (m : RecoveryModel) (db : Database) (n : ℕ) (deed : Deed) → is_checkpoint deed ≡ false → pointed_by m db n deed ≡ db
point-still m db n (database_made time family branch) none = refl
point-still m db n (table_made time spec) none = refl
point-still m db n begun none = refl
point-still m db n (written at before c) none = refl
point-still m db n (committed time mark) none = refl
point-still m db n rolled_back none = refl
point-still m db n (undone at c number) none = refl
point-still m db n (checkpointed time) none = absurd (cc)
point-still m db n (stamped time set) none = refl
point-still m db n (model_set time new) none = refl
point-still m db n (loaded load) none = refl
point-still m db n (recovered branch) none = refl

pointed-still : (m : RecoveryModel) (db : Database) (n : ℕ) (said : List Said) → SaysNoCheckpoint said → pointed m db (numbered n said) ≡ db
pointed-still m db n [] none = refl
pointed-still m db n (s ∷ said) none =
    ap (λ (d : Database). pointed m d (numbered (n + 1) said)) (point-still m db n s.deed none.0) ∙ pointed-still m db (n + 1) said none.1

-- the same fields, moved
abbrev moved : Database → ℕ → ℕ → ℕ → List Open → Database
moved db end kept checkpoint transactions = record db { end = end; kept = kept; checkpoint = checkpoint; transactions = transactions }

pub saying-is : (m : RecoveryModel) (h : Hosted) (said : List Said) (transactions : List Open) → SaysNoCheckpoint said → database_of (saying said transactions h) ≡ gone_on m said transactions (database_of h)
saying-is m h said transactions none =
    let new : List Logged = more h.records (end_behind h.records) said in
    let same : has_checkpoint h.points.next_checkpoint new ≡ has_checkpoint h.points.next_checkpoint h.records =
    has-behind h.points.next_checkpoint h.records (numbered (end_behind h.records) said) (numbered-plain (end_behind h.records) said none) in
    ap (λ n. moved (database_of h) n (kept_of h.points new) (checkpoint_of h.points new) transactions) (end-more h.records (end_behind h.records) said)
    ∙ ap (λ k. moved (database_of h) (end_behind h.records + length said) k (checkpoint_of h.points new) transactions) (kept-same h.points new h.records same)
    ∙ ap (λ c. moved (database_of h) (end_behind h.records + length said) (kept_of h.points h.records) c transactions) (checkpoint-same h.points new h.records same)
    ∙ ap (λ (d : Database). record d { end = end_behind h.records + length said; transactions = transactions }) (sym (pointed-still m (database_of h) (end_behind h.records) said none))

-- ---- a checkpoint

-- noting the next one changes nothing
pub noting-is : (h : Hosted) → Counts 1 h.records (end_behind h.records) → database_of (noting h) ≡ database_of h
noting-is h counts =
    let none : has_checkpoint (end_behind h.records) h.records ≡ false = has-above (end_behind h.records) 1 (end_behind h.records) h.records counts (omega arith) in
    ap (λ t. record (database_of h) { kept = cond t (kept_next h) (kept_of h.points h.records); checkpoint = cond t (end_behind h.records) (checkpoint_of h.points h.records) }) none

-- nor does taking in what was noted
pub folding-is : (h : Hosted) → Counts 1 h.records (end_behind h.records) → database_of (folding h) ≡ database_of h
folding-is h counts =
    let none : has_checkpoint 0 h.records ≡ false = has-below 0 1 (end_behind h.records) h.records counts (omega arith) in
    ap (λ t. record (database_of h) { kept = cond t 0 (kept_of h.points h.records); checkpoint = cond t 0 (checkpoint_of h.points h.records) }) none

-- and once it is said, it is the latest one
pub checkpoint-is : (h : Hosted) (time : ℕ) (transactions : List Open) → Counts 1 h.records (end_behind h.records)
    → database_of (saying (alone (checkpointed time)) transactions (noting h)) ≡ gone_on (model h.records) (alone (checkpointed time)) transactions (database_of h)
checkpoint-is h time transactions counts =
    let e : ℕ = end_behind h.records in
    let said : List Said = alone (checkpointed time) in
    let none : has_checkpoint e h.records ≡ false = has-above e 1 e h.records counts (omega arith) in
    let own : (e == e) ≡ true = grind (arith, nat_tests) in
    let last : has_checkpoint e (numbered e said) ≡ true = ap (λ t. (t && true) || false) own in
    let there : has_checkpoint e (more h.records e said) ≡ true = has-joined e h.records (numbered e said) ∙ ap (λ t. t || has_checkpoint e (numbered e said)) none ∙ last in
    ap (λ n. moved (database_of h) n (kept_of (awaiting h.points h.records (kept_next h)) (more h.records e said)) (checkpoint_of (awaiting h.points h.records (kept_next h)) (more h.records e said)) transactions) (end-more h.records e said)
    ∙ ap (λ t. moved (database_of h) (e + 1) (cond t (kept_next h) (kept_of h.points h.records)) (cond t e (checkpoint_of h.points h.records)) transactions) there

-- what is said that is no checkpoint leaves the points
pub folded-said : (points : Points) (rs : List Logged) (n : ℕ) (said : List Said) → SaysNoCheckpoint said → folded points (rs ++ numbered n said) ≡ folded points rs
folded-said points rs n said none =
    let same : has_checkpoint points.next_checkpoint (rs ++ numbered n said) ≡ has_checkpoint points.next_checkpoint rs = has-behind points.next_checkpoint rs (numbered n said) (numbered-plain n said none) in
    ap (λ t. record points { next_checkpoint = 0; next_kept = 0; kept = cond t points.next_kept points.kept; checkpoint = cond t points.next_checkpoint points.checkpoint }) same
