-- Sound logs: fronts, what may follow, and where their pending writes lie.
use Rattle.std.proofs.Common.{◌≡◌, ◌<◌, ◌≤◌, ℕ, zero, suc, ◌+◌, ◌*◌, Bool, true, false, not, ◌&&◌, cond, List, [], ◌∷◌, ◌++◌, length, refl, sym, ◌∙◌, subst, arith, append_assoc}
use Rattle.std.specs.Prelude.{◌==◌}
use Rattle.std.specs.List.{filter, AllByRecursion}
use Rattle.std.proofs.lemmas.List.{append-nil}
use Rattle.bk_ids.specs.declared.record.ExtentId.{ExtentId}
use Rattle.bk_world.specs.Cut.{end_behind}
use Rattle.bk_world.specs.Pending.{Pending, PendingRise, pending, pending_after, load_writes}
use Rattle.bk_world.specs.Records.{Counts, Deed, Load, Logged, database_made, table_made, begun, written, committed, rolled_back, undone, checkpointed, stamped, model_set, loaded, recovered}
use Rattle.bk_world.specs.SoundLogs.{MayCome, MayFollow, NoLoadPends}
use Rattle.bk_lemmas.specs.Lists.{all_joined, all_mapped, all_filter}
use Rattle.bk_world.specs.ReadingLaws.{pending-more}

-- ---- fronts

pub follow-front : (rs a b : List Logged) → MayFollow rs (a ++ b) → MayFollow rs a
follow-front rs [] b may = tt
follow-front rs (r ∷ a) b may = (may.0, follow-front (rs ++ r ∷ []) a b may.1)

pub follow-join : (rs a b : List Logged) → MayFollow rs a → MayFollow (rs ++ a) b → MayFollow rs (a ++ b)
follow-join rs [] b first then = subst (λ front. MayFollow front b) (append-nil rs) then
follow-join rs (r ∷ a) b first then =
    (first.0, follow-join (rs ++ r ∷ []) a b first.1 (subst (λ front. MayFollow front b) (sym (append_assoc rs (r ∷ []) a)) then))

-- ---- pending writes lie apart: each that is of no load lies above all before it

abbrev pub LieApart : List Pending → Type 0
LieApart [] = Unit {0}
LieApart (w ∷ ws) = AllByRecursion (λ v. v.extents ≡ [] → w.lsn < v.lsn) ws × LieApart ws

apart-join : (ws vs : List Pending) → LieApart ws → LieApart vs → AllByRecursion (λ w. AllByRecursion (λ v. v.extents ≡ [] → w.lsn < v.lsn) vs) ws → LieApart (ws ++ vs)
apart-join [] vs first then across = then
apart-join (w ∷ ws) vs first then across = (all_joined (λ v. v.extents ≡ [] → w.lsn < v.lsn) ws vs first.0 across.0, apart-join ws vs first.1 then across.1)

pub apart-filter : (p : Pending → Bool) (ws : List Pending) → LieApart ws → LieApart (filter p ws)
apart-filter p [] apart = tt
apart-filter p (w ∷ ws) apart = step (p w) (apart-filter p ws apart.1)
  where
    step : (t : Bool) → LieApart (filter p ws) → LieApart (cond t (w ∷ filter p ws) (filter p ws))
    step true rest = (all_filter (λ v. v.extents ≡ [] → w.lsn < v.lsn) p ws apart.0, rest)
    step false rest = rest

-- where no load pends, they rise
pub apart-rise : (ws : List Pending) → LieApart ws → AllByRecursion (λ w. w.extents ≡ []) ws → PendingRise ws
apart-rise [] apart none = tt
apart-rise (w ∷ ws) apart none = (above ws apart.0 none.1, apart-rise ws apart.1 none.1)
  where
    above : (vs : List Pending) → AllByRecursion (λ v. v.extents ≡ [] → w.lsn < v.lsn) vs → AllByRecursion (λ v. v.extents ≡ []) vs → AllByRecursion (λ v. w.lsn < v.lsn) vs
    above [] lies none = tt
    above (v ∷ vs) lies none = (lies.0 none.0, above vs lies.1 none.1)

-- ---- the writes of a load

load-below : (lsn begin : ℕ) (load : Load) (i n : ℕ) → AllByRecursion (λ w. w.lsn < lsn + 1) (load_writes lsn begin load i n)
load-below lsn begin load i zero = tt
load-below lsn begin load i (suc n) = (omega arith, load-below lsn begin load (i + 1) n)

load-extents : (lsn begin : ℕ) (load : Load) (i n : ℕ) → AllByRecursion (λ w. w.extents ≡ load.extents) (load_writes lsn begin load i n)
load-extents lsn begin load i zero = tt
load-extents lsn begin load i (suc n) = (refl, load-extents lsn begin load (i + 1) n)

-- a list of writes that all have extents lies apart, and so it does behind any others
all-have : (ws : List Pending) → AllByRecursion (λ w. w.extents ≡ [] → ⊥) ws → LieApart ws
all-have [] have = tt
all-have (w ∷ ws) have = (all_mapped (λ v. v.extents ≡ [] → ⊥) (λ v. v.extents ≡ [] → w.lsn < v.lsn) (λ v some none. absurd (some none)) ws have.1, all-have ws have.1)

across-have : (ws vs : List Pending) → AllByRecursion (λ v. v.extents ≡ [] → ⊥) vs → AllByRecursion (λ w. AllByRecursion (λ v. v.extents ≡ [] → w.lsn < v.lsn) vs) ws
across-have [] vs have = tt
across-have (w ∷ ws) vs have = (all_mapped (λ v. v.extents ≡ [] → ⊥) (λ v. v.extents ≡ [] → w.lsn < v.lsn) (λ v some none. absurd (some none)) vs have, across-have ws vs have)

load-have : (lsn begin : ℕ) (load : Load) → load.count ≤ 504 * length load.extents → AllByRecursion (λ w. w.extents ≡ [] → ⊥) (load_writes lsn begin load 0 load.count)
load-have lsn begin load fits = by load.extents refl
  where
    clash : (x : ExtentId) (xs : List ExtentId) → (x ∷ xs) ≡ [] → ⊥
    clash x xs is = cc

    by : (extents : List ExtentId) → load.extents ≡ extents → AllByRecursion (λ w. w.extents ≡ [] → ⊥) (load_writes lsn begin load 0 load.count)
    by [] is =
        let OfExtents : List ExtentId → Type 0 = λ extents. load.count ≤ 504 * length extents in
        let few : load.count ≤ 504 * 0 = subst OfExtents is fits in
        let none : 0 ≡ load.count = omega (arith, few) in
        subst (λ n. AllByRecursion (λ w. w.extents ≡ [] → ⊥) (load_writes lsn begin load 0 n)) none tt
    by (x ∷ xs) is = all_mapped (λ w. w.extents ≡ load.extents) (λ w. w.extents ≡ [] → ⊥) (λ w same none. clash x xs (sym is ∙ (sym same ∙ none))) (load_writes lsn begin load 0 load.count) (load-extents lsn begin load 0 load.count)

-- ---- behind one more record

-- a load has room in its extents
abbrev Fits : Deed → Type 0
Fits (loaded load) = load.count ≤ 504 * length load.extents
Fits _ = Unit {0}

fits : (rs : List Logged) (lsn begin : ℕ) (deed : Deed) → MayCome rs lsn begin deed → Fits deed
fits rs lsn begin (database_made time family branch) may = tt
fits rs lsn begin (table_made time spec) may = tt
fits rs lsn begin begun may = tt
fits rs lsn begin (written at before c) may = tt
fits rs lsn begin (committed time mark) may = tt
fits rs lsn begin rolled_back may = tt
fits rs lsn begin (undone at c n) may = tt
fits rs lsn begin (checkpointed time) may = tt
fits rs lsn begin (stamped time set) may = tt
fits rs lsn begin (model_set time model) may = tt
fits rs lsn begin (loaded load) may = may.fits
fits rs lsn begin (recovered branch) may = tt

-- pending writes lie apart, and below an end
pub record Lying (ws : List Pending) (end : ℕ) : Type 0 where
  pub apart : LieApart ws
  pub below : AllByRecursion (λ w. w.lsn < end) ws

higher : (ws : List Pending) (n : ℕ) → AllByRecursion (λ w. w.lsn < n) ws → AllByRecursion (λ w. w.lsn < n + 1) ws
higher ws n below = all_mapped (λ w. w.lsn < n) (λ w. w.lsn < n + 1) (λ w lt. omega arith) ws below

stayed : (ws : List Pending) (n : ℕ) → Lying ws n → Lying ws (n + 1)
stayed ws n lies = record { apart = lies.apart; below = higher ws n lies.below }

fewer : (p : Pending → Bool) (ws : List Pending) (n : ℕ) → Lying ws n → Lying (filter p ws) (n + 1)
fewer p ws n lies = record { apart = apart-filter p ws lies.apart; below = all_filter (λ w. w.lsn < n + 1) p ws (higher ws n lies.below) }

one_lies : (w : Pending) (ws : List Pending) → AllByRecursion (λ v. v.lsn < w.lsn) ws → AllByRecursion (λ v. AllByRecursion (λ x. x.extents ≡ [] → v.lsn < x.lsn) (w ∷ [])) ws
one_lies w ws below = all_mapped (λ v. v.lsn < w.lsn) (λ v. AllByRecursion (λ x. x.extents ≡ [] → v.lsn < x.lsn) (w ∷ [])) (λ v lt. ((λ none. lt), tt)) ws below

lying-after : (ws : List Pending) (n begin : ℕ) (deed : Deed) → Fits deed → Lying ws n → Lying (pending_after ws n begin deed) (n + 1)
lying-after ws n begin (database_made time family branch) room lies = stayed ws n lies
lying-after ws n begin (table_made time spec) room lies = stayed ws n lies
lying-after ws n begin begun room lies = stayed ws n lies
lying-after ws n begin (written at before c) room lies =
    let w : Pending = record { lsn = n; begin = begin; place = at; before = before; change = c; extents = [] } in record {
      apart = apart-join ws (w ∷ []) lies.apart (tt, tt) (one_lies w ws lies.below);
      below = all_joined (λ v. v.lsn < n + 1) ws (w ∷ []) (higher ws n lies.below) (omega arith, tt);
    }
lying-after ws n begin (committed time mark) room lies = fewer (λ w. not (w.begin == begin)) ws n lies
lying-after ws n begin rolled_back room lies = fewer (λ w. not (w.begin == begin)) ws n lies
lying-after ws n begin (undone at c m) room lies = fewer (λ w. not (w.begin == begin && w.lsn == m)) ws n lies
lying-after ws n begin (checkpointed time) room lies = stayed ws n lies
lying-after ws n begin (stamped time set) room lies = stayed ws n lies
lying-after ws n begin (model_set time model) room lies = stayed ws n lies
lying-after ws n begin (loaded load) room lies =
    let laid : List Pending = load_writes n begin load 0 load.count in
    let have : AllByRecursion (λ w. w.extents ≡ [] → ⊥) laid = load-have n begin load room in record {
      apart = apart-join ws laid lies.apart (all-have laid have) (across-have ws laid have);
      below = all_joined (λ v. v.lsn < n + 1) ws laid (higher ws n lies.below) (load-below n begin load 0 load.count);
    }
lying-after ws n begin (recovered branch) room lies = stayed ws n lies

-- ---- behind any records that may follow

lying-more : (rs ss : List Logged) (n end : ℕ) → MayFollow rs ss → Counts n ss end → Lying (pending rs) n → Lying (pending (rs ++ ss)) end
lying-more rs [] n end may counts lies =
    let OfLog : List Logged → Type 0 = λ log. Lying (pending log) end in
    subst OfLog (sym (append-nil rs)) (subst (Lying (pending rs)) counts lies)
lying-more rs (r ∷ ss) n end may counts lies =
    let OfLog : List Logged → Type 0 = λ log. Lying (pending log) end in
    let after : Lying (pending_after (pending rs) n r.begin r.deed) (n + 1) = lying-after (pending rs) n r.begin r.deed (fits rs r.lsn r.begin r.deed may.0) lies in
    let OfNumber : ℕ → Type 0 = λ m. Lying (pending_after (pending rs) m r.begin r.deed) (n + 1) in
    let OfPending : List Pending → Type 0 = λ ws. Lying ws (n + 1) in
    let one : Lying (pending (rs ++ r ∷ [])) (n + 1) = subst OfPending (sym (pending-more rs (r ∷ []))) (subst OfNumber (sym counts.0) after) in
    subst OfLog (append_assoc rs (r ∷ []) ss) (lying-more (rs ++ r ∷ []) ss (n + 1) end may.1 counts.1 one)

-- the pending writes of a sound log that has each number once lie apart, below its end
pub sound-lying : (rs : List Logged) (end : ℕ) → MayFollow [] rs → Counts 1 rs end → Lying (pending rs) end
unfolding pending
sound-lying rs end sound counts = lying-more [] rs 1 end sound counts (record { apart = tt; below = tt })

pub sound-rise : (rs : List Logged) → MayFollow [] rs → Counts 1 rs (end_behind rs) → NoLoadPends rs → PendingRise (pending rs)
sound-rise rs sound counts none = apart-rise (pending rs) (sound-lying rs (end_behind rs) sound counts).apart none
