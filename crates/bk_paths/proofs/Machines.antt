-- What settles a path is what settles a log of the machine.
use Rattle.std.proofs.Common.{◌≡◌, ◌≤◌, ℕ, ◌+◌, Bool, true, false, not, ◌&&◌, List, [], ◌∷◌, ◌++◌, map, reverse, refl, sym, subst, ◌∙◌, ap, arith, append_assoc, append-nil}
use Rattle.std.specs.Prelude.{◌==◌, nat_lt}
use Rattle.std.specs.List.{AllByRecursion, filter}
use Rattle.std.proofs.lemmas.Bool.{lt-ltb}
use Rattle.std.proofs.lemmas.List.{length-map, map-append, reverse-append}
use Rattle.std.proofs.lemmas.List.Elements.{filter-append}
use Rattle.bk_ids.specs.declared.record.Rec.{Rec}
use Rattle.bk_undo.specs.declared.pending.Pending.{Pending}
use Rattle.bk_undo.specs.Losers.{closes, compensation_of, is_open, pending, records_below, writes}
use Rattle.bk_undo.specs.Spelled.{image, spelled}
use Rattle.bk_undo.specs.WorldCut.{end_behind, settled as settled_log}
use Rattle.bk_lemmas.specs.Lists.{filter_every}
use Rattle.bk_undo.specs.WorldPending.{pending_after, pending_from, Pending as Open, pending as open_in}
use Rattle.bk_undo.specs.WorldRecords.{Counts, Deed, Logged, database_made, table_made, begun, written, committed, rolled_back, undone, checkpointed, stamped, model_set, loaded, recovered, numbered as numbered_said}
use Rattle.bk_undo.specs.WorldSays.{settle_said, undoing as undoing_said}
use Rattle.bk_paths.specs.Paths.{end_of, numbered, settled}
use Rattle.bk_paths.specs.Laws.{IsPlain}

-- a pending write of the machine, as the log's reader knows it
abbrev told : Open → Pending
told w = record { lsn = w.lsn; begin = w.begin; place = w.place; before = image w.change.table w.change.key w.before }

-- ---- lists that are filtered

filter_told : (p : Open → Bool) (q : Pending → Bool) (ws : List Open) → ((w : Open) → q (told w) ≡ p w) → map told (filter p ws) ≡ filter q (map told ws)
filter_told p q [] same = refl
filter_told p q (w ∷ ws) same = by (p w) refl (filter_told p q ws same)
  where
    by : (b : Bool) → p w ≡ b → map told (filter p ws) ≡ filter q (map told ws) → map told (filter p (w ∷ ws)) ≡ filter q (map told (w ∷ ws))
    by true is rest = let also : q (told w) ≡ true = same w ∙ is in rw (is, also) (ap (λ (vs : List Pending). told w ∷ vs) rest)
    by false is rest = let also : q (told w) ≡ false = same w ∙ is in rw (is, also) rest

filter_both : (p q : Pending → Bool) (ws : List Pending) → filter q (filter p ws) ≡ filter (λ w. p w && q w) ws
filter_both p q [] = refl
filter_both p q (w ∷ ws) = by (p w) refl (q w) refl (filter_both p q ws)
  where
    by : (a : Bool) → p w ≡ a → (b : Bool) → q w ≡ b → filter q (filter p ws) ≡ filter (λ v. p v && q v) ws → filter q (filter p (w ∷ ws)) ≡ filter (λ v. p v && q v) (w ∷ ws)
    by true is true also rest = rw (is, also) (ap (λ (vs : List Pending). w ∷ vs) rest)
    by true is false also rest = rw (is, also) rest
    by false is b also rest = rw is rest

filter_open : (ws : List Pending) → filter (is_open []) ws ≡ ws
filter_open [] = refl
filter_open (w ∷ ws) = ap (λ (vs : List Pending). w ∷ vs) (filter_open ws)

map_reverse : (ws : List Open) → map told (reverse ws) ≡ reverse (map told ws)
map_reverse [] = refl
map_reverse (w ∷ ws) =
    ap (map told) (reverse-append (w ∷ []) ws) ∙ map-append told (reverse ws) (w ∷ []) ∙ ap (λ (vs : List Pending). vs ++ told w ∷ []) (map_reverse ws) ∙ sym (reverse-append (told w ∷ []) (map told ws))

-- ---- one record

-- what stays open behind a record, and behind those that follow it
abbrev Step : Logged → List Rec → List Open → Type 0
Step r rest ws = filter (is_open rest) (map told (pending_after ws r.lsn r.begin r.deed)) ≡ filter (is_open (spelled r ∷ rest)) (map told ws) ++ filter (is_open rest) (writes (spelled r))

-- a record that closes by a test, and writes nothing
closing : (r : Logged) (rest : List Rec) (ws : List Open) (test : Open → Bool) (closed : Pending → Bool) → pending_after ws r.lsn r.begin r.deed ≡ filter (λ w. not (test w)) ws → ((w : Pending) → closes (spelled r) w ≡ closed w)
    → ((w : Open) → closed (told w) ≡ test w) → writes (spelled r) ≡ [] → Step r rest ws
closing r rest ws test closed after is same none =
    ap (λ (vs : List Open). filter (is_open rest) (map told vs)) after
    ∙ ap (filter (is_open rest)) (filter_told (λ w. not (test w)) (λ w. not (closes (spelled r) w)) ws (λ w. ap not (is (told w) ∙ same w)))
    ∙ filter_both (λ w. not (closes (spelled r) w)) (is_open rest) (map told ws)
    ∙ sym (append-nil (filter (is_open (spelled r ∷ rest)) (map told ws)))
    ∙ ap (λ (vs : List Pending). filter (is_open (spelled r ∷ rest)) (map told ws) ++ filter (is_open rest) vs) (sym none)

-- one that does neither
quiet : (rest : List Rec) (ws : List Open) → filter (is_open rest) (map told ws) ≡ filter (is_open rest) (map told ws) ++ []
quiet rest ws = sym (append-nil (filter (is_open rest) (map told ws)))

step : (lsn begin : ℕ) (deed : Deed) (rest : List Rec) (ws : List Open) → IsPlain (record { lsn = lsn; begin = begin; deed = deed }) → Step (record { lsn = lsn; begin = begin; deed = deed }) rest ws
step lsn begin (written at before c) rest ws plain =
    ap (filter (is_open rest)) (map-append told ws _) ∙ filter-append (is_open rest) (map told ws) _
step lsn begin (committed time mark) rest ws plain =
    closing (record { lsn = lsn; begin = begin; deed = committed time mark }) rest ws (λ w. w.begin == begin) (λ w. w.begin == begin) refl (λ w. refl) (λ w. refl) refl
step lsn begin rolled_back rest ws plain =
    closing (record { lsn = lsn; begin = begin; deed = rolled_back }) rest ws (λ w. w.begin == begin) (λ w. w.begin == begin) refl (λ w. refl) (λ w. refl) refl
step lsn begin (undone at c n) rest ws plain =
    closing (record { lsn = lsn; begin = begin; deed = undone at c n }) rest ws (λ w. w.begin == begin && w.lsn == n) (λ w. w.begin == begin && w.lsn == n) refl (λ w. refl) (λ w. refl) refl
step lsn begin (loaded load) rest ws plain = absurd plain
step lsn begin (database_made time family branch) rest ws plain = quiet rest ws
step lsn begin (table_made time spec) rest ws plain = quiet rest ws
step lsn begin begun rest ws plain = quiet rest ws
step lsn begin (checkpointed time) rest ws plain = quiet rest ws
step lsn begin (stamped time set) rest ws plain = quiet rest ws
step lsn begin (model_set time model) rest ws plain = quiet rest ws
step lsn begin (recovered branch) rest ws plain = quiet rest ws

-- ---- a log

told_from : (ws : List Open) (rs : List Logged) → AllByRecursion IsPlain rs → map told (pending_from ws rs) ≡ filter (is_open (map spelled rs)) (map told ws) ++ pending (map spelled rs)
told_from ws [] plain = sym (append-nil (filter (is_open []) (map told ws)) ∙ filter_open (map told ws))
told_from ws (r ∷ rs) plain =
    let rest : List Rec = map spelled rs in
    told_from (pending_after ws r.lsn r.begin r.deed) rs plain.1
    ∙ ap (λ (vs : List Pending). vs ++ pending rest) (step r.lsn r.begin r.deed rest ws plain.0)
    ∙ append_assoc (filter (is_open (spelled r ∷ rest)) (map told ws)) (filter (is_open rest) (writes (spelled r))) (pending rest)

-- the pending writes of a log are those that its reader finds
told_all : (rs : List Logged) → AllByRecursion IsPlain rs → map told (open_in rs) ≡ pending (map spelled rs)
unfolding open_in
told_all rs plain = told_from [] rs plain

low : (n end most : ℕ) (rs : List Logged) → Counts n rs end → end ≤ most → AllByRecursion (λ (r : Rec). nat_lt r.lsn most ≡ true) (map spelled rs)
low n end most [] counts room = tt
low n end most (r ∷ rs) counts room =
    let below : n + 1 ≤ end = count_up (n + 1) end rs counts.1 in
    (lt-ltb r.lsn most (omega (arith, counts.0, below, room)), low (n + 1) end most rs counts.1 room)
  where
    count_up : (m end : ℕ) (xs : List Logged) → Counts m xs end → m ≤ end
    count_up m end [] is = omega (arith, is)
    count_up m end (x ∷ xs) is = omega (arith, count_up (m + 1) end xs is.1)

undo_spelled : (n : ℕ) (ws : List Open) → numbered n (map compensation_of (map told ws)) ≡ map spelled (numbered_said n (undoing_said ws))
undo_spelled n [] = refl
undo_spelled n (w ∷ ws) = ap (λ (rs : List Rec). (record (compensation_of (told w)) { lsn = n }) ∷ rs) (undo_spelled (n + 1) ws)

pub settled_spelled : (rs : List Logged) → Counts 1 rs (end_behind rs) → AllByRecursion IsPlain rs → settled (map spelled rs) ≡ map spelled (settled_log rs)
unfolding settled settled_log
settled_spelled rs counts plain =
    let path : List Rec = map spelled rs in
    let same_end : end_of path ≡ end_behind rs = omega (arith, length-map rs spelled) in
    let below : records_below (end_of path) path ≡ path = filter_every (λ (r : Rec). nat_lt r.lsn (end_of path)) path (low 1 (end_behind rs) (end_of path) rs counts (omega (arith, same_end))) in
    let found : reverse (pending (records_below (end_of path) path)) ≡ map told (reverse (open_in rs)) =
    ap (λ (rows : List Rec). reverse (pending rows)) below ∙ ap reverse (sym (told_all rs plain)) ∙ sym (map_reverse (open_in rs)) in
    ap (λ (ws : List Pending). path ++ numbered (end_of path) (map compensation_of ws)) found
    ∙ ap (λ (n : ℕ). path ++ numbered n (map compensation_of (map told (reverse (open_in rs))))) same_end
    ∙ ap (λ (more : List Rec). path ++ more) (undo_spelled (end_behind rs) (reverse (open_in rs)))
    ∙ sym (map-append spelled rs (numbered_said (end_behind rs) (settle_said (open_in rs))))

opened : (kept : ℕ) (ws : List Open) → AllByRecursion (λ (w : Open). kept ≤ w.begin) ws → AllByRecursion (λ (w : Pending). kept ≤ w.begin) (map told ws)
opened kept [] all = tt
opened kept (w ∷ ws) all = (all.0, opened kept ws all.1)

pub keeps_opened : (rs : List Logged) (kept : ℕ) → AllByRecursion IsPlain rs → AllByRecursion (λ (w : Open). kept ≤ w.begin) (open_in rs) → AllByRecursion (λ (w : Pending). kept ≤ w.begin) (pending (map spelled rs))
keeps_opened rs kept plain all = subst (λ (ws : List Pending). AllByRecursion (λ (w : Pending). kept ≤ w.begin) ws) (told_all rs plain) (opened kept (open_in rs) all)
