-- How many numbers are left. A record that tells no entry takes away one pending write at most, so it takes no numbers from what undoes the others.
use Rattle.std.proofs.Common.{◌≡◌, ◌<◌, ◌≤◌, ℕ, zero, suc, ◌+◌, Bool, true, false, not, ◌&&◌, cond, List, [], ◌∷◌, ◌++◌, length, take, drop, None, Some, refl, sym, ◌∙◌, ap, subst, arith, append_assoc}
use Rattle.std.specs.Prelude.{◌==◌}
use Rattle.std.specs.List.{filter, AllByRecursion}
use Rattle.std.proofs.lemmas.Bool.Decides.{nat_tests}
use Rattle.std.proofs.lemmas.List.{append-nil, length-append, take-append-drop}
use Rattle.std.proofs.lemmas.List.Elements.{filter-append}
use Rattle.std.proofs.lemmas.List.Filters.{length-filter_both}
use Rattle.bk_world.specs.Cut.{end_behind, settled}
use Rattle.bk_lemmas.specs.Lists.{all_mapped, all_middle, filter_no}
use Rattle.bk_world.specs.Pending.{Pending, of_others, of_transaction, pending, pending_after}
use Rattle.bk_world.specs.ReadingLaws.{numbered-append, pending-more}
use Rattle.bk_world.specs.Records.{Counts, Deed, Logged, Said, more, numbered, database_made, table_made, begun, written, committed, rolled_back, undone, checkpointed, stamped, model_set, loaded, recovered}
use Rattle.bk_world.specs.SettledLaws.{length-numbered}
use Rattle.bk_world.specs.SoundLaws.{LieApart, follow-front, sound-lying, apart-filter}
use Rattle.bk_world.specs.SoundLogs.{IsSound, MayCome, MayFollow, MayUndo}
use Rattle.bk_world.specs.Telling.{telling}
use Rattle.bk_world.specs.declared.transaction.Open.{Open}
use Rattle.bk_world.specs.CrashLaws.{counts-front}
use Rattle.bk_machine.specs.Checks.{kept_numbers, last_number, used_up}
use Rattle.bk_machine.specs.Crash.{AreQuiet}
use Rattle.bk_machine.specs.HeldLaws.{IsHeldBy, held-up, open-begin}
use Rattle.bk_machine.specs.Sound.{AreOpen, IsSound as IsSoundWorld, IsWholeDatabase}
use Rattle.bk_machine.specs.SettledLaws.{counts-end}
use Rattle.bk_machine.specs.Stays.{IsCutOf, IsFront, MayStay}
use Rattle.bk_machine.specs.World.{Database, Held, World, held_in, log_of, without_begin}
use Rattle.bk_machine.proofs.Bounded.{end-settled, front-bound}
use Rattle.bk_machine.proofs.SettledSteps.{follow-rest}
use Rattle.bk_machine.proofs.statements.Few.{few-pend, few-sessions, one-less, split}

-- ---- before numbers are used up

-- where a statement isn't refused, the end lies below the numbers that are kept
pub below-kept : (n : ℕ) → used_up n ≡ false → n < kept_numbers
below-kept n e = grind (arith, nat_tests, e)

-- there, and some records behind, numbers are left for what is open and for some records more
pub numbers-there : (rs : List Logged) (end : ℕ) (ts : List Open) → AreOpen rs end ts → end ≤ kept_numbers + 16 → end + (length (pending rs) + (length ts + 16)) ≤ last_number
numbers-there rs end ts opens low =
    let few : length (pending rs) < 2200000 = few-pend rs end ts opens in
    let seats : length ts ≤ 33 = few-sessions ts opens.apart opens.seats in
    omega (arith, low, few, seats)

pub numbers-before : (rs : List Logged) (end : ℕ) (ts : List Open) → AreOpen rs end ts → used_up end ≡ false → end + (length (pending rs) + (length ts + 16)) ≤ last_number
numbers-before rs end ts opens low = let lower : end < kept_numbers = below-kept end low in numbers-there rs end ts opens (omega (arith, lower))

-- a transaction that is open has a number to end
pub numbers-held : (w : World) (session : ℕ) (h : Held) → IsSoundWorld w → held_in w.databases session ≡ Some h → h.database.end + (length (pending (log_of w.history h.database)) + 1) ≤ last_number
numbers-held w session h sound is =
    let held : IsHeldBy w session h = held-up w session h sound is in
    let ts : List Open = h.database.transactions in
    let some : length (without_begin ts h.transaction.begin) + 1 ≡ length ts = one-less ts h.transaction.begin held.up.opens.apart (open-begin ts session h.transaction held.own) in
    omega (arith, some, held.up.opens.numbers)

-- ---- one record that tells no entry

-- of writes that lie apart those before one that is of no load have lower numbers
none-before : (ws : List Pending) (v : Pending) → v.extents ≡ [] → LieApart (ws ++ v ∷ []) → AllByRecursion (λ (w : Pending). w.lsn < v.lsn) ws
none-before [] v single apart = tt
none-before (w ∷ ws) v single apart = (all_middle (λ (x : Pending). x.extents ≡ [] → w.lsn < x.lsn) ws v [] apart.0 single, none-before ws v single apart.1)

-- two tests at once, and one after the other
both-tests : (begin n : ℕ) (ws : List Pending) → filter (λ (w : Pending). w.begin == begin && w.lsn == n) ws ≡ filter (λ (w : Pending). w.lsn == n) (of_transaction begin ws)
both-tests begin n [] = refl
both-tests begin n (w ∷ ws) = by (w.begin == begin) (w.lsn == n) refl (both-tests begin n ws)
  where
    by : (s t : Bool) → (w.lsn == n) ≡ t → filter (λ (v : Pending). v.begin == begin && v.lsn == n) ws ≡ filter (λ (v : Pending). v.lsn == n) (of_transaction begin ws)
        → cond (s && t) (w ∷ filter (λ (v : Pending). v.begin == begin && v.lsn == n) ws) (filter (λ (v : Pending). v.begin == begin && v.lsn == n) ws)
        ≡ filter (λ (v : Pending). v.lsn == n) (cond s (w ∷ of_transaction begin ws) (of_transaction begin ws))
    by true true is rest = rw is (ap (λ (vs : List Pending). w ∷ vs) rest)
    by true false is rest = rw is rest
    by false t is rest = rest

-- what is undone is one write
one-undone : (rs : List Logged) (begin : ℕ) (at : _) (c : _) (n : ℕ) → MayUndo rs begin at c n → LieApart (pending rs) → length (pending rs) ≤ 1 + length (filter (λ (w : Pending). not (w.begin == begin && w.lsn == n)) (pending rs))
one-undone rs begin at c n may apart =
    let ws : List Pending = pending rs in
    let v : Pending = may.write in
    let its : Pending → Bool = λ w. w.begin == begin && w.lsn == n in
    let parts : length (filter its ws) + length (filter (λ (w : Pending). not (w.begin == begin && w.lsn == n)) ws) ≡ length ws = length-filter_both its (λ (w : Pending). not (w.begin == begin && w.lsn == n)) (λ w. refl) ws in
    let below : AllByRecursion (λ (w : Pending). w.lsn < v.lsn) may.before = none-before may.before v may.single (subst LieApart may.last (apart-filter (λ (w : Pending). w.begin == begin) ws apart)) in
    let none : filter (λ (w : Pending). w.lsn == n) may.before ≡ [] =
    filter_no (λ (w : Pending). w.lsn == n) may.before (all_mapped (λ (w : Pending). w.lsn < v.lsn) (λ (w : Pending). (w.lsn == n) ≡ false) (λ w lt. other w.lsn lt) may.before below) in
    let own : filter its ws ≡ filter (λ (w : Pending). w.lsn == n) (v ∷ []) =
    both-tests begin n ws ∙ ap (filter (λ (w : Pending). w.lsn == n)) may.last ∙ filter-append (λ (w : Pending). w.lsn == n) may.before (v ∷ []) ∙ ap (λ (vs : List Pending). vs ++ filter (λ (w : Pending). w.lsn == n) (v ∷ [])) none in
    let one : length (filter (λ (w : Pending). w.lsn == n) (v ∷ [])) ≤ 1 = alone (v.lsn == n) in
    let count : length (filter its ws) ≡ length (filter (λ (w : Pending). w.lsn == n) (v ∷ [])) = ap length own in
    omega (arith, parts, one, count)
  where
    other : (m : ℕ) → m < may.write.lsn → (m == n) ≡ false
    other m lt = let number : n ≡ may.write.lsn = may.number in grind (arith, nat_tests, lt, number)

    alone : (t : Bool) → length (cond t (may.write ∷ []) []) ≤ 1
    alone true = omega arith
    alone false = omega arith

-- a rollback ends where nothing of its transaction is pending
none-ended : (begin : ℕ) (ws : List Pending) → of_transaction begin ws ≡ [] → length ws ≤ 1 + length (of_others begin ws)
none-ended begin ws none =
    let nothing : length (of_transaction begin ws) ≡ 0 = ap length none in
    let parts : length (of_transaction begin ws) + length (of_others begin ws) ≡ length ws = split begin ws in
    omega (arith, nothing, parts)

more-pends : (ws vs : List Pending) → length ws ≤ 1 + length (ws ++ vs)
more-pends ws vs = let parts : length (ws ++ vs) ≡ length ws + length vs = length-append ws vs in omega (arith, parts)

pends-after : (rs : List Logged) (n begin : ℕ) (deed : Deed) → MayCome rs n begin deed → telling deed ≡ None → LieApart (pending rs) → length (pending rs) ≤ 1 + length (pending_after (pending rs) n begin deed)
pends-after rs n begin (database_made time family branch) may quiet apart = absurd (cc)
pends-after rs n begin (table_made time spec) may quiet apart = absurd (cc)
pends-after rs n begin begun may quiet apart = omega arith
pends-after rs n begin (written at before c) may quiet apart = more-pends (pending rs) _
pends-after rs n begin (committed time mark) may quiet apart = absurd (cc)
pends-after rs n begin rolled_back may quiet apart = none-ended begin (pending rs) may
pends-after rs n begin (undone at c m) may quiet apart = one-undone rs begin at c m may apart
pends-after rs n begin (checkpointed time) may quiet apart = absurd (cc)
pends-after rs n begin (stamped time set) may quiet apart = absurd (cc)
pends-after rs n begin (model_set time model) may quiet apart = absurd (cc)
pends-after rs n begin (loaded load) may quiet apart = more-pends (pending rs) _
pends-after rs n begin (recovered branch) may quiet apart = omega arith

-- ---- records that are lost

-- so a front has no more pending than the whole, and one for each record behind it
pub pends-lost : (kept lost : List Logged) (end : ℕ) → IsSound (kept ++ lost) → Counts 1 (kept ++ lost) end → AllByRecursion (λ (r : Logged). telling r.deed ≡ None) lost
    → length (pending kept) ≤ length lost + length (pending (kept ++ lost))
pends-lost kept [] end sound counts quiet = let same : length (pending (kept ++ [])) ≡ length (pending kept) = ap (λ (rs : List Logged). length (pending rs)) (append-nil kept) in omega (arith, same)
pends-lost kept (r ∷ lost) end sound counts quiet =
    let front : List Logged = kept ++ r ∷ [] in
    let on : kept ++ r ∷ lost ≡ front ++ lost = sym (append_assoc kept (r ∷ []) lost) in
    let may : MayFollow kept (r ∷ lost) = follow-rest [] kept (r ∷ lost) sound in
    let apart : LieApart (pending kept) = (sound-lying kept (1 + length kept) (follow-front [] kept (r ∷ lost) sound) (counts-front 1 end kept (r ∷ lost) counts)).apart in
    let one : length (pending kept) ≤ 1 + length (pending_after (pending kept) r.lsn r.begin r.deed) = pends-after kept r.lsn r.begin r.deed may.0 quiet.0 apart in
    let now : length (pending front) ≡ length (pending_after (pending kept) r.lsn r.begin r.deed) = ap length (pending-more kept (r ∷ [])) in
    let rest : length (pending front) ≤ length lost + length (pending (front ++ lost)) = pends-lost front lost end (subst IsSound on sound) (subst (λ (rs : List Logged). Counts 1 rs end) on counts) quiet.1 in
    let same : length (pending (kept ++ r ∷ lost)) ≡ length (pending (front ++ lost)) = ap (λ (rs : List Logged). length (pending rs)) on in
    omega (arith, one, now, rest, same)

-- so a front, settled, has numbers
front-numbers : (before whole cut : World) (db : Database) (kept : List Logged) → IsWholeDatabase cut db → IsCutOf before whole cut db → IsFront before cut db kept → end_behind (settled kept) ≤ last_number
front-numbers before whole cut db kept is at front =
    let rs : List Logged = log_of cut.history db in
    let all : db.end ≡ 1 + length rs = counts-end 1 db.end rs is.log.counts in
    let parts : length rs ≡ length kept + length front.lost = ap length front.splits ∙ length-append kept front.lost in
    let few : length (pending kept) ≤ length front.lost + length (pending (kept ++ front.lost)) =
    pends-lost kept front.lost db.end (subst IsSound front.splits is.log.sound) (subst (λ (log : List Logged). Counts 1 log db.end) front.splits is.log.counts) front.quiet in
    let same : length (pending rs) ≡ length (pending (kept ++ front.lost)) = ap (λ (log : List Logged). length (pending log)) front.splits in
    let ends : end_behind (settled kept) ≡ end_behind kept + length (pending kept) = end-settled kept in
    omega (arith, all, parts, few, same, ends, at.numbers)

-- and may stay
pub may-stay : (before whole cut : World) (db : Database) (kept : List Logged) → IsWholeDatabase cut db → IsCutOf before whole cut db → IsFront before cut db kept → MayStay before whole cut db kept
may-stay before whole cut db kept is at front =
    record { front = front; bound = front-bound before whole cut db kept is at front; numbers = front-numbers before whole cut db kept is at front }

-- ---- what is said

quiet-numbered : (n : ℕ) (said : List Said) → AreQuiet said → AllByRecursion (λ (r : Logged). telling r.deed ≡ None) (numbered n said)
quiet-numbered n [] quiet = tt
quiet-numbered n (s ∷ said) quiet = (quiet.0, quiet-numbered (n + 1) said quiet.1)

quiet-drop : (n : ℕ) (said : List Said) → AreQuiet said → AreQuiet (drop n said)
quiet-drop zero said quiet = quiet
quiet-drop (suc n) [] quiet = tt
quiet-drop (suc n) (s ∷ said) quiet = quiet-drop n said quiet.1

-- where all that is said tells no entry, each front of it leaves the numbers that the whole leaves
pub numbers-quiet : (rs : List Logged) (end : ℕ) (said : List Said) (n : ℕ) → IsSound (more rs end said) → Counts 1 (more rs end said) (end + length said) → AreQuiet said
    → end + (length (take n said) + length (pending (more rs end (take n said)))) ≤ (end + length said) + length (pending (more rs end said))
numbers-quiet rs end said n sound counts quiet =
    let front : List Said = take n said in
    let back : List Said = drop n said in
    let parts : front ++ back ≡ said = take-append-drop n said in
    let lost : List Logged = numbered (end + length front) back in
    let on : more rs end said ≡ more rs end front ++ lost =
    ap (more rs end) (sym parts) ∙ ap (λ (ss : List Logged). rs ++ ss) (numbered-append end front back) ∙ sym (append_assoc rs (numbered end front) lost) in
    let few : length (pending (more rs end front)) ≤ length lost + length (pending (more rs end front ++ lost)) =
    pends-lost (more rs end front) lost (end + length said) (subst IsSound on sound) (subst (λ (log : List Logged). Counts 1 log (end + length said)) on counts) (quiet-numbered (end + length front) back (quiet-drop n said quiet)) in
    let same : length (pending (more rs end said)) ≡ length (pending (more rs end front ++ lost)) = ap (λ (log : List Logged). length (pending log)) on in
    let many : length lost ≡ length back = length-numbered (end + length front) back in
    let all : length said ≡ length front + length back = ap length (sym parts) ∙ length-append front back in
    omega (arith, few, same, many, all)
