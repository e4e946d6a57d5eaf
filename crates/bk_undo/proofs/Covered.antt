-- Which transactions cover what is pending, record by record.
use Rattle.std.proofs.Common.{◌≡◌, ◌<◌, ◌≤◌, ℕ, Bool, true, false, not, ◌==◌, ◌||◌, ◌⊎◌, inl, inr, Option, List, [], ◌∷◌, ◌++◌, length, drop, map, reverse, Bor, None, refl, sym, ◌∙◌, ap, subst, arith, append_assoc}
use Rattle.std.specs.Prelude.{nat_lt}
use Rattle.std.specs.List.{flat_map, filter, list_any}
use Rattle.std.proofs.lemmas.Bool.Decides.{nat_tests}
use Rattle.std.proofs.lemmas.List.{append-nil, length-drop}
use Rattle.std.proofs.lemmas.List.Elements.{filter-append}
use Rattle.std.proofs.lemmas.List.Folds.{list_any-append}
use Rattle.std.proofs.lemmas.Map.Views.{any-filter_same}
use Rattle.bk_ids.specs.declared.record.Body.{Body}
use Rattle.bk_ids.specs.declared.record.Body.TheVariants.{Write}
use Rattle.bk_ids.specs.declared.record.Rec.{Rec}
use Rattle.bk_lemmas.specs.Lists.{all_both, all_filter, all_joined, all_mapped, filter_passed}
use Rattle.bk_record.specs.Log.{IsLog}
use Rattle.bk_record.specs.RecordsLaws.{whole_is}
use Rattle.bk_record.specs.Skims.{Shows}
use Rattle.bk_record.specs.Spelling.{spelling, BeginsWith}
use Rattle.bk_record.specs.WalkLaws.{log_of_records}
use Rattle.bk_record.specs.View.{record_of}
use Rattle.bk_record.specs.declared.skimming.Skimmed.{Skimmed}
use Rattle.bk_record.specs.declared.view.BodyRef.{BodyRef}
use Rattle.bk_record.specs.declared.view.BodyRef.TheVariants as ref
use Rattle.bk_record.specs.declared.view.MarkRef.{MarkRef}
use Rattle.bk_record.specs.declared.view.PlaceRef.{PlaceRef}
use Rattle.bk_undo.proofs.Replay.{noted_closed, pending-append, pending-noted}
use Rattle.bk_undo.specs.Losers.{closes, compensation_of, is_open, noted, pending, records_below, writes}
use Rattle.bk_undo.specs.OpenPart.{Covers, ReadTo, Suffices}
use Rattle.bk_undo.specs.declared.pending.Pending.{Pending}

-- none covers nothing but nothing
pub covered-none : (ws : List Pending) → Covers [] ws → ws ≡ []
covered-none [] covers = refl
covered-none (w ∷ ws) covers = let no : false ≡ true = covers.0 in absurd cc

-- a record that writes nothing
pub covers-quiet : (begun : List ℕ) (n : ℕ) (r : Rec) (ws : List Pending) → writes r ≡ [] → Covers begun ws → Covers begun (noted n r ws)
covers-quiet begun n r ws none covers = step (nat_lt r.lsn n) refl
  where
    step : (b : Bool) → nat_lt r.lsn n ≡ b → Covers begun (noted n r ws)
    step true is = rw is (rw none (rw (append-nil (filter (is_open (r ∷ [])) ws)) (all_filter (λ (w : Pending). list_any (λ b. b == w.begin) begun ≡ true) (is_open (r ∷ [])) ws covers)))
    step false is = rw is covers

-- a record that writes, of a transaction that is among them
pub covers-written : (begun : List ℕ) (n : ℕ) (r : Rec) (ws : List Pending) → Covers begun ws → Covers begun (writes r) → Covers begun (noted n r ws)
covers-written begun n r ws covers more = step (nat_lt r.lsn n) refl
  where
    Has : Pending → Type 0
    Has w = list_any (λ b. b == w.begin) begun ≡ true

    step : (b : Bool) → nat_lt r.lsn n ≡ b → Covers begun (noted n r ws)
    step true is = rw is (all_joined Has (filter (is_open (r ∷ [])) ws) (writes r) (all_filter Has (is_open (r ∷ [])) ws covers) more)
    step false is = rw is covers

write-covered : (begun : List ℕ) (lsn begin : ℕ) (body : Body) → list_any (λ b. b == begin) begun ≡ true → Covers begun (writes (record { lsn = lsn; begin = begin; body = body }))
write-covered begun lsn begin (Write place before after) has = (has, tt)
write-covered begun lsn begin _ has = tt

pub covers-write : (begun : List ℕ) (n : ℕ) (r : Rec) (ws : List Pending) → Covers begun ws → list_any (λ b. b == r.begin) begun ≡ true → Covers begun (noted n r ws)
covers-write begun n r ws covers has = covers-written begun n r ws covers (write-covered begun r.lsn r.begin r.body has)

-- a transaction ends
still-there : (begun : List ℕ) (e b : ℕ) → not (b == e) ≡ true → list_any (λ k. k == b) begun ≡ true → list_any (λ k. k == b) (filter (λ k. not (k == e)) begun) ≡ true
still-there begun e b other has = any-filter_same (λ (k : ℕ). k == b) (λ (k : ℕ). not (k == e)) true (λ k is. grind (arith, nat_tests, is, other)) begun ∙ has

pub covers-ended : (begun : List ℕ) (e : ℕ) (ws : List Pending) → Covers begun ws → Covers (filter (λ b. not (b == e)) begun) (filter (λ w. not (w.begin == e)) ws)
covers-ended begun e ws covers =
    all_both (λ (w : Pending). not (w.begin == e) ≡ true) (λ (w : Pending). list_any (λ b. b == w.begin) begun ≡ true) (λ (w : Pending). list_any (λ b. b == w.begin) (filter (λ b. not (b == e)) begun) ≡ true)
    (λ w other has. still-there begun e w.begin other has)
    (filter (λ w. not (w.begin == e)) ws)
    (filter_passed (λ (w : Pending). not (w.begin == e)) ws)
    (all_filter (λ (w : Pending). list_any (λ b. b == w.begin) begun ≡ true) (λ w. not (w.begin == e)) ws covers)

-- more of them cover as much
pub covers-more : (begun : List ℕ) (e : ℕ) (ws : List Pending) → Covers begun ws → Covers (begun ++ e ∷ []) ws
covers-more begun e ws covers =
    all_mapped (λ (w : Pending). list_any (λ b. b == w.begin) begun ≡ true) (λ (w : Pending). list_any (λ b. b == w.begin) (begun ++ e ∷ []) ≡ true)
    (λ w has. list_any-append (λ (b : ℕ). b == w.begin) begun (e ∷ []) ∙ ap (λ (t : Bool). t || list_any (λ b. b == w.begin) (e ∷ [])) has)
    ws covers

-- ---- reading on

-- a log that has bytes begins with its first record
log-begins : (bytes : List ℕ) (left : List Rec) → IsLog bytes left None → 1 ≤ length bytes → (r : Rec) × (others : List Rec) × (left ≡ r ∷ others) × BeginsWith bytes r (flat_map spelling others) × IsLog (flat_map spelling others) others None
log-begins bytes [] log some = absurd (omega (arith, some, ap length (whole_is bytes [] log)))
log-begins bytes (r ∷ others) log some =
    (r, others, refl, record { spelled = whole_is bytes (r ∷ others) log; is_record = log.are_records.0 }, log_of_records others log.are_records.1)

pub read-none : (n : ℕ) (records : List Rec) (log : List ℕ) → IsLog log records None → ReadTo n records [] log
read-none n records log is = record { front = []; left = records; splits = refl; log = is; covers = tt }

-- one record was seen at a glance
pub read-more : (n : ℕ) (records : List Rec) (log : List ℕ) (at next : ℕ) (skimmed : Skimmed) (begun more : List ℕ) → ReadTo n records begun (drop at log) → (at < next) × (next ≤ length log)
    → ((r : Rec) (after : List ℕ) → BeginsWith (drop at log) r after → Shows skimmed r × (drop next log ≡ after))
    → ((r : Rec) (ws : List Pending) → Shows skimmed r → Covers begun ws → Covers more (noted n r ws)) → ReadTo n records more (drop next log)
read-more n records log at next skimmed begun more read inside shows covers =
    let one = log-begins (drop at log) read.left read.log (omega (arith, length-drop at log, inside.0, inside.1)) in
    let r : Rec = one.0 in
    let seen = shows r (flat_map spelling one.1) one.3 in
    record {
      front = read.front ++ r ∷ [];
      left = one.1;
      splits = read.splits ∙ ap (λ (l : List Rec). read.front ++ l) one.2 ∙ sym (append_assoc read.front (r ∷ []) one.1);
      log = subst (λ (bs : List ℕ). IsLog bs one.1 None) (sym seen.1) one.4;
      covers = subst (Covers more) (sym (pending-noted n read.front r)) (covers r (pending (records_below n read.front)) seen.0 read.covers);
    }

-- where none is left that could be pending, the rest suffices
pub read-closed : (n : ℕ) (records : List Rec) (bytes : List ℕ) → ReadTo n records [] bytes → Suffices n records bytes
read-closed n records bytes read =
    let none : pending (records_below n read.front) ≡ [] = covered-none (pending (records_below n read.front)) read.covers in
    let split : records_below n records ≡ records_below n read.front ++ records_below n read.left = ap (records_below n) read.splits ∙ filter-append (λ (r : Rec). nat_lt r.lsn n) read.front read.left in
    let all : pending (records_below n records) ≡ pending (records_below n read.left) =
    ap pending split ∙ pending-append (records_below n read.front) (records_below n read.left)
    ∙ ap (λ (ws : List Pending). filter (is_open (records_below n read.left)) ws ++ pending (records_below n read.left)) none in
    record { left = read.left; log = read.log; same = ap (λ (ws : List Pending). map compensation_of (reverse ws)) (sym all) }

-- a record of another kind writes nothing
pub quiet-kind : (lsn begin : ℕ) (body : BodyRef) → ((place : PlaceRef) (old new : Bor (List ℕ)) → body ≡ ref.Write place old new → ⊥) → writes (record_of (record { lsn = lsn; begin = begin; body = body })) ≡ []
quiet-kind lsn begin (ref.Write place old new) no_write = absurd (no_write place old new refl)
quiet-kind lsn begin (ref.Database a b c) no_write = refl
quiet-kind lsn begin (ref.Table a b c d) no_write = refl
quiet-kind lsn begin ref.Begin no_write = refl
quiet-kind lsn begin (ref.Commit a b) no_write = refl
quiet-kind lsn begin ref.RollbackEnd no_write = refl
quiet-kind lsn begin (ref.Compensation a b c) no_write = refl
quiet-kind lsn begin (ref.Checkpoint a) no_write = refl
quiet-kind lsn begin (ref.Stamp a b) no_write = refl
quiet-kind lsn begin (ref.Model a b) no_write = refl
quiet-kind lsn begin (ref.Bulk a b c d e) no_write = refl
quiet-kind lsn begin (ref.Recovery a) no_write = refl

-- a record that ends its transaction
pub covers-end : (begun : List ℕ) (n : ℕ) (r : Rec) (ws : List Pending) → r.lsn < n → ((w : Pending) → closes r w ≡ (w.begin == r.begin)) → writes r ≡ [] → Covers begun ws → Covers (filter (λ b. not (b == r.begin)) begun) (noted n r ws)
covers-end begun n r ws less same none covers =
    subst (Covers (filter (λ b. not (b == r.begin)) begun)) (sym (noted_closed n r (λ w. w.begin == r.begin) ws less same none)) (covers-ended begun r.begin ws covers)

pub covers-end-kind : (begun : List ℕ) (n lsn begin : ℕ) (body : BodyRef) (ws : List Pending) → lsn < n → ((time : ℕ) × (mark : Option MarkRef) × (body ≡ ref.Commit time mark)) ⊎ (body ≡ ref.RollbackEnd) → Covers begun ws
    → Covers (filter (λ b. not (b == begin)) begun) (noted n (record_of (record { lsn = lsn; begin = begin; body = body })) ws)
covers-end-kind begun n lsn begin body ws less (inl commit) covers =
    subst (λ (b : BodyRef). Covers (filter (λ k. not (k == begin)) begun) (noted n (record_of (record { lsn = lsn; begin = begin; body = b })) ws)) (sym commit.2)
    (covers-end begun n (record_of (record { lsn = lsn; begin = begin; body = ref.Commit commit.0 commit.1 })) ws less (λ w. refl) refl covers)
covers-end-kind begun n lsn begin body ws less (inr end) covers =
    subst (λ (b : BodyRef). Covers (filter (λ k. not (k == begin)) begun) (noted n (record_of (record { lsn = lsn; begin = begin; body = b })) ws)) (sym end)
    (covers-end begun n (record_of (record { lsn = lsn; begin = begin; body = ref.RollbackEnd })) ws less (λ w. refl) refl covers)

-- a list of no length covers what nothing does
pub read-empty : (n : ℕ) (records : List Rec) (begun bytes : List ℕ) → begun ≡ [] → ReadTo n records begun bytes → ReadTo n records [] bytes
read-empty n records begun bytes none = subst (λ (b : List ℕ). ReadTo n records b bytes) none
