-- What the older part of a log adds to what is to be undone.
use Rattle.std.proofs.Common.{◌≡◌, ◌≤◌, ◌<◌, ℕ, List, [], ◌∷◌, ◌++◌, map, reverse, refl, sym, ◌∙◌, ap, subst, arith}
use Rattle.std.specs.Prelude.{nat_lt}
use Rattle.std.specs.List.{filter, AllByRecursion}
use Rattle.std.proofs.lemmas.List.Elements.{filter-append}
use Rattle.bk_ids.specs.declared.record.Rec.{Rec}
use Rattle.bk_ids.specs.declared.record.Body.{Body}
use Rattle.bk_ids.specs.declared.record.Body.TheVariants.{Write}
use Rattle.bk_lemmas.specs.Lists.{all_front, all_joined, all_filter}
use Rattle.bk_undo.specs.declared.pending.Pending.{Pending}
use Rattle.bk_undo.specs.Losers.{is_open, writes, body_writes, pending, records_below, compensation, compensation_of}
use Rattle.bk_undo.proofs.Replay.{pending-append}

-- of lists whose elements have a property

-- the pending writes of early transactions

write_early : (m lsn begin : ℕ) (body : Body) → begin < m → AllByRecursion (λ (write : Pending). write.begin < m) (body_writes lsn begin body)
write_early m lsn begin (Write place before after) early = (early, tt)
write_early m lsn begin _ early = tt

pending_early : (m : ℕ) (records : List Rec) → AllByRecursion (λ (r : Rec). r.lsn < m) records → AllByRecursion (λ (r : Rec). r.begin ≤ r.lsn) records → AllByRecursion (λ (write : Pending). write.begin < m) (pending records)
pending_early m [] low ordered = tt
pending_early m (r ∷ records) low ordered =
    let early : r.begin < m = omega (arith, low.0, ordered.0) in
    all_joined (λ (write : Pending). write.begin < m) (filter (is_open records) (writes r)) (pending records)
    (all_filter (λ (write : Pending). write.begin < m) (is_open records) (writes r) (write_early m r.lsn r.begin r.body early))
    (pending_early m records low.1 ordered.1)

none_both : (m : ℕ) (ws : List Pending) → AllByRecursion (λ (write : Pending). m ≤ write.begin) ws → AllByRecursion (λ (write : Pending). write.begin < m) ws → ws ≡ []
none_both m [] late early = refl
none_both m (w ∷ ws) late early = absurd (omega (arith, late.0, early.0))

pub held_part : (n begins : ℕ) (older held : List Rec) → AllByRecursion (λ (r : Rec). r.lsn < begins) older → AllByRecursion (λ (r : Rec). r.begin ≤ r.lsn) older → AllByRecursion (λ (write : Pending). begins ≤ write.begin) (pending (records_below n (older ++ held))) → compensation n held ≡ compensation n (older ++ held)
held_part n begins older held low ordered late =
    let front : List Rec = records_below n older in
    let back : List Rec = records_below n held in
    let split : pending (records_below n (older ++ held)) ≡ filter (is_open back) (pending front) ++ pending back =
    ap pending (filter-append (λ (r : Rec). nat_lt r.lsn n) older held) ∙ pending-append front back in
    let Late : List Pending → Type 0 = AllByRecursion (λ (write : Pending). begins ≤ write.begin) in
    let early : AllByRecursion (λ (write : Pending). write.begin < begins) (pending front) =
    pending_early begins front (all_filter (λ (r : Rec). r.lsn < begins) (λ (r : Rec). nat_lt r.lsn n) older low) (all_filter (λ (r : Rec). r.begin ≤ r.lsn) (λ (r : Rec). nat_lt r.lsn n) older ordered) in
    let none : filter (is_open back) (pending front) ≡ [] =
    none_both begins (filter (is_open back) (pending front))
    (all_front (λ (write : Pending). begins ≤ write.begin) (filter (is_open back) (pending front)) (pending back) (subst Late split late))
    (all_filter (λ (write : Pending). write.begin < begins) (is_open back) (pending front) early) in
    let whole : pending (records_below n (older ++ held)) ≡ pending back = split ∙ ap (λ (ws : List Pending). ws ++ pending back) none in
    sym (ap (λ (ws : List Pending). map compensation_of (reverse ws)) whole)
