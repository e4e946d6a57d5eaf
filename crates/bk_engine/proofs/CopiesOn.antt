-- More of a database is copied into a set behind what it has.
use Rattle.std.proofs.Common.{◌≡◌, ◌≤◌, ◌-◌, ◌∙◌, ℕ, zero, suc, List, [], ◌∷◌, ◌++◌, length, length-append, map, refl, sym, ap, subst, append_assoc, arith}
use Rattle.std.specs.Prelude.{drop, slice_range, take}
use Rattle.std.specs.List.{AllByRecursion}
use Rattle.std.proofs.lemmas.List.{append-nil, length-map, map-append}
use Rattle.bk_body.specs.Body.{Extent}
use Rattle.bk_carried.specs.Carried.{id_of}
use Rattle.bk_carried.specs.Copied.{WasRead}
use Rattle.bk_copying.specs.Copying.{AreCopies, IsCopy}
use Rattle.bk_copying.specs.Extents.{extents_of}
use Rattle.bk_device.specs.Calls.{contents}
use Rattle.bk_device.specs.Disk.{Disk}
use Rattle.bk_hosting.specs.Copying.{HoldsCopies}
use Rattle.bk_ids.specs.declared.guid.Guid.{Guid}
use Rattle.bk_ids.specs.declared.record.ExtentId.{ExtentId}
use Rattle.bk_lemmas.specs.Lists.{all_joined}
use Rattle.bk_machine.specs.declared.job.Job.{Job}
use Rattle.bk_machine.specs.statements.Job.{stepped}
use Rattle.bk_machine.specs.World.{Database, World, log_of}
use Rattle.bk_store.specs.Copying.{IsExtentOf}
use Rattle.bk_store.specs.Told.{Told, data_file}
use Rattle.bk_volume.specs.Names.{staging_file}
use Rattle.bk_volume.specs.Staging.{HoldsParts, Staging}
use Rattle.bk_world.specs.Records.{Logged}
use Rattle.bk_engine.specs.Copied.{staging_of}
use Rattle.bk_engine.specs.Copying.{HoldsFront, IsCopiedOf, IsToldOf}

id-is : (told : Told) (x : ExtentId) (c : Extent) → IsCopy told x c → id_of c ≡ x
id-is told x c copy = λ i. record { file = copy.file i; extent = copy.number i }

ids-are : (told : Told) (ids : List ExtentId) (copies : List Extent) → AreCopies told ids copies → map id_of copies ≡ ids
ids-are told [] [] are = refl
ids-are told [] (c ∷ copies) are = absurd are
ids-are told (x ∷ ids) [] are = absurd are
ids-are told (x ∷ ids) (c ∷ copies) are = ap (λ (y : ExtentId). y ∷ map id_of copies) (id-is told x c are.0) ∙ ap (λ (ys : List ExtentId). x ∷ ys) (ids-are told ids copies are.1)

own-extent : (told : Told) (x : ExtentId) (c : Extent) → IsCopy told x c → IsExtentOf told c.file c.extent c.bytes
own-extent told x c copy = subst (λ (n : ℕ). IsExtentOf told n c.extent c.bytes) (sym copy.file) (subst (λ (n : ℕ). IsExtentOf told x.file n c.bytes) (sym copy.number) copy.is_extent)

read-one : (told : Told) (since : ℕ) (c : Extent) → since ≤ length told.records → IsExtentOf told c.file c.extent c.bytes → WasRead told.records since c
read-one told since c late is = record { front = told.records; back = []; splits = sym (append-nil told.records); late = late; pages = is }

read-all : (told : Told) (since : ℕ) (ids : List ExtentId) (copies : List Extent) → since ≤ length told.records → AreCopies told ids copies → AllByRecursion (WasRead told.records since) copies
read-all told since [] [] late are = tt
read-all told since [] (c ∷ copies) late are = absurd are
read-all told since (x ∷ ids) [] late are = absurd are
read-all told since (x ∷ ids) (c ∷ copies) late are = (read-one told since c late (own-extent told x c are.0), read-all told since ids copies late are.1)

-- some of what is left is copied
pub front-on : (w : World) (db : Database) (since : ℕ) (ids rest : List ExtentId) (b : Disk) (set : Staging) (extents : List Extent) (told : Told) (more : List Extent) → map id_of extents ++ (ids ++ rest) ≡ extents_of (map data_file db.files)
    → AllByRecursion (WasRead (log_of w.history db) since) extents → IsToldOf w db told → since ≤ length (log_of w.history db) → AreCopies told ids more → HoldsParts b set (extents ++ more) [] → HoldsFront w db since rest b set
front-on w db since ids rest b set extents told more order read of_it late copies parts = record {
  extents = extents ++ more;
  order = ap (λ (xs : List ExtentId). xs ++ rest) (map-append id_of extents more ∙ ap (λ (xs : List ExtentId). map id_of extents ++ xs) (ids-are told ids more copies)) ∙ append_assoc (map id_of extents) ids rest ∙ order;
  read = all_joined (WasRead (log_of w.history db) since) extents more read
      (subst (λ (rs : List Logged). AllByRecursion (WasRead rs since) more) of_it.records (read-all told since ids more (subst (λ (rs : List Logged). since ≤ length rs) (sym of_it.records) late) copies));
  parts = parts;
}

-- ---- the next of what is left

drop-front : {X : Type 0} (front back : List X) → drop (length front) (front ++ back) ≡ back
drop-front [] back = refl
drop-front (x ∷ front) back = drop-front front back

take-drop : {X : Type 0} (n : ℕ) (xs : List X) → take n xs ++ drop n xs ≡ xs
take-drop zero xs = refl
take-drop (suc n) [] = refl
take-drop (suc n) (x ∷ xs) = ap (λ ys. x ∷ ys) (take-drop n xs)

-- how many are in front of those that are left
pub front-count : (extents : List Extent) (left all : List ExtentId) → map id_of extents ++ left ≡ all → length all - length left ≡ length extents
front-count extents left all is =
    let whole : length (map id_of extents ++ left) ≡ length all = ap (λ (xs : List ExtentId). length xs) is in
    let sum = length-append (map id_of extents) left in
    let same : length (map id_of extents) ≡ length extents = length-map extents id_of in
    omega (arith, whole, sum, same)

next-are : (front left all : List ExtentId) (rest : ℕ) → front ++ left ≡ all → rest ≤ length left → slice_range all (length all - length left) (length all - rest) ≡ take (length left - rest) left
next-are front left all rest is few =
    let whole : length (front ++ left) ≡ length all = ap (λ (xs : List ExtentId). length xs) is in
    let sum = length-append front left in
    let from : length all - length left ≡ length front = omega (arith, whole, sum) in
    let count : (length all - rest) - (length all - length left) ≡ length left - rest = omega (arith, whole, sum, few) in
    ap (λ n. take n (drop (length all - length left) all)) count
    ∙ ap (take (length left - rest)) (ap (λ n. drop n all) from ∙ ap (drop (length front)) (sym is) ∙ drop-front front left)

pub next-of : (w : World) (name : List ℕ) (job : Job) (a b : Disk) (of : IsCopiedOf w name a job) (all : List ExtentId) (rest n : ℕ) (told : Told) (more : List Extent) → all ≡ extents_of (map data_file of.db.files) → rest ≤ length job.left → IsToldOf w of.db told
    → job.checkpoint ≤ length (log_of w.history of.db) → AreCopies told (slice_range all (length all - length job.left) (length all - rest)) more → HoldsParts b (staging_of job.set n) (of.holds.extents ++ more) [] → IsCopiedOf w name b (stepped (length job.left - rest) job)
next-of w name job a b of all rest n told more listed few of_it late copies parts =
    let left = job.left in
    let order : map id_of of.holds.extents ++ left ≡ all = of.holds.order ∙ sym listed in
    let ids : slice_range all (length all - length left) (length all - rest) ≡ take (length left - rest) left = next-are (map id_of of.holds.extents) left all rest order few in
    let splits : map id_of of.holds.extents ++ (take (length left - rest) left ++ drop (length left - rest) left) ≡ extents_of (map data_file of.db.files) =
    ap (λ (xs : List ExtentId). map id_of of.holds.extents ++ xs) (take-drop (length left - rest) left) ∙ of.holds.order in
    record {
      guid = of.guid;
      db = of.db;
      found = of.found;
      count = n;
      holds = front-on w of.db job.checkpoint (take (length left - rest) left) (drop (length left - rest) left) b (staging_of job.set n) of.holds.extents told more splits of.holds.read of_it late (subst (λ (xs : List ExtentId). AreCopies told xs more) ids copies) parts;
    }

-- what is left behind them
pub rest-of : (front left all : List ExtentId) → front ++ left ≡ all → drop (length all - length left) all ≡ left
rest-of front left all is =
    let whole : length (front ++ left) ≡ length all = ap (λ (xs : List ExtentId). length xs) is in
    let sum = length-append front left in
    let from : length all - length left ≡ length front = omega (arith, whole, sum) in
    ap (λ n. drop n all) from ∙ ap (drop (length front)) (sym is) ∙ drop-front front left

-- ---- in the file of the set

-- so many extents are there as are in front of what is left
pub front-parts : (a b : Disk) (set : Guid) (count from : ℕ) (left all : List ExtentId) (extents : List Extent) → map id_of extents ++ left ≡ all → from ≡ length all - length left → b.files (staging_file set) ≡ a.files (staging_file set)
    → HoldsParts a (staging_of set count) extents [] → HoldsParts b (staging_of set from) extents []
front-parts a b set count from left all extents order is same parts = record {
  count = sym (is ∙ front-count extents left all order);
  size = parts.size;
  bytes = ap contents same ∙ parts.bytes;
}

-- a set to which so many extents were added
pub staged-is : (s : Staging) (set : Guid) (m n : ℕ) → s ≡ staging_of set m → s.extents ≡ n → s ≡ staging_of set n
staged-is s set m n is same = is ∙ ap (staging_of set) (sym (ap (λ (t : Staging). t.extents) is) ∙ same)

-- and behind them those that were copied
pub copied-next : (w : World) (name : List ℕ) (job : Job) (a b : Disk) (of : IsCopiedOf w name a job) (all ids : List ExtentId) (left rest from n : ℕ) (s into : Staging) → all ≡ extents_of (map data_file of.db.files) → rest ≤ left → length job.left ≡ left → job.checkpoint ≤ length (log_of w.history of.db)
    → s ≡ staging_of job.set from → into ≡ record s { extents = n } → ids ≡ slice_range all (length all - left) (length all - rest) → (told : Told) × IsToldOf w of.db told × HoldsCopies b into of.holds.extents told ids → IsCopiedOf w name b (stepped (left - rest) job)
copied-next w name job a b of all ids left rest from n s into listed few count late begun grown are its =
    let low : rest ≤ length job.left = omega (arith, few, count) in
    let same : into ≡ staging_of job.set n = grown ∙ ap (λ (t : Staging). record t { extents = n }) begun in
    let copies : AreCopies its.0 (slice_range all (length all - length job.left) (length all - rest)) its.2.0 =
    subst (λ (m : ℕ). AreCopies its.0 (slice_range all (length all - m) (length all - rest)) its.2.0) (sym count) (subst (λ (xs : List ExtentId). AreCopies its.0 xs its.2.0) are its.2.1) in
    subst (λ (m : ℕ). IsCopiedOf w name b (stepped (m - rest) job)) count
    (next-of w name job a b of all rest n its.0 its.2.0 listed low its.1 late copies (subst (λ (t : Staging). HoldsParts b t (of.holds.extents ++ its.2.0) []) same its.2.2))

-- nothing more is copied
pub front-kept : (w : World) (db : Database) (job : Job) (set : Guid) (a b : Disk) (count left from : ℕ) (all rest : List ExtentId) (into : Staging) → all ≡ extents_of (map data_file db.files) → set ≡ job.set → left ≡ length job.left → from ≡ length all - left → rest ≡ drop from all → into ≡ staging_of set from
    → ((name : List ℕ) → b.files name ≡ a.files name) → HoldsFront w db job.checkpoint job.left a (staging_of job.set count) → HoldsFront w db job.checkpoint rest b into
front-kept w db job set a b count left from all rest into listed own many is rests same files front =
    let order : map id_of front.extents ++ job.left ≡ all = front.order ∙ sym listed in
    let place : from ≡ length all - length job.left = is ∙ ap (λ (n : ℕ). length all - n) many in
    let kept : rest ≡ job.left = rests ∙ ap (λ (n : ℕ). drop n all) place ∙ rest-of (map id_of front.extents) job.left all order in
    let parts : HoldsParts b (staging_of job.set from) front.extents [] = front-parts a b job.set count from job.left all front.extents order place (files (staging_file job.set)) front.parts in
    record {
      extents = front.extents;
      order = ap (λ (xs : List ExtentId). map id_of front.extents ++ xs) kept ∙ front.order;
      read = front.read;
      parts = subst (λ (s : Staging). HoldsParts b s front.extents []) (sym (same ∙ ap (λ (g : Guid). staging_of g from) own)) parts;
    }
