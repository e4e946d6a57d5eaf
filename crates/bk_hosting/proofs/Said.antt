-- Records that a store says, one after the other.
use Rattle.std.proofs.Common.{◌≡◌, ◌≤◌, ℕ, zero, suc, ◌+◌, List, [], ◌∷◌, ◌++◌, length, map, take, Some, refl, sym, ap, subst, ◌∙◌, append_assoc, arith}
use Rattle.std.specs.Prelude.{slice_get}
use Rattle.std.proofs.lemmas.List.{append-nil, length-append}
use Rattle.std.proofs.Math.Seq.{take-length}
use Rattle.bk_device.specs.Compose.{effect_then, effect_weaken}
use Rattle.bk_device.specs.Disk.{Disk, Files}
use Rattle.bk_ids.specs.declared.record.Rec.{Rec}
use Rattle.bk_shown.specs.Shown.{AreNext, IsNext}
use Rattle.bk_store.specs.CutLaws.{crash-later}
use Rattle.bk_paged.specs.Leaving.{paged_none}
use Rattle.bk_store.specs.LiftLaws.{crash-lift, more-leaves, sealed-few}
use Rattle.bk_store.specs.Store.{Crashes, IsStore, Kept, sealed_in}
use Rattle.bk_store.specs.Told.{LeavesRecords, Told, files_of, said, stood_of}
use Rattle.bk_undo.specs.Spelled.{spelled}
use Rattle.bk_world.specs.declared.database.FileSpec.{FileSpec}
use Rattle.bk_world.specs.Records.{Logged}
use Rattle.bk_hosting.specs.Saying.{MaySayAll, telling}

-- ---- the next one

-- the record at a place of those that are said
pub record NextAt (told : Told) (next : List Logged) (i : ℕ) (x : Rec) : Type 0 where
  pub r : Logged
  pub is : spelled r ≡ x
  pub may : IsNext (files_of told) (telling told (take i next)).records r
  pub more : telling told (take (i + 1) next) ≡ said (telling told (take i next)) r

next-in : (files : List FileSpec) (rs next : List Logged) (i : ℕ) (x : Rec) → AreNext files rs next → slice_get (map spelled next) i ≡ Some x
    → (r : Logged) × (spelled r ≡ x) × IsNext files (rs ++ take i next) r × (take (suc i) next ≡ take i next ++ r ∷ [])
next-in files rs [] i x are there = absurd (cc (there))
next-in files rs (s ∷ next) zero x are there = (s, (let same : spelled s ≡ x = cc (there) in same), subst (λ (xs : List Logged). IsNext files xs s) (sym (append-nil rs)) are.0, refl)
next-in files rs (s ∷ next) (suc i) x are there =
    let rest = next-in files (rs ++ s ∷ []) next i x are.1 there in
    (rest.0, rest.1, subst (λ (xs : List Logged). IsNext files xs rest.0) (append_assoc rs (s ∷ []) (take i next)) rest.2, ap (λ (xs : List Logged). s ∷ xs) rest.3)

pub next-at : (told : Told) (next : List Logged) (records : List Rec) (i : ℕ) (x : Rec) → MaySayAll told next records → slice_get records i ≡ Some x → NextAt told next i x
next-at told next records i x may there =
    let its = next-in (files_of told) told.records next i x may.next_are (ap (λ (xs : List Rec). slice_get xs i) may.spelled_are ∙ there) in
    record {
      r = its.0;
      is = its.1;
      may = its.2;
      more = ap (λ (n : ℕ). telling told (take n next)) (let one : i + 1 ≡ suc i = omega arith in one) ∙ ap (λ (xs : List Logged). record told { records = told.records ++ xs }) its.3 ∙ ap (λ (xs : List Logged). record told { records = xs }) (sym (append_assoc told.records (take i next) (its.0 ∷ [])));
    }

-- none yet, and all
pub none-said : (told : Told) (next : List Logged) → telling told (take 0 next) ≡ told
none-said told next = ap (λ (xs : List Logged). record told { records = xs }) (append-nil told.records)

pub all-said : (told : Told) (next : List Logged) (records : List Rec) (n : ℕ) → MaySayAll told next records → n ≡ length records → telling told (take n next) ≡ telling told next
all-said told next records n may is =
    ap (λ (k : ℕ). telling told (take k next)) (is ∙ sym (ap (λ (xs : List Rec). length xs) may.spelled_are) ∙ length-map next) ∙ ap (telling told) (take-length next)
  where
    length-map : (xs : List Logged) → length (map spelled xs) ≡ length xs
    length-map [] = refl
    length-map (x ∷ xs) = ap suc (length-map xs)

-- ---- crashes

-- a front of a log is one of the log with more records
rest-leaves : (db least : ℕ) (told : Told) (rest : List Logged) (image : Files) → least ≤ length told.records → LeavesRecords db least told image → LeavesRecords db least (telling told rest) image
rest-leaves db least told [] image enough here = subst (λ (t : Told). LeavesRecords db least t image) (ap (λ (xs : List Logged). record told { records = xs }) (sym (append-nil told.records))) here
rest-leaves db least told (r ∷ rest) image enough here =
    subst (λ (xs : List Logged). LeavesRecords db least (record told { records = xs }) image) (append_assoc told.records (r ∷ []) rest)
    (rest-leaves db least (said told r) rest image (let more : length (told.records ++ r ∷ []) ≡ length told.records + 1 = length-append told.records (r ∷ []) in omega (arith, enough, more)) (more-leaves db least told r image enough here))

split-take : (i : ℕ) (xs : List Logged) → (rest : List Logged) × (take i xs ++ rest ≡ xs)
split-take zero xs = (xs, refl)
split-take (suc i) [] = ([], refl)
split-take (suc i) (x ∷ xs) = let rest = split-take i xs in (rest.0, ap (λ (ys : List Logged). x ∷ ys) rest.1)

-- one record more is said behind some of them
pub crash-next : (s mid : Kept) (told : Told) (next : List Logged) (i : ℕ) (a b c : Disk) → mid.paged.log.db ≡ s.paged.log.db → s.paged.log.stored ≤ mid.paged.log.stored → IsStore a s told → IsStore b mid (telling told (take i next))
    → Crashes s (telling told next) a b → Crashes mid (telling told (take i next)) b c → Crashes s (telling told next) a c
crash-next s mid told next i a b c same later first is before after =
    let rest = split-take i next in
    let few : sealed_in s ≤ length (telling told (take i next)).records =
    let one = sealed-few s told a first in let more = length-append told.records (take i next) in omega (arith, one, more) in
    let whole : telling (telling told (take i next)) rest.0 ≡ telling told next = ap (λ (xs : List Logged). record told { records = xs }) (append_assoc told.records (take i next) rest.0 ∙ ap (λ (xs : List Logged). told.records ++ xs) rest.1) in
    effect_then before
    (effect_weaken (λ image here. subst (λ (t : Told). LeavesRecords s.paged.log.db (sealed_in s) t image) whole (rest-leaves s.paged.log.db (sealed_in s) (telling told (take i next)) rest.0 image few here))
    (crash-later s mid (telling told (take i next)) b c same later after))

-- between two calls
pub rest-store : (s : Kept) (told : Told) (a : Disk) → IsStore a s told → Crashes s told a a
rest-store s told a is = crash-lift s told a a is (paged_none s.paged (stood_of s.known told) a is.paged)

-- nothing was said yet
pub crash-none : (s : Kept) (told : Told) (next : List Logged) (a b : Disk) → IsStore a s told → Crashes s told a b → Crashes s (telling told next) a b
crash-none s told next a b is effect = effect_weaken (λ image here. rest-leaves s.paged.log.db (sealed_in s) told next image (sealed-few s told a is) here) effect

-- a call behind others, which leaves what they left
pub crash-on : (s mid : Kept) (told : Told) (a b c : Disk) → mid.paged.log.db ≡ s.paged.log.db → s.paged.log.stored ≤ mid.paged.log.stored → Crashes s told a b → Crashes mid told b c → Crashes s told a c
crash-on s mid told a b c same later before after = effect_then before (crash-later s mid told b c same later after)
