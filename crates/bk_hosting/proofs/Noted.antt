-- What is read of a store's note, and of the record of a checkpoint.
use Rattle.std.proofs.Common.{◌≡◌, ◌≤◌, ◌<◌, ◌⊎◌, ℕ, zero, suc, ◌+◌, ◌-◌, Bool, true, false, List, [], ◌∷◌, ◌++◌, map, take, drop, length, Some, None, refl, inl, inr, sym, ap, subst, ◌∙◌, append_assoc, arith}
use Rattle.std.specs.Prelude.{◌==◌, ◌&&◌, ◌||◌, slice_get}
use Rattle.std.proofs.lemmas.Bool.Decides.{nat_tests}
use Rattle.std.proofs.lemmas.List.{length-append}
use Rattle.bk_bytes.specs.Field.{bytes_of}
use Rattle.bk_bytes.specs.FieldLaws.{length-bytes_of}
use Rattle.bk_device.specs.Disk.{Disk}
use Rattle.bk_hosted.specs.Hosted.{first_points, has_checkpoint, is_checkpoint}
use Rattle.bk_hosted.specs.PointLaws.{has-above, has-below}
use Rattle.bk_ids.specs.declared.record.Rec.{Rec}
use Rattle.bk_paged.specs.Paged.{from_to}
use Rattle.bk_points.specs.declared.points.Points.{Points}
use Rattle.bk_points.specs.Points.{base_bytes, flags_number, log_points_bytes, log_points_of, points_bytes, points_form, status_bytes, units_bytes}
use Rattle.bk_points.specs.PointsLaws.{points_read_alone}
use Rattle.bk_record.specs.Log.{IsLog}
use Rattle.bk_record.specs.Spelling.{BeginsWith, spelling}
use Rattle.bk_store.specs.FrontLaws.{shown-log}
use Rattle.bk_store.specs.Store.{IsStore, Kept as KeptStore}
use Rattle.bk_store.specs.Told.{Told, files_of}
use Rattle.bk_stores.specs.ListLaws.{got}
use Rattle.bk_undo.specs.Spelled.{body_of, spelled}
use Rattle.bk_world.specs.declared.database.FileSpec.{FileSpec}
use Rattle.bk_world.specs.Cut.{end_behind}
use Rattle.bk_world.specs.Records.{Counts, Deed, Logged, database_made, table_made, begun, written, committed, rolled_back, undone, checkpointed, stamped, model_set, loaded, recovered}
use Rattle.bk_hosting.specs.Hosting.{IsNoteOf}
use Rattle.bk_hosting.specs.Loading.{says_checkpoint}
use Rattle.bk_hosting.proofs.Checked.{store-end}

-- ---- notes

-- points have some bytes
points-some : (points : Points) → points_bytes points ≡ [] → ⊥
points-some points none =
    let first : List ℕ = bytes_of 8 points.next_checkpoint in
    let log : List ℕ = log_points_bytes (log_points_of points) in
    let whole = length-append log (base_bytes points.base ++ (status_bytes points.status ++ units_bytes points.units)) in
    let eight = length-bytes_of 8 points.next_checkpoint in
    let others : List ℕ =
    bytes_of 8 points.next_kept ++ (bytes_of 8 points.archive ++ (bytes_of 8 points.kept ++ (bytes_of 8 points.checkpoint ++ bytes_of 1 (flags_number points.chain points.began)))) in
    let front : length log ≡ length first + length others = length-append first others in
    let nothing : length (points_bytes points) ≡ 0 = ap (λ (bytes : List ℕ). length bytes) none in
    omega (arith, whole, eight, front, nothing)

-- an empty note is that of a database that was just made
pub note-empty : (note : List ℕ) (files : List FileSpec) (points : Points) → IsNoteOf note files points → note ≡ [] → first_points files ≡ points
note-empty note files points (inl is) none = absurd (points-some points (sym is.0 ∙ none))
note-empty note files points (inr is) none = sym is.1

pub no-bytes : (bytes : List ℕ) → length bytes ≡ 0 → bytes ≡ []
no-bytes [] none = refl
no-bytes (b ∷ bytes) none = absurd (omega (arith, none))

-- any other one spells its points
pub note-read : (note : List ℕ) (files : List FileSpec) (points : Points) → IsNoteOf note files points → (note ≡ [] → ⊥) → points_form.reading note ≡ Some (points, [])
note-read note files points (inl is) some = ap (λ (bytes : List ℕ). points_form.reading bytes) is.0 ∙ points_read_alone points is.1
note-read note files points (inr is) some = absurd (some is.0)

-- ---- records

-- the record at a place is the checkpoint's of its number, if it is one
has-at : (from end i : ℕ) (rs : List Logged) (r : Logged) → Counts from rs end → slice_get rs i ≡ Some r → has_checkpoint (from + i) rs ≡ is_checkpoint r.deed
has-at from end i [] r counts there = absurd (cc there)
has-at from end zero (q ∷ rs) r counts there =
    let same : q ≡ r = cc (there) in
    let own : (q.lsn == (from + 0)) ≡ true = let is : q.lsn ≡ from = counts.0 in grind (arith, nat_tests, is) in
    let none : has_checkpoint (from + 0) rs ≡ false = has-below (from + 0) (from + 1) end rs counts.1 (omega arith) in
    ap (λ t. (t && is_checkpoint q.deed) || has_checkpoint (from + 0) rs) own ∙ ap (λ t. is_checkpoint q.deed || t) none ∙ or-false (is_checkpoint q.deed) ∙ ap (λ (s : Logged). is_checkpoint s.deed) same
  where
    or-false : (t : Bool) → (t || false) ≡ t
    or-false true = refl
    or-false false = refl
has-at from end (suc i) (q ∷ rs) r counts there =
    let other : (q.lsn == (from + suc i)) ≡ false = let is : q.lsn ≡ from = counts.0 in grind (arith, nat_tests, is) in
    ap (λ t. (t && is_checkpoint q.deed) || has_checkpoint (from + suc i) rs) other ∙ ap (λ (n : ℕ). has_checkpoint n rs) (let sum : from + suc i ≡ (from + 1) + i = omega arith in sum) ∙ has-at (from + 1) end i rs r counts.1 there

-- a record is a checkpoint's as it is spelled
spelled-says : (deed : Deed) → says_checkpoint (body_of deed) ≡ is_checkpoint deed
spelled-says (database_made time family branch) = refl
spelled-says (table_made time spec) = refl
spelled-says begun = refl
spelled-says (written at before c) = refl
spelled-says (committed time mark) = refl
spelled-says rolled_back = refl
spelled-says (undone at c number) = refl
spelled-says (checkpointed time) = refl
spelled-says (stamped time set) = refl
spelled-says (model_set time new) = refl
spelled-says (loaded load) = refl
spelled-says (recovered branch) = refl

drop-there : (xs : List Logged) (i : ℕ) (x : Logged) → slice_get xs i ≡ Some x → take 1 (drop i (map spelled xs)) ≡ spelled x ∷ []
drop-there [] i x there = absurd (cc there)
drop-there (y ∷ xs) zero x there = ap (λ (z : Logged). spelled z ∷ []) (let same : y ≡ x = cc (there) in same)
drop-there (y ∷ xs) (suc i) x there = drop-there xs i x there

module _ (s : KeptStore) (told : Told) (d : Disk) (n : ℕ) (is : IsStore d s told) where
  counts : Counts 1 told.records (end_behind told.records)
  counts = (shown-log (files_of told) told.records s.shown is.shows).counts

  -- numbers below the first and above the last are of none
  pub has-none : (n ≡ 0) ⊎ (s.paged.log.end ≤ n) → has_checkpoint n told.records ≡ false
  has-none (inl none) = ap (λ (m : ℕ). has_checkpoint m told.records) none ∙ has-below 0 1 (end_behind told.records) told.records counts (omega arith)
  has-none (inr past) = has-above n 1 (end_behind told.records) told.records counts (let ends = store-end s told d is in omega (arith, past, ends))

  -- the others are of the record whose bytes are read
  pub has-read : (bytes : List ℕ) (b : Bool) → 1 ≤ n → n < s.paged.log.end → IsLog bytes (from_to n (n + 1) (map spelled told.records)) None → ((r : Rec) (after : List ℕ) → BeginsWith bytes r after → b ≡ says_checkpoint r.body) → b ≡ has_checkpoint n told.records
  has-read bytes b low inside log reads =
      let place : (r : Logged) × (slice_get told.records (n - 1) ≡ Some r) = got told.records (n - 1) (let ends = store-end s told d is in omega (arith, low, inside, ends)) in
      let one : from_to n (n + 1) (map spelled told.records) ≡ spelled place.0 ∷ [] =
      ap (λ (m : ℕ). take m (drop (n - 1) (map spelled told.records))) (let same : (n + 1) - n ≡ 1 = omega arith in same) ∙ drop-there told.records (n - 1) place.0 place.1 in
      let alone : IsLog bytes (spelled place.0 ∷ []) None = subst (λ (rs : List Rec). IsLog bytes rs None) one log in
      let begins : BeginsWith bytes (spelled place.0) ([] ++ alone.rest) = record { spelled = alone.spelled ∙ append_assoc (spelling (spelled place.0)) [] alone.rest; is_record = alone.are_records.0 } in
      reads (spelled place.0) ([] ++ alone.rest) begins ∙ spelled-says place.0.deed
      ∙ sym (ap (λ (m : ℕ). has_checkpoint m told.records) (let sum : n ≡ 1 + (n - 1) = omega (arith, low) in sum) ∙ has-at 1 (end_behind told.records) (n - 1) told.records place.0 counts place.1)
