-- What lies behind the front of a set.
use Rattle.std.proofs.Common.{◌≡◌, ◌≤◌, ◌<◌, ◌+◌, ◌-◌, ◌*◌, ℕ, zero, suc, min, List, [], ◌∷◌, ◌++◌, length, take, drop, Option, Some, None, refl, sym, ap, subst, ◌∙◌, arith, append-nil, append_assoc, length-append}
use Rattle.std.specs.Prelude.{slice_get, IfSome}
use Rattle.std.specs.List.{flat_map, AllByRecursion}
use Rattle.std.proofs.lemmas.List.{take_at, drop_at, take-take}
use Rattle.bk_bytes.specs.Field.{bytes_of, number_of}
use Rattle.bk_bytes.specs.FieldLaws.{length-bytes_of, number_of-bytes_of}
use Rattle.bk_device.specs.Calls.{contents, read_at, filled}
use Rattle.bk_device.specs.Disk.{Files}
use Rattle.bk_device.specs.Laws.{length-read_at, filled_whole}
use Rattle.bk_world.specs.declared.header.HeaderFile.{HeaderFile}
use Rattle.bk_body.specs.Body.{Extent, Body}
use Rattle.bk_body.specs.Conditions.{KeepsExtent, IsBody}
use Rattle.bk_body.specs.declared.front.Front.{Front}
use Rattle.bk_body.specs.Spelling.{log_bytes, extent_bytes, body_bytes}
use Rattle.bk_volume.specs.Opening.{SplitsFront, GivesFront, IsFrontOf, AreBehind}
use Rattle.bk_volume.specs.Stored.{Stored, IsOf, IsExtentAt, log_place}
use Rattle.bk_volume.proofs.Copying.{read_two}
use Rattle.bk_volume.proofs.Fronts.{body_front, behind, body_parts, front_given}
use Rattle.bk_volume.proofs.Sealed.{length-extents}

-- the front of a part that was read
pub read_head : (file : List ℕ) (at len n : ℕ) (front rest : List ℕ) → n ≤ len → at + len ≤ length file → n ≡ length front → read_at file at len ≡ front ++ rest → read_at file at n ≡ front
read_head file at len n front rest less inside is whole =
    let split : len ≡ n + (len - n) = omega arith in
    let two : read_at file at n ++ read_at file (at + n) (len - n) ≡ front ++ rest = sym (read_two file at n (len - n)) ∙ ap (λ (k : ℕ). read_at file at k) (sym split) ∙ whole in
    let size : length (read_at file at n) ≡ n = length-read_at file at n (omega arith) in
    sym (take_at (read_at file at n) (read_at file (at + n) (len - n)) n size) ∙ ap (take n) two ∙ take_at front rest n (sym is)

-- and what follows it
pub read_tail : (file : List ℕ) (at len n : ℕ) (front rest : List ℕ) → n ≤ len → at + len ≤ length file → n ≡ length front → read_at file at len ≡ front ++ rest → read_at file (at + n) (len - n) ≡ rest
read_tail file at len n front rest less inside is whole =
    let split : len ≡ n + (len - n) = omega arith in
    let two : read_at file at n ++ read_at file (at + n) (len - n) ≡ front ++ rest = sym (read_two file at n (len - n)) ∙ ap (λ (k : ℕ). read_at file at k) (sym split) ∙ whole in
    let size : length (read_at file at n) ≡ n = length-read_at file at n (omega arith) in
    sym (drop_at (read_at file at n) (read_at file (at + n) (len - n)) n size) ∙ ap (drop n) two ∙ drop_at front rest n (sym is)

-- what lies behind the front
pub are_behind : (file : List ℕ) (at len : ℕ) (body : Body) (front : Front) (size : ℕ) → size ≤ len → at + len ≤ length file → IsBody body → read_at file at len ≡ body_bytes body → IsFrontOf body front size → AreBehind body (65542 * front.extents) (read_at file (at + size) (len - size))
are_behind file at len body front size less inside is spelled of = record {
  size = omega (arith, length-extents body.header.files body.extents is.extents, of.extents);
  short = is.log_short;
  all = read_tail file at len size (body_front body) (behind body) less inside of.size_is (spelled ∙ body_parts body);
}

-- how long it is
pub behind_length : (file : List ℕ) (at len extents : ℕ) (body : Body) → at + len ≤ length file → AreBehind body extents (read_at file at len) → len ≡ extents + 8 + length body.log
behind_length file at len extents body inside are =
    let all : length (read_at file at len) ≡ length (flat_map extent_bytes body.extents) + (8 + length body.log) =
    ap (λ (b : List ℕ). length b) are.all ∙ length-append (flat_map extent_bytes body.extents) (log_bytes body.log)
    ∙ ap (λ (n : ℕ). length (flat_map extent_bytes body.extents) + n) (length-append (bytes_of 8 (length body.log)) body.log ∙ ap (λ (n : ℕ). n + length body.log) (length-bytes_of 8 (length body.log))) in
    omega (arith, length-read_at file at len inside, all, are.size)

-- the length of the log
pub log_number : (file : List ℕ) (at len extents : ℕ) (body : Body) → at + len ≤ length file → AreBehind body extents (read_at file at len) → number_of 8 (read_at file (at + extents) 8) ≡ length body.log
log_number file at len extents body inside are =
    let long = behind_length file at len extents body inside are in
    let tail : read_at file (at + extents) (len - extents) ≡ log_bytes body.log = read_tail file at len extents (flat_map extent_bytes body.extents) (log_bytes body.log) (omega (arith, long)) inside are.size are.all in
    let head : read_at file (at + extents) 8 ≡ bytes_of 8 (length body.log) =
    read_head file (at + extents) (len - extents) 8 (bytes_of 8 (length body.log)) body.log (omega (arith, long)) (omega (arith, long, inside)) (sym (length-bytes_of 8 (length body.log))) tail in
    ap (number_of 8) (head ∙ sym (append-nil (bytes_of 8 (length body.log)))) ∙ number_of-bytes_of 8 (length body.log) [] (omega (arith, are.short))

-- the set that was opened
pub set_of_parts : (file : List ℕ) (at len : ℕ) (body : Body) (front : Front) (size : ℕ) (log : ℕ) → size ≤ len → at + len ≤ length file → IsBody body → read_at file at len ≡ body_bytes body → IsFrontOf body front size → log ≡ length body.log
    → IsOf file body (record { header = front.header; tables = front.tables; extents = front.extents; log = log; at = at + size })
set_of_parts file at len body front size log less inside is spelled of log_is =
    let n : ℕ = 65542 * front.extents in
    let are = are_behind file at len body front size less inside is spelled of in
    let within : at + size + (len - size) ≤ length file = omega arith in
    let long = behind_length file (at + size) (len - size) n body within are in
    let tail : read_at file (at + size + n) (len - size - n) ≡ log_bytes body.log = read_tail file (at + size) (len - size) n (flat_map extent_bytes body.extents) (log_bytes body.log) (omega (arith, long)) within are.size are.all in
    let behind8 : read_at file (at + size + n + 8) (len - size - n - 8) ≡ body.log =
    read_tail file (at + size + n) (len - size - n) 8 (bytes_of 8 (length body.log)) body.log (omega (arith, long)) (omega (arith, long, inside)) (sym (length-bytes_of 8 (length body.log))) tail in
    let rest : len - size - n - 8 ≡ log = omega (arith, long, log_is) in
    record {
      is_body = is;
      header = of.header;
      tables = of.tables;
      extents = of.extents;
      log = log_is;
      inside = omega (arith, long, log_is, inside);
      extents_there = read_head file (at + size) (len - size) n (flat_map extent_bytes body.extents) (log_bytes body.log) (omega (arith, long)) within are.size are.all;
      log_there = ap (λ (k : ℕ). read_at file (at + size + n + 8) k) (sym rest) ∙ behind8;
    }

-- ---- one extent

-- the extent of an index, among the bytes of all
extent_in : (files : List HeaderFile) (file : List ℕ) (at i : ℕ) (extents : List Extent) → AllByRecursion (KeepsExtent files) extents → i < length extents → at + 65542 * length extents ≤ length file → read_at file at (65542 * length extents) ≡ flat_map extent_bytes extents
    → (extent : Extent) × (slice_get extents i ≡ Some extent) × IsExtentAt file (at + 65542 * i) extent
extent_in files file at i [] keep below inside whole = absurd (omega arith)
extent_in files file at zero (extent ∷ extents) keep below inside whole =
    let one : length (extent_bytes extent) ≡ 65542 = simp (length-append, length-bytes_of) (omega (arith, keep.0.size)) in
    let place : at + 65542 * 0 ≡ at = omega arith in
    let there : read_at file at 65542 ≡ extent_bytes extent = read_head file at (65542 * length (extent ∷ extents)) 65542 (extent_bytes extent) (flat_map extent_bytes extents) (omega arith) inside (sym one) whole in (
      extent,
      refl,
      record {
        is = record { file = keep.0.file; number = keep.0.number; size = keep.0.size };
        inside = omega (arith, inside);
        there = ap (λ (k : ℕ). read_at file k 65542) place ∙ there;
      },
    )
extent_in files file at (suc i) (extent ∷ extents) keep below inside whole =
    let one : length (extent_bytes extent) ≡ 65542 = simp (length-append, length-bytes_of) (omega (arith, keep.0.size)) in
    let tail = read_tail file at (65542 * length (extent ∷ extents)) 65542 (extent_bytes extent) (flat_map extent_bytes extents) (omega arith) inside (sym one) whole in
    let size : 65542 * length (extent ∷ extents) - 65542 ≡ 65542 * length extents = omega arith in
    let others = extent_in files file (at + 65542) i extents keep.1 (omega (arith, below)) (omega (arith, inside)) (ap (λ (k : ℕ). read_at file (at + 65542) k) (sym size) ∙ tail) in
    let place : at + 65542 + 65542 * i ≡ at + 65542 * suc i = omega arith in
    let At : ℕ → Type 0 = λ k. IsExtentAt file k others.0 in
    (others.0, others.1, subst At place others.2)

-- the extent of an index of a set
pub extent_of : (file : List ℕ) (body : Body) (set : Stored) (i : ℕ) → IsOf file body set → i < set.extents → (extent : Extent) × (slice_get body.extents i ≡ Some extent) × IsExtentAt file (set.at + 65542 * i) extent
extent_of file body set i is below =
    let same : read_at file set.at (65542 * length body.extents) ≡ flat_map extent_bytes body.extents = ap (λ (n : ℕ). read_at file set.at (65542 * n)) (sym is.extents) ∙ is.extents_there in
    extent_in body.header.files file set.at i body.extents is.is_body.extents (omega (arith, below, is.extents)) (omega (arith, is.inside, is.extents)) same

past_extents : (extents : List Extent) (i : ℕ) → length extents ≤ i → slice_get extents i ≡ None
past_extents [] i beyond = refl
past_extents (extent ∷ extents) zero beyond = absurd (omega arith)
past_extents (extent ∷ extents) (suc i) beyond = past_extents extents i (omega arith)

-- none of an index that isn't there
pub no_extent : (file : List ℕ) (body : Body) (set : Stored) (i : ℕ) → IsOf file body set → set.extents ≤ i → slice_get body.extents i ≡ None
no_extent file body set i is beyond = past_extents body.extents i (omega (arith, beyond, is.extents))

same_extent : (extent : Extent) (f e : ℕ) (bytes : List ℕ) → extent.file ≡ f → extent.extent ≡ e → extent.bytes ≡ bytes → extent ≡ record { file = f; extent = e; bytes = bytes }
same_extent extent f e bytes file_is number_is bytes_are =
    ap (λ (x : ℕ). let r : Extent = record { file = x; extent = extent.extent; bytes = extent.bytes } in r) file_is
    ∙ ap (λ (x : ℕ). let r : Extent = record { file = f; extent = x; bytes = extent.bytes } in r) number_is
    ∙ ap (λ (x : List ℕ). let r : Extent = record { file = f; extent = e; bytes = x } in r) bytes_are

-- the extent that was read
pub extent_read : (file head buf : List ℕ) (at f e : ℕ) (extent : Extent) → IsExtentAt file at extent → head ≡ read_at file at 6 → buf ≡ read_at file (at + 6) 65536 → f ≡ number_of 2 head → e ≡ number_of 4 (drop 2 head) → extent ≡ record { file = f; extent = e; bytes = buf }
extent_read file head buf at f e extent at_is is_head is_buf is_f is_e =
    let place : List ℕ = bytes_of 2 extent.file ++ bytes_of 4 extent.extent in
    let six : 6 ≡ length place = simp (length-append, length-bytes_of) refl in
    let whole : read_at file at 65542 ≡ place ++ extent.bytes = at_is.there ∙ sym (append_assoc (bytes_of 2 extent.file) (bytes_of 4 extent.extent) extent.bytes) in
    let head_is : head ≡ place = is_head ∙ read_head file at 65542 6 place extent.bytes (omega arith) at_is.inside six whole in
    let bytes_are : buf ≡ extent.bytes = is_buf ∙ read_tail file at 65542 6 place extent.bytes (omega arith) at_is.inside six whole in
    let file_is : f ≡ extent.file = is_f ∙ ap (number_of 2) head_is ∙ number_of-bytes_of 2 extent.file (bytes_of 4 extent.extent) (omega (arith, at_is.is.file)) in
    let rest : drop 2 head ≡ bytes_of 4 extent.extent ++ [] = ap (drop 2) head_is ∙ drop_at (bytes_of 2 extent.file) (bytes_of 4 extent.extent) 2 (length-bytes_of 2 extent.file) ∙ sym (append-nil (bytes_of 4 extent.extent)) in
    let number_is : e ≡ extent.extent = is_e ∙ ap (number_of 4) rest ∙ number_of-bytes_of 4 extent.extent [] (omega (arith, at_is.is.number)) in
    same_extent extent f e buf (sym file_is) (sym number_is) (sym bytes_are)

-- ---- what was read into a buffer

pub read_whole : (buffer read file now : List ℕ) (at n : ℕ) → length buffer ≡ n → now ≡ file → at + n ≤ length file → read ≡ filled buffer (read_at now at (length buffer)) → read ≡ read_at file at n
read_whole buffer read file now at n size same inside is =
    is ∙ ap (λ (f : List ℕ). filled buffer (read_at f at (length buffer))) same ∙ filled_whole buffer file at (length buffer) refl (omega (arith, size, inside)) ∙ ap (λ (k : ℕ). read_at file at k) size

-- the extent that was found by its index
pub extent_found : (files : Files) (name from buf : List ℕ) (body : Body) (set : Stored) (i place f e : ℕ) → from ≡ name → IsOf (contents (files name)) body set → i < set.extents → place ≡ set.at + 65542 * i
    → ((extent : Extent) → IsExtentAt (contents (files from)) place extent → extent ≡ record { file = f; extent = e; bytes = buf }) → slice_get body.extents i ≡ Some (record { file = f; extent = e; bytes = buf })
extent_found files name from buf body set i place f e named is below there read =
    let found = extent_of (contents (files name)) body set i is below in
    let Named : List ℕ → Type 0 = λ n. IsExtentAt (contents (files n)) place found.0 in
    let Placed : ℕ → Type 0 = λ k. IsExtentAt (contents (files name)) k found.0 in
    let here : IsExtentAt (contents (files name)) place found.0 = subst Placed (sym there) found.2 in
    found.1 ∙ ap (λ (x : Extent). Some x) (read found.0 (subst Named (sym named) here))

-- the log that was read
pub log_found : (files : Files) (name from buffer read : List ℕ) (body : Body) (set : Stored) (place : ℕ) → from ≡ name → IsOf (contents (files name)) body set → length buffer ≡ set.log → place ≡ log_place set
    → read ≡ filled buffer (read_at (contents (files from)) place (length buffer)) → read ≡ body.log
log_found files name from buffer read body set place named is size there got =
    let here : read ≡ filled buffer (read_at (contents (files from)) (log_place set) (length buffer)) = got ∙ ap (λ (k : ℕ). filled buffer (read_at (contents (files from)) k (length buffer))) there in
    read_whole buffer read (contents (files name)) (contents (files from)) (log_place set) set.log size (ap (λ (n : List ℕ). contents (files n)) named) is.inside here ∙ is.log_there

-- the front that was found
pub front_found : (file buffer read : List ℕ) (at len m : ℕ) (body : Body) (found : Option (Front × ℕ)) → IsBody body → read_at file at len ≡ body_bytes body → at + len ≤ length file → m ≡ min len 131072 → length buffer ≡ m
    → read ≡ filled buffer (read_at file at (length buffer)) → SplitsFront read found → IfSome found (λ r. r.1 ≤ length read) → GivesFront body found
front_found file buffer read at len m body found is spelled inside most size got splits within =
    let here : read ≡ take m (read_at file at len) =
    read_whole buffer read file file at m size refl (omega (arith, most, inside)) got ∙ sym (take-take m len (drop at file) (omega (arith, most))) in
    let Splits : List ℕ → Type 0 = λ bytes. SplitsFront bytes found in
    let Within : List ℕ → Type 0 = λ bytes. IfSome found (λ r. r.1 ≤ length bytes) in
    front_given body (read_at file at len) m found is spelled (omega (arith, most, length-read_at file at len inside)) (subst Splits here splits) (subst Within here within)
