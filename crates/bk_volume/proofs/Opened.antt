-- What was opened of the bytes of a set.
use Rattle.std.specs.Bool.{MatchBool}
use Rattle.std.proofs.Common.{Bool, true, false, ◌≡◌, ◌≢◌, ◌≤◌, ◌<◌, ◌+◌, ◌-◌, ℕ, zero, suc, List, [], ◌∷◌, length, Option, Some, None, inl, inr, sym, ap, subst, ◌∙◌, arith}
use Rattle.std.specs.Prelude.{Result, Ok, Err, IfOk, slice_get}
use Rattle.std.proofs.lemmas.Option.{same_Some}
use Rattle.sha2.specs.Sha256.{sha256}
use Rattle.bk_device.specs.Calls.{contents, read_at}
use Rattle.bk_device.specs.Laws.{length-read_at}
use Rattle.bk_device.specs.Disk.{Files, Disk}
use Rattle.bk_gate.specs.Blobs.{sealed, spans_of, IsGateFile}
use Rattle.bk_gate.specs.Gate.{Kept}
use Rattle.bk_gate.specs.Laws.{blob_there, span_inside}
use Rattle.bk_body.specs.Body.{Body}
use Rattle.bk_body.specs.Conditions.{IsBody}
use Rattle.bk_body.specs.declared.front.Front.{Front}
use Rattle.bk_body.specs.Slots.{holds, damaged, no_set, front_of, digest_in, ReadsAs}
use Rattle.bk_body.specs.SlotLaws.{set_front}
use Rattle.bk_body.specs.Spelling.{body_bytes}
use Rattle.bk_volume.specs.declared.error.ReadError.{ReadError}
use Rattle.bk_volume.specs.declared.error.ReadError.TheVariants.{Fault, NoMemory}
use Rattle.bk_volume.specs.declared.error.SetError.{SetError}
use Rattle.bk_volume.specs.Laws.{shown_count}
use Rattle.bk_volume.specs.Media.{sets_of, HasSets, ShowsMedium, HasNoSet}
use Rattle.bk_volume.specs.Opening.{IsFrontOf, GivesFront, GivesSet, answer_of}
use Rattle.bk_volume.specs.Stored.{Stored, IsSetAt, IsWhole, Opens}
use Rattle.bk_volume.proofs.Digests.{blob_front}

-- a part is shorter than a digest
pub short_none : (file : List ℕ) (at len : ℕ) → at + len ≤ length file → len < 32 → ReadsAs (read_at file at len) no_set
short_none file at len inside short = inl (omega (arith, length-read_at file at len inside, short))

-- the digests differ
pub part_damaged : (file stored found : List ℕ) (at len : ℕ) → at + len ≤ length file → 32 ≤ len → stored ≡ digest_in (read_at file at len) → found ≡ sha256 (front_of (read_at file at len)) → stored ≢ found → ReadsAs (read_at file at len) (damaged stored found)
part_damaged file stored found at len inside long is_stored is_found differ = (omega (arith, length-read_at file at len inside, long), is_stored, is_found, differ)

-- they are the same
pub part_whole : (file stored found : List ℕ) (at len : ℕ) → at + len ≤ length file → 32 ≤ len → stored ≡ digest_in (read_at file at len) → found ≡ sha256 (front_of (read_at file at len)) → stored ≡ found → IsWhole (read_at file at len)
part_whole file stored found at len inside long is_stored is_found same = record {
  long = omega (arith, length-read_at file at len inside, long);
  same = sym is_stored ∙ same ∙ is_found;
}

-- the body before the digest
held_front : (blob : List ℕ) (body : Body) → ReadsAs blob (holds body) → front_of blob ≡ body_bytes body
held_front blob body is = ap front_of is.1 ∙ set_front body

-- what is answered for what was opened
pub opens_as : (file : List ℕ) (at len : ℕ) (set : Result (Option Stored) ReadError) → at + len ≤ length file → 32 ≤ len → IsWhole (read_at file at len)
    → ((body : Body) → IsBody body → read_at file at (len - 32) ≡ body_bytes body → IfOk set (GivesSet file body)) → Opens file (read_at file at len) (answer_of set)
opens_as file at len (Ok (Some set)) inside long whole gives =
    (whole, λ body is. gives body is.0 (sym (blob_front file at len long inside) ∙ held_front (read_at file at len) body is))
opens_as file at len (Ok None) inside long whole gives =
    inr (whole.same, λ body is spelled. gives body is (sym (blob_front file at len long inside) ∙ spelled))
opens_as file at len (Err Fault) inside long whole gives = tt
opens_as file at len (Err NoMemory) inside long whole gives = tt

-- a test, and what it says
pub test_true : (A B : Type 0) (test : Bool) → MatchBool test A B → test ≡ true → A
test_true A B true says is = says
test_true A B false says is = absurd cc

pub test_false : (A B : Type 0) (test : Bool) → MatchBool test A B → test ≡ false → B
test_false A B true says is = absurd cc
test_false A B false says is = says

-- the set behind a front that was read
pub set_given : (file now : List ℕ) (at len : ℕ) (body : Body) (found : Option (Front × ℕ)) (front : Front) (size : ℕ) (set : Option Stored) → now ≡ file → found ≡ Some (front, size) → GivesFront body found → read_at file at len ≡ body_bytes body
    → (read_at now at len ≡ body_bytes body → IsFrontOf body front size → GivesSet now body set) → GivesSet file body set
set_given file now at len body found front size set same is given spelled gives =
    let Found : Option (Front × ℕ) → Type 0 = λ f. GivesFront body f in
    let Of : List ℕ → Type 0 = λ f. GivesSet f body set in
    subst Of same (gives (ap (λ (f : List ℕ). read_at f at len) same ∙ spelled) (subst Found is given))

pub opens_after : (file now : List ℕ) (at len : ℕ) (set : Result (Option Stored) ReadError) (result : Result Stored SetError) → now ≡ file → at + len ≤ length file → 32 ≤ len → IsWhole (read_at file at len)
    → ((body : Body) → IsBody body → read_at now at (len - 32) ≡ body_bytes body → IfOk set (GivesSet now body)) → result ≡ answer_of set → Opens file (read_at file at len) result
opens_after file now at len set result same inside long whole gives is =
    let Gives : List ℕ → Type 0 = λ f. (body : Body) → IsBody body → read_at f at (len - 32) ≡ body_bytes body → IfOk set (GivesSet f body) in
    let Of : Result Stored SetError → Type 0 = λ r. Opens file (read_at file at len) r in
    subst Of (sym is) (opens_as file at len set inside long whole (subst Gives same gives))

-- the set at a position is the blob of that number
pub set_is_blob : (file : Option (List ℕ)) (p : ℕ) (blob : List ℕ) → HasSets (sets_of file) file → IsSetAt file p blob → slice_get (sealed file) p ≡ Some blob
set_is_blob file zero blob has at = absurd at
set_is_blob file (suc before) blob has at = ap (λ (blobs : List (List ℕ)). slice_get blobs (suc before)) has ∙ at

-- the blob that was read
pub opens_blob : (file : List ℕ) (blobs : List (List ℕ)) (i : ℕ) (part blob : List ℕ) (result : Result Stored SetError) → slice_get blobs i ≡ Some part → slice_get blobs i ≡ Some blob → Opens file part result → Opens file blob result
opens_blob file blobs i part blob result one other opens =
    let same : part ≡ blob = same_Some part blob (sym one ∙ other) in
    let Of : List ℕ → Type 0 = λ b. Opens file b result in
    subst Of same opens

past : (sets : List (List ℕ)) (i : ℕ) (blob : List ℕ) → slice_get sets i ≡ Some blob → i < length sets
past [] i blob there = absurd cc
past (set ∷ sets) zero blob there = omega arith
past (set ∷ sets) (suc i) blob there = omega (arith, past sets i blob there)

-- where a set is there is a position
pub set_there : {a : Disk} {kept : Kept} (p : ℕ) (blob : List ℕ) → ShowsMedium a kept → IsSetAt (a.files kept.name) p blob → HasNoSet kept p → ⊥
set_there zero blob shows at off = at
set_there {a = a} {kept = kept} (suc before) blob shows at off =
    let below : before < length (sets_of (a.files kept.name)) = past (sets_of (a.files kept.name)) before blob at in
    elim off [ inl zero_is ↦ omega (arith, zero_is) | inr more ↦ omega (arith, shown_count shows, more, below) ]

-- the blob of a gate that was opened
pub span_opens : (files : Files) (name from blob : List ℕ) (spans : List (ℕ × ℕ)) (span : ℕ × ℕ) (i : ℕ) (result : Result Stored SetError) → from ≡ name → IsGateFile (contents (files name)) → spans ≡ spans_of (contents (files name)) → slice_get spans i ≡ Some span
    → slice_get (sealed (files name)) i ≡ Some blob → Opens (contents (files from)) (read_at (contents (files from)) span.0 span.1) result → Opens (contents (files name)) blob result
span_opens files name from blob spans span i result named gate are there other opens =
    let At : List ℕ → Type 0 = λ n. Opens (contents (files n)) (read_at (contents (files n)) span.0 span.1) result in
    opens_blob (contents (files name)) (sealed (files name)) i (read_at (contents (files name)) span.0 span.1) blob result (blob_there (contents (files name)) spans i span gate are there) other (subst At named opens)

-- the part lies in the file
pub span_in : (files : Files) (name from : List ℕ) (spans : List (ℕ × ℕ)) (span : ℕ × ℕ) (i : ℕ) → from ≡ name → spans ≡ spans_of (contents (files name)) → slice_get spans i ≡ Some span → span.0 + span.1 ≤ length (contents (files from))
span_in files name from spans span i named are there =
    let At : List ℕ → Type 0 = λ n. span.0 + span.1 ≤ length (contents (files n)) in
    subst At (sym named) (span_inside (contents (files name)) spans i span are there)
