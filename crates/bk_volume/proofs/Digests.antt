-- The digest of a part of a file, and the one that it stores.
use Rattle.std.proofs.Common.{◌≡◌, ◌≤◌, ◌+◌, ◌-◌, ℕ, List, ◌++◌, length, take, drop, refl, sym, ap, subst, ◌∙◌, arith}
use Rattle.std.proofs.lemmas.List.{take_at, drop_at}
use Rattle.bk_body.specs.Slots.{front_of, digest_in}
use Rattle.bk_device.specs.Calls.{read_at, filled}
use Rattle.bk_device.specs.Laws.{length-read_at, filled_whole}
use Rattle.sha2.specs.declared.Sha256.{Sha256}
use Rattle.sha2.specs.Hashers.{Holds256}
use Rattle.bk_volume.proofs.Copying.{read_two}

-- a part so far, and the piece that was read behind it
pub hashed_more : (hasher : Sha256) (file now : List ℕ) (at m n place next : ℕ) → now ≡ file → place ≡ at + m → next ≡ m + n → Holds256 hasher (read_at file at m ++ read_at now place n) → Holds256 hasher (read_at file at next)
hashed_more hasher file now at m n place next same here more holds =
    let Of : List ℕ → Type 0 = λ bytes. Holds256 hasher bytes in
    subst Of (ap (λ (f : List ℕ). read_at file at m ++ read_at f place n) same ∙ ap (λ (p : ℕ). read_at file at m ++ read_at file p n) here ∙ sym (read_two file at m n) ∙ ap (λ (k : ℕ). read_at file at k) (sym more)) holds

-- the piece that was read
pub hashed_read : (hasher : Sha256) (bytes buffer read file : List ℕ) (at : ℕ) → at + length buffer ≤ length file → read ≡ filled buffer (read_at file at (length buffer)) → Holds256 hasher (bytes ++ read) → Holds256 hasher (bytes ++ read_at file at (length buffer))
hashed_read hasher bytes buffer read file at inside is holds =
    let Of : List ℕ → Type 0 = λ piece. Holds256 hasher (bytes ++ piece) in
    subst Of (is ∙ filled_whole buffer file at (length buffer) refl inside) holds

-- the last 32 bytes of a part, and those before them

split : (file : List ℕ) (at len : ℕ) → 32 ≤ len → read_at file at len ≡ read_at file at (len - 32) ++ read_at file (at + (len - 32)) 32
split file at len long = let two : len ≡ len - 32 + 32 = omega arith in ap (λ (k : ℕ). read_at file at k) two ∙ read_two file at (len - 32) 32

pub blob_front : (file : List ℕ) (at len : ℕ) → 32 ≤ len → at + len ≤ length file → front_of (read_at file at len) ≡ read_at file at (len - 32)
blob_front file at len long inside =
    let size : length (read_at file at len) - 32 ≡ len - 32 = omega (arith, length-read_at file at len inside) in
    let front : length (read_at file at (len - 32)) ≡ len - 32 = length-read_at file at (len - 32) (omega arith) in
    ap (λ (n : ℕ). take n (read_at file at len)) size ∙ ap (take (len - 32)) (split file at len long) ∙ take_at (read_at file at (len - 32)) (read_at file (at + (len - 32)) 32) (len - 32) front

pub blob_digest : (file : List ℕ) (at len : ℕ) → 32 ≤ len → at + len ≤ length file → digest_in (read_at file at len) ≡ read_at file (at + (len - 32)) 32
blob_digest file at len long inside =
    let size : length (read_at file at len) - 32 ≡ len - 32 = omega (arith, length-read_at file at len inside) in
    let front : length (read_at file at (len - 32)) ≡ len - 32 = length-read_at file at (len - 32) (omega arith) in
    ap (λ (n : ℕ). drop n (read_at file at len)) size ∙ ap (drop (len - 32)) (split file at len long) ∙ drop_at (read_at file at (len - 32)) (read_at file (at + (len - 32)) 32) (len - 32) front
