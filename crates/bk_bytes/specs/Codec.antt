-- How values are spelled in bytes and read back, put together from small parts.
use Rattle.std.specs.Prelude.{◌≤◌, ◌≡◌, ℕ, zero, suc, ◌+◌, ◌-◌, ◌^◌, ◌<◌, Bool, true, List, [], ◌∷◌, ◌++◌, length, take, drop, Option, Some, None, nat_lt, nat_le, ◌==◌, ◌&&◌, if◌then◌else◌, replicate}
use Rattle.std.specs.List.{flat_map, list_all, AllByRecursion}
use Rattle.std.specs.Str.{IsUtf8, is_utf8}
use Rattle.bk_bytes.specs.Field.{AreBytes, number_of, bytes_of}

-- go on with the value, where there is one
infixl 10 ◌>>=◌
abbrev pub ◌>>=◌ : {A B : Type 0} → Option A → (A → Option B) → Option B
None >>= f = None
(Some x) >>= f = f x

-- What a function returned, seen by view, is what the reading gives.
abbrev pub Gives : {X Y : Type 0} → (X → Y) → Option X → Option Y → Type 0
Gives view None read = read ≡ None
Gives view (Some x) read = read ≡ Some (view x)

-- A reading is a value at the front of bytes, and the bytes after it.

-- the first n bytes
abbrev pub run_at : ℕ → List ℕ → Option (List ℕ × List ℕ)
run_at n bytes = if nat_lt (length bytes) n then None else Some (take n bytes, drop n bytes)

-- the number in the first n bytes
abbrev pub number_at : ℕ → List ℕ → Option (ℕ × List ℕ)
number_at n bytes = if nat_lt (length bytes) n then None else Some (number_of n bytes, drop n bytes)

-- a length of n bytes, and so many bytes
unfoldable pub text_at : ℕ → List ℕ → Option (List ℕ × List ℕ)
text_at n bytes = do
  size ← number_at n bytes
  run_at size.0 size.1

-- How the values of a type are spelled.
pub record Codec (A : Type 0) : Type 1 where
  -- the bytes of a value
  pub spelling : A → List ℕ
  -- the values that have a spelling
  pub Fits : A → Type 0
  -- the value at the front of bytes, and the bytes after it
  pub reading : List ℕ → Option (A × List ℕ)

-- Reading and spelling belong together.
pub record IsCodec (A : Type 0) (c : Codec A) : Type 0 where
  -- what is read is spelled so, and fits
  pub takes : (bytes : List ℕ) (x : A) (rest : List ℕ) → AreBytes bytes → c.reading bytes ≡ Some (x, rest) → (bytes ≡ c.spelling x ++ rest) × c.Fits x
  -- what fits and is spelled is read, whatever follows
  pub gives : (x : A) (rest : List ℕ) → c.Fits x → c.reading (c.spelling x ++ rest) ≡ Some (x, rest)

-- a number of n bytes
abbrev pub number : ℕ → Codec ℕ
number n = record { spelling = bytes_of n; Fits = λ x. x < 256 ^ n; reading = number_at n }

-- n bytes as they are
abbrev pub run : ℕ → Codec (List ℕ)
run n = record { spelling = λ bytes. bytes; Fits = λ bytes. length bytes ≡ n; reading = run_at n }

-- a length of n bytes, and so many bytes
abbrev pub text : ℕ → Codec (List ℕ)
text n = record {
  spelling = λ bytes. bytes_of n (length bytes) ++ bytes;
  Fits = λ bytes. length bytes < 256 ^ n;
  reading = text_at n;
}

-- one value, and then another whose form may depend on it
abbrev pub followed : {A B : Type 0} → Codec A → (A → Codec B) → Codec (A × B)
followed c d = record {
  spelling = λ both. c.spelling both.0 ++ (d both.0).spelling both.1;
  Fits = λ both. c.Fits both.0 × (d both.0).Fits both.1;
  reading = λ bytes. do
    first ← c.reading bytes
    second ← (d first.0).reading first.1
    Some ((first.0, second.0), second.1);
}

-- the values that a test lets through
abbrev pub tested : {A : Type 0} → Codec A → (A → Bool) → Codec A
tested c test = record {
  spelling = c.spelling;
  Fits = λ x. c.Fits x × (test x ≡ true);
  reading = λ bytes. do
    x ← c.reading bytes
    if test x.0 then Some x else None;
}

-- the same bytes as values of another type, with the way there and the way back
abbrev pub seen_as : {A B : Type 0} → Codec A → (A → B) → (B → A) → Codec B
seen_as c there back = record {
  spelling = λ y. c.spelling (back y);
  Fits = λ y. c.Fits (back y);
  reading = λ bytes. do
    x ← c.reading bytes
    Some (there x.0, x.1);
}

-- the same bytes as values of another type: the way there, where there is one, the way back, and the values with a spelling
abbrev pub converted : {A B : Type 0} → Codec A → (A → Option B) → (B → A) → (B → Type 0) → Codec B
converted c there back Fits = record {
  spelling = λ y. c.spelling (back y);
  Fits = Fits;
  reading = λ bytes. do
    x ← c.reading bytes
    y ← there x.0
    Some (y, x.1);
}

-- the way there and the way back belong together
pub record Converts (A B : Type 0) (c : Codec A) (there : A → Option B) (back : B → A) (Fits : B → Type 0) : Type 0 where
  pub takes : (x : A) (y : B) → c.Fits x → there x ≡ Some y → (back y ≡ x) × Fits y
  pub gives : (y : B) → Fits y → (there (back y) ≡ Some y) × c.Fits (back y)

-- a kind in n bytes, and then the form of that kind
abbrev pub tagged : {A : Type 0} → ℕ → (A → ℕ) → (ℕ → Codec A) → Codec A
tagged n kind form = record {
  spelling = λ x. bytes_of n (kind x) ++ (form (kind x)).spelling x;
  Fits = λ x. (kind x < 256 ^ n) × (form (kind x)).Fits x;
  reading = λ bytes. do
    k ← number_at n bytes
    (form k.0).reading k.1;
}

-- no value has a spelling
abbrev pub nothing : {A : Type 0} → Codec A
nothing = record { spelling = λ x. []; Fits = λ x. ⊥; reading = λ bytes. None }

-- n zero bytes
unfoldable pub zeros_at : ℕ → List ℕ → Option (Unit {0} × List ℕ)
zeros_at n bytes = do
  front ← run_at n bytes
  if list_all (λ b. b == 0) front.0 then Some (tt, front.1) else None

-- n zero bytes
abbrev pub zeros : ℕ → Codec (Unit {0})
zeros n = record { spelling = λ _. replicate n 0; Fits = λ _. Unit {0}; reading = zeros_at n }

-- a text in UTF-8 of that many bytes, behind its length
unfoldable pub string_at : ℕ → ℕ → List ℕ → Option (List ℕ × List ℕ)
string_at least most bytes = do
  text ← text_at 2 bytes
  if nat_le least (length text.0) && nat_le (length text.0) most && is_utf8 text.0 then Some text else None

-- a text in UTF-8 of that many bytes
pub record IsString (least most : ℕ) (text : List ℕ) : Type 0 where
  pub least_bytes : least ≤ length text
  pub most_bytes : length text ≤ most
  pub utf8 : IsUtf8 text

-- a text in UTF-8 of that many bytes, behind its length
abbrev pub string : ℕ → ℕ → Codec (List ℕ)
string least most = record {
  spelling = λ bytes. bytes_of 2 (length bytes) ++ bytes;
  Fits = IsString least most;
  reading = string_at least most;
}

-- n values, read one after the other
unfoldable pub times_at : {A : Type 0} → (List ℕ → Option (A × List ℕ)) → ℕ → List ℕ → Option (List A × List ℕ)
times_at item zero bytes = Some ([], bytes)
times_at item (suc n) bytes = do
  first ← item bytes
  others ← times_at item n first.1
  Some (first.0 ∷ others.0, others.1)

-- n values, one after the other
abbrev pub times : {A : Type 0} → Codec A → ℕ → Codec (List A)
times c n = record {
  spelling = flat_map c.spelling;
  Fits = λ xs. (length xs ≡ n) × AllByRecursion c.Fits xs;
  reading = times_at c.reading n;
}

-- a count of n bytes, and so many values
unfoldable pub list_at : {A : Type 0} → ℕ → (List ℕ → Option (A × List ℕ)) → List ℕ → Option (List A × List ℕ)
list_at n item bytes = do
  count ← number_at n bytes
  times_at item count.0 count.1

-- a count of n bytes, and so many values
abbrev pub counted : {A : Type 0} → ℕ → Codec A → Codec (List A)
counted n c = record {
  spelling = λ xs. bytes_of n (length xs) ++ flat_map c.spelling xs;
  Fits = λ xs. (length xs < 256 ^ n) × AllByRecursion c.Fits xs;
  reading = list_at n c.reading;
}

-- a length of n bytes that counts itself, and a value that fills the rest of it
unfoldable pub framed_at : {A : Type 0} → ℕ → (List ℕ → Option (A × List ℕ)) → List ℕ → Option (A × List ℕ)
framed_at n whole bytes = do
  size ← number_at n bytes
  inside ← if nat_lt size.0 n then None else run_at (size.0 - n) size.1
  x ← whole inside.0
  if length x.1 == 0 then Some (x.0, inside.1) else None

-- a length of n bytes that counts itself, and a value that fills the rest of it
abbrev pub framed : {A : Type 0} → ℕ → Codec A → Codec A
framed n c = record {
  spelling = λ x. bytes_of n (n + length (c.spelling x)) ++ c.spelling x;
  Fits = λ x. (n + length (c.spelling x) < 256 ^ n) × c.Fits x;
  reading = framed_at n c.reading;
}
