-- The numbers in texts: those of pages, and that of a mark.
use Rattle.std.specs.Prelude.{ℕ, ◌^◌, ◌&&◌, Bool, true, false, ◌==◌, nat_lt, nat_le, if◌then◌else◌, List, [], ◌∷◌, ◌++◌, take, drop, Option, Some, None}
use Rattle.std.specs.Char.{is_ascii_digit}
use Rattle.std.specs.List.{prefix_len}
use Rattle.bk_token.specs.Bytes.{is_blank}
use Rattle.bk_token.specs.Pieces.{decimal}
use Rattle.bk_items.specs.declared.item.PageName.{PageName}

infixl 10 ◌>>=◌
-- the first thing, and then the next, which may look at it
abbrev pub ◌>>=◌ : {A B : Type 0} → Option A → (A → Option B) → Option B
None >>= next = None
(Some x) >>= next = next x

-- the value of decimal digits below 2 ^ 64, of which there is at least one
unfoldable pub digits_value : List ℕ → Option ℕ
digits_value [] = None
digits_value (b ∷ bs) = if nat_lt (decimal (b ∷ bs)) (2 ^ 64) then Some (decimal (b ∷ bs)) else None

-- a number, and the bytes behind its digits
unfoldable pub number_at : List ℕ → Option (ℕ × List ℕ)
number_at bytes = do
  n ← digits_value (take (prefix_len is_ascii_digit bytes) bytes)
  Some (n, drop (prefix_len is_ascii_digit bytes) bytes)

-- this byte
abbrev pub byte_at : ℕ → List ℕ → Option (List ℕ)
byte_at byte [] = None
byte_at byte (b ∷ bs) = if b == byte then Some bs else None

-- n:n, a file and a page in it
unfoldable pub page_at : List ℕ → Option (PageName × List ℕ)
page_at bytes = do
  f ← number_at bytes
  colon ← byte_at 58 f.1
  p ← number_at colon
  Some (record { file = f.0; page = p.0 }, p.1)

-- the bytes behind the blanks in front
abbrev pub behind_blanks : List ℕ → List ℕ
behind_blanks bytes = drop (prefix_len is_blank bytes) bytes

-- a comma, with blanks around it
unfoldable pub comma_at : List ℕ → Option (List ℕ)
comma_at bytes = do
  comma ← byte_at 44 (behind_blanks bytes)
  Some (behind_blanks comma)

-- no byte is left
abbrev pub is_over : List ℕ → Bool
is_over [] = true
is_over (b ∷ bs) = false

-- pages with commas between, added to these, to the end; each takes a byte, so that the bytes where they begin bound their number
unfoldable pub pages_from : List ℕ → List PageName → List ℕ → Option (List PageName)
pages_from [] found bytes = None
pages_from (_ ∷ left) found bytes = do
  p ← page_at bytes
  if is_over p.1 then Some (found ++ p.0 ∷ []) else (do
    rest ← comma_at p.1
    pages_from left (found ++ p.0 ∷ []) rest)

-- the pages that a text lists: pairs n:n with commas between
unfoldable pub pages_of : List ℕ → Option (List PageName)
pages_of bytes = pages_from bytes [] bytes

-- lsn:, and the bytes behind it
unfoldable pub lsn_at : List ℕ → Option (List ℕ)
lsn_at bytes = do
  l ← byte_at 108 bytes
  s ← byte_at 115 l
  n ← byte_at 110 s
  byte_at 58 n

-- the log sequence number that a mark's text says: lsn: and decimal digits up to 2 ^ 62
unfoldable pub lsn_of : List ℕ → Option ℕ
lsn_of bytes = do
  digits ← lsn_at bytes
  n ← number_at digits
  if is_over n.1 && nat_le n.0 (2 ^ 62) then Some n.0 else None
