-- Bytes by what they may stand for in a script, and runs of them.
use Rattle.std.specs.Prelude.{◌≡◌, ℕ, Bool, true, false, not, ◌||◌, ◌==◌, List, [], ◌∷◌}
use Rattle.std.specs.Char.{is_ascii_alphabetic, is_ascii_alphanumeric}
use Rattle.std.specs.List.{list_all}

-- a line feed, which ends a line
abbrev pub is_line_feed : ℕ → Bool
is_line_feed b = b == 10

-- a byte within a line
abbrev pub is_within_line : ℕ → Bool
is_within_line b = not (b == 10)

-- a space, a tab, a carriage return or a line feed
abbrev pub is_blank : ℕ → Bool
is_blank b = b == 32 || b == 9 || b == 13 || b == 10

-- a letter or `_`
abbrev pub begins_word : ℕ → Bool
begins_word b = is_ascii_alphabetic b || b == 95

-- a letter, a digit, `_`, `$`, `#` or `@`
abbrev pub is_word_byte : ℕ → Bool
is_word_byte b = is_ascii_alphanumeric b || b == 95 || b == 36 || b == 35 || b == 64

-- one of `(` `)` `,` `.` `=` `*` `;` `%`
abbrev pub is_sign : ℕ → Bool
is_sign b = b == 40 || b == 41 || b == 44 || b == 46 || b == 61 || b == 42 || b == 59 || b == 37

-- whether there is a first byte, and it passes
abbrev pub begins : (ℕ → Bool) → List ℕ → Bool
begins p [] = false
begins p (b ∷ bs) = p b

-- each byte of the text passes, and the one that follows it, if any, doesn't
pub record IsRun (p : ℕ → Bool) (text rest : List ℕ) : Type 0 where
  pub passes : list_all p text ≡ true
  pub ends : begins p rest ≡ false
