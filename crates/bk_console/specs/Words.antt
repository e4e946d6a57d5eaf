-- The command line, DIR [-b] [--instance N]: what stands in its words, and what they ask for.
use Rattle.std.specs.Prelude.{ℕ, zero, suc, ◌^◌, Bool, true, false, ◌&&◌, ◌==◌, nat_lt, nat_le, if◌then◌else◌, List, [], ◌∷◌, codes, Option, Some, None}
use Rattle.std.specs.Str.{bytes_eq, all_ascii_digits}
use Rattle.std.specs.Str.Parse.{digits_value}
use Rattle.std.specs.String.{string_bytes}
use Rattle.bk_console.specs.declared.command_line.Next.{Next}
use Rattle.bk_console.specs.declared.command_line.Next.TheVariants.{Anything, InstanceNumber, Directory}
use Rattle.bk_console.specs.declared.command_line.Options.{Options}

infixl 10 ◌>>=◌
-- the first thing, and then the next, which may look at it
abbrev pub ◌>>=◌ : {A B : Type 0} → Option A → (A → Option B) → Option B
None >>= next = None
(Some x) >>= next = next x

-- What stands in the words, as often as it stands there.
pub record Found : Type 0 where
  pub dirs : List (List ℕ)
  -- how often `-b` stands there
  pub stops : ℕ
  pub instances : List ℕ

abbrev pub nothing : Found
nothing = record { dirs = []; stops = 0; instances = [] }

-- a word that is a directory, if it may be one, before what else is found
abbrev pub with_dir : List ℕ → Option Found → Option Found
with_dir [] found = None
with_dir (c ∷ word) found = do
  rest ← found
  Some (record rest { dirs = (c ∷ word) ∷ rest.dirs })

-- one more `-b`
abbrev pub with_stop : Option Found → Option Found
with_stop found = do
  rest ← found
  Some (record rest { stops = suc rest.stops })

-- the word begins with a digit that isn't 0
abbrev pub begins_as_number : List ℕ → Bool
begins_as_number [] = false
begins_as_number (c ∷ _) = nat_le 49 c && nat_le c 57

-- the number that a word writes in decimal digits, without a sign or a leading zero: 1 to 18446744073709551615
unfoldable pub number_of : List ℕ → Option ℕ
number_of word =
    if begins_as_number word && all_ascii_digits word && nat_lt (digits_value 10 word) (2 ^ 64) then Some (digits_value 10 word) else None

-- the number of an instance, if there is one, before what else is found
abbrev pub with_number : Option ℕ → Option Found → Option Found
with_number None found = None
with_number (Some number) found = do
  rest ← found
  Some (record rest { instances = number ∷ rest.instances })

-- a value of `--instance`
abbrev pub with_instance : List ℕ → Option Found → Option Found
with_instance value found = with_number (number_of value) found

-- what stands behind this front, if the word begins with it
abbrev pub behind : List ℕ → List ℕ → Option (List ℕ)
behind [] word = Some word
behind (c ∷ front) [] = None
behind (c ∷ front) (d ∷ word) = if c == d then behind front word else None

abbrev pub begins_with_hyphen : List ℕ → Bool
begins_with_hyphen [] = false
begins_with_hyphen (c ∷ _) = c == 45

-- a word that isn't `-b`, `--instance` or `--`: a value behind `--instance=`, or a directory, and no other option
abbrev pub with_other : Option (List ℕ) → List ℕ → Option Found → Option Found
with_other (Some value) word found = with_instance value found
with_other None word found = if begins_with_hyphen word then None else with_dir word found

-- what stands in the words, where this may come next; none where a word is out of form
unfoldable pub found_in : Next → List (List ℕ) → Option Found
found_in Anything [] = Some nothing
found_in Anything (word ∷ words) =
    if bytes_eq word (codes "-b") then with_stop (found_in Anything words)
    else (if bytes_eq word (codes "--instance") then found_in InstanceNumber words
    else (if bytes_eq word (codes "--") then found_in Directory words
    else with_other (behind (codes "--instance=") word) word (found_in Anything words)))
found_in InstanceNumber [] = None
found_in InstanceNumber (word ∷ words) = with_instance word (found_in Anything words)
found_in Directory [] = Some nothing
found_in Directory (word ∷ words) = with_dir word (found_in Directory words)

-- the one thing of a list that has exactly one
abbrev pub only : {A : Type 0} → List A → Option A
only (x ∷ []) = Some x
only _ = None

-- the one thing of a list, or this where it is empty; none where it has more
abbrev pub at_most_one : {A : Type 0} → A → List A → Option A
at_most_one default [] = Some default
at_most_one default (x ∷ []) = Some x
at_most_one default _ = None

-- whether a thing is there that may stand once
abbrev pub at_most_once : ℕ → Option Bool
at_most_once zero = Some false
at_most_once (suc zero) = Some true
at_most_once _ = None

-- What the words ask for.
pub record WordOptions : Type 0 where
  pub dir : List ℕ
  pub stop : Bool
  pub instance : ℕ

-- what is asked for, where one directory and each option at most once was found
unfoldable pub asked : Found → Option WordOptions
asked found = do
  dir ← only found.dirs
  stop ← at_most_once found.stops
  instance ← at_most_one 1 found.instances
  Some (record { dir = dir; stop = stop; instance = instance })

-- what the words ask for, if they are in form
unfoldable pub options_of : List (List ℕ) → Option WordOptions
options_of words = do
  found ← found_in Anything words
  asked found

-- the options as the program has them
abbrev pub as_asked : Options → WordOptions
as_asked options = record { dir = string_bytes options.dir; stop = options.stop; instance = options.instance }
