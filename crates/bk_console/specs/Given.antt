-- What some words gave, and what it means together with those behind them.
use Rattle.std.specs.Prelude.{◌≡◌, ℕ, suc, Bool, true, false, List, ◌∷◌, ◌++◌, Option, Some, None, option_map}
use Rattle.std.specs.Option.{option_to_list}
use Rattle.bk_console.specs.Words.{◌>>=◌, Found, WordOptions, found_in, asked}
use Rattle.bk_console.specs.declared.command_line.Given.{Given}

-- how often `-b` stands in all words
abbrev pub stops_with : Bool → ℕ → ℕ
stops_with true n = suc n
stops_with false n = n

-- what was found in all words
abbrev pub joined : Given → Found → Found
joined given rest = record {
  dirs = option_to_list (option_map (λ dir. dir.now) given.dir) ++ rest.dirs;
  stops = stops_with given.stop rest.stops;
  instances = option_to_list given.instance ++ rest.instances;
}

-- what all words ask for, by what is found in those behind
unfoldable pub meant : Given → Option Found → Option WordOptions
meant given found = do
  rest ← found
  asked (joined given rest)

-- what all words ask for, by those behind
abbrev pub meant_before : Given → List (List ℕ) → Option WordOptions
meant_before given words = meant given (found_in given.next words)

-- what was given takes in one thing more, or can't
abbrev pub Takes : Given → (Option Found → Option Found) → Option Given → Type 0
Takes given add None = (found : Option Found) → meant given (add found) ≡ None
Takes given add (Some after) = (found : Option Found) → meant given (add found) ≡ meant after found

-- what was given takes in one word more, or can't
abbrev pub TakesWord : Given → List ℕ → Option Given → Type 0
TakesWord given word None = (words : List (List ℕ)) → meant_before given (word ∷ words) ≡ None
TakesWord given word (Some after) = (words : List (List ℕ)) → meant_before given (word ∷ words) ≡ meant_before after words
