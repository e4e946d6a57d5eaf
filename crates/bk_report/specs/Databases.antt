-- The databases of an instance. SQL Server: "sys.databases".
use Rattle.std.specs.Prelude.{ℕ, List, [], ◌∷◌, codes, Option, Some, None}
use Rattle.bk_world.specs.declared.rule.StatusWord.{StatusWord}
use Rattle.bk_world.specs.Text.{status_text}
use Rattle.bk_report.specs.Cells.{line}

-- the word of a status, where one that isn't online has a word of its own
abbrev pub state_word : Option StatusWord → List ℕ
state_word None = codes "ONLINE"
state_word (Some status) = status_text status

-- name, state_desc
abbrev pub database_line : List ℕ → Option StatusWord → List ℕ
database_line name status = line (name ∷ state_word status ∷ [])
