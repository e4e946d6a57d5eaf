-- The headers of the sets of a medium. SQL Server: "RESTORE HEADERONLY".
use Rattle.std.specs.Prelude.{◌≡◌, ℕ, List, ◌∷◌, [], Option, None, Result, Ok, Err}
use Rattle.bk_machine.specs.Checks.{Checked}
use Rattle.bk_machine.specs.statements.Query.{headers_of}
use Rattle.bk_volume.specs.Media.{read_medium}
use Rattle.bk_volume.specs.Stored.{IsSetAt, IsWhole, Stored}
use Rattle.bk_world.specs.declared.header.Header.{Header}
use Rattle.bk_world.specs.declared.rule.Rule.{Rule}
use Rattle.bk_archive.specs.Media.{IsSpelled}

-- the bytes on a file that have their own digest are sets
abbrev pub AreSpelled : Option (List ℕ) → Type 0
AreSpelled file = (position : ℕ) (blob : List ℕ) → IsSetAt file position blob → IsWhole blob → IsSpelled blob

-- the header of what was opened
abbrev pub header_of : Result Stored Rule → Checked Header
header_of (Ok set) = Ok set.header
header_of (Err rule) = Err rule

-- one header with its position
abbrev pub one_header : ℕ → Checked Header → Checked (List (ℕ × Header))
one_header position (Ok header) = Ok ((position, header) ∷ [])
one_header position (Err rule) = Err rule

-- these are all headers of a file that is read so
abbrev pub Lists : Option (List ℕ) → Checked (List (ℕ × Header)) → Type 0
Lists file sets = AreSpelled file → headers_of (read_medium file) None ≡ sets
