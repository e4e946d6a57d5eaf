-- RESTORE HEADERONLY, FILELISTONLY and VERIFYONLY, which change nothing.
-- SQL Server: RESTORE HEADERONLY, RESTORE FILELISTONLY, RESTORE VERIFYONLY (Transact-SQL).
use Rattle.std.specs.Prelude.{◌≡◌, ℕ, ◌+◌, not, List, [], ◌∷◌, Option, Some, None, Ok}
use Rattle.bk_items.specs.declared.item.MediumQuery.{MediumQuery}
use Rattle.bk_items.specs.declared.item.MediumQuery.TheVariants.{Headers, FileList, Verify}
use Rattle.bk_world.specs.declared.header.Header.{Header}
use Rattle.bk_world.specs.declared.reply.Listing.TheVariants.{Sets, Files}
use Rattle.bk_world.specs.declared.reply.Reply.{Reply}
use Rattle.bk_world.specs.declared.reply.Reply.TheVariants.{Valid, Listed}
use Rattle.bk_world.specs.declared.rule.Rule.TheVariants.{NotBuilt}
use Rattle.bk_world.specs.Medium.{Slot, Reading, medium_at}
use Rattle.bk_machine.specs.Checks.{Checked, ◌>>=◌, refuse_if, is_path}
use Rattle.bk_machine.specs.Outcome.{Outcome, answered}
use Rattle.bk_machine.specs.Sound.{storage_in}
use Rattle.bk_machine.specs.World.{World}
use Rattle.bk_machine.specs.statements.Restore.{position_of, read_slot, set_at, slots_of}

-- the headers of some slots, each with its position, from this one on; the first that can't be read refuses them
abbrev pub headers_from : ℕ → List Slot → Checked (List (ℕ × Header))
headers_from n [] = Ok []
headers_from n (slot ∷ slots) = do
  header ← read_slot slot
  headers ← headers_from (n + 1) slots
  Ok ((n, header) ∷ headers)

-- all sets of a medium, or the one that FILE chooses
abbrev pub headers_of : Option Reading → Option ℕ → Checked (List (ℕ × Header))
headers_of reading None = do
  slots ← slots_of reading
  headers_from 1 slots
headers_of reading (Some n) = do
  header ← set_at n reading
  Ok ((n, header) ∷ [])

-- what is answered
abbrev pub answer_of : Option Reading → Option ℕ → MediumQuery → Checked Reply
answer_of reading file Headers = do
  sets ← headers_of reading file
  Ok (Listed (Sets sets))
answer_of reading file FileList = do
  header ← set_at (position_of file) reading
  Ok (Listed (Files (storage_in header)))
answer_of reading file Verify = do
  header ← set_at (position_of file) reading
  Ok (Valid (position_of file))

unfoldable pub check_query : World → ℕ → MediumQuery → List ℕ → Option ℕ → Checked Reply
check_query w line query disk file = do
  _ ← refuse_if (not (is_path disk)) (NotBuilt line)
  answer_of (medium_at w.media disk) file query

abbrev pub DoesQuery : Reply → Outcome → Type 0
DoesQuery reply outcome = outcome ≡ answered reply
