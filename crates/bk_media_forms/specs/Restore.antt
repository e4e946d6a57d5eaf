-- RESTORE, behind it, with its options.
use Rattle.std.specs.Prelude.{ℕ, Bool, true, false, not, is_none, is_some, if◌then◌else◌, List, [], ◌∷◌, ◌++◌, drop, codes, Option, Some, None, Ok}
use Rattle.std.specs.Option.{option_map}
use Rattle.bk_token.specs.declared.token.Token.{Token}
use Rattle.bk_items.specs.declared.item.MediumQuery.TheVariants.{Headers, FileList, Verify}
use Rattle.bk_items.specs.declared.item.PageName.{PageName}
use Rattle.bk_items.specs.declared.item.RestoredUnits.{RestoredUnits}
use Rattle.bk_items.specs.declared.item.RestoredUnits.TheVariants.{Named, Pages}
use Rattle.bk_items.specs.declared.item.ScriptItem.{ScriptItem}
use Rattle.bk_items.specs.declared.item.ScriptItem.TheVariants.{RestoreDatabase, RestoreLog}
use Rattle.bk_items.specs.declared.options.IdleOption.{IdleOption}
use Rattle.bk_items.specs.declared.options.Ending.TheVariants.{Recovery as EndsRecovered, NoRecovery as EndsUnrecovered, Standby as EndsStandby}
use Rattle.bk_items.specs.declared.options.RestoreOptions.{RestoreOptions}
use Rattle.bk_items.specs.declared.options.FileMove.{FileMove}
use Rattle.bk_media_forms.specs.declared.restore_options.RestoreWord.{RestoreWord}
use Rattle.bk_media_forms.specs.declared.restore_options.RestoreWord.TheVariants.{File, Recovery, NoRecovery, Standby, StopAt, StopAtMark, StopBeforeMark, Replace, Partial, Move, Checksum, NoChecksum, Idle}
use Rattle.bk_parse.specs.Parse.{Parsed, ◌>>=◌, stuck, next_is, next_sign, keyword, sign, name, text, filled_text, equal_filled, equal_number}
use Rattle.bk_media_forms.specs.Idle.{or_else, idle_word, is_marked, with_mark, no_idle, skip_value}
use Rattle.bk_media_forms.specs.Media.{disk, units, query_medium}
use Rattle.bk_media_forms.specs.Pages.{pages_of}
use Rattle.bk_media_forms.specs.Stops.{moment, at_mark, before_mark}

-- an option of any RESTORE
unfoldable pub ending_word : List ℕ → List Token → Option RestoreWord
ending_word src ts =
    if next_is src ts (codes "FILE") then Some File
    else (if next_is src ts (codes "RECOVERY") then Some Recovery
    else (if next_is src ts (codes "NORECOVERY") then Some NoRecovery
    else (if next_is src ts (codes "STANDBY") then Some Standby
    else None)))

-- an option that says where a RESTORE from a medium stops
unfoldable pub stop_word : List ℕ → List Token → Option RestoreWord
stop_word src ts =
    if next_is src ts (codes "STOPAT") then Some StopAt
    else (if next_is src ts (codes "STOPATMARK") then Some StopAtMark
    else (if next_is src ts (codes "STOPBEFOREMARK") then Some StopBeforeMark
    else None))

-- another option of a RESTORE from a medium
unfoldable pub change_word : List ℕ → List Token → Option RestoreWord
change_word src ts =
    if next_is src ts (codes "REPLACE") then Some Replace
    else (if next_is src ts (codes "PARTIAL") then Some Partial
    else (if next_is src ts (codes "MOVE") then Some Move
    else (if next_is src ts (codes "CHECKSUM") then Some Checksum
    else (if next_is src ts (codes "NO_CHECKSUM") then Some NoChecksum
    else None))))

-- an option that asks for a medium; from says that the RESTORE names one
abbrev pub from_word : List ℕ → Bool → List Token → Option RestoreWord
from_word src from ts = if from then or_else (stop_word src ts) (change_word src ts) else None

-- an option of RESTORE, by its word
abbrev pub restore_word : List ℕ → Bool → List Token → Option RestoreWord
restore_word src from ts = or_else (ending_word src ts) (or_else (from_word src from ts) (option_map Idle (idle_word src ts)))

-- the option may join these: it isn't there, nor another of its group; MOVE may stand often
unfoldable pub joins : RestoreOptions → RestoreWord → Bool
joins o File = is_none o.file
joins o Recovery = is_none o.ending
joins o NoRecovery = is_none o.ending
joins o Standby = is_none o.ending
joins o StopAt = is_none o.stop
joins o StopAtMark = is_none o.stop
joins o StopBeforeMark = is_none o.stop
joins o Replace = not o.replace
joins o Partial = not o.partial
joins o Move = true
joins o Checksum = is_none o.checksum
joins o NoChecksum = is_none o.checksum
joins o (Idle w) = not (is_marked o.idle w)

-- = n, as the set
unfoldable pub filed : RestoreOptions → List Token → Parsed (RestoreOptions × List Token)
filed o ts = do
  n ← equal_number ts
  Ok (record o { file = Some n.0 }, n.1)

-- = text, as the path of the standby file
unfoldable pub standing : List ℕ → RestoreOptions → List Token → Parsed (RestoreOptions × List Token)
standing src o ts = do
  t ← equal_filled src ts
  Ok (record o { ending = Some (EndsStandby t.0) }, t.1)

-- = a time, as the stop
unfoldable pub stopped_at : List ℕ → RestoreOptions → List Token → Parsed (RestoreOptions × List Token)
stopped_at src o ts = do
  s ← moment src ts
  Ok (record o { stop = Some s.0 }, s.1)

-- = a mark, as the stop
unfoldable pub stopped_at_mark : List ℕ → RestoreOptions → List Token → Parsed (RestoreOptions × List Token)
stopped_at_mark src o ts = do
  s ← at_mark src ts
  Ok (record o { stop = Some s.0 }, s.1)

-- = a mark before which it stops
unfoldable pub stopped_before : List ℕ → RestoreOptions → List Token → Parsed (RestoreOptions × List Token)
stopped_before src o ts = do
  s ← before_mark src ts
  Ok (record o { stop = Some s.0 }, s.1)

-- text TO text, where neither is empty
unfoldable pub file_move : List ℕ → List Token → Parsed (FileMove × List Token)
file_move src ts = do
  n ← filled_text src ts
  to ← keyword src (codes "TO") n.1
  p ← filled_text src to
  Ok (record { name = n.0; path = p.0 }, p.1)

-- one more move
unfoldable pub moved : List ℕ → RestoreOptions → List Token → Parsed (RestoreOptions × List Token)
moved src o ts = do
  m ← file_move src ts
  Ok (record o { moves = o.moves ++ m.0 ∷ [] }, m.1)

-- the value of an option without effect
unfoldable pub idled : List ℕ → RestoreOptions → IdleOption → List Token → Parsed (RestoreOptions × List Token)
idled src o w ts = do
  rest ← skip_value src w ts
  Ok (record o { idle = with_mark o.idle w }, rest)

-- the options with a word that has no value
unfoldable pub switched : RestoreOptions → RestoreWord → RestoreOptions
switched o Recovery = record o { ending = Some EndsRecovered }
switched o NoRecovery = record o { ending = Some EndsUnrecovered }
switched o Replace = record o { replace = true }
switched o Partial = record o { partial = true }
switched o Checksum = record o { checksum = Some true }
switched o NoChecksum = record o { checksum = Some false }
switched o _ = o

-- the options with one more, whose value stands there, if it has one
unfoldable pub joined : List ℕ → RestoreOptions → RestoreWord → List Token → Parsed (RestoreOptions × List Token)
joined src o File ts = filed o ts
joined src o Standby ts = standing src o ts
joined src o StopAt ts = stopped_at src o ts
joined src o StopAtMark ts = stopped_at_mark src o ts
joined src o StopBeforeMark ts = stopped_before src o ts
joined src o Move ts = moved src o ts
joined src o (Idle w) ts = idled src o w ts
joined src o w ts = Ok (switched o w, ts)

abbrev pub joined_by : List ℕ → RestoreOptions → Option RestoreWord → List Token → Parsed (RestoreOptions × List Token)
joined_by src o None ts = stuck ts
joined_by src o (Some w) ts = if joins o w then joined src o w (drop 1 ts) else stuck ts

-- the options with the one that stands there; it can't go on at one that can't join them
unfoldable pub one_more : List ℕ → Bool → RestoreOptions → List Token → Parsed (RestoreOptions × List Token)
one_more src from o ts = joined_by src o (restore_word src from ts) ts

-- options with commas between, added to these; each takes a token, so that the tokens where they begin bound their number
unfoldable pub options_from : List ℕ → Bool → List Token → RestoreOptions → List Token → Parsed (RestoreOptions × List Token)
options_from src from [] o ts = stuck ts
options_from src from (_ ∷ left) o ts = do
  more ← one_more src from o ts
  if next_sign more.1 44 then options_from src from left more.0 (drop 1 more.1) else Ok (more.0, more.1)

-- no option
abbrev pub no_options : RestoreOptions
no_options = record {
  file = None;
  ending = None;
  stop = None;
  replace = false;
  partial = false;
  moves = [];
  checksum = None;
  idle = no_idle;
}

-- options with commas between
unfoldable pub options : List ℕ → Bool → List Token → Parsed (RestoreOptions × List Token)
options src from ts = options_from src from ts no_options ts

-- WITH options, or nothing
unfoldable pub with_options : List ℕ → Bool → List Token → Parsed (RestoreOptions × List Token)
with_options src from ts = if next_is src ts (codes "WITH") then options src from (drop 1 ts) else Ok (no_options, ts)

abbrev pub paged : Option (List PageName) → List Token → List Token → Parsed (RestoredUnits × List Token)
paged None ts rest = stuck ts
paged (Some pages) ts rest = Ok (Pages pages, rest)

-- = text that lists pages
unfoldable pub page_list : List ℕ → List Token → Parsed (RestoredUnits × List Token)
page_list src ts = do
  equal ← sign 61 ts
  t ← text src equal
  paged (pages_of t.0) equal t.1

-- PAGE = text, or files and filegroups, or none
unfoldable pub restored_units : List ℕ → List Token → Parsed (RestoredUnits × List Token)
restored_units src ts =
    if next_is src ts (codes "PAGE") then page_list src (drop 1 ts)
    else (do
      u ← units src ts
      Ok (Named u.0, u.1))

-- a unit is listed
abbrev pub lists_units : RestoredUnits → Bool
lists_units (Named []) = false
lists_units (Named (u ∷ us)) = true
lists_units (Pages p) = true

-- FROM DISK = text, or nothing where it isn't needed
unfoldable pub origin : List ℕ → Bool → List Token → Parsed (Option (List ℕ) × List Token)
origin src needed ts =
    if next_is src ts (codes "FROM") then (do
      d ← disk src (drop 1 ts)
      Ok (Some d.0, d.1))
    else (if needed then stuck ts else Ok (None, ts))

-- name units FROM DISK = text WITH options; with units there is a FROM
unfoldable pub restore_database : List ℕ → List Token → Parsed (ScriptItem × List Token)
restore_database src ts = do
  n ← name src ts
  u ← restored_units src n.1
  d ← origin src (lists_units u.0) u.1
  o ← with_options src (is_some d.0) d.1
  Ok (RestoreDatabase n.0 u.0 d.0 o.0, o.1)

-- name FROM DISK = text WITH options
unfoldable pub restore_log : List ℕ → List Token → Parsed (ScriptItem × List Token)
restore_log src ts = do
  n ← name src ts
  d ← origin src false n.1
  o ← with_options src (is_some d.0) d.1
  Ok (RestoreLog n.0 d.0 o.0, o.1)

-- DATABASE .. | LOG .. | HEADERONLY .. | FILELISTONLY .. | VERIFYONLY ..
unfoldable pub restore : List ℕ → List Token → Parsed (ScriptItem × List Token)
restore src ts =
    if next_is src ts (codes "DATABASE") then restore_database src (drop 1 ts)
    else (if next_is src ts (codes "LOG") then restore_log src (drop 1 ts)
    else (if next_is src ts (codes "HEADERONLY") then query_medium Headers src (drop 1 ts)
    else (if next_is src ts (codes "FILELISTONLY") then query_medium FileList src (drop 1 ts)
    else (if next_is src ts (codes "VERIFYONLY") then query_medium Verify src (drop 1 ts)
    else stuck ts))))
