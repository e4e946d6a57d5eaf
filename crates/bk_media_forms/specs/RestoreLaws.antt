-- RESTORE looks at most two tokens ahead.
use Rattle.std.proofs.Common.{ℕ, ◌≤◌, Bool, true, false, List, [], ◌∷◌, ◌++◌, length, drop, Option, Some, None, Ok, Err, arith, refl, length-drop}
use Rattle.std.specs.Prelude.{codes, is_some}
use Rattle.bk_time.specs.Times.{time_of}
use Rattle.bk_token.specs.declared.token.Token.{Token}
use Rattle.bk_items.specs.declared.item.MediumQuery.TheVariants.{Headers, FileList, Verify}
use Rattle.bk_items.specs.declared.item.PageName.{PageName}
use Rattle.bk_items.specs.declared.options.RestoreOptions.{RestoreOptions}
use Rattle.bk_items.specs.declared.options.IdleOption.{IdleOption}
use Rattle.bk_parse.specs.Parse.{◌>>=◌, stuck, next_is, next_sign, keyword, sign, name, text, filled_text, equal_text, equal_filled, equal_number}
use Rattle.bk_parse.specs.Ahead.{Agrees, behind_it, left_over}
use Rattle.bk_parse.specs.Laws.{quiet, done, stuck-ahead, and_then, branch, if_next, behind_by, behind_next, OneToken, taken, not_taken, one-ahead, one_then, at_end, text-one, keyword-ahead, sign-ahead, name-ahead, text-ahead, filled_text-ahead, equal_text-ahead, equal_filled-ahead, equal_number-ahead}
use Rattle.bk_media_forms.specs.declared.restore_options.RestoreWord.{RestoreWord}
use Rattle.bk_media_forms.specs.declared.restore_options.RestoreWord.TheVariants.{File, Recovery, NoRecovery, Standby, StopAt, StopAtMark, StopBeforeMark, Replace, Partial, Move, Checksum, NoChecksum, Idle}
use Rattle.bk_media_forms.specs.Idle.{bare_word, text_word, number_word, skip_value}
use Rattle.bk_media_forms.specs.Backup.{time}
use Rattle.bk_media_forms.specs.Media.{disk, units, query_medium}
use Rattle.bk_media_forms.specs.Pages.{pages_of}
use Rattle.bk_media_forms.specs.Stops.{after_time, mark, moment_by, moment, at_mark, before_mark}
use Rattle.bk_media_forms.specs.Restore.{ending_word, stop_word, change_word, restore_word, joins, filed, standing, stopped_at, stopped_at_mark, stopped_before, file_move, moved, idled, joined, joined_by, one_more, options_from, no_options, options, with_options, paged, page_list, restored_units, lists_units, origin, restore_database, restore_log, restore}
use Rattle.bk_media_forms.specs.BackupLaws.{skip_value-ahead, time-ahead, disk-ahead, units-ahead, query_medium-ahead}

after_time-ahead : (src : List ℕ) (more ts : List Token) → Agrees behind_it more ts (after_time src ts) (after_time src (ts ++ more))
unfolding after_time
after_time-ahead src more ts =
    if_next ts (λ us. next_is src us (codes "AFTER")) (λ t u us. refl)
    (and_then _ _ (behind_next ts (time src) (time-ahead src more)) (λ a h. done)) done

mark-ahead : (src : List ℕ) (more ts : List Token) → Agrees behind_it more ts (mark src ts) (mark src (ts ++ more))
unfolding mark
mark-ahead src more ts =
    and_then _ _ (equal_text-ahead src more ts) (λ a h.
    and_then _ _ (after_time-ahead src more a.1) (λ b h. done))

moment_by-one : (text : List ℕ) (found : Option ℕ) (more : List Token) (t : Token) (ts : List Token) → OneToken more t ts (moment_by text found (t ∷ ts) ts) (moment_by text found (t ∷ (ts ++ more)) (ts ++ more))
moment_by-one text None more t ts = not_taken
moment_by-one text (Some ms) more t ts = taken _

moment_text-ahead : (src : List ℕ) (more ts : List Token) →
    Agrees behind_it more ts (text src ts >>= λ x. moment_by x.0 (time_of x.0) ts x.1) (text src (ts ++ more) >>= λ x. moment_by x.0 (time_of x.0) (ts ++ more) x.1)
unfolding text
moment_text-ahead src more [] = at_end
moment_text-ahead src more (t ∷ ts) = one-ahead (one_then _ _ (text-one src more t ts) (λ x. moment_by-one x (time_of x) more t ts))

moment-ahead : (src : List ℕ) (more ts : List Token) → Agrees behind_it more ts (moment src ts) (moment src (ts ++ more))
unfolding moment
moment-ahead src more ts = and_then _ _ (sign-ahead 61 more ts) (λ a h. moment_text-ahead src more a)

at_mark-ahead : (src : List ℕ) (more ts : List Token) → Agrees behind_it more ts (at_mark src ts) (at_mark src (ts ++ more))
unfolding at_mark
at_mark-ahead src more ts =
    and_then _ _ (mark-ahead src more ts) (λ a h. done)

before_mark-ahead : (src : List ℕ) (more ts : List Token) → Agrees behind_it more ts (before_mark src ts) (before_mark src (ts ++ more))
unfolding before_mark
before_mark-ahead src more ts =
    and_then _ _ (mark-ahead src more ts) (λ a h. done)

filed-ahead : (o : RestoreOptions) (more ts : List Token) → Agrees behind_it more ts (filed o ts) (filed o (ts ++ more))
unfolding filed
filed-ahead o more ts =
    and_then _ _ (equal_number-ahead more ts) (λ a h. done)

standing-ahead : (src : List ℕ) (o : RestoreOptions) (more ts : List Token) → Agrees behind_it more ts (standing src o ts) (standing src o (ts ++ more))
unfolding standing
standing-ahead src o more ts =
    and_then _ _ (equal_filled-ahead src more ts) (λ a h. done)

stopped_at-ahead : (src : List ℕ) (o : RestoreOptions) (more ts : List Token) → Agrees behind_it more ts (stopped_at src o ts) (stopped_at src o (ts ++ more))
unfolding stopped_at
stopped_at-ahead src o more ts =
    and_then _ _ (moment-ahead src more ts) (λ a h. done)

stopped_at_mark-ahead : (src : List ℕ) (o : RestoreOptions) (more ts : List Token) → Agrees behind_it more ts (stopped_at_mark src o ts) (stopped_at_mark src o (ts ++ more))
unfolding stopped_at_mark
stopped_at_mark-ahead src o more ts =
    and_then _ _ (at_mark-ahead src more ts) (λ a h. done)

stopped_before-ahead : (src : List ℕ) (o : RestoreOptions) (more ts : List Token) → Agrees behind_it more ts (stopped_before src o ts) (stopped_before src o (ts ++ more))
unfolding stopped_before
stopped_before-ahead src o more ts =
    and_then _ _ (before_mark-ahead src more ts) (λ a h. done)

file_move-ahead : (src : List ℕ) (more ts : List Token) → Agrees behind_it more ts (file_move src ts) (file_move src (ts ++ more))
unfolding file_move
file_move-ahead src more ts =
    and_then _ _ (filled_text-ahead src more ts) (λ a h.
    and_then _ _ (keyword-ahead src (codes "TO") more a.1) (λ b h.
    and_then _ _ (filled_text-ahead src more b) (λ c h. done)))

moved-ahead : (src : List ℕ) (o : RestoreOptions) (more ts : List Token) → Agrees behind_it more ts (moved src o ts) (moved src o (ts ++ more))
unfolding moved
moved-ahead src o more ts =
    and_then _ _ (file_move-ahead src more ts) (λ a h. done)

idled-ahead : (src : List ℕ) (o : RestoreOptions) (w : IdleOption) (more ts : List Token) → Agrees behind_it more ts (idled src o w ts) (idled src o w (ts ++ more))
unfolding idled
idled-ahead src o w more ts =
    and_then _ _ (skip_value-ahead src w more ts) (λ a h. done)

joined-ahead : (src : List ℕ) (o : RestoreOptions) (w : RestoreWord) (more ts : List Token) → Agrees behind_it more ts (joined src o w ts) (joined src o w (ts ++ more))
unfolding joined
joined-ahead src o File more ts = filed-ahead o more ts
joined-ahead src o Recovery more ts = done
joined-ahead src o NoRecovery more ts = done
joined-ahead src o Standby more ts = standing-ahead src o more ts
joined-ahead src o StopAt more ts = stopped_at-ahead src o more ts
joined-ahead src o StopAtMark more ts = stopped_at_mark-ahead src o more ts
joined-ahead src o StopBeforeMark more ts = stopped_before-ahead src o more ts
joined-ahead src o Replace more ts = done
joined-ahead src o Partial more ts = done
joined-ahead src o Move more ts = moved-ahead src o more ts
joined-ahead src o Checksum more ts = done
joined-ahead src o NoChecksum more ts = done
joined-ahead src o (Idle w) more ts = idled-ahead src o w more ts

joined_by-ahead : (src : List ℕ) (o : RestoreOptions) (found : Option RestoreWord) (more ts : List Token) → Agrees behind_it more ts (joined_by src o found ts) (joined_by src o found (ts ++ more))
joined_by-ahead src o None more ts = stuck-ahead behind_it more ts
joined_by-ahead src o (Some w) more ts = branch (joins o w) (behind_next ts (joined src o w) (joined-ahead src o w more)) (stuck-ahead behind_it more ts)

one_more-ahead : (src : List ℕ) (from : Bool) (o : RestoreOptions) (more ts : List Token) → Agrees behind_it more ts (one_more src from o ts) (one_more src from o (ts ++ more))
unfolding one_more ending_word stop_word change_word bare_word text_word number_word
one_more-ahead src from o more [] = quiet (omega arith) (joined_by-ahead src o (restore_word src from []) more [])
one_more-ahead src from o more (t ∷ ts) = joined_by-ahead src o (restore_word src from (t ∷ ts)) more (t ∷ ts)

options_from-ahead : (src : List ℕ) (from : Bool) (left : List Token) (o : RestoreOptions) (more ts : List Token) → length ts ≤ length left →
    Agrees behind_it more ts (options_from src from left o ts) (options_from src from (left ++ more) o (ts ++ more))
unfolding options_from
options_from-ahead src from [] o more ts few = quiet (omega (arith, few)) (stuck-ahead behind_it more ts)
options_from-ahead src from (x ∷ left) o more ts few =
    and_then _ _ (one_more-ahead src from o more ts) (λ a h.
    if_next a.1 (λ us. next_sign us 44) (λ t u us. refl)
    (behind_by a.1 (options_from src from left a.0) (options_from src from (left ++ more) a.0)
    (options_from-ahead src from left a.0 more (drop 1 a.1) (omega (arith, few, h, length-drop 1 a.1)))) done)

options-ahead : (src : List ℕ) (from : Bool) (more ts : List Token) → Agrees behind_it more ts (options src from ts) (options src from (ts ++ more))
unfolding options
options-ahead src from more ts = options_from-ahead src from ts no_options more ts (omega arith)

with_options-ahead : (src : List ℕ) (from : Bool) (more ts : List Token) → Agrees behind_it more ts (with_options src from ts) (with_options src from (ts ++ more))
unfolding with_options
with_options-ahead src from more ts =
    if_next ts (λ us. next_is src us (codes "WITH")) (λ t u us. refl) (behind_next ts (options src from) (options-ahead src from more)) done

paged-one : (found : Option (List PageName)) (more : List Token) (t : Token) (ts : List Token) → OneToken more t ts (paged found (t ∷ ts) ts) (paged found (t ∷ (ts ++ more)) (ts ++ more))
paged-one None more t ts = not_taken
paged-one (Some pages) more t ts = taken _

page_text-ahead : (src : List ℕ) (more ts : List Token) →
    Agrees behind_it more ts (text src ts >>= λ x. paged (pages_of x.0) ts x.1) (text src (ts ++ more) >>= λ x. paged (pages_of x.0) (ts ++ more) x.1)
unfolding text
page_text-ahead src more [] = at_end
page_text-ahead src more (t ∷ ts) = one-ahead (one_then _ _ (text-one src more t ts) (λ x. paged-one (pages_of x) more t ts))

page_list-ahead : (src : List ℕ) (more ts : List Token) → Agrees behind_it more ts (page_list src ts) (page_list src (ts ++ more))
unfolding page_list
page_list-ahead src more ts = and_then _ _ (sign-ahead 61 more ts) (λ a h. page_text-ahead src more a)

restored_units-ahead : (src : List ℕ) (more ts : List Token) → Agrees behind_it more ts (restored_units src ts) (restored_units src (ts ++ more))
unfolding restored_units
restored_units-ahead src more ts =
    if_next ts (λ us. next_is src us (codes "PAGE")) (λ t u us. refl) (behind_next ts (page_list src) (page_list-ahead src more)) (and_then _ _ (units-ahead src more ts) (λ a h. done))

origin-ahead : (src : List ℕ) (needed : Bool) (more ts : List Token) → Agrees behind_it more ts (origin src needed ts) (origin src needed (ts ++ more))
unfolding origin
origin-ahead src needed more ts =
    if_next ts (λ us. next_is src us (codes "FROM")) (λ t u us. refl)
    (and_then _ _ (behind_next ts (disk src) (disk-ahead src more)) (λ a h. done)) (branch needed (stuck-ahead behind_it more ts) done)

restore_database-ahead : (src : List ℕ) (more ts : List Token) → Agrees behind_it more ts (restore_database src ts) (restore_database src (ts ++ more))
unfolding restore_database
restore_database-ahead src more ts =
    and_then _ _ (name-ahead src more ts) (λ a h.
    and_then _ _ (restored_units-ahead src more a.1) (λ b h.
    and_then _ _ (origin-ahead src (lists_units b.0) more b.1) (λ c h.
    and_then _ _ (with_options-ahead src (is_some c.0) more c.1) (λ d h. done))))

restore_log-ahead : (src : List ℕ) (more ts : List Token) → Agrees behind_it more ts (restore_log src ts) (restore_log src (ts ++ more))
unfolding restore_log
restore_log-ahead src more ts =
    and_then _ _ (name-ahead src more ts) (λ a h.
    and_then _ _ (origin-ahead src false more a.1) (λ c h.
    and_then _ _ (with_options-ahead src (is_some c.0) more c.1) (λ d h. done)))

pub restore-ahead : (src : List ℕ) (more ts : List Token) → Agrees behind_it more ts (restore src ts) (restore src (ts ++ more))
unfolding restore
restore-ahead src more ts =
    if_next ts (λ us. next_is src us (codes "DATABASE")) (λ t u us. refl) (behind_next ts (restore_database src) (restore_database-ahead src more))
    (if_next ts (λ us. next_is src us (codes "LOG")) (λ t u us. refl) (behind_next ts (restore_log src) (restore_log-ahead src more))
    (if_next ts (λ us. next_is src us (codes "HEADERONLY")) (λ t u us. refl) (behind_next ts (query_medium Headers src) (query_medium-ahead Headers src more))
    (if_next ts (λ us. next_is src us (codes "FILELISTONLY")) (λ t u us. refl) (behind_next ts (query_medium FileList src) (query_medium-ahead FileList src more))
    (if_next ts (λ us. next_is src us (codes "VERIFYONLY")) (λ t u us. refl) (behind_next ts (query_medium Verify src) (query_medium-ahead Verify src more)) (stuck-ahead behind_it more ts)))))
