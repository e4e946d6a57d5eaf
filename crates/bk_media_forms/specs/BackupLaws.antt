-- BACKUP looks at most two tokens ahead, and so do the queries on media.
use Rattle.std.proofs.Common.{ℕ, ◌≤◌, ◌||◌, Bool, true, false, List, [], ◌∷◌, ◌++◌, length, drop, Option, Some, None, Ok, Err, arith, refl, length-drop}
use Rattle.std.specs.Prelude.{codes}
use Rattle.bk_time.specs.Times.{time_of}
use Rattle.bk_token.specs.declared.token.Token.{Token}
use Rattle.bk_items.specs.declared.item.MediumQuery.{MediumQuery}
use Rattle.bk_items.specs.declared.item.UnitName.{UnitName}
use Rattle.bk_items.specs.declared.options.BackupOptions.{BackupOptions}
use Rattle.bk_items.specs.declared.options.IdleOption.{IdleOption}
use Rattle.bk_items.specs.declared.options.IdleOption.TheVariants.{Stats, Rewind, NoRewind, Unload, NoUnload, Description, MediaName, MediaDescription, BufferCount, MaxTransferSize, BlockSize, StopOnError, NoCompression}
use Rattle.bk_parse.specs.Parse.{stuck, next_is, next_sign, keyword, sign, name, text, equal_text, equal_filled, equal_number}
use Rattle.bk_parse.specs.Ahead.{Agrees, behind_it, left_over}
use Rattle.bk_parse.specs.Laws.{quiet, done, stuck-ahead, and_then, branch, if_next, behind_by, behind_next, OneToken, taken, not_taken, one-ahead, one_then, at_end, text-one, keyword-ahead, sign-ahead, name-ahead, text-ahead, equal_text-ahead, equal_filled-ahead, equal_number-ahead}
use Rattle.bk_media_forms.specs.declared.backup_options.BackupWord.{BackupWord}
use Rattle.bk_media_forms.specs.declared.backup_options.BackupWord.TheVariants.{Init, NoInit, Format, NoFormat, Skip, NoSkip, Checksum, NoChecksum, Name, ExpireDate, RetainDays, CopyOnly, Differential, NoRecovery, NoTruncate, Idle}
use Rattle.bk_media_forms.specs.Idle.{bare_word, text_word, number_word, skip_text, skip_number, skip_share, skip_value}
use Rattle.bk_media_forms.specs.Backup.{timed, time, equal_time, medium_word, set_word, valued_word, backup_word, joins, named, expiring, retained, idled, joined, joined_by, one_more, options_from, no_options, options, with_options}
use Rattle.bk_media_forms.specs.Media.{disk, unit, units_from, some_units, units, backup_database, backup_log, backup, with_file, query_medium}

skip_text-ahead : (src : List ℕ) (more ts : List Token) → Agrees left_over more ts (skip_text src ts) (skip_text src (ts ++ more))
unfolding skip_text
skip_text-ahead src more ts =
    and_then _ _ (equal_text-ahead src more ts) (λ a h. done)

skip_number-ahead : (more ts : List Token) → Agrees left_over more ts (skip_number ts) (skip_number (ts ++ more))
unfolding skip_number
skip_number-ahead more ts =
    and_then _ _ (equal_number-ahead more ts) (λ a h. done)

skip_share-ahead : (more ts : List Token) → Agrees left_over more ts (skip_share ts) (skip_share (ts ++ more))
unfolding skip_share
skip_share-ahead more ts =
    if_next ts (λ us. next_sign us 61) (λ t u us. refl) (skip_number-ahead more ts) done

pub skip_value-ahead : (src : List ℕ) (w : IdleOption) (more ts : List Token) → Agrees left_over more ts (skip_value src w ts) (skip_value src w (ts ++ more))
unfolding skip_value
skip_value-ahead src Stats more ts = skip_share-ahead more ts
skip_value-ahead src Rewind more ts = done
skip_value-ahead src NoRewind more ts = done
skip_value-ahead src Unload more ts = done
skip_value-ahead src NoUnload more ts = done
skip_value-ahead src Description more ts = skip_text-ahead src more ts
skip_value-ahead src MediaName more ts = skip_text-ahead src more ts
skip_value-ahead src MediaDescription more ts = skip_text-ahead src more ts
skip_value-ahead src BufferCount more ts = skip_number-ahead more ts
skip_value-ahead src MaxTransferSize more ts = skip_number-ahead more ts
skip_value-ahead src BlockSize more ts = skip_number-ahead more ts
skip_value-ahead src StopOnError more ts = done
skip_value-ahead src NoCompression more ts = done

timed-one : (found : Option ℕ) (more : List Token) (t : Token) (ts : List Token) → OneToken more t ts (timed found (t ∷ ts) ts) (timed found (t ∷ (ts ++ more)) (ts ++ more))
timed-one None more t ts = not_taken
timed-one (Some ms) more t ts = taken ms

pub time-ahead : (src : List ℕ) (more ts : List Token) → Agrees behind_it more ts (time src ts) (time src (ts ++ more))
unfolding time text
time-ahead src more [] = at_end
time-ahead src more (t ∷ ts) = one-ahead (one_then _ _ (text-one src more t ts) (λ x. timed-one (time_of x) more t ts))

equal_time-ahead : (src : List ℕ) (more ts : List Token) → Agrees behind_it more ts (equal_time src ts) (equal_time src (ts ++ more))
unfolding equal_time
equal_time-ahead src more ts =
    and_then _ _ (sign-ahead 61 more ts) (λ a h. time-ahead src more a)

named-ahead : (src : List ℕ) (o : BackupOptions) (more ts : List Token) → Agrees behind_it more ts (named src o ts) (named src o (ts ++ more))
unfolding named
named-ahead src o more ts =
    and_then _ _ (equal_text-ahead src more ts) (λ a h. done)

expiring-ahead : (src : List ℕ) (o : BackupOptions) (more ts : List Token) → Agrees behind_it more ts (expiring src o ts) (expiring src o (ts ++ more))
unfolding expiring
expiring-ahead src o more ts =
    and_then _ _ (equal_time-ahead src more ts) (λ a h. done)

retained-ahead : (o : BackupOptions) (more ts : List Token) → Agrees behind_it more ts (retained o ts) (retained o (ts ++ more))
unfolding retained
retained-ahead o more ts =
    and_then _ _ (equal_number-ahead more ts) (λ a h. done)

idled-ahead : (src : List ℕ) (o : BackupOptions) (w : IdleOption) (more ts : List Token) → Agrees behind_it more ts (idled src o w ts) (idled src o w (ts ++ more))
unfolding idled
idled-ahead src o w more ts =
    and_then _ _ (skip_value-ahead src w more ts) (λ a h. done)

joined-ahead : (src : List ℕ) (o : BackupOptions) (w : BackupWord) (more ts : List Token) → Agrees behind_it more ts (joined src o w ts) (joined src o w (ts ++ more))
unfolding joined
joined-ahead src o Init more ts = done
joined-ahead src o NoInit more ts = done
joined-ahead src o Format more ts = done
joined-ahead src o NoFormat more ts = done
joined-ahead src o Skip more ts = done
joined-ahead src o NoSkip more ts = done
joined-ahead src o Checksum more ts = done
joined-ahead src o NoChecksum more ts = done
joined-ahead src o Name more ts = named-ahead src o more ts
joined-ahead src o ExpireDate more ts = expiring-ahead src o more ts
joined-ahead src o RetainDays more ts = retained-ahead o more ts
joined-ahead src o CopyOnly more ts = done
joined-ahead src o Differential more ts = done
joined-ahead src o NoRecovery more ts = done
joined-ahead src o NoTruncate more ts = done
joined-ahead src o (Idle w) more ts = idled-ahead src o w more ts

joined_by-ahead : (src : List ℕ) (o : BackupOptions) (found : Option BackupWord) (more ts : List Token) → Agrees behind_it more ts (joined_by src o found ts) (joined_by src o found (ts ++ more))
joined_by-ahead src o None more ts = stuck-ahead behind_it more ts
joined_by-ahead src o (Some w) more ts = branch (joins o w) (behind_next ts (joined src o w) (joined-ahead src o w more)) (stuck-ahead behind_it more ts)

one_more-ahead : (src : List ℕ) (log : Bool) (o : BackupOptions) (more ts : List Token) → Agrees behind_it more ts (one_more src log o ts) (one_more src log o (ts ++ more))
unfolding one_more medium_word set_word valued_word bare_word text_word number_word
one_more-ahead src log o more [] = quiet (omega arith) (joined_by-ahead src o (backup_word src log []) more [])
one_more-ahead src log o more (t ∷ ts) = joined_by-ahead src o (backup_word src log (t ∷ ts)) more (t ∷ ts)

options_from-ahead : (src : List ℕ) (log : Bool) (left : List Token) (o : BackupOptions) (more ts : List Token) → length ts ≤ length left →
    Agrees behind_it more ts (options_from src log left o ts) (options_from src log (left ++ more) o (ts ++ more))
unfolding options_from
options_from-ahead src log [] o more ts few = quiet (omega (arith, few)) (stuck-ahead behind_it more ts)
options_from-ahead src log (x ∷ left) o more ts few =
    and_then _ _ (one_more-ahead src log o more ts) (λ a h.
    if_next a.1 (λ us. next_sign us 44) (λ t u us. refl)
    (behind_by a.1 (options_from src log left a.0) (options_from src log (left ++ more) a.0)
    (options_from-ahead src log left a.0 more (drop 1 a.1) (omega (arith, few, h, length-drop 1 a.1)))) done)

options-ahead : (src : List ℕ) (log : Bool) (more ts : List Token) → Agrees behind_it more ts (options src log ts) (options src log (ts ++ more))
unfolding options
options-ahead src log more ts = options_from-ahead src log ts no_options more ts (omega arith)

with_options-ahead : (src : List ℕ) (log : Bool) (more ts : List Token) → Agrees behind_it more ts (with_options src log ts) (with_options src log (ts ++ more))
unfolding with_options
with_options-ahead src log more ts =
    if_next ts (λ us. next_is src us (codes "WITH")) (λ t u us. refl) (behind_next ts (options src log) (options-ahead src log more)) done

pub disk-ahead : (src : List ℕ) (more ts : List Token) → Agrees behind_it more ts (disk src ts) (disk src (ts ++ more))
unfolding disk
disk-ahead src more ts =
    and_then _ _ (keyword-ahead src (codes "DISK") more ts) (λ a h. equal_filled-ahead src more a)

unit-ahead : (src : List ℕ) (more ts : List Token) → Agrees behind_it more ts (unit src ts) (unit src (ts ++ more))
unfolding unit
unit-ahead src more ts =
    if_next ts (λ us. next_is src us (codes "FILE")) (λ t u us. refl)
    (and_then _ _ (behind_next ts (equal_filled src) (equal_filled-ahead src more)) (λ a h. done))
    (if_next ts (λ us. next_is src us (codes "FILEGROUP")) (λ t u us. refl)
    (and_then _ _ (behind_next ts (equal_filled src) (equal_filled-ahead src more)) (λ a h. done)) (stuck-ahead behind_it more ts))

units_from-ahead : (src : List ℕ) (left : List Token) (found : List UnitName) (more ts : List Token) → length ts ≤ length left →
    Agrees behind_it more ts (units_from src left found ts) (units_from src (left ++ more) found (ts ++ more))
unfolding units_from
units_from-ahead src [] found more ts few = quiet (omega (arith, few)) (stuck-ahead behind_it more ts)
units_from-ahead src (x ∷ left) found more ts few =
    and_then _ _ (unit-ahead src more ts) (λ a h.
    if_next a.1 (λ us. next_sign us 44) (λ t u us. refl)
    (behind_by a.1 (units_from src left (found ++ a.0 ∷ [])) (units_from src (left ++ more) (found ++ a.0 ∷ []))
    (units_from-ahead src left (found ++ a.0 ∷ []) more (drop 1 a.1) (omega (arith, few, h, length-drop 1 a.1)))) done)

some_units-ahead : (src : List ℕ) (more ts : List Token) → Agrees behind_it more ts (some_units src ts) (some_units src (ts ++ more))
unfolding some_units
some_units-ahead src more ts = units_from-ahead src ts [] more ts (omega arith)

pub units-ahead : (src : List ℕ) (more ts : List Token) → Agrees behind_it more ts (units src ts) (units src (ts ++ more))
unfolding units
units-ahead src more ts =
    if_next ts (λ us. next_is src us (codes "FILE") || next_is src us (codes "FILEGROUP")) (λ t u us. refl) (some_units-ahead src more ts) done

backup_database-ahead : (src : List ℕ) (more ts : List Token) → Agrees behind_it more ts (backup_database src ts) (backup_database src (ts ++ more))
unfolding backup_database
backup_database-ahead src more ts =
    and_then _ _ (name-ahead src more ts) (λ a h.
    and_then _ _ (units-ahead src more a.1) (λ b h.
    and_then _ _ (keyword-ahead src (codes "TO") more b.1) (λ c h.
    and_then _ _ (disk-ahead src more c) (λ d h.
    and_then _ _ (with_options-ahead src false more d.1) (λ e h. done)))))

backup_log-ahead : (src : List ℕ) (more ts : List Token) → Agrees behind_it more ts (backup_log src ts) (backup_log src (ts ++ more))
unfolding backup_log
backup_log-ahead src more ts =
    and_then _ _ (name-ahead src more ts) (λ a h.
    and_then _ _ (keyword-ahead src (codes "TO") more a.1) (λ c h.
    and_then _ _ (disk-ahead src more c) (λ d h.
    and_then _ _ (with_options-ahead src true more d.1) (λ e h. done))))

pub backup-ahead : (src : List ℕ) (more ts : List Token) → Agrees behind_it more ts (backup src ts) (backup src (ts ++ more))
unfolding backup
backup-ahead src more ts =
    if_next ts (λ us. next_is src us (codes "DATABASE")) (λ t u us. refl) (behind_next ts (backup_database src) (backup_database-ahead src more))
    (if_next ts (λ us. next_is src us (codes "LOG")) (λ t u us. refl) (behind_next ts (backup_log src) (backup_log-ahead src more)) (stuck-ahead behind_it more ts))

with_file-ahead : (src : List ℕ) (more ts : List Token) → Agrees behind_it more ts (with_file src ts) (with_file src (ts ++ more))
unfolding with_file
with_file-ahead src more ts =
    if_next ts (λ us. next_is src us (codes "WITH")) (λ t u us. refl)
    (and_then _ _ (behind_next ts (keyword src (codes "FILE")) (keyword-ahead src (codes "FILE") more)) (λ a h.
    and_then _ _ (equal_number-ahead more a) (λ b h. done))) done

pub query_medium-ahead : (query : MediumQuery) (src : List ℕ) (more ts : List Token) → Agrees behind_it more ts (query_medium query src ts) (query_medium query src (ts ++ more))
unfolding query_medium
query_medium-ahead query src more ts =
    and_then _ _ (keyword-ahead src (codes "FROM") more ts) (λ a h.
    and_then _ _ (disk-ahead src more a) (λ b h.
    and_then _ _ (with_file-ahead src more b.1) (λ c h. done)))
