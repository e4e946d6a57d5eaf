-- The options of BACKUP.
use Rattle.std.specs.Prelude.{ℕ, Bool, true, false, not, ◌&&◌, is_none, if◌then◌else◌, List, [], ◌∷◌, drop, codes, Option, Some, None, Ok}
use Rattle.std.specs.Option.{option_map}
use Rattle.bk_time.specs.Times.{time_of}
use Rattle.bk_token.specs.declared.token.Token.{Token}
use Rattle.bk_items.specs.declared.options.BackupOptions.{BackupOptions}
use Rattle.bk_items.specs.declared.options.IdleOption.{IdleOption}
use Rattle.bk_media_forms.specs.declared.backup_options.BackupWord.{BackupWord}
use Rattle.bk_media_forms.specs.declared.backup_options.BackupWord.TheVariants.{Init, NoInit, Format, NoFormat, Skip, NoSkip, Checksum, NoChecksum, Name, ExpireDate, RetainDays, CopyOnly, Differential, NoRecovery, NoTruncate, Idle}
use Rattle.bk_parse.specs.Parse.{Parsed, ◌>>=◌, stuck, next_is, next_sign, sign, text, equal_text, equal_number}
use Rattle.bk_media_forms.specs.Idle.{or_else, idle_word, is_marked, with_mark, no_idle, skip_value}

abbrev pub timed : Option ℕ → List Token → List Token → Parsed (ℕ × List Token)
timed None ts rest = stuck ts
timed (Some ms) ts rest = Ok (ms, rest)

-- a text that is a time
unfoldable pub time : List ℕ → List Token → Parsed (ℕ × List Token)
time src ts = do
  t ← text src ts
  timed (time_of t.0) ts t.1

-- = a time
unfoldable pub equal_time : List ℕ → List Token → Parsed (ℕ × List Token)
equal_time src ts = do
  equal ← sign 61 ts
  time src equal

-- an option of BACKUP that says how the medium is written
unfoldable pub medium_word : List ℕ → List Token → Option BackupWord
medium_word src ts =
    if next_is src ts (codes "INIT") then Some Init
    else (if next_is src ts (codes "NOINIT") then Some NoInit
    else (if next_is src ts (codes "FORMAT") then Some Format
    else (if next_is src ts (codes "NOFORMAT") then Some NoFormat
    else (if next_is src ts (codes "SKIP") then Some Skip
    else (if next_is src ts (codes "NOSKIP") then Some NoSkip
    else None)))))

-- an option of BACKUP that says what the set holds; log says that the log is backed up
unfoldable pub set_word : List ℕ → Bool → List Token → Option BackupWord
set_word src log ts =
    if next_is src ts (codes "CHECKSUM") then Some Checksum
    else (if next_is src ts (codes "NO_CHECKSUM") then Some NoChecksum
    else (if next_is src ts (codes "COPY_ONLY") then Some CopyOnly
    else (if not log && next_is src ts (codes "DIFFERENTIAL") then Some Differential
    else (if log && next_is src ts (codes "NORECOVERY") then Some NoRecovery
    else (if log && next_is src ts (codes "NO_TRUNCATE") then Some NoTruncate
    else None)))))

-- an option of BACKUP with a value
unfoldable pub valued_word : List ℕ → List Token → Option BackupWord
valued_word src ts =
    if next_is src ts (codes "NAME") then Some Name
    else (if next_is src ts (codes "EXPIREDATE") then Some ExpireDate
    else (if next_is src ts (codes "RETAINDAYS") then Some RetainDays
    else None))

-- an option of BACKUP with a value, or one without effect
abbrev pub other_word : List ℕ → List Token → Option BackupWord
other_word src ts = or_else (valued_word src ts) (option_map Idle (idle_word src ts))

-- an option of BACKUP, by its word
abbrev pub backup_word : List ℕ → Bool → List Token → Option BackupWord
backup_word src log ts = or_else (medium_word src ts) (or_else (set_word src log ts) (other_word src ts))

-- a switch that is there, and on or off
abbrev pub is_switched : Option Bool → Bool → Bool
is_switched None on = false
is_switched (Some true) on = on
is_switched (Some false) on = not on

-- The option may join these: it isn't there, nor the other of its pair, and FORMAT and NOINIT don't stand together.
unfoldable pub joins : BackupOptions → BackupWord → Bool
joins o Init = is_none o.init
joins o NoInit = is_none o.init && not (is_switched o.format true)
joins o Format = is_none o.format && not (is_switched o.init false)
joins o NoFormat = is_none o.format
joins o Skip = is_none o.skip
joins o NoSkip = is_none o.skip
joins o Checksum = is_none o.checksum
joins o NoChecksum = is_none o.checksum
joins o Name = is_none o.name
joins o ExpireDate = is_none o.expire
joins o RetainDays = is_none o.retain
joins o CopyOnly = not o.copy_only
joins o Differential = not o.differential
joins o NoRecovery = not o.no_recovery
joins o NoTruncate = not o.no_truncate
joins o (Idle w) = not (is_marked o.idle w)

-- = text, as the name of the set
unfoldable pub named : List ℕ → BackupOptions → List Token → Parsed (BackupOptions × List Token)
named src o ts = do
  t ← equal_text src ts
  Ok (record o { name = Some t.0 }, t.1)

-- = a time, as the expiry
unfoldable pub expiring : List ℕ → BackupOptions → List Token → Parsed (BackupOptions × List Token)
expiring src o ts = do
  t ← equal_time src ts
  Ok (record o { expire = Some t.0 }, t.1)

-- = n, as the days to be retained
unfoldable pub retained : BackupOptions → List Token → Parsed (BackupOptions × List Token)
retained o ts = do
  n ← equal_number ts
  Ok (record o { retain = Some n.0 }, n.1)

-- the value of an option without effect
unfoldable pub idled : List ℕ → BackupOptions → IdleOption → List Token → Parsed (BackupOptions × List Token)
idled src o w ts = do
  rest ← skip_value src w ts
  Ok (record o { idle = with_mark o.idle w }, rest)

-- the options with a word that has no value
unfoldable pub switched : BackupOptions → BackupWord → BackupOptions
switched o Init = record o { init = Some true }
switched o NoInit = record o { init = Some false }
switched o Format = record o { format = Some true }
switched o NoFormat = record o { format = Some false }
switched o Skip = record o { skip = Some true }
switched o NoSkip = record o { skip = Some false }
switched o Checksum = record o { checksum = Some true }
switched o NoChecksum = record o { checksum = Some false }
switched o CopyOnly = record o { copy_only = true }
switched o Differential = record o { differential = true }
switched o NoRecovery = record o { no_recovery = true }
switched o NoTruncate = record o { no_truncate = true }
switched o _ = o

-- the options with one more, whose value stands there, if it has one
unfoldable pub joined : List ℕ → BackupOptions → BackupWord → List Token → Parsed (BackupOptions × List Token)
joined src o Name ts = named src o ts
joined src o ExpireDate ts = expiring src o ts
joined src o RetainDays ts = retained o ts
joined src o (Idle w) ts = idled src o w ts
joined src o w ts = Ok (switched o w, ts)

abbrev pub joined_by : List ℕ → BackupOptions → Option BackupWord → List Token → Parsed (BackupOptions × List Token)
joined_by src o None ts = stuck ts
joined_by src o (Some w) ts = if joins o w then joined src o w (drop 1 ts) else stuck ts

-- the options with the one that stands there; it can't go on at one that can't join them
unfoldable pub one_more : List ℕ → Bool → BackupOptions → List Token → Parsed (BackupOptions × List Token)
one_more src log o ts = joined_by src o (backup_word src log ts) ts

-- options with commas between, added to these; each takes a token, so that the tokens where they begin bound their number
unfoldable pub options_from : List ℕ → Bool → List Token → BackupOptions → List Token → Parsed (BackupOptions × List Token)
options_from src log [] o ts = stuck ts
options_from src log (_ ∷ left) o ts = do
  more ← one_more src log o ts
  if next_sign more.1 44 then options_from src log left more.0 (drop 1 more.1) else Ok (more.0, more.1)

-- no option
abbrev pub no_options : BackupOptions
no_options = record {
  init = None;
  format = None;
  skip = None;
  checksum = None;
  name = None;
  expire = None;
  retain = None;
  copy_only = false;
  differential = false;
  no_recovery = false;
  no_truncate = false;
  idle = no_idle;
}

-- options with commas between
unfoldable pub options : List ℕ → Bool → List Token → Parsed (BackupOptions × List Token)
options src log ts = options_from src log ts no_options ts

-- WITH options, or nothing
unfoldable pub with_options : List ℕ → Bool → List Token → Parsed (BackupOptions × List Token)
with_options src log ts = if next_is src ts (codes "WITH") then options src log (drop 1 ts) else Ok (no_options, ts)
