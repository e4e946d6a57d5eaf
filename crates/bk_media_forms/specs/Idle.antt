-- Options without effect, in BACKUP and RESTORE.
use Rattle.std.specs.Prelude.{ℕ, Bool, true, false, if◌then◌else◌, List, codes, Option, Some, None, Ok}
use Rattle.bk_items.specs.declared.options.IdleOption.{IdleOption}
use Rattle.bk_items.specs.declared.options.IdleOption.TheVariants.{Stats, Rewind, NoRewind, Unload, NoUnload, Description, MediaName, MediaDescription, BufferCount, MaxTransferSize, BlockSize, StopOnError, NoCompression}
use Rattle.bk_items.specs.declared.options.IdleOptions.{IdleOptions}
use Rattle.bk_token.specs.declared.token.Token.{Token}
use Rattle.bk_parse.specs.Parse.{Parsed, ◌>>=◌, next_is, next_sign, equal_text, equal_number}

-- the first of two readings that reads something
abbrev pub or_else : {A : Type 0} → Option A → Option A → Option A
or_else None other = other
or_else (Some x) other = Some x

-- an option that is a word
unfoldable pub bare_word : List ℕ → List Token → Option IdleOption
bare_word src ts =
    if next_is src ts (codes "REWIND") then Some Rewind
    else (if next_is src ts (codes "NOREWIND") then Some NoRewind
    else (if next_is src ts (codes "UNLOAD") then Some Unload
    else (if next_is src ts (codes "NOUNLOAD") then Some NoUnload
    else (if next_is src ts (codes "STOP_ON_ERROR") then Some StopOnError
    else (if next_is src ts (codes "NO_COMPRESSION") then Some NoCompression
    else None)))))

-- an option that has a text
unfoldable pub text_word : List ℕ → List Token → Option IdleOption
text_word src ts =
    if next_is src ts (codes "DESCRIPTION") then Some Description
    else (if next_is src ts (codes "MEDIANAME") then Some MediaName
    else (if next_is src ts (codes "MEDIADESCRIPTION") then Some MediaDescription
    else None))

-- an option that has a number, or may have one
unfoldable pub number_word : List ℕ → List Token → Option IdleOption
number_word src ts =
    if next_is src ts (codes "STATS") then Some Stats
    else (if next_is src ts (codes "BUFFERCOUNT") then Some BufferCount
    else (if next_is src ts (codes "MAXTRANSFERSIZE") then Some MaxTransferSize
    else (if next_is src ts (codes "BLOCKSIZE") then Some BlockSize
    else None)))

-- an option without effect, by its word
abbrev pub idle_word : List ℕ → List Token → Option IdleOption
idle_word src ts = or_else (bare_word src ts) (or_else (text_word src ts) (number_word src ts))

-- the option is there already
abbrev pub is_marked : IdleOptions → IdleOption → Bool
is_marked o Stats = o.stats
is_marked o Rewind = o.rewind
is_marked o NoRewind = o.no_rewind
is_marked o Unload = o.unload
is_marked o NoUnload = o.no_unload
is_marked o Description = o.description
is_marked o MediaName = o.media_name
is_marked o MediaDescription = o.media_description
is_marked o BufferCount = o.buffer_count
is_marked o MaxTransferSize = o.max_transfer_size
is_marked o BlockSize = o.block_size
is_marked o StopOnError = o.stop_on_error
is_marked o NoCompression = o.no_compression

-- the options with one more
unfoldable pub with_mark : IdleOptions → IdleOption → IdleOptions
with_mark o Stats = record o { stats = true }
with_mark o Rewind = record o { rewind = true }
with_mark o NoRewind = record o { no_rewind = true }
with_mark o Unload = record o { unload = true }
with_mark o NoUnload = record o { no_unload = true }
with_mark o Description = record o { description = true }
with_mark o MediaName = record o { media_name = true }
with_mark o MediaDescription = record o { media_description = true }
with_mark o BufferCount = record o { buffer_count = true }
with_mark o MaxTransferSize = record o { max_transfer_size = true }
with_mark o BlockSize = record o { block_size = true }
with_mark o StopOnError = record o { stop_on_error = true }
with_mark o NoCompression = record o { no_compression = true }

-- no option without effect
abbrev pub no_idle : IdleOptions
no_idle = record {
  stats = false;
  rewind = false;
  no_rewind = false;
  unload = false;
  no_unload = false;
  description = false;
  media_name = false;
  media_description = false;
  buffer_count = false;
  max_transfer_size = false;
  block_size = false;
  stop_on_error = false;
  no_compression = false;
}

-- = text
unfoldable pub skip_text : List ℕ → List Token → Parsed (List Token)
skip_text src ts = do
  t ← equal_text src ts
  Ok t.1

-- = n
unfoldable pub skip_number : List Token → Parsed (List Token)
skip_number ts = do
  n ← equal_number ts
  Ok n.1

-- = n, or nothing
unfoldable pub skip_share : List Token → Parsed (List Token)
skip_share ts = if next_sign ts 61 then skip_number ts else Ok ts

-- what stands behind the word of an option: its value, if it has one
unfoldable pub skip_value : List ℕ → IdleOption → List Token → Parsed (List Token)
skip_value src Stats ts = skip_share ts
skip_value src Description ts = skip_text src ts
skip_value src MediaName ts = skip_text src ts
skip_value src MediaDescription ts = skip_text src ts
skip_value src BufferCount ts = skip_number ts
skip_value src MaxTransferSize ts = skip_number ts
skip_value src BlockSize ts = skip_number ts
skip_value src _ ts = Ok ts
