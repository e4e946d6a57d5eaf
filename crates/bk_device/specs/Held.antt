-- The contents of the files that a device in memory holds, by name.
use Rattle.std.specs.Prelude.{ℕ, List, Option, None, Some, option_map, string_bytes, not, ◌-◌, slice_set, slice_index}
use Rattle.std.specs.List.{prefix_len}
use Rattle.std.specs.Str.{bytes_eq}
use Rattle.bk_device.specs.Disk.{Files}
use Rattle.bk_device.specs.Replay.{look}
use Rattle.bk_device.specs.declared.held.Held.{Held}
use Rattle.bk_device.specs.declared.held.Version.{Version}
use Rattle.bk_device.specs.declared.held.Version.TheVariants.{Same, Absent, Bytes}

-- a content, over one that came before it
abbrev pub over : Version → Option (List ℕ) → Option (List ℕ)
over Same before = before
over Absent before = None
over (Bytes content) before = Some content.items

abbrev pub begin_of : Held → Option (List ℕ)
begin_of held = option_map (λ content. content.items) held.begin

abbrev pub durable_of : Held → Option (List ℕ)
durable_of held = over held.durable (begin_of held)

abbrev pub current_of : Held → Option (List ℕ)
current_of held = over held.current (durable_of held)

abbrev pub name_of : Held → List ℕ
name_of held = string_bytes held.name

-- a content with another byte at this offset
abbrev pub flipped : ℕ → List ℕ → List ℕ
flipped at content = slice_set content at (255 - slice_index content at)

-- how many entries stand before the first that has the name
abbrev pub place_of : {X : Type 0} → (X → List ℕ) → List X → List ℕ → ℕ
place_of key entries name = prefix_len (λ entry. not (bytes_eq (key entry) name)) entries

-- the files when the device began, as each was last synced, and as a read gives them

abbrev pub begin_files : List Held → Files
begin_files entries = look name_of begin_of entries

abbrev pub durable_files : List Held → Files
durable_files entries = look name_of durable_of entries

abbrev pub current_files : List Held → Files
current_files entries = look name_of current_of entries
