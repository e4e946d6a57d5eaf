-- How the header of a backup set is spelled.
use Rattle.std.specs.Prelude.{ℕ, ◌+◌, Bool, List, ◌++◌, length, Option, Some, None, is_some, if◌then◌else◌}
use Rattle.std.specs.List.{flat_map}
use Rattle.bk_ids.specs.declared.path.Branch.{Branch}
use Rattle.bk_world.specs.declared.database.Base.{Base}
use Rattle.bk_world.specs.declared.header.SetKind.{SetKind}
use Rattle.bk_world.specs.declared.header.SetKind.TheVariants.{Full, Log, File, Differential}
use Rattle.bk_world.specs.declared.header.HeaderFile.{HeaderFile}
use Rattle.bk_world.specs.declared.header.Header.{Header}
use Rattle.bk_bytes.specs.Field.{bytes_of}
use Rattle.bk_fields.specs.Guids.{guid_bytes}
use Rattle.bk_fields.specs.Models.{model_bytes}

-- a text: its length in 2 bytes, and its bytes
abbrev pub text_bytes : List ℕ → List ℕ
text_bytes text = bytes_of 2 (length text) ++ text

abbrev pub kind_number : SetKind → ℕ
kind_number Full = 1
kind_number Log = 2
kind_number File = 4
kind_number Differential = 5

-- a bit of the flags: its worth where it is set
abbrev pub flag : Bool → ℕ → ℕ
flag set worth = if set then worth else 0

-- copy-only, bulk, begins chain, checksums, a base is there, an expiry is there, the lowest bit first
abbrev pub flags_of : Header → ℕ
flags_of h = flag h.copy_only 1 + flag h.bulk 2 + flag h.begins_chain 4 + flag h.checksums 8 + flag (is_some h.base) 16 + flag (is_some h.expiry) 32

-- where there is no base, zeros
abbrev pub base_or_zero : Option Base → Base
base_or_zero None = record { set = record { high = 0; low = 0 }; lsn = 0 }
base_or_zero (Some base) = base

abbrev pub base_bytes : Base → List ℕ
base_bytes base = guid_bytes base.set ++ bytes_of 8 base.lsn

-- where there is no expiry, zero
abbrev pub time_or_zero : Option ℕ → ℕ
time_or_zero None = 0
time_or_zero (Some time) = time

abbrev pub branch_bytes : Branch → List ℕ
branch_bytes branch = guid_bytes branch.guid ++ bytes_of 8 branch.start

abbrev pub in_set_number : Bool → ℕ
in_set_number in_set = flag in_set 1

abbrev pub file_bytes : HeaderFile → List ℕ
file_bytes file =
    bytes_of 2 file.spec.number ++ (bytes_of 1 file.spec.group ++ (bytes_of 4 file.spec.extents ++ (bytes_of 1 (in_set_number file.in_set)
    ++ (text_bytes file.spec.name ++ text_bytes file.spec.path))))

-- what the set is: the version of the layout, its kind, the recovery model, and flags
abbrev pub what_bytes : Header → List ℕ
what_bytes h = bytes_of 2 h.version ++ (bytes_of 1 (kind_number h.kind) ++ (model_bytes h.model ++ bytes_of 1 (flags_of h)))

-- the log records that it holds
abbrev pub range_bytes : Header → List ℕ
range_bytes h = bytes_of 8 h.first ++ (bytes_of 8 h.checkpoint ++ (bytes_of 8 h.last ++ bytes_of 8 h.database_backup))

abbrev pub times_bytes : Header → List ℕ
times_bytes h = bytes_of 8 h.start ++ (bytes_of 8 h.finish ++ bytes_of 8 (time_or_zero h.expiry))

-- all fields of one length
abbrev pub fixed_bytes : Header → List ℕ
fixed_bytes h = what_bytes h ++ ((guid_bytes h.set ++ guid_bytes h.family) ++ (range_bytes h ++ (base_bytes (base_or_zero h.base) ++ times_bytes h)))

-- names, branches, filegroups, data files, and the log's file
abbrev pub lists_bytes : Header → List ℕ
lists_bytes h =
    text_bytes h.database ++ (text_bytes h.name ++ ((bytes_of 2 (length h.path) ++ flat_map branch_bytes h.path)
    ++ ((bytes_of 1 (length h.groups) ++ flat_map text_bytes h.groups) ++ ((bytes_of 2 (length h.files) ++ flat_map file_bytes h.files)
    ++ (text_bytes h.log_name ++ text_bytes h.log_path)))))

-- the one spelling of a header
unfoldable pub spelling : Header → List ℕ
spelling h = fixed_bytes h ++ lists_bytes h
