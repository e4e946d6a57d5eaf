-- How the header of a backup set is read from the front of bytes.
use Rattle.std.specs.Prelude.{ℕ, zero, suc, ◌+◌, ◌/◌, ◌%◌, ◌^◌, ◌<◌, Bool, true, false, List, [], ◌∷◌, length, Option, Some, None, nat_lt, nat_le, ◌==◌, ◌&&◌, is_some, if◌then◌else◌}
use Rattle.std.specs.List.{list_all, AllByRecursion}
use Rattle.bk_ids.specs.declared.path.Branch.{Branch}
use Rattle.bk_world.specs.declared.database.Base.{Base}
use Rattle.bk_world.specs.declared.header.SetKind.{SetKind}
use Rattle.bk_world.specs.declared.header.SetKind.TheVariants.{Full, Log, File, Differential}
use Rattle.bk_world.specs.declared.header.HeaderFile.{HeaderFile}
use Rattle.bk_world.specs.declared.header.Header.{Header}
use Rattle.bk_bytes.specs.Codec.{◌>>=◌, Codec, IsString, number, string, followed, converted, counted}
use Rattle.bk_fields.specs.Guids.{IsGuid, guid_form}
use Rattle.bk_fields.specs.Models.{model_form}
use Rattle.bk_header.specs.declared.fixed.What.{What}
use Rattle.bk_header.specs.declared.fixed.Range.{Range}
use Rattle.bk_header.specs.declared.fixed.Times.{Times}
use Rattle.bk_header.specs.declared.fixed.Fixed.{Fixed}
use Rattle.bk_header.specs.declared.lists.Lists.{Lists}
use Rattle.bk_header.specs.Spelling.{kind_number, in_set_number, flags_of, base_or_zero, time_or_zero}
use Rattle.bk_header.specs.Conditions.{total_extents, IsHeader}

-- ---- fields of one length

unfoldable pub version_form : Codec (Unit {0})
version_form = converted (number 2) (λ n. if n == 1 then Some tt else None) (λ _. 1) (λ _. Unit {0})

-- the kind of a number
abbrev pub kind_at : ℕ → Option SetKind
kind_at zero = None
kind_at (suc zero) = Some Full
kind_at (suc (suc zero)) = Some Log
kind_at (suc (suc (suc zero))) = None
kind_at (suc (suc (suc (suc zero)))) = Some File
kind_at (suc (suc (suc (suc (suc zero))))) = Some Differential
kind_at (suc (suc (suc (suc (suc (suc n)))))) = None

unfoldable pub kind_form : Codec SetKind
kind_form = converted (number 1) kind_at kind_number (λ _. Unit {0})

-- the flags have 6 bits
unfoldable pub what_form : Codec What
what_form = converted (followed version_form (λ _. followed kind_form (λ _. followed model_form (λ _. number 1))))
    (λ x. if nat_lt x.1.1.1 64 then Some (record { kind = x.1.0; model = x.1.1.0; flags = x.1.1.1 }) else None)
    (λ what. (tt, (what.kind, (what.model, what.flags))))
    (λ what. what.flags < 64)

pub record IsInRange (range : Range) : Type 0 where
  pub first : range.first < 2 ^ 64
  pub checkpoint : range.checkpoint < 2 ^ 64
  pub last : range.last < 2 ^ 64
  pub database_backup : range.database_backup < 2 ^ 64

unfoldable pub range_form : Codec Range
range_form = converted (followed (number 8) (λ _. followed (number 8) (λ _. followed (number 8) (λ _. number 8))))
    (λ x. Some (record { first = x.0; checkpoint = x.1.0; last = x.1.1.0; database_backup = x.1.1.1 }))
    (λ range. (range.first, (range.checkpoint, (range.last, range.database_backup))))
    IsInRange

unfoldable pub base_form : Codec Base
base_form = converted (followed guid_form (λ _. number 8))
    (λ x. Some (record { set = x.0; lsn = x.1 }))
    (λ base. (base.set, base.lsn))
    (λ base. IsGuid base.set × (base.lsn < 2 ^ 64))

pub record AreTimes (times : Times) : Type 0 where
  pub start : times.start < 2 ^ 64
  pub finish : times.finish < 2 ^ 64
  pub expiry : times.expiry < 2 ^ 64

unfoldable pub times_form : Codec Times
times_form = converted (followed (number 8) (λ _. followed (number 8) (λ _. number 8)))
    (λ x. Some (record { start = x.0; finish = x.1.0; expiry = x.1.1 }))
    (λ times. (times.start, (times.finish, times.expiry)))
    AreTimes

pub record IsFixed (fixed : Fixed) : Type 0 where
  pub what : fixed.what.flags < 64
  pub set : IsGuid fixed.set
  pub family : IsGuid fixed.family
  pub range : IsInRange fixed.range
  pub base : IsGuid fixed.base.set × (fixed.base.lsn < 2 ^ 64)
  pub times : AreTimes fixed.times

unfoldable pub fixed_form : Codec Fixed
fixed_form = converted (followed what_form (λ _. followed (followed guid_form (λ _. guid_form)) (λ _. followed range_form (λ _. followed base_form (λ _. times_form)))))
    (λ x. Some (record { what = x.0; set = x.1.0.0; family = x.1.0.1; range = x.1.1.0; base = x.1.1.1.0; times = x.1.1.1.1 }))
    (λ fixed. (fixed.what, ((fixed.set, fixed.family), (fixed.range, (fixed.base, fixed.times)))))
    IsFixed

-- ---- lists

pub record IsBranch (branch : Branch) : Type 0 where
  pub guid : IsGuid branch.guid
  pub start : branch.start < 2 ^ 64

unfoldable pub branch_form : Codec Branch
branch_form = converted (followed guid_form (λ _. number 8))
    (λ x. Some (record { guid = x.0; start = x.1 }))
    (λ branch. (branch.guid, branch.start))
    IsBranch

-- whether a file is in the set
abbrev pub in_set_at : ℕ → Option Bool
in_set_at zero = Some false
in_set_at (suc zero) = Some true
in_set_at (suc (suc n)) = None

unfoldable pub in_set_form : Codec Bool
in_set_form = converted (number 1) in_set_at in_set_number (λ _. Unit {0})

pub record IsFile (file : HeaderFile) : Type 0 where
  pub number : file.spec.number < 2 ^ 16
  pub group : file.spec.group < 2 ^ 8
  pub extents : file.spec.extents < 2 ^ 32
  pub name : IsString 1 64 file.spec.name
  pub path : IsString 1 100 file.spec.path

unfoldable pub file_form : Codec HeaderFile
file_form = converted
    (followed (number 2) (λ _. followed (number 1) (λ _. followed (number 4) (λ _. followed in_set_form (λ _. followed (string 1 64) (λ _. string 1 100))))))
    (λ x. Some (record { spec = record { number = x.0; group = x.1.0; extents = x.1.1.0; name = x.1.1.1.1.0; path = x.1.1.1.1.1 }; in_set = x.1.1.1.0 }))
    (λ file. (file.spec.number, (file.spec.group, (file.spec.extents, (file.in_set, (file.spec.name, file.spec.path))))))
    IsFile

pub record AreLists (lists : Lists) : Type 0 where
  pub database : IsString 1 64 lists.database
  pub name : IsString 0 65535 lists.name
  pub path : (length lists.path < 256 ^ 2) × AllByRecursion IsBranch lists.path
  pub groups : (length lists.groups < 256 ^ 1) × AllByRecursion (IsString 1 64) lists.groups
  pub files : (length lists.files < 256 ^ 2) × AllByRecursion IsFile lists.files
  pub log_name : IsString 1 64 lists.log_name
  pub log_path : IsString 1 100 lists.log_path

unfoldable pub lists_form : Codec Lists
lists_form = converted
    (followed (string 1 64) (λ _. followed (string 0 65535) (λ _. followed (counted 2 branch_form) (λ _. followed (counted 1 (string 1 64)) (λ _. followed (counted 2 file_form) (λ _. followed (string 1 64) (λ _. string 1 100)))))))
    (λ x. Some (record { database = x.0; name = x.1.0; path = x.1.1.0; groups = x.1.1.1.0; files = x.1.1.1.1.0; log_name = x.1.1.1.1.1.0; log_path = x.1.1.1.1.1.1 }))
    (λ lists. (lists.database, (lists.name, (lists.path, (lists.groups, (lists.files, (lists.log_name, lists.log_path)))))))
    AreLists

-- ---- what a header's parts make, where they keep the conditions

-- the base, where its flag is set; zeros, where it isn't
abbrev pub base_in : Bool → Base → Option (Option Base)
base_in true base = Some (Some base)
base_in false base = if base.set.high == 0 && base.set.low == 0 && base.lsn == 0 then Some None else None

-- the expiry, where its flag is set; zero, where it isn't
abbrev pub expiry_in : Bool → ℕ → Option (Option ℕ)
expiry_in true time = if nat_le time 253402300799999 then Some (Some time) else None
expiry_in false time = if time == 0 then Some None else None

abbrev pub is_data_range : ℕ → ℕ → ℕ → Bool
is_data_range first checkpoint last = nat_le first checkpoint && nat_lt checkpoint last

abbrev pub is_range : SetKind → ℕ → ℕ → ℕ → Bool
is_range Log first checkpoint last = nat_lt first last
is_range Full first checkpoint last = is_data_range first checkpoint last
is_range File first checkpoint last = is_data_range first checkpoint last
is_range Differential first checkpoint last = is_data_range first checkpoint last

abbrev pub has_its_base : SetKind → Option Base → Bool
has_its_base Differential base = is_some base
has_its_base Full base = true
has_its_base Log base = true
has_its_base File base = true

abbrev pub starts_rise : ℕ → List Branch → Bool
starts_rise least [] = true
starts_rise least (branch ∷ path) = nat_le least branch.start && starts_rise branch.start path

-- at most 64 branches, of which the first starts at 1, starts don't fall, and all are below last
abbrev pub is_path : ℕ → List Branch → Bool
is_path last [] = false
is_path last (branch ∷ path) =
    branch.start == 1 && starts_rise 1 path && list_all (λ b. nat_lt b.start last) (branch ∷ path) && nat_le (length (branch ∷ path)) 64

abbrev pub are_numbered : ℕ → List HeaderFile → Bool
are_numbered number [] = true
are_numbered number (file ∷ files) = file.spec.number == number && are_numbered (number + 1) files

abbrev pub are_files : ℕ → List HeaderFile → Bool
are_files groups files =
    nat_lt 0 (length files) && nat_le (length files) 16 && are_numbered 1 files && list_all (λ file. nat_lt file.spec.group groups) files
    && nat_le (total_extents files) 4096

-- a bit of the flags
abbrev pub bit : ℕ → ℕ → Bool
bit flags worth = flags / worth % 2 == 1

-- the conditions on the fields of one length
abbrev pub keeps_order : Fixed → Option Base → Bool
keeps_order fixed base =
    is_range fixed.what.kind fixed.range.first fixed.range.checkpoint fixed.range.last && has_its_base fixed.what.kind base
    && nat_le fixed.times.start 253402300799999 && nat_le fixed.times.finish 253402300799999

-- the conditions on the lists
abbrev pub keeps_limits : ℕ → Lists → Bool
keeps_limits last lists =
    is_path last lists.path && nat_lt 0 (length lists.groups) && nat_le (length lists.groups) 8 && are_files (length lists.groups) lists.files

unfoldable pub header_of : Fixed → Option Base → Option ℕ → Lists → Header
header_of fixed base expiry lists = record {
  version = 1;
  kind = fixed.what.kind;
  model = fixed.what.model;
  copy_only = bit fixed.what.flags 1;
  bulk = bit fixed.what.flags 2;
  begins_chain = bit fixed.what.flags 4;
  checksums = bit fixed.what.flags 8;
  set = fixed.set;
  family = fixed.family;
  first = fixed.range.first;
  checkpoint = fixed.range.checkpoint;
  last = fixed.range.last;
  database_backup = fixed.range.database_backup;
  base = base;
  start = fixed.times.start;
  finish = fixed.times.finish;
  expiry = expiry;
  database = lists.database;
  name = lists.name;
  path = lists.path;
  groups = lists.groups;
  files = lists.files;
  log_name = lists.log_name;
  log_path = lists.log_path;
}

unfoldable pub header_from : Fixed → Lists → Option Header
header_from fixed lists = do
  base ← base_in (bit fixed.what.flags 16) fixed.base
  expiry ← expiry_in (bit fixed.what.flags 32) fixed.times.expiry
  if keeps_order fixed base && keeps_limits fixed.range.last lists then Some (header_of fixed base expiry lists) else None

-- the parts of a header
abbrev pub fixed_of : Header → Fixed
fixed_of h = record {
  what = record { kind = h.kind; model = h.model; flags = flags_of h };
  set = h.set;
  family = h.family;
  range = record { first = h.first; checkpoint = h.checkpoint; last = h.last; database_backup = h.database_backup };
  base = base_or_zero h.base;
  times = record { start = h.start; finish = h.finish; expiry = time_or_zero h.expiry };
}

abbrev pub lists_of : Header → Lists
lists_of h = record { database = h.database; name = h.name; path = h.path; groups = h.groups; files = h.files; log_name = h.log_name; log_path = h.log_path }

unfoldable pub header_form : Codec Header
header_form = converted (followed fixed_form (λ _. lists_form)) (λ x. header_from x.0 x.1) (λ h. (fixed_of h, lists_of h)) IsHeader
