-- Whether a header keeps its conditions, as a test.
use Rattle.std.specs.Prelude.{ℕ, Bool, true, List, length, Option, Some, None, nat_lt, nat_le, ◌==◌, ◌&&◌}
use Rattle.std.specs.List.{list_all}
use Rattle.bk_world.specs.declared.header.Header.{Header}
use Rattle.bk_world.specs.declared.header.HeaderFile.{HeaderFile}
use Rattle.bk_header.specs.Reading.{are_files, has_its_base, is_path, is_range}

-- a path of 1 to 100 bytes
abbrev pub has_path : List ℕ → Bool
has_path path = nat_lt 0 (length path) && nat_le (length path) 100

abbrev pub is_expiry : Option ℕ → Bool
is_expiry None = true
is_expiry (Some time) = nat_le time 253402300799999

-- its version is 1, its log records are in order, and its base is there
abbrev pub keeps_what : Header → Bool
keeps_what h = h.version == 1 && is_range h.kind h.first h.checkpoint h.last && has_its_base h.kind h.base

abbrev pub keeps_times : Header → Bool
keeps_times h = nat_le h.start 253402300799999 && nat_le h.finish 253402300799999 && is_expiry h.expiry

abbrev pub keeps_lists : Header → Bool
keeps_lists h = is_path h.last h.path && nat_lt 0 (length h.groups) && nat_le (length h.groups) 8 && are_files (length h.groups) h.files

abbrev pub keeps_texts : Header → Bool
keeps_texts h = nat_le (length h.name) 65535 && list_all (λ (file : HeaderFile). has_path file.spec.path) h.files && has_path h.log_path

-- all of that
abbrev pub keeps_all : Header → Bool
keeps_all h = keeps_what h && keeps_times h && keeps_lists h && keeps_texts h
