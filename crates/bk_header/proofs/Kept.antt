-- A header that keeps the conditions, and what its types say, have a spelling.
use Rattle.std.proofs.Common.{ℕ, ◌<◌, List, [], ◌∷◌, length, Result, Ok, Err}
use Rattle.std.specs.Prelude.{OnOk}
use Rattle.std.specs.List.{AllByRecursion}
use Rattle.bk_ids.specs.declared.path.Branch.{Branch}
use Rattle.bk_world.specs.declared.header.HeaderFile.{HeaderFile}
use Rattle.bk_world.specs.declared.header.Header.{Header}
use Rattle.bk_fields.specs.Guids.{IsGuid}
use Rattle.bk_header.specs.Conditions.{IsHeaderPath, IsHeaderFile, IsHeader, KeepsPath, KeepsConditions, HasRanges, HasFileRanges, HasListRanges}

-- what holds whatever comes out
pub always : {T E : Type 0} (r : Result T E) (P : Type 0) → P → OnOk r P
always (Ok x) P h = h
always (Err e) P h = tt

branches_kept : (last : ℕ) (path : List Branch) → AllByRecursion (λ b. b.start < last) path → AllByRecursion (λ b. IsGuid b.guid) path → AllByRecursion (λ b. IsGuid b.guid × (b.start < last)) path
branches_kept last [] h g = tt
branches_kept last (b ∷ path) h g = ((g.0, h.0), branches_kept last path h.1 g.1)

path_kept : (last : ℕ) (path : List Branch) → KeepsPath last path → AllByRecursion (λ b. IsGuid b.guid) path → IsHeaderPath last path
path_kept last [] h g = absurd h
path_kept last (b ∷ path) h g = (h.0, (h.1.0, branches_kept last (b ∷ path) h.1.1 g))

each_kept : (groups : ℕ) (files : List HeaderFile) → AllByRecursion (λ f. f.spec.group < groups) files → AllByRecursion HasFileRanges files → AllByRecursion (IsHeaderFile groups) files
each_kept groups [] h r = tt
each_kept groups (f ∷ files) h r = (record { group = h.0; extents = r.0.extents; name = r.0.name; path = r.0.path }, each_kept groups files h.1 r.1)

pub header_kept : (h : Header) → KeepsConditions h → HasRanges h → HasListRanges h → IsHeader h
header_kept h k r l = record {
  version = k.version;
  set = r.set;
  family = r.family;
  first = r.first;
  checkpoint = r.checkpoint;
  last = r.last;
  range = k.range;
  database_backup = r.database_backup;
  base = r.base;
  base_there = k.base_there;
  start = k.start;
  finish = k.finish;
  expiry = k.expiry;
  database = l.database;
  name = l.name;
  path = path_kept h.last h.path k.path l.guids;
  path_short = k.path_short;
  groups_some = k.groups_some;
  groups_few = k.groups_few;
  groups = l.groups;
  files = record { some = k.files.some; few = k.files.few; numbered = k.files.numbered; each = each_kept (length h.groups) h.files k.files.groups_there l.files; small = k.files.small };
  log_name = l.log_name;
  log_path = l.log_path;
}
