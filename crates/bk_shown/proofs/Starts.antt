-- What is shown of a log without records.
use Rattle.std.proofs.Common.{◌≡◌, ℕ, List, [], map, None, refl, sym, ap, ◌∙◌, subst}
use Rattle.bk_groups.specs.Groups.{AreFiles, Space, group_of, new_space, place_of as space_place}
use Rattle.bk_ids.specs.declared.record.RecoveryModel.TheVariants.{Full}
use Rattle.bk_world.specs.Pending as log
use Rattle.bk_world.specs.Places.{homes, place_of}
use Rattle.bk_world.specs.Telling as telling
use Rattle.bk_world.specs.declared.database.FileSpec.{FileSpec}
use Rattle.bk_shown.specs.Rows.{value_among}
use Rattle.bk_shown.specs.Shown.{LogKeeps, Shows, ShowsRows, pending_of}
use Rattle.bk_shown.specs.Writes.{HaveEntries}
use Rattle.bk_shown.specs.declared.shown.Shown.{Shown}

pub keeps-none : LogKeeps [] 1
unfolding log.pending homes telling.tables telling.entries
keeps-none = record {
  counts = refl;
  sound = tt;
  loads = tt;
  lie = record { rise = tt; each = tt };
  numbers = tt;
  places = record { single = λ id. (0, tt); placed = tt; homed = λ id at e. e };
}

rows-none : (files : List FileSpec) (s : Shown) → s.tables.items ≡ [] → s.rows ≡ [] → s.written.items ≡ [] → s.groups ≡ new_space files → ShowsRows files [] s
unfolding log.pending homes place_of telling.tables telling.rows telling.entries
rows-none files s tables rows written groups = record {
  tables = tables;
  rows = λ id. ap (λ values. value_among values id) rows;
  pending = ap (map pending_of) written;
  entries = subst (HaveEntries s.rows) (sym written) tt;
  places = λ id. ap (λ (g : Space). space_place g id.0 id.1) groups;
  rooms = ap (λ (g : Space). g.rooms) groups;
  groups = λ number. ap (λ (g : Space). group_of g number) groups;
}

pub starts : (files : List FileSpec) (s : Shown) → AreFiles files → s.tables.items ≡ [] → s.rows ≡ [] → s.written.items ≡ [] → s.groups ≡ new_space files → s.model ≡ Full → s.time ≡ 0
    → s.«end» ≡ 1 → Shows files [] s
unfolding telling.model telling.time telling.entries
starts files s are tables rows written groups model time is_end = record {
  files_are = are;
  log = Rattle.std.proofs.Common.subst (LogKeeps []) (Rattle.std.proofs.Common.sym is_end) keeps-none;
  placed = tt;
  kept = rows-none files s tables rows written groups;
  model = model;
  time = time;
}
