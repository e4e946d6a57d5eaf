-- A set that holds what its path shows is enough to restore it.
use Rattle.std.proofs.Common.{◌≡◌, ◌≤◌, ℕ, ◌+◌, ◌-◌, ◌^◌, Bool, true, false, List, [], ◌∷◌, ◌++◌, length, map, None, inl, inr, refl, sym, ◌∙◌, ap, subst, arith}
use Rattle.std.specs.Prelude.{reverse}
use Rattle.std.specs.List.{AllByRecursion, flat_map, list_any}
use Rattle.std.proofs.lemmas.Bool.{cases_lt}
use Rattle.std.proofs.lemmas.List.{append-nil, length-append, length-map, length-reverse, take_all}
use Rattle.bk_body.specs.Body.{Body}
use Rattle.bk_body.specs.Conditions.{IsBody, IsTable, joined, same_table, tables_made, with_table}
use Rattle.bk_facts.specs.Facts.{HasPath}
use Rattle.bk_filling.specs.Filling.{HasPages, MayFill, names_of}
use Rattle.bk_filling.specs.Records.{Spell}
use Rattle.bk_hosted.specs.Hosted.{set_log, set_storage}
use Rattle.bk_ids.specs.declared.record.Rec.{Rec}
use Rattle.bk_known.specs.declared.known.DatabaseSpec.{DatabaseSpec}
use Rattle.bk_known.specs.declared.known.Known.{Known}
use Rattle.bk_known.specs.Known.{FitsNote, IsKnown, IsTable as IsKnownTable, KeepsKnown}
use Rattle.bk_lemmas.specs.Lists.{all_mapped}
use Rattle.bk_machine.specs.Acts.{Recovery}
use Rattle.bk_machine.specs.Sound.{IsSoundSet}
use Rattle.bk_machine.specs.World.{World}
use Rattle.bk_restored.specs.PagedHolds.{IsStored, Recovers}
use Rattle.bk_restored.specs.PagedNames.{IsThere}
use Rattle.bk_paths.specs.Laws.{IsPlain, KeepsOpenAsTheMachine, SettlesAsTheMachine}
use Rattle.bk_paths.specs.PathLaws.{kept_numbers}
use Rattle.bk_paths.specs.Paths.{end_of, kept_from, settled}
use Rattle.bk_record.specs.Log.{IsLog}
use Rattle.bk_record.specs.Spelling.{spelling}
use Rattle.bk_redo.specs.declared.place.PageAt.{PageAt}
use Rattle.bk_restored.specs.Restored.{SufficesTold}
use Rattle.bk_restored.specs.RestoringArriving.{Kept}
use Rattle.bk_segments.specs.Records.{Numbered}
use Rattle.bk_shown.specs.Shown.{ArePlaced}
use Rattle.bk_side.specs.Names.{AreDifferent}
use Rattle.bk_storage.specs.Laws.{storage-keeps}
use Rattle.bk_storage.specs.Storage.{IsSpec, IsStorage}
use Rattle.bk_restored.specs.StoreTold.{IsAsOf, IsLogIn, IsNoted, Told, below, data_file, files_of}
use Rattle.bk_undo.specs.Spelled.{spelled}
use Rattle.bk_world.specs.CrashLaws.{counts-length}
use Rattle.bk_world.specs.Cut.{end_behind, settled as settled_log}
use Rattle.bk_world.specs.Pending.{pending}
use Rattle.bk_world.specs.Records.{Counts, Logged}
use Rattle.bk_world.specs.Says.{settle_said, undoing}
use Rattle.bk_world.specs.SettledLaws.{end-more, length-undoing}
use Rattle.bk_world.specs.Telling as telling
use Rattle.bk_world.specs.declared.database.FileSpec.{FileSpec}
use Rattle.bk_world.specs.declared.database.TableSpec.{TableSpec}
use Rattle.bk_world.specs.declared.header.Header.{Header}
use Rattle.bk_carried.specs.Arrived.{IsFor, MayName, arrived, known_of}
use Rattle.bk_carried.specs.Carried.{Carries, given}
use Rattle.bk_carried.proofs.Copies.{plain}
use Rattle.bk_carried.proofs.Fresh.{PagesAreFresh, fresh-stored}
use Rattle.bk_carried.proofs.Given.{data-stored, file-low, given-fresh}
use Rattle.bk_carried.proofs.Headers.{are-files, are-specs, few-specs, forked-branches, forked-short, set-files, specs_of}

-- what the laws below say
pub record Laws : Type 0 where
  pub one_list : (bytes : List ℕ) (records others : List Rec) → IsLog bytes records None → IsLog bytes others None → records ≡ others
  pub fresh : PagesAreFresh
  pub machine : SettlesAsTheMachine
  pub opened : KeepsOpenAsTheMachine

-- ---- numbers

-- numbers are left to undo what is pending
undone-end : (rs : List Logged) → end_behind (settled_log rs) ≡ end_behind rs + length (pending rs)
unfolding settled_log
undone-end rs =
    let size : length (undoing (reverse (pending rs))) ≡ length (pending rs) = length-undoing (reverse (pending rs)) ∙ length-reverse (pending rs) in
    end-more rs (end_behind rs) (settle_said (pending rs)) ∙ ap (λ (n : ℕ). end_behind rs + n) size

-- ---- the description in its note

more-tables : (made more : List TableSpec) → length made ≤ length (joined made more)
more-tables made [] = omega arith
more-tables made (t ∷ more) = by (list_any (same_table t) made) refl (more-tables (with_table made t) more)
  where
    by : (b : Bool) → list_any (same_table t) made ≡ b → length (with_table made t) ≤ length (joined (with_table made t) more) → length made ≤ length (joined (with_table made t) more)
    by b is rest = omega (arith, rest, with-more b is)
      where
        with-more : (c : Bool) → list_any (same_table t) made ≡ c → length made ≤ length (with_table made t)
        with-more true there = rw there (omega arith)
        with-more false there = rw there (omega (arith, length-append made (t ∷ [])))

module _ (body : Body) (is : IsBody body) where
  storage : IsStorage (set_storage body.header)
  storage = record {
    groups = (omega (arith, is.header.groups_few), is.header.groups);
    files = (
      omega (arith, few-specs (length body.header.groups) body.header.files is.header.files),
      are-specs (length body.header.groups) 1 body.header.files is.header.groups_few (omega (arith, is.header.files.few)) is.header.files.numbered is.header.files.each,
    );
    log_name = is.header.log_name;
    log_path = is.header.log_path;
  }

  few-tables : length body.tables ≤ 64
  few-tables = omega (arith, more-tables body.tables (tables_made is.log.0), is.log.2.all_tables.few)

  pub keeps-known : (spec : DatabaseSpec) → length spec.path ≤ 64 → spec.storage ≡ set_storage body.header → KeepsKnown (known_of spec body)
  keeps-known spec short same = record {
    path = short;
    storage = subst FitsNote (sym same) (record { keeps = storage-keeps (set_storage body.header) storage; groups = is.header.groups_few; files = few-specs (length body.header.groups) body.header.files is.header.files });
    tables = few-tables;
  }

-- ---- its data files

files-fill : (files : List FileSpec) → AllByRecursion IsSpec files → AllByRecursion HasPath (map data_file files) × AllByRecursion HasPages (map data_file files)
files-fill [] are = (tt, tt)
files-fill (f ∷ files) are =
    let rest = files-fill files are.1 in
    ((record { some = are.0.path.least_bytes; short = are.0.path.most_bytes }, rest.0), (omega arith, rest.1))

pub may-fill : (body : Body) → IsBody body → AreDifferent (names_of (map data_file (specs_of body.header.files))) → MayFill (map data_file (specs_of body.header.files))
may-fill body is apart =
    let files : List FileSpec = specs_of body.header.files in
    let fill = files-fill files (storage body is).files.1 in
    record { few = omega (arith, length-map files data_file, few-specs (length body.header.groups) body.header.files is.header.files); paths = fill.0; some = fill.1; different = apart }

-- ---- a set

module _ (laws : Laws) (w : World) (body : Body) (carries : Carries w.history body) (sound : IsSoundSet w body.header) (is : IsBody body) where
  abbrev h : Header
  h = body.header

  abbrev rs : List Logged
  rs = set_log w body.header

  abbrev path : List Rec
  path = map spelled rs

  abbrev files : List FileSpec
  files = specs_of body.header.files

  counts : Counts 1 rs h.last
  counts = sound.log.counts

  ends : h.last ≡ end_behind rs
  ends = counts-length 1 rs h.last counts

  counted : Counts 1 rs (end_behind rs)
  counted = subst (Counts 1 rs) ends counts

  path-ends : end_of path ≡ h.last
  path-ends = omega (arith, ends, length-map rs spelled)

  placed : ArePlaced files [] rs
  placed = subst (λ (fs : List FileSpec). ArePlaced fs [] rs) (set-files h) carries.placed

  all-plain : AllByRecursion IsPlain rs
  all-plain = plain files [] rs placed

  -- ---- its log

  pub log-is : (records : List Rec) → IsLog body.log records None → records ≡ kept_from h.first path
  log-is records log = laws.one_list body.log records (kept_from h.first path) log carries.log

  pub log-spelled : (records : List Rec) → IsLog body.log records None → Spell body.log h.first records
  log-spelled records log = record {
    spelled = log.spelled ∙ ap (λ (rest : List ℕ). flat_map spelling records ++ rest) log.ends ∙ append-nil (flat_map spelling records);
    are = log.are_records;
    numbered = subst (Numbered h.first) (sym (log-is records log)) (kept_numbers path h.first carries.path carries.some (omega (arith, path-ends, carries.order, carries.inside)));
  }

  -- ---- its pages

  stored : (at : PageAt) → IsThere (map data_file files) at → IsStored path h.checkpoint at (given body (at.file, at.page))
  stored at there = elim (cases_lt at.page 8) [
    | inl low ↦
        subst (IsStored path h.checkpoint at) (sym (given-fresh body at.file at.page low))
        (fresh-stored laws.fresh files rs h.checkpoint at.file at.page (omega (arith, path-ends, carries.inside)) (omega (arith, file-low h.files at there, is.header.files.few)) low placed sound.log.sound)
    | inr high ↦ data-stored rs body at carries is.header.files.numbered there high
  ]

  room : end_of (settled path) ≤ 2 ^ 63
  room =
      let same : settled path ≡ map spelled (settled_log rs) = laws.machine rs counted all-plain in
      let size : length (map spelled (settled_log rs)) ≡ length (settled_log rs) = length-map (settled_log rs) spelled in
      omega (arith, ap length same, size, undone-end rs, ends, sound.numbers)

  recovers : Recovers h.first h.checkpoint (map data_file files) (λ at. given body (at.file, at.page)) path
  recovers = record {
    path = carries.path;
    some = carries.some;
    order = carries.order;
    early = omega (arith, path-ends, carries.inside);
    opened = laws.opened rs h.first all-plain carries.begun;
    room = room;
    pages = stored;
  }

  -- ---- the database that is made of it

  module _ (name : List ℕ) (r : Recovery) (note : List ℕ) (may : MayName name body.header r note) where
    abbrev told : Told
    told = arrived w name h r note

    abbrev known : Known
    known = known_of told.spec body

    short-path : length told.spec.path ≤ 64
    short-path = omega (arith, forked-short h.path r.at r.branch, may.room)

    is-known : IsKnown known
    is-known = record {
      spec = record {
        name = may.named;
        family = is.header.family;
        path = (omega (arith, short-path), forked-branches h r.at r.branch is.header may.at_end may.branch);
        storage = storage body is;
      };
      as_of = record {
        from = is.header.last;
        tables = (omega (arith, few-tables body is), all_mapped IsTable IsKnownTable (λ t one. record { number = one.number; name = one.name; group = one.group }) body.tables is.each_table);
        time = omega (arith, is.header.finish);
      };
    }

    as-of : IsAsOf known.as_of rs
    as-of =
        let all : rs ≡ below h.last rs = sym (take_all (h.last - 1) rs (omega (arith, ends))) in record {
          some = omega (arith, ends);
          inside = omega (arith, ends);
          tables = carries.tables ∙ ap telling.tables all;
          model = sound.model ∙ ap telling.model all;
          time = sound.finish ∙ ap telling.time all;
        }

    noted : IsNoted known told
    noted = record { spec = refl; spelled = is-known; keeps = keeps-known body is told.spec short-path refl; short = may.short; as_of = as-of }

    log-in : IsLogIn (files_of told) rs
    log-in = record { files_are = are-files (length h.groups) h.files is.header.files; counts = counted; sound = sound.log.sound; placed = placed }

    pub suffices : (a : Kept) (records : List Rec) → IsFor a h.first told → IsLog body.log records None → SufficesTold a h.checkpoint note (given body) records known told
    suffices a records fits log = record {
      noted = noted;
      log = log-in;
      same_note = refl;
      suffices = record {
        files = sym fits.files;
        same_note = refl;
        held = log-is records log ∙ ap (λ (n : ℕ). kept_from n path) (sym fits.kept);
        needs = omega (arith, fits.kept, carries.order, carries.inside);
        recovers = subst (λ (n : ℕ). Recovers n h.checkpoint (map data_file files) (λ at. given body (at.file, at.page)) path) (sym fits.kept) recovers;
      };
    }
