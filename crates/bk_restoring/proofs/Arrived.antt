-- A database that arrives, and that holds at the end.
use Rattle.std.proofs.Common.{◌≡◌, ◌≤◌, ◌<◌, ◌^◌, ◌*◌, ℕ, zero, suc, ◌+◌, ◌-◌, List, [], ◌∷◌, ◌++◌, map, length, length-append, length-drop, get_or, Option, Some, None, refl, inl, inr, sym, ap, subst, ◌∙◌, arith}
use Rattle.std.specs.List.{AllByRecursion, flat_map}
use Rattle.std.specs.Option.{option_map_or}
use Rattle.std.specs.Prelude.{option_map, slice_get, OnOk, Result, Ok, Err}
use Rattle.std.proofs.lemmas.Bool.{cases_lt}
use Rattle.std.proofs.lemmas.Option.{same_Some, slice_get-get_or, slice_get-map, slice_get_past}
use Rattle.bk_bytes.specs.Field.{bytes_of}
use Rattle.bk_bytes.specs.FieldLaws.{length-bytes_of}
use Rattle.bk_device.specs.Compose.{durable_kept, effect_widen, keeps_by_effect}
use Rattle.bk_device.specs.Disk.{Files, Disk, IsDurable}
use Rattle.bk_device.specs.Effects.{Effect, IsName, KeepsFiles}
use Rattle.bk_facts.specs.declared.facts.DataFile.{DataFile}
use Rattle.bk_facts.specs.Facts.{HasPath, Notes, facts_bytes, file_bytes}
use Rattle.bk_filling.specs.Filling.{IsFilling, MayFill, Shows, begun, Kept as KeptData}
use Rattle.bk_filling.specs.Laws.{begun_fills, filling_kept, log_kept, named, not_side, records_kept, shows_kept}
use Rattle.bk_filling.specs.Records.{HasRecords, IsBegun as IsBegunLog, Kept as KeptLog}
use Rattle.bk_filling.specs.Removing.{AreGone, IsPart}
use Rattle.bk_gate.specs.Blobs.{sealed}
use Rattle.bk_gate.specs.BlobLaws.{foreign_blobs}
use Rattle.bk_ids.specs.declared.record.Rec.{Rec}
use Rattle.bk_paged.specs.Holds.{HaveRoom, Holds, IsStored, Recovers, Stood}
use Rattle.bk_paged.specs.Laws.{apart}
use Rattle.bk_paged.specs.Names.{AreDurable, IsOwn, IsThere, names_of, pages_in, shown_at}
use Rattle.bk_paged.specs.Paths.{end_of, kept_from, settled, undoing}
use Rattle.bk_paged.specs.PageAt.{PageAt}
use Rattle.bk_segments.specs.Files.{IsOwn as IsOfLog, LogIs, AreDurable as LogsAreDurable}
use Rattle.bk_side.specs.BatchLaws.{content_at}
use Rattle.bk_side.specs.Laws.{plain}
use Rattle.bk_side.specs.Names.{AreDifferent, IsData, data_file, name_of, side_file, IsOwn as IsOfSide}
use Rattle.bk_side.specs.Pages.{page_in, page_of}
use Rattle.bk_side.specs.Side.{AreDurable as PagesAreDurable}
use Rattle.bk_restoring.specs.Arriving.{IsArriving, IsBegun, Kept, Suffices}

-- ---- results

pub on_ok_both : {T E : Type 0} (A B : Type 0) (r : Result T E) → OnOk r A → OnOk r B → OnOk r (A × B)
on_ok_both A B (Ok x) a b = (a, b)
on_ok_both A B (Err e) a b = tt

-- what holds on a condition
pub on_ok_under : {T E : Type 0} (A B : Type 0) (r : Result T E) → (A → OnOk r B) → OnOk r (A → B)
on_ok_under A B (Ok x) f = f
on_ok_under A B (Err e) f = tt

-- ---- names

pub data_effect : {P : Files → Type 0} (db : ℕ) (files : List DataFile) (a b : Disk) → Effect (IsData (names_of files)) P a b → Effect (IsOwn db files) (λ _. Unit {0}) a b
data_effect db files a b effect = effect_widen (λ name at. inr (inr at)) (λ image was left. tt) effect

pub log_effect : {P : Files → Type 0} (db : ℕ) (files : List DataFile) (a b : Disk) → Effect (IsOfLog db) P a b → Effect (IsOwn db files) (λ _. Unit {0}) a b
log_effect db files a b effect = effect_widen (λ name at. inl at) (λ image was left. tt) effect

-- what pages leave of the log and the side file
log_keeps : {P : Files → Type 0} (db : ℕ) (files : List DataFile) (a b : Disk) → Effect (IsData (names_of files)) P a b → KeepsFiles (IsOfLog db) a b
log_keeps db files a b effect = keeps_by_effect (λ name log at. apart db files name log (inr at)) effect

side_keeps : {P : Files → Type 0} (db : ℕ) (files : List DataFile) (a b : Disk) → Effect (IsData (names_of files)) P a b → KeepsFiles (IsName (side_file db)) a b
side_keeps db files a b effect = keeps_by_effect (λ name is at. not_side db (map (λ (f : DataFile). f.path) files) name at is) effect

-- what the log leaves of the pages and the side file
pages_keep : {P : Files → Type 0} (db : ℕ) (files : List DataFile) (a b : Disk) → Effect (IsOfLog db) P a b → KeepsFiles (IsOfSide (side_file db) (names_of files)) a b
pages_keep db files a b effect = keeps_by_effect (λ name side log. apart db files name log side) effect

gone_kept : (names : List ℕ → Type 0) (a b : Disk) → KeepsFiles names a b → AreGone names a → AreGone names b
gone_kept names a b keeps gone name at = (keeps.same name at ∙ (gone name at).0, durable_kept {names = names} name at keeps (gone name at).1)

-- so nothing is pending in the log where nothing was
pub logs_durable : {P : Files → Type 0} (db : ℕ) (files : List DataFile) (a b : Disk) → Effect (IsData (names_of files)) P a b → LogsAreDurable db a → LogsAreDurable db b
logs_durable db files a b effect are name own = durable_kept {names = IsOfLog db} name own (log_keeps db files a b effect) (are name own)

-- ---- at first

-- what was removed is gone, and so a database begins
pub arrives_first : (files : List DataFile) (log : KeptLog) (b c : Disk) → AreGone (IsOfSide (side_file log.db) (names_of files)) b → IsBegunLog c log → Effect (IsOfLog log.db) (λ _. Unit {0}) b c → IsBegun c (record { filling = begun files; log = log })
arrives_first files log b c gone begun_log effect =
    let still : AreGone (IsOfSide (side_file log.db) (names_of files)) c = gone_kept (IsOfSide (side_file log.db) (names_of files)) b c (pages_keep log.db files b c effect) gone in
    record {
      filling = begun_fills files c (λ name at. still name (inr at));
      log = begun_log;
      side = λ name at. still name (inl at);
    }

pub parts_effect : {P : Files → Type 0} (db : ℕ) (files : List DataFile) (paths : List (List ℕ)) (a b : Disk) → paths ≡ map (λ f. f.path) files → Effect (IsPart db (map data_file paths)) P a b → Effect (IsOwn db files) P a b
parts_effect {P} db files paths a b same effect = subst (λ (ps : List (List ℕ)). Effect (IsPart db (map data_file ps)) P a b) same effect

-- ---- one page more, and more records

pub page_begun : (k : Kept) (next : KeptData) (a b : Disk) → Effect (IsData (names_of k.filling.files)) (λ _. Unit {0}) a b → IsFilling b next → IsBegun a k → IsBegun b (record k { filling = next })
page_begun k next a b effect filling is = record {
  filling = filling;
  log = log_kept k.log a b (log_keeps k.log.db k.filling.files a b effect) is.log;
  side = gone_kept (IsName (side_file k.log.db)) a b (side_keeps k.log.db k.filling.files a b effect) is.side;
}

pub page_arrives : (k : Kept) (next : KeptData) (given : ℕ × ℕ → List ℕ) (records : List Rec) (a b : Disk) → Effect (IsData (names_of k.filling.files)) (λ _. Unit {0}) a b → Shows b.files next given → IsArriving a.files k given records → IsArriving b.files (record k { filling = next }) given records
page_arrives k next given records a b effect shows is = record {
  pages = shows;
  log = records_kept k.log a.files b.files records (λ name at. (log_keeps k.log.db k.filling.files a b effect).same name at) is.log;
}

data_keeps : {P : Files → Type 0} (db : ℕ) (files : List DataFile) (a b : Disk) → Effect (IsOfLog db) P a b → KeepsFiles (IsData (names_of files)) a b
data_keeps db files a b effect = keeps_by_effect (λ name at log. apart db files name log (inr at)) effect

pub log_begun : (k : Kept) (next : KeptLog) (a b : Disk) → next.db ≡ k.log.db → Effect (IsOfLog k.log.db) (λ _. Unit {0}) a b → IsBegunLog b next → IsBegun a k → IsBegun b (record k { log = next })
log_begun k next a b same effect log is = record {
  filling = filling_kept k.filling a b (data_keeps k.log.db k.filling.files a b effect) is.filling;
  log = log;
  side = subst (λ (n : ℕ). AreGone (IsName (side_file n)) b) (sym same)
      (gone_kept (IsName (side_file k.log.db)) a b (keeps_by_effect (λ name side log2. apart k.log.db k.filling.files name log2 (inl side)) effect) is.side);
}

pub log_arrives : (k : Kept) (next : KeptLog) (given : ℕ × ℕ → List ℕ) (old new : List Rec) (a b : Disk) → Effect (IsOfLog k.log.db) (λ _. Unit {0}) a b → HasRecords b.files next new → IsArriving a.files k given old → IsArriving b.files (record k { log = next }) given new
log_arrives k next given old new a b effect has is = record {
  pages = shows_kept k.filling a.files b.files given (λ name at. (data_keeps k.log.db k.filling.files a b effect).same name at) is.pages;
  log = has;
}

-- ---- at the end

-- nothing is pending in data files and side file
pub pages_durable : (k : Kept) (a b : Disk) → k.filling.whole ≡ length k.filling.files → IsBegun a k → Effect (IsOfLog k.log.db) (λ _. Unit {0}) a b → PagesAreDurable (IsOfSide (side_file k.log.db) (names_of k.filling.files)) b
pages_durable k a b whole is effect name side = elim side [
  | inl is_side ↦ (gone_kept (IsName (side_file k.log.db)) a b (keeps_by_effect (λ n at log. apart k.log.db k.filling.files n log (inl at)) effect) is.side name is_side).1
  | inr at ↦ durable_kept {names = IsData (names_of k.filling.files)} name at (data_keeps k.log.db k.filling.files a b effect) (data_durable at.0 at.1)
]
  where
    data_durable : (file : ℕ) → name_of (names_of k.filling.files) file ≡ Some name → IsDurable a name
    data_durable zero at = absurd cc
    data_durable (suc i) at = elim (cases_lt i (length k.filling.files)) [
      | inl within ↦
          let d : DataFile = get_or k.filling.files i (record { path = []; pages = 0 }) in
          let there : slice_get k.filling.files i ≡ Some d = slice_get-get_or k.filling.files i (record { path = []; pages = 0 }) within in
          subst (IsDurable a) (same_Some (data_file d.path) name (sym (named k.filling.files i d there) ∙ at)) (is.filling.durable i d (omega (arith, within, whole)) there)
      | inr past ↦
          let none : slice_get (names_of k.filling.files) i ≡ None =
          slice_get-map data_file (map (λ (f : DataFile). f.path) k.filling.files) i ∙ ap (λ (o : Option (List ℕ)). option_map data_file o) (slice_get-map (λ (f : DataFile). f.path) k.filling.files i
          ∙ ap (λ (o : Option DataFile). option_map (λ (f : DataFile). f.path) o) (slice_get_past k.filling.files i past)) in
          let both : ◌≡◌ {A = Option (List ℕ)} (Some name) None = sym at ∙ none in
          absurd cc
    ]

-- and nothing at all, where that is so in the log
pub all_durable : (k : Kept) (a b : Disk) → k.filling.whole ≡ length k.filling.files → IsBegun a k → Effect (IsOfLog k.log.db) (λ _. Unit {0}) a b → LogsAreDurable k.log.db b → AreDurable k.log.db k.filling.files b
all_durable k a b whole is effect logs name own = elim own [
  | inl log ↦ logs name log
  | inr side ↦ pages_durable k a b whole is effect name side
]

-- what the files show where no side file is there
no_batch : (f : Option (List ℕ)) → f ≡ None → sealed f ≡ []
no_batch f none = ap sealed none ∙ foreign_blobs [] (λ is. absurd (omega (arith, is.1)))

pub shown_pages : (db : ℕ) (files : List DataFile) (image : Files) (given : ℕ × ℕ → List ℕ) (f : KeptData) → f.files ≡ files → f.whole ≡ length f.files → image (side_file db) ≡ None → Shows image f given → (at : PageAt) → IsThere files at → shown_at db files image at ≡ given (at.file, at.page)
shown_pages db files image given f same whole none shows at there =
    plain (side_file db) (names_of files) image (no_batch (image (side_file db)) none) (at.file, at.page) ∙ go at.file there
  where
    go : (file : ℕ) → at.page < pages_in files file → page_of (names_of files) image (file, at.page) ≡ given (file, at.page)
    go zero inside = absurd (omega (arith, inside))
    go (suc i) inside = elim (cases_lt i (length files)) [
      | inl within ↦
          let d : DataFile = get_or files i (record { path = []; pages = 0 }) in
          let here : slice_get files i ≡ Some d = slice_get-get_or files i (record { path = []; pages = 0 }) within in
          let low : at.page < d.pages = subst (λ (o : Option DataFile). at.page < option_map_or (λ (g : DataFile). g.pages) o 0) here inside in
          let mine : slice_get f.files i ≡ Some d = ap (λ (fs : List DataFile). slice_get fs i) same ∙ here in
          let one : i + 1 ≡ suc i = omega arith in
          let last : i < f.whole = omega (arith, within, whole, ap (λ (fs : List DataFile). length fs) same) in
          ap (λ (c : List ℕ). page_in c at.page) (content_at (names_of files) image (suc i) (data_file d.path) (named files i d here)) ∙ shows.whole i d at.page last mine low ∙ ap (λ (n : ℕ). given (n, at.page)) one
      | inr past ↦ absurd (omega (arith, subst (λ (o : Option DataFile). at.page < option_map_or (λ (g : DataFile). g.pages) o 0) (slice_get_past files i past) inside))
    ]

-- pages that are the same are as good
same_recovers : (kept since : ℕ) (files : List DataFile) (one two : PageAt → List ℕ) (records : List Rec) → ((at : PageAt) → IsThere files at → two at ≡ one at) → Recovers kept since files one records → Recovers kept since files two records
same_recovers kept since files one two records same is = record {
  path = is.path;
  some = is.some;
  order = is.order;
  early = is.early;
  opened = is.opened;
  room = is.room;
  pages = λ at there. subst (IsStored records since at) (sym (same at there)) (is.pages at there);
}

-- ---- the numbers fit

settled_longer : (records : List Rec) → end_of records ≤ end_of (settled records)
unfolding settled
settled_longer records = omega (arith, length-append records (undoing records))

kept_end : (kept since : ℕ) (files : List DataFile) (pages : PageAt → List ℕ) (records : List Rec) → Recovers kept since files pages records → kept + length (kept_from kept records) < 2 ^ 64
kept_end kept since files pages records is =
    omega (arith, length-drop (kept - 1) records, is.some, is.order, is.early, is.room, settled_longer records)

files_short : (files : List DataFile) → AllByRecursion HasPath files → length (flat_map file_bytes files) ≤ 106 * length files
files_short [] paths = omega arith
files_short (f ∷ files) paths = omega (
  arith,
  length-append (file_bytes f) (flat_map file_bytes files),
  length-append (bytes_of 4 f.pages) (bytes_of 2 (length f.path) ++ f.path),
  length-append (bytes_of 2 (length f.path)) f.path,
  length-bytes_of 4 f.pages,
  length-bytes_of 2 (length f.path),
  paths.0.short,
  files_short files paths.1,
)

facts_short : (checkpoint : ℕ) (files : List DataFile) → MayFill files → length (facts_bytes (record { checkpoint = checkpoint; files = files })) ≤ 2048
facts_short checkpoint files may = omega (
  arith,
  length-append (bytes_of 8 checkpoint) (bytes_of 2 (length files) ++ flat_map file_bytes files),
  length-append (bytes_of 2 (length files)) (flat_map file_bytes files),
  length-bytes_of 8 checkpoint,
  length-bytes_of 2 (length files),
  files_short files may.paths,
  may.few,
)

pub note_short : (checkpoint : ℕ) (files : List DataFile) (note bytes : List ℕ) → MayFill files → length note ≤ 30720 → bytes ≡ facts_bytes (record { checkpoint = checkpoint; files = files }) ++ note → length bytes ≤ 32768
note_short checkpoint files note bytes may short same =
    omega (arith, facts_short checkpoint files may, short, ap (λ (bs : List ℕ). length bs) same, length-append (facts_bytes (record { checkpoint = checkpoint; files = files })) note)

-- ---- the database

pub arrived_holds : (k : Kept) (checkpoint : ℕ) (note bytes : List ℕ) (given : ℕ × ℕ → List ℕ) (records : List Rec) (stood : Stood) (a b : Disk) → MayFill k.filling.files → k.filling.whole ≡ length k.filling.files → length note ≤ 30720 → IsBegun a k → IsArriving a.files k given records
    → Suffices k checkpoint note given records stood → Notes bytes (record { checkpoint = checkpoint; files = k.filling.files }) note → Effect (IsOfLog k.log.db) (λ _. Unit {0}) a b
    → (k.log.kept + length records < 2 ^ 64 → LogIs b.files k.log.db (record { kept = k.log.kept; records = records; note = bytes })) → Holds k.log.db stood b.files
arrived_holds k checkpoint note bytes given records stood a b may whole short is arrives suffices notes effect log =
    let room : k.log.kept + length records < 2 ^ 64 = subst (λ (rs : List Rec). k.log.kept + length rs < 2 ^ 64) (sym suffices.held) (kept_end k.log.kept checkpoint stood.files (λ at. given (at.file, at.page)) stood.records suffices.recovers) in
    let none : b.files (side_file k.log.db) ≡ None =
    effect.others (side_file k.log.db) (λ log2. apart k.log.db k.filling.files (side_file k.log.db) log2 (inl refl)) ∙ (is.side (side_file k.log.db) refl).0 in
    let shows : Shows b.files k.filling given = shows_kept k.filling a.files b.files given (λ name at. (data_keeps k.log.db k.filling.files a b effect).same name at) arrives.pages in
    let fits : HaveRoom k.filling.files note = record { few = omega (arith, may.few); first = facts_short 0 k.filling.files may; rest = short } in
    record {
      log = record { kept = k.log.kept; records = records; note = bytes };
      checkpoint = checkpoint;
      log_is = log room;
      noted = subst (λ (n : List ℕ). Notes bytes (record { checkpoint = checkpoint; files = stood.files }) n) (sym suffices.same_note)
          (subst (λ (fs : List DataFile). Notes bytes (record { checkpoint = checkpoint; files = fs }) note) (sym suffices.files) notes);
      room = subst (λ (n : List ℕ). HaveRoom stood.files n) (sym suffices.same_note) (subst (λ (fs : List DataFile). HaveRoom fs note) (sym suffices.files) fits);
      different = subst (λ (fs : List DataFile). AreDifferent (names_of fs)) (sym suffices.files) may.different;
      held = suffices.held;
      needs = suffices.needs;
      recovers = same_recovers k.log.kept checkpoint stood.files (λ at. given (at.file, at.page)) (shown_at k.log.db stood.files b.files) stood.records
          (λ at there. shown_pages k.log.db stood.files b.files given k.filling (sym suffices.files) whole none shows at there) suffices.recovers;
    }
