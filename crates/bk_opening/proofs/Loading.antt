-- A database that is opened: what a crash leaves meanwhile, and what stands then.
use Rattle.std.proofs.Common.{◌≡◌, ◌≤◌, ◌^◌, ◌⊎◌, ℕ, ◌+◌, ◌-◌, Bool, List, [], ◌++◌, length, take, None, refl, inl, inr, sym, ap, ap₂, subst, ◌∙◌, arith}
use Rattle.std.specs.List.{flat_map}
use Rattle.std.specs.Prelude.{slice_index_or}
use Rattle.std.proofs.lemmas.List.{length-drop}
use Rattle.bk_device.specs.Calls.{ChangesNothing}
use Rattle.bk_device.specs.Compose.{durable_kept, effect_then, effect_then_nothing, effect_weaken, effect_widen, keeps_by_effect, keeps_by_nothing, keeps_then}
use Rattle.bk_device.specs.Disk.{Disk, Files, IsDurable}
use Rattle.bk_device.specs.Effects.{Effect, KeepsFiles, MayLeaveOwn}
use Rattle.bk_device.specs.Laws.{durable_by_nothing}
use Rattle.bk_facts.specs.declared.facts.DataFile.{DataFile}
use Rattle.bk_facts.specs.declared.facts.Facts.{Facts}
use Rattle.bk_facts.specs.Facts.{Notes}
use Rattle.bk_ids.specs.declared.record.Rec.{Rec}
use Rattle.bk_log.specs.Laws.{log_kept, log_left, log_waits, one_logged, value_kept}
use Rattle.bk_log.specs.Log.{IsLog, value_of, Kept as KeptLog}
use Rattle.bk_paths.specs.Pages.{last_page}
use Rattle.bk_paths.specs.Paths.{KeepsOpen, end_of, kept_from, numbered, settled, undoing}
use Rattle.bk_pool.specs.Pool.{IsIn, Pool}
use Rattle.bk_record.specs.Log.{IsLog as AreRecords}
use Rattle.bk_record.specs.Spelling.{spelling}
use Rattle.bk_record.specs.WalkLaws.{log_of_records}
use Rattle.bk_redo.specs.declared.place.PageAt.{PageAt}
use Rattle.bk_redo.specs.PageStates.{page_of}
use Rattle.bk_segments.specs.FileLaws.{durable_settles, log_moved, log_stays}
use Rattle.bk_segments.specs.Files.{AreSettled, IsOwn as IsOfLog, LogIs, Logged}
use Rattle.bk_side.specs.Laws.{added_kept, durable_left, shown_kept, side_kept}
use Rattle.bk_side.specs.Names.{AreDifferent, side_file, IsOwn as IsOfSide}
use Rattle.bk_side.specs.Pages.{Shows, shown}
use Rattle.bk_side.specs.Side.{IsOwnOf, IsSide, added_of, pages_of, Kept as KeptSide}
use Rattle.bk_undo.specs.Losers.{compensation}
use Rattle.bk_paged.specs.Laws.{apart, kept_spelled, recovers_as, stored_length}
use Rattle.bk_paged.specs.Holds.{HaveRoom, Holds, IsStored, Leaves, Stood, recovered}
use Rattle.bk_paged.specs.Names.{AreDurable, IsOwn, IsThere, names_of, shown_at}
use Rattle.bk_opening.specs.Opening.{AreHeld, Brings}
use Rattle.bk_paged.specs.Paged.{IsDirty, IsLast, IsPaged, Standing}
use Rattle.bk_opening.proofs.NoteFacts.{one_note}
use Rattle.bk_opening.proofs.Settled.{Settles, kept_settled, settled_front, settled_length, settled_recovers, whole_recovers}
use Rattle.bk_opening.proofs.Undoing.{with_undoing}

-- ---- what a crash leaves

-- what a crash of a database that is being opened leaves
abbrev pub Left : ℕ → Stood → Files → Type 0
Left db stood image = Leaves db (length stood.records) (recovered stood) image

holds_leaves : (db : ℕ) (stood : Stood) (image : Files) → Holds db stood image → Left db stood image
holds_leaves db stood image is =
    let Of : List Rec → Type 0 = λ rs. Holds db (record stood { records = rs }) image in
    (length stood.records, omega arith, subst Of (sym (settled_front stood.records)) is)

-- files with the same log that show the same pages
holds_as : (db : ℕ) (stood : Stood) (f g : Files) → (is : Holds db stood f) → LogIs g db is.log → ((at : PageAt) → shown_at db stood.files g at ≡ shown_at db stood.files f at) → Holds db stood g
holds_as db stood f g is log same = record {
  log = is.log;
  checkpoint = is.checkpoint;
  log_is = log;
  noted = is.noted;
  room = is.room;
  different = is.different;
  held = is.held;
  needs = is.needs;
  recovers = recovers_as is.log.kept is.log.kept is.checkpoint is.checkpoint stood.files (shown_at db stood.files f) (shown_at db stood.files g) stood.records is.recovers is.recovers.some is.recovers.order (omega arith) is.recovers.opened same;
}

-- nothing is pending in data files and side file
abbrev pub SideIsDurable : ℕ → List DataFile → Disk → Type 0
SideIsDurable db files disk = (name : List ℕ) → IsOfSide (side_file db) (names_of files) name → IsDurable disk name

shown_durable : (db : ℕ) (files : List DataFile) (a : Disk) (image : Files) → SideIsDurable db files a → MayLeaveOwn (IsOfSide (side_file db) (names_of files)) a image → (at : PageAt) → shown_at db files image at ≡ shown_at db files a.files at
shown_durable db files a image durable mine at = (durable_left (side_file db) (names_of files) a image durable mine).pages (at.file, at.page)

abbrev pub LogStays : ℕ → Disk → Files → Type 0
LogStays db a image = (log : Logged) → LogIs a.files db log → LogIs image db log

-- the log is opened
pub log_crash : (db : ℕ) (stood : Stood) (a b : Disk) → AreDurable db stood.files a → Holds db stood a.files → Effect (IsOfLog db) (LogStays db a) a b → Effect (IsOwn db stood.files) (Left db stood) a b
log_crash db stood a b durable is effect =
    effect_widen (λ name at. inl at) (λ image logs left. holds_leaves db stood image (holds_as db stood a.files image is (logs is.log is.log_is)
    (shown_durable db stood.files a image (λ name side. durable name (inr side)) (λ name side. left name (λ log. apart db stood.files name log side) (inr side))))) effect

-- what counts of it is made durable
pub settle_crash : (db : ℕ) (stood : Stood) (a b : Disk) → AreDurable db stood.files a → Holds db stood a.files → Effect (IsOfLog db) (MayLeaveOwn (IsOfLog db) a) a b → Effect (IsOwn db stood.files) (Left db stood) a b
settle_crash db stood a b durable is effect =
    let counts : AreSettled db a = durable_settles db a (λ name own. durable name (inl own)) in
    log_crash db stood a b durable is (effect_weaken (λ image mine log. log_stays db a image log counts mine) effect)

-- that changes nothing, so the files hold the database then
pub still_holds : (db : ℕ) (stood : Stood) {a b : Disk} → ChangesNothing a b → Holds db stood a.files → Holds db stood b.files
still_holds db stood {a} {b} call is =
    holds_as db stood a.files b.files is (log_moved db is.log call is.log_is) (λ at. shown_kept (side_file db) (names_of stood.files) (keeps_by_nothing call) (at.file, at.page))

pub still_durable : (db : ℕ) (files : List DataFile) {a b : Disk} → ChangesNothing a b → AreDurable db files a → AreDurable db files b
still_durable db files call durable name own = durable_by_nothing name call (durable name own)

-- ---- what was read of the log

-- The log of a database that files hold was opened: on this disk it stands, its note was read, and nothing else was done.
pub record LogRead (db : ℕ) (stood : Stood) (a c : Disk) (log : KeptLog) (facts : Facts) (note : List ℕ) : Type 0 where
  pub holds : Holds db stood a.files
  pub logs : IsLog c log
  pub named : log.db ≡ db
  pub value : value_of c.files log ≡ holds.log
  pub noted : Notes log.note facts note
  pub files : facts.files ≡ stood.files
  pub checkpoint : facts.checkpoint ≡ holds.checkpoint
  pub note_is : note ≡ stood.note
  pub durable : SideIsDurable db stood.files c
  pub shows : (at : PageAt) → shown_at db stood.files c.files at ≡ shown_at db stood.files a.files at
  pub crash : Effect (IsOwn db stood.files) (Left db stood) a c

-- the value of the log that was opened
pub opened_value : (db : ℕ) (stood : Stood) (a b : Disk) (log : KeptLog) → (is : Holds db stood a.files) → LogIs a.files db (value_of a.files log) → value_of b.files log ≡ value_of a.files log → value_of b.files log ≡ is.log
opened_value db stood a b log is loaded value = value ∙ one_logged a.files db (value_of a.files log) is.log loaded is.log_is

-- its note has the facts of the database
pub noted_then : (db : ℕ) (stood : Stood) (a b : Disk) (log : KeptLog) → (is : Holds db stood a.files) → LogIs a.files db (value_of a.files log) → value_of b.files log ≡ value_of a.files log
    → Notes log.note (record { checkpoint = is.checkpoint; files = stood.files }) stood.note
noted_then db stood a b log is loaded value =
    subst (λ (n : List ℕ). Notes n (record { checkpoint = is.checkpoint; files = stood.files }) stood.note) (sym (ap (λ (l : Logged). l.note) (opened_value db stood a b log is loaded value))) is.noted

pub log_read : (db : ℕ) (stood : Stood) (a b : Disk) (log : KeptLog) (facts : Facts) (note : List ℕ) → AreDurable db stood.files a → Holds db stood a.files → log.db ≡ db → LogIs a.files db (value_of a.files log) → value_of b.files log ≡ value_of a.files log
    → IsLog b log → Effect (IsOfLog db) (LogStays db a) a b → Notes log.note facts note → LogRead db stood a b log facts note
log_read db stood a b log facts note durable is named loaded value stands effect noted =
    let at_b : value_of b.files log ≡ is.log = opened_value db stood a b log is loaded value in
    let both = one_note log.note is.log.note facts (record { checkpoint = is.checkpoint; files = stood.files }) note stood.note (ap (λ (l : Logged). l.note) at_b) noted is.noted in
    let Side : List ℕ → Type 0 = IsOfSide (side_file db) (names_of stood.files) in
    let keeps : KeepsFiles Side a b = keeps_by_effect (λ name side log. apart db stood.files name log side) effect in
    record {
      holds = is;
      logs = stands;
      named = named;
      value = at_b;
      noted = noted;
      files = ap (λ (f : Facts). f.files) both.0;
      checkpoint = ap (λ (f : Facts). f.checkpoint) both.0;
      note_is = both.1;
      durable = λ name side. durable_kept {names = Side} name side keeps (durable name (inr side));
      shows = λ at. shown_kept (side_file db) (names_of stood.files) keeps (at.file, at.page);
      crash = log_crash db stood a b durable is effect;
    }

-- ---- the side file is opened

abbrev pub SideLeaves : ℕ → List DataFile → Disk → Files → Type 0
SideLeaves db files c image = MayLeaveOwn (IsOfSide (side_file db) (names_of files)) c image ⊎ Shows (side_file db) (names_of files) (shown (side_file db) (names_of files) c.files) image

pub side_crash : (db : ℕ) (stood : Stood) (a c d : Disk) (log : KeptLog) (facts : Facts) (note : List ℕ) → LogRead db stood a c log facts note → Effect (IsOfSide (side_file db) (names_of facts.files)) (SideLeaves db facts.files c) c d
    → Effect (IsOwn db stood.files) (Left db stood) a d
side_crash db stood a c d log facts note is effect =
    let Part : List DataFile → Type 0 = λ fs. Effect (IsOfSide (side_file db) (names_of fs)) (SideLeaves db fs c) c d in
    let here : Part stood.files = subst Part is.files effect in
    let logs : (image : Files) → MayLeaveOwn (IsOfLog db) c image → LogIs image db is.holds.log = λ image mine.
    let At : ℕ → Type 0 = λ n. LogIs image n (value_of c.files log) in
    let left : At log.db = log_left image is.logs (λ name own. mine name (subst (λ (n : ℕ). IsOfLog n name) is.named own)) in
    subst (LogIs image db) is.value (subst At is.named left) in
    let pages : (image : Files) → SideLeaves db stood.files c image → (at : PageAt) → shown_at db stood.files image at ≡ shown_at db stood.files c.files at = λ image shows at. elim shows [
      | inl mine ↦ shown_durable db stood.files c image is.durable mine at
      | inr same ↦ same.pages (at.file, at.page)
    ] in
    effect_then is.crash (effect_widen (λ name at. inr at) (λ image shows left. holds_leaves db stood image (holds_as db stood a.files image is.holds
    (logs image (λ name own. left name (λ side. apart db stood.files name own side) (inl own)))
    (λ at. pages image shows at ∙ is.shows at))) here)

-- ---- what is appended

-- the records that the log holds
pub held_records : (db : ℕ) (stood : Stood) (a c : Disk) (log : KeptLog) (facts : Facts) (note : List ℕ) → (is : LogRead db stood a c log facts note) → (value_of c.files log).records ≡ kept_from is.holds.log.kept stood.records
held_records db stood a c log facts note is = ap (λ (l : Logged). l.records) is.value ∙ is.holds.held

kept_is : (db : ℕ) (stood : Stood) (a c : Disk) (log : KeptLog) (facts : Facts) (note : List ℕ) → (is : LogRead db stood a c log facts note) → log.head.kept ≡ is.holds.log.kept
kept_is db stood a c log facts note is = ap (λ (l : Logged). l.kept) is.value

-- and their bytes, as the files held them before
pub held_bytes : (db : ℕ) (stood : Stood) (a c : Disk) (log : KeptLog) (facts : Facts) (note bytes : List ℕ) → (is : LogRead db stood a c log facts note) → value_of c.files log ≡ value_of a.files log → bytes ≡ flat_map spelling (value_of a.files log).records
    → AreRecords bytes (kept_from is.holds.log.kept stood.records) None
held_bytes db stood a c log facts note bytes is value read =
    let rs : List Rec = kept_from is.holds.log.kept stood.records in
    let same : bytes ≡ flat_map spelling rs = read ∙ ap (λ (l : Logged). flat_map spelling l.records) (sym value) ∙ ap (flat_map spelling) (held_records db stood a c log facts note is) in
    subst (λ (b : List ℕ). AreRecords b rs None) (sym same) (log_of_records rs (kept_spelled is.holds.log.kept stood.records is.holds.recovers.path))

-- all records that the log's files hold are durable
pub stored_is : (db : ℕ) (stood : Stood) (a c : Disk) (log : KeptLog) (facts : Facts) (note : List ℕ) → LogRead db stood a c log facts note → log.stored ≡ end_of stood.records
stored_is db stood a c log facts note is =
    let of = is.holds.recovers in
    omega (
      arith,
      stored_length c log is.logs,
      ap (λ (rs : List Rec). length rs) (held_records db stood a c log facts note is),
      length-drop (is.holds.log.kept - 1) stood.records,
      kept_is db stood a c log facts note is,
      of.some,
      of.order,
      of.early,
    )

-- A side was opened under the names of the data files.
pub record SideOpened (db : ℕ) (facts : Facts) (c d : Disk) (side : KeptSide) : Type 0 where
  pub name : side.gate.name ≡ side_file db
  pub names : side.names ≡ names_of facts.files
  pub stands : IsSide d side
  pub none : added_of d side ≡ []
  pub same : Shows (side_file db) (names_of facts.files) (shown (side_file db) (names_of facts.files) c.files) d.files
  pub effect : Effect (IsOfSide (side_file db) (names_of facts.files)) (SideLeaves db facts.files c) c d

-- neither that nor reading touches the log
keeps_log : {db : ℕ} {P : Files → Type 0} (c d e : Disk) (log : KeptLog) (files : List DataFile) → log.db ≡ db → Effect (IsOfSide (side_file db) (names_of files)) P c d → ChangesNothing d e → KeepsFiles (IsOfLog log.db) c e
keeps_log {db = db} c d e log files named effect call =
    keeps_then (keeps_by_effect (λ name own side. apart db files name (subst (λ (n : ℕ). IsOfLog n name) named own) side) effect) (keeps_by_nothing call)

still_logged : {db : ℕ} {P : Files → Type 0} (c d e : Disk) (log : KeptLog) (files : List DataFile) → IsLog c log → log.db ≡ db → Effect (IsOfSide (side_file db) (names_of files)) P c d → ChangesNothing d e → IsLog e log
still_logged c d e log files is named effect call = log_kept (keeps_log c d e log files named effect call) is

-- whatever the files hold, what was opened stands then
pub opened_standing : {db : ℕ} {P : Files → Type 0} (b d e : Disk) (log new : KeptLog) (side : KeptSide) (pool : Pool) (facts : Facts) (note : List ℕ) (since : ℕ) (failed : Bool) → IsLog b log → log.db ≡ db
    → Effect (IsOfSide (side_file db) (names_of facts.files)) P b d → ChangesNothing d e → new ≡ record log { waiting = new.waiting; end = new.end } → side.gate.name ≡ side_file db → side.names ≡ names_of facts.files → IsSide d side → added_of d side ≡ []
    → Notes log.note facts note → HaveRoom facts.files note → AreDifferent (names_of facts.files) → Standing e (record { log = new; side = side; pool = pool; facts = facts; note = note; since = since; failed = failed })
opened_standing b d e log new side pool facts note since failed is named effect call same name names sides none noted room different =
    let own : KeepsFiles (IsOwnOf side) d e = keeps_by_nothing call in
    let Made : KeptLog → Type 0 = λ l. Standing e (record { log = l; side = side; pool = pool; facts = facts; note = note; since = since; failed = failed }) in
    let made : Made (record log { waiting = new.waiting; end = new.end }) = record {
      logs = log_waits new.waiting new.end log.spare_bytes log.spare_flushes (still_logged b d e log facts.files is named effect call);
      side_name = name ∙ ap side_file (sym named);
      side_names = names;
      sides = side_kept own sides;
      fresh = added_kept side own ∙ none;
      noted = noted;
      room = room;
      different = different;
    } in
    subst Made (sym same) made

-- and only its own files were touched
pub opened_touches : {P Q : Files → Type 0} (db n : ℕ) (files : List DataFile) {a b d e : Disk} → n ≡ db → Effect (IsOfLog db) P a b → Effect (IsOfSide (side_file db) (names_of files)) Q b d → ChangesNothing d e → Effect (IsOwn n files) (λ _. Unit {0}) a e
opened_touches db n files {a} {e = e} same first second call =
    let Of : ℕ → Type 0 = λ m. Effect (IsOwn m files) (λ _. Unit {0}) a e in
    subst Of (sym same) (effect_then_nothing (effect_then (effect_widen (λ name at. inl at) (λ image here left. tt) first) (effect_widen (λ name at. inr at) (λ image here left. tt) second)) call)

module _ (laws : Settles) (db : ℕ) (stood : Stood) (a c : Disk) (log : KeptLog) (facts : Facts) (note : List ℕ) (is : LogRead db stood a c log facts note) (last : log.end ≡ log.stored) where
  -- what undoes what the log holds undoes the path
  abbrev held_part : List Rec
  held_part = kept_from is.holds.log.kept stood.records

  pub end_is : log.end ≡ end_of stood.records
  end_is = last ∙ stored_is db stood a c log facts note is

  pub undoes : compensation log.end held_part ≡ compensation (end_of stood.records) stood.records
  undoes =
      ap (λ (n : ℕ). compensation n held_part) end_is
      ∙ laws.enough stood.records is.holds.log.kept is.holds.recovers.path is.holds.recovers.some is.holds.recovers.opened

  pub undoing_is : numbered log.end (compensation log.end held_part) ≡ undoing stood.records
  undoing_is = ap (λ (n : ℕ). numbered n (compensation log.end held_part)) end_is ∙ ap (numbered (end_of stood.records)) undoes

  pub settled_end : log.end + length (compensation log.end held_part) ≡ end_of (settled stood.records)
  settled_end = omega (arith, end_is, ap (λ (rs : List Rec). length rs) undoes, settled_length stood.records)

  -- there are numbers for them
  pub room : log.end + length (compensation log.end held_part) ≤ 2 ^ 63
  room = omega (arith, settled_end, is.holds.recovers.room)

  -- the log with them
  abbrev pub grown : KeptLog
  grown = record log { waiting = undoing stood.records; end = end_of (settled stood.records) }

  pub grown_is : (new : KeptLog) → log.waiting ≡ [] → new ≡ with_undoing log (compensation log.end held_part) → new ≡ grown
  grown_is new none is_new =
      is_new
      ∙ ap₂ (λ (w : List Rec) (n : ℕ). let l : KeptLog = record log { waiting = w; end = n } in l)
      (ap (λ (w : List Rec). w ++ numbered log.end (compensation log.end held_part)) none ∙ undoing_is) settled_end

  -- and the bytes of what it holds then
  pub grown_bytes : (bytes : List ℕ) → AreRecords bytes (held_part ++ numbered log.end (compensation log.end held_part)) None → AreRecords bytes (kept_from is.holds.log.kept (settled stood.records)) None
  grown_bytes bytes are =
      let inside : is.holds.log.kept - 1 ≤ length stood.records = omega (arith, is.holds.recovers.some, is.holds.recovers.order, is.holds.recovers.early) in
      let same : kept_from is.holds.log.kept (settled stood.records) ≡ held_part ++ numbered log.end (compensation log.end held_part) =
      kept_settled is.holds.log.kept stood.records inside ∙ ap (λ (rs : List Rec). held_part ++ rs) (sym undoing_is) in
      subst (λ (rs : List Rec). AreRecords bytes rs None) (sym same) are

  -- ---- and its pages

  module _ (d : Disk) (side : KeptSide) (opened : SideOpened db facts c d side) where
    side_pages : (files : Files) (p : ℕ × ℕ) → pages_of side files p ≡ shown (side_file db) (names_of stood.files) files p
    side_pages files p = ap₂ (λ (s : List ℕ) (ns : List (List ℕ)). shown s ns files p) opened.name (opened.names ∙ ap names_of is.files)

    shown_then : (at : PageAt) → pages_of side d.files (at.file, at.page) ≡ shown_at db stood.files a.files at
    shown_then at =
        let Same : List DataFile → Type 0 = λ fs. shown (side_file db) (names_of fs) d.files (at.file, at.page) ≡ shown (side_file db) (names_of fs) c.files (at.file, at.page) in
        let same : Same stood.files = subst Same is.files (opened.same.pages (at.file, at.page)) in
        side_pages d.files (at.file, at.page) ∙ same ∙ is.shows at

    pub brings : (bytes : List ℕ) (to : ℕ) → AreRecords bytes (kept_from is.holds.log.kept (settled stood.records)) None → to ≡ end_of (settled stood.records) → Brings facts (pages_of side d.files) bytes to (settled stood.records)
    brings bytes to are ends =
        let of = whole_recovers laws is.holds.log.kept is.holds.checkpoint stood.files (shown_at db stood.files a.files) stood.records is.holds.recovers in
        let Page : PageAt → ℕ → List ℕ → Type 0 = λ at n page. IsStored (settled stood.records) n at page in
        record {
          path = of.path;
          kept = is.holds.log.kept;
          some = of.some;
          order = omega (arith, of.order, is.checkpoint);
          ends = ends;
          held = are;
          pages = λ at there. subst (λ (n : ℕ). Page at n (pages_of side d.files (at.file, at.page))) (sym is.checkpoint)
              (subst (Page at is.holds.checkpoint) (sym (shown_then at)) (of.pages at (subst (λ (fs : List DataFile). IsThere fs at) is.files there)));
        }

    -- the database stands
    pub opened_stands : (e : Disk) (new : KeptLog) (pool : Pool) (failed : Bool) → ChangesNothing d e → new ≡ grown → Standing e (record { log = new; side = side; pool = pool; facts = facts; note = note; since = facts.checkpoint; failed = failed })
        → ((i : ℕ) (at : PageAt) → IsIn pool.pages i at.file at.page → IsThere facts.files at × IsLast (settled stood.records) at (slice_index_or pool.frames i []))
        → ((at : PageAt) → IsThere facts.files at → (IsDirty pool at → ⊥) → page_of (pages_of side d.files (at.file, at.page)) ≡ last_page at (settled stood.records))
        → IsPaged e (record { log = new; side = side; pool = pool; facts = facts; note = note; since = facts.checkpoint; failed = failed }) (recovered stood)
    opened_stands e new pool failed call is_new standing frames clean =
        let of = is.holds.recovers in
        let Stands : KeptLog → Type 0 = λ l. Standing e (record { log = l; side = side; pool = pool; facts = facts; note = note; since = facts.checkpoint; failed = failed }) in
        let Made : KeptLog → Type 0 = λ l. IsPaged e (record { log = l; side = side; pool = pool; facts = facts; note = note; since = facts.checkpoint; failed = failed }) (recovered stood) in
        let same_kept = kept_is db stood a c log facts note is in
        let stored = stored_is db stood a c log facts note is in
        let own : KeepsFiles (IsOwnOf side) d e = keeps_by_nothing call in
        let now : (at : PageAt) → shown_at log.db stood.files e.files at ≡ pages_of side d.files (at.file, at.page) = λ at.
        ap (λ (n : ℕ). shown (side_file n) (names_of stood.files) e.files (at.file, at.page)) is.named
        ∙ sym (side_pages e.files (at.file, at.page))
        ∙ shown_kept side.gate.name side.names own (at.file, at.page) in
        let inside : is.holds.log.kept - 1 ≤ length stood.records = omega (arith, of.some, of.order, of.early) in
        let made : Made grown = record {
          standing = subst Stands is_new standing;
          files = is.files;
          same_note = is.note_is;
          ends = refl;
          held =
              ap (λ (l : Logged). l.records ++ undoing stood.records) (value_kept (keeps_log c d e log facts.files is.named opened.effect call) is.logs)
              ∙ ap (λ (rs : List Rec). rs ++ undoing stood.records) (held_records db stood a c log facts note is)
              ∙ sym (kept_settled is.holds.log.kept stood.records inside)
              ∙ ap (λ (n : ℕ). kept_from n (settled stood.records)) (sym same_kept);
          needs = omega (arith, same_kept, is.holds.needs);
          kept = omega (arith, same_kept, of.order, is.checkpoint);
          order = omega arith;
          sealed = omega (arith, stored, settled_length stood.records);
          recovers = λ k enough.
              let front = settled_recovers laws is.holds.log.kept is.holds.checkpoint stood.files (shown_at db stood.files a.files) stood.records k of (omega (arith, enough, stored)) in
              recovers_as is.holds.log.kept log.head.kept is.holds.checkpoint facts.checkpoint stood.files (shown_at db stood.files a.files) (shown_at log.db stood.files e.files) (take k (settled stood.records)) front
              (omega (arith, same_kept, of.some)) (omega (arith, same_kept, of.order, is.checkpoint)) (omega (arith, is.checkpoint))
              (subst (λ (n : ℕ). KeepsOpen n (take k (settled stood.records))) (sym same_kept) front.opened)
              (λ at. now at ∙ shown_then at);
          frames = λ i at here. let held = frames i at here in (subst (λ (fs : List DataFile). IsThere fs at) is.files held.0, held.1);
          clean = λ at there not_dirty. ap page_of (now at) ∙ clean at (subst (λ (fs : List DataFile). IsThere fs at) (sym is.files) there) not_dirty;
        } in
        subst Made (sym is_new) made

    -- these bytes are what its log holds
    pub opened_held : (new : KeptLog) (pool : Pool) (failed : Bool) (bytes : List ℕ) → new ≡ grown → AreRecords bytes (kept_from is.holds.log.kept (settled stood.records)) None
        → AreHeld (record { log = new; side = side; pool = pool; facts = facts; note = note; since = facts.checkpoint; failed = failed }) (recovered stood) bytes
    opened_held new pool failed bytes is_new are =
        subst (λ (n : ℕ). AreRecords bytes (kept_from n (settled stood.records)) None) (sym (ap (λ (l : KeptLog). l.head.kept) is_new ∙ kept_is db stood a c log facts note is)) are

    -- all that was durable is
    pub opened_count : (new : KeptLog) → new ≡ grown → new.stored - 1 ≡ length stood.records
    opened_count new is_new = omega (arith, ap (λ (l : KeptLog). l.stored) is_new, stored_is db stood a c log facts note is)
