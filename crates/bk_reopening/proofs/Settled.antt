-- A log with all that is pending undone, in its files and in memory.
use Rattle.std.proofs.Common.{◌≡◌, ◌≤◌, ◌<◌, ◌^◌, ℕ, ◌+◌, ◌-◌, List, [], ◌∷◌, ◌++◌, length, map, drop, None, refl, sym, ◌∙◌, ap, subst, arith}
use Rattle.std.specs.List.{AllByRecursion}
use Rattle.std.proofs.lemmas.List.{append-nil, drop-drop, drop-map, length-drop, length-map, take-append-drop}
use Rattle.bk_cells.specs.Cells.{cell_of}
use Rattle.bk_cells.specs.Laws.{CellsAreRows}
use Rattle.bk_device.specs.Compose.{effect_weaken}
use Rattle.bk_device.specs.Disk.{Disk}
use Rattle.bk_device.specs.Effects.{Effect}
use Rattle.bk_facts.specs.declared.facts.DataFile.{DataFile}
use Rattle.bk_ids.specs.declared.record.Rec.{Rec}
use Rattle.bk_known.specs.declared.known.Known.{Known}
use Rattle.bk_paged.specs.Holds.{Leaves, Stood, recovered}
use Rattle.bk_paged.specs.Names.{IsOwn}
use Rattle.bk_paged.specs.Paged.{IsPaged, Kept as KeptPaged}
use Rattle.bk_paths.specs.Laws.{SettlesAsTheMachine}
use Rattle.bk_paths.specs.Paths.{kept_from}
use Rattle.bk_record.specs.Log.{IsLog}
use Rattle.bk_shown.specs.Shown.{ArePlaced, IsOf, LieInCells, LogKeeps}
use Rattle.bk_shown.specs.Ends.{HoldsPending}
use Rattle.bk_undo.specs.Spelled.{spelled}
use Rattle.bk_world.specs.declared.database.FileSpec.{FileSpec}
use Rattle.bk_world.specs.declared.database.TableSpec.{TableSpec}
use Rattle.bk_world.specs.declared.row.PlacedRow.{PlacedRow}
use Rattle.bk_world.specs.CrashLaws.{counts-more, sound-settled}
use Rattle.bk_world.specs.Cut.{end_behind, settled as settled_log}
use Rattle.bk_world.specs.Pending.{Pending, pending}
use Rattle.bk_world.specs.Records.{Counts, Logged, numbered}
use Rattle.bk_world.specs.Says.{settle_said, undoing}
use Rattle.bk_world.specs.SoundLogs.{IsSound}
use Rattle.bk_store.specs.CutLaws.{placed-plain}
use Rattle.bk_store.specs.FrontLaws.{as_of-more}
use Rattle.bk_store.specs.LiftLaws.{leaves-lift}
use Rattle.bk_store.specs.Recent.{Says, SaysFront}
use Rattle.bk_store.specs.Told.{IsLogIn, IsNoted, LeavesRecords, Told, below, data_file, data_files, files_of, stood_of}
use Rattle.bk_store.specs.declared.recent.Recent.{Recent}
use Rattle.bk_reopening.specs.Cells.{AreAll, DontFall}
use Rattle.bk_reopening.specs.Reopening.{IsQuiet, IsSettled, SaysAsOf, settled}
use Rattle.bk_reopening.proofs.Rows.{rows-are, rows-rise}

-- laws of logs in their places
pub record Laws : Type 0 where
  pub keeps : (files : List FileSpec) (rs : List Logged) (n : ℕ) → Counts 1 rs n → IsSound rs → ArePlaced files [] rs → LogKeeps rs n
  pub lie : (files : List FileSpec) (rs : List Logged) (n : ℕ) → Counts 1 rs n → IsSound rs → ArePlaced files [] rs → LieInCells files rs
  pub more : (files : List FileSpec) (rs next : List Logged) → ArePlaced files [] rs → ArePlaced files rs next → ArePlaced files [] (rs ++ next)

-- ---- the log with all undone that was pending

undoing-placed : (files : List FileSpec) (before : List Logged) (n : ℕ) (ws : List Pending) → ArePlaced files before (numbered n (undoing ws))
undoing-placed files before n [] = tt
undoing-placed files before n (w ∷ ws) = (tt, undoing-placed files _ (n + 1) ws)

pub settled-log : Laws → (files : List FileSpec) (rs : List Logged) → IsLogIn files rs → IsLogIn files (settled_log rs)
unfolding settled_log
settled-log laws files rs is = record {
  files_are = is.files_are;
  counts = counts-more rs (settle_said (pending rs)) is.counts;
  sound = sound-settled rs is.sound is.counts (laws.keeps files rs (end_behind rs) is.counts is.sound is.placed).loads;
  placed = laws.more files rs (numbered (end_behind rs) (settle_said (pending rs))) is.placed (undoing-placed files rs (end_behind rs) _);
}

pub settled-noted : (known : Known) (told : Told) → IsNoted known told → IsNoted known (settled told)
unfolding settled_log
settled-noted known told is = record {
  spec = is.spec;
  spelled = is.spelled;
  keeps = is.keeps;
  short = is.short;
  as_of = as_of-more known.as_of told.records (numbered (end_behind told.records) (settle_said (pending told.records))) is.as_of;
}

-- the path of a settled log is the settled path
pub settled-stood : SettlesAsTheMachine → (known : Known) (told : Told) → IsLogIn (files_of told) told.records → recovered (stood_of known told) ≡ stood_of known (settled told)
settled-stood law known told is =
    ap (λ (rs : List Rec). record (stood_of known told) { records = rs }) (law told.records is.counts (placed-plain (files_of told) [] told.records is.placed))

pub stands-settled : SettlesAsTheMachine → (known : Known) (told : Told) (p : KeptPaged) (d : Disk) → IsLogIn (files_of told) told.records → IsPaged d p (recovered (stood_of known told)) → IsPaged d p (stood_of known (settled told))
stands-settled law known told p d log stands = subst (λ (stood : Stood). IsPaged d p stood) (settled-stood law known told log) stands

-- a crash while log and pages are opened leaves a front of it
pub crash-settled : SettlesAsTheMachine → Laws → (db : ℕ) (known : Known) (told : Told) (a b : Disk) → IsNoted known told → IsLogIn (files_of told) told.records
    → Effect (IsOwn db (data_files told)) (Leaves db (length (stood_of known told).records) (recovered (stood_of known told))) a b → Effect (IsOwn db (data_files told)) (LeavesRecords db (length told.records) (settled told)) a b
crash-settled law laws db known told a b noted log effect =
    let Of : Stood → Type 0 = λ stood. Effect (IsOwn db (data_files told)) (Leaves db (length (map spelled told.records)) stood) a b in
    let Least : ℕ → Type 0 = λ n. Effect (IsOwn db (data_files told)) (Leaves db n (stood_of known (settled told))) a b in
    effect_weaken (λ image here. leaves-lift db (length told.records) known (settled told) image (settled-noted known told noted) (settled-log laws (files_of told) told.records log) (omega (arith, noted.as_of.inside)) here)
    (subst Least (length-map told.records spelled) (subst Of (settled-stood law known told log) effect))

-- ---- what is read

-- the records that the log holds behind some of them
behind-held : (kept from : ℕ) (rs : List Logged) → 1 ≤ kept → kept ≤ from → drop (from - kept) (kept_from kept (map spelled rs)) ≡ map spelled (drop (from - 1) rs)
behind-held kept from rs some order =
    drop-drop (from - kept) (kept - 1) (map spelled rs) ∙ ap (λ (n : ℕ). drop n (map spelled rs)) (omega (arith, some, order)) ∙ drop-map spelled (from - 1) rs

-- there are so many of them
pub held-enough : (p : KeptPaged) (bytes : List ℕ) (known : Known) (told : Told) → IsSettled p bytes known told → known.as_of.from ≤ p.log.stored → known.as_of.from - p.log.head.kept ≤ length (kept_from p.log.head.kept (map spelled told.records))
held-enough p bytes known told is low =
    omega (arith, is.some, is.needs, low, is.sealed, is.ends, length-drop (p.log.head.kept - 1) (map spelled told.records), length-map told.records spelled)

-- the end of the log is spelled, and its front says what the note says
pub says-front : (p : KeptPaged) (bytes : List ℕ) (known : Known) (told : Told) (rest : List ℕ) (first : Recent) → IsSettled p bytes known told
    → IsLog rest (drop (known.as_of.from - p.log.head.kept) (kept_from p.log.head.kept (map spelled told.records))) None → SaysAsOf known.as_of first → SaysFront told.records rest first
says-front p bytes known told rest first is here own = record {
  front = below known.as_of.from told.records;
  left = drop (known.as_of.from - 1) told.records;
  splits = sym (take-append-drop (known.as_of.from - 1) told.records);
  spells = subst (λ (rs : List Rec). IsLog rest rs None) (behind-held p.log.head.kept known.as_of.from told.records is.some is.needs) here;
  says = record { tables = own.tables ∙ is.noted.as_of.tables; model = own.model ∙ is.noted.as_of.model; time = own.time ∙ is.noted.as_of.time };
}

-- what the note says is durable
pub needs-durable : (p : KeptPaged) (bytes : List ℕ) (known : Known) (told : Told) → IsSettled p bytes known told → known.as_of.from ≤ p.log.stored
needs-durable p bytes known told is = omega (arith, is.noted.as_of.inside, is.sealed, is.ends)

-- ---- what is shown

-- log and pages in memory are those of a log in which nothing is pending
pub is-quiet : (p : KeptPaged) (bytes : List ℕ) (known : Known) (told : Told) (r : Recent) → IsSettled p bytes known told → Says told.records r → IsQuiet (files_of told) told.records p r
is-quiet p bytes known told r is says = record { log = is.log; quiet = is.quiet; ends = is.ends; files_are = is.files_are; pages = is.pages; whole = is.whole; says = says }

-- no bytes hold all of what is pending where nothing is
nothing-held : (rs : List Logged) → pending rs ≡ [] → HoldsPending rs (length rs + 1) []
nothing-held rs quiet = record {
  spells = record { before = rs; from = []; splits = sym (append-nil rs); first_is = refl; spelled_is = record { rest = []; spelled = refl; are_records = tt; ends = refl } };
  begun = subst (AllByRecursion (λ (w : Pending). length rs + 1 ≤ w.begin)) (sym quiet) tt;
}

-- it is of the rows in the cells of its pages
pub is-of : CellsAreRows → Laws → (files : List FileSpec) (rs : List Logged) (p : KeptPaged) (r : Recent) (listed : List PlacedRow) → IsQuiet files rs p r → DontFall listed → AreAll (cell_of rs) p.facts.files listed
    → IsOf files rs r.tables.items listed [] r.model r.time p.log.end
is-of rows laws files rs p r listed is sorted all =
    let log = is.log in
    let holds = rows files rs (end_behind rs) log.counts log.sound log.placed is.quiet in
    let lie = laws.lie files rs (end_behind rs) log.counts log.sound log.placed in
    let every = subst (λ (fs : List DataFile). AreAll (cell_of rs) fs listed) is.files_are all in
    record {
      counts = subst (Counts 1 rs) (sym is.ends) log.counts;
      sound = log.sound;
      placed = log.placed;
      tables = sym is.says.tables;
      committed = rows-are files rs listed holds lie log.files_are is.quiet every;
      rise = rows-rise files rs listed holds lie log.files_are is.quiet every sorted;
      first = length rs + 1;
      holds = nothing-held rs is.quiet;
      model = sym is.says.model;
      time = sym is.says.time;
    }

-- the same with what was handed on
pub is-of-read : CellsAreRows → Laws → (files : List FileSpec) (rs : List Logged) (p : KeptPaged) (r : Recent) (listed : List PlacedRow) → IsQuiet files rs p r → DontFall listed → AreAll (cell_of rs) p.facts.files listed
    → (made : List TableSpec) (given : List PlacedRow) (held : List ℕ) (ends : ℕ) → made ≡ r.tables.items → given ≡ listed → held ≡ [] → ends ≡ p.log.end → IsOf files rs made given held r.model r.time ends
is-of-read rows laws files rs p r listed is sorted all made given held ends tables same none last =
    let Of : List TableSpec → List PlacedRow → List ℕ → ℕ → Type 0 = λ ts xs bs n. IsOf files rs ts xs bs r.model r.time n in
    subst (λ (ts : List TableSpec). Of ts given held ends) (sym tables) (subst (λ (xs : List PlacedRow). Of r.tables.items xs held ends) (sym same)
    (subst (λ (bs : List ℕ). Of r.tables.items listed bs ends) (sym none) (subst (λ (n : ℕ). Of r.tables.items listed [] n) (sym last) (is-of rows laws files rs p r listed is sorted all))))

-- there are few data files
pub few-files : (files : List FileSpec) (rs : List Logged) (p : KeptPaged) (r : Recent) → IsQuiet files rs p r → length p.facts.files < 2 ^ 16
few-files files rs p r is = omega (arith, is.log.files_are.few, ap (λ (fs : List DataFile). length fs) is.files_are, length-map files data_file)
