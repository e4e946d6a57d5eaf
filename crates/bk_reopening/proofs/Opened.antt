-- A database that is opened: from what its files held to what its store stands for.
use Rattle.std.proofs.Common.{◌≡◌, ◌≤◌, ℕ, List, [], refl, sym, ◌∙◌, ap, subst, arith}
use Rattle.std.proofs.lemmas.List.{length-map}
use Rattle.bk_cells.specs.Laws.{CellsAreOnPages}
use Rattle.bk_device.specs.Disk.{Disk}
use Rattle.bk_groups.specs.Groups.{AreFiles}
use Rattle.bk_known.specs.declared.known.DatabaseSpec.{DatabaseSpec}
use Rattle.bk_known.specs.declared.known.Known.{Known}
use Rattle.bk_opening.specs.Opening.{AreHeld, AreIn}
use Rattle.bk_paged.specs.Holds.{Stood, recovered}
use Rattle.bk_paged.specs.Paged.{IsPaged, sealed_count, Kept as KeptPaged}
use Rattle.bk_paths.specs.Laws.{SettlesAsTheMachine}
use Rattle.bk_shown.specs.Shown.{Shows}
use Rattle.bk_shown.specs.declared.shown.Shown.{Shown}
use Rattle.bk_store.specs.CutLaws.{placed-plain}
use Rattle.bk_store.specs.Store.{IsStore}
use Rattle.bk_store.specs.Told.{IsLogIn, IsNoted, Told, files_of, stood_of}
use Rattle.bk_world.specs.declared.database.FileSpec.{FileSpec}
use Rattle.bk_undo.specs.Spelled.{spelled}
use Rattle.bk_world.specs.Records.{Logged}
use Rattle.bk_world.specs.SettledLaws.{nothing-pends}
use Rattle.bk_reopening.specs.Reopening.{IsNoteOf, IsSettled, Tells, settled}
use Rattle.bk_reopening.specs.declared.noting.Noted.{Noted}
use Rattle.bk_reopening.proofs.Fits.{cells-fit}
use Rattle.bk_reopening.proofs.Pages.{pool-holds}
use Rattle.bk_reopening.proofs.Settled.{Laws, settled-log, settled-noted, settled-stood, stands-settled}

-- what was opened is the database with all undone
pub settled-now : SettlesAsTheMachine → CellsAreOnPages → Laws → (told : Told) (known : Known) (d : Disk) (p : KeptPaged) (bytes : List ℕ) → IsNoted known told → IsLogIn (files_of told) told.records
    → IsPaged d p (recovered (stood_of known told)) → AreHeld p (recovered (stood_of known told)) bytes → p.log.stored ≡ p.log.end → AreIn p.facts.files p.pool → IsSettled p bytes known (settled told)
settled-now law on laws told known d p bytes noted log paged held sealed whole =
    let now : Told = settled told in
    let rs : List Logged = now.records in
    let in_log = settled-log laws (files_of told) told.records log in
    let stands : IsPaged d p (stood_of known now) = stands-settled law known told p d log paged in
    record {
      noted = settled-noted known told noted;
      log = in_log;
      quiet = nothing-pends told.records;
      note = stands.same_note;
      ends = omega (arith, stands.ends, length-map rs spelled);
      sealed = sealed;
      needs = stands.needs;
      some = (stands.recovers (sealed_count p) (omega arith)).some;
      held = subst (λ (stood : Stood). AreHeld p stood bytes) (settled-stood law known told log) held;
      files_are = stands.files;
      pages = pool-holds on d p (stood_of known now) rs refl (placed-plain (files_of told) [] rs in_log.placed) (cells-fit (files_of told) rs in_log.sound in_log.placed) stands;
      whole = whole;
    }

-- their note is the database's
pub note-of : (p : KeptPaged) (records : List ℕ) (known : Known) (told : Told) (bytes : List ℕ) → bytes ≡ p.note → IsSettled p records known told → IsNoteOf bytes known told.note
note-of p records known told bytes same is = record {
  spelled = is.noted.spelled;
  keeps = is.noted.keeps;
  files = subst (λ (spec : DatabaseSpec). AreFiles spec.storage.files) (sym is.noted.spec) is.log.files_are;
  short = is.noted.short;
  is = same ∙ is.note;
}

-- so what is read of it is what is known
pub read-known : (p : KeptPaged) (records : List ℕ) (known : Known) (told : Told) (bytes : List ℕ) (noted : Noted) → bytes ≡ p.note → Tells bytes noted → IsSettled p records known told → (noted.known ≡ known) × (noted.note.items ≡ told.note)
read-known p records known told bytes noted same tells is = tells.same known told.note is.noted.spelled (same ∙ is.note)

pub settled-read : (p : KeptPaged) (records : List ℕ) (known : Known) (told : Told) (bytes : List ℕ) (noted : Noted) → bytes ≡ p.note → Tells bytes noted → IsSettled p records known told → IsSettled p records noted.known told
settled-read p records known told bytes noted same tells is = subst (λ (k : Known). IsSettled p records k told) (sym (read-known p records known told bytes noted same tells is).0) is

-- the store of these parts
pub store-is : (d : Disk) (p : KeptPaged) (records : List ℕ) (shown : Shown) (known : Known) (told : Told) (noted : Noted) → Tells p.note noted → IsSettled p records known told → IsPaged d p (stood_of known told) → Shows (files_of told) told.records shown → noted.known.as_of.from ≤ p.log.stored
    → IsStore d (record { paged = p; shown = shown; known = noted.known; note = noted.note.items }) told
store-is d p records shown known told noted tells is stands shows early =
    let same = tells.same known told.note is.noted.spelled is.note in
    record {
      paged = subst (λ (k : Known). IsPaged d p (stood_of k told)) (sym same.0) stands;
      shows = shows;
      noted = subst (λ (k : Known). IsNoted k told) (sym same.0) is.noted;
      note = same.1;
      early = early;
    }

-- files that are read and hold a database
pub files-read : (known : Known) (told : Told) (files : List FileSpec) → files ≡ known.spec.storage.files → IsNoted known told → files ≡ files_of told
files-read known told files same noted = same ∙ ap (λ (spec : DatabaseSpec). spec.storage.files) noted.spec
