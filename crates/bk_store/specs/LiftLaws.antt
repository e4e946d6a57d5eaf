-- What a crash leaves of log and pages is what it leaves of the machine's records.
use Rattle.std.proofs.Common.{◌≡◌, ◌≤◌, ℕ, ◌+◌, List, [], ◌∷◌, ◌++◌, length, map, sym, ◌∙◌, ap, subst, arith, inl, inr}
use Rattle.std.specs.List.{take-map}
use Rattle.std.proofs.lemmas.Bool.{cases_lt}
use Rattle.std.proofs.lemmas.List.{map-append, take-append-le, length-map, take_all}
use Rattle.bk_device.specs.Compose.{effect_then, effect_weaken}
use Rattle.bk_device.specs.Disk.{Disk, Files}
use Rattle.bk_device.specs.Effects.{Effect}
use Rattle.bk_ids.specs.declared.record.Rec.{Rec}
use Rattle.bk_known.specs.declared.known.Known.{Known}
use Rattle.bk_paged.specs.Holds.{Holds, Leaves, with_one}
use Rattle.bk_paged.specs.Names.{IsOwn}
use Rattle.bk_paged.specs.Paged.{IsPaged, sealed_count, Kept as KeptPaged}
use Rattle.bk_shown.specs.Shown.{Shows}
use Rattle.bk_shown.specs.declared.shown.Shown.{Shown}
use Rattle.bk_undo.specs.Spelled.{spelled}
use Rattle.bk_world.specs.Records.{Logged}
use Rattle.bk_store.specs.Store.{Crashes, IsStore, Kept, NotesOr, sealed_in}
use Rattle.bk_store.specs.Told.{HoldsRecords, IsLogIn, IsNoted, LeavesRecords, Told, data_files, files_of, said, stood_of}
use Rattle.bk_store.specs.FrontLaws.{as_of-front, as_of-more, log-front, shown-log}

pub leaves-lift : (db least : ℕ) (known : Known) (told : Told) (image : Files) → IsNoted known told → IsLogIn (files_of told) told.records → known.as_of.from ≤ least + 1 → Leaves db least (stood_of known told) image → LeavesRecords db least told image
leaves-lift db least known told image noted log early here = (
  here.0,
  here.1,
  record {
    known = known;
    noted = record {
      spec = noted.spec;
      spelled = noted.spelled;
      keeps = noted.keeps;
      short = noted.short;
      as_of = as_of-front known.as_of here.0 told.records noted.as_of (omega (arith, early, here.1));
    };
    log = log-front (files_of told) here.0 told.records log;
    holds = subst (λ (rs : List Rec). Holds db (record (stood_of known told) { records = rs }) image) (take-map spelled here.0 told.records) here.2;
  },
)

-- a crash of a call below
pub crash-lift : (s : Kept) (told : Told) (a b : Disk) → IsStore a s told → Effect (IsOwn s.paged.log.db (data_files told)) (Leaves s.paged.log.db (sealed_count s.paged) (stood_of s.known told)) a b → Crashes s told a b
crash-lift s told a b is effect =
    effect_weaken (λ image here. leaves-lift s.paged.log.db (sealed_count s.paged) s.known told image is.noted (shown-log (files_of told) told.records s.shown is.shows) (omega (arith, is.early)) here) effect

-- one record more is said
pub said-stands : (s : Kept) (told : Told) (r : Logged) (x : Rec) (paged : KeptPaged) (shown : Shown) (a b : Disk) → IsStore a s told → spelled r ≡ x → IsPaged b paged (with_one (stood_of s.known told) x)
    → Shows (files_of told) (told.records ++ r ∷ []) shown → s.paged.log.stored ≤ paged.log.stored → IsStore b (record s { paged = paged; shown = shown }) (said told r)
said-stands s told r x paged shown a b is spells stands shows later =
    let more : map spelled told.records ++ x ∷ [] ≡ map spelled (told.records ++ r ∷ []) = ap (λ (y : Rec). map spelled told.records ++ y ∷ []) (sym spells) ∙ sym (map-append spelled told.records (r ∷ [])) in
    record {
      paged = subst (λ (rs : List Rec). IsPaged b paged (record (stood_of s.known told) { records = rs })) more stands;
      shows = shows;
      noted = record {
        spec = is.noted.spec;
        spelled = is.noted.spelled;
        keeps = is.noted.keeps;
        short = is.noted.short;
        as_of = as_of-more s.known.as_of told.records (r ∷ []) is.noted.as_of;
      };
      note = is.note;
      early = omega (arith, is.early, later);
    }

-- log and pages changed, and stand for the same
pub paged-stands : (s : Kept) (told : Told) (paged : KeptPaged) (a b : Disk) → IsStore a s told → IsPaged b paged (stood_of s.known told) → s.paged.log.stored ≤ paged.log.stored → IsStore b (record s { paged = paged }) told
paged-stands s told paged a b is stands later = record {
  paged = stands;
  shows = is.shows;
  noted = is.noted;
  note = is.note;
  early = omega (arith, is.early, later);
}

-- a front of a log is one of the log with a record more
pub more-leaves : (db least : ℕ) (told : Told) (r : Logged) (image : Files) → least ≤ length told.records → LeavesRecords db least told image → LeavesRecords db least (said told r) image
more-leaves db least told r image enough here =
    let Of : List Logged → Type 0 = λ rs. HoldsRecords db (record told { records = rs }) image in
    elim (cases_lt (length told.records) here.0) [
      | inr within ↦ (here.0, here.1, subst Of (sym (take-append-le here.0 told.records (r ∷ []) within)) here.2)
      | inl past ↦ (
        length told.records,
        enough,
        subst Of (take_all here.0 told.records (omega (arith, past)) ∙ sym (take-append-le (length told.records) told.records (r ∷ []) (omega arith) ∙ take_all (length told.records) told.records (omega arith))) here.2,
      )
    ]

pub crash-more : (s : Kept) (told : Told) (r : Logged) (a b : Disk) → sealed_in s ≤ length told.records → Crashes s told a b → Crashes s (said told r) a b
crash-more s told r a b enough effect = effect_weaken (λ image here. more-leaves s.paged.log.db (sealed_in s) told r image enough here) effect

-- no more records are durable than there are
pub sealed-few : (s : Kept) (told : Told) (a : Disk) → IsStore a s told → sealed_in s ≤ length told.records
sealed-few s told a is = omega (arith, is.paged.sealed, is.paged.ends, length-map told.records spelled)

-- ---- a device that is as it was

pub moved-stands : {D : Type 0} (disk : D → Disk) (x y : D) (s : Kept) (told : Told) → y ≡ x → IsStore (disk x) s told → IsStore (disk y) s told
moved-stands disk x y s told same is = subst (λ (d : _). IsStore (disk d) s told) (sym same) is

pub moved-crash : {D : Type 0} (disk : D → Disk) (x y : D) (s : Kept) (told : Told) (b : Disk) → y ≡ x → Crashes s told (disk y) b → Crashes s told (disk x) b
moved-crash disk x y s told b same crash = subst (λ (d : _). Crashes s told (disk d) b) same crash

-- a record was said, and then something was done: a crash since leaves a front with it
pub crash-then : (s then : Kept) (told : Told) (r : Logged) (a b c : Disk) → IsStore a s told → then.paged.log.db ≡ s.paged.log.db → s.paged.log.stored ≤ then.paged.log.stored → Crashes s told a b → Crashes then (said told r) b c → Crashes s (said told r) a c
crash-then s then told r a b c is same later first second =
    let Db : ℕ → Type 0 = λ db. Effect (IsOwn db (data_files told)) (LeavesRecords db (sealed_in then) (said told r)) b c in
    let least : Crashes s (said told r) b c = effect_weaken (λ image here. (here.0, omega (arith, here.1, later), here.2)) (subst Db same second) in
    effect_then (crash-more s told r a b (sealed-few s told a is) first) least

pub moved-noting : {D : Type 0} (disk : D → Disk) (x y : D) (s : Kept) (told : Told) (note : List ℕ) (b : Disk) → y ≡ x → NotesOr s told note (disk y) b → NotesOr s told note (disk x) b
moved-noting disk x y s told note b same crash = subst (λ (d : _). NotesOr s told note (disk d) b) same crash
