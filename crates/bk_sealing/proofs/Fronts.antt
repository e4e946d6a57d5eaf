-- What is left of a database is copied to a set that holds its first extents.
use Rattle.std.proofs.Common.{◌≡◌, ◌≤◌, ℕ, List, [], ◌∷◌, ◌++◌, length, map, None, sym, ◌∙◌, ap, subst, arith}
use Rattle.std.specs.List.{AllByRecursion}
use Rattle.std.proofs.lemmas.List.{append-nil, map-append}
use Rattle.bk_body.specs.Body.{Extent}
use Rattle.bk_carried.specs.Carried.{id_of}
use Rattle.bk_carried.specs.Copied.{IsHeaderOf, WasRead}
use Rattle.bk_copying.specs.Copying.{AreCopies, IsCopy}
use Rattle.bk_copying.specs.Extents.{extents_of}
use Rattle.bk_device.specs.Disk.{Disk}
use Rattle.bk_engine.specs.Copying.{HoldsFront, IsToldOf}
use Rattle.bk_ids.specs.declared.guid.Guid.{Guid}
use Rattle.bk_ids.specs.declared.record.ExtentId.{ExtentId}
use Rattle.bk_kept.specs.Jobs.{IsApart}
use Rattle.bk_lemmas.specs.Lists.{all_joined}
use Rattle.bk_machine.specs.Acts.{done, set_sealed}
use Rattle.bk_machine.specs.World.{Database, World, log_of}
use Rattle.bk_paged.specs.Paged.{from_to}
use Rattle.bk_record.specs.Log.{IsLog}
use Rattle.bk_store.specs.Copying.{IsExtentOf}
use Rattle.bk_store.specs.Told.{Told, data_file}
use Rattle.bk_undo.specs.Spelled.{spelled}
use Rattle.bk_volume.specs.Staging.{HoldsParts, Staging}
use Rattle.bk_world.specs.declared.header.Header.{Header}
use Rattle.bk_world.specs.Records.{Logged}
use Rattle.bk_sealing.specs.Copied.{HoldsCopy}
use Rattle.bk_sealing.specs.Sealing.{IsSetNow}
use Rattle.bk_sealing.proofs.Listed.{copies-are}

-- ---- a set without extents

-- all extents are left to it
pub none-copied : (w : World) (db : Database) (since : ℕ) (rest : List ExtentId) (disk : Disk) (set : Staging) → rest ≡ extents_of (map data_file db.files) → HoldsParts disk set [] [] → HoldsFront w db since rest disk set
none-copied w db since rest disk set all parts = record { extents = []; order = all; read = tt; parts = parts }

-- ---- what is copied now

own-extent : (told : Told) (x : ExtentId) (c : Extent) → IsCopy told x c → IsExtentOf told c.file c.extent c.bytes
own-extent told x c copy = subst (λ (n : ℕ). IsExtentOf told n c.extent c.bytes) (sym copy.file) (subst (λ (n : ℕ). IsExtentOf told x.file n c.bytes) (sym copy.number) copy.is_extent)

read-one : (told : Told) (since : ℕ) (c : Extent) → since ≤ length told.records → IsExtentOf told c.file c.extent c.bytes → WasRead told.records since c
read-one told since c late is = record { front = told.records; back = []; splits = sym (append-nil told.records); late = late; pages = is }

read-all : (told : Told) (since : ℕ) (ids : List ExtentId) (copies : List Extent) → since ≤ length told.records → AreCopies told ids copies → AllByRecursion (WasRead told.records since) copies
read-all told since [] [] late are = tt
read-all told since [] (c ∷ copies) late are = absurd are
read-all told since (x ∷ ids) [] late are = absurd are
read-all told since (x ∷ ids) (c ∷ copies) late are = (read-one told since c late (own-extent told x c are.0), read-all told since ids copies late are.1)

-- ---- the rest is copied

-- the checkpoint of the set was said
said-before : (w : World) (header : Header) (is : IsSetNow w header) (told : Told) → IsToldOf w is.db told → header.checkpoint ≤ length told.records
said-before w header is told of_it =
    let its : IsHeaderOf told header = is.of_it told of_it.files of_it.records in
    let below = its.inside in
    let ends = its.ends in
    omega (arith, below, ends)

pub all-copied : (w : World) (header : Header) (is : IsSetNow w header) (rest : List ExtentId) (a b : Disk) (before set : Staging) (front : HoldsFront w is.db header.checkpoint rest a before) (told : Told) (more : List Extent) (log : List ℕ)
    → IsToldOf w is.db told → AreCopies told rest more → IsLog log (from_to header.first header.last (map spelled (log_of w.history is.db))) None → HoldsParts b set (front.extents ++ more) log
    → HoldsCopy w is.db header.checkpoint header.first header.last b set
all-copied w header is rest a b before set front told more log of_it copies is_log parts = record {
  extents = front.extents ++ more;
  log = log;
  order = map-append id_of front.extents more ∙ ap (λ (ids : List ExtentId). map id_of front.extents ++ ids) (copies-are told rest more copies) ∙ front.order;
  read = all_joined (WasRead (log_of w.history is.db) header.checkpoint) front.extents more front.read
      (subst (λ (rs : List Logged). AllByRecursion (WasRead rs header.checkpoint) more) of_it.records (read-all told header.checkpoint rest more (said-before w header is told of_it) copies));
  is_log = is_log;
  parts = parts;
}

-- ---- its set is that of no backup that runs

-- nor is it once it is sealed
pub sealed-apart : (w : World) (path : List ℕ) (header : Header) (set : Guid) → IsApart w set → IsApart (done w (set_sealed path header)) set
unfolding done
sealed-apart w path header set apart = apart
