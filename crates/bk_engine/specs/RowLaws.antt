-- What is done under other names leaves media and the rows of msdb, and acts leave the rows but the one that adds one.
use Rattle.std.proofs.Common.{◌≡◌, inl, inr, ℕ, List, Option, Some, None, refl, sym, subst, ◌∙◌}
use Rattle.bk_archive.specs.DiskLaws.{calm-nothing as media-nothing, media-durable}
use Rattle.bk_archive.specs.Media.{IsMediumFile, KeepsMedia, MediaAreDurable}
use Rattle.bk_archive.specs.MediaLaws.{media-in}
use Rattle.bk_device.specs.Calls.{ChangesNothing}
use Rattle.bk_device.specs.Disk.{Disk, Files}
use Rattle.bk_device.specs.Effects.{Effect}
use Rattle.bk_device.specs.Laws.{durable_by_nothing}
use Rattle.bk_machine.specs.Acts.{Act, based, created, done, dropped, goes_online, job_set, jobs_dropped, logged, medium_made, noted, readied, recovered, replaced, restored, says, seated, set_drawn, set_sealed, turned, where_found}
use Rattle.bk_machine.specs.World.{Database, World, database_named}
use Rattle.bk_msdb.specs.Laws.{shows_same}
use Rattle.bk_msdb.specs.Msdb.{Shows, msdb_file}
use Rattle.bk_volume.specs.Names.{medium_file}
use Rattle.bk_engine.specs.NameLaws.{medium-rows}
use Rattle.bk_engine.specs.Rows.{IsCalm, KeepsBeside, rows_in}
use Rattle.bk_engine.specs.Stands.{IsOurs}

-- ---- worlds with the same rows

pub calm-on : {disk : Disk} {w v : World} → rows_in v ≡ rows_in w → IsCalm disk w → IsCalm disk v
calm-on {disk = disk} same calm = record { media = calm.media; rows = subst (Shows disk.files) (sym same) calm.rows; durable = calm.durable }

-- ---- what is done under other names

module _ {own : List ℕ → Type 0} (no_medium : (path : List ℕ) → own (medium_file path) → ⊥) (no_rows : own msdb_file → ⊥) where
  pub calm-by : {P : Files → Type 0} {a b : Disk} {w : World} → Effect own P a b → IsCalm a w → IsCalm b w
  calm-by {a = a} {b = b} {w = w} effect calm = record {
    media = media-durable a b no_medium effect calm.media;
    rows = shows_same a.files b.files (rows_in w) (effect.others msdb_file no_rows) calm.rows;
    durable = λ content may. calm.durable content (effect.others_left msdb_file no_rows content may) ∙ sym (effect.others msdb_file no_rows);
  }

  -- and so does a crash meanwhile
  pub beside-then : (u v : World) (making : Option (List ℕ)) (a : Disk) (image : Files) → IsCalm a u → ((name : List ℕ) → (own name → ⊥) → IsOurs name → a.may name (image name)) → KeepsMedia v making a.files → KeepsBeside u v making image
  beside-then u v making a image calm others media = record {
    media = media-in v making a.files image (λ path bytes. calm.media path bytes (image (medium_file path)) (others (medium_file path) (no_medium path) (inr (inl (path, bytes, refl))))) media;
    rows = shows_same a.files image (rows_in u) (calm.durable (image msdb_file) (others msdb_file no_rows (inr (inr (inr refl))))) calm.rows;
  }

-- nothing is done
pub calm-nothing : {a b : Disk} {w : World} → ChangesNothing a b → IsCalm a w → IsCalm b w
calm-nothing {a = a} {b = b} {w = w} call calm = record {
  media = media-nothing call calm.media;
  rows = shows_same a.files b.files (rows_in w) (call.files msdb_file) calm.rows;
  durable = durable_by_nothing msdb_file call calm.durable;
}

-- ---- something is done to media

pub calm-media : {P : Files → Type 0} {a b : Disk} {w v : World} → rows_in v ≡ rows_in w → MediaAreDurable b → Effect IsMediumFile P a b → IsCalm a w → IsCalm b v
calm-media {a = a} {b = b} {w = w} {v = v} same media effect calm = record {
  media = media;
  rows = subst (Shows b.files) (sym same) (shows_same a.files b.files (rows_in w) (effect.others msdb_file medium-rows) calm.rows);
  durable = λ content may. calm.durable content (effect.others_left msdb_file medium-rows content may) ∙ sym (effect.others msdb_file medium-rows);
}

-- a crash meanwhile leaves the rows
pub rows-then : {w : World} (a : Disk) (image : Files) → IsCalm a w → ((name : List ℕ) → (IsMediumFile name → ⊥) → IsOurs name → a.may name (image name)) → Shows image (rows_in w)
rows-then {w = w} a image calm others = shows_same a.files image (rows_in w) (calm.durable (image msdb_file) (others msdb_file medium-rows (inr (inr (inr refl))))) calm.rows

-- ---- acts

-- an act on sessions, or a row that is added
abbrev pub IsAside : Act → Type 0
IsAside (turned name) = Unit {0}
IsAside (seated session) = Unit {0}
IsAside (readied starts) = Unit {0}
IsAside (noted row) = Unit {0}
IsAside _ = ⊥

-- what a database says leaves the rows
pub said-rows : (w : World) (o : Option Database) (v : Database → World) → ((db : Database) → rows_in (v db) ≡ rows_in w) → rows_in (where_found w o v) ≡ rows_in w
said-rows w None v same = refl
said-rows w (Some db) v same = same db

pub done-rows : (w : World) (act : Act) → (IsAside act → ⊥) → rows_in (done w act) ≡ rows_in w
unfolding done says goes_online rows_in
done-rows w (turned name) other = refl
done-rows w (seated session) other = refl
done-rows w (readied starts) other = refl
done-rows w (created c) other = refl
done-rows w (dropped name) other = refl
done-rows w (logged name said transactions) other = said-rows w (database_named w.databases name) (λ db. says w db said transactions) (λ db. refl)
done-rows w (medium_made path) other = refl
done-rows w set_drawn other = refl
done-rows w (set_sealed path header) other = refl
done-rows w (noted row) other = absurd (other tt)
done-rows w (based name header) other = refl
done-rows w (job_set name job) other = refl
done-rows w jobs_dropped other = refl
done-rows w (replaced name header) other = refl
done-rows w (restored name base redo) other = refl
done-rows w (recovered name r) other = said-rows w (database_named w.databases name) (λ db. goes_online w db r) (λ db. refl)
