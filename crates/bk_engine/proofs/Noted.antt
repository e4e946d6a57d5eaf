-- A row comes to its table of msdb, and the world is the one behind that.
use Rattle.std.proofs.Common.{◌≡◌, inl, inr, ℕ, List, [], ◌∷◌, ◌++◌, Option, None, refl, sym, ap, subst, ◌∙◌, arith}
use Rattle.std.proofs.lemmas.List.{append-nil}
use Rattle.bk_archive.specs.DiskLaws.{media-after, media-durable}
use Rattle.bk_archive.specs.Media.{KeepsMedia}
use Rattle.bk_archive.specs.MediaLaws.{SameFiles, media-in, media-on}
use Rattle.bk_device.specs.Compose.{effect_widen, keeps_by_effect}
use Rattle.bk_device.specs.Disk.{Disk, Files, IsDurable}
use Rattle.bk_device.specs.Effects.{Effect, IsName, KeepsFiles, MayLeaveOwn}
use Rattle.bk_hosted.specs.Hosted.{Hosts}
use Rattle.bk_hosting.specs.Hosting.{LeavesHosted}
use Rattle.bk_machine.specs.Acts.{done, noted}
use Rattle.bk_machine.specs.declared.history_row.HistoryRow.{HistoryRow}
use Rattle.bk_machine.specs.declared.history_row.HistoryRow.TheVariants.{Backup, Restore, Mark}
use Rattle.bk_machine.specs.Sound.{IsSound}
use Rattle.bk_machine.specs.World.{World}
use Rattle.bk_msdb.specs.Msdb.{Adds, Shows, msdb_file}
use Rattle.bk_msdb.specs.Rows.{with_row}
use Rattle.bk_stores.specs.Stores.{IsOurs as IsOfStores}
use Rattle.bk_volume.specs.Names.{medium_file}
use Rattle.bk_world.specs.declared.msdb.BackupRow.{BackupRow}
use Rattle.bk_world.specs.declared.msdb.MarkRow.{MarkRow}
use Rattle.bk_world.specs.declared.msdb.RestoreRow.{RestoreRow}
use Rattle.bk_engine.specs.Acts.{CutsAct}
use Rattle.bk_engine.specs.BesideLaws.{hosting-stays}
use Rattle.bk_engine.specs.CopiedLaws.{copied-by, none-spares}
use Rattle.bk_engine.specs.NameLaws.{rows-medium, staging-rows, store-rows}
use Rattle.bk_engine.specs.PartLaws.{world-kept}
use Rattle.bk_engine.specs.Rows.{rows_in}
use Rattle.bk_engine.specs.Stands.{Covers, IsOurs, IsReady, Kept, StandsFor, own_in}

-- the rows of the world behind it
pub noted-rows : (w : World) (row : HistoryRow) → rows_in (done w (noted row)) ≡ with_row (rows_in w) row
unfolding done rows_in
noted-rows w (Backup row) =
    ap (λ (rs : List RestoreRow). record { backups = w.backups ++ row ∷ []; restores = rs; marks = w.marks ++ [] }) (append-nil w.restores)
    ∙ ap (λ (ms : List MarkRow). record { backups = w.backups ++ row ∷ []; restores = w.restores; marks = ms }) (append-nil w.marks)
noted-rows w (Restore row) =
    ap (λ (bs : List BackupRow). record { backups = bs; restores = w.restores ++ row ∷ []; marks = w.marks ++ [] }) (append-nil w.backups)
    ∙ ap (λ (ms : List MarkRow). record { backups = w.backups; restores = w.restores ++ row ∷ []; marks = ms }) (append-nil w.marks)
noted-rows w (Mark row) =
    ap (λ (bs : List BackupRow). record { backups = bs; restores = w.restores ++ []; marks = w.marks ++ row ∷ [] }) (append-nil w.backups)
    ∙ ap (λ (rs : List RestoreRow). record { backups = w.backups; restores = rs; marks = w.marks ++ row ∷ [] }) (append-nil w.restores)

-- the stores stay
pub rows-keep : {P : Files → Type 0} {a b : Disk} → Effect (IsName msdb_file) P a b → KeepsFiles IsOfStores a b
rows-keep effect = keeps_by_effect (λ name store own. store-rows (subst IsOfStores own store)) effect

module _ (a b : Disk) (e : Kept) (w : World) (row : HistoryRow) (is : StandsFor a e w) (hosts : Hosts (done w (noted row)) is.hosted) where
  pub noted-stands : {P : Files → Type 0} → IsSound (done w (noted row)) → Effect (IsName msdb_file) P a b → Shows b.files (with_row (rows_in w) row) → IsDurable b msdb_file → StandsFor b e (done w (noted row))
  unfolding done
  noted-stands sound effect shows durable = record {
    sound = sound;
    instance = is.instance;
    counter = is.counter;
    session = is.session;
    sessions = is.sessions;
    hosted = is.hosted;
    hosts = hosts;
    hosting = hosting-stays e.hosting is.hosted (rows-keep effect) is.hosting;
    media = media-on w (done w (noted row)) None b.files refl (λ path header in_it. refl) (media-in w None a.files b.files (media-after a b rows-medium effect) is.media);
    calm = record {
      media = media-durable a b rows-medium effect is.calm.media;
      rows = subst (Shows b.files) (sym (noted-rows w row)) shows;
      durable = durable;
    };
    copied = copied-by a b is.hosted (none-spares (IsName msdb_file) is.hosted (λ set same. staging-rows (set, sym same))) effect is.copied;
  }

  -- a crash leaves the row, or not
  covers-noted : (image : Files) → IsReady e → LeavesHosted (own_in e) is.hosted image → KeepsMedia w None image → Shows image (with_row (rows_in w) row) → Covers (done w (noted row)) image
  unfolding done
  covers-noted image ready left media shows = record {
    own = own_in e;
    instance = is.instance;
    no_less = let same = is.counter in let low = ready.no_less in omega (arith, same, low);
    no_more = let same = is.counter in let high = ready.no_more in omega (arith, same, high);
    hosted = is.hosted;
    hosts = hosts;
    left = left;
    media = subst (λ (making : Option (List ℕ)). KeepsMedia (done w (noted row)) making image) (sym ready.no_medium) (media-on w (done w (noted row)) None image refl (λ path header in_it. refl) media);
    rows = subst (Shows image) (sym (noted-rows w row)) shows;
  }

  pub noted-crash : IsReady e → ((image : Files) → MayLeaveOwn IsOfStores a image → LeavesHosted (own_in e) is.hosted image) → Effect (IsName msdb_file) (Adds (rows_in w) row) a b → Effect IsOurs (CutsAct w (noted row)) a b
  noted-crash ready left effect = effect_widen (λ name own. inr (inr (inr own))) (λ image adds others.
      let here : LeavesHosted (own_in e) is.hosted image = left image (λ name store. others name (λ own. store-rows (subst IsOfStores own store)) (inl store)) in
      let same : SameFiles a.files image = λ path bytes. is.calm.media path bytes (image (medium_file path)) (others (medium_file path) (rows-medium path) (inr (inl (path, bytes, refl)))) in
      let media : KeepsMedia w None image = media-in w None a.files image same is.media in
      elim adds [
        | inl before ↦ inl (world-kept a e w image ready is here (record { media = media; rows = before }))
        | inr after ↦ inr (covers-noted image ready here media after)
      ]) effect
