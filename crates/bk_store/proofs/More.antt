-- A log with one record more.
use Rattle.std.proofs.Common.{◌≡◌, ◌<◌, ◌^◌, ℕ, ◌+◌, List, [], ◌∷◌, ◌++◌, map, sym, ◌∙◌, ap, subst, arith}
use Rattle.std.proofs.lemmas.List.{length-append, length-map, map-append}
use Rattle.bk_device.specs.Compose.{effect_weaken}
use Rattle.bk_device.specs.Disk.{Disk, Files}
use Rattle.bk_device.specs.Effects.{Effect}
use Rattle.bk_ids.specs.declared.record.Rec.{Rec}
use Rattle.bk_paged.specs.Holds.{Leaves, with_one}
use Rattle.bk_paged.specs.Names.{IsOwn}
use Rattle.bk_paged.specs.Paged.{sealed_count}
use Rattle.bk_shown.specs.Readings.{counts-more, follow-more, placed-more}
use Rattle.bk_shown.specs.Shown.{IsNext}
use Rattle.bk_undo.specs.Spelled.{spelled}
use Rattle.bk_world.specs.declared.database.FileSpec.{FileSpec}
use Rattle.bk_world.specs.Cut.{end_behind}
use Rattle.bk_world.specs.Records.{Counts, Logged, checkpointed}
use Rattle.bk_store.specs.Store.{Crashes, IsStore, Kept, at_end}
use Rattle.bk_store.specs.Told.{IsLogIn, IsNoted, Told, data_files, files_of, said, stood_of}
use Rattle.bk_store.specs.FrontLaws.{as_of-more, shown-log}
use Rattle.bk_store.specs.LiftLaws.{leaves-lift}

pub log-more : (files : List FileSpec) (rs : List Logged) (r : Logged) → IsLogIn files rs → IsNext files rs r → IsLogIn files (rs ++ r ∷ [])
log-more files rs r is next =
    let ends : end_behind rs + 1 ≡ end_behind (rs ++ r ∷ []) = omega (arith, length-append rs (r ∷ [])) in
    record {
      files_are = is.files_are;
      counts = subst (Counts 1 (rs ++ r ∷ [])) ends (counts-more 1 rs (end_behind rs) r is.counts (omega (arith, next.number)));
      sound = follow-more [] rs r is.sound next.may;
      placed = placed-more files [] rs r is.placed next.placed;
    }

pub noted-more : (s : Kept) (told : Told) (r : Logged) (a : Disk) → IsStore a s told → IsNoted s.known (said told r)
noted-more s told r a is = record {
  spec = is.noted.spec;
  spelled = is.noted.spelled;
  keeps = is.noted.keeps;
  short = is.noted.short;
  as_of = as_of-more s.known.as_of told.records (r ∷ []) is.noted.as_of;
}

pub spelled-more : (s : Kept) (told : Told) (r : Logged) (x : Rec) → spelled r ≡ x → map spelled told.records ++ x ∷ [] ≡ map spelled (told.records ++ r ∷ [])
spelled-more s told r x is = ap (λ (y : Rec). map spelled told.records ++ y ∷ []) (sym is) ∙ sym (map-append spelled told.records (r ∷ []))

-- what a crash leaves where one record more is said below
pub crash-said : (s : Kept) (told : Told) (r : Logged) (x : Rec) (a b : Disk) → IsStore a s told → IsNext (files_of told) told.records r → spelled r ≡ x
    → Effect (IsOwn s.paged.log.db (data_files told)) (Leaves s.paged.log.db (sealed_count s.paged) (with_one (stood_of s.known told) x)) a b → Crashes s (said told r) a b
crash-said s told r x a b is next spells effect =
    let log = log-more (files_of told) told.records r (shown-log (files_of told) told.records s.shown is.shows) next in
    let Of : Files → List Rec → Type 0 = λ image rs. Leaves s.paged.log.db (sealed_count s.paged) (record (stood_of s.known told) { records = rs }) image in
    effect_weaken (λ image here. leaves-lift s.paged.log.db (sealed_count s.paged) s.known (said told r) image (noted-more s told r a is) log (omega (arith, is.early)) (subst (Of image) (spelled-more s told r x spells) here)) effect

-- a checkpoint may come next
pub checkpoint-next : (s : Kept) (told : Told) (now : ℕ) (a : Disk) → IsStore a s told → s.paged.log.end < 2 ^ 62 → IsNext (files_of told) told.records (at_end s 0 (checkpointed now))
checkpoint-next s told now a is room = record {
  number = omega (arith, is.paged.ends, length-map told.records spelled);
  low = room;
  may = tt;
  placed = tt;
}
