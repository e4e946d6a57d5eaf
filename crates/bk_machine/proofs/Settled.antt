-- What a crash leaves where nothing is lost is the world at the cut, with all undone that is pending in it.
use Rattle.std.proofs.Common.{◌≡◌, ◌≢◌, List, [], ◌∷◌, refl, sym, ◌∙◌, ap, map, None}
use Rattle.std.proofs.lemmas.List.{append-nil}
use Rattle.std.specs.List.{AllByRecursion, AllZip}
use Rattle.bk_world.specs.Cut.{end_behind, settled}
use Rattle.bk_world.specs.declared.database.Status.{Status}
use Rattle.bk_world.specs.declared.database.Status.TheVariants.{Online, Standby, Down}
use Rattle.bk_machine.proofs.SameMedia.{media-jobs_dropped}
use Rattle.bk_machine.specs.Acts.{done, jobs_dropped, with_job}
use Rattle.bk_machine.specs.Crash.{DatabaseLeft, OfflineLeft, StatusLeft, WorldLeft, open_begins}
use Rattle.bk_machine.specs.Settled.{IsSettledTo, SettledTo}
use Rattle.bk_machine.specs.SettledLaws.{counts-end, zip-first, media-symmetric, media-transitive}
use Rattle.bk_machine.specs.Sound.{IsSound, IsWhole, IsWholeDatabase, OpenBy}
use Rattle.bk_machine.specs.Stays.{IsFront}
use Rattle.bk_machine.specs.World.{Database, World, log_of}
use Rattle.bk_lemmas.specs.Lists.{all_mapped}
use Rattle.bk_machine.proofs.Crashed.{crash-reads}
use Rattle.bk_machine.proofs.Sets.{set-whole}

zip-both : {A B : Type 0} (R S T : A → B → Type 0) → ((a : A) (b : B) → R a b → S a b → T a b) → (xs : List A) (ys : List B) → AllZip R xs ys → AllZip S xs ys → AllZip T xs ys
zip-both R S T leads [] [] first second = tt
zip-both R S T leads [] (y ∷ ys) first second = absurd first
zip-both R S T leads (x ∷ xs) [] first second = absurd first
zip-both R S T leads (x ∷ xs) (y ∷ ys) first second = (leads x y first.0 second.0, zip-both R S T leads xs ys first.1 second.1)

-- what is left of a log that is settled whole
abbrev pub LogSettled : World → World → Database → Database → Type 0
LogSettled cut left old new = old.status ≡ Online → log_of left.history new ≡ settled (log_of cut.history old)

module _ (before whole cut left : World) (is : IsWhole cut) (l : WorldLeft before whole cut left) where
  database-settled : (old new : Database) → IsWholeDatabase cut old → DatabaseLeft before whole cut left old new → LogSettled cut left old new → SettledTo cut left old new
  database-settled old new was one log = by old.status refl one.log
    where
      offline : old.status ≢ Online → OfflineLeft cut left old new → SettledTo cut left old new
      offline down o = record {
        same = one.same;
        end = o.end ∙ counts-end 1 old.end (log_of cut.history old) was.log.counts ∙ ap end_behind (sym o.log);
        online = λ up. absurd (down up);
        offline = λ same. o.log;
      }

      by : (s : Status) → old.status ≡ s → StatusLeft s before whole cut left (open_begins before old) old new → SettledTo cut left old new
      by Online up o = record { same = one.same; end = o.end; online = log; offline = λ down. absurd (down up) }
      by (Standby file) down o = offline (λ up. let wrong : Standby file ≡ Online = sym down ∙ up in absurd (cc)) o
      by Down down o = offline (λ up. let wrong : Down ≡ Online = sym down ∙ up in absurd (cc)) o

  pub crash-settles : AllZip (LogSettled cut left) cut.databases left.databases → IsSettledTo cut left
  crash-settles logs = record {
    media = record { instance = l.instance; media = l.media; reads = λ path header there. crash-reads before whole cut left l is header.path header.last (set-whole cut path header is there).held };
    databases = zip-first (IsWholeDatabase cut) (λ (old new : Database). DatabaseLeft before whole cut left old new × LogSettled cut left old new) (SettledTo cut left)
        (λ old new was both. database-settled old new was both.0 both.1) cut.databases left.databases is.databases
        (zip-both (DatabaseLeft before whole cut left) (LogSettled cut left) (λ (old new : Database). DatabaseLeft before whole cut left old new × LogSettled cut left old new) (λ old new a b. (a, b)) cut.databases left.databases l.databases logs);
  }

-- in a sound world the whole log of a database may stay
pub whole-front : (before cut : World) → IsSound cut → AllByRecursion (λ (db : Database). db.status ≡ Online → IsFront before cut db (log_of cut.history db)) cut.databases
whole-front before cut sound =
    all_mapped (OpenBy cut.history) (λ (db : Database). db.status ≡ Online → IsFront before cut db (log_of cut.history db))
    (λ db opens up. record { lost = []; splits = sym (append-nil (log_of cut.history db)); of_open = tt; of_some = tt; quiet = tt; loads = (opens.online up).loads }) cut.databases sound.opens

-- where no job runs any more the same is settled
pub settled-dropped : (w v : World) → IsSettledTo w v → IsSettledTo (done w jobs_dropped) v
unfolding done log_of
settled-dropped w v s = record { media = media-transitive (done w jobs_dropped) w v (media-symmetric w (done w jobs_dropped) (media-jobs_dropped w)) s.media; databases = by w.databases v.databases s.databases }
  where
    by : (olds news : List Database) → AllZip (SettledTo w v) olds news → AllZip (SettledTo (done w jobs_dropped) v) (map (with_job None) olds) news
    by [] [] each = tt
    by [] (new ∷ news) each = absurd each
    by (old ∷ olds) [] each = absurd each
    by (old ∷ olds) (new ∷ news) each = (record { same = each.0.same; end = each.0.end; online = λ up. each.0.online up; offline = λ down. each.0.offline down }, by olds news each.1)
