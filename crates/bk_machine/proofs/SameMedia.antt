-- Worlds with the same media, whose sets read the same.
use Rattle.std.proofs.Common.{◌≡◌, ℕ, List, Option, None, Some, refl, Bool}
use Rattle.bk_machine.specs.declared.history_row.HistoryRow.{HistoryRow}
use Rattle.bk_machine.specs.Acts.{done, logged, seated, set_drawn, noted, says, turned, where_found, readied, job_set, jobs_dropped}
use Rattle.bk_machine.specs.MayDo.{MayDo}
use Rattle.bk_machine.specs.Same.{SameMedia}
use Rattle.bk_machine.specs.SettledLaws.{media-same}
use Rattle.bk_machine.specs.Sound.{IsSound}
use Rattle.bk_machine.specs.declared.job.Job.{Job}
use Rattle.bk_machine.specs.World.{Database, World, database_named, ended, opened, restarted}
use Rattle.bk_machine.proofs.Sets.{set-done}
use Rattle.bk_world.specs.Records.{Said}
use Rattle.bk_world.specs.declared.transaction.Open.{Open}

pub media-turned : (w : World) (name : Option (List ℕ)) → SameMedia w (done w (turned name))
unfolding done
media-turned w name = media-same w (done w (turned name)) refl refl refl

pub media-seated : (w : World) (session : ℕ) → SameMedia w (done w (seated session))
unfolding done
media-seated w session = media-same w (done w (seated session)) refl refl refl

pub media-readied : (w : World) (starts : Bool) → SameMedia w (done w (readied starts))
unfolding done
media-readied w starts = media-same w (done w (readied starts)) refl refl refl

pub media-job_set : (w : World) (name : List ℕ) (job : Option Job) → SameMedia w (done w (job_set name job))
unfolding done
media-job_set w name job = media-same w (done w (job_set name job)) refl refl refl

pub media-jobs_dropped : (w : World) → SameMedia w (done w jobs_dropped)
unfolding done
media-jobs_dropped w = media-same w (done w jobs_dropped) refl refl refl

pub media-set_drawn : (w : World) → SameMedia w (done w set_drawn)
unfolding done
media-set_drawn w = media-same w (done w set_drawn) refl refl refl

pub media-noted : (w : World) (row : HistoryRow) → SameMedia w (done w (noted row))
unfolding done
media-noted w row = media-same w (done w (noted row)) refl refl refl

pub media-opened : (w : World) → SameMedia w (opened w)
unfolding opened
media-opened w = media-same w (opened w) refl refl refl

pub media-ended : (w : World) → SameMedia w (ended w)
unfolding ended
media-ended w = media-same w (ended w) refl refl refl

pub media-restarted : (counter : ℕ) (w : World) → SameMedia w (restarted counter w)
unfolding restarted
media-restarted counter w = media-same w (restarted counter w) refl refl refl

-- what a database says

record IsBeside (w v : World) : Type 0 where
  instance : v.instance ≡ w.instance
  media : v.media ≡ w.media

said-beside : (w : World) (name : List ℕ) (said : List Said) (transactions : List Open) → IsBeside w (done w (logged name said transactions))
unfolding done says
said-beside w name said transactions = by (database_named w.databases name)
  where
    by : (found : Option Database) → IsBeside w (where_found w found (λ db. says w db said transactions))
    by None = record { instance = refl; media = refl }
    by (Some db) = record { instance = refl; media = refl }

pub media-said : (w : World) (name : List ℕ) (said : List Said) (transactions : List Open) → IsSound w → MayDo w (logged name said transactions) → SameMedia w (done w (logged name said transactions))
media-said w name said transactions sound may =
    let beside : IsBeside w (done w (logged name said transactions)) = said-beside w name said transactions in
    record { instance = beside.instance; media = beside.media; reads = λ path header there. set-done w path header sound there (logged name said transactions) may }
