-- What is kept, the databases of it, and what is seen of them.
use Rattle.std.proofs.Common.{◌≡◌, List, [], ◌∷◌, map}
use Rattle.std.specs.List.{AllByRecursion}
use Rattle.bk_machine.specs.World.{World}
use Rattle.bk_world.specs.Lines.{RecordLines}
use Rattle.bk_kept.specs.declared.kept.Database.{Database as KeptDatabase}
use Rattle.bk_kept.specs.declared.kept.Kept.{Kept}
use Rattle.bk_kept.specs.Keeps.{IsSeenOf, Keeps, KeepsDatabases, Sees, ShowsLog, session_of}

pub databases-kept : (w : World) (k : Kept) → Keeps w k → KeepsDatabases w k.databases.items
databases-kept w k keeps = record { same = keeps.databases; kept = keeps.kept }

pub whole-kept : (w : World) (k : Kept) → w.instance ≡ k.number → w.counter ≡ k.counter → w.session ≡ k.session → w.sessions ≡ map session_of k.sessions.items → KeepsDatabases w k.databases.items → Keeps w k
whole-kept w k number counter session sessions keeps =
    record { number = number; counter = counter; session = session; sessions = sessions; databases = keeps.same; kept = keeps.kept }

-- databases that are kept are seen
all-seen : (history : RecordLines) (ds : List KeptDatabase) → AllByRecursion (ShowsLog history) ds → AllByRecursion (IsSeenOf history) ds
all-seen history [] kept = tt
all-seen history (d ∷ ds) kept = (λ up. kept.0, all-seen history ds kept.1)

-- and so is what is kept
pub keeps-sees : (w : World) (k : Kept) → Keeps w k → Sees w k
keeps-sees w k keeps = record {
  number = keeps.number;
  counter = keeps.counter;
  session = keeps.session;
  sessions = keeps.sessions;
  databases = keeps.databases;
  seen = all-seen w.history k.databases.items keeps.kept;
}
