-- What is kept and what is seen of it stand for the same worlds.
use Rattle.std.proofs.Common.{◌≡◌, List, map, sym, ◌∙◌, ap, subst}
use Rattle.std.specs.List.{AllByRecursion}
use Rattle.bk_machine.specs.World.{World}
use Rattle.bk_shown.specs.Shown.{Shows}
use Rattle.bk_shown.specs.declared.shown.Shown.{Shown}
use Rattle.bk_world.specs.declared.database.FileSpec.{FileSpec}
use Rattle.bk_world.specs.Records.{Logged}
use Rattle.bk_kept.specs.declared.kept.Kept.{Kept}
use Rattle.bk_kept.specs.Keeps.{IsSeenOf, Keeps, Sees, ShowsLog, database_of, session_of}
use Rattle.bk_kept.specs.Numbers.{LeaveNumbers}
use Rattle.bk_kept.specs.Views.{IsSeen}

-- worlds are kept by the databases, in whatever list they are
keeps-same : (w : World) (k v : Kept) → v.number ≡ k.number → v.counter ≡ k.counter → v.session ≡ k.session → v.sessions ≡ k.sessions → v.databases.items ≡ k.databases.items → Keeps w k → Keeps w v
keeps-same w k v number counter session sessions databases keeps = record {
  number = keeps.number ∙ sym number;
  counter = keeps.counter ∙ sym counter;
  session = keeps.session ∙ sym session;
  sessions = keeps.sessions ∙ ap (λ ss. map session_of ss.items) (sym sessions);
  databases = keeps.databases ∙ ap (map database_of) (sym databases);
  kept = subst (λ ds. AllByRecursion (ShowsLog w.history) ds) (sym databases) keeps.kept;
}

sees-same : (w : World) (k v : Kept) → v.number ≡ k.number → v.counter ≡ k.counter → v.session ≡ k.session → v.sessions ≡ k.sessions → v.databases.items ≡ k.databases.items → Sees w k → Sees w v
sees-same w k v number counter session sessions databases sees = record {
  number = sees.number ∙ sym number;
  counter = sees.counter ∙ sym counter;
  session = sees.session ∙ sym session;
  sessions = sees.sessions ∙ ap (λ ss. map session_of ss.items) (sym sessions);
  databases = sees.databases ∙ ap (map database_of) (sym databases);
  seen = subst (λ ds. AllByRecursion (IsSeenOf w.history) ds) (sym databases) sees.seen;
}

module _ (k seen : Kept) (is : IsSeen k seen) where
  pub seen-keeps : (w : World) → Keeps w k → Keeps w seen
  seen-keeps w keeps =
      keeps-same w k seen (ap (λ s. s.number) is.same) (ap (λ s. s.counter) is.same) (ap (λ s. s.session) is.same) (ap (λ s. s.sessions) is.same) is.databases keeps

  pub keeps-seen : (w : World) → Keeps w seen → Keeps w k
  keeps-seen w keeps =
      keeps-same w seen k (sym (ap (λ s. s.number) is.same)) (sym (ap (λ s. s.counter) is.same)) (sym (ap (λ s. s.session) is.same)) (sym (ap (λ s. s.sessions) is.same)) (sym is.databases) keeps

  pub seen-sees : (w : World) → Sees w k → Sees w seen
  seen-sees w sees =
      sees-same w k seen (ap (λ s. s.number) is.same) (ap (λ s. s.counter) is.same) (ap (λ s. s.session) is.same) (ap (λ s. s.sessions) is.same) is.databases sees

  pub seen-numbers : LeaveNumbers k.databases.items → LeaveNumbers seen.databases.items
  seen-numbers leave = subst LeaveNumbers (sym is.databases) leave

-- what shows a log shows it wherever it is
pub shows-as : {files : List FileSpec} {rs : List Logged} {s t : Shown} → s ≡ t → Shows files rs t → Shows files rs s
shows-as {files} {rs} same shows = subst (λ (x : Shown). Shows files rs x) (sym same) shows
