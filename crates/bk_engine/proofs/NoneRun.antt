-- Databases of which no backup runs.
use Rattle.std.proofs.Common.{◌≡◌, ◌||◌, ◌∙◌, Bool, true, false, List, [], ◌∷◌, map, None, Option, refl, sym, ap, subst}
use Rattle.std.specs.List.{AllByRecursion, list_any}
use Rattle.std.specs.Option.{is_some}
use Rattle.bk_hosted.specs.Hosted.{Hosted, database_of}
use Rattle.bk_hosting.specs.Hosting.{state_of}
use Rattle.bk_hosting.specs.Jobs.{has_job}
use Rattle.bk_hosting.specs.declared.hosting.State.{State}
use Rattle.bk_machine.specs.declared.job.Job.{Job}
use Rattle.bk_machine.specs.World.{Database}

none-any : (hosted : List Hosted) → AllByRecursion (λ (db : Database). db.job ≡ None) (map database_of hosted) → list_any has_job (map state_of hosted) ≡ false
none-any [] none = refl
none-any (h ∷ hosted) none =
    subst (λ (o : Option Job). is_some o || list_any has_job (map state_of hosted) ≡ false) (sym none.0) (none-any hosted none.1)

-- none is found to run
pub not-ran : (ran : Bool) (hosted : List Hosted) (states : List State) → states ≡ map state_of hosted → AllByRecursion (λ (db : Database). db.job ≡ None) (map database_of hosted) → (ran ≡ true → list_any has_job states ≡ true) → ran ≡ false
not-ran false hosted states same none is = refl
not-ran true hosted states same none is = let wrong : true ≡ false = sym (is refl) ∙ ap (list_any has_job) same ∙ none-any hosted none in absurd (cc)
