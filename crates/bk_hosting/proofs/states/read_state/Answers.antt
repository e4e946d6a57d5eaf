use Rattle.std.proofs.Common.{rules, ◌≡◌, ◌∙◌, ℕ, List, sym, ap, subst}
use Rattle.std.specs.Prelude.{IsErrOf}
use Rattle.bk_device.specs.declared.trouble.Trouble.TheVariants.{Broken}
use Rattle.bk_world.specs.declared.database.FileSpec.{FileSpec}
use Rattle.bk_hosting.specs.Hosting.{IsNoteOf}
use Rattle.bk_hosting.proofs.states.read_state.Goals as goal

pub returns-in_err-points-clause-broken : goal.returns-in_err-points-clause-broken
returns-in_err-points-clause-broken g c = λ tells broken told h is tell.
    let note : c.note.result.now ≡ told.note = c.note.ensures ∙ is.note in
    let files : c.as_slice.result.now ≡ h.spec.storage.files = c.as_slice.ensures ∙ ap (λ s. s.storage.files) (c.spec.ensures ∙ is.noted.spec ∙ tell.spec) in
    let err : IsErrOf c.noted_points.result Broken = search rules in
    c.noted_points.ensures.broken err h.points (subst (λ (bytes : List ℕ). IsNoteOf bytes c.as_slice.result.now h.points) (sym note) (subst (λ (fs : List FileSpec). IsNoteOf told.note fs h.points) (sym files) tell.note))
