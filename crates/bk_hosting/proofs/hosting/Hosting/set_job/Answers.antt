use Rattle.std.proofs.Common.{◌≡◌, ◌∙◌, List, map, set, Some, sym, ap}
use Rattle.std.specs.Prelude.{slice_get}
use Rattle.bk_hosted.specs.Hosted.{running}
use Rattle.bk_hosting.specs.declared.hosting.State.{State}
use Rattle.bk_hosting.specs.Hosting.{Kept, state_of}
use Rattle.bk_hosting.proofs.Dropped.{state-running}
use Rattle.bk_hosting.proofs.Lists.{got-mapped, map-set}
use Rattle.bk_hosting.proofs.SaidHosted.{read-there}
use Rattle.bk_hosting.proofs.hosting.Hosting.set_job.Goals as goal

pub returns-clause-stands : goal.returns-clause-stands
returns-clause-stands c = λ hosted h states here.
    let items : c.self.inside.states.items ≡ map state_of hosted = ap (λ (k : Kept). k.states) c.self.view_is ∙ states in
    let there : slice_get c.self.inside.states.items c.args.at ≡ Some (state_of h) = ap (λ (xs : List State). slice_get xs c.args.at) items ∙ got-mapped state_of hosted c.args.at h here in
    let same : c.index_mut.result.now ≡ state_of h = c.index_mut.ensures.value ∙ read-there c.self.inside.states.items c.args.at _ (state_of h) there in
    ap (λ (old : State). set c.self.inside.states.items c.args.at (record old { job = c.args.job })) same
    ∙ ap (λ (st : State). set c.self.inside.states.items c.args.at st) (state-running c.args.job h)
    ∙ ap (λ (xs : List State). set xs c.args.at (state_of (running c.args.job h))) items ∙ sym (map-set state_of hosted c.args.at (running c.args.job h))
