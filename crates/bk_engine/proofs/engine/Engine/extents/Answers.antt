use Rattle.std.proofs.Common.{◌≡◌, ◌∙◌, List, map, Some, None, ap, subst}
use Rattle.std.specs.Option.{option_map}
use Rattle.std.specs.Prelude.{IfOk, slice_get}
use Rattle.bk_copying.specs.Extents.{extents_of}
use Rattle.bk_facts.specs.declared.facts.DataFile.{DataFile}
use Rattle.bk_store.specs.Told.{data_file}
use Rattle.bk_engine.specs.Stands.{Kept}
use Rattle.bk_engine.proofs.Copied.{files-there, open-there}
use Rattle.bk_engine.proofs.engine.Engine.extents.Goals as goal

pub returns-in-Some-clause-listed : goal.returns-in-Some-clause-listed
returns-in-Some-clause-listed g c = λ tells w db is here online.
    let filled : slice_get c.args.self.now.hosting.stores.slots c.args.at ≡ Some (Some c.in-Some.store.now) =
    subst (λ (k : Kept). slice_get k.hosting.stores.slots c.args.at ≡ Some (Some c.in-Some.store.now)) c.self.view_is (c.store.ensures ∙ ap (λ o. Some (option_map (λ s. s.now) o)) c.in-Some.is) in
    let same : c.files.result.now ≡ map data_file db.files = c.files.ensures ∙ files-there (g.D.Device.disk c.args.dev.now) c.args.self.now w c.args.at db c.in-Some.store.now is here filled in
    subst (λ (files : List DataFile). IfOk c.data_extents.result (λ extents. extents.items ≡ extents_of files)) same c.data_extents.ensures.extents

pub returns-in-None-clause-listed : goal.returns-in-None-clause-listed
returns-in-None-clause-listed g c = λ tells w db is here online.
    let shut : slice_get c.args.self.now.hosting.stores.slots c.args.at ≡ Some None =
    subst (λ (k : Kept). slice_get k.hosting.stores.slots c.args.at ≡ Some None) c.self.view_is (c.store.ensures ∙ ap (λ o. Some (option_map (λ s. s.now) o)) c.in-None.is) in
    absurd (open-there (g.D.Device.disk c.args.dev.now) c.args.self.now w c.args.at db is here online shut)
