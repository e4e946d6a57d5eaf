use Rattle.std.proofs.Common.{◌≡◌, sym, subst}
use Rattle.bk_device.specs.Compose.{effect_weaken}
use Rattle.bk_engine.specs.Stands.{StandsFor}
use Rattle.bk_engine.specs.TouchLaws.{rest-touch}
use Rattle.bk_restarts.specs.CutLaws.{cut-first}
use Rattle.bk_stores.specs.Standing.{AreStanding}
use Rattle.bk_executing.proofs.Results.{moved}
use Rattle.bk_device.specs.Effects.{Effect}
use Rattle.bk_engine.specs.Acts.{CutsAct, HaveNoFileOf}
use Rattle.bk_engine.specs.Stands.{IsOurs}
use Rattle.bk_hosted.specs.Hosted.{created_spec}
use Rattle.bk_machine.specs.Acts.{created, done}
use Rattle.bk_machine.specs.MayDo.{MayDo}
use Rattle.bk_machine.specs.World.{World}
use Rattle.bk_store.specs.Making.{MayDescribe}
use Rattle.bk_world.specs.declared.database.Creation.{Creation}
use Rattle.std.specs.Prelude.{OnOk}
use Rattle.bk_executing.proofs.Files.{specs-bytes}
use Rattle.bk_executing.proofs.Fits.{fits-note, may-describe}
use Rattle.bk_executing.proofs.Stored.{created-cuts, created-does}
use Rattle.bk_executing.proofs.doing.create.Goals as goal

pub copy_creation-requires : goal.copy_creation-requires
copy_creation-requires g c = (fits-note c.args.creation.now.storage c.requires.keeps).keeps

pub create-requires-clause-may : goal.create-requires-clause-may
create-requires-clause-may g c = subst (λ (x : Creation). MayDescribe (created_spec x)) (sym c.in_ok-creation.ensures.copy) (may-describe c.args.creation.now c.requires.keeps)

pub returns-in_err-creation-clause-crash : goal.returns-in_err-creation-clause-crash
returns-in_err-creation-clause-crash g c tells w act acts is stored = effect_weaken (λ image covers. cut-first w _ image covers) (c.at_rest.ensures.crash tells w is)

pub returns-in_err-creation-clause-touches : goal.returns-in_err-creation-clause-touches
returns-in_err-creation-clause-touches g c tells = rest-touch g.D.Device.disk c.args.dev.now c.at_rest.new.dev c.at_rest.ensures.same

pub create-requires-clause-standing : goal.create-requires-clause-standing
create-requires-clause-standing g c = λ tells. subst (λ d. AreStanding (g.D.Device.disk d) c.args.engine.now.hosting.stores) (sym c.at_rest.ensures.same) (c.requires.standing tells)

pub returns-clause-does : goal.returns-clause-does
returns-clause-does g c tells =
    let same : c.in_ok-creation.creation ≡ c.args.creation.now = c.in_ok-creation.ensures.copy in
    created-does c.create.result c.args.engine.now c.create.new.self (g.D.Device.disk c.args.dev.now) (g.D.Device.disk c.create.new.dev) c.name_law.ensures.different c.args.creation.now (specs-bytes c.args.creation.now.storage.files c.in_ok-creation.ensures.fits.files.1)
    (subst (λ (x : Creation). (w : World) → StandsFor (g.D.Device.disk c.args.dev.now) c.args.engine.now w → MayDo w (created x) → HaveNoFileOf w x → OnOk c.create.result (StandsFor (g.D.Device.disk c.create.new.dev) c.create.new.self (done w (created x)))) same
    (λ w is may none. c.create.ensures.stands tells w (subst (λ d. StandsFor (g.D.Device.disk d) c.args.engine.now w) (sym c.at_rest.ensures.same) is) may none))

pub returns-clause-crash : goal.returns-clause-crash
returns-clause-crash g c tells =
    let same : c.in_ok-creation.creation ≡ c.args.creation.now = c.in_ok-creation.ensures.copy in
    created-cuts c.create.result c.args.engine.now c.create.new.self (g.D.Device.disk c.args.dev.now) (g.D.Device.disk c.create.new.dev) c.name_law.ensures.different c.args.creation.now (specs-bytes c.args.creation.now.storage.files c.in_ok-creation.ensures.fits.files.1)
    (subst (λ (x : Creation). (w : World) → StandsFor (g.D.Device.disk c.args.dev.now) c.args.engine.now w → MayDo w (created x) → HaveNoFileOf w x → Effect IsOurs (CutsAct w (created x)) (g.D.Device.disk c.args.dev.now) (g.D.Device.disk c.create.new.dev)) same
    (λ w is may none. moved g.D.Device.disk c.args.dev.now c.at_rest.new.dev c.at_rest.ensures.same (c.create.ensures.crash tells w (subst (λ d. StandsFor (g.D.Device.disk d) c.args.engine.now w) (sym c.at_rest.ensures.same) is) may none)))

pub returns-clause-touches : goal.returns-clause-touches
returns-clause-touches g c tells = moved g.D.Device.disk c.args.dev.now c.at_rest.new.dev c.at_rest.ensures.same (c.create.ensures.touches tells)
