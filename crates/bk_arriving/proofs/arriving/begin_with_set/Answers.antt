use Rattle.std.proofs.Common.{ap, sym, subst}
use Rattle.bk_device.specs.Laws.{cause_then}
use Rattle.bk_filling.specs.Filling.{Kept as KeptData}
use Rattle.bk_lemmas.specs.Tests.{same_error}
use Rattle.bk_arriving.specs.Steps.{IsEven, Remain}
use Rattle.bk_arriving.specs.declared.error.ArriveError.TheVariants.{Fault, Unfit}
use Rattle.bk_arriving.proofs.Making.{begun_even, cause_as, durable_then, made_effect, no_error, own_as}
use Rattle.bk_arriving.proofs.Rest.{rest_begun, whole_begun}
use Rattle.bk_arriving.proofs.Unchanged.{of_others}
use Rattle.bk_arriving.proofs.arriving.begin_with_set.Goals as goal

pub push_set-requires-clause-even : goal.push_set-requires-clause-even
push_set-requires-clause-even g c = subst IsEven (sym c.in_ok-arriving.ensures.filling) (begun_even c.args.files.items c.requires.even)

pub push_set-requires-clause-apart : goal.push_set-requires-clause-apart
push_set-requires-clause-apart g c own =
    c.requires.apart (own_as c.in_ok-arriving.arriving c.args.db c.args.files.items c.args.medium.now.name c.in_ok-arriving.ensures.numbers.0 (ap (λ (f : KeptData). f.files) c.in_ok-arriving.ensures.filling) own)

pub returns-in-Ok-clause-arrives : goal.returns-in-Ok-clause-arrives
returns-in-Ok-clause-arrives g c t body records is log =
    c.in-Ok.ensures.brings t body
    (of_others c.args.medium.now.name (g.D.Device.disk c.args.dev.now) (g.D.Device.disk c.begin_with_log.new.dev) body c.args.set.now c.requires.apart (c.begin_with_log.ensures.crash t) is)
    records (c.in_ok-arriving.ensures.arrives t body records is log)

pub returns-in-Ok-clause-fits : goal.returns-in-Ok-clause-fits
returns-in-Ok-clause-fits g c t body is =
    whole_begun c.args.files.items body.extents c.requires.even
    (subst (λ (f : KeptData). Remain 0 body.extents f) c.in_ok-arriving.ensures.filling
    (c.in-Ok.ensures.fits t body
    (of_others c.args.medium.now.name (g.D.Device.disk c.args.dev.now) (g.D.Device.disk c.begin_with_log.new.dev) body c.args.set.now c.requires.apart (c.begin_with_log.ensures.crash t) is)))

pub returns-in-Ok-clause-durable : goal.returns-in-Ok-clause-durable
returns-in-Ok-clause-durable g c t are =
    durable_then c.args.db c.in_ok-arriving.arriving (g.D.Device.disk c.begin_with_log.new.dev) (g.D.Device.disk c.push_set.new.dev) c.in_ok-arriving.ensures.numbers.0 (c.in-Ok.ensures.stays t).durable (c.in_ok-arriving.ensures.durable t are)

pub returns-in-Ok-clause-crash : goal.returns-in-Ok-clause-crash
returns-in-Ok-clause-crash g c t =
    made_effect c.in_ok-arriving.arriving c.args.db c.args.files.items (g.D.Device.disk c.args.dev.now) (g.D.Device.disk c.begin_with_log.new.dev) (g.D.Device.disk c.push_set.new.dev) c.in_ok-arriving.ensures.numbers.0
    (ap (λ (f : KeptData). f.files) c.in_ok-arriving.ensures.filling) (c.begin_with_log.ensures.crash t) (c.push_set.ensures.crash t)

pub returns-in-Ok-clause-cause : goal.returns-in-Ok-clause-cause
returns-in-Ok-clause-cause g c = cause_then (cause_as (λ none. absurd none) c.in_ok-arriving.ensures.cause) c.in-Ok.ensures.cause (λ bad. absurd (no_error c.push_set.new.arriving Fault bad))

pub returns-clause-unfit : goal.returns-clause-unfit
returns-clause-unfit g c t body is whole unfit =
    c.in-Err.ensures.unfit t body
    (of_others c.args.medium.now.name (g.D.Device.disk c.args.dev.now) (g.D.Device.disk c.begin_with_log.new.dev) body c.args.set.now c.requires.apart (c.begin_with_log.ensures.crash t) is)
    (subst (λ (f : KeptData). Remain 0 body.extents f) (sym c.in_ok-arriving.ensures.filling) (rest_begun c.args.files.items body.extents whole)) (same_error c.in-Err.e Unfit unfit)

pub returns-clause-crash : goal.returns-clause-crash
returns-clause-crash g c t =
    made_effect c.in_ok-arriving.arriving c.args.db c.args.files.items (g.D.Device.disk c.args.dev.now) (g.D.Device.disk c.begin_with_log.new.dev) (g.D.Device.disk c.push_set.new.dev) c.in_ok-arriving.ensures.numbers.0
    (ap (λ (f : KeptData). f.files) c.in_ok-arriving.ensures.filling) (c.begin_with_log.ensures.crash t) (c.push_set.ensures.crash t)

pub returns-clause-cause : goal.returns-clause-cause
returns-clause-cause g c = cause_then (cause_as (λ none. absurd none) c.in_ok-arriving.ensures.cause) c.in-Err.ensures.cause (λ bad. same_error c.in-Err.e Fault bad)
