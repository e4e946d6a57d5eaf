use Rattle.std.proofs.Common.{[], ap, ◌∙◌}
use Rattle.bk_device.specs.Calls.{contents}
use Rattle.bk_device.specs.Laws.{durable_by_nothing, effect_after_nothing}
use Rattle.bk_filling.specs.Filling.{Kept as KeptData}
use Rattle.bk_world.specs.declared.header.Header.{Header}
use Rattle.bk_arriving.specs.Sets.{pages_of}
use Rattle.bk_arriving.proofs.Logs.{log_spells}
use Rattle.bk_arriving.proofs.Making.{durable_then, made_effect, spell_first}
use Rattle.bk_arriving.proofs.arriving.begin_with_log.Goals as goal

pub returns-in-Ok-clause-arrives : goal.returns-in-Ok-clause-arrives
returns-in-Ok-clause-arrives g c t body records is log =
    let first = c.in_ok-arriving.ensures.numbers.1 ∙ ap (λ (h : Header). h.first) c.header.ensures in
    let bytes = c.deref.ensures.value ∙ c.in_ok-log.ensures.log t body is in
    c.in-Ok.ensures.arrives t (pages_of body) [] records (c.in_ok-arriving.ensures.none t (pages_of body))
    (spell_first c.deref.result.now body.log c.in_ok-arriving.arriving.log.kept c.args.set.now.header.first records bytes first
    (log_spells (contents ((g.D.Device.disk c.args.dev.now).files c.args.medium.now.name)) body c.args.set.now records is log))

pub returns-in-Ok-clause-durable : goal.returns-in-Ok-clause-durable
returns-in-Ok-clause-durable g c t are =
    durable_then c.args.db c.in_ok-arriving.arriving (g.D.Device.disk c.begin.new.dev) (g.D.Device.disk c.push_log.new.dev) c.in_ok-arriving.ensures.numbers.0 (c.in-Ok.ensures.durable t)
    (c.in_ok-arriving.ensures.durable t (λ name own. durable_by_nothing name (c.log_of.ensures.effect t) (are name own)))

pub returns-in-Ok-clause-crash : goal.returns-in-Ok-clause-crash
returns-in-Ok-clause-crash g c t =
    made_effect c.in_ok-arriving.arriving c.args.db c.args.files.items (g.D.Device.disk c.args.dev.now) (g.D.Device.disk c.begin.new.dev) (g.D.Device.disk c.push_log.new.dev) c.in_ok-arriving.ensures.numbers.0
    (ap (λ (f : KeptData). f.files) c.in_ok-arriving.ensures.filling) (effect_after_nothing (g.met.D.Device.lawful t c.args.dev.now) (c.log_of.ensures.effect t) (c.begin.ensures.crash t)) (c.push_log.ensures.crash t)

pub returns-clause-crash : goal.returns-clause-crash
returns-clause-crash g c t =
    made_effect c.in_ok-arriving.arriving c.args.db c.args.files.items (g.D.Device.disk c.args.dev.now) (g.D.Device.disk c.begin.new.dev) (g.D.Device.disk c.push_log.new.dev) c.in_ok-arriving.ensures.numbers.0
    (ap (λ (f : KeptData). f.files) c.in_ok-arriving.ensures.filling) (effect_after_nothing (g.met.D.Device.lawful t c.args.dev.now) (c.log_of.ensures.effect t) (c.begin.ensures.crash t)) (c.push_log.ensures.crash t)
