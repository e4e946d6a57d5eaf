use Rattle.std.proofs.Common.{◌≡◌, ◌∙◌, true, false, map, refl, sym, ap, subst}
use Rattle.bk_device.specs.Compose.{effect_then}
use Rattle.bk_hosted.specs.Fronts.{settling}
use Rattle.bk_master.specs.declared.record.Own.{Own}
use Rattle.bk_engine.specs.LoadLaws.{Cleared, cleared-crash, cleared-opens, opened-crash}
use Rattle.bk_engine.specs.Loading.{Opened}
use Rattle.bk_engine.proofs.Named.{moved, of-ok, on-all}
use Rattle.bk_engine.specs.TouchLaws.{rest-still, rest-touch, stores-touch}
use Rattle.bk_engine.proofs.finishing.finish.Goals as goal

pub returns-then-is_whole-clause-crash : goal.returns-then-is_whole-clause-crash
returns-then-is_whole-clause-crash g c = λ tells number w is.
    opened-crash number (g.D.Device.disk c.args.dev.now) (g.D.Device.disk c.at_rest.new.dev) c.args.hosting.now w is (c.at_rest.ensures.crash tells (map settling is.hosted) is.hosting)

pub returns-in_err-clear-clause-crash : goal.returns-in_err-clear-clause-crash
returns-in_err-clear-clause-crash g c = λ tells number w is. moved g.D.Device.disk c.args.dev.now c.at_rest.new.dev c.at_rest.ensures.same (c.clear.ensures.crash tells number w (subst (λ d. Opened (g.D.Device.disk d) c.args.hosting.now w) (sym c.at_rest.ensures.same) is))

pub returns-clause-stands : goal.returns-clause-stands
returns-clause-stands g c = λ tells w is.
    let cleared : Cleared (g.D.Device.disk c.clear.new.dev) c.args.hosting.now w = c.in_ok-clear.ensures.stands tells w (subst (λ d. Opened (g.D.Device.disk d) c.args.hosting.now w) (sym c.at_rest.ensures.same) is) in
    let hosting = c.put_own.ensures.stands tells (map settling cleared.opened.hosted) cleared.opened.hosting in
    on-all c.put_own.result (λ value ok.
    let own = of-ok c.put_own.result value ok c.put_own.ensures.own in
    cleared-opens (g.D.Device.disk c.clear.new.dev) (g.D.Device.disk c.put_own.new.dev) c.args.hosting.now c.put_own.new.self w cleared (ap (λ (o : Own). o.number) own ∙ ap (λ (o : Own). o.number) c.own-own.ensures) (ap (λ (o : Own). o.counter) own ∙ ap (λ (o : Own). o.counter) c.own-own.ensures)
    (ap (λ (o : Own). o.making) own) (of-ok c.put_own.result value ok hosting) (c.put_own.ensures.crash tells (map settling cleared.opened.hosted) cleared.opened.hosting))

pub returns-clause-crash : goal.returns-clause-crash
returns-clause-crash g c = λ tells number w is.
    let cleared : Cleared (g.D.Device.disk c.clear.new.dev) c.args.hosting.now w = c.in_ok-clear.ensures.stands tells w (subst (λ d. Opened (g.D.Device.disk d) c.args.hosting.now w) (sym c.at_rest.ensures.same) is) in
    effect_then (moved g.D.Device.disk c.args.dev.now c.at_rest.new.dev c.at_rest.ensures.same (c.clear.ensures.crash tells number w (subst (λ d. Opened (g.D.Device.disk d) c.args.hosting.now w) (sym c.at_rest.ensures.same) is)))
    (cleared-crash number (g.D.Device.disk c.clear.new.dev) (g.D.Device.disk c.put_own.new.dev) c.args.hosting.now w _ cleared (ap (λ (o : Own). o.number) c.own-own.ensures) (ap (λ (o : Own). o.counter) c.own-own.ensures) refl
    (c.put_own.ensures.crash tells (map settling cleared.opened.hosted) cleared.opened.hosting))

pub returns-then-is_whole-clause-touches : goal.returns-then-is_whole-clause-touches
returns-then-is_whole-clause-touches g c = λ tells. rest-touch g.D.Device.disk c.args.dev.now c.at_rest.new.dev c.at_rest.ensures.same

pub returns-in_err-clear-clause-touches : goal.returns-in_err-clear-clause-touches
returns-in_err-clear-clause-touches g c = λ tells. moved g.D.Device.disk c.args.dev.now c.at_rest.new.dev c.at_rest.ensures.same (c.clear.ensures.touches tells)

pub returns-clause-touches : goal.returns-clause-touches
returns-clause-touches g c = λ tells. effect_then (moved g.D.Device.disk c.args.dev.now c.at_rest.new.dev c.at_rest.ensures.same (c.clear.ensures.touches tells)) (stores-touch (c.put_own.ensures.touches tells))

pub returns-then-is_whole-clause-still : goal.returns-then-is_whole-clause-still
returns-then-is_whole-clause-still g c = λ tells no_medium no_set no_copy. rest-still g.D.Device.disk c.args.dev.now c.at_rest.new.dev c.at_rest.ensures.same

pub returns-clause-still : goal.returns-clause-still
returns-clause-still g c = λ tells no_medium no_set no_copy.
    let whole : c.is_whole.result ≡ true = c.is_whole.ensures.all (ap (λ (o : Own). o.making) c.own.ensures ∙ no_medium) (ap (λ (o : Own). o.staging) c.own.ensures ∙ no_set) (ap (λ (o : Own). o.copying) c.own.ensures ∙ no_copy) in
    let both : false ≡ true = sym c.if-is_whole.false ∙ whole in
    absurd (cc (both))
