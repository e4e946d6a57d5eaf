use Rattle.std.proofs.Common.{sym, ap, subst, refl}
use Rattle.bk_archive.specs.Media.{KeepsMedia}
use Rattle.bk_master.specs.declared.record.Own.{Own}
use Rattle.bk_engine.specs.Amid.{Amid, AmidBare}
use Rattle.bk_engine.specs.Stands.{IsReady, Kept, StandsFor}
use Rattle.bk_engine.proofs.Named.{of-ok, on-all, own-put}
use Rattle.bk_engine.specs.AmidLaws.{amid-stands, bare-crash, named-amid, named-crash, stands-amid}
use Rattle.bk_engine.proofs.engine.Engine.put_sets.Goals as goal

pub returns-clause-stands : goal.returns-clause-stands
unfolding stands-amid
returns-clause-stands g c = λ tells w is.
    let a = g.D.Device.disk c.args.dev.now in
    let e : Kept = record { hosting = c.self.inside.hosting; drawn = c.self.inside.drawn; session = c.self.inside.session; sessions = c.self.inside.sessions.items } in
    let is' : StandsFor a e w = subst (λ (k : Kept). StandsFor a k w) (sym c.self.view_is) is in
    let ready' : IsReady e = subst IsReady (sym c.self.view_is) c.requires.ready in
    let b = g.D.Device.disk c.put_own.new.dev in
    let amid : Amid a e.hosting w = stands-amid a e w ready' is' in
    let number = ap (λ (o : Own). o.number) c.own-own.ensures in
    let counter = ap (λ (o : Own). o.counter) c.own-own.ensures in
    on-all c.put_own.result (λ value ok.
    amid-stands b (record { hosting = c.put_own.new.self; drawn = c.self.inside.drawn; session = c.self.inside.session; sessions = c.self.inside.sessions.items }) w
    (named-amid a b e.hosting c.put_own.new.self w _ amid number counter is'.media (of-ok c.put_own.result value ok c.put_own.ensures.own) (of-ok c.put_own.result value ok (c.put_own.ensures.stands tells is'.hosted is'.hosting)) (c.put_own.ensures.crash tells is'.hosted is'.hosting))
    is'.sound (ap (λ (o : Own). o.making) (of-ok c.put_own.result value ok c.put_own.ensures.own)) is'.counter is'.session is'.sessions)

pub returns-clause-crash : goal.returns-clause-crash
unfolding stands-amid
returns-clause-crash g c = λ tells w is.
    let a = g.D.Device.disk c.args.dev.now in
    let e : Kept = record { hosting = c.self.inside.hosting; drawn = c.self.inside.drawn; session = c.self.inside.session; sessions = c.self.inside.sessions.items } in
    let is' : StandsFor a e w = subst (λ (k : Kept). StandsFor a k w) (sym c.self.view_is) is in
    let ready' : IsReady e = subst IsReady (sym c.self.view_is) c.requires.ready in
    named-crash a (g.D.Device.disk c.put_own.new.dev) e.hosting w _ (stands-amid a e w ready' is') (ap (λ (o : Own). o.number) c.own-own.ensures) (ap (λ (o : Own). o.counter) c.own-own.ensures) is'.media (c.put_own.ensures.crash tells is'.hosted is'.hosting)

pub returns-clause-own : goal.returns-clause-own
returns-clause-own g c =
    own-put c.put_own.result (record { hosting = c.self.inside.hosting; drawn = c.self.inside.drawn; session = c.self.inside.session; sessions = c.self.inside.sessions.items }) _ (record { hosting = c.put_own.new.self; drawn = c.self.inside.drawn; session = c.self.inside.session; sessions = c.self.inside.sessions.items }) _ _ c.self.view_is (ap (λ (o : Own). o.number) c.own-own.ensures) (refl) c.put_own.ensures.own

pub returns-clause-touches : goal.returns-clause-touches
returns-clause-touches g c = λ tells. c.put_own.ensures.touches tells

pub returns-clause-bare : goal.returns-clause-bare
returns-clause-bare g c = λ tells w is.
    let a = g.D.Device.disk c.args.dev.now in
    let e : Kept = record { hosting = c.self.inside.hosting; drawn = c.self.inside.drawn; session = c.self.inside.session; sessions = c.self.inside.sessions.items } in
    let is' : AmidBare a e.hosting w = subst (λ (k : Kept). AmidBare a k.hosting w) (sym c.self.view_is) is in
    let ready' : IsReady e = subst IsReady (sym c.self.view_is) c.requires.ready in
    bare-crash a (g.D.Device.disk c.put_own.new.dev) e.hosting w _ is' (ap (λ (o : Own). o.number) c.own-own.ensures) (ap (λ (o : Own). o.counter) c.own-own.ensures) (subst (λ making. KeepsMedia w making a.files) ready'.no_medium is'.media) (c.put_own.ensures.crash tells is'.hosted is'.hosting)
