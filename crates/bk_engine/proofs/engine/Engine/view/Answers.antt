use Rattle.std.proofs.Common.{refl, sym, ap, subst}
use Rattle.bk_master.specs.declared.record.Own.{Own}
use Rattle.bk_engine.specs.Stands.{Kept}
use Rattle.bk_engine.specs.Viewing.{Remembers}
use Rattle.bk_engine.proofs.Viewed.{view-sees}
use Rattle.bk_engine.proofs.engine.Engine.view.Goals as goal

pub returns : goal.returns
returns c = record {
  sees = λ w knows.
      let e : Kept = record { hosting = c.self.inside.hosting; drawn = c.self.inside.drawn; session = c.self.inside.session; sessions = c.self.inside.sessions.items } in
      view-sees e w _ (ap (λ (o : Own). o.number) c.own.ensures) refl refl refl c.in_ok-databases.ensures (subst (λ (k : Kept). Remembers k w) (sym c.self.view_is) knows);
}
