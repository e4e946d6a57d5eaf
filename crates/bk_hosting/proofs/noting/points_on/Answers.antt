use Rattle.std.proofs.Common.{rules, ◌≡◌, List, ℕ, inl, inr, subst, set}
use Rattle.bk_device.specs.Compose.{effect_weaken}
use Rattle.bk_points.specs.Points.{points_bytes}
use Rattle.bk_stores.specs.StandLaws.{rest-crash}
use Rattle.bk_stores.specs.Stores.{LeavesStores, fixed_of, sealed_at}
use Rattle.bk_stores.specs.TouchLaws.{none-touched}
use Rattle.bk_hosting.proofs.noting.points_on.Goals as goal

pub returns-in_err-note-clause-crash : goal.returns-in_err-note-clause-crash
returns-in_err-note-clause-crash g c = λ tells tolds told is here.
    effect_weaken (λ image before. inl before) (rest-crash (g.D.Device.disk c.args.dev.now) c.args.stores.now tolds is)

pub returns-clause-crash : goal.returns-clause-crash
returns-clause-crash g c = λ tells tolds told is here.
    let note : c.deref.result.now ≡ points_bytes c.args.points.now = search rules in
    effect_weaken (λ image left. elim left [
      | inl before ↦ inl before
      | inr after ↦ inr (c.in_ok-note.ensures.spelled, subst (λ (n : List ℕ). LeavesStores (fixed_of c.args.stores.now.master.record) (sealed_at c.args.stores.now tolds) (set tolds c.args.at (record told { note = n })) image) note after)
    ]) (c.note_on.ensures.crash tells tolds told is here)

pub returns-in_err-note-clause-touches : goal.returns-in_err-note-clause-touches
returns-in_err-note-clause-touches g c = λ tells. none-touched (g.D.Device.disk c.args.dev.now)
