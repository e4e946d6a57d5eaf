use Rattle.std.proofs.Common.{◌≡◌, List, ℕ, Some, inl, inr, ap, sym, subst, arith}
use Rattle.std.specs.Prelude.{slice_get}
use Rattle.bk_device.specs.Calls.{contents}
use Rattle.bk_gate.specs.Blobs.{sealed}
use Rattle.bk_gate.specs.Gate.{Kept}
use Rattle.bk_volume.specs.Stored.{Opens}
use Rattle.bk_volume.proofs.Opened.{set_is_blob, set_there}
use Rattle.bk_volume.proofs.medium.Medium.open_set.Goals as goal

pub returns-then-p-eq0-clause-answer : goal.returns-then-p-eq0-clause-answer
returns-then-p-eq0-clause-answer g c t = λ blob at. set_there c.args.p blob (c.requires.shows t) at (inl c.if-p-eq0.true)

pub returns-then-count-p-clause-answer : goal.returns-then-count-p-clause-answer
returns-then-count-p-clause-answer g c t = λ blob at. set_there c.args.p blob (c.requires.shows t) at (inr (omega (arith, c.count.ensures, c.if-count-p.true)))

pub returns-clause-answer : goal.returns-clause-answer
returns-clause-answer g c t = λ blob at.
    let named = ap (λ (k : Kept). k.name) c.self.view_is in
    let files = (g.D.Device.disk c.args.dev.now).files in
    let Blob : List ℕ → Type 0 = λ n. slice_get (sealed (files n)) c.args.p ≡ Some blob in
    let Answer : List ℕ → Type 0 = λ n. Opens (contents (files n)) blob c.open_span.result in
    subst Answer named (c.open_span.ensures.answer t blob (subst Blob (sym named) (set_is_blob (files c.args.self.now.name) c.args.p blob (c.requires.shows t).sets at)))
