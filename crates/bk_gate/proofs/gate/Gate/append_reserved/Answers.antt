use Rattle.std.proofs.Common.{◌≡◌, ◌+◌, ◌++◌, ◌∷◌, ◌∙◌, [], ℕ, List, ap, sym, subst, length}
use Rattle.bk_gate.specs.Gate.{Kept, Quiet, IsAt, IsGate}
use Rattle.bk_gate.proofs.Gates.{append_named, quiet_gate}
use Rattle.bk_gate.proofs.gate.Gate.append_reserved.Goals as goal

pub returns-in-Err-clause-crash : goal.returns-in-Err-clause-crash
returns-in-Err-clause-crash g c t =
    append_named c.args.self.now c.deref.result.now c.args.bytes.now (g.D.Device.disk c.args.dev.now) (g.D.Device.disk c.append_blob.new.dev) (c.deref.ensures ∙ ap (λ (k : Kept). k.name) c.self.view_is) (c.append_blob.ensures.crash t)

pub returns-in-Ok-clause-crash : goal.returns-in-Ok-clause-crash
returns-in-Ok-clause-crash g c t =
    append_named c.args.self.now c.deref.result.now c.args.bytes.now (g.D.Device.disk c.args.dev.now) (g.D.Device.disk c.append_blob.new.dev) (c.deref.ensures ∙ ap (λ (k : Kept). k.name) c.self.view_is) (c.append_blob.ensures.crash t)

pub returns-in-Ok-clause-stands : goal.returns-in-Ok-clause-stands
returns-in-Ok-clause-stands g c t =
    let disk = g.D.Device.disk in
    let name = c.deref.result.now in
    let size = length c.args.bytes.now in
    let Of : Kept → Type 0 = IsGate (disk c.args.dev.now) in
    let At : List ℕ → Type 0 = λ n. IsAt c.self.inside.spans.items c.self.inside.end c.self.inside.is_closed n (disk c.args.dev.now) in
    let OfQuiet : Kept → Type 0 = λ k. Quiet (k.spans ++ (k.end + 9, size) ∷ []) (k.end + 9 + size) name (disk c.append_blob.new.dev) in
    let OfNext : Kept → Type 0 = λ k. k.end + 9 + size ≡ c.in-Ok.next in
    let is = subst Of (sym c.self.view_is) (c.requires.stands t) in
    let now = c.take_sealed.ensures in
    quiet_gate _ _ name (c.deref.ensures ∙ ap (λ (k : Kept). k.name) c.self.view_is ∙ sym (ap (λ (k : Kept). k.name) now)) (sym (ap (λ (k : Kept). k.spans) now)) (subst OfNext c.self.view_is (sym c.in-Ok.ensures.next.0) ∙ sym (ap (λ (k : Kept). k.end) now)) (sym (ap (λ (k : Kept). k.is_closed) now)) (ap (λ (k : Kept). k.begun) now)
    (subst OfQuiet c.self.view_is (c.in-Ok.ensures.quiet t c.self.inside.spans.items (subst At (sym c.deref.ensures) is.at)))
