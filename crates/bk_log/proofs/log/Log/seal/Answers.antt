use Rattle.std.proofs.Common.{◌≡◌, ◌≤◌, ◌+◌, ◌⊎◌, List, [], ◌∷◌, ◌++◌, ℕ, refl, sym, ap, subst, ◌∙◌, arith}
use Rattle.bk_device.specs.Effects.{Effect, IsName}
use Rattle.bk_gate.specs.Blobs.{sealed}
use Rattle.bk_log.specs.contracts.log.Log.{the_view}
use Rattle.bk_segments.specs.BatchLaws.{part_none, records_none}
use Rattle.bk_log.specs.Log.{Kept, IsLog, value_of}
use Rattle.bk_segments.specs.Files.{IsOwn, LogIs, shown, with_more}
use Rattle.bk_segments.specs.Records.{IsPart, records_in}
use Rattle.bk_log.proofs.Steps.{add_crash, add_value, add_log}
use Rattle.bk_log.proofs.log.Log.seal.Goals as goal

pub returns-in_err-append_reserved-clause-crash : goal.returns-in_err-append_reserved-clause-crash
returns-in_err-append_reserved-clause-crash g c t =
    let a = g.D.Device.disk c.args.dev.now in
    let b = g.D.Device.disk c.append_reserved.new.dev in
    let inv = c.self.invariant in
    let is = subst (IsLog a) (sym c.self.view_is) (c.requires.stands t) in
    let name = c.self.inside.gate.name in
    let At : List ℕ → Type 0 = λ blob. Effect (IsName name) (λ image. (sealed (image name) ≡ sealed (a.files name)) ⊎ (sealed (image name) ≡ sealed (a.files name) ++ blob ∷ [])) a b in
    let W : Kept → Type 0 = λ k. Effect (IsOwn k.db) (λ image. LogIs image k.db (value_of a.files k) ⊎ LogIs image k.db (with_more (value_of a.files k) k.waiting)) a b in
    subst W c.self.view_is (add_crash (the_view c.self.inside) name c.self.inside.waiting.items c.self.inside.end a b is inv.4 inv.5
    refl (subst At c.deref.ensures.value (c.append_reserved.ensures.crash t)))

pub invariant_of-self-2 : goal.invariant_of-self-2
invariant_of-self-2 g c =
    let inv = c.self.invariant in
    ((λ fit. c.in_ok-append_reserved.ensures.none), inv.1, inv.2, inv.3, subst (λ (bs : List ℕ). IsPart c.self.inside.end bs c.self.inside.end) (sym c.clear.ensures.items) (part_none c.self.inside.end), inv.5, inv.6, inv.7, omega (arith, inv.8, c.clear.ensures.len, c.clear.ensures.capacity), (λ fit. omega (arith, c.in_ok-append_reserved.ensures.spare, subst (λ (k : Kept). c.args.flushes + 1 ≤ k.gate.spare) (sym c.self.view_is) c.requires.spare)))

pub returns-clause-stands : goal.returns-clause-stands
returns-clause-stands g c t =
    let a = g.D.Device.disk c.args.dev.now in
    let b = g.D.Device.disk c.append_reserved.new.dev in
    let inv = c.self.invariant in
    let is = subst (IsLog a) (sym c.self.view_is) (c.requires.stands t) in
    let name = c.self.inside.gate.name in
    let Grown : List ℕ → Type 0 = λ blob. sealed (b.files name) ≡ sealed (a.files name) ++ blob ∷ [] in
    add_log (the_view c.self.inside) name c.self.inside.waiting.items c.self.inside.end a b c.append_reserved.new.self c.self.inside.end _ _ _ _ is inv.4 inv.5
    refl c.append_reserved.ensures.name (subst Grown c.deref.ensures.value (c.in_ok-append_reserved.ensures.sealed t))
    (c.in_ok-append_reserved.ensures.stands t) (c.in_ok-append_reserved.ensures.durable t) (c.append_reserved.ensures.crash t)

pub returns-clause-value : goal.returns-clause-value
returns-clause-value g c t =
    let a = g.D.Device.disk c.args.dev.now in
    let b = g.D.Device.disk c.append_reserved.new.dev in
    let is = subst (IsLog a) (sym c.self.view_is) (c.requires.stands t) in
    let name = c.self.inside.gate.name in
    let Grown : List ℕ → Type 0 = λ blob. sealed (b.files name) ≡ sealed (a.files name) ++ blob ∷ [] in
    let W : Kept → Type 0 = λ k. shown b.files c.self.inside.db c.self.inside.head c.self.inside.note.items ≡ with_more (value_of a.files k) k.waiting in
    subst W c.self.view_is (add_value (the_view c.self.inside) name c.self.inside.waiting.items a b is
    refl (subst Grown c.deref.ensures.value (c.in_ok-append_reserved.ensures.sealed t)) (c.append_reserved.ensures.crash t))

pub returns-clause-none : goal.returns-clause-none
returns-clause-none g c = (ap records_in c.clear.ensures.items ∙ records_none, ap (λ (k : Kept). k.end) c.self.view_is)

pub returns-clause-crash : goal.returns-clause-crash
returns-clause-crash g c t =
    let a = g.D.Device.disk c.args.dev.now in
    let b = g.D.Device.disk c.append_reserved.new.dev in
    let inv = c.self.invariant in
    let is = subst (IsLog a) (sym c.self.view_is) (c.requires.stands t) in
    let name = c.self.inside.gate.name in
    let At : List ℕ → Type 0 = λ blob. Effect (IsName name) (λ image. (sealed (image name) ≡ sealed (a.files name)) ⊎ (sealed (image name) ≡ sealed (a.files name) ++ blob ∷ [])) a b in
    let W : Kept → Type 0 = λ k. Effect (IsOwn k.db) (λ image. LogIs image k.db (value_of a.files k) ⊎ LogIs image k.db (with_more (value_of a.files k) k.waiting)) a b in
    subst W c.self.view_is (add_crash (the_view c.self.inside) name c.self.inside.waiting.items c.self.inside.end a b is inv.4 inv.5
    refl (subst At c.deref.ensures.value (c.append_reserved.ensures.crash t)))
