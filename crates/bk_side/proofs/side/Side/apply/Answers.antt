use Rattle.std.proofs.Common.{rules, sym, subst, ap, ◌∙◌, ◌≡◌, ◌⊎◌, [], ℕ, List, false, length, arith, length-append}
use Rattle.std.specs.Prelude.{IsSome}
use Rattle.bk_device.specs.Effects.{Effect}
use Rattle.bk_gate.specs.Blobs.{sealed}
use Rattle.bk_gate.specs.Gate.{begun_of, Kept as KeptGate}
use Rattle.bk_side.specs.Names.{IsOwn, IsData, AreApart}
use Rattle.bk_side.specs.Pages.{shown, Shows, entries_of}
use Rattle.bk_side.specs.Side.{Kept, IsSide, IsOwnOf, pages_of, ShowsPages, AreDurable}
use Rattle.bk_side.proofs.Sides.{seal_effect, apply_effect, apply_shows, applied_of, fresh_side, none_added}
use Rattle.bk_side.proofs.side.Side.apply.Goals as goal

pub returns-in_err-seal_reserved-clause-crash : goal.returns-in_err-seal_reserved-clause-crash
returns-in_err-seal_reserved-clause-crash g c t =
    let a = g.D.Device.disk c.args.dev.now in
    let At : Kept → Type 0 = λ k. IsSide a k in
    let is = subst At (sym c.self.view_is) (c.requires.stands t) in
    let Crash : Kept → Type 0 = λ k. Effect (IsOwnOf k) (λ image. ShowsPages k (pages_of k a.files) image ⊎ ShowsPages k (applied_of a k) image) a (g.D.Device.disk c.seal_reserved.new.dev) in
    subst Crash c.self.view_is (seal_effect a (g.D.Device.disk c.seal_reserved.new.dev) _ is (c.seal_reserved.ensures.crash t))

pub returns-in_err-finish-clause-crash : goal.returns-in_err-finish-clause-crash
returns-in_err-finish-clause-crash g c t =
    let a = g.D.Device.disk c.args.dev.now in
    let b = g.D.Device.disk c.seal_reserved.new.dev in
    let d = g.D.Device.disk c.finish.new.dev in
    let At : Kept → Type 0 = λ k. IsSide a k in
    let is = subst At (sym c.self.view_is) (c.requires.stands t) in
    let Named : List ℕ → Type 0 = λ n. Effect (IsOwn n c.self.inside.names.items) (Shows n c.self.inside.names.items (shown n c.self.inside.names.items b.files)) b d in
    let Listed : List (List ℕ) → Type 0 = λ ns. Effect (IsOwn c.seal_reserved.new.self.name ns) (Shows c.seal_reserved.new.self.name ns (shown c.seal_reserved.new.self.name ns b.files)) b d in
    let second = subst Named c.seal_reserved.ensures.name (subst Listed c.deref.ensures.value (c.finish.ensures.crash t)) in
    let Crash : Kept → Type 0 = λ k. Effect (IsOwnOf k) (λ image. ShowsPages k (pages_of k a.files) image ⊎ ShowsPages k (applied_of a k) image) a d in
    subst Crash c.self.view_is (apply_effect a b d _ is (c.seal_reserved.ensures.crash t) (c.in_ok-seal_reserved.ensures.sealed t) (seal_effect a b _ is (c.seal_reserved.ensures.crash t)) second)

pub invariant_of-self-2 : goal.invariant_of-self-2
invariant_of-self-2 g c _ =
    let Begun : KeptGate → Type 0 = λ k. IsSome k.begun in (
      ap (λ (k : KeptGate). k.failed) c.begin.ensures ∙ c.in_ok-finish.ensures.fit,
      (
        subst Begun (sym c.begin.ensures) (search rules),
        omega (arith, ap (λ (k : KeptGate). k.spare) c.begin.ensures, c.in_ok-finish.ensures.spare, ap length c.in_ok-seal_reserved.ensures.spans, length-append {A = ℕ × ℕ}),
      ),
    )

pub returns-clause-stands : goal.returns-clause-stands
returns-clause-stands g c t =
    let a = g.D.Device.disk c.args.dev.now in
    let d = g.D.Device.disk c.finish.new.dev in
    let At : Kept → Type 0 = λ k. IsSide a k in
    let is = subst At (sym c.self.view_is) (c.requires.stands t) in
    let named = c.finish.ensures.name ∙ c.seal_reserved.ensures.name in
    let Empty : List ℕ → Type 0 = λ n. sealed (d.files n) ≡ [] in
    let Durable : List (List ℕ) → Type 0 = λ ns. AreDurable (IsData ns) d in
    let Apart : List ℕ → Type 0 = λ n. AreApart n c.self.inside.names.items in
    let Side : KeptGate → Type 0 = λ k. IsSide d (record { gate = k; names = c.self.inside.names.items; failed = false }) in
    subst Side (sym c.begin.ensures)
    (fresh_side d c.finish.new.gate c.self.inside.names.items false (c.in_ok-finish.ensures.stands t) (subst Empty (sym c.finish.ensures.name) (c.in_ok-finish.ensures.empty t)) (subst Durable c.deref.ensures.value (c.in_ok-finish.ensures.durable t)) (subst Apart (sym named) is.apart))

pub returns-clause-none : goal.returns-clause-none
returns-clause-none g c t =
    let d = g.D.Device.disk c.finish.new.dev in
    ap (λ (k : KeptGate). entries_of (begun_of d k)) c.begin.ensures ∙ none_added d c.finish.new.gate

pub returns-clause-pages : goal.returns-clause-pages
returns-clause-pages g c t =
    let a = g.D.Device.disk c.args.dev.now in
    let b = g.D.Device.disk c.seal_reserved.new.dev in
    let d = g.D.Device.disk c.finish.new.dev in
    let At : Kept → Type 0 = λ k. IsSide a k in
    let is = subst At (sym c.self.view_is) (c.requires.stands t) in
    let Named : List ℕ → Type 0 = λ n. Shows n c.self.inside.names.items (shown n c.self.inside.names.items b.files) d.files in
    let Listed : List (List ℕ) → Type 0 = λ ns. Shows c.seal_reserved.new.self.name ns (shown c.seal_reserved.new.self.name ns b.files) d.files in
    let second = subst Named c.seal_reserved.ensures.name (subst Listed c.deref.ensures.value (c.in_ok-finish.ensures.same t)) in
    let Pages : Kept → Type 0 = λ k. ShowsPages k (applied_of a k) d.files in
    subst Pages c.self.view_is (apply_shows a b d _ is (c.seal_reserved.ensures.crash t) (c.in_ok-seal_reserved.ensures.sealed t) second)

pub returns-clause-crash : goal.returns-clause-crash
returns-clause-crash g c t =
    let a = g.D.Device.disk c.args.dev.now in
    let b = g.D.Device.disk c.seal_reserved.new.dev in
    let d = g.D.Device.disk c.finish.new.dev in
    let At : Kept → Type 0 = λ k. IsSide a k in
    let is = subst At (sym c.self.view_is) (c.requires.stands t) in
    let Named : List ℕ → Type 0 = λ n. Effect (IsOwn n c.self.inside.names.items) (Shows n c.self.inside.names.items (shown n c.self.inside.names.items b.files)) b d in
    let Listed : List (List ℕ) → Type 0 = λ ns. Effect (IsOwn c.seal_reserved.new.self.name ns) (Shows c.seal_reserved.new.self.name ns (shown c.seal_reserved.new.self.name ns b.files)) b d in
    let second = subst Named c.seal_reserved.ensures.name (subst Listed c.deref.ensures.value (c.finish.ensures.crash t)) in
    let Crash : Kept → Type 0 = λ k. Effect (IsOwnOf k) (λ image. ShowsPages k (pages_of k a.files) image ⊎ ShowsPages k (applied_of a k) image) a d in
    subst Crash c.self.view_is (apply_effect a b d _ is (c.seal_reserved.ensures.crash t) (c.in_ok-seal_reserved.ensures.sealed t) (seal_effect a b _ is (c.seal_reserved.ensures.crash t)) second)
