use Rattle.std.proofs.Common.{◌≡◌, ℕ, true, sym, subst}
use Rattle.std.specs.List.{All}
use Rattle.std.specs.Prelude.{IfSome, IsNone}
use Rattle.std.proofs.lemmas.Result.{IfOk-weaker}
use Rattle.bk_pool.specs.Pool.{IsFound, IsIn}
use Rattle.bk_redo.specs.declared.place.PageAt.{PageAt}
use Rattle.bk_side.specs.Side.{pages_of}
use Rattle.bk_paged.specs.Names.{IsThere}
use Rattle.bk_paged.specs.Paged.{IsPaged, Kept, Standing}
use Rattle.bk_paged.specs.Pooled.{AreClean, Fetches}
use Rattle.bk_paged.proofs.Ends.{anyway, both_given}
use Rattle.bk_paged.proofs.Fetching.{all_dirty, found_alone, found_stands, page_sound}
use Rattle.bk_paged.specs.StandLaws.{standing-kept, standing-pool}
use Rattle.bk_paged.proofs.paged.Paged.frame_of.Goals as goal

pub returns-clause-found : goal.returns-clause-found
returns-clause-found g c =
    let pages = c.fetch.new.pool.pages in
    let file = c.args.file in
    let page = c.args.page in
    both_given c.fetch.result (λ found. IfSome found (λ i. IsIn pages i file page)) (λ found. IfSome found (λ i. (j : ℕ) → IsIn pages j file page → j ≡ i)) (λ found. IfSome found (λ i. IsFound pages file page i)) (found_alone pages file page)
    c.fetch.ensures.holds c.fetch.ensures.alone

pub returns-clause-foreign : goal.returns-clause-foreign
returns-clause-foreign g c t foreign stood here =
    let a = g.D.Device.disk c.args.dev.now in
    let at : PageAt = record { file = c.args.file; page = c.args.page } in
    let There : Kept → Type 0 = λ k. IsThere k.facts.files at in
    c.fetch.ensures.foreign t foreign (page_sound _ stood a at (subst (λ (k : Kept). IsPaged a k stood) (sym c.self.view_is) here) (subst There (sym c.self.view_is) c.requires.there))

pub returns-clause-full : goal.returns-clause-full
returns-clause-full g c =
    let old = c.self.inside.pool in
    let Clean : Kept → Type 0 = λ k. AreClean k.pool in
    IfOk-weaker c.fetch.result (λ found. IsNone found → (c.fetch.new.pool ≡ old) × All (λ is_dirty. is_dirty ≡ true) old.dirty) (λ found. IsNone found → AreClean c.args.self.now.pool → ⊥)
    (λ found full none clean. all_dirty old c.self.invariant.0 (full none).1 (subst Clean (sym c.self.view_is) clean)) c.fetch.ensures.full

pub returns-clause-stands : goal.returns-clause-stands
returns-clause-stands g c t stood is =
    let a = g.D.Device.disk c.args.dev.now in
    let b = g.D.Device.disk c.fetch.new.dev in
    let old = c.self.inside.pool in
    let new = c.fetch.new.pool in
    let at : PageAt = record { file = c.args.file; page = c.args.page } in
    let At : Kept → Type 0 = λ k. IsPaged a k stood in
    let There : Kept → Type 0 = λ k. IsThere k.facts.files at in
    both_given c.fetch.result (λ found. IfSome found (λ i. Fetches (pages_of c.self.inside.side a.files) old new c.args.file c.args.page i)) (λ found. IsNone found → (new ≡ old) × All (λ is_dirty. is_dirty ≡ true) old.dirty) (λ _. _)
    (λ found. found_stands _ stood new c.args.file c.args.page found a b (subst At (sym c.self.view_is) is) (c.fetch.ensures.effect t) (subst There (sym c.self.view_is) c.requires.there) c.self.invariant.0) (c.fetch.ensures.fetched t) c.fetch.ensures.full

pub returns-clause-standing : goal.returns-clause-standing
returns-clause-standing g c t =
    let a = g.D.Device.disk c.args.dev.now in
    let b = g.D.Device.disk c.fetch.new.dev in
    let At : Kept → Type 0 = λ k. Standing a k in
    anyway c.fetch.result (standing-pool _ c.fetch.new.pool {a = b} (standing-kept _ {a = a} {b = b} (subst At (sym c.self.view_is) (c.requires.standing t)) (c.fetch.ensures.effect t)))
