use Rattle.std.proofs.Common.{◌≡◌, ℕ, List, [], rules, sym, subst}
use Rattle.bk_known.specs.declared.known.Known.{Known}
use Rattle.bk_shown.specs.Shown.{Shows}
use Rattle.bk_shown.specs.declared.shown.Shown.{Shown}
use Rattle.bk_world.specs.declared.database.FileSpec.{FileSpec}
use Rattle.bk_store.specs.Making.{Makes, first_known}
use Rattle.bk_store.specs.Store.{IsStore}
use Rattle.bk_store.specs.Told.{unsaid}
use Rattle.bk_store.proofs.store.Store.make.Goals as goal

pub returns-in_err-paged-clause-crash : goal.returns-in_err-paged-clause-crash
returns-in_err-paged-clause-crash g c t =
    let Of : Known → Type 0 = λ k. Makes c.args.db (unsaid k.spec []) (g.D.Device.disk c.args.dev.now) (g.D.Device.disk c.make_paged.new.dev) in
    subst Of c.known_first-known.ensures (c.make_paged.ensures.crash t)

pub returns-clause-crash : goal.returns-clause-crash
returns-clause-crash g c t =
    let Of : Known → Type 0 = λ k. Makes c.args.db (unsaid k.spec []) (g.D.Device.disk c.args.dev.now) (g.D.Device.disk c.make_paged.new.dev) in
    subst Of c.known_first-known.ensures (c.make_paged.ensures.crash t)

pub returns-clause-stands : goal.returns-clause-stands
returns-clause-stands g c t =
    let spec = c.args.spec in
    let b = g.D.Device.disk c.make_paged.new.dev in
    let shows : Shows spec.storage.files [] c.in_ok-shown.shown = subst (λ (fs : List FileSpec). Shows fs [] c.in_ok-shown.shown) c.as_slice.ensures c.in_ok-shown.ensures in
    let empty : c.new-2.result.items ≡ [] = search rules in
    let Given : Known → Type 0 = λ k. (shown : Shown) → Shows k.spec.storage.files [] shown → IsStore b (record { paged = c.in_ok-paged.paged; shown = shown; known = k; note = [] }) (unsaid k.spec []) in
    let stands : Given (first_known spec) = subst Given c.known_first-known.ensures (c.in_ok-paged.ensures.stands t) in
    let Of : Known → Type 0 = λ k. IsStore b (record { paged = c.in_ok-paged.paged; shown = c.in_ok-shown.shown; known = k; note = [] }) (unsaid spec []) in
    let Note : List ℕ → Type 0 = λ n. IsStore b (record { paged = c.in_ok-paged.paged; shown = c.in_ok-shown.shown; known = c.known_first-known.result; note = n }) (unsaid spec []) in
    subst Note (sym empty) (subst Of (sym c.known_first-known.ensures) (stands c.in_ok-shown.shown shows))
