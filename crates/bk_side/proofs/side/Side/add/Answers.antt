use Rattle.std.proofs.Common.{sym, subst, ◌≡◌, ◌++◌, ◌∷◌, [], false}
use Rattle.bk_device.specs.Effects.{Effect}
use Rattle.bk_gate.specs.Gate.{begun_of}
use Rattle.bk_side.specs.Pages.{Entry, entries_of}
use Rattle.bk_side.specs.Side.{Kept, IsSide, IsOwnOf, pages_of, ShowsPages, added_of}
use Rattle.bk_side.proofs.Sides.{same_effect, same_shows, add_entries, add_side}
use Rattle.bk_side.proofs.side.Side.add.Goals as goal

pub returns-in_err-add-clause-crash : goal.returns-in_err-add-clause-crash
returns-in_err-add-clause-crash g c t =
    let a = g.D.Device.disk c.args.dev.now in
    let At : Kept → Type 0 = λ k. IsSide a k in
    let is = subst At (sym c.self.view_is) (c.requires.stands t) in
    let Crash : Kept → Type 0 = λ k. Effect (IsOwnOf k) (ShowsPages k (pages_of k a.files)) a (g.D.Device.disk c.add.new.dev) in
    subst Crash c.self.view_is (same_effect is.apart is.durable (c.add.ensures.crash t))

pub returns-clause-stands : goal.returns-clause-stands
returns-clause-stands g c t =
    let a = g.D.Device.disk c.args.dev.now in
    let At : Kept → Type 0 = λ k. IsSide a k in
    let is = subst At (sym c.self.view_is) (c.requires.stands t) in
    add_side a (g.D.Device.disk c.add.new.dev) _ c.add.new.self c.spell_entry-entry.result false is (c.add.ensures.crash t) (c.in_ok-add.ensures.stands t) c.add.ensures.name (c.in_ok-add.ensures.added t) c.spell_entry-entry.ensures.size (c.in_ok-add.ensures.sealed t)

pub returns-clause-added : goal.returns-clause-added
returns-clause-added g c t =
    let a = g.D.Device.disk c.args.dev.now in
    let b = g.D.Device.disk c.add.new.dev in
    let At : Kept → Type 0 = λ k. IsSide a k in
    let is = subst At (sym c.self.view_is) (c.requires.stands t) in
    let e : Entry = ((c.args.file, c.args.page), c.args.bytes.now) in
    let Added : Kept → Type 0 = λ k. entries_of (begun_of b c.add.new.self) ≡ added_of a k ++ e ∷ [] in
    subst Added c.self.view_is (add_entries a b _ c.add.new.self c.spell_entry-entry.result e is (c.in_ok-add.ensures.added t) c.spell_entry-entry.ensures.size c.spell_entry-entry.ensures.entry)

pub returns-clause-same : goal.returns-clause-same
returns-clause-same g c t =
    let a = g.D.Device.disk c.args.dev.now in
    let At : Kept → Type 0 = λ k. IsSide a k in
    let is = subst At (sym c.self.view_is) (c.requires.stands t) in
    let Same : Kept → Type 0 = λ k. ShowsPages k (pages_of k a.files) (g.D.Device.disk c.add.new.dev).files in
    subst Same c.self.view_is (same_shows is.apart (c.add.ensures.crash t) (c.in_ok-add.ensures.sealed t))

pub returns-clause-crash : goal.returns-clause-crash
returns-clause-crash g c t =
    let a = g.D.Device.disk c.args.dev.now in
    let At : Kept → Type 0 = λ k. IsSide a k in
    let is = subst At (sym c.self.view_is) (c.requires.stands t) in
    let Crash : Kept → Type 0 = λ k. Effect (IsOwnOf k) (ShowsPages k (pages_of k a.files)) a (g.D.Device.disk c.add.new.dev) in
    subst Crash c.self.view_is (same_effect is.apart is.durable (c.add.ensures.crash t))
