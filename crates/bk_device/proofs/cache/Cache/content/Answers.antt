-- The entry that was found holds what is sought; without one there is nothing.
use Rattle.std.proofs.Common.{◌≡◌, None, Some, Option, List, ℕ, sym, subst}
use Rattle.std.specs.Prelude.{MatchOption}
use Rattle.bk_device.specs.Held.{name_of, current_of, current_files}
use Rattle.bk_device.proofs.Lookups.{found, look_at, look-absent}
use Rattle.bk_device.proofs.cache.Cache.content.Goals as goal

pub returns-in-Some : goal.returns-in-Some
returns-in-Some c =
    let at = found name_of c.args.self.now.held.items c.args.name.now (Some c.in-Some.i) c.in-Some.ensures in
    let same : current_files c.args.self.now.held.items c.args.name.now ≡ current_of c.index.result.now = look_at name_of current_of c.args.self.now.held.items c.in-Some.i c.index.result.now c.args.name.now at.0 at.1 c.index.ensures in
    let Is : Option (List ℕ) → Type 0 = λ content. MatchOption c.content.result (content ≡ None) (λ given. content ≡ Some given.now) in
    subst Is (sym same) c.content.ensures

pub returns-in-None : goal.returns-in-None
returns-in-None c = look-absent name_of current_of c.args.self.now.held.items c.args.name.now (found name_of c.args.self.now.held.items c.args.name.now None c.in-None.ensures)
