use Rattle.std.proofs.Common.{◌≡◌, ◌⊎◌, ◌∙◌, List, ℕ, ap, map, subst}
use Rattle.bk_device.specs.Effects.{Effect, MayLeaveOwn}
use Rattle.bk_side.specs.Names.{data_file, side_file, IsOwn}
use Rattle.bk_side.specs.Pages.{Shows, shown}
use Rattle.bk_paged.specs.Names.{names_of, paths_of}
use Rattle.bk_opening.proofs.opening.load_side.Goals as goal

pub returns-in_err-side-clause-crash : goal.returns-in_err-side-clause-crash
returns-in_err-side-clause-crash g c t =
    let a = g.D.Device.disk c.args.dev.now in
    let d = g.D.Device.disk c.load.new.dev in
    let names : map data_file c.deref-3.result.now ≡ names_of c.args.facts.now.files = ap (map data_file) (c.deref-3.ensures.value ∙ c.in_ok-paths.ensures ∙ ap paths_of c.as_slice.ensures) in
    let At : List (List ℕ) → Type 0 = λ ns. Effect (IsOwn (side_file c.args.db) ns) (λ image. MayLeaveOwn (IsOwn (side_file c.args.db) ns) a image ⊎ Shows (side_file c.args.db) ns (shown (side_file c.args.db) ns a.files) image) a d in
    subst At names (c.load.ensures.crash t)

pub returns-clause-crash : goal.returns-clause-crash
returns-clause-crash g c t =
    let a = g.D.Device.disk c.args.dev.now in
    let d = g.D.Device.disk c.load.new.dev in
    let names : map data_file c.deref-3.result.now ≡ names_of c.args.facts.now.files = ap (map data_file) (c.deref-3.ensures.value ∙ c.in_ok-paths.ensures ∙ ap paths_of c.as_slice.ensures) in
    let At : List (List ℕ) → Type 0 = λ ns. Effect (IsOwn (side_file c.args.db) ns) (λ image. MayLeaveOwn (IsOwn (side_file c.args.db) ns) a image ⊎ Shows (side_file c.args.db) ns (shown (side_file c.args.db) ns a.files) image) a d in
    subst At names (c.load.ensures.crash t)
