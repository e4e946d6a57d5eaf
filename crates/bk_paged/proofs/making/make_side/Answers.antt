use Rattle.std.proofs.Common.{ℕ, List, map, ap, ◌∙◌, subst}
use Rattle.bk_device.specs.Compose.{effect_then, effect_weaken}
use Rattle.bk_device.specs.Effects.{Effect}
use Rattle.bk_side.specs.Names.{IsOwn, data_file, side_file}
use Rattle.bk_paged.specs.Names.{names_of}
use Rattle.bk_paged.proofs.Adding.{named}
use Rattle.bk_paged.proofs.making.make_side.Goals as goal

pub returns-in_err-side-clause-crash : goal.returns-in_err-side-clause-crash
returns-in_err-side-clause-crash g c t =
    let a = g.D.Device.disk c.args.dev.now in
    let b = g.D.Device.disk c.load.new.dev in
    let Of : List (List ℕ) → Type 0 = λ ns. Effect (IsOwn (side_file c.args.db) ns) (λ _. Unit {0}) a b in
    subst Of (ap (map data_file) (c.deref.ensures.value ∙ c.in_ok-paths.ensures)) (effect_weaken (λ image here. tt) (c.load.ensures.crash t))

pub returns-in_err-make_files-clause-crash : goal.returns-in_err-make_files-clause-crash
returns-in_err-make_files-clause-crash g c t =
    let a = g.D.Device.disk c.args.dev.now in
    let b = g.D.Device.disk c.load.new.dev in
    let d = g.D.Device.disk c.make_files.new.dev in
    let same = c.deref.ensures.value ∙ c.in_ok-paths.ensures in
    let Of : List (List ℕ) → Type 0 = λ ns. Effect (IsOwn (side_file c.args.db) ns) (λ _. Unit {0}) a b in
    let Then : List ℕ → List (List ℕ) → Type 0 = λ s ns. Effect (IsOwn s ns) (λ _. Unit {0}) b d in
    effect_then (subst Of (ap (map data_file) same) (effect_weaken (λ image here. tt) (c.load.ensures.crash t)))
    (named Then c.in_ok-side.side.gate.name (side_file c.args.db) c.in_ok-side.side.names (names_of c.args.files.now) c.in_ok-side.ensures.name (c.in_ok-side.ensures.names ∙ ap (map data_file) same) (c.make_files.ensures.crash t))

pub returns-clause-crash : goal.returns-clause-crash
returns-clause-crash g c t =
    let a = g.D.Device.disk c.args.dev.now in
    let b = g.D.Device.disk c.load.new.dev in
    let d = g.D.Device.disk c.make_files.new.dev in
    let same = c.deref.ensures.value ∙ c.in_ok-paths.ensures in
    let Of : List (List ℕ) → Type 0 = λ ns. Effect (IsOwn (side_file c.args.db) ns) (λ _. Unit {0}) a b in
    let Then : List ℕ → List (List ℕ) → Type 0 = λ s ns. Effect (IsOwn s ns) (λ _. Unit {0}) b d in
    effect_then (subst Of (ap (map data_file) same) (effect_weaken (λ image here. tt) (c.load.ensures.crash t)))
    (named Then c.in_ok-side.side.gate.name (side_file c.args.db) c.in_ok-side.side.names (names_of c.args.files.now) c.in_ok-side.ensures.name (c.in_ok-side.ensures.names ∙ ap (map data_file) same) (c.make_files.ensures.crash t))
