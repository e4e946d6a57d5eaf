use Rattle.std.proofs.Common.{◌≡◌, ℕ, ◌*◌, List, length, ap, subst, ◌∙◌, arith}
use Rattle.std.specs.Prelude.{OnOk}
use Rattle.bk_device.specs.Calls.{contents}
use Rattle.bk_device.specs.Disk.{Files}
use Rattle.bk_device.specs.Effects.{Effect, IsName}
use Rattle.bk_volume.specs.Staging.{Staging}
use Rattle.bk_volume.specs.Writing.{parts_of, with_digest, HasSealed, LeavesGrown}
use Rattle.bk_volume.proofs.sealing.seal_staged.Goals as goal

-- the parts of a set, by what it told of them
parts_are : (files : Files) (set : Staging) (front size name : List ℕ) (n m : ℕ) → name ≡ set.name → n ≡ set.extents → m ≡ set.log
    → parts_of front (contents (files name)) (65542 * n) size m ≡ parts_of front (contents (files set.name)) (65542 * set.extents) size set.log
parts_are files set front size name n m is_name is_n is_m =
    ap (λ (x : List ℕ). parts_of front (contents (files x)) (65542 * n) size m) is_name
    ∙ ap (λ (k : ℕ). parts_of front (contents (files set.name)) (65542 * k) size m) is_n
    ∙ ap (λ (k : ℕ). parts_of front (contents (files set.name)) (65542 * set.extents) size k) is_m

pub seal_parts-requires-clause-inside : goal.seal_parts-requires-clause-inside
seal_parts-requires-clause-inside g c t =
    let same : length (contents ((g.D.Device.disk c.args.dev.now).files c.name-file.result.now)) ≡ length (contents ((g.D.Device.disk c.args.dev.now).files c.args.set.now.name)) =
    ap (λ (n : List ℕ). length (contents ((g.D.Device.disk c.args.dev.now).files n))) c.name-file.ensures in
    omega (arith, c.requires.staged t, c.from-extents.ensures, c.extents.ensures, c.log_len-log.ensures.value, same)

pub returns-clause-sealed : goal.returns-clause-sealed
returns-clause-sealed g c t =
    let same = parts_are (g.D.Device.disk c.args.dev.now).files c.args.set.now c.args.front.now c.args.size.now c.name-file.result.now c.from-extents.result c.log_len-log.result c.name-file.ensures (c.from-extents.ensures ∙ c.extents.ensures) c.log_len-log.ensures.value in
    let Of : List ℕ → Type 0 = λ bytes. OnOk c.seal_parts.result (HasSealed c.args.gate.now.name (with_digest bytes) (g.D.Device.disk c.args.dev.now) ((g.D.Device.disk c.seal_parts.new.dev).files c.args.gate.now.name)) in
    subst Of same (c.seal_parts.ensures.sealed t)

pub returns-clause-crash : goal.returns-clause-crash
returns-clause-crash g c t =
    let same = parts_are (g.D.Device.disk c.args.dev.now).files c.args.set.now c.args.front.now c.args.size.now c.name-file.result.now c.from-extents.result c.log_len-log.result c.name-file.ensures (c.from-extents.ensures ∙ c.extents.ensures) c.log_len-log.ensures.value in
    let Of : List ℕ → Type 0 = λ bytes. Effect (IsName c.args.gate.now.name) (LeavesGrown c.args.gate.now.name (with_digest bytes) (g.D.Device.disk c.args.dev.now)) (g.D.Device.disk c.args.dev.now) (g.D.Device.disk c.seal_parts.new.dev) in
    subst Of same (c.seal_parts.ensures.crash t)
