use Rattle.std.proofs.Common.{◌≡◌, ◌<◌, ◌∙◌, List, ℕ, Some, length, slice_get, refl, sym, ap, arith}
use Rattle.std.proofs.lemmas.Option.{slice_get_read}
use Rattle.std.proofs.lemmas.Slice.Eq.{bytes_eq-Decides}
use Rattle.bk_device.specs.Names.{unequal}
use Rattle.bk_side.proofs.Names.{none_more}
use Rattle.bk_side.proofs.name.has_before.Goals as goal

pub loop-j-preserved : goal.loop-j-preserved
loop-j-preserved c =
    let names = c.args.names.now in
    let below : c.loop-j.j < length names = omega (arith, c.loop-j-test.true, c.requires) in
    let at_j : slice_get names c.loop-j.j ≡ Some c.as_str.result.now = slice_get_read names (length names) c.loop-j.j c.index-names-j.result refl below c.index-names-j.is ∙ ap (λ (n : List ℕ). Some n) (sym c.as_str.ensures) in
    let at_i : slice_get names c.args.i ≡ Some c.as_str-in-loop-j.result.now = slice_get_read names (length names) c.args.i c.index-names-i.result refl c.requires c.index-names-i.is ∙ ap (λ (n : List ℕ). Some n) (sym c.as_str-in-loop-j.ensures) in
    none_more names c.args.i c.loop-j.j c.as_str.result.now c.as_str-in-loop-j.result.now at_j at_i (unequal c.as_str.result.now c.as_str-in-loop-j.result.now (sym c.eq.ensures ∙ c.if-eq.false)) c.loop-j.invariant

pub returns-then-eq : goal.returns-then-eq
returns-then-eq c =
    let names = c.args.names.now in
    let below : c.loop-j.j < length names = omega (arith, c.loop-j-test.true, c.requires) in
    let at_j : slice_get names c.loop-j.j ≡ Some c.as_str.result.now = slice_get_read names (length names) c.loop-j.j c.index-names-j.result refl below c.index-names-j.is ∙ ap (λ (n : List ℕ). Some n) (sym c.as_str.ensures) in
    let at_i : slice_get names c.args.i ≡ Some c.as_str-in-loop-j.result.now = slice_get_read names (length names) c.args.i c.index-names-i.result refl c.requires c.index-names-i.is ∙ ap (λ (n : List ℕ). Some n) (sym c.as_str-in-loop-j.ensures) in
    let same : c.as_str.result.now ≡ c.as_str-in-loop-j.result.now = (bytes_eq-Decides c.as_str.result.now c.as_str-in-loop-j.result.now).0 (sym c.eq.ensures ∙ c.if-eq.true) in
    (c.loop-j.j, c.as_str.result.now, c.loop-j-test.true, at_j, at_i ∙ ap (λ (n : List ℕ). Some n) (sym same))
