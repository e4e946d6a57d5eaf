use Rattle.std.proofs.Common.{◌≡◌, ◌<◌, ◌+◌, ◌++◌, ◌∷◌, [], ℕ, List, Ok, Err, length, sym, subst, ap, ◌∙◌, arith}
use Rattle.bk_device.specs.Laws.{cause_then, nothing_then}
use Rattle.bk_volume.specs.Laws.{shown_count}
use Rattle.bk_volume.specs.Media.{sets_of}
use Rattle.bk_world.specs.declared.header.Header.{Header}
use Rattle.bk_archive.proofs.Listings.{ListsFirst, first-all, first-more, first-refused, found-same}
use Rattle.bk_archive.proofs.listing.list_on.Goals as goal

pub returns-in_err-set-clause-effect : goal.returns-in_err-set-clause-effect
returns-in_err-set-clause-effect g c tells = nothing_then (g.met.D.Device.lawful tells c.args.dev.now) (c.sets.invariant.effect tells) (c.open_at.ensures.effect tells)

pub returns-in_err-add_header-in-Ok-clause-effect : goal.returns-in_err-add_header-in-Ok-clause-effect
returns-in_err-add_header-in-Ok-clause-effect g c tells = nothing_then (g.met.D.Device.lawful tells c.args.dev.now) (c.sets.invariant.effect tells) (c.open_at.ensures.effect tells)

pub returns-in-Err-clause-effect : goal.returns-in-Err-clause-effect
returns-in-Err-clause-effect g c tells = nothing_then (g.met.D.Device.lawful tells c.args.dev.now) (c.sets.invariant.effect tells) (c.open_at.ensures.effect tells)

pub returns-in-Err-clause-sets : goal.returns-in-Err-clause-sets
returns-in-Err-clause-sets g c tells =
    let a = g.D.Device.disk c.args.dev.now in
    let name = c.args.medium.now.name in
    let inside : c.sets.index < length (sets_of (a.files name)) = omega (arith, c.sets-test.true, c.count-index-end.ensures, shown_count (c.requires.shows tells)) in
    first-refused (a.files name) c.sets.index c.sets.sets.items c.in-Err.rule (c.requires.shows tells).sets inside (c.sets.invariant.listed tells)
    (found-same (c.sets.index + 1) a (g.D.Device.disk c.sets.dev) name c.in_ok-set.field-0 (Err c.in-Err.rule) (c.sets.invariant.effect tells) c.in-Err.is (c.in_ok-set.ensures.answer tells))

pub sets-preserved : goal.sets-preserved
sets-preserved g c = record {
  listed = λ tells.
      let a = g.D.Device.disk c.args.dev.now in
      let name = c.args.medium.now.name in
      let inside : c.sets.index < length (sets_of (a.files name)) = omega (arith, c.sets-test.true, c.count-index-end.ensures, shown_count (c.requires.shows tells)) in
      let more : c.add_header.new.sets.items ≡ c.sets.sets.items ++ (c.sets.index + 1, c.in-Ok.set.header) ∷ [] = c.in_ok-add_header-in-Ok.ensures in
      subst (λ (sets : List (ℕ × Header)). ListsFirst (a.files name) (c.sets.index + 1) sets) (sym more)
      (first-more (a.files name) c.sets.index c.sets.sets.items c.in-Ok.set (c.requires.shows tells).sets inside (c.sets.invariant.listed tells)
      (found-same (c.sets.index + 1) a (g.D.Device.disk c.sets.dev) name c.in_ok-set.field-0 (Ok c.in-Ok.set) (c.sets.invariant.effect tells) c.in-Ok.is (c.in_ok-set.ensures.answer tells)));
  effect = λ tells. nothing_then (g.met.D.Device.lawful tells c.args.dev.now) (c.sets.invariant.effect tells) (c.open_at.ensures.effect tells);
  cause = cause_then c.sets.invariant.cause c.in_ok-set.ensures.cause (λ none. absurd none);
}

pub returns-clause-sets : goal.returns-clause-sets
returns-clause-sets g c tells whole =
    let a = g.D.Device.disk c.args.dev.now in
    let name = c.args.medium.now.name in
    let all : c.sets.index ≡ length (sets_of (a.files name)) = omega (arith, c.sets-test.false, c.sets.auto.index-end, c.count-index-end.ensures, shown_count (c.requires.shows tells)) in
    first-all (a.files name) c.sets.index c.sets.sets.items (c.requires.shows tells).sets all (c.sets.invariant.listed tells) whole ∙ ap (λ (sets : List (ℕ × Header)). Ok sets) (sym c.new.ensures)
