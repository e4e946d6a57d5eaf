use Rattle.std.proofs.Common.{◌≡◌, ◌+◌, ℕ, get_or, length, refl, sym, ap, subst, ◌∙◌, arith}
use Rattle.std.proofs.lemmas.Option.{slice_get-get_or}
use Rattle.bk_device.specs.Laws.{cause_then}
use Rattle.bk_facts.specs.declared.facts.Facts.{Facts}
use Rattle.bk_ids.specs.declared.record.ExtentId.{ExtentId}
use Rattle.bk_volume.specs.Staging.{Staging}
use Rattle.bk_copying.specs.Copying.{IsNamed}
use Rattle.bk_copying.specs.Extents.{HasExtent}
use Rattle.bk_copying.proofs.Taken.{copying-all, copying-begins, copying-crash, copying-more, copying-name, copying-touches}
use Rattle.bk_copying.proofs.copying.copy_extents.Goals as goal

pub loop-i-init : goal.loop-i-init
loop-i-init g c = record {
  copying = copying-begins g.D.Device.tells c.args.extents.now (g.D.Device.disk c.args.dev.now) c.args.store.now c.args.staged.now c.requires.fit c.requires.standing c.requires.staged;
  cause = record { rose = λ none. absurd none; never_falls = omega arith; tell_faults = refl };
}

pub copy_extent-requires-clause-there : goal.copy_extent-requires-clause-there
copy_extent-requires-clause-there g c =
    let none : ExtentId = record { file = 0; extent = 0 } in
    subst (λ (f : Facts). HasExtent f.files (get_or c.args.extents.now c.loop-i.i none)) (sym c.loop-i.invariant.copying.same.facts) (c.requires.there c.loop-i.i none c.loop-i-test.true)

pub copy_extent-requires-clause-sound : goal.copy_extent-requires-clause-sound
copy_extent-requires-clause-sound g c = ap (λ (s : Staging). s.failed) c.loop-i.invariant.copying.counted ∙ c.requires.sound

pub copy_extent-requires-clause-named : goal.copy_extent-requires-clause-named
copy_extent-requires-clause-named g c = subst IsNamed (sym c.loop-i.invariant.copying.counted) c.requires.named

pub copy_extent-requires-clause-first : goal.copy_extent-requires-clause-first
copy_extent-requires-clause-first g c = ap (λ (s : Staging). s.log) c.loop-i.invariant.copying.counted ∙ c.requires.first

pub copy_extent-requires-clause-few : goal.copy_extent-requires-clause-few
copy_extent-requires-clause-few g c = omega (arith, ap (λ (s : Staging). s.extents) c.loop-i.invariant.copying.counted, c.requires.few, c.loop-i-test.true)

pub returns-in_err-copy_extent-clause-name : goal.returns-in_err-copy_extent-clause-name
returns-in_err-copy_extent-clause-name g c = c.copy_extent.ensures.name ∙ copying-name c.loop-i.invariant.copying

pub returns-in_err-copy_extent-clause-crash : goal.returns-in_err-copy_extent-clause-crash
returns-in_err-copy_extent-clause-crash g c = copying-crash (g.D.Device.disk c.copy_extent.new.dev) c.loop-i.invariant.copying c.copy_extent.ensures.crash

pub returns-in_err-copy_extent-clause-touches : goal.returns-in_err-copy_extent-clause-touches
returns-in_err-copy_extent-clause-touches g c = copying-touches (g.D.Device.disk c.copy_extent.new.dev) c.loop-i.invariant.copying c.copy_extent.ensures.touches

pub loop-i-preserved : goal.loop-i-preserved
loop-i-preserved g c =
    let ids = c.args.extents.now in
    let none : ExtentId = record { file = 0; extent = 0 } in
    record {
      copying = copying-more (g.D.Device.disk c.copy_extent.new.dev) c.copy_extent.new.store c.copy_extent.new.staged (get_or ids c.loop-i.i none) c.copy_extent.new.copy.items c.loop-i.invariant.copying (slice_get-get_or ids c.loop-i.i none c.loop-i-test.true)
          c.in_ok-copy_extent.ensures.same c.in_ok-copy_extent.ensures.counted c.in_ok-copy_extent.ensures.stands c.in_ok-copy_extent.ensures.standing c.in_ok-copy_extent.ensures.later c.in_ok-copy_extent.ensures.staged
          c.in_ok-copy_extent.ensures.copied c.in_ok-copy_extent.ensures.added c.copy_extent.ensures.crash c.copy_extent.ensures.touches;
      cause = cause_then c.loop-i.invariant.cause c.in_ok-copy_extent.ensures.cause (λ none. absurd none);
    }

pub returns-clause-counted : goal.returns-clause-counted
returns-clause-counted g c =
    let n : c.loop-i.i ≡ length c.args.extents.now = omega (arith, c.loop-i-test.false, c.loop-i.auto.i-end) in
    c.loop-i.invariant.copying.counted ∙ ap (λ (k : ℕ). record c.args.staged.now { extents = c.args.staged.now.extents + k }) n

pub returns-clause-name : goal.returns-clause-name
returns-clause-name g c = copying-name c.loop-i.invariant.copying

pub returns-clause-added : goal.returns-clause-added
returns-clause-added g c = copying-all c.loop-i.invariant.copying (omega (arith, c.loop-i-test.false, c.loop-i.auto.i-end))
