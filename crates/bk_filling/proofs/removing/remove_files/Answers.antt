use Rattle.std.proofs.Common.{◌≡◌, Some, length, refl, ap, sym, ◌∙◌}
use Rattle.std.specs.Prelude.{slice_get}
use Rattle.std.proofs.lemmas.Option.{slice_get_read}
use Rattle.bk_device.specs.Laws.{cause_then}
use Rattle.bk_filling.proofs.Removed.{removing_effect, removing_more}
use Rattle.bk_filling.proofs.removing.remove_files.Goals as goal

pub returns-in_err-remove_durably-clause-crash : goal.returns-in_err-remove_durably-clause-crash
returns-in_err-remove_durably-clause-crash g c t =
    let here : slice_get c.args.names.now c.files.name-index ≡ Some c.as_str.result.now = slice_get_read c.args.names.now (length c.args.names.now) c.files.name-index c.name-item.result refl c.files-test.true c.name-item.is ∙ ap Some (sym c.as_str.ensures) in
    removing_effect c.as_str.result.now (g.D.Device.disk c.remove_durably.new.dev) (c.files.invariant.removed t) here (c.remove_durably.ensures.crash t)

pub files-preserved : goal.files-preserved
files-preserved g c = record {
  removed = λ t.
      let here : slice_get c.args.names.now c.files.name-index ≡ Some c.as_str.result.now = slice_get_read c.args.names.now (length c.args.names.now) c.files.name-index c.name-item.result refl c.files-test.true c.name-item.is ∙ ap Some (sym c.as_str.ensures) in
      removing_more c.as_str.result.now (g.D.Device.disk c.remove_durably.new.dev) (c.files.invariant.removed t) here (c.remove_durably.ensures.crash t) (c.in_ok-remove_durably.ensures.removed t) (c.in_ok-remove_durably.ensures.durable t);
  cause = cause_then c.files.invariant.cause c.in_ok-remove_durably.ensures.cause (λ none. absurd none);
}
