use Rattle.std.proofs.Common.{ℕ, List, map, ◌∙◌, subst}
use Rattle.bk_device.specs.Effects.{Effect}
use Rattle.bk_side.specs.Names.{data_file, side_file, IsOwn as IsOfSide}
use Rattle.bk_filling.specs.Removing.{AreGone}
use Rattle.bk_filling.proofs.Removed.{files_effect, named, pages_effect, pages_gone}
use Rattle.bk_filling.proofs.removing.remove_pages.Goals as goal

pub returns-in_err-remove_files-clause-crash : goal.returns-in_err-remove_files-clause-crash
returns-in_err-remove_files-clause-crash g c t =
    let a = g.D.Device.disk c.args.dev.now in
    let b = g.D.Device.disk c.remove_files.new.dev in
    let Of : List (List ℕ) → Type 0 = λ ns. Effect (IsOfSide (side_file c.args.db) ns) (λ _. Unit {0}) a b in
    subst Of (c.deref.ensures.value ∙ c.in_ok-names.ensures) (files_effect (side_file c.args.db) c.deref.result.now a b (c.remove_files.ensures.crash t))

pub returns-in_err-remove_durably-clause-crash : goal.returns-in_err-remove_durably-clause-crash
returns-in_err-remove_durably-clause-crash g c t =
    let a = g.D.Device.disk c.args.dev.now in
    let b = g.D.Device.disk c.remove_files.new.dev in
    let d = g.D.Device.disk c.remove_durably.new.dev in
    let Of : List ℕ → List (List ℕ) → Type 0 = λ s ns. Effect (IsOfSide s ns) (λ _. Unit {0}) a d in
    named Of c.deref-2.result.now (side_file c.args.db) c.deref.result.now (map data_file c.args.paths.now) (c.deref-2.ensures ∙ c.in_ok-side.ensures) (c.deref.ensures.value ∙ c.in_ok-names.ensures)
    (pages_effect c.deref-2.result.now c.deref.result.now a b d (c.remove_files.ensures.crash t) (c.remove_durably.ensures.crash t))

pub returns-clause-crash : goal.returns-clause-crash
returns-clause-crash g c t =
    let a = g.D.Device.disk c.args.dev.now in
    let b = g.D.Device.disk c.remove_files.new.dev in
    let d = g.D.Device.disk c.remove_durably.new.dev in
    let Of : List ℕ → List (List ℕ) → Type 0 = λ s ns. Effect (IsOfSide s ns) (λ _. Unit {0}) a d in
    named Of c.deref-2.result.now (side_file c.args.db) c.deref.result.now (map data_file c.args.paths.now) (c.deref-2.ensures ∙ c.in_ok-side.ensures) (c.deref.ensures.value ∙ c.in_ok-names.ensures)
    (pages_effect c.deref-2.result.now c.deref.result.now a b d (c.remove_files.ensures.crash t) (c.remove_durably.ensures.crash t))

pub returns-clause-gone : goal.returns-clause-gone
returns-clause-gone g c t =
    let b = g.D.Device.disk c.remove_files.new.dev in
    let d = g.D.Device.disk c.remove_durably.new.dev in
    let Of : List ℕ → List (List ℕ) → Type 0 = λ s ns. AreGone (IsOfSide s ns) d in
    named Of c.deref-2.result.now (side_file c.args.db) c.deref.result.now (map data_file c.args.paths.now) (c.deref-2.ensures ∙ c.in_ok-side.ensures) (c.deref.ensures.value ∙ c.in_ok-names.ensures)
    (pages_gone c.deref-2.result.now c.deref.result.now b d (c.in_ok-remove_files.ensures.gone t) (c.remove_durably.ensures.crash t) (c.in_ok-remove_durably.ensures.removed t) (c.in_ok-remove_durably.ensures.durable t))
