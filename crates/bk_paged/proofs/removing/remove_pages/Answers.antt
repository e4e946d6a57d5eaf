use Rattle.std.proofs.Common.{ℕ, List, map, ap, ◌∙◌, subst}
use Rattle.bk_device.specs.Effects.{Effect}
use Rattle.bk_side.specs.Names.{data_file, side_file, IsOwn as IsOfSide}
use Rattle.bk_paged.specs.Making.{AreGone}
use Rattle.bk_paged.specs.Names.{names_of}
use Rattle.bk_paged.proofs.Adding.{named}
use Rattle.bk_paged.proofs.Removed.{files_effect, pages_effect, pages_gone}
use Rattle.bk_paged.proofs.removing.remove_pages.Goals as goal

pub returns-in_err-remove_files-clause-crash : goal.returns-in_err-remove_files-clause-crash
returns-in_err-remove_files-clause-crash g c t =
    let a = g.D.Device.disk c.args.dev.now in
    let b = g.D.Device.disk c.remove_files.new.dev in
    let names = c.deref-2.ensures.value ∙ c.in_ok-names.ensures ∙ ap (map data_file) (c.deref.ensures.value ∙ c.in_ok-paths.ensures) in
    let Of : List (List ℕ) → Type 0 = λ ns. Effect (IsOfSide (side_file c.args.db) ns) (λ _. Unit {0}) a b in
    subst Of names (files_effect (side_file c.args.db) c.deref-2.result.now a b (c.remove_files.ensures.crash t))

pub returns-in_err-remove_durably-clause-crash : goal.returns-in_err-remove_durably-clause-crash
returns-in_err-remove_durably-clause-crash g c t =
    let a = g.D.Device.disk c.args.dev.now in
    let b = g.D.Device.disk c.remove_files.new.dev in
    let names = c.deref-2.ensures.value ∙ c.in_ok-names.ensures ∙ ap (map data_file) (c.deref.ensures.value ∙ c.in_ok-paths.ensures) in
    let d = g.D.Device.disk c.remove_durably.new.dev in
    let side = c.deref-3.ensures ∙ c.in_ok-side.ensures in
    let Of : List ℕ → List (List ℕ) → Type 0 = λ s ns. Effect (IsOfSide s ns) (λ _. Unit {0}) a d in
    named Of c.deref-3.result.now (side_file c.args.db) c.deref-2.result.now (names_of c.args.files.now) side names (pages_effect c.deref-3.result.now c.deref-2.result.now a b d (c.remove_files.ensures.crash t) (c.remove_durably.ensures.crash t))

pub returns-clause-crash : goal.returns-clause-crash
returns-clause-crash g c t =
    let a = g.D.Device.disk c.args.dev.now in
    let b = g.D.Device.disk c.remove_files.new.dev in
    let names = c.deref-2.ensures.value ∙ c.in_ok-names.ensures ∙ ap (map data_file) (c.deref.ensures.value ∙ c.in_ok-paths.ensures) in
    let d = g.D.Device.disk c.remove_durably.new.dev in
    let side = c.deref-3.ensures ∙ c.in_ok-side.ensures in
    let Of : List ℕ → List (List ℕ) → Type 0 = λ s ns. Effect (IsOfSide s ns) (λ _. Unit {0}) a d in
    named Of c.deref-3.result.now (side_file c.args.db) c.deref-2.result.now (names_of c.args.files.now) side names (pages_effect c.deref-3.result.now c.deref-2.result.now a b d (c.remove_files.ensures.crash t) (c.remove_durably.ensures.crash t))

pub returns-clause-gone : goal.returns-clause-gone
returns-clause-gone g c t =
    let b = g.D.Device.disk c.remove_files.new.dev in
    let names = c.deref-2.ensures.value ∙ c.in_ok-names.ensures ∙ ap (map data_file) (c.deref.ensures.value ∙ c.in_ok-paths.ensures) in
    let d = g.D.Device.disk c.remove_durably.new.dev in
    let side = c.deref-3.ensures ∙ c.in_ok-side.ensures in
    let Of : List ℕ → List (List ℕ) → Type 0 = λ s ns. AreGone (IsOfSide s ns) d in
    named Of c.deref-3.result.now (side_file c.args.db) c.deref-2.result.now (names_of c.args.files.now) side names
    (pages_gone c.deref-3.result.now c.deref-2.result.now b d (c.in_ok-remove_files.ensures.gone t) (c.remove_durably.ensures.crash t) (c.in_ok-remove_durably.ensures.removed t) (c.in_ok-remove_durably.ensures.durable t))
