use Rattle.std.proofs.Common.{ℕ, List, map, ap, sym, subst, ◌∙◌}
use Rattle.bk_device.specs.Compose.{effect_then}
use Rattle.bk_device.specs.Effects.{Effect}
use Rattle.bk_facts.specs.declared.facts.DataFile.{DataFile}
use Rattle.bk_filling.specs.Filling.{Kept as KeptData}
use Rattle.bk_filling.specs.Removing.{AreGone}
use Rattle.bk_paged.specs.Names.{names_of}
use Rattle.bk_segments.specs.Files.{IsOwn as IsOfLog}
use Rattle.bk_side.specs.Names.{data_file, side_file, IsOwn as IsOfSide}
use Rattle.bk_restoring.specs.Arriving.{IsBegun}
use Rattle.bk_restoring.proofs.Arrived.{arrives_first, log_effect, parts_effect}
use Rattle.bk_restoring.proofs.arriving.Arriving.begin.Goals as goal

pub returns-in_err-remove_parts-clause-crash : goal.returns-in_err-remove_parts-clause-crash
returns-in_err-remove_parts-clause-crash g c t =
    let same = c.deref-2.ensures.value ∙ c.in_ok-paths.ensures ∙ ap (map (λ (f : DataFile). f.path)) c.deref.ensures.value in
    parts_effect c.args.db c.args.files.items c.deref-2.result.now (g.D.Device.disk c.args.dev.now) (g.D.Device.disk c.remove_parts.new.dev) same (c.remove_parts.ensures.crash t)

pub returns-in_err-log-clause-crash : goal.returns-in_err-log-clause-crash
returns-in_err-log-clause-crash g c t =
    let same = c.deref-2.ensures.value ∙ c.in_ok-paths.ensures ∙ ap (map (λ (f : DataFile). f.path)) c.deref.ensures.value in
    effect_then (parts_effect c.args.db c.args.files.items c.deref-2.result.now (g.D.Device.disk c.args.dev.now) (g.D.Device.disk c.remove_parts.new.dev) same (c.remove_parts.ensures.crash t))
    (log_effect c.args.db c.args.files.items (g.D.Device.disk c.remove_parts.new.dev) (g.D.Device.disk c.begin-2.new.dev) (c.begin-2.ensures.crash t))

pub returns-clause-stands : goal.returns-clause-stands
returns-clause-stands g c t =
    let b = g.D.Device.disk c.remove_parts.new.dev in
    let d = g.D.Device.disk c.begin-2.new.dev in
    let log = c.in_ok-log.log in
    let files = c.args.files.items in
    let same = c.deref-2.ensures.value ∙ c.in_ok-paths.ensures ∙ ap (map (λ (f : DataFile). f.path)) c.deref.ensures.value in
    let Of : List (List ℕ) → Type 0 = λ ps. AreGone (IsOfSide (side_file c.args.db) (map data_file ps)) b in
    let Gone : ℕ → Type 0 = λ n. AreGone (IsOfSide (side_file n) (names_of files)) b in
    let Left : ℕ → Type 0 = λ n. Effect (IsOfLog n) (λ _. Unit {0}) b d in
    let Begun : KeptData → Type 0 = λ f. IsBegun d (record { filling = f; log = log }) in
    let db = sym c.in_ok-log.ensures.numbers.0 in
    subst Begun (sym c.in_ok-filling.ensures) (arrives_first files log b d (subst Gone db (subst Of same (c.in_ok-remove_parts.ensures.pages t))) (c.in_ok-log.ensures.stands t) (subst Left db (c.begin-2.ensures.crash t)))

pub returns-clause-crash : goal.returns-clause-crash
returns-clause-crash g c t =
    let same = c.deref-2.ensures.value ∙ c.in_ok-paths.ensures ∙ ap (map (λ (f : DataFile). f.path)) c.deref.ensures.value in
    effect_then (parts_effect c.args.db c.args.files.items c.deref-2.result.now (g.D.Device.disk c.args.dev.now) (g.D.Device.disk c.remove_parts.new.dev) same (c.remove_parts.ensures.crash t))
    (log_effect c.args.db c.args.files.items (g.D.Device.disk c.remove_parts.new.dev) (g.D.Device.disk c.begin-2.new.dev) (c.begin-2.ensures.crash t))

pub returns-clause-durable : goal.returns-clause-durable
returns-clause-durable g c t are = c.in_ok-log.ensures.durable t (c.in_ok-remove_parts.ensures.durable t are)
