use Rattle.std.proofs.lemmas.Result.{on_ok_weaker}
use Rattle.std.proofs.Common.{◌≡◌, ◌∙◌, ◌≤◌, ◌+◌, sym, subst, List, ℕ, length}
use Rattle.bk_device.specs.Calls.{contents, read_at}
use Rattle.bk_device.specs.Effects.{Effect}
use Rattle.bk_gate.specs.Laws.{gate_inside}
use Rattle.bk_side.specs.Names.{IsOwn, AreApart}
use Rattle.bk_side.specs.Pages.{batch_of, entries_of, shown, Shows}
use Rattle.bk_side.specs.Side.{AreDurable}
use Rattle.bk_side.proofs.Finished.{none_sealed, none_there, rest_effect, rest_shows, batch_there, finish_crash, sync_crash, copied_at, copied_gate, clear_shows, datas_durable}
use Rattle.bk_side.proofs.finishing.finish.Goals as goal

pub returns-then-count-eq0-clause-empty : goal.returns-then-count-eq0-clause-empty
returns-then-count-eq0-clause-empty g c t = none_sealed (g.D.Device.disk c.args.dev.now) c.args.gate.now (c.requires.stands t) (sym c.count.ensures ∙ c.if-count-eq0.true)

pub returns-then-count-eq0-clause-same : goal.returns-then-count-eq0-clause-same
returns-then-count-eq0-clause-same g c t = rest_shows c.args.gate.now.name c.args.names.now (g.D.Device.disk c.args.dev.now)

pub returns-then-count-eq0-clause-crash : goal.returns-then-count-eq0-clause-crash
returns-then-count-eq0-clause-crash g c t = rest_effect c.args.gate.now.name c.args.names.now (g.D.Device.disk c.args.dev.now) (c.requires.durable t)

pub copy_entries-requires-clause-inside : goal.copy_entries-requires-clause-inside
copy_entries-requires-clause-inside g c t =
    let a = g.D.Device.disk c.args.dev.now in
    let Inside : List ℕ → Type 0 = λ n. c.span-at.result.0 + c.span-at.result.1 ≤ length (contents (a.files n)) in
    subst Inside (sym c.name.ensures) (gate_inside 0 c.span-at.result (c.requires.stands t) c.span-at.ensures.span)

pub copy_entries-requires-clause-batch : goal.copy_entries-requires-clause-batch
copy_entries-requires-clause-batch g c t =
    let a = g.D.Device.disk c.args.dev.now in
    let Batch : List ℕ → Type 0 = λ n. batch_of (a.files n) ≡ entries_of (read_at (contents (a.files n)) c.span-at.result.0 c.span-at.result.1) in
    subst Batch (sym c.name.ensures) (batch_there a c.args.gate.now c.span-at.result (c.requires.stands t) c.span-at.ensures.span)

pub copy_entries-requires-clause-apart : goal.copy_entries-requires-clause-apart
copy_entries-requires-clause-apart g c t =
    let Apart : List ℕ → Type 0 = λ n. AreApart n c.args.names.now in
    subst Apart (sym c.name.ensures) (c.requires.apart t)

pub copy_entries-requires-clause-durable : goal.copy_entries-requires-clause-durable
copy_entries-requires-clause-durable g c t =
    let a = g.D.Device.disk c.args.dev.now in
    let Durable : List ℕ → Type 0 = λ n. AreDurable (IsOwn n c.args.names.now) a in
    subst Durable (sym c.name.ensures) (c.requires.durable t)

pub returns-in_err-copy_entries-clause-crash : goal.returns-in_err-copy_entries-clause-crash
returns-in_err-copy_entries-clause-crash g c t =
    let a = g.D.Device.disk c.args.dev.now in
    let Crash : List ℕ → Type 0 = λ n. Effect (IsOwn n c.args.names.now) (Shows n c.args.names.now (shown n c.args.names.now a.files)) a (g.D.Device.disk c.copy_entries.new.dev) in
    subst Crash c.name.ensures (c.copy_entries.ensures.crash t)

pub returns-in_err-sync_files-clause-crash : goal.returns-in_err-sync_files-clause-crash
returns-in_err-sync_files-clause-crash g c t =
    sync_crash c.name.result.now c.args.gate.now.name (g.D.Device.disk c.args.dev.now) (g.D.Device.disk c.copy_entries.new.dev) (g.D.Device.disk c.sync_files.new.dev) c.name.ensures (c.requires.apart t) (c.copy_entries.ensures.crash t) (c.sync_files.ensures.crash t)

pub clear-requires-clause-stands : goal.clear-requires-clause-stands
clear-requires-clause-stands g c t =
    copied_gate c.name.result.now (g.D.Device.disk c.args.dev.now) (g.D.Device.disk c.copy_entries.new.dev) (g.D.Device.disk c.sync_files.new.dev) c.args.gate.now c.name.ensures (c.requires.apart t) (g.met.D.Device.lawful t c.args.dev.now) (c.requires.stands t)
    (c.in_ok-copy_entries.ensures.same t) (c.in_ok-copy_entries.ensures.durable t) (c.in_ok-sync_files.ensures.same t) (c.sync_files.ensures.crash t)

pub returns-clause-durable : goal.returns-clause-durable
returns-clause-durable g c t = on_ok_weaker c.clear.result (λ none. datas_durable (c.requires.apart t) (c.clear.ensures.crash t) (c.in_ok-sync_files.ensures.durable t)) (c.clear.ensures.sealed t)

pub returns-clause-same : goal.returns-clause-same
returns-clause-same g c t =
    let a = g.D.Device.disk c.args.dev.now in
    let b = g.D.Device.disk c.copy_entries.new.dev in
    let s = g.D.Device.disk c.sync_files.new.dev in
    on_ok_weaker c.clear.result (clear_shows (c.requires.apart t)
    (copied_at c.name.result.now c.args.gate.now.name a b s c.name.ensures (c.in_ok-copy_entries.ensures.same t) (c.in_ok-copy_entries.ensures.pages t) (c.in_ok-sync_files.ensures.same t) (c.in_ok-sync_files.ensures.durable t)) (c.clear.ensures.crash t)) (c.clear.ensures.sealed t)

pub returns-clause-crash : goal.returns-clause-crash
returns-clause-crash g c t =
    let a = g.D.Device.disk c.args.dev.now in
    let b = g.D.Device.disk c.copy_entries.new.dev in
    let s = g.D.Device.disk c.sync_files.new.dev in
    finish_crash c.name.result.now c.args.gate.now.name a b s (g.D.Device.disk c.clear.new.dev) c.name.ensures (c.requires.apart t) (c.copy_entries.ensures.crash t) (c.sync_files.ensures.crash t)
    (copied_at c.name.result.now c.args.gate.now.name a b s c.name.ensures (c.in_ok-copy_entries.ensures.same t) (c.in_ok-copy_entries.ensures.pages t) (c.in_ok-sync_files.ensures.same t) (c.in_ok-sync_files.ensures.durable t)) (c.clear.ensures.crash t)

-- there is a batch
pub returns-clause-still : goal.returns-clause-still
returns-clause-still g c t none = absurd (c.if-count-eq0.false (c.count.ensures ∙ none_there (g.D.Device.disk c.args.dev.now) c.args.gate.now (c.requires.stands t) none))
