use Rattle.std.proofs.lemmas.Result.{on_ok_weaker}
use Rattle.std.proofs.Common.{◌≡◌, ℕ, List, length, sym, subst, ◌∙◌}
use Rattle.std.specs.Prelude.{OnOk}
use Rattle.bk_device.specs.Effects.{Effect}
use Rattle.bk_facts.specs.declared.facts.DataFile.{DataFile}
use Rattle.bk_facts.specs.Facts.{Notes}
use Rattle.bk_filling.specs.Filling.{MayFill}
use Rattle.bk_paged.specs.Holds.{Holds}
use Rattle.bk_paged.specs.Names.{AreDurable, IsOwn, names_of}
use Rattle.bk_segments.specs.Files.{AreDurable as LogsAreDurable, AreSettled}
use Rattle.bk_side.specs.Names.{side_file, IsOwn as IsOfSide}
use Rattle.bk_side.specs.Side.{AreDurable as PagesAreDurable}
use Rattle.bk_restoring.specs.contracts.arriving.Arriving.{the_view}
use Rattle.bk_restoring.specs.Arriving.{IsArriving, IsBegun, Kept, Suffices}
use Rattle.bk_restoring.proofs.Arrived.{all_durable, arrived_holds, log_effect, note_short, on_ok_under, pages_durable}
use Rattle.bk_restoring.proofs.arriving.Arriving.finish.Goals as goal

pub finish-requires-clause-short : goal.finish-requires-clause-short
finish-requires-clause-short g c =
    note_short c.args.checkpoint c.into_files.result c.args.note.now c.deref.result.now (subst MayFill (sym c.into_files.ensures.files) c.into_files.ensures.may) c.requires.short (c.deref.ensures.value ∙ c.in_ok-bytes.ensures.bytes)

pub returns-clause-settled : goal.returns-clause-settled
returns-clause-settled g c t =
    let W : Kept → Type 0 = λ k. OnOk c.finish.result (AreSettled k.log.db (g.D.Device.disk c.finish.new.dev)) in
    subst W c.self.view_is (c.finish.ensures.settled t)

pub returns-clause-pages : goal.returns-clause-pages
returns-clause-pages g c t =
    let a = g.D.Device.disk c.args.dev.now in
    let b = g.D.Device.disk c.finish.new.dev in
    let whole = subst (λ (k : Kept). k.filling.whole ≡ length k.filling.files) (sym c.self.view_is) c.requires.whole in
    let is = subst (IsBegun a) (sym c.self.view_is) (c.requires.stands t) in
    let W : Kept → Type 0 = λ k. PagesAreDurable (IsOfSide (side_file k.log.db) (names_of k.filling.files)) b in
    on_ok_weaker c.finish.result (λ settled. subst W c.self.view_is (pages_durable (the_view c.self.inside) a b whole is (c.finish.ensures.crash t))) (c.finish.ensures.settled t)

pub returns-clause-durable : goal.returns-clause-durable
returns-clause-durable g c t are =
    let a = g.D.Device.disk c.args.dev.now in
    let b = g.D.Device.disk c.finish.new.dev in
    let whole = subst (λ (k : Kept). k.filling.whole ≡ length k.filling.files) (sym c.self.view_is) c.requires.whole in
    let is = subst (IsBegun a) (sym c.self.view_is) (c.requires.stands t) in
    let W : Kept → Type 0 = λ k. AreDurable k.log.db k.filling.files b in
    on_ok_weaker c.finish.result (λ durable. subst W c.self.view_is (all_durable (the_view c.self.inside) a b whole is (c.finish.ensures.crash t) durable))
    (c.finish.ensures.durable t (subst (λ (k : Kept). LogsAreDurable k.log.db a) (sym c.self.view_is) are))

pub returns-clause-holds : goal.returns-clause-holds
returns-clause-holds g c t given records stood arrives suffices =
    let a = g.D.Device.disk c.args.dev.now in
    let b = g.D.Device.disk c.finish.new.dev in
    let whole = subst (λ (k : Kept). k.filling.whole ≡ length k.filling.files) (sym c.self.view_is) c.requires.whole in
    let is = subst (IsBegun a) (sym c.self.view_is) (c.requires.stands t) in
    let mine = subst (λ (k : Kept). IsArriving a.files k given records) (sym c.self.view_is) arrives in
    let enough = subst (λ (k : Kept). Suffices k c.args.checkpoint c.args.note.now given records stood) (sym c.self.view_is) suffices in
    let Noted : List ℕ → Type 0 = λ bytes. Notes bytes (record { checkpoint = c.args.checkpoint; files = c.into_files.result }) c.args.note.now in
    let Files : List DataFile → Type 0 = λ fs. Notes c.deref.result.now (record { checkpoint = c.args.checkpoint; files = fs }) c.args.note.now in
    let notes = subst Files c.into_files.ensures.files (subst Noted (sym c.deref.ensures.value) c.in_ok-bytes.ensures.notes) in
    let W : Kept → Type 0 = λ k. Holds k.log.db stood b.files in
    on_ok_weaker c.finish.result (λ log. subst W c.self.view_is
    (arrived_holds (the_view c.self.inside) c.args.checkpoint c.args.note.now c.deref.result.now given records stood a b c.into_files.ensures.may whole c.requires.short is mine enough notes (c.finish.ensures.crash t)
    log)) (on_ok_under _ _ c.finish.result (c.finish.ensures.log t records mine.log))

pub returns-clause-crash : goal.returns-clause-crash
returns-clause-crash g c t =
    let a = g.D.Device.disk c.args.dev.now in
    let b = g.D.Device.disk c.finish.new.dev in
    let W : Kept → Type 0 = λ k. Effect (IsOwn k.log.db k.filling.files) (λ _. Unit {0}) a b in
    subst W c.self.view_is (log_effect c.self.inside.log.db c.self.inside.filling.files a b (c.finish.ensures.crash t))
