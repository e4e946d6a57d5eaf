-- Closing, filling and opening, each a step from the old content to the new.
use Rattle.std.proofs.lemmas.Result.{on_ok_weaker}
use Rattle.std.proofs.Common.{◌≡◌, ◌≤◌, ◌<◌, ◌^◌, ap, subst, sym, arith, List, ℕ, Some}
use Rattle.std.specs.Prelude.{option_map}
use Rattle.bk_device.specs.Calls.{contents}
use Rattle.bk_device.specs.Compose.{effect_then}
use Rattle.bk_control.specs.Slots.{Slot, control_of}
use Rattle.bk_control.specs.Stands.{Rewrites}
use Rattle.bk_control.proofs.Steps.{close_part, fill_part, fill_end, open_part, open_end, place_bound, same_start, rebased}
use Rattle.bk_control.proofs.slot.rewrite.Goals as goal

pub returns-in_err-fill-clause-crash : goal.returns-in_err-fill-clause-crash
returns-in_err-fill-clause-crash g c t =
    let disk = g.D.Device.disk in
    let name = c.args.name.now in
    let bytes = c.args.bytes.now in
    let a = disk c.args.dev.now in
    let b = disk c.close.new.dev in
    let old = c.requires.stands t in
    let content : control_of (a.files name) ≡ Some old.0.bytes = ap (option_map (λ (s : Slot). s.bytes)) old.1.counts in
    let stands = c.in_ok-close.ensures.stands t old.0 old.1 in
    effect_then (close_part name bytes a b (c.close.ensures.crash t))
    (fill_part name bytes (control_of (a.files name)) c.args.side old.0 c.place.result b (disk c.fill.new.dev) c.place.ensures stands content (c.fill.ensures.crash t))

pub write_durably-requires-clause-inside : goal.write_durably-requires-clause-inside
write_durably-requires-clause-inside g c t =
    let disk = g.D.Device.disk in
    let name = c.args.name.now in
    let old = c.requires.stands t in
    let start : c.place.result ≤ 65600 = place_bound c.args.side c.place.result c.place.ensures in
    let whole = (fill_end c.args.side old.0 c.place.result _ (contents ((disk c.fill.new.dev).files name)) c.place.ensures (c.in_ok-close.ensures.stands t old.0 old.1) (c.in_ok-fill.ensures.changed t)).whole in
    omega (arith, start, whole)

pub returns-clause-crash : goal.returns-clause-crash
returns-clause-crash g c t =
    let disk = g.D.Device.disk in
    let name = c.args.name.now in
    let bytes = c.args.bytes.now in
    let a = disk c.args.dev.now in
    let b = disk c.close.new.dev in
    let d = disk c.fill.new.dev in
    let old = c.requires.stands t in
    let content : control_of (a.files name) ≡ Some old.0.bytes = ap (option_map (λ (s : Slot). s.bytes)) old.1.counts in
    let stands = c.in_ok-close.ensures.stands t old.0 old.1 in
    let filled = fill_end c.args.side old.0 c.place.result _ (contents (d.files name)) c.place.ensures stands (c.in_ok-fill.ensures.changed t) in
    let small : c.args.sequence < 2 ^ 64 = omega arith in
    let prepared = effect_then (close_part name bytes a b (c.close.ensures.crash t)) (fill_part name bytes (control_of (a.files name)) c.args.side old.0 c.place.result b d c.place.ensures stands content (c.fill.ensures.crash t)) in
    effect_then prepared
    (open_part name (control_of (a.files name)) c.args.side old.0 (record { sequence = c.args.sequence; bytes = bytes }) c.place-2.result d (disk c.write_durably.new.dev) c.place-2.ensures filled content (same_start _ _ _ _ c.place.ensures c.place-2.ensures (c.in_ok-fill.ensures.filled t)) small c.requires.short old.2 (c.write_durably.ensures.crash t))

pub returns-clause-rewritten : goal.returns-clause-rewritten
returns-clause-rewritten g c t =
    let disk = g.D.Device.disk in
    let name = c.args.name.now in
    let bytes = c.args.bytes.now in
    let d = disk c.fill.new.dev in
    let old = c.requires.stands t in
    let new : Slot = record { sequence = c.args.sequence; bytes = bytes } in
    let stands = c.in_ok-close.ensures.stands t old.0 old.1 in
    let filled = fill_end c.args.side old.0 c.place.result _ (contents (d.files name)) c.place.ensures stands (c.in_ok-fill.ensures.changed t) in
    let small : c.args.sequence < 2 ^ 64 = omega arith in
    let After : List ℕ → Type 0 = λ file. Rewrites c.args.side new (contents (d.files name)) file in
    on_ok_weaker c.write_durably.result (λ wrote.
    let rewrites = subst After (sym (ap contents wrote)) (open_end c.args.side old.0 new c.place-2.result (contents (d.files name)) c.place-2.ensures filled (same_start _ _ _ _ c.place.ensures c.place-2.ensures (c.in_ok-fill.ensures.filled t)) small c.requires.short) in
    rebased c.args.side new old.0 _ _ _ old.1 filled rewrites) (c.write_durably.ensures.written t)
