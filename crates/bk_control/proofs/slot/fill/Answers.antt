-- Each write stays within the slot, off its gate byte.
use Rattle.std.proofs.lemmas.Result.{on_ok_weaker}
use Rattle.std.proofs.Common.{◌≡◌, ◌≤◌, ◌+◌, ap, subst, sym, ◌∙◌, inl, inr, arith, length, List, ℕ}
use Rattle.bk_device.specs.Calls.{contents, written}
use Rattle.bk_control.specs.Slots.{magic}
use Rattle.bk_control.specs.Stands.{IsFilled}
use Rattle.bk_control.proofs.Filled.{fills, head_bytes, length-head_bytes}
use Rattle.bk_control.proofs.Steps.{fill_starts, fill_step, fill_sync}
use Rattle.bk_control.proofs.slot.fill.Goals as goal

pub returns-clause-crash : goal.returns-clause-crash
returns-clause-crash g c t =
    let disk = g.D.Device.disk in
    let name = c.args.name.now in
    let start = c.args.start in
    let a = disk c.args.dev.now in
    let file : 131200 ≤ length (contents (a.files name)) = c.requires.whole t in
    let whole : start + 65600 ≤ length (contents (a.files name)) = omega arith in
    let size : length c.head.result ≡ 23 = ap length c.head.ensures ∙ length-head_bytes c.args.sequence (length c.args.bytes.now) in
    let one = fill_step name start start 8 a a (disk c.write.new.self) whole (inl (omega arith, omega arith)) (fill_starts name start a (c.requires.settled t)) (c.write.ensures.effect t) in
    let two = fill_step name start (start + 9) (length c.head.result) a (disk c.write.new.self) (disk c.write-2.new.self) whole (inr (omega arith, omega (arith, size))) one (c.write-2.ensures.effect t) in
    let three = fill_step name start (start + 32) (length c.args.bytes.now) a (disk c.write-2.new.self) (disk c.write-3.new.self) whole (inr (omega arith, omega arith)) two (c.write-3.ensures.effect t) in
    fill_sync name start a (disk c.write-3.new.self) (disk c.sync.new.self) three (c.sync.ensures.effect t)

pub returns-clause-filled : goal.returns-clause-filled
returns-clause-filled g c t =
    let disk = g.D.Device.disk in
    let name = c.args.name.now in
    let start = c.args.start in
    let bytes = c.args.bytes.now in
    let before = contents ((disk c.args.dev.now).files name) in
    let Filled : List ℕ → Type 0 = IsFilled start (record { sequence = c.args.sequence; bytes = bytes }) in
    let one : contents ((disk c.write.new.self).files name) ≡ written before start magic = ap contents (c.in_ok-write.ensures.written t) in
    let two : contents ((disk c.write-2.new.self).files name) ≡ written (written before start magic) (start + 9) (head_bytes c.args.sequence (length bytes)) =
    ap contents (c.in_ok-write-2.ensures.written t)
    ∙ ap (λ (f : List ℕ). written f (start + 9) c.head.result) one
    ∙ ap (written (written before start magic) (start + 9)) c.head.ensures in
    let three = ap contents (c.in_ok-write-3.ensures.written t) ∙ ap (λ (f : List ℕ). written f (start + 32) bytes) two in
    on_ok_weaker c.sync.result (λ same. subst Filled (sym (ap contents same ∙ three)) (fills start c.args.sequence bytes before (c.requires.whole t) c.requires.start c.requires.short)) (c.sync.ensures.same t)
