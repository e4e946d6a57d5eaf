use Rattle.std.proofs.lemmas.Result.{on_ok_weaker}
use Rattle.std.proofs.Common.{◌*◌, ◌+◌, ℕ, List, Option, Some, ap, ◌∙◌, inr, arith}
use Rattle.bk_device.specs.Calls.{contents, written}
use Rattle.bk_side.proofs.Files.{page_written, len_inside}
use Rattle.bk_side.proofs.copying.write_page.Goals as goal

pub returns-in-Some-clause-crash : goal.returns-in-Some-clause-crash
returns-in-Some-clause-crash g c t = inr (page_written c.args.name.now c.args.page _ _ (g.D.Device.disk c.args.dev.now) (g.D.Device.disk c.len.new.self) (g.D.Device.disk c.write.new.self)
    (g.met.D.Device.lawful t c.args.dev.now) (c.len.ensures.effect t) (ap (λ (n : ℕ). 8192 * n) c.from-at.ensures) c.requires
    (len_inside ((g.D.Device.disk c.args.dev.now).files c.args.name.now) c.in_ok-len.field-0 c.in-Some.len (8192 * c.args.page + 8192) (c.in_ok-len.ensures.value t) c.in-Some.is (omega (arith, c.if-at-len.true, c.from-at.ensures)))
    (c.write.ensures.effect t))

pub returns-in-Some-clause-done : goal.returns-in-Some-clause-done
returns-in-Some-clause-done g c t =
    let a = g.D.Device.disk c.args.dev.now in
    let name = c.args.name.now in
    let place = ap (λ (n : ℕ). 8192 * n) c.from-at.ensures in
    on_ok_weaker c.write.result (λ wrote. inr (
      page_written name c.args.page _ _ a (g.D.Device.disk c.len.new.self) (g.D.Device.disk c.write.new.self)
          (g.met.D.Device.lawful t c.args.dev.now) (c.len.ensures.effect t) place c.requires
          (len_inside (a.files name) c.in_ok-len.field-0 c.in-Some.len (8192 * c.args.page + 8192) (c.in_ok-len.ensures.value t) c.in-Some.is (omega (arith, c.if-at-len.true, c.from-at.ensures)))
          (c.write.ensures.effect t),
      wrote
          ∙ ap (λ (file : Option (List ℕ)). Some (written (contents file) (8192 * c.from-at.result) c.args.bytes.now)) ((c.len.ensures.effect t).files name)
          ∙ ap (λ (at : ℕ). Some (written (contents (a.files name)) at c.args.bytes.now)) place,
    )) (c.write.ensures.written t)
