use Rattle.std.proofs.Common.{◌≡◌, ◌≢◌, ℕ, List, Bool, false, length, sym, subst}
use Rattle.std.specs.Prelude.{IfOk}
use Rattle.std.proofs.lemmas.Result.{IfOk-weaker}
use Rattle.bk_device.specs.Calls.{contents}
use Rattle.bk_side.specs.Pages.{page_in, IsSound}
use Rattle.bk_side.specs.BatchLaws.{content_at}
use Rattle.bk_side.proofs.reading.read_plain.Goals as goal

pub returns-in-Some-clause-short : goal.returns-in-Some-clause-short
returns-in-Some-clause-short g c t =
    let Of : List ℕ → Type 0 = λ content. IfOk c.read_whole.result (λ (is_whole : Bool). is_whole ≡ false → IsSound (page_in content c.args.number) → ⊥) in
    let content : List ℕ = contents ((g.D.Device.disk c.args.dev.now).files c.in-Some.name.now) in
    subst Of (sym (content_at c.args.names.now (g.D.Device.disk c.args.dev.now).files c.args.file c.in-Some.name.now c.in-Some.ensures))
    (IfOk-weaker c.read_whole.result (λ (is_whole : Bool). is_whole ≡ false → length (page_in content c.args.number) ≢ 8192) (λ (is_whole : Bool). is_whole ≡ false → IsSound (page_in content c.args.number) → ⊥)
    (λ is_whole short is sound. short is sound.whole) (c.read_whole.ensures.short t))
