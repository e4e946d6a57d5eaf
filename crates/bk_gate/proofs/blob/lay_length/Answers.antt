use Rattle.bk_gate.proofs.Steps.{on_ok_both}
use Rattle.std.proofs.Common.{◌≡◌, ◌+◌, ◌∙◌, max, length, ap, subst, sym, arith, List, ℕ}
use Rattle.bk_device.specs.Calls.{contents, written, read_at}
use Rattle.bk_lemmas.specs.Numbers.{number_bytes}
use Rattle.bk_gate.specs.Gate.{IfThere}
use Rattle.bk_gate.specs.BlobLaws.{sizes, sizes_length, sizes_blob}
use Rattle.bk_gate.proofs.blob.lay_length.Goals as goal

pub returns-clause-size : goal.returns-clause-size
returns-clause-size g c t =
    let disk = g.D.Device.disk in
    let name = c.args.name.now in
    let before = contents ((disk c.args.dev.now).files name) in
    let quiet = c.requires t in
    on_ok_both c.append.result (λ small wrote.
    let at : c.saturating_add.result ≡ c.args.end + 1 = omega (arith, small, c.saturating_add.ensures) in
    let file : contents ((disk c.append.new.dev).files name) ≡ written before (c.args.end + 1) (number_bytes c.args.size) =
    ap contents wrote ∙ ap (λ (p : ℕ). written before p c.spelled.result) at ∙ ap (written before (c.args.end + 1)) c.spelled.ensures in
    ap (λ (f : List ℕ). read_at f (c.args.end + 1) 8) file ∙ sizes c.args.end c.args.size before quiet.1.inside) c.append.ensures.small (c.append.ensures.written t)

pub returns-clause-room : goal.returns-clause-room
returns-clause-room g c t =
    let disk = g.D.Device.disk in
    let name = c.args.name.now in
    let before = contents ((disk c.args.dev.now).files name) in
    let quiet = c.requires t in
    on_ok_both c.append.result (λ small wrote.
    let at : c.saturating_add.result ≡ c.args.end + 1 = omega (arith, small, c.saturating_add.ensures) in
    let file : contents ((disk c.append.new.dev).files name) ≡ written before (c.args.end + 1) (number_bytes c.args.size) =
    ap contents wrote ∙ ap (λ (p : ℕ). written before p c.spelled.result) at ∙ ap (written before (c.args.end + 1)) c.spelled.ensures in
    let size : length (contents ((disk c.append.new.dev).files name)) ≡ max (length before) (c.args.end + 9) = ap length file ∙ sizes_length c.args.end c.args.size before quiet.1.inside in
    omega (arith, size)) c.append.ensures.small (c.append.ensures.written t)

pub returns-clause-longer : goal.returns-clause-longer
returns-clause-longer g c t =
    let disk = g.D.Device.disk in
    let name = c.args.name.now in
    let before = contents ((disk c.args.dev.now).files name) in
    let quiet = c.requires t in
    on_ok_both c.append.result (λ small wrote.
    let at : c.saturating_add.result ≡ c.args.end + 1 = omega (arith, small, c.saturating_add.ensures) in
    let file : contents ((disk c.append.new.dev).files name) ≡ written before (c.args.end + 1) (number_bytes c.args.size) =
    ap contents wrote ∙ ap (λ (p : ℕ). written before p c.spelled.result) at ∙ ap (written before (c.args.end + 1)) c.spelled.ensures in
    let size : length (contents ((disk c.append.new.dev).files name)) ≡ max (length before) (c.args.end + 9) = ap length file ∙ sizes_length c.args.end c.args.size before quiet.1.inside in
    omega (arith, size)) c.append.ensures.small (c.append.ensures.written t)

pub returns-clause-blob : goal.returns-clause-blob
returns-clause-blob g c t =
    let disk = g.D.Device.disk in
    let name = c.args.name.now in
    let before = contents ((disk c.args.dev.now).files name) in
    on_ok_both c.append.result (λ small wrote.
    let at : c.saturating_add.result ≡ c.args.end + 1 = omega (arith, small, c.saturating_add.ensures) in
    let file : contents ((disk c.append.new.dev).files name) ≡ written before (c.args.end + 1) (number_bytes c.args.size) =
    ap contents wrote ∙ ap (λ (p : ℕ). written before p c.spelled.result) at ∙ ap (written before (c.args.end + 1)) c.spelled.ensures in
    let There : List ℕ → Type 0 = IfThere c.args.end before in
    subst There (sym file) (sizes_blob c.args.end c.args.size before)) c.append.ensures.small (c.append.ensures.written t)
