use Rattle.std.proofs.lemmas.Result.{on_ok_weaker}
use Rattle.std.proofs.Common.{◌≡◌, ◌+◌, ◌++◌, ◌∷◌, [], ◌∙◌, take, drop, length, append_assoc, ap, sym, subst, arith, List, ℕ, refl}
use Rattle.std.proofs.lemmas.List.{take-take, take-append-drop}
use Rattle.bk_device.specs.Calls.{contents, written}
use Rattle.bk_lemmas.specs.Numbers.{number_bytes}
use Rattle.bk_gate.specs.BlobLaws.{laid_at_once}
use Rattle.bk_gate.specs.Blobs.{sealed}
use Rattle.bk_gate.specs.Gate.{IsLaid}
use Rattle.bk_gate.proofs.Steps.{only_cause, last_cause, keeps_then}
use Rattle.bk_gate.proofs.blob.lay_short.Goals as goal

pub returns-clause-laid : goal.returns-clause-laid
returns-clause-laid g c t =
    let disk = g.D.Device.disk in
    let name = c.args.name.now in
    let bytes = c.args.bytes.now in
    let before = contents ((disk c.args.dev.now).files name) in
    let room = c.put_all.new.room in
    let least : ℕ = 9 + length bytes in
    let n : ℕ = c.laid_len.result in
    let more : List ℕ = drop least (take n room) in
    let at : c.saturating_add.result ≡ c.args.end + 1 = omega (arith, c.in_ok-append.ensures.small, c.saturating_add.ensures) in
    let front : take least (take n room) ≡ number_bytes (length bytes) ++ (bytes ++ 0 ∷ []) = take-take least n room c.laid_len.ensures.whole ∙ c.put_all.ensures in
    let put : take n room ≡ number_bytes (length bytes) ++ (bytes ++ 0 ∷ more) =
    sym (take-append-drop least (take n room)) ∙ ap (λ (xs : List ℕ). xs ++ more) front ∙ append_assoc (number_bytes (length bytes)) (bytes ++ 0 ∷ []) more ∙ ap (λ (xs : List ℕ). number_bytes (length bytes) ++ xs) (append_assoc bytes (0 ∷ []) more) in
    let file : contents ((disk c.append.new.dev).files name) ≡ written before (c.args.end + 1) (number_bytes (length bytes) ++ (bytes ++ 0 ∷ more)) =
    ap contents (c.in_ok-append.ensures.written t) ∙ ap (λ (p : ℕ). written before p (take n room)) at ∙ ap (written before (c.args.end + 1)) put in
    let quiet = c.requires.quiet t in
    let Laid : List ℕ → Type 0 = IsLaid c.args.end bytes in
    let laid = laid_at_once c.args.end bytes more before quiet.1.inside (omega (arith, c.requires.short)) in
    on_ok_weaker c.settle.result (λ same. subst Laid (sym (ap contents same ∙ file)) laid) (c.settle.ensures.same t)

pub append-requires-clause-behind : goal.append-requires-clause-behind
append-requires-clause-behind g c small = omega (arith, small, c.saturating_add.ensures)

pub append-requires-clause-inside : goal.append-requires-clause-inside
append-requires-clause-inside g c t =
    let quiet = c.requires.quiet t in
    omega (arith, quiet.1.inside, c.saturating_add.ensures)

pub append-requires-clause-quiet : goal.append-requires-clause-quiet
append-requires-clause-quiet g c = c.requires.quiet

pub settle-requires : goal.settle-requires
settle-requires g c t =
    let quiet = c.requires.quiet t in
    (quiet.0, c.in_ok-append.ensures.quiet t quiet.0 quiet.1)

pub returns-in_err-append-clause-crash : goal.returns-in_err-append-clause-crash
returns-in_err-append-clause-crash g c = c.append.ensures.crash

pub returns-in_err-append-clause-cause : goal.returns-in_err-append-clause-cause
returns-in_err-append-clause-cause g c = only_cause c.in_err-append.ensures.cause (λ _. refl)

pub returns-clause-quiet : goal.returns-clause-quiet
returns-clause-quiet g c t spans quiet = c.settle.ensures.quiet t spans (c.in_ok-append.ensures.quiet t spans quiet)

pub returns-clause-durable : goal.returns-clause-durable
returns-clause-durable g c = c.settle.ensures.durable

pub returns-clause-sealed : goal.returns-clause-sealed
returns-clause-sealed g c t = on_ok_weaker c.settle.result (λ same. ap sealed same ∙ c.in_ok-append.ensures.sealed t) (c.settle.ensures.same t)

pub returns-clause-crash : goal.returns-clause-crash
returns-clause-crash g c t =
    let disk = g.D.Device.disk in
    keeps_then c.args.name.now (disk c.args.dev.now) (disk c.append.new.dev) (disk c.settle.new.dev) (c.in_ok-append.ensures.sealed t) (c.append.ensures.crash t) (c.settle.ensures.crash t)

pub returns-clause-cause : goal.returns-clause-cause
returns-clause-cause g c = last_cause c.in_ok-append.ensures.cause c.settle.ensures.cause (λ is. is)
