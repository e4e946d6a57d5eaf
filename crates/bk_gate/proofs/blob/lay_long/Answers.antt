use Rattle.std.proofs.lemmas.Result.{on_ok_weaker}
use Rattle.std.proofs.Common.{◌≡◌, ◌≤◌, ◌+◌, ◌∷◌, [], ◌∙◌, length, ap, sym, subst, arith, List, ℕ, refl, ◌<◌, ◌^◌}
use Rattle.bk_device.specs.Calls.{contents, written}
use Rattle.bk_gate.specs.BlobLaws.{laid, adds_length}
use Rattle.bk_gate.specs.Blobs.{sealed}
use Rattle.bk_gate.specs.Gate.{IsLaid}
use Rattle.bk_gate.proofs.Steps.{keeps_then, only_cause, last_cause, on_ok_any}
use Rattle.bk_gate.proofs.blob.lay_long.Goals as goal

pub append-requires-2-clause-inside : goal.append-requires-2-clause-inside
append-requires-2-clause-inside g c t =
    let disk = g.D.Device.disk in
    let name = c.args.name.now in
    let bytes = c.args.bytes.now in
    let before = contents ((disk c.lay_length.new.dev).files name) in
    let long : c.args.end + 9 + length bytes ≤ length (written before (c.args.end + 9) bytes) = adds_length before bytes (c.args.end + 9) (c.in_ok-lay_length.ensures.room t) in
    omega (arith, long, ap length (ap contents (c.in_ok-append.ensures.written t)))

pub returns-clause-laid : goal.returns-clause-laid
returns-clause-laid g c t =
    let disk = g.D.Device.disk in
    let name = c.args.name.now in
    let bytes = c.args.bytes.now in
    let end = c.args.end in
    let before = contents ((disk c.lay_length.new.dev).files name) in
    let file : contents ((disk c.append-2.new.dev).files name) ≡ written (written before (end + 9) bytes) (end + 9 + length bytes) (0 ∷ []) =
    ap contents (c.in_ok-append-2.ensures.written t) ∙ ap (λ (f : List ℕ). written f (end + 9 + length bytes) (0 ∷ [])) (ap contents (c.in_ok-append.ensures.written t)) in
    let Laid : List ℕ → Type 0 = IsLaid end bytes in
    let all = laid end bytes before (c.in_ok-lay_length.ensures.room t) (omega arith) (c.in_ok-lay_length.ensures.size t) in
    on_ok_weaker c.settle.result (λ same. subst Laid (sym (ap contents same ∙ file)) all) (c.settle.ensures.same t)

pub returns-in_err-append-2-clause-crash : goal.returns-in_err-append-2-clause-crash
returns-in_err-append-2-clause-crash g c t =
    let disk = g.D.Device.disk in
    let name = c.args.name.now in
    keeps_then name (disk c.args.dev.now) (disk c.lay_length.new.dev) (disk c.append-2.new.dev) (c.in_ok-lay_length.ensures.sealed t) (c.lay_length.ensures.crash t)
    (keeps_then name (disk c.lay_length.new.dev) (disk c.append.new.dev) (disk c.append-2.new.dev) (c.in_ok-append.ensures.sealed t) (c.append.ensures.crash t) (c.append-2.ensures.crash t))

pub returns-clause-crash : goal.returns-clause-crash
returns-clause-crash g c t =
    let disk = g.D.Device.disk in
    let name = c.args.name.now in
    keeps_then name (disk c.args.dev.now) (disk c.lay_length.new.dev) (disk c.settle.new.dev) (c.in_ok-lay_length.ensures.sealed t) (c.lay_length.ensures.crash t)
    (keeps_then name (disk c.lay_length.new.dev) (disk c.append.new.dev) (disk c.settle.new.dev) (c.in_ok-append.ensures.sealed t) (c.append.ensures.crash t)
    (keeps_then name (disk c.append.new.dev) (disk c.append-2.new.dev) (disk c.settle.new.dev) (c.in_ok-append-2.ensures.sealed t) (c.append-2.ensures.crash t) (c.settle.ensures.crash t)))

pub lay_length-requires : goal.lay_length-requires
lay_length-requires g c = c.requires

pub append-requires-clause-inside : goal.append-requires-clause-inside
append-requires-clause-inside g c t = c.in_ok-lay_length.ensures.room t

pub append-requires-clause-quiet : goal.append-requires-clause-quiet
append-requires-clause-quiet g c t =
    let quiet = c.requires t in
    (quiet.0, c.in_ok-lay_length.ensures.quiet t quiet.0 quiet.1)

pub append-requires-2-clause-quiet : goal.append-requires-2-clause-quiet
append-requires-2-clause-quiet g c t =
    let quiet = c.requires t in
    (quiet.0, c.in_ok-append.ensures.quiet t quiet.0 (c.in_ok-lay_length.ensures.quiet t quiet.0 quiet.1))

pub settle-requires : goal.settle-requires
settle-requires g c t =
    let quiet = c.requires t in
    (quiet.0, c.in_ok-append-2.ensures.quiet t quiet.0 (c.in_ok-append.ensures.quiet t quiet.0 (c.in_ok-lay_length.ensures.quiet t quiet.0 quiet.1)))

pub returns-in_err-lay_length-clause-crash : goal.returns-in_err-lay_length-clause-crash
returns-in_err-lay_length-clause-crash g c = c.lay_length.ensures.crash

pub returns-in_err-append-clause-crash : goal.returns-in_err-append-clause-crash
returns-in_err-append-clause-crash g c t =
    let disk = g.D.Device.disk in
    keeps_then c.args.name.now (disk c.args.dev.now) (disk c.lay_length.new.dev) (disk c.append.new.dev) (c.in_ok-lay_length.ensures.sealed t) (c.lay_length.ensures.crash t) (c.append.ensures.crash t)

pub returns-in_err-lay_length-clause-cause : goal.returns-in_err-lay_length-clause-cause
returns-in_err-lay_length-clause-cause g c = only_cause c.in_err-lay_length.ensures.cause (λ _. refl)

pub returns-in_err-append-clause-cause : goal.returns-in_err-append-clause-cause
returns-in_err-append-clause-cause g c = last_cause c.in_ok-lay_length.ensures.cause c.in_err-append.ensures.cause (λ _. refl)

pub returns-in_err-append-2-clause-cause : goal.returns-in_err-append-2-clause-cause
returns-in_err-append-2-clause-cause g c =
    last_cause c.in_ok-lay_length.ensures.cause (last_cause c.in_ok-append.ensures.cause c.in_err-append-2.ensures.cause (λ _. refl)) (λ is. is)

pub returns-clause-quiet : goal.returns-clause-quiet
returns-clause-quiet g c t spans quiet =
    c.settle.ensures.quiet t spans (c.in_ok-append-2.ensures.quiet t spans (c.in_ok-append.ensures.quiet t spans (c.in_ok-lay_length.ensures.quiet t spans quiet)))

pub returns-clause-durable : goal.returns-clause-durable
returns-clause-durable g c = c.settle.ensures.durable

pub returns-clause-sealed : goal.returns-clause-sealed
returns-clause-sealed g c t =
    on_ok_weaker c.settle.result (λ same. ap sealed same ∙ c.in_ok-append-2.ensures.sealed t ∙ c.in_ok-append.ensures.sealed t ∙ c.in_ok-lay_length.ensures.sealed t) (c.settle.ensures.same t)

pub returns-clause-small : goal.returns-clause-small
returns-clause-small g c =
    let small : c.args.end + 9 + length c.args.bytes.now < 2 ^ 62 = omega (arith, c.in_ok-append-2.ensures.small) in
    on_ok_any c.settle.result small

pub returns-clause-cause : goal.returns-clause-cause
returns-clause-cause g c = last_cause c.in_ok-lay_length.ensures.cause (last_cause c.in_ok-append.ensures.cause (last_cause c.in_ok-append-2.ensures.cause c.settle.ensures.cause (λ is. is)) (λ is. is)) (λ is. is)
