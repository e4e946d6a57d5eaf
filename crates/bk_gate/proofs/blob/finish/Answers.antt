use Rattle.std.proofs.lemmas.Result.{on_ok_weaker}
use Rattle.std.proofs.Common.{◌≡◌, ◌≤◌, ◌<◌, ◌^◌, ◌+◌, ◌∙◌, [], ◌∷◌, length, ap, subst, sym, arith, List, ℕ, refl}
use Rattle.bk_device.specs.Calls.{contents, written, read_at}
use Rattle.bk_gate.specs.BlobLaws.{prepares, prepares_blob}
use Rattle.bk_gate.specs.Blobs.{sealed}
use Rattle.bk_gate.specs.Gate.{IsPrepared}
use Rattle.bk_gate.proofs.Steps.{keeps_then, only_cause, last_cause, on_ok_any}
use Rattle.bk_gate.proofs.blob.finish.Goals as goal

pub returns-clause-prepared : goal.returns-clause-prepared
returns-clause-prepared g c t =
    let disk = g.D.Device.disk in
    let name = c.args.name.now in
    let len = c.args.len in
    let end = c.args.end in
    let before = contents ((disk c.lay_length.new.dev).files name) in
    let at : c.saturating_add-2.result ≡ end + 9 + len = omega (arith, c.in_ok-append.ensures.small, c.saturating_add.ensures, c.saturating_add-2.ensures) in
    let one : contents ((disk c.append.new.dev).files name) ≡ written before (end + 9 + len) (0 ∷ []) = ap contents (c.in_ok-append.ensures.written t) ∙ ap (λ (p : ℕ). written before p (0 ∷ [])) at in
    let room : end + 9 + len ≤ length before = omega (arith, c.in_ok-lay_length.ensures.longer t, c.requires.inside t) in
    let fits : len < 2 ^ 64 = omega arith in
    let Ready : List ℕ → Type 0 = IsPrepared end len in
    on_ok_weaker c.settle.result (λ same. subst Ready (sym (ap contents same ∙ one)) (prepares end len before room fits (c.in_ok-lay_length.ensures.size t))) (c.settle.ensures.same t)

pub returns-clause-blob : goal.returns-clause-blob
returns-clause-blob g c t =
    let disk = g.D.Device.disk in
    let name = c.args.name.now in
    let len = c.args.len in
    let end = c.args.end in
    let before = contents ((disk c.lay_length.new.dev).files name) in
    let at : c.saturating_add-2.result ≡ end + 9 + len = omega (arith, c.in_ok-append.ensures.small, c.saturating_add.ensures, c.saturating_add-2.ensures) in
    let one : contents ((disk c.append.new.dev).files name) ≡ written before (end + 9 + len) (0 ∷ []) = ap contents (c.in_ok-append.ensures.written t) ∙ ap (λ (p : ℕ). written before p (0 ∷ [])) at in
    let room : end + 9 + len ≤ length before = omega (arith, c.in_ok-lay_length.ensures.longer t, c.requires.inside t) in
    on_ok_weaker c.settle.result (λ same. ap (λ (f : List ℕ). read_at f (end + 9) len) (ap contents same ∙ one) ∙ prepares_blob end len before room ∙ c.in_ok-lay_length.ensures.blob t len (c.requires.inside t)) (c.settle.ensures.same t)

pub append-requires-clause-inside : goal.append-requires-clause-inside
append-requires-clause-inside g c t = omega (arith, c.in_ok-lay_length.ensures.longer t, c.requires.inside t, c.saturating_add.ensures, c.saturating_add-2.ensures)

pub returns-clause-small : goal.returns-clause-small
returns-clause-small g c =
    let small : c.args.end + 9 + c.args.len < 2 ^ 62 = omega (arith, c.in_ok-append.ensures.small, c.saturating_add.ensures, c.saturating_add-2.ensures) in
    on_ok_any c.settle.result small

pub returns-in_err-append-clause-crash : goal.returns-in_err-append-clause-crash
returns-in_err-append-clause-crash g c t =
    let disk = g.D.Device.disk in
    keeps_then c.args.name.now (disk c.args.dev.now) (disk c.lay_length.new.dev) (disk c.append.new.dev) (c.in_ok-lay_length.ensures.sealed t) (c.lay_length.ensures.crash t) (c.append.ensures.crash t)

pub returns-clause-crash : goal.returns-clause-crash
returns-clause-crash g c t =
    let disk = g.D.Device.disk in
    let name = c.args.name.now in
    keeps_then name (disk c.args.dev.now) (disk c.lay_length.new.dev) (disk c.settle.new.dev) (c.in_ok-lay_length.ensures.sealed t) (c.lay_length.ensures.crash t)
    (keeps_then name (disk c.lay_length.new.dev) (disk c.append.new.dev) (disk c.settle.new.dev) (c.in_ok-append.ensures.sealed t) (c.append.ensures.crash t) (c.settle.ensures.crash t))

pub lay_length-requires : goal.lay_length-requires
lay_length-requires g c = c.requires.quiet

pub append-requires-clause-behind : goal.append-requires-clause-behind
append-requires-clause-behind g c small = omega (arith, small, c.saturating_add.ensures, c.saturating_add-2.ensures)

pub append-requires-clause-quiet : goal.append-requires-clause-quiet
append-requires-clause-quiet g c t =
    let quiet = c.requires.quiet t in
    (quiet.0, c.in_ok-lay_length.ensures.quiet t quiet.0 quiet.1)

pub settle-requires : goal.settle-requires
settle-requires g c t =
    let quiet = c.requires.quiet t in
    (quiet.0, c.in_ok-append.ensures.quiet t quiet.0 (c.in_ok-lay_length.ensures.quiet t quiet.0 quiet.1))

pub returns-in_err-lay_length-clause-crash : goal.returns-in_err-lay_length-clause-crash
returns-in_err-lay_length-clause-crash g c = c.lay_length.ensures.crash

pub returns-in_err-lay_length-clause-cause : goal.returns-in_err-lay_length-clause-cause
returns-in_err-lay_length-clause-cause g c = only_cause c.in_err-lay_length.ensures.cause (λ _. refl)

pub returns-in_err-append-clause-cause : goal.returns-in_err-append-clause-cause
returns-in_err-append-clause-cause g c = last_cause c.in_ok-lay_length.ensures.cause c.in_err-append.ensures.cause (λ _. refl)

pub returns-clause-quiet : goal.returns-clause-quiet
returns-clause-quiet g c t spans quiet =
    c.settle.ensures.quiet t spans (c.in_ok-append.ensures.quiet t spans (c.in_ok-lay_length.ensures.quiet t spans quiet))

pub returns-clause-durable : goal.returns-clause-durable
returns-clause-durable g c = c.settle.ensures.durable

pub returns-clause-sealed : goal.returns-clause-sealed
returns-clause-sealed g c t =
    on_ok_weaker c.settle.result (λ same. ap sealed same ∙ c.in_ok-append.ensures.sealed t ∙ c.in_ok-lay_length.ensures.sealed t) (c.settle.ensures.same t)

pub returns-clause-cause : goal.returns-clause-cause
returns-clause-cause g c = last_cause c.in_ok-lay_length.ensures.cause (last_cause c.in_ok-append.ensures.cause c.settle.ensures.cause (λ is. is)) (λ is. is)
