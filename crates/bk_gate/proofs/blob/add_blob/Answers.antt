use Rattle.std.proofs.lemmas.Result.{on_ok_weaker}
use Rattle.std.proofs.Common.{◌≡◌, ◌+◌, ◌++◌, ◌∙◌, ap, arith, length, List, ℕ, refl}
use Rattle.bk_device.specs.Calls.{contents, written, read_at}
use Rattle.bk_gate.specs.BlobLaws.{adds, adds_length}
use Rattle.bk_gate.proofs.Steps.{keeps_then, only_cause, last_cause, on_ok_both}
use Rattle.bk_gate.proofs.blob.add_blob.Goals as goal

pub returns-clause-begun : goal.returns-clause-begun
returns-clause-begun g c t =
    let disk = g.D.Device.disk in
    let name = c.args.name.now in
    let before = contents ((disk c.make_room.new.dev).files name) in
    let bytes = c.args.bytes.now in
    on_ok_both c.append.result (λ small wrote.
    let at : c.saturating_add-2.result ≡ c.args.end + 9 + c.args.len = omega (arith, small, c.saturating_add.ensures, c.saturating_add-2.ensures) in
    ap (λ (f : List ℕ). read_at f (c.args.end + 9) (c.args.len + length bytes)) (ap contents wrote ∙ ap (λ (p : ℕ). written before p bytes) at)
    ∙ adds before bytes (c.args.end + 9) c.args.len (c.in_ok-make_room.ensures.room t)
    ∙ ap (λ (r : List ℕ). r ++ bytes) (c.in_ok-make_room.ensures.begun t)) c.append.ensures.small (c.append.ensures.written t)

pub returns-clause-room : goal.returns-clause-room
returns-clause-room g c t =
    let disk = g.D.Device.disk in
    let name = c.args.name.now in
    let before = contents ((disk c.make_room.new.dev).files name) in
    let bytes = c.args.bytes.now in
    on_ok_both c.append.result (λ small wrote.
    let at : c.saturating_add-2.result ≡ c.args.end + 9 + c.args.len = omega (arith, small, c.saturating_add.ensures, c.saturating_add-2.ensures) in
    let file : contents ((disk c.append.new.dev).files name) ≡ written before (c.args.end + 9 + c.args.len) bytes = ap contents wrote ∙ ap (λ (p : ℕ). written before p bytes) at in
    omega (arith, ap length file, adds_length before bytes (c.args.end + 9 + c.args.len) (c.in_ok-make_room.ensures.room t))) c.append.ensures.small (c.append.ensures.written t)

pub returns-clause-small : goal.returns-clause-small
returns-clause-small g c = on_ok_weaker c.append.result (λ small. omega (arith, small, c.saturating_add.ensures, c.saturating_add-2.ensures)) c.append.ensures.small

pub append-requires-clause-inside : goal.append-requires-clause-inside
append-requires-clause-inside g c t = omega (arith, c.in_ok-make_room.ensures.room t, c.saturating_add.ensures, c.saturating_add-2.ensures)

pub returns-clause-crash : goal.returns-clause-crash
returns-clause-crash g c t =
    let disk = g.D.Device.disk in
    keeps_then c.args.name.now (disk c.args.dev.now) (disk c.make_room.new.dev) (disk c.append.new.dev) (c.in_ok-make_room.ensures.sealed t) (c.make_room.ensures.crash t) (c.append.ensures.crash t)

pub make_room-requires-clause-at : goal.make_room-requires-clause-at
make_room-requires-clause-at g c = c.requires.at

pub make_room-requires-clause-room : goal.make_room-requires-clause-room
make_room-requires-clause-room g c = c.requires.room

pub append-requires-clause-behind : goal.append-requires-clause-behind
append-requires-clause-behind g c small = omega (arith, small, c.saturating_add.ensures, c.saturating_add-2.ensures)

pub append-requires-clause-quiet : goal.append-requires-clause-quiet
append-requires-clause-quiet g c t =
    let at = c.requires.at t in
    (at.0, c.in_ok-make_room.ensures.quiet t at.0 at.1)

pub returns-in_err-make_room-clause-crash : goal.returns-in_err-make_room-clause-crash
returns-in_err-make_room-clause-crash g c = c.make_room.ensures.crash

pub returns-in_err-make_room-clause-cause : goal.returns-in_err-make_room-clause-cause
returns-in_err-make_room-clause-cause g c = only_cause c.in_err-make_room.ensures.cause (λ _. refl)

pub returns-clause-quiet : goal.returns-clause-quiet
returns-clause-quiet g c t spans at = c.append.ensures.quiet t spans (c.in_ok-make_room.ensures.quiet t spans at)

pub returns-clause-sealed : goal.returns-clause-sealed
returns-clause-sealed g c t = on_ok_weaker c.append.result (λ same. same ∙ c.in_ok-make_room.ensures.sealed t) (c.append.ensures.sealed t)

pub returns-clause-cause : goal.returns-clause-cause
returns-clause-cause g c = last_cause c.in_ok-make_room.ensures.cause c.append.ensures.cause (λ is. is)
