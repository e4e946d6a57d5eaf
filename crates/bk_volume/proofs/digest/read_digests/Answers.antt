use Rattle.std.proofs.Common.{List, ℕ, ◌+◌, ◌-◌, sym, ap, ◌∙◌}
use Rattle.std.specs.Prelude.{Option}
use Rattle.sha2.specs.Sha256.{sha256}
use Rattle.bk_device.specs.Calls.{contents, read_at}
use Rattle.bk_device.specs.Laws.{nothing_then}
use Rattle.bk_volume.proofs.Digests.{blob_front, blob_digest}
use Rattle.bk_volume.proofs.digest.read_digests.Goals as goal

pub returns-clause-found : goal.returns-clause-found
returns-clause-found g c t =
    c.in_ok-found.ensures.digest t ∙ ap sha256 (sym (blob_front (contents ((g.D.Device.disk c.args.dev.now).files c.args.from.now)) c.args.at c.args.len c.requires.long (c.requires.inside t)))

pub returns-clause-stored : goal.returns-clause-stored
returns-clause-stored g c t =
    c.in_ok-stored.ensures.digest t ∙ ap (λ (f : Option (List ℕ)). read_at (contents f) (c.args.at + (c.args.len - 32)) 32) ((c.digest_of.ensures.effect t).files c.args.from.now)
    ∙ sym (blob_digest (contents ((g.D.Device.disk c.args.dev.now).files c.args.from.now)) c.args.at c.args.len c.requires.long (c.requires.inside t))

pub returns-clause-effect : goal.returns-clause-effect
returns-clause-effect g c t = nothing_then (g.met.D.Device.lawful t c.args.dev.now) (c.digest_of.ensures.effect t) (c.stored_at.ensures.effect t)

pub returns-in_err-stored-clause-effect : goal.returns-in_err-stored-clause-effect
returns-in_err-stored-clause-effect g c t = nothing_then (g.met.D.Device.lawful t c.args.dev.now) (c.digest_of.ensures.effect t) (c.stored_at.ensures.effect t)
