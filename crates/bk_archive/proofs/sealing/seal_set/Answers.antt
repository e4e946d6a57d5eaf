use Rattle.std.proofs.Common.{◌∙◌, ap, subst}
use Rattle.bk_bytes.specs.Field.{AreBytes}
use Rattle.bk_device.specs.Laws.{nothing_by_sync, nothing_then, nothing_yet}
use Rattle.bk_volume.specs.Names.{medium_file}
use Rattle.bk_archive.specs.TextLaws.{text-bytes}
use Rattle.bk_archive.proofs.Seals.{seal-added, seal-calm, seal-has, seal-nothing, seal-synced, seals-on, set-on, spares-added, spares-nothing, spares-synced, unloaded}
use Rattle.bk_archive.proofs.sealing.seal_set.Goals as goal

pub returns-in_err-file-clause-crash : goal.returns-in_err-file-clause-crash
returns-in_err-file-clause-crash g c tells body is = seal-nothing (g.D.Device.disk c.args.dev.now) (g.D.Device.disk c.args.dev.now) c.args.path.now body (nothing_yet (g.D.Device.disk c.args.dev.now))

pub returns-in_err-sync-clause-crash : goal.returns-in_err-sync-clause-crash
returns-in_err-sync-clause-crash g c tells body is =
    seal-synced (g.D.Device.disk c.args.dev.now) (g.D.Device.disk c.sync.new.self) c.args.path.now c.deref.result.now body
    (subst AreBytes c.as_str.ensures (text-bytes c.as_str.result.now c.as_str.utf8)) (c.deref.ensures ∙ c.in_ok-file.ensures ∙ ap medium_file c.as_str.ensures) (c.sync.ensures.effect tells)

pub returns-in_err-medium-clause-crash : goal.returns-in_err-medium-clause-crash
returns-in_err-medium-clause-crash g c tells body is =
    let call = nothing_then (g.met.D.Device.lawful tells c.args.dev.now) (nothing_by_sync (c.sync.ensures.effect tells) (c.in_ok-sync.ensures.same tells)) (c.load.ensures.effect tells) in
    seal-nothing (g.D.Device.disk c.args.dev.now) (g.D.Device.disk c.load.new.dev) c.args.path.now body call

pub returns-in_err-seal_set-clause-crash : goal.returns-in_err-seal_set-clause-crash
returns-in_err-seal_set-clause-crash g c tells body is =
    let a = g.D.Device.disk c.args.dev.now in
    let loaded = g.D.Device.disk c.load.new.dev in
    let name = c.in_ok-medium.medium.name in
    let bytes = subst AreBytes c.as_str.ensures (text-bytes c.as_str.result.now c.as_str.utf8) in
    let on = seals-on a (g.D.Device.disk c.sync.new.self) loaded c.args.path.now name (g.met.D.Device.lawful tells c.args.dev.now) (c.sync.ensures.effect tells) (c.in_ok-sync.ensures.same tells) (c.load.ensures.effect tells)
    bytes (c.in_ok-medium.ensures.name ∙ ap medium_file c.as_str-2.ensures) (c.in_ok-medium.ensures.shows tells).sets in
    seal-added a loaded (g.D.Device.disk c.seal_set.new.dev) c.args.path.now name body on (c.seal_set.ensures.crash tells body (set-on c.args.staged.now c.args.header.now c.args.tables.now body on.call is))

pub returns-in_err-seal_set-clause-spares : goal.returns-in_err-seal_set-clause-spares
returns-in_err-seal_set-clause-spares g c tells =
    let call = nothing_then (g.met.D.Device.lawful tells c.args.dev.now) (nothing_by_sync (c.sync.ensures.effect tells) (c.in_ok-sync.ensures.same tells)) (c.load.ensures.effect tells) in
    spares-added (g.D.Device.disk c.args.dev.now) (g.D.Device.disk c.load.new.dev) (g.D.Device.disk c.seal_set.new.dev) c.args.path.now c.in_ok-medium.medium.name call (c.in_ok-medium.ensures.name ∙ ap medium_file c.as_str-2.ensures) (c.seal_set.ensures.touches tells)

pub returns-clause-crash : goal.returns-clause-crash
returns-clause-crash g c tells body is =
    let a = g.D.Device.disk c.args.dev.now in
    let loaded = g.D.Device.disk c.load.new.dev in
    let name = c.in_ok-medium.medium.name in
    let bytes = subst AreBytes c.as_str.ensures (text-bytes c.as_str.result.now c.as_str.utf8) in
    let on = seals-on a (g.D.Device.disk c.sync.new.self) loaded c.args.path.now name (g.met.D.Device.lawful tells c.args.dev.now) (c.sync.ensures.effect tells) (c.in_ok-sync.ensures.same tells) (c.load.ensures.effect tells)
    bytes (c.in_ok-medium.ensures.name ∙ ap medium_file c.as_str-2.ensures) (c.in_ok-medium.ensures.shows tells).sets in
    seal-added a loaded (g.D.Device.disk c.seal_set.new.dev) c.args.path.now name body on (c.seal_set.ensures.crash tells body (set-on c.args.staged.now c.args.header.now c.args.tables.now body on.call is))

pub returns-clause-sealed : goal.returns-clause-sealed
returns-clause-sealed g c tells body is =
    let a = g.D.Device.disk c.args.dev.now in
    let loaded = g.D.Device.disk c.load.new.dev in
    let name = c.in_ok-medium.medium.name in
    let bytes = subst AreBytes c.as_str.ensures (text-bytes c.as_str.result.now c.as_str.utf8) in
    let on = seals-on a (g.D.Device.disk c.sync.new.self) loaded c.args.path.now name (g.met.D.Device.lawful tells c.args.dev.now) (c.sync.ensures.effect tells) (c.in_ok-sync.ensures.same tells) (c.load.ensures.effect tells)
    bytes (c.in_ok-medium.ensures.name ∙ ap medium_file c.as_str-2.ensures) (c.in_ok-medium.ensures.shows tells).sets in
    let made = set-on c.args.staged.now c.args.header.now c.args.tables.now body on.call is in
    seal-has a loaded (g.D.Device.disk c.seal_set.new.dev) c.args.path.now name body on (c.seal_set.ensures.crash tells body made) (c.in_ok-seal_set.ensures.sets tells body made)

pub returns-clause-media : goal.returns-clause-media
returns-clause-media g c tells body is =
    let a = g.D.Device.disk c.args.dev.now in
    let loaded = g.D.Device.disk c.load.new.dev in
    let name = c.in_ok-medium.medium.name in
    let bytes = subst AreBytes c.as_str.ensures (text-bytes c.as_str.result.now c.as_str.utf8) in
    let on = seals-on a (g.D.Device.disk c.sync.new.self) loaded c.args.path.now name (g.met.D.Device.lawful tells c.args.dev.now) (c.sync.ensures.effect tells) (c.in_ok-sync.ensures.same tells) (c.load.ensures.effect tells)
    bytes (c.in_ok-medium.ensures.name ∙ ap medium_file c.as_str-2.ensures) (c.in_ok-medium.ensures.shows tells).sets in
    seal-calm a loaded (g.D.Device.disk c.seal_set.new.dev) c.args.path.now name body on (c.seal_set.ensures.crash tells body (set-on c.args.staged.now c.args.header.now c.args.tables.now body on.call is)) (c.in_ok-seal_set.ensures.durable tells)

pub returns-clause-spares : goal.returns-clause-spares
returns-clause-spares g c tells =
    let call = nothing_then (g.met.D.Device.lawful tells c.args.dev.now) (nothing_by_sync (c.sync.ensures.effect tells) (c.in_ok-sync.ensures.same tells)) (c.load.ensures.effect tells) in
    spares-added (g.D.Device.disk c.args.dev.now) (g.D.Device.disk c.load.new.dev) (g.D.Device.disk c.seal_set.new.dev) c.args.path.now c.in_ok-medium.medium.name call (c.in_ok-medium.ensures.name ∙ ap medium_file c.as_str-2.ensures) (c.seal_set.ensures.touches tells)

pub returns-in_err-file-clause-spares : goal.returns-in_err-file-clause-spares
returns-in_err-file-clause-spares g c tells = spares-nothing (g.D.Device.disk c.args.dev.now) (g.D.Device.disk c.args.dev.now) c.args.path.now (nothing_yet (g.D.Device.disk c.args.dev.now))

pub returns-in_err-sync-clause-spares : goal.returns-in_err-sync-clause-spares
returns-in_err-sync-clause-spares g c tells =
    spares-synced (g.D.Device.disk c.args.dev.now) (g.D.Device.disk c.sync.new.self) c.args.path.now c.deref.result.now (c.deref.ensures ∙ c.in_ok-file.ensures ∙ ap medium_file c.as_str.ensures) (c.sync.ensures.effect tells)

pub returns-in_err-medium-clause-spares : goal.returns-in_err-medium-clause-spares
returns-in_err-medium-clause-spares g c tells =
    let call = nothing_then (g.met.D.Device.lawful tells c.args.dev.now) (nothing_by_sync (c.sync.ensures.effect tells) (c.in_ok-sync.ensures.same tells)) (c.load.ensures.effect tells) in
    spares-nothing (g.D.Device.disk c.args.dev.now) (g.D.Device.disk c.load.new.dev) c.args.path.now call

pub returns-in_err-medium-clause-no_medium : goal.returns-in_err-medium-clause-no_medium
returns-in_err-medium-clause-no_medium g c tells =
    unloaded (g.D.Device.disk c.args.dev.now) (g.D.Device.disk c.sync.new.self) c.args.path.now (medium_file c.as_str-2.result.now) _ c.from_residual-in_err-medium.result
    (nothing_by_sync (c.sync.ensures.effect tells) (c.in_ok-sync.ensures.same tells)) (ap medium_file c.as_str-2.ensures) (c.in_err-medium.ensures.missing tells) (c.in_err-medium.ensures.not_media tells) c.from_residual-in_err-medium.ensures.1
