use Rattle.std.proofs.Common.{◌+◌, ℕ, List, length, inl}
use Rattle.bk_device.specs.Compose.{effect_of_nothing}
use Rattle.bk_device.specs.Disk.{Disk}
use Rattle.bk_store.specs.Told.{data_files}
use Rattle.bk_volume.specs.Staging.{HoldsParts, IsStaged}
use Rattle.bk_copying.specs.SetLaws.{length-same, own-keeps, parts-same, set-same}
use Rattle.bk_copying.proofs.Apart.{of-store, then-set}
use Rattle.bk_copying.proofs.Kept.{standing-kept, store-kept, store-left}
use Rattle.bk_copying.proofs.Parts.{log-counted, log-more, log-staged}
use Rattle.bk_copying.proofs.copying.copy_log.Goals as goal

pub add_log-requires-clause-staged : goal.add_log-requires-clause-staged
add_log-requires-clause-staged g c t =
    let s = c.args.store.now in
    let set = c.args.staged.now in
    let same = set-same s.paged.log.db s.paged.facts.files set c.requires.named (c.log_bytes.ensures.touches t) in
    length-same (g.D.Device.disk c.args.dev.now) (g.D.Device.disk c.log_bytes.new.dev) set same (c.requires.staged t)

pub returns-in_err-bytes-clause-crash : goal.returns-in_err-bytes-clause-crash
returns-in_err-bytes-clause-crash g c t told is =
    effect_of_nothing (λ image mine. store-left c.args.store.now told (g.D.Device.disk c.args.dev.now) image is (λ name own. mine name (inl own))) (c.log_bytes.ensures.effect t)

pub returns-in_err-bytes-clause-touches : goal.returns-in_err-bytes-clause-touches
returns-in_err-bytes-clause-touches g c t = of-store c.args.store.now.paged.log.db c.args.store.now.paged.facts.files c.args.staged.now (c.log_bytes.ensures.touches t)

pub returns-in_err-add_log-clause-stands : goal.returns-in_err-add_log-clause-stands
returns-in_err-add_log-clause-stands g c t told is =
    let s = c.args.store.now in
    store-kept s told (own-keeps s.paged.log.db (data_files told) c.args.staged.now c.requires.named (c.add_log.ensures.crash t)) (c.log_bytes.ensures.stands t told is)

pub returns-in_err-add_log-clause-standing : goal.returns-in_err-add_log-clause-standing
returns-in_err-add_log-clause-standing g c t =
    let p = c.args.store.now.paged in
    standing-kept p (own-keeps p.log.db p.facts.files c.args.staged.now c.requires.named (c.add_log.ensures.crash t)) (c.log_bytes.ensures.standing t)

pub returns-in_err-add_log-clause-crash : goal.returns-in_err-add_log-clause-crash
returns-in_err-add_log-clause-crash g c t told is =
    let s = c.args.store.now in
    let b = g.D.Device.disk c.log_bytes.new.dev in
    then-set s.paged.log.db (data_files told) c.args.staged.now c.requires.named (λ image mine. store-left s told b image (c.log_bytes.ensures.stands t told is) mine)
    (effect_of_nothing (λ image mine. store-left s told (g.D.Device.disk c.args.dev.now) image is (λ name own. mine name (inl own))) (c.log_bytes.ensures.effect t)) (c.add_log.ensures.crash t)

pub returns-in_err-add_log-clause-touches : goal.returns-in_err-add_log-clause-touches
returns-in_err-add_log-clause-touches g c t =
    let p = c.args.store.now.paged in
    then-set p.log.db p.facts.files c.args.staged.now c.requires.named (λ image mine. tt) (of-store p.log.db p.facts.files c.args.staged.now (c.log_bytes.ensures.touches t)) (c.add_log.ensures.crash t)

pub returns-clause-stands : goal.returns-clause-stands
returns-clause-stands g c t told is =
    let s = c.args.store.now in
    store-kept s told (own-keeps s.paged.log.db (data_files told) c.args.staged.now c.requires.named (c.add_log.ensures.crash t)) (c.log_bytes.ensures.stands t told is)

pub returns-clause-standing : goal.returns-clause-standing
returns-clause-standing g c t =
    let p = c.args.store.now.paged in
    standing-kept p (own-keeps p.log.db p.facts.files c.args.staged.now c.requires.named (c.add_log.ensures.crash t)) (c.log_bytes.ensures.standing t)

pub returns-clause-counted : goal.returns-clause-counted
returns-clause-counted g c = log-counted c.args.staged.now c.add_log.new.self (c.args.staged.now.log + length c.deref.result.now) c.in_ok-add_log.ensures.counted

pub returns-clause-staged : goal.returns-clause-staged
returns-clause-staged g c t =
    let s = c.args.store.now in
    let set = c.args.staged.now in
    let b : Disk = g.D.Device.disk c.log_bytes.new.dev in
    let z : Disk = g.D.Device.disk c.add_log.new.dev in
    let same = set-same s.paged.log.db s.paged.facts.files set c.requires.named (c.log_bytes.ensures.touches t) in
    let was : IsStaged b set = length-same (g.D.Device.disk c.args.dev.now) b set same (c.requires.staged t) in
    log-staged b z set c.add_log.new.self c.deref.result.now c.in_ok-add_log.ensures.counted (c.in_ok-add_log.ensures.added t) was

pub returns-clause-added : goal.returns-clause-added
returns-clause-added g c t told is extents before parts =
    let s = c.args.store.now in
    let set = c.args.staged.now in
    let b : Disk = g.D.Device.disk c.log_bytes.new.dev in
    let z : Disk = g.D.Device.disk c.add_log.new.dev in
    let same = set-same s.paged.log.db s.paged.facts.files set c.requires.named (c.log_bytes.ensures.touches t) in
    let was : HoldsParts b set extents before = parts-same set extents before same parts in
    let log : List ℕ = c.in_ok-bytes.bytes.items in
    let here = log-more b z set c.add_log.new.self extents before c.deref.result.now log c.deref.ensures.value c.in_ok-add_log.ensures.counted (c.in_ok-add_log.ensures.added t) was in
    (log, c.in_ok-bytes.ensures.bytes t told is, here)

pub returns-clause-crash : goal.returns-clause-crash
returns-clause-crash g c t told is =
    let s = c.args.store.now in
    let b = g.D.Device.disk c.log_bytes.new.dev in
    then-set s.paged.log.db (data_files told) c.args.staged.now c.requires.named (λ image mine. store-left s told b image (c.log_bytes.ensures.stands t told is) mine)
    (effect_of_nothing (λ image mine. store-left s told (g.D.Device.disk c.args.dev.now) image is (λ name own. mine name (inl own))) (c.log_bytes.ensures.effect t)) (c.add_log.ensures.crash t)

pub returns-clause-touches : goal.returns-clause-touches
returns-clause-touches g c t =
    let p = c.args.store.now.paged in
    then-set p.log.db p.facts.files c.args.staged.now c.requires.named (λ image mine. tt) (of-store p.log.db p.facts.files c.args.staged.now (c.log_bytes.ensures.touches t)) (c.add_log.ensures.crash t)
