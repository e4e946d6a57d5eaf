use Rattle.std.proofs.Common.{◌≡◌, ℕ, List, [], length, sym, ap, ◌∙◌}
use Rattle.bk_device.specs.Disk.{Disk}
use Rattle.bk_store.specs.Told.{data_files}
use Rattle.bk_volume.specs.Staging.{HoldsParts, IsStaged}
use Rattle.bk_copying.specs.SetLaws.{length-same, own-keeps, parts-same, set-same}
use Rattle.bk_copying.proofs.Apart.{of-store, then-set}
use Rattle.bk_copying.proofs.Kept.{standing-kept, store-kept}
use Rattle.bk_copying.proofs.Parts.{extent-more, extent-staged}
use Rattle.bk_copying.proofs.copying.copy_extent.Goals as goal

pub add_extent-requires-clause-staged : goal.add_extent-requires-clause-staged
add_extent-requires-clause-staged g c t =
    let s = c.args.store.now in
    let set = c.args.staged.now in
    let same = set-same s.paged.log.db s.paged.facts.files set c.requires.named (c.read_extent.ensures.touches t) in
    length-same (g.D.Device.disk c.args.dev.now) (g.D.Device.disk c.read_extent.new.dev) set same (c.requires.staged t)

pub returns-in_err-read_extent-clause-crash : goal.returns-in_err-read_extent-clause-crash
returns-in_err-read_extent-clause-crash g c t told is = of-store c.args.store.now.paged.log.db (data_files told) c.args.staged.now (c.read_extent.ensures.crash t told is)

pub returns-in_err-read_extent-clause-touches : goal.returns-in_err-read_extent-clause-touches
returns-in_err-read_extent-clause-touches g c t = of-store c.args.store.now.paged.log.db c.args.store.now.paged.facts.files c.args.staged.now (c.read_extent.ensures.touches t)

pub returns-in_err-check_size-clause-crash : goal.returns-in_err-check_size-clause-crash
returns-in_err-check_size-clause-crash g c t told is = of-store c.args.store.now.paged.log.db (data_files told) c.args.staged.now (c.read_extent.ensures.crash t told is)

pub returns-in_err-check_size-clause-touches : goal.returns-in_err-check_size-clause-touches
returns-in_err-check_size-clause-touches g c t = of-store c.args.store.now.paged.log.db c.args.store.now.paged.facts.files c.args.staged.now (c.read_extent.ensures.touches t)

pub returns-in_err-add_extent-clause-crash : goal.returns-in_err-add_extent-clause-crash
returns-in_err-add_extent-clause-crash g c t told is =
    let db = c.args.store.now.paged.log.db in
    let read = c.read_extent.ensures.crash t told is in
    then-set db (data_files told) c.args.staged.now c.requires.named read.now (of-store db (data_files told) c.args.staged.now read) (c.add_extent.ensures.crash t)

pub returns-in_err-add_extent-clause-touches : goal.returns-in_err-add_extent-clause-touches
returns-in_err-add_extent-clause-touches g c t =
    let p = c.args.store.now.paged in
    then-set p.log.db p.facts.files c.args.staged.now c.requires.named (λ image mine. tt) (of-store p.log.db p.facts.files c.args.staged.now (c.read_extent.ensures.touches t)) (c.add_extent.ensures.crash t)

pub returns-clause-same : goal.returns-clause-same
returns-clause-same g c =
    let ends = c.in_ok-read_extent.ensures.ends in
    let same = c.in_ok-read_extent.ensures.same in
    record { fit = c.in_ok-read_extent.ensures.fit; db = ends.0; ends = ends.1; kept = ends.2; facts = ends.3; shown = same.0; known = same.1; note = same.2 }

pub returns-clause-stands : goal.returns-clause-stands
returns-clause-stands g c t told is =
    let then = c.read_extent.new.self in
    store-kept then told (own-keeps then.paged.log.db (data_files told) c.args.staged.now c.requires.named (c.add_extent.ensures.crash t)) (c.in_ok-read_extent.ensures.stands t told is)

pub returns-clause-standing : goal.returns-clause-standing
returns-clause-standing g c t =
    let p = c.read_extent.new.self.paged in
    standing-kept p (own-keeps p.log.db p.facts.files c.args.staged.now c.requires.named (c.add_extent.ensures.crash t)) (c.in_ok-read_extent.ensures.standing t)

pub returns-clause-staged : goal.returns-clause-staged
returns-clause-staged g c t =
    let set = c.args.staged.now in
    let b : Disk = g.D.Device.disk c.read_extent.new.dev in
    let z : Disk = g.D.Device.disk c.add_extent.new.dev in
    let size : length c.deref-2.result.now ≡ 65536 = ap (λ (bs : List ℕ). length bs) (c.deref-2.ensures.value ∙ sym c.deref.ensures.value) ∙ c.in_ok-check_size.ensures.size in
    let same = set-same c.args.store.now.paged.log.db c.args.store.now.paged.facts.files set c.requires.named (c.read_extent.ensures.touches t) in
    let was : IsStaged b set = length-same (g.D.Device.disk c.args.dev.now) b set same (c.requires.staged t) in
    extent-staged b z set c.add_extent.new.self c.args.at.file c.args.at.extent c.deref-2.result.now size c.in_ok-add_extent.ensures.counted (c.in_ok-add_extent.ensures.added t) was

pub returns-clause-added : goal.returns-clause-added
returns-clause-added g c t extents parts =
    let set = c.args.staged.now in
    let b : Disk = g.D.Device.disk c.read_extent.new.dev in
    let z : Disk = g.D.Device.disk c.add_extent.new.dev in
    let same = set-same c.args.store.now.paged.log.db c.args.store.now.paged.facts.files set c.requires.named (c.read_extent.ensures.touches t) in
    let was : HoldsParts b set extents [] = parts-same set extents [] same parts in
    extent-more b z set c.add_extent.new.self c.args.at.file c.args.at.extent c.deref-2.result.now c.read_extent.new.copy.items extents c.deref-2.ensures.value c.in_ok-add_extent.ensures.counted (c.in_ok-add_extent.ensures.added t) was

pub returns-clause-crash : goal.returns-clause-crash
returns-clause-crash g c t told is =
    let db = c.args.store.now.paged.log.db in
    let read = c.read_extent.ensures.crash t told is in
    then-set db (data_files told) c.args.staged.now c.requires.named read.now (of-store db (data_files told) c.args.staged.now read) (c.add_extent.ensures.crash t)

pub returns-clause-touches : goal.returns-clause-touches
returns-clause-touches g c t =
    let p = c.args.store.now.paged in
    then-set p.log.db p.facts.files c.args.staged.now c.requires.named (λ image mine. tt) (of-store p.log.db p.facts.files c.args.staged.now (c.read_extent.ensures.touches t)) (c.add_extent.ensures.crash t)
