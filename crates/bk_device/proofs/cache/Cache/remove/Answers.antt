-- The entry that was found is changed; without one there is nothing to remove.
use Rattle.std.proofs.Common.{◌≡◌, ◌<◌, length, None, Some, ap, sym, ◌∙◌}
use Rattle.std.specs.Prelude.{string_bytes}
use Rattle.bk_device.specs.Disk.{replaced}
use Rattle.bk_device.specs.Held.{name_of, place_of, begin_of, durable_of, current_of, current_files}
use Rattle.bk_device.proofs.Lookups.{found, files_put_at, files_kept_at, files_none}
use Rattle.bk_device.proofs.cache.Cache.remove.Goals as goal

at : (c : goal.After-self-1) → (c.in-Some.i ≡ place_of name_of c.args.self.now.held.items c.args.name.now) × (c.in-Some.i < length c.args.self.now.held.items)
at c = found name_of c.args.self.now.held.items c.args.name.now (Some c.in-Some.i) c.in-Some.ensures

same_name : (c : goal.After-self-1) → name_of c.remove.new.self ≡ name_of c.index_mut.result.now
same_name c = ap string_bytes c.remove.ensures.name

pub returns-in-Some-clause-current : goal.returns-in-Some-clause-current
returns-in-Some-clause-current c =
    files_put_at name_of current_of c.args.self.now.held.items c.in-Some.i c.index_mut.result.now c.remove.new.self c.args.name.now (at c).0 (at c).1 c.index_mut.ensures.value (same_name c)
    ∙ ap (replaced (current_files c.args.self.now.held.items) c.args.name.now) c.remove.ensures.current

pub returns-in-Some-clause-durable : goal.returns-in-Some-clause-durable
returns-in-Some-clause-durable c = files_kept_at name_of durable_of c.args.self.now.held.items c.in-Some.i c.index_mut.result.now c.remove.new.self c.args.name.now (at c).0 (at c).1 c.index_mut.ensures.value (same_name c) c.remove.ensures.durable

pub returns-in-Some-clause-begin : goal.returns-in-Some-clause-begin
returns-in-Some-clause-begin c = files_kept_at name_of begin_of c.args.self.now.held.items c.in-Some.i c.index_mut.result.now c.remove.new.self c.args.name.now (at c).0 (at c).1 c.index_mut.ensures.value (same_name c) c.remove.ensures.begin

pub returns-in_default-clause-current : goal.returns-in_default-clause-current
returns-in_default-clause-current c = sym (files_none name_of current_of c.args.self.now.held.items c.args.name.now (found name_of c.args.self.now.held.items c.args.name.now None c.in_default.ensures))
