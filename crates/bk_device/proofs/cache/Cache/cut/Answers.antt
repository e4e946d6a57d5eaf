-- The entry at the name's place is changed.
use Rattle.std.proofs.Common.{◌≡◌, ℕ, List, Option, take, ap, sym, ◌∙◌}
use Rattle.std.specs.Prelude.{string_bytes, option_map}
use Rattle.bk_device.specs.Disk.{Files, replaced}
use Rattle.bk_device.specs.Held.{name_of, begin_of, durable_of, current_of, current_files}
use Rattle.bk_device.proofs.Lookups.{look_at, files_put_at, files_kept_at, on_ok, on_err}
use Rattle.bk_device.proofs.cache.Cache.cut.Goals as goal

same_name : (c : goal.After-self-1) → name_of c.cut.new.self ≡ name_of c.index_mut.result.now
same_name c = ap string_bytes c.cut.ensures.name

found_content : (c : goal.After-self-1) → current_of c.index_mut.result.now ≡ current_files c.args.self.now.held.items c.args.name.now
found_content c =
    sym (look_at name_of current_of c.place.new.self.held.items c.in_ok-i.i c.index_mut.result.now c.args.name.now c.in_ok-i.ensures.place c.in_ok-i.ensures.inside c.index_mut.ensures.value)
    ∙ ap (λ (files : Files). files c.args.name.now) c.in_ok-i.ensures.current

pub returns-clause-ok : goal.returns-clause-ok
returns-clause-ok c =
    on_ok c.cut.result (λ done.
    files_put_at name_of current_of c.place.new.self.held.items c.in_ok-i.i c.index_mut.result.now c.cut.new.self c.args.name.now c.in_ok-i.ensures.place c.in_ok-i.ensures.inside c.index_mut.ensures.value (same_name c)
    ∙ ap (λ (files : Files). replaced files c.args.name.now (current_of c.cut.new.self)) c.in_ok-i.ensures.current
    ∙ ap (replaced (current_files c.args.self.now.held.items) c.args.name.now) (done ∙ ap (λ (content : Option (List ℕ)). option_map (take c.args.len) content) (found_content c)))
    c.cut.ensures.ok

pub returns-clause-err : goal.returns-clause-err
returns-clause-err c =
    on_err c.cut.result (λ same.
    files_kept_at name_of current_of c.place.new.self.held.items c.in_ok-i.i c.index_mut.result.now c.cut.new.self c.args.name.now c.in_ok-i.ensures.place c.in_ok-i.ensures.inside c.index_mut.ensures.value (same_name c) same
    ∙ c.in_ok-i.ensures.current)
    c.cut.ensures.err

pub returns-clause-durable : goal.returns-clause-durable
returns-clause-durable c =
    files_kept_at name_of durable_of c.place.new.self.held.items c.in_ok-i.i c.index_mut.result.now c.cut.new.self c.args.name.now c.in_ok-i.ensures.place c.in_ok-i.ensures.inside c.index_mut.ensures.value (same_name c) c.cut.ensures.durable
    ∙ c.in_ok-i.ensures.durable

pub returns-clause-begin : goal.returns-clause-begin
returns-clause-begin c =
    files_kept_at name_of begin_of c.place.new.self.held.items c.in_ok-i.i c.index_mut.result.now c.cut.new.self c.args.name.now c.in_ok-i.ensures.place c.in_ok-i.ensures.inside c.index_mut.ensures.value (same_name c) c.cut.ensures.begin
    ∙ c.in_ok-i.ensures.begin
