-- The entry at the name's place is changed.
use Rattle.std.proofs.Common.{◌≡◌, ◌≤◌, ℕ, List, Option, length, Some, ap, sym, ◌∙◌, subst}
use Rattle.std.specs.Prelude.{string_bytes}
use Rattle.bk_device.specs.Calls.{contents, written}
use Rattle.bk_device.specs.Disk.{Files, replaced}
use Rattle.bk_device.specs.Held.{name_of, begin_of, durable_of, current_of, current_files}
use Rattle.bk_device.proofs.Lookups.{look_at, files_put_at, files_kept_at, on_ok, on_err}
use Rattle.bk_device.proofs.cache.Cache.write.Goals as goal

pub write-requires : goal.write-requires
write-requires c =
    let At : Option (List ℕ) → Type 0 = λ content. c.args.at ≤ length (contents content) in
    let there : current_files c.place.new.self.held.items c.args.name.now ≡ current_of c.index_mut.result.now = look_at name_of current_of c.place.new.self.held.items c.in_ok-i.i c.index_mut.result.now c.args.name.now c.in_ok-i.ensures.place c.in_ok-i.ensures.inside c.index_mut.ensures.value in
    let before : current_files c.place.new.self.held.items c.args.name.now ≡ current_files c.args.self.now.held.items c.args.name.now = ap (λ (files : Files). files c.args.name.now) c.in_ok-i.ensures.current in
    subst At (sym before ∙ there) c.requires

same_name : (c : goal.After-self-1) → name_of c.write.new.self ≡ name_of c.index_mut.result.now
same_name c = ap string_bytes c.write.ensures.name

found_content : (c : goal.After-self-1) → current_of c.index_mut.result.now ≡ current_files c.args.self.now.held.items c.args.name.now
found_content c =
    sym (look_at name_of current_of c.place.new.self.held.items c.in_ok-i.i c.index_mut.result.now c.args.name.now c.in_ok-i.ensures.place c.in_ok-i.ensures.inside c.index_mut.ensures.value)
    ∙ ap (λ (files : Files). files c.args.name.now) c.in_ok-i.ensures.current

pub returns-clause-ok : goal.returns-clause-ok
returns-clause-ok c =
    on_ok c.write.result (λ done.
    files_put_at name_of current_of c.place.new.self.held.items c.in_ok-i.i c.index_mut.result.now c.write.new.self c.args.name.now c.in_ok-i.ensures.place c.in_ok-i.ensures.inside c.index_mut.ensures.value (same_name c)
    ∙ ap (λ (files : Files). replaced files c.args.name.now (current_of c.write.new.self)) c.in_ok-i.ensures.current
    ∙ ap (replaced (current_files c.args.self.now.held.items) c.args.name.now) (done ∙ ap (λ (content : Option (List ℕ)). Some (written (contents content) c.args.at c.args.bytes.now)) (found_content c)))
    c.write.ensures.ok

pub returns-clause-err : goal.returns-clause-err
returns-clause-err c =
    on_err c.write.result (λ same.
    files_kept_at name_of current_of c.place.new.self.held.items c.in_ok-i.i c.index_mut.result.now c.write.new.self c.args.name.now c.in_ok-i.ensures.place c.in_ok-i.ensures.inside c.index_mut.ensures.value (same_name c) same
    ∙ c.in_ok-i.ensures.current)
    c.write.ensures.err

pub returns-clause-durable : goal.returns-clause-durable
returns-clause-durable c =
    files_kept_at name_of durable_of c.place.new.self.held.items c.in_ok-i.i c.index_mut.result.now c.write.new.self c.args.name.now c.in_ok-i.ensures.place c.in_ok-i.ensures.inside c.index_mut.ensures.value (same_name c) c.write.ensures.durable
    ∙ c.in_ok-i.ensures.durable

pub returns-clause-begin : goal.returns-clause-begin
returns-clause-begin c =
    files_kept_at name_of begin_of c.place.new.self.held.items c.in_ok-i.i c.index_mut.result.now c.write.new.self c.args.name.now c.in_ok-i.ensures.place c.in_ok-i.ensures.inside c.index_mut.ensures.value (same_name c) c.write.ensures.begin
    ∙ c.in_ok-i.ensures.begin
