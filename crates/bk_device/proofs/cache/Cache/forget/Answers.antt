-- Each file is made from the one in its place.
use Rattle.std.proofs.Common.{◌≡◌, length, take, drop, ◌++◌, ap, ◌∙◌, arith, length-set}
use Rattle.std.specs.Prelude.{string_bytes}
use Rattle.bk_device.specs.Held.{durable_of, begin_files, durable_files, current_files}
use Rattle.bk_device.proofs.Made.{AreMade, made_in_place, same_beyond, made_begin, made_durable, made_current, put_back}
use Rattle.bk_device.proofs.cache.Cache.forget.Goals as goal

pub loop-file-preserved : goal.loop-file-preserved
loop-file-preserved c = (
  made_in_place durable_of _ _ _ c.file-item.result _ (omega arith) c.loop-file.invariant.1 (record { name = ap string_bytes c.forget.ensures.name; begin = c.forget.ensures.begin; durable = c.forget.ensures.durable; current = c.forget.ensures.current }) c.loop-file.invariant.0,
  same_beyond _ _ _ _ c.loop-file.invariant.1,
  length-set c.loop-file.file-items c.loop-file.file-index c.forget.new.self ∙ c.loop-file.invariant.2,
)

kept : (c : goal.After-self-1) → take c.args.self.now.held.len (c.loop-file.file-items ++ drop (length c.loop-file.file-items) c.args.self.now.held.items) ≡ c.loop-file.file-items
kept c = let same = ap length c.deref_mut-file-items.ensures.value in put_back c.args.self.now.held.len c.loop-file.file-items c.args.self.now.held.items (c.loop-file.invariant.2 ∙ same) (omega (arith, c.deref_mut-file-items.ensures.len, same))

made : (c : goal.After-self-1) → AreMade durable_of c.deref_mut-file-items.result.now c.loop-file.file-items (length c.deref_mut-file-items.result.now)
made c = record { below = λ k d under. c.loop-file.invariant.0.below k d (omega arith) }

pub returns-clause-current : goal.returns-clause-current
returns-clause-current c = ap current_files (kept c) ∙ made_current durable_of _ _ c.loop-file.invariant.2 (made c) ∙ ap durable_files c.deref_mut-file-items.ensures.value

pub returns-clause-durable : goal.returns-clause-durable
returns-clause-durable c = ap durable_files (kept c) ∙ made_durable durable_of _ _ c.loop-file.invariant.2 (made c) ∙ ap durable_files c.deref_mut-file-items.ensures.value

pub returns-clause-begin : goal.returns-clause-begin
returns-clause-begin c = ap begin_files (kept c) ∙ made_begin durable_of _ _ c.loop-file.invariant.2 (made c) ∙ ap durable_files c.deref_mut-file-items.ensures.value
