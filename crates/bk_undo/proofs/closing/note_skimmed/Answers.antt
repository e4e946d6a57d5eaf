use Rattle.std.proofs.Common.{◌≡◌, ◌==◌, ℕ, true, sym, subst}
use Rattle.std.specs.List.{list_any}
use Rattle.bk_undo.proofs.Covered.{covers-write}
use Rattle.bk_undo.proofs.closing.note_skimmed.Goals as goal

pub returns-in_ok-add_begun-in-Write : goal.returns-in_ok-add_begun-in-Write
returns-in_ok-add_begun-in-Write c r ws shows covers =
    let seen = rw c.in-Write.is at shows in
    let added = c.in_ok-add_begun-in-Write.ensures.added in
    covers-write c.add_begun.new.begun.items c.args.below r ws (c.in_ok-add_begun-in-Write.ensures.covers ws covers) (subst (λ (begin : ℕ). list_any (λ b. b == begin) c.add_begun.new.begun.items ≡ true) (sym seen.1.1) added)
