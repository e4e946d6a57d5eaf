use Rattle.std.proofs.Common.{rules, ◌≡◌, ◌≤◌, ◌+◌, ◌++◌, ℕ, List, length, sym, subst, arith, length-append}
use Rattle.bk_known.specs.Known.{Tells, known_bytes}
use Rattle.bk_known.specs.KnownLaws.{known_read, known_short}
use Rattle.bk_known.proofs.writing.spell_known.Goals as goal

pub returns-clause-tells : goal.returns-clause-tells
returns-clause-tells c =
    let same : c.extend_from_slice.new.self.items ≡ known_bytes c.args.known.now ++ c.args.note.now = search rules in
    subst (λ (bytes : List ℕ). Tells bytes c.args.known.now c.args.note.now) (sym same) (known_read c.args.known.now c.args.note.now c.in_ok-append_known.ensures.fits)

pub returns-clause-short : goal.returns-clause-short
returns-clause-short c =
    let same : c.extend_from_slice.new.self.items ≡ known_bytes c.args.known.now ++ c.args.note.now = search rules in
    let short = known_short c.args.known.now c.in_ok-append_known.ensures.fits c.requires in
    subst (λ (bytes : List ℕ). length bytes ≤ 9728 + length c.args.note.now) (sym same) (omega (arith, length-append (known_bytes c.args.known.now) c.args.note.now, short))
