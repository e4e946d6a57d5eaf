use Rattle.std.proofs.Common.{◌≡◌, drop}
use Rattle.std.specs.Prelude.{option_map}
use Rattle.bk_shown.specs.Writes.{own_of, value_after}
use Rattle.bk_shown.proofs.asking.seen_over.Given as goal

abbrev pub invariant-loop-write : goal.invariant-loop-write
invariant-loop-write l =
    value_after (l.table, l.key) (own_of l.begin (drop l.write-index l.written)) (option_map (λ text. text.now) l.value)
    ≡ value_after (l.table, l.key) (own_of l.begin l.written) (option_map (λ text. text.now) l.initial.value)
