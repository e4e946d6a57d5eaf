use Rattle.std.proofs.Common.{◌≤◌, ◌++◌, length, take, sym, ◌∙◌, ap, arith, append_assoc, length-append, length-take, rules}
use Rattle.std.proofs.lemmas.Result.{err_from_is_err_and}
use Rattle.bk_console.proofs.reading.read_script.Goals as goal

-- what was read so far and in this turn
pub returns-in_err-extend_from_slice-clause-read : goal.returns-in_err-extend_from_slice-clause-read
returns-in_err-extend_from_slice-clause-read g c =
    let before = c.loop-chunk.script.items in
    let more = take c.in_ok-count.count c.read.new.buf in
    let few : c.in_ok-count.count ≤ c.min-room.result = search (rules, c.in_ok-count.ensures.bound) in
    let len : length (before ++ more) ≤ 16777217 = omega (arith, length-append before more, length-take c.in_ok-count.count c.read.new.buf, c.min-room.ensures, c.len.ensures, c.len-in-loop-chunk.ensures) in
    let p = err_from_is_err_and c.from_residual-in_err-extend_from_slice.result c.from_residual-in_err-extend_from_slice.ensures.1 in
    rw (p.1, p.2) (
      before ++ more,
      len,
      (λ t. c.loop-chunk.invariant.read t ∙ ap (λ rest. before ++ rest) (c.in_ok-count.ensures.bytes t) ∙ sym (append_assoc before more _)),
      (λ e. let no : ⊥ = cc e in absurd no),
      (λ e. let no : ⊥ = cc e in absurd no),
    )
