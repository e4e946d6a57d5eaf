use Rattle.std.proofs.Common.{◌≡◌, ◌+◌, ◌<◌, take, length, sym, ap, ◌∙◌, arith}
use Rattle.std.specs.Prelude.{slice_index_or, sum_by, count_by, not}
use Rattle.std.proofs.Math.ListN.{get_or-map}
use Rattle.std.proofs.lemmas.Bool.{eq-eqb, ne_eqb, cond-true, cond-false}
use Rattle.std.proofs.lemmas.List.{get_or_read, length-map}
use Rattle.std.proofs.lemmas.List.Sums.{sum_by_more}
use Rattle.bk_groups.specs.Groups.{Room, fresh_in, no_room}
use Rattle.bk_groups.specs.Sound.{no_space, room_of, rooms_of}
use Rattle.bk_groups.proofs.files.fresh_of.Goals as goal
use Rattle.bk_groups.proofs.files.fresh_of.Goals.{then-group, else-group}

pub loop-file-preserved : goal.loop-file-preserved
loop-file-preserved c =
    let files = c.args.files.now in
    let rooms = rooms_of files in
    let i = c.loop-file.file-index in
    let fresh = fresh_in c.args.group in
    let inside : i < length rooms = omega (arith, length-map files room_of) in
    let item : c.file-item.result ≡ slice_index_or files i no_space = get_or_read files i c.file-item.result c.loop-file-test.true c.file-item.is no_space in
    let room : slice_index_or rooms i no_room ≡ room_of c.file-item.result = get_or-map room_of files i no_space ∙ ap room_of (sym item) in
    let more : sum_by fresh (take (i + 1) rooms) ≡ sum_by fresh (take i rooms) + fresh (room_of c.file-item.result) =
    sum_by_more fresh rooms i no_room inside ∙ ap (λ (r : Room). sum_by fresh (take i rooms) + fresh r) room in
    elim c.if-group.branch [
      | then-group w ↦
          let counted : fresh (room_of c.file-item.result) ≡ count_by (λ t. not t) c.file-item.result.touched =
          cond-true _ _ _ (eq-eqb _ _ (sym c.group.ensures ∙ w.if-group.true)) in
          record {
            sum = w.total-is ∙ omega (arith, w.untouched-total.ensures.count, counted, more, c.loop-file.invariant.sum);
            small = omega (arith, w.total-is, w.untouched-total.ensures.small, c.loop-file.invariant.small);
          }
      | else-group w ↦
          let none : fresh (room_of c.file-item.result) ≡ 0 = cond-false _ _ _ (ne_eqb _ _ (λ e. w.if-group.false (c.group.ensures ∙ e))) in
          record { sum = w.total-is ∙ omega (arith, more, none, c.loop-file.invariant.sum); small = omega (arith, w.total-is) }
    ]
