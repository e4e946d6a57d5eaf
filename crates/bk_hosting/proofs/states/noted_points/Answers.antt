use Rattle.std.proofs.Common.{rules, ◌≡◌, [], Some, length, ◌∙◌}
use Rattle.bk_points.specs.Points.{points_form}
use Rattle.bk_hosting.proofs.Noted.{no-bytes, note-empty, note-read}
use Rattle.bk_hosting.proofs.states.noted_points.Goals as goal

pub returns-then-is_empty-clause-points : goal.returns-then-is_empty-clause-points
returns-then-is_empty-clause-points c = λ points is.
    let none : length c.args.note.now ≡ 0 = search rules in
    c.in_ok-made_points.ensures ∙ note-empty c.args.note.now c.args.files.now points is (no-bytes c.args.note.now none)

pub returns-in-Ok-clause-points : goal.returns-in-Ok-clause-points
returns-in-Ok-clause-points c = λ points is.
    let some : c.args.note.now ≡ [] → ⊥ = search rules in
    let read : points_form.reading c.args.note.now ≡ Some (points, []) = note-read c.args.note.now c.args.files.now points is some in
    search rules

pub returns-in-Ok-2-clause-broken : goal.returns-in-Ok-2-clause-broken
returns-in-Ok-2-clause-broken c = λ broken points is.
    let some : c.args.note.now ≡ [] → ⊥ = search rules in
    let read : points_form.reading c.args.note.now ≡ Some (points, []) = note-read c.args.note.now c.args.files.now points is some in
    search rules

pub returns-in-Err-Unspelled-clause-broken : goal.returns-in-Err-Unspelled-clause-broken
returns-in-Err-Unspelled-clause-broken c = λ broken points is.
    let some : c.args.note.now ≡ [] → ⊥ = search rules in
    let read : points_form.reading c.args.note.now ≡ Some (points, []) = note-read c.args.note.now c.args.files.now points is some in
    search rules
