use Rattle.std.proofs.Common.{rules, ◌≡◌, ◌≤◌, [], ℕ, List, Some, length, sym, subst}
use Rattle.bk_points.specs.Points.{points_bytes, points_form}
use Rattle.bk_points.specs.PointsLaws.{points_read_alone, points_short}
use Rattle.bk_points.proofs.writing.spell_points.Goals as goal

pub returns-clause-read : goal.returns-clause-read
returns-clause-read c =
    let same : c.append_points.new.out.items ≡ points_bytes c.args.points.now = search rules in
    subst (λ (bytes : List ℕ). points_form.reading bytes ≡ Some (c.args.points.now, [])) (sym same) (points_read_alone c.args.points.now c.in_ok-append_points.ensures.fits)

pub returns-clause-short : goal.returns-clause-short
returns-clause-short c =
    let same : c.append_points.new.out.items ≡ points_bytes c.args.points.now = search rules in
    subst (λ (bytes : List ℕ). length bytes ≤ 10667) (sym same) (points_short c.args.points.now c.in_ok-append_points.ensures.fits c.requires)
