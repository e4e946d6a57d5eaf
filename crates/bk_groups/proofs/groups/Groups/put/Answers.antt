use Rattle.std.proofs.Common.{◌≡◌, ◌≢◌, ℕ, cond, List, Some, None, sym, ap, subst, ◌∙◌, arith}
use Rattle.std.specs.Prelude.{◌==◌, ◌&&◌}
use Rattle.bk_groups.specs.Groups.{Space, Room, IsCell, place_among}
use Rattle.bk_groups.specs.Sound.{Agrees, bit_at_place, rooms_of}
use Rattle.bk_groups.proofs.Agreement.{Agrees-taken}
use Rattle.bk_groups.proofs.Rows.{is_at-row_cmp}
use Rattle.bk_groups.proofs.groups.Groups.put.Goals as goal

pub invariant_of-self-2 : goal.invariant_of-self-2
invariant_of-self-2 c =
    let files = c.self.inside.files.items in
    let places = c.self.inside.places.entries in
    let new_files = c.take_cell.new.files.items in
    let new_places = c.insert.new.self.entries in
    let at = c.args.at.now in
    let rooms : rooms_of files ≡ c.args.self.now.rooms = ap (λ (s : Space). s.rooms) c.self.view_is in
    let same : places ≡ c.args.self.now.places = ap (λ (s : Space). s.places) c.self.view_is in
    let cell : IsCell (rooms_of files) at = subst (λ (r : List Room). IsCell r at) (sym rooms) c.requires.cell in
    let none : place_among places (c.args.table, c.args.key) ≡ None = ap (λ ps. place_among ps (c.args.table, c.args.key)) same ∙ c.requires.none in
    let nobody : (row : ℕ × ℕ) → place_among places row ≢ Some at =
    λ row e. c.requires.free row.0 row.1 (ap (λ ps. place_among ps row) (sym same) ∙ e) in
    let old = c.self.invariant.agrees in
    let writes = c.take_cell.ensures in
    let updates = c.in_ok-insert.ensures.updates in
    record {
      few = omega (arith, writes.len, c.self.invariant.few);
      agrees = subst (λ (r : List Room). Agrees r (bit_at_place new_files) new_places) (sym writes.rooms)
          (Agrees-taken (rooms_of files) (bit_at_place files) (bit_at_place new_files) places new_places (c.args.table, c.args.key) at old none cell
          (old.free at cell nobody) updates.0 updates.1 writes.bit writes.others);
    }

pub returns-clause-ok : goal.returns-clause-ok
returns-clause-ok c =
    let places = c.self.inside.places.entries in
    let row : ℕ × ℕ = (c.args.table, c.args.key) in
    let same : places ≡ c.args.self.now.places = ap (λ (s : Space). s.places) c.self.view_is in
    let updates = c.in_ok-insert.ensures.updates in
    record {
      rooms = c.take_cell.ensures.rooms ∙ ap (λ (s : Space). s.rooms) c.self.view_is;
      tables = ap (λ (s : Space). s.tables) c.self.view_is;
      places = λ t k. updates.0 (t, k) ∙ ap (λ b. cond b (Some c.args.at.now) (place_among places (t, k))) (is_at-row_cmp row (t, k))
          ∙ ap (λ ps. cond (t == c.args.table && k == c.args.key) (Some c.args.at.now) (place_among ps (t, k))) same;
    }
