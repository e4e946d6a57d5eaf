use Rattle.std.proofs.Common.{◌≡◌, ℕ, cond, List, Some, None, sym, ap, subst, ◌∙◌, arith}
use Rattle.std.specs.Prelude.{◌==◌, ◌&&◌}
use Rattle.bk_groups.specs.Groups.{Space, Room, place_among}
use Rattle.bk_groups.specs.Sound.{Agrees, bit_at_place, rooms_of}
use Rattle.bk_groups.proofs.Agreement.{Agrees-freed}
use Rattle.bk_groups.proofs.Rows.{is_at-row_cmp}
use Rattle.bk_groups.proofs.groups.Groups.free.Goals as goal

pub invariant_of-self : goal.invariant_of-self
invariant_of-self c =
    let files = c.self.inside.files.items in
    let places = c.self.inside.places.entries in
    let new_files = c.give_cell_back.new.files.items in
    let new_places = c.remove.new.self.entries in
    let was : place_among places (c.args.table, c.args.key) ≡ Some c.in-Some.at = sym c.in-Some.ensures.value in
    let writes = c.give_cell_back.ensures in
    let updates = c.in-Some.ensures.updates in
    record {
      few = omega (arith, writes.len, c.self.invariant.few);
      agrees = subst (λ (r : List Room). Agrees r (bit_at_place new_files) new_places) (sym writes.rooms)
          (Agrees-freed (rooms_of files) (bit_at_place files) (bit_at_place new_files) places new_places (c.args.table, c.args.key) c.in-Some.at
          c.self.invariant.agrees was updates.1 updates.0 writes.bit writes.others);
    }

pub returns : goal.returns
returns c =
    let places = c.self.inside.places.entries in
    let row : ℕ × ℕ = (c.args.table, c.args.key) in
    let same : places ≡ c.args.self.now.places = ap (λ (s : Space). s.places) c.self.view_is in
    let updates = c.in-Some.ensures.updates in
    record {
      rooms = c.give_cell_back.ensures.rooms ∙ ap (λ (s : Space). s.rooms) c.self.view_is;
      tables = ap (λ (s : Space). s.tables) c.self.view_is;
      places = λ t k. updates.0 (t, k) ∙ ap (λ b. cond b None (place_among places (t, k))) (is_at-row_cmp row (t, k))
          ∙ ap (λ ps. cond (t == c.args.table && k == c.args.key) None (place_among ps (t, k))) same;
    }
