use Rattle.std.proofs.Common.{◌≡◌, ℕ, ◌+◌, List, [], ◌++◌, length, take, drop, refl, ap, ◌∙◌, arith, append-nil, length-append, length-drop}
use Rattle.std.proofs.lemmas.List.{take_at, drop_all}
use Rattle.bk_bytes.specs.Field.{bytes_of, with_field}
use Rattle.bk_bytes.specs.FieldLaws.{length-bytes_of}
use Rattle.bk_volume.proofs.staging.head_of.Goals as goal

-- two fields that fill a buffer
head : (z x y f g : List ℕ) → length z ≡ 6 → length f ≡ 2 → length g ≡ 4 → x ≡ with_field z 0 f → y ≡ with_field x 2 g → y ≡ f ++ g
head z x y f g six two four first second =
    let is : x ≡ f ++ drop (0 + length f) z = first in
    let front : take 2 x ≡ f = ap (take 2) is ∙ take_at f (drop (0 + length f) z) 2 two in
    let size : length x ≡ 6 = ap length is ∙ simp (length-append, length-drop) (omega arith) in
    let rest : drop (2 + length g) x ≡ [] = drop_all (2 + length g) x (omega arith) in
    second ∙ ap (λ (t : List ℕ). (t ++ g) ++ drop (2 + length g) x) front ∙ ap (λ (r : List ℕ). (f ++ g) ++ r) rest ∙ append-nil (f ++ g)

pub returns : goal.returns
returns c = head _ c.put_u16.new.b c.put_u32.new.b (bytes_of 2 c.args.file) (bytes_of 4 c.args.extent) refl (length-bytes_of 2 c.args.file) (length-bytes_of 4 c.args.extent) c.put_u16.ensures c.put_u32.ensures
