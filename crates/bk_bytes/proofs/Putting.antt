-- A field that is written into the rest of a slice stands in the whole slice.
use Rattle.std.proofs.Common.{◌≡◌, ℕ, ◌+◌, ◌-◌, ◌≤◌, List, [], ◌++◌, length, take, drop, refl, sym, ap, ◌∙◌, append_assoc, arith}
use Rattle.std.proofs.lemmas.List.{append-nil, take_rest, drop-drop, drop_all, length-drop}
use borrow.Rule.Slice.PartMut.{put_mid}
use Rattle.byteorder.specs.Endian.{little_bytes}
use Rattle.bk_bytes.specs.Field.{bytes_of, with_field}
use Rattle.bk_bytes.specs.FieldLaws.{length-bytes_of}

-- the first bytes of the rest are the field, and nothing else changes
pub put_mid-field : (n x at : ℕ) (old rest : List ℕ) → at + n ≤ length old
    → rest ≡ little_bytes n x ++ drop n (take (length old - at) (drop at old))
    → put_mid at (length old - at) old rest ≡ with_field old at (bytes_of n x)
unfolding bytes_of
put_mid-field n x at old rest fits is =
    let field : List ℕ = bytes_of n x in
    let behind : drop n (take (length old - at) (drop at old)) ≡ drop (at + n) old = ap (drop n) (take_rest old at) ∙ drop-drop n at old in
    let past : drop (length old - at) (drop at old) ≡ [] = drop_all (length old - at) (drop at old) (omega (arith, length-drop at old)) in
    let made : put_mid at (length old - at) old rest ≡ take at old ++ (field ++ drop (at + n) old) = rw (past, append-nil rest, is, behind) refl in
    made ∙ sym (append_assoc (take at old) field (drop (at + n) old)) ∙ ap (λ (k : ℕ). (take at old ++ field) ++ drop (at + k) old) (sym (length-bytes_of n x))
