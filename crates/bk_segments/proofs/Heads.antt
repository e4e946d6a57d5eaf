-- A control record that is spelled is read back.
use Rattle.std.proofs.Common.{◌≡◌, ◌<◌, ◌^◌, ℕ, List, ◌++◌, Some, refl, arith}
use Rattle.bk_bytes.specs.Field.{bytes_of}
use Rattle.bk_bytes.specs.Codec.{number_at}
use Rattle.bk_bytes.specs.CodecLaws.{number-IsCodec}
use Rattle.bk_segments.specs.declared.head.Head.{Head}
use Rattle.bk_segments.specs.Control.{control_bytes, read_control}

field_read : (x : ℕ) (rest : List ℕ) → x < 2 ^ 64 → number_at 8 (bytes_of 8 x ++ rest) ≡ Some (x, rest)
field_read x rest small = (number-IsCodec 8).gives x rest (omega (arith, small))

pub control_read : (head : Head) (note : List ℕ) → head.kept < 2 ^ 64 → head.gone < 2 ^ 64 → head.front < 2 ^ 64 → head.back < 2 ^ 64 → head.first < 2 ^ 64 → read_control (control_bytes head note) ≡ Some (head, note)
unfolding read_control control_bytes
control_read head note kept gone front back first =
    rw (
      field_read head.kept (bytes_of 8 head.gone ++ (bytes_of 8 head.front ++ (bytes_of 8 head.back ++ (bytes_of 8 head.first ++ note)))) kept,
      field_read head.gone (bytes_of 8 head.front ++ (bytes_of 8 head.back ++ (bytes_of 8 head.first ++ note))) gone,
      field_read head.front (bytes_of 8 head.back ++ (bytes_of 8 head.first ++ note)) front,
      field_read head.back (bytes_of 8 head.first ++ note) back,
      field_read head.first note first,
    ) refl
