use Rattle.std.proofs.Common.{◌≡◌, ℕ, ◌-◌, List, length, take, drop, Option, Some, None, refl, sym, ap, ◌∙◌, arith, length-drop}
use Rattle.std.proofs.Math.Seq.{take-length}
use Rattle.bk_world.specs.declared.header.Header.{Header}
use Rattle.bk_bytes.specs.Field.{AreBytes}
use Rattle.bk_header.specs.Found.{BeginsWith, IsNoHeader}
use Rattle.bk_header.specs.Reading.{header_form}
use Rattle.bk_header.specs.Laws.{header_read, header_again}
use Rattle.bk_msdb.proofs.reading.read_header.Goals as goal

-- what begins with a header is read as it
begins : (bytes : List ℕ) (h : Header) (size : ℕ) → BeginsWith bytes h size → header_form.reading bytes ≡ Some (h, take (length bytes - size) (drop size bytes))
begins bytes h size is =
    let read : header_form.reading bytes ≡ Some (h, drop size bytes) = ap header_form.reading is.spelled ∙ header_again h (drop size bytes) is.header in
    let all : take (length bytes - size) (drop size bytes) ≡ drop size bytes = ap (λ (n : ℕ). take n (drop size bytes)) (sym (length-drop size bytes)) ∙ take-length (drop size bytes) in
    read ∙ ap (λ (rest : List ℕ). Some (h, rest)) (sym all)

-- where no front is a header nothing is read
none : (bytes : List ℕ) → AreBytes bytes → IsNoHeader bytes → (read : Option (Header × List ℕ)) → header_form.reading bytes ≡ read → header_form.reading bytes ≡ None
none bytes fits unread None is = is
none bytes fits unread (Some x) is = let a = header_read bytes x.0 x.1 fits is in absurd (unread x.0 x.1 a.1 a.0)

pub returns-in-Some : goal.returns-in-Some
returns-in-Some c = begins c.args.bytes.now c.in-Some.header c.in-Some.size (rw c.in-Some.is at c.in_ok-header.ensures)

pub returns-in-None : goal.returns-in-None
returns-in-None c =
    let fits : AreBytes c.args.bytes.now = λ i. omega (arith, c.type_inv.bytes i) in
    none c.args.bytes.now fits (rw c.in-None.is at c.in_ok-header.ensures) (header_form.reading c.args.bytes.now) refl
