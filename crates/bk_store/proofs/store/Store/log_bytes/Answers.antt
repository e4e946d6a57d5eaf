use Rattle.std.proofs.Common.{arith, subst, sym}
use Rattle.bk_store.specs.Store.{IsStore, Kept}
use Rattle.bk_store.specs.Told.{stood_of}
use Rattle.bk_store.specs.LiftLaws.{paged-stands}
use Rattle.bk_store.proofs.store.Store.log_bytes.Goals as goal

pub returns-in_err-bytes-clause-stands : goal.returns-in_err-bytes-clause-stands
returns-in_err-bytes-clause-stands g c t told is =
    let a = g.D.Device.disk c.args.dev.now in
    let b = g.D.Device.disk c.log_bytes.new.dev in
    let s : Kept = record { paged = c.self.inside.paged; shown = c.self.inside.shown; known = c.self.inside.known; note = c.self.inside.note.items } in
    let At : Kept → Type 0 = λ k. IsStore a k told in
    let Then : Kept → Type 0 = λ k. IsStore b k told in
    let here = subst At (sym c.self.view_is) is in
    subst Then c.self.view_is (paged-stands s told s.paged a b here (c.log_bytes.ensures.stands t (stood_of s.known told) here.paged) (omega arith))

pub returns-clause-stands : goal.returns-clause-stands
returns-clause-stands g c t told is =
    let a = g.D.Device.disk c.args.dev.now in
    let b = g.D.Device.disk c.log_bytes.new.dev in
    let s : Kept = record { paged = c.self.inside.paged; shown = c.self.inside.shown; known = c.self.inside.known; note = c.self.inside.note.items } in
    let At : Kept → Type 0 = λ k. IsStore a k told in
    let Then : Kept → Type 0 = λ k. IsStore b k told in
    let here = subst At (sym c.self.view_is) is in
    subst Then c.self.view_is (paged-stands s told s.paged a b here (c.log_bytes.ensures.stands t (stood_of s.known told) here.paged) (omega arith))

pub returns-clause-bytes : goal.returns-clause-bytes
returns-clause-bytes g c t told is =
    let a = g.D.Device.disk c.args.dev.now in
    let At : Kept → Type 0 = λ k. IsStore a k told in
    let here = subst At (sym c.self.view_is) is in
    c.in_ok-bytes.ensures.bytes t (stood_of c.self.inside.known told) here.paged
