use Rattle.std.proofs.Common.{◌<◌, ◌^◌, ℕ, ap, arith, refl, sym, subst}
use Rattle.bk_ids.specs.declared.record.Body.TheVariants.{Checkpoint}
use Rattle.bk_ids.specs.declared.record.Rec.{Rec}
use Rattle.bk_paged.specs.Paged.{Touches, checkpoint_record}
use Rattle.bk_world.specs.Records.{checkpointed}
use Rattle.bk_store.specs.Store.{Crashes, IsStore, Kept, at_end}
use Rattle.bk_store.specs.Told.{files_of, said, stood_of}
use Rattle.bk_store.specs.LiftLaws.{said-stands}
use Rattle.bk_store.proofs.More.{checkpoint-next, crash-said}
use Rattle.bk_store.proofs.store.Store.mark_checkpoint.Goals as goal

pub returns-in_err-checkpoint-clause-crash : goal.returns-in_err-checkpoint-clause-crash
returns-in_err-checkpoint-clause-crash g c t told is =
    let disk = g.D.Device.disk in
    let a = disk c.args.dev.now in
    let s : Kept = record { paged = c.self.inside.paged; shown = c.self.inside.shown; known = c.self.inside.known; note = c.self.inside.note.items } in
    let At : Kept → Type 0 = λ k. IsStore a k told in
    let Low : Kept → Type 0 = λ k. k.paged.log.end < 2 ^ 62 in
    let b = disk c.checkpoint.new.dev in
    let here = subst At (sym c.self.view_is) is in
    let next = checkpoint-next s told c.args.now a here (subst Low (sym c.self.view_is) c.requires.room) in
    let Crash : Kept → Type 0 = λ k. Crashes k (said told (at_end k 0 (checkpointed c.args.now))) a b in
    subst Crash c.self.view_is (crash-said s told (at_end s 0 (checkpointed c.args.now)) (checkpoint_record s.paged c.args.now) a b here next refl (c.checkpoint.ensures.crash t (stood_of s.known told) here.paged))

pub returns-in_err-take-clause-crash : goal.returns-in_err-take-clause-crash
returns-in_err-take-clause-crash g c t told is =
    let disk = g.D.Device.disk in
    let a = disk c.args.dev.now in
    let s : Kept = record { paged = c.self.inside.paged; shown = c.self.inside.shown; known = c.self.inside.known; note = c.self.inside.note.items } in
    let At : Kept → Type 0 = λ k. IsStore a k told in
    let Low : Kept → Type 0 = λ k. k.paged.log.end < 2 ^ 62 in
    let b = disk c.checkpoint.new.dev in
    let here = subst At (sym c.self.view_is) is in
    let next = checkpoint-next s told c.args.now a here (subst Low (sym c.self.view_is) c.requires.room) in
    let Crash : Kept → Type 0 = λ k. Crashes k (said told (at_end k 0 (checkpointed c.args.now))) a b in
    subst Crash c.self.view_is (crash-said s told (at_end s 0 (checkpointed c.args.now)) (checkpoint_record s.paged c.args.now) a b here next refl (c.checkpoint.ensures.crash t (stood_of s.known told) here.paged))

pub returns-clause-crash : goal.returns-clause-crash
returns-clause-crash g c t told is =
    let disk = g.D.Device.disk in
    let a = disk c.args.dev.now in
    let s : Kept = record { paged = c.self.inside.paged; shown = c.self.inside.shown; known = c.self.inside.known; note = c.self.inside.note.items } in
    let At : Kept → Type 0 = λ k. IsStore a k told in
    let Low : Kept → Type 0 = λ k. k.paged.log.end < 2 ^ 62 in
    let b = disk c.checkpoint.new.dev in
    let here = subst At (sym c.self.view_is) is in
    let next = checkpoint-next s told c.args.now a here (subst Low (sym c.self.view_is) c.requires.room) in
    let Crash : Kept → Type 0 = λ k. Crashes k (said told (at_end k 0 (checkpointed c.args.now))) a b in
    subst Crash c.self.view_is (crash-said s told (at_end s 0 (checkpointed c.args.now)) (checkpoint_record s.paged c.args.now) a b here next refl (c.checkpoint.ensures.crash t (stood_of s.known told) here.paged))

pub returns-clause-stands : goal.returns-clause-stands
returns-clause-stands g c t told is =
    let disk = g.D.Device.disk in
    let a = disk c.args.dev.now in
    let s : Kept = record { paged = c.self.inside.paged; shown = c.self.inside.shown; known = c.self.inside.known; note = c.self.inside.note.items } in
    let At : Kept → Type 0 = λ k. IsStore a k told in
    let Low : Kept → Type 0 = λ k. k.paged.log.end < 2 ^ 62 in
    let b = disk c.checkpoint.new.dev in
    let here = subst At (sym c.self.view_is) is in
    let next = checkpoint-next s told c.args.now a here (subst Low (sym c.self.view_is) c.requires.room) in
    let As : ℕ → Rec = λ n. record { lsn = n; begin = 0; body = Checkpoint c.args.now } in
    let r = at_end s 0 (checkpointed c.args.now) in
    let ends = c.in_ok-checkpoint.ensures.ends in
    let Then : Kept → Type 0 = λ k. IsStore b (record s { paged = c.checkpoint.new.self; shown = c.take.new.self }) (said told (at_end k 0 (checkpointed c.args.now))) in
    subst Then c.self.view_is (said-stands s told r (checkpoint_record s.paged c.args.now) c.checkpoint.new.self c.take.new.self a b here refl (c.in_ok-checkpoint.ensures.stands t (stood_of s.known told) here.paged)
    (c.in_ok-take.ensures.next (files_of told) told.records r here.shows next (ap As c.end.ensures)) (omega (arith, c.in_ok-checkpoint.ensures.checkpoint.1, ends.1, here.paged.sealed)))

pub returns-in_err-checkpoint-clause-touches : goal.returns-in_err-checkpoint-clause-touches
returns-in_err-checkpoint-clause-touches g c t =
    subst (λ (k : Kept). Touches k.paged (g.D.Device.disk c.args.dev.now) (g.D.Device.disk c.checkpoint.new.dev)) c.self.view_is (c.checkpoint.ensures.touches t)

pub returns-in_err-take-clause-touches : goal.returns-in_err-take-clause-touches
returns-in_err-take-clause-touches g c t =
    subst (λ (k : Kept). Touches k.paged (g.D.Device.disk c.args.dev.now) (g.D.Device.disk c.checkpoint.new.dev)) c.self.view_is (c.checkpoint.ensures.touches t)

pub returns-clause-touches : goal.returns-clause-touches
returns-clause-touches g c t =
    subst (λ (k : Kept). Touches k.paged (g.D.Device.disk c.args.dev.now) (g.D.Device.disk c.checkpoint.new.dev)) c.self.view_is (c.checkpoint.ensures.touches t)
