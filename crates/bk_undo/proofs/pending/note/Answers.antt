use Rattle.std.proofs.Common.{[], ◌∷◌, ◌++◌, ◌∙◌, ap, refl, sym, arith}
use Rattle.bk_ids.specs.declared.record.Place.{Place}
use Rattle.bk_record.specs.View.{record_of, body_of}
use Rattle.bk_undo.proofs.Others.{noted_other}
use Rattle.bk_undo.proofs.Replay.{noted_write}
use Rattle.bk_undo.proofs.pending.note.Goals as goal

pub returns-in_ok-push-in-Write : goal.returns-in_ok-push-in-Write
returns-in_ok-push-in-Write c =
    c.in_ok-push-in-Write.ensures.items
    ∙ ap (λ (at : Place). c.args.writes.now.items ++ (record { lsn = c.args.logged.lsn; begin = c.args.logged.begin; place = at; before = record { bytes = c.in-Write.before.now } }) ∷ []) c.place_in.ensures
    ∙ sym (noted_write c.args.below (record_of c.args.logged) _ _ c.args.writes.now.items (omega (arith, c.if-logged-below.false)) (ap body_of c.in-Write.is) refl refl)

pub returns-in_default : goal.returns-in_default
returns-in_default c =
    sym (noted_other c.args.below c.args.logged.lsn c.args.logged.begin c.args.logged.body c.args.writes.now.items (omega (arith, c.if-logged-below.false)) c.in_default.not-Write c.in_default.not-Commit c.in_default.not-RollbackEnd c.in_default.not-Compensation)
