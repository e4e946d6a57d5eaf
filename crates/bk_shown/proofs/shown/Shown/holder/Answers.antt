use Rattle.std.proofs.Common.{◌≡◌, ◌∙◌, ap, subst, sym, true}
use Rattle.std.specs.Prelude.{is_some, IfSome}
use Rattle.std.specs.List.{AllByRecursion}
use Rattle.bk_world.specs.Places.{last_of}
use Rattle.bk_world.specs.Records.{RowId, id_of, is_row}
use Rattle.bk_shown.specs.Shown.{OneWriter}
use Rattle.bk_shown.specs.Writes.{writer_of}
use Rattle.bk_shown.proofs.Mirrors.{alone-mirror, writer-mirror}
use Rattle.bk_shown.proofs.shown.Shown.holder.Goals as goal

pub returns-clause-holder : goal.returns-clause-holder
returns-clause-holder c = λ files rs shows.
    let id : RowId = (c.args.table, c.args.key) in
    ap is_some (c.first_writer.ensures ∙ ap (λ ws. writer_of ws id) c.deref.ensures.value) ∙ writer-mirror c.args.self.now.written.items id ∙ ap (λ ws. is_some (last_of id ws)) shows.kept.pending

pub returns-clause-alone : goal.returns-clause-alone
returns-clause-alone c = λ files rs shows begin given.
    let id : RowId = (c.args.table, c.args.key) in
    subst (AllByRecursion (λ w. is_row (id_of w.change) id ≡ true → w.begin ≡ begin)) shows.kept.pending
    (alone-mirror c.args.self.now.written.items id begin (subst (λ ws. OneWriter ws id) (sym shows.kept.pending) (shows.log.places.single id))
    (subst (λ o. IfSome o (λ b. b ≡ begin)) (c.first_writer.ensures ∙ ap (λ ws. writer_of ws id) c.deref.ensures.value) given))
