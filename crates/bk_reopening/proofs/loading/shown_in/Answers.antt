use Rattle.std.proofs.Common.{ℕ, List, sym, subst}
use Rattle.std.proofs.lemmas.Result.{IfOk-weaker, err_from_is_err_and}
use Rattle.bk_lemmas.specs.Tests.{same_error}
use Rattle.bk_shown.specs.Shown.{Shows}
use Rattle.bk_world.specs.declared.database.FileSpec.{FileSpec}
use Rattle.bk_world.specs.Records.{Logged}
use Rattle.bk_store.specs.Told.{files_of}
use Rattle.bk_reopening.specs.Reopening.{IsQuiet, IsSettled}
use Rattle.bk_reopening.specs.declared.error.OpenError.TheVariants.{Foreign}
use Rattle.bk_reopening.proofs.Opened.{files-read}
use Rattle.bk_reopening.proofs.Settled.{is-quiet}
use Rattle.bk_reopening.proofs.loading.shown_in.Goals as goal

pub returns-in_err-recent-clause-foreign : goal.returns-in_err-recent-clause-foreign
returns-in_err-recent-clause-foreign c =
    let p = err_from_is_err_and c.from_residual.result c.from_residual.ensures.1 in
    rw (p.1, p.2) (λ is told its. c.in_err-recent.ensures.foreign (same_error c.in_err-recent.field-0.0 Foreign is) told
    (subst (λ (bytes : List ℕ). IsSettled c.args.paged.now bytes c.args.known.now told) (sym c.as_slice.ensures) its))

-- the files that are handed on are those of the database
pub returns-clause-foreign : goal.returns-clause-foreign
returns-clause-foreign c is told its =
    let files = files-read c.args.known.now told c.as_slice-2.result.now c.as_slice-2.ensures its.noted in
    let read = subst (λ (bytes : List ℕ). IsSettled c.args.paged.now bytes c.args.known.now told) (sym c.as_slice.ensures) its in
    let quiet = is-quiet c.args.paged.now c.args.records c.args.known.now told c.in_ok-recent.recent its (c.in_ok-recent.ensures.says told read) in
    c.shown_of.ensures.foreign is told.records (subst (λ (fs : List FileSpec). IsQuiet fs told.records c.args.paged.now c.in_ok-recent.recent) (sym files) quiet)

pub returns-clause-shows : goal.returns-clause-shows
returns-clause-shows c told its =
    let files = files-read c.args.known.now told c.as_slice-2.result.now c.as_slice-2.ensures its.noted in
    let read = subst (λ (bytes : List ℕ). IsSettled c.args.paged.now bytes c.args.known.now told) (sym c.as_slice.ensures) its in
    let quiet = is-quiet c.args.paged.now c.args.records c.args.known.now told c.in_ok-recent.recent its (c.in_ok-recent.ensures.says told read) in
    let handed = c.as_slice-2.result.now in
    IfOk-weaker c.shown_of.result (λ shown. (rs : List Logged) → IsQuiet handed rs c.args.paged.now c.in_ok-recent.recent → Shows handed rs shown) (Shows (files_of told) told.records)
    (λ shown shows. subst (λ (fs : List FileSpec). Shows fs told.records shown) files (shows told.records (subst (λ (fs : List FileSpec). IsQuiet fs told.records c.args.paged.now c.in_ok-recent.recent) (sym files) quiet))) c.shown_of.ensures.shows
