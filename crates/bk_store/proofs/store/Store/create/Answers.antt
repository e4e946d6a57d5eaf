use Rattle.std.proofs.Common.{◌≡◌, ◌∙◌, [], false, subst}
use Rattle.std.proofs.lemmas.Result.{on_ok_weaker}
use Rattle.bk_device.specs.Compose.{effect_then}
use Rattle.bk_device.specs.Laws.{cause_then}
use Rattle.bk_world.specs.Records.{Logged, database_made}
use Rattle.bk_store.specs.Making.{Makes, founded, founding}
use Rattle.bk_store.specs.Store.{IsStore, at_end}
use Rattle.bk_store.specs.Told.{said, unsaid}
use Rattle.bk_store.proofs.Founded.{founding-is, founding-next, making-more, making-then, unless-fault, unless-ok}
use Rattle.bk_store.proofs.store.Store.create.Goals as goal

pub returns-in_err-store-clause-crash : goal.returns-in_err-store-clause-crash
returns-in_err-store-clause-crash g c t =
    making-more c.args.db (unsaid c.args.spec []) (founding c.args.time c.args.spec.family c.args.branch) (g.D.Device.disk c.args.dev.now) (g.D.Device.disk c.make.new.dev) (c.make.ensures.crash t)

pub returns-clause-crash : goal.returns-clause-crash
returns-clause-crash g c t =
    let spec = c.args.spec in
    let a = g.D.Device.disk c.args.dev.now in
    let b = g.D.Device.disk c.make.new.dev in
    let d = g.D.Device.disk c.found-done.new.dev in
    let store = c.in_ok-store.store in
    let r = founding c.args.time spec.family c.args.branch in
    let ends = c.in_ok-store.ensures.ends in
    let next = founding-next store spec c.args.time spec.family c.args.branch ends.2 in
    let same = founding-is store c.args.time spec.family c.args.branch ends.2 in
    let Of : Logged → Type 0 = λ x. Makes c.args.db (said (unsaid spec []) x) b d in
    let first = making-more c.args.db (unsaid spec []) r a b (c.make.ensures.crash t) in
    let crash = making-then store c.args.db (said (unsaid spec []) (at_end store 0 (database_made c.args.time spec.family c.args.branch))) b d ends.0 (c.found-done.ensures.crash t (unsaid spec []) (c.in_ok-store.ensures.stands t) next) in
    effect_then first (subst Of same crash)

pub returns-clause-stands : goal.returns-clause-stands
returns-clause-stands g c t =
    let spec = c.args.spec in
    let a = g.D.Device.disk c.args.dev.now in
    let b = g.D.Device.disk c.make.new.dev in
    let d = g.D.Device.disk c.found-done.new.dev in
    let store = c.in_ok-store.store in
    let r = founding c.args.time spec.family c.args.branch in
    let ends = c.in_ok-store.ensures.ends in
    let next = founding-next store spec c.args.time spec.family c.args.branch ends.2 in
    let same = founding-is store c.args.time spec.family c.args.branch ends.2 in
    let Of : Logged → Type 0 = λ x. IsStore d c.found-done.new.self (said (unsaid spec []) x) in
    unless-ok c.found-done.result c.unless_failed.result c.found-done.new.self (λ s. IsStore d s (founded spec c.args.time c.args.branch)) c.unless_failed.ensures
    (on_ok_weaker c.found-done.result (λ stands. subst Of same stands) (c.found-done.ensures.stands t (unsaid spec []) (c.in_ok-store.ensures.stands t) next))

pub returns-clause-fit : goal.returns-clause-fit
returns-clause-fit g c = unless-ok c.found-done.result c.unless_failed.result c.found-done.new.self (λ s. s.paged.failed ≡ false) c.unless_failed.ensures c.found-done.ensures.fit

pub returns-clause-ends : goal.returns-clause-ends
returns-clause-ends g c =
    unless-ok c.found-done.result c.unless_failed.result c.found-done.new.self (λ s. (s.paged.log.db ≡ c.args.db) × (s.paged.log.stored ≡ s.paged.log.end)) c.unless_failed.ensures
    (on_ok_weaker c.found-done.result (λ ends. (ends.0 ∙ c.in_ok-store.ensures.ends.0, ends.2)) c.found-done.ensures.ends)

pub returns-clause-cause : goal.returns-clause-cause
returns-clause-cause g c =
    let made = c.in_ok-store.ensures.cause in
    cause_then (record { rose = λ none. absurd none; never_falls = made.never_falls; tell_faults = made.tell_faults }) c.found-done.ensures.cause (unless-fault c.found-done.result c.unless_failed.result c.found-done.new.self c.unless_failed.ensures)

pub found-done-requires-clause-standing : goal.found-done-requires-clause-standing
found-done-requires-clause-standing g c t = (c.in_ok-store.ensures.stands t).paged.standing
