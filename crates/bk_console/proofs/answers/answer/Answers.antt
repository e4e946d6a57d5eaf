use Rattle.std.proofs.Common.{◌≡◌, ◌++◌, ◌∙◌, ap, subst, sym, Err}
use Rattle.std.proofs.lemmas.Result.{err_from_is_err_and}
use Rattle.bk_device.specs.Calls.{TellsFront}
use Rattle.bk_device.specs.Compose.{keeps_by_telling, keeps_then}
use Rattle.bk_report.specs.Listing.{listing_text}
use Rattle.bk_world.specs.Text.{reply_text}
use Rattle.bk_console.specs.Answers.{is_refusal, executed_error}
use Rattle.bk_console.specs.declared.answers.AnswerError.TheVariants.{Console, Broken}
use Rattle.bk_console.proofs.Asking.{OnErr-from, asked_once, keeps-touched, silent-cut, silent-front, telling-cut, told-stands, told-standing, not-console, executed-broken}
use Rattle.bk_console.proofs.Sparing.{cut-in_reply, cut-before_reply, reserves-none, spares-effect, spares-nothing, spares-telling, spares-then}
use Rattle.bk_console.proofs.answers.answer.Goals as goal

pub returns-in_err-reply-clause-cut_short : goal.returns-in_err-reply-clause-cut_short
returns-in_err-reply-clause-cut_short g c =
    let p = err_from_is_err_and c.from_residual.result c.from_residual.ensures.1 in
    OnErr-from _ (cut-before_reply _ _ _ _ _ _ _ _ _ c.now-now.result (asked_once _ _ _ c.now-now.result c.now-now.ensures.value c.now-now.ensures.coming)
    (λ h. let same : executed_error c.in_err-reply.field-0.0 ≡ Console = cc (p.1, p.2, h) in not-console c.in_err-reply.field-0.0 same)
    c.in_err-reply.ensures.not_done (λ t. (c.in_err-reply.ensures.touches t).told))

pub returns-in_err-text-clause-cut_short : goal.returns-in_err-text-clause-cut_short
returns-in_err-text-clause-cut_short g c =
    let one = c.in_ok-reply.ensures.done.executed in
    OnErr-from _ (cut-in_reply _ _ _ _ _ _ _ _ _ c.now-now.result
    (asked_once _ _ _ c.now-now.result c.now-now.ensures.value c.now-now.ensures.coming) one.outcome one.may
    (λ t w stands. silent-cut w one.outcome _ _ (one.crash t w stands))
    (λ t. silent-front _ (g.D.Device.disk c.args.device.now) (g.D.Device.disk c.execute_one.new.device) (c.in_ok-reply.ensures.touches t).told)
    (λ t w stands. spares-effect (one.spares t w stands)))

pub returns-in_err-tell-clause-cut_short : goal.returns-in_err-tell-clause-cut_short
returns-in_err-tell-clause-cut_short g c =
    let done = c.in_ok-reply.ensures.done in
    let one = done.executed in
    let text = c.as_bytes.ensures.value ∙ c.in_ok-text.ensures ∙ ap (reply_text listing_text) (sym one.replies) in
    OnErr-from _ (cut-in_reply _ _ _ _ _ _ _ _ _ c.now-now.result
    (asked_once _ _ _ c.now-now.result c.now-now.ensures.value c.now-now.ensures.coming) one.outcome one.may
    (λ t w stands. telling-cut w one.outcome _ _ _ _ (done.holds t w stands) (c.in_ok-reply.ensures.touches t).told text (one.crash t w stands) (c.in_err-tell.ensures.effect t))
    (λ t. subst (λ told. TellsFront (reply_text listing_text one.outcome.reply) told (g.D.Device.disk c.tell.new.self).told) (c.in_ok-reply.ensures.touches t).told
    (subst (λ bytes. TellsFront bytes (g.D.Device.disk c.execute_one.new.device).told (g.D.Device.disk c.tell.new.self).told) text (c.in_err-tell.ensures.effect t).front))
    (λ t w stands. spares-then (spares-effect (one.spares t w stands)) (spares-telling (c.in_err-tell.ensures.effect t))))

pub returns-clause-answered : goal.returns-clause-answered
returns-clause-answered g c =
    let done = c.in_ok-reply.ensures.done in
    let one = done.executed in
    let text = c.as_bytes.ensures.value ∙ c.in_ok-text.ensures ∙ ap (reply_text listing_text) (sym one.replies) in
    record {
      now = c.now-now.result;
      outcome = one.outcome;
      asked = asked_once _ _ _ c.now-now.result c.now-now.ensures.value c.now-now.ensures.coming;
      may = one.may;
      does = λ t w stands. told-stands _ _ _ _ _ (c.in_ok-tell.ensures.effect t) (one.does t w stands);
      crashes = λ t w stands. telling-cut w one.outcome _ _ _ _ (done.holds t w stands) (c.in_ok-reply.ensures.touches t).told text (one.crash t w stands) (c.in_ok-tell.ensures.effect t);
      text = λ t. c.in_ok-tell.ensures.told t ∙ ap (λ bytes. (g.D.Device.disk c.execute_one.new.device).told ++ bytes) text ∙ ap (λ told. told ++ reply_text listing_text one.outcome.reply) (c.in_ok-reply.ensures.touches t).told;
      which = c.is_refusal-refused.ensures ∙ ap is_refusal (sym one.replies);
      still = λ t w stands still.
          let rests = one.still t w stands still in
          record { files = spares-then (spares-nothing rests.device) (spares-telling (c.in_ok-tell.ensures.effect t)); reserves = reserves-none rests };
      spares = λ t w stands. spares-then (spares-effect (one.spares t w stands)) (spares-telling (c.in_ok-tell.ensures.effect t));
    }

pub returns-in_err-reply-clause-broken : goal.returns-in_err-reply-clause-broken
returns-in_err-reply-clause-broken g c t h w stands =
    let p = err_from_is_err_and c.from_residual.result c.from_residual.ensures.1 in
    let same : executed_error c.in_err-reply.field-0.0 ≡ Broken = cc (p.1, p.2, h) in
    c.in_err-reply.ensures.broken t (ap Err (executed-broken c.in_err-reply.field-0.0 same)) w stands

pub returns-clause-standing : goal.returns-clause-standing
returns-clause-standing g c t = told-standing (c.execute_one.new.engine) _ _ _ (c.in_ok-tell.ensures.effect t) (c.in_ok-reply.ensures.standing t)

pub returns-in_err-reply-clause-others : goal.returns-in_err-reply-clause-others
returns-in_err-reply-clause-others g c t = keeps-touched (c.in_err-reply.ensures.touches t)

pub returns-in_err-text-clause-others : goal.returns-in_err-text-clause-others
returns-in_err-text-clause-others g c t = keeps-touched (c.in_ok-reply.ensures.touches t)

pub returns-in_err-tell-clause-others : goal.returns-in_err-tell-clause-others
returns-in_err-tell-clause-others g c t = keeps_then (keeps-touched (c.in_ok-reply.ensures.touches t)) (keeps_by_telling (c.in_err-tell.ensures.effect t))

pub returns-clause-others : goal.returns-clause-others
returns-clause-others g c t = keeps_then (keeps-touched (c.in_ok-reply.ensures.touches t)) (keeps_by_telling (c.in_ok-tell.ensures.effect t))
