use Rattle.std.proofs.Common.{◌≤◌, length, refl, inl, ap, arith, rules, ◌∙◌}
use Rattle.bk_device.specs.Laws.{cause_then}
use Rattle.bk_arriving.proofs.Adding.{advances_none, advances_then, stays_none, stays_then, touches_none, touches_then}
use Rattle.bk_arriving.proofs.Ahead.{all_turned}
use Rattle.bk_arriving.proofs.headers.push_headers.Goals as goal

pub files-init : goal.files-init
files-init g c = record {
  advances = advances_none c.args.arriving.now c.requires.even;
  turned = inl (omega arith);
  rest = refl;
  stays = λ t. stays_none c.args.arriving.now (g.D.Device.disk c.args.dev.now) (c.requires.stands t);
  brings = λ t given headers records old. old;
  effect = λ t. touches_none c.args.arriving.now (g.D.Device.disk c.args.dev.now);
  cause = search rules;
}

pub files-preserved : goal.files-preserved
files-preserved g c =
    let k = c.args.arriving.now in
    let now = c.files.arriving in
    let next = c.push_header.new.arriving in
    let so_far = c.files.invariant.advances in
    record {
      advances = advances_then k now next so_far c.in_ok-push_header.ensures.advances;
      turned = c.in_ok-push_header.ensures.turned c.files._i c.files.invariant.turned;
      rest = c.in_ok-push_header.ensures.rest ∙ c.files.invariant.rest;
      stays = λ t. stays_then k now next (g.D.Device.disk c.args.dev.now) (g.D.Device.disk c.files.dev) (g.D.Device.disk c.push_header.new.dev) so_far.log (c.files.invariant.stays t) (c.in_ok-push_header.ensures.stays t);
      brings = λ t given headers records old. c.in_ok-push_header.ensures.brings t given headers records (c.files.invariant.brings t given headers records old);
      effect = λ t. touches_then k now (g.D.Device.disk c.args.dev.now) (g.D.Device.disk c.files.dev) (g.D.Device.disk c.push_header.new.dev) so_far.files so_far.log (c.files.invariant.effect t) (c.push_header.ensures.crash t);
      cause = cause_then c.files.invariant.cause c.push_header.ensures.cause (λ none. absurd none);
    }

pub returns-in_err-push_header-clause-crash : goal.returns-in_err-push_header-clause-crash
returns-in_err-push_header-clause-crash g c t =
    let so_far = c.files.invariant.advances in
    touches_then c.args.arriving.now c.files.arriving (g.D.Device.disk c.args.dev.now) (g.D.Device.disk c.files.dev) (g.D.Device.disk c.push_header.new.dev) so_far.files so_far.log (c.files.invariant.effect t) (c.push_header.ensures.crash t)

pub returns-clause-past : goal.returns-clause-past
returns-clause-past g c =
    let few : length c.files.arriving.filling.files ≤ c.files._i = omega (arith, c.requires.few, c.files-test.false, ap length c.files.invariant.advances.files) in
    all_turned c.files.arriving.filling c.files._i few c.files.invariant.turned
