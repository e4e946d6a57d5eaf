use Rattle.std.proofs.Common.{◌≡◌, ◌∙◌, [], ◌∷◌, None, Some, inl, inr, lit<, sym, subst}
use Rattle.bk_device.specs.Compose.{effect_then, effect_weaken}
use Rattle.bk_ids.specs.declared.guid.Guid.{Guid}
use Rattle.bk_kept.specs.Jobs.{IsApart}
use Rattle.bk_machine.specs.Acts.{done, done_all, job_set}
use Rattle.bk_machine.specs.World.{World}
use Rattle.bk_engine.specs.Copied.{staging_of}
use Rattle.bk_engine.specs.Copying.{HoldsFront, IsCopiedOf}
use Rattle.bk_engine.specs.Jobs.{ending}
use Rattle.bk_engine.specs.Stands.{NamesSet, StandsFor}
use Rattle.bk_engine.proofs.Ended.{ended-apart, ended-front, ended-online}
use Rattle.bk_engine.proofs.Named.{on-all}
use Rattle.bk_engine.proofs.Ran.{names-then, ok-both, ok-then}
use Rattle.bk_engine.proofs.engine.Engine.finish_set.Goals as goal

pub returns-clause-stands : goal.returns-clause-stands
returns-clause-stands g c = λ tells w job stamp is ends.
    let end : World = done_all w (ending c.args.name.now stamp c.args.transactions) in
    let said : StandsFor (g.D.Device.disk c.log.new.dev) c.log.new.self end = c.in_ok-log.ensures.stands tells (done w (job_set c.args.name.now None)) (stamp ∷ []) (c.in_ok-stopped.ensures.stands tells w is) ends.says in
    on-all c.finishing.result (λ value ok. c.finishing.ensures.stands tells end said)

pub returns-clause-own : goal.returns-clause-own
returns-clause-own g c =
    ok-then c.finishing.result (λ f same. subst (λ (s : Guid). NamesSet (Some s) c.args.self.now c.log.new.self) (sym same)
    (names-then (Some c.in_ok-stopped.stopped.0) c.args.self.now c.stop_job.new.self c.log.new.self c.in_ok-stopped.ensures.own c.in_ok-log.ensures.own)) c.finishing.ensures.is

pub returns-clause-holds : goal.returns-clause-holds
returns-clause-holds g c = λ tells w job stamp db is ends found.
    let name = c.args.name.now in
    let mid : World = done w (job_set name None) in
    let end : World = done_all w (ending name stamp c.args.transactions) in
    let stopped : StandsFor (g.D.Device.disk c.stop_job.new.dev) c.stop_job.new.self mid = c.in_ok-stopped.ensures.stands tells w is in
    let said : StandsFor (g.D.Device.disk c.log.new.dev) c.log.new.self end = c.in_ok-log.ensures.stands tells mid (stamp ∷ []) stopped ends.says in
    let both = c.in_ok-stopped.ensures.set tells w job ends.db is ends.found ends.runs in
    let of : IsCopiedOf mid name (g.D.Device.disk c.stop_job.new.dev) job = c.in_ok-stopped.ensures.copied tells w job ends.db is ends.found ends.runs in
    let front : HoldsFront end db job.checkpoint job.left (g.D.Device.disk c.log.new.dev) (staging_of job.set of.count) =
    ended-front w name job stamp c.args.transactions c.args.records.now ends c.what_is_said_comes_last.ensures.log stopped.sound (g.D.Device.disk c.stop_job.new.dev) (g.D.Device.disk c.log.new.dev) (c.log.ensures.sets tells job.set) of db found in
    ok-both c.finishing.result (λ f same holds.
    let own : f.set ≡ job.set = same ∙ both.0 in (
      own,
      subst (IsApart end) (sym own) (ended-apart w name job stamp c.args.transactions c.args.records.now ends is.sound),
      holds,
    )) c.finishing.ensures.is (c.finishing.ensures.holds tells end job db of.count said found (ended-online w name job stamp c.args.transactions c.args.records.now ends db found) both.0 both.1 front)

pub returns-in_err-stopped-clause-crash : goal.returns-in_err-stopped-clause-crash
returns-in_err-stopped-clause-crash g c = λ tells w job stamp is ends. effect_weaken (λ image covers. inl covers) (c.stop_job.ensures.crash tells w is)

pub returns-in_err-log-clause-crash : goal.returns-in_err-log-clause-crash
returns-in_err-log-clause-crash g c = λ tells w job stamp is ends.
    effect_then (effect_weaken (λ image covers. inl covers) (c.stop_job.ensures.crash tells w is))
    (effect_weaken (λ image left. inr left) (c.log.ensures.crash tells (done w (job_set c.args.name.now None)) (stamp ∷ []) (c.in_ok-stopped.ensures.stands tells w is) ends.says))

pub returns-clause-crash : goal.returns-clause-crash
returns-clause-crash g c = λ tells w job stamp is ends.
    let end : World = done_all w (ending c.args.name.now stamp c.args.transactions) in
    let mid = c.in_ok-stopped.ensures.stands tells w is in
    let said : StandsFor (g.D.Device.disk c.log.new.dev) c.log.new.self end = c.in_ok-log.ensures.stands tells (done w (job_set c.args.name.now None)) (stamp ∷ []) mid ends.says in
    effect_then (effect_weaken (λ image covers. inl covers) (c.stop_job.ensures.crash tells w is))
    (effect_then (effect_weaken (λ image left. inr left) (c.log.ensures.crash tells (done w (job_set c.args.name.now None)) (stamp ∷ []) mid ends.says))
    (effect_weaken (λ image covers. inr (inr (0, lit< tt, covers))) (c.finishing.ensures.crash tells end said)))

pub returns-in_err-log-clause-touches : goal.returns-in_err-log-clause-touches
returns-in_err-log-clause-touches g c = λ tells. effect_then (c.stop_job.ensures.touches tells) (c.log.ensures.touches tells)

pub returns-clause-touches : goal.returns-clause-touches
returns-clause-touches g c = λ tells. effect_then (c.stop_job.ensures.touches tells) (effect_then (c.log.ensures.touches tells) (c.finishing.ensures.touches tells))
