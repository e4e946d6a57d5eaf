use Rattle.std.proofs.Common.{◌∙◌, ap, arith, sym}
use Rattle.std.proofs.lemmas.Result.{on_ok_weaker}
use Rattle.bk_device.specs.Compose.{effect_then}
use Rattle.bk_paged.specs.Laws.{crash_as}
use Rattle.bk_paged.specs.Paged.{Kept, sealed_count}
use Rattle.bk_paged.proofs.Saying.{all_same}
use Rattle.bk_paged.specs.StandLaws.{touches-as}
use Rattle.bk_paged.proofs.paged.Paged.write_all.Goals as goal

pub write_pages-requires-clause-standing : goal.write_pages-requires-clause-standing
write_pages-requires-clause-standing g c t = c.in_ok-flush.ensures.standing t (c.requires.standing t)

pub write_pages-requires-clause-sealed : goal.write_pages-requires-clause-sealed
write_pages-requires-clause-sealed g c = let sealed = c.in_ok-flush.ensures.sealed in sealed.2 ∙ sym sealed.1

pub returns-clause-crash : goal.returns-clause-crash
returns-clause-crash g c t stood is =
    let sealed = c.in_ok-flush.ensures.sealed in
    effect_then (c.flush.ensures.crash t stood is)
    (crash_as c.args.self.now.log.db _ (sealed_count c.args.self.now) _ stood _ _ sealed.0 (omega (arith, sealed.2, is.sealed)) (c.write_pages.ensures.crash t stood (c.in_ok-flush.ensures.stands t stood is)))

pub returns-clause-stands : goal.returns-clause-stands
returns-clause-stands g c t stood is = c.write_pages.ensures.stands t stood (c.in_ok-flush.ensures.stands t stood is)

pub returns-clause-same : goal.returns-clause-same
returns-clause-same g c = on_ok_weaker c.write_pages.result (λ same. all_same c.args.self.now c.flush.new.self c.write_pages.new.self c.in_ok-flush.ensures.same same c.in_ok-flush.ensures.sealed.1) c.write_pages.ensures.same

pub returns-clause-touches : goal.returns-clause-touches
returns-clause-touches g c t =
    effect_then (c.flush.ensures.touches t)
    (touches-as c.args.self.now c.flush.new.self c.in_ok-flush.ensures.sealed.0 (ap (λ (k : Kept). k.facts.files) c.in_ok-flush.ensures.same) (c.write_pages.ensures.touches t))
