use Rattle.std.proofs.Common.{◌<◌, ◌^◌, ◌∙◌, ap, sym, subst, arith, rules}
use Rattle.bk_device.specs.Compose.{effect_then}
use Rattle.bk_paged.specs.Laws.{crash_as}
use Rattle.bk_paged.specs.Holds.{with_one}
use Rattle.bk_paged.specs.Paged.{Kept, Standing, checkpoint_record, sealed_count}
use Rattle.bk_paged.specs.StandLaws.{none-touches, standing-waiting, touches-as}
use Rattle.bk_paged.proofs.Saying.{checkpoint_said, none_one}
use Rattle.bk_paged.proofs.paged.Paged.checkpoint.Goals as goal

pub returns-in_err-append_checkpoint-clause-crash : goal.returns-in_err-append_checkpoint-clause-crash
returns-in_err-append_checkpoint-clause-crash g c t stood is = none_one c.args.self.now stood (g.D.Device.disk c.args.dev.now) (checkpoint_record c.args.self.now c.args.now) is

pub write_all-requires-clause-standing : goal.write_all-requires-clause-standing
write_all-requires-clause-standing g c t =
    subst (Standing (g.D.Device.disk c.args.dev.now)) (sym c.in_ok-append_checkpoint.ensures.more) (standing-waiting c.args.self.now (checkpoint_record c.args.self.now c.args.now) (c.requires.standing t))

pub returns-in_err-write_all-clause-crash : goal.returns-in_err-write_all-clause-crash
returns-in_err-write_all-clause-crash g c t stood is =
    let r = checkpoint_record c.args.self.now c.args.now in
    let small : c.args.now < 2 ^ 64 = search rules in
    let more = c.in_ok-append_checkpoint.ensures.more in
    let first = checkpoint_said c.undoing_law.ensures.no_longer c.args.self.now c.append_checkpoint.new.self stood (g.D.Device.disk c.args.dev.now) c.args.now is c.requires.room small more in
    let db = ap (λ (k : Kept). k.log.db) more in
    let stored = ap (λ (k : Kept). k.log.stored) more in
    crash_as c.args.self.now.log.db _ (sealed_count c.args.self.now) _ (with_one stood r) _ _ db (omega (arith, stored)) (c.write_all.ensures.crash t (with_one stood r) first)

pub returns-clause-crash : goal.returns-clause-crash
returns-clause-crash g c t stood is =
    let r = checkpoint_record c.args.self.now c.args.now in
    let small : c.args.now < 2 ^ 64 = search rules in
    let more = c.in_ok-append_checkpoint.ensures.more in
    let first = checkpoint_said c.undoing_law.ensures.no_longer c.args.self.now c.append_checkpoint.new.self stood (g.D.Device.disk c.args.dev.now) c.args.now is c.requires.room small more in
    let db = ap (λ (k : Kept). k.log.db) more in
    let stored = ap (λ (k : Kept). k.log.stored) more in
    let ends = ap (λ (k : Kept). k.log.end) more in
    let second = c.in_ok-write_all.ensures.stands t (with_one stood r) first in
    let all = c.in_ok-write_all.ensures.ends in
    effect_then (crash_as c.args.self.now.log.db _ (sealed_count c.args.self.now) _ (with_one stood r) _ _ db (omega (arith, stored)) (c.write_all.ensures.crash t (with_one stood r) first))
    (crash_as c.args.self.now.log.db _ (sealed_count c.args.self.now) _ (with_one stood r) _ _ (all.0 ∙ db) (omega (arith, ends, all.2, is.sealed)) (c.note_checkpoint.ensures.crash t (with_one stood r) second))

pub returns-clause-stands : goal.returns-clause-stands
returns-clause-stands g c t stood is =
    let r = checkpoint_record c.args.self.now c.args.now in
    let small : c.args.now < 2 ^ 64 = search rules in
    let first = checkpoint_said c.undoing_law.ensures.no_longer c.args.self.now c.append_checkpoint.new.self stood (g.D.Device.disk c.args.dev.now) c.args.now is c.requires.room small c.in_ok-append_checkpoint.ensures.more in
    c.note_checkpoint.ensures.stands t (with_one stood r) (c.in_ok-write_all.ensures.stands t (with_one stood r) first)

pub returns-in_err-append_checkpoint-clause-touches : goal.returns-in_err-append_checkpoint-clause-touches
returns-in_err-append_checkpoint-clause-touches g c t =
    none-touches c.args.self.now (g.D.Device.disk c.args.dev.now)

pub returns-in_err-write_all-clause-touches : goal.returns-in_err-write_all-clause-touches
returns-in_err-write_all-clause-touches g c t =
    touches-as c.args.self.now c.append_checkpoint.new.self (ap (λ (k : Kept). k.log.db) c.in_ok-append_checkpoint.ensures.more) (ap (λ (k : Kept). k.facts.files) c.in_ok-append_checkpoint.ensures.more) (c.write_all.ensures.touches t)

pub returns-clause-touches : goal.returns-clause-touches
returns-clause-touches g c t =
    let more = c.in_ok-append_checkpoint.ensures.more in
    let all = c.in_ok-write_all.ensures in
    effect_then (touches-as c.args.self.now c.append_checkpoint.new.self (ap (λ (k : Kept). k.log.db) more) (ap (λ (k : Kept). k.facts.files) more) (c.write_all.ensures.touches t))
    (touches-as c.args.self.now c.write_all.new.self (all.ends.0 ∙ ap (λ (k : Kept). k.log.db) more) (ap (λ (k : Kept). k.facts.files) all.same ∙ ap (λ (k : Kept). k.facts.files) more) (c.note_checkpoint.ensures.touches t))
