use Rattle.std.proofs.Common.{rules, ◌≡◌, ◌≤◌, ◌∙◌, List, Some, length, take, slice_get, refl, sym, subst, arith}
use Rattle.std.proofs.lemmas.Option.{slice_get_read}
use Rattle.bk_store.specs.Store.{IsStore}
use Rattle.bk_store.specs.TouchLaws.{touches-then, unmoved-touches}
use Rattle.bk_store.specs.Told.{Told}
use Rattle.bk_world.specs.Records.{Logged}
use Rattle.bk_hosting.specs.Saying.{MaySayAll, telling}
use Rattle.bk_hosting.proofs.Said.{NextAt, all-said, crash-next, crash-none, next-at, none-said, rest-store}
use Rattle.bk_hosting.proofs.saying.say_all.Goals as goal

pub loop-r-init : goal.loop-r-init
loop-r-init g c = record {
  fit = c.requires.fit;
  standing = λ tells. c.requires.standing tells;
  number = refl;
  files = refl;
  stands = λ tells told next is may. subst (IsStore (g.D.Device.disk c.args.dev.now) c.args.store.now) (sym (none-said told next)) is;
  later = λ tells told next is may. omega arith;
  crash = λ tells told next is may. crash-none c.args.store.now told next (g.D.Device.disk c.args.dev.now) (g.D.Device.disk c.args.dev.now) is (rest-store c.args.store.now told (g.D.Device.disk c.args.dev.now) is);
  touches = λ tells. unmoved-touches g.D.Device.disk c.args.dev.now c.args.dev.now c.args.store.now.paged refl;
  cause = search rules;
}

pub loop-r-preserved : goal.loop-r-preserved
loop-r-preserved g c =
    let there : slice_get c.args.records.now c.loop-r.r-index ≡ Some c.r-item.result =
    slice_get_read c.args.records.now (length c.args.records.now) c.loop-r.r-index c.r-item.result refl c.loop-r-test.true c.r-item.is in
    let later : g.D.Device.tells → (told : Told) (next : List Logged) → IsStore (g.D.Device.disk c.args.dev.now) c.args.store.now told → MaySayAll told next c.args.records.now
    → c.loop-r.store.paged.log.stored ≤ c.say.new.self.paged.log.stored = λ tells told next is may.
    c.in_ok-say.ensures.later tells (telling told (take c.loop-r.r-index next)) (c.loop-r.invariant.stands tells told next is may) in
    record {
      fit = c.in_ok-say.ensures.fit;
      standing = λ tells. c.in_ok-say.ensures.standing tells;
      number = c.in_ok-say.ensures.ends.0 ∙ c.loop-r.invariant.number;
      files = c.in_ok-say.ensures.files ∙ c.loop-r.invariant.files;
      stands = λ tells told next is may.
          let at : NextAt told next c.loop-r.r-index c.r-item.result = next-at told next c.args.records.now c.loop-r.r-index c.r-item.result may there in
          subst (IsStore (g.D.Device.disk c.say.new.dev) c.say.new.self) (sym at.more)
          (c.in_ok-say.ensures.stands tells (telling told (take c.loop-r.r-index next)) at.r (c.loop-r.invariant.stands tells told next is may) at.may at.is);
      later = λ tells told next is may.
          let before = c.loop-r.invariant.later tells told next is may in let after = later tells told next is may in omega (arith, before, after);
      crash = λ tells told next is may.
          crash-next c.args.store.now c.loop-r.store told next c.loop-r.r-index (g.D.Device.disk c.args.dev.now) (g.D.Device.disk c.loop-r.dev) (g.D.Device.disk c.say.new.dev) c.loop-r.invariant.number
          (c.loop-r.invariant.later tells told next is may) is (c.loop-r.invariant.stands tells told next is may) (c.loop-r.invariant.crash tells told next is may)
          (c.say.ensures.crash tells (telling told (take c.loop-r.r-index next)) (c.loop-r.invariant.stands tells told next is may));
      touches = λ tells. touches-then c.args.store.now.paged c.loop-r.store.paged c.loop-r.invariant.number c.loop-r.invariant.files (c.loop-r.invariant.touches tells) (c.say.ensures.touches tells);
      cause = search rules;
    }

pub returns-in_err-say-clause-crash : goal.returns-in_err-say-clause-crash
returns-in_err-say-clause-crash g c = λ tells told next is may.
    crash-next c.args.store.now c.loop-r.store told next c.loop-r.r-index (g.D.Device.disk c.args.dev.now) (g.D.Device.disk c.loop-r.dev) (g.D.Device.disk c.say.new.dev) c.loop-r.invariant.number
    (c.loop-r.invariant.later tells told next is may) is (c.loop-r.invariant.stands tells told next is may) (c.loop-r.invariant.crash tells told next is may)
    (c.say.ensures.crash tells (telling told (take c.loop-r.r-index next)) (c.loop-r.invariant.stands tells told next is may))

pub returns-in_err-say-clause-touches : goal.returns-in_err-say-clause-touches
returns-in_err-say-clause-touches g c = λ tells. touches-then c.args.store.now.paged c.loop-r.store.paged c.loop-r.invariant.number c.loop-r.invariant.files (c.loop-r.invariant.touches tells) (c.say.ensures.touches tells)

pub returns-clause-stands : goal.returns-clause-stands
returns-clause-stands g c = λ tells told next is may.
    let all : c.loop-r.r-index ≡ length c.args.records.now = let low = c.loop-r-test.false in let high = c.loop-r.auto.r-index-end in omega (arith, low, high) in
    subst (IsStore (g.D.Device.disk c.loop-r.dev) c.loop-r.store) (all-said told next c.args.records.now c.loop-r.r-index may all) (c.loop-r.invariant.stands tells told next is may)
