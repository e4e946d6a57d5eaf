use Rattle.std.proofs.Common.{rules, ◌≡◌, ◌≤◌, ◌∙◌, ℕ, List, length, refl, subst}
use Rattle.std.specs.Prelude.{IsErrOf}
use Rattle.bk_device.specs.Compose.{effect_then}
use Rattle.bk_device.specs.Disk.{Disk}
use Rattle.bk_device.specs.Effects.{Effect}
use Rattle.bk_device.specs.Laws.{nothing_then, nothing_yet}
use Rattle.bk_hosted.specs.Hosted.{Hosted}
use Rattle.bk_master.specs.declared.record.Own.{Own}
use Rattle.bk_stores.specs.QuietLaws.{quiet-moved}
use Rattle.bk_stores.specs.Stores.{IsOurs}
use Rattle.bk_hosting.specs.Loading.{LeavesUndoing}
use Rattle.bk_stores.specs.TouchLaws.{none-touched}
use Rattle.bk_device.specs.declared.trouble.Trouble.TheVariants.{Broken}
use Rattle.bk_hosting.proofs.Loaded.{all-hosting, all-ready}
use Rattle.bk_hosting.proofs.Opening.{rest-undoing}
use Rattle.bk_hosting.proofs.hosting.Hosting.open_all.Goals as goal

-- an own part that is the same
next-crash : {a b : Disk} {one other : Own} (number : ℕ) (hosted : List Hosted) → other ≡ one → Effect IsOurs (LeavesUndoing number other hosted) a b → Effect IsOurs (LeavesUndoing number one hosted) a b
next-crash {a} {b} number hosted same effect = subst (λ (o : Own). Effect IsOurs (LeavesUndoing number o hosted) a b) same effect

pub stores-init : goal.stores-init
stores-init g c = record {
  partly = c.requires.partly;
  standing = λ tells. c.requires.standing tells;
  opening = λ tells hosted is. is;
  own = refl;
  crash = λ tells number hosted is. rest-undoing (g.D.Device.disk c.args.dev.now) c.args.self.now hosted is c.requires.partly number;
  touches = λ tells. none-touched (g.D.Device.disk c.args.dev.now);
  still = λ tells quiet. nothing_yet (g.D.Device.disk c.args.dev.now);
  cause = search rules;
}

pub stores-preserved : goal.stores-preserved
stores-preserved g c = record {
  partly = c.in_ok-open_next.ensures.partly;
  standing = λ tells. c.in_ok-open_next.ensures.standing tells;
  opening = λ tells hosted is. c.in_ok-open_next.ensures.stands tells hosted (c.stores.invariant.opening tells hosted is);
  own = c.in_ok-open_next.ensures.own ∙ c.stores.invariant.own;
  crash = λ tells number hosted is. effect_then (c.stores.invariant.crash tells number hosted is) (next-crash number hosted c.stores.invariant.own (c.open_next.ensures.crash tells number hosted (c.stores.invariant.opening tells hosted is)));
  touches = λ tells. effect_then (c.stores.invariant.touches tells) (c.open_next.ensures.touches tells);
  still = λ tells quiet.
      let call = c.stores.invariant.still tells quiet in
      nothing_then (g.met.D.Device.lawful tells c.args.dev.now) call (c.in_ok-open_next.ensures.still tells (quiet-moved call quiet));
  cause = search rules;
}

pub returns-in_err-open_next-clause-crash : goal.returns-in_err-open_next-clause-crash
returns-in_err-open_next-clause-crash g c = λ tells number hosted is. effect_then (c.stores.invariant.crash tells number hosted is) (next-crash number hosted c.stores.invariant.own (c.open_next.ensures.crash tells number hosted (c.stores.invariant.opening tells hosted is)))

pub returns-in_err-open_next-clause-touches : goal.returns-in_err-open_next-clause-touches
returns-in_err-open_next-clause-touches g c = λ tells. effect_then (c.stores.invariant.touches tells) (c.open_next.ensures.touches tells)

pub returns-in_err-open_next-clause-broken : goal.returns-in_err-open_next-clause-broken
returns-in_err-open_next-clause-broken g c = λ tells broken hosted is.
    let err : IsErrOf c.open_next.result Broken = search rules in
    c.open_next.ensures.broken tells err hosted (c.stores.invariant.opening tells hosted is)

pub returns-clause-ready : goal.returns-clause-ready
returns-clause-ready g c =
    let all : length c.stores.self.stores.slots ≤ length c.stores.self.states = search rules in
    all-ready c.stores.self c.stores.invariant.partly all

pub returns-clause-stands : goal.returns-clause-stands
returns-clause-stands g c = λ tells hosted is.
    let all : length c.stores.self.stores.slots ≤ length c.stores.self.states = search rules in
    all-hosting (g.D.Device.disk c.stores.dev) c.stores.self hosted c.stores.invariant.partly all (c.stores.invariant.opening tells hosted is)
