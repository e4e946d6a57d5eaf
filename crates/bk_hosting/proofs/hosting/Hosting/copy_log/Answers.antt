use Rattle.std.proofs.Common.{List, sym, subst}
use Rattle.bk_world.specs.Records.{Logged}
use Rattle.bk_hosting.specs.Copying.{HoldsLog}
use Rattle.bk_hosting.specs.Hosting.{IsHosting, Kept}
use Rattle.bk_hosting.proofs.CopiedHosted.{copied-viewed, leaves-copied, still-hosting}
use Rattle.bk_hosting.proofs.SaidHosted.{Placed, placed-of}
use Rattle.bk_hosting.proofs.hosting.Hosting.copy_log.Goals as goal

pub returns-in_err-log_on-clause-stands : goal.returns-in_err-log_on-clause-stands
returns-in_err-log_on-clause-stands g c = λ tells hosted is.
    let a = g.D.Device.disk c.args.dev.now in
    let b = g.D.Device.disk c.log_on.new.dev in
    let x : Kept = record { stores = c.self.inside.stores; states = c.self.inside.states.items } in
    let is' : IsHosting a x hosted = subst (λ (k : Kept). IsHosting a k hosted) (sym c.self.view_is) is in
    subst (λ (k : Kept). IsHosting b k hosted) c.self.view_is (still-hosting a b x hosted is' (c.log_on.ensures.stands tells is'.tolds is'.stores))

pub returns-clause-stands : goal.returns-clause-stands
returns-clause-stands g c = λ tells hosted is.
    let a = g.D.Device.disk c.args.dev.now in
    let b = g.D.Device.disk c.log_on.new.dev in
    let x : Kept = record { stores = c.self.inside.stores; states = c.self.inside.states.items } in
    let is' : IsHosting a x hosted = subst (λ (k : Kept). IsHosting a k hosted) (sym c.self.view_is) is in
    subst (λ (k : Kept). IsHosting b k hosted) c.self.view_is (still-hosting a b x hosted is' (c.log_on.ensures.stands tells is'.tolds is'.stores))

pub returns-clause-added : goal.returns-clause-added
returns-clause-added g c = λ tells hosted h is here extents before parts.
    let a = g.D.Device.disk c.args.dev.now in
    let b = g.D.Device.disk c.log_on.new.dev in
    let x : Kept = record { stores = c.self.inside.stores; states = c.self.inside.states.items } in
    let is' : IsHosting a x hosted = subst (λ (k : Kept). IsHosting a k hosted) (sym c.self.view_is) is in
    let placed : Placed x c.args.at h is'.tolds = placed-of a x hosted c.args.at h is' here in
    subst (λ (rs : List Logged). HoldsLog b c.log_on.new.staged extents before rs c.args.from c.args.to) placed.tell.records (c.in_ok-log_on.ensures.added tells is'.tolds placed.told is'.stores placed.there extents before parts)

pub returns-in_err-log_on-clause-crash : goal.returns-in_err-log_on-clause-crash
returns-in_err-log_on-clause-crash g c = λ tells hosted is.
    let a = g.D.Device.disk c.args.dev.now in
    let b = g.D.Device.disk c.log_on.new.dev in
    let x : Kept = record { stores = c.self.inside.stores; states = c.self.inside.states.items } in
    let is' : IsHosting a x hosted = subst (λ (k : Kept). IsHosting a k hosted) (sym c.self.view_is) is in
    copied-viewed x c.args.self.now hosted c.args.staged.now c.self.view_is (leaves-copied a b x hosted c.args.staged.now is' (c.log_on.ensures.crash tells is'.tolds is'.stores))

pub returns-clause-crash : goal.returns-clause-crash
returns-clause-crash g c = λ tells hosted is.
    let a = g.D.Device.disk c.args.dev.now in
    let b = g.D.Device.disk c.log_on.new.dev in
    let x : Kept = record { stores = c.self.inside.stores; states = c.self.inside.states.items } in
    let is' : IsHosting a x hosted = subst (λ (k : Kept). IsHosting a k hosted) (sym c.self.view_is) is in
    copied-viewed x c.args.self.now hosted c.args.staged.now c.self.view_is (leaves-copied a b x hosted c.args.staged.now is' (c.log_on.ensures.crash tells is'.tolds is'.stores))
