use Rattle.std.proofs.Common.{rules, ◌≡◌, ◌<◌, ◌∙◌, ◌∷◌, [], ℕ, length, sym, ap, subst, arith}
use Rattle.std.specs.Prelude.{remove}
use Rattle.bk_device.specs.Compose.{effect_then}
use Rattle.bk_master.specs.declared.record.Record.{Record}
use Rattle.bk_master.specs.Spelling.{KeepsRecord}
use Rattle.bk_stores.specs.LessLaws.{length-less-same, less-keeps}
use Rattle.bk_stores.specs.Records.{left_out, unfinished_at}
use Rattle.bk_stores.specs.Stores.{AreStores, fixed_of}
use Rattle.bk_stores.specs.TouchLaws.{parts-touched}
use Rattle.bk_stores.proofs.LeftOut.{less-fixed}
use Rattle.bk_stores.proofs.Aside.{aside-crash, aside-stands, drops-then, left-aside}
use Rattle.bk_stores.proofs.Created.{on-ok}
use Rattle.bk_stores.proofs.stores.Stores.remove.Goals as goal

pub returns-in_err-number-clause-crash : goal.returns-in_err-number-clause-crash
returns-in_err-number-clause-crash g c t tolds told is may = c.leave_out.ensures.crash t tolds told is may

pub returns-in_err-remove_parts-clause-crash : goal.returns-in_err-remove_parts-clause-crash
returns-in_err-remove_parts-clause-crash g c t tolds told is may =
    let disk = g.D.Device.disk in
    let then = c.leave_out.new.self in
    let n = c.in_ok-number.number in
    let unfinished : then.master.record.unfinished ≡ unfinished_at n c.args.paths.now ∷ [] = search rules in
    let slots : then.slots ≡ remove c.args.self.now.slots c.args.at = search rules in
    let own = ap fixed_of c.in_ok-number.ensures.record.3 ∙ less-fixed c.args.self.now.master.record c.args.at c.in_ok-number.number c.args.paths.now in
    let here = c.in_ok-number.ensures.stands t tolds told is may in
    drops-then c.args.self.now then tolds c.args.at (disk c.args.dev.now) (disk c.leave_out.new.dev) (disk c.remove_parts.new.dev) own slots (c.leave_out.ensures.crash t tolds told is may)
    (aside-crash then (remove tolds c.args.at) n c.args.paths.now unfinished here (c.remove_parts.ensures.crash t))

pub rest-requires-clause-keeps : goal.rest-requires-clause-keeps
rest-requires-clause-keeps g c =
    let disk = g.D.Device.disk in
    let r = c.args.self.now.master.record in
    let then = c.leave_out.new.self in
    let n = c.in_ok-number.number in
    let it = c.in_ok-number.ensures.record in
    let inside : c.args.at < length r.databases = omega (arith, c.requires.inside, c.requires.ready.count) in
    subst KeepsRecord (sym it.3) (less-keeps r c.args.at n c.args.paths.now c.requires.small inside c.requires.ready.keeps)

pub rest-requires-clause-count : goal.rest-requires-clause-count
rest-requires-clause-count g c =
    let disk = g.D.Device.disk in
    let r = c.args.self.now.master.record in
    let then = c.leave_out.new.self in
    let n = c.in_ok-number.number in
    let it = c.in_ok-number.ensures.record in
    let slots : then.slots ≡ remove c.args.self.now.slots c.args.at = search rules in
    ap length slots ∙ length-less-same c.args.self.now.slots r.databases c.args.at c.requires.inside c.requires.ready.count ∙ sym (ap (λ (x : Record). length x.databases) it.3)

pub rest-requires-clause-master : goal.rest-requires-clause-master
rest-requires-clause-master g c t =
    let s = c.args.self.now in
    let then = c.leave_out.new.self in
    let n = c.in_ok-number.number in
    let it = c.in_ok-number.ensures.record in
    let same : then.master.record ≡ left_out s.master.record c.args.at n c.args.paths.now = it.3 in
    let slots : then.slots ≡ remove s.slots c.args.at = search rules in
    let after = left-aside s then c.args.at it.0 n c.args.paths.now it.1 it.2 same slots c.requires.inside (c.requires.standing t).numbers (c.requires.unused t) (c.in_ok-number.ensures.standing t) (c.remove_parts.ensures.crash t) in
    after.master

pub returns-clause-standing : goal.returns-clause-standing
returns-clause-standing g c t =
    let s = c.args.self.now in
    let then = c.leave_out.new.self in
    let n = c.in_ok-number.number in
    let it = c.in_ok-number.ensures.record in
    let same : then.master.record ≡ left_out s.master.record c.args.at n c.args.paths.now = it.3 in
    let slots : then.slots ≡ remove s.slots c.args.at = search rules in
    c.rest.ensures.standing t (left-aside s then c.args.at it.0 n c.args.paths.now it.1 it.2 same slots c.requires.inside (c.requires.standing t).numbers (c.requires.unused t) (c.in_ok-number.ensures.standing t) (c.remove_parts.ensures.crash t))

pub returns-clause-fixed : goal.returns-clause-fixed
returns-clause-fixed g c = on-ok c.rest.result (λ same. same ∙ ap fixed_of c.in_ok-number.ensures.record.3 ∙ less-fixed c.args.self.now.master.record c.args.at c.in_ok-number.number c.args.paths.now) c.rest.ensures.fixed

pub returns-clause-stands : goal.returns-clause-stands
returns-clause-stands g c t tolds told is may =
    let disk = g.D.Device.disk in
    let r = c.args.self.now.master.record in
    let then = c.leave_out.new.self in
    let n = c.in_ok-number.number in
    let it = c.in_ok-number.ensures.record in
    let below : n < then.master.record.next = subst (λ (x : Record). n < x.next) (sym it.3) (subst (λ (m : ℕ). m < r.next) it.2 (is.standing.entries.below c.args.at it.0 it.1)) in
    let unfinished : then.master.record.unfinished ≡ unfinished_at n c.args.paths.now ∷ [] = ap (λ (x : Record). x.unfinished) it.3 in
    let here = c.in_ok-number.ensures.stands t tolds told is may in
    let after : AreStores (disk c.remove_parts.new.dev) then (remove tolds c.args.at) = aside-stands then (remove tolds c.args.at) n c.args.paths.now unfinished below here (c.remove_parts.ensures.crash t) in
    c.rest.ensures.stands t (remove tolds c.args.at) after

pub returns-clause-crash : goal.returns-clause-crash
returns-clause-crash g c t tolds told is may =
    let disk = g.D.Device.disk in
    let r = c.args.self.now.master.record in
    let then = c.leave_out.new.self in
    let n = c.in_ok-number.number in
    let it = c.in_ok-number.ensures.record in
    let below : n < then.master.record.next = subst (λ (x : Record). n < x.next) (sym it.3) (subst (λ (m : ℕ). m < r.next) it.2 (is.standing.entries.below c.args.at it.0 it.1)) in
    let unfinished : then.master.record.unfinished ≡ unfinished_at n c.args.paths.now ∷ [] = ap (λ (x : Record). x.unfinished) it.3 in
    let here = c.in_ok-number.ensures.stands t tolds told is may in
    let after : AreStores (disk c.remove_parts.new.dev) then (remove tolds c.args.at) = aside-stands then (remove tolds c.args.at) n c.args.paths.now unfinished below here (c.remove_parts.ensures.crash t) in
    let slots : then.slots ≡ remove c.args.self.now.slots c.args.at = search rules in
    let own = ap fixed_of it.3 ∙ less-fixed c.args.self.now.master.record c.args.at c.in_ok-number.number c.args.paths.now in
    drops-then c.args.self.now then tolds c.args.at (disk c.args.dev.now) (disk c.leave_out.new.dev) (disk c.rest.new.dev) own slots (c.leave_out.ensures.crash t tolds told is may)
    (effect_then (aside-crash then (remove tolds c.args.at) n c.args.paths.now unfinished here (c.remove_parts.ensures.crash t)) (c.rest.ensures.crash t (remove tolds c.args.at) after))

pub returns-in_err-remove_parts-clause-touches : goal.returns-in_err-remove_parts-clause-touches
returns-in_err-remove_parts-clause-touches g c t = effect_then (c.leave_out.ensures.touches t) (parts-touched c.in_ok-number.number c.args.paths.now (c.remove_parts.ensures.crash t))

pub returns-clause-touches : goal.returns-clause-touches
returns-clause-touches g c t = effect_then (effect_then (c.leave_out.ensures.touches t) (parts-touched c.in_ok-number.number c.args.paths.now (c.remove_parts.ensures.crash t))) (c.rest.ensures.touches t)
