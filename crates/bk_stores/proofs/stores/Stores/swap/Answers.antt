use Rattle.std.proofs.Common.{rules, ◌≡◌, ◌<◌, ◌∙◌, ◌∷◌, [], ℕ, length, set, sym, ap, subst}
use Rattle.std.proofs.lemmas.List.{length-set}
use Rattle.bk_device.specs.Compose.{effect_then}
use Rattle.bk_master.specs.declared.record.Record.{Record}
use Rattle.bk_master.specs.Spelling.{KeepsRecord}
use Rattle.bk_stores.specs.Records.{swapped, unfinished_at}
use Rattle.bk_stores.specs.Stores.{AreStores, fixed_of}
use Rattle.bk_stores.specs.SwapLaws.{swapped-keeps}
use Rattle.bk_stores.specs.TouchLaws.{parts-touched}
use Rattle.bk_stores.proofs.Swapped.{set-fixed}
use Rattle.bk_stores.proofs.Aside.{aside-crash, aside-stands, swapped-aside, swaps-then}
use Rattle.bk_stores.proofs.Created.{on-ok}
use Rattle.bk_stores.proofs.stores.Stores.swap.Goals as goal

pub returns-in_err-number-clause-crash : goal.returns-in_err-number-clause-crash
returns-in_err-number-clause-crash g c t tolds told new is may = c.put_in_place.ensures.crash t tolds told new is may

pub returns-in_err-remove_parts-clause-crash : goal.returns-in_err-remove_parts-clause-crash
returns-in_err-remove_parts-clause-crash g c t tolds told new is may =
    let disk = g.D.Device.disk in
    let r = c.args.self.now.master.record in
    let then = c.put_in_place.new.self in
    let n = c.in_ok-number.number in
    let it = c.in_ok-number.ensures.record in
    let below : n < then.master.record.next = subst (λ (x : Record). n < x.next) (sym it.3) (subst (λ (m : ℕ). m < r.next) it.2 (is.standing.entries.below c.args.at it.0 it.1)) in
    let unfinished : then.master.record.unfinished ≡ unfinished_at n c.args.paths.now ∷ [] = ap (λ (x : Record). x.unfinished) it.3 in
    let here = c.in_ok-number.ensures.stands t tolds told new is may in
    let slots : then.slots ≡ set c.args.self.now.slots c.args.at c.args.slot = search rules in
    let own = ap fixed_of it.3 ∙ set-fixed c.args.self.now.master.record c.args.at c.args.entry c.in_ok-number.number c.args.paths.now in
    swaps-then c.args.self.now then tolds c.args.at told new c.args.entry c.args.slot c.args.paths.now (disk c.args.dev.now) (disk c.put_in_place.new.dev) (disk c.remove_parts.new.dev) own slots is may (c.put_in_place.ensures.crash t tolds told new is may)
    (aside-crash then (set tolds c.args.at new) n c.args.paths.now unfinished here (c.remove_parts.ensures.crash t))

pub rest-requires-clause-keeps : goal.rest-requires-clause-keeps
rest-requires-clause-keeps g c =
    let disk = g.D.Device.disk in
    let r = c.args.self.now.master.record in
    let then = c.put_in_place.new.self in
    let n = c.in_ok-number.number in
    let it = c.in_ok-number.ensures.record in
    subst KeepsRecord (sym it.3) (swapped-keeps r c.args.at c.args.entry n c.args.paths.now c.requires.small c.requires.keeps)

pub rest-requires-clause-count : goal.rest-requires-clause-count
rest-requires-clause-count g c =
    let disk = g.D.Device.disk in
    let r = c.args.self.now.master.record in
    let then = c.put_in_place.new.self in
    let n = c.in_ok-number.number in
    let it = c.in_ok-number.ensures.record in
    let slots : then.slots ≡ set c.args.self.now.slots c.args.at c.args.slot = search rules in
    ap length slots ∙ length-set c.args.self.now.slots c.args.at c.args.slot ∙ c.requires.count ∙ sym (ap (λ (x : Record). length x.databases) it.3 ∙ length-set r.databases c.args.at c.args.entry)

pub rest-requires-clause-master : goal.rest-requires-clause-master
rest-requires-clause-master g c t =
    let s = c.args.self.now in
    let then = c.put_in_place.new.self in
    let n = c.in_ok-number.number in
    let it = c.in_ok-number.ensures.record in
    let same : then.master.record ≡ swapped s.master.record c.args.at c.args.entry n c.args.paths.now = it.3 in
    let slots : then.slots ≡ set s.slots c.args.at c.args.slot = search rules in
    let after = swapped-aside s then c.args.at it.0 c.args.entry c.args.slot n c.args.paths.now it.1 it.2 same slots (c.requires.standing t).numbers (c.requires.joins t).fresh (c.requires.unused t) (c.in_ok-number.ensures.standing t) (c.remove_parts.ensures.crash t) in
    after.master

pub returns-clause-standing : goal.returns-clause-standing
returns-clause-standing g c t =
    let s = c.args.self.now in
    let then = c.put_in_place.new.self in
    let n = c.in_ok-number.number in
    let it = c.in_ok-number.ensures.record in
    let same : then.master.record ≡ swapped s.master.record c.args.at c.args.entry n c.args.paths.now = it.3 in
    let slots : then.slots ≡ set s.slots c.args.at c.args.slot = search rules in
    c.rest.ensures.standing t (swapped-aside s then c.args.at it.0 c.args.entry c.args.slot n c.args.paths.now it.1 it.2 same slots (c.requires.standing t).numbers (c.requires.joins t).fresh (c.requires.unused t) (c.in_ok-number.ensures.standing t) (c.remove_parts.ensures.crash t))

pub returns-clause-fixed : goal.returns-clause-fixed
returns-clause-fixed g c = on-ok c.rest.result (λ same. same ∙ ap fixed_of c.in_ok-number.ensures.record.3 ∙ set-fixed c.args.self.now.master.record c.args.at c.args.entry c.in_ok-number.number c.args.paths.now) c.rest.ensures.fixed

pub returns-clause-stands : goal.returns-clause-stands
returns-clause-stands g c t tolds told new is may =
    let disk = g.D.Device.disk in
    let r = c.args.self.now.master.record in
    let then = c.put_in_place.new.self in
    let n = c.in_ok-number.number in
    let it = c.in_ok-number.ensures.record in
    let below : n < then.master.record.next = subst (λ (x : Record). n < x.next) (sym it.3) (subst (λ (m : ℕ). m < r.next) it.2 (is.standing.entries.below c.args.at it.0 it.1)) in
    let unfinished : then.master.record.unfinished ≡ unfinished_at n c.args.paths.now ∷ [] = ap (λ (x : Record). x.unfinished) it.3 in
    let here = c.in_ok-number.ensures.stands t tolds told new is may in
    let after : AreStores (disk c.remove_parts.new.dev) then (set tolds c.args.at new) = aside-stands then (set tolds c.args.at new) n c.args.paths.now unfinished below here (c.remove_parts.ensures.crash t) in
    c.rest.ensures.stands t (set tolds c.args.at new) after

pub returns-clause-crash : goal.returns-clause-crash
returns-clause-crash g c t tolds told new is may =
    let disk = g.D.Device.disk in
    let r = c.args.self.now.master.record in
    let then = c.put_in_place.new.self in
    let n = c.in_ok-number.number in
    let it = c.in_ok-number.ensures.record in
    let below : n < then.master.record.next = subst (λ (x : Record). n < x.next) (sym it.3) (subst (λ (m : ℕ). m < r.next) it.2 (is.standing.entries.below c.args.at it.0 it.1)) in
    let unfinished : then.master.record.unfinished ≡ unfinished_at n c.args.paths.now ∷ [] = ap (λ (x : Record). x.unfinished) it.3 in
    let here = c.in_ok-number.ensures.stands t tolds told new is may in
    let after : AreStores (disk c.remove_parts.new.dev) then (set tolds c.args.at new) = aside-stands then (set tolds c.args.at new) n c.args.paths.now unfinished below here (c.remove_parts.ensures.crash t) in
    let slots : then.slots ≡ set c.args.self.now.slots c.args.at c.args.slot = search rules in
    let own = ap fixed_of it.3 ∙ set-fixed c.args.self.now.master.record c.args.at c.args.entry c.in_ok-number.number c.args.paths.now in
    swaps-then c.args.self.now then tolds c.args.at told new c.args.entry c.args.slot c.args.paths.now (disk c.args.dev.now) (disk c.put_in_place.new.dev) (disk c.rest.new.dev) own slots is may (c.put_in_place.ensures.crash t tolds told new is may)
    (effect_then (aside-crash then (set tolds c.args.at new) n c.args.paths.now unfinished here (c.remove_parts.ensures.crash t)) (c.rest.ensures.crash t (set tolds c.args.at new) after))

pub returns-in_err-remove_parts-clause-touches : goal.returns-in_err-remove_parts-clause-touches
returns-in_err-remove_parts-clause-touches g c t = effect_then (c.put_in_place.ensures.touches t) (parts-touched c.in_ok-number.number c.args.paths.now (c.remove_parts.ensures.crash t))

pub returns-clause-touches : goal.returns-clause-touches
returns-clause-touches g c t = effect_then (effect_then (c.put_in_place.ensures.touches t) (parts-touched c.in_ok-number.number c.args.paths.now (c.remove_parts.ensures.crash t))) (c.rest.ensures.touches t)
