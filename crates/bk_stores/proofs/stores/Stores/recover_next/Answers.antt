use Rattle.std.proofs.Common.{rules, ◌≡◌, ◌∙◌, ℕ, List, Option, inr, sym, subst}
use Rattle.std.proofs.lemmas.Result.{on_ok_weaker}
use Rattle.std.specs.Prelude.{IsErrOf}
use Rattle.bk_device.specs.Compose.{effect_then}
use Rattle.bk_device.specs.Calls.{contents}
use Rattle.bk_facts.specs.declared.facts.DataFile.{DataFile}
use Rattle.bk_paged.specs.Paged.{Standing}
use Rattle.bk_recovering.specs.Recovering.{Makes}
use Rattle.bk_recovering.specs.declared.error.RecoverError.TheVariants.{Unfit}
use Rattle.bk_reopening.specs.Reopening.{settled}
use Rattle.bk_segments.specs.Files.{AreDurable as LogsAreDurable}
use Rattle.bk_store.specs.Store.{IsStore, Kept as KeptStore}
use Rattle.bk_store.specs.Told.{said}
use Rattle.bk_stores.specs.Bringing.{IsNamed}
use Rattle.bk_stores.specs.Making.{IsSealed}
use Rattle.bk_stores.specs.Records.{SharesNone}
use Rattle.bk_stores.specs.Standing.{AreUnused}
use Rattle.bk_stores.specs.Stores.{AreStores, Kept}
use Rattle.bk_stores.specs.TouchLaws.{database-touched}
use Rattle.bk_stores.proofs.Answered.{refused, same-has, same-then}
use Rattle.bk_stores.proofs.Brought.{made-crash, made-standing, made-stands, makes-on}
use Rattle.bk_device.specs.declared.trouble.Trouble.TheVariants.{Broken}
use Rattle.bk_stores.proofs.stores.Stores.recover_next.Given.{Over}
use Rattle.bk_stores.proofs.stores.Stores.recover_next.Goals as goal

pub returns-in_err-number-clause-crash : goal.returns-in_err-number-clause-crash
returns-in_err-number-clause-crash g c t tolds told is shares makes =
    let s : Kept = c.args.self.now in
    let files : List DataFile = c.args.files.items in
    let given : c.deref.result.now ≡ files = search rules in
    let own : SharesNone s.master.record.databases tolds c.deref.result.now = subst (λ (fs : List DataFile). SharesNone s.master.record.databases tolds fs) (sym given) shares in
    c.begin_with.ensures.crash t tolds is own

pub recover-requires-clause-apart : goal.recover-requires-clause-apart
recover-requires-clause-apart g c = λ lifetimes outlives own. c.requires.elsewhere (inr (c.in_ok-number.number, c.args.files.items, own))

pub returns-in_err-recovered-clause-crash : goal.returns-in_err-recovered-clause-crash
returns-in_err-recovered-clause-crash g c t tolds told is shares makes =
    let disk = g.D.Device.disk in
    let s : Kept = c.args.self.now in
    let then : Kept = c.begin_with.new.self in
    let n : ℕ = c.in_ok-number.number in
    let files : List DataFile = c.args.files.items in
    let given : c.deref.result.now ≡ files = search rules in
    let named : IsNamed s then files = subst (IsNamed s then) given c.in_ok-number.ensures.named in
    let number : n ≡ s.master.record.next = search rules in
    let own : SharesNone s.master.record.databases tolds c.deref.result.now = subst (λ (fs : List DataFile). SharesNone s.master.record.databases tolds fs) (sym given) shares in
    let first = c.begin_with.ensures.crash t tolds is own in
    let here : AreStores (disk c.begin_with.new.dev) then tolds = c.in_ok-number.ensures.stands t tolds is own in
    let free : LogsAreDurable n (disk c.begin_with.new.dev) = subst (λ (m : ℕ). LogsAreDurable m (disk c.begin_with.new.dev)) (sym number) (c.in_ok-number.ensures.free t tolds is) in
    let made : Makes (contents ((disk c.begin_with.new.dev).files c.args.medium.now.name)) c.args.stored.now files n c.args.checkpoint c.args.note.now c.args.known.now told =
    makes-on (disk c.args.dev.now) (disk c.begin_with.new.dev) s tolds n c.args.medium.now.name c.args.stored.now files c.args.checkpoint c.args.note.now c.args.known.now told number c.requires.elsewhere first makes in
    made-crash s then n files tolds named number is.standing.entries shares here first (c.recover.ensures.crash t free told made)

-- it is told as broken where the set makes none
unfit-of : (g : Over) (c : goal.After-from_residual-in_err-recovered g) → IsErrOf c.from_residual-in_err-recovered.result Broken → IsErrOf c.recover.result Unfit
unfit-of g c broken = search rules

pub returns-in_err-recovered-clause-broken : goal.returns-in_err-recovered-clause-broken
returns-in_err-recovered-clause-broken g c t broken tolds told r is shares makes last =
    let disk = g.D.Device.disk in
    let s : Kept = c.args.self.now in
    let n : ℕ = c.in_ok-number.number in
    let files : List DataFile = c.args.files.items in
    let given : c.deref.result.now ≡ files = search rules in
    let number : n ≡ s.master.record.next = search rules in
    let own : SharesNone s.master.record.databases tolds c.deref.result.now = subst (λ (fs : List DataFile). SharesNone s.master.record.databases tolds fs) (sym given) shares in
    let first = c.begin_with.ensures.crash t tolds is own in
    let free : LogsAreDurable n (disk c.begin_with.new.dev) = subst (λ (m : ℕ). LogsAreDurable m (disk c.begin_with.new.dev)) (sym number) (c.in_ok-number.ensures.free t tolds is) in
    let made : Makes (contents ((disk c.begin_with.new.dev).files c.args.medium.now.name)) c.args.stored.now files n c.args.checkpoint c.args.note.now c.args.known.now told =
    makes-on (disk c.args.dev.now) (disk c.begin_with.new.dev) s tolds n c.args.medium.now.name c.args.stored.now files c.args.checkpoint c.args.note.now c.args.known.now told number c.requires.elsewhere first makes in
    c.recover.ensures.unfit t free told made (unfit-of g c broken)

pub returns-clause-broken : goal.returns-clause-broken
returns-clause-broken g c t broken tolds told r is shares makes last =
    let disk = g.D.Device.disk in
    let s : Kept = c.args.self.now in
    let then : Kept = c.begin_with.new.self in
    let n : ℕ = c.in_ok-number.number in
    let files : List DataFile = c.args.files.items in
    let given : c.deref.result.now ≡ files = search rules in
    let named : IsNamed s then files = subst (IsNamed s then) given c.in_ok-number.ensures.named in
    let number : n ≡ s.master.record.next = search rules in
    let own : SharesNone s.master.record.databases tolds c.deref.result.now = subst (λ (fs : List DataFile). SharesNone s.master.record.databases tolds fs) (sym given) shares in
    let first = c.begin_with.ensures.crash t tolds is own in
    let free : LogsAreDurable n (disk c.begin_with.new.dev) = subst (λ (m : ℕ). LogsAreDurable m (disk c.begin_with.new.dev)) (sym number) (c.in_ok-number.ensures.free t tolds is) in
    let made : Makes (contents ((disk c.begin_with.new.dev).files c.args.medium.now.name)) c.args.stored.now files n c.args.checkpoint c.args.note.now c.args.known.now told =
    makes-on (disk c.args.dev.now) (disk c.begin_with.new.dev) s tolds n c.args.medium.now.name c.args.stored.now files c.args.checkpoint c.args.note.now c.args.known.now told number c.requires.elsewhere first makes in
    let recovered : KeptStore = c.in_ok-recovered.recovered in
    let stands : IsStore (disk c.recover.new.dev) recovered (said (settled told) r) = c.in_ok-recovered.ensures.stands t free told r made last in
    let its : recovered.paged.facts.files ≡ files = stands.paged.files ∙ made.suffices.suffices.files in
    let none : AreUnused then.slots recovered.paged.facts.files → ⊥ = refused c.checked.result broken c.checked.ensures.broken in
    none (subst (λ (sl : List (Option KeptStore)). AreUnused sl recovered.paged.facts.files) (sym named.slots) (subst (λ (fs : List DataFile). AreUnused s.slots fs) (sym its) (c.requires.unused t)))

pub returns-clause-named : goal.returns-clause-named
returns-clause-named g c =
    let s : Kept = c.args.self.now in
    let then : Kept = c.begin_with.new.self in
    let files : List DataFile = c.args.files.items in
    let given : c.deref.result.now ≡ files = search rules in
    on_ok_weaker c.checked.result (λ k. subst (IsNamed s then) given c.in_ok-number.ensures.named) c.checked.ensures.unused

pub returns-clause-number : goal.returns-clause-number
returns-clause-number g c =
    let s : Kept = c.args.self.now in
    let n : ℕ = c.in_ok-number.number in
    let number : n ≡ s.master.record.next = search rules in
    same-has c.checked.result c.in_ok-recovered.recovered (λ (x : KeptStore). x.paged.log.db ≡ s.master.record.next) c.checked.ensures.same (c.in_ok-recovered.ensures.ends.0 ∙ number)

pub returns-clause-sealed : goal.returns-clause-sealed
returns-clause-sealed g c =
    let recovered : KeptStore = c.in_ok-recovered.recovered in
    let sealed : IsSealed recovered = record { fit = c.in_ok-recovered.ensures.fit; all = c.in_ok-recovered.ensures.ends.1 } in
    same-has c.checked.result recovered IsSealed c.checked.ensures.same sealed

pub returns-clause-unused : goal.returns-clause-unused
returns-clause-unused g c =
    let s : Kept = c.args.self.now in
    let recovered : KeptStore = c.in_ok-recovered.recovered in
    same-then c.checked.result recovered (λ (x : KeptStore). AreUnused s.slots x.paged.facts.files) c.checked.ensures.same
    (λ own. subst (λ (sl : List (Option KeptStore)). AreUnused sl recovered.paged.facts.files) c.in_ok-number.ensures.named.slots own) c.checked.ensures.unused

pub returns-clause-opened : goal.returns-clause-opened
returns-clause-opened g c t =
    let disk = g.D.Device.disk in
    same-has c.checked.result c.in_ok-recovered.recovered (λ (x : KeptStore). Standing (disk c.recover.new.dev) x.paged) c.checked.ensures.same (c.in_ok-recovered.ensures.standing t)

pub returns-clause-standing : goal.returns-clause-standing
returns-clause-standing g c t =
    let s : Kept = c.args.self.now in
    let then : Kept = c.begin_with.new.self in
    let n : ℕ = c.in_ok-number.number in
    let files : List DataFile = c.args.files.items in
    let given : c.deref.result.now ≡ files = search rules in
    let named : IsNamed s then files = subst (IsNamed s then) given c.in_ok-number.ensures.named in
    let number : n ≡ s.master.record.next = search rules in
    let recovered : KeptStore = c.in_ok-recovered.recovered in
    on_ok_weaker c.checked.result
    (λ own. made-standing s then n files recovered named number (c.requires.standing t).numbers (c.requires.unused t) own (c.in_ok-number.ensures.standing t) (c.in_ok-recovered.ensures.touches t))
    c.checked.ensures.unused

pub returns-clause-store : goal.returns-clause-store
returns-clause-store g c t tolds told r is shares makes last =
    let disk = g.D.Device.disk in
    let s : Kept = c.args.self.now in
    let n : ℕ = c.in_ok-number.number in
    let files : List DataFile = c.args.files.items in
    let given : c.deref.result.now ≡ files = search rules in
    let number : n ≡ s.master.record.next = search rules in
    let own : SharesNone s.master.record.databases tolds c.deref.result.now = subst (λ (fs : List DataFile). SharesNone s.master.record.databases tolds fs) (sym given) shares in
    let first = c.begin_with.ensures.crash t tolds is own in
    let free : LogsAreDurable n (disk c.begin_with.new.dev) = subst (λ (m : ℕ). LogsAreDurable m (disk c.begin_with.new.dev)) (sym number) (c.in_ok-number.ensures.free t tolds is) in
    let made : Makes (contents ((disk c.begin_with.new.dev).files c.args.medium.now.name)) c.args.stored.now files n c.args.checkpoint c.args.note.now c.args.known.now told =
    makes-on (disk c.args.dev.now) (disk c.begin_with.new.dev) s tolds n c.args.medium.now.name c.args.stored.now files c.args.checkpoint c.args.note.now c.args.known.now told number c.requires.elsewhere first makes in
    same-has c.checked.result c.in_ok-recovered.recovered (λ (x : KeptStore). IsStore (disk c.recover.new.dev) x (said (settled told) r)) c.checked.ensures.same (c.in_ok-recovered.ensures.stands t free told r made last)

pub returns-clause-stands : goal.returns-clause-stands
returns-clause-stands g c t tolds told is shares makes =
    let disk = g.D.Device.disk in
    let s : Kept = c.args.self.now in
    let then : Kept = c.begin_with.new.self in
    let n : ℕ = c.in_ok-number.number in
    let files : List DataFile = c.args.files.items in
    let given : c.deref.result.now ≡ files = search rules in
    let named : IsNamed s then files = subst (IsNamed s then) given c.in_ok-number.ensures.named in
    let number : n ≡ s.master.record.next = search rules in
    let own : SharesNone s.master.record.databases tolds c.deref.result.now = subst (λ (fs : List DataFile). SharesNone s.master.record.databases tolds fs) (sym given) shares in
    let first = c.begin_with.ensures.crash t tolds is own in
    let here : AreStores (disk c.begin_with.new.dev) then tolds = c.in_ok-number.ensures.stands t tolds is own in
    let free : LogsAreDurable n (disk c.begin_with.new.dev) = subst (λ (m : ℕ). LogsAreDurable m (disk c.begin_with.new.dev)) (sym number) (c.in_ok-number.ensures.free t tolds is) in
    let made : Makes (contents ((disk c.begin_with.new.dev).files c.args.medium.now.name)) c.args.stored.now files n c.args.checkpoint c.args.note.now c.args.known.now told =
    makes-on (disk c.args.dev.now) (disk c.begin_with.new.dev) s tolds n c.args.medium.now.name c.args.stored.now files c.args.checkpoint c.args.note.now c.args.known.now told number c.requires.elsewhere first makes in
    on_ok_weaker c.checked.result (λ k. made-stands s then n files tolds named number is.standing.entries shares here (c.recover.ensures.crash t free told made)) c.checked.ensures.unused

pub returns-clause-crash : goal.returns-clause-crash
returns-clause-crash g c t tolds told is shares makes =
    let disk = g.D.Device.disk in
    let s : Kept = c.args.self.now in
    let then : Kept = c.begin_with.new.self in
    let n : ℕ = c.in_ok-number.number in
    let files : List DataFile = c.args.files.items in
    let given : c.deref.result.now ≡ files = search rules in
    let named : IsNamed s then files = subst (IsNamed s then) given c.in_ok-number.ensures.named in
    let number : n ≡ s.master.record.next = search rules in
    let own : SharesNone s.master.record.databases tolds c.deref.result.now = subst (λ (fs : List DataFile). SharesNone s.master.record.databases tolds fs) (sym given) shares in
    let first = c.begin_with.ensures.crash t tolds is own in
    let here : AreStores (disk c.begin_with.new.dev) then tolds = c.in_ok-number.ensures.stands t tolds is own in
    let free : LogsAreDurable n (disk c.begin_with.new.dev) = subst (λ (m : ℕ). LogsAreDurable m (disk c.begin_with.new.dev)) (sym number) (c.in_ok-number.ensures.free t tolds is) in
    let made : Makes (contents ((disk c.begin_with.new.dev).files c.args.medium.now.name)) c.args.stored.now files n c.args.checkpoint c.args.note.now c.args.known.now told =
    makes-on (disk c.args.dev.now) (disk c.begin_with.new.dev) s tolds n c.args.medium.now.name c.args.stored.now files c.args.checkpoint c.args.note.now c.args.known.now told number c.requires.elsewhere first makes in
    made-crash s then n files tolds named number is.standing.entries shares here first (c.recover.ensures.crash t free told made)

pub returns-clause-touches : goal.returns-clause-touches
returns-clause-touches g c t = effect_then (c.begin_with.ensures.touches t) (database-touched c.in_ok-number.number (c.recover.ensures.mine t))

pub returns-in_err-recovered-clause-touches : goal.returns-in_err-recovered-clause-touches
returns-in_err-recovered-clause-touches g c t = effect_then (c.begin_with.ensures.touches t) (database-touched c.in_ok-number.number (c.recover.ensures.mine t))
