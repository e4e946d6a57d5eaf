use Rattle.std.proofs.Common.{◌≡◌, ◌⊎◌, sym, subst, ap, ◌∙◌, List, ℕ, [], false, map}
use Rattle.bk_device.specs.Effects.{Effect, MayLeaveOwn}
use Rattle.bk_gate.specs.Blobs.{sealed}
use Rattle.bk_gate.specs.Gate.{begun_of, Kept as KeptGate}
use Rattle.bk_side.specs.Names.{data_file, side_file, IsOwn, IsData, AreApart}
use Rattle.bk_side.specs.Pages.{shown, Shows, entries_of}
use Rattle.bk_side.specs.Side.{HasNoBatch, IsSide, AreDurable}
use Rattle.bk_side.proofs.Names.{are_apart}
use Rattle.bk_side.proofs.Sides.{fresh_side, none_added}
use Rattle.bk_side.proofs.side.Side.load.Goals as goal

pub settle-requires : goal.settle-requires
settle-requires g c t =
    let named : c.as_str.result.now ≡ side_file c.args.db = c.as_str.ensures.value ∙ c.in_ok-name.ensures in
    let listed : c.deref.result.now ≡ map data_file c.args.paths.now = c.deref.ensures.value ∙ c.in_ok-names.ensures in
    let Named : List ℕ → Type 0 = λ n. AreApart n c.deref.result.now in
    let Listed : List (List ℕ) → Type 0 = λ ns. AreApart (side_file c.args.db) ns in
    subst Named (sym named) (subst Listed (sym listed) (are_apart c.args.paths.now c.args.db (c.requires.different t)))

pub returns-in_err-gate-clause-crash : goal.returns-in_err-gate-clause-crash
returns-in_err-gate-clause-crash g c t =
    let a = g.D.Device.disk c.args.dev.now in
    let d = g.D.Device.disk c.settle.new.dev in
    let named : c.as_str.result.now ≡ side_file c.args.db = c.as_str.ensures.value ∙ c.in_ok-name.ensures in
    let listed : c.deref.result.now ≡ map data_file c.args.paths.now = c.deref.ensures.value ∙ c.in_ok-names.ensures in
    let Named : List ℕ → Type 0 = λ n. Effect (IsOwn n c.deref.result.now) (λ image. MayLeaveOwn (IsOwn n c.deref.result.now) a image ⊎ Shows n c.deref.result.now (shown n c.deref.result.now a.files) image) a d in
    let Listed : List (List ℕ) → Type 0 = λ ns. Effect (IsOwn (side_file c.args.db) ns) (λ image. MayLeaveOwn (IsOwn (side_file c.args.db) ns) a image ⊎ Shows (side_file c.args.db) ns (shown (side_file c.args.db) ns a.files) image) a d in
    subst Listed listed (subst Named named (c.settle.ensures.crash t))

pub returns-clause-stands : goal.returns-clause-stands
returns-clause-stands g c t =
    let d = g.D.Device.disk c.settle.new.dev in
    let named : c.as_str.result.now ≡ side_file c.args.db = c.as_str.ensures.value ∙ c.in_ok-name.ensures in
    let listed : c.deref.result.now ≡ map data_file c.args.paths.now = c.deref.ensures.value ∙ c.in_ok-names.ensures in
    let Empty : List ℕ → Type 0 = λ n. sealed (d.files n) ≡ [] in
    let Durable : List (List ℕ) → Type 0 = λ ns. AreDurable (IsData ns) d in
    let Named : List ℕ → Type 0 = λ n. AreApart n c.in_ok-names.names.items in
    let Listed : List (List ℕ) → Type 0 = λ ns. AreApart (side_file c.args.db) ns in
    let Side : KeptGate → Type 0 = λ k. IsSide d (record { gate = k; names = c.in_ok-names.names.items; failed = false }) in
    subst Side (sym c.begin.ensures)
    (fresh_side d c.in_ok-gate.gate c.in_ok-names.names.items false (c.in_ok-gate.ensures.stands t) (subst Empty (sym c.in_ok-gate.ensures.name) (c.in_ok-gate.ensures.empty t)) (subst Durable c.deref.ensures.value (c.in_ok-gate.ensures.durable t))
    (subst Named (sym (c.in_ok-gate.ensures.name ∙ named)) (subst Listed (sym c.in_ok-names.ensures) (are_apart c.args.paths.now c.args.db (c.requires.different t)))))

pub returns-clause-none : goal.returns-clause-none
returns-clause-none g c t = ap (λ (k : KeptGate). entries_of (begun_of (g.D.Device.disk c.settle.new.dev) k)) c.begin.ensures ∙ none_added (g.D.Device.disk c.settle.new.dev) c.in_ok-gate.gate

pub returns-clause-crash : goal.returns-clause-crash
returns-clause-crash g c t =
    let a = g.D.Device.disk c.args.dev.now in
    let d = g.D.Device.disk c.settle.new.dev in
    let named : c.as_str.result.now ≡ side_file c.args.db = c.as_str.ensures.value ∙ c.in_ok-name.ensures in
    let listed : c.deref.result.now ≡ map data_file c.args.paths.now = c.deref.ensures.value ∙ c.in_ok-names.ensures in
    let Named : List ℕ → Type 0 = λ n. Effect (IsOwn n c.deref.result.now) (λ image. MayLeaveOwn (IsOwn n c.deref.result.now) a image ⊎ Shows n c.deref.result.now (shown n c.deref.result.now a.files) image) a d in
    let Listed : List (List ℕ) → Type 0 = λ ns. Effect (IsOwn (side_file c.args.db) ns) (λ image. MayLeaveOwn (IsOwn (side_file c.args.db) ns) a image ⊎ Shows (side_file c.args.db) ns (shown (side_file c.args.db) ns a.files) image) a d in
    subst Listed listed (subst Named named (c.settle.ensures.crash t))

pub returns-clause-still : goal.returns-clause-still
returns-clause-still g c t none =
    let a = g.D.Device.disk c.args.dev.now in
    let named : c.as_str.result.now ≡ side_file c.args.db = c.as_str.ensures.value ∙ c.in_ok-name.ensures in
    c.in_ok-gate.ensures.still t (subst (λ (n : List ℕ). HasNoBatch n a.files) (sym named) none)
