use Rattle.std.proofs.Common.{◌≡◌, ◌+◌, ◌++◌, ◌∷◌, [], ℕ, List, length, sym, ap, subst, ◌∙◌}
use Rattle.bk_device.specs.Compose.{effect_weaken}
use Rattle.bk_device.specs.Disk.{IsDurable}
use Rattle.bk_device.specs.Effects.{Effect, IsName}
use Rattle.bk_gate.specs.Blobs.{sealed}
use Rattle.bk_gate.specs.Gate.{Kept as KeptGate}
use Rattle.bk_segments.specs.Files.{AreDurable, IsOwn, segment_file}
use Rattle.bk_filling.specs.contracts.records.Records.{the_view}
use Rattle.bk_filling.specs.Records.{HasRecords, IsBegun, Kept, Spell}
use Rattle.bk_filling.proofs.Blobs.{durable_more, more_begun, records_more, segment_effect}
use Rattle.bk_filling.proofs.records.Records.add.Goals as goal

pub returns-in_err-append_reserved-clause-crash : goal.returns-in_err-append_reserved-clause-crash
returns-in_err-append_reserved-clause-crash g c t =
    let a = g.D.Device.disk c.args.dev.now in
    let b = g.D.Device.disk c.append_reserved.new.dev in
    let is = subst (IsBegun a) (sym c.self.view_is) (c.requires.stands t) in
    let named : c.reserve.new.self.name ≡ segment_file c.self.inside.db c.self.inside.back = ap (λ (k : KeptGate). k.name) c.reserve.ensures.same ∙ is.name in
    let At : List ℕ → Type 0 = λ n. Effect (IsName n) (λ _. Unit {0}) a b in
    let W : Kept → Type 0 = λ k. Effect (IsOwn k.db) (λ _. Unit {0}) a b in
    subst W c.self.view_is (segment_effect c.self.inside.db c.self.inside.back a b (subst At named (effect_weaken (λ image here. tt) (c.append_reserved.ensures.crash t))))

pub returns-clause-stands : goal.returns-clause-stands
returns-clause-stands g c t =
    let a = g.D.Device.disk c.args.dev.now in
    let b = g.D.Device.disk c.append_reserved.new.dev in
    let is = subst (IsBegun a) (sym c.self.view_is) (c.requires.stands t) in
    let named : c.reserve.new.self.name ≡ segment_file c.self.inside.db c.self.inside.back = ap (λ (k : KeptGate). k.name) c.reserve.ensures.same ∙ is.name in
    let At : List ℕ → Type 0 = λ n. Effect (IsName n) (λ _. Unit {0}) a b in
    let Last : List ℕ → Type 0 = λ n. sealed (b.files n) ≡ sealed (a.files n) ++ c.args.bytes.now ∷ [] in
    more_begun (the_view c.self.inside) c.append_reserved.new.self c.args.bytes.now a b c.self.invariant.2 (subst At named (effect_weaken (λ image here. tt) (c.append_reserved.ensures.crash t))) (subst Last named (c.in_ok-append_reserved.ensures.sealed t)) is
    (c.append_reserved.ensures.name ∙ named) (c.in_ok-append_reserved.ensures.stands t) (subst (IsDurable b) named (c.in_ok-append_reserved.ensures.durable t))

pub returns-clause-records : goal.returns-clause-records
returns-clause-records g c t records more has spell =
    let a = g.D.Device.disk c.args.dev.now in
    let b = g.D.Device.disk c.append_reserved.new.dev in
    let is = subst (IsBegun a) (sym c.self.view_is) (c.requires.stands t) in
    let named : c.reserve.new.self.name ≡ segment_file c.self.inside.db c.self.inside.back = ap (λ (k : KeptGate). k.name) c.reserve.ensures.same ∙ is.name in
    let At : List ℕ → Type 0 = λ n. Effect (IsName n) (λ _. Unit {0}) a b in
    let Last : List ℕ → Type 0 = λ n. sealed (b.files n) ≡ sealed (a.files n) ++ c.args.bytes.now ∷ [] in
    records_more (the_view c.self.inside) c.append_reserved.new.self c.args.bytes.now a b c.self.invariant.2 (subst At named (effect_weaken (λ image here. tt) (c.append_reserved.ensures.crash t))) (subst Last named (c.in_ok-append_reserved.ensures.sealed t)) records more c.self.invariant.1
    (subst (λ (k : Kept). HasRecords a.files k records) (sym c.self.view_is) has) (subst (λ (k : Kept). Spell c.args.bytes.now (k.kept + length records) more) (sym c.self.view_is) spell)

pub returns-clause-crash : goal.returns-clause-crash
returns-clause-crash g c t =
    let a = g.D.Device.disk c.args.dev.now in
    let b = g.D.Device.disk c.append_reserved.new.dev in
    let is = subst (IsBegun a) (sym c.self.view_is) (c.requires.stands t) in
    let named : c.reserve.new.self.name ≡ segment_file c.self.inside.db c.self.inside.back = ap (λ (k : KeptGate). k.name) c.reserve.ensures.same ∙ is.name in
    let At : List ℕ → Type 0 = λ n. Effect (IsName n) (λ _. Unit {0}) a b in
    let W : Kept → Type 0 = λ k. Effect (IsOwn k.db) (λ _. Unit {0}) a b in
    subst W c.self.view_is (segment_effect c.self.inside.db c.self.inside.back a b (subst At named (effect_weaken (λ image here. tt) (c.append_reserved.ensures.crash t))))

pub returns-clause-durable : goal.returns-clause-durable
returns-clause-durable g c t =
    let a = g.D.Device.disk c.args.dev.now in
    let b = g.D.Device.disk c.append_reserved.new.dev in
    let is = subst (IsBegun a) (sym c.self.view_is) (c.requires.stands t) in
    let named : c.reserve.new.self.name ≡ segment_file c.self.inside.db c.self.inside.back = ap (λ (k : KeptGate). k.name) c.reserve.ensures.same ∙ is.name in
    let At : List ℕ → Type 0 = λ n. Effect (IsName n) (λ _. Unit {0}) a b in
    let W : Kept → Type 0 = λ k. AreDurable k.db a → AreDurable k.db b in
    subst W c.self.view_is
    (durable_more c.self.inside.db (segment_file c.self.inside.db c.self.inside.back) a b (subst At named (effect_weaken (λ image here. tt) (c.append_reserved.ensures.crash t))) (subst (IsDurable b) named (c.in_ok-append_reserved.ensures.durable t)))
