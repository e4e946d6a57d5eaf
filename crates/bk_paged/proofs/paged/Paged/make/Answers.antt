use Rattle.std.proofs.Common.{◌≡◌, ℕ, List, length, ap, ◌∙◌, rules, sym, subst}
use Rattle.std.specs.List.{AllByRecursion}
use Rattle.bk_device.specs.Compose.{effect_none, effect_then}
use Rattle.bk_device.specs.Effects.{Effect}
use Rattle.bk_facts.specs.declared.facts.DataFile.{DataFile}
use Rattle.bk_facts.specs.declared.facts.Facts.{Facts}
use Rattle.bk_facts.specs.Facts.{HasPath, Notes}
use Rattle.bk_side.specs.Names.{AreDifferent, side_file, IsOwn as IsOfSide}
use Rattle.bk_side.specs.Side.{pages_of}
use Rattle.bk_paged.specs.contracts.paged.Paged.{the_view}
use Rattle.bk_paged.specs.Holds.{HaveRoom, unwritten}
use Rattle.bk_paged.specs.Making.{AreFirst}
use Rattle.bk_paged.specs.Names.{names_of}
use Rattle.bk_paged.specs.Paged.{IsPaged}
use Rattle.bk_paged.specs.Leaving.{room_short}
use Rattle.bk_paged.proofs.Made.{control_durable, control_none, log_last, made_stands, side_first}
use Rattle.bk_paged.proofs.Noting.{spelled}
use Rattle.bk_paged.proofs.Roomy.{have_room}
use Rattle.bk_paged.proofs.paged.Paged.make.Goals as goal

pub returns-in_err-note-clause-crash : goal.returns-in_err-note-clause-crash
returns-in_err-note-clause-crash g c t =
    let a = g.D.Device.disk c.args.dev.now in
    side_first c.args.db c.args.files.items c.args.note.now a a (c.requires.durable t) (c.requires.none t) (effect_none a (λ image mine. tt))

pub returns-in_err-bytes-clause-crash : goal.returns-in_err-bytes-clause-crash
returns-in_err-bytes-clause-crash g c t =
    let a = g.D.Device.disk c.args.dev.now in
    side_first c.args.db c.args.files.items c.args.note.now a a (c.requires.durable t) (c.requires.none t) (effect_none a (λ image mine. tt))

pub make_side-requires-clause-different : goal.make_side-requires-clause-different
make_side-requires-clause-different g c = subst (λ (fs : List DataFile). AreDifferent (names_of fs)) (sym (c.as_slice.ensures ∙ c.new.ensures)) c.requires.may.different

pub returns-in_err-side-clause-crash : goal.returns-in_err-side-clause-crash
returns-in_err-side-clause-crash g c t =
    let a = g.D.Device.disk c.args.dev.now in
    let b = g.D.Device.disk c.make_side.new.dev in
    let Of : List DataFile → Type 0 = λ fs. Effect (IsOfSide (side_file c.args.db) (names_of fs)) (λ _. Unit {0}) a b in
    let files = c.as_slice.ensures ∙ c.new.ensures in
    let effect = subst Of files (c.make_side.ensures.crash t) in
    side_first c.args.db c.args.files.items c.args.note.now a b (c.requires.durable t) (c.requires.none t) effect

pub returns-in_err-pool-clause-crash : goal.returns-in_err-pool-clause-crash
returns-in_err-pool-clause-crash g c t =
    let a = g.D.Device.disk c.args.dev.now in
    side_first c.args.db c.args.files.items c.args.note.now a a (c.requires.durable t) (c.requires.none t) (effect_none a (λ image mine. tt))

pub make_noted-requires : goal.make_noted-requires
make_noted-requires g c =
    let copied : c.in_ok-note.note.items ≡ c.args.note.now = search rules in
    let facts : Facts = record { checkpoint = 1; files = c.new.result } in
    let Files : List DataFile → Type 0 = λ fs. HaveRoom fs c.deref.result.now in
    let Note : List ℕ → Type 0 = λ n. HaveRoom c.args.files.items n in
    let room = subst Files (sym c.new.ensures) (subst Note (sym (c.deref.ensures.value ∙ copied)) (have_room c.args.files.items c.args.note.now c.requires.may)) in
    record { short = room_short facts c.deref.result.now c.deref-2.result.now room (c.deref-2.ensures.value ∙ c.in_ok-bytes.ensures.bytes) }

pub returns-in_err-log-clause-crash : goal.returns-in_err-log-clause-crash
returns-in_err-log-clause-crash g c t =
    let a = g.D.Device.disk c.args.dev.now in
    let b = g.D.Device.disk c.make_side.new.dev in
    let Of : List DataFile → Type 0 = λ fs. Effect (IsOfSide (side_file c.args.db) (names_of fs)) (λ _. Unit {0}) a b in
    let files = c.as_slice.ensures ∙ c.new.ensures in
    let effect = subst Of files (c.make_side.ensures.crash t) in
    let copied : c.in_ok-note.note.items ≡ c.args.note.now = search rules in
    let facts : Facts = record { checkpoint = 1; files = c.new.result } in
    let With : List DataFile → Type 0 = λ fs. Notes c.deref-2.result.now (record { checkpoint = 1; files = fs }) c.args.note.now in
    let noted = subst With c.new.ensures (spelled facts c.deref.result.now c.args.note.now c.in_ok-bytes.bytes.items c.deref-2.result.now (c.deref.ensures.value ∙ copied) c.deref-2.ensures.value c.in_ok-bytes.ensures.notes) in
    let names = c.in_ok-side.ensures.names ∙ ap names_of files in
    let First : List DataFile → Type 0 = λ fs. AreFirst fs (length fs) (pages_of c.in_ok-side.side b.files) in
    let first = subst First files (c.in_ok-side.ensures.first t) in
    let made = c.make_noted.ensures.crash t (control_durable c.args.db c.args.files.items effect (c.requires.durable t)) (control_none c.args.db c.args.files.items effect (c.requires.none t)) in
    effect_then (side_first c.args.db c.args.files.items c.args.note.now a b (c.requires.durable t) (c.requires.none t) effect)
    (log_last c.args.db c.args.files.items c.args.note.now c.deref-2.result.now c.in_ok-side.side b (g.D.Device.disk c.make_noted.new.dev) (have_room c.args.files.items c.args.note.now c.requires.may) c.requires.may.different noted c.in_ok-side.ensures.name names (c.in_ok-side.ensures.stands t) first made)

pub returns-clause-crash : goal.returns-clause-crash
returns-clause-crash g c t =
    let a = g.D.Device.disk c.args.dev.now in
    let b = g.D.Device.disk c.make_side.new.dev in
    let Of : List DataFile → Type 0 = λ fs. Effect (IsOfSide (side_file c.args.db) (names_of fs)) (λ _. Unit {0}) a b in
    let files = c.as_slice.ensures ∙ c.new.ensures in
    let effect = subst Of files (c.make_side.ensures.crash t) in
    let copied : c.in_ok-note.note.items ≡ c.args.note.now = search rules in
    let facts : Facts = record { checkpoint = 1; files = c.new.result } in
    let With : List DataFile → Type 0 = λ fs. Notes c.deref-2.result.now (record { checkpoint = 1; files = fs }) c.args.note.now in
    let noted = subst With c.new.ensures (spelled facts c.deref.result.now c.args.note.now c.in_ok-bytes.bytes.items c.deref-2.result.now (c.deref.ensures.value ∙ copied) c.deref-2.ensures.value c.in_ok-bytes.ensures.notes) in
    let names = c.in_ok-side.ensures.names ∙ ap names_of files in
    let First : List DataFile → Type 0 = λ fs. AreFirst fs (length fs) (pages_of c.in_ok-side.side b.files) in
    let first = subst First files (c.in_ok-side.ensures.first t) in
    let made = c.make_noted.ensures.crash t (control_durable c.args.db c.args.files.items effect (c.requires.durable t)) (control_none c.args.db c.args.files.items effect (c.requires.none t)) in
    effect_then (side_first c.args.db c.args.files.items c.args.note.now a b (c.requires.durable t) (c.requires.none t) effect)
    (log_last c.args.db c.args.files.items c.args.note.now c.deref-2.result.now c.in_ok-side.side b (g.D.Device.disk c.make_noted.new.dev) (have_room c.args.files.items c.args.note.now c.requires.may) c.requires.may.different noted c.in_ok-side.ensures.name names (c.in_ok-side.ensures.stands t) first made)

pub returns-clause-stands : goal.returns-clause-stands
returns-clause-stands g c t =
    let a = g.D.Device.disk c.args.dev.now in
    let b = g.D.Device.disk c.make_side.new.dev in
    let Of : List DataFile → Type 0 = λ fs. Effect (IsOfSide (side_file c.args.db) (names_of fs)) (λ _. Unit {0}) a b in
    let files = c.as_slice.ensures ∙ c.new.ensures in
    let effect = subst Of files (c.make_side.ensures.crash t) in
    let copied : c.in_ok-note.note.items ≡ c.args.note.now = search rules in
    let facts : Facts = record { checkpoint = 1; files = c.new.result } in
    let With : List DataFile → Type 0 = λ fs. Notes c.deref-2.result.now (record { checkpoint = 1; files = fs }) c.args.note.now in
    let noted = subst With c.new.ensures (spelled facts c.deref.result.now c.args.note.now c.in_ok-bytes.bytes.items c.deref-2.result.now (c.deref.ensures.value ∙ copied) c.deref-2.ensures.value c.in_ok-bytes.ensures.notes) in
    let names = c.in_ok-side.ensures.names ∙ ap names_of files in
    let First : List DataFile → Type 0 = λ fs. AreFirst fs (length fs) (pages_of c.in_ok-side.side b.files) in
    let first = subst First files (c.in_ok-side.ensures.first t) in
    let made = c.make_noted.ensures.crash t (control_durable c.args.db c.args.files.items effect (c.requires.durable t)) (control_none c.args.db c.args.files.items effect (c.requires.none t)) in
    let log = c.in_ok-log.ensures in
    let Of : List DataFile → Type 0 = λ fs. IsPaged (g.D.Device.disk c.make_noted.new.dev) (the_view (record { log = c.in_ok-log.log; side = c.in_ok-side.side; pool = c.in_ok-pool.pool; facts = record { checkpoint = 1; files = fs }; note = c.in_ok-note.note; since = 1 })) (unwritten c.args.files.items c.args.note.now) in
    subst Of (sym c.new.ensures) (made_stands c.args.db c.args.files.items c.args.note.now c.in_ok-note.note.items c.deref-2.result.now c.in_ok-log.log c.in_ok-side.side c.in_ok-pool.pool _ b (g.D.Device.disk c.make_noted.new.dev) (have_room c.args.files.items c.args.note.now c.requires.may) c.requires.may.different noted copied
    c.in_ok-side.ensures.name names (c.in_ok-side.ensures.stands t) (c.in_ok-side.ensures.none t) first c.in_ok-pool.ensures.none made (log.stands t) (log.value t) log.db log.end.0 log.end.1 log.end.2 log.none)

pub invariant_of-result : goal.invariant_of-result
invariant_of-result g c =
    let Files : List DataFile → Type 0 = λ fs. AllByRecursion HasPath fs × HaveRoom fs c.args.note.now in
    let copied : c.in_ok-note.note.items ≡ c.args.note.now = search rules in
    let kept = subst Files (sym c.new.ensures) (c.requires.may.paths, have_room c.args.files.items c.args.note.now c.requires.may) in
    (c.in_ok-pool.ensures.pool, kept.0, subst (λ (n : List ℕ). HaveRoom c.new.result n) (sym copied) kept.1)
