use Rattle.std.proofs.Common.{◌≡◌, ◌∙◌, ℕ, List, None, inl, sym, ap, subst}
use Rattle.std.specs.Prelude.{◌||◌}
use Rattle.std.proofs.lemmas.Result.{err_from_is_err_and}
use Rattle.bk_device.specs.Compose.{effect_then, effect_then_nothing}
use Rattle.bk_facts.specs.declared.facts.DataFile.{DataFile}
use Rattle.bk_ids.specs.declared.record.Rec.{Rec}
use Rattle.bk_lemmas.specs.Tests.{same_error}
use Rattle.bk_log.specs.Log.{Kept as KeptLog}
use Rattle.bk_paths.specs.Paths.{end_of, kept_from, settled}
use Rattle.bk_record.specs.Log.{IsLog as AreRecords}
use Rattle.bk_side.specs.Names.{AreDifferent}
use Rattle.bk_side.specs.Side.{pages_of}
use Rattle.bk_paged.specs.declared.error.PagedError.TheVariants.{Foreign}
use Rattle.bk_paged.specs.Holds.{recovered}
use Rattle.bk_paged.specs.Names.{names_of}
use Rattle.bk_opening.specs.Opening.{AreHeld, AreIn, Brings}
use Rattle.bk_opening.specs.TouchLaws.{log-touched, side-touched}
use Rattle.bk_paged.specs.Paged.{IsPaged, Kept, Standing, Touches, sealed_count}
use Rattle.bk_opening.proofs.Causes.{as_error, foreign_log, same_cause}
use Rattle.bk_opening.proofs.Loading.{SideOpened, brings, grown_bytes, grown_is, held_bytes, log_crash, log_read, noted_then, opened_count, opened_held, opened_standing, opened_stands, opened_touches, room, side_crash}
use Rattle.bk_opening.proofs.Resting.{none_waits, open_still}
use Rattle.bk_opening.proofs.Settled.{Settles}
use Rattle.bk_opening.proofs.opening.open.Goals as goal

pub returns-in_err-log-clause-foreign : goal.returns-in_err-log-clause-foreign
returns-in_err-log-clause-foreign g c t is stood durable holds =
    let p = err_from_is_err_and c.from_residual.result c.from_residual.ensures.1 in
    c.in_err-log.ensures.foreign t (as_error (foreign_log c.in_err-log.field-0.0 p.0 p.2 (same_cause p.0 Foreign p.1 is))) holds.log holds.log_is

pub returns-in_err-log-clause-crash : goal.returns-in_err-log-clause-crash
returns-in_err-log-clause-crash g c t stood durable holds =
    log_crash c.args.db stood (g.D.Device.disk c.args.dev.now) (g.D.Device.disk c.read.new.dev) durable holds (c.read.ensures.crash t (λ name own. durable name (inl own)))

pub returns-in_err-facts-clause-foreign : goal.returns-in_err-facts-clause-foreign
returns-in_err-facts-clause-foreign g c t =
    let a = g.D.Device.disk c.args.dev.now in
    let b = g.D.Device.disk c.read.new.dev in
    let p = err_from_is_err_and c.from_residual-in_err-facts.result c.from_residual-in_err-facts.ensures.1 in
    rw (p.1, p.2) (λ is stood durable holds. c.in_err-facts.ensures.foreign (same_error c.in_err-facts.field-0.0 Foreign is) (record { checkpoint = holds.checkpoint; files = stood.files }) stood.note
    (noted_then c.args.db stood a b c.in_ok-log.log holds (c.in_ok-log.ensures.loaded t) (c.in_ok-log.ensures.value t (c.requires.settled t))) holds.room)

pub returns-in_err-facts-clause-crash : goal.returns-in_err-facts-clause-crash
returns-in_err-facts-clause-crash g c t stood durable holds =
    let a = g.D.Device.disk c.args.dev.now in
    let b = g.D.Device.disk c.read.new.dev in
    log_crash c.args.db stood a b durable holds (c.read.ensures.crash t (λ name own. durable name (inl own)))

pub returns-in_err-side-clause-foreign : goal.returns-in_err-side-clause-foreign
returns-in_err-side-clause-foreign g c t =
    let a = g.D.Device.disk c.args.dev.now in
    let b = g.D.Device.disk c.read.new.dev in
    let d = g.D.Device.disk c.load_side.new.dev in
    let log = c.in_ok-log.log in
    let facts = c.in_ok-facts.facts in
    let note = c.in_ok-facts.note.items in
    let mine = c.requires.settled t in
    let p = err_from_is_err_and c.from_residual-in_err-side.result c.from_residual-in_err-side.ensures.1 in
    rw (p.1, p.2) (λ is stood durable holds.
    let is_read = log_read c.args.db stood a b log facts note durable holds c.in_ok-log.ensures.db (c.in_ok-log.ensures.loaded t) (c.in_ok-log.ensures.value t mine) (c.in_ok-log.ensures.stands t mine) (c.read.ensures.crash t (λ name own. durable name (inl own))) c.in_ok-facts.ensures.noted in
    c.in_err-side.ensures.foreign (same_error c.in_err-side.field-0.0 Foreign is) (subst (λ (fs : List DataFile). AreDifferent (names_of fs)) (sym is_read.files) holds.different))

pub returns-in_err-side-clause-crash : goal.returns-in_err-side-clause-crash
returns-in_err-side-clause-crash g c t stood durable holds =
    let a = g.D.Device.disk c.args.dev.now in
    let b = g.D.Device.disk c.read.new.dev in
    let d = g.D.Device.disk c.load_side.new.dev in
    let log = c.in_ok-log.log in
    let facts = c.in_ok-facts.facts in
    let note = c.in_ok-facts.note.items in
    let mine = c.requires.settled t in
    let is_read = log_read c.args.db stood a b log facts note durable holds c.in_ok-log.ensures.db (c.in_ok-log.ensures.loaded t) (c.in_ok-log.ensures.value t mine) (c.in_ok-log.ensures.stands t mine) (c.read.ensures.crash t (λ name own. durable name (inl own))) c.in_ok-facts.ensures.noted in
    side_crash c.args.db stood a b d log facts note is_read (c.load_side.ensures.crash t)

pub returns-in_err-append_undoing-clause-foreign : goal.returns-in_err-append_undoing-clause-foreign
returns-in_err-append_undoing-clause-foreign g c t =
    let a = g.D.Device.disk c.args.dev.now in
    let b = g.D.Device.disk c.read.new.dev in
    let log = c.in_ok-log.log in
    let facts = c.in_ok-facts.facts in
    let note = c.in_ok-facts.note.items in
    let mine = c.requires.settled t in
    let p = err_from_is_err_and c.from_residual-in_err-append_undoing.result c.from_residual-in_err-append_undoing.ensures.1 in
    rw (p.1, p.2) (λ is stood durable holds.
    let is_read = log_read c.args.db stood a b log facts note durable holds c.in_ok-log.ensures.db (c.in_ok-log.ensures.loaded t) (c.in_ok-log.ensures.value t mine) (c.in_ok-log.ensures.stands t mine) (c.read.ensures.crash t (λ name own. durable name (inl own))) c.in_ok-facts.ensures.noted in
    let laws : Settles = record { path = c.settling_law.ensures.path; fills = c.settling_law.ensures.fills; again = c.settling_law.ensures.again; enough = c.settling_law.ensures.enough; keeps = c.settling_law.ensures.keeps } in
    let last = c.in_ok-log.ensures.end in
    let kept : List Rec = kept_from is_read.holds.log.kept stood.records in
    let held = held_bytes c.args.db stood a b log facts note c.in_ok-log.records is_read (c.in_ok-log.ensures.value t mine) (c.in_ok-log.ensures.bytes t) in
    c.in_err-append_undoing.ensures.foreign kept held (room laws c.args.db stood a b log facts note is_read last) (same_error c.in_err-append_undoing.field-0.0 Foreign is))

pub returns-in_err-append_undoing-clause-crash : goal.returns-in_err-append_undoing-clause-crash
returns-in_err-append_undoing-clause-crash g c t stood durable holds =
    let a = g.D.Device.disk c.args.dev.now in
    let b = g.D.Device.disk c.read.new.dev in
    log_crash c.args.db stood a b durable holds (c.read.ensures.crash t (λ name own. durable name (inl own)))

pub returns-in_err-pool-clause-foreign : goal.returns-in_err-pool-clause-foreign
returns-in_err-pool-clause-foreign g c t =
    let a = g.D.Device.disk c.args.dev.now in
    let b = g.D.Device.disk c.read.new.dev in
    let d = g.D.Device.disk c.load_side.new.dev in
    let log = c.in_ok-log.log in
    let facts = c.in_ok-facts.facts in
    let note = c.in_ok-facts.note.items in
    let mine = c.requires.settled t in
    let p = err_from_is_err_and c.from_residual-in_err-pool.result c.from_residual-in_err-pool.ensures.1 in
    rw (p.1, p.2) (λ is stood durable holds.
    let is_read = log_read c.args.db stood a b log facts note durable holds c.in_ok-log.ensures.db (c.in_ok-log.ensures.loaded t) (c.in_ok-log.ensures.value t mine) (c.in_ok-log.ensures.stands t mine) (c.read.ensures.crash t (λ name own. durable name (inl own))) c.in_ok-facts.ensures.noted in
    let laws : Settles = record { path = c.settling_law.ensures.path; fills = c.settling_law.ensures.fills; again = c.settling_law.ensures.again; enough = c.settling_law.ensures.enough; keeps = c.settling_law.ensures.keeps } in
    let last = c.in_ok-log.ensures.end in
    let kept : List Rec = kept_from is_read.holds.log.kept stood.records in
    let held = held_bytes c.args.db stood a b log facts note c.in_ok-log.records is_read (c.in_ok-log.ensures.value t mine) (c.in_ok-log.ensures.bytes t) in
    let side = c.in_ok-side.side in
    let opened : SideOpened c.args.db facts b d side = record {
      name = c.in_ok-side.ensures.name;
      names = c.in_ok-side.ensures.names;
      stands = c.in_ok-side.ensures.stands t;
      none = c.in_ok-side.ensures.none t;
      same = c.in_ok-side.ensures.same t;
      effect = c.load_side.ensures.crash t;
    } in
    let new = c.append_undoing.new.log in
    let grown = grown_is laws c.args.db stood a b log facts note is_read last new c.in_ok-log.ensures.none (c.in_ok-append_undoing.ensures.log kept held) in
    let whole = grown_bytes laws c.args.db stood a b log facts note is_read last c.append_undoing.new.bytes (c.in_ok-append_undoing.ensures.bytes kept held) in
    let ends : c.end.result ≡ end_of (settled stood.records) = c.end.ensures ∙ ap (λ (l : KeptLog). l.end) grown in
    let bytes : AreRecords c.as_slice.result.now (kept_from is_read.holds.log.kept (settled stood.records)) None = subst (λ (bs : List ℕ). AreRecords bs (kept_from is_read.holds.log.kept (settled stood.records)) None) (sym c.as_slice.ensures) whole in
    let can : Brings facts (pages_of side d.files) c.as_slice.result.now c.end.result (settled stood.records) = brings laws c.args.db stood a b log facts note is_read last d side opened c.as_slice.result.now c.end.result bytes ends in
    c.in_err-pool.ensures.foreign t (same_error c.in_err-pool.field-0.0 Foreign is) (settled stood.records) can c.in_ok-facts.ensures.room.few)

pub returns-in_err-pool-clause-crash : goal.returns-in_err-pool-clause-crash
returns-in_err-pool-clause-crash g c t stood durable holds =
    let a = g.D.Device.disk c.args.dev.now in
    let b = g.D.Device.disk c.read.new.dev in
    let d = g.D.Device.disk c.load_side.new.dev in
    let log = c.in_ok-log.log in
    let facts = c.in_ok-facts.facts in
    let note = c.in_ok-facts.note.items in
    let mine = c.requires.settled t in
    let is_read = log_read c.args.db stood a b log facts note durable holds c.in_ok-log.ensures.db (c.in_ok-log.ensures.loaded t) (c.in_ok-log.ensures.value t mine) (c.in_ok-log.ensures.stands t mine) (c.read.ensures.crash t (λ name own. durable name (inl own))) c.in_ok-facts.ensures.noted in
    effect_then_nothing (side_crash c.args.db stood a b d log facts note is_read (c.load_side.ensures.crash t)) (c.open_pool.ensures.effect t)

pub returns-clause-crash : goal.returns-clause-crash
returns-clause-crash g c t stood durable holds =
    let a = g.D.Device.disk c.args.dev.now in
    let b = g.D.Device.disk c.read.new.dev in
    let d = g.D.Device.disk c.load_side.new.dev in
    let log = c.in_ok-log.log in
    let facts = c.in_ok-facts.facts in
    let note = c.in_ok-facts.note.items in
    let mine = c.requires.settled t in
    let is_read = log_read c.args.db stood a b log facts note durable holds c.in_ok-log.ensures.db (c.in_ok-log.ensures.loaded t) (c.in_ok-log.ensures.value t mine) (c.in_ok-log.ensures.stands t mine) (c.read.ensures.crash t (λ name own. durable name (inl own))) c.in_ok-facts.ensures.noted in
    effect_then_nothing (side_crash c.args.db stood a b d log facts note is_read (c.load_side.ensures.crash t)) (c.open_pool.ensures.effect t)

pub returns-clause-standing : goal.returns-clause-standing
returns-clause-standing g c t =
    let b = g.D.Device.disk c.read.new.dev in
    let d = g.D.Device.disk c.load_side.new.dev in
    let e = g.D.Device.disk c.open_pool.new.dev in
    let side = c.in_ok-side.side in
    subst (Standing e) (sym c.from_parts-paged.ensures)
    (opened_standing b d e c.in_ok-log.log c.append_undoing.new.log side c.in_ok-pool.pool c.in_ok-facts.facts c.in_ok-facts.note.items _ _ (c.in_ok-log.ensures.stands t (c.requires.settled t)) c.in_ok-log.ensures.db (c.load_side.ensures.crash t) (c.open_pool.ensures.effect t)
    c.in_ok-append_undoing.ensures.waits c.in_ok-side.ensures.name c.in_ok-side.ensures.names (c.in_ok-side.ensures.stands t) (c.in_ok-side.ensures.none t) c.in_ok-facts.ensures.noted c.in_ok-facts.ensures.room c.in_ok-side.ensures.different)

pub returns-clause-stands : goal.returns-clause-stands
returns-clause-stands g c t stood durable holds =
    let a = g.D.Device.disk c.args.dev.now in
    let b = g.D.Device.disk c.read.new.dev in
    let d = g.D.Device.disk c.load_side.new.dev in
    let log = c.in_ok-log.log in
    let facts = c.in_ok-facts.facts in
    let note = c.in_ok-facts.note.items in
    let mine = c.requires.settled t in
    let e = g.D.Device.disk c.open_pool.new.dev in
    let is_read = log_read c.args.db stood a b log facts note durable holds c.in_ok-log.ensures.db (c.in_ok-log.ensures.loaded t) (c.in_ok-log.ensures.value t mine) (c.in_ok-log.ensures.stands t mine) (c.read.ensures.crash t (λ name own. durable name (inl own))) c.in_ok-facts.ensures.noted in
    let laws : Settles = record { path = c.settling_law.ensures.path; fills = c.settling_law.ensures.fills; again = c.settling_law.ensures.again; enough = c.settling_law.ensures.enough; keeps = c.settling_law.ensures.keeps } in
    let last = c.in_ok-log.ensures.end in
    let kept : List Rec = kept_from is_read.holds.log.kept stood.records in
    let held = held_bytes c.args.db stood a b log facts note c.in_ok-log.records is_read (c.in_ok-log.ensures.value t mine) (c.in_ok-log.ensures.bytes t) in
    let side = c.in_ok-side.side in
    let opened : SideOpened c.args.db facts b d side = record {
      name = c.in_ok-side.ensures.name;
      names = c.in_ok-side.ensures.names;
      stands = c.in_ok-side.ensures.stands t;
      none = c.in_ok-side.ensures.none t;
      same = c.in_ok-side.ensures.same t;
      effect = c.load_side.ensures.crash t;
    } in
    let new = c.append_undoing.new.log in
    let grown = grown_is laws c.args.db stood a b log facts note is_read last new c.in_ok-log.ensures.none (c.in_ok-append_undoing.ensures.log kept held) in
    let whole = grown_bytes laws c.args.db stood a b log facts note is_read last c.append_undoing.new.bytes (c.in_ok-append_undoing.ensures.bytes kept held) in
    let ends : c.end.result ≡ end_of (settled stood.records) = c.end.ensures ∙ ap (λ (l : KeptLog). l.end) grown in
    let bytes : AreRecords c.as_slice.result.now (kept_from is_read.holds.log.kept (settled stood.records)) None = subst (λ (bs : List ℕ). AreRecords bs (kept_from is_read.holds.log.kept (settled stood.records)) None) (sym c.as_slice.ensures) whole in
    let can : Brings facts (pages_of side d.files) c.as_slice.result.now c.end.result (settled stood.records) = brings laws c.args.db stood a b log facts note is_read last d side opened c.as_slice.result.now c.end.result bytes ends in
    let standing = opened_standing b d e log new side c.in_ok-pool.pool facts note facts.checkpoint _ (c.in_ok-log.ensures.stands t mine) c.in_ok-log.ensures.db (c.load_side.ensures.crash t) (c.open_pool.ensures.effect t)
    c.in_ok-append_undoing.ensures.waits c.in_ok-side.ensures.name c.in_ok-side.ensures.names (c.in_ok-side.ensures.stands t) (c.in_ok-side.ensures.none t) c.in_ok-facts.ensures.noted c.in_ok-facts.ensures.room c.in_ok-side.ensures.different in
    let made = opened_stands laws c.args.db stood a b log facts note is_read last d side opened e new c.in_ok-pool.pool _ (c.open_pool.ensures.effect t) grown standing
    (c.in_ok-pool.ensures.frames t (settled stood.records) can) (c.in_ok-pool.ensures.clean t (settled stood.records) can) in (
      subst (λ (k : Kept). IsPaged e k (recovered stood)) (sym c.from_parts-paged.ensures) made,
      ap sealed_count c.from_parts-paged.ensures ∙ opened_count laws c.args.db stood a b log facts note is_read last d side opened new grown,
    )

pub returns-clause-records : goal.returns-clause-records
returns-clause-records g c t stood durable holds =
    let a = g.D.Device.disk c.args.dev.now in
    let b = g.D.Device.disk c.read.new.dev in
    let d = g.D.Device.disk c.load_side.new.dev in
    let log = c.in_ok-log.log in
    let facts = c.in_ok-facts.facts in
    let note = c.in_ok-facts.note.items in
    let mine = c.requires.settled t in
    let is_read = log_read c.args.db stood a b log facts note durable holds c.in_ok-log.ensures.db (c.in_ok-log.ensures.loaded t) (c.in_ok-log.ensures.value t mine) (c.in_ok-log.ensures.stands t mine) (c.read.ensures.crash t (λ name own. durable name (inl own))) c.in_ok-facts.ensures.noted in
    let laws : Settles = record { path = c.settling_law.ensures.path; fills = c.settling_law.ensures.fills; again = c.settling_law.ensures.again; enough = c.settling_law.ensures.enough; keeps = c.settling_law.ensures.keeps } in
    let last = c.in_ok-log.ensures.end in
    let kept : List Rec = kept_from is_read.holds.log.kept stood.records in
    let held = held_bytes c.args.db stood a b log facts note c.in_ok-log.records is_read (c.in_ok-log.ensures.value t mine) (c.in_ok-log.ensures.bytes t) in
    let side = c.in_ok-side.side in
    let opened : SideOpened c.args.db facts b d side = record {
      name = c.in_ok-side.ensures.name;
      names = c.in_ok-side.ensures.names;
      stands = c.in_ok-side.ensures.stands t;
      none = c.in_ok-side.ensures.none t;
      same = c.in_ok-side.ensures.same t;
      effect = c.load_side.ensures.crash t;
    } in
    let new = c.append_undoing.new.log in
    let grown = grown_is laws c.args.db stood a b log facts note is_read last new c.in_ok-log.ensures.none (c.in_ok-append_undoing.ensures.log kept held) in
    let whole = grown_bytes laws c.args.db stood a b log facts note is_read last c.append_undoing.new.bytes (c.in_ok-append_undoing.ensures.bytes kept held) in
    subst (λ (k : Kept). AreHeld k (recovered stood) c.append_undoing.new.bytes) (sym c.from_parts-paged.ensures) (opened_held laws c.args.db stood a b log facts note is_read last d side opened new c.in_ok-pool.pool (new.failed || side.failed) c.append_undoing.new.bytes grown whole)

pub returns-clause-whole : goal.returns-clause-whole
returns-clause-whole g c = subst (λ (k : Kept). AreIn k.facts.files k.pool) (sym c.from_parts-paged.ensures) c.in_ok-pool.ensures.whole

pub returns-clause-touches : goal.returns-clause-touches
returns-clause-touches g c t =
    let a = g.D.Device.disk c.args.dev.now in
    let e = g.D.Device.disk c.open_pool.new.dev in
    let new = c.append_undoing.new.log in
    let same : new.db ≡ c.args.db = ap (λ (l : KeptLog). l.db) c.in_ok-append_undoing.ensures.waits ∙ c.in_ok-log.ensures.db in
    subst (λ (k : Kept). Touches k a e) (sym c.from_parts-paged.ensures)
    (opened_touches c.args.db new.db c.in_ok-facts.facts.files same (c.read.ensures.touches t) (c.load_side.ensures.crash t) (c.open_pool.ensures.effect t))

pub returns-clause-none : goal.returns-clause-none
returns-clause-none g c t quiet =
    let a = g.D.Device.disk c.args.dev.now in
    let b = g.D.Device.disk c.read.new.dev in
    let mine = c.requires.settled t in
    let none = none_waits c.args.db a b c.in_ok-log.log c.append_undoing.new.log c.in_ok-log.records quiet (c.in_ok-log.ensures.loaded t) (c.in_ok-log.ensures.value t mine) (c.in_ok-log.ensures.stands t mine) c.in_ok-log.ensures.none c.in_ok-log.ensures.end (c.in_ok-log.ensures.bytes t)
    c.in_ok-append_undoing.ensures.log in
    ap (λ (k : Kept). k.log.waiting) c.from_parts-paged.ensures ∙ none

pub returns-clause-still : goal.returns-clause-still
returns-clause-still g c t quiet = open_still c.args.db (g.met.D.Device.lawful t c.args.dev.now) quiet (c.read.ensures.rests t) (c.in_ok-side.ensures.still t) (c.open_pool.ensures.effect t)

pub returns-in_err-log-clause-mine : goal.returns-in_err-log-clause-mine
returns-in_err-log-clause-mine g c t = log-touched c.args.db (c.read.ensures.touches t)

pub returns-in_err-facts-clause-mine : goal.returns-in_err-facts-clause-mine
returns-in_err-facts-clause-mine g c t = log-touched c.args.db (c.read.ensures.touches t)

pub returns-in_err-append_undoing-clause-mine : goal.returns-in_err-append_undoing-clause-mine
returns-in_err-append_undoing-clause-mine g c t = log-touched c.args.db (c.read.ensures.touches t)

pub returns-in_err-side-clause-mine : goal.returns-in_err-side-clause-mine
returns-in_err-side-clause-mine g c t = effect_then (log-touched c.args.db (c.read.ensures.touches t)) (side-touched c.args.db c.in_ok-facts.facts.files (c.load_side.ensures.crash t))

pub returns-in_err-pool-clause-mine : goal.returns-in_err-pool-clause-mine
returns-in_err-pool-clause-mine g c t =
    effect_then_nothing (effect_then (log-touched c.args.db (c.read.ensures.touches t)) (side-touched c.args.db c.in_ok-facts.facts.files (c.load_side.ensures.crash t))) (c.open_pool.ensures.effect t)

pub returns-clause-mine : goal.returns-clause-mine
returns-clause-mine g c t =
    effect_then_nothing (effect_then (log-touched c.args.db (c.read.ensures.touches t)) (side-touched c.args.db c.in_ok-facts.facts.files (c.load_side.ensures.crash t))) (c.open_pool.ensures.effect t)
