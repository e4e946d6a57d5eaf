use Rattle.std.proofs.Common.{◌≡◌, ◌≤◌, ◌<◌, ◌⊎◌, ◌+◌, ◌++◌, ◌^◌, List, [], ◌∷◌, ℕ, Some, false, refl, sym, ap, subst, ◌∙◌, arith}
use Rattle.std.specs.Prelude.{◌||◌}
use Rattle.bk_device.specs.Disk.{IsDurable}
use Rattle.bk_device.specs.Effects.{Effect}
use Rattle.bk_log.specs.contracts.log.Log.{the_view}
use Rattle.bk_segments.specs.Control.{read_control, IsSound}
use Rattle.bk_segments.specs.BatchLaws.{part_none, records_none}
use Rattle.bk_segments.specs.Records.{IsPart, records_in}
use Rattle.bk_log.specs.Log.{Kept, IsLog, value_of}
use Rattle.bk_segments.specs.Files.{IsAdded, IsOwn, LogIs, segment_file, blobs_at, emptied, shown}
use Rattle.bk_log.proofs.Cuts.{cleared, cleared_sound, cleared_log, cleared_value}
use Rattle.bk_log.proofs.Resets.{begun, begun_sound, begun_kept, begun_put, emptied_second, emptied_third}
use Rattle.bk_log.proofs.log.Log.empty.Goals as goal

pub returns-in_err-put-clause-crash : goal.returns-in_err-put-clause-crash
returns-in_err-put-clause-crash g c t =
    let b = g.D.Device.disk c.args.dev.now in
    let d = g.D.Device.disk c.put.new.dev in
    let is = subst (IsLog b) (sym c.self.view_is) (c.requires.stands t) in
    let log : Kept = the_view c.self.inside in
    let n : ℕ = log.head.back + 1 in
    let small : c.args.at < 2 ^ 64 = omega arith in
    let sound = begun_sound c.args.at is.sound (subst (λ (k : Kept). k.head.back + 1 ≤ k.head.gone + 65536) (sym c.self.view_is) c.requires.few) (subst (λ (k : Kept). k.head.back + 1 < 2 ^ 62) (sym c.self.view_is) c.requires.small) c.requires.short in
    let durable = subst (λ (k : Kept). IsDurable b (segment_file k.db (k.head.back + 1))) (sym c.self.view_is) (c.requires.durable t) in
    let one = subst (λ (k : Kept). blobs_at b.files k.db (k.head.back + 1) ≡ [] ∷ []) (sym c.self.view_is) (c.requires.sealed t) in
    let reads : read_control c.deref.result.now ≡ Some (begun log.head c.args.at, c.args.note.now) = ap read_control c.deref.ensures.value ∙ c.spell.ensures.reads in
    let W : Kept → Type 0 = λ k. Effect (IsOwn k.db) (λ image. LogIs image k.db (value_of b.files k) ⊎ LogIs image k.db (emptied c.args.at c.args.note.now)) b d in
    subst W c.self.view_is (begun_put log b d c.args.at c.args.note.now c.deref.result.now is small sound reads durable one (c.put.ensures.crash t))

pub returns-in_err-remove_named-clause-crash : goal.returns-in_err-remove_named-clause-crash
returns-in_err-remove_named-clause-crash g c t =
    let b = g.D.Device.disk c.args.dev.now in
    let d = g.D.Device.disk c.put.new.dev in
    let is = subst (IsLog b) (sym c.self.view_is) (c.requires.stands t) in
    let log : Kept = the_view c.self.inside in
    let n : ℕ = log.head.back + 1 in
    let small : c.args.at < 2 ^ 64 = omega arith in
    let sound = begun_sound c.args.at is.sound (subst (λ (k : Kept). k.head.back + 1 ≤ k.head.gone + 65536) (sym c.self.view_is) c.requires.few) (subst (λ (k : Kept). k.head.back + 1 < 2 ^ 62) (sym c.self.view_is) c.requires.small) c.requires.short in
    let durable = subst (λ (k : Kept). IsDurable b (segment_file k.db (k.head.back + 1))) (sym c.self.view_is) (c.requires.durable t) in
    let one = subst (λ (k : Kept). blobs_at b.files k.db (k.head.back + 1) ≡ [] ∷ []) (sym c.self.view_is) (c.requires.sealed t) in
    let reads : read_control c.deref.result.now ≡ Some (begun log.head c.args.at, c.args.note.now) = ap read_control c.deref.ensures.value ∙ c.spell.ensures.reads in
    let e = g.D.Device.disk c.remove_named.new.dev in
    let gate_name = subst (λ (k : Kept). c.args.gate.name ≡ segment_file k.db (k.head.back + 1)) (sym c.self.view_is) c.requires.gate_name in
    let added = subst (λ (k : Kept). IsAdded [] c.args.segments.items k.db (k.head.back + 1) c.args.at) (sym c.self.view_is) c.requires.added in
    let second = emptied_second log b d e c.args.at c.args.note.now c.deref.result.now c.deref-2.result.now c.put.new.self c.args.gate c.args.segments.items is small sound reads c.put.ensures.name c.in_ok-put.ensures.content (c.in_ok-put.ensures.stands t)
    gate_name (c.requires.gate_stands t) added durable one c.deref-2.ensures.value (c.put.ensures.crash t) (c.remove_named.ensures.crash t) in
    let W : Kept → Type 0 = λ k. Effect (IsOwn k.db) (λ image. LogIs image k.db (value_of b.files k) ⊎ LogIs image k.db (emptied c.args.at c.args.note.now)) b e in
    subst W c.self.view_is second.0

pub returns-in_err-put-2-clause-crash : goal.returns-in_err-put-2-clause-crash
returns-in_err-put-2-clause-crash g c t =
    let b = g.D.Device.disk c.args.dev.now in
    let d = g.D.Device.disk c.put.new.dev in
    let is = subst (IsLog b) (sym c.self.view_is) (c.requires.stands t) in
    let log : Kept = the_view c.self.inside in
    let n : ℕ = log.head.back + 1 in
    let small : c.args.at < 2 ^ 64 = omega arith in
    let sound = begun_sound c.args.at is.sound (subst (λ (k : Kept). k.head.back + 1 ≤ k.head.gone + 65536) (sym c.self.view_is) c.requires.few) (subst (λ (k : Kept). k.head.back + 1 < 2 ^ 62) (sym c.self.view_is) c.requires.small) c.requires.short in
    let durable = subst (λ (k : Kept). IsDurable b (segment_file k.db (k.head.back + 1))) (sym c.self.view_is) (c.requires.durable t) in
    let one = subst (λ (k : Kept). blobs_at b.files k.db (k.head.back + 1) ≡ [] ∷ []) (sym c.self.view_is) (c.requires.sealed t) in
    let reads : read_control c.deref.result.now ≡ Some (begun log.head c.args.at, c.args.note.now) = ap read_control c.deref.ensures.value ∙ c.spell.ensures.reads in
    let e = g.D.Device.disk c.remove_named.new.dev in
    let gate_name = subst (λ (k : Kept). c.args.gate.name ≡ segment_file k.db (k.head.back + 1)) (sym c.self.view_is) c.requires.gate_name in
    let added = subst (λ (k : Kept). IsAdded [] c.args.segments.items k.db (k.head.back + 1) c.args.at) (sym c.self.view_is) c.requires.added in
    let second = emptied_second log b d e c.args.at c.args.note.now c.deref.result.now c.deref-2.result.now c.put.new.self c.args.gate c.args.segments.items is small sound reads c.put.ensures.name c.in_ok-put.ensures.content (c.in_ok-put.ensures.stands t)
    gate_name (c.requires.gate_stands t) added durable one c.deref-2.ensures.value (c.put.ensures.crash t) (c.remove_named.ensures.crash t) in
    let f = g.D.Device.disk c.put-2.new.dev in
    let again : read_control c.deref-3.result.now ≡ Some (cleared (begun log.head c.args.at), c.args.note.now) = ap read_control c.deref-3.ensures.value ∙ c.spell-2.ensures.reads in
    let W : Kept → Type 0 = λ k. Effect (IsOwn k.db) (λ image. LogIs image k.db (value_of b.files k) ⊎ LogIs image k.db (emptied c.args.at c.args.note.now)) b f in
    subst W c.self.view_is (emptied_third log b e f c.args.at c.args.note.now c.deref-3.result.now c.put.new.self c.args.gate c.args.segments.items second.1 second.2 again second.0 (c.put-2.ensures.crash t))

pub returns-clause-crash : goal.returns-clause-crash
returns-clause-crash g c t =
    let b = g.D.Device.disk c.args.dev.now in
    let d = g.D.Device.disk c.put.new.dev in
    let is = subst (IsLog b) (sym c.self.view_is) (c.requires.stands t) in
    let log : Kept = the_view c.self.inside in
    let n : ℕ = log.head.back + 1 in
    let small : c.args.at < 2 ^ 64 = omega arith in
    let sound = begun_sound c.args.at is.sound (subst (λ (k : Kept). k.head.back + 1 ≤ k.head.gone + 65536) (sym c.self.view_is) c.requires.few) (subst (λ (k : Kept). k.head.back + 1 < 2 ^ 62) (sym c.self.view_is) c.requires.small) c.requires.short in
    let durable = subst (λ (k : Kept). IsDurable b (segment_file k.db (k.head.back + 1))) (sym c.self.view_is) (c.requires.durable t) in
    let one = subst (λ (k : Kept). blobs_at b.files k.db (k.head.back + 1) ≡ [] ∷ []) (sym c.self.view_is) (c.requires.sealed t) in
    let reads : read_control c.deref.result.now ≡ Some (begun log.head c.args.at, c.args.note.now) = ap read_control c.deref.ensures.value ∙ c.spell.ensures.reads in
    let e = g.D.Device.disk c.remove_named.new.dev in
    let gate_name = subst (λ (k : Kept). c.args.gate.name ≡ segment_file k.db (k.head.back + 1)) (sym c.self.view_is) c.requires.gate_name in
    let added = subst (λ (k : Kept). IsAdded [] c.args.segments.items k.db (k.head.back + 1) c.args.at) (sym c.self.view_is) c.requires.added in
    let second = emptied_second log b d e c.args.at c.args.note.now c.deref.result.now c.deref-2.result.now c.put.new.self c.args.gate c.args.segments.items is small sound reads c.put.ensures.name c.in_ok-put.ensures.content (c.in_ok-put.ensures.stands t)
    gate_name (c.requires.gate_stands t) added durable one c.deref-2.ensures.value (c.put.ensures.crash t) (c.remove_named.ensures.crash t) in
    let f = g.D.Device.disk c.put-2.new.dev in
    let again : read_control c.deref-3.result.now ≡ Some (cleared (begun log.head c.args.at), c.args.note.now) = ap read_control c.deref-3.ensures.value ∙ c.spell-2.ensures.reads in
    let W : Kept → Type 0 = λ k. Effect (IsOwn k.db) (λ image. LogIs image k.db (value_of b.files k) ⊎ LogIs image k.db (emptied c.args.at c.args.note.now)) b f in
    subst W c.self.view_is (emptied_third log b e f c.args.at c.args.note.now c.deref-3.result.now c.put.new.self c.args.gate c.args.segments.items second.1 second.2 again second.0 (c.put-2.ensures.crash t))

pub returns-clause-stands : goal.returns-clause-stands
returns-clause-stands g c t =
    let b = g.D.Device.disk c.args.dev.now in
    let d = g.D.Device.disk c.put.new.dev in
    let is = subst (IsLog b) (sym c.self.view_is) (c.requires.stands t) in
    let log : Kept = the_view c.self.inside in
    let n : ℕ = log.head.back + 1 in
    let small : c.args.at < 2 ^ 64 = omega arith in
    let sound = begun_sound c.args.at is.sound (subst (λ (k : Kept). k.head.back + 1 ≤ k.head.gone + 65536) (sym c.self.view_is) c.requires.few) (subst (λ (k : Kept). k.head.back + 1 < 2 ^ 62) (sym c.self.view_is) c.requires.small) c.requires.short in
    let durable = subst (λ (k : Kept). IsDurable b (segment_file k.db (k.head.back + 1))) (sym c.self.view_is) (c.requires.durable t) in
    let one = subst (λ (k : Kept). blobs_at b.files k.db (k.head.back + 1) ≡ [] ∷ []) (sym c.self.view_is) (c.requires.sealed t) in
    let reads : read_control c.deref.result.now ≡ Some (begun log.head c.args.at, c.args.note.now) = ap read_control c.deref.ensures.value ∙ c.spell.ensures.reads in
    let e = g.D.Device.disk c.remove_named.new.dev in
    let gate_name = subst (λ (k : Kept). c.args.gate.name ≡ segment_file k.db (k.head.back + 1)) (sym c.self.view_is) c.requires.gate_name in
    let added = subst (λ (k : Kept). IsAdded [] c.args.segments.items k.db (k.head.back + 1) c.args.at) (sym c.self.view_is) c.requires.added in
    let second = emptied_second log b d e c.args.at c.args.note.now c.deref.result.now c.deref-2.result.now c.put.new.self c.args.gate c.args.segments.items is small sound reads c.put.ensures.name c.in_ok-put.ensures.content (c.in_ok-put.ensures.stands t)
    gate_name (c.requires.gate_stands t) added durable one c.deref-2.ensures.value (c.put.ensures.crash t) (c.remove_named.ensures.crash t) in
    let f = g.D.Device.disk c.put-2.new.dev in
    let again : read_control c.deref-3.result.now ≡ Some (cleared (begun log.head c.args.at), c.args.note.now) = ap read_control c.deref-3.ensures.value ∙ c.spell-2.ensures.reads in
    let note : c.add.new.out.items ≡ c.args.note.now = c.add.ensures.items ∙ ap (λ (x : List ℕ). x ++ c.args.note.now) c.clear.ensures.items in
    let W : List ℕ → Type 0 = λ x. IsLog f (record log { control = c.put-2.new.self; gate = c.args.gate; head = cleared (begun log.head c.args.at); segments = c.args.segments.items; note = x; stored = c.args.at; end = c.args.at; waiting = records_in c.clear-2.new.self.items; failed = false || c.put-2.new.self.failed || c.args.gate.failed }) in
    subst W (sym note) (cleared_log (begun_kept log c.put.new.self c.args.gate c.args.segments.items c.args.at c.args.note.now) c.deref-3.result.now e f c.put-2.new.self c.args.at _ _ second.1 again c.put-2.ensures.name c.in_ok-put-2.ensures.content (c.in_ok-put-2.ensures.stands t) (c.put-2.ensures.crash t))

pub returns-clause-value : goal.returns-clause-value
returns-clause-value g c t =
    let b = g.D.Device.disk c.args.dev.now in
    let d = g.D.Device.disk c.put.new.dev in
    let is = subst (IsLog b) (sym c.self.view_is) (c.requires.stands t) in
    let log : Kept = the_view c.self.inside in
    let n : ℕ = log.head.back + 1 in
    let small : c.args.at < 2 ^ 64 = omega arith in
    let sound = begun_sound c.args.at is.sound (subst (λ (k : Kept). k.head.back + 1 ≤ k.head.gone + 65536) (sym c.self.view_is) c.requires.few) (subst (λ (k : Kept). k.head.back + 1 < 2 ^ 62) (sym c.self.view_is) c.requires.small) c.requires.short in
    let durable = subst (λ (k : Kept). IsDurable b (segment_file k.db (k.head.back + 1))) (sym c.self.view_is) (c.requires.durable t) in
    let one = subst (λ (k : Kept). blobs_at b.files k.db (k.head.back + 1) ≡ [] ∷ []) (sym c.self.view_is) (c.requires.sealed t) in
    let reads : read_control c.deref.result.now ≡ Some (begun log.head c.args.at, c.args.note.now) = ap read_control c.deref.ensures.value ∙ c.spell.ensures.reads in
    let e = g.D.Device.disk c.remove_named.new.dev in
    let gate_name = subst (λ (k : Kept). c.args.gate.name ≡ segment_file k.db (k.head.back + 1)) (sym c.self.view_is) c.requires.gate_name in
    let added = subst (λ (k : Kept). IsAdded [] c.args.segments.items k.db (k.head.back + 1) c.args.at) (sym c.self.view_is) c.requires.added in
    let second = emptied_second log b d e c.args.at c.args.note.now c.deref.result.now c.deref-2.result.now c.put.new.self c.args.gate c.args.segments.items is small sound reads c.put.ensures.name c.in_ok-put.ensures.content (c.in_ok-put.ensures.stands t)
    gate_name (c.requires.gate_stands t) added durable one c.deref-2.ensures.value (c.put.ensures.crash t) (c.remove_named.ensures.crash t) in
    let f = g.D.Device.disk c.put-2.new.dev in
    let again : read_control c.deref-3.result.now ≡ Some (cleared (begun log.head c.args.at), c.args.note.now) = ap read_control c.deref-3.ensures.value ∙ c.spell-2.ensures.reads in
    let note : c.add.new.out.items ≡ c.args.note.now = c.add.ensures.items ∙ ap (λ (x : List ℕ). x ++ c.args.note.now) c.clear.ensures.items in
    let W : List ℕ → Type 0 = λ x. shown f.files log.db (cleared (begun log.head c.args.at)) x ≡ emptied c.args.at c.args.note.now in
    subst W (sym note) (cleared_value (begun_kept log c.put.new.self c.args.gate c.args.segments.items c.args.at c.args.note.now) e f second.1 (c.put-2.ensures.crash t) ∙ second.2)

pub put-requires-2-clause-stands : goal.put-requires-2-clause-stands
put-requires-2-clause-stands g c t =
    let b = g.D.Device.disk c.args.dev.now in
    let d = g.D.Device.disk c.put.new.dev in
    let is = subst (IsLog b) (sym c.self.view_is) (c.requires.stands t) in
    let log : Kept = the_view c.self.inside in
    let n : ℕ = log.head.back + 1 in
    let small : c.args.at < 2 ^ 64 = omega arith in
    let sound = begun_sound c.args.at is.sound (subst (λ (k : Kept). k.head.back + 1 ≤ k.head.gone + 65536) (sym c.self.view_is) c.requires.few) (subst (λ (k : Kept). k.head.back + 1 < 2 ^ 62) (sym c.self.view_is) c.requires.small) c.requires.short in
    let durable = subst (λ (k : Kept). IsDurable b (segment_file k.db (k.head.back + 1))) (sym c.self.view_is) (c.requires.durable t) in
    let one = subst (λ (k : Kept). blobs_at b.files k.db (k.head.back + 1) ≡ [] ∷ []) (sym c.self.view_is) (c.requires.sealed t) in
    let reads : read_control c.deref.result.now ≡ Some (begun log.head c.args.at, c.args.note.now) = ap read_control c.deref.ensures.value ∙ c.spell.ensures.reads in
    let e = g.D.Device.disk c.remove_named.new.dev in
    let gate_name = subst (λ (k : Kept). c.args.gate.name ≡ segment_file k.db (k.head.back + 1)) (sym c.self.view_is) c.requires.gate_name in
    let added = subst (λ (k : Kept). IsAdded [] c.args.segments.items k.db (k.head.back + 1) c.args.at) (sym c.self.view_is) c.requires.added in
    let second = emptied_second log b d e c.args.at c.args.note.now c.deref.result.now c.deref-2.result.now c.put.new.self c.args.gate c.args.segments.items is small sound reads c.put.ensures.name c.in_ok-put.ensures.content (c.in_ok-put.ensures.stands t)
    gate_name (c.requires.gate_stands t) added durable one c.deref-2.ensures.value (c.put.ensures.crash t) (c.remove_named.ensures.crash t) in
    second.1.controls

pub invariant_of-self-2 : goal.invariant_of-self-2
invariant_of-self-2 g c =
    let inv = c.self.invariant in
    let few : c.self.inside.head.back + 1 ≤ c.self.inside.head.gone + 65536 = subst (λ (k : Kept). k.head.back + 1 ≤ k.head.gone + 65536) (sym c.self.view_is) c.requires.few in
    let small : c.self.inside.head.back + 1 < 2 ^ 62 = subst (λ (k : Kept). k.head.back + 1 < 2 ^ 62) (sym c.self.view_is) c.requires.small in
    let note : c.add.new.out.items ≡ c.args.note.now = c.add.ensures.items ∙ ap (λ (x : List ℕ). x ++ c.args.note.now) c.clear.ensures.items in (
      (λ fit. c.requires.gate_none),
      omega (arith, inv.1, c.clear.ensures.capacity, c.add.ensures.room),
      omega (arith, c.add.ensures.len, c.clear.ensures.len, c.requires.short),
      omega (arith, inv.3, c.spell.ensures.room, c.spell-2.ensures.room),
      subst (λ (bs : List ℕ). IsPart c.args.at bs c.args.at) (sym c.clear-2.ensures.items) (part_none c.args.at),
      omega arith,
      subst (λ (x : List ℕ). IsSound (cleared (begun c.self.inside.head c.args.at)) x) (sym note) (cleared_sound (begun_sound c.args.at inv.6 few small c.requires.short)),
      omega (arith, c.requires.count),
      omega (arith, inv.8, c.clear-2.ensures.len, c.clear-2.ensures.capacity),
      (λ fit. subst (λ (k : Kept). k.spare_flushes ≤ c.args.gate.spare) (sym c.self.view_is) c.requires.gate_spare),
    )

pub returns-clause-end : goal.returns-clause-end
returns-clause-end g c = (ap (λ (k : Kept). k.db) c.self.view_is, refl, refl, ap records_in c.clear-2.ensures.items ∙ records_none)
