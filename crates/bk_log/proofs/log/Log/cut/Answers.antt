use Rattle.std.proofs.Common.{◌≡◌, ◌≤◌, ◌<◌, ◌⊎◌, ◌+◌, List, ℕ, None, Some, false, length, take, refl, sym, ap, subst, ◌∙◌, arith}
use Rattle.std.specs.Prelude.{slice_get, ◌||◌}
use Rattle.bk_device.specs.Effects.{Effect}
use Rattle.bk_log.specs.contracts.log.Log.{the_view}
use Rattle.bk_segments.specs.declared.segments.Segment.{Segment}
use Rattle.bk_segments.specs.Control.{read_control}
use Rattle.bk_log.specs.Log.{Kept, IsLog, value_of}
use Rattle.bk_segments.specs.Files.{BeginsAt, IsOwn, LogIs, segment_file, shown, cut_at}
use Rattle.bk_log.proofs.Cuts.{moved, cleared, IsMove, moved_kept, moved_crash, cut_second, cut_between, cut_third, cut_gone, cleared_log, cleared_value}
use Rattle.bk_log.proofs.log.Log.cut.Goals as goal

pub returns-in_err-put-clause-crash : goal.returns-in_err-put-clause-crash
returns-in_err-put-clause-crash g c t =
    let a = g.D.Device.disk c.args.dev.now in
    let b = g.D.Device.disk c.put.new.dev in
    let is = subst (IsLog a) (sym c.self.view_is) (c.requires.stands t) in
    let log : Kept = the_view c.self.inside in
    let s : Segment = c.first_of.ensures.0 in
    let move : IsMove log c.args.to c.args.count s = record {
      there = ap (λ (xs : List Segment). slice_get xs c.args.count) (sym c.deref.ensures.value) ∙ c.first_of.ensures.1;
      first = let begins : BeginsAt c.self.inside.segments.items c.args.count s.first = (s, ap (λ (xs : List Segment). slice_get xs c.args.count) (sym c.deref.ensures.value) ∙ c.first_of.ensures.1, refl) in
          c.requires.first s.first (subst (λ (k : Kept). BeginsAt k.segments c.args.count s.first) c.self.view_is begins);
      from = subst (λ (k : Kept). k.head.kept ≤ c.args.to) (sym c.self.view_is) c.requires.from;
      inside = subst (λ (k : Kept). c.args.to ≤ k.stored) (sym c.self.view_is) c.requires.inside;
    } in
    let reads : read_control c.deref-3.result.now ≡ Some (moved log.head c.args.to c.args.count s.first, log.note) = ap read_control c.deref-3.ensures.value ∙ c.spell.ensures.reads ∙ ap (λ (note : List ℕ). Some (moved log.head c.args.to c.args.count c.first_of.result, note)) c.deref-2.ensures.value
    ∙ ap (λ (f : ℕ). Some (moved log.head c.args.to c.args.count f, log.note)) (sym c.first_of.ensures.2) in
    let W : Kept → Type 0 = λ k. Effect (IsOwn k.db) (λ image. LogIs image k.db (value_of a.files k) ⊎ LogIs image k.db (cut_at c.args.to (value_of a.files k))) a b in
    subst W c.self.view_is (moved_crash log a b c.args.to c.args.count s c.deref-3.result.now is move reads (c.put.ensures.crash t))

pub returns-in_err-remove_named-clause-crash : goal.returns-in_err-remove_named-clause-crash
returns-in_err-remove_named-clause-crash g c t =
    let a = g.D.Device.disk c.args.dev.now in
    let b = g.D.Device.disk c.put.new.dev in
    let is = subst (IsLog a) (sym c.self.view_is) (c.requires.stands t) in
    let log : Kept = the_view c.self.inside in
    let s : Segment = c.first_of.ensures.0 in
    let move : IsMove log c.args.to c.args.count s = record {
      there = ap (λ (xs : List Segment). slice_get xs c.args.count) (sym c.deref.ensures.value) ∙ c.first_of.ensures.1;
      first = let begins : BeginsAt c.self.inside.segments.items c.args.count s.first = (s, ap (λ (xs : List Segment). slice_get xs c.args.count) (sym c.deref.ensures.value) ∙ c.first_of.ensures.1, refl) in
          c.requires.first s.first (subst (λ (k : Kept). BeginsAt k.segments c.args.count s.first) c.self.view_is begins);
      from = subst (λ (k : Kept). k.head.kept ≤ c.args.to) (sym c.self.view_is) c.requires.from;
      inside = subst (λ (k : Kept). c.args.to ≤ k.stored) (sym c.self.view_is) c.requires.inside;
    } in
    let reads : read_control c.deref-3.result.now ≡ Some (moved log.head c.args.to c.args.count s.first, log.note) = ap read_control c.deref-3.ensures.value ∙ c.spell.ensures.reads ∙ ap (λ (note : List ℕ). Some (moved log.head c.args.to c.args.count c.first_of.result, note)) c.deref-2.ensures.value
    ∙ ap (λ (f : ℕ). Some (moved log.head c.args.to c.args.count f, log.note)) (sym c.first_of.ensures.2) in
    let d = g.D.Device.disk c.remove_named.new.dev in
    let taken : take c.args.count c.deref-4.result.now ≡ take c.args.count log.segments = ap (take c.args.count) c.deref-4.ensures.value in
    let W : Kept → Type 0 = λ k. Effect (IsOwn k.db) (λ image. LogIs image k.db (value_of a.files k) ⊎ LogIs image k.db (cut_at c.args.to (value_of a.files k))) a d in
    subst W c.self.view_is (cut_second log a b d c.args.to c.args.count s (take c.args.count c.deref-4.result.now) c.deref-3.result.now c.put.new.self is move reads c.put.ensures.name c.in_ok-put.ensures.content (c.in_ok-put.ensures.stands t) taken
    (c.put.ensures.crash t) (c.remove_named.ensures.crash t))

pub returns-in_err-put-2-clause-crash : goal.returns-in_err-put-2-clause-crash
returns-in_err-put-2-clause-crash g c t =
    let a = g.D.Device.disk c.args.dev.now in
    let b = g.D.Device.disk c.put.new.dev in
    let is = subst (IsLog a) (sym c.self.view_is) (c.requires.stands t) in
    let log : Kept = the_view c.self.inside in
    let s : Segment = c.first_of.ensures.0 in
    let move : IsMove log c.args.to c.args.count s = record {
      there = ap (λ (xs : List Segment). slice_get xs c.args.count) (sym c.deref.ensures.value) ∙ c.first_of.ensures.1;
      first = let begins : BeginsAt c.self.inside.segments.items c.args.count s.first = (s, ap (λ (xs : List Segment). slice_get xs c.args.count) (sym c.deref.ensures.value) ∙ c.first_of.ensures.1, refl) in
          c.requires.first s.first (subst (λ (k : Kept). BeginsAt k.segments c.args.count s.first) c.self.view_is begins);
      from = subst (λ (k : Kept). k.head.kept ≤ c.args.to) (sym c.self.view_is) c.requires.from;
      inside = subst (λ (k : Kept). c.args.to ≤ k.stored) (sym c.self.view_is) c.requires.inside;
    } in
    let reads : read_control c.deref-3.result.now ≡ Some (moved log.head c.args.to c.args.count s.first, log.note) = ap read_control c.deref-3.ensures.value ∙ c.spell.ensures.reads ∙ ap (λ (note : List ℕ). Some (moved log.head c.args.to c.args.count c.first_of.result, note)) c.deref-2.ensures.value
    ∙ ap (λ (f : ℕ). Some (moved log.head c.args.to c.args.count f, log.note)) (sym c.first_of.ensures.2) in
    let d = g.D.Device.disk c.remove_named.new.dev in
    let taken : take c.args.count c.deref-4.result.now ≡ take c.args.count log.segments = ap (take c.args.count) c.deref-4.ensures.value in
    let e = g.D.Device.disk c.put-2.new.dev in
    let again : read_control c.deref-6.result.now ≡ Some (cleared (moved log.head c.args.to c.args.count s.first), log.note) = ap read_control c.deref-6.ensures.value ∙ c.spell-2.ensures.reads ∙ ap (λ (note : List ℕ). Some (cleared (moved log.head c.args.to c.args.count c.first_of.result), note)) c.deref-5.ensures.value
    ∙ ap (λ (f : ℕ). Some (cleared (moved log.head c.args.to c.args.count f), log.note)) (sym c.first_of.ensures.2) in
    let W : Kept → Type 0 = λ k. Effect (IsOwn k.db) (λ image. LogIs image k.db (value_of a.files k) ⊎ LogIs image k.db (cut_at c.args.to (value_of a.files k))) a e in
    subst W c.self.view_is (cut_third log a b d e c.args.to c.args.count s (take c.args.count c.deref-4.result.now) c.deref-3.result.now c.deref-6.result.now c.put.new.self is move reads c.put.ensures.name c.in_ok-put.ensures.content (c.in_ok-put.ensures.stands t) taken again
    (c.put.ensures.crash t) (c.remove_named.ensures.crash t) (c.put-2.ensures.crash t))

pub returns-clause-crash : goal.returns-clause-crash
returns-clause-crash g c t =
    let a = g.D.Device.disk c.args.dev.now in
    let b = g.D.Device.disk c.put.new.dev in
    let is = subst (IsLog a) (sym c.self.view_is) (c.requires.stands t) in
    let log : Kept = the_view c.self.inside in
    let s : Segment = c.first_of.ensures.0 in
    let move : IsMove log c.args.to c.args.count s = record {
      there = ap (λ (xs : List Segment). slice_get xs c.args.count) (sym c.deref.ensures.value) ∙ c.first_of.ensures.1;
      first = let begins : BeginsAt c.self.inside.segments.items c.args.count s.first = (s, ap (λ (xs : List Segment). slice_get xs c.args.count) (sym c.deref.ensures.value) ∙ c.first_of.ensures.1, refl) in
          c.requires.first s.first (subst (λ (k : Kept). BeginsAt k.segments c.args.count s.first) c.self.view_is begins);
      from = subst (λ (k : Kept). k.head.kept ≤ c.args.to) (sym c.self.view_is) c.requires.from;
      inside = subst (λ (k : Kept). c.args.to ≤ k.stored) (sym c.self.view_is) c.requires.inside;
    } in
    let reads : read_control c.deref-3.result.now ≡ Some (moved log.head c.args.to c.args.count s.first, log.note) = ap read_control c.deref-3.ensures.value ∙ c.spell.ensures.reads ∙ ap (λ (note : List ℕ). Some (moved log.head c.args.to c.args.count c.first_of.result, note)) c.deref-2.ensures.value
    ∙ ap (λ (f : ℕ). Some (moved log.head c.args.to c.args.count f, log.note)) (sym c.first_of.ensures.2) in
    let d = g.D.Device.disk c.remove_named.new.dev in
    let taken : take c.args.count c.deref-4.result.now ≡ take c.args.count log.segments = ap (take c.args.count) c.deref-4.ensures.value in
    let e = g.D.Device.disk c.put-2.new.dev in
    let again : read_control c.deref-6.result.now ≡ Some (cleared (moved log.head c.args.to c.args.count s.first), log.note) = ap read_control c.deref-6.ensures.value ∙ c.spell-2.ensures.reads ∙ ap (λ (note : List ℕ). Some (cleared (moved log.head c.args.to c.args.count c.first_of.result), note)) c.deref-5.ensures.value
    ∙ ap (λ (f : ℕ). Some (cleared (moved log.head c.args.to c.args.count f), log.note)) (sym c.first_of.ensures.2) in
    let W : Kept → Type 0 = λ k. Effect (IsOwn k.db) (λ image. LogIs image k.db (value_of a.files k) ⊎ LogIs image k.db (cut_at c.args.to (value_of a.files k))) a e in
    subst W c.self.view_is (cut_third log a b d e c.args.to c.args.count s (take c.args.count c.deref-4.result.now) c.deref-3.result.now c.deref-6.result.now c.put.new.self is move reads c.put.ensures.name c.in_ok-put.ensures.content (c.in_ok-put.ensures.stands t) taken again
    (c.put.ensures.crash t) (c.remove_named.ensures.crash t) (c.put-2.ensures.crash t))

pub returns-clause-stands : goal.returns-clause-stands
returns-clause-stands g c t =
    let a = g.D.Device.disk c.args.dev.now in
    let b = g.D.Device.disk c.put.new.dev in
    let is = subst (IsLog a) (sym c.self.view_is) (c.requires.stands t) in
    let log : Kept = the_view c.self.inside in
    let s : Segment = c.first_of.ensures.0 in
    let move : IsMove log c.args.to c.args.count s = record {
      there = ap (λ (xs : List Segment). slice_get xs c.args.count) (sym c.deref.ensures.value) ∙ c.first_of.ensures.1;
      first = let begins : BeginsAt c.self.inside.segments.items c.args.count s.first = (s, ap (λ (xs : List Segment). slice_get xs c.args.count) (sym c.deref.ensures.value) ∙ c.first_of.ensures.1, refl) in
          c.requires.first s.first (subst (λ (k : Kept). BeginsAt k.segments c.args.count s.first) c.self.view_is begins);
      from = subst (λ (k : Kept). k.head.kept ≤ c.args.to) (sym c.self.view_is) c.requires.from;
      inside = subst (λ (k : Kept). c.args.to ≤ k.stored) (sym c.self.view_is) c.requires.inside;
    } in
    let reads : read_control c.deref-3.result.now ≡ Some (moved log.head c.args.to c.args.count s.first, log.note) = ap read_control c.deref-3.ensures.value ∙ c.spell.ensures.reads ∙ ap (λ (note : List ℕ). Some (moved log.head c.args.to c.args.count c.first_of.result, note)) c.deref-2.ensures.value
    ∙ ap (λ (f : ℕ). Some (moved log.head c.args.to c.args.count f, log.note)) (sym c.first_of.ensures.2) in
    let d = g.D.Device.disk c.remove_named.new.dev in
    let taken : take c.args.count c.deref-4.result.now ≡ take c.args.count log.segments = ap (take c.args.count) c.deref-4.ensures.value in
    let e = g.D.Device.disk c.put-2.new.dev in
    let again : read_control c.deref-6.result.now ≡ Some (cleared (moved log.head c.args.to c.args.count s.first), log.note) = ap read_control c.deref-6.ensures.value ∙ c.spell-2.ensures.reads ∙ ap (λ (note : List ℕ). Some (cleared (moved log.head c.args.to c.args.count c.first_of.result), note)) c.deref-5.ensures.value
    ∙ ap (λ (f : ℕ). Some (cleared (moved log.head c.args.to c.args.count f), log.note)) (sym c.first_of.ensures.2) in
    let mid = cut_between log a b d c.args.to c.args.count s (take c.args.count c.deref-4.result.now) c.deref-3.result.now c.put.new.self is move reads c.put.ensures.name c.in_ok-put.ensures.content (c.in_ok-put.ensures.stands t) taken (c.put.ensures.crash t) (c.remove_named.ensures.crash t) in
    let F : ℕ → Type 0 = λ f. IsLog e (record log { control = c.put-2.new.self; head = cleared (moved log.head c.args.to c.args.count f); segments = c.drop_segments.new.segments.items; failed = false || c.put-2.new.self.failed || c.self.inside.gate.failed }) in
    let S : List Segment → Type 0 = λ xs. IsLog e (record log { control = c.put-2.new.self; head = cleared (moved log.head c.args.to c.args.count s.first); segments = xs; failed = false || c.put-2.new.self.failed || c.self.inside.gate.failed }) in
    subst F c.first_of.ensures.2 (subst S (sym c.drop_segments.ensures.items)
    (cleared_log (moved_kept log c.put.new.self c.args.to c.args.count s.first) c.deref-6.result.now d e c.put-2.new.self _ _ _ mid.0 again c.put-2.ensures.name c.in_ok-put-2.ensures.content (c.in_ok-put-2.ensures.stands t) (c.put-2.ensures.crash t)))

pub returns-clause-value : goal.returns-clause-value
returns-clause-value g c t =
    let a = g.D.Device.disk c.args.dev.now in
    let b = g.D.Device.disk c.put.new.dev in
    let is = subst (IsLog a) (sym c.self.view_is) (c.requires.stands t) in
    let log : Kept = the_view c.self.inside in
    let s : Segment = c.first_of.ensures.0 in
    let move : IsMove log c.args.to c.args.count s = record {
      there = ap (λ (xs : List Segment). slice_get xs c.args.count) (sym c.deref.ensures.value) ∙ c.first_of.ensures.1;
      first = let begins : BeginsAt c.self.inside.segments.items c.args.count s.first = (s, ap (λ (xs : List Segment). slice_get xs c.args.count) (sym c.deref.ensures.value) ∙ c.first_of.ensures.1, refl) in
          c.requires.first s.first (subst (λ (k : Kept). BeginsAt k.segments c.args.count s.first) c.self.view_is begins);
      from = subst (λ (k : Kept). k.head.kept ≤ c.args.to) (sym c.self.view_is) c.requires.from;
      inside = subst (λ (k : Kept). c.args.to ≤ k.stored) (sym c.self.view_is) c.requires.inside;
    } in
    let reads : read_control c.deref-3.result.now ≡ Some (moved log.head c.args.to c.args.count s.first, log.note) = ap read_control c.deref-3.ensures.value ∙ c.spell.ensures.reads ∙ ap (λ (note : List ℕ). Some (moved log.head c.args.to c.args.count c.first_of.result, note)) c.deref-2.ensures.value
    ∙ ap (λ (f : ℕ). Some (moved log.head c.args.to c.args.count f, log.note)) (sym c.first_of.ensures.2) in
    let d = g.D.Device.disk c.remove_named.new.dev in
    let taken : take c.args.count c.deref-4.result.now ≡ take c.args.count log.segments = ap (take c.args.count) c.deref-4.ensures.value in
    let e = g.D.Device.disk c.put-2.new.dev in
    let again : read_control c.deref-6.result.now ≡ Some (cleared (moved log.head c.args.to c.args.count s.first), log.note) = ap read_control c.deref-6.ensures.value ∙ c.spell-2.ensures.reads ∙ ap (λ (note : List ℕ). Some (cleared (moved log.head c.args.to c.args.count c.first_of.result), note)) c.deref-5.ensures.value
    ∙ ap (λ (f : ℕ). Some (cleared (moved log.head c.args.to c.args.count f), log.note)) (sym c.first_of.ensures.2) in
    let mid = cut_between log a b d c.args.to c.args.count s (take c.args.count c.deref-4.result.now) c.deref-3.result.now c.put.new.self is move reads c.put.ensures.name c.in_ok-put.ensures.content (c.in_ok-put.ensures.stands t) taken (c.put.ensures.crash t) (c.remove_named.ensures.crash t) in
    let F : ℕ → Type 0 = λ f. shown e.files log.db (cleared (moved log.head c.args.to c.args.count f)) log.note ≡ cut_at c.args.to (value_of a.files log) in
    let W : Kept → Type 0 = λ k. shown e.files log.db (cleared (moved log.head c.args.to c.args.count c.first_of.result)) log.note ≡ cut_at c.args.to (value_of a.files k) in
    subst W c.self.view_is (subst F c.first_of.ensures.2 (cleared_value (moved_kept log c.put.new.self c.args.to c.args.count s.first) d e mid.0 (c.put-2.ensures.crash t) ∙ mid.1))

pub returns-clause-gone : goal.returns-clause-gone
returns-clause-gone g c t =
    let a = g.D.Device.disk c.args.dev.now in
    let b = g.D.Device.disk c.put.new.dev in
    let is = subst (IsLog a) (sym c.self.view_is) (c.requires.stands t) in
    let log : Kept = the_view c.self.inside in
    let s : Segment = c.first_of.ensures.0 in
    let move : IsMove log c.args.to c.args.count s = record {
      there = ap (λ (xs : List Segment). slice_get xs c.args.count) (sym c.deref.ensures.value) ∙ c.first_of.ensures.1;
      first = let begins : BeginsAt c.self.inside.segments.items c.args.count s.first = (s, ap (λ (xs : List Segment). slice_get xs c.args.count) (sym c.deref.ensures.value) ∙ c.first_of.ensures.1, refl) in
          c.requires.first s.first (subst (λ (k : Kept). BeginsAt k.segments c.args.count s.first) c.self.view_is begins);
      from = subst (λ (k : Kept). k.head.kept ≤ c.args.to) (sym c.self.view_is) c.requires.from;
      inside = subst (λ (k : Kept). c.args.to ≤ k.stored) (sym c.self.view_is) c.requires.inside;
    } in
    let reads : read_control c.deref-3.result.now ≡ Some (moved log.head c.args.to c.args.count s.first, log.note) = ap read_control c.deref-3.ensures.value ∙ c.spell.ensures.reads ∙ ap (λ (note : List ℕ). Some (moved log.head c.args.to c.args.count c.first_of.result, note)) c.deref-2.ensures.value
    ∙ ap (λ (f : ℕ). Some (moved log.head c.args.to c.args.count f, log.note)) (sym c.first_of.ensures.2) in
    let d = g.D.Device.disk c.remove_named.new.dev in
    let taken : take c.args.count c.deref-4.result.now ≡ take c.args.count log.segments = ap (take c.args.count) c.deref-4.ensures.value in
    let e = g.D.Device.disk c.put-2.new.dev in
    let again : read_control c.deref-6.result.now ≡ Some (cleared (moved log.head c.args.to c.args.count s.first), log.note) = ap read_control c.deref-6.ensures.value ∙ c.spell-2.ensures.reads ∙ ap (λ (note : List ℕ). Some (cleared (moved log.head c.args.to c.args.count c.first_of.result), note)) c.deref-5.ensures.value
    ∙ ap (λ (f : ℕ). Some (cleared (moved log.head c.args.to c.args.count f), log.note)) (sym c.first_of.ensures.2) in
    let within : c.args.count ≤ length log.segments = subst (λ (k : Kept). c.args.count ≤ length k.segments) (sym c.self.view_is) (omega (arith, c.requires.there)) in
    let apart = cut_gone log d e c.args.count (take c.args.count c.deref-4.result.now) c.put.new.self.name is c.put.ensures.name within taken (c.in_ok-remove_named.ensures.gone t) (c.put-2.ensures.crash t) in
    let W : Kept → Type 0 = λ k. (n : ℕ) → k.head.front ≤ n → n < k.head.front + c.args.count → e.files (segment_file k.db n) ≡ None in
    subst W c.self.view_is apart

pub put-requires-2-clause-stands : goal.put-requires-2-clause-stands
put-requires-2-clause-stands g c t =
    let a = g.D.Device.disk c.args.dev.now in
    let b = g.D.Device.disk c.put.new.dev in
    let is = subst (IsLog a) (sym c.self.view_is) (c.requires.stands t) in
    let log : Kept = the_view c.self.inside in
    let s : Segment = c.first_of.ensures.0 in
    let move : IsMove log c.args.to c.args.count s = record {
      there = ap (λ (xs : List Segment). slice_get xs c.args.count) (sym c.deref.ensures.value) ∙ c.first_of.ensures.1;
      first = let begins : BeginsAt c.self.inside.segments.items c.args.count s.first = (s, ap (λ (xs : List Segment). slice_get xs c.args.count) (sym c.deref.ensures.value) ∙ c.first_of.ensures.1, refl) in
          c.requires.first s.first (subst (λ (k : Kept). BeginsAt k.segments c.args.count s.first) c.self.view_is begins);
      from = subst (λ (k : Kept). k.head.kept ≤ c.args.to) (sym c.self.view_is) c.requires.from;
      inside = subst (λ (k : Kept). c.args.to ≤ k.stored) (sym c.self.view_is) c.requires.inside;
    } in
    let reads : read_control c.deref-3.result.now ≡ Some (moved log.head c.args.to c.args.count s.first, log.note) = ap read_control c.deref-3.ensures.value ∙ c.spell.ensures.reads ∙ ap (λ (note : List ℕ). Some (moved log.head c.args.to c.args.count c.first_of.result, note)) c.deref-2.ensures.value
    ∙ ap (λ (f : ℕ). Some (moved log.head c.args.to c.args.count f, log.note)) (sym c.first_of.ensures.2) in
    let d = g.D.Device.disk c.remove_named.new.dev in
    let taken : take c.args.count c.deref-4.result.now ≡ take c.args.count log.segments = ap (take c.args.count) c.deref-4.ensures.value in
    let mid = cut_between log a b d c.args.to c.args.count s (take c.args.count c.deref-4.result.now) c.deref-3.result.now c.put.new.self is move reads c.put.ensures.name c.in_ok-put.ensures.content (c.in_ok-put.ensures.stands t) taken (c.put.ensures.crash t) (c.remove_named.ensures.crash t) in
    mid.0.controls

pub invariant_of-self-2 : goal.invariant_of-self-2
invariant_of-self-2 g c =
    let inv = c.self.invariant in
    let sound = inv.6 in
    let begins : BeginsAt c.self.inside.segments.items c.args.count c.first_of.result = (c.first_of.ensures.0, ap (λ (xs : List Segment). slice_get xs c.args.count) (sym c.deref.ensures.value) ∙ c.first_of.ensures.1, c.first_of.ensures.2) in
    let first : c.first_of.result ≤ c.args.to = c.requires.first c.first_of.result (subst (λ (k : Kept). BeginsAt k.segments c.args.count c.first_of.result) c.self.view_is begins) in
    let there : c.args.count < length c.self.inside.segments.items = subst (λ (k : Kept). c.args.count < length k.segments) (sym c.self.view_is) c.requires.there in (
      inv.0,
      inv.1,
      inv.2,
      omega (arith, inv.3, c.spell.ensures.room, c.spell-2.ensures.room),
      inv.4,
      inv.5,
      record { gone = omega arith; front = omega (arith, inv.7, there); back = sound.back; few = omega (arith, sound.few, sound.gone); kept = first; short = sound.short },
      omega (arith, inv.7, c.drop_segments.ensures.len),
      inv.8,
      inv.9,
    )
