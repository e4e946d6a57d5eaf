use Rattle.std.proofs.Common.{◌≡◌, ◌≤◌, ◌⊎◌, List, ℕ, Some, refl, inl, inr, sym, ap, subst, ◌∙◌}
use Rattle.bk_device.specs.Compose.{effect_weaken}
use Rattle.bk_device.specs.Effects.{Effect}
use Rattle.bk_log.specs.contracts.log.Log.{the_view}
use Rattle.bk_segments.specs.declared.head.Head.{Head}
use Rattle.bk_segments.specs.Control.{read_control}
use Rattle.bk_segments.specs.FileLaws.{shown_cut, shown_same}
use Rattle.bk_log.specs.Log.{Kept, IsLog, value_of}
use Rattle.bk_segments.specs.Files.{IsOwn, LogIs, Logged, shown, cut_at}
use Rattle.bk_log.proofs.Steps.{put_crash, put_log, put_blobs, cut_sound}
use Rattle.bk_log.proofs.log.Log.move_kept.Goals as goal

pub returns-in_err-put-clause-crash : goal.returns-in_err-put-clause-crash
returns-in_err-put-clause-crash g c t =
    let a = g.D.Device.disk c.args.dev.now in
    let b = g.D.Device.disk c.put.new.dev in
    let is = subst (IsLog a) (sym c.self.view_is) (c.requires.stands t) in
    let head : Head = record { kept = c.args.to; gone = c.self.inside.head.gone; front = c.self.inside.head.front; back = c.self.inside.head.back; first = c.self.inside.head.first } in
    let from : c.self.inside.head.kept ≤ c.args.to = subst (λ (k : Kept). k.head.kept ≤ c.args.to) (sym c.self.view_is) c.requires.from in
    let inside : c.args.to ≤ c.self.inside.stored = subst (λ (k : Kept). c.args.to ≤ k.stored) (sym c.self.view_is) c.requires.inside in
    let reads : read_control c.deref-2.result.now ≡ Some (head, c.self.inside.note.items) = ap read_control c.deref-2.ensures.value ∙ c.spell.ensures.reads ∙ ap (λ (note : List ℕ). Some (head, note)) c.deref.ensures.value in
    let W : Kept → Type 0 = λ k. Effect (IsOwn k.db) (λ image. LogIs image k.db (value_of a.files k) ⊎ LogIs image k.db (cut_at c.args.to (value_of a.files k))) a b in
    let crash = put_crash (the_view c.self.inside) head c.self.inside.note.items c.deref-2.result.now a b is refl refl refl inside (cut_sound is.sound from) reads (c.put.ensures.crash t) in
    let same = shown_cut a.files c.self.inside.db c.args.to c.self.inside.head c.self.inside.note.items is.sound.kept from in
    subst W c.self.view_is (effect_weaken (λ image here. elim here [ inl old ↦ inl old | inr new ↦ inr (subst (λ (l : Logged). LogIs image c.self.inside.db l) same new) ]) crash)

pub returns-clause-stands : goal.returns-clause-stands
returns-clause-stands g c t =
    let a = g.D.Device.disk c.args.dev.now in
    let b = g.D.Device.disk c.put.new.dev in
    let is = subst (IsLog a) (sym c.self.view_is) (c.requires.stands t) in
    let head : Head = record { kept = c.args.to; gone = c.self.inside.head.gone; front = c.self.inside.head.front; back = c.self.inside.head.back; first = c.self.inside.head.first } in
    let from : c.self.inside.head.kept ≤ c.args.to = subst (λ (k : Kept). k.head.kept ≤ c.args.to) (sym c.self.view_is) c.requires.from in
    let inside : c.args.to ≤ c.self.inside.stored = subst (λ (k : Kept). c.args.to ≤ k.stored) (sym c.self.view_is) c.requires.inside in
    let reads : read_control c.deref-2.result.now ≡ Some (head, c.self.inside.note.items) = ap read_control c.deref-2.ensures.value ∙ c.spell.ensures.reads ∙ ap (λ (note : List ℕ). Some (head, note)) c.deref.ensures.value in
    put_log (the_view c.self.inside) head c.self.inside.note.items c.deref-2.result.now a b c.put.new.self c.self.inside.end _ _ _ _ is refl refl refl inside (cut_sound is.sound from)
    c.put.ensures.name c.in_ok-put.ensures.content reads (c.in_ok-put.ensures.stands t) (c.put.ensures.crash t)

pub returns-clause-value : goal.returns-clause-value
returns-clause-value g c t =
    let a = g.D.Device.disk c.args.dev.now in
    let b = g.D.Device.disk c.put.new.dev in
    let is = subst (IsLog a) (sym c.self.view_is) (c.requires.stands t) in
    let head : Head = record { kept = c.args.to; gone = c.self.inside.head.gone; front = c.self.inside.head.front; back = c.self.inside.head.back; first = c.self.inside.head.first } in
    let from : c.self.inside.head.kept ≤ c.args.to = subst (λ (k : Kept). k.head.kept ≤ c.args.to) (sym c.self.view_is) c.requires.from in
    let inside : c.args.to ≤ c.self.inside.stored = subst (λ (k : Kept). c.args.to ≤ k.stored) (sym c.self.view_is) c.requires.inside in
    let reads : read_control c.deref-2.result.now ≡ Some (head, c.self.inside.note.items) = ap read_control c.deref-2.ensures.value ∙ c.spell.ensures.reads ∙ ap (λ (note : List ℕ). Some (head, note)) c.deref.ensures.value in
    let W : Kept → Type 0 = λ k. shown b.files c.self.inside.db head c.self.inside.note.items ≡ cut_at c.args.to (value_of a.files k) in
    subst W c.self.view_is (shown_same a.files b.files c.self.inside.db head c.self.inside.note.items (put_blobs (the_view c.self.inside) head a b is is.sound.front (c.put.ensures.crash t))
    ∙ shown_cut a.files c.self.inside.db c.args.to c.self.inside.head c.self.inside.note.items is.sound.kept from)

pub returns-clause-crash : goal.returns-clause-crash
returns-clause-crash g c t =
    let a = g.D.Device.disk c.args.dev.now in
    let b = g.D.Device.disk c.put.new.dev in
    let is = subst (IsLog a) (sym c.self.view_is) (c.requires.stands t) in
    let head : Head = record { kept = c.args.to; gone = c.self.inside.head.gone; front = c.self.inside.head.front; back = c.self.inside.head.back; first = c.self.inside.head.first } in
    let from : c.self.inside.head.kept ≤ c.args.to = subst (λ (k : Kept). k.head.kept ≤ c.args.to) (sym c.self.view_is) c.requires.from in
    let inside : c.args.to ≤ c.self.inside.stored = subst (λ (k : Kept). c.args.to ≤ k.stored) (sym c.self.view_is) c.requires.inside in
    let reads : read_control c.deref-2.result.now ≡ Some (head, c.self.inside.note.items) = ap read_control c.deref-2.ensures.value ∙ c.spell.ensures.reads ∙ ap (λ (note : List ℕ). Some (head, note)) c.deref.ensures.value in
    let W : Kept → Type 0 = λ k. Effect (IsOwn k.db) (λ image. LogIs image k.db (value_of a.files k) ⊎ LogIs image k.db (cut_at c.args.to (value_of a.files k))) a b in
    let crash = put_crash (the_view c.self.inside) head c.self.inside.note.items c.deref-2.result.now a b is refl refl refl inside (cut_sound is.sound from) reads (c.put.ensures.crash t) in
    let same = shown_cut a.files c.self.inside.db c.args.to c.self.inside.head c.self.inside.note.items is.sound.kept from in
    subst W c.self.view_is (effect_weaken (λ image here. elim here [ inl old ↦ inl old | inr new ↦ inr (subst (λ (l : Logged). LogIs image c.self.inside.db l) same new) ]) crash)
