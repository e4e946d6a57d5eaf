use Rattle.std.proofs.Common.{◌≡◌, ◌∙◌, ◌-◌, ◌≤◌, List, [], length, map, Some, refl, sym, ap, subst, arith}
use Rattle.std.specs.Prelude.{drop, slice_get, slice_range}
use Rattle.std.specs.List.{All, position}
use Rattle.std.proofs.lemmas.List.Elements.{All-drop, All-take}
use Rattle.bk_copying.specs.Extents.{HasExtent, extents_of}
use Rattle.bk_device.specs.Compose.{effect_then}
use Rattle.bk_device.specs.Effects.{Effect}
use Rattle.bk_hosted.specs.Hosted.{names}
use Rattle.bk_hosting.specs.AskLaws.{described}
use Rattle.bk_ids.specs.declared.guid.Guid.{Guid}
use Rattle.bk_ids.specs.declared.record.ExtentId.{ExtentId}
use Rattle.bk_store.specs.Told.{data_file}
use Rattle.bk_volume.specs.Names.{staging_file}
use Rattle.bk_volume.specs.Staging.{HoldsParts, Staging}
use Rattle.bk_engine.specs.Copied.{staging_of}
use Rattle.bk_engine.specs.Stands.{Covers, IsOurs, StandsFor}
use Rattle.bk_engine.specs.TouchLaws.{rest-touch}
use Rattle.bk_engine.proofs.CopiesOn.{copied-next, front-parts, staged-is}
use Rattle.bk_engine.proofs.Named.{of-ok, on-all}
use Rattle.bk_engine.proofs.Ran.{place-there}
use Rattle.bk_engine.proofs.engine.Engine.copy_next.Goals as goal

pub returns-clause-stands : goal.returns-clause-stands
returns-clause-stands g c = λ tells w is apart.
    let rests : StandsFor (g.D.Device.disk c.at_rest.new.dev) c.args.self.now w = subst (λ d. StandsFor (g.D.Device.disk d) c.args.self.now w) (sym c.at_rest.ensures.same) is in
    let listed : StandsFor (g.D.Device.disk c.extents.new.dev) c.args.self.now w = subst (λ d. StandsFor (g.D.Device.disk d) c.args.self.now w) (sym c.extents.ensures.same) rests in
    let taken : StandsFor (g.D.Device.disk c.take_up.new.dev) c.args.self.now w = c.take_up.ensures.stands tells w c.requires.ready listed in
    c.copy_extents.ensures.stands tells w taken c.args.set c.take_up.ensures.guid (ap (λ (s : Staging). s.name) c.in_ok-staged.ensures.again) apart

pub returns-clause-copied : goal.returns-clause-copied
returns-clause-copied g c = λ tells w job is of online late own count.
    let a = g.D.Device.disk c.args.dev.now in
    let d = g.D.Device.disk c.take_up.new.dev in
    let all : List ExtentId = c.in_ok-all.all.items in
    let rests : StandsFor (g.D.Device.disk c.at_rest.new.dev) c.args.self.now w = subst (λ d. StandsFor (g.D.Device.disk d) c.args.self.now w) (sym c.at_rest.ensures.same) is in
    let listed : StandsFor (g.D.Device.disk c.extents.new.dev) c.args.self.now w = subst (λ d. StandsFor (g.D.Device.disk d) c.args.self.now w) (sym c.extents.ensures.same) rests in
    let taken : StandsFor d c.args.self.now w = c.take_up.ensures.stands tells w c.requires.ready listed in
    let place : position (names c.args.name.now) is.hosted ≡ Some c.in-Some.at = sym (c.find.ensures.found is.hosted (described a c.args.self.now.hosting is.hosted is.hosting)) ∙ c.in-Some.is in
    let here : slice_get w.databases c.in-Some.at ≡ Some of.db = place-there w c.args.name.now is.hosted c.in-Some.at of.db is.hosts place of.found in
    let are : all ≡ extents_of (map data_file of.db.files) = c.in_ok-all.ensures.listed tells w of.db rests here online in
    let same : d.files (staging_file job.set) ≡ a.files (staging_file job.set) = c.take_up.ensures.files tells (staging_file job.set) ∙ ap (λ e. (g.D.Device.disk e).files (staging_file job.set)) (c.extents.ensures.same ∙ c.at_rest.ensures.same) in
    let value : c.deref.result.now ≡ all = c.deref.ensures.value in
    let two : c.len-2.result ≡ length all = omega (arith, c.len-2.ensures, c.in_ok-all.all.ok.0) in
    let three : c.len-3.result ≡ length all = omega (arith, c.len-3.ensures, c.in_ok-all.all.ok.0) in
    let size : c.in_ok-staged.staged.extents ≡ length all - length job.left = omega (arith, ap (λ (s : Staging). s.extents) c.in_ok-staged.ensures.again, two, count, c.in_ok-all.ensures.few) in
    let again : c.in_ok-staged.staged ≡ staging_of job.set (length all - length job.left) = staged-is c.in_ok-staged.staged c.args.set _ (length all - length job.left) c.in_ok-staged.ensures.again size ∙ ap (λ (s : Guid). staging_of s (length all - length job.left)) (sym own) in
    let parts : HoldsParts d c.in_ok-staged.staged of.holds.extents [] =
    subst (λ (s : Staging). HoldsParts d s of.holds.extents []) (sym again) (front-parts a d job.set of.count (length all - length job.left) job.left all of.holds.extents (of.holds.order ∙ sym are) refl same of.holds.parts) in
    let ids : slice_range c.deref.result.now (c.len-2.result - c.args.left) (c.len-3.result - c.args.rest) ≡ slice_range all (length all - c.args.left) (length all - c.args.rest) = λ i. slice_range (value i) (two i - c.args.left) (three i - c.args.rest) in
    let few : c.args.rest ≤ c.args.left = omega arith in
    on-all c.copy_extents.result (λ value ok.
    copied-next w c.args.name.now job a (g.D.Device.disk c.copy_extents.new.dev) of all _ c.args.left c.args.rest _ _ c.in_ok-staged.staged c.copy_extents.new.staged are few count late again (of-ok c.copy_extents.result value ok c.copy_extents.ensures.counted) ids
    (of-ok c.copy_extents.result value ok (c.copy_extents.ensures.added tells w of.db taken here of.holds.extents parts)))

pub returns-in_err-all-clause-crash : goal.returns-in_err-all-clause-crash
returns-in_err-all-clause-crash g c = λ tells w is. subst (λ d. Effect IsOurs (Covers w) (g.D.Device.disk c.args.dev.now) (g.D.Device.disk d)) (sym c.extents.ensures.same) (c.at_rest.ensures.crash tells w is)

pub returns-then-left-len-clause-crash : goal.returns-then-left-len-clause-crash
returns-then-left-len-clause-crash g c = λ tells w is. subst (λ d. Effect IsOurs (Covers w) (g.D.Device.disk c.args.dev.now) (g.D.Device.disk d)) (sym c.extents.ensures.same) (c.at_rest.ensures.crash tells w is)

pub returns-in_err-staged-clause-crash : goal.returns-in_err-staged-clause-crash
returns-in_err-staged-clause-crash g c = λ tells w is.
    let listed : StandsFor (g.D.Device.disk c.extents.new.dev) c.args.self.now w = subst (λ d. StandsFor (g.D.Device.disk d) c.args.self.now w) (sym (c.extents.ensures.same ∙ c.at_rest.ensures.same)) is in
    effect_then (subst (λ d. Effect IsOurs (Covers w) (g.D.Device.disk c.args.dev.now) (g.D.Device.disk d)) (sym c.extents.ensures.same) (c.at_rest.ensures.crash tells w is)) (c.take_up.ensures.crash tells w c.requires.ready listed)

pub copy_extents-requires-clause-there : goal.copy_extents-requires-clause-there
copy_extents-requires-clause-there g c = λ s filled.
    All-take (HasExtent s.paged.facts.files) ((c.len-3.result - c.args.rest) - (c.len-2.result - c.args.left)) (drop (c.len-2.result - c.args.left) c.deref.result.now)
    (All-drop (HasExtent s.paged.facts.files) (c.len-2.result - c.args.left) c.deref.result.now (subst (All (HasExtent s.paged.facts.files)) (sym c.deref.ensures.value) (c.in_ok-all.ensures.there s filled)))

pub returns-clause-crash : goal.returns-clause-crash
returns-clause-crash g c = λ tells w is.
    let listed : StandsFor (g.D.Device.disk c.extents.new.dev) c.args.self.now w = subst (λ d. StandsFor (g.D.Device.disk d) c.args.self.now w) (sym (c.extents.ensures.same ∙ c.at_rest.ensures.same)) is in
    effect_then (effect_then (subst (λ d. Effect IsOurs (Covers w) (g.D.Device.disk c.args.dev.now) (g.D.Device.disk d)) (sym c.extents.ensures.same) (c.at_rest.ensures.crash tells w is)) (c.take_up.ensures.crash tells w c.requires.ready listed))
    (c.copy_extents.ensures.crash tells w (c.take_up.ensures.stands tells w c.requires.ready listed))

pub returns-clause-touches : goal.returns-clause-touches
returns-clause-touches g c = λ tells.
    effect_then (rest-touch g.D.Device.disk c.args.dev.now c.extents.new.dev (c.extents.ensures.same ∙ c.at_rest.ensures.same)) (effect_then (c.take_up.ensures.touches tells) (c.copy_extents.ensures.touches tells))
