use Rattle.std.proofs.Common.{◌≡◌, ◌∙◌, ◌-◌, ℕ, List, length, length-drop, map, Some, sym, ap, subst, arith}
use Rattle.std.specs.Prelude.{drop, slice_get}
use Rattle.std.specs.List.{All, position}
use Rattle.std.proofs.lemmas.List.Elements.{All-drop}
use Rattle.bk_copying.specs.Extents.{HasExtent, extents_of}
use Rattle.bk_device.specs.Compose.{effect_then}
use Rattle.bk_device.specs.Effects.{Effect}
use Rattle.bk_hosted.specs.Hosted.{names}
use Rattle.bk_hosting.specs.AskLaws.{described}
use Rattle.bk_ids.specs.declared.record.ExtentId.{ExtentId}
use Rattle.bk_store.specs.Told.{data_file}
use Rattle.bk_volume.specs.Staging.{Staging}
use Rattle.bk_engine.specs.Stands.{Covers, IsOurs, StandsFor}
use Rattle.bk_engine.proofs.CopiesOn.{front-kept, staged-is}
use Rattle.bk_engine.proofs.Ran.{place-there}
use Rattle.bk_engine.proofs.engine.Engine.finishing.Goals as goal

pub returns-clause-stands : goal.returns-clause-stands
returns-clause-stands g c = λ tells w is.
    let rests : StandsFor (g.D.Device.disk c.at_rest.new.dev) c.args.self.now w = subst (λ d. StandsFor (g.D.Device.disk d) c.args.self.now w) (sym c.at_rest.ensures.same) is in
    let listed : StandsFor (g.D.Device.disk c.extents.new.dev) c.args.self.now w = subst (λ d. StandsFor (g.D.Device.disk d) c.args.self.now w) (sym c.extents.ensures.same) rests in
    c.take_up.ensures.stands tells w c.requires.ready listed

pub returns-clause-holds : goal.returns-clause-holds
returns-clause-holds g c = λ tells w job db count is found online own many front.
    let a = g.D.Device.disk c.args.dev.now in
    let d = g.D.Device.disk c.take_up.new.dev in
    let all : List ExtentId = c.in_ok-all.all.items in
    let rests : StandsFor (g.D.Device.disk c.at_rest.new.dev) c.args.self.now w = subst (λ d. StandsFor (g.D.Device.disk d) c.args.self.now w) (sym c.at_rest.ensures.same) is in
    let place : position (names c.args.name.now) is.hosted ≡ Some c.in-Some.at = sym (c.find.ensures.found is.hosted (described a c.args.self.now.hosting is.hosted is.hosting)) ∙ c.in-Some.is in
    let here : slice_get w.databases c.in-Some.at ≡ Some db = place-there w c.args.name.now is.hosted c.in-Some.at db is.hosts place found in
    let are : all ≡ extents_of (map data_file db.files) = c.in_ok-all.ensures.listed tells w db rests here online in
    let value : c.deref.result.now ≡ all = c.deref.ensures.value in
    let two : c.len-2.result ≡ length all = omega (arith, c.len-2.ensures, c.in_ok-all.all.ok.0) in
    let from : ℕ = c.len-2.result - c.args.left in
    let size : c.in_ok-staged.staged.extents ≡ c.len-2.result - c.args.left = omega (arith, ap (λ (s : Staging). s.extents) c.in_ok-staged.ensures.again, two, c.in_ok-all.ensures.few) in
    front-kept w db job c.args.set a d count c.args.left from all c.in_ok-rest.rest.items c.in_ok-staged.staged are own many (ap (λ (n : ℕ). n - c.args.left) two) (c.in_ok-rest.ensures ∙ ap (λ (xs : List ExtentId). drop from xs) value)
    (staged-is c.in_ok-staged.staged c.args.set _ from c.in_ok-staged.ensures.again size) (λ name. c.take_up.ensures.files tells name ∙ ap (λ e. (g.D.Device.disk e).files name) (c.extents.ensures.same ∙ c.at_rest.ensures.same)) front

pub returns-clause-set : goal.returns-clause-set
returns-clause-set g c =
    let all : List ExtentId = c.in_ok-all.all.items in
    let from : ℕ = c.len-2.result - c.args.left in
    let value : c.deref.result.now ≡ all = c.deref.ensures.value in
    let two : c.len-2.result ≡ length all = omega (arith, c.len-2.ensures, c.in_ok-all.all.ok.0) in
    let kept : c.in_ok-rest.rest.items ≡ drop from all = c.in_ok-rest.ensures ∙ ap (λ (xs : List ExtentId). drop from xs) value in
    let size : c.in_ok-staged.staged.extents ≡ c.len-2.result - c.args.left = omega (arith, ap (λ (s : Staging). s.extents) c.in_ok-staged.ensures.again, two, c.in_ok-all.ensures.few) in
    let count : length c.in_ok-rest.rest.items ≡ length all - (c.len-2.result - c.args.left) = ap (λ (xs : List ExtentId). length xs) kept ∙ length-drop from all in
    record {
      named = ap (λ (s : Staging). s.name) c.in_ok-staged.ensures.again;
      guid = c.take_up.ensures.guid;
      fit = ap (λ (s : Staging). s.failed) c.in_ok-staged.ensures.again;
      first = ap (λ (s : Staging). s.log) c.in_ok-staged.ensures.again;
      few = let short = c.in_ok-all.ensures.few in omega (arith, size, count, two, short);
      inside = c.in-Some.ensures.inside;
      there = λ s filled. subst (All (HasExtent s.paged.facts.files)) (sym kept) (All-drop (HasExtent s.paged.facts.files) from all (c.in_ok-all.ensures.there s filled));
    }

pub returns-in_err-all-clause-crash : goal.returns-in_err-all-clause-crash
returns-in_err-all-clause-crash g c = λ tells w is. subst (λ d. Effect IsOurs (Covers w) (g.D.Device.disk c.args.dev.now) (g.D.Device.disk d)) (sym c.extents.ensures.same) (c.at_rest.ensures.crash tells w is)

pub returns-then-left-len-clause-crash : goal.returns-then-left-len-clause-crash
returns-then-left-len-clause-crash g c = λ tells w is. subst (λ d. Effect IsOurs (Covers w) (g.D.Device.disk c.args.dev.now) (g.D.Device.disk d)) (sym c.extents.ensures.same) (c.at_rest.ensures.crash tells w is)

pub returns-in_err-staged-clause-crash : goal.returns-in_err-staged-clause-crash
returns-in_err-staged-clause-crash g c = λ tells w is.
    let listed : StandsFor (g.D.Device.disk c.extents.new.dev) c.args.self.now w = subst (λ d. StandsFor (g.D.Device.disk d) c.args.self.now w) (sym (c.extents.ensures.same ∙ c.at_rest.ensures.same)) is in
    effect_then (subst (λ d. Effect IsOurs (Covers w) (g.D.Device.disk c.args.dev.now) (g.D.Device.disk d)) (sym c.extents.ensures.same) (c.at_rest.ensures.crash tells w is)) (c.take_up.ensures.crash tells w c.requires.ready listed)

pub returns-in_err-rest-clause-crash : goal.returns-in_err-rest-clause-crash
returns-in_err-rest-clause-crash g c = λ tells w is.
    let listed : StandsFor (g.D.Device.disk c.extents.new.dev) c.args.self.now w = subst (λ d. StandsFor (g.D.Device.disk d) c.args.self.now w) (sym (c.extents.ensures.same ∙ c.at_rest.ensures.same)) is in
    effect_then (subst (λ d. Effect IsOurs (Covers w) (g.D.Device.disk c.args.dev.now) (g.D.Device.disk d)) (sym c.extents.ensures.same) (c.at_rest.ensures.crash tells w is)) (c.take_up.ensures.crash tells w c.requires.ready listed)

pub returns-clause-crash : goal.returns-clause-crash
returns-clause-crash g c = λ tells w is.
    let listed : StandsFor (g.D.Device.disk c.extents.new.dev) c.args.self.now w = subst (λ d. StandsFor (g.D.Device.disk d) c.args.self.now w) (sym (c.extents.ensures.same ∙ c.at_rest.ensures.same)) is in
    effect_then (subst (λ d. Effect IsOurs (Covers w) (g.D.Device.disk c.args.dev.now) (g.D.Device.disk d)) (sym c.extents.ensures.same) (c.at_rest.ensures.crash tells w is)) (c.take_up.ensures.crash tells w c.requires.ready listed)
