use Rattle.std.proofs.Common.{◌≡◌, ◌∙◌, ℕ, List, Some, None, refl, inl, inr, sym, ap, subst, arith}
use Rattle.std.specs.Prelude.{set}
use Rattle.std.specs.List.{position}
use Rattle.bk_archive.specs.Media.{KeepsMedia}
use Rattle.bk_archive.specs.MediaLaws.{media-in}
use Rattle.bk_device.specs.Compose.{effect_weaken}
use Rattle.bk_hosted.specs.Hosted.{names}
use Rattle.bk_hosting.specs.AskLaws.{described}
use Rattle.bk_hosting.specs.Checkpointing.{checked, to_check}
use Rattle.bk_machine.specs.Acts.{done}
use Rattle.bk_master.specs.declared.record.Own.{Own}
use Rattle.bk_engine.specs.ActLaws.{done-behind, same-behind}
use Rattle.bk_engine.specs.Acts.{marking}
use Rattle.bk_engine.specs.CopiedLaws.{copied-on}
use Rattle.bk_engine.specs.PartLaws.{calm-beside, copied-beside, media-beside, media-then, rest-crash, stores-wide, world-kept, world-left, world-stands}
use Rattle.bk_engine.specs.Stands.{IsReady, Kept, StandsFor}
use Rattle.bk_engine.proofs.Marked.{checks-hosts, marks-on, notes-hosts}
use Rattle.bk_engine.proofs.Named.{found-at, of-ok, on-all, own-kept}
use Rattle.bk_engine.specs.TouchLaws.{rest-touch, stores-touch}
use Rattle.bk_engine.proofs.engine.Engine.checkpoint.Goals as goal

pub returns-in_default-clause-crash : goal.returns-in_default-clause-crash
returns-in_default-clause-crash g c = λ tells w db is may.
    let a = g.D.Device.disk c.args.dev.now in
    let e : Kept = record { hosting = c.self.inside.hosting; drawn = c.self.inside.drawn; session = c.self.inside.session; sessions = c.self.inside.sessions.items } in
    let is' : StandsFor a e w = subst (λ (k : Kept). StandsFor a k w) (sym c.self.view_is) is in
    let ready' : IsReady e = subst IsReady (sym c.self.view_is) c.requires.ready in
    effect_weaken (λ image covers. inl covers) (rest-crash a (g.D.Device.disk c.at_rest.new.dev) e w ready' is' (c.at_rest.ensures.crash tells is'.hosted is'.hosting))

pub returns-clause-stands : goal.returns-clause-stands
returns-clause-stands g c = λ tells w db is may.
    let a = g.D.Device.disk c.args.dev.now in
    let e : Kept = record { hosting = c.self.inside.hosting; drawn = c.self.inside.drawn; session = c.self.inside.session; sessions = c.self.inside.sessions.items } in
    let is' : StandsFor a e w = subst (λ (k : Kept). StandsFor a k w) (sym c.self.view_is) is in
    let at : ℕ = c.in-Some.at in
    let name : List ℕ = c.args.name.now in
    let act = marking name c.args.time db in
    let place : position (names name) is'.hosted ≡ Some at = sym (c.find.ensures.found is'.hosted (described a c.self.inside.hosting is'.hosted is'.hosting)) ∙ c.in-Some.is in
    let there = found-at name is'.hosted at place in
    let b = g.D.Device.disk c.checkpoint.new.dev in
    let effect = c.checkpoint.ensures.crash tells is'.hosted there.0 is'.hosting there.1 in
    let media : KeepsMedia (done w act) None b.files = c.acts_keep_media.ensures.act w act None b.files is'.sound may.may (λ path bad. bad) (media-in w None a.files b.files (media-beside effect) is'.media) in
    on-all c.checkpoint.result (λ value ok.
    world-stands a b e (record { hosting = c.checkpoint.new.self; drawn = c.self.inside.drawn; session = c.self.inside.session; sessions = c.self.inside.sessions.items }) w (done w act) 0 (set is'.hosted at (checked there.0 c.args.time c.args.kept)) is'
    (done-behind w act may.may (λ turn. turn)) (c.acts_keep_worlds_sound.ensures.act w act is'.sound may.may)
    (checks-hosts w name c.args.time c.args.kept db is'.hosted at there.0 is'.sound is'.hosts place there.1 may c.hosted_databases_follow_acts.ensures.checkpoint)
    (of-ok c.checkpoint.result value ok (c.checkpoint.ensures.stands tells is'.hosted there.0 is'.hosting there.1)) (ap (λ (o : Own). o.number) (of-ok c.checkpoint.result value ok c.checkpoint.ensures.own))
    (omega arith) refl refl media (calm-beside effect is'.calm)
    (copied-on b is'.hosted at there.0 (checked there.0 c.args.time c.args.kept) there.1 (marks-on there.0 c.args.time c.args.kept) (copied-beside is'.hosted effect is'.copied)))

pub returns-clause-crash : goal.returns-clause-crash
returns-clause-crash g c = λ tells w db is may.
    let a = g.D.Device.disk c.args.dev.now in
    let e : Kept = record { hosting = c.self.inside.hosting; drawn = c.self.inside.drawn; session = c.self.inside.session; sessions = c.self.inside.sessions.items } in
    let is' : StandsFor a e w = subst (λ (k : Kept). StandsFor a k w) (sym c.self.view_is) is in
    let ready' : IsReady e = subst IsReady (sym c.self.view_is) c.requires.ready in
    let at : ℕ = c.in-Some.at in
    let name : List ℕ = c.args.name.now in
    let act = marking name c.args.time db in
    let place : position (names name) is'.hosted ≡ Some at = sym (c.find.ensures.found is'.hosted (described a c.self.inside.hosting is'.hosted is'.hosting)) ∙ c.in-Some.is in
    let there = found-at name is'.hosted at place in
    let low = ready'.no_less in
    let behind = done-behind w act may.may (λ turn. turn) in
    let media : KeepsMedia (done w act) None a.files = c.acts_keep_media.ensures.act w act None a.files is'.sound may.may (λ path bad. bad) is'.media in
    stores-wide (λ image left others. elim left [
      | inl before ↦ inl (world-kept a e w image ready' is' before (media-then w None a image is'.calm others is'.media))
      | inr later ↦ elim later [
        | inl noted ↦ inl (world-left a e w w 0 (set is'.hosted at (to_check there.0 c.args.kept)) image ready' is' (same-behind w) (omega (arith, low))
            (notes-hosts w name c.args.time c.args.kept db is'.hosted at there.0 is'.sound is'.hosts place there.1 may c.hosted_databases_follow_acts.ensures.noted)
            noted (media-then w None a image is'.calm others is'.media))
        | inr made ↦ inr (world-left a e w (done w act) 0 (set is'.hosted at (checked there.0 c.args.time c.args.kept)) image ready' is' behind (omega (arith, low))
            (checks-hosts w name c.args.time c.args.kept db is'.hosted at there.0 is'.sound is'.hosts place there.1 may c.hosted_databases_follow_acts.ensures.checkpoint)
            made (media-then (done w act) None a image is'.calm others media))
      ]
    ]) (c.checkpoint.ensures.crash tells is'.hosted there.0 is'.hosting there.1)

pub returns-clause-own : goal.returns-clause-own
returns-clause-own g c =
    own-kept c.checkpoint.result (record { hosting = c.self.inside.hosting; drawn = c.self.inside.drawn; session = c.self.inside.session; sessions = c.self.inside.sessions.items }) _ (record { hosting = c.checkpoint.new.self; drawn = c.self.inside.drawn; session = c.self.inside.session; sessions = c.self.inside.sessions.items }) c.self.view_is c.checkpoint.ensures.own

pub returns-in_default-clause-touches : goal.returns-in_default-clause-touches
returns-in_default-clause-touches g c = λ tells. rest-touch g.D.Device.disk c.args.dev.now c.at_rest.new.dev c.at_rest.ensures.same

pub returns-clause-touches : goal.returns-clause-touches
returns-clause-touches g c = λ tells. stores-touch (c.checkpoint.ensures.touches tells)
