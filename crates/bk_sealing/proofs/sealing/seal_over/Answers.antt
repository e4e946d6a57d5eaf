use Rattle.std.proofs.Common.{◌≡◌, ◌∙◌, Some, ap, sym, subst}
use Rattle.bk_engine.specs.Stands.{StandsFor}
use Rattle.bk_engine.specs.ViewLaws.{remembers}
use Rattle.bk_kept.specs.declared.kept.Database.{Database as KeptDatabase}
use Rattle.bk_kept.specs.Keeps.{Sees, database_of}
use Rattle.bk_machine.specs.World.{database_named, log_of}
use Rattle.bk_shown.specs.declared.shown.Shown.{Shown}
use Rattle.bk_shown.specs.Shown.{Shows}
use Rattle.bk_sealing.specs.Copied.{HoldsCopy}
use Rattle.bk_sealing.proofs.Seen.{seen-log}
use Rattle.bk_sealing.proofs.Still.{moved, uncut}
use Rattle.bk_sealing.proofs.sealing.seal_over.Goals as goal

pub returns-in_default-clause-crash : goal.returns-in_default-clause-crash
returns-in_default-clause-crash g c = λ tells w is stands copy. uncut (c.at_rest.ensures.crash tells w stands)

pub returns-clause-stands : goal.returns-clause-stands
returns-clause-stands g c = λ tells w is stands copy.
    let sees : Sees w c.args.seen.now = c.requires.sees w (remembers (g.D.Device.disk c.args.dev.now) c.args.engine.now w stands) in
    let found : Some (database_of c.in-Some.database.now) ≡ Some is.db = c.in-Some.ensures.found w sees ∙ ap (database_named w.databases) c.as_str.ensures.spelling ∙ is.found in
    let same = c.tables-tables.ensures c.in-Some.database.now.files (log_of w.history is.db) (subst (λ (s : Shown). Shows c.in-Some.database.now.files (log_of w.history is.db) s) (sym (ap (λ (d : KeptDatabase). d.shown) c.database.view_is)) (seen-log w c.in-Some.database.now is.db found is.online (c.in-Some.ensures.seen w sees))) in
    let here : StandsFor (g.D.Device.disk c.at_rest.new.dev) c.args.engine.now w = subst (λ d. StandsFor (g.D.Device.disk d) c.args.engine.now w) (sym c.at_rest.ensures.same) stands in
    let kept : HoldsCopy w is.db c.args.header.now.checkpoint c.args.header.now.first c.args.header.now.last (g.D.Device.disk c.at_rest.new.dev) c.args.staged.now = subst (λ d. HoldsCopy w is.db c.args.header.now.checkpoint c.args.header.now.first c.args.header.now.last (g.D.Device.disk d) c.args.staged.now) (sym c.at_rest.ensures.same) copy in
    c.seal_tables.ensures.stands tells w is here same kept

pub returns-clause-crash : goal.returns-clause-crash
returns-clause-crash g c = λ tells w is stands copy.
    let sees : Sees w c.args.seen.now = c.requires.sees w (remembers (g.D.Device.disk c.args.dev.now) c.args.engine.now w stands) in
    let found : Some (database_of c.in-Some.database.now) ≡ Some is.db = c.in-Some.ensures.found w sees ∙ ap (database_named w.databases) c.as_str.ensures.spelling ∙ is.found in
    let same = c.tables-tables.ensures c.in-Some.database.now.files (log_of w.history is.db) (subst (λ (s : Shown). Shows c.in-Some.database.now.files (log_of w.history is.db) s) (sym (ap (λ (d : KeptDatabase). d.shown) c.database.view_is)) (seen-log w c.in-Some.database.now is.db found is.online (c.in-Some.ensures.seen w sees))) in
    let here : StandsFor (g.D.Device.disk c.at_rest.new.dev) c.args.engine.now w = subst (λ d. StandsFor (g.D.Device.disk d) c.args.engine.now w) (sym c.at_rest.ensures.same) stands in
    let kept : HoldsCopy w is.db c.args.header.now.checkpoint c.args.header.now.first c.args.header.now.last (g.D.Device.disk c.at_rest.new.dev) c.args.staged.now = subst (λ d. HoldsCopy w is.db c.args.header.now.checkpoint c.args.header.now.first c.args.header.now.last (g.D.Device.disk d) c.args.staged.now) (sym c.at_rest.ensures.same) copy in
    moved g.D.Device.disk c.args.dev.now c.at_rest.new.dev c.at_rest.ensures.same (c.seal_tables.ensures.crash tells w is here same kept)
