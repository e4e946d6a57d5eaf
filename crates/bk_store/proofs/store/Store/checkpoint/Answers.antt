use Rattle.std.proofs.Common.{◌∙◌, ap, arith}
use Rattle.std.proofs.lemmas.List.{length-map}
use Rattle.bk_device.specs.Compose.{effect_then}
use Rattle.bk_facts.specs.declared.facts.Facts.{Facts}
use Rattle.bk_undo.specs.Spelled.{spelled}
use Rattle.bk_world.specs.Records.{checkpointed}
use Rattle.bk_store.specs.Store.{at_end}
use Rattle.bk_store.specs.Told.{files_of, said}
use Rattle.bk_store.specs.CutLaws.{crash-later}
use Rattle.bk_store.specs.FrontLaws.{shown-end}
use Rattle.bk_store.specs.TouchLaws.{touches-then}
use Rattle.bk_store.proofs.Floors.{open-behind}
use Rattle.bk_store.proofs.store.Store.checkpoint.Goals as goal

pub returns-in_err-note_end-clause-crash : goal.returns-in_err-note_end-clause-crash
returns-in_err-note_end-clause-crash g c t told is =
    let then = said told (at_end c.args.self.now 0 (checkpointed c.args.now)) in
    let first = c.in_ok-mark_checkpoint.ensures.stands t told is in
    let marked = c.in_ok-mark_checkpoint.ensures.ends in
    let noting = crash-later c.args.self.now c.mark_checkpoint.new.self then (g.D.Device.disk c.mark_checkpoint.new.dev) (g.D.Device.disk c.note_end.new.dev) marked.0 (omega (arith, marked.1, marked.2, is.paged.sealed))
    (c.note_end.ensures.crash t then first) in
    effect_then (c.mark_checkpoint.ensures.crash t told is) noting

pub returns-clause-crash : goal.returns-clause-crash
returns-clause-crash g c t told is =
    let then = said told (at_end c.args.self.now 0 (checkpointed c.args.now)) in
    let first = c.in_ok-mark_checkpoint.ensures.stands t told is in
    let marked = c.in_ok-mark_checkpoint.ensures.ends in
    let noting = crash-later c.args.self.now c.mark_checkpoint.new.self then (g.D.Device.disk c.mark_checkpoint.new.dev) (g.D.Device.disk c.note_end.new.dev) marked.0 (omega (arith, marked.1, marked.2, is.paged.sealed))
    (c.note_end.ensures.crash t then first) in
    let second = c.in_ok-note_end.ensures.stands t then first in
    let noted = c.in_ok-note_end.ensures.ends in
    let cutting = crash-later c.args.self.now c.note_end.new.self then (g.D.Device.disk c.note_end.new.dev) (g.D.Device.disk c.cut.new.dev) (noted.0 ∙ marked.0) (omega (arith, noted.2, marked.1, marked.2, is.paged.sealed))
    (c.cut.ensures.crash t then second) in
    effect_then (c.mark_checkpoint.ensures.crash t told is) (effect_then noting cutting)

pub returns-clause-stands : goal.returns-clause-stands
returns-clause-stands g c t told is =
    let then = said told (at_end c.args.self.now 0 (checkpointed c.args.now)) in
    c.cut.ensures.stands t then (c.in_ok-note_end.ensures.stands t then (c.in_ok-mark_checkpoint.ensures.stands t told is))

pub returns-clause-cut : goal.returns-clause-cut
returns-clause-cut g c t told is floor =
    let then = said told (at_end c.args.self.now 0 (checkpointed c.args.now)) in
    let first = c.in_ok-mark_checkpoint.ensures.stands t told is in
    let marked = c.in_ok-mark_checkpoint.ensures in
    let second = c.in_ok-note_end.ensures.stands t then first in
    let noted = c.in_ok-note_end.ensures in
    let ends = shown-end (files_of then) then.records c.mark_checkpoint.new.self.shown first.shows in
    let mark = ap (λ (f : Facts). f.checkpoint) noted.facts in
    c.cut.ensures.cut (record {
      from = omega (arith, floor.from, noted.ends.3, marked.ends.3);
      early = omega (arith, floor.inside, mark, marked.checkpoint, marked.ends.1);
      inside = omega (arith, floor.inside, noted.ends.2, marked.ends.2, marked.ends.1);
      needed = omega (arith, floor.inside, noted.from, ends, first.paged.ends, marked.ends.1, length-map then.records spelled);
      opened = open-behind (g.D.Device.disk c.note_end.new.dev) c.note_end.new.self c.args.self.now told c.args.now c.args.floor second floor.opened;
    })

pub returns-in_err-note_end-clause-touches : goal.returns-in_err-note_end-clause-touches
returns-in_err-note_end-clause-touches g c t =
    let marked = c.in_ok-mark_checkpoint.ensures in
    touches-then c.args.self.now.paged c.mark_checkpoint.new.self.paged marked.ends.0 marked.files (c.mark_checkpoint.ensures.touches t) (c.note_end.ensures.touches t)

pub returns-clause-touches : goal.returns-clause-touches
returns-clause-touches g c t =
    let marked = c.in_ok-mark_checkpoint.ensures in
    let noted = c.in_ok-note_end.ensures in
    touches-then c.args.self.now.paged c.note_end.new.self.paged (noted.ends.0 ∙ marked.ends.0) (ap (λ (f : Facts). f.files) noted.facts ∙ marked.files)
    (touches-then c.args.self.now.paged c.mark_checkpoint.new.self.paged marked.ends.0 marked.files (c.mark_checkpoint.ensures.touches t) (c.note_end.ensures.touches t))
    (c.cut.ensures.touches t)
