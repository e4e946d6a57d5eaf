use Rattle.std.proofs.Common.{List, sym, subst}
use Rattle.bk_device.specs.Compose.{effect_then}
use Rattle.bk_device.specs.Effects.{Effect}
use Rattle.bk_engine.specs.Stands.{IsOurs, StandsFor}
use Rattle.bk_engine.specs.TouchLaws.{wider-touch}
use Rattle.bk_machine.specs.Acts.{Act, done_all}
use Rattle.bk_machine.specs.ClosingLaws.{done-joined}
use Rattle.bk_restarts.specs.Crashes.{CutIn}
use Rattle.bk_executing.specs.Waiting.{basing_row, sealing_of}
use Rattle.bk_executing.proofs.Waited.{EndingLaws, all-cut, finish-acts, front-cut, may-end}
use Rattle.bk_executing.proofs.waiting.end_backup.Goals as goal

pub returns-in_err-seal_finished-clause-crash : goal.returns-in_err-seal_finished-clause-crash
returns-in_err-seal_finished-clause-crash g c tells w now sets acts stands are =
    let laws : EndingLaws = record { says = record { sound = c.acts_keep_worlds_sound.ensures.act; found = c.what_is_said_comes_last.ensures.found; log = c.what_is_said_comes_last.ensures.log }; header = c.job_headers_are_of_databases.ensures.header } in
    let may = may-end laws w now sets c.args.finish acts stands.sound are in
    let same = finish-acts w now sets c.args.finish acts are in
    subst (λ (all : List Act). Effect IsOurs (CutIn w all) (g.D.Device.disk c.args.dev.now) (g.D.Device.disk c.seal_finished.new.dev)) (sym same) (front-cut w c.args.finish (g.D.Device.disk c.args.dev.now) (g.D.Device.disk c.seal_finished.new.dev) (g.D.Device.disk c.seal_finished.new.dev) (c.seal_finished.ensures.crash tells w stands may))

pub returns-in_err-base_finished-clause-crash : goal.returns-in_err-base_finished-clause-crash
returns-in_err-base_finished-clause-crash g c tells w now sets acts stands are =
    let laws : EndingLaws = record { says = record { sound = c.acts_keep_worlds_sound.ensures.act; found = c.what_is_said_comes_last.ensures.found; log = c.what_is_said_comes_last.ensures.log }; header = c.job_headers_are_of_databases.ensures.header } in
    let may = may-end laws w now sets c.args.finish acts stands.sound are in
    let same = finish-acts w now sets c.args.finish acts are in
    subst (λ (all : List Act). Effect IsOurs (CutIn w all) (g.D.Device.disk c.args.dev.now) (g.D.Device.disk c.base_finished.new.dev)) (sym same)
    (all-cut w c.args.finish (g.D.Device.disk c.args.dev.now) (g.D.Device.disk c.seal_finished.new.dev) (g.D.Device.disk c.base_finished.new.dev) (c.seal_finished.ensures.crash tells w stands may) (c.base_finished.ensures.crash tells (done_all w (sealing_of c.args.finish)) (c.in_ok-seal_finished.ensures.does tells w stands may)))

pub returns-in_err-base_finished-clause-touches : goal.returns-in_err-base_finished-clause-touches
returns-in_err-base_finished-clause-touches g c tells = effect_then (c.seal_finished.ensures.touches tells) (wider-touch (λ path none. absurd none) (c.base_finished.ensures.touches tells))

pub returns-clause-does : goal.returns-clause-does
returns-clause-does g c tells w now sets acts stands are =
    let laws : EndingLaws = record { says = record { sound = c.acts_keep_worlds_sound.ensures.act; found = c.what_is_said_comes_last.ensures.found; log = c.what_is_said_comes_last.ensures.log }; header = c.job_headers_are_of_databases.ensures.header } in
    let may = may-end laws w now sets c.args.finish acts stands.sound are in
    let same = finish-acts w now sets c.args.finish acts are in
    let rest = basing_row c.args.finish.name c.args.finish.row c.args.finish.base in
    subst (λ (all : List Act). StandsFor (g.D.Device.disk c.base_finished.new.dev) c.base_finished.new.engine (done_all w all)) (sym same)
    (subst (StandsFor (g.D.Device.disk c.base_finished.new.dev) c.base_finished.new.engine) (sym (done-joined w (sealing_of c.args.finish) rest)) (c.in_ok-base_finished.ensures.does tells (done_all w (sealing_of c.args.finish)) (c.in_ok-seal_finished.ensures.does tells w stands may)))

pub returns-clause-crash : goal.returns-clause-crash
returns-clause-crash g c tells w now sets acts stands are =
    let laws : EndingLaws = record { says = record { sound = c.acts_keep_worlds_sound.ensures.act; found = c.what_is_said_comes_last.ensures.found; log = c.what_is_said_comes_last.ensures.log }; header = c.job_headers_are_of_databases.ensures.header } in
    let may = may-end laws w now sets c.args.finish acts stands.sound are in
    let same = finish-acts w now sets c.args.finish acts are in
    subst (λ (all : List Act). Effect IsOurs (CutIn w all) (g.D.Device.disk c.args.dev.now) (g.D.Device.disk c.base_finished.new.dev)) (sym same)
    (all-cut w c.args.finish (g.D.Device.disk c.args.dev.now) (g.D.Device.disk c.seal_finished.new.dev) (g.D.Device.disk c.base_finished.new.dev) (c.seal_finished.ensures.crash tells w stands may) (c.base_finished.ensures.crash tells (done_all w (sealing_of c.args.finish)) (c.in_ok-seal_finished.ensures.does tells w stands may)))

pub returns-clause-touches : goal.returns-clause-touches
returns-clause-touches g c tells = effect_then (c.seal_finished.ensures.touches tells) (wider-touch (λ path none. absurd none) (c.base_finished.ensures.touches tells))
