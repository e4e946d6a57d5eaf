use Rattle.std.proofs.Common.{◌≡◌, List, None}
use Rattle.bk_device.specs.Effects.{KeepsFiles}
use Rattle.bk_executing.specs.EngineStands.{IsReady, StandsFor, own_in}
use Rattle.bk_items.specs.declared.item.ScriptEntry.{ScriptEntry}
use Rattle.bk_machine.specs.World.{World}
use Rattle.bk_stores.specs.Standing.{AreStanding}
use Rattle.bk_syntax.specs.Items.{AreItems}
use Rattle.bk_syntax.specs.Reader.{IsReader, work}
use Rattle.bk_console.specs.Answers.{NotOurs}
use Rattle.bk_console.proofs.OneByOne.{AnsweredSoFar}
use Rattle.bk_console.specs.Causes.{HasCauses}
use Rattle.bk_console.proofs.answers.answer_all.Given as goal

abbrev pub invariant-loop-reader : goal.invariant-loop-reader
invariant-loop-reader g l = record {
  reader : IsReader l.script l.reader;
  answered : (ss : List ScriptEntry) → AreItems l.script ss → AnsweredSoFar l.stop l.fn.engine l.engine l.script l.reader ss g.C.Clock.tells (g.C.Clock.coming l.fn.clock) (g.C.Clock.coming l.clock)
      g.D.Device.tells (g.D.Device.disk l.fn.device) (g.D.Device.disk l.device);
  stands : g.D.Device.tells → (w : World) → StandsFor (g.D.Device.disk l.fn.device) l.fn.engine w → (v : World) × StandsFor (g.D.Device.disk l.device) l.engine v;
  ready : IsReady l.engine;
  number : (own_in l.engine).number ≡ (own_in l.fn.engine).number;
  none : (own_in l.engine).staging ≡ None;
  standing : g.D.Device.tells → AreStanding (g.D.Device.disk l.device) l.engine.hosting.stores;
  others : g.D.Device.tells → KeepsFiles NotOurs (g.D.Device.disk l.fn.device) (g.D.Device.disk l.device);
  causes : HasCauses g.D.Device.disk_faults g.D.Device.tell_faults l.fn.device l.device ⊥ ⊥;
}

abbrev pub decreases-loop-reader : goal.decreases-loop-reader
decreases-loop-reader g l = work l.script l.reader
