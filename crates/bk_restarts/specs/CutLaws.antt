-- What calls of an instance leave where they are cut off, as a place where acts are cut.
use Rattle.std.proofs.Common.{ℕ, suc, List, ◌∷◌, inl, inr}
use Rattle.bk_device.specs.Disk.{Files}
use Rattle.bk_engine.specs.Acts.{CutsAct, CutsSaying}
use Rattle.bk_engine.specs.Stands.{Covers}
use Rattle.bk_machine.specs.Acts.{Act, done, logged}
use Rattle.bk_machine.specs.World.{World}
use Rattle.bk_restarts.specs.Crashes.{CutIn}
use Rattle.bk_world.specs.declared.transaction.Open.{Open}
use Rattle.bk_world.specs.Records.{Said}

-- before the first of them
pub cut-first : (w : World) (acts : List Act) (image : Files) → Covers w image → CutIn w acts image
cut-first w acts image covers = record { done = 0; records = 0; covers = covers }

-- later ones
pub cut-later : (w : World) (act : Act) (acts : List Act) (image : Files) → CutIn (done w act) acts image → CutIn w (act ∷ acts) image
cut-later w act acts image is = record { done = suc is.done; records = is.records; covers = is.covers }

-- one that is whole or absent
pub cut-act : (w : World) (act : Act) (acts : List Act) (image : Files) → CutsAct w act image → CutIn w (act ∷ acts) image
cut-act w act acts image (inl before) = cut-first w (act ∷ acts) image before
cut-act w act acts image (inr behind) = cut-later w act acts image (cut-first (done w act) acts image behind)

-- what a database says
pub cut-saying : (w : World) (name : List ℕ) (said : List Said) (transactions : List Open) (acts : List Act) (image : Files) → CutsSaying w name said transactions image → CutIn w (logged name said transactions ∷ acts) image
cut-saying w name said transactions acts image (inl before) = cut-first w (logged name said transactions ∷ acts) image before
cut-saying w name said transactions acts image (inr front) = record { done = 0; records = suc front.0; covers = front.2 }
