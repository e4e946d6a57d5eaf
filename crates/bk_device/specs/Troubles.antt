-- Troubles that pass: the files stand for what they stood for.
use Rattle.bk_device.specs.declared.trouble.Trouble.{Trouble}
use Rattle.bk_device.specs.declared.trouble.Trouble.TheVariants.{Fault, NoMemory, Broken}

-- the device failed, or there was no memory
abbrev pub IsPassing : Trouble → Type 0
IsPassing Fault = Unit {0}
IsPassing NoMemory = Unit {0}
IsPassing Broken = ⊥
