-- What the errors of the layers below come to.
use Rattle.bk_volume.specs.declared.error.LoadError.{LoadError}
use Rattle.bk_volume.specs.declared.error.LoadError.TheVariants as load
use Rattle.bk_volume.specs.declared.error.WriteError.{WriteError}
use Rattle.bk_volume.specs.declared.error.WriteError.TheVariants as write
use Rattle.bk_archive.specs.declared.error.SealError.{SealError}
use Rattle.bk_archive.specs.declared.error.SealError.TheVariants as sealing

abbrev pub loaded_error : LoadError → SealError
loaded_error load.Missing = sealing.NoMedium
loaded_error load.NotMedia = sealing.NoMedium
loaded_error load.Fault = sealing.Fault
loaded_error load.NoMemory = sealing.NoMemory

abbrev pub sealed_error : WriteError → SealError
sealed_error write.Fault = sealing.Fault
sealed_error write.NoMemory = sealing.NoMemory
