-- The byte of a recovery model.
use Rattle.std.specs.Prelude.{ℕ, zero, suc, List, Option, Some, None}
use Rattle.bk_ids.specs.declared.record.RecoveryModel.{RecoveryModel}
use Rattle.bk_ids.specs.declared.record.RecoveryModel.TheVariants.{Simple, Full, BulkLogged}
use Rattle.bk_bytes.specs.Field.{bytes_of}
use Rattle.bk_bytes.specs.Codec.{Codec, number, converted}

abbrev pub model_number : RecoveryModel → ℕ
model_number Simple = 0
model_number Full = 1
model_number BulkLogged = 2

abbrev pub model_bytes : RecoveryModel → List ℕ
model_bytes model = bytes_of 1 (model_number model)

-- the model of a number
abbrev pub model_at : ℕ → Option RecoveryModel
model_at zero = Some Simple
model_at (suc zero) = Some Full
model_at (suc (suc zero)) = Some BulkLogged
model_at (suc (suc (suc n))) = None

unfoldable pub model_form : Codec RecoveryModel
model_form = converted (number 1) model_at model_number (λ _. Unit {0})
