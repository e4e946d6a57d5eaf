-- The laws of GUIDs and recovery models as fields.
use Rattle.std.proofs.Common.{◌≡◌, ℕ, zero, suc, ◌/◌, ◌%◌, ◌^◌, ◌<◌, Some, refl, sym, ap, subst, arith, lit<}
use Rattle.std.proofs.lemmas.Option.{same_Some}
use Rattle.bk_ids.specs.declared.guid.Guid.{Guid}
use Rattle.bk_ids.specs.declared.record.RecoveryModel.{RecoveryModel}
use Rattle.bk_ids.specs.declared.record.RecoveryModel.TheVariants.{Simple, Full, BulkLogged}
use Rattle.bk_bytes.specs.Codec.{IsCodec, number}
use Rattle.bk_bytes.specs.CodecLaws.{number-IsCodec, converted-IsCodec}
use Rattle.bk_fields.specs.Guids.{guid_number, IsGuid, guid_form}
use Rattle.bk_fields.specs.Models.{model_number, model_at, model_form}

-- the halves of a number of 128 bits
halves : ℕ → Guid
halves n = record { high = n / 2 ^ 64; low = n % 2 ^ 64 }

-- a GUID of the same halves
rebuilt : (n : ℕ) (guid : Guid) → n / 2 ^ 64 ≡ guid.high → n % 2 ^ 64 ≡ guid.low → halves n ≡ guid
unfolding halves
rebuilt n guid high low = λ i. record { high = high i; low = low i }

pub guid_form-IsCodec : IsCodec Guid guid_form
unfolding guid_form halves
guid_form-IsCodec = converted-IsCodec (number 16) (λ n. Some (halves n)) guid_number IsGuid (number-IsCodec 16) (record {
  takes = λ n guid fits e.
      let is : halves n ≡ guid = same_Some (halves n) guid e in
      subst (λ (g : Guid). (guid_number g ≡ n) × IsGuid g) is (omega arith, record { high = omega arith; low = omega arith });
  gives = λ guid fits.
      let high : guid_number guid / 2 ^ 64 ≡ guid.high = omega (arith, fits.high, fits.low) in
      let low : guid_number guid % 2 ^ 64 ≡ guid.low = omega (arith, fits.high, fits.low) in
      (ap (λ (g : Guid). Some g) (rebuilt (guid_number guid) guid high low), omega (arith, fits.high, fits.low));
})

pub model_form-IsCodec : IsCodec RecoveryModel model_form
unfolding model_form
model_form-IsCodec = converted-IsCodec (number 1) model_at model_number (λ _. Unit {0}) (number-IsCodec 1) (record { takes = λ n model fits e. (model_takes n model e, tt); gives = model_gives })
  where
    model_takes : (n : ℕ) (model : RecoveryModel) → model_at n ≡ Some model → model_number model ≡ n
    model_takes zero model e = ap model_number (sym (same_Some Simple model e))
    model_takes (suc zero) model e = ap model_number (sym (same_Some Full model e))
    model_takes (suc (suc zero)) model e = ap model_number (sym (same_Some BulkLogged model e))
    model_takes (suc (suc (suc n))) model e = absurd cc

    model_gives : (model : RecoveryModel) → Unit {0} → (model_at (model_number model) ≡ Some model) × (model_number model < 256 ^ 1)
    model_gives Simple h = (refl, lit< tt)
    model_gives Full h = (refl, lit< tt)
    model_gives BulkLogged h = (refl, lit< tt)
