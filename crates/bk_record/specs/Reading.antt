-- How a log record is read from the front of bytes.
use Rattle.std.specs.Prelude.{◌≡◌, ℕ, zero, suc, ◌^◌, ◌<◌, List, [], ◌∷◌, Option, Some, None, nat_lt, is_some, if◌then◌else◌}
use Rattle.bk_ids.specs.declared.guid.Guid.{Guid}
use Rattle.bk_ids.specs.declared.record.Place.{Place}
use Rattle.bk_ids.specs.declared.record.ExtentId.{ExtentId}
use Rattle.bk_ids.specs.declared.record.CellImage.{CellImage}
use Rattle.bk_ids.specs.declared.record.RecoveryModel.{RecoveryModel}
use Rattle.bk_ids.specs.declared.record.Mark.{Mark}
use Rattle.bk_ids.specs.declared.record.Rec.{Rec}
use Rattle.bk_ids.specs.declared.record.Body.{Body}
use Rattle.bk_ids.specs.declared.record.Body.TheVariants.{Database, Table, Begin, Write, Commit, RollbackEnd, Compensation, Checkpoint, Stamp, Model, Bulk, Recovery}
use Rattle.bk_bytes.specs.Codec.{◌>>=◌, Codec, number, run, zeros, string, followed, converted, counted, framed}
use Rattle.bk_bytes.specs.Cell.{IsCell, cell_form}
use Rattle.bk_fields.specs.Guids.{guid_form}
use Rattle.bk_fields.specs.Models.{model_form}
use Rattle.bk_record.specs.Spelling.{IsPlace, IsExtent, IsMark, IsBody, body_bytes, kind_of, description_of}

-- the slot is below 63
unfoldable pub place_form : Codec Place
place_form = converted (followed (number 2) (λ _. followed (number 4) (λ _. number 2)))
    (λ x. if nat_lt x.1.1 63 then Some (record { file = x.0; page = x.1.0; slot = x.1.1 }) else None)
    (λ place. (place.file, (place.page, place.slot)))
    IsPlace

unfoldable pub extent_form : Codec ExtentId
extent_form = converted (followed (number 2) (λ _. number 4))
    (λ x. Some (record { file = x.0; extent = x.1 }))
    (λ extent. (extent.file, extent.extent))
    IsExtent

-- 128 bytes that are a cell's
unfoldable pub image_form : Codec CellImage
image_form = converted (run 128)
    (λ bytes. if is_some (cell_form.reading bytes) then Some (record { bytes = bytes }) else None)
    (λ image. image.bytes)
    (λ image. IsCell image.bytes)

-- no name is no mark, and then there is no description
abbrev pub description_in : List ℕ → Option (List ℕ)
description_in [] = None
description_in (b ∷ bytes) = Some (b ∷ bytes)

abbrev pub mark_in : List ℕ → List ℕ → Option (Option Mark)
mark_in [] [] = Some None
mark_in [] (b ∷ bytes) = None
mark_in (b ∷ name) description = Some (Some (record { name = b ∷ name; description = description_in description }))

abbrev pub mark_texts : Option Mark → List ℕ × List ℕ
mark_texts None = ([], [])
mark_texts (Some mark) = (mark.name, description_of mark.description)

unfoldable pub mark_form : Codec (Option Mark)
mark_form = converted (followed (string 0 64) (λ _. string 0 65535)) (λ x. mark_in x.0 x.1) mark_texts IsMark

-- the fields of each kind, in their order
abbrev pub database_fields : Codec (ℕ × (Guid × Guid))
database_fields = followed (number 8) (λ _. followed guid_form (λ _. guid_form))

abbrev pub table_fields : Codec (ℕ × (ℕ × (List ℕ × ℕ)))
table_fields = followed (number 8) (λ _. followed (number 4) (λ _. followed (string 1 64) (λ _. number 1)))

abbrev pub write_fields : Codec (Place × (CellImage × CellImage))
write_fields = followed place_form (λ _. followed image_form (λ _. image_form))

abbrev pub commit_fields : Codec (ℕ × Option Mark)
commit_fields = followed (number 8) (λ _. mark_form)

abbrev pub compensation_fields : Codec (Place × (CellImage × ℕ))
compensation_fields = followed place_form (λ _. followed image_form (λ _. number 8))

abbrev pub stamp_fields : Codec (ℕ × Guid)
stamp_fields = followed (number 8) (λ _. guid_form)

abbrev pub model_fields : Codec (ℕ × RecoveryModel)
model_fields = followed (number 8) (λ _. model_form)

abbrev pub bulk_fields : Codec (ℕ × (ℕ × (ℕ × (List ℕ × List ExtentId))))
bulk_fields = followed (number 4) (λ _. followed (number 8) (λ _. followed (number 4) (λ _. followed (string 0 112) (λ _. counted 4 extent_form))))

-- read fields, and make a body of them
abbrev pub made_of : {A : Type 0} → Codec A → (A → Body) → List ℕ → Option (Body × List ℕ)
made_of c make bytes = do
  x ← c.reading bytes
  Some (make x.0, x.1)

unfoldable pub database_at : List ℕ → Option (Body × List ℕ)
database_at = made_of database_fields (λ x. Database x.0 x.1.0 x.1.1)

unfoldable pub table_at : List ℕ → Option (Body × List ℕ)
table_at = made_of table_fields (λ x. Table x.0 x.1.0 x.1.1.0 x.1.1.1)

unfoldable pub write_at : List ℕ → Option (Body × List ℕ)
write_at = made_of write_fields (λ x. Write x.0 x.1.0 x.1.1)

unfoldable pub commit_at : List ℕ → Option (Body × List ℕ)
commit_at = made_of commit_fields (λ x. Commit x.0 x.1)

unfoldable pub compensation_at : List ℕ → Option (Body × List ℕ)
compensation_at = made_of compensation_fields (λ x. Compensation x.0 x.1.0 x.1.1)

unfoldable pub checkpoint_at : List ℕ → Option (Body × List ℕ)
checkpoint_at = made_of (number 8) Checkpoint

unfoldable pub stamp_at : List ℕ → Option (Body × List ℕ)
stamp_at = made_of stamp_fields (λ x. Stamp x.0 x.1)

unfoldable pub model_at : List ℕ → Option (Body × List ℕ)
model_at = made_of model_fields (λ x. Model x.0 x.1)

unfoldable pub bulk_at : List ℕ → Option (Body × List ℕ)
bulk_at = made_of bulk_fields (λ x. Bulk x.0 x.1.0 x.1.1.0 x.1.1.1.0 x.1.1.1.1)

unfoldable pub recovery_at : List ℕ → Option (Body × List ℕ)
recovery_at = made_of guid_form Recovery

-- read the fields of a kind
unfoldable pub body_at : ℕ → List ℕ → Option (Body × List ℕ)
body_at zero bytes = None
body_at (suc zero) bytes = database_at bytes
body_at (suc (suc zero)) bytes = table_at bytes
body_at (suc (suc (suc zero))) bytes = Some (Begin, bytes)
body_at (suc (suc (suc (suc zero)))) bytes = write_at bytes
body_at (suc (suc (suc (suc (suc zero))))) bytes = commit_at bytes
body_at (suc (suc (suc (suc (suc (suc zero)))))) bytes = Some (RollbackEnd, bytes)
body_at (suc (suc (suc (suc (suc (suc (suc zero))))))) bytes = compensation_at bytes
body_at (suc (suc (suc (suc (suc (suc (suc (suc zero)))))))) bytes = checkpoint_at bytes
body_at (suc (suc (suc (suc (suc (suc (suc (suc (suc zero))))))))) bytes = stamp_at bytes
body_at (suc (suc (suc (suc (suc (suc (suc (suc (suc (suc zero)))))))))) bytes = model_at bytes
body_at (suc (suc (suc (suc (suc (suc (suc (suc (suc (suc (suc zero))))))))))) bytes = bulk_at bytes
body_at (suc (suc (suc (suc (suc (suc (suc (suc (suc (suc (suc (suc zero)))))))))))) bytes = recovery_at bytes
body_at (suc (suc (suc (suc (suc (suc (suc (suc (suc (suc (suc (suc (suc kind))))))))))))) bytes = None

abbrev pub body_form : ℕ → Codec Body
body_form kind = record { spelling = body_bytes; Fits = λ body. (kind_of body ≡ kind) × IsBody body; reading = body_at kind }

-- a record behind its length
unfoldable pub inside_form : Codec Rec
inside_form = converted
    (followed (followed (number 1) (λ _. followed (zeros 3) (λ _. followed (number 8) (λ _. number 8)))) (λ head. body_form head.0))
    (λ x. Some (record { lsn = x.0.1.1.0; begin = x.0.1.1.1; body = x.1 }))
    (λ r. ((kind_of r.body, (tt, (r.lsn, r.begin))), r.body))
    (λ r. (r.lsn < 2 ^ 64) × ((r.begin < 2 ^ 64) × IsBody r.body))

unfoldable pub record_form : Codec Rec
record_form = framed 4 inside_form
