-- What is read of the parts of a set is spelled so, and what is spelled so is read.
use Rattle.std.proofs.Common.{◌≡◌, ◌≤◌, ℕ, zero, suc, ◌^◌, ◌<◌, false, eqb, List, [], ◌∷◌, ◌++◌, length, Some, None, refl, sym, ap, subst, ◌∙◌, lit<, arith, length-append}
use Rattle.std.specs.List.{flat_map, AllByRecursion}
use Rattle.std.proofs.lemmas.Option.{same_Some}
use Rattle.bk_bytes.specs.Codec.{IsCodec, text_at}
use Rattle.bk_bytes.specs.CodecLaws.{AreBytes-front, AreBytes-after, bind_some, guard_true, number-IsCodec, run-IsCodec, text-IsCodec, string-IsCodec, followed-IsCodec, converted-IsCodec, counted-IsCodec}
use Rattle.bk_bytes.specs.Field.{AreBytes, bytes_of}
use Rattle.bk_header.specs.Laws.{header_form-IsCodec, header_form-spelling}
use Rattle.bk_header.specs.Conditions.{IsHeader}
use Rattle.bk_header.specs.Reading.{header_form}
use Rattle.bk_ids.specs.declared.record.Rec.{Rec}
use Rattle.bk_lemmas.specs.Tests.{test_false}
use Rattle.bk_record.specs.Laws.{record_again}
use Rattle.bk_record.specs.Log.{IsLog}
use Rattle.bk_record.specs.Records.{AreRecords, are_records, records_in}
use Rattle.bk_record.specs.RecordsLaws.{are_records-from, records_in-some, whole_is, some_bytes}
use Rattle.bk_record.specs.Spelling.{spelling, IsRecord}
use Rattle.bk_world.specs.declared.database.TableSpec.{TableSpec}
use Rattle.bk_world.specs.declared.header.Header.{Header}
use Rattle.bk_body.specs.Body.{Extent}
use Rattle.bk_body.specs.Conditions.{IsTable}
use Rattle.bk_body.specs.Spelling.{log_bytes, front_bytes, extent_bytes}
use Rattle.bk_body.specs.Reading.{table_form, log_at, log_form, front_form, IsExtent, extent_form, records_at, records_of}

pub table_form-IsCodec : IsCodec TableSpec table_form
unfolding table_form
table_form-IsCodec = converted-IsCodec _ _ _ IsTable (followed-IsCodec _ _ (number-IsCodec 4) (λ _. followed-IsCodec _ _ (string-IsCodec 1 64 (lit< tt)) (λ _. number-IsCodec 1))) (record {
  takes = λ x table fits e.
      subst (λ (t : TableSpec). ((t.number, (t.name, t.group)) ≡ x) × IsTable t)
      (same_Some (record { number = x.0; name = x.1.0; group = x.1.1 }) table e)
      (refl, record { number = fits.0; name = fits.1.0; group = fits.1.1 });
  gives = λ table h. (refl, (h.number, (h.name, h.group)));
})

-- the log behind its length, where records are read
log_takes : (bytes log rest : List ℕ) → AreBytes bytes → log_at bytes ≡ Some (log, rest) → (bytes ≡ log_bytes log ++ rest) × ((length log < 2 ^ 64) × AreRecords log)
unfolding log_at
log_takes bytes log rest fits e =
    let t = bind_some (text_at 8 bytes) _ (log, rest) e in
    let r = bind_some (records_in t.0.0) _ (log, rest) t.2 in
    let g = guard_true (are_records t.0.0) t.0.0 r.0 r.1 in
    let text = (text-IsCodec 8).takes bytes t.0.0 t.0.1 fits t.1 in
    let inside : AreBytes t.0.0 = AreBytes-after (log_bytes t.0.0) (bytes_of 8 (length t.0.0)) t.0.0 (AreBytes-front bytes (log_bytes t.0.0) t.0.1 fits text.0) refl in
    let same : (t.0.0, t.0.1) ≡ (log, rest) = ap (λ (l : List ℕ). (l, t.0.1)) g.1 ∙ same_Some (r.0, t.0.1) (log, rest) r.2 in
    subst (λ (p : List ℕ × List ℕ). (bytes ≡ log_bytes p.0 ++ p.1) × ((length p.0 < 2 ^ 64) × AreRecords p.0)) same
    (text.0, (omega (arith, text.1), are_records-from t.0.0 inside g.0))

log_gives : (log rest : List ℕ) → (length log < 2 ^ 64) × AreRecords log → log_at (log_bytes log ++ rest) ≡ Some (log, rest)
unfolding log_at
log_gives log rest is =
    let text : text_at 8 (log_bytes log ++ rest) ≡ Some (log, rest) = (text-IsCodec 8).gives log rest (omega (arith, is.0)) in
    rw (text, records_in-some log is.1) refl

pub log_form-IsCodec : IsCodec (List ℕ) log_form
log_form-IsCodec = record { takes = log_takes; gives = log_gives }

pub extent_form-IsCodec : IsCodec Extent extent_form
unfolding extent_form
extent_form-IsCodec = converted-IsCodec _ _ _ IsExtent (followed-IsCodec _ _ (number-IsCodec 2) (λ _. followed-IsCodec _ _ (number-IsCodec 4) (λ _. run-IsCodec 65536))) (record {
  takes = λ x extent fits e.
      subst (λ (t : Extent). ((t.file, (t.extent, t.bytes)) ≡ x) × IsExtent t)
      (same_Some (record { file = x.0; extent = x.1.0; bytes = x.1.1 }) extent e)
      (refl, record { file = fits.0; number = fits.1.0; size = fits.1.1 });
  gives = λ extent h. (refl, (h.file, (h.number, h.size)));
})

pub front_form-IsCodec : IsCodec (Header × (List TableSpec × ℕ)) front_form
unfolding front_form
front_form-IsCodec = followed-IsCodec _ _ header_form-IsCodec (λ _. followed-IsCodec _ _ (counted-IsCodec 2 _ table_form-IsCodec) (λ _. number-IsCodec 4))

pub front_fits : (h : Header) (tables : List TableSpec) (count : ℕ) → front_form.Fits (h, (tables, count)) → IsHeader h × (((length tables < 256 ^ 2) × AllByRecursion IsTable tables) × (count < 256 ^ 4))
unfolding front_form header_form table_form
front_fits h tables count fits = fits

pub front_from : (h : Header) (tables : List TableSpec) (count : ℕ) → IsHeader h × (((length tables < 256 ^ 2) × AllByRecursion IsTable tables) × (count < 256 ^ 4)) → front_form.Fits (h, (tables, count))
unfolding front_form header_form table_form
front_from h tables count fits = fits

pub front_form-spelling : (h : Header) (tables : List TableSpec) (count : ℕ) → IsHeader h → front_form.spelling (h, (tables, count)) ≡ front_bytes h tables count
unfolding front_form table_form front_bytes
front_form-spelling h tables count is = rw (header_form-spelling h is) refl

pub extent_form-spelling : (extent : Extent) → extent_form.spelling extent ≡ extent_bytes extent
unfolding extent_form
extent_form-spelling extent = refl

extents_fits : (extents : List Extent) → AllByRecursion extent_form.Fits extents → AllByRecursion IsExtent extents
unfolding extent_form
extents_fits extents are = are

-- ---- records

records_again : (n : ℕ) (records : List Rec) → AllByRecursion IsRecord records → length (flat_map spelling records) ≤ n → records_at n (flat_map spelling records) ≡ Some records
unfolding records_at
records_again zero [] all few = refl
records_again (suc n) [] all few = refl
records_again zero (r ∷ records) all few = absurd (omega (arith, few, some_bytes r, length-append (spelling r) (flat_map spelling records)))
records_again (suc n) (r ∷ records) all few =
    let few_left : length (flat_map spelling records) ≤ n = omega (arith, few, some_bytes r, length-append (spelling r) (flat_map spelling records)) in
    let some : eqb (length (spelling r ++ flat_map spelling records)) 0 ≡ false = test_false _ 0 (λ none. absurd (omega (arith, none, some_bytes r, length-append (spelling r) (flat_map spelling records)))) in
    rw (some, record_again r (flat_map spelling records) all.0, records_again n records all.1 few_left) refl

-- whole records are read
pub records_read : (bytes : List ℕ) (records : List Rec) → IsLog bytes records None → records_of bytes ≡ Some records
records_read bytes records log =
    subst (λ (b : List ℕ). records_of b ≡ Some records) (sym (whole_is bytes records log)) (records_again (length (flat_map spelling records)) records log.are_records (omega arith))
