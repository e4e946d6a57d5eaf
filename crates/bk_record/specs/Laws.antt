-- A record that is read is spelled so, and a record that is spelled is read.
use Rattle.std.proofs.Common.{◌≡◌, ℕ, zero, suc, ◌^◌, ◌<◌, true, cond, ltb, List, [], ◌∷◌, ◌++◌, length, Option, Some, None, refl, sym, ap, subst, ◌∙◌, arith, lit<}
use Rattle.std.specs.Prelude.{is_some, MatchOption}
use Rattle.std.specs.Borrow.{Bor}
use Rattle.std.proofs.lemmas.Bool.{lt-ltb, ltb-true}
use Rattle.std.proofs.lemmas.Option.{same_Some}
use Rattle.bk_ids.specs.declared.guid.Guid.{Guid}
use Rattle.bk_ids.specs.declared.record.Place.{Place}
use Rattle.bk_ids.specs.declared.record.ExtentId.{ExtentId}
use Rattle.bk_ids.specs.declared.record.CellImage.{CellImage}
use Rattle.bk_ids.specs.declared.record.RecoveryModel.{RecoveryModel}
use Rattle.bk_ids.specs.declared.record.Mark.{Mark}
use Rattle.bk_ids.specs.declared.record.Rec.{Rec}
use Rattle.bk_ids.specs.declared.record.Body.{Body}
use Rattle.bk_ids.specs.declared.record.Body.TheVariants.{Database, Table, Begin, Write, Commit, RollbackEnd, Compensation, Checkpoint, Stamp, Model, Bulk, Recovery}
use Rattle.bk_bytes.specs.Field.{AreBytes, bytes_of}
use Rattle.bk_bytes.specs.Codec.{◌>>=◌, Gives, Codec, IsCodec, IsString, run_at, number}
use Rattle.bk_bytes.specs.Cell.{IsCell, cell_form}
use Rattle.bk_bytes.specs.CodecLaws.{AreBytes-front, number-IsCodec, run-IsCodec, zeros-IsCodec, string-IsCodec, followed-IsCodec, converted-IsCodec, counted-IsCodec, framed-IsCodec, guard_true, some, bind_some}
use Rattle.bk_bytes.specs.CellLaws.{is_some-cell, is_cell-from_some, length-cell_bytes}
use Rattle.bk_fields.specs.Guids.{guid_form}
use Rattle.bk_fields.specs.Models.{model_form}
use Rattle.bk_fields.specs.Laws.{guid_form-IsCodec, model_form-IsCodec}
use Rattle.bk_record.specs.declared.view.RecRef.{RecRef}
use Rattle.bk_record.specs.View.{record_of}
use Rattle.bk_record.specs.Spelling.{IsPlace, IsExtent, IsMark, IsDescription, IsBody, IsRecord, body_bytes, kind_of, description_of, spelling, mark_bytes, BeginsWith, IsUnspelled}
use Rattle.bk_record.specs.Reading.{place_form, extent_form, image_form, mark_in, mark_texts, mark_form, database_fields, table_fields, write_fields, commit_fields, compensation_fields, stamp_fields, model_fields, bulk_fields, made_of, database_at, table_at, write_at, commit_at, compensation_at, checkpoint_at, stamp_at, model_at, bulk_at, recovery_at, body_at, body_form, inside_form, record_form}

-- ---- places, extents, images, marks

pub place_form-IsCodec : IsCodec Place place_form
unfolding place_form
place_form-IsCodec = converted-IsCodec _ _ _ IsPlace (followed-IsCodec _ _ (number-IsCodec 2) (λ _. followed-IsCodec _ _ (number-IsCodec 4) (λ _. number-IsCodec 2))) (record {
  takes = λ x place fits e.
      let g = guard_true (ltb x.1.1 63) (record { file = x.0; page = x.1.0; slot = x.1.1 }) place e in
      let slot : x.1.1 < 63 = ltb-true _ _ g.0 in
      subst (λ (p : Place). ((p.file, (p.page, p.slot)) ≡ x) × IsPlace p) g.1 (refl, record { file = fits.0; page = fits.1.0; slot = slot });
  gives = λ place fits.
      let slot : ltb place.slot 63 ≡ true = lt-ltb _ _ fits.slot in
      (rw slot refl, (fits.file, (fits.page, omega (arith, fits.slot))));
})

pub extent_form-IsCodec : IsCodec ExtentId extent_form
unfolding extent_form
extent_form-IsCodec = converted-IsCodec _ _ _ IsExtent (followed-IsCodec _ _ (number-IsCodec 2) (λ _. number-IsCodec 4)) (record {
  takes = λ x extent fits e.
      subst (λ (p : ExtentId). ((p.file, p.extent) ≡ x) × IsExtent p) (same_Some (record { file = x.0; extent = x.1 }) extent e) (refl, record { file = fits.0; extent = fits.1 });
  gives = λ extent fits. (refl, (fits.file, fits.extent));
})

pub image_form-IsCodec : IsCodec CellImage image_form
unfolding image_form
image_form-IsCodec = record {
  takes = λ bytes image rest fits e.
      let front = bind_some (run_at 128 bytes) (λ x. cond (is_some (cell_form.reading x.0)) (Some (cell_of x.0)) None >>= λ y. Some (y, x.1)) (image, rest) e in
      let second = bind_some (cond (is_some (cell_form.reading front.0.0)) (Some (cell_of front.0.0)) None) (λ y. Some (y, front.0.1)) (image, rest) front.2 in
      let g = guard_true (is_some (cell_form.reading front.0.0)) (cell_of front.0.0) second.0 second.1 in
      let a = (run-IsCodec 128).takes bytes front.0.0 front.0.1 fits front.1 in
      let found : IsCell front.0.0 = is_cell-from_some front.0.0 (AreBytes-front bytes front.0.0 front.0.1 fits a.0) a.1 g.0 in
      let read : (bytes ≡ second.0.bytes ++ front.0.1) × IsCell second.0.bytes = subst (λ (i : CellImage). (bytes ≡ i.bytes ++ front.0.1) × IsCell i.bytes) g.1 (a.0, found) in
      subst (λ (p : CellImage × List ℕ). (bytes ≡ p.0.bytes ++ p.1) × IsCell p.0.bytes) (same_Some (second.0, front.0.1) (image, rest) second.2) read;
  gives = λ image rest found.
      let len : length image.bytes ≡ 128 = ap length found.1.1 ∙ length-cell_bytes found.0 found.1.0 in
      rw ((run-IsCodec 128).gives image.bytes rest len, is_some-cell image.bytes found) refl;
}
  where
    cell_of : List ℕ → CellImage
    cell_of bytes = record { bytes = bytes }

-- the empty text
empty_string : (most : ℕ) → IsString 0 most []
empty_string most = record { least_bytes = omega arith; most_bytes = omega arith; utf8 = ([], (refl, refl)) }

shorter : (least most : ℕ) (text : List ℕ) → IsString least most text → IsString 0 most text
shorter least most text h = record { least_bytes = omega arith; most_bytes = h.most_bytes; utf8 = h.utf8 }

some_bytes : (most b : ℕ) (text : List ℕ) → IsString 0 most (b ∷ text) → IsString 1 most (b ∷ text)
some_bytes most b text h = record { least_bytes = omega arith; most_bytes = h.most_bytes; utf8 = h.utf8 }

mark_takes : (name description : List ℕ) (mark : Option Mark) → IsString 0 64 name × IsString 0 65535 description → mark_in name description ≡ Some mark
    → (mark_texts mark ≡ (name, description)) × IsMark mark
mark_takes [] [] mark fits e =
    subst (λ (m : Option Mark). (mark_texts m ≡ ([], [])) × IsMark m) (same_Some None mark e) (refl, tt)
mark_takes [] (b ∷ bytes) mark fits e = absurd cc
mark_takes (b ∷ name) [] mark fits e =
    subst (λ (m : Option Mark). (mark_texts m ≡ (b ∷ name, [])) × IsMark m) (same_Some (Some (record { name = b ∷ name; description = None })) mark e)
    (refl, (some_bytes 64 b name fits.0, tt))
mark_takes (b ∷ name) (d ∷ description) mark fits e =
    subst (λ (m : Option Mark). (mark_texts m ≡ (b ∷ name, d ∷ description)) × IsMark m) (same_Some (Some (record { name = b ∷ name; description = Some (d ∷ description) })) mark e)
    (refl, (some_bytes 64 b name fits.0, some_bytes 65535 d description fits.1))

mark_again : (name : List ℕ) (description : Option (List ℕ)) → IsString 1 64 name → IsDescription description
    → mark_in name (description_of description) ≡ Some (Some (record { name = name; description = description }))
mark_again [] description h d = absurd (omega (arith, h.least_bytes))
mark_again (b ∷ name) None h d = refl
mark_again (b ∷ name) (Some []) h d = absurd (omega (arith, d.least_bytes))
mark_again (b ∷ name) (Some (x ∷ text)) h d = refl

description_fits : (description : Option (List ℕ)) → IsDescription description → IsString 0 65535 (description_of description)
description_fits None h = empty_string 65535
description_fits (Some text) h = shorter 1 65535 text h

mark_gives : (mark : Option Mark) → IsMark mark → (mark_in (mark_texts mark).0 (mark_texts mark).1 ≡ Some mark) × (IsString 0 64 (mark_texts mark).0 × IsString 0 65535 (mark_texts mark).1)
mark_gives None h = (refl, (empty_string 64, empty_string 65535))
mark_gives (Some mark) h = (mark_again mark.name mark.description h.0 h.1, (shorter 1 64 mark.name h.0, description_fits mark.description h.1))

pub mark_form-IsCodec : IsCodec (Option Mark) mark_form
unfolding mark_form
mark_form-IsCodec = converted-IsCodec _ (λ x. mark_in x.0 x.1) mark_texts IsMark (followed-IsCodec _ _ (string-IsCodec 0 64 (lit< tt)) (λ _. string-IsCodec 0 65535 (lit< tt))) (record {
  takes = λ x mark fits e. mark_takes x.0 x.1 mark fits e;
  gives = mark_gives;
})

-- ---- the fields of each kind

database_fields-IsCodec : IsCodec (ℕ × (Guid × Guid)) database_fields
database_fields-IsCodec = followed-IsCodec _ _ (number-IsCodec 8) (λ _. followed-IsCodec _ _ guid_form-IsCodec (λ _. guid_form-IsCodec))

table_fields-IsCodec : IsCodec (ℕ × (ℕ × (List ℕ × ℕ))) table_fields
table_fields-IsCodec = followed-IsCodec _ _ (number-IsCodec 8) (λ _. followed-IsCodec _ _ (number-IsCodec 4) (λ _. followed-IsCodec _ _ (string-IsCodec 1 64 (lit< tt)) (λ _. number-IsCodec 1)))

write_fields-IsCodec : IsCodec (Place × (CellImage × CellImage)) write_fields
write_fields-IsCodec = followed-IsCodec _ _ place_form-IsCodec (λ _. followed-IsCodec _ _ image_form-IsCodec (λ _. image_form-IsCodec))

commit_fields-IsCodec : IsCodec (ℕ × Option Mark) commit_fields
commit_fields-IsCodec = followed-IsCodec _ _ (number-IsCodec 8) (λ _. mark_form-IsCodec)

compensation_fields-IsCodec : IsCodec (Place × (CellImage × ℕ)) compensation_fields
compensation_fields-IsCodec = followed-IsCodec _ _ place_form-IsCodec (λ _. followed-IsCodec _ _ image_form-IsCodec (λ _. number-IsCodec 8))

stamp_fields-IsCodec : IsCodec (ℕ × Guid) stamp_fields
stamp_fields-IsCodec = followed-IsCodec _ _ (number-IsCodec 8) (λ _. guid_form-IsCodec)

model_fields-IsCodec : IsCodec (ℕ × RecoveryModel) model_fields
model_fields-IsCodec = followed-IsCodec _ _ (number-IsCodec 8) (λ _. model_form-IsCodec)

bulk_fields-IsCodec : IsCodec (ℕ × (ℕ × (ℕ × (List ℕ × List ExtentId)))) bulk_fields
bulk_fields-IsCodec =
    followed-IsCodec _ _ (number-IsCodec 4) (λ _. followed-IsCodec _ _ (number-IsCodec 8) (λ _. followed-IsCodec _ _ (number-IsCodec 4) (λ _. followed-IsCodec _ _ (string-IsCodec 0 112 (lit< tt)) (λ _. counted-IsCodec 4 extent_form extent_form-IsCodec))))

pub mark_form-spelling : (mark : Option Mark) → mark_form.spelling mark ≡ mark_bytes mark
unfolding mark_form
mark_form-spelling None = refl
mark_form-spelling (Some mark) = refl

-- a body of this kind whose fields are spelled so
abbrev Made : {A : Type 0} → Codec A → (A → Body) → ℕ → Type 0
Made {A} c make kind = (x : A) → c.Fits x → (body_bytes (make x) ≡ c.spelling x) × ((kind_of (make x) ≡ kind) × IsBody (make x))

-- what is read as a body of a kind
abbrev Taken : ℕ → List ℕ → Body → List ℕ → Type 0
Taken kind bytes body rest = (bytes ≡ body_bytes body ++ rest) × ((kind_of body ≡ kind) × IsBody body)

made_takes : {A : Type 0} (c : Codec A) (make : A → Body) (kind : ℕ) → IsCodec A c → Made c make kind
    → (bytes : List ℕ) (body : Body) (rest : List ℕ) → AreBytes bytes → made_of c make bytes ≡ Some (body, rest) → Taken kind bytes body rest
made_takes {A} c make kind law made bytes body rest fits e =
    let first = bind_some (c.reading bytes) (λ x. Some (make x.0, x.1)) (body, rest) e in
    let a = law.takes bytes first.0.0 first.0.1 fits first.1 in
    let m = made first.0.0 a.1 in
    subst (λ (p : Body × List ℕ). Taken kind bytes p.0 p.1) (same_Some (make first.0.0, first.0.1) (body, rest) first.2) (a.0 ∙ ap (λ (s : List ℕ). s ++ first.0.1) (sym m.0), m.1)

made_gives : {A : Type 0} (c : Codec A) (make : A → Body) → IsCodec A c → (x : A) (rest : List ℕ) → c.Fits x → made_of c make (c.spelling x ++ rest) ≡ Some (make x, rest)
made_gives c make law x rest fits = rw (law.gives x rest fits) refl

body_takes : (kind : ℕ) (bytes : List ℕ) (body : Body) (rest : List ℕ) → AreBytes bytes → body_at kind bytes ≡ Some (body, rest) → Taken kind bytes body rest
unfolding body_at database_at table_at write_at commit_at compensation_at checkpoint_at stamp_at model_at bulk_at recovery_at guid_form model_form place_form image_form mark_form extent_form
body_takes zero bytes body rest fits e = absurd cc
body_takes (suc zero) bytes body rest fits e =
    made_takes database_fields (λ x. Database x.0 x.1.0 x.1.1) 1 database_fields-IsCodec (λ x h. (refl, (refl, h))) bytes body rest fits e
body_takes (suc (suc zero)) bytes body rest fits e =
    made_takes table_fields (λ x. Table x.0 x.1.0 x.1.1.0 x.1.1.1) 2 table_fields-IsCodec (λ x h. (refl, (refl, h))) bytes body rest fits e
body_takes (suc (suc (suc zero))) bytes body rest fits e =
    subst (λ (p : Body × List ℕ). Taken 3 bytes p.0 p.1) (same_Some (Begin, bytes) (body, rest) e) (refl, (refl, tt))
body_takes (suc (suc (suc (suc zero)))) bytes body rest fits e =
    made_takes write_fields (λ x. Write x.0 x.1.0 x.1.1) 4 write_fields-IsCodec (λ x h. (refl, (refl, h))) bytes body rest fits e
body_takes (suc (suc (suc (suc (suc zero))))) bytes body rest fits e =
    made_takes commit_fields (λ x. Commit x.0 x.1) 5 commit_fields-IsCodec (λ x h. (ap (λ (m : List ℕ). bytes_of 8 x.0 ++ m) (sym (mark_form-spelling x.1)), (refl, h))) bytes body rest fits e
body_takes (suc (suc (suc (suc (suc (suc zero)))))) bytes body rest fits e =
    subst (λ (p : Body × List ℕ). Taken 6 bytes p.0 p.1) (same_Some (RollbackEnd, bytes) (body, rest) e) (refl, (refl, tt))
body_takes (suc (suc (suc (suc (suc (suc (suc zero))))))) bytes body rest fits e =
    made_takes compensation_fields (λ x. Compensation x.0 x.1.0 x.1.1) 7 compensation_fields-IsCodec (λ x h. (refl, (refl, h))) bytes body rest fits e
body_takes (suc (suc (suc (suc (suc (suc (suc (suc zero)))))))) bytes body rest fits e =
    made_takes (number 8) Checkpoint 8 (number-IsCodec 8) (λ x h. (refl, (refl, h))) bytes body rest fits e
body_takes (suc (suc (suc (suc (suc (suc (suc (suc (suc zero))))))))) bytes body rest fits e =
    made_takes stamp_fields (λ x. Stamp x.0 x.1) 9 stamp_fields-IsCodec (λ x h. (refl, (refl, h))) bytes body rest fits e
body_takes (suc (suc (suc (suc (suc (suc (suc (suc (suc (suc zero)))))))))) bytes body rest fits e =
    made_takes model_fields (λ x. Model x.0 x.1) 10 model_fields-IsCodec (λ x h. (refl, (refl, h))) bytes body rest fits e
body_takes (suc (suc (suc (suc (suc (suc (suc (suc (suc (suc (suc zero))))))))))) bytes body rest fits e =
    made_takes bulk_fields (λ x. Bulk x.0 x.1.0 x.1.1.0 x.1.1.1.0 x.1.1.1.1) 11 bulk_fields-IsCodec (λ x h. (refl, (refl, h))) bytes body rest fits e
body_takes (suc (suc (suc (suc (suc (suc (suc (suc (suc (suc (suc (suc zero)))))))))))) bytes body rest fits e =
    made_takes guid_form Recovery 12 guid_form-IsCodec (λ x h. (refl, (refl, h))) bytes body rest fits e
body_takes (suc (suc (suc (suc (suc (suc (suc (suc (suc (suc (suc (suc (suc kind))))))))))))) bytes body rest fits e = absurd cc

body_gives : (body : Body) (rest : List ℕ) → IsBody body → body_at (kind_of body) (body_bytes body ++ rest) ≡ Some (body, rest)
unfolding body_at database_at table_at write_at commit_at compensation_at checkpoint_at stamp_at model_at bulk_at recovery_at guid_form model_form place_form image_form mark_form extent_form
body_gives (Database time family branch) rest h = made_gives database_fields (λ x. Database x.0 x.1.0 x.1.1) database_fields-IsCodec (time, (family, branch)) rest h
body_gives (Table time number name group) rest h = made_gives table_fields (λ x. Table x.0 x.1.0 x.1.1.0 x.1.1.1) table_fields-IsCodec (time, (number, (name, group))) rest h
body_gives Begin rest h = refl
body_gives (Write place before after) rest h = made_gives write_fields (λ x. Write x.0 x.1.0 x.1.1) write_fields-IsCodec (place, (before, after)) rest h
body_gives (Commit time mark) rest h =
    ap (λ (m : List ℕ). commit_at ((bytes_of 8 time ++ m) ++ rest)) (sym (mark_form-spelling mark)) ∙ made_gives commit_fields (λ x. Commit x.0 x.1) commit_fields-IsCodec (time, mark) rest h
body_gives RollbackEnd rest h = refl
body_gives (Compensation place cell undone) rest h = made_gives compensation_fields (λ x. Compensation x.0 x.1.0 x.1.1) compensation_fields-IsCodec (place, (cell, undone)) rest h
body_gives (Checkpoint time) rest h = made_gives (number 8) Checkpoint (number-IsCodec 8) time rest h
body_gives (Stamp time set) rest h = made_gives stamp_fields (λ x. Stamp x.0 x.1) stamp_fields-IsCodec (time, set) rest h
body_gives (Model time model) rest h = made_gives model_fields (λ x. Model x.0 x.1) model_fields-IsCodec (time, model) rest h
body_gives (Bulk table first count value extents) rest h =
    made_gives bulk_fields (λ x. Bulk x.0 x.1.0 x.1.1.0 x.1.1.1.0 x.1.1.1.1) bulk_fields-IsCodec (table, (first, (count, (value, extents)))) rest h
body_gives (Recovery branch) rest h = made_gives guid_form Recovery guid_form-IsCodec branch rest h

body_form-IsCodec : (kind : ℕ) → IsCodec Body (body_form kind)
body_form-IsCodec kind = record {
  takes = body_takes kind;
  gives = λ body rest fits. subst (λ (k : ℕ). body_at k (body_bytes body ++ rest) ≡ Some (body, rest)) fits.0 (body_gives body rest fits.1);
}

-- ---- the record

kind_fits : (body : Body) → kind_of body < 256 ^ 1
kind_fits (Database time family branch) = lit< tt
kind_fits (Table time number name group) = lit< tt
kind_fits Begin = lit< tt
kind_fits (Write place before after) = lit< tt
kind_fits (Commit time mark) = lit< tt
kind_fits RollbackEnd = lit< tt
kind_fits (Compensation place cell undone) = lit< tt
kind_fits (Checkpoint time) = lit< tt
kind_fits (Stamp time set) = lit< tt
kind_fits (Model time model) = lit< tt
kind_fits (Bulk table first count value extents) = lit< tt
kind_fits (Recovery branch) = lit< tt

inside_form-IsCodec : IsCodec Rec inside_form
unfolding inside_form
inside_form-IsCodec = converted-IsCodec _ _ _ _ (followed-IsCodec _ (λ head. body_form head.0) (followed-IsCodec _ _ (number-IsCodec 1) (λ _. followed-IsCodec _ _ (zeros-IsCodec 3) (λ _. followed-IsCodec _ _ (number-IsCodec 8) (λ _. number-IsCodec 8)))) (λ head. body_form-IsCodec head.0)) (record {
  takes = λ x r fits e.
      let made : Rec = record { lsn = x.0.1.1.0; begin = x.0.1.1.1; body = x.1 } in
      let head : ((kind_of x.1, (tt, (x.0.1.1.0, x.0.1.1.1))), x.1) ≡ x = ap (λ (k : ℕ). ((k, (tt, (x.0.1.1.0, x.0.1.1.1))), x.1)) fits.1.0 in
      subst (λ (q : Rec). (((kind_of q.body, (tt, (q.lsn, q.begin))), q.body) ≡ x) × ((q.lsn < 2 ^ 64) × ((q.begin < 2 ^ 64) × IsBody q.body))) (same_Some made r e)
      (head, (fits.0.1.1.0, (fits.0.1.1.1, fits.1.1)));
  gives = λ r fits. (refl, ((kind_fits r.body, (tt, (fits.0, fits.1.0))), (refl, fits.1.1)));
})

pub record_form-IsCodec : IsCodec Rec record_form
unfolding record_form
record_form-IsCodec = framed-IsCodec 4 inside_form inside_form-IsCodec

pub record_form-spelling : (r : Rec) → record_form.spelling r ≡ spelling r
unfolding record_form inside_form spelling
record_form-spelling r = refl

pub record_form-Fits : (r : Rec) → IsRecord r → record_form.Fits r
unfolding record_form inside_form
record_form-Fits r h = (h.len, (h.lsn, (h.begin, h.body)))

pub record_form-fits : (r : Rec) → record_form.Fits r → IsRecord r
unfolding record_form inside_form
record_form-fits r h = record { lsn = h.1.0; begin = h.1.1.0; body = h.1.1.1; len = h.0 }

-- what is read is a record's spelling
pub record_read : (bytes : List ℕ) (r : Rec) (rest : List ℕ) → AreBytes bytes → record_form.reading bytes ≡ Some (r, rest) → BeginsWith bytes r rest
record_read bytes r rest fits e =
    let a = record_form-IsCodec.takes bytes r rest fits e in
    record { spelled = a.0 ∙ ap (λ (s : List ℕ). s ++ rest) (record_form-spelling r); is_record = record_form-fits r a.1 }

-- a record that is spelled is read, whatever follows
pub record_again : (r : Rec) (rest : List ℕ) → IsRecord r → record_form.reading (spelling r ++ rest) ≡ Some (r, rest)
record_again r rest h = rw (← record_form-spelling r) (record_form-IsCodec.gives r rest (record_form-Fits r h))

-- where nothing is read no record is spelled
pub record_unread : (bytes : List ℕ) → record_form.reading bytes ≡ None → IsUnspelled bytes
record_unread bytes none r rest h =
    let read = record_again r rest h.is_record in
    let met : record_form.reading (spelling r ++ rest) ≡ None = ap record_form.reading (sym h.spelled) ∙ none in
    cc

-- one spelling, and none is a proper front of another
pub one_record : (r s : Rec) (a b : List ℕ) → IsRecord r → IsRecord s → spelling r ++ a ≡ spelling s ++ b → (r ≡ s) × (a ≡ b)
one_record r s a b hr hs same =
    let both : some (r, a) ≡ some (s, b) = sym (record_again r a hr) ∙ ap record_form.reading same ∙ record_again s b hs in
    let pairs : (r, a) ≡ (s, b) = same_Some (r, a) (s, b) both in
    (ap (λ (p : Rec × List ℕ). p.0) pairs, ap (λ (p : Rec × List ℕ). p.1) pairs)

-- what a reader returned, by what it says of a spelling
pub record_given : (bytes : List ℕ) (result : Option (RecRef × Bor (List ℕ))) → AreBytes bytes
    → Gives (λ (x : RecRef × Bor (List ℕ)). (record_of x.0, x.1.now)) result (record_form.reading bytes)
    → MatchOption result (IsUnspelled bytes) (λ x. BeginsWith bytes (record_of x.0) x.1.now)
record_given bytes None fits gives = record_unread bytes gives
record_given bytes (Some x) fits gives = record_read bytes (record_of x.0) x.1.now fits gives
