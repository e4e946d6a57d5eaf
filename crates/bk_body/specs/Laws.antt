-- A body that is read is spelled so and is a set, and a set that is spelled is read.
use Rattle.std.proofs.Common.{◌≡◌, ℕ, ◌^◌, ◌<◌, ◌≤◌, Bool, true, false, eqb, List, [], ◌∷◌, ◌++◌, length, Some, None, refl, sym, ap, subst, ◌∙◌, arith, append-nil, length-append}
use Rattle.std.specs.List.{list_any, AllByRecursion}
use Rattle.std.proofs.lemmas.Bool.{and_parts, and_from, eqb-true}
use Rattle.std.proofs.lemmas.List.{nil_from_length}
use Rattle.std.proofs.lemmas.Option.{same_Some}
use Rattle.bk_bytes.specs.Codec.{IsCodec}
use Rattle.bk_bytes.specs.CodecLaws.{followed-IsCodec, converted-IsCodec, times-IsCodec, guard_true, bind_some, some}
use Rattle.bk_bytes.specs.Field.{AreBytes}
use Rattle.bk_header.specs.Conditions.{IsHeader}
use Rattle.bk_header.specs.Laws.{header_keeps}
use Rattle.bk_record.specs.Records.{AreRecords}
use Rattle.bk_world.specs.declared.database.TableSpec.{TableSpec}
use Rattle.bk_world.specs.declared.header.Header.{Header}
use Rattle.bk_body.specs.Body.{Extent, Body}
use Rattle.bk_body.specs.Conditions.{IsTable, KeepsExtent, same_table, with_table, joined, tables_made, IsLogOf, IsBody, KeepsBody}
use Rattle.bk_body.specs.FormLaws.{log_form-IsCodec, extent_form-IsCodec, front_form-IsCodec, front_form-spelling, front_fits, front_from, records_read}
use Rattle.bk_body.specs.Reading.{front_form, IsExtent, extent_form, keep_extents, keep_records, there_and, keep_log, keep_parts, body_from, body_form, body_of}
use Rattle.bk_body.specs.Spelling.{body_bytes}
use Rattle.bk_body.specs.TestLaws.{extents_true, extents_from, records_true, records_from}

-- ---- the log

pub log_true : (h : Header) (tables : List TableSpec) (log : List ℕ) → AreRecords log → keep_log h tables log ≡ true → IsLogOf h tables log
unfolding keep_log
log_true h tables log whole e = (whole.0, whole.1, records_true h tables whole.0 (sym (ap (there_and (keep_records h tables)) (records_read log whole.0 whole.1)) ∙ e))

pub log_from : (h : Header) (tables : List TableSpec) (log : List ℕ) → IsLogOf h tables log → keep_log h tables log ≡ true
unfolding keep_log
log_from h tables log is = ap (there_and (keep_records h tables)) (records_read log is.0 is.1) ∙ records_from h tables is.0 is.2

-- ---- bodies

-- the parts of a body
abbrev Parts : Type 0
Parts = (Header × (List TableSpec × ℕ)) × (List Extent × List ℕ)

abbrev parts_of : Body → Parts
parts_of body = ((body.header, (body.tables, length body.extents)), (body.extents, body.log))

-- what the codec's parts say
abbrev Fit : Parts → Type 0
Fit x = front_form.Fits x.0 × (((length x.1.0 ≡ x.0.1.1) × AllByRecursion IsExtent x.1.0) × ((length x.1.1 < 2 ^ 64) × AreRecords x.1.1))

body_takes : (h : Header) (tables : List TableSpec) (count : ℕ) (extents : List Extent) (log : List ℕ) (body : Body) → Fit ((h, (tables, count)), (extents, log)) → body_from h tables extents log ≡ Some body
    → (parts_of body ≡ ((h, (tables, count)), (extents, log))) × IsBody body
unfolding body_from
body_takes h tables count extents log body fits e =
    let g = guard_true (keep_parts h tables extents log) (record { header = h; tables = tables; extents = extents; log = log }) body e in
    let p = and_parts (keep_extents h.files 0 0 extents) (keep_log h tables log) g.0 in
    let front = front_fits h tables count fits.0 in
    let keep = extents_true h.files extents fits.1.0.1 p.0 in
    let few : length extents < 2 ^ 32 = omega (arith, front.1.1, fits.1.0.0) in
    subst (λ (b : Body). (parts_of b ≡ ((h, (tables, count)), (extents, log))) × IsBody b) g.1 (
      ap (λ (n : ℕ). ((h, (tables, n)), (extents, log))) fits.1.0.0,
      record {
        header = front.0;
        each_table = front.1.0.1;
        few = few;
        rise = keep.0;
        extents = keep.1;
        log = log_true h tables log fits.1.1.1 p.1;
        log_short = fits.1.1.0;
      },
    )

each_extent : (h : Header) (extents : List Extent) → AllByRecursion (KeepsExtent h.files) extents → AllByRecursion IsExtent extents
each_extent h [] keep = tt
each_extent h (extent ∷ extents) keep = (record { file = keep.0.file; number = keep.0.number; size = keep.0.size }, each_extent h extents keep.1)

pub body_gives : (body : Body) → IsBody body → body_from body.header body.tables body.extents body.log ≡ Some body
unfolding body_from
body_gives body is =
    let keep : keep_parts body.header body.tables body.extents body.log ≡ true =
    and_from _ _ (extents_from body.header.files body.extents is.rise is.extents) (log_from body.header body.tables body.log is.log) in
    rw keep refl

-- no table is lost where lists are joined
with_more : (tables : List TableSpec) (table : TableSpec) → length tables ≤ length (with_table tables table)
with_more tables table = by (list_any (same_table table) tables) refl
  where
    by : (test : Bool) → list_any (same_table table) tables ≡ test → length tables ≤ length (with_table tables table)
    by true is = rw is (omega arith)
    by false is = rw is (omega (arith, length-append tables (table ∷ [])))

pub joined_more : (tables more : List TableSpec) → length tables ≤ length (joined tables more)
joined_more tables [] = omega arith
joined_more tables (table ∷ more) = omega (arith, with_more tables table, joined_more (with_table tables table) more)

-- tables of a set are at most 64
pub tables_few : (h : Header) (tables : List TableSpec) (log : List ℕ) → IsLogOf h tables log → length tables ≤ 64
tables_few h tables log is = omega (arith, is.2.all_tables.few, joined_more tables (tables_made is.0))

body_fits : (body : Body) → IsBody body → Fit (parts_of body)
body_fits body is = (
  front_from body.header body.tables (length body.extents) (is.header, ((omega (arith, tables_few body.header body.tables body.log is.log), is.each_table), omega (arith, is.few))),
  ((refl, each_extent body.header body.extents is.extents), (is.log_short, (is.log.0, is.log.1))),
)

pub body_form-IsCodec : IsCodec Body body_form
unfolding body_form extent_form
body_form-IsCodec = converted-IsCodec _ (λ x. body_from x.0.0 x.0.1.0 x.1.0 x.1.1) parts_of IsBody
    (followed-IsCodec _ _ front_form-IsCodec (λ front. followed-IsCodec _ _ (times-IsCodec extent_form front.1.1 extent_form-IsCodec) (λ _. log_form-IsCodec))) (record {
      takes = λ x body fits e. body_takes x.0.0 x.0.1.0 x.0.1.1 x.1.0 x.1.1 body fits e;
      gives = λ body is. (body_gives body is, body_fits body is);
    })

pub body_form-spelling : (body : Body) → IsBody body → body_form.spelling body ≡ body_bytes body
unfolding body_form extent_form body_bytes
body_form-spelling body is = rw (front_form-spelling body.header body.tables (length body.extents) is.header) refl

-- what is read is a body's spelling
pub body_read : (bytes : List ℕ) (body : Body) (rest : List ℕ) → AreBytes bytes → body_form.reading bytes ≡ Some (body, rest) → (bytes ≡ body_bytes body ++ rest) × IsBody body
unfolding body_form
body_read bytes body rest fits e =
    let a = body_form-IsCodec.takes bytes body rest fits e in
    (a.0 ∙ ap (λ (s : List ℕ). s ++ rest) (body_form-spelling body a.1), a.1)

-- a body that is spelled is read, whatever follows
pub body_again : (body : Body) (rest : List ℕ) → IsBody body → body_form.reading (body_bytes body ++ rest) ≡ Some (body, rest)
unfolding body_form
body_again body rest is = rw (← body_form-spelling body is) (body_form-IsCodec.gives body rest is)

-- one spelling, and none is a proper front of another
pub one_body : (body other : Body) (a b : List ℕ) → IsBody body → IsBody other → body_bytes body ++ a ≡ body_bytes other ++ b → (body ≡ other) × (a ≡ b)
one_body body other a b is_body is_other same =
    let both : some (body, a) ≡ some (other, b) = sym (body_again body a is_body) ∙ ap body_form.reading same ∙ body_again other b is_other in
    let pairs : ◌≡◌ {A = Body × List ℕ} (body, a) (other, b) = same_Some (body, a) (other, b) both in
    (ap (λ (p : Body × List ℕ). p.0) pairs, ap (λ (p : Body × List ℕ). p.1) pairs)

-- ---- the body that is all of some bytes

pub body_alone : (body : Body) → IsBody body → body_of (body_bytes body) ≡ Some body
unfolding body_of
body_alone body is =
    let read : body_form.reading (body_bytes body) ≡ Some (body, []) = ap body_form.reading (sym (append-nil (body_bytes body))) ∙ body_again body [] is in
    rw read refl

pub body_whole : (bytes : List ℕ) (body : Body) → AreBytes bytes → body_of bytes ≡ Some body → (bytes ≡ body_bytes body) × IsBody body
unfolding body_of
body_whole bytes body fits e =
    let x = bind_some (body_form.reading bytes) _ body e in
    let g = guard_true (eqb (length x.0.1) 0) x.0.0 body x.2 in
    let read = body_read bytes x.0.0 x.0.1 fits x.1 in
    let none : x.0.1 ≡ [] = nil_from_length x.0.1 (eqb-true _ _ g.0) in
    let spelled : bytes ≡ body_bytes x.0.0 = read.0 ∙ ap (λ (r : List ℕ). body_bytes x.0.0 ++ r) none ∙ append-nil (body_bytes x.0.0) in
    subst (λ (b : Body). (bytes ≡ body_bytes b) × IsBody b) g.1 (spelled, read.1)

pub body_none : (bytes : List ℕ) (body : Body) → body_of bytes ≡ None → IsBody body → bytes ≡ body_bytes body → ⊥
body_none bytes body none is spelled =
    let some_one : Some body ≡ None = sym (body_alone body is) ∙ ap body_of (sym spelled) ∙ none in
    absurd cc

-- ---- what a body keeps

-- what has a spelling keeps the conditions
pub body_keeps : (body : Body) → IsBody body → KeepsBody body
body_keeps body is = record { header = header_keeps body.header is.header; few = is.few; rise = is.rise; extents = is.extents; log = is.log; log_short = is.log_short }

-- and what keeps them has a spelling, where its header and its tables have one
pub body_is : (body : Body) → IsHeader body.header → AllByRecursion IsTable body.tables → KeepsBody body → IsBody body
body_is body header tables keeps = record { header = header; each_table = tables; few = keeps.few; rise = keeps.rise; extents = keeps.extents; log = keeps.log; log_short = keeps.log_short }
