-- What the layers above may take of what is kept of a database: what is read of it is spelled so, and what is spelled so is read.
use Rattle.std.proofs.Common.{◌≡◌, ◌≤◌, ◌+◌, ◌*◌, ℕ, List, [], ◌∷◌, ◌++◌, length, refl, subst, ap, ◌∙◌, lit<, arith, length-append}
use Rattle.std.specs.List.{AllByRecursion, flat_map}
use Rattle.std.proofs.lemmas.Option.{same_Some}
use Rattle.bk_bytes.specs.Codec.{IsCodec, IsString, string}
use Rattle.bk_bytes.specs.CodecLaws.{number-IsCodec, string-IsCodec, followed-IsCodec, converted-IsCodec, counted-IsCodec}
use Rattle.bk_bytes.specs.Field.{AreBytes, bytes_of}
use Rattle.bk_bytes.specs.FieldLaws.{length-bytes_of}
use Rattle.bk_fields.specs.Guids.{guid_bytes, guid_form, guid_number}
use Rattle.bk_fields.specs.Models.{model_bytes, model_form, model_number}
use Rattle.bk_fields.specs.Laws.{guid_form-IsCodec, model_form-IsCodec}
use Rattle.bk_header.specs.FormLaws.{branch_form-IsCodec}
use Rattle.bk_header.specs.Reading.{branch_form}
use Rattle.bk_header.specs.Spelling.{branch_bytes, text_bytes}
use Rattle.bk_ids.specs.declared.path.Branch.{Branch}
use Rattle.bk_world.specs.declared.database.FileSpec.{FileSpec}
use Rattle.bk_world.specs.declared.database.Storage.{Storage}
use Rattle.bk_world.specs.declared.database.TableSpec.{TableSpec}
use Rattle.bk_known.specs.declared.known.AsOf.{AsOf}
use Rattle.bk_known.specs.declared.known.DatabaseSpec.{DatabaseSpec}
use Rattle.bk_known.specs.declared.known.Known.{Known}
use Rattle.bk_storage.specs.Storage.{IsSpec, IsStorage, files_bytes, groups_bytes, spec_bytes, spec_form, storage_bytes, storage_form}
use Rattle.bk_storage.specs.Laws.{name-form, storage_form-IsCodec}
use Rattle.bk_known.specs.Known.{IsAsOf, IsDatabase, IsKnown, IsTable, KeepsKnown, Tells, as_of_bytes, as_of_form, database_bytes, database_form, known_bytes, known_form, path_bytes, table_bytes, table_form, tables_bytes}

-- ---- each form

table_form-IsCodec : IsCodec TableSpec table_form
unfolding table_form
table_form-IsCodec = converted-IsCodec _ _ _ IsTable (followed-IsCodec _ _ (number-IsCodec 4) (λ _. followed-IsCodec _ _ name-form (λ _. number-IsCodec 1))) (record {
  takes = λ x t fits e.
      subst (λ (u : TableSpec). ((u.number, (u.name, u.group)) ≡ x) × IsTable u) (same_Some (record { number = x.0; name = x.1.0; group = x.1.1 }) t e)
      (refl, record { number = fits.0; name = fits.1.0; group = fits.1.1 });
  gives = λ t h. (refl, (h.number, (h.name, h.group)));
})

database_form-IsCodec : IsCodec DatabaseSpec database_form
unfolding database_form guid_form branch_form storage_form spec_form
database_form-IsCodec = converted-IsCodec _ _ _ IsDatabase (followed-IsCodec _ _ name-form (λ _. followed-IsCodec _ _ guid_form-IsCodec (λ _. followed-IsCodec _ _ (counted-IsCodec 2 _ branch_form-IsCodec) (λ _. storage_form-IsCodec)))) (record {
  takes = λ x s fits e.
      subst (λ (t : DatabaseSpec). ((t.name, (t.family, (t.path, t.storage))) ≡ x) × IsDatabase t) (same_Some (record { name = x.0; family = x.1.0; path = x.1.1.0; storage = x.1.1.1 }) s e)
      (refl, record { name = fits.0; family = fits.1.0; path = fits.1.1.0; storage = fits.1.1.1 });
  gives = λ s h. (refl, (h.name, (h.family, (h.path, h.storage))));
})

as_of_form-IsCodec : IsCodec AsOf as_of_form
unfolding as_of_form table_form model_form
as_of_form-IsCodec = converted-IsCodec _ _ _ IsAsOf (followed-IsCodec _ _ (number-IsCodec 8) (λ _. followed-IsCodec _ _ (counted-IsCodec 2 _ table_form-IsCodec) (λ _. followed-IsCodec _ _ model_form-IsCodec (λ _. number-IsCodec 8)))) (record {
  takes = λ x a fits e.
      subst (λ (b : AsOf). ((b.from, (b.tables, (b.model, b.time))) ≡ x) × IsAsOf b) (same_Some (record { from = x.0; tables = x.1.0; model = x.1.1.0; time = x.1.1.1 }) a e)
      (refl, record { from = fits.0; tables = fits.1.0; time = fits.1.1.1 });
  gives = λ a h. (refl, (h.from, (h.tables, (tt, h.time))));
})

known_form-IsCodec : IsCodec Known known_form
unfolding known_form database_form as_of_form guid_form branch_form storage_form spec_form table_form model_form
known_form-IsCodec = converted-IsCodec _ _ _ IsKnown (followed-IsCodec _ _ database_form-IsCodec (λ _. as_of_form-IsCodec)) (record {
  takes = λ x k fits e.
      subst (λ (l : Known). ((l.spec, l.as_of) ≡ x) × IsKnown l) (same_Some (record { spec = x.0; as_of = x.1 }) k e) (refl, record { spec = fits.0; as_of = fits.1 });
  gives = λ k h. (refl, (h.spec, h.as_of));
})

-- ---- what is spelled is read, whatever follows

pub known_read : (known : Known) (note : List ℕ) → IsKnown known → Tells (known_bytes known ++ note) known note
unfolding known_form database_form as_of_form guid_form branch_form storage_form spec_form table_form model_form
known_read known note is = known_form-IsCodec.gives known note is

-- and what is read is spelled
pub known_spelled : (bytes : List ℕ) (known : Known) (note : List ℕ) → AreBytes bytes → Tells bytes known note → (bytes ≡ known_bytes known ++ note) × IsKnown known
unfolding known_form database_form as_of_form guid_form branch_form storage_form spec_form table_form model_form
known_spelled bytes known note are tells = known_form-IsCodec.takes bytes known note are tells

-- ---- how long it is

text-length : (text : List ℕ) → length (text_bytes text) ≡ 2 + length text
text-length text = length-append (bytes_of 2 (length text)) text ∙ ap (λ (n : ℕ). n + length text) (length-bytes_of 2 (length text))

joined : (a b : List ℕ) (m n : ℕ) → length a ≤ m → length b ≤ n → length (a ++ b) ≤ m + n
joined a b m n short also = omega (arith, length-append a b, short, also)

field : (n x : ℕ) → length (bytes_of n x) ≤ n
field n x = omega (arith, length-bytes_of n x)

name-short : (text : List ℕ) → IsString 1 64 text → length (text_bytes text) ≤ 66
name-short text is = omega (arith, text-length text, is.most_bytes)

text-short : (text : List ℕ) → IsString 1 100 text → length (text_bytes text) ≤ 102
text-short text is = omega (arith, text-length text, is.most_bytes)

names-short : (names : List (List ℕ)) → AllByRecursion (IsString 1 64) names → length (flat_map text_bytes names) ≤ 66 * length names
names-short [] are = omega arith
names-short (n ∷ names) are = omega (arith, length-append (text_bytes n) (flat_map text_bytes names), name-short n are.0, names-short names are.1)

spec-short : (f : FileSpec) → IsSpec f → length (spec_bytes f) ≤ 175
spec-short f is = joined (bytes_of 2 f.number) _ 2 173 (field 2 f.number) (joined (bytes_of 1 f.group) _ 1 172 (field 1 f.group) (joined (bytes_of 4 f.extents) _ 4 168 (field 4 f.extents)
    (joined (text_bytes f.name) (text_bytes f.path) 66 102 (name-short f.name is.name) (text-short f.path is.path))))

specs-short : (files : List FileSpec) → AllByRecursion IsSpec files → length (flat_map spec_bytes files) ≤ 175 * length files
specs-short [] are = omega arith
specs-short (f ∷ files) are = omega (arith, length-append (spec_bytes f) (flat_map spec_bytes files), spec-short f are.0, specs-short files are.1)

branch-short : (b : Branch) → length (branch_bytes b) ≤ 24
branch-short b = joined (guid_bytes b.guid) (bytes_of 8 b.start) 16 8 (field 16 (guid_number b.guid)) (field 8 b.start)

branches-short : (path : List Branch) → length (flat_map branch_bytes path) ≤ 24 * length path
branches-short [] = omega arith
branches-short (b ∷ path) = omega (arith, length-append (branch_bytes b) (flat_map branch_bytes path), branch-short b, branches-short path)

table-short : (t : TableSpec) → IsTable t → length (table_bytes t) ≤ 71
table-short t is = joined (bytes_of 4 t.number) _ 4 67 (field 4 t.number) (joined (text_bytes t.name) (bytes_of 1 t.group) 66 1 (name-short t.name is.name) (field 1 t.group))

tables-short : (tables : List TableSpec) → AllByRecursion IsTable tables → length (flat_map table_bytes tables) ≤ 71 * length tables
tables-short [] are = omega arith
tables-short (t ∷ tables) are = omega (arith, length-append (table_bytes t) (flat_map table_bytes tables), table-short t are.0, tables-short tables are.1)

storage-short : (s : Storage) → IsStorage s → length s.groups ≤ 8 → length s.files ≤ 16 → length (storage_bytes s) ≤ 3499
storage-short s is few small =
    joined (groups_bytes s.groups) _ 529 2970 (joined (bytes_of 1 (length s.groups)) (flat_map text_bytes s.groups) 1 528 (field 1 (length s.groups)) (omega (arith, names-short s.groups is.groups.1, few)))
    (joined (files_bytes s.files) _ 2802 168 (joined (bytes_of 2 (length s.files)) (flat_map spec_bytes s.files) 2 2800 (field 2 (length s.files)) (omega (arith, specs-short s.files is.files.1, small)))
    (joined (text_bytes s.log_name) (text_bytes s.log_path) 66 102 (name-short s.log_name is.log_name) (text-short s.log_path is.log_path)))

database-short : (s : DatabaseSpec) → IsDatabase s → length s.path ≤ 64 → length s.storage.groups ≤ 8 → length s.storage.files ≤ 16 → length (database_bytes s) ≤ 5119
database-short s is low few small =
    joined (text_bytes s.name) _ 66 5053 (name-short s.name is.name) (joined (guid_bytes s.family) _ 16 5037 (field 16 (guid_number s.family))
    (joined (path_bytes s.path) (storage_bytes s.storage) 1538 3499 (joined (bytes_of 2 (length s.path)) (flat_map branch_bytes s.path) 2 1536 (field 2 (length s.path)) (omega (arith, branches-short s.path, low)))
    (storage-short s.storage is.storage few small)))

as_of-short : (a : AsOf) → IsAsOf a → length a.tables ≤ 64 → length (as_of_bytes a) ≤ 4563
as_of-short a is few =
    joined (bytes_of 8 a.from) _ 8 4555 (field 8 a.from) (joined (tables_bytes a.tables) _ 4546 9
    (joined (bytes_of 2 (length a.tables)) (flat_map table_bytes a.tables) 2 4544 (field 2 (length a.tables)) (omega (arith, tables-short a.tables is.tables.1, few)))
    (joined (model_bytes a.model) (bytes_of 8 a.time) 1 8 (field 1 (model_number a.model)) (field 8 a.time)))

-- it leaves more than 12,288 bytes of 30,720
pub known_short : (known : Known) → IsKnown known → KeepsKnown known → length (known_bytes known) ≤ 9728
known_short known is keeps =
    let whole : length (known_bytes known) ≤ 5119 + 4563 =
    joined (database_bytes known.spec) (as_of_bytes known.as_of) 5119 4563 (database-short known.spec is.spec keeps.path keeps.storage.groups keeps.storage.files) (as_of-short known.as_of is.as_of keeps.tables) in
    omega (arith, whole)
