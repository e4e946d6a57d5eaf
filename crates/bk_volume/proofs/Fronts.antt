-- The front of a set is short, and is read of the bytes that begin with it.
use Rattle.std.proofs.Common.{◌≡◌, ◌≤◌, ◌+◌, ◌-◌, ◌*◌, ℕ, min, List, [], ◌∷◌, ◌++◌, length, take, drop, Option, Some, None, refl, sym, ap, ◌∙◌, arith, length-append, length-take, length-drop}
use Rattle.std.specs.Prelude.{IfSome}
use Rattle.std.specs.List.{flat_map, AllByRecursion}
use Rattle.std.proofs.Math.Seq.{take-append-add}
use Rattle.std.proofs.lemmas.List.{drop_at}
use Rattle.std.proofs.lemmas.Option.{same_Some}
use Rattle.bk_ids.specs.declared.path.Branch.{Branch}
use Rattle.bk_bytes.specs.Codec.{IsString}
use Rattle.bk_bytes.specs.Field.{AreBytes, bytes_of}
use Rattle.bk_bytes.specs.FieldLaws.{length-bytes_of}
use Rattle.bk_header.specs.Conditions.{IsHeader, IsHeaderFile}
use Rattle.bk_header.specs.Spelling.{text_bytes, branch_bytes, file_bytes, fixed_bytes, lists_bytes, spelling}
use Rattle.bk_world.specs.declared.database.TableSpec.{TableSpec}
use Rattle.bk_world.specs.declared.header.Header.{Header}
use Rattle.bk_world.specs.declared.header.HeaderFile.{HeaderFile}
use Rattle.bk_body.specs.Body.{Body}
use Rattle.bk_body.specs.Conditions.{IsTable, IsBody}
use Rattle.bk_body.specs.FormLaws.{front_form-IsCodec, front_form-spelling, front_from}
use Rattle.bk_body.specs.Laws.{tables_few}
use Rattle.bk_body.specs.declared.front.Front.{Front}
use Rattle.bk_body.specs.Reading.{front_form}
use Rattle.bk_body.specs.Spelling.{table_bytes, log_bytes, front_bytes, extent_bytes, body_bytes}
use Rattle.bk_volume.specs.Opening.{SplitsFront, IsFrontOf, GivesFront}

-- ---- lengths

length-text : (text : List ℕ) → length (text_bytes text) ≡ 2 + length text
length-text text = simp (length-append, length-bytes_of) (omega arith)

length-branches : (path : List Branch) → length (flat_map branch_bytes path) ≡ 24 * length path
length-branches [] = refl
length-branches (branch ∷ path) =
    let one : length (branch_bytes branch) ≡ 24 = simp (length-append, length-bytes_of) (omega arith) in
    omega (arith, length-append (branch_bytes branch) (flat_map branch_bytes path), one, length-branches path)

length-groups : (groups : List (List ℕ)) → AllByRecursion (IsString 1 64) groups → length (flat_map text_bytes groups) ≤ 66 * length groups
length-groups [] are = omega arith
length-groups (group ∷ groups) are =
    omega (arith, length-append (text_bytes group) (flat_map text_bytes groups), length-text group, are.0.most_bytes, length-groups groups are.1)

length-files : (count : ℕ) (files : List HeaderFile) → AllByRecursion (IsHeaderFile count) files → length (flat_map file_bytes files) ≤ 176 * length files
length-files count [] are = omega arith
length-files count (file ∷ files) are =
    let one : length (file_bytes file) ≡ 8 + (2 + length file.spec.name + (2 + length file.spec.path)) = simp (length-append, length-bytes_of) (omega arith) in
    omega (arith, length-append (file_bytes file) (flat_map file_bytes files), one, are.0.name.most_bytes, are.0.path.most_bytes, length-files count files are.1)

length-tables : (tables : List TableSpec) → AllByRecursion IsTable tables → length (flat_map table_bytes tables) ≤ 71 * length tables
length-tables [] are = omega arith
length-tables (table ∷ tables) are =
    let one : length (table_bytes table) ≡ 4 + (2 + length table.name + 1) = simp (length-append, length-bytes_of) (omega arith) in
    omega (arith, length-append (table_bytes table) (flat_map table_bytes tables), one, are.0.name.most_bytes, length-tables tables are.1)

length-fixed : (h : Header) → length (fixed_bytes h) ≡ 117
length-fixed h = simp (length-append, length-bytes_of) (omega arith)

length-lists : (h : Header) → IsHeader h → length (lists_bytes h) ≤ 75000
length-lists h is =
    let all : length (lists_bytes h) ≡ (2 + length h.database) + ((2 + length h.name) + ((2 + length (flat_map branch_bytes h.path)) + ((1 + length (flat_map text_bytes h.groups)) + ((2 + length (flat_map file_bytes h.files)) + ((2 + length h.log_name) + (2 + length h.log_path)))))) =
    simp (length-append, length-bytes_of) (omega arith) in
    omega (
      arith,
      all,
      is.database.most_bytes,
      is.name.most_bytes,
      length-branches h.path,
      is.path_short,
      length-groups h.groups is.groups,
      is.groups_few,
      length-files (length h.groups) h.files is.files.each,
      is.files.few,
      is.log_name.most_bytes,
      is.log_path.most_bytes,
    )

length-header : (h : Header) → IsHeader h → length (spelling h) ≤ 75117
unfolding spelling
length-header h is = omega (arith, length-append (fixed_bytes h) (lists_bytes h), length-fixed h, length-lists h is)

-- the front takes less than 131,072 bytes
front_short : (h : Header) (tables : List TableSpec) (count : ℕ) → IsHeader h → AllByRecursion IsTable tables → length tables ≤ 64 → length (front_bytes h tables count) ≤ 131072
unfolding front_bytes
front_short h tables count is are few =
    let all : length (spelling h ++ ((bytes_of 2 (length tables) ++ flat_map table_bytes tables) ++ bytes_of 4 count)) ≡ length (spelling h) + ((2 + length (flat_map table_bytes tables)) + 4) =
    simp (length-append, length-bytes_of) (omega arith) in
    omega (arith, all, length-header h is, length-tables tables are, few)

-- ---- what is read of bytes that begin with a front

-- what a front's reading gives
abbrev Read : Type 0
Read = (Header × (List TableSpec × ℕ)) × List ℕ

abbrev read_as : Header → List TableSpec → ℕ → List ℕ → Read
read_as h tables count rest = ((h, (tables, count)), rest)

abbrev pub body_front : Body → List ℕ
body_front body = front_bytes body.header body.tables (length body.extents)

abbrev pub behind : Body → List ℕ
behind body = flat_map extent_bytes body.extents ++ log_bytes body.log

pub body_parts : (body : Body) → body_bytes body ≡ body_front body ++ behind body
unfolding body_bytes
body_parts body = refl

pub body_front_short : (body : Body) → IsBody body → length (body_front body) ≤ 131072
body_front_short body is = front_short body.header body.tables (length body.extents) is.header is.each_table (tables_few body.header body.tables body.log is.log)

-- the front is read, whatever follows
front_again : (body : Body) (rest : List ℕ) → IsBody body → front_form.reading (body_front body ++ rest) ≡ Some ((body.header, (body.tables, length body.extents)), rest)
front_again body rest is =
    let fits = front_from body.header body.tables (length body.extents) (is.header, ((omega (arith, tables_few body.header body.tables body.log is.log), is.each_table), omega (arith, is.few))) in
    ap (λ (f : List ℕ). front_form.reading (f ++ rest)) (sym (front_form-spelling body.header body.tables (length body.extents) is.header))
    ∙ front_form-IsCodec.gives (body.header, (body.tables, length body.extents)) rest fits

-- also of a part of the bytes that is long enough
front_read : (body : Body) (bytes : List ℕ) (m : ℕ) → IsBody body → bytes ≡ body_bytes body → m ≡ min (length bytes) 131072
    → front_form.reading (take m bytes) ≡ Some ((body.header, (body.tables, length body.extents)), take (m - length (body_front body)) (behind body))
front_read body bytes m is spelled most =
    let whole : bytes ≡ body_front body ++ behind body = spelled ∙ body_parts body in
    let inside : length (body_front body) ≤ length bytes = omega (arith, ap length whole, length-append (body_front body) (behind body)) in
    let place : m ≡ length (body_front body) + (m - length (body_front body)) = omega (arith, most, inside, body_front_short body is) in
    let cut : take m bytes ≡ body_front body ++ take (m - length (body_front body)) (behind body) =
    ap (take m) whole ∙ ap (λ (n : ℕ). take n (body_front body ++ behind body)) place ∙ take-append-add (body_front body) (behind body) (m - length (body_front body)) in
    ap front_form.reading cut ∙ front_again body (take (m - length (body_front body)) (behind body)) is

some_read : (body : Body) (pre : List ℕ) (front : Front) (size : ℕ) (rest : List ℕ) → size ≤ length pre → length pre ≡ length (body_front body) + length rest
    → ◌≡◌ {A = Option Read} (Some (read_as front.header front.tables front.extents (drop size pre))) (Some (read_as body.header body.tables (length body.extents) rest)) → IsFrontOf body front size
some_read body pre front size rest inside long same =
    let pairs : ◌≡◌ {A = Read} (read_as front.header front.tables front.extents (drop size pre)) (read_as body.header body.tables (length body.extents) rest) =
    same_Some (read_as front.header front.tables front.extents (drop size pre)) (read_as body.header body.tables (length body.extents) rest) same in
    let left : drop size pre ≡ rest = ap (λ (p : Read). p.1) pairs in
    record {
      header = ap (λ (p : Read). p.0.0) pairs;
      tables = ap (λ (p : Read). p.0.1.0) pairs;
      extents = ap (λ (p : Read). p.0.1.1) pairs;
      size_is = omega (arith, inside, long, ap (λ (b : List ℕ). length b) left, length-drop size pre);
    }

none_read : (x : Read) → ◌≡◌ {A = Option Read} None (Some x) → ⊥
none_read x is = absurd cc

-- so what was split is the body's front
pub front_given : (body : Body) (bytes : List ℕ) (m : ℕ) (read : Option (Front × ℕ)) → IsBody body → bytes ≡ body_bytes body → m ≡ min (length bytes) 131072 → SplitsFront (take m bytes) read → IfSome read (λ r. r.1 ≤ length (take m bytes)) → GivesFront body read
front_given body bytes m None is spelled most splits inside =
    none_read (read_as body.header body.tables (length body.extents) (take (m - length (body_front body)) (behind body))) (sym splits ∙ front_read body bytes m is spelled most)
front_given body bytes m (Some read) is spelled most splits inside =
    let whole : bytes ≡ body_front body ++ behind body = spelled ∙ body_parts body in
    let size : length bytes ≡ length (body_front body) + length (behind body) = ap (λ (b : List ℕ). length b) whole ∙ length-append (body_front body) (behind body) in
    let long : length (take m bytes) ≡ length (body_front body) + length (take (m - length (body_front body)) (behind body)) =
    omega (arith, length-take m bytes, length-take (m - length (body_front body)) (behind body), most, size, body_front_short body is) in
    some_read body (take m bytes) read.0 read.1 (take (m - length (body_front body)) (behind body)) inside long (sym splits ∙ front_read body bytes m is spelled most)

-- ---- what was split off bytes

pub front_rest : (bytes rest : List ℕ) (x : Header × (List TableSpec × ℕ)) → AreBytes bytes → front_form.reading bytes ≡ Some (x, rest) → length rest ≤ length bytes
front_rest bytes rest x fits is =
    let a = front_form-IsCodec.takes bytes x rest fits is in
    omega (arith, ap (λ (b : List ℕ). length b) a.0, length-append (front_form.spelling x) rest)

pub front_split : (bytes rest : List ℕ) (x : Header × (List TableSpec × ℕ)) → AreBytes bytes → front_form.reading bytes ≡ Some (x, rest) → front_form.reading bytes ≡ Some (x, drop (length bytes - length rest) bytes)
front_split bytes rest x fits is =
    let a = front_form-IsCodec.takes bytes x rest fits is in
    let size : length (front_form.spelling x) ≡ length bytes - length rest = omega (arith, ap (λ (b : List ℕ). length b) a.0, length-append (front_form.spelling x) rest) in
    let left : drop (length bytes - length rest) bytes ≡ rest = ap (drop (length bytes - length rest)) a.0 ∙ drop_at (front_form.spelling x) rest (length bytes - length rest) size in
    is ∙ ap (λ (r : List ℕ). Some (x, r)) (sym left)
