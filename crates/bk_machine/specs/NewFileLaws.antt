-- The files of a new database.
use Rattle.std.proofs.Common.{◌≡◌, ◌≢◌, ◌<◌, ◌≤◌, ℕ, zero, suc, ◌+◌, Bool, true, false, ◌&&◌, cond, List, [], ◌∷◌, length, take, leb, length-append, length-take, codes, refl, sym, subst, arith}
use Rattle.std.specs.Prelude.{nat_le, nat_lt, slice_index}
use Rattle.std.specs.List.{AllByRecursion}
use Rattle.std.specs.Fmt.{is_char_start}
use Rattle.std.specs.Fmt.Cut.{floor_char_boundary}
use Rattle.std.proofs.lemmas.Bool.{and_from, le-leb, lt-ltb}
use Rattle.std.proofs.lemmas.Bool.Decides.{nat_tests}
use Rattle.bk_items.specs.declared.item.NewFile.{NewFile}
use Rattle.bk_world.specs.declared.database.FileSpec.{FileSpec}
use Rattle.bk_machine.specs.Built.{AreFilesApart}
use Rattle.bk_machine.specs.Checks.{is_name, is_path}
use Rattle.bk_machine.specs.Files.{CountFrom}
use Rattle.bk_machine.specs.statements.CreateDatabase.{default_log, files_in, text_front}

pub files-length : (n group : ℕ) (files : List NewFile) → length (files_in n group files) ≡ length files
files-length n group [] = refl
files-length n group (f ∷ files) = omega (arith, files-length (n + 1) group files)

-- Files that count have different numbers.

higher : (n m : ℕ) (files : List FileSpec) → m < n → CountFrom n files → AllByRecursion (λ (g : FileSpec). g.number ≢ m) files
higher n m [] lt all = tt
higher n m (f ∷ files) lt all = (λ same. absurd (omega (arith, lt, all.0, same)), higher (n + 1) m files (omega (arith, lt)) all.1)

pub apart-from : (n : ℕ) (files : List FileSpec) → CountFrom n files → AreFilesApart files
apart-from n [] all = tt
apart-from n (f ∷ files) all =
    (subst (λ m. AllByRecursion (λ (g : FileSpec). g.number ≢ m) files) (sym all.0) (higher (n + 1) n files (omega arith) all.1), apart-from (n + 1) files all.1)

-- The name of its log where none is named.

floor-within : (bs : List ℕ) (i : ℕ) → floor_char_boundary bs i ≤ i
unfolding floor_char_boundary
floor-within bs zero = omega arith
floor-within bs (suc i) = by (floor-within bs i) (is_char_start (slice_index bs (suc i)))
  where
    by : floor_char_boundary bs i ≤ i → (t : Bool) → cond t (suc i) (floor_char_boundary bs i) ≤ suc i
    by lower true = omega arith
    by lower false = omega (arith, lower)

front-short : (text : List ℕ) → length (text_front 60 text) ≤ 60
front-short text = by (leb (length text) 60) refl
  where
    by : (t : Bool) → leb (length text) 60 ≡ t → length (cond t text (take (floor_char_boundary text 60) text)) ≤ 60
    by true e = grind (arith, nat_tests, e)
    by false e = omega (arith, length-take (floor_char_boundary text 60) text, floor-within text 60)

-- it has 4 to 64 bytes
default_log-short : (name : List ℕ) → length (default_log name) ≤ 64
default_log-short name = omega (arith, length-append (text_front 60 name) (codes "_log"), front-short name)

default_log-some : (name : List ℕ) → 0 < length (default_log name)
default_log-some name = omega (arith, length-append (text_front 60 name) (codes "_log"))

pub default_log-named : (name : List ℕ) → is_name (default_log name) ≡ true
default_log-named name =
    and_from (nat_lt 0 (length (default_log name))) (nat_le (length (default_log name)) 64) (lt-ltb 0 (length (default_log name)) (default_log-some name)) (le-leb (length (default_log name)) 64 (default_log-short name))

-- a name may be a path
pub named-path : (name : List ℕ) → is_name name ≡ true → is_path name ≡ true
named-path name is = by (nat_lt 0 (length name)) refl (nat_le (length name) 64) refl is
  where
    by : (a : Bool) → nat_lt 0 (length name) ≡ a → (b : Bool) → nat_le (length name) 64 ≡ b → (a && b) ≡ true → is_path name ≡ true
    by true some true few both = let short : length name ≤ 100 = grind (arith, nat_tests, few) in and_from (nat_lt 0 (length name)) (nat_le (length name) 100) some (le-leb (length name) 100 short)
    by true some false few both = absurd cc
    by false some b few both = absurd cc
