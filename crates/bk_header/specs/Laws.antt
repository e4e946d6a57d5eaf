-- A header that is read is spelled so and keeps the conditions, and a header that keeps them is read.
use Rattle.std.proofs.Common.{◌≡◌, ℕ, zero, suc, ◌+◌, ◌-◌, ◌*◌, ◌/◌, ◌%◌, ◌^◌, ◌<◌, ◌≤◌, Bool, true, false, cond, eqb, ltb, leb, List, [], ◌∷◌, ◌++◌, length, drop, Option, Some, None, refl, sym, ap, subst, ◌∙◌, arith, lit<, length-append}
use Rattle.std.specs.Prelude.{◌&&◌, is_some}
use Rattle.std.specs.List.{list_all, AllByRecursion}
use Rattle.std.proofs.lemmas.Bool.{lt-ltb, ltb-true, le-leb, leb-true, eqb-true, eq-eqb, and_parts, and_from}
use Rattle.std.proofs.lemmas.List.{drop_at}
use Rattle.bk_ids.specs.declared.path.Branch.{Branch}
use Rattle.bk_ids.specs.Path.{StartsRiseFrom}
use Rattle.bk_world.specs.declared.database.Base.{Base}
use Rattle.bk_world.specs.declared.header.SetKind.{SetKind}
use Rattle.bk_world.specs.declared.header.SetKind.TheVariants.{Full, Log, File, Differential}
use Rattle.bk_world.specs.declared.header.HeaderFile.{HeaderFile}
use Rattle.bk_world.specs.declared.header.Header.{Header}
use Rattle.bk_header.specs.declared.fixed.Fixed.{Fixed}
use Rattle.bk_header.specs.declared.lists.Lists.{Lists}
use Rattle.bk_bytes.specs.Field.{AreBytes}
use Rattle.bk_bytes.specs.Codec.{◌>>=◌, IsCodec}
use Rattle.bk_bytes.specs.CodecLaws.{followed-IsCodec, converted-IsCodec, guard_true, some, bind_some}
use Rattle.bk_fields.specs.Guids.{IsGuid, guid_form}
use Rattle.bk_fields.specs.Models.{model_form}
use Rattle.bk_header.specs.Spelling.{flag, flags_of, base_or_zero, time_or_zero, spelling, fixed_bytes, lists_bytes}
use Rattle.bk_header.specs.Conditions.{IsTime, IsRange, HasItsBase, IsBase, IsExpiry, IsHeaderPath, IsHeaderFile, AreNumbered, AreHeaderFiles, IsHeader, total_extents, KeepsPath, KeepsConditions, HasPath}
use Rattle.bk_header.specs.Reading.{base_in, expiry_in, is_data_range, is_range, has_its_base, starts_rise, is_path, are_numbered, are_files, bit, keeps_order, keeps_limits, header_of, header_from, fixed_of, lists_of, header_form, fixed_form, lists_form, version_form, kind_form, what_form, range_form, base_form, times_form, branch_form, in_set_form, file_form, IsFixed, AreLists, IsBranch, IsFile}
use Rattle.bk_header.specs.Found.{BeginsWith, IsNoHeader}
use Rattle.bk_header.specs.FormLaws.{fixed_form-IsCodec, lists_form-IsCodec}
use Rattle.std.proofs.lemmas.List.Elements.{All-from_recursion}
use Rattle.std.proofs.lemmas.Option.{same_Some}

-- ---- flags

-- a bit as a number
bool_number : Bool → ℕ
bool_number true = 1
bool_number false = 0

bool_number-le : (b : Bool) → bool_number b ≤ 1
unfolding bool_number
bool_number-le true = omega arith
bool_number-le false = omega arith

flag-number : (b : Bool) (worth : ℕ) → flag b worth ≡ worth * bool_number b
unfolding bool_number
flag-number true worth = omega arith
flag-number false worth = omega arith

bool_number-test : (b : Bool) → eqb (bool_number b) 1 ≡ b
unfolding bool_number
bool_number-test true = refl
bool_number-test false = refl

-- the worth of a bit of a number
flag-test : (n worth : ℕ) → n ≤ 1 → flag (eqb n 1) worth ≡ worth * n
flag-test zero worth h = omega arith
flag-test (suc zero) worth h = omega arith
flag-test (suc (suc n)) worth h = absurd (omega arith)

-- six bits make their number
flags_again : (n : ℕ) → n < 64 → flag (bit n 1) 1 + flag (bit n 2) 2 + flag (bit n 4) 4 + flag (bit n 8) 8 + flag (bit n 16) 16 + flag (bit n 32) 32 ≡ n
flags_again n small =
    let a = flag-test (n / 1 % 2) 1 (omega arith) in
    let b = flag-test (n / 2 % 2) 2 (omega arith) in
    let c = flag-test (n / 4 % 2) 4 (omega arith) in
    let d = flag-test (n / 8 % 2) 8 (omega arith) in
    let e = flag-test (n / 16 % 2) 16 (omega arith) in
    let f = flag-test (n / 32 % 2) 32 (omega arith) in
    rw (a, b, c, d, e, f) (omega arith)

-- the number of six bits has these bits
pub record HasBits (n : ℕ) (a b c d e f : Bool) : Type 0 where
  pub copy_only : bit n 1 ≡ a
  pub bulk : bit n 2 ≡ b
  pub begins : bit n 4 ≡ c
  pub checksums : bit n 8 ≡ d
  pub base : bit n 16 ≡ e
  pub expiry : bit n 32 ≡ f
  pub small : n < 64

six_bits : (a b c d e f : Bool) → HasBits (flag a 1 + flag b 2 + flag c 4 + flag d 8 + flag e 16 + flag f 32) a b c d e f
six_bits a b c d e f =
    let n : ℕ = flag a 1 + flag b 2 + flag c 4 + flag d 8 + flag e 16 + flag f 32 in
    let la = bool_number-le a in let lb = bool_number-le b in let lc = bool_number-le c in
    let ld = bool_number-le d in let le = bool_number-le e in let lf = bool_number-le f in
    let is : n ≡ 1 * bool_number a + 2 * bool_number b + 4 * bool_number c + 8 * bool_number d + 16 * bool_number e + 32 * bool_number f =
    omega (arith, flag-number a 1, flag-number b 2, flag-number c 4, flag-number d 8, flag-number e 16, flag-number f 32) in
    let na : n / 1 % 2 ≡ bool_number a = omega arith in
    let nb : n / 2 % 2 ≡ bool_number b = omega arith in
    let nc : n / 4 % 2 ≡ bool_number c = omega arith in
    let nd : n / 8 % 2 ≡ bool_number d = omega arith in
    let ne : n / 16 % 2 ≡ bool_number e = omega arith in
    let nf : n / 32 % 2 ≡ bool_number f = omega arith in
    record {
      copy_only = ap (λ (k : ℕ). eqb k 1) na ∙ bool_number-test a;
      bulk = ap (λ (k : ℕ). eqb k 1) nb ∙ bool_number-test b;
      begins = ap (λ (k : ℕ). eqb k 1) nc ∙ bool_number-test c;
      checksums = ap (λ (k : ℕ). eqb k 1) nd ∙ bool_number-test d;
      base = ap (λ (k : ℕ). eqb k 1) ne ∙ bool_number-test e;
      expiry = ap (λ (k : ℕ). eqb k 1) nf ∙ bool_number-test f;
      small = omega arith;
    }

-- ---- the base and the expiry

zero_base : Base
zero_base = base_or_zero None

same_base : (base : Base) → base.set.high ≡ 0 → base.set.low ≡ 0 → base.lsn ≡ 0 → zero_base ≡ base
unfolding zero_base
same_base base high low lsn = λ i. record { set = record { high = sym high i; low = sym low i }; lsn = sym lsn i }

base_takes : (there : Bool) (base : Base) (b : Option Base) → IsGuid base.set × (base.lsn < 2 ^ 64) → base_in there base ≡ Some b
    → (base_or_zero b ≡ base) × ((is_some b ≡ there) × IsBase b)
unfolding zero_base
base_takes true base b fits e =
    subst (λ (x : Option Base). (base_or_zero x ≡ base) × ((is_some x ≡ true) × IsBase x)) (same_Some (Some base) b e) (refl, (refl, fits))
base_takes false base b fits e =
    let g = guard_true (eqb base.set.high 0 && eqb base.set.low 0 && eqb base.lsn 0) None b e in
    let both = and_parts (eqb base.set.high 0 && eqb base.set.low 0) (eqb base.lsn 0) g.0 in
    let set = and_parts (eqb base.set.high 0) (eqb base.set.low 0) both.0 in
    let same = same_base base (eqb-true _ _ set.0) (eqb-true _ _ set.1) (eqb-true _ _ both.1) in
    subst (λ (x : Option Base). (base_or_zero x ≡ base) × ((is_some x ≡ false) × IsBase x)) g.1 (same, (refl, tt))

base_gives : (b : Option Base) → base_in (is_some b) (base_or_zero b) ≡ Some b
base_gives None = refl
base_gives (Some base) = refl

base_fits : (b : Option Base) → IsBase b → IsGuid (base_or_zero b).set × ((base_or_zero b).lsn < 2 ^ 64)
base_fits None h = (record { high = lit< tt; low = lit< tt }, lit< tt)
base_fits (Some base) h = h

expiry_takes : (there : Bool) (time : ℕ) (x : Option ℕ) → expiry_in there time ≡ Some x → (time_or_zero x ≡ time) × ((is_some x ≡ there) × IsExpiry x)
expiry_takes true time x e =
    let g = guard_true (leb time 253402300799999) (Some time) x e in
    subst (λ (y : Option ℕ). (time_or_zero y ≡ time) × ((is_some y ≡ true) × IsExpiry y)) g.1 (refl, (refl, leb-true _ _ g.0))
expiry_takes false time x e =
    let g = guard_true (eqb time 0) None x e in
    subst (λ (y : Option ℕ). (time_or_zero y ≡ time) × ((is_some y ≡ false) × IsExpiry y)) g.1 (sym (eqb-true _ _ g.0), (refl, tt))

expiry_gives : (x : Option ℕ) → IsExpiry x → expiry_in (is_some x) (time_or_zero x) ≡ Some x
expiry_gives None h = refl
expiry_gives (Some time) h = let test : leb time 253402300799999 ≡ true = le-leb _ _ h in rw test refl

expiry_small : (x : Option ℕ) → IsExpiry x → time_or_zero x < 2 ^ 64
expiry_small None h = lit< tt
expiry_small (Some time) h = omega (arith, h)

-- ---- tests

data_range : (f c l : ℕ) → is_data_range f c l ≡ true → (f ≤ c) × (c < l)
data_range f c l e = let p = and_parts (leb f c) (ltb c l) e in (leb-true _ _ p.0, ltb-true _ _ p.1)

pub range_true : (kind : SetKind) (f c l : ℕ) → is_range kind f c l ≡ true → IsRange kind f c l
range_true Log f c l e = ltb-true _ _ e
range_true Full f c l e = data_range f c l e
range_true File f c l e = data_range f c l e
range_true Differential f c l e = data_range f c l e

data_range_from : (f c l : ℕ) → (f ≤ c) × (c < l) → is_data_range f c l ≡ true
data_range_from f c l h = and_from _ _ (le-leb _ _ h.0) (lt-ltb _ _ h.1)

pub range_from : (kind : SetKind) (f c l : ℕ) → IsRange kind f c l → is_range kind f c l ≡ true
range_from Log f c l h = lt-ltb _ _ h
range_from Full f c l h = data_range_from f c l h
range_from File f c l h = data_range_from f c l h
range_from Differential f c l h = data_range_from f c l h

pub has_base_true : (kind : SetKind) (b : Option Base) → has_its_base kind b ≡ true → HasItsBase kind b
has_base_true Differential b e = e
has_base_true Full b e = tt
has_base_true Log b e = tt
has_base_true File b e = tt

pub has_base_from : (kind : SetKind) (b : Option Base) → HasItsBase kind b → has_its_base kind b ≡ true
has_base_from Differential b h = h
has_base_from Full b h = refl
has_base_from Log b h = refl
has_base_from File b h = refl

pub rise_true : (least : ℕ) (path : List Branch) → starts_rise least path ≡ true → StartsRiseFrom least path
rise_true least [] e = tt
rise_true least (b ∷ path) e = let p = and_parts (leb least b.start) (starts_rise b.start path) e in (leb-true _ _ p.0, rise_true b.start path p.1)

pub rise_from : (least : ℕ) (path : List Branch) → StartsRiseFrom least path → starts_rise least path ≡ true
rise_from least [] h = refl
rise_from least (b ∷ path) h = and_from _ _ (le-leb _ _ h.0) (rise_from b.start path h.1)

below_true : (last : ℕ) (path : List Branch) → list_all (λ b. ltb b.start last) path ≡ true → AllByRecursion IsBranch path → AllByRecursion (λ b. IsGuid b.guid × (b.start < last)) path
below_true last [] e h = tt
below_true last (b ∷ path) e h = let p = and_parts (ltb b.start last) (list_all (λ b. ltb b.start last) path) e in ((h.0.guid, ltb-true _ _ p.0), below_true last path p.1 h.1)

below_from : (last : ℕ) (path : List Branch) → AllByRecursion (λ b. IsGuid b.guid × (b.start < last)) path → list_all (λ b. ltb b.start last) path ≡ true
below_from last [] h = refl
below_from last (b ∷ path) h = and_from _ _ (lt-ltb _ _ h.0.1) (below_from last path h.1)

branches_fit : (last : ℕ) (path : List Branch) → last < 2 ^ 64 → AllByRecursion (λ b. IsGuid b.guid × (b.start < last)) path → AllByRecursion IsBranch path
branches_fit last [] small h = tt
branches_fit last (b ∷ path) small h = (record { guid = h.0.0; start = omega (arith, h.0.1) }, branches_fit last path small h.1)

path_true : (last : ℕ) (path : List Branch) → is_path last path ≡ true → AllByRecursion IsBranch path → IsHeaderPath last path × (length path ≤ 64)
path_true last [] e h = absurd cc
path_true last (b ∷ path) e h =
    let p = and_parts (eqb b.start 1 && starts_rise 1 path && list_all (λ b. ltb b.start last) (b ∷ path)) (leb (length (b ∷ path)) 64) e in
    let q = and_parts (eqb b.start 1 && starts_rise 1 path) (list_all (λ b. ltb b.start last) (b ∷ path)) p.0 in
    let r = and_parts (eqb b.start 1) (starts_rise 1 path) q.0 in
    ((eqb-true _ _ r.0, (rise_true 1 path r.1, below_true last (b ∷ path) q.1 h)), leb-true _ _ p.1)

path_from : (last : ℕ) (path : List Branch) → IsHeaderPath last path → length path ≤ 64 → is_path last path ≡ true
path_from last [] h short = absurd h
path_from last (b ∷ path) h short =
    and_from _ _ (and_from _ _ (and_from _ _ (eq-eqb _ _ h.0) (rise_from 1 path h.1.0)) (below_from last (b ∷ path) h.1.1)) (le-leb _ _ short)

path_branches : (last : ℕ) (path : List Branch) → last < 2 ^ 64 → IsHeaderPath last path → AllByRecursion IsBranch path
path_branches last [] small h = absurd h
path_branches last (b ∷ path) small h = branches_fit last (b ∷ path) small h.1.1

pub numbered_true : (n : ℕ) (files : List HeaderFile) → are_numbered n files ≡ true → AreNumbered n files
numbered_true n [] e = tt
numbered_true n (f ∷ files) e = let p = and_parts (eqb f.spec.number n) (are_numbered (n + 1) files) e in (eqb-true _ _ p.0, numbered_true (n + 1) files p.1)

pub numbered_from : (n : ℕ) (files : List HeaderFile) → AreNumbered n files → are_numbered n files ≡ true
numbered_from n [] h = refl
numbered_from n (f ∷ files) h = and_from _ _ (eq-eqb _ _ h.0) (numbered_from (n + 1) files h.1)

each_true : (groups : ℕ) (files : List HeaderFile) → list_all (λ f. ltb f.spec.group groups) files ≡ true → AllByRecursion IsFile files → AllByRecursion (IsHeaderFile groups) files
each_true groups [] e h = tt
each_true groups (f ∷ files) e h =
    let p = and_parts (ltb f.spec.group groups) (list_all (λ f. ltb f.spec.group groups) files) e in
    (record { group = ltb-true _ _ p.0; extents = h.0.extents; name = h.0.name; path = h.0.path }, each_true groups files p.1 h.1)

each_from : (groups : ℕ) (files : List HeaderFile) → AllByRecursion (IsHeaderFile groups) files → list_all (λ f. ltb f.spec.group groups) files ≡ true
each_from groups [] h = refl
each_from groups (f ∷ files) h = and_from _ _ (lt-ltb _ _ h.0.group) (each_from groups files h.1)

files_fit : (groups n : ℕ) (files : List HeaderFile) → groups ≤ 8 → n + length files ≤ 17 → AreNumbered n files → AllByRecursion (IsHeaderFile groups) files → AllByRecursion IsFile files
files_fit groups n [] few short k h = tt
files_fit groups n (f ∷ files) few short k h =
    (record { number = omega (arith, k.0); group = omega (arith, h.0.group); extents = h.0.extents; name = h.0.name; path = h.0.path }, files_fit groups (n + 1) files few (omega arith) k.1 h.1)

files_true : (groups : ℕ) (files : List HeaderFile) → are_files groups files ≡ true → AllByRecursion IsFile files → AreHeaderFiles groups files
files_true groups files e h =
    let p = and_parts (ltb 0 (length files) && leb (length files) 16 && are_numbered 1 files && list_all (λ f. ltb f.spec.group groups) files) (leb (total_extents files) 4096) e in
    let q = and_parts (ltb 0 (length files) && leb (length files) 16 && are_numbered 1 files) (list_all (λ f. ltb f.spec.group groups) files) p.0 in
    let r = and_parts (ltb 0 (length files) && leb (length files) 16) (are_numbered 1 files) q.0 in
    let s = and_parts (ltb 0 (length files)) (leb (length files) 16) r.0 in
    record { some = ltb-true _ _ s.0; few = leb-true _ _ s.1; numbered = numbered_true 1 files r.1; each = each_true groups files q.1 h; small = leb-true _ _ p.1 }

files_from : (groups : ℕ) (files : List HeaderFile) → AreHeaderFiles groups files → are_files groups files ≡ true
files_from groups files h =
    and_from _ _ (and_from _ _ (and_from _ _ (and_from _ _ (lt-ltb _ _ h.some) (le-leb _ _ h.few)) (numbered_from 1 files h.numbered)) (each_from groups files h.each)) (le-leb _ _ h.small)

-- ---- the parts of a header

order_true : (fixed : Fixed) (base : Option Base) → keeps_order fixed base ≡ true
    → IsRange fixed.what.kind fixed.range.first fixed.range.checkpoint fixed.range.last × (HasItsBase fixed.what.kind base × (IsTime fixed.times.start × IsTime fixed.times.finish))
order_true fixed base e =
    let p = and_parts (is_range fixed.what.kind fixed.range.first fixed.range.checkpoint fixed.range.last && has_its_base fixed.what.kind base && leb fixed.times.start 253402300799999) (leb fixed.times.finish 253402300799999) e in
    let q = and_parts (is_range fixed.what.kind fixed.range.first fixed.range.checkpoint fixed.range.last && has_its_base fixed.what.kind base) (leb fixed.times.start 253402300799999) p.0 in
    let r = and_parts (is_range fixed.what.kind fixed.range.first fixed.range.checkpoint fixed.range.last) (has_its_base fixed.what.kind base) q.0 in
    (range_true _ _ _ _ r.0, (has_base_true _ _ r.1, (leb-true _ _ q.1, leb-true _ _ p.1)))

-- what the lists keep
pub record KeepLimits (last : ℕ) (lists : Lists) : Type 0 where
  pub path : IsHeaderPath last lists.path
  pub path_short : length lists.path ≤ 64
  pub groups_some : 0 < length lists.groups
  pub groups_few : length lists.groups ≤ 8
  pub files : AreHeaderFiles (length lists.groups) lists.files

limits_true : (last : ℕ) (lists : Lists) → keeps_limits last lists ≡ true → AreLists lists → KeepLimits last lists
limits_true last lists e h =
    let p = and_parts (is_path last lists.path && ltb 0 (length lists.groups) && leb (length lists.groups) 8) (are_files (length lists.groups) lists.files) e in
    let q = and_parts (is_path last lists.path && ltb 0 (length lists.groups)) (leb (length lists.groups) 8) p.0 in
    let r = and_parts (is_path last lists.path) (ltb 0 (length lists.groups)) q.0 in
    let path = path_true last lists.path r.0 h.path.1 in
    record { path = path.0; path_short = path.1; groups_some = ltb-true _ _ r.1; groups_few = leb-true _ _ q.1; files = files_true _ _ p.1 h.files.1 }

limits_from : (last : ℕ) (lists : Lists) → KeepLimits last lists → keeps_limits last lists ≡ true
limits_from last lists h =
    and_from _ _ (and_from _ _ (and_from _ _ (path_from last lists.path h.path h.path_short) (lt-ltb _ _ h.groups_some)) (le-leb _ _ h.groups_few)) (files_from _ _ h.files)

header_takes : (fixed : Fixed) (lists : Lists) (h : Header) → IsFixed fixed → AreLists lists → header_from fixed lists ≡ Some h
    → (◌≡◌ {A = Fixed × Lists} (fixed_of h, lists_of h) (fixed, lists)) × IsHeader h
unfolding header_from header_of
header_takes fixed lists h fits lists_fit e =
    let base = bind_some (base_in (bit fixed.what.flags 16) fixed.base) (λ b. expiry_in (bit fixed.what.flags 32) fixed.times.expiry >>= λ x. cond (keeps_order fixed b && keeps_limits fixed.range.last lists) (Some (header_of fixed b x lists)) None) h e in
    let expiry = bind_some (expiry_in (bit fixed.what.flags 32) fixed.times.expiry) (λ x. cond (keeps_order fixed base.0 && keeps_limits fixed.range.last lists) (Some (header_of fixed base.0 x lists)) None) h base.2 in
    let g = guard_true (keeps_order fixed base.0 && keeps_limits fixed.range.last lists) (header_of fixed base.0 expiry.0 lists) h expiry.2 in
    let tests = and_parts (keeps_order fixed base.0) (keeps_limits fixed.range.last lists) g.0 in
    let order = order_true fixed base.0 tests.0 in
    let limits = limits_true fixed.range.last lists tests.1 lists_fit in
    let b = base_takes (bit fixed.what.flags 16) fixed.base base.0 fits.base base.1 in
    let x = expiry_takes (bit fixed.what.flags 32) fixed.times.expiry expiry.0 expiry.1 in
    let flags : flags_of (header_of fixed base.0 expiry.0 lists) ≡ fixed.what.flags = rw (b.1.0, x.1.0) (flags_again fixed.what.flags fits.what) in
    let parts : ◌≡◌ {A = Fixed × Lists} (fixed_of (header_of fixed base.0 expiry.0 lists), lists_of (header_of fixed base.0 expiry.0 lists)) (fixed, lists) =
    λ i. (record fixed { what = record fixed.what { flags = flags i }; base = b.0 i; times = record fixed.times { expiry = x.0 i } }, lists) in
    let is : IsHeader (header_of fixed base.0 expiry.0 lists) = record {
      version = refl;
      set = fits.set;
      family = fits.family;
      first = fits.range.first;
      checkpoint = fits.range.checkpoint;
      last = fits.range.last;
      range = order.0;
      database_backup = fits.range.database_backup;
      base = b.1.1;
      base_there = order.1.0;
      start = order.1.1.0;
      finish = order.1.1.1;
      expiry = x.1.1;
      database = lists_fit.database;
      name = lists_fit.name;
      path = limits.path;
      path_short = limits.path_short;
      groups_some = limits.groups_some;
      groups_few = limits.groups_few;
      groups = lists_fit.groups.1;
      files = limits.files;
      log_name = lists_fit.log_name;
      log_path = lists_fit.log_path;
    } in
    subst (λ (k : Header). (◌≡◌ {A = Fixed × Lists} (fixed_of k, lists_of k) (fixed, lists)) × IsHeader k) g.1 (parts, is)

header_bits : (h : Header) → HasBits (flags_of h) h.copy_only h.bulk h.begins_chain h.checksums (is_some h.base) (is_some h.expiry)
header_bits h = six_bits h.copy_only h.bulk h.begins_chain h.checksums (is_some h.base) (is_some h.expiry)

header_gives : (h : Header) → IsHeader h → header_from (fixed_of h) (lists_of h) ≡ Some h
unfolding header_from header_of
header_gives h is =
    let bits = header_bits h in
    let base : base_in (bit (flags_of h) 16) (base_or_zero h.base) ≡ Some h.base = rw bits.base (base_gives h.base) in
    let expiry : expiry_in (bit (flags_of h) 32) (time_or_zero h.expiry) ≡ Some h.expiry = rw bits.expiry (expiry_gives h.expiry is.expiry) in
    let order : keeps_order (fixed_of h) h.base ≡ true =
    and_from _ _ (and_from _ _ (and_from _ _ (range_from h.kind h.first h.checkpoint h.last is.range) (has_base_from h.kind h.base is.base_there)) (le-leb _ _ is.start)) (le-leb _ _ is.finish) in
    let limits : keeps_limits h.last (lists_of h) ≡ true = limits_from h.last (lists_of h) (record { path = is.path; path_short = is.path_short; groups_some = is.groups_some; groups_few = is.groups_few; files = is.files }) in
    let test : (keeps_order (fixed_of h) h.base && keeps_limits h.last (lists_of h)) ≡ true = and_from _ _ order limits in
    let same : header_of (fixed_of h) h.base h.expiry (lists_of h) ≡ h =
    λ i. record h { version = sym is.version i; copy_only = bits.copy_only i; bulk = bits.bulk i; begins_chain = bits.begins i; checksums = bits.checksums i } in
    rw (base, expiry, test) (ap (λ (k : Header). Some k) same)

header_fixed : (h : Header) → IsHeader h → IsFixed (fixed_of h)
header_fixed h is =
    let bits = header_bits h in
    record {
      what = bits.small;
      set = is.set;
      family = is.family;
      range = record { first = is.first; checkpoint = is.checkpoint; last = is.last; database_backup = is.database_backup };
      base = base_fits h.base is.base;
      times = record { start = omega (arith, is.start); finish = omega (arith, is.finish); expiry = expiry_small h.expiry is.expiry };
    }

header_lists : (h : Header) → IsHeader h → AreLists (lists_of h)
header_lists h is = record {
  database = is.database;
  name = is.name;
  path = (omega (arith, is.path_short), path_branches h.last h.path is.last is.path);
  groups = (omega (arith, is.groups_few), is.groups);
  files = (omega (arith, is.files.few), files_fit (length h.groups) 1 h.files is.groups_few (omega (arith, is.files.few)) is.files.numbered is.files.each);
  log_name = is.log_name;
  log_path = is.log_path;
}

pub header_form-IsCodec : IsCodec Header header_form
unfolding header_form fixed_form lists_form
header_form-IsCodec = converted-IsCodec _ (λ x. header_from x.0 x.1) (λ h. (fixed_of h, lists_of h)) IsHeader (followed-IsCodec _ _ fixed_form-IsCodec (λ _. lists_form-IsCodec)) (record {
  takes = λ x h fits e. header_takes x.0 x.1 h fits.0 fits.1 e;
  gives = λ h is. (header_gives h is, (header_fixed h is, header_lists h is));
})

pub header_form-spelling : (h : Header) → IsHeader h → header_form.spelling h ≡ spelling h
unfolding header_form fixed_form lists_form version_form kind_form what_form range_form base_form times_form branch_form in_set_form file_form guid_form model_form spelling
header_form-spelling h is = ap (λ (v : ℕ). fixed_bytes (record h { version = v }) ++ lists_bytes h) (sym is.version)

-- what is read is a header's spelling
pub header_read : (bytes : List ℕ) (h : Header) (rest : List ℕ) → AreBytes bytes → header_form.reading bytes ≡ Some (h, rest) → (bytes ≡ spelling h ++ rest) × IsHeader h
unfolding header_form
header_read bytes h rest fits e =
    let a = header_form-IsCodec.takes bytes h rest fits e in
    (a.0 ∙ ap (λ (s : List ℕ). s ++ rest) (header_form-spelling h a.1), a.1)

-- a header that is spelled is read, whatever follows
pub header_again : (h : Header) (rest : List ℕ) → IsHeader h → header_form.reading (spelling h ++ rest) ≡ Some (h, rest)
unfolding header_form
header_again h rest is = rw (← header_form-spelling h is) (header_form-IsCodec.gives h rest is)

-- where nothing is read no front is a header
pub header_unread : (bytes : List ℕ) → header_form.reading bytes ≡ None → IsNoHeader bytes
header_unread bytes none h rest is spelled =
    let read = header_again h rest is in
    let met : header_form.reading (spelling h ++ rest) ≡ None = ap header_form.reading (sym spelled) ∙ none in
    cc

-- the header at the front has as many bytes as don't follow
pub header_found : (bytes : List ℕ) (h : Header) (rest : List ℕ) → AreBytes bytes → header_form.reading bytes ≡ Some (h, rest) → BeginsWith bytes h (length bytes - length rest)
header_found bytes h rest fits e =
    let a = header_read bytes h rest fits e in
    let sum : length bytes ≡ length (spelling h) + length rest = ap length a.0 ∙ length-append (spelling h) rest in
    let size : length bytes - length rest ≡ length (spelling h) = omega arith in
    let behind : drop (length bytes - length rest) bytes ≡ rest = ap (λ (k : ℕ). drop k bytes) size ∙ ap (drop (length (spelling h))) a.0 ∙ drop_at (spelling h) rest (length (spelling h)) refl in
    record { header = a.1; spelled = rw behind a.0; size_is = size }

pub header_shorter : (bytes : List ℕ) (h : Header) (rest : List ℕ) → AreBytes bytes → header_form.reading bytes ≡ Some (h, rest) → length rest ≤ length bytes
header_shorter bytes h rest fits e = omega (arith, ap length (header_read bytes h rest fits e).0, length-append (spelling h) rest)

-- one spelling, and none is a proper front of another
pub one_header : (h other : Header) (a b : List ℕ) → IsHeader h → IsHeader other → spelling h ++ a ≡ spelling other ++ b → (h ≡ other) × (a ≡ b)
one_header h other a b is_h is_other same =
    let both : some (h, a) ≡ some (other, b) = sym (header_again h a is_h) ∙ ap header_form.reading same ∙ header_again other b is_other in
    let pairs : ◌≡◌ {A = Header × List ℕ} (h, a) (other, b) = same_Some (h, a) (other, b) both in
    (ap (λ (p : Header × List ℕ). p.0) pairs, ap (λ (p : Header × List ℕ). p.1) pairs)

-- ---- conditions

-- what has a spelling keeps the conditions
below_of : (last : ℕ) (path : List Branch) → AllByRecursion (λ b. IsGuid b.guid × (b.start < last)) path → AllByRecursion (λ b. b.start < last) path
below_of last [] h = tt
below_of last (b ∷ path) h = (h.0.1, below_of last path h.1)

path_of : (last : ℕ) (path : List Branch) → IsHeaderPath last path → KeepsPath last path
path_of last [] h = absurd h
path_of last (b ∷ path) h = (h.0, (h.1.0, below_of last (b ∷ path) h.1.1))

groups_of : (groups : ℕ) (files : List HeaderFile) → AllByRecursion (IsHeaderFile groups) files → AllByRecursion (λ f. f.spec.group < groups) files
groups_of groups [] h = tt
groups_of groups (f ∷ files) h = (h.0.group, groups_of groups files h.1)

paths_of : (groups : ℕ) (files : List HeaderFile) → AllByRecursion (IsHeaderFile groups) files → AllByRecursion HasPath files
paths_of groups [] h = tt
paths_of groups (f ∷ files) h = ((h.0.path.least_bytes, h.0.path.most_bytes), paths_of groups files h.1)

pub header_keeps : (h : Header) → IsHeader h → KeepsConditions h
header_keeps h is = record {
  version = is.version;
  range = is.range;
  base_there = is.base_there;
  start = is.start;
  finish = is.finish;
  expiry = is.expiry;
  name_short = omega (arith, is.name.most_bytes);
  path = path_of h.last h.path is.path;
  path_short = is.path_short;
  groups_some = is.groups_some;
  groups_few = is.groups_few;
  files = record {
    some = is.files.some;
    few = is.files.few;
    numbered = is.files.numbered;
    groups_there = groups_of (length h.groups) h.files is.files.each;
    paths = All-from_recursion HasPath h.files (paths_of (length h.groups) h.files is.files.each);
    small = is.files.small;
  };
  log_path_some = is.log_path.least_bytes;
  log_path_short = is.log_path.most_bytes;
}
