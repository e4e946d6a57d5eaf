-- What fits a set has room in a database's note, and a database may be made with it.
use Rattle.std.proofs.Common.{◌≡◌, ◌<◌, ◌≤◌, ℕ, zero, suc, ◌+◌, true, List, [], ◌∷◌, length, sym, ap, subst, arith}
use Rattle.std.specs.Prelude.{nat_le, nat_lt, slice_index_or}
use Rattle.std.proofs.lemmas.Bool.{and_parts, leb-true, ltb-true}
use Rattle.std.proofs.lemmas.List.Elements.{All-from_recursion}
use Rattle.std.proofs.lemmas.List.Sums.{sum_by-cons}
use Rattle.bk_hosted.specs.Hosted.{created_spec, set_storage}
use Rattle.bk_kept.specs.SetLaws.{specs-are}
use Rattle.bk_ids.specs.declared.path.Branch.{Branch}
use Rattle.bk_known.specs.declared.known.Known.{Known}
use Rattle.bk_known.specs.Known.{FitsNote, KeepsKnown}
use Rattle.bk_lemmas.specs.Lists.{all_mapped}
use Rattle.bk_machine.specs.Checks.{is_path, most_branches}
use Rattle.bk_machine.specs.Files.{CountFrom, extents_in}
use Rattle.bk_machine.specs.Fits.{FitsStorage}
use Rattle.bk_machine.specs.Sound.{storage_in}
use Rattle.bk_machine.specs.statements.CreateTable.{most_tables}
use Rattle.bk_storage.specs.Storage.{HasPath}
use Rattle.bk_store.specs.Making.{MayDescribe}
use Rattle.bk_world.specs.declared.database.Creation.{Creation}
use Rattle.bk_world.specs.declared.database.FileSpec.{FileSpec}
use Rattle.bk_world.specs.declared.database.Storage.{Storage}
use Rattle.bk_world.specs.declared.header.Header.{Header}

numbers-from : (n : ℕ) (files : List FileSpec) → CountFrom n files → (i : ℕ) (d : FileSpec) → i < length files → (slice_index_or files i d).number ≡ i + n
numbers-from n [] all i d lt = absurd (omega (arith, lt))
numbers-from n (f ∷ files) all zero d lt = first all.0
  where
    first : f.number ≡ n → f.number ≡ 0 + n
    first is = omega (arith, is)
numbers-from n (f ∷ files) all (suc i) d lt = next (numbers-from (n + 1) files all.1 i d (omega (arith, lt)))
  where
    next : (slice_index_or files i d).number ≡ i + (n + 1) → (slice_index_or files i d).number ≡ suc i + n
    next is = omega (arith, is)

each-small : (most : ℕ) (files : List FileSpec) → extents_in files ≤ most → (i : ℕ) (d : FileSpec) → i < length files → (slice_index_or files i d).extents ≤ most
each-small most [] le i d lt = absurd (omega (arith, lt))
each-small most (f ∷ files) le zero d lt = omega (arith, le, sum_by-cons (λ (g : FileSpec). g.extents) f files)
each-small most (f ∷ files) le (suc i) d lt = each-small most files (omega (arith, le, sum_by-cons (λ (g : FileSpec). g.extents) f files)) i d (omega (arith, lt))

path-of : (path : List ℕ) → is_path path ≡ true → (1 ≤ length path) × (length path ≤ 100)
path-of path is =
    let p = and_parts (nat_lt 0 (length path)) (nat_le (length path) 100) is in
    let some : 0 < length path = ltb-true 0 (length path) p.0 in
    (omega (arith, some), leb-true (length path) 100 p.1)

pub fits-note : (s : Storage) → FitsStorage s → FitsNote s
fits-note s fits =
    let log_path = path-of s.log_path fits.log_path in
    record {
      keeps = record {
        groups = omega (arith, fits.groups);
        files = omega (arith, fits.files.few);
        paths = All-from_recursion HasPath s.files (all_mapped (λ (f : FileSpec). is_path f.path ≡ true) HasPath (λ f is. path-of f.path is) s.files fits.paths);
        log_path_some = log_path.0;
        log_path_short = log_path.1;
      };
      groups = fits.groups;
      files = fits.files.few;
    }

-- a database may be made with it
pub may-describe : (c : Creation) → FitsStorage c.storage → MayDescribe (created_spec c)
may-describe c fits = record {
  path = omega arith;
  storage = fits-note c.storage fits;
  files = record { few = omega (arith, fits.files.few); numbers = numbers-from 1 c.storage.files fits.files.numbered; sizes = each-small 4096 c.storage.files fits.files.small };
}

-- what a set's database is made with is the same by both its readings
pub storage-same : (header : Header) → storage_in header ≡ set_storage header
storage-same header = ap (λ (files : List FileSpec). record { groups = header.groups; files = files; log_name = header.log_name; log_path = header.log_path }) (specs-are header)

-- and what is known of a set has room in a note
pub keeps-known : (known : Known) (header : Header) → FitsStorage (storage_in header) → length header.path ≤ most_branches → length known.as_of.tables ≤ most_tables → known.spec.path ≡ header.path
    → known.spec.storage ≡ set_storage header → KeepsKnown known
keeps-known known header fits branches few path-is storage-is =
    record {
      path = subst (λ (p : List Branch). length p ≤ 64) (sym path-is) branches;
      storage = subst FitsNote (sym storage-is) (subst FitsNote (storage-same header) (fits-note (storage_in header) fits));
      tables = few;
    }
