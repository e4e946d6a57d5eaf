-- What is read of a database's filegroups, data files and log is spelled so, and what is spelled so is read.
use Rattle.std.proofs.Common.{◌≡◌, ℕ, List, [], ◌∷◌, refl, subst, lit<}
use Rattle.std.specs.List.{AllByRecursion}
use Rattle.std.proofs.lemmas.List.Elements.{All-from_recursion}
use Rattle.std.proofs.lemmas.Option.{same_Some}
use Rattle.bk_bytes.specs.Codec.{IsCodec, string}
use Rattle.bk_bytes.specs.CodecLaws.{number-IsCodec, string-IsCodec, followed-IsCodec, converted-IsCodec, counted-IsCodec}
use Rattle.bk_world.specs.declared.database.FileSpec.{FileSpec}
use Rattle.bk_world.specs.declared.database.Storage.{Storage}
use Rattle.bk_storage.specs.Storage.{HasPath, IsSpec, IsStorage, KeepsStorage, spec_form, storage_form}

pub name-form : IsCodec (List ℕ) (string 1 64)
name-form = string-IsCodec 1 64 (lit< tt)

path-form : IsCodec (List ℕ) (string 1 100)
path-form = string-IsCodec 1 100 (lit< tt)

pub spec_form-IsCodec : IsCodec FileSpec spec_form
unfolding spec_form
spec_form-IsCodec = converted-IsCodec _ _ _ IsSpec (followed-IsCodec _ _ (number-IsCodec 2) (λ _. followed-IsCodec _ _ (number-IsCodec 1) (λ _. followed-IsCodec _ _ (number-IsCodec 4) (λ _. followed-IsCodec _ _ name-form (λ _. path-form))))) (record {
  takes = λ x f fits e.
      subst (λ (g : FileSpec). ((g.number, (g.group, (g.extents, (g.name, g.path)))) ≡ x) × IsSpec g)
      (same_Some (record { number = x.0; group = x.1.0; extents = x.1.1.0; name = x.1.1.1.0; path = x.1.1.1.1 }) f e)
      (refl, record { number = fits.0; group = fits.1.0; extents = fits.1.1.0; name = fits.1.1.1.0; path = fits.1.1.1.1 });
  gives = λ f h. (refl, (h.number, (h.group, (h.extents, (h.name, h.path)))));
})

pub storage_form-IsCodec : IsCodec Storage storage_form
unfolding storage_form spec_form
storage_form-IsCodec = converted-IsCodec _ _ _ IsStorage (followed-IsCodec _ _ (counted-IsCodec 1 _ name-form) (λ _. followed-IsCodec _ _ (counted-IsCodec 2 _ spec_form-IsCodec) (λ _. followed-IsCodec _ _ name-form (λ _. path-form)))) (record {
  takes = λ x s fits e.
      subst (λ (t : Storage). ((t.groups, (t.files, (t.log_name, t.log_path))) ≡ x) × IsStorage t)
      (same_Some (record { groups = x.0; files = x.1.0; log_name = x.1.1.0; log_path = x.1.1.1 }) s e)
      (refl, record { groups = fits.0; files = fits.1.0; log_name = fits.1.1.0; log_path = fits.1.1.1 });
  gives = λ s h. (refl, (h.groups, (h.files, (h.log_name, h.log_path))));
})

-- what has a spelling can be written

paths-are : (files : List FileSpec) → AllByRecursion IsSpec files → AllByRecursion HasPath files
paths-are [] all = tt
paths-are (f ∷ files) all = ((all.0.path.least_bytes, all.0.path.most_bytes), paths-are files all.1)

pub storage-keeps : (s : Storage) → IsStorage s → KeepsStorage s
storage-keeps s is = record {
  groups = is.groups.0;
  files = is.files.0;
  paths = All-from_recursion HasPath s.files (paths-are s.files is.files.1);
  log_path_some = is.log_path.least_bytes;
  log_path_short = is.log_path.most_bytes;
}
