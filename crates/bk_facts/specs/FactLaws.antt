-- What the layers above may take of facts: what is read of them is spelled so, and what is spelled so is read.
use Rattle.std.proofs.Common.{◌≡◌, ℕ, List, [], ◌∷◌, ◌++◌, refl, subst, lit<}
use Rattle.std.specs.List.{AllByRecursion}
use Rattle.std.proofs.lemmas.Option.{same_Some}
use Rattle.bk_bytes.specs.Codec.{IsCodec}
use Rattle.bk_bytes.specs.CodecLaws.{number-IsCodec, string-IsCodec, followed-IsCodec, converted-IsCodec, counted-IsCodec}
use Rattle.bk_bytes.specs.Field.{AreBytes}
use Rattle.bk_facts.specs.declared.facts.DataFile.{DataFile}
use Rattle.bk_facts.specs.declared.facts.Facts.{Facts}
use Rattle.bk_facts.specs.Facts.{AreFacts, HasPath, IsDataFile, Notes, facts_bytes, facts_form, file_form}

file_form-IsCodec : IsCodec DataFile file_form
unfolding file_form
file_form-IsCodec = converted-IsCodec _ _ _ IsDataFile (followed-IsCodec _ _ (number-IsCodec 4) (λ _. string-IsCodec 1 100 (lit< tt))) (record {
  takes = λ x f fits e.
      subst (λ (g : DataFile). ((g.pages, g.path) ≡ x) × IsDataFile g) (same_Some (record { path = x.1; pages = x.0 }) f e) (refl, record { pages = fits.0; path = fits.1 });
  gives = λ f h. (refl, (h.pages, h.path));
})

facts_form-IsCodec : IsCodec Facts facts_form
unfolding facts_form file_form
facts_form-IsCodec = converted-IsCodec _ _ _ AreFacts (followed-IsCodec _ _ (number-IsCodec 8) (λ _. counted-IsCodec 2 _ file_form-IsCodec)) (record {
  takes = λ x facts fits e.
      subst (λ (g : Facts). ((g.checkpoint, g.files) ≡ x) × AreFacts g) (same_Some (record { checkpoint = x.0; files = x.1 }) facts e)
      (refl, record { checkpoint = fits.0; few = fits.1.0; files = fits.1.1 });
  gives = λ facts h. (refl, (h.checkpoint, (h.few, h.files)));
})

-- facts that are spelled are read, whatever follows
pub facts_read : (facts : Facts) (note : List ℕ) → AreFacts facts → Notes (facts_bytes facts ++ note) facts note
unfolding facts_form file_form
facts_read facts note are = facts_form-IsCodec.gives facts note are

-- and what is read is spelled
pub facts_spelled : (bytes : List ℕ) (facts : Facts) (note : List ℕ) → AreBytes bytes → Notes bytes facts note → (bytes ≡ facts_bytes facts ++ note) × AreFacts facts
unfolding facts_form file_form
facts_spelled bytes facts note fits noted = facts_form-IsCodec.takes bytes facts note fits noted

-- the paths that are read have 1 to 100 bytes
pub have_paths : (files : List DataFile) → AllByRecursion IsDataFile files → AllByRecursion HasPath files
have_paths [] are = tt
have_paths (f ∷ files) are = (record { some = are.0.path.least_bytes; short = are.0.path.most_bytes }, have_paths files are.1)
