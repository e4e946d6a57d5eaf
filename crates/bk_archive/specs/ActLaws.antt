-- The media of a world behind an act: a medium is made, and a set is sealed.
use Rattle.std.proofs.Common.{◌≡◌, ◌⊎◌, inl, inr, ℕ, zero, suc, List, [], ◌∷◌, ◌++◌, map, Option, None, Some, refl, sym, ◌∙◌, ap, subst}
use Rattle.std.specs.Prelude.{slice_get}
use Rattle.std.proofs.lemmas.Option.{same_Some}
use Rattle.bk_body.specs.Body.{Body}
use Rattle.bk_body.specs.Slots.{Slot, holds, slot_of}
use Rattle.bk_body.specs.SlotLaws.{slot_spelled}
use Rattle.bk_body.specs.Spelling.{set_bytes}
use Rattle.bk_bytes.specs.Field.{AreBytes}
use Rattle.bk_carried.specs.Carried.{Carries}
use Rattle.bk_device.specs.Disk.{Files}
use Rattle.bk_gate.specs.Blobs.{sealed}
use Rattle.bk_machine.specs.Acts.{done, medium_made, set_sealed, with_slot}
use Rattle.bk_machine.specs.World.{World}
use Rattle.bk_volume.specs.Laws.{added_read, none_read, sets_are, sets_read}
use Rattle.bk_volume.specs.Media.{HasAdded, HasSets, sets_of, slot_in}
use Rattle.bk_volume.specs.Names.{medium_file}
use Rattle.bk_volume.specs.Stored.{IsSetAt}
use Rattle.bk_world.specs.Lines.{RecordLines}
use Rattle.bk_world.specs.Medium.{Reading, medium, medium_at, readable}
use Rattle.bk_archive.specs.Media.{KeepsMedia, is_begun}
use Rattle.bk_archive.specs.MediaLaws.{shown-sealed}
use Rattle.bk_archive.specs.MediumLaws.{AreKept, NamesAtMost, SameOthers, are-kept, begun-shown, media-at, none-kept, not-other, with_medium-other, with_medium-own}
use Rattle.bk_archive.specs.SlotLaws.{blob-slot, slot-blob}

-- ---- a medium is made

-- a medium that is only being made isn't one of the world
pub begun-media : (w : World) (path : List ℕ) (was : Option (List ℕ)) (before image : Files) → NamesAtMost path was → KeepsMedia w was before → medium_at w.media path ≡ None → sealed (image (medium_file path)) ≡ [] → SameOthers before path image → KeepsMedia w (Some path) image
begun-media w path was before image named media absent none others =
    let file : Option (List ℕ) = image (medium_file path) in
    media-at w w was (Some path) before image path named (inr refl) media others (absent ∙ sym (begun-shown path file (ap is_begun none))) (λ other apart. refl)
    (λ other p body are is. media.carried other p body are is) (none-kept w.history file (none_read file none).0)

-- one without sets is
pub made-media : (w : World) (path : List ℕ) (was making : Option (List ℕ)) (before image : Files) → NamesAtMost path was → NamesAtMost path making → KeepsMedia w was before → HasSets [] (image (medium_file path)) → SameOthers before path image
    → KeepsMedia (done w (medium_made path)) making image
unfolding done
made-media w path was making before image named names media has others =
    let file : Option (List ℕ) = image (medium_file path) in
    media-at w (done w (medium_made path)) was making before image path named names media others
    (with_medium-own w.media path (medium []) ∙ sym (sets_read [] file has) ∙ sym (shown-sealed making path file (ap is_begun has)))
    (λ other apart. with_medium-other w.media path other (medium []) (not-other path other apart))
    (λ other p body are is. media.carried other p body are is) (none-kept w.history file (sets_are [] file has))

-- ---- a set is sealed

-- behind one more set, what is there was there, or is that set
there-more : (sets : List (List ℕ)) (set blob : List ℕ) (i : ℕ) → slice_get (sets ++ set ∷ []) i ≡ Some blob → (slice_get sets i ≡ Some blob) ⊎ (blob ≡ set)
there-more [] set blob zero is = inr (sym (same_Some set blob is))
there-more [] set blob (suc i) is = absurd (nothing_there is)
  where
    nothing_there : None ≡ Some blob → ⊥
    nothing_there e = cc
there-more (s ∷ sets) set blob zero is = inl is
there-more (s ∷ sets) set blob (suc i) is = there-more sets set blob i is

there-added : (sets : List (List ℕ)) (body : Body) (before after : Option (List ℕ)) (p : ℕ) (blob : List ℕ) → HasSets sets before → HasAdded sets body after → IsSetAt after p blob → IsSetAt before p blob ⊎ (blob ≡ set_bytes body)
there-added sets body before after zero blob has added there = absurd there
there-added sets body before after (suc i) blob has added there =
    let are : sets_of after ≡ sets ++ set_bytes body ∷ [] = sets_are (sets ++ set_bytes body ∷ []) after added.has in
    let were : sets_of before ≡ sets = sets_are sets before has in
    elim (there-more sets (set_bytes body) blob i (sym (ap (λ s. slice_get s i) are) ∙ there)) [
      | inl old ↦ inl (ap (λ s. slice_get s i) were ∙ old)
      | inr new ↦ inr new
    ]

same-body : (body other : Body) → holds body ≡ holds other → body ≡ other
same-body body other e = cc

-- the sets of a file with one more are kept where it is
added-kept : (history : RecordLines) (sets : List (List ℕ)) (body : Body) (before after : Option (List ℕ)) → HasSets sets before → HasAdded sets body after → Carries history body → AreKept history before → AreKept history after
added-kept history sets body before after has added carries kept = record {
  carried = λ p other is.
      let found = slot-blob after p (holds other) is in
      elim (there-added sets body before after p found.0 has added found.1) [
        | inl old ↦ kept.carried p other (blob-slot before p found.0 old ∙ ap (λ (s : Slot). Some s) found.2)
        | inr new ↦
            let same : holds body ≡ holds other = sym (slot_spelled body added.is_body) ∙ ap slot_of (sym new) ∙ found.2 in
            subst (Carries history) (same-body body other same) carries
      ];
  whole = λ p blob there whole. elim (there-added sets body before after p blob has added there) [
    | inl old ↦ kept.whole p blob old whole
    | inr new ↦ (body, (added.is_body, new))
  ];
}

-- the same sets stay kept
stay-kept : (history : RecordLines) (sets : List (List ℕ)) (before after : Option (List ℕ)) → HasSets sets before → HasSets sets after → AreKept history before → AreKept history after
stay-kept history sets before after has there kept =
    let same : sets_of before ≡ sets_of after = sets_are sets before has ∙ sym (sets_are sets after there) in
    let back : (p : ℕ) (blob : List ℕ) → IsSetAt after p blob → IsSetAt before p blob = λ p blob is. at-same p blob same is in
    record {
      carried = λ p body is.
          let found = slot-blob after p (holds body) is in
          kept.carried p body (blob-slot before p found.0 (back p found.0 found.1) ∙ ap (λ (s : Slot). Some s) found.2);
      whole = λ p blob is. kept.whole p blob (back p blob is);
    }
  where
    at-same : (p : ℕ) (blob : List ℕ) → sets_of before ≡ sets_of after → IsSetAt after p blob → IsSetAt before p blob
    at-same zero blob same there = there
    at-same (suc i) blob same there = ap (λ s. slice_get s i) same ∙ there

-- the sets stay
pub media-stay : (w : World) (files image : Files) (path : List ℕ) (sets : List (List ℕ)) → AreBytes path → KeepsMedia w None files → SameOthers files path image → HasSets sets (files (medium_file path)) → HasSets sets (image (medium_file path)) → KeepsMedia w None image
media-stay w files image path sets bytes keeps others has there =
    media-at w w None None files image path (inl refl) (inl refl) keeps others
    (keeps.read path bytes ∙ sets_read sets (files (medium_file path)) has ∙ sym (sets_read sets (image (medium_file path)) there)) (λ other apart. refl)
    (λ other p body are is. keeps.carried other p body are is)
    (stay-kept w.history sets (files (medium_file path)) (image (medium_file path)) has there (are-kept w None files path keeps bytes))

-- or there is one more
pub media-sealed : (w : World) (files image : Files) (path : List ℕ) (sets : List (List ℕ)) (body : Body) → AreBytes path → KeepsMedia w None files → SameOthers files path image → HasSets sets (files (medium_file path)) → HasAdded sets body (image (medium_file path))
    → Carries w.history body → KeepsMedia (done w (set_sealed path body.header)) None image
unfolding done
media-sealed w files image path sets body bytes keeps others has added carries =
    let was : medium_at w.media path ≡ Some (medium (map slot_in sets)) = keeps.read path bytes ∙ sets_read sets (files (medium_file path)) has in
    media-at w (done w (set_sealed path body.header)) None None files image path (inl refl) (inl refl) keeps others
    (with_medium-own w.media path (with_slot (medium_at w.media path) (readable body.header)) ∙ ap (λ (r : Option Reading). Some (with_slot r (readable body.header))) was ∙ sym (added_read sets body (image (medium_file path)) added))
    (λ other apart. with_medium-other w.media path other (with_slot (medium_at w.media path) (readable body.header)) (not-other path other apart))
    (λ other p b are is. keeps.carried other p b are is)
    (added-kept w.history sets body (files (medium_file path)) (image (medium_file path)) has added carries (are-kept w None files path keeps bytes))
