-- Events keep the media of a world.
use Rattle.std.proofs.Common.{◌≡◌, inl, inr, ℕ, Bool, true, false, cond, List, [], Option, None, Some, refl, sym, ◌∙◌, ap, subst}
use Rattle.std.specs.Prelude.{if◌then◌else◌, ◌&&◌}
use Rattle.bk_body.specs.Slots.{Slot, holds}
use Rattle.bk_bytes.specs.Field.{AreBytes}
use Rattle.bk_device.specs.Disk.{Files}
use Rattle.bk_gate.specs.Blobs.{sealed}
use Rattle.bk_machine.specs.Events.{Happens}
use Rattle.bk_machine.specs.Sound.{IsSound, SetIn}
use Rattle.bk_machine.specs.World.{World}
use Rattle.bk_volume.specs.Media.{read_medium}
use Rattle.bk_volume.specs.Names.{medium_file}
use Rattle.bk_volume.specs.Stored.{IsSetAt, IsWhole}
use Rattle.bk_world.specs.declared.header.Header.{Header}
use Rattle.bk_world.specs.Lines.{Grew, RecordLines, log_below}
use Rattle.bk_world.specs.Medium.{Reading, medium_at, with_medium, without_medium}
use Rattle.bk_archive.specs.Events.{AddsMedium, ChangesMedium, RemovesMedium}
use Rattle.bk_archive.specs.Media.{KeepsMedia, is_begun, is_making, shown_medium}
use Rattle.bk_archive.specs.MediaLaws.{carries-same, set-in}
use Rattle.bk_archive.specs.MediumLaws.{AreKept, are-kept, is-self, media-at, medium_at-other, not-other, nothing-kept, nothing-read, with_medium-other, with_medium-own, without-own}
use Rattle.bk_archive.specs.SlotLaws.{blob-slot, held-whole, slot-blob}
use Rattle.bk_archive.proofs.Joined.{there-grew}

-- ---- no media

pub no-media : (w : World) (making : Option (List ℕ)) (files : Files) → w.media ≡ [] → ((path : List ℕ) → AreBytes path → files (medium_file path) ≡ None) → KeepsMedia w making files
no-media w making files none gone =
    let kept : (path : List ℕ) → AreBytes path → AreKept w.history (files (medium_file path)) = λ path bytes. nothing-kept w.history (files (medium_file path)) (gone path bytes) in
    record {
      read = λ path bytes. ap (λ media. medium_at media path) none ∙ sym (shown (is_making making path) (is_begun (sealed (files (medium_file path)))) (read_medium (files (medium_file path))) (nothing-read (files (medium_file path)) (gone path bytes)));
      carried = λ path p body bytes is. (kept path bytes).carried p body is;
      whole = λ path p blob bytes is whole. (kept path bytes).whole p blob is whole;
    }
  where
    shown : (t b : Bool) (reading : Option Reading) → reading ≡ None → (if t && b then None else reading) ≡ None
    shown true true reading none = refl
    shown true false reading none = none
    shown false b reading none = none

-- ---- a medium is removed

pub media-removed : (f g : Files) (w v : World) → KeepsMedia w None f → RemovesMedium f w g v → KeepsMedia v None g
media-removed f g w v keeps event =
    let path : List ℕ = event.world.path in
    let next : World = record w { media = without_medium w.media path } in
    subst (λ x. KeepsMedia x None g) (sym event.world.becomes)
    (media-at w next None None f g path (inl refl) (inl refl) keeps event.others
    (without-own w.media path ∙ sym (nothing-read (g (medium_file path)) event.gone))
    (λ other apart. medium_at-other w.media path other (not-other path other apart))
    (λ other p body bytes is. keeps.carried other p body bytes is)
    (nothing-kept w.history (g (medium_file path)) event.gone))

-- ---- a medium changes

-- sets that were there are kept
fewer-kept : (history : RecordLines) (before after : Option (List ℕ)) → ((p : ℕ) (blob : List ℕ) → IsSetAt after p blob → IsWhole blob → IsSetAt before p blob) → AreKept history before → AreKept history after
fewer-kept history before after were kept = record {
  carried = λ p body is.
      let found = slot-blob after p (holds body) is in
      kept.carried p body (blob-slot before p found.0 (were p found.0 found.1 (held-whole found.0 body found.2)) ∙ ap (λ (s : Slot). Some s) found.2);
  whole = λ p blob there whole. kept.whole p blob (were p blob there whole) whole;
}

pub media-changed : (f g : Files) (w v : World) → KeepsMedia w None f → ChangesMedium f w g v → KeepsMedia v None g
media-changed f g w v keeps event =
    let path : List ℕ = event.world.path in
    let reading : Reading = event.world.after in
    let next : World = record w { media = with_medium w.media path reading } in
    subst (λ x. KeepsMedia x None g) (sym event.world.becomes)
    (media-at w next None None f g path (inl refl) (inl refl) keeps event.others
    (with_medium-own w.media path reading ∙ sym event.reads)
    (λ other apart. with_medium-other w.media path other reading (not-other path other apart))
    (λ other p body bytes is. keeps.carried other p body bytes is)
    (fewer-kept w.history (f (medium_file path)) (g (medium_file path)) event.sets (are-kept w None f path keeps event.bytes)))

-- ---- a medium is added

-- what is shown is read
shown-read : (making : Option (List ℕ)) (path : List ℕ) (file : Option (List ℕ)) (reading : Reading) → shown_medium making path file ≡ Some reading → read_medium file ≡ Some reading
shown-read making path file reading is = by (is_making making path && is_begun (sealed file)) is
  where
    by : (t : Bool) → cond t None (read_medium file) ≡ Some reading → read_medium file ≡ Some reading
    by true e = absurd cc
    by false e = e

-- What the machine's laws say of sets.
pub record SetLaws : Type 0 where
  pub event : (w : World) (path : List ℕ) (header : Header) → IsSound w → SetIn w path header → (new : World) → Happens w new → log_below new.history header.path header.last ≡ log_below w.history header.path header.last
  pub grown : (w : World) (path : List ℕ) (header : Header) → IsSound w → SetIn w path header → (history : RecordLines) → Grew w.history history → log_below history header.path header.last ≡ log_below w.history header.path header.last

pub media-added : SetLaws → (f g : Files) (w v : World) → IsSound w → KeepsMedia w None f → AddsMedium f w g v → KeepsMedia v None g
media-added laws f g w v sound keeps event =
    let path : List ℕ = event.world.path in
    let from : List ℕ = event.world.stood.0 in
    let other : World = event.world.other in
    let reading : Reading = event.world.reading in
    let becomes = event.world.becomes in
    let happens : Happens w v = inr (inr (inr (inr (inr event.world)))) in
    let file : Option (List ℕ) = event.files (medium_file from) in
    let media : KeepsMedia other event.making event.files = event.media in
    let reads : read_medium file ≡ Some reading = shown-read event.making from file reading (sym (media.read from event.from_bytes) ∙ event.world.stood.1) in
    let grew : Grew other.history v.history = subst (Grew other.history) (sym (ap (λ (x : World). x.history) becomes)) (there-grew w other event.world.history sound event.world.was_sound event.world.joins) in
    let there : AreKept v.history file = record {
      carried = λ p body is. carries-same other.history v.history body (laws.grown other from body.header event.world.was_sound (set-in other event.making event.files from p body media event.from_bytes is) v.history grew)
          (media.carried from p body event.from_bytes is);
      whole = λ p blob is whole. media.whole from p blob event.from_bytes is whole;
    } in
    media-at w v None None f g path (inl refl) (inl refl) keeps event.others
    (ap (λ (x : World). medium_at x.media path) becomes ∙ ap (λ t. cond t (Some reading) (medium_at w.media path)) (is-self path) ∙ sym reads ∙ ap read_medium (sym event.comes))
    (λ at_path apart. ap (λ (x : World). medium_at x.media at_path) becomes ∙ ap (λ t. cond t (Some reading) (medium_at w.media at_path)) (not-other path at_path apart))
    (λ at_path p body bytes is.
    carries-same w.history v.history body (laws.event w at_path body.header sound (set-in w None f at_path p body keeps bytes is) v happens) (keeps.carried at_path p body bytes is))
    (subst (AreKept v.history) (sym event.comes) there)
