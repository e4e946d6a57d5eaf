-- What a backup is told of its medium.
use Rattle.std.proofs.Common.{◌≡◌, ℕ, List, length, map, Option, None, Some, Ok, sym, ◌∙◌, subst}
use Rattle.std.specs.Prelude.{Result}
use Rattle.std.proofs.lemmas.List.{length-map}
use Rattle.bk_bytes.specs.Field.{AreBytes}
use Rattle.bk_device.specs.Disk.{Files}
use Rattle.bk_machine.specs.World.{World}
use Rattle.bk_machine.specs.statements.Backup.{ShowsRoom}
use Rattle.bk_volume.specs.Laws.{sets_read}
use Rattle.bk_volume.specs.Media.{HasSets, sets_of, slot_in}
use Rattle.bk_volume.specs.Names.{medium_file}
use Rattle.bk_world.specs.declared.rule.Rule.{Rule}
use Rattle.bk_world.specs.Medium.{Reading, Slot, medium, medium_at}
use Rattle.bk_archive.specs.Media.{KeepsMedia}
use Rattle.bk_archive.specs.MediumLaws.{nothing-read}

-- there is a medium
pub room-some : (w : World) (files : Files) (path : List ℕ) (count : ℕ) (room : Result (Option ℕ) Rule) → AreBytes path → KeepsMedia w None files → HasSets (sets_of (files (medium_file path))) (files (medium_file path)) → count ≡ length (sets_of (files (medium_file path)))
    → ((slots : List Slot) → length slots ≡ count → ShowsRoom (Some (medium slots)) room) → ShowsRoom (medium_at w.media path) room
room-some w files path count room bytes media has same shows =
    let sets : List (List ℕ) = sets_of (files (medium_file path)) in
    let is : medium_at w.media path ≡ Some (medium (map slot_in sets)) = media.read path bytes ∙ sets_read sets (files (medium_file path)) has in
    subst (λ (r : Option Reading). ShowsRoom r room) (sym is) (shows (map slot_in sets) (length-map sets slot_in ∙ sym same))

-- there is none
pub room-none : (w : World) (files : Files) (path : List ℕ) → AreBytes path → KeepsMedia w None files → files (medium_file path) ≡ None → ShowsRoom (medium_at w.media path) (Ok None)
room-none w files path bytes media none = media.read path bytes ∙ nothing-read (files (medium_file path)) none
