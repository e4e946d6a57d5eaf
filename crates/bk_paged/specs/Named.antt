-- What stays of a database's pages.
use Rattle.std.proofs.Common.{◌≡◌, ℕ, List, sym, subst}
use Rattle.bk_device.specs.Compose.{keeps_by_effect}
use Rattle.bk_device.specs.Disk.{Files, Disk}
use Rattle.bk_device.specs.Effects.{Effect, KeepsFiles, MayLeaveOwn}
use Rattle.bk_facts.specs.declared.facts.DataFile.{DataFile}
use Rattle.bk_segments.specs.Files.{IsOwn as IsOfLog}
use Rattle.bk_redo.specs.declared.place.PageAt.{PageAt}
use Rattle.bk_side.specs.Laws.{shown_kept, side_left}
use Rattle.bk_side.specs.Names.{side_file, IsOwn as IsOfSide}
use Rattle.bk_side.specs.Pages.{Shows, shown}
use Rattle.bk_side.specs.Side.{IsSide, IsOwnOf, Kept as KeptSide}
use Rattle.bk_paged.specs.Laws.{apart}
use Rattle.bk_paged.specs.Names.{names_of, shown_at}

-- ---- what is done to the log leaves the pages

pub side_keeps : (db : ℕ) (files : List DataFile) {P : Files → Type 0} {a b : Disk} → Effect (IsOfLog db) P a b → KeepsFiles (IsOfSide (side_file db) (names_of files)) a b
side_keeps db files effect = keeps_by_effect (λ name side log. apart db files name log side) effect

pub shown_stays : (db : ℕ) (files : List DataFile) {P : Files → Type 0} {a b : Disk} → Effect (IsOfLog db) P a b → (at : PageAt) → shown_at db files b.files at ≡ shown_at db files a.files at
shown_stays db files effect at = shown_kept (side_file db) (names_of files) (side_keeps db files effect) (at.file, at.page)

-- a side under its names
pub own_keeps : (db : ℕ) (files : List DataFile) (side : KeptSide) {a b : Disk} → side.gate.name ≡ side_file db → side.names ≡ names_of files → KeepsFiles (IsOfSide (side_file db) (names_of files)) a b → KeepsFiles (IsOwnOf side) a b
own_keeps db files side {a} {b} name names keeps =
    subst (λ (s : List ℕ). KeepsFiles (IsOfSide s side.names) a b) (sym name) (subst (λ (ns : List (List ℕ)). KeepsFiles (IsOfSide (side_file db) ns) a b) (sym names) keeps)

-- each crash leaves the pages
pub shown_left : (db : ℕ) (files : List DataFile) (side : KeptSide) {a : Disk} (image : Files) → side.gate.name ≡ side_file db → side.names ≡ names_of files → IsSide a side
    → MayLeaveOwn (IsOfSide (side_file db) (names_of files)) a image → (at : PageAt) → shown_at db files image at ≡ shown_at db files a.files at
shown_left db files side {a} image name names is mine at =
    let Left : List ℕ → List (List ℕ) → Type 0 = λ s ns. MayLeaveOwn (IsOfSide s ns) a image → Shows s ns (shown s ns a.files) image in
    let left : Left side.gate.name side.names = side_left image is in
    let here : Left (side_file db) (names_of files) = subst (λ (ns : List (List ℕ)). Left (side_file db) ns) names (subst (λ (s : List ℕ). Left s side.names) name left) in
    (here mine).pages (at.file, at.page)
