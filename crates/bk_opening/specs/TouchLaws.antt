-- Which files a call on one database touched, whichever its data files are.
use Rattle.std.proofs.Common.{◌≡◌, ℕ, List, [], inl, inr, subst}
use Rattle.bk_device.specs.Calls.{ChangesNothing}
use Rattle.bk_device.specs.Compose.{effect_of_nothing, effect_widen}
use Rattle.bk_device.specs.Disk.{Disk, Files}
use Rattle.bk_device.specs.Effects.{Effect}
use Rattle.bk_facts.specs.declared.facts.DataFile.{DataFile}
use Rattle.bk_paged.specs.Names.{IsOwn, names_of}
use Rattle.bk_paged.specs.Paged.{Kept, Touches}
use Rattle.bk_segments.specs.Files.{IsOwn as IsOfLog}
use Rattle.bk_side.specs.Names.{side_file, IsOwn as IsOfSide}
use Rattle.bk_opening.specs.Opening.{TouchesDatabase}

-- nothing was changed
pub nothing-touched : (db : ℕ) {a b : Disk} → ChangesNothing a b → TouchesDatabase db a b
nothing-touched db call = effect_of_nothing (λ image mine. tt) call

-- its files were touched, with these data files
pub files-touched : (db : ℕ) (files : List DataFile) {P : Files → Type 0} {a b : Disk} → Effect (IsOwn db files) P a b → TouchesDatabase db a b
files-touched db files effect = effect_widen (λ name own. (files, own)) (λ image here left. tt) effect

-- those of its log
pub log-touched : (db : ℕ) {P : Files → Type 0} {a b : Disk} → Effect (IsOfLog db) P a b → TouchesDatabase db a b
log-touched db effect = effect_widen (λ name own. ([], inl own)) (λ image here left. tt) effect

-- its side file and these data files
pub side-touched : (db : ℕ) (files : List DataFile) {P : Files → Type 0} {a b : Disk} → Effect (IsOfSide (side_file db) (names_of files)) P a b → TouchesDatabase db a b
side-touched db files effect = effect_widen (λ name own. (files, inr own)) (λ image here left. tt) effect

-- those of what is kept of it
pub own-touched : (db : ℕ) (p : Kept) {a b : Disk} → p.log.db ≡ db → Touches p a b → TouchesDatabase db a b
own-touched db p {a} {b} same touches = subst (λ (n : ℕ). TouchesDatabase n a b) same (files-touched p.log.db p.facts.files touches)
