-- The files of a database that is made of a set.
use Rattle.std.proofs.Common.{◌≡◌, ◌∙◌, ◌⊎◌, ℕ, List, inl, inr, subst, sym}
use Rattle.bk_device.specs.Compose.{effect_then, effect_weaken, effect_widen}
use Rattle.bk_device.specs.Disk.{Disk}
use Rattle.bk_device.specs.Effects.{Effect}
use Rattle.bk_facts.specs.declared.facts.DataFile.{DataFile}
use Rattle.bk_known.specs.declared.known.Known.{Known}
use Rattle.bk_reopening.specs.PagedNames.{IsOwn}
use Rattle.bk_reopening.specs.Paged.{Touches}
use Rattle.bk_reopening.specs.Reopening.{Recovers, settled}
use Rattle.bk_store.specs.Store.{IsStore, Kept as KeptStore}
use Rattle.bk_store.specs.Told.{Told, data_files}
use Rattle.bk_arriving.specs.VolumeStored.{Stored}
use Rattle.bk_recovering.specs.Recovering.{Makes, TouchesWith}

-- they are those that were asked for
pub made-files : (bytes : List ℕ) (set : Stored) (files : List DataFile) (db checkpoint : ℕ) (note : List ℕ) (known : Known) (told : Told) → Makes bytes set files db checkpoint note known told → data_files told ≡ files
made-files bytes set files db checkpoint note known told makes = makes.suffices.suffices.files

-- opening it touches them alone
pub opened-touches : (a b : Disk) (db : ℕ) (files : List DataFile) (told : Told) → data_files told ≡ files → Recovers db told a b → Effect (IsOwn db files) (λ _. Unit {0}) a b
opened-touches a b db files told same effect = subst (λ (fs : List DataFile). Effect (IsOwn db fs) (λ _. Unit {0}) a b) same (effect_weaken (λ image left. tt) effect)

-- and so does what is said in it
pub said-touches : (a b c : Disk) (db : ℕ) (files : List DataFile) (told : Told) (s : KeptStore) → data_files told ≡ files → s.paged.log.db ≡ db → IsStore a s (settled told) → Touches s.paged b c → Effect (IsOwn db files) (λ _. Unit {0}) b c
said-touches a b c db files told s same number is touches =
    subst (λ (n : ℕ). Effect (IsOwn n files) (λ _. Unit {0}) b c) number (subst (λ (fs : List DataFile). Effect (IsOwn s.paged.log.db fs) (λ _. Unit {0}) b c) (is.paged.files ∙ same) touches)

-- ---- whatever the set is

-- the names of this number, with either of two lists of data files
abbrev of_both : ℕ → List DataFile → List DataFile → List ℕ → Type 0
of_both db files others name = IsOwn db files name ⊎ IsOwn db others name

-- what touches a store's own files
own-both : (a b : Disk) (db : ℕ) (files : List DataFile) (s : KeptStore) → s.paged.log.db ≡ db → Touches s.paged a b → Effect (of_both db files s.paged.facts.files) (λ _. Unit {0}) a b
own-both a b db files s number touches = effect_widen (λ name own. inr (subst (λ (n : ℕ). IsOwn n s.paged.facts.files name) number own)) (λ image here left. tt) touches

-- files are made, and then opened
pub opened-both : (a b c : Disk) (db : ℕ) (files : List DataFile) (s : KeptStore) → s.paged.log.db ≡ db → Effect (IsOwn db files) (λ _. Unit {0}) a b → Touches s.paged b c → TouchesWith db files s a c
opened-both a b c db files s number made touches =
    let first : Effect (of_both db files s.paged.facts.files) (λ _. Unit {0}) a b = effect_widen (λ name own. inl own) (λ image here left. tt) made in
    effect_then first (own-both b c db files s number touches)

-- and something is said there
pub said-both : (a b c : Disk) (db : ℕ) (files : List DataFile) (s then : KeptStore) → s.paged.log.db ≡ db → then.paged.facts.files ≡ s.paged.facts.files → TouchesWith db files s a b → Touches s.paged b c → TouchesWith db files then a c
said-both a b c db files s then number same first touches =
    subst (λ (others : List DataFile). Effect (of_both db files others) (λ _. Unit {0}) a c) (sym same) (effect_then first (own-both b c db files s number touches))
