-- A database that arrives, and a set beside it, where calls change nothing of them.
use Rattle.std.proofs.Common.{◌≡◌, ◌≤◌, ℕ, List, length, Option, refl, sym, ap, subst, ◌∙◌, arith}
use Rattle.bk_body.specs.Body.{Body}
use Rattle.bk_device.specs.Calls.{contents, ChangesNothing}
use Rattle.bk_device.specs.Compose.{effect_of_nothing, keeps_by_nothing}
use Rattle.bk_device.specs.Disk.{Disk}
use Rattle.bk_device.specs.Effects.{Effect}
use Rattle.bk_device.specs.Laws.{durable_by_nothing}
use Rattle.bk_facts.specs.declared.facts.DataFile.{DataFile}
use Rattle.bk_filling.specs.Laws.{filling_kept, log_kept, records_kept, shows_kept}
use Rattle.bk_filling.specs.Records.{Kept as KeptLog}
use Rattle.bk_restoring.specs.PagedNames.{IsOwn}
use Rattle.bk_restoring.specs.Arriving.{IsBegun, Kept}
use Rattle.bk_volume.specs.Stored.{IsOf, Stored}
use Rattle.bk_arriving.specs.Steps.{Advances, Brings, Stays}
use Rattle.bk_arriving.proofs.Adding.{Touches, stays_then}

pub begun_still : (k : Kept) (a b : Disk) → ChangesNothing a b → IsBegun a k → IsBegun b k
begun_still k a b call is = record {
  filling = filling_kept k.filling a b (keeps_by_nothing call) is.filling;
  log = log_kept k.log a b (keeps_by_nothing call) is.log;
  side = λ name at. (call.files name ∙ (is.side name at).0, durable_by_nothing name call (is.side name at).1);
}

pub stays_still : (k : Kept) (a b : Disk) → ChangesNothing a b → IsBegun a k → Stays k k a b
stays_still k a b call is = record { begun = begun_still k a b call is; durable = λ are name own. durable_by_nothing name call (are name own) }

pub stays_after : (k next : Kept) (a b c : Disk) → ChangesNothing a b → IsBegun a k → Stays k next b c → Stays k next a c
stays_after k next a b c call is second = stays_then k k next a b c refl (stays_still k a b call is) second

pub brings_still : (given : ℕ × ℕ → List ℕ) (k : Kept) (a b : Disk) → ChangesNothing a b → Brings given k k a.files b.files
brings_still given k a b call records is = record {
  pages = shows_kept k.filling a.files b.files given (λ name at. call.files name) is.pages;
  log = records_kept k.log a.files b.files records (λ name at. call.files name) is.log;
}

pub touches_still : (k : Kept) (a b : Disk) → ChangesNothing a b → Touches k a b
touches_still k a b call = effect_of_nothing (λ image left. tt) call

-- ---- a set in a file

pub of_same : (file other : Option (List ℕ)) (body : Body) (set : Stored) → other ≡ file → IsOf (contents file) body set → IsOf (contents other) body set
of_same file other body set same is = subst (λ (o : Option (List ℕ)). IsOf (contents o) body set) (sym same) is

pub of_others : {own : List ℕ → Type 0} (name : List ℕ) (a b : Disk) (body : Body) (set : Stored) → (own name → ⊥) → Effect own (λ _. Unit {0}) a b → IsOf (contents (a.files name)) body set → IsOf (contents (b.files name)) body set
of_others name a b body set apart effect is = of_same (a.files name) (b.files name) body set (effect.others name apart) is

pub apart_as : (k now : Kept) (name : List ℕ) → Advances k now → (IsOwn k.log.db k.filling.files name → ⊥) → IsOwn now.log.db now.filling.files name → ⊥
apart_as k now name on apart own =
    let Of : KeptLog → List DataFile → Type 0 = λ l fs. IsOwn l.db fs name in
    apart (subst (λ (l : KeptLog). Of l k.filling.files) on.log (subst (λ (fs : List DataFile). Of now.log fs) on.files own))

pub few_as : (k now : Kept) → Advances k now → length k.filling.files ≤ 16 → length now.filling.files ≤ 16
few_as k now on few = let same : length now.filling.files ≡ length k.filling.files = ap (λ (fs : List DataFile). length fs) on.files in omega (arith, same, few)
