-- A database that arrives, with some pages more.
use Rattle.std.proofs.Common.{◌≡◌, ◌<◌, ◌+◌, ℕ, List, length, refl, sym, ap, subst, ◌∙◌, arith}
use Rattle.bk_device.specs.Compose.{effect_none, effect_then}
use Rattle.bk_device.specs.Disk.{Disk}
use Rattle.bk_device.specs.Effects.{Effect}
use Rattle.bk_facts.specs.declared.facts.DataFile.{DataFile}
use Rattle.bk_filling.specs.Filling.{Kept as KeptData, one_more, place_of}
use Rattle.bk_filling.specs.Records.{Kept as KeptLog}
use Rattle.bk_ids.specs.declared.record.Rec.{Rec}
use Rattle.bk_restoring.specs.PagedNames.{IsOwn}
use Rattle.bk_restoring.specs.Arriving.{IsArriving, IsBegun, Kept}
use Rattle.bk_segments.specs.Files.{AreDurable as LogsAreDurable}
use Rattle.bk_arriving.specs.Steps.{Advances, AreAt, Brings, IsEven, Stays, ahead, pages_here}
use Rattle.bk_arriving.proofs.Ahead.{ahead_files, ahead_here, ahead_more, ahead_place, even_ahead}

-- the files of a database alone were touched
abbrev pub Touches : Kept → Disk → Disk → Type 0
Touches k a b = Effect (IsOwn k.log.db k.filling.files) (λ _. Unit {0}) a b

pub touches_none : (k : Kept) (a : Disk) → Touches k a a
touches_none k a = effect_none a (λ image left. tt)

-- the same log, and the same data files
pub touches_as : (k now : Kept) (a b : Disk) → now.filling.files ≡ k.filling.files → now.log ≡ k.log → Touches now a b → Touches k a b
touches_as k now a b files log effect =
    let OfFiles : List DataFile → Type 0 = λ fs. Effect (IsOwn now.log.db fs) (λ _. Unit {0}) a b in
    let OfLog : KeptLog → Type 0 = λ l. Effect (IsOwn l.db k.filling.files) (λ _. Unit {0}) a b in
    subst OfLog log (subst OfFiles files effect)

pub touches_then : (k now : Kept) (a b c : Disk) → now.filling.files ≡ k.filling.files → now.log ≡ k.log → Touches k a b → Touches now b c → Touches k a c
touches_then k now a b c files log first second = effect_then first (touches_as k now b c files log second)

pub stays_none : (k : Kept) (a : Disk) → IsBegun a k → Stays k k a a
stays_none k a begun = record { begun = begun; durable = λ are. are }

pub stays_then : (k now next : Kept) (a b c : Disk) → now.log ≡ k.log → Stays k now a b → Stays now next b c → Stays k next a c
stays_then k now next a b c log first second = record {
  begun = second.begun;
  durable = λ are.
      let Logs : KeptLog → Disk → Type 0 = λ l d. LogsAreDurable l.db d in
      subst (λ (l : KeptLog). Logs l c) log (second.durable (subst (λ (l : KeptLog). Logs l b) (sym log) (first.durable are)));
}

pub advances_none : (k : Kept) → IsEven k.filling → Advances k k
advances_none k even = record { even = even; files = refl; log = refl }

pub advances_then : (k now next : Kept) → Advances k now → Advances now next → Advances k next
advances_then k now next first second = record { even = second.even; files = second.files ∙ first.files; log = second.log ∙ first.log }

-- an extent ahead
pub advances_ahead : (k next : Kept) → IsEven k.filling → k.filling.whole < length k.filling.files → next ≡ record k { filling = ahead k.filling 8 } → Advances k next
advances_ahead k next even more same =
    let On : Kept → Type 0 = λ m. Advances k m in
    subst On (sym same) (record { even = even_ahead k.filling even more; files = ahead_files k.filling 8; log = refl })

-- ---- page by page

-- so many pages of a file were added, and they are these
pub record Adds (k now : Kept) (a b : Disk) (n : ℕ) (page : ℕ → List ℕ) : Type 0 where
  pub stays : Stays k now a b
  pub effect : Touches k a b
  pub brings : (given : ℕ × ℕ → List ℕ) → AreAt given (place_of k.filling) n page → Brings given k now a.files b.files

pub adds_none : (k : Kept) (a : Disk) (page : ℕ → List ℕ) → IsBegun a k → Adds k k a a 0 page
adds_none k a page begun = record { stays = stays_none k a begun; effect = touches_none k a; brings = λ given are records arrives. arrives }

-- one more
module _ (k now : Kept) (n : ℕ) (inside : k.filling.page + n < pages_here k.filling) (is : now ≡ record k { filling = ahead k.filling n }) where
  pub same_files : now.filling.files ≡ k.filling.files
  same_files = ap (λ (m : Kept). m.filling.files) is ∙ ahead_files k.filling n

  pub same_log : now.log ≡ k.log
  same_log = ap (λ (m : Kept). m.log) is

  pub same_place : place_of now.filling ≡ (k.filling.whole + 1, k.filling.page + n)
  same_place = ap (λ (m : Kept). place_of m.filling) is ∙ ahead_place k.filling n inside

  pub same_next : (next : Kept) → next ≡ record now { filling = one_more now.filling } → next ≡ record k { filling = ahead k.filling (n + 1) }
  same_next next one =
      let On : Kept → Kept = λ m. record m { filling = one_more m.filling } in
      let With : KeptData → Kept = λ f. record k { filling = f } in
      one ∙ ap On is ∙ ap With (ahead_more k.filling n inside)

  pub still_more : k.filling.whole < length k.filling.files → now.filling.whole < length now.filling.files
  still_more more =
      let More : KeptData → Type 0 = λ f. f.whole < length f.files in
      let there : More (record k.filling { page = k.filling.page + n }) = more in
      subst More (sym (ap (λ (m : Kept). m.filling) is ∙ ahead_here k.filling n inside)) there

  pub adds_more : (next : Kept) (a b c : Disk) (page : ℕ → List ℕ) (bytes : List ℕ) → bytes ≡ page n → Adds k now a b n page → IsBegun c next
      → ((given : ℕ × ℕ → List ℕ) (records : List Rec) → IsArriving b.files now given records → given (place_of now.filling) ≡ bytes → IsArriving c.files next given records)
      → (LogsAreDurable now.log.db b → LogsAreDurable now.log.db c) → Touches now b c → Adds k next a c (n + 1) page
  adds_more next a b c page bytes same before begun arrives durable effect = record {
    stays = stays_then k now next a b c same_log before.stays (record { begun = begun; durable = durable });
    effect = touches_then k now a b c same_files same_log before.effect effect;
    brings = λ given are records old.
        let those : AreAt given (place_of k.filling) n page = λ j below. are j (omega (arith, below)) in
        let this : given (place_of now.filling) ≡ bytes = ap given same_place ∙ are n (omega arith) ∙ sym same in
        arrives given records (before.brings given those records old) this;
  }
