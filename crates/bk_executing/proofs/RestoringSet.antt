-- A plan of a whole restore gives what an engine asks for to park its set and to bring it up.
use Rattle.std.proofs.Common.{◌≡◌, ◌<◌, ◌≤◌, inl, inr, ℕ, ◌+◌, List, [], ◌∷◌, length, Some, refl, sym, ◌∙◌, ap, subst, arith}
use Rattle.std.specs.List.{AllByRecursion}
use Rattle.bk_archive.specs.Media.{IsMediumFile}
use Rattle.bk_body.specs.Slots.{holds}
use Rattle.bk_device.specs.Calls.{contents}
use Rattle.bk_device.specs.Compose.{effect_then, effect_weaken}
use Rattle.bk_device.specs.Disk.{Disk, Files}
use Rattle.bk_device.specs.Effects.{Effect}
use Rattle.bk_engine.specs.Acts.{CutsAct, IsSetKnown}
use Rattle.bk_engine.specs.Bringing.{CutsActs, IsSetOn, MayComeUp, coming_up}
use Rattle.bk_engine.specs.NameLaws.{rows-medium, store-medium}
use Rattle.bk_engine.specs.Stands.{IsOurs, Kept, StandsFor}
use Rattle.bk_engine.specs.Touched.{IsTouched, NoMedium, TouchesOnly}
use Rattle.bk_hosted.specs.Hosted.{bringing_up, set_log, set_storage}
use Rattle.bk_ids.specs.declared.guid.Guid.{Guid}
use Rattle.bk_ids.specs.declared.path.Branch.{Branch}
use Rattle.bk_ids.specs.Path.{IsPath}
use Rattle.bk_known.specs.declared.known.Known.{Known}
use Rattle.bk_known.specs.Known.{IsKnown}
use Rattle.bk_machine.specs.Acts.{Act, done, done_all, replaced, taken_over}
use Rattle.bk_machine.specs.FindingLaws.{found-new}
use Rattle.bk_machine.specs.MayDo.{MayDo, MayDoAll}
use Rattle.bk_machine.specs.Sound.{IsSoundSet}
use Rattle.bk_machine.specs.World.{World}
use Rattle.bk_media_plans.specs.RestorePlans.{AreOfRestore, ending_of}
use Rattle.bk_restarts.specs.Crashes.{CutIn}
use Rattle.bk_restarts.specs.CutLaws.{cut-act, cut-first, cut-later}
use Rattle.bk_stores.specs.Stores.{IsOurs as IsOfStores}
use Rattle.bk_volume.specs.Laws.{staging_apart}
use Rattle.bk_volume.specs.Media.{slot_at}
use Rattle.bk_volume.specs.Stored.{IsOf, Stored}
use Rattle.bk_world.specs.CrashLaws.{counts-length}
use Rattle.bk_world.specs.Cut.{end_behind}
use Rattle.bk_world.specs.declared.database.TableSpec.{TableSpec}
use Rattle.bk_world.specs.declared.header.Header.{Header}
use Rattle.bk_world.specs.Telling.{tables}
use Rattle.bk_executing.specs.Restoring.{found_under, known_in, spec_in}
use Rattle.bk_executing.proofs.Files.{NameLaw, none-of-set, specs-bytes}

-- ---- the set stays on its medium

untouched : (name : List ℕ) → IsMediumFile name → IsTouched NoMedium name → ⊥
untouched name medium touched = elim touched [
  | inl store ↦ store-medium medium.0 (subst IsOfStores medium.2 store)
  | inr other ↦ elim other [
    | inl set ↦ staging_apart medium.0 set.0 (sym set.1 ∙ medium.2)
    | inr last ↦ elim last [ inl named ↦ named.1 | inr rows ↦ rows-medium medium.0 (sym medium.2 ∙ rows) ]
  ]
]

pub set-stays : (a b : Disk) (name : List ℕ) (set : Stored) → IsMediumFile name → TouchesOnly NoMedium a b → IsSetOn a.files name set → IsSetOn b.files name set
set-stays a b name set medium touches is =
    let same : b.files name ≡ a.files name = touches.others name (untouched name medium) in
    record {
      body = is.body;
      position = is.position;
      there = subst (λ f. slot_at f is.position ≡ Some (holds is.body)) (sym same) is.there;
      is = subst (λ f. IsOf (contents f) is.body set) (sym same) is.is;
    }

-- ---- it is parked

-- the log of a set has a record
set-some : (w : World) (header : Header) → IsSoundSet w header → 1 ≤ length (set_log w header)
set-some w header sound = by header.path sound.path sound.starts
  where
    ends : header.last ≡ 1 + length (set_log w header)
    ends = counts-length 1 (set_log w header) header.last sound.log.counts

    by : (path : List Branch) → IsPath path → AllByRecursion (λ (b : Branch). b.start < header.last) path → 1 ≤ length (set_log w header)
    by [] is starts = absurd is
    by (b ∷ path) is starts =
        let first : b.start ≡ 1 = is.0 in
        let below : b.start < header.last = starts.0 in
        omega (arith, first, below, ends)

-- what is known of it is what its log says
set-known : (w : World) (name : List ℕ) (header : Header) (made : List TableSpec) → IsSoundSet w header → tables (set_log w header) ≡ made → IsKnown (known_in name header made) → IsSetKnown w header (known_in name header made)
set-known w name header made sound tables-are spelled = record {
  is = λ i. record { spec = spec_in name header; as_of = record { from = ends i; tables = sym tables-are i; model = sound.model i; time = sound.finish i } };
  spelled = spelled;
  some = set-some w header sound;
}
  where
    ends : header.last ≡ end_behind (set_log w header)
    ends = counts-length 1 (set_log w header) header.last sound.log.counts

-- it is as sound once it has taken the place of a database
parked-sound : (w : World) (name : List ℕ) (header : Header) → IsSoundSet w header → IsSoundSet (done w (replaced name header)) header
unfolding done
parked-sound w name header is = record {
  log = is.log;
  path = is.path;
  starts = is.starts;
  drawn = is.drawn;
  set = is.set;
  family = is.family;
  held = is.held;
  model = is.model;
  finish = is.finish;
  numbers = is.numbers;
  fits = is.fits;
}

-- ---- and comes up

-- what comes behind the first act is what the engine brings up by
same-coming : (w : World) (name : List ℕ) (header : Header) (branch : Guid) → bringing_up name header (ending_of w header branch) ≡ coming_up (done w (replaced name header)) name header branch
unfolding done
same-coming w name header branch = refl

coming-cut : (w : World) (name : List ℕ) (header : Header) (branch : Guid) (image : Files) → CutsActs w (coming_up w name header branch) image → CutIn w (coming_up w name header branch) image
coming-cut w name header branch image (inl before) = cut-first w (coming_up w name header branch) image before
coming-cut w name header branch image (inr behind) = cut-later w _ _ image (cut-later _ _ [] image (cut-first (done_all w (coming_up w name header branch)) [] image behind))

-- A set on a medium, of which this is known under this header, that takes the place of the database of a name and brings it up on a branch.
module _ (law : NameLaw) (e : Kept) (a b : Disk) (name : List ℕ) (set : Stored) (header : Header) (made : List TableSpec) (same_made : made ≡ set.tables) (known : Known) (same : known ≡ known_in name header made) (spelled : IsKnown known)
    (branch : Guid) (last : ℕ) where
  abbrev parked : World → World
  parked w = done w (replaced name header)

  abbrev Restores : World → List ℕ → List Act → Type 0
  Restores w log acts = AreOfRestore w (found_under header set log) name branch last acts

  abbrev all_acts : World → List Act
  all_acts w = replaced name header ∷ coming_up (parked w) name header branch

  is-known : IsKnown (known_in name header made)
  is-known = subst IsKnown same spelled

  acts-are : (w : World) (log : List ℕ) (acts : List Act) → Restores w log acts → acts ≡ all_acts w
  acts-are w log acts are = are.are ∙ ap (λ (rest : List Act). replaced name header ∷ rest) (same-coming w name header branch)

  all-may : (w : World) (log : List ℕ) (acts : List Act) → Restores w log acts → MayDoAll w (all_acts w)
  all-may w log acts are = subst (MayDoAll w) (acts-are w log acts are) are.may

  park-may : (w : World) (log : List ℕ) (acts : List Act) → Restores w log acts → MayDo w (replaced name header)
  park-may w log acts are = (all-may w log acts are).0

  park-known : (w : World) (log : List ℕ) (acts : List Act) → Restores w log acts → IsSetKnown w header (known_in name header made)
  park-known w log acts are = set-known w name header made (park-may w log acts are) (are.tables_are ∙ sym same_made) is-known

  bring-may : (w : World) (log : List ℕ) (acts : List Act) → StandsFor a e w → Restores w log acts → MayComeUp (parked w) name header branch last
  unfolding done
  bring-may w log acts stands are = record {
    sound = parked-sound w name header (park-may w log acts are);
    parked = found-new w.databases (taken_over name header);
    none = none-of-set law a e w name header stands (specs-bytes (set_storage header).files is-known.spec.storage.files.1) are.unused;
    may = (all-may w log acts are).1;
    last_is = are.last_is;
  }

  -- it is parked, or not
  abbrev ParkCuts : Known → Header → Type 0
  ParkCuts k h = (w : World) → StandsFor a e w → MayDo w (replaced k.spec.name h) → IsSetKnown w h k → Effect IsOurs (CutsAct w (replaced k.spec.name h)) a b

  abbrev ParkDoes : Kept → Known → Header → Type 0
  ParkDoes new k h = (w : World) → StandsFor a e w → MayDo w (replaced k.spec.name h) → IsSetKnown w h k → StandsFor b new (done w (replaced k.spec.name h))

  pub park-cuts : ParkCuts known header → (w : World) (log : List ℕ) (acts : List Act) → StandsFor a e w → Restores w log acts → Effect IsOurs (CutIn w acts) a b
  park-cuts cuts w log acts stands are =
      let own : ParkCuts (known_in name header made) header = subst (λ (k : Known). ParkCuts k header) same cuts in
      subst (λ (all : List Act). Effect IsOurs (CutIn w all) a b) (sym (acts-are w log acts are))
      (effect_weaken (λ image cut. cut-act w (replaced name header) (coming_up (parked w) name header branch) image cut)
      (own w stands (park-may w log acts are) (park-known w log acts are)))

  parks : (new : Kept) → ParkDoes new known header → (w : World) (log : List ℕ) (acts : List Act) → StandsFor a e w → Restores w log acts → StandsFor b new (parked w)
  parks new does w log acts stands are =
      let own : ParkDoes new (known_in name header made) header = subst (λ (k : Known). ParkDoes new k header) same does in
      own w stands (park-may w log acts are) (park-known w log acts are)

  -- then it is brought up, or not
  module _ (new : Kept) (does : ParkDoes new known header) (medium : List ℕ) (is_medium : IsMediumFile medium) (touches : TouchesOnly NoMedium a b) (c : Disk) (spoken : List ℕ) (same_name : spoken ≡ name) where
    abbrev Whenever : List ℕ → (World → Type 0) → Type 0
    Whenever called Does = (w : World) → StandsFor b new w → IsSetOn b.files medium set → MayComeUp w called header branch last → Does w

    abbrev Always : (World → List Act → Type 0) → Type 0
    Always Does = (w : World) (log : List ℕ) (acts : List Act) → StandsFor a e w → IsSetOn a.files medium set → Restores w log acts → Does w acts

    abbrev ComingCuts : List ℕ → Type 0
    ComingCuts called = Whenever called (λ w. Effect IsOurs (CutsActs w (coming_up w called header branch)) b c)

    abbrev ComingDoes : Kept → List ℕ → Type 0
    ComingDoes up called = Whenever called (λ w. StandsFor c up (done_all w (coming_up w called header branch)))

    pub bring-cuts : ParkCuts known header → ComingCuts spoken → Always (λ w acts. Effect IsOurs (CutIn w acts) a c)
    bring-cuts first cuts w log acts stands there are =
        effect_then (park-cuts first w log acts stands are)
        (subst (λ (all : List Act). Effect IsOurs (CutIn w all) b c) (sym (acts-are w log acts are))
        (effect_weaken (λ image cut. cut-later w (replaced name header) (coming_up (parked w) name header branch) image (coming-cut (parked w) name header branch image cut))
        (subst ComingCuts same_name cuts (parked w) (parks new does w log acts stands are) (set-stays a b medium set is_medium touches there) (bring-may w log acts stands are))))

    pub bring-does : (up : Kept) → ComingDoes up spoken → Always (λ w acts. StandsFor c up (done_all w acts))
    bring-does up brings w log acts stands there are =
        subst (λ (all : List Act). StandsFor c up (done_all w all)) (sym (acts-are w log acts are))
        (subst (ComingDoes up) same_name brings (parked w) (parks new does w log acts stands are) (set-stays a b medium set is_medium touches there) (bring-may w log acts stands are))

    pub bring-never : Whenever spoken (λ w. ⊥) → Always (λ w acts. ⊥)
    bring-never never w log acts stands there are =
        subst (λ (called : List ℕ). Whenever called (λ w. ⊥)) same_name never (parked w) (parks new does w log acts stands are) (set-stays a b medium set is_medium touches there) (bring-may w log acts stands are)
