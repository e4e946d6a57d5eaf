-- Parts that are done one after the other.
use Rattle.std.proofs.Common.{◌≡◌, Bool, inl, inr, ℕ, zero, suc, List, [], ◌∷◌, ◌++◌, take, Some, refl, sym, ap, subst}
use Rattle.std.specs.Prelude.{slice_get}
use Rattle.bk_device.specs.Compose.{effect_then, effect_weaken}
use Rattle.bk_device.specs.Disk.{Disk, Files}
use Rattle.bk_device.specs.Effects.{Effect}
use Rattle.bk_engine.specs.Stands.{Covers, IsOurs, Kept, StandsFor}
use Rattle.bk_machine.specs.Acts.{Act, based, created, done, done_all, dropped, job_set, jobs_dropped, logged, medium_made, noted, readied, recovered, replaced, restored, seated, set_drawn, set_sealed, turned}
use Rattle.bk_machine.specs.ClosingLaws.{done-joined}
use Rattle.bk_machine.specs.Crash.{front_of}
use Rattle.bk_machine.specs.World.{World}
use Rattle.bk_plans.specs.declared.parts.Part.{Part}
use Rattle.bk_restarts.specs.Crashes.{CutIn}
use Rattle.bk_restarts.specs.Cuts.{cut_in}
use Rattle.bk_restarts.specs.CutLaws.{cut-first, cut-later}
use Rattle.bk_executing.specs.Parts.{CutsPart, CutsParts, CutsReadying, DoesPart, DoesParts, DoesReadying, MayDoPart, MayDoParts, PartWrites, PartsWrite}

-- ---- where acts are cut

-- behind some of them
pub cut-behind : (w : World) (front rest : List Act) (image : Files) → CutIn (done_all w front) rest image → CutIn w (front ++ rest) image
cut-behind w [] rest image is = is
cut-behind w (act ∷ front) rest image is = cut-later w act (front ++ rest) image (cut-behind (done w act) front rest image is)

-- what is said of an act that is cut is the same whatever comes behind it
front-same : (n : ℕ) (act : Act) (a b : List Act) → front_of n (act ∷ a) ≡ front_of n (act ∷ b)
front-same zero act a b = refl
front-same (suc n) (turned name) a b = refl
front-same (suc n) (seated session) a b = refl
front-same (suc n) (created creation) a b = refl
front-same (suc n) (dropped name) a b = refl
front-same (suc n) (logged name said transactions) a b = refl
front-same (suc n) (medium_made path) a b = refl
front-same (suc n) set_drawn a b = refl
front-same (suc n) (set_sealed path header) a b = refl
front-same (suc n) (noted row) a b = refl
front-same (suc n) (based name header) a b = refl
front-same (suc n) (readied starts) a b = refl
front-same (suc n) (job_set name job) a b = refl
front-same (suc n) jobs_dropped a b = refl
front-same (suc n) (replaced name header) a b = refl
front-same (suc n) (restored name base at) a b = refl
front-same (suc n) (recovered name r) a b = refl

-- before others
pub cut-before : (w : World) (front rest : List Act) (image : Files) → CutIn w front image → CutIn w (front ++ rest) image
cut-before w front rest image is = by w front is.done is.records is.covers
  where
    by : (v : World) (acts : List Act) (n records : ℕ) → Covers (cut_in v acts n records) image → CutIn v (acts ++ rest) image
    by v [] zero zero covers = cut-first v rest image covers
    by v [] zero (suc records) covers = cut-first v rest image covers
    by v [] (suc n) zero covers = cut-first v rest image covers
    by v [] (suc n) (suc records) covers = cut-first v rest image covers
    by v (act ∷ acts) zero records covers =
        record { done = 0; records = records; covers = subst (λ (said : List Act). Covers (done_all v said) image) (front-same records act acts (acts ++ rest)) covers }
    by v (act ∷ acts) (suc n) records covers = cut-later v act (acts ++ rest) image (by (done v act) acts n records covers)

-- ---- one of several parts

-- the acts of parts, before one of them and behind it
record SplitAt (w : World) (parts : List Part) (acts : List Act) (i : ℕ) (p : Part) : Type 0 where
  act : Act
  rest : List Act
  front : MayDoParts w (take i parts) (take i acts)
  is : MayDoPart (done_all w (take i acts)) p act
  splits : acts ≡ take i acts ++ act ∷ rest

split-at : (w : World) (parts : List Part) (acts : List Act) (i : ℕ) (p : Part) → MayDoParts w parts acts → slice_get parts i ≡ Some p → SplitAt w parts acts i p
split-at w [] acts i p are there = absurd (cc)
split-at w (q ∷ parts) [] i p are there = absurd are
split-at w (q ∷ parts) (act ∷ acts) zero p are there =
    let same : q ≡ p = (cc) in
    record { act = act; rest = acts; front = tt; is = subst (λ x. MayDoPart w x act) same are.0; splits = refl }
split-at w (q ∷ parts) (act ∷ acts) (suc i) p are there =
    let later = split-at (done w act) parts acts i p are.1 there in
    record { act = later.act; rest = later.rest; front = (are.0, later.front); is = later.is; splits = ap (λ (more : List Act). act ∷ more) later.splits }

-- the last of a front of parts
record LastOf (w : World) (parts : List Part) (acts : List Act) (i : ℕ) (p : Part) : Type 0 where
  act : Act
  before : List Act
  front : MayDoParts w (take i parts) before
  is : MayDoPart (done_all w before) p act
  behind : done_all w acts ≡ done (done_all w before) act

last-of : (w : World) (parts : List Part) (acts : List Act) (i : ℕ) (p : Part) → MayDoParts w (take (suc i) parts) acts → slice_get parts i ≡ Some p → LastOf w parts acts i p
last-of w [] acts i p are there = absurd (cc)
last-of w (q ∷ parts) [] i p are there = absurd are
last-of w (q ∷ parts) (act ∷ []) zero p are there =
    let same : q ≡ p = (cc) in
    record { act = act; before = []; front = tt; is = subst (λ x. MayDoPart w x act) same are.0; behind = refl }
last-of w (q ∷ parts) (act ∷ next ∷ acts) zero p are there = absurd are.1
last-of w (q ∷ parts) (act ∷ acts) (suc i) p are there =
    let later = last-of (done w act) parts acts i p are.1 there in
    record { act = later.act; before = act ∷ later.before; front = (are.0, later.front); is = later.is; behind = later.behind }

-- ---- so far

pub none-does : (old : Kept) (disk : Disk) → DoesParts old disk [] old disk
none-does old disk w [] stands are = stands
none-does old disk w (act ∷ acts) stands are = absurd are

pub next-does : (old mid new : Kept) (first before after : Disk) (parts : List Part) (i : ℕ) (p : Part) → slice_get parts i ≡ Some p → DoesParts old first (take i parts) mid before → DoesPart mid before p new after → DoesParts old first (take (suc i) parts) new after
next-does old mid new first before after parts i p there does part w acts stands are =
    let last = last-of w parts acts i p are there in
    subst (StandsFor after new) (sym last.behind) (part (done_all w last.before) last.act (does w last.before stands last.front) last.is)

-- nothing was done yet
pub parts-none : (old : Kept) (a b : Disk) (parts : List Part) → ((w : World) → StandsFor a old w → Effect IsOurs (Covers w) a b) → CutsParts old a parts b
parts-none old a b parts here w acts stands are = effect_weaken (λ image covers. cut-first w acts image covers) (here w stands)

-- one part is cut
pub parts-cut : (old mid : Kept) (first before after : Disk) (parts : List Part) (i : ℕ) (p : Part) → slice_get parts i ≡ Some p → DoesParts old first (take i parts) mid before → CutsPart mid before p after
    → (w : World) (acts : List Act) → StandsFor first old w → MayDoParts w parts acts → Effect IsOurs (CutIn w acts) before after
parts-cut old mid first before after parts i p there does cuts w acts stands are =
    let split = split-at w parts acts i p are there in
    effect_weaken (λ image cut. subst (λ (all : List Act). CutIn w all image) (sym split.splits) (cut-behind w (take i acts) (split.act ∷ split.rest) image cut))
    (cuts (done_all w (take i acts)) split.act split.rest (does w (take i acts) stands split.front) split.is)

-- ---- and the session's next backup only starts, or it doesn't any more

module _ (old mid : Kept) (a b c : Disk) (parts : List Part) (starts : Bool) (does : DoesParts old a parts mid b) where
  pub ready-does : (new : Kept) → ((w : World) → StandsFor b mid w → StandsFor c new (done w (readied starts))) → DoesReadying old a parts starts new c
  ready-does new last w acts stands is =
      let turn : List Act = readied starts ∷ [] in
      subst (λ (all : List Act). StandsFor c new (done_all w all)) (sym is.are)
      (subst (StandsFor c new) (sym (done-joined w is.front turn)) (last (done_all w is.front) (does w is.front stands is.parts_are)))

  pub ready-cuts : CutsParts old a parts b → ((w : World) → StandsFor b mid w → Effect IsOurs (Covers w) b c) → CutsReadying old a parts starts c
  ready-cuts cuts last w acts stands is =
      let turn : List Act = readied starts ∷ [] in
      let behind : Effect IsOurs (Covers (done_all w is.front)) b c = last (done_all w is.front) (does w is.front stands is.parts_are) in
      subst (λ (all : List Act). Effect IsOurs (CutIn w all) a c) (sym is.are)
      (effect_then (effect_weaken (λ image cut. cut-before w is.front turn image cut) (cuts w is.front stands is.parts_are))
      (effect_weaken (λ image covers. cut-behind w is.front turn image (cut-first (done_all w is.front) turn image covers)) behind))

-- the parts were cut off
pub front-cuts : (old : Kept) (a b : Disk) (parts : List Part) (starts : Bool) → CutsParts old a parts b → CutsReadying old a parts starts b
front-cuts old a b parts starts cuts w acts stands is =
    subst (λ (all : List Act). Effect IsOurs (CutIn w all) a b) (sym is.are)
    (effect_weaken (λ image cut. cut-before w is.front (readied starts ∷ []) image cut) (cuts w is.front stands is.parts_are))

-- ---- what they write to

-- there is none of no parts
pub none-there : (parts : List Part) (i : ℕ) (part : Part) → parts ≡ [] → slice_get parts i ≡ Some part → ⊥
none-there parts i part none there = let same : slice_get [] i ≡ Some part = subst (λ (ps : List Part). slice_get ps i ≡ Some part) none there in absurd cc

-- one of several parts
pub part-among : (parts : List Part) (i : ℕ) (part : Part) → slice_get parts i ≡ Some part → (path : List ℕ) → PartWrites part path → PartsWrite parts path
part-among [] i part there path named = absurd cc
part-among (first ∷ parts) zero part there path named =
    let same : first ≡ part = cc in
    inl (subst (λ p. PartWrites p path) (sym same) named)
part-among (first ∷ parts) (suc i) part there path named = inr (part-among parts i part there path named)
