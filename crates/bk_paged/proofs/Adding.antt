-- Adding the pages of dirty frames to a side's batch, and writing them.
use Rattle.std.proofs.Common.{◌≡◌, ◌⊎◌, ◌+◌, ℕ, false, List, [], length, refl, inl, inr, sym, ap, subst, ◌∙◌}
use Rattle.bk_device.specs.Compose.{effect_none, effect_then, effect_weaken}
use Rattle.bk_device.specs.Disk.{Disk, Files}
use Rattle.bk_device.specs.Effects.{Effect}
use Rattle.bk_pool.specs.Pool.{Pool}
use Rattle.bk_side.specs.Laws.{shows_as, side_left, side_shows}
use Rattle.bk_side.specs.Names.{IsOwn}
use Rattle.bk_side.specs.Pages.{Entry, Shows, batched, shown}
use Rattle.bk_side.specs.Side.{IsOwnOf, IsSide, ShowsPages, added_of, pages_of, Kept as KeptSide}
use Rattle.bk_paged.specs.Pooled.{Batches}
use Rattle.bk_paged.proofs.Batching.{batch_none}

-- what holds under the names of a side holds under the same names of another one
pub named : (P : List ℕ → List (List ℕ) → Type 0) (s t : List ℕ) (ns ms : List (List ℕ)) → s ≡ t → ns ≡ ms → P s ns → P t ms
named P s t ns ms name names here = subst (P t) names (subst (λ (n : List ℕ). P n ns) name here)

-- nothing was added
pub side_none : (side : KeptSide) (a : Disk) → IsSide a side → Effect (IsOwnOf side) (ShowsPages side (pages_of side a.files)) a a
side_none side a is = effect_none a (λ image mine. side_left image is mine)

-- ---- all frames, one after the other

-- the dirty ones among the first i were added
pub record AddedSome (pool : Pool) (i : ℕ) (a b : Disk) (before side : KeptSide) : Type 0 where
  pub sides : IsSide b side
  pub added : Batches pool i (added_of b side)
  pub same : ShowsPages before (pages_of before a.files) b.files
  pub effect : Effect (IsOwnOf before) (ShowsPages before (pages_of before a.files)) a b

pub record Adding (tells : Type 0) (pool : Pool) (i : ℕ) (a b : Disk) (before side : KeptSide) : Type 0 where
  pub fit : side.failed ≡ false
  pub name : side.gate.name ≡ before.gate.name
  pub names : side.names ≡ before.names
  pub there : tells → AddedSome pool i a b before side

pub adding_begins : (tells : Type 0) (pool : Pool) (a : Disk) (side : KeptSide) → side.failed ≡ false → (tells → IsSide a side) → (tells → added_of a side ≡ []) → Adding tells pool 0 a a side side
adding_begins tells pool a side fit stands fresh = record {
  fit = fit;
  name = refl;
  names = refl;
  there = λ t. record {
    sides = stands t;
    added = subst (Batches pool 0) (sym (fresh t)) (batch_none pool);
    same = side_shows (stands t);
    effect = side_none side a (stands t);
  };
}

-- what adding one more leaves
pub adding_effect : {tells : Type 0} {pool : Pool} {i : ℕ} {a b : Disk} {before side : KeptSide} (c : Disk) → Adding tells pool i a b before side → tells → Effect (IsOwnOf side) (ShowsPages side (pages_of side b.files)) b c
    → Effect (IsOwnOf before) (ShowsPages before (pages_of before a.files)) a c
adding_effect {a = a} {b = b} {before = before} {side = side} c is t second =
    let some = is.there t in
    let Of : List ℕ → List (List ℕ) → Type 0 = λ s ns. Effect (IsOwn s ns) (Shows s ns (shown s ns b.files)) b c in
    effect_then some.effect (effect_weaken (λ image here. shows_as (pages_of before a.files) some.same.pages here) (named Of side.gate.name before.gate.name side.names before.names is.name is.names second))

pub adding_more : {tells : Type 0} {pool : Pool} {i : ℕ} {a b : Disk} {before side : KeptSide} (c : Disk) (next : KeptSide) → Adding tells pool i a b before side → next.failed ≡ false → next.gate.name ≡ side.gate.name → next.names ≡ side.names
    → (tells → IsSide c next) → (tells → Batches pool i (added_of b side) → Batches pool (i + 1) (added_of c next)) → (tells → ShowsPages side (pages_of side b.files) c.files) → (tells → Effect (IsOwnOf side) (ShowsPages side (pages_of side b.files)) b c)
    → Adding tells pool (i + 1) a c before next
adding_more {tells = tells} {pool = pool} {i = i} {a = a} {b = b} {before = before} {side = side} c next is fit name names stands added same effect = record {
  fit = fit;
  name = name ∙ is.name;
  names = names ∙ is.names;
  there = λ t.
      let some = is.there t in
      let Of : List ℕ → List (List ℕ) → Type 0 = λ s ns. Shows s ns (shown s ns b.files) c.files in
      record {
        sides = stands t;
        added = added t some.added;
        same = shows_as (pages_of before a.files) some.same.pages (named Of side.gate.name before.gate.name side.names before.names is.name is.names (same t));
        effect = adding_effect c is t (effect t);
      };
}

-- all were looked at
pub adding_ends : {tells : Type 0} {pool : Pool} {i : ℕ} {a b : Disk} {before side : KeptSide} → Adding tells pool i a b before side → i ≡ length pool.pages → tells → Batches pool (length pool.pages) (added_of b side)
adding_ends {pool = pool} {b = b} {side = side} is last t = subst (λ (n : ℕ). Batches pool n (added_of b side)) last (is.there t).added

-- ---- what was added is written

-- the pages of a side with a batch over them
abbrev pub batched_pages : List Entry → KeptSide → Files → ℕ × ℕ → List ℕ
batched_pages entries side files at = batched entries at (pages_of side files at)

-- files show the pages as they were, or as the batch makes them
abbrev pub ShowsEither : List Entry → KeptSide → Files → Files → Type 0
ShowsEither entries side before image = ShowsPages side (pages_of side before) image ⊎ ShowsPages side (batched_pages entries side before) image

pub applied_effect : (side next : KeptSide) (entries : List Entry) (a b c : Disk) → next.gate.name ≡ side.gate.name → next.names ≡ side.names → ShowsPages side (pages_of side a.files) b.files → Effect (IsOwnOf side) (ShowsPages side (pages_of side a.files)) a b
    → Effect (IsOwnOf next) (ShowsEither entries next b.files) b c → Effect (IsOwnOf side) (ShowsEither entries side a.files) a c
applied_effect side next entries a b c name names same first second =
    let Of : List ℕ → List (List ℕ) → Type 0 = λ s ns. Effect (IsOwn s ns) (λ image. Shows s ns (shown s ns b.files) image ⊎ Shows s ns (λ at. batched entries at (shown s ns b.files at)) image) b c in
    effect_then (effect_weaken (λ image here. inl here) first)
    (effect_weaken (λ image here. elim here [
      | inl before ↦ inl (shows_as (pages_of side a.files) same.pages before)
      | inr after ↦ inr (shows_as (batched_pages entries side a.files) (λ at. ap (batched entries at) (same.pages at)) after)
    ]) (named Of next.gate.name side.gate.name next.names side.names name names second))

pub applied_shows : (side next : KeptSide) (entries : List Entry) (a b c : Disk) → next.gate.name ≡ side.gate.name → next.names ≡ side.names → ShowsPages side (pages_of side a.files) b.files → ShowsPages next (batched_pages entries next b.files) c.files
    → ShowsPages side (batched_pages entries side a.files) c.files
applied_shows side next entries a b c name names same after =
    let Of : List ℕ → List (List ℕ) → Type 0 = λ s ns. Shows s ns (λ at. batched entries at (shown s ns b.files at)) c.files in
    shows_as (batched_pages entries side a.files) (λ at. ap (batched entries at) (same.pages at)) (named Of next.gate.name side.gate.name next.names side.names name names after)
