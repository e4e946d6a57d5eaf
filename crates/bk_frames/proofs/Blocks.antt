-- Pages side by side in a block, and the memory after them. Assumes `Logic`.
use mathlib.Core.Path.{◌≡◌, refl, subst}
use Prim.Native.Nat.{ℕ, suc, ◌+◌, ◌-◌, ◌*◌, ◌<◌}
use native.Mathlib.Omega.{arith}
use mathlib.Core.List.{List, [], ◌∷◌, ◌++◌}
use lib.ListN.{length}
use seplogic.Ra.Ura.{Ura}
use base.Fraction.{full_share}
use mir.Val.{Val}
use base.Logic.{SProp, ent, sep}
use base.Fml.{ftrue, fat, froom}
use types.Logic.{Logic, sem}
use types.Kit.{‵, ◌⊛◌, some, ◌$◌, ◌∵◌, !, qed, by, move, keep, drop, use1, use2, pick, split, rewrite, fsplit, fjoin, done}
use denote.Memory.{part_at}
use denote.Steps.{nothing}
use borrow.Table.OneValue.{part_out}
use Rattle.bk_frames.specs.Blocks.{page_row, page_type, pages_type, pages_at}

module _ {M : Type 1} {𝓤 : Ura M} (𝓛 : Logic 𝓤) (b : ℕ) where
  open 𝓛 use {H}

  abbrev Page : List ℕ → ℕ → SProp 𝓤
  Page x o = sem 𝓛 (part_at page_row full_share x b o)

  -- a page that is let go leaves its memory
  page-room : (x : List ℕ) (o : ℕ) → ent 𝓤 (Page x o) (H.room page_type b o)
  page-room x o =
      qed 𝓛 (‵ (part_at page_row full_share x b o) ∷ []) ∵
      use1 𝓛 (some (λ (v : Val). ‵ (fat full_share page_type b o v) ⊛ ‵ (page_row.own_val x (v ∷ [])))) (part_out 𝓛 page_row refl full_share x b o) $
      pick ! (λ v. split ! $ keep ! (0 ∷ []) $ by ! (𝓛.laws.at_room page_type b o v))

  -- a page is put after the last
  pub pages-snoc : (xs : List (List ℕ)) (y : List ℕ) (o : ℕ) → ent 𝓤 (sep 𝓤 (sem 𝓛 (pages_at b o xs)) (Page y (length xs * 8192 + o))) (sem 𝓛 (pages_at b o (xs ++ y ∷ [])))
  pages-snoc [] y o =
      let here : 0 * 8192 + o ≡ o = omega arith in
      qed 𝓛 (‵ ftrue ∷ ‵ (part_at page_row full_share y b (0 * 8192 + o)) ∷ []) ∵ drop ! $
      rewrite ! 0 (λ (k : ℕ). ‵ (part_at page_row full_share y b k)) here refl $ nothing ! $ move ! (1 ∷ 0 ∷ []) $ fjoin ! $ done !
  pages-snoc (x ∷ xs) y o =
      let along : suc (length xs) * 8192 + o ≡ length xs * 8192 + (o + 8192) = omega arith in
      qed 𝓛 (‵ (pages_at b o (x ∷ xs)) ∷ ‵ (part_at page_row full_share y b (suc (length xs) * 8192 + o)) ∷ []) ∵ fsplit ! $
      rewrite ! 2 (λ (k : ℕ). ‵ (part_at page_row full_share y b k)) along refl $ move ! (1 ∷ 2 ∷ []) $
      use2 𝓛 (‵ (pages_at b (o + 8192) (xs ++ y ∷ []))) (pages-snoc xs y (o + 8192)) $ move ! (1 ∷ 0 ∷ []) $ fjoin ! $ done !

  -- pages and the memory after them are the memory of all
  pub pages-room : (xs : List (List ℕ)) (m o : ℕ) → ent 𝓤 (sep 𝓤 (sem 𝓛 (pages_at b o xs)) (H.room (pages_type m) b (length xs * 8192 + o))) (H.room (pages_type (length xs + m)) b o)
  pages-room [] m o =
      let here : 0 * 8192 + o ≡ o = omega arith in
      let all : m ≡ 0 + m = omega arith in
      qed 𝓛 (‵ ftrue ∷ ‵ (froom (pages_type m) b (0 * 8192 + o)) ∷ []) ∵ drop ! $
      rewrite ! 0 (λ (k : ℕ). ‵ (froom (pages_type m) b k)) here refl $ rewrite ! 0 (λ (k : ℕ). ‵ (froom (pages_type k) b o)) all refl $ done !
  pages-room (x ∷ xs) m o =
      let along : suc (length xs) * 8192 + o ≡ length xs * 8192 + (o + 8192) = omega arith in
      let all : suc (length xs + m) ≡ suc (length xs) + m = omega arith in
      qed 𝓛 (‵ (pages_at b o (x ∷ xs)) ∷ ‵ (froom (pages_type m) b (suc (length xs) * 8192 + o)) ∷ []) ∵ fsplit ! $
      use1 𝓛 (‵ (froom page_type b o)) (page-room x o) $ rewrite ! 2 (λ (k : ℕ). ‵ (froom (pages_type m) b k)) along refl $ move ! (1 ∷ 2 ∷ []) $
      use2 𝓛 (‵ (froom (pages_type (length xs + m)) b (o + 8192))) (pages-room xs m (o + 8192)) $ move ! (1 ∷ 0 ∷ []) $
      use2 𝓛 (‵ (froom (pages_type (suc (length xs + m))) b o)) (𝓛.laws.room_cons page_type (length xs + m) b o) $
      rewrite ! 0 (λ (k : ℕ). ‵ (froom (pages_type k) b o)) all refl $ done !

  -- the first page of the memory after k of n
  pub next-room : (k n o : ℕ) → k < n
      → ent 𝓤 (H.room (pages_type (n - k)) b (k * 8192 + o)) (sep 𝓤 (H.room page_type b (k * 8192 + o)) (H.room (pages_type (n - (k + 1))) b ((k + 1) * 8192 + o)))
  next-room k n o less =
      let left : suc (n - (k + 1)) ≡ n - k = omega arith in
      let along : k * 8192 + o + 8192 ≡ (k + 1) * 8192 + o = omega arith in
      subst (λ (m : ℕ). ent 𝓤 (H.room (pages_type m) b (k * 8192 + o)) (sep 𝓤 (H.room page_type b (k * 8192 + o)) (H.room (pages_type (n - (k + 1))) b ((k + 1) * 8192 + o)))) left
      (subst (λ (e : ℕ). ent 𝓤 (H.room (pages_type (suc (n - (k + 1)))) b (k * 8192 + o)) (sep 𝓤 (H.room page_type b (k * 8192 + o)) (H.room (pages_type (n - (k + 1))) b e))) along
      (𝓛.laws.room_uncons page_type (n - (k + 1)) b (k * 8192 + o)))
