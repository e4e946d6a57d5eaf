-- Two parts of a part of what a `&mut` points at.
use mathlib.Core.Path.{◌≡◌, refl}
use mathlib.Core.List.{[], ◌∷◌}
use seplogic.Ra.Ura.{Ura}
use base.Logic.{ent, sep, wand}
use base.Fml.{GName, fres, fsep}
use types.Kit.{‵, ◌$◌, ◌∵◌, !, qed, move, use2, each, assume, rewrite, done}
use types.Follow.{followed₂}
use denote.Memory.{mem}
use types.Logic.{Logic, sem}
use denote.RattleType.{RattleType}
use denote.Follow.{follows, followed, follows_both, both_by}

module _ {M : Type 1} {𝓤 : Ura M} (𝓛 : Logic 𝓤) (R T U V : RattleType) (F : T.Denot → R.Denot) (G : U.Denot → V.Denot → T.Denot) (K : U.Denot → V.Denot → R.Denot)
    (same : (x : U.Denot) (y : V.Denot) → F (G x y) ≡ K x y) (γ γ' γ₁ γ₂ : GName) where
  open 𝓛 use {A}

  pub both_then : ent 𝓤 (sep 𝓤 (sem 𝓛 (follows R T γ γ' F)) (sem 𝓛 (follows_both T U V γ' γ₁ γ₂ G))) (sem 𝓛 (follows_both R U V γ γ₁ γ₂ K))
  unfolding both_by
  both_then =
      qed 𝓛 (‵ (follows R T γ γ' F) ∷ ‵ (follows_both T U V γ' γ₁ γ₂ G) ∷ []) ∵ each ! (λ (w : U.Denot × V.Denot). wand 𝓤 (sep 𝓤 (A.res γ₁ (U.coded.code w.0)) (A.res γ₂ (V.coded.code w.1))) (A.res γ (R.coded.code (K w.0 w.1)))) (λ w.
      assume ! (‵ (fsep (fres γ₁ (U.coded.code w.0)) (fres γ₂ (V.coded.code w.1)))) $ move ! (0 ∷ 2 ∷ []) $
      use2 𝓛 (‵ (fres γ' (T.coded.code (G w.0 w.1)))) (followed₂ 𝓛 (mem T) (mem U) (mem V) G γ' γ₁ γ₂ w.0 w.1) $ move ! (1 ∷ 0 ∷ []) $
      use2 𝓛 (‵ (fres γ (R.coded.code (F (G w.0 w.1))))) (followed 𝓛 R T F γ γ' (G w.0 w.1)) $
      rewrite ! 0 (λ (z : R.Denot). ‵ (fres γ (R.coded.code z))) (same w.0 w.1) refl $ done !)

module _ {M : Type 1} {𝓤 : Ura M} (𝓛 : Logic 𝓤) (R T U : RattleType) (F : T.Denot → U.Denot → R.Denot) (γ γ₁ γ₂ : GName) where
  open 𝓛 use {A}

  -- the last value of the whole, from those of its two parts
  pub both_back : (x : T.Denot) (y : U.Denot) → ent 𝓤 (sep 𝓤 (sep 𝓤 (A.res γ₁ (T.coded.code x)) (A.res γ₂ (U.coded.code y))) (sem 𝓛 (follows_both R T U γ γ₁ γ₂ F))) (A.res γ (R.coded.code (F x y)))
  unfolding both_by
  both_back x y = followed₂ 𝓛 (mem R) (mem T) (mem U) F γ γ₁ γ₂ x y
