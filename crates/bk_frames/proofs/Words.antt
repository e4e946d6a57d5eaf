-- The machine value of a block: what is owned of its fields tells it, and is made of nothing.
use mathlib.Core.Path.{◌≡◌, refl, ◌∙◌}
use Prim.Native.Nat.{ℕ, ◌<◌, ◌^◌}
use mathlib.Core.List.{List, [], ◌∷◌, ◌++◌}
use seplogic.Ra.Ura.{Ura}
use mir.Syntax.{w64}
use mir.Val.{Val, vint, vstruct, vcons, vnil, of_list}
use base.Logic.{ent, emp}
use base.Fml.{Fml}
use types.Logic.{Logic, sem}
use denote.RattleType.{RattleType}
use denote.Builtin.{usize}
use denote.RawPtr.{Ptr, RawPtr, ptr_val}
use denote.Shadow.{shadow, makes_shadow}
use denote.Struct.Struct.{Struct}

-- a struct by its fields alone: what it owns does not read its name
abbrev plainly : List RattleType → RattleType
plainly Rs = Struct (record { name = []; args = []; types = []; fields = Rs })

abbrev pub block_val : Ptr → ℕ → ℕ → Val
block_val p k n = vstruct (vcons (ptr_val p) (vcons (vint w64 k) (vcons (vint w64 n) (vcons (vstruct vnil) vnil))))

abbrev pub block_fields : Ptr → ℕ → ℕ → List Val → Fml
block_fields p k n = (plainly (RawPtr ∷ usize ∷ usize ∷ plainly [] ∷ [])).own_val (p, (k, (n, (tt, tt))))

pub block_told : (p : Ptr) (k n : ℕ) (vs : List Val) → shadow (block_fields p k n vs) → (vs ≡ block_val p k n ∷ []) × (k < 2 ^ 64) × (n < 2 ^ 64)
block_told p k n vs s = (s.1.0 ∙ (λ i. vstruct (of_list (s.1.1.0 i ++ (s.1.1.1.0.0 i ++ (s.1.1.1.1.0.0 i ++ (s.1.1.1.1.1.0.1.0 i ++ []))))) ∷ []), s.1.1.1.0.1, s.1.1.1.1.0.1)

pub block_made : {M : Type 1} {𝓤 : Ura M} (𝓛 : Logic 𝓤) (p : Ptr) (k n : ℕ) → k < 2 ^ 64 → n < 2 ^ 64 → ent 𝓤 (emp 𝓤) (sem 𝓛 (block_fields p k n (block_val p k n ∷ [])))
block_made 𝓛 p k n fk fn =
    makes_shadow 𝓛 (block_fields p k n (block_val p k n ∷ [])) (λ _. (tt, (tt, ((tt, tt), ((tt, tt), ((λ _. (tt, tt)), tt))))))
    ((ptr_val p ∷ [], (vint w64 k ∷ [], (vint w64 n ∷ [], (vstruct vnil ∷ [], tt)))), (refl, (refl, ((refl, fk), ((refl, fn), ((tt, (refl, tt)), tt))))))
