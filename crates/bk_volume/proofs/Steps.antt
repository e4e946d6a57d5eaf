-- What making a medium and sealing a set did to the device.
use Rattle.std.proofs.Common.{◌≡◌, ◌⊎◌, ℕ, Bool, true, false, List, [], ◌∷◌, ◌++◌, length, map, Option, Some, None, refl, inl, inr, sym, ap, subst, ◌∙◌}
use Rattle.std.specs.Prelude.{is_some, option_map}
use Rattle.bk_world.specs.Medium.{not_media}
use Rattle.bk_device.specs.Calls.{contents, ChangesNothing}
use Rattle.bk_device.specs.Compose.{effect_then, effect_weaken, effect_none, keeps_by_nothing}
use Rattle.bk_device.specs.Disk.{Disk, IsDurable}
use Rattle.bk_device.specs.Laws.{durable_by_nothing}
use Rattle.bk_device.specs.Effects.{Effect, IsName}
use Rattle.bk_gate.specs.Blobs.{sealed, part_of, spans_of, IsGateFile}
use Rattle.bk_gate.specs.Gate.{Kept, IsGate}
use Rattle.bk_gate.specs.Laws.{gate_sealed, gate_kept}
use Rattle.bk_body.specs.Body.{Body}
use Rattle.bk_body.specs.Conditions.{IsBody}
use Rattle.bk_body.specs.Spelling.{set_bytes}
use Rattle.bk_volume.specs.Media.{medium_letters, sets_in, read_medium, HasSets, HasAdded, LeavesMade, LeavesAdded, sets_of, IsMedium, ShowsMedium}
use Rattle.bk_volume.specs.Laws.{sets_are, medium_left}
use Rattle.bk_volume.proofs.Sets.{ill_read, foreign_ill}

-- a file with no blob was made, or its blobs were removed
pub made_first : (P : Option (List ℕ) → Type 0) (name : List ℕ) (a b : Disk) → Effect (IsName name) (λ image. P (image name) ⊎ (sealed (image name) ≡ [])) a b → Effect (IsName name) (λ image. LeavesMade P (image name)) a b
made_first P name a b effect = effect_weaken (λ image either. elim either [ inl before ↦ inl before | inr none ↦ inr (inl none) ]) effect

-- and then its first blob was sealed
pub made_crash : (P : Option (List ℕ) → Type 0) (name kept : List ℕ) (a b c : Disk) → kept ≡ name → sealed (b.files name) ≡ []
    → Effect (IsName name) (λ image. P (image name) ⊎ (sealed (image name) ≡ [])) a b
    → Effect (IsName kept) (λ image. (sealed (image kept) ≡ sealed (b.files kept)) ⊎ (sealed (image kept) ≡ sealed (b.files kept) ++ medium_letters ∷ [])) b c
    → Effect (IsName name) (λ image. LeavesMade P (image name)) a c
made_crash P name kept a b c is none first second =
    let Second : List ℕ → Type 0 = λ n. Effect (IsName n) (λ image. (sealed (image n) ≡ sealed (b.files n)) ⊎ (sealed (image n) ≡ sealed (b.files n) ++ medium_letters ∷ [])) b c in
    effect_then (made_first P name a b first)
    (effect_weaken (λ image either. elim either [
      | inl same ↦ inr (inl (same ∙ none))
      | inr one ↦ inr (inr (one ∙ ap (λ (blobs : List (List ℕ)). blobs ++ medium_letters ∷ []) none))
    ]) (subst Second is second))

-- a medium's sets are its blobs behind the first
pub emptied_crash : (name kept : List ℕ) (a b : Disk) → kept ≡ name → HasSets (sets_of (a.files name)) (a.files name) → Effect (IsName kept) (λ image. LeavesMade (λ file. sealed file ≡ sealed (a.files kept)) (image kept)) a b
    → Effect (IsName name) (λ image. LeavesMade (HasSets (sets_of (a.files name))) (image name)) a b
emptied_crash name kept a b is has effect =
    let At : List ℕ → Type 0 = λ n. Effect (IsName n) (λ image. LeavesMade (λ file. sealed file ≡ sealed (a.files n)) (image n)) a b in
    effect_weaken (λ image either. elim either [ inl same ↦ inl (same ∙ has) | inr other ↦ inr other ]) (subst At is effect)

pub none_sealed : {a : Disk} {kept : Kept} → IsGate a kept → kept.spans ≡ [] → sealed (a.files kept.name) ≡ []
none_sealed {a = a} {kept = kept} is none = gate_sealed is ∙ ap (map (part_of (contents (a.files kept.name)))) none

-- a set was added
pub has_added : (body : Body) (bytes : List ℕ) (before after : Option (List ℕ)) → IsBody body → bytes ≡ set_bytes body → HasSets (sets_of before) before → sealed after ≡ sealed before ++ bytes ∷ [] → HasAdded (sets_of before) body after
has_added body bytes before after is_body spelled has grown = record {
  is_body = is_body;
  has = grown ∙ ap (λ (blobs : List (List ℕ)). blobs ++ bytes ∷ []) has ∙ ap (λ (x : List ℕ). medium_letters ∷ (sets_of before ++ x ∷ [])) spelled;
}

pub added_crash : (name : List ℕ) (body : Body) (bytes : List ℕ) (a b : Disk) → IsBody body → bytes ≡ set_bytes body → HasSets (sets_of (a.files name)) (a.files name)
    → Effect (IsName name) (λ image. (sealed (image name) ≡ sealed (a.files name)) ⊎ (sealed (image name) ≡ sealed (a.files name) ++ bytes ∷ [])) a b
    → Effect (IsName name) (λ image. LeavesAdded (sets_of (a.files name)) body (image name)) a b
added_crash name body bytes a b is_body spelled has effect =
    effect_weaken (λ image either. elim either [
      | inl same ↦ inl (same ∙ has)
      | inr grown ↦ inr (has_added body bytes (a.files name) (image name) is_body spelled has grown)
    ]) effect

pub none_sealed_at : {a : Disk} {kept : Kept} (name : List ℕ) → kept.name ≡ name → IsGate a kept → kept.spans ≡ [] → sealed (a.files name) ≡ []
none_sealed_at {a = a} name is gate none = let At : List ℕ → Type 0 = λ n. sealed (a.files n) ≡ [] in subst At is (none_sealed gate none)

pub made_sets : (name kept : List ℕ) (b c : Disk) → kept ≡ name → sealed (b.files name) ≡ [] → sealed (c.files kept) ≡ sealed (b.files kept) ++ medium_letters ∷ [] → HasSets [] (c.files name)
made_sets name kept b c is none one =
    let At : List ℕ → Type 0 = λ n. sealed (c.files n) ≡ sealed (b.files n) ++ medium_letters ∷ [] in
    subst At is one ∙ ap (λ (blobs : List (List ℕ)). blobs ++ medium_letters ∷ []) none

-- the medium that was made
pub made_medium : {a : Disk} {kept : Kept} (name : List ℕ) → kept.name ≡ name → IsGate a kept → HasSets [] (a.files name) → IsMedium a kept
made_medium {a = a} {kept = kept} name is gate has =
    let Has : List ℕ → Type 0 = λ n. HasSets (sets_of (a.files n)) (a.files n) in
    let Are : List (List ℕ) → Type 0 = λ sets. HasSets sets (a.files name) in
    record { gate = gate; sets = subst Has (sym is) (subst Are (sym (sets_are [] (a.files name) has)) has) }

-- nothing was added
pub add_none : {a : Disk} {kept : Kept} (body : Body) → IsMedium a kept → Effect (IsName kept.name) (λ image. LeavesAdded (sets_of (a.files kept.name)) body (image kept.name)) a a
add_none {a = a} {kept = kept} body is = effect_none a (λ image mine. inl (medium_left (image kept.name) is (mine kept.name refl)))

-- ---- opening a medium

-- what is known of a file whose gate was opened
pub record Opened (file : Option (List ℕ)) (kept : Kept) (is_medium : Bool) : Type 0 where
  pub gate_file : IsGateFile (contents file)
  pub spans : kept.spans ≡ spans_of (contents file)
  pub begins : is_medium ≡ is_some (sets_in (sealed file))

pub opened : (name given : List ℕ) (a b c : Disk) (kept : Kept) (is_medium : Bool) → given ≡ name → kept.name ≡ given → ChangesNothing a b → ChangesNothing b c
    → IsGateFile (contents (b.files given)) → kept.spans ≡ spans_of (contents (b.files given)) → is_medium ≡ is_some (sets_in (sealed (c.files kept.name))) → Opened (a.files name) kept is_medium
opened name given a b c kept is_medium is_given is_kept first second gate are begins =
    let same : b.files given ≡ a.files name = ap b.files is_given ∙ first.files name in
    let same2 : c.files kept.name ≡ a.files name = ap c.files (is_kept ∙ is_given) ∙ second.files name ∙ first.files name in
    let Gate : Option (List ℕ) → Type 0 = λ file. IsGateFile (contents file) in
    record {
      gate_file = subst Gate same gate;
      spans = are ∙ ap (λ (file : Option (List ℕ)). spans_of (contents file)) same;
      begins = begins ∙ ap (λ (file : Option (List ℕ)). is_some (sets_in (sealed file))) same2;
    }

-- the medium that a read shows
pub shown_medium : (name given : List ℕ) (a b c d : Disk) (kept : Kept) (is_medium : Bool) → given ≡ name → kept.name ≡ given → ChangesNothing a b → ChangesNothing b c → ChangesNothing c d
    → Opened (a.files name) kept is_medium → HasSets (sets_of (a.files name)) (a.files name) → ShowsMedium d kept
shown_medium name given a b c d kept is_medium is_given is_kept first second third is has =
    let same : d.files kept.name ≡ a.files name = ap d.files (is_kept ∙ is_given) ∙ third.files name ∙ second.files name ∙ first.files name in
    let Gate : Option (List ℕ) → Type 0 = λ file. IsGateFile (contents file) in
    let Has : Option (List ℕ) → Type 0 = λ file. HasSets (sets_of file) file in
    record {
      gate_file = subst Gate (sym same) is.gate_file;
      spans = is.spans ∙ ap (λ (file : Option (List ℕ)). spans_of (contents file)) (sym same);
      sets = subst Has (sym same) has;
    }

pub opened_medium : (name given : List ℕ) (a b c d : Disk) (kept : Kept) → given ≡ name → kept.name ≡ given → ChangesNothing a b → ChangesNothing b c → ChangesNothing c d
    → IsDurable a name → (IsDurable b given → IsGate c kept) → HasSets (sets_of (a.files name)) (a.files name) → IsMedium d kept
opened_medium name given a b c d kept is_given is_kept first second third durable gate has =
    let Durable : List ℕ → Type 0 = λ n. IsDurable b n in
    let same : d.files kept.name ≡ a.files name = ap d.files (is_kept ∙ is_given) ∙ third.files name ∙ second.files name ∙ first.files name in
    let Has : Option (List ℕ) → Type 0 = λ file. HasSets (sets_of file) file in
    record { gate = gate_kept (keeps_by_nothing third) (gate (subst Durable (sym is_given) (durable_by_nothing name first durable))); sets = subst Has (sym same) has }

-- a file whose length was told is there
pub is_there : (name given : List ℕ) (a : Disk) (len : Option ℕ) → given ≡ name → len ≡ option_map length (a.files given) → is_some len ≡ true → a.files name ≡ None → ⊥
is_there name given a len is told some none =
    let nothing : len ≡ None = told ∙ ap (λ (n : List ℕ). option_map length (a.files n)) is ∙ ap (option_map length) none in
    let both : false ≡ true = sym (ap is_some nothing) ∙ some in
    cc

pub foreign_read : (name given : List ℕ) (a b : Disk) → given ≡ name → ChangesNothing a b → (a.files name ≡ None → ⊥) → (IsGateFile (contents (b.files given)) → ⊥) → read_medium (a.files name) ≡ Some not_media
foreign_read name given a b is call there foreign =
    let same : b.files given ≡ a.files name = ap b.files is ∙ call.files name in
    let Gate : Option (List ℕ) → Type 0 = λ file. IsGateFile (contents file) in
    ill_read (a.files name) there (foreign_ill (contents (a.files name)) (λ gate. foreign (subst Gate (sym same) gate)))

-- the sets, where the gate tells its name
pub sets_at : {name kept : List ℕ} (b : Disk) → kept ≡ name → HasSets [] (b.files kept) → HasSets [] (b.files name)
sets_at b is has = let At : List ℕ → Type 0 = λ n. HasSets [] (b.files n) in subst At is has

-- ---- the flag of a medium

-- it is no part of what its gate keeps
pub medium_flag : {a : Disk} {kept : Kept} (failed : Bool) → IsMedium a kept → IsMedium a (record kept { failed = failed })
medium_flag failed is = record { gate = record { at = is.gate.at; room = is.gate.room }; sets = is.sets }

pub shows_flag : {a : Disk} {kept : Kept} (failed : Bool) → ShowsMedium a kept → ShowsMedium a (record kept { failed = failed })
shows_flag failed is = record { gate_file = is.gate_file; spans = is.spans; sets = is.sets }
