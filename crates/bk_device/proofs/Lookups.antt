-- Looking up contents by name, in lists that an entry is put into.
use Rattle.std.proofs.Common.{◌≡◌, ◌≢◌, ◌<◌, ◌≤◌, ℕ, ◌+◌, List, [], ◌∷◌, ◌++◌, length, get_or, set, suc, Option, None, Some, Bool, true, false, refl, inl, inr, subst, ap, sym, ◌∙◌, arith}
use Rattle.std.specs.Prelude.{if◌then◌else◌, nat_lt, position, MatchOption, Result, Ok, Err, OnOk, OnErr}
use borrow.Author.Tests.{ltb-true, ltb-false}
use Rattle.std.specs.Str.{bytes_eq}
use Rattle.std.proofs.Math.Path.{fun_ext}
use Rattle.std.proofs.lemmas.Slice.Eq.{bytes_eq-Decides}
use Rattle.bk_device.specs.Disk.{Files, replaced}
use Rattle.bk_device.specs.Held.{place_of}
use Rattle.bk_device.specs.Replay.{look}
use Rattle.bk_device.specs.Names.{true_or_false}

equal : (name other : List ℕ) → bytes_eq name other ≡ true → name ≡ other
equal name other test = (bytes_eq-Decides name other).0 test

differs : (name other : List ℕ) → other ≢ name → bytes_eq name other ≡ false
differs name other differ = elim (true_or_false (bytes_eq name other)) [ inl on ↦ absurd (differ (sym (equal name other on))) | inr off ↦ off ]

-- an entry of another name stands before
step_past : {X : Type 0} (key : X → List ℕ) (content : X → Option (List ℕ)) (entry : X) (rest changed : List X) (name other : List ℕ) (put : Option (List ℕ)) → bytes_eq (key entry) name ≡ false → look key content changed other ≡ (if bytes_eq name other then put else look key content rest other) → look key content (entry ∷ changed) other ≡ (if bytes_eq name other then put else look key content (entry ∷ rest) other)
step_past key content entry rest changed name other put off same =
    elim (true_or_false (bytes_eq (key entry) other)) [
      | inl here ↦
          let apart : bytes_eq name other ≡ false = differs name other (λ (is : other ≡ name). let both : true ≡ false = sym here ∙ ap (bytes_eq (key entry)) is ∙ off in cc) in
          rw (here, apart) refl
      | inr past ↦ rw past same
    ]

-- the first entry that has the name is changed
put_first : {X : Type 0} (key : X → List ℕ) (content : X → Option (List ℕ)) (entry changed : X) (rest : List X) (name other : List ℕ) → bytes_eq (key entry) name ≡ true → key changed ≡ name → look key content (changed ∷ rest) other ≡ (if bytes_eq name other then content changed else look key content (entry ∷ rest) other)
put_first key content entry changed rest name other on named =
    let renamed : look key content (changed ∷ rest) other ≡ (if bytes_eq name other then content changed else look key content rest other) = ap (λ (n : List ℕ). if bytes_eq n other then content changed else look key content rest other) named in
    let same : key entry ≡ name = equal (key entry) name on in
    elim (true_or_false (bytes_eq name other)) [
      | inl here ↦ renamed ∙ rw here refl
      | inr past ↦
          let skipped : bytes_eq (key entry) other ≡ false = ap (λ (n : List ℕ). bytes_eq n other) same ∙ past in
          renamed ∙ rw (past, skipped) refl
    ]

pub look-push : {X : Type 0} (key : X → List ℕ) (content : X → Option (List ℕ)) (entries : List X) (entry : X) (name other : List ℕ) → length entries ≤ place_of key entries name → key entry ≡ name → look key content (entries ++ entry ∷ []) other ≡ (if bytes_eq name other then content entry else look key content entries other)
look-push key content [] entry name other absent named = ap (λ (n : List ℕ). if bytes_eq n other then content entry else None) named
look-push key content (first ∷ entries) entry name other absent named =
    elim (true_or_false (bytes_eq (key first) name)) [
      | inl on ↦ let at : suc (length entries) ≤ 0 = rw on at absent in absurd (omega arith)
      | inr off ↦
          let beyond : suc (length entries) ≤ 1 + place_of key entries name = rw off at absent in
          step_past key content first entries (entries ++ entry ∷ []) name other (content entry) off (look-push key content entries entry name other (omega arith) named)
    ]

pub look-set : {X : Type 0} (key : X → List ℕ) (content : X → Option (List ℕ)) (entries : List X) (entry : X) (name other : List ℕ) → place_of key entries name < length entries → key entry ≡ name → look key content (set entries (place_of key entries name) entry) other ≡ (if bytes_eq name other then content entry else look key content entries other)
look-set key content [] entry name other inside named = absurd (omega arith)
look-set key content (first ∷ entries) entry name other inside named =
    elim (true_or_false (bytes_eq (key first) name)) [
      | inl on ↦ rw on (put_first key content first entry entries name other on named)
      | inr off ↦
          let beyond : 1 + place_of key entries name < suc (length entries) = rw off at inside in
          let next : 1 + place_of key entries name ≡ suc (place_of key entries name) = omega arith in
          rw (off, next) (step_past key content first entries (set entries (place_of key entries name) entry) name other (content entry) off (look-set key content entries entry name other (omega arith) named))
    ]

pub look-found : {X : Type 0} (key : X → List ℕ) (content : X → Option (List ℕ)) (entries : List X) (name : List ℕ) (d : X) → place_of key entries name < length entries → (look key content entries name ≡ content (get_or entries (place_of key entries name) d)) × (key (get_or entries (place_of key entries name) d) ≡ name)
look-found key content [] name d inside = absurd (omega arith)
look-found key content (first ∷ entries) name d inside =
    elim (true_or_false (bytes_eq (key first) name)) [
      | inl on ↦ rw on (refl, equal (key first) name on)
      | inr off ↦
          let beyond : 1 + place_of key entries name < suc (length entries) = rw off at inside in
          let next : 1 + place_of key entries name ≡ suc (place_of key entries name) = omega arith in
          rw (off, next) (look-found key content entries name d (omega arith))
    ]

pub look-absent : {X : Type 0} (key : X → List ℕ) (content : X → Option (List ℕ)) (entries : List X) (name : List ℕ) → length entries ≤ place_of key entries name → look key content entries name ≡ None
look-absent key content [] name absent = refl
look-absent key content (first ∷ entries) name absent =
    elim (true_or_false (bytes_eq (key first) name)) [
      | inl on ↦ let at : suc (length entries) ≤ 0 = rw on at absent in absurd (omega arith)
      | inr off ↦
          let beyond : suc (length entries) ≤ 1 + place_of key entries name = rw off at absent in
          rw off (look-absent key content entries name (omega arith))
    ]

pub place_of-push : {X : Type 0} (key : X → List ℕ) (entries : List X) (entry : X) (name : List ℕ) → length entries ≤ place_of key entries name → key entry ≡ name → place_of key (entries ++ entry ∷ []) name ≡ length entries
place_of-push key [] entry name absent named = rw ((bytes_eq-Decides (key entry) name).1 named) refl
place_of-push key (first ∷ entries) entry name absent named =
    elim (true_or_false (bytes_eq (key first) name)) [
      | inl on ↦ let at : suc (length entries) ≤ 0 = rw on at absent in absurd (omega arith)
      | inr off ↦
          let beyond : suc (length entries) ≤ 1 + place_of key entries name = rw off at absent in
          let rest : place_of key (entries ++ entry ∷ []) name ≡ length entries = place_of-push key entries entry name (omega arith) named in
          rw off (omega (arith, rest))
    ]

pub replaced_same : (files : Files) (name : List ℕ) → replaced files name (files name) ≡ files
replaced_same files name = fun_ext (λ other. elim (true_or_false (bytes_eq name other)) [
  | inl on ↦ let is : name ≡ other = equal name other on in rw on (ap files is)
  | inr off ↦ rw off refl
])

-- one entry is changed: one file is replaced
pub files_put : {X : Type 0} (key : X → List ℕ) (content : X → Option (List ℕ)) (entries : List X) (entry : X) (name : List ℕ) → place_of key entries name < length entries → key entry ≡ name → look key content (set entries (place_of key entries name) entry) ≡ replaced (look key content entries) name (content entry)
files_put key content entries entry name inside named = fun_ext (λ other. look-set key content entries entry name other inside named)

-- one entry is changed, and its content stays
pub files_kept : {X : Type 0} (key : X → List ℕ) (content : X → Option (List ℕ)) (entries : List X) (entry : X) (name : List ℕ) → place_of key entries name < length entries → key entry ≡ name → content entry ≡ look key content entries name → look key content (set entries (place_of key entries name) entry) ≡ look key content entries
files_kept key content entries entry name inside named same =
    files_put key content entries entry name inside named
    ∙ ap (replaced (look key content entries) name) same
    ∙ replaced_same (look key content entries) name

-- an entry with no content is added
pub files_more : {X : Type 0} (key : X → List ℕ) (content : X → Option (List ℕ)) (entries : List X) (entry : X) (name : List ℕ) → length entries ≤ place_of key entries name → key entry ≡ name → content entry ≡ None → look key content (entries ++ entry ∷ []) ≡ look key content entries
files_more key content entries entry name absent named none =
    let pushed : look key content (entries ++ entry ∷ []) ≡ replaced (look key content entries) name (content entry) = fun_ext (λ other. look-push key content entries entry name other absent named) in
    let same : content entry ≡ look key content entries name = none ∙ sym (look-absent key content entries name absent) in
    pushed ∙ ap (replaced (look key content entries) name) same ∙ replaced_same (look key content entries) name

found_at : {X : Type 0} (key : X → List ℕ) (entries : List X) (name : List ℕ) (test : Bool) → nat_lt (place_of key entries name) (length entries) ≡ test → MatchOption (if test then Some (place_of key entries name) else None) (length entries ≤ place_of key entries name) (λ i. (i ≡ place_of key entries name) × (i < length entries))
found_at key entries name true is = (refl, ltb-true (place_of key entries name) (length entries) is)
found_at key entries name false is = ltb-false (place_of key entries name) (length entries) is

-- what a search for a name found
pub found : {X : Type 0} (key : X → List ℕ) (entries : List X) (name : List ℕ) (result : Option ℕ) → result ≡ position (λ entry. bytes_eq (key entry) name) entries → MatchOption result (length entries ≤ place_of key entries name) (λ i. (i ≡ place_of key entries name) × (i < length entries))
found key entries name result is =
    let At : Option ℕ → Type 0 = λ r. MatchOption r (length entries ≤ place_of key entries name) (λ i. (i ≡ place_of key entries name) × (i < length entries)) in
    subst At (sym is) (found_at key entries name (nat_lt (place_of key entries name) (length entries)) refl)

-- The entry of a name, found at a place, and another put there.

pub look_at : {X : Type 0} (key : X → List ℕ) (content : X → Option (List ℕ)) (entries : List X) (i : ℕ) (entry : X) (name : List ℕ) → i ≡ place_of key entries name → i < length entries → entry ≡ get_or entries i entry → look key content entries name ≡ content entry
look_at key content entries i entry name place inside is =
    let there : get_or entries (place_of key entries name) entry ≡ entry = ap (λ (k : ℕ). get_or entries k entry) (sym place) ∙ sym is in
    (look-found key content entries name entry (omega arith)).0 ∙ ap content there

pub name_at : {X : Type 0} (key : X → List ℕ) (entries : List X) (i : ℕ) (entry : X) (name : List ℕ) → i ≡ place_of key entries name → i < length entries → entry ≡ get_or entries i entry → key entry ≡ name
name_at key entries i entry name place inside is =
    let there : get_or entries (place_of key entries name) entry ≡ entry = ap (λ (k : ℕ). get_or entries k entry) (sym place) ∙ sym is in
    ap key (sym there) ∙ (look-found key (λ _. None) entries name entry (omega arith)).1

pub files_put_at : {X : Type 0} (key : X → List ℕ) (content : X → Option (List ℕ)) (entries : List X) (i : ℕ) (entry changed : X) (name : List ℕ) → i ≡ place_of key entries name → i < length entries → entry ≡ get_or entries i entry → key changed ≡ key entry → look key content (set entries i changed) ≡ replaced (look key content entries) name (content changed)
files_put_at key content entries i entry changed name place inside is named =
    ap (λ (k : ℕ). look key content (set entries k changed)) place
    ∙ files_put key content entries changed name (omega arith) (named ∙ name_at key entries i entry name place inside is)

pub files_kept_at : {X : Type 0} (key : X → List ℕ) (content : X → Option (List ℕ)) (entries : List X) (i : ℕ) (entry changed : X) (name : List ℕ) → i ≡ place_of key entries name → i < length entries → entry ≡ get_or entries i entry → key changed ≡ key entry → content changed ≡ content entry → look key content (set entries i changed) ≡ look key content entries
files_kept_at key content entries i entry changed name place inside is named same =
    ap (λ (k : ℕ). look key content (set entries k changed)) place
    ∙ files_kept key content entries changed name (omega arith) (named ∙ name_at key entries i entry name place inside is) (same ∙ sym (look_at key content entries i entry name place inside is))

-- a search found none: to remove the file changes nothing
pub files_none : {X : Type 0} (key : X → List ℕ) (content : X → Option (List ℕ)) (entries : List X) (name : List ℕ) → length entries ≤ place_of key entries name → replaced (look key content entries) name None ≡ look key content entries
files_none key content entries name absent =
    ap (replaced (look key content entries) name) (sym (look-absent key content entries name absent)) ∙ replaced_same (look key content entries) name

-- from what holds on one variant of a result, to what follows from it

pub on_ok : {T E P Q : Type 0} (result : Result T E) → (P → Q) → OnOk result P → OnOk result Q
on_ok (Ok value) leads holds = leads holds
on_ok (Err error) leads holds = holds

pub on_err : {T E P Q : Type 0} (result : Result T E) → (P → Q) → OnErr result P → OnErr result Q
on_err (Ok value) leads holds = holds
on_err (Err error) leads holds = leads holds
