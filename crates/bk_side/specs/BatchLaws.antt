-- What a batch makes of pages, and what a write of one page leaves of the others.
use Rattle.std.proofs.Common.{◌≡◌, ◌≢◌, ◌⊎◌, ◌≤◌, ◌+◌, ◌*◌, ◌==◌, ◌&&◌, ℕ, Bool, true, false, cond, List, [], ◌∷◌, ◌++◌, length, take, Option, Some, None, refl, inl, inr, sym, ap, subst, ◌∙◌, arith}
use Rattle.std.specs.Option.{option_map_or}
use Rattle.std.specs.List.{AllByRecursion}
use Rattle.std.proofs.lemmas.Bool.{cases_lt}
use Rattle.std.proofs.lemmas.Bool.Decides.{eqb_tells}
use Rattle.bk_device.specs.Calls.{contents, IsTorn, LeavesWrite}
use Rattle.bk_device.specs.Disk.{Files}
use Rattle.bk_device.specs.Laws.{torn-contents, length-read_at}
use Rattle.bk_device.specs.Torn.{length-torn, read_at-torn, drop-torn}
use Rattle.std.proofs.Math.Bool.{and-false}
use Rattle.bk_gate.specs.LemmasTests.{equal_or_not}
use Rattle.bk_side.specs.Names.{name_of, AreDifferent}
use Rattle.bk_side.specs.Pages.{Entry, page_eq, page_in, content_of, page_of, batched}

-- the test of two pages tells
pub page_tells : (a b : ℕ × ℕ) → ((page_eq a b ≡ true) × (a ≡ b)) ⊎ ((page_eq a b ≡ false) × (a ≢ b))
page_tells (f, p) (g, q) = elim (eqb_tells f g) [
  | inl file ↦ elim (eqb_tells p q) [
    | inl page ↦ inl (cc, cc)
    | inr page ↦ inr (cc, λ same. page.1 (ap (λ (x : ℕ × ℕ). x.1) same))
  ]
  | inr file ↦ inr (cc, λ same. file.1 (ap (λ (x : ℕ × ℕ). x.0) same))
]

-- one entry

abbrev pub put : Entry → ℕ × ℕ → List ℕ → List ℕ
put e at page = cond (page_eq e.0 at && length page == 8192) e.1 page

pub put_here : (e : Entry) (at : ℕ × ℕ) (page : List ℕ) → e.0 ≡ at → length page ≡ 8192 → put e at page ≡ e.1
put_here e at page same size = elim (page_tells e.0 at) [
  | inl yes' ↦ elim (eqb_tells (length page) 8192) [
    | inl whole ↦ ap (λ (b : Bool). cond (b && length page == 8192) e.1 page) yes'.0 ∙ ap (λ (b : Bool). cond b e.1 page) whole.0
    | inr short ↦ absurd (short.1 size)
  ]
  | inr no' ↦ absurd (no'.1 same)
]

pub put_other : (e : Entry) (at : ℕ × ℕ) (page : List ℕ) → e.0 ≢ at → put e at page ≡ page
put_other e at page differ = elim (page_tells e.0 at) [
  | inl yes' ↦ absurd (differ yes'.1)
  | inr no' ↦ ap (λ (b : Bool). cond (b && length page == 8192) e.1 page) no'.0
]

pub put_short : (e : Entry) (at : ℕ × ℕ) (page : List ℕ) → length page ≢ 8192 → put e at page ≡ page
put_short e at page short = elim (eqb_tells (length page) 8192) [
  | inl whole ↦ absurd (short whole.1)
  | inr no' ↦ ap (λ (b : Bool). cond (page_eq e.0 at && b) e.1 page) no'.0 ∙ ap (λ (b : Bool). cond b e.1 page) (and-false (page_eq e.0 at))
]

-- an entry that doesn't fit a page leaves it
pub put_away : (e : Entry) (at : ℕ × ℕ) (page : List ℕ) → (e.0 ≡ at → length page ≢ 8192) → put e at page ≡ page
put_away e at page away = elim (page_tells e.0 at) [
  | inl same ↦ put_short e at page (away same.1)
  | inr other ↦ put_other e at page other.1
]

put_length : (e : Entry) (at : ℕ × ℕ) (page : List ℕ) → length e.1 ≡ 8192 → length (put e at page) ≡ length page
put_length e at page whole = elim (page_tells e.0 at) [
  | inl same ↦ elim (eqb_tells (length page) 8192) [
    | inl is ↦ ap length (put_here e at page same.1 is.1) ∙ whole ∙ sym is.1
    | inr short ↦ ap length (put_short e at page short.1)
  ]
  | inr other ↦ ap length (put_other e at page other.1)
]

-- a batch

-- each entry has a whole page
abbrev pub AreWhole : List Entry → Type 0
AreWhole batch = AllByRecursion (λ (e : Entry). length e.1 ≡ 8192) batch

-- the batch has an entry for the page
abbrev pub HasPage : ℕ × ℕ → List Entry → Type 0
HasPage at [] = ⊥
HasPage at (e ∷ batch) = (e.0 ≡ at) ⊎ HasPage at batch

-- where it has one, what stood there doesn't count
pub absorbs : (batch : List Entry) (at : ℕ × ℕ) (x y : List ℕ) → HasPage at batch → length x ≡ 8192 → length y ≡ 8192 → batched batch at x ≡ batched batch at y
absorbs [] at x y has sx sy = absurd has
absorbs (e ∷ batch) at x y has sx sy = elim (page_tells e.0 at) [
  | inl same ↦ ap (batched batch at) (put_here e at x same.1 sx ∙ sym (put_here e at y same.1 sy))
  | inr other ↦
      let rest : HasPage at batch = elim has [ inl here ↦ absurd (other.1 here) | inr there ↦ there ] in
      ap (batched batch at) (put_other e at x other.1) ∙ absorbs batch at x y rest sx sy ∙ sym (ap (batched batch at) (put_other e at y other.1))
]

pub batched_length : (batch : List Entry) (at : ℕ × ℕ) (page : List ℕ) → AreWhole batch → length (batched batch at page) ≡ length page
batched_length [] at page whole = refl
batched_length (e ∷ batch) at page whole = batched_length batch at (put e at page) whole.1 ∙ put_length e at page whole.0

again : (batch : List Entry) (at : ℕ × ℕ) (x y : List ℕ) → AreWhole batch → length x ≡ length y → (x ≡ y) ⊎ (x ≡ batched batch at y) → batched batch at x ≡ batched batch at y
again [] at x y whole size same = elim same [ inl here ↦ here | inr here ↦ here ]
again (e ∷ batch) at x y whole size same =
    let left : put e at x ≡ x → put e at y ≡ y → (put e at x ≡ put e at y) ⊎ (put e at x ≡ batched batch at (put e at y)) =
    λ px py. elim same [ inl here ↦ inl (px ∙ here ∙ sym py) | inr here ↦ inr (px ∙ here) ] in
    again batch at (put e at x) (put e at y) whole.1 (put_length e at x whole.0 ∙ size ∙ sym (put_length e at y whole.0)) (elim (page_tells e.0 at) [
      | inl here ↦ elim (eqb_tells (length x) 8192) [
        | inl is ↦ inl (put_here e at x here.1 is.1 ∙ sym (put_here e at y here.1 (sym size ∙ is.1)))
        | inr short ↦ left (put_short e at x short.1) (put_short e at y (λ is. short.1 (size ∙ is)))
      ]
      | inr other ↦ left (put_other e at x other.1) (put_other e at y other.1)
    ])

-- a batch over what it makes of a page is that
pub twice : (batch : List Entry) (at : ℕ × ℕ) (page : List ℕ) → AreWhole batch → batched batch at (batched batch at page) ≡ batched batch at page
twice batch at page whole = again batch at (batched batch at page) page whole (batched_length batch at page whole) (inr refl)

-- one more entry at the end counts over all before it
pub batched_last : (batch : List Entry) (e : Entry) (at : ℕ × ℕ) (page : List ℕ) → batched (batch ++ e ∷ []) at page ≡ put e at (batched batch at page)
batched_last [] e at page = refl
batched_last (d ∷ batch) e at page = batched_last batch e at (put d at page)

-- what files hold by number

pub content_at : (names : List (List ℕ)) (files : Files) (file : ℕ) (name : List ℕ) → name_of names file ≡ Some name → content_of names files file ≡ contents (files name)
content_at names files file name is = ap (λ (o : Option (List ℕ)). option_map_or (λ (n : List ℕ). contents (files n)) o []) is

pub content_none : (names : List (List ℕ)) (files : Files) (file : ℕ) → name_of names file ≡ None → content_of names files file ≡ []
content_none names files file none = ap (λ (o : Option (List ℕ)). option_map_or (λ (n : List ℕ). contents (files n)) o []) none

-- files that agree under the name of a number hold the same
pub content_same : (names : List (List ℕ)) (f g : Files) (file : ℕ) → ((name : List ℕ) → name_of names file ≡ Some name → g name ≡ f name) → content_of names g file ≡ content_of names f file
content_same names f g file agree = go (name_of names file) refl
  where
    go : (o : Option (List ℕ)) → name_of names file ≡ o → content_of names g file ≡ content_of names f file
    go None none = content_none names g file none ∙ sym (content_none names f file none)
    go (Some name) is = content_at names g file name is ∙ ap contents (agree name is) ∙ sym (content_at names f file name is)

-- a page that lies whole in a file has its length
pub whole_page : (content : List ℕ) (page : ℕ) → 8192 * page + 8192 ≤ length content → length (page_in content page) ≡ 8192
whole_page content page inside = length-read_at content (8192 * page) 8192 inside

-- a write of one page that lies whole in its file

torn_page : (page p : ℕ) (before after : List ℕ) → p ≢ page → 8192 * page + 8192 ≤ length before → IsTorn (8192 * page) 8192 before after → page_in after p ≡ page_in before p
torn_page page p before after differ inside torn = elim (cases_lt p page) [
  | inl less ↦ read_at-torn (8192 * p) 8192 (8192 * page) 8192 before after (omega (arith, less, inside)) (inl (omega (arith, less))) torn
  | inr more ↦ elim (cases_lt page p) [
    | inl less ↦ ap (take 8192) (drop-torn (8192 * p) (8192 * page) 8192 before after (omega (arith, less)) torn)
    | inr least ↦ absurd (differ (omega (arith, more, least)))
  ]
]

module _ (names : List (List ℕ)) (different : AreDifferent names) (file page : ℕ) (name : List ℕ) (is : name_of names file ≡ Some name) (before after : Files)
    (leaves : LeavesWrite (8192 * page) 8192 (before name) (after name)) (others : (other : List ℕ) → other ≢ name → after other ≡ before other)
    (inside : 8192 * page + 8192 ≤ length (contents (before name))) where
  -- the content of another file is as it was
  torn_other : (other : ℕ) → other ≢ file → content_of names after other ≡ content_of names before other
  torn_other other differ = content_same names before after other (λ there at. others there (λ same.
      let At : List ℕ → Type 0 = λ n. name_of names other ≡ Some n in
      differ (different file other name is (subst At same at))))

  torn_here : IsTorn (8192 * page) 8192 (contents (before name)) (contents (after name))
  torn_here = torn-contents (8192 * page) 8192 (before name) (after name) leaves

  -- files keep their lengths
  pub torn_sizes : (other : ℕ) → length (content_of names after other) ≡ length (content_of names before other)
  torn_sizes other = elim (equal_or_not other file) [
    | inl same ↦
        let At : ℕ → Type 0 = λ f. length (content_of names after f) ≡ length (content_of names before f) in
        subst At (sym same) (ap length (content_at names after file name is) ∙ length-torn (8192 * page) 8192 (contents (before name)) (contents (after name)) inside torn_here ∙ sym (ap length (content_at names before file name is)))
    | inr differ ↦ ap length (torn_other other differ)
  ]

  -- and other pages their bytes
  pub torn_pages : (at : ℕ × ℕ) → (file, page) ≢ at → page_of names after at ≡ page_of names before at
  torn_pages (f, p) differ = elim (equal_or_not f file) [
    | inl same ↦
        let apart : p ≢ page = λ at. differ (ap (λ (g : ℕ). (g, page)) (sym same) ∙ ap (λ (q : ℕ). (f, q)) (sym at)) in
        let At : ℕ → Type 0 = λ g. page_in (content_of names after g) p ≡ page_in (content_of names before g) p in
        subst At (sym same) (ap (λ (c : List ℕ). page_in c p) (content_at names after file name is) ∙ torn_page page p (contents (before name)) (contents (after name)) apart inside torn_here ∙ sym (ap (λ (c : List ℕ). page_in c p) (content_at names before file name is)))
    | inr other ↦ ap (λ (c : List ℕ). page_in c p) (torn_other f other)
  ]
