-- How what a pool keeps of its parts is kept.
use Rattle.std.proofs.Common.{◌≡◌, ◌≢◌, ◌⊎◌, ◌<◌, ℕ, Bool, true, false, cond, ◌&&◌, List, length, replicate, Option, Some, None, slice_get, refl, inl, inr, sym, ap, subst, ◌∙◌, true≢false, arith}
use Rattle.std.specs.Prelude.{slice_set, slice_index_or, MatchOption}
use Rattle.std.proofs.lemmas.Bool.Decides.{eqb_tells}
use Rattle.std.proofs.lemmas.List.{length-replicate, length-set}
use Rattle.std.proofs.lemmas.Option.{slice_get_within, slice_get_read}
use Rattle.std.proofs.lemmas.Bool.{and_parts}
use Rattle.bk_lemmas.specs.Tests.{equal_or_not}
use Rattle.bk_pool.specs.Laws.{replicated, slice_get-set_other, slice_get-set_same}
use Rattle.bk_pool.specs.Pool.{IsIn, IsAbsent, IsFound}
use Rattle.bk_pool.specs.Sound.{page_eq, without, HoldsPage, Leads, Notes, IsSound}

-- the test of two pages tells
page_tells : (a b : ℕ × ℕ) → ((page_eq a b ≡ true) × (a ≡ b)) ⊎ ((page_eq a b ≡ false) × (a ≢ b))
page_tells (f, p) (g, q) = elim (eqb_tells f g) [
  | inl file ↦ elim (eqb_tells p q) [
    | inl page ↦ inl (cc, cc)
    | inr page ↦ inr (cc, λ same. page.1 (ap (λ (x : ℕ × ℕ). x.1) same))
  ]
  | inr file ↦ inr (cc, λ same. file.1 (ap (λ (x : ℕ × ℕ). x.0) same))
]

-- a pool without pages
pub new_sound : (n : ℕ) (index : ℕ × ℕ → Option ℕ) → IsSound (replicate n None) (replicate n false) (replicate n false) index true
new_sound n index =
    let none : (i file page : ℕ) → IsIn (replicate n None) i file page → ⊥ = λ i file page there. let same : ◌≡◌ {A = Option (ℕ × ℕ)} (Some (file, page)) None = replicated n i None (Some (file, page)) there in absurd cc in
    record {
      marks = length-replicate n false ∙ sym (length-replicate {A = Option (ℕ × ℕ)} n None);
      uses = length-replicate n false ∙ sym (length-replicate {A = Option (ℕ × ℕ)} n None);
      held = λ i dirty. absurd (true≢false (replicated n i false true dirty));
      once = λ i j file page there other. absurd (none i file page there);
      leads = λ _ i file page there. absurd (none i file page there);
    }

-- a frame that holds a page is made dirty
pub dirty_sound : {pages : List (Option (ℕ × ℕ))} {dirty used : List Bool} {index : ℕ × ℕ → Option ℕ} {is_whole : Bool} (i : ℕ)
    → IsSound pages dirty used index is_whole → HoldsPage pages i → IsSound pages (slice_set dirty i true) (slice_set used i true) index is_whole
dirty_sound {pages = pages} {dirty = dirty} {used = used} i is holds = record {
  marks = length-set dirty i true ∙ is.marks;
  uses = length-set used i true ∙ is.uses;
  held = λ j marked. elim (equal_or_not j i) [
    | inl same ↦ subst (HoldsPage pages) (sym same) holds
    | inr other ↦ is.held j (sym (slice_get-set_other dirty i j true other) ∙ marked)
  ];
  once = is.once;
  leads = is.leads;
}

-- the index leads to all pages but that of one frame
abbrev pub LeadsOthers : (ℕ × ℕ → Option ℕ) → List (Option (ℕ × ℕ)) → ℕ → Type 0
LeadsOthers index pages i = (j file page : ℕ) → j ≢ i → IsIn pages j file page → index (file, page) ≡ Some j

-- so where the page of that frame was taken out of it
pub leads_without : (pages : List (Option (ℕ × ℕ))) (index : ℕ × ℕ → Option ℕ) (i : ℕ) (old : Option (ℕ × ℕ))
    → ((i j file page : ℕ) → IsIn pages i file page → IsIn pages j file page → j ≡ i)
    → slice_get pages i ≡ Some old → Leads index pages → LeadsOthers (without index old) pages i
leads_without pages index i None once held leads j file page other there = leads j file page there
leads_without pages index i (Some old) once held leads j file page other there = elim (page_tells old (file, page)) [
  | inl same ↦ absurd (other (once i j file page (held ∙ ap (λ (p : ℕ × ℕ). Some (Some p)) same.1) there))
  | inr apart ↦ ap (λ (b : Bool). cond b None (index (file, page))) apart.0 ∙ leads j file page there
]

-- and to all pages once that frame's new page is put into it
pub leads_put : (pages : List (Option (ℕ × ℕ))) (less index : ℕ × ℕ → Option ℕ) (i file page : ℕ)
    → i < length pages → IsAbsent pages file page → LeadsOthers less pages i
    → ((q : ℕ × ℕ) → index q ≡ cond (page_eq (file, page) q) (Some i) (less q))
    → Leads index (slice_set pages i (Some (file, page)))
leads_put pages less index i file page below absent others is j f p there = elim (equal_or_not j i) [
  | inl same ↦
      let here : slice_get (slice_set pages i (Some (file, page))) j ≡ Some (Some (file, page)) = ap (slice_get (slice_set pages i (Some (file, page)))) same ∙ slice_get-set_same pages i (Some (file, page)) below in
      let both : ◌≡◌ {A = Option (Option (ℕ × ℕ))} (Some (Some (f, p))) (Some (Some (file, page))) = sym there ∙ here in
      let pair : ◌≡◌ {A = ℕ × ℕ} (f, p) (file, page) = cc in
      let tested : page_eq (file, page) (f, p) ≡ true = elim (page_tells (file, page) (f, p)) [ inl agree ↦ agree.0 | inr differ ↦ absurd (differ.1 (sym pair)) ] in
      is (f, p) ∙ ap (λ (b : Bool). cond b (Some i) (less (f, p))) tested ∙ ap Some (sym same)
  | inr other ↦
      let before : IsIn pages j f p = sym (slice_get-set_other pages i j (Some (file, page)) other) ∙ there in
      elim (page_tells (file, page) (f, p)) [
        | inl same ↦ absurd (absent j (before ∙ ap (λ (q : ℕ × ℕ). Some (Some q)) (sym same.1)))
        | inr apart ↦ is (f, p) ∙ ap (λ (b : Bool). cond b (Some i) (less (f, p))) apart.0 ∙ others j f p other before
      ]
]

-- a page is put into a clean frame, in place of an old one, and the index notes it or isn't whole
pub put_sound : (pages : List (Option (ℕ × ℕ))) (dirty used : List Bool) (before after : ℕ × ℕ → Option ℕ) (was is_noted : Bool) (i file page : ℕ) (old : Option (ℕ × ℕ))
    → IsSound pages dirty used before was → slice_get dirty i ≡ Some false → IsAbsent pages file page → old ≡ slice_index_or pages i old
    → (is_noted ≡ true → Notes before after old (file, page) i)
    → IsSound (slice_set pages i (Some (file, page))) dirty (slice_set used i true) after (was && is_noted)
put_sound pages dirty used before after was is_noted i file page old is clean absent there_was noted =
    let new = slice_set pages i (Some (file, page)) in
    let below : i < length pages = omega (arith, slice_get_within dirty i false clean, is.marks) in
    let here : (j f p : ℕ) → j ≡ i → IsIn new j f p → (f, p) ≡ (file, page) = λ j f p same there.
    let set : slice_get new j ≡ Some (Some (file, page)) = ap (slice_get new) same ∙ slice_get-set_same pages i (Some (file, page)) below in
    let both : ◌≡◌ {A = Option (Option (ℕ × ℕ))} (Some (Some (f, p))) (Some (Some (file, page))) = sym there ∙ set in cc in
    let there : (j f p : ℕ) → j ≢ i → IsIn new j f p → IsIn pages j f p = λ j f p other at. sym (slice_get-set_other pages i j (Some (file, page)) other) ∙ at in
    record {
      marks = is.marks ∙ sym (length-set pages i (Some (file, page)));
      uses = length-set used i true ∙ is.uses ∙ sym (length-set pages i (Some (file, page)));
      held = λ j marked. elim (equal_or_not j i) [
        | inl same ↦ absurd (let both : ◌≡◌ {A = Option Bool} (Some true) (Some false) = sym marked ∙ (ap (slice_get dirty) same ∙ clean) in cc)
        | inr other ↦ let old = is.held j marked in (old.0, old.1, slice_get-set_other pages i j (Some (file, page)) other ∙ old.2)
      ];
      once = λ j k f p at also. elim (equal_or_not j i) [
        | inl same ↦ elim (equal_or_not k i) [
          | inl too ↦ too ∙ sym same
          | inr other ↦ absurd (absent k (there k f p other also ∙ ap (λ (q : ℕ × ℕ). Some (Some q)) (here j f p same at)))
        ]
        | inr other ↦ elim (equal_or_not k i) [
          | inl same ↦ absurd (absent j (there j f p other at ∙ ap (λ (q : ℕ × ℕ). Some (Some q)) (here k f p same also)))
          | inr too ↦ is.once j k f p (there j f p other at) (there k f p too also)
        ]
      ];
      leads = λ whole.
          let held : slice_get pages i ≡ Some old = slice_get_read pages (length pages) i old refl below there_was in
          let both = and_parts was is_noted whole in
          leads_put pages (without before old) after i file page below absent (leads_without pages before i old is.once held (is.leads both.0)) (noted both.1);
    }

-- a page that was found lies in no other frame
pub found_alone : {pages : List (Option (ℕ × ℕ))} {dirty used : List Bool} {index : ℕ × ℕ → Option ℕ} {is_whole : Bool} (file page : ℕ) (found : Option ℕ)
    → IsSound pages dirty used index is_whole → MatchOption found (IsAbsent pages file page) (λ i. IsIn pages i file page)
    → MatchOption found (IsAbsent pages file page) (IsFound pages file page)
found_alone file page None is absent = absent
found_alone file page (Some i) is here = record { here = here; alone = λ j there. is.once i j file page here there }

-- where the index holds nothing for a page, or a frame in which it doesn't lie, it lies nowhere
pub nowhere : (pages : List (Option (ℕ × ℕ))) (index : ℕ × ℕ → Option ℕ) (file page : ℕ) → Leads index pages
    → ((i : ℕ) → index (file, page) ≡ Some i → IsIn pages i file page → ⊥) → IsAbsent pages file page
nowhere pages index file page leads none i there = none i (leads i file page there) there
