-- Data files with one page more.
use Rattle.std.proofs.Common.{◌≡◌, ◌≢◌, ◌≤◌, ◌<◌, ◌*◌, ℕ, zero, suc, ◌+◌, List, [], ◌∷◌, ◌++◌, take, drop, length, length-append, length-drop, get_or, Option, Some, true, false, refl, inl, inr, sym, ap, subst, ◌∙◌, arith}
use Rattle.std.specs.List.{AllByRecursion}
use Rattle.std.specs.Option.{option_map_or}
use Rattle.std.specs.Prelude.{nat_lt, slice_get}
use Rattle.std.proofs.lemmas.Bool.{cases_lt, cond-false, cond-true, le-ltb, lt-ltb}
use Rattle.std.proofs.lemmas.List.{take_all, take-append-le, drop-append-le, drop_at}
use Rattle.std.proofs.lemmas.Option.{same_Some, slice_get_read, slice_get_within}
use Rattle.bk_device.specs.Calls.{contents}
use Rattle.bk_device.specs.Compose.{effect_widen}
use Rattle.bk_device.specs.Disk.{Files, Disk, IsDurable}
use Rattle.bk_device.specs.Effects.{Effect, IsName}
use Rattle.bk_facts.specs.declared.facts.DataFile.{DataFile}
use Rattle.bk_side.specs.Names.{AreDifferent, IsData, data_file}
use Rattle.bk_side.specs.Pages.{page_in}
use Rattle.bk_filling.specs.Filling.{IsFilling, Kept, Shows, names_of, one_more}
use Rattle.bk_filling.specs.Laws.{is_data, named, still}

-- a data file, where a list needs one
abbrev pub nothing : DataFile
nothing = record { path = []; pages = 0 }

-- ---- the next page

pub more_page : (f : Kept) (d : DataFile) → slice_get f.files f.whole ≡ Some d → f.page + 1 < d.pages → one_more f ≡ record f { page = f.page + 1 }
more_page f d at inside =
    let More : Kept = record f { page = f.page + 1 } in
    let Next : Kept = record f { whole = f.whole + 1; page = 0 } in
    let test : nat_lt (f.page + 1) (option_map_or (λ (e : DataFile). e.pages) (slice_get f.files f.whole) 0) ≡ true =
    ap (λ (o : Option DataFile). nat_lt (f.page + 1) (option_map_or (λ (e : DataFile). e.pages) o 0)) at ∙ lt-ltb (f.page + 1) d.pages inside in
    cond-true (nat_lt (f.page + 1) (option_map_or (λ (e : DataFile). e.pages) (slice_get f.files f.whole) 0)) More Next test

pub last_page : (f : Kept) (d : DataFile) → slice_get f.files f.whole ≡ Some d → d.pages ≤ f.page + 1 → one_more f ≡ record f { whole = f.whole + 1; page = 0 }
last_page f d at past =
    let More : Kept = record f { page = f.page + 1 } in
    let Next : Kept = record f { whole = f.whole + 1; page = 0 } in
    let test : nat_lt (f.page + 1) (option_map_or (λ (e : DataFile). e.pages) (slice_get f.files f.whole) 0) ≡ false =
    ap (λ (o : Option DataFile). nat_lt (f.page + 1) (option_map_or (λ (e : DataFile). e.pages) o 0)) at ∙ le-ltb (f.page + 1) d.pages past in
    cond-false (nat_lt (f.page + 1) (option_map_or (λ (e : DataFile). e.pages) (slice_get f.files f.whole) 0)) More Next test

-- ---- a content with a page more

more_before : (content page : List ℕ) (number n : ℕ) → length content ≡ 8192 * number → n < number → page_in (content ++ page) n ≡ page_in content n
more_before content page number n size less =
    ap (take 8192) (drop-append-le (8192 * n) content page (omega (arith, less, size)))
    ∙ take-append-le 8192 (drop (8192 * n) content) page (omega (arith, less, size, length-drop (8192 * n) content))

more_here : (content page : List ℕ) (number : ℕ) → length content ≡ 8192 * number → length page ≡ 8192 → page_in (content ++ page) number ≡ page
more_here content page number size whole = ap (take 8192) (drop_at content page (8192 * number) size) ∙ take_all 8192 page (omega (arith, whole))

-- its pages are those that are given
more_pages : (content page : List ℕ) (file number n : ℕ) (given : ℕ × ℕ → List ℕ) → length content ≡ 8192 * number → length page ≡ 8192 → ((k : ℕ) → k < number → page_in content k ≡ given (file, k)) → given (file, number) ≡ page → n < number + 1
    → page_in (content ++ page) n ≡ given (file, n)
more_pages content page file number n given size whole before here below = elim (cases_lt n number) [
  | inl less ↦ more_before content page number n size less ∙ before n less
  | inr more ↦
      let last : number ≡ n = omega (arith, below, more) in
      subst (λ (k : ℕ). page_in (content ++ page) k ≡ given (file, k)) last (more_here content page number size whole ∙ sym here)
]

-- ---- the other data files

apart : (files : List DataFile) (i j : ℕ) (d e : DataFile) → AreDifferent (names_of files) → slice_get files i ≡ Some d → slice_get files j ≡ Some e → j ≢ i → data_file e.path ≢ data_file d.path
apart files i j d e different here there off same =
    let one : suc j ≡ suc i = different (suc i) (suc j) (data_file d.path) (named files i d here) (named files j e there ∙ ap Some same) in
    off (omega (arith, one))

-- each of them has a page
pub has_page : (P : DataFile → Type 0) (files : List DataFile) (i : ℕ) (d : DataFile) → AllByRecursion P files → slice_get files i ≡ Some d → P d
has_page P [] i d all at = absurd cc
has_page P (f ∷ files) zero d all at = subst P (same_Some f d at) all.0
has_page P (f ∷ files) (suc i) d all at = has_page P files i d all.1 at

pub page_effect : {P : Files → Type 0} (files : List DataFile) (i : ℕ) (d : DataFile) (a b : Disk) → slice_get files i ≡ Some d → Effect (IsName (data_file d.path)) P a b → Effect (IsData (names_of files)) (λ _. Unit {0}) a b
page_effect files i d a b at effect = effect_widen (λ name is. subst (IsData (names_of files)) (sym is) (is_data files i d at)) (λ image was left. tt) effect

module _ (f : Kept) (d : DataFile) (a b : Disk) (page : List ℕ) (different : AreDifferent (names_of f.files)) (at : slice_get f.files f.whole ≡ Some d) (effect : Effect (IsName (data_file d.path)) (λ _. Unit {0}) a b) (stands : IsFilling a f)
    (more : contents (b.files (data_file d.path)) ≡ contents (a.files (data_file d.path)) ++ page) (size : length page ≡ 8192) where
  off : (j : ℕ) (e : DataFile) → slice_get f.files j ≡ Some e → j ≢ f.whole → data_file e.path ≢ data_file d.path
  off j e there other = apart f.files f.whole j d e different at there other

  same : (j : ℕ) (e : DataFile) → slice_get f.files j ≡ Some e → j ≢ f.whole → b.files (data_file e.path) ≡ a.files (data_file e.path)
  same j e there other = effect.others (data_file e.path) (off j e there other)

  later : (j : ℕ) (e : DataFile) → f.whole < j → slice_get f.files j ≡ Some e → length (contents (b.files (data_file e.path))) ≡ 0
  later j e high there = ap (λ (o : Option (List ℕ)). length (contents o)) (same j e there (λ is. absurd (omega (arith, high, is)))) ∙ stands.later j e high there

  before : (j : ℕ) (e : DataFile) → j < f.whole → slice_get f.files j ≡ Some e → IsDurable b (data_file e.path)
  before j e low there = still (data_file d.path) (data_file e.path) a b effect (off j e there (λ is. absurd (omega (arith, low, is)))) (stands.durable j e low there)

  one : (e : DataFile) → slice_get f.files f.whole ≡ Some e → d ≡ e
  one e there = same_Some d e (sym at ∙ there)

  pages : (given : ℕ × ℕ → List ℕ) (number : ℕ) → Shows a.files f given → given (f.whole + 1, f.page) ≡ page → number < f.page + 1 → page_in (contents (b.files (data_file d.path))) number ≡ given (f.whole + 1, number)
  pages given number shows here below =
      ap (λ (c : List ℕ). page_in c number) more
      ∙ more_pages (contents (a.files (data_file d.path))) page (f.whole + 1) f.page number given (stands.begun d at) size (λ k less. shows.begun d k at less) here below

  pub put_stands : IsFilling b (record f { page = f.page + 1 })
  put_stands = record {
    durable = before;
    begun = λ e there.
        subst (λ (x : DataFile). length (contents (b.files (data_file x.path))) ≡ 8192 * (f.page + 1)) (one e there)
        (ap length more ∙ length-append (contents (a.files (data_file d.path))) page ∙ omega (arith, stands.begun d at, size));
    later = later;
  }

  pub put_shows : (given : ℕ × ℕ → List ℕ) → Shows a.files f given → given (f.whole + 1, f.page) ≡ page → Shows b.files (record f { page = f.page + 1 }) given
  put_shows given shows here = record {
    whole = λ j e number low there inside. ap (λ (o : Option (List ℕ)). page_in (contents o) number) (same j e there (λ is. absurd (omega (arith, low, is)))) ∙ shows.whole j e number low there inside;
    begun = λ e number there inside. subst (λ (x : DataFile). page_in (contents (b.files (data_file x.path))) number ≡ given (f.whole + 1, number)) (one e there) (pages given number shows here inside);
  }

  pub last_stands : IsDurable b (data_file d.path) → IsFilling b (record f { whole = f.whole + 1; page = 0 })
  last_stands durable = record {
    durable = λ j e low there. elim (cases_lt j f.whole) [
      | inl less ↦ before j e less there
      | inr most ↦
          let is : j ≡ f.whole = omega (arith, low, most) in
          subst (λ (x : DataFile). IsDurable b (data_file x.path)) (one e (ap (slice_get f.files) (sym is) ∙ there)) durable
    ];
    begun = λ e there. later (f.whole + 1) e (omega arith) there;
    later = λ j e high there. later j e (omega (arith, high)) there;
  }

  pub last_shows : (given : ℕ × ℕ → List ℕ) → d.pages ≡ f.page + 1 → Shows a.files f given → given (f.whole + 1, f.page) ≡ page → Shows b.files (record f { whole = f.whole + 1; page = 0 }) given
  last_shows given last shows here = record {
    whole = λ j e number low there inside. elim (cases_lt j f.whole) [
      | inl less ↦ ap (λ (o : Option (List ℕ)). page_in (contents o) number) (same j e there (λ is. absurd (omega (arith, less, is)))) ∙ shows.whole j e number less there inside
      | inr most ↦
          let is : f.whole ≡ j = omega (arith, low, most) in
          let mine : d ≡ e = one e (ap (slice_get f.files) is ∙ there) in
          let below : number < f.page + 1 = omega (arith, subst (λ (x : DataFile). number < x.pages) (sym mine) inside, last) in
          subst (λ (k : ℕ). page_in (contents (b.files (data_file e.path))) number ≡ given (k + 1, number)) is
          (subst (λ (x : DataFile). page_in (contents (b.files (data_file x.path))) number ≡ given (f.whole + 1, number)) mine (pages given number shows here below))
    ];
    begun = λ e number there inside. absurd (omega (arith, inside));
  }

-- the name of the file of the next page
pub next_name : (files : List DataFile) (names : List (List ℕ)) (i : ℕ) (d : DataFile) (name : List ℕ) → names ≡ names_of files → slice_get files i ≡ Some d → name ≡ get_or names i name → name ≡ data_file d.path
next_name files names i d name are at is =
    let there : slice_get names i ≡ Some (data_file d.path) = ap (λ (ns : List (List ℕ)). slice_get ns i) are ∙ named files i d at in
    let here : slice_get names i ≡ Some name = slice_get_read names (length names) i name refl (slice_get_within names i (data_file d.path) there) is in
    same_Some name (data_file d.path) (sym here ∙ there)
