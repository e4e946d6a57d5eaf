-- The places of pages, and the frames that are put for them.
use Rattle.std.proofs.Common.{◌≡◌, ◌≢◌, ◌≤◌, ◌<◌, ◌⊎◌, ℕ, zero, suc, ◌+◌, true, List, [], ◌∷◌, ◌++◌, length, replicate, Option, Some, None, get_or, refl, inl, inr, sym, ap, ap₂, subst, ◌∙◌, arith}
use Rattle.std.specs.List.{AllPairs}
use Rattle.std.specs.Option.{option_map_or}
use Rattle.std.specs.Prelude.{is_some, slice_get, slice_index_or, slice_set}
use Rattle.std.proofs.lemmas.Bool.{cases_lt}
use Rattle.std.proofs.lemmas.List.{get_or-set_same, get_or-set_other, length-set, length-append, length-replicate, get_or-replicate}
use Rattle.std.proofs.lemmas.List.Quantifiers.{all_pairs_push}
use Rattle.std.proofs.lemmas.Option.{get_or_from_slice_get, slice_get-get_or, slice_get_past, slice_get_within}
use Rattle.bk_facts.specs.declared.facts.DataFile.{DataFile}
use Rattle.bk_lemmas.specs.Tests.{equal_or_not}
use Rattle.bk_page.specs.Page.{lsn_of}
use Rattle.bk_pool.specs.Laws.{slice_get-set_other, slice_get-set_same}
use Rattle.bk_pool.specs.Pool.{IsAbsent, IsIn, Pool}
use Rattle.bk_pool.specs.Sound.{HoldsPage}
use Rattle.bk_redo.specs.declared.place.PageAt.{PageAt}
use Rattle.bk_side.specs.Pages.{IsSound}
use Rattle.bk_paged.specs.Names.{IsThere, pages_in}
use Rattle.bk_opening.specs.Opening.{ArePlaces, AreRead, AreSound, IsBefore, ArePut, Marks}
use Rattle.bk_paged.specs.Pooled.{IsPool}

-- ---- elements

get_front : {A : Type 0} (xs ys : List A) (i : ℕ) → i < length xs → slice_get (xs ++ ys) i ≡ slice_get xs i
get_front [] ys i below = absurd (omega (arith, below))
get_front (x ∷ xs) ys zero below = refl
get_front (x ∷ xs) ys (suc i) below = get_front xs ys i (omega (arith, below))

get_last : {A : Type 0} (xs : List A) (y : A) → slice_get (xs ++ y ∷ []) (length xs) ≡ Some y
get_last [] y = refl
get_last (x ∷ xs) y = get_last xs y

pub replicated : {A : Type 0} (n i : ℕ) (a : A) → i < n → slice_get (replicate n a) i ≡ Some a
replicated {A = A} n i a below =
    slice_get-get_or (replicate n a) i a (omega (arith, below, length-replicate n a)) ∙ ap (λ (x : A). Some x) (get_or-replicate n i a a below)

-- ---- how many pages a file has

-- none where there is no file of the number
pub pages_past : (files : List DataFile) (file : ℕ) → length files + 1 ≤ file → pages_in files file ≡ 0
pages_past files zero past = refl
pages_past files (suc i) past = ap (λ (o : Option DataFile). option_map_or (λ f. f.pages) o 0) (slice_get_past files i (omega (arith, past)))

pub pages_first : (files : List DataFile) (file : ℕ) → file < 1 → pages_in files file ≡ 0
pages_first files zero low = refl
pages_first files (suc i) low = absurd (omega (arith, low))

-- ---- places

same_place : (at : PageAt) (file page : ℕ) → at.file ≡ file → at.page ≡ page → (let other : PageAt = record { file = file; page = page } in at ≡ other)
same_place at file page one two = ap₂ (λ (f n : ℕ). let p : PageAt = record { file = f; page = n } in p) one two

pub places_none : (files : List DataFile) → ArePlaces files 1 0 []
places_none files = record {
  there = λ at there before. absurd (none at there before);
  only = λ i at is. absurd cc;
  different = λ i j d less within. absurd (omega (arith, within));
}
  where
    none : (at : PageAt) → IsThere files at → IsBefore 1 0 at → ⊥
    none at there before = elim before [
      | inl low ↦ absurd (omega (arith, subst (λ (n : ℕ). at.page < n) (pages_first files at.file low) there))
      | inr here ↦ absurd (omega (arith, here.1))
    ]

-- one page more
pub places_more : (files : List DataFile) (file count : ℕ) (places : List PageAt) → ArePlaces files file count places → count < pages_in files file
    → ArePlaces files file (count + 1) (places ++ (let at : PageAt = record { file = file; page = count } in at) ∷ [])
places_more files file count places is inside =
    let new : PageAt = record { file = file; page = count } in
    let all : List PageAt = places ++ new ∷ [] in
    let size : length all ≡ length places + 1 = length-append places (new ∷ []) in
    record {
      there = λ at there before. elim (was at before) [
        | inl old ↦ let held = is.there at there old in (held.0, get_front places (new ∷ []) held.0 (slice_get_within places held.0 at held.1) ∙ held.1)
        | inr last ↦ (length places, get_last places new ∙ ap (λ (p : PageAt). Some p) (sym last))
      ];
      only = λ i at held. elim (cases_lt i (length places)) [
        | inl less ↦ let old = is.only i at (sym (get_front places (new ∷ []) i less) ∙ held) in (old.0, wider at old.1)
        | inr least ↦
            let here : i ≡ length places = omega (arith, slice_get_within all i at held, size, least) in
            let both : ◌≡◌ {A = Option PageAt} (Some new) (Some at) = sym (get_last places new) ∙ ap (slice_get all) (sym here) ∙ held in
            let same : new ≡ at = cc in
            subst (λ (p : PageAt). IsThere files p × IsBefore file (count + 1) p) same (inside, inr (refl, omega arith))
      ];
      different = all_pairs_push (λ a b. a ≢ b) places new is.different (λ k d below same.
          let held = is.only k (get_or places k d) (slice_get-get_or places k d below) in
          off (subst (IsBefore file count) same held.1));
    }
  where
    was : (at : PageAt) → IsBefore file (count + 1) at → IsBefore file count at ⊎ (let other : PageAt = record { file = file; page = count } in at ≡ other)
    was at before = elim before [
      | inl low ↦ inl (inl low)
      | inr here ↦ elim (cases_lt at.page count) [
        | inl less ↦ inl (inr (here.0, less))
        | inr least ↦ inr (same_place at file count here.0 (omega (arith, here.1, least)))
      ]
    ]

    wider : (at : PageAt) → IsBefore file count at → IsBefore file (count + 1) at
    wider at before = elim before [ inl low ↦ inl low | inr here ↦ inr (here.0, omega (arith, here.1)) ]

    off : (let other : PageAt = record { file = file; page = count } in IsBefore file count other) → ⊥
    off before = elim before [ inl low ↦ absurd (omega (arith, low)) | inr here ↦ absurd (omega (arith, here.1)) ]

-- all pages of a file
pub places_next : (files : List DataFile) (file count : ℕ) (places : List PageAt) → ArePlaces files file count places → pages_in files file ≤ count → ArePlaces files (file + 1) 0 places
places_next files file count places is whole = record {
  there = λ at there before. is.there at there (was at there before);
  only = λ i at held. let old = is.only i at held in (old.0, wider at old.1);
  different = is.different;
}
  where
    was : (at : PageAt) → IsThere files at → IsBefore (file + 1) 0 at → IsBefore file count at
    was at there before = elim before [
      | inl low ↦ elim (cases_lt at.file file) [
        | inl less ↦ inl less
        | inr least ↦
            let same : at.file ≡ file = omega (arith, low, least) in
            inr (same, omega (arith, subst (λ (f : ℕ). at.page < pages_in files f) same there, whole))
      ]
      | inr here ↦ absurd (omega (arith, here.1))
    ]

    wider : (at : PageAt) → IsBefore file count at → IsBefore (file + 1) 0 at
    wider at before = elim before [ inl low ↦ inl (omega (arith, low)) | inr here ↦ inl (omega (arith, here.0)) ]

-- of all files there are the places of all pages
pub places_all : (files : List DataFile) (places : List PageAt) (at : PageAt) → ArePlaces files (length files + 1) 0 places → IsThere files at → (i : ℕ) × (slice_get places i ≡ Some at)
places_all files places at is there = elim (cases_lt at.file (length files + 1)) [
  | inl less ↦ is.there at there (inl less)
  | inr past ↦ absurd (omega (arith, subst (λ (n : ℕ). at.page < n) (pages_past files at.file past) there))
]

-- ---- frames that are put for them

pub put_none : (places : List PageAt) (size : ℕ) (pages : List (Option (ℕ × ℕ))) → pages ≡ replicate size None → ArePut places 0 pages
put_none places size pages are = record {
  here = λ i at below held. absurd (omega (arith, below));
  only = λ i file page here. absurd (none i file page here);
}
  where
    none : (i file page : ℕ) → IsIn pages i file page → ⊥
    none i file page here =
        let empty : List (Option (ℕ × ℕ)) = replicate size None in
        let there : slice_get empty i ≡ Some (Some (file, page)) = sym (ap (λ (ps : List (Option (ℕ × ℕ))). slice_get ps i) are) ∙ here in
        let below : i < size = omega (arith, slice_get_within empty i (Some (file, page)) there, length-replicate {A = Option (ℕ × ℕ)} size None) in
        let both : ◌≡◌ {A = Option (Option (ℕ × ℕ))} (Some None) (Some (Some (file, page))) = sym (replicated {A = Option (ℕ × ℕ)} size i None below) ∙ there in
        absurd cc

-- the next page lies in no frame yet
pub put_absent : (places : List PageAt) (n : ℕ) (pages : List (Option (ℕ × ℕ))) (at : PageAt) → ArePut places n pages → AllPairs (λ a b. a ≢ b) places → slice_get places n ≡ Some at → IsAbsent pages at.file at.page
put_absent places n pages at is different held j here =
    let inside : n < length places = slice_get_within places n at held in
    let below : j < n = is.only j at.file at.page here in
    let old : PageAt = slice_index_or places j at in
    let there : slice_get places j ≡ Some old = slice_get-get_or places j at (omega (arith, inside, below)) in
    let lies = is.here j old below there in
    let both : ◌≡◌ {A = Option (Option (ℕ × ℕ))} (Some (Some (old.file, old.page))) (Some (Some (at.file, at.page))) = sym lies ∙ here in
    let pair : ◌≡◌ {A = ℕ × ℕ} (old.file, old.page) (at.file, at.page) = cc in
    let same : old ≡ at = ap (λ (p : ℕ × ℕ). let q : PageAt = record { file = p.0; page = p.1 } in q) pair in
    different j n at below inside (same ∙ sym (get_or_from_slice_get places n at at held))

-- it is put there
pub put_more : (places : List PageAt) (n : ℕ) (old new : List (Option (ℕ × ℕ))) (at : PageAt) → ArePut places n old → slice_get places n ≡ Some at → n < length old → new ≡ slice_set old n (Some (at.file, at.page)) → ArePut places (n + 1) new
put_more places n old new at is held inside are = record {
  here = λ i other below there. elim (equal_or_not i n) [
    | inl same ↦
        let both : ◌≡◌ {A = Option PageAt} (Some other) (Some at) = sym there ∙ ap (slice_get places) same ∙ held in
        let is_it : other ≡ at = cc in
        ap (λ (ps : List (Option (ℕ × ℕ))). slice_get ps i) are ∙ ap (slice_get (slice_set old n (Some (at.file, at.page)))) same ∙ slice_get-set_same old n (Some (at.file, at.page)) inside
        ∙ ap (λ (p : PageAt). Some (Some (p.file, p.page))) (sym is_it)
    | inr differs ↦ ap (λ (ps : List (Option (ℕ × ℕ))). slice_get ps i) are ∙ slice_get-set_other old n i (Some (at.file, at.page)) differs ∙ is.here i other (lower i below differs) there
  ];
  only = λ i file page here. elim (equal_or_not i n) [
    | inl same ↦ omega (arith, same)
    | inr differs ↦
        let before : IsIn old i file page = sym (slice_get-set_other old n i (Some (at.file, at.page)) differs) ∙ sym (ap (λ (ps : List (Option (ℕ × ℕ))). slice_get ps i) are) ∙ here in
        omega (arith, is.only i file page before)
  ];
}
  where
    lower : (i : ℕ) → i < n + 1 → (i ≡ n → ⊥) → i < n
    lower i below differs = elim (cases_lt i n) [ inl less ↦ less | inr least ↦ absurd (differs (omega (arith, below, least))) ]

-- all pages of the data files are, each in a frame
pub all_in : (files listed : List DataFile) (places one : List PageAt) (old new : List (Option (ℕ × ℕ))) → listed ≡ files → ArePlaces listed (length listed + 1) 0 places → one ≡ places → ArePut one (length one) old → new ≡ old
    → (at : PageAt) → IsThere files at → (i : ℕ) × IsIn new i at.file at.page
all_in files listed places one old new same are first put kept at there =
    let held = places_all listed places at are (subst (λ (fs : List DataFile). IsThere fs at) (sym same) there) in
    let below : held.0 < length places = slice_get_within places held.0 at held.1 in
    let lies = (subst (λ (ps : List PageAt). ArePut ps (length ps) old) first put).here held.0 at below held.1 in
    (held.0, subst (λ (ps : List (Option (ℕ × ℕ))). IsIn ps held.0 at.file at.page) (sym kept) lies)

-- ---- pages that are read into frames

pub read_more : (shown : ℕ × ℕ → List ℕ) (places : List PageAt) (n : ℕ) (old new : List (List ℕ)) (at : PageAt) (page was : List ℕ) → AreRead shown places n old → slice_get places n ≡ Some at → n < length old → new ≡ slice_set old n page
    → page ≡ was → was ≡ shown (at.file, at.page) → AreRead shown places (n + 1) new
read_more shown places n old new at page was is held inside are read same_page i other below there =
    elim (equal_or_not i n) [
      | inl same ↦
          let both : ◌≡◌ {A = Option PageAt} (Some other) (Some at) = sym there ∙ ap (slice_get places) same ∙ held in
          let is_it : other ≡ at = cc in
          ap (λ (fs : List (List ℕ)). slice_index_or fs i []) are ∙ ap (λ (k : ℕ). slice_index_or (slice_set old n page) k []) same ∙ get_or-set_same old n page [] inside ∙ read ∙ same_page
          ∙ ap (λ (p : PageAt). shown (p.file, p.page)) (sym is_it)
      | inr differs ↦ ap (λ (fs : List (List ℕ)). slice_index_or fs i []) are ∙ get_or-set_other old n i page [] differs ∙ is i other (lower differs) there
    ]
  where
    lower : (i ≡ n → ⊥) → i < n
    lower differs = elim (cases_lt i n) [ inl less ↦ less | inr least ↦ absurd (differs (omega (arith, below, least))) ]

-- ---- pages that are checked in frames

pub sound_more : (n : ℕ) (frames : List (List ℕ)) (page : List ℕ) → AreSound n frames → slice_get frames n ≡ Some page → IsSound page → AreSound (n + 1) frames
sound_more n frames page is held sound i below = elim (cases_lt i n) [
  | inl less ↦ is i less
  | inr least ↦
      let same : n ≡ i = omega (arith, below, least) in
      subst (λ (k : ℕ). IsSound (slice_index_or frames k [])) same (subst IsSound (sym (get_or_from_slice_get frames n page [] held)) sound)
]

-- frames hold sound pages where the pages that were read into them are
pub sound_read : (shown : ℕ × ℕ → List ℕ) (places : List PageAt) (frames : List (List ℕ)) → AreRead shown places (length places) frames
    → ((i : ℕ) (at : PageAt) → slice_get places i ≡ Some at → IsSound (shown (at.file, at.page))) → AreSound (length places) frames
sound_read shown places frames read all i below =
    let at : PageAt = slice_index_or places i (record { file = 0; page = 0 }) in
    let held : slice_get places i ≡ Some at = slice_get-get_or places i (record { file = 0; page = 0 }) below in
    subst IsSound (sym (read i at below held)) (all i at held)

-- and all pages of the data files are where the frames do
pub all_sound : (files listed : List DataFile) (places one : List PageAt) (shown : ℕ × ℕ → List ℕ) (frames : List (List ℕ)) → listed ≡ files → ArePlaces listed (length listed + 1) 0 places → one ≡ places
    → AreRead shown one (length one) frames → AreSound (length one) frames → (at : PageAt) → IsThere files at → IsSound (shown (at.file, at.page))
all_sound files listed places one shown frames same are first read sound at there =
    let held = places_all listed places at are (subst (λ (fs : List DataFile). IsThere fs at) (sym same) there) in
    let below : held.0 < length places = slice_get_within places held.0 at held.1 in
    let are_read : AreRead shown places (length places) frames = subst (λ (ps : List PageAt). AreRead shown ps (length ps) frames) first read in
    let are_sound : AreSound (length places) frames = subst (λ (ps : List PageAt). AreSound (length ps) frames) first sound in
    subst IsSound (are_read held.0 at below held.1) (are_sound held.0 below)

-- ---- frames that are marked

-- whether a page lies in a frame
pub holds_page : (pages : List (Option (ℕ × ℕ))) (i : ℕ) (o : Option (ℕ × ℕ)) → slice_get pages i ≡ Some o → is_some o ≡ true → HoldsPage pages i
holds_page pages i None here some = absurd cc
holds_page pages i (Some at) here some = (at.0, at.1, here)

pub marks_none : (from : ℕ) (pool : Pool) → Marks from 0 pool pool
marks_none from pool = record {
  pages = refl;
  frames = refl;
  size = refl;
  whole = λ i file page below here. absurd (omega (arith, below));
  marked = λ i file page below here late. absurd (omega (arith, below));
}

-- a pool as it was, or with one more mark
abbrev pub MayMark : ℕ → Pool → Pool → Type 0
MayMark n old new = (new ≡ old) ⊎ (new ≡ record old { dirty = slice_set old.dirty n true })

still_marked : (n : ℕ) (old new : Pool) → MayMark n old new → (i : ℕ) → slice_get old.dirty i ≡ Some true → slice_get new.dirty i ≡ Some true
still_marked n old new change i marked = elim change [
  | inl same ↦ ap (λ (p : Pool). slice_get p.dirty i) same ∙ marked
  | inr more ↦ ap (λ (p : Pool). slice_get p.dirty i) more ∙ in_set
]
  where
    in_set : slice_get (slice_set old.dirty n true) i ≡ Some true
    in_set = elim (equal_or_not i n) [
      | inl here ↦ ap (slice_get (slice_set old.dirty n true)) here ∙ slice_get-set_same old.dirty n true (omega (arith, slice_get_within old.dirty i true marked, here))
      | inr other ↦ slice_get-set_other old.dirty n i true other ∙ marked
    ]

pub marks_more : (from n : ℕ) (start old new : Pool) → Marks from n start old → MayMark n old new
    → ((file page : ℕ) → IsIn old.pages n file page → length (slice_index_or old.frames n []) ≡ 8192)
    → ((file page : ℕ) → IsIn old.pages n file page → from ≤ lsn_of (slice_index_or old.frames n []) → slice_get new.dirty n ≡ Some true)
    → Marks from (n + 1) start new
marks_more from n start old new is change whole marked = record {
  pages = pages ∙ is.pages;
  frames = frames ∙ is.frames;
  size = size ∙ is.size;
  whole = λ i file page below here. elim (cases_lt i n) [
    | inl less ↦ is.whole i file page less here
    | inr least ↦
        let same : n ≡ i = omega (arith, below, least) in
        subst (λ (k : ℕ). length (slice_index_or start.frames k []) ≡ 8192) same
        (ap (λ (fs : List (List ℕ)). length (slice_index_or fs n [])) (sym is.frames)
        ∙ whole file page (there file page (subst (λ (k : ℕ). IsIn start.pages k file page) (sym same) here)))
  ];
  marked = λ i file page below here late. elim (cases_lt i n) [
    | inl less ↦ still_marked n old new change i (is.marked i file page less here late)
    | inr least ↦
        let same : n ≡ i = omega (arith, below, least) in
        let low : from ≤ lsn_of (slice_index_or old.frames n []) =
        subst (λ (fs : List (List ℕ)). from ≤ lsn_of (slice_index_or fs n [])) (sym is.frames) (subst (λ (k : ℕ). from ≤ lsn_of (slice_index_or start.frames k [])) (sym same) late) in
        ap (slice_get new.dirty) (sym same) ∙ marked file page (there file page (subst (λ (k : ℕ). IsIn start.pages k file page) (sym same) here)) low
  ];
}
  where
    pages : new.pages ≡ old.pages
    pages = elim change [ inl same ↦ ap (λ (p : Pool). p.pages) same | inr more ↦ ap (λ (p : Pool). p.pages) more ]

    frames : new.frames ≡ old.frames
    frames = elim change [ inl same ↦ ap (λ (p : Pool). p.frames) same | inr more ↦ ap (λ (p : Pool). p.frames) more ]

    size : length new.dirty ≡ length old.dirty
    size = elim change [ inl same ↦ ap (λ (p : Pool). length p.dirty) same | inr more ↦ ap (λ (p : Pool). length p.dirty) more ∙ length-set old.dirty n true ]

    there : (file page : ℕ) → IsIn start.pages n file page → IsIn old.pages n file page
    there file page here = subst (λ (ps : List (Option (ℕ × ℕ))). IsIn ps n file page) (sym is.pages) here

-- and it is a pool still
pub pool_marked : (from n : ℕ) (old new : Pool) → IsPool old → Marks from n old new → IsPool new
pool_marked from n old new is marks = record {
  some = subst (λ (ps : List (Option (ℕ × ℕ))). 0 < length ps) (sym marks.pages) is.some;
  frames = ap (λ (fs : List (List ℕ)). length fs) marks.frames ∙ is.frames ∙ ap (λ (ps : List (Option (ℕ × ℕ))). length ps) (sym marks.pages);
  marks = marks.size ∙ is.marks ∙ ap (λ (ps : List (Option (ℕ × ℕ))). length ps) (sym marks.pages);
}
