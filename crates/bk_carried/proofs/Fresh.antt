-- Header pages of data files: no record in its place touches one.
use Rattle.std.proofs.Common.{◌≡◌, ◌≤◌, ◌<◌, ℕ, ◌^◌, false, List, [], ◌∷◌, ◌++◌, map, fold, refl, sym, ◌∙◌, ap, subst, arith}
use Rattle.std.specs.Prelude.{◌==◌}
use Rattle.std.specs.List.{AllByRecursion}
use Rattle.std.proofs.lemmas.Bool.{and_right, cond-false}
use Rattle.bk_ids.specs.declared.record.Place.{Place}
use Rattle.bk_ids.specs.declared.record.Rec.{Rec}
use Rattle.bk_lemmas.specs.Lists.{all_filter, all_joined, all_middle}
use Rattle.bk_lemmas.specs.Tests.{test_false}
use Rattle.bk_page.specs.Changes.{IsFresh}
use Rattle.bk_page.specs.Laws.{fresh_page-fresh}
use Rattle.bk_page.specs.Page.{fresh_page}
use Rattle.bk_restored.specs.PagedHolds.{IsStored}
use Rattle.bk_paths.specs.PageLaws.{page_last}
use Rattle.bk_paths.specs.Pages.{IsPage, last_page}
use Rattle.bk_paths.specs.Paths.{end_of}
use Rattle.bk_redo.specs.declared.place.PageAt.{PageAt}
use Rattle.bk_redo.specs.Effects.{changed, is_on, touches}
use Rattle.bk_redo.specs.PageStates.{PageState, fresh, page_of}
use Rattle.bk_redo.specs.Redo.{is_between}
use Rattle.bk_shown.specs.Shown.{ArePlaced, IsPlaced}
use Rattle.bk_undo.specs.Spelled.{spelled}
use Rattle.bk_world.specs.Pending.{Pending, pending, pending_after}
use Rattle.bk_world.specs.ReadingLaws.{pending-more}
use Rattle.bk_world.specs.Records.{Deed, Logged, written, committed, rolled_back, undone, loaded}
use Rattle.bk_world.specs.SoundLogs.{IsSound, MayCome, MayFollow}
use Rattle.bk_world.specs.Telling as telling
use Rattle.bk_world.specs.declared.database.FileSpec.{FileSpec}
use Rattle.bk_world.specs.declared.database.TableSpec.{TableSpec}

-- ---- pending writes lie in data pages

-- a write is in a data page
abbrev IsData : Pending → Type 0
IsData w = 8 ≤ w.place.page

data-after : (files : List FileSpec) (made : List TableSpec) (ws : List Pending) (lsn begin : ℕ) (deed : Deed) → IsPlaced files made deed → AllByRecursion IsData ws → AllByRecursion IsData (pending_after ws lsn begin deed)
data-after files made ws lsn begin (written at before c) is all = all_joined IsData ws _ all (is.1.1.1.from, tt)
data-after files made ws lsn begin (loaded load) is all = absurd is
data-after files made ws lsn begin (committed time mark) is all = all_filter IsData _ ws all
data-after files made ws lsn begin rolled_back is all = all_filter IsData _ ws all
data-after files made ws lsn begin (undone at c n) is all = all_filter IsData _ ws all
data-after files made ws lsn begin deed is all = all

-- ---- so no record touches a header page

off-page : (at : PageAt) (place : Place) → at.page < 8 → 8 ≤ place.page → is_on place at ≡ false
off-page at place low behind = and_right (place.file == at.file) (place.page == at.page) (test_false place.page at.page (λ same. absurd (omega (arith, same, low, behind))))

untouched-one : (files : List FileSpec) (at : PageAt) (before : List Logged) (lsn begin : ℕ) (deed : Deed) → at.page < 8 → IsPlaced files (telling.tables before) deed → MayCome before lsn begin deed → AllByRecursion IsData (pending before)
    → touches at (spelled (record { lsn = lsn; begin = begin; deed = deed })) ≡ false
untouched-one files at before lsn begin (written place old c) low is may all = off-page at place low is.1.1.1.from
untouched-one files at before lsn begin (undone place c n) low is may all =
    let own : AllByRecursion IsData (may.before ++ may.write ∷ []) = subst (AllByRecursion IsData) may.last (all_filter IsData _ (pending before) all) in
    off-page at place low (subst (λ (p : Place). 8 ≤ p.page) (sym may.place) (all_middle IsData may.before may.write [] own))
untouched-one files at before lsn begin (loaded load) low is may all = absurd is
untouched-one files at before lsn begin deed low is may all = refl

untouched : (files : List FileSpec) (at : PageAt) (before rs : List Logged) → at.page < 8 → ArePlaced files before rs → MayFollow before rs → AllByRecursion IsData (pending before) → AllByRecursion (λ (r : Rec). touches at r ≡ false) (map spelled rs)
untouched files at before [] low are follow all = tt
untouched files at before (r ∷ rs) low are follow all =
    let after : AllByRecursion IsData (pending (before ++ r ∷ [])) = subst (AllByRecursion IsData) (sym (pending-more before (r ∷ []))) (data-after files (telling.tables before) (pending before) r.lsn r.begin r.deed are.0 all) in
    (untouched-one files at before r.lsn r.begin r.deed low are.0 follow.0 all, untouched files at (before ++ r ∷ []) rs low are.1 follow.1 after)

none-pending : AllByRecursion IsData (pending [])
unfolding pending
none-pending = tt

-- ---- and it stays fresh

unchanged : (at : PageAt) (page : PageState) (records : List Rec) → AllByRecursion (λ (r : Rec). touches at r ≡ false) records → fold (changed at) page records ≡ page
unchanged at page [] none = refl
unchanged at page (r ∷ records) none =
    ap (λ (p : PageState). fold (changed at) p records) (cond-false (touches at r) _ page none.0) ∙ unchanged at page records none.1

stays-fresh : (files : List FileSpec) (at : PageAt) (rs : List Logged) → at.page < 8 → ArePlaced files [] rs → IsSound rs → last_page at (map spelled rs) ≡ fresh
stays-fresh files at rs low are sound =
    let records : List Rec = map spelled rs in
    unchanged at fresh _ (all_filter (λ (r : Rec). touches at r ≡ false) (is_between 0 (end_of records)) records (untouched files at [] rs low are sound none-pending))

abbrev pub PagesAreFresh : Type 0
PagesAreFresh = (file number : ℕ) → file < 2 ^ 16 → number < 2 ^ 32 → page_of (fresh_page file number) ≡ fresh

pub fresh-stored : PagesAreFresh → (files : List FileSpec) (rs : List Logged) (since file number : ℕ) → since ≤ end_of (map spelled rs) → file < 2 ^ 16 → number < 8 → ArePlaced files [] rs → IsSound rs
    → IsStored (map spelled rs) since (record { file = file; page = number }) (fresh_page file number)
fresh-stored law files rs since file number early small low are sound =
    let at : PageAt = record { file = file; page = number } in
    let fits : number < 2 ^ 32 = omega (arith, low) in
    let is : IsFresh (fresh_page file number) file number = fresh_page-fresh file number small fits in
    let same : last_page at (map spelled rs) ≡ page_of (fresh_page file number) = stays-fresh files at rs low are sound ∙ sym (law file number small fits) in record {
      sound = record { whole = is.size; digest = is.digest };
      place = record { file = is.file; number = is.number };
      is_page = subst (IsPage (map spelled rs) since at) same (page_last (map spelled rs) since at early);
    }
