-- The list of what records set.
use Rattle.std.proofs.Common.{◌≡◌, ◌<◌, ℕ, List, [], ◌++◌, get_or, take, drop, Option, Some, Vec, Global, ap, ap₂, take-append-drop, None, subst, ◌∙◌, sym, refl}
use Rattle.std.proofs.lemmas.List.Elements.{filter-append, All-nil, All-append}
use Rattle.std.proofs.lemmas.List.Sums.{fold-append}
use Rattle.std.specs.Prelude.{IfSome}
use Rattle.bk_ids.specs.declared.record.Rec.{Rec}
use Rattle.bk_record.specs.RecordsLaws.{log_append}
use Rattle.bk_redo.specs.declared.place.PageAt.{PageAt}
use Rattle.bk_redo.specs.declared.writes.CellWrite.{CellWrite}
use Rattle.bk_redo.specs.declared.writes.Wanted.{Wanted}
use Rattle.bk_redo.specs.PageStates.{PageState}
use Rattle.bk_redo.specs.Redo.{is_between, records_between, redone, redone_by}
use Rattle.bk_redo.specs.CellWrites.{written, written_by, IsListOf}
use Rattle.bk_redo.specs.Listing.{IsListed}

pub none_listed : (places : List PageAt) → IsListOf places [] []
none_listed places = record { pages = λ i nowhere page low. refl; slots = All-nil (λ (w : CellWrite). w.slot < 63) }

-- what more records set, listed behind what those before them set
pub listed_more : (places : List PageAt) (from to : ℕ) (records others : List Rec) (writes more new : List CellWrite)
    → IsListOf places (records_between from to records) writes → IsListOf places (records_between from to others) more → new ≡ writes ++ more
    → IsListOf places (records_between from to (records ++ others)) new
listed_more places from to records others writes more new first second is =
    subst (λ (rs : List Rec). IsListOf places rs new) (sym (filter-append (is_between from to) records others))
    (subst (IsListOf places (records_between from to records ++ records_between from to others)) (sym is) (record {
      pages = λ i nowhere page low.
          let at : PageAt = get_or places i nowhere in
          let then : PageState = redone_by at (records_between from to records) page in
          fold-append (written i) page writes more
          ∙ ap (written_by i more) (first.pages i nowhere page low)
          ∙ second.pages i nowhere then low
          ∙ sym (fold-append (redone at) page (records_between from to records) (records_between from to others));
      slots = All-append (λ (w : CellWrite). w.slot < 63) writes more first.slots second.slots;
    }))

-- ---- two parts of a log

-- whole records, and behind them whole records
pub parts_listed : (wanted : Wanted) (log front back : List ℕ) (ahead behind writes : List CellWrite) → IsListed wanted front ahead → IsListed wanted back behind
    → log ≡ front ++ back → writes ≡ ahead ++ behind → IsListed wanted log writes
parts_listed wanted log front back ahead behind writes first second whole is =
    subst (λ (bytes : List ℕ). IsListed wanted bytes writes) (sym whole) (record {
      records = first.records ++ second.records;
      whole = log_append front back first.records second.records first.whole second.whole;
      list = listed_more wanted.places.now wanted.from wanted.to first.records second.records ahead behind writes first.list second.list is;
    })

-- what joins both lists lists both parts
pub joined_listed : (wanted : Wanted) (log front back : List ℕ) (at : ℕ) (ahead behind : List CellWrite) (made : Option (Vec CellWrite Global)) → IsListed wanted front ahead → IsListed wanted back behind
    → front ≡ take at log → back ≡ drop at log → IfSome made (λ writes. writes.items ≡ ahead ++ behind) → IfSome made (λ writes. IsListed wanted log writes.items)
joined_listed wanted log front back at ahead behind None first second is_front is_back is = is
joined_listed wanted log front back at ahead behind (Some writes) first second is_front is_back is =
    parts_listed wanted log front back ahead behind writes.items first second (sym (ap₂ (λ (a b : List ℕ). a ++ b) is_front is_back ∙ take-append-drop at log)) is
