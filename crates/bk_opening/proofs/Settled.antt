-- A path that is settled, as a whole and in part.
use Rattle.std.proofs.Common.{◌≡◌, ◌≤◌, ◌^◌, ℕ, zero, suc, ◌+◌, ◌-◌, Bool, false, List, [], ◌∷◌, ◌++◌, length, take, refl, sym, ap, subst, ◌∙◌, arith}
use Rattle.std.specs.List.{list_any}
use Rattle.std.proofs.lemmas.Bool.{or_from, or_parts}
use Rattle.std.proofs.lemmas.List.{drop-append-le, length-append, length-take, take_all}
use Rattle.std.proofs.Math.Seq.{take-append-add, take-append_seam}
use Rattle.bk_facts.specs.declared.facts.DataFile.{DataFile}
use Rattle.bk_ids.specs.declared.record.Rec.{Rec}
use Rattle.bk_paths.specs.Laws.{KeptIsEnough, SettledAgain, SettledIsPath, SettlingKeepsOpen, UndoingFillsNothing}
use Rattle.bk_paths.specs.PageLaws.{page_more}
use Rattle.bk_paths.specs.Pages.{IsPage}
use Rattle.bk_paths.specs.PathLaws.{numbered_length, path_take}
use Rattle.bk_paths.specs.Paths.{IsPath, end_of, kept_from, settled, undoing}
use Rattle.bk_redo.specs.declared.place.PageAt.{PageAt}
use Rattle.bk_redo.specs.Effects.{fills}
use Rattle.bk_redo.specs.PageStates.{PageState, page_of}
use Rattle.bk_undo.specs.Losers.{compensation}
use Rattle.bk_paged.specs.Holds.{Recovers}

-- the laws of what settles a path
pub record Settles : Type 0 where
  pub path : SettledIsPath
  pub fills : UndoingFillsNothing
  pub again : SettledAgain
  pub enough : KeptIsEnough
  pub keeps : SettlingKeepsOpen

-- ---- its parts

pub settled_front : (records : List Rec) → take (length records) (settled records) ≡ records
unfolding settled
settled_front records = take-append_seam records (undoing records)

pub settled_length : (records : List Rec) → length (settled records) ≡ length records + length (compensation (end_of records) records)
unfolding settled
settled_length records = omega (arith, length-append records (undoing records), numbered_length (end_of records) (compensation (end_of records) records))

pub kept_settled : (kept : ℕ) (records : List Rec) → kept - 1 ≤ length records → kept_from kept (settled records) ≡ kept_from kept records ++ undoing records
unfolding settled
kept_settled kept records inside = drop-append-le (kept - 1) records (undoing records) inside

part : (records : List Rec) (k j : ℕ) → k ≡ length records + j → take k (settled records) ≡ records ++ take j (undoing records)
unfolding settled
part records k j is = ap (λ (n : ℕ). take n (records ++ undoing records)) is ∙ take-append-add records (undoing records) j

-- ---- with pages

any_front : (test : Rec → Bool) (j : ℕ) (records : List Rec) → list_any test records ≡ false → list_any test (take j records) ≡ false
any_front test zero records none = refl
any_front test (suc j) [] none = refl
any_front test (suc j) (r ∷ records) none =
    let parts = or_parts (test r) (list_any test records) none in
    or_from (test r) (list_any test (take j records)) parts.0 (any_front test j records parts.1)

settled_page : Settles → (records : List Rec) (since k : ℕ) (at : PageAt) (page : PageState) → length records ≤ k → IsPath (take k (settled records)) → IsPage records since at page → IsPage (take k (settled records)) since at page
settled_page laws records since k at page enough path is =
    let j : ℕ = k - length records in
    let back : List Rec = take j (undoing records) in
    let whole : take k (settled records) ≡ records ++ back = part records k j (omega (arith, enough)) in
    subst (λ (rs : List Rec). IsPage rs since at page) (sym whole)
    (page_more records back since at page (subst IsPath whole path) (any_front (fills at) j (undoing records) (laws.fills records at)) is)

-- what recovers a path recovers it once it is settled in part, too
pub settled_recovers : Settles → (kept since : ℕ) (files : List DataFile) (shown : PageAt → List ℕ) (records : List Rec) (k : ℕ) → Recovers kept since files shown records → length records ≤ k → Recovers kept since files shown (take k (settled records))
settled_recovers laws kept since files shown records k is enough =
    let whole : List Rec = settled records in
    let front : List Rec = take k whole in
    let path : IsPath whole = laws.path records is.path (omega (arith, is.room)) in
    let path_k : IsPath front = path_take k whole path in
    let again : settled front ≡ whole = laws.again records k is.path enough in
    record {
      path = path_k;
      some = is.some;
      order = is.order;
      early = omega (arith, is.early, length-take k whole, settled_length records, enough);
      opened = laws.keeps records kept k enough is.opened;
      room = subst (λ (rs : List Rec). end_of rs ≤ 2 ^ 63) (sym again) is.room;
      pages = λ at there.
          let page = is.pages at there in
          record { sound = page.sound; place = page.place; is_page = settled_page laws records since k at (page_of (shown at)) enough path_k page.is_page };
    }

pub whole_recovers : Settles → (kept since : ℕ) (files : List DataFile) (shown : PageAt → List ℕ) (records : List Rec) → Recovers kept since files shown records → Recovers kept since files shown (settled records)
whole_recovers laws kept since files shown records is =
    let n : ℕ = length (settled records) in
    subst (Recovers kept since files shown) (take_all n (settled records) (omega arith)) (settled_recovers laws kept since files shown records n is (omega (arith, settled_length records)))
