-- One call on one file.
use Rattle.std.proofs.Common.{◌≡◌, ◌≢◌, ◌⊎◌, ◌<◌, ◌≤◌, ◌+◌, ◌*◌, ◌^◌, ℕ, List, [], ◌∷◌, ◌++◌, length, take, drop, Option, Some, None, refl, inl, inr, sym, ap, ap₂, subst, ◌∙◌, arith, true, false, length-take, length-drop, length-append, zero, suc}
use Rattle.std.specs.Prelude.{Result, OnOk, Ok, Err, slice_get, map, option_map, nat_eq}
use Rattle.std.proofs.lemmas.Bool.{cases_lt}
use Rattle.std.proofs.lemmas.Bool.Decides.{eqb_tells}
use Rattle.std.proofs.lemmas.List.{append-nil, take_all, take-append-le, drop-append-le, drop_at}
use Rattle.std.proofs.lemmas.Option.{slice_get_within}
use Rattle.bk_bytes.specs.Field.{number_of, bytes_of, with_field}
use Rattle.bk_bytes.specs.FieldLaws.{length-bytes_of, number_of-bytes_of}
use Rattle.bk_device.specs.Calls.{contents, read_at, filled, written, LeavesWrite, LeavesSame, CallsOn, ChangesNothing}
use Rattle.bk_device.specs.Compose.{effect_weaken, effect_then_sync}
use Rattle.bk_device.specs.Disk.{Disk, IsDurable, IsLawful}
use Rattle.bk_device.specs.Effects.{Effect, IsName, MayLeaveOwn}
use Rattle.bk_device.specs.Laws.{call_after_nothing, effect_after_nothing, filled_whole}
use Rattle.bk_device.specs.Names.{same_or_other}
use Rattle.bk_device.specs.Torn.{written-end}
use Rattle.bk_gate.specs.Blobs.{sealed, part_of, IsGateFile}
use Rattle.bk_gate.specs.BlobLaws.{foreign_blobs}
use Rattle.bk_gate.specs.Gate.{IsGate, Kept as KeptGate}
use Rattle.bk_gate.specs.Laws.{gate_sealed}
use Rattle.bk_page.specs.Page.{part, fresh_page}
use Rattle.bk_page.specs.PartLaws.{part-with_field, part-with_field_before, length-with_field, number_of-part}
use Rattle.bk_side.specs.Names.{name_of, IsData}
use Rattle.bk_side.specs.Pages.{Entry, page_in, entry_of}
use Rattle.bk_side.specs.Making.{IsFreshFile}
use Rattle.bk_side.specs.Writing.{WritesPage, PutsPage, PutsEntry}
use Rattle.bk_side.specs.BatchLaws.{content_at}

-- ---- reading

-- a buffer that was read whole
pub read_whole : (old file new : List ℕ) (at n room : ℕ) → length old ≡ n → room ≡ n → at + n ≤ length file → new ≡ filled old (read_at file at room) → new ≡ read_at file at n
read_whole old file new at n room size is inside read =
    read ∙ ap (λ (k : ℕ). filled old (read_at file at k)) is ∙ filled_whole old file at n (sym size) inside

-- so many bytes were read as there are
pub page_count : (content : List ℕ) (at number count room : ℕ) → at ≡ 8192 * number → room ≡ 8192 → count ≡ length (read_at content at room) → count ≡ length (page_in content number)
page_count content at number count room place size is = is ∙ ap₂ (λ (a r : ℕ). length (read_at content a r)) place size

pub page_bytes : (old content new : List ℕ) (at number room : ℕ) → at ≡ 8192 * number → room ≡ 8192 → length old ≡ 8192 → length (page_in content number) ≡ 8192 → new ≡ filled old (read_at content at room) → new ≡ page_in content number
page_bytes old content new at number room place size buffer whole read =
    let front : List ℕ = page_in content number in
    let none : drop (length front) old ≡ [] = drop_whole old (length front) (omega (arith, buffer, whole)) in
    read ∙ ap₂ (λ (a r : ℕ). filled old (read_at content a r)) place size ∙ ap (λ (rest : List ℕ). front ++ rest) none ∙ append-nil front
  where
    drop_whole : (xs : List ℕ) (n : ℕ) → n ≡ length xs → drop n xs ≡ []
    drop_whole xs n is = nothing (drop n xs) (omega (arith, length-drop n xs, is))
      where
        nothing : (ys : List ℕ) → length ys ≡ 0 → ys ≡ []
        nothing [] none = refl
        nothing (y ∷ ys) none = absurd (omega (arith, none))

-- ---- writing one page

pub page_written : (name : List ℕ) (page at n : ℕ) (a b c : Disk) → IsLawful a → ChangesNothing a b → at ≡ 8192 * page → n ≡ 8192 → 8192 * page + 8192 ≤ length (contents (a.files name)) → CallsOn name (LeavesWrite at n) b c → WritesPage name page a c
page_written name page at n a b c lawful nothing place size inside call =
    let At : ℕ → Type 0 = λ k. CallsOn name (LeavesWrite k n) b c in
    let Of : ℕ → Type 0 = λ k. CallsOn name (LeavesWrite (8192 * page) k) b c in
    record { inside = inside; call = call_after_nothing lawful nothing (subst Of size (subst At place call)) }

-- a page that a file doesn't have whole
pub page_short : (content : List ℕ) (page : ℕ) → length content < 8192 * page + 8192 → length (page_in content page) ≢ 8192
page_short content page ends whole = absurd (omega (arith, whole, length-take 8192 (drop (8192 * page) content), length-drop (8192 * page) content, ends))

pub entry_put : (names : List (List ℕ)) (e : Entry) (file page : ℕ) (name bytes : List ℕ) (a b : Disk) → (file, page) ≡ e.0 → bytes ≡ e.1 → name_of names file ≡ Some name → PutsPage name page bytes a b → PutsEntry names e a b
entry_put names e file page name bytes a b place is at puts =
    let At : ℕ × ℕ → Type 0 = λ p. PutsEntry names (p, bytes) a b in
    let Of : List ℕ → Type 0 = λ c. PutsEntry names (e.0, c) a b in
    subst Of is (subst At place (elim puts [
      | inl left ↦ inl ((λ whole. page_short (contents (a.files name)) page left.ends (ap (λ (c : List ℕ). length (page_in c page)) (sym (content_at names a.files file name at)) ∙ whole)), left.nothing)
      | inr wrote ↦ inr (name, at, wrote.0, wrote.1)
    ]))

-- ---- the bytes of an entry

pub entry_spelled : (file page : ℕ) (bytes zeros : List ℕ) → file < 2 ^ 16 → page < 2 ^ 32 → length bytes ≡ 8192 → length zeros ≡ 8198
    → entry_of (with_field (with_field (with_field zeros 0 (bytes_of 2 file)) 2 (bytes_of 4 page)) 6 bytes) ≡ ((file, page), bytes)
unfolding entry_of
entry_spelled file page bytes zeros file_fits page_fits whole size =
    let two : length (bytes_of 2 file) ≡ 2 = length-bytes_of 2 file in
    let four : length (bytes_of 4 page) ≡ 4 = length-bytes_of 4 page in
    let first : List ℕ = with_field zeros 0 (bytes_of 2 file) in
    let first_size : length first ≡ 8198 = length-with_field zeros 0 (bytes_of 2 file) (omega arith) ∙ size in
    let second : List ℕ = with_field first 2 (bytes_of 4 page) in
    let second_size : length second ≡ 8198 = length-with_field first 2 (bytes_of 4 page) (omega arith) ∙ first_size in
    let third : List ℕ = with_field second 6 bytes in
    let file_part : part third 0 2 ≡ bytes_of 2 file =
    part-with_field_before second 6 bytes 0 2 (omega arith) (omega arith) ∙ part-with_field_before first 2 (bytes_of 4 page) 0 2 (omega arith) (omega arith)
    ∙ ap (part first 0) (sym two) ∙ part-with_field zeros 0 (bytes_of 2 file) (omega arith) in
    let page_part : part third 2 4 ≡ bytes_of 4 page =
    part-with_field_before second 6 bytes 2 4 (omega arith) (omega arith) ∙ ap (part second 2) (sym four) ∙ part-with_field first 2 (bytes_of 4 page) (omega arith) in
    let rest : take 8192 (drop 6 third) ≡ bytes = ap (part third 6) (sym whole) ∙ part-with_field second 6 bytes (omega arith) in
    let read : (n x : ℕ) → x < 256 ^ n → number_of n (bytes_of n x) ≡ x = λ n x fits. ap (number_of n) (sym (append-nil (bytes_of n x))) ∙ number_of-bytes_of n x [] fits in
    let file_is : number_of 2 third ≡ file = sym (number_of-part 2 0 third) ∙ ap (number_of 2) file_part ∙ read 2 file file_fits in
    let page_is : number_of 4 (drop 2 third) ≡ page = sym (number_of-part 4 2 third) ∙ ap (number_of 4) page_part ∙ read 4 page page_fits in
    ap₂ (λ (a : ℕ × ℕ) (p : List ℕ). (a, p)) (ap₂ (λ (f p : ℕ). (f, p)) file_is page_is) rest

-- ---- syncing data files

-- files that were made durable up to a number
pub record Syncing (names : List (List ℕ)) (i : ℕ) (a b : Disk) : Type 0 where
  pub same : (name : List ℕ) → b.files name ≡ a.files name
  pub durable : (j : ℕ) (name : List ℕ) → j < i → slice_get names j ≡ Some name → IsDurable b name
  pub effect : Effect (IsData names) (MayLeaveOwn (IsData names) a) a b

pub syncing_effect : {names : List (List ℕ)} {i : ℕ} {a b c : Disk} (name : List ℕ) → Syncing names i a b → slice_get names i ≡ Some name → CallsOn name LeavesSame b c → Effect (IsData names) (MayLeaveOwn (IsData names) a) a c
syncing_effect {i = i} name is at call = effect_then_sync is.effect (suc i, at) call

pub syncing_more : {names : List (List ℕ)} {i : ℕ} {a b c : Disk} (name : List ℕ) → Syncing names i a b → slice_get names i ≡ Some name → CallsOn name LeavesSame b c → c.files name ≡ b.files name → IsDurable c name → Syncing names (i + 1) a c
syncing_more {names} {i} {a} {b} {c} name is at call same durable = record {
  same = λ other. elim (same_or_other name other) [
    | inl here ↦ ap c.files here ∙ same ∙ ap b.files (sym here) ∙ is.same other
    | inr off ↦ call.others other off ∙ is.same other
  ];
  durable = λ j other below there. elim (same_or_other name other) [
    | inl here ↦ let Of : List ℕ → Type 0 = λ n. IsDurable c n in subst Of (sym here) durable
    | inr off ↦
        let less : j < i = elim (cases_lt j i) [
          | inl less ↦ less
          | inr more ↦
              let last : j ≡ i = omega (arith, below, more) in
              let both : ◌≡◌ {A = Option (List ℕ)} (Some other) (Some name) = sym there ∙ ap (slice_get names) last ∙ at in absurd (off cc)
        ] in
        λ content may. is.durable j other less there content (call.others_left other content off may) ∙ sym (call.others other off)
  ];
  effect = syncing_effect name is at call;
}

pub syncing_ends : {names : List (List ℕ)} {i : ℕ} {a b : Disk} → Syncing names i a b → length names ≤ i → (name : List ℕ) → IsData names name → IsDurable b name
syncing_ends {names} {i} {a} {b} is last name data' = go data'.0 data'.1
  where
    go : (file : ℕ) → name_of names file ≡ Some name → IsDurable b name
    go zero there = absurd cc
    go (suc j) there = is.durable j name (omega (arith, slice_get_within names j name there, last)) there

-- ---- making a data file

pub fresh_more : (file number : ℕ) (content new page : List ℕ) (at : ℕ) → IsFreshFile file number content → at ≡ 8192 * number → page ≡ fresh_page file number → length page ≡ 8192 → new ≡ written content at page → IsFreshFile file (number + 1) new
fresh_more file number content new page at is place paged whole wrote =
    let end : at ≡ length content = omega (arith, place, is.size) in
    let joined : new ≡ content ++ page = wrote ∙ ap (λ (k : ℕ). written content k page) end ∙ written-end content page in
    record {
      size = ap length joined ∙ omega (arith, length-append content page, is.size, whole);
      fresh = λ n below. elim (cases_lt n number) [
        | inl less ↦ ap (λ (c : List ℕ). page_in c n) joined ∙ before n less ∙ is.fresh n less
        | inr more ↦
            let last : number ≡ n = omega (arith, below, more) in
            let At : ℕ → Type 0 = λ k. page_in new k ≡ fresh_page file k in
            subst At last (ap (λ (c : List ℕ). page_in c number) joined ∙ here ∙ paged)
      ];
    }
  where
    before : (n : ℕ) → n < number → page_in (content ++ page) n ≡ page_in content n
    before n less =
        ap (take 8192) (drop-append-le (8192 * n) content page (omega (arith, less, is.size)))
        ∙ take-append-le 8192 (drop (8192 * n) content) page (omega (arith, less, is.size, length-drop (8192 * n) content))

    here : page_in (content ++ page) number ≡ page
    here = ap (take 8192) (drop_at content page (8192 * number) is.size) ∙ take_all 8192 page (omega (arith, whole))

-- ---- opening the side file

pub made_empty : (b : Disk) (gate : KeptGate) (name : List ℕ) → gate.name ≡ name → gate.spans ≡ [] → IsGate b gate → sealed (b.files name) ≡ []
made_empty b gate name named none is =
    let Of : List ℕ → Type 0 = λ n. sealed (b.files n) ≡ map (part_of (contents (b.files n))) gate.spans in
    subst Of named (gate_sealed is) ∙ ap (map (part_of (contents (b.files name)))) none

pub foreign_sealed : (file : Option (List ℕ)) → (IsGateFile (contents file) → ⊥) → sealed file ≡ []
foreign_sealed file foreign = foreign_blobs (contents file) foreign

pub on_ok : {T E P Q : Type 0} (r : Result T E) → (P → Q) → OnOk r P → OnOk r Q
on_ok (Ok x) more is = more is
on_ok (Err e) more is = is

pub made_effect : {name : List ℕ} {a b c : Disk} → IsLawful a → ChangesNothing a b → IsDurable a name → sealed (a.files name) ≡ [] → Effect (IsName name) (λ image. b.may name (image name) ⊎ (sealed (image name) ≡ [])) b c
    → Effect (IsName name) (λ image. sealed (image name) ≡ sealed (a.files name)) a c
made_effect {name} lawful nothing durable none effect =
    effect_after_nothing lawful nothing (effect_weaken (λ image here. elim here [
      | inl may ↦ ap sealed (durable (image name) (nothing.nothing_more name (image name) may))
      | inr empty ↦ empty ∙ sym none
    ]) effect)

-- a length that was asked for
pub len_inside : (file : Option (List ℕ)) (o : Option ℕ) (len at : ℕ) → o ≡ option_map length file → o ≡ Some len → at ≤ len → at ≤ length (contents file)
len_inside None o len at is some below = absurd (let both : ◌≡◌ {A = Option ℕ} None (Some len) = sym is ∙ some in cc)
len_inside (Some file) o len at is some below =
    let both : ◌≡◌ {A = Option ℕ} (Some (length file)) (Some len) = sym is ∙ some in
    let same : length file ≡ len = cc in
    omega (arith, below, same)

-- what a test of two numbers says

pub eq_true : (a b : ℕ) → nat_eq a b ≡ true → a ≡ b
eq_true a b is = elim (eqb_tells a b) [ inl same ↦ same.1 | inr other ↦ absurd (let both : true ≡ false = sym is ∙ other.0 in cc) ]

pub eq_false : (a b : ℕ) → nat_eq a b ≡ false → a ≢ b
eq_false a b is = elim (eqb_tells a b) [ inl same ↦ absurd (let both : true ≡ false = sym same.0 ∙ is in cc) | inr other ↦ other.1 ]
