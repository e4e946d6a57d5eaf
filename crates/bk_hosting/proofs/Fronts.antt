-- What a crash leaves of hosted databases, from what it leaves of their stores.
use Rattle.std.proofs.Common.{◌≡◌, ◌≤◌, ℕ, zero, suc, Bool, true, false, List, [], ◌∷◌, drop, length, map, take, Some, refl, sym, ap, subst, ◌∙◌, arith}
use Rattle.std.specs.Prelude.{slice_get}
use Rattle.std.specs.List.{AllByRecursion, AllZip}
use Rattle.std.proofs.lemmas.List.{take-append-drop}
use Rattle.bk_device.specs.Disk.{Files}
use Rattle.bk_facts.specs.declared.facts.DataFile.{DataFile}
use Rattle.bk_hosted.specs.Fronts.{Waits}
use Rattle.bk_hosted.specs.Hosted.{Hosted, is_up}
use Rattle.bk_master.specs.declared.record.Entry.{Entry}
use Rattle.bk_master.specs.declared.record.Record.{Record}
use Rattle.bk_store.specs.Told.{Told, front_of}
use Rattle.bk_stores.specs.Stores.{AreEntries, Fixed, HoldsEntry, IsAt, LeavesEntry, LeavesStores, at_paths, files_by, its_files}
use Rattle.bk_stores.specs.Beside.{AreApart}
use Rattle.bk_hosting.specs.Hosting.{AreOf, HasRecord, LosesWaiting, LeavesHosted, Tells}

-- ---- records

-- what is known of all behind a place is known of all behind a later one
pub all-later : {X : Type 0} (P : X → Type 0) (xs : List X) (n m : ℕ) → n ≤ m → AllByRecursion P (drop n xs) → AllByRecursion P (drop m xs)
all-later P [] zero zero le all = all
all-later P [] zero (suc m) le all = tt
all-later P [] (suc n) zero le all = tt
all-later P [] (suc n) (suc m) le all = tt
all-later P (x ∷ xs) zero zero le all = all
all-later P (x ∷ xs) zero (suc m) le all = all-later P xs zero m (omega arith) all.1
all-later P (x ∷ xs) (suc n) zero le all = absurd (omega (arith, le))
all-later P (x ∷ xs) (suc n) (suc m) le all = all-later P xs n m (omega (arith, le)) all

-- ---- lists that grow together

-- a database and what a crash leaves of it
pub record Leaves (Good : Hosted → ℕ → Hosted → Type 0) (image : Files) (e : Entry) (t : Told) (h : Hosted) : Type 0 where
  pub k : ℕ
  pub front : Hosted
  pub good : Good h k front
  pub tells : Tells (front_of k t) front
  pub holds : HoldsEntry e (front_of k t) image

-- fronts of some databases, with what stores hold of them
pub record Collected (Good : Hosted → ℕ → Hosted → Type 0) (image : Files) (entries : List Entry) (tolds : List Told) (hosted : List Hosted) : Type 0 where
  pub news : List Told
  pub fronts : List Hosted
  pub count : length news ≡ length tolds
  pub same : AllZip (λ (t n : Told). (k : ℕ) × (n ≡ front_of k t)) tolds news
  pub good : AllZip (λ (h f : Hosted). (k : ℕ) × Good h k f) hosted fronts
  pub tells : AllZip Tells news fronts
  pub each : (i : ℕ) (e : Entry) (t : Told) → IsAt entries news i e t → HoldsEntry e t image

pub collect : (Good : Hosted → ℕ → Hosted → Type 0) (image : Files) (entries : List Entry) (tolds : List Told) (hosted : List Hosted) → length tolds ≡ length entries → length tolds ≡ length hosted
    → ((i : ℕ) (e : Entry) (t : Told) (h : Hosted) → IsAt entries tolds i e t → slice_get hosted i ≡ Some h → Leaves Good image e t h) → Collected Good image entries tolds hosted
collect Good image entries [] [] count same leaves = record { news = []; fronts = []; count = refl; same = tt; good = tt; tells = tt; each = λ i e t at. absurd (cc (at.1)) }
collect Good image entries [] (h ∷ hosted) count same leaves = absurd (omega (arith, same))
collect Good image entries (t ∷ tolds) [] count same leaves = absurd (omega (arith, same))
collect Good image [] (t ∷ tolds) (h ∷ hosted) count same leaves = absurd (omega (arith, count))
collect Good image (e ∷ entries) (t ∷ tolds) (h ∷ hosted) count same leaves =
    let here : Leaves Good image e t h = leaves zero e t h (refl, refl) refl in
    let rest : Collected Good image entries tolds hosted = collect Good image entries tolds hosted (omega (arith, count)) (omega (arith, same)) (λ i f u g at there. leaves (suc i) f u g at there) in
    record {
      news = front_of here.k t ∷ rest.news;
      fronts = here.front ∷ rest.fronts;
      count = ap suc rest.count;
      same = ((here.k, refl), rest.same);
      good = ((here.k, here.good), rest.good);
      tells = (here.tells, rest.tells);
      each = at-each here rest;
    }
  where
    at-each : (here : Leaves Good image e t h) (rest : Collected Good image entries tolds hosted) → (i : ℕ) (f : Entry) (u : Told) → IsAt (e ∷ entries) (front_of here.k t ∷ rest.news) i f u → HoldsEntry f u image
    at-each here rest zero f u at =
        let first : e ≡ f = cc (at.0) in
        let told : front_of here.k t ≡ u = cc (at.1) in
        subst (λ (v : Told). HoldsEntry f v image) told (subst (λ (g : Entry). HoldsEntry g (front_of here.k t) image) first here.holds)
    at-each here rest (suc i) f u at = rest.each i f u at

-- ---- entries

-- fronts have the files of their databases
front-at : (tolds news : List Told) → AllZip (λ (t n : Told). (k : ℕ) × (n ≡ front_of k t)) tolds news → (i : ℕ) (n : Told) → slice_get news i ≡ Some n → (t : Told) × (slice_get tolds i ≡ Some t) × ((e : Entry) → its_files e n ≡ its_files e t)
front-at [] [] same i n there = absurd (cc (there))
front-at [] (m ∷ news) same i n there = absurd same
front-at (t ∷ tolds) [] same i n there = absurd same
front-at (t ∷ tolds) (m ∷ news) same zero n there =
    let is : m ≡ n = cc (there) in
    (t, refl, λ e. ap (its_files e) (sym is ∙ same.0.1) ∙ files e.is_stored same.0.0)
  where
    files : (b : Bool) (k : ℕ) → files_by b (front_of k t) ≡ files_by b t
    files true k = refl
    files false k = refl
front-at (t ∷ tolds) (m ∷ news) same (suc i) n there = front-at tolds news same.1 i n there

pub fronts-entries : (r : Record) (tolds news : List Told) → length news ≡ length tolds → AllZip (λ (t n : Told). (k : ℕ) × (n ≡ front_of k t)) tolds news → AreEntries r tolds → AreEntries r news
fronts-entries r tolds news count same is = record {
  keeps = is.keeps;
  count = count ∙ is.count;
  below = is.below;
  under = is.under;
  apart = λ i j e f t u differ first second.
      let one = front-at tolds news same i t first.1 in
      let two = front-at tolds news same j u second.1 in
      subst (λ (fs : List DataFile). AreApart e.store fs f.store (its_files f u)) (sym (one.2 e))
      (subst (λ (fs : List DataFile). AreApart e.store (its_files e one.0) f.store fs) (sym (two.2 f)) (is.apart i j e f one.0 two.0 differ (first.0, one.1) (second.0, two.1)));
  aside = λ i k e t u at there.
      let one = front-at tolds news same i t at.1 in
      subst (λ (fs : List DataFile). AreApart u.store (at_paths u.paths) e.store fs) (sym (one.2 e)) (is.aside i k e one.0 u (at.0, one.1) there);
}

-- ---- what is left

pub all-got : {X : Type 0} (P : X → Type 0) (xs : List X) → ((i : ℕ) (x : X) → slice_get xs i ≡ Some x → P x) → AllByRecursion P xs
all-got P [] each = tt
all-got P (x ∷ xs) each = (each zero x refl, all-got P xs (λ i y there. each (suc i) y there))

pub zip-got : {A B : Type 0} (R : A → B → Type 0) (xs : List A) (ys : List B) → AllZip R xs ys → (i : ℕ) (x : A) (y : B) → slice_get xs i ≡ Some x → slice_get ys i ≡ Some y → R x y
zip-got R [] [] zip i x y one two = absurd (cc (one))
zip-got R [] (b ∷ ys) zip i x y one two = absurd zip
zip-got R (a ∷ xs) [] zip i x y one two = absurd zip
zip-got R (a ∷ xs) (b ∷ ys) zip zero x y one two = let first : a ≡ x = cc (one) in let second : b ≡ y = cc (two) in subst (R x) second (subst (λ (z : _). R z b) first zip.0)
zip-got R (a ∷ xs) (b ∷ ys) zip (suc i) x y one two = zip-got R xs ys zip.1 i x y one two

pub zip-length : {A B : Type 0} (R : A → B → Type 0) (xs : List A) (ys : List B) → AllZip R xs ys → length xs ≡ length ys
zip-length R [] [] zip = refl
zip-length R [] (b ∷ ys) zip = absurd zip
zip-length R (a ∷ xs) [] zip = absurd zip
zip-length R (a ∷ xs) (b ∷ ys) zip = ap suc (zip-length R xs ys zip.1)

-- a front of some records, of which there are any, has one
pub some-taken : {X : Type 0} (xs : List X) (n : ℕ) → 1 ≤ n → 1 ≤ length xs → 1 ≤ length (take n xs)
some-taken [] n some full = absurd (omega (arith, full))
some-taken (x ∷ xs) zero some full = absurd (omega (arith, some))
some-taken (x ∷ xs) (suc n) some full = omega arith

-- what isn't durable of each waits
pub record MayLose (least : ℕ) (h : Hosted) : Type 0 where
  pub first : 1 ≤ least
  pub some : HasRecord h
  pub waits : AllByRecursion (Waits h.transactions) (drop least h.records)

-- a front of a database, and no less of it than is durable
record IsGood (h : Hosted) (k : ℕ) (f : Hosted) : Type 0 where
  loses : LosesWaiting h f
  some : HasRecord f

-- fronts can be used where their databases can
ups-lost : (hs fs : List Hosted) → AllZip LosesWaiting hs fs → map is_up hs ≡ map is_up fs
ups-lost [] [] zip = refl
ups-lost [] (f ∷ fs) zip = absurd zip
ups-lost (h ∷ hs) [] zip = absurd zip
ups-lost (h ∷ hs) (f ∷ fs) zip =
    ap (λ up. up ∷ map is_up hs) (sym (ap is_up zip.0.same)) ∙ ap (λ (ups : List Bool). is_up f ∷ ups) (ups-lost hs fs zip.1)

module _ (fixed : Fixed) (least : ℕ → ℕ) (tolds : List Told) (hosted : List Hosted) (image : Files) (left : LeavesStores fixed least tolds image) (stored : AreOf fixed hosted)
    (tells : AllZip Tells tolds hosted) (may : (i : ℕ) (h : Hosted) → slice_get hosted i ≡ Some h → MayLose (least i) h) where
  abbrev entries : List Entry
  entries = left.«record».databases

  abbrev cut_to : ℕ → Hosted → Hosted
  cut_to k h = record h { records = take k h.records }

  front-left : (i : ℕ) (e : Entry) (t : Told) (h : Hosted) → IsAt entries tolds i e t → slice_get hosted i ≡ Some h → Leaves IsGood image e t h
  front-left i e t h at there =
      let its : LeavesEntry e (least i) t image = left.each i e t at in
      let loses : MayLose (least i) h = may i h there in
      let tell : Tells t h = zip-got Tells tolds hosted tells i t h at.1 there in
      record {
        k = its.0;
        front = cut_to its.0 h;
        good = record {
          loses = record { same = refl; lost = drop its.0 h.records; splits = sym (take-append-drop its.0 h.records); waits = all-later (Waits h.transactions) h.records (least i) its.0 its.1 loses.waits };
          some = some-taken h.records its.0 (let low = loses.first in let le = its.1 in omega (arith, low, le)) loses.some;
        };
        tells = record { spec = tell.spec; note = tell.note; records = ap (take its.0) tell.records };
        holds = its.2;
      }

  loses-each : (hs fs : List Hosted) → AllZip (λ (h f : Hosted). (k : ℕ) × IsGood h k f) hs fs → AllZip LosesWaiting hs fs × AllByRecursion HasRecord fs
  loses-each [] [] zip = (tt, tt)
  loses-each [] (f ∷ fs) zip = absurd zip
  loses-each (h ∷ hs) [] zip = absurd zip
  loses-each (h ∷ hs) (f ∷ fs) zip = let rest = loses-each hs fs zip.1 in ((zip.0.1.loses, rest.0), (zip.0.1.some, rest.1))

  pub leaves-hosted : LeavesHosted fixed.own hosted image
  leaves-hosted =
      let all : Collected IsGood image entries tolds hosted = collect IsGood image entries tolds hosted left.entries.count (zip-length Tells tolds hosted tells) front-left in
      let good = loses-each hosted all.fronts all.good in (
        all.fronts,
        good.0,
        record {
          «record» = left.«record»;
          is_own = ap (λ (f : Fixed). f.own) left.is_fixed;
          tolds = all.news;
          holds = record { is_record = left.is_record; entries = fronts-entries left.«record» tolds all.news all.count all.same left.entries; each = all.each };
          stored = ap (λ (f : Fixed). f.stored) left.is_fixed ∙ stored ∙ ups-lost hosted all.fronts good.0;
          tells = all.tells;
          some = good.1;
        },
      )
