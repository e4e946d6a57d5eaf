-- An extent whose pages are copied one behind the other.
use Rattle.std.proofs.Common.{◌≡◌, ◌≤◌, ◌+◌, ◌*◌, ℕ, false, List, [], ◌++◌, length, take, drop, map, refl, sym, ◌∙◌, ap, subst, arith, inl, inr}
use Rattle.std.proofs.lemmas.Bool.{cases_lt}
use Rattle.std.proofs.lemmas.List.{drop-append-le, length-append, length-drop, take-append-le, take_all}
use Rattle.std.proofs.Math.Seq.{drop-append_seam}
use Rattle.bk_device.specs.Calls.{read_at}
use Rattle.bk_device.specs.Compose.{effect_then}
use Rattle.bk_device.specs.Disk.{Disk}
use Rattle.bk_ids.specs.declared.record.Rec.{Rec}
use Rattle.bk_paged.specs.Holds.{IsStored}
use Rattle.bk_paths.specs.Paths.{end_of}
use Rattle.bk_undo.specs.Spelled.{spelled}
use Rattle.bk_store.specs.Copying.{ArePages, page_of_extent}
use Rattle.bk_store.specs.Store.{Crashes, IsStore, Kept}
use Rattle.bk_store.specs.Told.{Told}
use Rattle.bk_store.specs.CutLaws.{crash-later}

read_at-front : (xs ys : List ℕ) (at n : ℕ) → at + n ≤ length xs → read_at (xs ++ ys) at n ≡ read_at xs at n
read_at-front xs ys at n within =
    let size : n ≤ length (drop at xs) = omega (arith, within, length-drop at xs) in
    ap (take n) (drop-append-le at xs ys (omega (arith, within))) ∙ take-append-le n (drop at xs) ys size

read_at-behind : (xs ys : List ℕ) (at : ℕ) → length xs ≡ at → read_at (xs ++ ys) at (length ys) ≡ ys
read_at-behind xs ys at is = ap (λ (n : ℕ). take (length ys) (drop n (xs ++ ys))) (sym is) ∙ ap (take (length ys)) (drop-append_seam xs ys) ∙ take_all (length ys) ys (omega arith)

pages-none : (records : List Rec) (file extent : ℕ) (bytes : List ℕ) → bytes ≡ [] → ArePages records file extent 0 bytes
pages-none records file extent bytes none = record { whole = ap length none; pages = λ i within. absurd (omega (arith, within)) }

pages-more : (records : List Rec) (file extent n : ℕ) (bytes page : List ℕ) → ArePages records file extent n bytes → IsStored records (end_of records) (page_of_extent file extent n) page → ArePages records file extent (n + 1) (bytes ++ page)
pages-more records file extent n bytes page are is =
    let Of : ℕ → List ℕ → Type 0 = λ i p. IsStored records (end_of records) (page_of_extent file extent i) p in
    record {
      whole = omega (arith, length-append bytes page, are.whole, is.sound.whole);
      pages = λ i within. elim (cases_lt i n) [
        | inl before ↦ subst (Of i) (sym (read_at-front bytes page (8192 * i) 8192 (omega (arith, are.whole, before)))) (are.pages i before)
        | inr last ↦
            let here : n ≡ i = omega (arith, within, last) in
            let at : length bytes ≡ 8192 * i = are.whole ∙ ap (λ (k : ℕ). 8192 * k) here in
            let same : read_at (bytes ++ page) (8192 * i) 8192 ≡ page = ap (read_at (bytes ++ page) (8192 * i)) (sym is.sound.whole) ∙ read_at-behind bytes page (8192 * i) at in
            subst (Of i) (sym same) (subst (λ (k : ℕ). Of k page) here is)
      ];
    }

-- So many pages of an extent have been copied.
pub record Copying (tells : Type 0) (file extent n : ℕ) (a b : Disk) (s then : Kept) (bytes : List ℕ) : Type 0 where
  pub fit : then.paged.failed ≡ false
  pub same : (then.shown ≡ s.shown) × (then.known ≡ s.known) × (then.note ≡ s.note)
  pub ends : (then.paged.log.db ≡ s.paged.log.db) × (then.paged.log.end ≡ s.paged.log.end) × (then.paged.log.head.kept ≡ s.paged.log.head.kept) × (then.paged.facts ≡ s.paged.facts)
  pub stands : tells → (told : Told) → IsStore a s told → IsStore b then told
  pub later : tells → (told : Told) → IsStore a s told → s.paged.log.stored ≤ then.paged.log.stored
  pub copied : tells → (told : Told) → IsStore a s told → ArePages (map spelled told.records) file extent n bytes
  pub crash : tells → (told : Told) → IsStore a s told → Crashes s told a b

pub copying-begins : (tells : Type 0) (file extent : ℕ) (a b : Disk) (s : Kept) (bytes : List ℕ) → s.paged.failed ≡ false → (tells → (told : Told) → IsStore a s told → IsStore b s told) → (tells → (told : Told) → IsStore a s told → Crashes s told a b) → bytes ≡ []
    → Copying tells file extent 0 a b s s bytes
copying-begins tells file extent a b s bytes fit stands crash none = record {
  fit = fit;
  same = (refl, refl, refl);
  ends = (refl, refl, refl, refl);
  stands = stands;
  later = λ t told is. omega arith;
  copied = λ t told is. pages-none (map spelled told.records) file extent bytes none;
  crash = crash;
}

-- a crash in what comes next
pub copying-crash : {tells : Type 0} {file extent n : ℕ} {a b : Disk} {s then : Kept} {bytes : List ℕ} (c : Disk) → Copying tells file extent n a b s then bytes → (tells → (told : Told) → IsStore b then told → Crashes then told b c)
    → tells → (told : Told) → IsStore a s told → Crashes s told a c
copying-crash {tells} {file} {extent} {n} {a} {b} {s} {then} {bytes} c copying next t told is =
    effect_then (copying.crash t told is) (crash-later s then told b c copying.ends.0 (copying.later t told is) (next t told (copying.stands t told is)))

-- one page more
pub copying-more : {tells : Type 0} {file extent n : ℕ} {a b : Disk} {s then : Kept} {bytes : List ℕ} (c : Disk) (last : Kept) (page more : List ℕ) → Copying tells file extent n a b s then bytes
    → last.paged.failed ≡ false
    → (last.shown ≡ then.shown) × (last.known ≡ then.known) × (last.note ≡ then.note)
    → (last.paged.log.db ≡ then.paged.log.db) × (last.paged.log.end ≡ then.paged.log.end) × (last.paged.log.head.kept ≡ then.paged.log.head.kept) × (last.paged.facts ≡ then.paged.facts)
    → (tells → (told : Told) → IsStore b then told → IsStore c last told)
    → (tells → (told : Told) → IsStore b then told → then.paged.log.stored ≤ last.paged.log.stored)
    → (tells → (told : Told) → IsStore b then told → IsStored (map spelled told.records) (end_of (map spelled told.records)) (page_of_extent file extent n) page)
    → (tells → (told : Told) → IsStore b then told → Crashes then told b c)
    → more ≡ bytes ++ page
    → Copying tells file extent (n + 1) a c s last more
copying-more {tells} {file} {extent} {n} {a} {b} {s} {then} {bytes} c last page more copying fit same ends stands later stored crash is_more = record {
  fit = fit;
  same = (same.0 ∙ copying.same.0, same.1 ∙ copying.same.1, same.2 ∙ copying.same.2);
  ends = (ends.0 ∙ copying.ends.0, ends.1 ∙ copying.ends.1, ends.2 ∙ copying.ends.2, ends.3 ∙ copying.ends.3);
  stands = λ t told is. stands t told (copying.stands t told is);
  later = λ t told is. omega (arith, copying.later t told is, later t told (copying.stands t told is));
  copied = λ t told is.
      let records = map spelled told.records in
      subst (λ (bs : List ℕ). ArePages records file extent (n + 1) bs) (sym is_more) (pages-more records file extent n bytes page (copying.copied t told is) (stored t told (copying.stands t told is)));
  crash = copying-crash c copying crash;
}

-- all eight are copied
pub copying-ends : {tells : Type 0} {file extent n : ℕ} {a b : Disk} {s then : Kept} {bytes : List ℕ} → Copying tells file extent n a b s then bytes → n ≡ 8 → tells → (told : Told) → IsStore a s told → ArePages (map spelled told.records) file extent 8 bytes
copying-ends {tells} {file} {extent} {n} {a} {b} {s} {then} {bytes} copying all t told is = subst (λ (k : ℕ). ArePages (map spelled told.records) file extent k bytes) all (copying.copied t told is)
