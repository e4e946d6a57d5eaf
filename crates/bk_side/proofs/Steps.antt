-- Copying the pages of a sealed batch.
use Rattle.std.proofs.Common.{◌≡◌, ◌≢◌, ◌⊎◌, ◌<◌, ◌≤◌, ◌+◌, ◌*◌, ◌/◌, ℕ, zero, suc, List, [], ◌∷◌, length, drop, Option, Some, refl, inl, inr, sym, ap, subst, ◌∙◌, arith}
use Rattle.bk_device.specs.Calls.{contents, read_at, written, IsTorn, LeavesWrite, ChangesNothing}
use Rattle.bk_device.specs.Compose.{effect_weaken, effect_then_nothing, effect_then_step}
use Rattle.bk_device.specs.Disk.{Files, Disk, IsDurable, IsLawful}
use Rattle.bk_device.specs.Effects.{Effect, MayLeaveOwn}
use Rattle.bk_device.specs.Laws.{durable_by_nothing}
use Rattle.bk_device.specs.Torn.{torn-written, read_at-written}
use Rattle.bk_gate.specs.Blobs.{sealed}
use Rattle.bk_side.specs.Names.{name_of, IsOwn, AreApart}
use Rattle.bk_side.specs.Pages.{Entry, page_in, content_of, page_of, entry_of, entries_of, batched, first_batch, batch_of, shown, Shows}
use Rattle.bk_side.specs.Side.{AreDurable}
use Rattle.bk_side.specs.Writing.{WritesPage, WritesEntry, PutsEntry}
use Rattle.bk_side.specs.BatchLaws.{page_tells, put, put_here, put_other, put_away, HasPage, absorbs, AreWhole, content_at, content_same, whole_page, torn_sizes, torn_pages}
use Rattle.bk_side.proofs.Entries.{entry_read, none_left, entries_whole}

-- the entries of a sealed batch have whole pages
first_whole : (blobs : List (List ℕ)) → AreWhole (first_batch blobs)
first_whole [] = tt
first_whole (blob ∷ blobs) = entries_whole blob

pub batch_whole : (file : Option (List ℕ)) → AreWhole (batch_of file)
unfolding batch_of
batch_whole file = first_whole (sealed file)

-- The side file is as it was, data files have the lengths that they had, and each page is one that the batch makes what it was to make.
pub record Stays (side : List ℕ) (names : List (List ℕ)) (files image : Files) : Type 0 where
  pub side_is : image side ≡ files side
  pub sizes : (file : ℕ) → length (content_of names image file) ≡ length (content_of names files file)
  pub pages : (at : ℕ × ℕ) → batched (batch_of (files side)) at (page_of names image at) ≡ shown side names files at

pub stays_shows : (side : List ℕ) (names : List (List ℕ)) (files image : Files) → Stays side names files image → Shows side names (shown side names files) image
stays_shows side names files image is = record {
  pages = λ at. ap (λ (f : Option (List ℕ)). batched (batch_of f) at (page_of names image at)) is.side_is ∙ is.pages at;
}

-- files that are the same under the names
pub stays_same : (side : List ℕ) (names : List (List ℕ)) (files image : Files) → ((name : List ℕ) → IsOwn side names name → image name ≡ files name) → Stays side names files image
stays_same side names files image same =
    let content : (file : ℕ) → content_of names image file ≡ content_of names files file = λ file. content_same names files image file (λ name at. same name (inr (file, at))) in
    record {
      side_is = same side (inl refl);
      sizes = λ file. ap length (content file);
      pages = λ at. ap (λ (c : List ℕ). batched (batch_of (files side)) at (page_in c at.1)) (content at.0);
    }

-- a page of the batch is written, or in part
write_stays : (side : List ℕ) (names : List (List ℕ)) (files : Files) (e : Entry) (name : List ℕ) → AreApart side names → name_of names e.0.0 ≡ Some name → HasPage e.0 (batch_of (files side))
    → 8192 * e.0.1 + 8192 ≤ length (content_of names files e.0.0)
    → (before after : Files) → Stays side names files before → LeavesWrite (8192 * e.0.1) 8192 (before name) (after name) → ((other : List ℕ) → other ≢ name → after other ≡ before other) → Stays side names files after
write_stays side names files e name apart is has inside before after stays leaves others =
    let size : length (contents (before name)) ≡ length (content_of names files e.0.0) = sym (ap length (content_at names before e.0.0 name is)) ∙ stays.sizes e.0.0 in
    let there : 8192 * e.0.1 + 8192 ≤ length (contents (before name)) = omega (arith, size, inside) in
    let sizes : (file : ℕ) → length (content_of names after file) ≡ length (content_of names before file) = torn_sizes names apart.different e.0.0 e.0.1 name is before after leaves others there in
    record {
      side_is = others side (λ same. apart.from_side e.0.0 name is (sym same)) ∙ stays.side_is;
      sizes = λ file. sizes file ∙ stays.sizes file;
      pages = λ at. elim (page_tells e.0 at) [
        | inl same ↦
            let Has : ℕ × ℕ → Type 0 = λ p. HasPage p (batch_of (files side)) in
            let Inside : ℕ × ℕ → Type 0 = λ p. 8192 * p.1 + 8192 ≤ length (content_of names files p.0) in
            let room : 8192 * at.1 + 8192 ≤ length (content_of names files at.0) = subst Inside same.1 inside in
            absorbs (batch_of (files side)) at (page_of names after at) (page_of names before at) (subst Has same.1 has)
            (whole_page (content_of names after at.0) at.1 (omega (arith, room, sizes at.0, stays.sizes at.0))) (whole_page (content_of names before at.0) at.1 (omega (arith, room, stays.sizes at.0)))
            ∙ stays.pages at
        | inr other ↦ ap (batched (batch_of (files side)) at) (torn_pages names apart.different e.0.0 e.0.1 name is before after leaves others there at other.1) ∙ stays.pages at
      ];
    }

-- ---- one entry after the other

abbrev pub batch_at : List ℕ → ℕ → ℕ → Disk → List Entry
batch_at side at len a = entries_of (read_at (contents (a.files side)) at len)

-- the first i entries were copied
pub record Copying (side : List ℕ) (names : List (List ℕ)) (at len i : ℕ) (a b : Disk) : Type 0 where
  pub same : b.files side ≡ a.files side
  pub durable : IsDurable b side
  pub effect : Effect (IsOwn side names) (Stays side names a.files) a b
  pub done : (p : ℕ × ℕ) → batched (drop i (batch_at side at len a)) p (page_of names b.files p) ≡ shown side names a.files p

now_stays : {side : List ℕ} {names : List (List ℕ)} {at len i : ℕ} {a b : Disk} → IsLawful b → Copying side names at len i a b → Stays side names a.files b.files
now_stays {b = b} lawful is = is.effect.now b.files (λ name _. lawful.reads name)

has_drop : (i : ℕ) (batch rest : List Entry) (e : Entry) → drop i batch ≡ e ∷ rest → HasPage e.0 batch
has_drop zero [] rest e is = absurd cc
has_drop zero (d ∷ batch) rest e is = inl (cc)
has_drop (suc i) [] rest e is = absurd cc
has_drop (suc i) (d ∷ batch) rest e is = inr (has_drop i batch rest e is)

whole_drop : (i : ℕ) (batch : List Entry) → AreWhole batch → AreWhole (drop i batch)
whole_drop zero batch all = all
whole_drop (suc i) [] all = tt
whole_drop (suc i) (d ∷ batch) all = whole_drop i batch all.1

-- the entry that is read next
abbrev pub entry_at : List ℕ → ℕ → ℕ → Disk → Entry
entry_at side at i b = entry_of (read_at (contents (b.files side)) (at + 8198 * i) 8198)

head_is : {side : List ℕ} {names : List (List ℕ)} {at len i : ℕ} {a b : Disk} → Copying side names at len i a b → i < len / 8198 → at + len ≤ length (contents (a.files side))
    → drop i (batch_at side at len a) ≡ entry_at side at i b ∷ drop (i + 1) (batch_at side at len a)
head_is {side} {names} {at} {len} {i} {a} {b} is below inside =
    entry_read (contents (a.files side)) at len i below inside
    ∙ ap (λ (f : Option (List ℕ)). entry_of (read_at (contents f) (at + 8198 * i) 8198) ∷ drop (i + 1) (batch_at side at len a)) (sym is.same)

module _ {side : List ℕ} {names : List (List ℕ)} {at len i : ℕ} {a b : Disk} (apart : AreApart side names) (lawful : IsLawful b) (is : Copying side names at len i a b)
    (below : i < len / 8198) (inside : at + len ≤ length (contents (a.files side))) (batch : batch_of (a.files side) ≡ batch_at side at len a) where
  -- its page lies whole in its file, by what the file held at first
  write_step : (name : List ℕ) → name_of names (entry_at side at i b).0.0 ≡ Some name → 8192 * (entry_at side at i b).0.1 + 8192 ≤ length (contents (b.files name))
      → (before after : Files) → Stays side names a.files before → LeavesWrite (8192 * (entry_at side at i b).0.1) 8192 (before name) (after name) → ((other : List ℕ) → other ≢ name → after other ≡ before other) → Stays side names a.files after
  write_step name named room =
      let e : Entry = entry_at side at i b in
      let Has : List Entry → Type 0 = λ es. HasPage e.0 es in
      let size : length (contents (b.files name)) ≡ length (content_of names a.files e.0.0) = sym (ap length (content_at names b.files e.0.0 name named)) ∙ (now_stays lawful is).sizes e.0.0 in
      write_stays side names a.files e name apart named (subst Has (sym batch) (has_drop i (batch_at side at len a) (drop (i + 1) (batch_at side at len a)) e (head_is is below inside))) (omega (arith, room, size))

  pub copying_tried : (c : Disk) → ChangesNothing b c ⊎ WritesEntry names (entry_at side at i b) b c → Effect (IsOwn side names) (Stays side names a.files) a c
  copying_tried c tried = elim tried [
    | inl nothing ↦ effect_then_nothing is.effect nothing
    | inr wrote ↦ effect_then_step is.effect (inr ((entry_at side at i b).0.0, wrote.1)) (write_step wrote.0 wrote.1 wrote.2.inside) wrote.2.call
  ]

  -- what is left to be done once the pages of the first entry are as it says
  less : (c : Disk) → ((p : ℕ × ℕ) → page_of names c.files p ≡ put (entry_at side at i b) p (page_of names b.files p)) → (p : ℕ × ℕ) → batched (drop (i + 1) (batch_at side at len a)) p (page_of names c.files p) ≡ shown side names a.files p
  less c made p =
      ap (batched (drop (i + 1) (batch_at side at len a)) p) (made p)
      ∙ ap (λ (es : List Entry). batched es p (page_of names b.files p)) (sym (head_is is below inside)) ∙ is.done p

  pub copying_more : (c : Disk) → PutsEntry names (entry_at side at i b) b c → Copying side names at len (i + 1) a c
  copying_more c puts = elim puts [
    | inl left ↦
        let nothing : ChangesNothing b c = left.1 in
        let content : (file : ℕ) → content_of names c.files file ≡ content_of names b.files file = λ file. content_same names b.files c.files file (λ name at. nothing.files name) in
        record {
          same = nothing.files side ∙ is.same;
          durable = durable_by_nothing side nothing is.durable;
          effect = effect_then_nothing is.effect nothing;
          done = less c (λ p. ap (λ (f : List ℕ). page_in f p.1) (content p.0)
              ∙ sym (put_away (entry_at side at i b) p (page_of names b.files p) (λ same size.
              let Of : ℕ × ℕ → Type 0 = λ q. length (page_of names b.files q) ≡ 8192 in left.0 (subst Of (sym same) size))));
        }
    | inr wrote ↦
        let e : Entry = entry_at side at i b in
        let name : List ℕ = wrote.0 in
        let named : name_of names e.0.0 ≡ Some name = wrote.1 in
        let writes : WritesPage name e.0.1 b c = wrote.2 in
        let off : side ≢ name = λ same. apart.from_side e.0.0 name named (sym same) in
        let whole : length e.1 ≡ 8192 = let All : List Entry → Type 0 = λ es. AreWhole es in
        (subst All (head_is is below inside) (whole_drop i (batch_at side at len a) (entries_whole (read_at (contents (a.files side)) at len)))).0 in
        let old : List ℕ = contents (b.files name) in
        let new : contents (c.files name) ≡ written old (8192 * e.0.1) e.1 = ap contents wrote.3 in
        let torn : IsTorn (8192 * e.0.1) 8192 old (written old (8192 * e.0.1) e.1) =
        (let Of : ℕ → Type 0 = λ n. IsTorn (8192 * e.0.1) n old (written old (8192 * e.0.1) e.1) in subst Of whole (torn-written (8192 * e.0.1) old e.1)) in
        let leaves : LeavesWrite (8192 * e.0.1) 8192 (b.files name) (c.files name) = inr (written old (8192 * e.0.1) e.1, wrote.3, torn) in
        let here : page_of names c.files e.0 ≡ e.1 =
        ap (λ (f : List ℕ). page_in f e.0.1) (content_at names c.files e.0.0 name named ∙ new)
        ∙ ap (λ (n : ℕ). read_at (written old (8192 * e.0.1) e.1) (8192 * e.0.1) n) (sym whole) ∙ read_at-written (8192 * e.0.1) old e.1 (omega (arith, writes.inside)) in
        let full : length (page_of names b.files e.0) ≡ 8192 = ap (λ (f : List ℕ). length (page_in f e.0.1)) (content_at names b.files e.0.0 name named) ∙ whole_page old e.0.1 writes.inside in
        record {
          same = writes.call.others side off ∙ is.same;
          durable = λ content may. is.durable content (writes.call.others_left side content off may) ∙ sym (writes.call.others side off);
          effect = effect_then_step is.effect (inr (e.0.0, named)) (write_step name named writes.inside) writes.call;
          done = less c (λ p. elim (page_tells e.0 p) [
            | inl same ↦
                let Of : ℕ × ℕ → Type 0 = λ q. page_of names c.files q ≡ put e q (page_of names b.files q) in
                subst Of same.1 (here ∙ sym (put_here e e.0 (page_of names b.files e.0) refl full))
            | inr other ↦
                torn_pages names apart.different e.0.0 e.0.1 name named b.files c.files leaves writes.call.others writes.inside p other.1
                ∙ sym (put_other e p (page_of names b.files p) other.1)
          ]);
        }
  ]

-- reading the next entry changes nothing
pub copying_read : {side : List ℕ} {names : List (List ℕ)} {at len i : ℕ} {a b c : Disk} → Copying side names at len i a b → ChangesNothing b c → Copying side names at len i a c
copying_read {side} {names} {at} {len} {i} {a} {b} {c} is nothing = record {
  same = nothing.files side ∙ is.same;
  durable = durable_by_nothing side nothing is.durable;
  effect = effect_then_nothing is.effect nothing;
  done = λ p. ap (λ (f : List ℕ). batched (drop i (batch_at side at len a)) p (page_in f p.1)) (content_same names b.files c.files p.0 (λ name at. nothing.files name)) ∙ is.done p;
}

-- all entries were copied
pub copying_ends : {side : List ℕ} {names : List (List ℕ)} {at len i : ℕ} {a b : Disk} → Copying side names at len i a b → i ≡ len / 8198 → at + len ≤ length (contents (a.files side)) → (p : ℕ × ℕ) → page_of names b.files p ≡ shown side names a.files p
copying_ends {side} {names} {at} {len} {i} {a} {b} is last inside p =
    let none : drop i (batch_at side at len a) ≡ [] = ap (λ (k : ℕ). drop k (batch_at side at len a)) last ∙ none_left (contents (a.files side)) at len inside in
    ap (λ (es : List Entry). batched es p (page_of names b.files p)) (sym none) ∙ is.done p

pub shows_effect : {side : List ℕ} {names : List (List ℕ)} {a b : Disk} → Effect (IsOwn side names) (Stays side names a.files) a b → Effect (IsOwn side names) (Shows side names (shown side names a.files)) a b
shows_effect {side} {names} {a} effect = effect_weaken (λ image stays. stays_shows side names a.files image stays) effect

-- the next entry is read and copied

copied_entry : (side : List ℕ) (names : List (List ℕ)) (at i : ℕ) (b c : Disk) (entry : List ℕ) → ChangesNothing b c → entry ≡ read_at (contents (b.files side)) (at + 8198 * i) 8198 → entry_of entry ≡ entry_at side at i c
copied_entry side names at i b c entry nothing read =
    ap entry_of read ∙ ap (λ (f : Option (List ℕ)). entry_of (read_at (contents f) (at + 8198 * i) 8198)) (sym (nothing.files side))

pub copying_next : {side : List ℕ} {names : List (List ℕ)} {at len i : ℕ} {a b c : Disk} (d : Disk) (entry : List ℕ) → AreApart side names → IsLawful c → Copying side names at len i a b → ChangesNothing b c
    → i < len / 8198 → at + len ≤ length (contents (a.files side)) → batch_of (a.files side) ≡ batch_at side at len a → entry ≡ read_at (contents (b.files side)) (at + 8198 * i) 8198
    → PutsEntry names (entry_of entry) c d → Copying side names at len (i + 1) a d
copying_next {side} {names} {at} {len} {i} {a} {b} {c} d entry apart lawful is nothing below inside batch read puts =
    let Of : Entry → Type 0 = λ e. PutsEntry names e c d in
    copying_more apart lawful (copying_read is nothing) below inside batch d (subst Of (copied_entry side names at i b c entry nothing read) puts)

pub copying_failed : {side : List ℕ} {names : List (List ℕ)} {at len i : ℕ} {a b c : Disk} (d : Disk) (entry : List ℕ) → AreApart side names → IsLawful c → Copying side names at len i a b → ChangesNothing b c
    → i < len / 8198 → at + len ≤ length (contents (a.files side)) → batch_of (a.files side) ≡ batch_at side at len a → entry ≡ read_at (contents (b.files side)) (at + 8198 * i) 8198
    → ChangesNothing c d ⊎ WritesEntry names (entry_of entry) c d → Effect (IsOwn side names) (Shows side names (shown side names a.files)) a d
copying_failed {side} {names} {at} {len} {i} {a} {b} {c} d entry apart lawful is nothing below inside batch read tried =
    let Of : Entry → Type 0 = λ e. ChangesNothing c d ⊎ WritesEntry names e c d in
    shows_effect (copying_tried apart lawful (copying_read is nothing) below inside batch d (subst Of (copied_entry side names at i b c entry nothing read) tried))
