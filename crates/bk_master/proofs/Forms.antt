-- A record that is spelled is read back, and its bytes fit a control.
use Rattle.std.proofs.Common.{◌≡◌, ◌≤◌, ◌<◌, ◌^◌, ◌+◌, ◌*◌, ℕ, zero, suc, Bool, true, false, List, [], ◌∷◌, ◌++◌, length, Option, Some, None, refl, sym, ap, subst, ◌∙◌, arith, append_assoc, lit<, length-append}
use Rattle.std.specs.List.{AllByRecursion, flat_map}
use Rattle.std.proofs.lemmas.List.{append-nil}
use Rattle.std.proofs.lemmas.Str.{IsUtf8-nil}
use Rattle.std.proofs.lemmas.Option.{same_Some}
use Rattle.bk_bytes.specs.Field.{AreBytes, bytes_of}
use Rattle.bk_bytes.specs.FieldLaws.{length-bytes_of}
use Rattle.bk_bytes.specs.Codec.{IsCodec, IsString, number, converted}
use Rattle.bk_bytes.specs.CodecLaws.{AreBytes-after, bind_some, number-IsCodec, string-IsCodec, followed-IsCodec, converted-IsCodec, counted-IsCodec}
use Rattle.bk_fields.specs.Guids.{guid_bytes, guid_form, guid_number}
use Rattle.bk_fields.specs.Laws.{guid_form-IsCodec}
use Rattle.bk_ids.specs.declared.guid.Guid.{Guid}
use Rattle.bk_master.specs.declared.record.Entry.{Entry}
use Rattle.bk_master.specs.declared.record.Own.{Own}
use Rattle.bk_master.specs.declared.record.Record.{Record}
use Rattle.bk_master.specs.declared.record.Unfinished.{Unfinished}
use Rattle.bk_master.specs.Spelling.{HasPath, IsEntry, IsOwnPart, IsRecord, IsShort, IsShortPath, IsSmall, IsStaging, IsUnfinished, KeepsOwn, KeepsRecord, copying_bytes, entry_bytes, entry_form, flag, flag_in, own_bytes, own_form, path_bytes, path_in, path_form, paths_bytes, read_record, record_bytes, record_form, staging_behind, staging_bytes, staging_form, text_bytes, unfinished_bytes, unfinished_form}

path_takes : (text : List ℕ) → IsString 0 100 text → (path_bytes (path_in text) ≡ text) × HasPath (path_in text)
path_takes [] fits = (refl, tt)
path_takes (byte ∷ text) fits = (refl, record { least_bytes = omega arith; most_bytes = fits.most_bytes; utf8 = fits.utf8 })

path_gives : (making : Option (List ℕ)) → HasPath making → (path_in (path_bytes making) ≡ making) × IsString 0 100 (path_bytes making)
path_gives None h = (refl, record { least_bytes = omega arith; most_bytes = omega arith; utf8 = IsUtf8-nil })
path_gives (Some []) h = absurd (omega (arith, h.least_bytes))
path_gives (Some (byte ∷ text)) h = (refl, record { least_bytes = omega arith; most_bytes = h.most_bytes; utf8 = h.utf8 })

path_form-IsCodec : IsCodec (Option (List ℕ)) path_form
unfolding path_form
path_form-IsCodec = converted-IsCodec _ _ _ HasPath (string-IsCodec 0 100 (lit< tt)) (record {
  takes = λ text making fits e.
      subst (λ (m : Option (List ℕ)). (path_bytes m ≡ text) × HasPath m) (same_Some (path_in text) making e) (path_takes text fits);
  gives = λ making h. let is = path_gives making h in (ap (λ (m : Option (List ℕ)). Some m) is.0, is.1);
})

-- what is read behind a byte is spelled so with it
staging_takes : (kind : ℕ) (bytes : List ℕ) (x : Option Guid) (rest : List ℕ) → AreBytes bytes → staging_behind kind bytes ≡ Some (x, rest) → (bytes_of 1 kind ++ bytes ≡ staging_bytes x ++ rest) × IsStaging x
unfolding guid_form
staging_takes zero bytes x rest are e =
    subst (λ (p : Option Guid × List ℕ). (bytes_of 1 0 ++ bytes ≡ staging_bytes p.0 ++ p.1) × IsStaging p.0) (same_Some (None, bytes) (x, rest) e) (refl, tt)
staging_takes (suc zero) bytes x rest are e =
    let b = bind_some (guid_form.reading bytes) (λ g. Some (Some g.0, g.1)) (x, rest) e in
    let t = guid_form-IsCodec.takes bytes b.0.0 b.0.1 are b.1 in
    let whole : bytes_of 1 1 ++ bytes ≡ (bytes_of 1 1 ++ guid_form.spelling b.0.0) ++ b.0.1 = ap (λ (s : List ℕ). bytes_of 1 1 ++ s) t.0 ∙ sym (append_assoc (bytes_of 1 1) (guid_form.spelling b.0.0) b.0.1) in
    subst (λ (p : Option Guid × List ℕ). (bytes_of 1 1 ++ bytes ≡ staging_bytes p.0 ++ p.1) × IsStaging p.0) (same_Some (Some b.0.0, b.0.1) (x, rest) b.2) (whole, t.1)
staging_takes (suc (suc kind)) bytes x rest are e = absurd cc

staging_form-IsCodec : IsCodec (Option Guid) staging_form
unfolding staging_form guid_form
staging_form-IsCodec = record { takes = takes; gives = gives }
  where
    takes : (bytes : List ℕ) (x : Option Guid) (rest : List ℕ) → AreBytes bytes → staging_form.reading bytes ≡ Some (x, rest) → (bytes ≡ staging_bytes x ++ rest) × IsStaging x
    takes bytes x rest are e =
        let b = bind_some ((number 1).reading bytes) (λ k. staging_behind k.0 k.1) (x, rest) e in
        let kind = (number-IsCodec 1).takes bytes b.0.0 b.0.1 are b.1 in
        let t = staging_takes b.0.0 b.0.1 x rest (AreBytes-after bytes (bytes_of 1 b.0.0) b.0.1 are kind.0) b.2 in
        (kind.0 ∙ t.0, t.1)

    behind : (kind : ℕ) (bytes : List ℕ) → kind < 256 ^ 1 → staging_form.reading (bytes_of 1 kind ++ bytes) ≡ staging_behind kind bytes
    behind kind bytes small = rw ((number-IsCodec 1).gives kind bytes small) refl

    gives : (x : Option Guid) (rest : List ℕ) → IsStaging x → staging_form.reading (staging_bytes x ++ rest) ≡ Some (x, rest)
    gives None rest is = behind 0 rest (lit< tt)
    gives (Some set) rest is =
        let made : staging_behind 1 (guid_form.spelling set ++ rest) ≡ Some (Some set, rest) = rw (guid_form-IsCodec.gives set rest is) refl in
        ap staging_form.reading (append_assoc (bytes_of 1 1) (guid_form.spelling set) rest) ∙ behind 1 (guid_form.spelling set ++ rest) (lit< tt) ∙ made

own_form-IsCodec : IsCodec Own own_form
unfolding own_form path_form staging_form guid_form
own_form-IsCodec = converted-IsCodec _ _ _ IsOwnPart (followed-IsCodec _ _ (number-IsCodec 8) (λ _. followed-IsCodec _ _ (number-IsCodec 8) (λ _. followed-IsCodec _ _ path_form-IsCodec (λ _. followed-IsCodec _ _ staging_form-IsCodec (λ _. counted-IsCodec 2 _ guid_form-IsCodec))))) (record {
  takes = λ x o fits e.
      subst (λ (y : Own). ((y.number, (y.counter, (y.making, (y.staging, y.copying)))) ≡ x) × IsOwnPart y)
      (same_Some (record { number = x.0; counter = x.1.0; making = x.1.1.0; staging = x.1.1.1.0; copying = x.1.1.1.1 }) o e)
      (refl, record { number = fits.0; counter = fits.1.0; path = fits.1.1.0; staging = fits.1.1.1.0; copying = fits.1.1.1.1 });
  gives = λ o h. (refl, (h.number, (h.counter, (h.path, (h.staging, h.copying)))));
})

flag_takes : (n : ℕ) (b : Bool) → flag_in n ≡ Some b → (flag b ≡ n) × Unit {0}
flag_takes zero b e = (ap flag (sym (same_Some false b e)), tt)
flag_takes (suc zero) b e = (ap flag (sym (same_Some true b e)), tt)
flag_takes (suc (suc n)) b e = absurd cc

flag_gives : (b : Bool) → (flag_in (flag b) ≡ Some b) × (flag b < 256 ^ 1)
flag_gives true = (refl, lit< tt)
flag_gives false = (refl, lit< tt)

flag_form-IsCodec : IsCodec Bool (converted (number 1) flag_in flag (λ _. Unit {0}))
flag_form-IsCodec = converted-IsCodec _ _ _ (λ _. Unit {0}) (number-IsCodec 1) (record { takes = λ n b fits e. flag_takes n b e; gives = λ b h. flag_gives b })

entry_form-IsCodec : IsCodec Entry entry_form
unfolding entry_form
entry_form-IsCodec = converted-IsCodec _ _ _ IsEntry (followed-IsCodec _ _ (number-IsCodec 4) (λ _. flag_form-IsCodec)) (record {
  takes = λ x e fits is.
      subst (λ (y : Entry). ((y.store, y.is_stored) ≡ x) × IsEntry y) (same_Some (record { store = x.0; is_stored = x.1 }) e is) (refl, fits.0);
  gives = λ e h. (refl, (h, tt));
})

unfinished_form-IsCodec : IsCodec Unfinished unfinished_form
unfolding unfinished_form
unfinished_form-IsCodec = converted-IsCodec _ _ _ IsUnfinished (followed-IsCodec _ _ (number-IsCodec 4) (λ _. counted-IsCodec 2 _ (string-IsCodec 1 100 (lit< tt)))) (record {
  takes = λ x u fits is.
      subst (λ (y : Unfinished). ((y.store, y.paths) ≡ x) × IsUnfinished y) (same_Some (record { store = x.0; paths = x.1 }) u is) (refl, record { store = fits.0; paths = fits.1 });
  gives = λ u h. (refl, (h.store, h.paths));
})

record_form-IsCodec : IsCodec Record record_form
unfolding record_form own_form path_form staging_form guid_form entry_form unfinished_form
record_form-IsCodec =
    converted-IsCodec _ _ _ IsRecord
    (followed-IsCodec _ _ own_form-IsCodec (λ _. followed-IsCodec _ _ (number-IsCodec 4) (λ _.
    followed-IsCodec _ _ (counted-IsCodec 2 _ entry_form-IsCodec) (λ _. counted-IsCodec 2 _ unfinished_form-IsCodec)))) (record {
      takes = λ x r fits e.
          subst (λ (y : Record). ((y.own, (y.next, (y.databases, y.unfinished))) ≡ x) × IsRecord y)
          (same_Some (record { own = x.0; next = x.1.0; databases = x.1.1.0; unfinished = x.1.1.1 }) r e)
          (refl, record { own = fits.0; next = fits.1.0; databases = fits.1.1.0; unfinished = fits.1.1.1 });
      gives = λ r h. (refl, (h.own, (h.next, (h.databases, h.unfinished))));
    })

spelled : (r : Record) → record_form.spelling r ≡ record_bytes r
unfolding record_form own_form path_form staging_form guid_form entry_form unfinished_form record_bytes
spelled r = refl

-- what is spelled is read back
pub record_read : (r : Record) → IsRecord r → read_record (record_bytes r) ≡ Some r
unfolding read_record record_form
record_read r is =
    let again : record_form.reading (record_bytes r) ≡ Some (r, []) =
    ap record_form.reading (sym (append-nil (record_bytes r)) ∙ ap (λ (bytes : List ℕ). bytes ++ []) (sym (spelled r))) ∙ record_form-IsCodec.gives r [] is in
    rw again refl

-- ---- its length

-- so many values of at most so many bytes each
most_bytes : {A : Type 0} (f : A → List ℕ) (P : A → Type 0) (k : ℕ) (xs : List A) → ((x : A) → P x → length (f x) ≤ k) → AllByRecursion P xs → length (flat_map f xs) ≤ k * length xs
most_bytes f P k [] short all = omega arith
most_bytes f P k (x ∷ xs) short all =
    let rest = most_bytes f P k xs short all.1 in
    let first = short x all.0 in
    omega (arith, length-append (f x) (flat_map f xs), rest, first, step k (length xs))
  where
    step : (k n : ℕ) → k * suc n ≡ k + k * n
    step k n = omega arith

text_short : (text : List ℕ) → IsShortPath text → length (text_bytes text) ≤ 102
text_short text short = omega (arith, length-append (bytes_of 2 (length text)) text, length-bytes_of 2 (length text), short.1)

any : {A : Type 0} (xs : List A) → AllByRecursion (λ (x : A). Unit {0}) xs
any [] = tt
any (x ∷ xs) = (tt, any xs)

entry_short : (e : Entry) → length (entry_bytes e) ≤ 5
entry_short e = omega (arith, length-append (bytes_of 4 e.store) (bytes_of 1 (flag e.is_stored)), length-bytes_of 4 e.store, length-bytes_of 1 (flag e.is_stored))

unfinished_short : (u : Unfinished) → IsSmall u → length (unfinished_bytes u) ≤ 1638
unfinished_short u small =
    let paths = most_bytes text_bytes IsShortPath 102 u.paths text_short small.1 in
    omega (arith, length-append (bytes_of 4 u.store) (paths_bytes u.paths), length-bytes_of 4 u.store, length-append (bytes_of 2 (length u.paths)) (flat_map text_bytes u.paths), length-bytes_of 2 (length u.paths), paths, small.0)

path_short : (making : Option (List ℕ)) → IsShort making → length (path_bytes making) ≤ 100
path_short None short = omega arith
path_short (Some path) short = short.1

staging_short : (staging : Option Guid) → length (staging_bytes staging) ≤ 17
staging_short None = omega (arith, length-bytes_of 1 0)
staging_short (Some set) = omega (arith, length-append (bytes_of 1 1) (guid_bytes set), length-bytes_of 1 1, length-bytes_of 16 (guid_number set))

copying_short : (sets : List Guid) → length sets ≤ 16 → length (copying_bytes sets) ≤ 258
copying_short sets few =
    let each = most_bytes guid_bytes (λ (s : Guid). Unit {0}) 16 sets (λ s _. omega (arith, length-bytes_of 16 (guid_number s))) (any sets) in
    omega (arith, length-append (bytes_of 2 (length sets)) (flat_map guid_bytes sets), length-bytes_of 2 (length sets), each, few)

own_short : (o : Own) → KeepsOwn o → length (own_bytes o) ≤ 393
own_short o keeps =
    let path : List ℕ = path_bytes o.making in
    let staging : List ℕ = staging_bytes o.staging ++ copying_bytes o.copying in
    omega (
      arith,
      length-append (bytes_of 8 o.number) (bytes_of 8 o.counter ++ ((bytes_of 2 (length path) ++ path) ++ staging)),
      length-append (bytes_of 8 o.counter) ((bytes_of 2 (length path) ++ path) ++ staging),
      length-append (bytes_of 2 (length path) ++ path) staging,
      length-append (bytes_of 2 (length path)) path,
      path_short o.making keeps.path,
      length-append (staging_bytes o.staging) (copying_bytes o.copying),
      staging_short o.staging,
      copying_short o.copying keeps.copying,
      length-bytes_of 8 o.number,
      length-bytes_of 8 o.counter,
      length-bytes_of 2 (length path),
    )

-- the bytes of a record fit a control
pub record_fits : (r : Record) → KeepsRecord r → length (record_bytes r) ≤ 65536
unfolding record_bytes
record_fits r keeps =
    let entries : List ℕ = flat_map entry_bytes r.databases in
    let stores : List ℕ = flat_map unfinished_bytes r.unfinished in
    let few = most_bytes entry_bytes (λ e. Unit {0}) 5 r.databases (λ e _. entry_short e) (any r.databases) in
    let small = most_bytes unfinished_bytes IsSmall 1638 r.unfinished unfinished_short keeps.small in
    let last = length-append (bytes_of 2 (length r.unfinished)) stores in
    let third = length-append (bytes_of 2 (length r.databases)) entries in
    let both = length-append (bytes_of 2 (length r.databases) ++ entries) (bytes_of 2 (length r.unfinished) ++ stores) in
    let second = length-append (bytes_of 4 r.next) ((bytes_of 2 (length r.databases) ++ entries) ++ (bytes_of 2 (length r.unfinished) ++ stores)) in
    let first = length-append (own_bytes r.own) (bytes_of 4 r.next ++ ((bytes_of 2 (length r.databases) ++ entries) ++ (bytes_of 2 (length r.unfinished) ++ stores))) in
    omega (
      arith,
      first,
      second,
      both,
      third,
      last,
      few,
      small,
      keeps.few,
      keeps.one,
      own_short r.own keeps.own,
      length-bytes_of 4 r.next,
      length-bytes_of 2 (length r.databases),
      length-bytes_of 2 (length r.unfinished),
    )
