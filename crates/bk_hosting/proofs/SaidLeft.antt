-- What a crash leaves of hosted databases of which one says something.
use Rattle.std.proofs.Common.{◌≡◌, ◌≤◌, ◌<◌, ◌⊎◌, ℕ, zero, suc, ◌+◌, ◌-◌, List, [], ◌∷◌, ◌++◌, drop, length, take, Some, refl, inl, inr, sym, ap, subst, ◌∙◌, arith}
use Rattle.std.specs.Prelude.{set, slice_get}
use Rattle.std.specs.List.{AllByRecursion, AllZip}
use Rattle.std.proofs.lemmas.Bool.{cases_lt}
use Rattle.std.proofs.lemmas.List.{append-nil, length-append, length-set, take-append-le, take_all}
use Rattle.std.proofs.Math.Seq.{take-length}
use Rattle.bk_device.specs.Disk.{Files}
use Rattle.bk_hosted.specs.Fronts.{Waits}
use Rattle.bk_hosted.specs.Hosted.{Hosted, is_up, saying}
use Rattle.bk_master.specs.declared.record.Entry.{Entry}
use Rattle.bk_store.specs.Told.{Told, data_files, front_of}
use Rattle.bk_stores.specs.ListLaws.{got, got-inside, got-one, got-other, got-set, same-place, set-same}
use Rattle.bk_stores.specs.StandLaws.{entries-set}
use Rattle.bk_stores.specs.Stores.{AreEntries, Fixed, HoldsEntry, IsAt, LeavesEntry, LeavesStores}
use Rattle.bk_world.specs.declared.transaction.Open.{Open}
use Rattle.bk_world.specs.Cut.{end_behind}
use Rattle.bk_world.specs.Records.{Logged, Said, numbered}
use Rattle.bk_hosting.specs.Hosting.{AreOf, HasRecord, LeavesHosted, LeavesSaid, Tells}
use Rattle.bk_hosting.specs.Saying.{telling}
use Rattle.bk_hosting.proofs.Fronts.{MayLose, leaves-hosted}
use Rattle.bk_hosting.proofs.Lists.{map-same, set-set, zip-set}

-- ---- fronts of what is said

take-numbered : (j n : ℕ) (said : List Said) → take j (numbered n said) ≡ numbered n (take j said)
take-numbered zero n said = refl
take-numbered (suc j) n [] = refl
take-numbered (suc j) n (s ∷ said) = ap (λ (rs : List Logged). (record { lsn = n; begin = s.begin; deed = s.deed }) ∷ rs) (take-numbered j (n + 1) said)

-- a front that goes beyond the first of two lists
take-beyond : (xs ys : List Logged) (j : ℕ) → take (length xs + j) (xs ++ ys) ≡ xs ++ take j ys
take-beyond [] ys j = ap (λ (n : ℕ). take n ys) (let same : 0 + j ≡ j = omega arith in same)
take-beyond (x ∷ xs) ys j =
    ap (λ (n : ℕ). take n (x ∷ xs ++ ys)) (let same : length (x ∷ xs) + j ≡ suc (length xs + j) = omega arith in same) ∙ ap (λ (rs : List Logged). x ∷ rs) (take-beyond xs ys j)

drop-length : (xs : List Logged) → drop (length xs) xs ≡ []
drop-length [] = refl
drop-length (x ∷ xs) = drop-length xs

-- ---- one place of several

-- a number for one place, and others elsewhere
abbrev pick : {at i : ℕ} → ℕ → (ℕ → ℕ) → (at ≡ i) ⊎ (at ≡ i → ⊥) → ℕ
pick n least (inl same) = n
pick {i = i} n least (inr differ) = least i

abbrev picked : ℕ → ℕ → (ℕ → ℕ) → ℕ → ℕ
picked at n least i = pick n least (same-place at i)

module _ (fixed : Fixed) (least : ℕ → ℕ) (tolds : List Told) (hosted : List Hosted) (at : ℕ) (told : Told) (h : Hosted) (image : Files) (here : slice_get tolds at ≡ Some told) (there : slice_get hosted at ≡ Some h)
    (stored : AreOf fixed hosted) (tells : AllZip Tells tolds hosted) (may : (i : ℕ) (x : Hosted) → slice_get hosted i ≡ Some x → MayLose (least i) x) (tell : Tells told h) (next : List Logged)
    (left : LeavesStores fixed least (set tolds at (telling told next)) image) where
  abbrev entries : List Entry
  entries = left.«record».databases

  inside : at < length tolds
  inside = got-inside tolds at told here

  -- the entry there
  entry : (e : Entry) × (slice_get entries at ≡ Some e)
  entry = got entries at (let lt = inside in let size = length-set tolds at (telling told next) in let same = left.entries.count in omega (arith, lt, size, same))

  its : LeavesEntry entry.0 (least at) (telling told next) image
  its = left.each at entry.0 (telling told next) (entry.1, got-set tolds at (telling told next) inside)

  -- another database of the same files in that place
  entries-as : (new : Told) → data_files new ≡ data_files told → AreEntries left.«record» (set tolds at new)
  entries-as new same =
      subst (AreEntries left.«record») (set-set tolds at (telling told next) new)
      (entries-set left.«record» (set tolds at (telling told next)) at entry.0 (telling told next) new (entry.1, got-set tolds at (telling told next) inside) same left.entries)

  -- each entry of the databases with that one in its place is the one there, or one beside it
  each-as : (new : Told) (n : ℕ) → LeavesEntry entry.0 n new image → (i : ℕ) (e : Entry) (t : Told) → IsAt entries (set tolds at new) i e t → LeavesEntry e (picked at n least i) t image
  each-as new n own i e t is = by (same-place at i)
    where
      by : (d : (at ≡ i) ⊎ (at ≡ i → ⊥)) → LeavesEntry e (pick n least d) t image
      by (inl same) =
          let one : entry.0 ≡ e = got-one entries at entry.0 e entry.1 (ap (λ (k : ℕ). slice_get entries k) same ∙ is.0) in
          let two : new ≡ t = got-one (set tolds at new) at new t (got-set tolds at new inside) (ap (λ (k : ℕ). slice_get (set tolds at new) k) same ∙ is.1) in
          subst (λ (u : Told). LeavesEntry e n u image) two (subst (λ (f : Entry). LeavesEntry f n new image) one own)
      by (inr differ) = left.each i e t (is.0, got-other tolds at i (telling told next) differ ∙ sym (got-other tolds at i new differ) ∙ is.1)

  -- what was said isn't left
  none-left : (k : ℕ) → least at ≤ k → k ≤ length told.records → HoldsEntry entry.0 (front_of k told) image → LeavesHosted fixed.own hosted image
  none-left k enough few holds =
      let back : set tolds at told ≡ tolds = set-same tolds at told here in
      let stores : LeavesStores fixed (picked at (least at) least) (set tolds at told) image = record { «record» = left.«record»; is_record = left.is_record; is_fixed = left.is_fixed; entries = entries-as told refl; each = each-as told (least at) (k, enough, holds) } in
      leaves-hosted fixed (picked at (least at) least) tolds hosted image (subst (λ (ts : List Told). LeavesStores fixed (picked at (least at) least) ts image) back stores) stored tells (λ i x is. may-at i x is (same-place at i))
    where
      may-at : (i : ℕ) (x : Hosted) → slice_get hosted i ≡ Some x → (d : (at ≡ i) ⊎ (at ≡ i → ⊥)) → MayLose (pick (least at) least d) x
      may-at i x is (inl same) = subst (λ (n : ℕ). MayLose (least n) x) (sym same) (may i x is)
      may-at i x is (inr differ) = may i x is

  -- a front of it is
  front-said : (new : Told) (x : Hosted) → data_files new ≡ data_files told → is_up x ≡ is_up h → HoldsEntry entry.0 new image → Tells new x → HasRecord x → LeavesHosted fixed.own (set hosted at x) image
  front-said new x same up holds tells-new some =
      let size : ℕ = length new.records in
      let own : LeavesEntry entry.0 size new image = (size, omega arith, subst (λ (rs : List Logged). HoldsEntry entry.0 (record new { records = rs }) image) (sym (take-length new.records)) holds) in
      let stores : LeavesStores fixed (picked at size least) (set tolds at new) image = record { «record» = left.«record»; is_record = left.is_record; is_fixed = left.is_fixed; entries = entries-as new same; each = each-as new size own } in
      leaves-hosted fixed (picked at size least) (set tolds at new) (set hosted at x) image stores (stored ∙ sym (map-same is_up hosted at h x there up)) (zip-set Tells tolds hosted at new x tells-new tells) (λ i y is. may-at i y is (same-place at i))
    where
      may-at : (i : ℕ) (y : Hosted) → slice_get (set hosted at x) i ≡ Some y → (d : (at ≡ i) ⊎ (at ≡ i → ⊥)) → MayLose (pick (length new.records) least d) y
      may-at i y is (inl same') =
          let one : x ≡ y = got-one (set hosted at x) at x y (got-set hosted at x (got-inside hosted at h there)) (ap (λ (k : ℕ). slice_get (set hosted at x) k) same' ∙ is) in
          let here' : MayLose (length new.records) x = record {
            first = subst (λ (rs : List Logged). 1 ≤ length rs) (sym tells-new.records) some;
            some = some;
            waits = subst (AllByRecursion (Waits x.transactions)) (sym (ap (λ (rs : List Logged). drop (length rs) x.records) tells-new.records ∙ drop-length x.records)) tt;
          } in
          subst (MayLose (length new.records)) one here'
      may-at i y is (inr differ) = may i y (sym (got-other hosted at i x differ) ∙ is)

-- a crash while a database says something
pub said-left : (fixed : Fixed) (least : ℕ → ℕ) (tolds : List Told) (hosted : List Hosted) (at : ℕ) (told : Told) (h : Hosted) (said : List Said) (ts : List Open) (image : Files) → slice_get tolds at ≡ Some told → slice_get hosted at ≡ Some h
    → AreOf fixed hosted → AllZip Tells tolds hosted → ((i : ℕ) (x : Hosted) → slice_get hosted i ≡ Some x → MayLose (least i) x) → Tells told h → least at ≤ length told.records
    → LeavesStores fixed least (set tolds at (telling told (numbered (end_behind h.records) said))) image → LeavesSaid fixed.own hosted at h said ts image
said-left fixed least tolds hosted at told h said ts image here there stored tells may tell few left = by (cases_lt (length told.records) own.0)
  where
    next : List Logged
    next = numbered (end_behind h.records) said

    e : (e : Entry) × (slice_get left.«record».databases at ≡ Some e)
    e = entry fixed least tolds hosted at told h image here there stored tells may tell next left

    own : LeavesEntry e.0 (least at) (telling told next) image
    own = its fixed least tolds hosted at told h image here there stored tells may tell next left

    -- all that was there, and so many records of what is said
    with-front : (j : ℕ) → 0 < j → j ≤ length said → HoldsEntry e.0 (telling told (numbered (end_behind h.records) (take j said))) image → LeavesSaid fixed.own hosted at h said ts image
    with-front zero some within holds = absurd (omega (arith, some))
    with-front (suc m) some within holds =
        let x : Hosted = saying (take (suc m) said) ts h in
        let more : Tells (telling told (numbered (end_behind h.records) (take (suc m) said))) x = record { spec = tell.spec; note = tell.note; records = ap (λ (rs : List Logged). rs ++ numbered (end_behind h.records) (take (suc m) said)) tell.records } in
        let old : MayLose (least at) h = may at h there in
        let grown : HasRecord x = let size = length-append h.records (numbered (end_behind h.records) (take (suc m) said)) in let one = old.some in omega (arith, size, one) in
        inr (m, omega (arith, within), front-said fixed least tolds hosted at told h image here there stored tells may tell next left (telling told (numbered (end_behind h.records) (take (suc m) said))) x refl refl holds more grown)

    at-most : (j : ℕ) → 0 < j → HoldsEntry e.0 (telling told (numbered (end_behind h.records) (take j said))) image → (length said < j) ⊎ (j ≤ length said) → LeavesSaid fixed.own hosted at h said ts image
    at-most j some holds (inr within) = with-front j some within holds
    at-most j some holds (inl past) = cut-down (length said) refl
      where
        all : take j said ≡ said
        all = take_all j said (omega (arith, past))

        cut-down : (n : ℕ) → length said ≡ n → LeavesSaid fixed.own hosted at h said ts image
        cut-down zero none =
            inl (none-left fixed least tolds hosted at told h image here there stored tells may tell next left (length told.records) few (omega arith)
            (subst (λ (rs : List Logged). HoldsEntry e.0 (record told { records = rs }) image) nothing holds))
          where
            empty : (xs : List Said) → length xs ≡ 0 → xs ≡ []
            empty [] is = refl
            empty (y ∷ xs) is = absurd (omega (arith, is))

            nothing : told.records ++ numbered (end_behind h.records) (take j said) ≡ take (length told.records) told.records
            nothing =
                ap (λ (xs : List Said). told.records ++ numbered (end_behind h.records) xs) (all ∙ empty said none) ∙ append-nil told.records ∙ sym (take-length told.records)
        cut-down (suc n) is =
            with-front (length said) (omega (arith, is)) (omega arith)
            (subst (λ (xs : List Said). HoldsEntry e.0 (telling told (numbered (end_behind h.records) xs)) image) (all ∙ sym (take-length said)) holds)

    by : (length told.records < own.0) ⊎ (own.0 ≤ length told.records) → LeavesSaid fixed.own hosted at h said ts image
    by (inr within) =
        inl (none-left fixed least tolds hosted at told h image here there stored tells may tell next left own.0 own.1 within
        (subst (λ (rs : List Logged). HoldsEntry e.0 (record told { records = rs }) image) (take-append-le own.0 told.records next within) own.2))
    by (inl past) =
        let j : ℕ = own.0 - length told.records in
        let sum : own.0 ≡ length told.records + j = omega (arith, past) in
        let records : take own.0 (told.records ++ next) ≡ told.records ++ numbered (end_behind h.records) (take j said) =
        ap (λ (k : ℕ). take k (told.records ++ next)) sum ∙ take-beyond told.records next j ∙ ap (λ (rs : List Logged). told.records ++ rs) (take-numbered j (end_behind h.records) said) in
        at-most j (omega (arith, past)) (subst (λ (rs : List Logged). HoldsEntry e.0 (record told { records = rs }) image) records own.2) (cases_lt (length said) j)
