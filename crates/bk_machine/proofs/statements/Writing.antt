-- One row is written: in a transaction of its own, which begins, writes and commits, or in the open one of the session.
use Rattle.std.proofs.Common.{◌≡◌, ◌⊎◌, ◌<◌, ◌≤◌, inl, inr, ℕ, suc, ◌+◌, Bool, true, false, List, [], ◌∷◌, ◌++◌, length, Option, None, Some, refl, sym, ◌∙◌, ap, subst, arith}
use Rattle.std.specs.Prelude.{◌==◌, nat_le}
use Rattle.std.specs.List.{find, AllByRecursion}
use Rattle.std.proofs.lemmas.Bool.Decides.{nat_tests}
use Rattle.std.proofs.lemmas.List.{append-nil, length-append}
use Rattle.std.proofs.lemmas.List.Elements.{filter-append}
use Rattle.bk_ids.specs.declared.record.Place.{Place}
use Rattle.bk_world.specs.declared.database.TableSpec.{TableSpec}
use Rattle.bk_world.specs.Entry.{RowChange}
use Rattle.bk_lemmas.specs.Lists.{all_joined, all_mapped, filter_no}
use Rattle.bk_world.specs.Pending.{Pending, changes_of, of_transaction, pending}
use Rattle.bk_world.specs.Places.{homes, place_behind, place_of, last_of, IsCellOf, IsFreePlace}
use Rattle.bk_world.specs.ReadingLaws.{entries-more, homes-more, pending-more, pending-single}
use Rattle.bk_world.specs.Records.{Logged, RowId, Said, id_of, is_row, more, numbered}
use Rattle.bk_world.specs.Rows.{rows_changed, rows_of}
use Rattle.bk_world.specs.Says.{begin_said, single_said, write_said}
use Rattle.bk_world.specs.SoundLogs.{MayWrite, undoes, most_pending}
use Rattle.bk_world.specs.Telling.{entries, row_at, rows, seen, tables}
use Rattle.bk_machine.specs.JobLaws.{job-any, leaves-same}
use Rattle.bk_machine.specs.Acts.{logged, said_time}
use Rattle.bk_machine.specs.BeginLaws.{each-own}
use Rattle.bk_machine.specs.Built.{IsBuilt, IsBuiltLog}
use Rattle.bk_machine.specs.Checks.{last_number, used_up}
use Rattle.bk_machine.specs.FitLaws.{said-time}
use Rattle.bk_machine.specs.MayDo.{MayDo}
use Rattle.bk_machine.specs.NamedLaws.{of-named}
use Rattle.bk_machine.specs.Seen.{visible, visible_by}
use Rattle.bk_machine.specs.Sound.{AreNumbered, AreOpen, HasFew, has_begin, LeavesStamp}
use Rattle.bk_machine.specs.TargetLaws.{IsTarget, target-there, target-up}
use Rattle.bk_machine.specs.HeldLaws.{begin-lies, open-begin, open-there}
use Rattle.bk_machine.specs.UpLaws.{IsUp, begins-later, kept-more, may-open, may-tell}
use Rattle.bk_world.specs.declared.transaction.Open.{Open}
use Rattle.bk_machine.specs.World.{World, Database, log_of, most_writes, transaction_of}
use Rattle.bk_machine.specs.statements.Target.{MayPlace, Target, has_all_writes, holder, own_open, row_said, row_set, writes_of, writes_row}
use Rattle.bk_machine.proofs.Cutting.{HasNumbers, IsOwn}
use Rattle.bk_machine.proofs.Fitting.{fits-more}
use Rattle.bk_machine.proofs.LeftNumbers.{numbers-before}
use Rattle.bk_machine.proofs.Room.{well}
use Rattle.bk_machine.proofs.statements.Begins.{BeginBelow, begin-below}
use Rattle.bk_machine.proofs.statements.Facts.{Facts, NoMedium, opens-those, own-single, own-within}
use Rattle.bk_machine.proofs.statements.Few.{few-pend}
use Rattle.bk_machine.proofs.statements.Numbering.{numbers-single, numbers-whole}
use Rattle.bk_machine.proofs.statements.Locks.{is_its, unlocked, unwritten}
use Rattle.bk_machine.proofs.statements.Telling.{tables-begun, tables-single, tables-written}

-- ---- a transaction that begins

module _ (rs : List Logged) (n : ℕ) where
  same-pending : pending (more rs n (begin_said n)) ≡ pending rs
  same-pending = pending-more rs (numbered n (begin_said n))

  same-rows : (table : ℕ) → rows (more rs n (begin_said n)) table ≡ rows rs table
  unfolding rows
  same-rows table = ap (rows_of table []) (entries-more rs (numbered n (begin_said n)) ∙ append-nil (entries rs))

  same-place : (id : RowId) → place_of (more rs n (begin_said n)) id ≡ place_of rs id
  unfolding place_of
  same-place id =
      ap (λ ws. place_behind (last_of id ws) (homes (more rs n (begin_said n)) id)) same-pending
      ∙ ap (λ (hs : RowId → Option Place). place_behind (last_of id (pending rs)) (hs id)) (homes-more rs (numbered n (begin_said n)))

  -- where no other one has begun there, it has written nothing
  none-its : AllByRecursion (λ w. w.begin < n) (pending rs) → of_transaction n (pending rs) ≡ []
  none-its below = filter_no (λ (w : Pending). w.begin == n) (pending rs) (all_mapped (λ w. w.begin < n) (λ w. (w.begin == n) ≡ false) (λ w lt. grind (arith, nat_tests, lt)) (pending rs) below)

  -- and it sees the committed rows
  sees : AllByRecursion (λ w. w.begin < n) (pending rs) → (table : ℕ) → seen (more rs n (begin_said n)) n table ≡ rows rs table
  unfolding seen
  sees below table =
      ap (λ ws. rows_changed table (rows (more rs n (begin_said n)) table) (changes_of ws)) (ap (of_transaction n) same-pending ∙ none-its below) ∙ same-rows table

  -- it may write a row that nobody has written, of which it notes what was committed
  may-write : AllByRecursion (λ w. w.begin < n) (pending rs) → (at : Place) (before : Option (List ℕ)) (c : RowChange) → AllByRecursion (λ w. is_row (id_of w.change) (id_of c) ≡ false) (pending rs) → length (pending rs) < most_pending
      → (place_of rs (id_of c) ≡ Some at) ⊎ ((place_of rs (id_of c) ≡ None) × IsFreePlace rs at)
      → row_at (rows rs c.table) c.key ≡ before → MayWrite (more rs n (begin_said n)) (n + 1) n at before c
  may-write below at before c unwritten few place was = record {
    place = moved place;
    noted = sym (ap (λ es. row_at es c.key) (sees below c.table) ∙ was);
    unlocked = subst (AllByRecursion (λ w. is_row (id_of w.change) (id_of c) ≡ true → w.begin ≡ n)) (sym same-pending)
        (all_mapped (λ w. is_row (id_of w.change) (id_of c) ≡ false) (λ w. is_row (id_of w.change) (id_of c) ≡ true → w.begin ≡ n) (λ w no yes. let wrong : true ≡ false = sym yes ∙ no in absurd (cc)) (pending rs) unwritten);
    behind = omega arith;
    room = subst (λ ws. length ws < most_pending) (sym same-pending) few;
  }
    where
      moved : (place_of rs (id_of c) ≡ Some at) ⊎ ((place_of rs (id_of c) ≡ None) × IsFreePlace rs at)
          → (place_of (more rs n (begin_said n)) (id_of c) ≡ Some at) ⊎ ((place_of (more rs n (begin_said n)) (id_of c) ≡ None) × IsFreePlace (more rs n (begin_said n)) at)
      moved (inl own) = inl (same-place (id_of c) ∙ own)
      moved (inr free) = inr (same-place (id_of c) ∙ free.0, λ id there. free.1 id (sym (same-place id) ∙ there))

  -- and then it may commit
  may-commit : BeginBelow rs n → (r s : Logged) → undoes n r ≡ false → undoes n s ≡ false → AllByRecursion (λ x. undoes n x ≡ false) ((rs ++ r ∷ []) ++ s ∷ [])
  may-commit below r s first second =
      all_joined (λ x. undoes n x ≡ false) (rs ++ r ∷ []) (s ∷ [])
      (all_joined (λ x. undoes n x ≡ false) rs (r ∷ []) (all_mapped _ (λ x. undoes n x ≡ false) (λ x low. low n (omega arith)) rs below.undone) (first, tt)) (second, tt)

-- ---- a transaction that is open

-- one write more
writes-more : (b : ℕ) (ws : List Pending) (w : Pending) → ((w.begin == b) ≡ true → length (of_transaction b ws) < most_writes) → length (of_transaction b ws) ≤ most_writes → length (of_transaction b (ws ++ w ∷ [])) ≤ most_writes
writes-more b ws w own le =
    let joined : length (of_transaction b (ws ++ w ∷ [])) ≡ length (of_transaction b ws) + length (of_transaction b (w ∷ [])) =
    ap length (filter-append (λ (v : Pending). v.begin == b) ws (w ∷ [])) ∙ length-append (of_transaction b ws) (of_transaction b (w ∷ [])) in
    by joined (w.begin == b) refl
  where
    by : length (of_transaction b (ws ++ w ∷ [])) ≡ length (of_transaction b ws) + length (of_transaction b (w ∷ [])) → (t : Bool) → (w.begin == b) ≡ t → length (of_transaction b (ws ++ w ∷ [])) ≤ most_writes
    by joined true is =
        let OfTest : Bool → Type 0 = λ t. length (Rattle.std.proofs.Common.cond t (w ∷ []) []) ≡ 1 in
        let one : length (of_transaction b (w ∷ [])) ≡ 1 = subst OfTest (sym is) refl in
        let lt : length (of_transaction b ws) < most_writes = own is in
        omega (arith, joined, one, lt)
    by joined false is =
        let OfTest : Bool → Type 0 = λ t. length (Rattle.std.proofs.Common.cond t (w ∷ []) []) ≡ 0 in
        let none : length (of_transaction b (w ∷ [])) ≡ 0 = subst OfTest (sym is) refl in
        omega (arith, joined, none, le)

module _ (rs : List Logged) (n : ℕ) (ts : List Open) (opens : AreOpen rs n ts) (session : ℕ) (t : Open) (own : transaction_of ts session ≡ Some t) (at : Place) (before : Option (List ℕ)) (c : RowChange)
    (few : length (of_transaction t.begin (pending rs)) < most_writes) (room : n + (length (pending rs) + (length ts + 16)) ≤ last_number) where
  abbrev write : Pending
  write = record { lsn = n; begin = t.begin; place = at; before = before; change = c; extents = [] }

  pending-written : pending (more rs n (write_said t.begin at before c)) ≡ pending rs ++ (record { lsn = n; begin = t.begin; place = at; before = before; change = c; extents = [] }) ∷ []
  pending-written = pending-more rs (numbered n (write_said t.begin at before c))

  -- behind a write of it the same transactions are open
  pub opens-written : AreOpen (more rs n (write_said t.begin at before c)) (n + 1) ts
  opens-written =
      let one : Pending = record { lsn = n; begin = t.begin; place = at; before = before; change = c; extents = [] } in record {
        pending = subst (AllByRecursion (λ (w : Pending). has_begin ts w.begin ≡ true)) (sym pending-written) (all_joined (λ (w : Pending). has_begin ts w.begin ≡ true) (pending rs) (one ∷ []) opens.pending (open-begin ts session t own, tt));
        loads = subst (AllByRecursion (λ (w : Pending). w.extents ≡ [])) (sym pending-written) (all_joined (λ (w : Pending). w.extents ≡ []) (pending rs) (one ∷ []) opens.loads (refl, tt));
        apart = opens.apart;
        begins = begins-later n (n + 1) ts (omega arith) opens.begins;
        few = all_mapped (HasFew rs) (HasFew (more rs n (write_said t.begin at before c)))
            (λ u le. subst (λ ws. length (of_transaction u.begin ws) ≤ most_writes) (sym pending-written)
            (writes-more u.begin (pending rs) one (λ is. let same : u.begin ≡ t.begin = grind (arith, nat_tests, is) in subst (λ b. length (of_transaction b (pending rs)) < most_writes) (sym same) few) le))
            ts opens.few;
        seats = opens.seats;
        kept = kept-more rs (numbered n (write_said t.begin at before c)) ts (λ b. refl, tt) opens.kept;
        numbers = (
            let many : length (pending (more rs n (write_said t.begin at before c))) ≡ length (pending rs) + 1 = ap length pending-written ∙ length-append (pending rs) (one ∷ []) in
            omega (arith, room, many));
      }

  pub leaves-written : LeavesStamp (more rs n (write_said t.begin at before c)) (n + 1) ts
  leaves-written = let many : length (pending (more rs n (write_said t.begin at before c))) ≡ length (pending rs) + 1 = ap length pending-written ∙ length-append (pending rs) (write ∷ []) in omega (arith, room, many)

-- ---- a row

-- where there may be more writes, there are few
not-all : (m : ℕ) → nat_le most_writes m ≡ false → m < most_writes
not-all m e = grind (arith, nat_tests, e)

module _ (w : World) (name : List ℕ) (to : Target) (its : IsTarget w name to) (key : ℕ) (before value : Option (List ℕ)) (now : ℕ) (free : holder w to.database (to.table.number, key) ≡ None) (few : has_all_writes w to ≡ false)
    (at : Place) (place : MayPlace w to (to.table.number, key) at) (was : row_at (visible w to.database to.table) key ≡ before) (low : used_up to.database.end ≡ false) where
  abbrev db : Database
  db = to.database

  abbrev c : RowChange
  c = row_set to key value

  -- the table is found by its number
  numbered_own : (r : IsUp w to.database) → find (λ (m : TableSpec). m.number == to.table.number) (tables (log_of w.history to.database)) ≡ Some to.table
  numbered_own r = target-there w name to r.whole its

  room : (r : IsUp w to.database) → to.database.end + (length (pending (log_of w.history to.database)) + (length to.database.transactions + 16)) ≤ last_number
  room r = numbers-before (log_of w.history to.database) to.database.end to.database.transactions r.opens low

  -- by a transaction of its own
  single : (r : IsUp w to.database) → own_open w to.database ≡ None
      → MayDo w (logged to.database.name (single_said to.database.end at before (row_set to key value) (said_time w to.database now)) to.database.transactions)
  unfolding holder visible
  single r none =
      let left : to.database.end + (length (pending (log_of w.history to.database)) + (length to.database.transactions + 16)) ≤ last_number = room r in
      let rs : List Logged = log_of w.history to.database in
      let n : ℕ = to.database.end in
      let time : ℕ = said_time w to.database now in
      let begins : BeginBelow rs n = begin-below rs n r.whole.log.sound r.whole.log.counts in
      let nobody : AllByRecursion (λ v. is_its (to.table.number, key) v ≡ false) (pending rs) = unwritten rs to.database.transactions w.session (to.table.number, key) r.opens.apart free r.opens.pending none in
      let committed : row_at (rows rs to.table.number) key ≡ before = sym (ap (λ (o : Option Open). row_at (visible_by rs o to.table.number) key) none) ∙ was in
      may-tell w to.database (single_said n at before (row_set to key value) time) r (record {
        online = r.up;
        may = (tt, (may-write rs n begins.pending at before (row_set to key value) nobody (few-pend rs n to.database.transactions r.opens) place.place committed, (may-commit rs n begins _ _ refl refl, tt)));
        tables = subst (AreNumbered 1) (sym (tables-single rs n at before (row_set to key value) time begins.pending)) r.whole.log.tables;
        fits = fits-more (length to.database.groups) rs n (single_said n at before (row_set to key value) time) r.whole.fits.log (tables-single rs n at before (row_set to key value) time begins.pending)
            (tt, (tt, (said-time w to.database now (length to.database.groups) r.whole.fits.log, tt)));
        places = (tt, ((to.table, subst (λ made. find (λ (m : TableSpec). m.number == to.table.number) made ≡ Some to.table) (sym (tables-begun rs n)) (numbered_own r), place.cell), (tt, tt)));
        marks = inl (tt, (tt, (tt, tt)));
      }) (λ b. refl, (λ b. refl, (λ b. refl, tt))) (pending-single rs n at before (row_set to key value) time begins.pending) (omega (arith, left))
      (leaves-same rs (more rs n (single_said n at before (row_set to key value) time)) (n + 3) to.database.transactions to.database.job (pending-single rs n at before (row_set to key value) time begins.pending) (omega (arith, left)))

  -- by the one that is open
  within : (r : IsUp w to.database) (t : Open) → own_open w to.database ≡ Some t → MayDo w (logged to.database.name (write_said t.begin at before (row_set to key value)) to.database.transactions)
  unfolding holder visible
  within r t own =
      let rs : List Logged = log_of w.history to.database in
      let n : ℕ = to.database.end in
      let fewer : length (of_transaction t.begin (pending rs)) < most_writes = not-all _ (sym (ap (λ (o : Option Open). nat_le most_writes (writes_of rs o)) own) ∙ few) in
      let noted : row_at (seen rs t.begin to.table.number) key ≡ before = sym (ap (λ (o : Option Open). row_at (visible_by rs o to.table.number) key) own) ∙ was in
      let alone : AllByRecursion (λ v. is_its (to.table.number, key) v ≡ true → v.begin ≡ t.begin) (pending rs) = unlocked rs to.database.transactions w.session (to.table.number, key) r.opens.apart free r.opens.pending t own in
      may-open w to.database (write_said t.begin at before (row_set to key value)) to.database.transactions r (record {
        online = r.up;
        may = (record { place = place.place; noted = sym noted; unlocked = alone; behind = begin-lies to.database.transactions w.session n t own r.opens.begins; room = few-pend rs n to.database.transactions r.opens }, tt);
        tables = subst (AreNumbered 1) (sym (tables-written rs n t.begin at before (row_set to key value))) r.whole.log.tables;
        fits = fits-more (length to.database.groups) rs n (write_said t.begin at before (row_set to key value)) r.whole.fits.log (tables-written rs n t.begin at before (row_set to key value)) (tt, tt);
        places = ((to.table, numbered_own r, place.cell), tt);
        marks = inl (tt, tt);
      }) (each-own to.database) (opens-written rs n to.database.transactions r.opens w.session t own at before (row_set to key value) fewer (room r))
      (job-any to.database.job (leaves-written rs n to.database.transactions r.opens w.session t own at before (row_set to key value) fewer (room r)))

  abbrev act_of : Option Open → Rattle.bk_machine.specs.Acts.Act
  act_of o = logged to.database.name (row_said o to.database.end at before (row_set to key value) (said_time w to.database now)) to.database.transactions

  does : (r : IsUp w to.database) (o : Option Open) → own_open w to.database ≡ o → MayDo w (act_of o)
  does r None none = single r none
  does r (Some t) own = within r t own

  owns : (r : IsUp w to.database) (o : Option Open) → own_open w to.database ≡ o → IsOwn w (act_of o)
  owns r None none = own-single w to.database at before (row_set to key value) (said_time w to.database now) to.database.transactions r.named
  owns r (Some t) own = own-within w to.database t (write_said t.begin at before (row_set to key value)) to.database.transactions r.named (open-there to.database.transactions w.session t own) (refl, tt)

  leaves : (r : IsUp w to.database) (o : Option Open) → MayDo w (act_of o) → HasNumbers w (act_of o)
  leaves r None may =
      let left : to.database.end + (length (pending (log_of w.history to.database)) + (length to.database.transactions + 16)) ≤ last_number = room r in
      numbers-single w to.database at before (row_set to key value) (said_time w to.database now) to.database.transactions r.named (omega (arith, left))
  leaves r (Some t) may = numbers-whole w to.database (write_said t.begin at before (row_set to key value)) to.database.transactions r may (refl, tt)

  no-load : (o : Option Open) → AllByRecursion (λ (s : Said). Rattle.bk_machine.specs.Built.IsNoLoad s.deed) (row_said o to.database.end at before (row_set to key value) (said_time w to.database now))
  no-load None = (tt, (tt, (tt, tt)))
  no-load (Some t) = (tt, tt)

  pub row-facts : Facts w NoMedium (writes_row w to at before key value now)
  row-facts = record {
    writes = (tt, tt);
    refused = λ rule no. absurd cc;
    well = λ sound. let r : IsUp w to.database = target-up w name to sound its in record {
      may = (does r (own_open w to.database) refl, tt);
      opens = (opens-those w to.database (row_said (own_open w to.database) to.database.end at before (row_set to key value) (said_time w to.database now)) r.named, tt);
      own = (owns r (own_open w to.database) refl, tt);
      numbers = (leaves r (own_open w to.database) (does r (own_open w to.database) refl), tt);
      ends = inl (tt, tt);
      plain = λ built. (no-load (own_open w to.database), tt);
    };
  }

-- where a row of a table lies, it may be written
pub own-place : (w : World) (name : List ℕ) (to : Target) → IsUp w to.database → IsTarget w name to → IsBuilt w → (key : ℕ) (at : Place) → place_of (log_of w.history to.database) (to.table.number, key) ≡ Some at
    → MayPlace w to (to.table.number, key) at
own-place w name to r its built key at there =
    let rs : List Logged = log_of w.history to.database in
    let log : IsBuiltLog to.database.files rs = of-named (λ (db : Database). IsBuiltLog db.files (log_of w.history db)) w.databases to.database.name to.database built.databases r.named in
    let lies = well to.database.files rs to.database.end r.whole.log log (to.table.number, key) at there in
    let same : Some lies.table ≡ Some to.table = sym lies.there ∙ target-there w name to r.whole its in
    let table_is : lies.table ≡ to.table = cc in
    record { place = inl there; cell = subst (λ (t : TableSpec). IsCellOf to.database.files t.group at) table_is lies.cell }
