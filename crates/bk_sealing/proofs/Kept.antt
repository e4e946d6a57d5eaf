-- The log of a set that is sound, each record in its place, is one that a set may have.
use Rattle.std.proofs.Common.{◌≡◌, ◌<◌, ◌≤◌, ℕ, zero, suc, ◌+◌, ◌-◌, ◌*◌, ◌/◌, Bool, true, false, cond, List, [], ◌∷◌, ◌++◌, length, map, drop, Some, refl, sym, ◌∙◌, ap, subst, append_assoc, arith}
use Rattle.std.specs.Prelude.{◌==◌, ◌&&◌, nat_lt, nat_le}
use Rattle.std.specs.List.{AllByRecursion, find, list_any}
use Rattle.std.specs.Str.{bytes_eq}
use Rattle.std.proofs.lemmas.Bool.{and_from, eq-eqb, le-leb, lt-ltb, or_left, or_right}
use Rattle.std.proofs.lemmas.Option.{same_Some}
use Rattle.std.proofs.lemmas.Slice.Eq.{bytes_eq-Decides}
use Rattle.bk_body.specs.Conditions.{AreDifferent, Differ, FollowOn, KeepTables, KeepsDeed, KeepsRecords, has_extent, is_in_file, joined, made_by, same_table, tables_made}
use Rattle.bk_ids.specs.Name.{same_name}
use Rattle.bk_ids.specs.declared.record.Place.{Place}
use Rattle.bk_ids.specs.declared.record.Rec.{Rec}
use Rattle.bk_lemmas.specs.Lists.{all_filter, all_front, all_joined, all_mapped, all_middle}
use Rattle.bk_machine.specs.Acts.{latest}
use Rattle.bk_machine.specs.Fits.{AreNamedApart, FitsLog}
use Rattle.bk_machine.specs.Sound.{AreNumbered}
use Rattle.bk_paths.specs.Paths.{kept_from}
use Rattle.bk_shown.specs.Shown.{ArePlaced, IsPlaced}
use Rattle.bk_undo.specs.Spelled.{body_of, spelled}
use Rattle.bk_world.specs.Entry.{Entry}
use Rattle.bk_world.specs.Pending.{Pending, pending, pending_after}
use Rattle.bk_world.specs.Places.{IsCellOf}
use Rattle.bk_world.specs.ReadingLaws.{pending-more}
use Rattle.bk_world.specs.Records.{Counts, Deed, Logged, begun, checkpointed, committed, database_made, loaded, model_set, recovered, rolled_back, stamped, table_made, undone, written}
use Rattle.bk_world.specs.Rows.{table_of, tables_of}
use Rattle.bk_world.specs.SoundLogs.{IsSound, MayCome, MayFollow}
use Rattle.bk_world.specs.Telling.{entries, entries_from, entry_of, tables}
use Rattle.bk_world.specs.declared.database.FileSpec.{FileSpec}
use Rattle.bk_world.specs.declared.database.TableSpec.{TableSpec}
use Rattle.bk_world.specs.declared.header.Header.{Header}
use Rattle.bk_world.specs.declared.header.HeaderFile.{HeaderFile}
use Rattle.bk_sealing.specs.Sealing.{in_set}

-- ---- lists

all-back : {X : Type 0} (P : X → Type 0) (xs ys : List X) → AllByRecursion P (xs ++ ys) → AllByRecursion P ys
all-back P [] ys all = all
all-back P (x ∷ xs) ys all = all-back P xs ys all.1

all-later : {X : Type 0} (P : X → Type 0) (k : ℕ) (xs : List X) → AllByRecursion P xs → AllByRecursion P (drop k xs)
all-later P zero xs all = all
all-later P (suc k) [] all = tt
all-later P (suc k) (x ∷ xs) all = all-later P k xs all.1

-- ---- a cell lies in an extent of the header

-- a file of the header, whole in the set
abbrev whole : FileSpec → HeaderFile
whole f = record { spec = f; in_set = true }

in-file : (f : FileSpec) (n page : ℕ) → (f.number == n) ≡ true → 8 ≤ page → page < 8 + 8 * f.extents → is_in_file n (page / 8) (whole f) ≡ true
in-file f n page number behind inside =
    let some : 0 < page / 8 = omega (arith, behind) in
    let most : page / 8 ≤ f.extents = omega (arith, inside) in
    and_from (f.number == n && nat_lt 0 (page / 8)) (nat_le (page / 8) f.extents) (and_from (f.number == n) (nat_lt 0 (page / 8)) number (lt-ltb 0 (page / 8) some)) (le-leb (page / 8) f.extents most)

there : (files : List FileSpec) (at : Place) (file : FileSpec) → find (λ (f : FileSpec). f.number == at.file) files ≡ Some file → 8 ≤ at.page → at.page < 8 + 8 * file.extents → has_extent (in_set files) at.file (at.page / 8) ≡ true
there [] at file is from below = absurd cc
there (f ∷ files) at file is from below = by (f.number == at.file) refl is (λ rest. there files at file rest from below)
  where
    by : (t : Bool) → (f.number == at.file) ≡ t → cond t (Some f) (find (λ (g : FileSpec). g.number == at.file) files) ≡ Some file
        → (find (λ (g : FileSpec). g.number == at.file) files ≡ Some file → has_extent (in_set files) at.file (at.page / 8) ≡ true) → has_extent (in_set (f ∷ files)) at.file (at.page / 8) ≡ true
    by true number here next =
        let same : f ≡ file = same_Some f file here in
        or_left (is_in_file at.file (at.page / 8) (whole f)) (has_extent (in_set files) at.file (at.page / 8)) (in-file f at.file at.page number from (subst (λ (g : FileSpec). at.page < 8 + 8 * g.extents) (sym same) below))
    by false other rest next = or_right (is_in_file at.file (at.page / 8) (whole f)) (has_extent (in_set files) at.file (at.page / 8)) (next rest)

in-cell : (files : List FileSpec) (group : ℕ) (at : Place) → IsCellOf files group at → has_extent (in_set files) at.file (at.page / 8) ≡ true
in-cell files group at is = there files at is.file is.there is.from is.below

-- and so does each pending write
abbrev IsIn : List FileSpec → Pending → Type 0
IsIn files w = has_extent (in_set files) w.place.file (w.place.page / 8) ≡ true

in-after : (files : List FileSpec) (made : List TableSpec) (ws : List Pending) (lsn begin : ℕ) (deed : Deed) → IsPlaced files made deed → AllByRecursion (IsIn files) ws → AllByRecursion (IsIn files) (pending_after ws lsn begin deed)
in-after files made ws lsn begin (written at before c) is all = all_joined (IsIn files) ws _ all (in-cell files is.1.0.group at is.1.1.1, tt)
in-after files made ws lsn begin (loaded load) is all = absurd is
in-after files made ws lsn begin (committed time mark) is all = all_filter (IsIn files) _ ws all
in-after files made ws lsn begin rolled_back is all = all_filter (IsIn files) _ ws all
in-after files made ws lsn begin (undone at c n) is all = all_filter (IsIn files) _ ws all
in-after files made ws lsn begin deed is all = all

-- ---- tables

-- a time that a set may have, and a table of one of the header's filegroups
abbrev IsTimely : Entry → Type 0
IsTimely e = e.time ≤ latest

abbrev IsGrouped : Header → TableSpec → Type 0
IsGrouped h t = t.group < length h.groups

tables-joined : (xs ys : List Entry) → tables_of (xs ++ ys) ≡ tables_of xs ++ tables_of ys
tables-joined [] ys = refl
tables-joined (e ∷ xs) ys = ap (λ (ts : List TableSpec). table_of e.change ++ ts) (tables-joined xs ys) ∙ sym (append_assoc (table_of e.change) (tables_of xs) (tables_of ys))

made-one : (ws : List Pending) (lsn begin : ℕ) (deed : Deed) → made_by (body_of deed) ≡ tables_of (entry_of ws lsn begin deed)
made-one ws lsn begin (database_made time family branch) = refl
made-one ws lsn begin (table_made time spec) = refl
made-one ws lsn begin begun = refl
made-one ws lsn begin (written at before c) = refl
made-one ws lsn begin (committed time mark) = refl
made-one ws lsn begin rolled_back = refl
made-one ws lsn begin (undone at c n) = refl
made-one ws lsn begin (checkpointed time) = refl
made-one ws lsn begin (stamped time set) = refl
made-one ws lsn begin (model_set time model) = refl
made-one ws lsn begin (loaded load) = refl
made-one ws lsn begin (recovered branch) = refl

-- what records make is what their entries make
made-all : (ws : List Pending) (rs : List Logged) → tables_made (map spelled rs) ≡ tables_of (entries_from ws rs)
made-all ws [] = refl
made-all ws (r ∷ rs) =
    let next : List Pending = pending_after ws r.lsn r.begin r.deed in
    ap (λ (ts : List TableSpec). made_by (body_of r.deed) ++ ts) (made-all next rs)
    ∙ ap (λ (ts : List TableSpec). ts ++ tables_of (entries_from next rs)) (made-one ws r.lsn r.begin r.deed)
    ∙ sym (tables-joined (entry_of ws r.lsn r.begin r.deed) (entries_from next rs))

made-later : (P : TableSpec → Type 0) (k : ℕ) (records : List Rec) → AllByRecursion P (tables_made records) → AllByRecursion P (tables_made (drop k records))
made-later P zero records all = all
made-later P (suc k) [] all = tt
made-later P (suc k) (r ∷ records) all = made-later P k records (all-back P (made_by r.body) (tables_made records) all)

-- a table is among some
abbrev IsAmong : List TableSpec → TableSpec → Type 0
IsAmong ts t = list_any (same_table t) ts ≡ true

itself : (t : TableSpec) → same_table t t ≡ true
itself t =
    and_from (t.number == t.number && bytes_eq t.name t.name) (t.group == t.group)
    (and_from (t.number == t.number) (bytes_eq t.name t.name) (eq-eqb t.number t.number refl) ((bytes_eq-Decides t.name t.name).1 refl))
    (eq-eqb t.group t.group refl)

all-among : (ts : List TableSpec) → AllByRecursion (IsAmong ts) ts
all-among [] = tt
all-among (t ∷ ts) = (or_left (same_table t t) (list_any (same_table t) ts) (itself t), all_mapped (IsAmong ts) (IsAmong (t ∷ ts)) (λ u among. or_right (same_table u t) (list_any (same_table u) ts) among) ts (all-among ts))

joined-same : (ts more : List TableSpec) → AllByRecursion (IsAmong ts) more → joined ts more ≡ ts
joined-same ts [] all = refl
joined-same ts (t ∷ more) all = rw all.0 (joined-same ts more all.1)

later-differ : (m : ℕ) (t : TableSpec) (ts : List TableSpec) → AreNumbered m ts → t.number < m → AllByRecursion (λ (u : TableSpec). same_name t.name u.name ≡ false) ts → AllByRecursion (Differ t) ts
later-differ m t [] numbers less named = tt
later-differ m t (u ∷ ts) numbers less named = ((λ same. absurd (omega (arith, same, numbers.0, less)), named.0), later-differ (m + 1) t ts numbers.1 (omega (arith, less)) named.1)

all-differ : (n : ℕ) (ts : List TableSpec) → AreNumbered n ts → AreNamedApart ts → AreDifferent ts
all-differ n [] numbers named = tt
all-differ n (t ∷ ts) numbers named = (later-differ (n + 1) t ts numbers.1 (omega (arith, numbers.0)) named.0, all-differ (n + 1) ts numbers.1 named.1)

-- ---- each record

deed-keeps : (h : Header) (files : List FileSpec) (before : List Logged) (ws : List Pending) (lsn begin : ℕ) (deed : Deed) → h.files ≡ in_set files → ws ≡ pending before → IsPlaced files (tables before) deed → MayCome before lsn begin deed → AllByRecursion (IsIn files) ws
    → AllByRecursion IsTimely (entry_of ws lsn begin deed) → AllByRecursion (IsGrouped h) (tables_of (entry_of ws lsn begin deed)) → KeepsDeed h (body_of deed)
deed-keeps h files before ws lsn begin (database_made time family branch) its same is may all times groups = times.0
deed-keeps h files before ws lsn begin (table_made time spec) its same is may all times groups = (times.0, groups.0)
deed-keeps h files before ws lsn begin begun its same is may all times groups = tt
deed-keeps h files before ws lsn begin (written at old c) its same is may all times groups =
    subst (λ (fs : List HeaderFile). has_extent fs at.file (at.page / 8) ≡ true) (sym its) (in-cell files is.1.0.group at is.1.1.1)
deed-keeps h files before ws lsn begin (committed time mark) its same is may all times groups = times.0
deed-keeps h files before ws lsn begin rolled_back its same is may all times groups = tt
deed-keeps h files before ws lsn begin (undone at c n) its same is may all times groups =
    let own : AllByRecursion (IsIn files) (may.before ++ may.write ∷ []) = subst (AllByRecursion (IsIn files)) may.last (all_filter (IsIn files) _ (pending before) (subst (AllByRecursion (IsIn files)) same all)) in
    let lies : has_extent (in_set files) at.file (at.page / 8) ≡ true = subst (λ (p : Place). has_extent (in_set files) p.file (p.page / 8) ≡ true) (sym may.place) (all_middle (IsIn files) may.before may.write [] own) in
    subst (λ (fs : List HeaderFile). has_extent fs at.file (at.page / 8) ≡ true) (sym its) lies
deed-keeps h files before ws lsn begin (checkpointed time) its same is may all times groups = times.0
deed-keeps h files before ws lsn begin (stamped time set) its same is may all times groups = times.0
deed-keeps h files before ws lsn begin (model_set time model) its same is may all times groups = times.0
deed-keeps h files before ws lsn begin (loaded load) its same is may all times groups = absurd is
deed-keeps h files before ws lsn begin (recovered branch) its same is may all times groups = tt

each-keeps : (h : Header) (files : List FileSpec) (before rs : List Logged) (ws : List Pending) → h.files ≡ in_set files → ws ≡ pending before → ArePlaced files before rs → MayFollow before rs → AllByRecursion (IsIn files) ws
    → AllByRecursion IsTimely (entries_from ws rs) → AllByRecursion (IsGrouped h) (tables_of (entries_from ws rs)) → AllByRecursion (λ (r : Rec). KeepsDeed h r.body) (map spelled rs)
each-keeps h files before [] ws its same are follow all times groups = tt
each-keeps h files before (r ∷ rs) ws its same are follow all times groups =
    let entry : List Entry = entry_of ws r.lsn r.begin r.deed in
    let next : List Pending = pending_after ws r.lsn r.begin r.deed in
    let made : AllByRecursion (IsGrouped h) (tables_of entry ++ tables_of (entries_from next rs)) = subst (AllByRecursion (IsGrouped h)) (tables-joined entry (entries_from next rs)) groups in
    let then : next ≡ pending (before ++ r ∷ []) = ap (λ (xs : List Pending). pending_after xs r.lsn r.begin r.deed) same ∙ sym (pending-more before (r ∷ [])) in (
      deed-keeps h files before ws r.lsn r.begin r.deed its same are.0 follow.0 all (all_front IsTimely entry (entries_from next rs) times) (all_front (IsGrouped h) (tables_of entry) (tables_of (entries_from next rs)) made),
      each-keeps h files (before ++ r ∷ []) rs next its then are.1 follow.1 (in-after files (tables before) ws r.lsn r.begin r.deed are.0 all) (all-back IsTimely entry (entries_from next rs) times)
          (all-back (IsGrouped h) (tables_of entry) (tables_of (entries_from next rs)) made),
    )

-- ---- their numbers

follow-all : (n : ℕ) (rs : List Logged) (end : ℕ) → Counts n rs end → FollowOn n (map spelled rs) end
follow-all n [] end counts = counts
follow-all n (r ∷ rs) end counts = (counts.0, follow-all (n + 1) rs end counts.1)

follow-later : (k n : ℕ) (rs : List Logged) (end : ℕ) → Counts n rs end → n + k ≤ end → FollowOn (n + k) (drop k (map spelled rs)) end
follow-later zero n rs end counts inside =
    let same : n ≡ n + zero = omega arith in
    subst (λ (m : ℕ). FollowOn m (map spelled rs) end) same (follow-all n rs end counts)
follow-later (suc k) n [] end counts inside = absurd (omega (arith, counts, inside))
follow-later (suc k) n (r ∷ rs) end counts inside =
    let same : (n + 1) + k ≡ n + suc k = omega arith in
    subst (λ (m : ℕ). FollowOn m (drop k (map spelled rs)) end) same (follow-later k (n + 1) rs end counts.1 (omega (arith, inside)))

-- ---- the log

-- A log that fits a set, each record in its place, is kept from the first number of a header of its files on.
pub keeps-records : (h : Header) (files : List FileSpec) (rs : List Logged) → h.files ≡ in_set files → Counts 1 rs h.last → IsSound rs → ArePlaced files [] rs → AreNumbered 1 (tables rs) → FitsLog (length h.groups) rs → 1 ≤ h.first → h.first ≤ h.last
    → KeepsRecords h (tables rs) (kept_from h.first (map spelled rs))
unfolding tables entries pending
keeps-records h files rs its counts sound placed numbers fits some order =
    let records : List Rec = map spelled rs in
    let from : 1 + (h.first - 1) ≡ h.first = omega (arith, some) in
    let among : AllByRecursion (IsAmong (tables rs)) (tables_made records) = subst (AllByRecursion (IsAmong (tables rs))) (sym (made-all [] rs)) (all-among (tables rs)) in record {
      numbers = subst (λ (n : ℕ). FollowOn n (kept_from h.first records) h.last) from (follow-later (h.first - 1) 1 rs h.last counts (omega (arith, some, order)));
      each = all-later (λ (r : Rec). KeepsDeed h r.body) (h.first - 1) records (each-keeps h files [] rs [] its refl placed sound tt fits.times fits.grouped);
      all_tables = subst (KeepTables (length h.groups)) (sym (joined-same (tables rs) (tables_made (kept_from h.first records)) (made-later (IsAmong (tables rs)) (h.first - 1) records among))) (record {
        few = fits.few;
        different = all-differ 1 (tables rs) numbers fits.names;
        groups_there = fits.grouped;
      });
    }
