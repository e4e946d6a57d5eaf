-- The pending writes of a log, from the end of it in which each of their transactions began.
use Rattle.std.proofs.Common.{◌≡◌, ◌<◌, ◌≤◌, ℕ, ◌+◌, List, [], ◌∷◌, ◌++◌, length, map, None, refl, sym, ◌∙◌, ap, subst, append_assoc, arith}
use Rattle.std.specs.Prelude.{◌==◌, ◌&&◌, not}
use Rattle.std.specs.List.{filter, AllByRecursion}
use Rattle.std.proofs.lemmas.List.{append-nil, map-append}
use Rattle.std.proofs.lemmas.List.Elements.{filter-append}
use Rattle.bk_ids.specs.declared.record.Rec.{Rec}
use Rattle.bk_record.specs.Log.{IsLog, Left, Reads, BreaksOff}
use Rattle.bk_record.specs.declared.walk.BadRecord.{BadRecord}
use Rattle.bk_undo.specs.Spelled.{body_of, spelled}
use Rattle.bk_world.specs.declared.database.FileSpec.{FileSpec}
use Rattle.bk_lemmas.specs.Lists.{all_filter, all_mapped}
use Rattle.bk_world.specs.Pending.{Lies, Pending, load_writes, pending, pending_after, pending_from}
use Rattle.bk_world.specs.ReadingLaws.{pending-more}
use Rattle.bk_world.specs.Records.{Counts, Deed, Logged, database_made, table_made, begun, written, committed, rolled_back, undone, checkpointed, stamped, model_set, loaded, recovered}
use Rattle.bk_world.specs.SoundLogs.{IsSound}
use Rattle.bk_world.specs.Telling as telling
use Rattle.bk_world.specs.SoundLaws.{follow-front}
use Rattle.bk_shown.specs.Ends.{HoldsPending}
use Rattle.bk_shown.specs.ReadLaws.{next-read, none-bad, none-left}
use Rattle.bk_shown.specs.Shown.{ArePlaced, IsPlaced, LogKeeps, pending_of}
use Rattle.bk_shown.specs.Steps.{IsUnnoted, NotesBody}
use Rattle.bk_shown.specs.declared.shown.Written.{Written}
use Rattle.bk_shown.proofs.Keeps.{keeps-along}
use Rattle.bk_shown.proofs.Lists.{filter-mapped}
use Rattle.bk_shown.proofs.Mirrors.{others-mirror}
use Rattle.bk_shown.proofs.Starts.{keeps-none}

-- ---- one record

-- what is noted of a record is what the log says is pending behind it
pub noted-one : (files : List FileSpec) (front : List Logged) (r : Logged) (given : Rec) (old new : List Written) → given ≡ spelled r → IsPlaced files (telling.tables front) r.deed
    → NotesBody given.lsn given.begin given.body old new → map pending_of new ≡ pending_after (map pending_of old) r.lsn r.begin r.deed
noted-one files front r given old new is placed notes = by r.deed placed (subst (λ (g : Rec). NotesBody g.lsn g.begin g.body old new) is notes)
  where
    by : (d : Deed) → IsPlaced files (telling.tables front) d → NotesBody r.lsn r.begin (body_of d) old new → map pending_of new ≡ pending_after (map pending_of old) r.lsn r.begin d
    by (written at before c) placed n =
        let w : Written = record { lsn = r.lsn; begin = r.begin; place = at; table = c.table; key = c.key; before = before; value = c.value } in
        ap (map pending_of) (n c.table c.key before c.value (record { fits = placed.0; old_is = refl; new_is = refl })) ∙ map-append pending_of old (w ∷ [])
    by (committed time mark) placed n = ap (map pending_of) n ∙ others-mirror r.begin old
    by rolled_back placed n = ap (map pending_of) n ∙ others-mirror r.begin old
    by (undone at c k) placed n = ap (map pending_of) n ∙ filter-mapped pending_of (λ v. not (v.begin == r.begin && v.lsn == k)) old
    by (loaded load) placed n = absurd placed
    by (database_made time family branch) placed n = ap (map pending_of) n
    by (table_made time spec) placed n = ap (map pending_of) n
    by begun placed n = ap (map pending_of) n
    by (checkpointed time) placed n = ap (map pending_of) n
    by (stamped time set) placed n = ap (map pending_of) n
    by (model_set time model) placed n = ap (map pending_of) n
    by (recovered branch) placed n = ap (map pending_of) n

-- and each record that is placed is noted
pub is-noted : (files : List FileSpec) (front : List Logged) (r : Logged) (given : Rec) → given ≡ spelled r → IsPlaced files (telling.tables front) r.deed → IsUnnoted given.body → ⊥
is-noted files front r given is placed unnoted = by r.deed placed (subst (λ (g : Rec). IsUnnoted g.body) is unnoted)
  where
    by : (d : Deed) → IsPlaced files (telling.tables front) d → IsUnnoted (body_of d) → ⊥
    by (written at before c) placed n = n c.table c.key before c.value (record { fits = placed.0; old_is = refl; new_is = refl }) placed.1.1.1.slot
    by (loaded load) placed n = absurd placed
    by (committed time mark) placed n = n
    by rolled_back placed n = n
    by (undone at c k) placed n = n
    by (database_made time family branch) placed n = n
    by (table_made time spec) placed n = n
    by begun placed n = n
    by (checkpointed time) placed n = n
    by (stamped time set) placed n = n
    by (model_set time model) placed n = n
    by (recovered branch) placed n = n

-- ---- records one after the other

-- these writes are pending behind some of a log's records, and the others are left
pub record NotedSoFar (files : List FileSpec) (before from : List Logged) (left : List ℕ) (writes : List Written) : Type 0 where
  pub front : List Logged
  pub rest : List Logged
  pub splits : from ≡ front ++ rest
  pub noted : map pending_of writes ≡ pending_from [] front
  pub placed : ArePlaced files (before ++ front) rest
  pub spelled_is : IsLog left (map spelled rest) None

pub noted-none : (files : List FileSpec) (before from : List Logged) (bytes : List ℕ) → ArePlaced files before from → IsLog bytes (map spelled from) None → NotedSoFar files before from bytes []
noted-none files before from bytes placed log = record {
  front = [];
  rest = from;
  splits = refl;
  noted = refl;
  placed = subst (λ (l : List Logged). ArePlaced files l from) (sym (append-nil before)) placed;
  spelled_is = log;
}

pending-one : (ws : List Pending) (front : List Logged) (r : Logged) → pending_from ws (front ++ r ∷ []) ≡ pending_after (pending_from ws front) r.lsn r.begin r.deed
pending-one ws [] r = refl
pending-one ws (s ∷ front) r = pending-one (pending_after ws s.lsn s.begin s.deed) front r

placed-next : (files : List FileSpec) (front rest : List Logged) (r : Logged) (others : List Logged) → rest ≡ r ∷ others → ArePlaced files front rest → IsPlaced files (telling.tables front) r.deed × ArePlaced files (front ++ r ∷ []) others
placed-next files front rest r others is placed = let P : List Logged → Type 0 = ArePlaced files front in subst P is placed

pub noted-more : (files : List FileSpec) (before from : List Logged) (left next : Left) (given : Rec) (old new : List Written) → NotedSoFar files before from left.bytes old → Reads left given next
    → NotesBody given.lsn given.begin given.body old new → NotedSoFar files before from next.bytes new
noted-more files before from left next given old new so reads notes =
    let read = next-read left next given so.rest so.spelled_is reads in
    let placed = placed-next files (before ++ so.front) so.rest read.first read.others read.rest_is so.placed in
    record {
      front = so.front ++ read.first ∷ [];
      rest = read.others;
      splits = so.splits ∙ ap (λ (xs : List Logged). so.front ++ xs) read.rest_is ∙ sym (append_assoc so.front (read.first ∷ []) read.others);
      noted = noted-one files (before ++ so.front) read.first given old new read.read_is placed.0 notes
          ∙ ap (λ ws. pending_after ws read.first.lsn read.first.begin read.first.deed) so.noted ∙ sym (pending-one [] so.front read.first);
      placed = subst (λ (l : List Logged). ArePlaced files l read.others) (append_assoc before so.front (read.first ∷ [])) placed.1;
      spelled_is = read.behind;
    }

pub noted-unfit : (files : List FileSpec) (before from : List Logged) (left next : Left) (given : Rec) (old : List Written) → NotedSoFar files before from left.bytes old → Reads left given next → IsUnnoted given.body → ⊥
noted-unfit files before from left next given old so reads unnoted =
    let read = next-read left next given so.rest so.spelled_is reads in
    let placed = placed-next files (before ++ so.front) so.rest read.first read.others read.rest_is so.placed in
    is-noted files (before ++ so.front) read.first given read.read_is placed.0 unnoted

pub noted-bad : (files : List FileSpec) (before from : List Logged) (left next : Left) (e : BadRecord) (old : List Written) → NotedSoFar files before from left.bytes old → BreaksOff left e next → ⊥
noted-bad files before from left next e old so breaks = none-bad left next e so.rest so.spelled_is breaks

pub noted-all : (files : List FileSpec) (before from : List Logged) (left : List ℕ) (writes : List Written) → NotedSoFar files before from left writes → left ≡ [] → map pending_of writes ≡ pending_from [] from
noted-all files before from left writes so none =
    let over : so.rest ≡ [] = none-left so.rest (subst (λ (bytes : List ℕ). IsLog bytes (map spelled so.rest) None) none so.spelled_is) in
    so.noted ∙ ap (pending_from []) (sym (so.splits ∙ ap (λ (xs : List Logged). so.front ++ xs) over ∙ append-nil so.front))

-- ---- the log before them

-- behind more records some of the first writes are there, and the others are those that these records alone leave
record Stay (P : Pending → Type 0) (ws now : List Pending) : Type 0 where
  pub some : List Pending
  pub each : AllByRecursion P some
  pub is : now ≡ some ++ ws

stay-one : (P : Pending → Type 0) (ws vs : List Pending) (n begin : ℕ) (d : Deed) → AllByRecursion P ws → Stay P (pending_after vs n begin d) (pending_after (ws ++ vs) n begin d)
stay-one P ws vs n begin (written at before c) all =
    record { some = ws; each = all; is = append_assoc ws vs ((record { lsn = n; begin = begin; place = at; before = before; change = c; extents = [] }) ∷ []) }
stay-one P ws vs n begin (loaded load) all = record { some = ws; each = all; is = append_assoc ws vs (load_writes n begin load 0 load.count) }
stay-one P ws vs n begin (committed time mark) all =
    record { some = filter (λ w. not (w.begin == begin)) ws; each = all_filter P (λ w. not (w.begin == begin)) ws all; is = filter-append (λ w. not (w.begin == begin)) ws vs }
stay-one P ws vs n begin rolled_back all =
    record { some = filter (λ w. not (w.begin == begin)) ws; each = all_filter P (λ w. not (w.begin == begin)) ws all; is = filter-append (λ w. not (w.begin == begin)) ws vs }
stay-one P ws vs n begin (undone at c k) all =
    record { some = filter (λ w. not (w.begin == begin && w.lsn == k)) ws; each = all_filter P (λ w. not (w.begin == begin && w.lsn == k)) ws all; is = filter-append (λ w. not (w.begin == begin && w.lsn == k)) ws vs }
stay-one P ws vs n begin (database_made time family branch) all = record { some = ws; each = all; is = refl }
stay-one P ws vs n begin (table_made time spec) all = record { some = ws; each = all; is = refl }
stay-one P ws vs n begin begun all = record { some = ws; each = all; is = refl }
stay-one P ws vs n begin (checkpointed time) all = record { some = ws; each = all; is = refl }
stay-one P ws vs n begin (stamped time set) all = record { some = ws; each = all; is = refl }
stay-one P ws vs n begin (model_set time model) all = record { some = ws; each = all; is = refl }
stay-one P ws vs n begin (recovered branch) all = record { some = ws; each = all; is = refl }

stay-all : (P : Pending → Type 0) (ws vs : List Pending) (rs : List Logged) → AllByRecursion P ws → Stay P (pending_from vs rs) (pending_from (ws ++ vs) rs)
stay-all P ws vs [] all = record { some = ws; each = all; is = refl }
stay-all P ws vs (r ∷ rs) all =
    let one = stay-one P ws vs r.lsn r.begin r.deed all in
    let rest = stay-all P one.some (pending_after vs r.lsn r.begin r.deed) rs one.each in
    record { some = rest.some; each = rest.each; is = ap (λ us. pending_from us rs) one.is ∙ rest.is }

counts-front : (m : ℕ) (a b : List Logged) (n : ℕ) → Counts m (a ++ b) n → Counts m a (length a + m)
counts-front m [] b n c = omega arith
counts-front m (r ∷ a) b n c = let longer : length a + (m + 1) ≡ length (r ∷ a) + m = omega arith in (c.0, subst (Counts (m + 1) a) longer (counts-front (m + 1) a b n c.1))

placed-front : (files : List FileSpec) (front a b : List Logged) → ArePlaced files front (a ++ b) → ArePlaced files front a
placed-front files front [] b all = tt
placed-front files front (r ∷ a) b all = (all.0, placed-front files (front ++ r ∷ []) a b all.1)

pub placed-behind : (files : List FileSpec) (front a b : List Logged) → ArePlaced files front (a ++ b) → ArePlaced files (front ++ a) b
placed-behind files front [] b all = subst (λ (l : List Logged). ArePlaced files l b) (sym (append-nil front)) all
placed-behind files front (r ∷ a) b all = subst (λ (l : List Logged). ArePlaced files l b) (append_assoc front (r ∷ []) a) (placed-behind files (front ++ r ∷ []) a b all.1)

none-both : (n : ℕ) (some ws : List Pending) → AllByRecursion (λ (w : Pending). w.begin < n) some → AllByRecursion (λ (w : Pending). n ≤ w.begin) (some ++ ws) → some ≡ []
none-both n [] ws early late = refl
none-both n (w ∷ some) ws early late = absurd (omega (arith, early.0, late.0))

-- where each pending write's transaction began behind some records, the others tell all that is pending
pub pending-held : (files : List FileSpec) (before from : List Logged) (end : ℕ) → Counts 1 (before ++ from) end → IsSound (before ++ from) → ArePlaced files [] (before ++ from)
    → AllByRecursion (λ (w : Pending). length before + 1 ≤ w.begin) (pending (before ++ from)) → pending (before ++ from) ≡ pending_from [] from
pending-held files before from end counts sound placed late =
    let n : ℕ = length before + 1 in
    let keeps : LogKeeps before (length before + 1) =
    keeps-along files [] before 1 (length before + 1) (counts-front 1 before from end counts) (follow-front [] before from sound) (placed-front files [] before from placed) keeps-none in
    let early : AllByRecursion (λ (w : Pending). w.begin < length before + 1) (pending before) =
    all_mapped (Lies (length before + 1)) (λ (w : Pending). w.begin < length before + 1) (λ w lies. soon w.begin w.lsn (length before + 1) lies.behind lies.below) (pending before) keeps.lie.each in
    let stay = stay-all (λ (w : Pending). w.begin < length before + 1) (pending before) [] from early in
    let is : pending (before ++ from) ≡ stay.some ++ pending_from [] from = pending-more before from ∙ ap (λ ws. pending_from ws from) (sym (append-nil (pending before))) ∙ stay.is in
    let none : stay.some ≡ [] = none-both (length before + 1) stay.some (pending_from [] from) stay.each (subst (AllByRecursion (λ (w : Pending). length before + 1 ≤ w.begin)) is late) in
    is ∙ ap (λ ws. ws ++ pending_from [] from) none
  where
    soon : (begin lsn n : ℕ) → begin < lsn → lsn < n → begin < n
    soon begin lsn n a b = omega (arith, a, b)

-- ---- the end of a log

-- its records are placed behind those before them
pub noted-start : (files : List FileSpec) (rs : List Logged) (first : ℕ) (bytes : List ℕ) → ArePlaced files [] rs → (holds : HoldsPending rs first bytes) → ArePlaced files holds.spells.before holds.spells.from
noted-start files rs first bytes placed holds = placed-behind files [] holds.spells.before holds.spells.from (subst (ArePlaced files []) holds.spells.splits placed)

pub noted-end : (files : List FileSpec) (rs : List Logged) (first end : ℕ) (bytes : List ℕ) → Counts 1 rs end → IsSound rs → ArePlaced files [] rs → (holds : HoldsPending rs first bytes)
    → (left : List ℕ) (writes : List Written) → NotedSoFar files holds.spells.before holds.spells.from left writes → left ≡ [] → map pending_of writes ≡ pending rs
noted-end files rs first end bytes counts sound placed holds left writes so none =
    noted-all files holds.spells.before holds.spells.from left writes so none
    ∙ sym (pending-held files holds.spells.before holds.spells.from end (subst (λ (l : List Logged). Counts 1 l end) holds.spells.splits counts) (subst IsSound holds.spells.splits sound)
    (subst (ArePlaced files []) holds.spells.splits placed)
    (subst (λ (l : List Logged). AllByRecursion (λ (w : Pending). length holds.spells.before + 1 ≤ w.begin) (pending l)) holds.spells.splits
    (subst (λ (n : ℕ). AllByRecursion (λ (w : Pending). n ≤ w.begin) (pending rs)) holds.spells.first_is holds.begun)))
    ∙ ap pending (sym holds.spells.splits)
