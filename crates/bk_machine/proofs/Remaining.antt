-- For fronts of logs that may stay, a crash leaves a world in which they are settled.
use Rattle.std.proofs.Common.{◌≡◌, ◌≤◌, inl, inr, ℕ, ◌+◌, Bool, true, false, cond, List, [], ◌∷◌, ◌++◌, map, Option, None, Some, refl, sym, ◌∙◌, ap, subst}
use Rattle.std.specs.List.{AllByRecursion, AllZip}
use Rattle.std.proofs.lemmas.List.{append-nil}
use Rattle.bk_ids.specs.Path.{last_branch}
use Rattle.bk_ids.specs.declared.guid.Guid.{Guid}
use Rattle.bk_world.specs.Cut.{end_behind, settled}
use Rattle.bk_world.specs.History.{is_guid}
use Rattle.bk_world.specs.Lines.{MayGoOn, RecordLine, RecordLines, has_record_line, line_on}
use Rattle.bk_lemmas.specs.Lists.{all_both}
use Rattle.bk_world.specs.Pending.{pending}
use Rattle.bk_world.specs.Records.{Logged, numbered}
use Rattle.bk_world.specs.Says.{settle_said}
use Rattle.bk_world.specs.declared.database.Status.{Status}
use Rattle.bk_world.specs.declared.database.Status.TheVariants.{Online, Standby, Down}
use Rattle.bk_world.specs.ElsewhereLaws.{guid_is}
use Rattle.bk_world.specs.SameLaws.{is_guid-refl}
use Rattle.bk_machine.specs.Crash.{DatabaseLeft, IsNoOnes, LineLeft, OfflineLeft, StatusLeft, WorldLeft, open_begins}
use Rattle.bk_machine.specs.Sound.{AreDifferent, Differ, IsSoundLine, IsWhole, IsWholeDatabase, RiseFrom}
use Rattle.bk_machine.specs.Stays.{MayStay}
use Rattle.bk_machine.specs.World.{Database, World, log_of}
use Rattle.bk_machine.proofs.Histories.{line_on-none}
use Rattle.bk_machine.proofs.Joined.{own-line}
use Rattle.bk_machine.proofs.Left.{behind_crash}
use Rattle.bk_machine.proofs.Lost.{reads-left}
use Rattle.bk_machine.proofs.Settling.{goes-settled, line-settled, log-settled, on}
use Rattle.bk_machine.proofs.Truncated.{below}

-- ---- what is left

-- a database in this status writes on a branch
abbrev writes_on : Status → Option Guid → Guid → Bool
writes_on Online (Some last) branch = is_guid last branch
writes_on Online None branch = false
writes_on (Standby file) last branch = false
writes_on Down last branch = false

abbrev settled_line : RecordLine → List Logged → RecordLine
settled_line line kept = record { branch = line.branch; records = below (end_behind kept) line.records ++ numbered (end_behind kept) (settle_said (pending kept)) }

-- a line, by the database that writes on it
abbrev left_line : (Database → List Logged) → List Database → RecordLine → RecordLine
left_line kept [] line = line
left_line kept (db ∷ dbs) line = cond (writes_on db.status (last_branch db.path) line.branch) (settled_line line (kept db)) (left_line kept dbs line)

abbrev left_end : Status → ℕ → List Logged → ℕ
left_end Online end kept = end_behind (settled kept)
left_end (Standby file) end kept = end
left_end Down end kept = end

abbrev left_database : (Database → List Logged) → Database → Database
left_database kept db = behind_crash db (left_end db.status db.end (kept db))

abbrev left_world : (Database → List Logged) → ℕ → World → World
left_world kept counter cut = record cut {
  counter = counter;
  history = map (left_line kept cut.databases) cut.history;
  databases = map (left_database kept) cut.databases;
  session = 1;
  sessions = [];
  closed = false;
}

-- ---- lists

zip-mapped : {A B : Type 0} (R : A → B → Type 0) (f : A → B) (xs : List A) → AllByRecursion (λ x. R x (f x)) xs → AllZip R xs (map f xs)
zip-mapped R f [] all = tt
zip-mapped R f (x ∷ xs) all = (all.0, zip-mapped R f xs all.1)

all_three : {X : Type 0} (P Q R S : X → Type 0) → ((x : X) → P x → Q x → R x → S x) → (xs : List X) → AllByRecursion P xs → AllByRecursion Q xs → AllByRecursion R xs → AllByRecursion S xs
all_three P Q R S leads [] p q r = tt
all_three P Q R S leads (x ∷ xs) p q r = (leads x p.0 q.0 r.0, all_three P Q R S leads xs p.1 q.1 r.1)

-- ---- lines

writes-is : (s : Status) (last : Option Guid) (branch : Guid) → writes_on s last branch ≡ true → (s ≡ Online) × (last ≡ Some branch)
writes-is Online (Some last) branch is = (refl, ap (λ (g : Guid). Some g) (guid_is last branch is))
writes-is Online None branch is = absurd (cc)
writes-is (Standby file) last branch is = absurd (cc)
writes-is Down last branch is = absurd (cc)

is-writes : (s : Status) (last : Option Guid) (branch : Guid) → s ≡ Online → last ≡ Some branch → writes_on s last branch ≡ true
is-writes s last branch up is = ap (λ x. writes_on x last branch) up ∙ ap (λ x. writes_on Online x branch) is ∙ is_guid-refl branch

line-branch : (h : RecordLines) (g : Guid) → (line_on h g).branch ≡ g
line-branch [] g = refl
line-branch (line ∷ h) g = by (is_guid line.branch g) refl (line-branch h g)
  where
    by : (t : Bool) → is_guid line.branch g ≡ t → (line_on h g).branch ≡ g → (cond t line (line_on h g)).branch ≡ g
    by true is later = guid_is line.branch g is
    by false is later = later

module _ (f : RecordLine → RecordLine) (keeps : (line : RecordLine) → (f line).branch ≡ line.branch) where
  has-mapped : (h : RecordLines) (g : Guid) → has_record_line (map f h) g ≡ has_record_line h g
  has-mapped [] g = refl
  has-mapped (line ∷ h) g = ap (λ b. cond (is_guid b g) true (has_record_line (map f h) g)) (keeps line) ∙ ap (λ t. cond (is_guid line.branch g) true t) (has-mapped h g)

  on-mapped : (h : RecordLines) (g : Guid) → has_record_line h g ≡ true → line_on (map f h) g ≡ f (line_on h g)
  on-mapped [] g there = absurd (cc)
  on-mapped (line ∷ h) g there = ap (λ b. cond (is_guid b g) (f line) (line_on (map f h) g)) (keeps line) ∙ by (is_guid line.branch g) there (on-mapped h g)
    where
      by : (t : Bool) → cond t true (has_record_line h g) ≡ true → (has_record_line h g ≡ true → line_on (map f h) g ≡ f (line_on h g)) → cond t (f line) (line_on (map f h) g) ≡ f (cond t line (line_on h g))
      by true e later = refl
      by false e later = later e

-- ---- the world

module _ (before whole cut : World) (kept : Database → List Logged) (counter : ℕ) (is : IsWhole cut) (stays : AllByRecursion (λ (db : Database). db.status ≡ Online → MayStay before whole cut db (kept db)) cut.databases) where
  keeps-branch : (dbs : List Database) (line : RecordLine) → (left_line kept dbs line).branch ≡ line.branch
  keeps-branch [] line = refl
  keeps-branch (db ∷ dbs) line = by (writes_on db.status (last_branch db.path) line.branch) (keeps-branch dbs line)
    where
      by : (t : Bool) → (left_line kept dbs line).branch ≡ line.branch → (cond t (settled_line line (kept db)) (left_line kept dbs line)).branch ≡ line.branch
      by true later = refl
      by false later = later

  -- where no database writes, a line stays
  no-ones : (branch : Guid) (line : RecordLine) → line.branch ≡ branch → (dbs : List Database) → AllByRecursion (IsNoOnes branch) dbs → left_line kept dbs line ≡ line
  no-ones branch line same [] all = refl
  no-ones branch line same (db ∷ dbs) all = by (writes_on db.status (last_branch db.path) line.branch) refl (no-ones branch line same dbs all.1)
    where
      by : (t : Bool) → writes_on db.status (last_branch db.path) line.branch ≡ t → left_line kept dbs line ≡ line → cond t (settled_line line (kept db)) (left_line kept dbs line) ≡ line
      by true w later = let one = writes-is db.status (last_branch db.path) line.branch w in absurd (all.0 one.0 (one.1 ∙ ap (λ (g : Guid). Some g) same))
      by false w later = later

  -- where one writes, no other does
  each-its : (dbs : List Database) → AreDifferent dbs → AllByRecursion (λ (db : Database). (line : RecordLine) → writes_on db.status (last_branch db.path) line.branch ≡ true → left_line kept dbs line ≡ settled_line line (kept db)) dbs
  each-its [] different = tt
  each-its (d ∷ ds) different = (
    λ line w. ap (λ t. cond t (settled_line line (kept d)) (left_line kept ds line)) w,
    all_both (Differ d) (λ (db : Database). (line : RecordLine) → writes_on db.status (last_branch db.path) line.branch ≡ true → left_line kept ds line ≡ settled_line line (kept db))
        (λ (db : Database). (line : RecordLine) → writes_on db.status (last_branch db.path) line.branch ≡ true → left_line kept (d ∷ ds) line ≡ settled_line line (kept db)) (λ x apart later line w. by x apart later line w (writes_on d.status (last_branch d.path) line.branch) refl) ds
        different.0 (each-its ds different.1),
  )
    where
      by : (x : Database) → Differ d x → ((line : RecordLine) → writes_on x.status (last_branch x.path) line.branch ≡ true → left_line kept ds line ≡ settled_line line (kept x)) → (line : RecordLine) → writes_on x.status (last_branch x.path) line.branch ≡ true
          → (t : Bool) → writes_on d.status (last_branch d.path) line.branch ≡ t → cond t (settled_line line (kept d)) (left_line kept ds line) ≡ settled_line line (kept x)
      by x apart later line w true e =
          let first = writes-is d.status (last_branch d.path) line.branch e in
          let second = writes-is x.status (last_branch x.path) line.branch w in
          absurd (apart.branches first.0 second.0 (first.1 ∙ sym second.1))
      by x apart later line w false e = later line w

  -- each line is left as a crash may leave it
  some-inj : (a b : Guid) → Some a ≡ Some b → a ≡ b
  some-inj a b same = cc

  one-line : (line : RecordLine) → line_on cut.history line.branch ≡ line → RiseFrom 0 line.records → (dbs : List Database) → AllByRecursion (IsWholeDatabase cut) dbs
      → AllByRecursion (λ (db : Database). db.status ≡ Online → MayStay before whole cut db (kept db)) dbs → LineLeft line (left_line kept dbs line)
  one-line line own rise [] wholes stay = record { branch = refl; kept = line.records; lost = []; undoing = []; splits = sym (append-nil line.records); quiet = tt; is = sym (append-nil line.records); rises = rise; undoes = tt }
  one-line line own rise (db ∷ dbs) wholes stay = by (writes_on db.status (last_branch db.path) line.branch) refl (one-line line own rise dbs wholes.1 stay.1)
    where
      by : (t : Bool) → writes_on db.status (last_branch db.path) line.branch ≡ t → LineLeft line (left_line kept dbs line) → LineLeft line (cond t (settled_line line (kept db)) (left_line kept dbs line))
      by false w later = later
      by true w later =
          let one = writes-is db.status (last_branch db.path) line.branch w in
          let goes : MayGoOn cut.history db.path db.end = on before whole cut is.lines db wholes.0 one.0 (kept db) (stay.0 one.0) in
          let same : line_on cut.history goes.branch ≡ line = ap (line_on cut.history) (some-inj goes.branch line.branch (sym goes.last ∙ one.1)) ∙ own in
          subst (λ l. LineLeft l (settled_line l (kept db))) same (line-settled before whole cut is.lines db wholes.0 one.0 (kept db) (stay.0 one.0))

  lines-left : AllZip LineLeft cut.history (map (left_line kept cut.databases) cut.history)
  lines-left =
      zip-mapped LineLeft (left_line kept cut.databases) cut.history
      (all_both (λ (line : RecordLine). line_on cut.history line.branch ≡ line) (IsSoundLine cut) (λ (line : RecordLine). LineLeft line (left_line kept cut.databases line))
      (λ line own sound. one-line line own sound.rises cut.databases is.databases stays) cut.history (own-line cut.history is.once) is.lines)

  others-left : (branch : Guid) → AllByRecursion (IsNoOnes branch) cut.databases → line_on (map (left_line kept cut.databases) cut.history) branch ≡ line_on cut.history branch
  others-left branch none = by (has_record_line cut.history branch) refl
    where
      by : (t : Bool) → has_record_line cut.history branch ≡ t → line_on (map (left_line kept cut.databases) cut.history) branch ≡ line_on cut.history branch
      by true there =
          on-mapped (left_line kept cut.databases) (keeps-branch cut.databases) cut.history branch there
          ∙ no-ones branch (line_on cut.history branch) (line-branch cut.history branch) cut.databases none
      by false gone =
          line_on-none (map (left_line kept cut.databases) cut.history) branch (has-mapped (left_line kept cut.databases) (keeps-branch cut.databases) cut.history branch ∙ gone)
          ∙ sym (line_on-none cut.history branch gone)

  -- each database is left so, too
  abbrev Its : Database → Type 0
  Its db = (line : RecordLine) → writes_on db.status (last_branch db.path) line.branch ≡ true → left_line kept cut.databases line ≡ settled_line line (kept db)

  abbrev left : World
  left = left_world kept counter cut

  module _ (db : Database) (one : IsWholeDatabase cut db) (stay : db.status ≡ Online → MayStay before whole cut db (kept db))
      (its : (line : RecordLine) → writes_on db.status (last_branch db.path) line.branch ≡ true → left_line kept cut.databases line ≡ settled_line line (kept db)) where
    its-line : (up : db.status ≡ Online) (goes : MayGoOn cut.history db.path db.end)
        → (line_on left.history goes.branch).records ≡ below (end_behind (kept db)) (line_on cut.history goes.branch).records ++ numbered (end_behind (kept db)) (settle_said (pending (kept db)))
    its-line up goes =
        let branch : (line_on cut.history goes.branch).branch ≡ goes.branch = line-branch cut.history goes.branch in
        let writes : writes_on db.status (last_branch db.path) (line_on cut.history goes.branch).branch ≡ true =
        is-writes db.status (last_branch db.path) (line_on cut.history goes.branch).branch up (goes.last ∙ ap (λ (g : Guid). Some g) (sym branch)) in
        ap (λ (line : RecordLine). line.records)
        (on-mapped (left_line kept cut.databases) (keeps-branch cut.databases) cut.history goes.branch goes.there ∙ its (line_on cut.history goes.branch) writes)

    log-online : db.status ≡ Online → log_of left.history (behind_crash db (end_behind (settled (kept db)))) ≡ settled (kept db)
    unfolding log_of
    log-online up = log-settled before whole cut is.lines db one up (kept db) (stay up) left.history lines-left (its-line up (on before whole cut is.lines db one up (kept db) (stay up)))

    status-left : (s : Status) → db.status ≡ s → StatusLeft s before whole cut left (open_begins before db) db (behind_crash db (left_end s db.end (kept db)))
    unfolding log_of
    status-left Online up =
        let front : MayStay before whole cut db (kept db) = stay up in record {
          log = record { kept = kept db; lost = front.front.lost; splits = front.front.splits; of_open = front.front.of_open; quiet = front.front.quiet; loads = front.front.loads; is = log-online up };
          of_some = front.front.of_some;
          end = sym (ap end_behind (log-online up));
          goes_on = goes-settled before whole cut is.lines db one up (kept db) front left.history lines-left (its-line up (on before whole cut is.lines db one up (kept db) front));
          bound = front.bound;
          numbers = front.numbers;
        }
    status-left (Standby file) down = offline (λ up. let wrong : Standby file ≡ Online = sym down ∙ up in absurd (cc))
      where
        offline : (db.status ≡ Online → ⊥) → OfflineLeft cut left db (behind_crash db db.end)
        offline down = record { log = reads-left cut cut.history left.history is.lines lines-left db.path db.end (λ k pos lt. elim (one.held k pos lt) [ inl up ↦ absurd (down up.0) | inr passed ↦ passed ]); end = refl }
    status-left Down down = offline (λ up. let wrong : Down ≡ Online = sym down ∙ up in absurd (cc))
      where
        offline : (db.status ≡ Online → ⊥) → OfflineLeft cut left db (behind_crash db db.end)
        offline down = record { log = reads-left cut cut.history left.history is.lines lines-left db.path db.end (λ k pos lt. elim (one.held k pos lt) [ inl up ↦ absurd (down up.0) | inr passed ↦ passed ]); end = refl }

    database-left : DatabaseLeft before whole cut left db (left_database kept db)
    database-left = record { same = refl; log = status-left db.status refl }

    log-left : db.status ≡ Online → log_of left.history (left_database kept db) ≡ settled (kept db)
    log-left up = ap (λ s. log_of left.history (behind_crash db (left_end s db.end (kept db)))) up ∙ log-online up

  pub what-stays : cut.counter ≤ counter → counter ≤ cut.counter + 1024
      → (next : World) × WorldLeft before whole cut next × (next.counter ≡ counter) × AllZip (λ (old new : Database). old.status ≡ Online → log_of next.history new ≡ settled (kept old)) cut.databases next.databases
  what-stays no_less no_more = (
    left,
    record {
      instance = refl;
      no_less = no_less;
      no_more = no_more;
      lines = lines-left;
      others = others-left;
      databases = zip-mapped (DatabaseLeft before whole cut left) (left_database kept) cut.databases
          (all_three (IsWholeDatabase cut) (λ (db : Database). db.status ≡ Online → MayStay before whole cut db (kept db)) Its (λ (db : Database). DatabaseLeft before whole cut left db (left_database kept db)) database-left cut.databases is.databases stays
          (each-its cut.databases is.different));
      media = refl;
      standbys = refl;
      backups = refl;
      restores = refl;
      marks = refl;
      session = refl;
      sessions = refl;
      closed = refl;
    },
    refl,
    zip-mapped (λ (old new : Database). old.status ≡ Online → log_of left.history new ≡ settled (kept old)) (left_database kept) cut.databases
        (all_three (IsWholeDatabase cut) (λ (db : Database). db.status ≡ Online → MayStay before whole cut db (kept db)) Its (λ (db : Database). db.status ≡ Online → log_of left.history (left_database kept db) ≡ settled (kept db)) log-left cut.databases is.databases stays
        (each-its cut.databases is.different)),
  )
