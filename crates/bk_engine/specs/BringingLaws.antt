-- What a set makes of a database is what the world has of it behind the restore.
use Rattle.std.proofs.Common.{◌≡◌, ◌≤◌, ◌<◌, ℕ, zero, suc, ◌+◌, ◌^◌, Bool, true, false, cond, List, [], ◌∷◌, ◌++◌, length, map, reverse, Option, Some, None, refl, sym, ap, subst, ◌∙◌, append_assoc, arith, set-set}
use Rattle.std.specs.Prelude.{filter, if◌then◌else◌, nat_le, not, set, slice_get, ◌==◌}
use Rattle.std.specs.List.{AllByRecursion, position}
use Rattle.std.proofs.lemmas.Bool.{and_from, eq-eqb, le-leb}
use Rattle.std.proofs.lemmas.List.{length-reverse}
use Rattle.std.proofs.lemmas.Option.{same_Some}
use Rattle.bk_body.specs.Body.{Body}
use Rattle.bk_carried.specs.Arrived.{arrived, known_of}
use Rattle.bk_header.specs.Conditions.{AreNumbered, IsHeader}
use Rattle.bk_hosted.specs.Hosted.{Hosted, Hosts, IsHosted, database_of, has_checkpoint, is_up, names, online_points, parking, restored_units, restoring, set_log}
use Rattle.bk_hosted.specs.PlaceLaws.{all-set, named-there, same-place}
use Rattle.bk_hosted.specs.PointLaws.{has-below}
use Rattle.bk_hosting.specs.Bringing.{HaveNone}
use Rattle.bk_hosting.specs.Making.{kept_files}
use Rattle.bk_ids.specs.declared.guid.Guid.{Guid}
use Rattle.bk_ids.specs.declared.path.Branch.{Branch}
use Rattle.bk_ids.specs.declared.unit.UnitId.TheVariants.{File}
use Rattle.bk_facts.specs.declared.facts.DataFile.{DataFile}
use Rattle.bk_machine.specs.Acts.{Recovery, base_with, common_base, done_all, file_units, is_simple, online_units, taken_over, units_in}
use Rattle.bk_machine.specs.MayDo.{MayDoAll}
use Rattle.bk_machine.specs.Sound.{IsSound, IsSoundSet}
use Rattle.bk_machine.specs.World.{Database, World, database_named, log_of}
use Rattle.bk_machine.specs.statements.Restore.{base_of, is_online}
use Rattle.bk_points.specs.Points.{IsBase, IsPoints, IsUnit, points_bytes}
use Rattle.bk_points.specs.PointsLaws.{points_fit}
use Rattle.bk_shown.specs.Shown.{IsNext}
use Rattle.bk_store.specs.Told.{data_file}
use Rattle.bk_side.specs.Names.{name_of}
use Rattle.bk_stores.specs.Beside.{ShareNoFile}
use Rattle.bk_stores.specs.ListLaws.{got-inside, got-none, got-set}
use Rattle.bk_world.specs.declared.database.Base.{Base}
use Rattle.bk_world.specs.declared.database.FileSpec.{FileSpec}
use Rattle.bk_world.specs.declared.database.State.TheVariants as state
use Rattle.bk_world.specs.declared.database.Unit.{Unit as RestoreUnit}
use Rattle.bk_world.specs.declared.header.Header.{Header}
use Rattle.bk_world.specs.declared.header.HeaderFile.{HeaderFile}
use Rattle.bk_world.specs.CrashLaws.{counts-length}
use Rattle.bk_world.specs.Cut.{end_behind, settled}
use Rattle.bk_world.specs.History.{is_guid}
use Rattle.bk_world.specs.Pending.{pending}
use Rattle.bk_world.specs.ReadingLaws.{numbered-append}
use Rattle.bk_world.specs.Records.{Logged, Said, more, numbered, recovered}
use Rattle.bk_world.specs.SameLaws.{is_guid-refl}
use Rattle.bk_world.specs.Says.{alone, settle_said}
use Rattle.bk_world.specs.SettledLaws.{end-more, length-undoing}
use Rattle.bk_world.specs.Telling.{model}
use Rattle.bk_engine.specs.Bringing.{BringsUp, coming_up, known_on, points_at, recovery_of, spec_on}

-- ---- points

base-self : (base : Option Base) (n : ℕ) → base_with (state.Restoring base n) base ≡ base
base-self None n = refl
base-self (Some b) n = ap (λ (t : Bool). chosen t) (and_from (is_guid b.set b.set) (b.lsn == b.lsn) (is_guid-refl b.set) (eq-eqb b.lsn b.lsn refl))
  where
    chosen : Bool → Option Base
    chosen t = if t then Some b else None

-- a base that all units have is the common one
common : (base : Option Base) (n : ℕ) (f : HeaderFile) (files : List HeaderFile) → common_base (units_in (state.Restoring base n) (file_units state.Bad (f ∷ files))) ≡ base
common base n f [] = refl
common base n f (g ∷ files) = ap (base_with (state.Restoring base n)) (common base n g files) ∙ base-self base n

base-is : (header : Header) → 0 < length header.files → common_base (restored_units header) ≡ base_of header
base-is header some = by header.files some
  where
    by : (files : List HeaderFile) → 0 < length files → common_base (units_in (state.Restoring (base_of header) header.last) (file_units state.Bad files)) ≡ base_of header
    by [] some = absurd (omega (arith, some))
    by (f ∷ files) some = common (base_of header) header.last f files

units-are : (base : Option Base) (n : ℕ) (files : List HeaderFile) → online_units (units_in (state.Restoring base n) (file_units state.Bad files)) ≡ file_units state.Online files
units-are base n [] = refl
units-are base n (f ∷ files) = ap (λ (us : List RestoreUnit). (record { id = File f.spec.number; state = state.Online }) ∷ us) (units-are base n files)

-- they are those of a database that went online at the end of the set
pub points-are : (header : Header) (rs : List Logged) → 0 < length header.files → header.model ≡ model rs → points_at header ≡ online_points header rs
points-are header rs some same = λ i. record (points_at header) {
  chain = not (is_simple (same i));
  base = sym (base-is header some) i;
  units = sym (units-are (base_of header) header.last header.files) i;
}

-- ---- and have a spelling with room in a note

units-spelled : (n : ℕ) (files : List HeaderFile) → AreNumbered n files → n + length files ≤ 2 ^ 16 → AllByRecursion IsUnit (file_units state.Online files)
units-spelled n [] numbers few = tt
units-spelled n (f ∷ files) numbers few = (record { id = omega (arith, numbers.0, few); state = tt }, units-spelled (n + 1) files numbers.1 (omega (arith, few)))

units-count : (files : List HeaderFile) → length (file_units state.Online files) ≡ length files
units-count [] = refl
units-count (f ∷ files) = ap suc (units-count files)

points-spelled : (header : Header) → IsHeader header → IsPoints (points_at header)
points-spelled header is = record {
  log = record { next_checkpoint = omega arith; next_kept = omega arith; archive = is.last; kept = is.last; checkpoint = is.last };
  base = by header.copy_only;
  status = tt;
  units = (omega (arith, units-count header.files, is.files.few), units-spelled 1 header.files is.files.numbered (omega (arith, is.files.few)));
}
  where
    by : (t : Bool) → IsBase (if t then None else Some (record { set = header.set; lsn = header.checkpoint }))
    by true = tt
    by false = (is.set, is.checkpoint)

pub points-short : (header : Header) → IsHeader header → length (points_bytes (points_at header)) ≤ 12288
points-short header is = points_fit (points_at header) (points-spelled header is) (record { status = tt; units = omega (arith, units-count header.files, is.files.few) })

-- ---- the description

path-kept : (path : List Branch) (n : ℕ) → AllByRecursion (λ (b : Branch). b.start < n) path → filter (λ (b : Branch). nat_le b.start n) path ≡ path
path-kept [] n below = refl
path-kept (b ∷ path) n below =
    let here : nat_le b.start n ≡ true = le-leb b.start n (omega (arith, below.0)) in
    rw here (ap (λ (bs : List Branch). b ∷ bs) (path-kept path n below.1))

-- what the set says of it is what is known of the database that it makes
pub known-is : (w : World) (name : List ℕ) (branch : Guid) (note : List ℕ) (body : Body) → IsSoundSet w body.header
    → known_on name body.header body.tables branch ≡ known_of (arrived w name body.header (recovery_of w body.header branch) note).spec body
known-is w name branch note body set = λ i. record {
  spec = record (spec_on name body.header branch) { path = sym (path-kept body.header.path body.header.last set.starts) i ++ (record { guid = branch; start = body.header.last }) ∷ [] };
  as_of = record { from = body.header.last; tables = body.tables; model = body.header.model; time = body.header.finish };
}

-- ---- what the recovery says

settle-size : (rs : List Logged) → length (settle_said (pending rs)) ≡ length (pending rs)
settle-size rs = length-undoing (reverse (pending rs)) ∙ length-reverse (pending rs)

-- its last record
abbrev pub last_record : ℕ → Guid → Logged
last_record n branch = record { lsn = n; begin = 0; deed = recovered branch }

pub recovery-says : (rs : List Logged) (n : ℕ) (branch : Guid) → end_behind rs ≡ n → settled rs ++ last_record (n + length (pending rs)) branch ∷ [] ≡ more rs n (settle_said (pending rs) ++ alone (recovered branch))
unfolding settled
recovery-says rs n branch ends =
    let us : List Said = settle_said (pending rs) in
    ap (λ (k : ℕ). (rs ++ numbered k us) ++ last_record (n + length (pending rs)) branch ∷ []) ends
    ∙ ap (λ (k : ℕ). (rs ++ numbered n us) ++ last_record (n + k) branch ∷ []) (sym (settle-size rs))
    ∙ append_assoc rs (numbered n us) (last_record (n + length us) branch ∷ [])
    ∙ ap (λ (xs : List Logged). rs ++ xs) (sym (numbered-append n us (alone (recovered branch))))

settled-end : (rs : List Logged) → end_behind (settled rs) ≡ end_behind rs + length (pending rs)
unfolding settled
settled-end rs = end-more rs (end_behind rs) (settle_said (pending rs)) ∙ ap (λ (n : ℕ). end_behind rs + n) (settle-size rs)

pub recovery-next : (files : List FileSpec) (rs : List Logged) (n : ℕ) (branch : Guid) → end_behind rs ≡ n → n + length (pending rs) < 2 ^ 62 → IsNext files (settled rs) (last_record (n + length (pending rs)) branch)
recovery-next files rs n branch ends low = record { number = omega (arith, settled-end rs, ends); low = low; may = tt; placed = tt }

-- ---- files

-- where no database of the world that can be used has one, no hosted one has
pub hosted-none : (files : List DataFile) (hosted : List Hosted) → AllByRecursion (λ (db : Database). is_online db.status ≡ true → ShareNoFile files (map data_file db.files)) (map database_of hosted) → HaveNone hosted files
hosted-none files [] none = tt
hosted-none files (h ∷ hosted) none = (by (is_up h) refl none.0, hosted-none files hosted none.1)
  where
    by : (up : Bool) → is_up h ≡ up → (is_up h ≡ true → ShareNoFile files (map data_file h.spec.storage.files)) → ShareNoFile files (kept_files up h)
    by true is shares = shares is
    by false is shares = λ name own other. nothing other.0 name other.1
      where
        nothing : (file : ℕ) (name : List ℕ) → name_of [] file ≡ Some name → ⊥
        nothing zero name is = absurd cc
        nothing (suc i) name is = got-none i name is

-- ---- the world

put-same : (hosted : List Hosted) (i : ℕ) (h put : Hosted) → slice_get hosted i ≡ Some h → database_of put ≡ database_of h → map database_of hosted ≡ map database_of (set hosted i put)
put-same [] i h put there same = absurd (got-none i h there)
put-same (x ∷ hosted) zero h put there same = ap (λ (db : Database). db ∷ map database_of hosted) (ap database_of (same_Some x h there) ∙ sym same)
put-same (x ∷ hosted) (suc i) h put there same = ap (λ (dbs : List Database). database_of x ∷ dbs) (put-same hosted i h put there same)

module _ (w : World) (name : List ℕ) (header : Header) (is_set : IsSoundSet w header) where
  abbrev rs : List Logged
  rs = set_log w header

  abbrev put : Hosted
  put = parking rs name header

  pub set-ends : end_behind rs ≡ header.last
  set-ends = sym (counts-length 1 rs header.last is_set.log.counts)

  no-checkpoint : has_checkpoint 0 rs ≡ false
  no-checkpoint = has-below 0 1 header.last rs is_set.log.counts (omega arith)

  -- with this end, and with these points
  abbrev taken : ℕ → Bool → Database
  taken end t = record (taken_over name header) { end = end; kept = cond t 0 header.last; checkpoint = cond t 0 header.last }

  put-is : database_of put ≡ taken_over name header
  put-is = ap (λ n. taken n (has_checkpoint 0 rs)) set-ends ∙ ap (taken header.last) no-checkpoint

  set-read : log_of w.history (taken_over name header) ≡ rs
  unfolding log_of
  set-read = refl

  module _ (hosted : List Hosted) (i : ℕ) (h : Hosted) (hosts : Hosts w hosted) (place : position (names name) hosted ≡ Some i) (there : slice_get hosted i ≡ Some h) (parked : database_named w.databases name ≡ Some (taken_over name header)) where
    is-taken : database_of h ≡ taken_over name header
    is-taken = same_Some (database_of h) (taken_over name header) (sym (named-there w name hosted i h hosts place there).0 ∙ parked)

    -- it can't be used
    pub parked-down : is_up h ≡ false
    parked-down = ap (λ (db : Database). is_online db.status) is-taken

    -- whatever its points, it is hosted as the set took its place
    pub parked-hosts : Hosts w (set hosted i put)
    parked-hosts = record {
      same = hosts.same ∙ put-same hosted i h put there (put-is ∙ sym is-taken);
      each = all-set (IsHosted w.history) hosted i h put (got-inside hosted i h there) (λ _. record { log = ap (log_of w.history) put-is ∙ set-read }) hosts.each;
    }

    -- and so it comes up
    pub up-hosts : BringsUp → (branch : Guid) → IsSound w → MayDoAll w (coming_up w name header branch) → Hosts (done_all w (coming_up w name header branch)) (set hosted i (restoring rs name header (recovery_of w header branch)))
    up-hosts brings branch sound may =
        let r : Recovery = recovery_of w header branch in
        let called : put.spec.name ≡ h.spec.name = sym (ap (λ (db : Database). db.name) is-taken) in
        let up : Hosts (done_all w (coming_up w name header branch)) (set (set hosted i put) i (restoring rs name header r)) =
        brings w name header r (set hosted i put) i sound parked-hosts is_set may refl (same-place name hosted i h put called place there) (got-set hosted i put (got-inside hosted i h there)) in
        subst (λ (hs : List Hosted). Hosts (done_all w (coming_up w name header branch)) hs) (set-set hosted i put (restoring rs name header r)) up
