-- A hosted database is brought up of a set on a medium, and the world's with it.
use Rattle.std.proofs.Common.{◌≡◌, ◌≤◌, ◌<◌, ◌+◌, ◌∙◌, ℕ, true, List, [], ◌∷◌, ◌++◌, map, length, None, Some, inl, inr, refl, sym, ap, subst, arith}
use Rattle.std.specs.Prelude.{set, slice_get}
use Rattle.std.specs.List.{AllByRecursion, position}
use Rattle.std.proofs.lemmas.List.{length-append}
use Rattle.bk_archive.specs.Media.{IsMediumFile, KeepsMedia}
use Rattle.bk_archive.specs.MediaLaws.{SameFiles, media-in}
use Rattle.bk_hosting.specs.ArrivingSets.{arriving_of, pages_of}
use Rattle.bk_body.specs.Body.{Body}
use Rattle.bk_body.specs.Conditions.{IsBody}
use Rattle.bk_body.specs.Slots.{holds}
use Rattle.bk_bytes.specs.Codec.{IsString}
use Rattle.bk_carried.specs.Arrived.{MayName, arrived, known_of}
use Rattle.bk_carried.specs.Carried.{Carries, given}
use Rattle.bk_device.specs.Calls.{contents}
use Rattle.bk_device.specs.Disk.{Disk, Files}
use Rattle.bk_device.specs.Effects.{Effect}
use Rattle.bk_facts.specs.declared.facts.DataFile.{DataFile}
use Rattle.bk_fields.specs.Guids.{IsGuid}
use Rattle.bk_header.specs.Conditions.{IsHeader}
use Rattle.bk_hosted.specs.Hosted.{Hosted, Hosts, names, restoring, set_log}
use Rattle.bk_hosting.specs.Bringing.{ComesUp, IsUpAs}
use Rattle.bk_hosting.specs.Hosting.{IsHosting, LeavesEither}
use Rattle.bk_ids.specs.declared.guid.Guid.{Guid}
use Rattle.bk_ids.specs.declared.record.Body.TheVariants.{Recovery as RecoveryBody}
use Rattle.bk_ids.specs.declared.record.Rec.{Rec}
use Rattle.bk_known.specs.declared.known.Known.{Known}
use Rattle.bk_known.specs.Known.{KeepsKnown}
use Rattle.bk_machine.specs.Acts.{Recovery, done_all}
use Rattle.bk_machine.specs.Checks.{most_branches}
use Rattle.bk_machine.specs.Sound.{IsSound}
use Rattle.bk_machine.specs.World.{Database, World}
use Rattle.bk_machine.specs.Writes.{ActsWrite}
use Rattle.bk_machine.specs.statements.Restore.{is_online}
use Rattle.bk_paths.specs.Paths.{kept_from}
use Rattle.bk_points.specs.declared.points.Points.{Points}
use Rattle.bk_points.specs.Points.{points_bytes}
use Rattle.bk_stores.specs.Recovering.{EndsWith, Makes}
use Rattle.bk_carried.specs.Restored.{SufficesTold}
use Rattle.bk_hosting.specs.RestoringArriving.{Kept as KeptArriving}
use Rattle.bk_shown.specs.Shown.{IsNext}
use Rattle.bk_store.specs.Told.{Told, data_file, files_of}
use Rattle.bk_stores.specs.Beside.{ShareNoFile}
use Rattle.bk_stores.specs.Stores.{IsOurs as IsOfStores}
use Rattle.bk_undo.specs.Spelled.{spelled}
use Rattle.bk_volume.specs.Media.{slot_at}
use Rattle.bk_volume.specs.Names.{medium_file}
use Rattle.bk_volume.specs.Stored.{IsOf, Stored}
use Rattle.bk_world.specs.declared.database.TableSpec.{TableSpec}
use Rattle.bk_world.specs.declared.header.Header.{Header}
use Rattle.bk_world.specs.Cut.{end_behind, settled}
use Rattle.bk_world.specs.Records.{Logged}
use Rattle.bk_engine.specs.ActLaws.{IsBehind, up-behind}
use Rattle.bk_engine.specs.Bringing.{CutsActs, IsSetOn, Laws, MayComeUp, MovesOnly, coming_up, files_on, known_on, last_said, points_at, recovery_of}
use Rattle.bk_engine.specs.BringingLaws.{hosted-none, known-is, last_record, parked-down, points-are, points-short, recovery-next, recovery-says, set-ends, up-hosts}
use Rattle.bk_engine.specs.GivenLaws.{pages-same, whole-set}
use Rattle.bk_engine.specs.CopiedLaws.{copied-set}
use Rattle.bk_engine.specs.PartLaws.{calm-beside, copied-beside, media-beside, world-crash, world-stands}
use Rattle.bk_engine.specs.Stands.{IsOurs, IsReady, Kept, StandsFor, own_in}
use Rattle.bk_engine.proofs.MovedSets.{moved-body, moved-carries}
use Rattle.bk_engine.proofs.Named.{found-at}

-- ---- the files of media

-- a set that was opened is there still where the files of media stay
pub set-stays : (files image : Files) (m : List ℕ) (stored : Stored) → IsMediumFile m → SameFiles files image → IsSetOn files m stored → IsSetOn image m stored
set-stays files image m stored at same set =
    let here : image m ≡ files m = subst (λ n. image n ≡ files n) (sym at.2) (same at.0 at.1) in
    record {
      body = set.body;
      position = set.position;
      there = subst (λ file. slot_at file set.position ≡ Some (holds set.body)) (sym here) set.there;
      is = subst (λ file. IsOf (contents file) set.body stored) (sym here) set.is;
    }

-- its path has room for the branch where a note has room for what is known behind it
pub room-left : (name : List ℕ) (header : Header) (tables : List TableSpec) (branch : Guid) (known : Known) → known ≡ known_on name header tables branch → KeepsKnown known → length header.path < most_branches
room-left name header tables branch known same keeps =
    let size : length (known_on name header tables branch).spec.path ≡ length header.path + 1 = length-append header.path _ in
    let short : length (known_on name header tables branch).spec.path ≤ 64 = subst (λ (k : Known). length k.spec.path ≤ 64) same keeps.path in
    omega (arith, size, short)

-- ---- what is brought up

-- What is called with these values brings a database up, and with it the world's.
pub record IsBrought (a : Disk) (e : Kept) (w : World) (is : StandsFor a e w) (name m : List ℕ) (stored : Stored) (header : Header) (branch : Guid) (last i : ℕ) (files : List DataFile) (checkpoint : ℕ) (known : Known) (points : Points) : Type 0 where
  pub told : Told
  pub final : Logged
  pub new : Hosted
  pub comes : ComesUp a e.hosting is.hosted i m stored files checkpoint known points (record { lsn = last; begin = 0; body = RecoveryBody branch }) told final
  pub up : IsUpAs told final points new
  pub behind : IsBehind w (done_all w (coming_up w name header branch)) 1
  pub hosts : Hosts (done_all w (coming_up w name header branch)) (set is.hosted i new)
  pub sound : IsSound (done_all w (coming_up w name header branch))
  pub media : (image : Files) → KeepsMedia w None image → KeepsMedia (done_all w (coming_up w name header branch)) None image

-- a crash leaves the world before, or the one behind
pub brought-crash : (a b : Disk) (e : Kept) (w : World) (is : StandsFor a e w) (name m : List ℕ) (stored : Stored) (header : Header) (branch : Guid) (last i : ℕ) (files : List DataFile) (checkpoint : ℕ) (known : Known) (points : Points) → (it : IsBrought a e w is name m stored header branch last i files checkpoint known points)
    → IsReady e → e.drawn + 1 ≤ (own_in e).counter → Effect IsOfStores (LeavesEither (own_in e) is.hosted (set is.hosted i it.new)) a b → Effect IsOurs (CutsActs w (coming_up w name header branch)) a b
brought-crash a b e w is name m stored header branch last i files checkpoint known points it ready reserved effect =
    world-crash a b e w (done_all w (coming_up w name header branch)) 1 (set is.hosted i it.new) ready is it.behind reserved it.hosts (it.media a.files is.media) (λ image left. left) effect

-- and the one behind stands then
pub brought-stands : {P : Files → Type 0} (a b : Disk) (e then : Kept) (w : World) (is : StandsFor a e w) (name m : List ℕ) (stored : Stored) (header : Header) (branch : Guid) (last i : ℕ) (files : List DataFile) (checkpoint : ℕ) (known : Known) (points : Points) → (it : IsBrought a e w is name m stored header branch last i files checkpoint known points)
    → IsHosting b then.hosting (set is.hosted i it.new) → (own_in then).number ≡ (own_in e).number → then.drawn ≡ e.drawn + 1 → then.session ≡ e.session → then.sessions ≡ e.sessions → Effect IsOfStores P a b → StandsFor b then (done_all w (coming_up w name header branch))
brought-stands a b e then w is name m stored header branch last i files checkpoint known points it hosting number drawn session sessions effect =
    world-stands a b e then w (done_all w (coming_up w name header branch)) 1 (set is.hosted i it.new) is it.behind it.sound it.hosts hosting number drawn session sessions
    (it.media b.files (media-in w None a.files b.files (media-beside effect) is.media)) (calm-beside effect is.calm) (copied-set b is.hosted i it.new it.up.runs (copied-beside is.hosted effect is.copied))

module _ (laws : Laws) (a : Disk) (e : Kept) (w : World) (name m : List ℕ) (stored : Stored) (header : Header) (branch : Guid) (last i : ℕ) (is : StandsFor a e w) (at : IsMediumFile m) (opened : IsSetOn a.files m stored)
    (moves : MovesOnly stored.header header) (is_header : IsHeader header) (may : MayComeUp w name header branch last) (place : position (names name) is.hosted ≡ Some i) (named : IsString 1 64 name) (guid : IsGuid branch)
    (room : length header.path < most_branches) where
  abbrev rs : List Logged
  rs = set_log w header

  abbrev r : Recovery
  r = recovery_of w header branch

  abbrev note : List ℕ
  note = points_bytes (points_at header)

  -- ---- the set

  -- its body, with the header and the tables that were read
  abbrev body : Body
  body = record { header = stored.header; tables = stored.tables; extents = opened.body.extents; log = opened.body.log }

  body-same : opened.body ≡ body
  body-same = λ k. record { header = sym opened.is.header k; tables = sym opened.is.tables k; extents = opened.body.extents; log = opened.body.log }

  is-of : IsOf (contents (a.files m)) body stored
  is-of = subst (λ (b : Body). IsOf (contents (a.files m)) b stored) body-same opened.is

  there : slot_at (a.files (medium_file at.0)) opened.position ≡ Some (holds body)
  there = subst (λ (n : List ℕ). slot_at (a.files n) opened.position ≡ Some (holds body)) at.2 (subst (λ (b : Body). slot_at (a.files m) opened.position ≡ Some (holds b)) body-same opened.there)

  -- ---- the set under the header by which it is restored

  abbrev moved : Body
  moved = record body { header = header }

  moved-is : IsBody moved
  moved-is = moved-body body header moves is_header is-of.is_body

  carries : Carries w.history moved
  carries = moved-carries w.history body header moves (is.media.carried at.0 opened.position body at.1 there)

  first-is : header.first ≡ stored.header.first
  first-is = ap (λ (h : Header). h.first) moves.is

  ends : end_behind rs ≡ header.last
  ends = set-ends w name header may.sound

  -- ---- the database that it makes

  abbrev told : Told
  told = arrived w name header r note

  -- the record that names the branch, and how it is spelled
  abbrev final : Logged
  final = last_record last branch

  abbrev spelled_final : Rec
  spelled_final = record { lsn = last; begin = 0; body = RecoveryBody branch }

  abbrev new : Hosted
  new = restoring rs name header r

  abbrev known_new : Known
  known_new = known_on name header stored.tables branch

  may-name : MayName name header r note
  may-name = record { named = named; branch = guid; at_end = refl; room = room; short = points-short header is_header }

  abbrev held : List Rec
  held = kept_from header.first (map spelled rs)

  makes : (db : ℕ) → Makes (contents (a.files m)) stored (files_on header) db header.checkpoint note known_new told
  makes db = record {
    body = body;
    records = held;
    is = is-of;
    whole = whole-set moved is_header.files.numbered (laws.listed moved moved-is carries.there);
    log = carries.log;
    suffices = suffices;
  }
    where
      arriving : KeptArriving
      arriving = arriving_of (files_on header) db stored.header.first

      carried : SufficesTold arriving header.checkpoint note (given moved) held (known_of told.spec moved) told
      carried = laws.suffices w moved name r note arriving held carries may.sound moved-is may-name (record { files = refl; kept = sym first-is }) carries.log

      suffices : SufficesTold arriving header.checkpoint note (pages_of body) held known_new told
      suffices = subst (λ (k : Known). SufficesTold arriving header.checkpoint note (pages_of moved) held k told) (sym (known-is w name branch note moved may.sound))
          (subst (λ (pages : ℕ × ℕ → List ℕ). SufficesTold arriving header.checkpoint note pages held (known_of told.spec moved) told) (pages-same moved) carried)

  last-is : last_record (last_said w header) branch ≡ final
  last-is = ap (λ (n : ℕ). last_record n branch) (sym may.last_is)

  ends-with : EndsWith told final spelled_final
  ends-with = record {
    next = subst (IsNext (files_of told) (settled rs)) last-is (recovery-next (files_of told) rs header.last branch ends (let few = may.sound.numbers in omega (arith, few)));
    spelled_is = refl;
  }

  -- ---- it comes up

  hosted : (h : Hosted) × (slice_get is.hosted i ≡ Some h)
  hosted = found-at name is.hosted i place

  comes : ComesUp a e.hosting is.hosted i m stored (files_on header) header.checkpoint known_new (points_at header) spelled_final told final
  comes = record {
    parked = hosted.0;
    there = hosted.1;
    down = parked-down w name header may.sound is.hosted i hosted.0 is.hosts place hosted.1 may.parked;
    none = hosted-none (files_on header) is.hosted (subst (λ (dbs : List Database). AllByRecursion (λ (db : Database). is_online db.status ≡ true → ShareNoFile (files_on header) (map data_file db.files)) dbs) is.hosts.same may.none);
    makes = makes e.hosting.stores.master.record.next;
    ends = ends-with;
  }

  up : IsUpAs told final (points_at header) new
  up = record {
    spec = refl;
    records = ap (λ (l : Logged). settled rs ++ l ∷ []) (sym last-is) ∙ recovery-says rs header.last branch ends;
    points_are = points-are header rs is_header.files.some may.sound.model;
    none_next = refl;
    none_kept = refl;
    up = refl;
    runs = refl;
    idle = refl;
  }

  hosts : Hosts (done_all w (coming_up w name header branch)) (set is.hosted i new)
  hosts = up-hosts w name header may.sound is.hosted i hosted.0 is.hosts place hosted.1 may.parked laws.brings branch is.sound may.may

  -- neither act writes to a medium
  writes-none : (path : List ℕ) → ActsWrite (coming_up w name header branch) path → ⊥
  writes-none path writes = elim writes [ inl first ↦ first | inr rest ↦ elim rest [ inl second ↦ second | inr none ↦ none ] ]

  by-set : IsBrought a e w is name m stored header branch last i (files_on header) header.checkpoint known_new (points_at header)
  by-set = record {
    told = told;
    final = final;
    new = new;
    comes = comes;
    up = up;
    behind = up-behind w name header r may.may;
    hosts = hosts;
    sound = laws.sound w (coming_up w name header branch) is.sound may.may;
    media = λ image media. laws.media w (coming_up w name header branch) None image is.sound may.may writes-none media;
  }

  -- also with values that are what the header says
  pub brought : (files : List DataFile) (checkpoint : ℕ) (known : Known) (points : Points) → files ≡ files_on header → checkpoint ≡ header.checkpoint → known ≡ known_on name header stored.tables branch → points ≡ points_at header
      → IsBrought a e w is name m stored header branch last i files checkpoint known points
  brought files checkpoint known points one two three four =
      let Is : List DataFile → ℕ → Known → Points → Type 0 = IsBrought a e w is name m stored header branch last i in
      subst (λ (fs : List DataFile). Is fs checkpoint known points) (sym one)
      (subst (λ (n : ℕ). Is (files_on header) n known points) (sym two)
      (subst (λ (k : Known). Is (files_on header) header.checkpoint k points) (sym three) (subst (Is (files_on header) header.checkpoint known_new) (sym four) by-set)))
