-- A whole restore that was planned by a set of its medium.
use Rattle.std.proofs.Common.{◌≡◌, inl, inr, ℕ, List, [], ◌∷◌, ◌++◌, Option, Ok, Err, None, Some, refl, sym, ◌∙◌, ap, subst}
use Rattle.std.specs.Prelude.{Result, IfOk, IsErrOf, OnErr}
use Rattle.std.specs.List.{AllByRecursion}
use Rattle.bk_archive.specs.Opened.{IsOpened}
use Rattle.bk_archive.specs.Media.{KeepsMedia}
use Rattle.bk_archive.specs.MediaLaws.{media-in}
use Rattle.bk_body.specs.Body.{Body}
use Rattle.bk_body.specs.Slots.{holds}
use Rattle.bk_device.specs.Calls.{ChangesNothing, contents}
use Rattle.bk_device.specs.Compose.{effect_then}
use Rattle.bk_device.specs.Disk.{Disk, Files, IsLawful}
use Rattle.bk_device.specs.Effects.{Effect}
use Rattle.bk_device.specs.Laws.{effect_after_nothing, nothing_then}
use Rattle.bk_device.specs.declared.trouble.Trouble.{Trouble}
use Rattle.bk_engine.specs.Bringing.{IsSetOn, MovesOnly}
use Rattle.bk_engine.specs.Stands.{IsOurs, Kept, StandsFor}
use Rattle.bk_engine.specs.Touched.{NoMedium, TouchesOnly}
use Rattle.bk_engine.specs.TouchLaws.{wider-touch}
use Rattle.bk_engine.specs.ViewLaws.{remembers}
use Rattle.bk_ids.specs.declared.guid.Guid.{Guid}
use Rattle.bk_ids.specs.declared.record.Rec.{Rec}
use Rattle.bk_items.specs.declared.item.ScriptEntry.{ScriptEntry}
use Rattle.bk_items.specs.declared.options.FileMove.{FileMove}
use Rattle.bk_items.specs.declared.options.RestoreOptions.{RestoreOptions}
use Rattle.bk_machine.specs.Acts.{Act, done_all, noted}
use Rattle.bk_machine.specs.Checks.{Checked}
use Rattle.bk_machine.specs.Machine.{May}
use Rattle.bk_machine.specs.MayDo.{MayDoAll}
use Rattle.bk_machine.specs.Outcome.{Outcome, refused}
use Rattle.bk_machine.specs.Sound.{IsSound}
use Rattle.bk_machine.specs.World.{World}
use Rattle.bk_machine.specs.declared.history_row.HistoryRow.TheVariants as history
use Rattle.bk_machine.specs.Writes.{ActsWrite, IsStill, IsTurn}
use Rattle.bk_machine.specs.statements.Restore.{disk_path, moved, moved_log, moved_path, set_at}
use Rattle.bk_media_plans.specs.declared.restore_plan.RestorePlan.{RestorePlan}
use Rattle.bk_media_plans.specs.declared.restore_plan.RestorePlan.TheVariants as restore
use Rattle.bk_media_plans.specs.Found.{FindsSet, Found}
use Rattle.bk_media_plans.specs.RestorePlans.{AreNotedRestore, AreOfRestore, KeepsBringing, KeepsRestore}
use Rattle.bk_plans.specs.declared.parts.Plan.TheVariants as plan
use Rattle.bk_record.specs.Log.{IsLog}
use Rattle.bk_restarts.specs.Crashes.{CutIn}
use Rattle.bk_volume.specs.Media.{slot_at}
use Rattle.bk_volume.specs.Names.{medium_file}
use Rattle.bk_volume.specs.Stored.{IsOf, Stored}
use Rattle.bk_world.specs.declared.database.FileSpec.{FileSpec}
use Rattle.bk_world.specs.declared.database.TableSpec.{TableSpec}
use Rattle.bk_world.specs.declared.header.Header.{Header}
use Rattle.bk_world.specs.declared.msdb.RestoreRow.{RestoreRow}
use Rattle.bk_world.specs.declared.reply.Reply.{Reply}
use Rattle.bk_world.specs.declared.reply.Reply.TheVariants as reply
use Rattle.bk_world.specs.declared.rule.Rule.{Rule}
use Rattle.bk_world.specs.Medium.{medium_at}
use Rattle.bk_executing.specs.Executing.{CutOff, Executed, Failed, Rests}
use Rattle.bk_executing.specs.Planned.{IsPlanned, IsRestorePlanned}
use Rattle.bk_executing.specs.Restoring.{found_of, found_under}
use Rattle.bk_executing.proofs.Planned.{Knows, stands-nothing, touches-nothing}

-- ---- one that is refused

-- one that is refused in every world by a rule is planned so
pub refused-always : (e : Kept) (s : ScriptEntry) (now : ℕ) (rule : Rule) → ((w : World) → May w s now (refused rule)) → IsPlanned e (λ w. Unit {0}) s now (plan.Refused rule)
refused-always e s now rule may = record { outcome = refused rule; replies = refl; may = λ w sound has known. may w; acts = λ w sound has known. refl }

-- its plan is to refuse it
pub refused-plan : (e : Kept) (Known : World → Type 0) (options : RestoreOptions) (found : Result Found Rule) (s : ScriptEntry) (now : ℕ) (rule : Rule) → IsRestorePlanned e Known options found s now (restore.Refused rule) → IsPlanned e Known s now (plan.Refused rule)
refused-plan e Known options found s now rule plans = record { outcome = plans.outcome; replies = plans.replies; may = plans.may; acts = plans.acts }

pub refused-knows : {tells : Type 0} (e : Kept) (a b : Disk) (Known : World → Type 0) (s : ScriptEntry) (now : ℕ) (rule : Rule) (outcome : Outcome) → (tells → IsLawful a) → (tells → ChangesNothing a b) → (tells → (w : World) → StandsFor a e w → Known w)
    → ((w : World) → IsSound w → May w s now outcome → MayDoAll w outcome.acts) → Knows tells e a b Known (plan.Refused rule) s now outcome
refused-knows e a b Known s now rule outcome lawful call known may = record { lawful = lawful; call = call; known = known; may = may; sets = λ w sound is are. tt }

-- ---- the set that was found

pub finds-set : (at : ℕ) (disk : Option (List ℕ)) (file : Option (List ℕ)) (set : Stored) (log : List ℕ) (w : World) → IsOpened w (disk_path disk) at file set → ((body : Body) → IsOf (contents file) body set → log ≡ body.log) → FindsSet at disk (Ok (found_of set log)) w
finds-set at disk file set log w is logs =
    let found : Header → Checked Header = λ header. Ok header in
    record {
      is = is.is ∙ ap found (sym is.opened.header);
      carries = record {
        body = is.body;
        is_body = is.opened.is_body;
        header_is = sym is.opened.header;
        tables_are = sym is.opened.tables;
        log_is = sym (logs is.body is.opened);
        carries = is.carries;
      };
    }

pub set-there : (path : List ℕ) (at : ℕ) (files : Files) (medium : List ℕ) (set : Stored) (w : World) → IsOpened w path at (files medium) set → IsSetOn files medium set
set-there path at files medium set w is = record { body = is.body; position = at; there = is.there; is = is.opened }

-- there is none to be found
pub finds-none : (at : ℕ) (disk : Option (List ℕ)) (rule : Rule) (w : World) → set_at at (medium_at w.media (disk_path disk)) ≡ Err rule → FindsSet at disk (Err rule) w
finds-none at disk rule w is = record { is = is; carries = tt }

-- what is read of it for a plan
abbrev pub parts : Header → List TableSpec → List ℕ → Found
parts header made log = record { header = header; tables = made; log = log }

-- what is planned by its parts as they are read is planned by the set
pub of-set : (e : Kept) (at : ℕ) (disk : Option (List ℕ)) (options : RestoreOptions) (s : ScriptEntry) (now : ℕ) (plan : RestorePlan) (header : Header) (made : List TableSpec) (log : List ℕ) (set : Stored) → header ≡ set.header → made ≡ set.tables
    → IsRestorePlanned e (FindsSet at disk (Ok (parts header made log))) options (Ok (parts header made log)) s now plan
    → IsRestorePlanned e (FindsSet at disk (Ok (found_of set log))) options (Ok (found_of set log)) s now plan
of-set e at disk options s now plan header made log set same_header same_made plans =
    let same : parts header made log ≡ found_of set log = λ i. record { header = same_header i; tables = same_made i; log = log } in
    subst (λ (one : Found). IsRestorePlanned e (FindsSet at disk (Ok one)) options (Ok one) s now plan) same plans

-- and what it finds is found in its parts
pub finds-parts : (at : ℕ) (disk : Option (List ℕ)) (w : World) (header : Header) (made : List TableSpec) (log : List ℕ) (set : Stored) → header ≡ set.header → made ≡ set.tables → FindsSet at disk (Ok (found_of set log)) w
    → FindsSet at disk (Ok (parts header made log)) w
finds-parts at disk w header made log set same_header same_made finds =
    let same : parts header made log ≡ found_of set log = λ i. record { header = same_header i; tables = same_made i; log = log } in
    subst (λ (one : Found). FindsSet at disk (Ok one) w) (sym same) finds

-- an error is the same one of results of another type
pub other-error : {A B E : Type 0} (e x : E) → IsErrOf {T = A} {E = E} (Err e) x → IsErrOf {T = B} {E = E} (Err e) x
other-error {B = B} {E = E} e x is =
    let same : e ≡ x = cc in
    let made : E → Result B E = λ y. Err y in
    ap made same

-- ---- what was found on the medium, once it was read

pub opened-there : (a b : Disk) (w : World) (path asked medium : List ℕ) (at chosen : ℕ) (set : Stored) → ChangesNothing a b → path ≡ asked → at ≡ chosen → medium ≡ medium_file path
    → (KeepsMedia w None a.files → IsOpened w path at (a.files (medium_file path)) set) → KeepsMedia w None b.files → IsOpened w asked chosen (b.files medium) set
opened-there a b w path asked medium at chosen set call same same_at named opened media =
    let then : IsOpened w path at (a.files (medium_file path)) set = opened (media-in w None b.files a.files (λ other are. sym (call.files (medium_file other))) media) in
    let there : b.files medium ≡ a.files (medium_file path) = call.files medium ∙ ap a.files named in
    let here : IsOpened w path at (b.files medium) set = subst (λ (file : Option (List ℕ)). IsOpened w path at file set) (sym there) then in
    subst (λ (n : ℕ). IsOpened w asked n (b.files medium) set) same_at (subst (λ (p : List ℕ). IsOpened w p at (b.files medium) set) same here)

pub none-there : (a b : Disk) (w : World) (path asked : List ℕ) (at chosen : ℕ) (rule : Rule) → ChangesNothing a b → path ≡ asked → at ≡ chosen
    → (KeepsMedia w None a.files → set_at at (medium_at w.media path) ≡ Err rule) → KeepsMedia w None b.files → set_at chosen (medium_at w.media asked) ≡ Err rule
none-there a b w path asked at chosen rule call same same_at none media =
    let here : set_at at (medium_at w.media path) ≡ Err rule = none (media-in w None b.files a.files (λ other are. sym (call.files (medium_file other))) media) in
    subst (λ (n : ℕ). set_at n (medium_at w.media asked) ≡ Err rule) same_at (subst (λ (p : List ℕ). set_at at (medium_at w.media p) ≡ Err rule) same here)

-- bytes that are whole records break off nowhere
pub never-bad : ((bytes : List ℕ) (records others : List Rec) (bad other : Option ℕ) → IsLog bytes records bad → IsLog bytes others other → (records ≡ others) × (bad ≡ other)) → (items log : List ℕ) (records others : List Rec) (place : ℕ) → items ≡ log
    → IsLog log records None → IsLog items others (Some place) → ⊥
never-bad one items log records others place same whole bad =
    let both = one log records others None (Some place) whole (subst (λ (bytes : List ℕ). IsLog bytes others (Some place)) same bad) in
    apart both.1
  where
    apart : None ≡ Some place → ⊥
    apart is = absurd (cc)

-- ---- a device that was read alone before

module _ {tells : Type 0} (e : Kept) (a b c : Disk) (s : ScriptEntry) (now : ℕ) (lawful : tells → IsLawful a) (call : tells → ChangesNothing a b) where
  stands-then : tells → (w : World) → StandsFor a e w → StandsFor b e w
  stands-then told w stands = stands-nothing a b e w (call told) stands

  after-executed : (new : Kept) (answer : Reply) → Executed tells e b s now answer new c → Executed tells e a s now answer new c
  after-executed new answer executed = record {
    outcome = executed.outcome;
    replies = executed.replies;
    may = λ told w stands. executed.may told w (stands-then told w stands);
    does = λ told w stands. executed.does told w (stands-then told w stands);
    crash = λ told w stands. effect_after_nothing (lawful told) (call told) (executed.crash told w (stands-then told w stands));
    still = λ told w stands still.
        let then = executed.still told w (stands-then told w stands) still in
        record { device = nothing_then (lawful told) (call told) then.device; own = then.own; drawn = then.drawn };
    spares = λ told w stands. effect_then (touches-nothing (call told)) (executed.spares told w (stands-then told w stands));
  }

  after-failed : Failed tells e b s now c → Failed tells e a s now c
  after-failed (inl nothing) = inl (λ told. nothing_then (lawful told) (call told) (nothing told))
  after-failed (inr cut) = inr (record {
    outcome = cut.outcome;
    may = λ told w stands. cut.may told w (stands-then told w stands);
    crash = λ told w stands. effect_after_nothing (lawful told) (call told) (cut.crash told w (stands-then told w stands));
    spares = λ told w stands. effect_then (touches-nothing (call told)) (cut.spares told w (stands-then told w stands));
  })

  pub all-executed : (new : Kept) (result : Result Reply Trouble) → IfOk result (λ answer. Executed tells e b s now answer new c) → IfOk result (λ answer. Executed tells e a s now answer new c)
  all-executed new (Ok answer) executed = after-executed new answer executed
  all-executed new (Err error) executed = tt

  pub all-failed : (result : Result Reply Trouble) → OnErr result (Failed tells e b s now c) → OnErr result (Failed tells e a s now c)
  all-failed (Ok answer) failed = tt
  all-failed (Err error) failed = after-failed failed

-- ---- the header by which it is brought up

-- what a plan keeps of it
pub kept-up : (options : RestoreOptions) (set : Found) (plan : RestorePlan) (name : List ℕ) (branch : Guid) (last : ℕ) (header : Header) (row : RestoreRow) → plan ≡ restore.BringsUp name branch last header row → KeepsRestore options (Ok set) plan
    → KeepsBringing options set header row
kept-up options set plan name branch last header row is keeps = subst (KeepsRestore options (Ok set)) is keeps

-- it is the set's, with files at other paths
pub moves-only : (moves : List FileMove) (read own header : Header) → read ≡ own → header ≡ moved moves read → MovesOnly own header
moves-only moves read own header same is =
    subst (λ (h : Header). MovesOnly h header) same (record { to = λ (f : FileSpec). moved_path moves f.name f.path; log_path = moved_log moves read; is = is })

-- ---- it brings a database up

-- A restore by a set that was opened on a medium, whose device was read alone till then.
module _ (tells : Type 0) (e new : Kept) (a b c : Disk) (at : ℕ) (disk : Option (List ℕ)) (medium : List ℕ) (set : Stored) (log : List ℕ) (s : ScriptEntry) (now : ℕ) (options : RestoreOptions) (name : List ℕ) (branch : Guid) (last : ℕ) (header : Header) (row : RestoreRow) where
  abbrev pub found : Result Found Rule
  found = Ok (found_of set log)

  -- the acts that bring it up, and its row behind them
  abbrev pub with_row : List Act → List Act
  with_row acts = acts ++ noted (history.Restore row) ∷ []

  abbrev pub Brings : (World → List Act → Type 0) → Type 0
  Brings Does = (w : World) (its : List ℕ) (acts : List Act) → StandsFor b e w → IsSetOn b.files medium set → AreOfRestore w (found_under header set its) name branch last acts → Does w (with_row acts)

  -- what is known where it was read
  pub record Reads : Type 0 where
    pub lawful : tells → IsLawful a
    pub call : tells → ChangesNothing a b
    pub opened : tells → (w : World) → StandsFor a e w → IsOpened w (disk_path disk) at (a.files medium) set
    pub logs : tells → (body : Body) → IsOf (contents (a.files medium)) body set → log ≡ body.log

  module _ (reads : Reads) (plans : IsRestorePlanned e (FindsSet at disk found) options found s now (restore.BringsUp name branch last header row)) where
    knows-set : tells → (w : World) → StandsFor a e w → FindsSet at disk found w
    knows-set told w stands = finds-set at disk (a.files medium) set log w (reads.opened told w stands) (reads.logs told)

    then-may : tells → (w : World) → StandsFor a e w → May w s now plans.outcome
    then-may told w stands = plans.may w stands.sound (remembers a e w stands) (knows-set told w stands)

    then-acts : tells → (w : World) → StandsFor a e w → AreNotedRestore w now options (found_under header set log) name branch last row plans.outcome.acts
    then-acts told w stands = plans.acts w stands.sound (remembers a e w stands) (knows-set told w stands)

    then-there : tells → (w : World) → StandsFor a e w → IsSetOn b.files medium set
    then-there told w stands =
        let is = reads.opened told w stands in
        let same : b.files medium ≡ a.files medium = (reads.call told).files medium in
        record {
          body = is.body;
          position = at;
          there = subst (λ f. slot_at f at ≡ Some (holds is.body)) (sym same) is.there;
          is = subst (λ f. IsOf (contents f) is.body set) (sym same) is.opened;
        }

    -- what holds for each such list of acts holds for those of the outcome
    then-brings : (Does : World → List Act → Type 0) → tells → Brings Does → (w : World) → StandsFor a e w → Does w plans.outcome.acts
    then-brings Does told brings w stands =
        let acts = then-acts told w stands in
        subst (Does w) (sym acts.are) (brings w log acts.bringing (stands-nothing a b e w (reads.call told) stands) (then-there told w stands) acts.of)

    then-crash : (tells → Brings (λ w acts. Effect IsOurs (CutIn w acts) b c)) → tells → (w : World) → StandsFor a e w → Effect IsOurs (CutIn w plans.outcome.acts) a c
    then-crash crash told w stands = effect_after_nothing (reads.lawful told) (reads.call told) (then-brings (λ v acts. Effect IsOurs (CutIn v acts) b c) told (crash told) w stands)

    then-spares : (tells → TouchesOnly NoMedium b c) → tells → (w : World) → StandsFor a e w → TouchesOnly (ActsWrite plans.outcome.acts) a c
    then-spares touches told w stands = effect_then (touches-nothing (reads.call told)) (wider-touch (λ path none. absurd none) (touches told))

    -- it stores something
    then-still : tells → (w : World) → StandsFor a e w → IsStill plans.outcome → Rests e a new c
    then-still told w stands still =
        let acts = then-acts told w stands in
        absurd (subst (λ (all : List Act). AllByRecursion IsTurn all) (acts.are ∙ ap with_row acts.of.are) still).0

    pub brings-executed : (tells → Brings (λ w acts. StandsFor c new (done_all w acts))) → (tells → Brings (λ w acts. Effect IsOurs (CutIn w acts) b c)) → (tells → TouchesOnly NoMedium b c) → (answer : Reply) → answer ≡ reply.Recovered header.last
        → Executed tells e a s now answer new c
    brings-executed does crash touches answer is = record {
      outcome = plans.outcome;
      replies = plans.replies ∙ sym is;
      may = then-may;
      does = λ told w stands. then-brings (λ v acts. StandsFor c new (done_all v acts)) told (does told) w stands;
      crash = then-crash crash;
      still = then-still;
      spares = then-spares touches;
    }

    pub brings-cut : (tells → Brings (λ w acts. Effect IsOurs (CutIn w acts) b c)) → (tells → TouchesOnly NoMedium b c) → CutOff tells e a s now c
    brings-cut crash touches = record { outcome = plans.outcome; may = then-may; crash = then-crash crash; spares = then-spares touches }

    pub brings-never : tells → Brings (λ w acts. ⊥) → (w : World) → StandsFor a e w → ⊥
    brings-never told never w stands = then-brings (λ v acts. ⊥) told never w stands
