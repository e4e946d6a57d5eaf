-- Whatever a database of a sound world that can be used says at its end, its hosted form says: also a front of what it may say.
use Rattle.std.proofs.Common.{◌≡◌, ◌<◌, ◌+◌, ℕ, true, List, ◌++◌, length, Option, Some, refl, sym, ◌∙◌, ap, subst, arith}
use Rattle.std.specs.Prelude.{set, slice_get}
use Rattle.std.specs.List.{position}
use Rattle.bk_ids.specs.declared.guid.Guid.{Guid}
use Rattle.bk_ids.specs.declared.path.Branch.{Branch}
use Rattle.bk_ids.specs.Path.{last_branch}
use Rattle.bk_lemmas.specs.Lists.{all_both}
use Rattle.bk_machine.specs.Acts.{done, gone_on, logged, says}
use Rattle.bk_machine.specs.SaysLaws.{done-says}
use Rattle.bk_machine.specs.Sound.{IsSound, IsWholeDatabase}
use Rattle.bk_machine.specs.World.{World, Database, log_of, with_database}
use Rattle.bk_machine.specs.statements.Restore.{is_online}
use Rattle.bk_world.specs.declared.database.Status.{Status}
use Rattle.bk_world.specs.declared.database.Status.TheVariants.{Down, Online, Standby}
use Rattle.bk_world.specs.declared.transaction.Open.{Open}
use Rattle.bk_world.specs.Cut.{end_behind}
use Rattle.bk_world.specs.GrowthLaws.{grows-said, records-grown}
use Rattle.bk_world.specs.Lines.{Grew, MayGoOn, RecordLines, log_below, said_on_last}
use Rattle.bk_world.specs.Records.{Logged, Said, numbered}
use Rattle.bk_world.specs.SaidLaws.{records-said}
use Rattle.bk_world.specs.Telling.{model}
use Rattle.bk_hosted.specs.Hosted.{Hosted, Hosts, IsHosted, SaysNoCheckpoint, database_of, is_up, names, saying}
use Rattle.bk_hosted.specs.PlaceLaws.{all-set, own-position, with-at}
use Rattle.bk_hosted.specs.PointLaws.{saying-is}
use Rattle.bk_hosted.proofs.Acts.{Counted, counted, is-there, says-databases, whole-there}

up-online : (status : Status) → is_online status ≡ true → status ≡ Online
up-online Online up = refl
up-online (Standby file) up = absurd (cc)
up-online Down up = absurd (cc)

says-history : (w : World) (db : Database) (said : List Said) (ts : List Open) → (says w db said ts).history ≡ said_on_last w.history (last_branch db.path) (numbered db.end said)
unfolding says
says-history w db said ts = refl

-- what is read of a history to which something was said
grew : (h : RecordLines) (path : List Branch) (end : ℕ) (on : MayGoOn h path end) (said : List Said) → 0 < end → Grew h (said_on_last h (last_branch path) (numbered end said))
grew h path end on said some = subst (λ (b : Option Guid). Grew h (said_on_last h b (numbered end said))) (sym on.last) (grows-said h on.branch end said on.there some on.below)

-- the history behind what is said
pub says-grows : (w : World) (name : List ℕ) (said : List Said) (ts : List Open) (hosted : List Hosted) (i : ℕ) (h : Hosted) → IsSound w → Hosts w hosted → position (names name) hosted ≡ Some i → slice_get hosted i ≡ Some h → is_up h ≡ true
    → Grew w.history (done w (logged name said ts)).history
says-grows w name said ts hosted i h sound hosts place there up =
    let here = is-there w name hosted i h sound hosts place there in
    let db : Database = database_of h in
    let on : MayGoOn w.history db.path db.end = ((whole-there w name hosted i h sound hosts place there).online (up-online h.points.status up)).goes_on in
    let lines : (done w (logged name said ts)).history ≡ said_on_last w.history (last_branch db.path) (numbered db.end said) = ap (λ (v : World). v.history) (done-says w name db said ts here.named) ∙ says-history w db said ts in
    subst (λ (l : RecordLines). Grew w.history l) (sym lines) (grew w.history db.path db.end on said (omega arith))

pub hosts-saying : (w : World) (name : List ℕ) (said : List Said) (ts : List Open) (hosted : List Hosted) (i : ℕ) (h : Hosted) → IsSound w → Hosts w hosted → position (names name) hosted ≡ Some i → slice_get hosted i ≡ Some h
    → is_up h ≡ true → SaysNoCheckpoint said → Hosts (done w (logged name said ts)) (set hosted i (saying said ts h))
unfolding log_of
hosts-saying w name said ts hosted i h sound hosts place there up none =
    let here = is-there w name hosted i h sound hosts place there in
    let db : Database = database_of h in
    let whole : IsWholeDatabase w db = whole-there w name hosted i h sound hosts place there in
    let on : MayGoOn w.history db.path db.end = (whole.online (up-online h.points.status up)).goes_on in
    let new : Hosted = saying said ts h in
    let same : done w (logged name said ts) ≡ says w db said ts = done-says w name db said ts here.named in
    let lines : (done w (logged name said ts)).history ≡ said_on_last w.history (last_branch db.path) (numbered db.end said) = ap (λ (v : World). v.history) same ∙ says-history w db said ts in
    let grown : Grew w.history (done w (logged name said ts)).history = says-grows w name said ts hosted i h sound hosts place there up in
    let its : database_of new ≡ gone_on (model (log_of w.history db)) said ts db =
    saying-is (model h.records) h said ts none ∙ ap (λ (rs : List Logged). gone_on (model rs) said ts db) (sym here.is.log) in
    let end : (database_of new).end ≡ db.end + length said = ap (λ (d : Database). d.end) (saying-is (model h.records) h said ts none) in
    let log : log_of (done w (logged name said ts)).history (database_of new) ≡ new.records =
    ap (λ (l : RecordLines). log_below l h.spec.path (database_of new).end) lines ∙ ap (λ (n : ℕ). log_below (said_on_last w.history (last_branch db.path) (numbered db.end said)) h.spec.path n) end
    ∙ records-said w.history db.path db.end on said ∙ ap (λ (rs : List Logged). rs ++ numbered db.end said) here.is.log in
    record {
      same = ap (λ (v : World). v.databases) same ∙ says-databases w db said ts ∙ ap (λ dbs. with_database dbs h.spec.name (gone_on (model (log_of w.history db)) said ts)) hosts.same
          ∙ sym (with-at h.spec.name (gone_on (model (log_of w.history db)) said ts) hosted i h new (own-position name hosted i h place here.at) here.at its);
      each = all-set (IsHosted (done w (logged name said ts)).history) hosted i h new here.inside (λ _. record { log = log })
          (all_both (IsHosted w.history) (Counted w.history) (IsHosted (done w (logged name said ts)).history)
          (λ g is its-counts. record { log = records-grown w.history (done w (logged name said ts)).history grown g.spec.path (end_behind g.records) its-counts ∙ is.log }) hosted hosts.each (counted w hosted sound hosts));
    }
