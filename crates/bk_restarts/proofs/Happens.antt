-- Files that stand for a world stand for the world behind what may happen between two runs.
use Rattle.std.proofs.Common.{◌≡◌, ℕ, List, [], ◌∷◌, inl, inr, map, None, refl, sym, ap, subst, ◌∙◌}
use Rattle.std.specs.List.{AllByRecursion}
use Rattle.bk_archive.specs.Events as of_media
use Rattle.bk_archive.specs.Media.{KeepsMedia}
use Rattle.bk_archive.specs.MediaLaws.{media-in}
use Rattle.bk_device.specs.Disk.{Files}
use Rattle.bk_engine.specs.NameLaws.{rows-medium, store-medium}
use Rattle.bk_engine.specs.Rows.{rows_in}
use Rattle.bk_hosted.specs.Fronts.{settling}
use Rattle.bk_hosted.specs.Hosted.{Hosted, Hosts, IsHosted, database_of}
use Rattle.bk_machine.specs.Events as world
use Rattle.bk_machine.specs.Events.{Happen, Happens, MediumAdded, MediumChanged, MediumRemoved, StandbyRemoved}
use Rattle.bk_machine.specs.Same.{SameLogs}
use Rattle.bk_machine.specs.Sound.{IsSound}
use Rattle.bk_machine.specs.World.{Database, World, empty_world, log_of}
use Rattle.bk_master.specs.declared.record.Own.{Own}
use Rattle.bk_master.specs.Laws.{own_made}
use Rattle.bk_master.specs.Master.{IsNotMade, fresh_own}
use Rattle.bk_msdb.specs.Laws.{shows_same}
use Rattle.bk_msdb.specs.Msdb.{Shows, msdb_file}
use Rattle.bk_msdb.specs.Rows.{no_rows}
use Rattle.bk_restarts.proofs.Beginnings.{hosting-same}
use Rattle.bk_restarts.specs.Events.{AddsMedium, ChangesMedium, HappenOn, HappensOn, OnlyMedium, RemovesMedium, RemovesStandby, StandsAtRest, nothing_more, one_more}
use Rattle.bk_engine.specs.Stores.{IsOurs as IsOfStores}
use Rattle.bk_volume.specs.Names.{medium_file}
use Rattle.bk_world.specs.Lines.{RecordLines}

-- What the laws of the machine, and those of media, say of events.
pub record EventLaws : Type 0 where
  pub sound : (old new : World) → IsSound old → Happens old new → IsSound new
  pub removed : (old new : World) → IsSound old → MediumRemoved old new → SameLogs old new
  pub standby : (old new : World) → IsSound old → StandbyRemoved old new → SameLogs old new
  pub changed : (old new : World) → IsSound old → MediumChanged old new → SameLogs old new
  pub added : (old new : World) → IsSound old → MediumAdded old new → SameLogs old new
  pub removed_media : (f g : Files) (w v : World) → KeepsMedia w None f → of_media.RemovesMedium f w g v → KeepsMedia v None g
  pub changed_media : (f g : Files) (w v : World) → KeepsMedia w None f → of_media.ChangesMedium f w g v → KeepsMedia v None g
  pub added_media : (f g : Files) (w v : World) → IsSound w → KeepsMedia w None f → of_media.AddsMedium f w g v → KeepsMedia v None g

-- ---- names

-- no file of a store is a medium's
stores-beside : (path : List ℕ) (f g : Files) → OnlyMedium path f g → (name : List ℕ) → IsOfStores name → g name ≡ f name
stores-beside path f g others name own = others name (λ same. store-medium path (subst IsOfStores same own))

-- nor is that of the rows of msdb
rows-beside : (path : List ℕ) (f g : Files) → OnlyMedium path f g → g msdb_file ≡ f msdb_file
rows-beside path f g others = others msdb_file (λ same. rows-medium path (sym same))

-- ---- at rest

-- no medium is being made
rest-none : (number : ℕ) (files : Files) (w : World) → (at : StandsAtRest number files w) → at.stands.own.making ≡ None
rest-none number files w at = elim at.rest [
  | inl closed ↦ at.stands.finished closed
  | inr not ↦ elim at.stands.holds [ inl new ↦ ap (λ (own : Own). own.making) new.1 | inr hosted ↦ absurd (hosted.holds.is_record.made not) ]
]

rest-media : (number : ℕ) (files : Files) (w : World) → StandsAtRest number files w → KeepsMedia w None files
rest-media number files w at = subst (λ making. KeepsMedia w making files) (rest-none number files w at) at.stands.media

-- ---- the same databases

hosted-logs : (old new : RecordLines) (hosted : List Hosted) → AllByRecursion (λ (db : Database). log_of new db ≡ log_of old db) (map database_of hosted) → AllByRecursion (IsHosted old) hosted → AllByRecursion (IsHosted new) hosted
hosted-logs old new [] logs each = tt
hosted-logs old new (h ∷ hosted) logs each = (record { log = logs.0 ∙ each.0.log }, hosted-logs old new hosted logs.1 each.1)

hosts-same : (w v : World) (hosted : List Hosted) → SameLogs w v → Hosts w hosted → Hosts v hosted
hosts-same w v hosted same hosts = record {
  same = same.databases ∙ hosts.same;
  each = hosted-logs w.history v.history hosted (subst (AllByRecursion (λ (db : Database). log_of v.history db ≡ log_of w.history db)) hosts.same same.logs) hosts.each;
}

-- a world of the same instance, with the same databases, logs and rows of msdb
record IsLike (w v : World) : Type 0 where
  sound : IsSound v
  logs : SameLogs w v
  instance : v.instance ≡ w.instance
  counter : v.counter ≡ w.counter
  closed : v.closed ≡ w.closed
  rows : rows_in v ≡ rows_in w

-- files with the same stores and rows, which keep its media, stand for it
like-stands : (number : ℕ) (f g : Files) (w v : World) → StandsAtRest number f w → ((name : List ℕ) → IsOfStores name → g name ≡ f name) → g msdb_file ≡ f msdb_file → IsLike w v → KeepsMedia v None g → StandsAtRest number g v
like-stands number f g w v at same rows like media =
    let is = at.stands in
    let none : is.own.making ≡ None = rest-none number f w at in
    record {
      stands = record {
        sound = like.sound;
        own = is.own;
        instance = like.instance ∙ is.instance;
        counter = like.counter ∙ is.counter;
        hosted = is.hosted;
        pends = is.pends;
        hosts = hosts-same w v (map settling is.hosted) like.logs is.hosts;
        holds = hosting-same number f g is.own is.hosted same is.holds;
        media = subst (λ making. KeepsMedia v making g) (sym none) media;
        rows = subst (Shows g) (sym like.rows) (shows_same f g (rows_in w) rows is.rows);
        finished = λ closed. none;
      };
      rest = elim at.rest [ inl closed ↦ inl (like.closed ∙ closed) | inr not ↦ inr (same _ (inl own_made) ∙ not) ];
    }

-- ---- one event

pub removed-stands : EventLaws → (number : ℕ) (f g : Files) (w v : World) → StandsAtRest number f w → RemovesMedium f w g v → StandsAtRest number g v
unfolding rows_in
removed-stands laws number f g w v at event =
    let gone : MediumRemoved w v = event.medium.world in
    like-stands number f g w v at (stores-beside gone.path f g event.others) (rows-beside gone.path f g event.others) (record {
      sound = laws.sound w v at.stands.sound (inr (inr (inl gone)));
      logs = laws.removed w v at.stands.sound gone;
      instance = ap (λ (x : World). x.instance) gone.becomes;
      counter = ap (λ (x : World). x.counter) gone.becomes;
      closed = ap (λ (x : World). x.closed) gone.becomes;
      rows = ap rows_in gone.becomes;
    }) (laws.removed_media f g w v (rest-media number f w at) event.medium)

pub standby-stands : EventLaws → (number : ℕ) (f g : Files) (w v : World) → StandsAtRest number f w → RemovesStandby f w g v → StandsAtRest number g v
unfolding rows_in
standby-stands laws number f g w v at event =
    let gone : StandbyRemoved w v = event.world in
    let media : KeepsMedia w None g = media-in w None f g (λ path bytes. event.others (medium_file path)) (rest-media number f w at) in
    like-stands number f g w v at (λ name own. event.others name) (event.others msdb_file) (record {
      sound = laws.sound w v at.stands.sound (inr (inr (inr (inl gone))));
      logs = laws.standby w v at.stands.sound gone;
      instance = ap (λ (x : World). x.instance) gone.becomes;
      counter = ap (λ (x : World). x.counter) gone.becomes;
      closed = ap (λ (x : World). x.closed) gone.becomes;
      rows = ap rows_in gone.becomes;
    }) (subst (λ x. KeepsMedia x None g) (sym gone.becomes) (record { read = media.read; carried = media.carried; whole = media.whole }))

pub changed-stands : EventLaws → (number : ℕ) (f g : Files) (w v : World) → StandsAtRest number f w → ChangesMedium f w g v → StandsAtRest number g v
unfolding rows_in
changed-stands laws number f g w v at event =
    let changed : MediumChanged w v = event.medium.world in
    like-stands number f g w v at (stores-beside changed.path f g event.others) (rows-beside changed.path f g event.others) (record {
      sound = laws.sound w v at.stands.sound (inr (inr (inr (inr (inl changed)))));
      logs = laws.changed w v at.stands.sound changed;
      instance = ap (λ (x : World). x.instance) changed.becomes;
      counter = ap (λ (x : World). x.counter) changed.becomes;
      closed = ap (λ (x : World). x.closed) changed.becomes;
      rows = ap rows_in changed.becomes;
    }) (laws.changed_media f g w v (rest-media number f w at) event.medium)

pub added-stands : EventLaws → (number : ℕ) (f g : Files) (w v : World) → StandsAtRest number f w → AddsMedium f w g v → StandsAtRest number g v
unfolding rows_in
added-stands laws number f g w v at event =
    let added : MediumAdded w v = event.medium.world in
    like-stands number f g w v at (stores-beside added.path f g event.others) (rows-beside added.path f g event.others) (record {
      sound = laws.sound w v at.stands.sound (inr (inr (inr (inr (inr added)))));
      logs = laws.added w v at.stands.sound added;
      instance = ap (λ (x : World). x.instance) added.becomes;
      counter = ap (λ (x : World). x.counter) added.becomes;
      closed = ap (λ (x : World). x.closed) added.becomes;
      rows = ap rows_in added.becomes;
    }) (laws.added_media f g w v at.stands.sound (rest-media number f w at) event.medium)

-- ---- any number of events

event-stands : EventLaws → (number : ℕ) (f g : Files) (w v : World) → StandsAtRest number f w → HappensOn f w g v → StandsAtRest number g v
event-stands laws number f g w v at event = elim event [
  | inl removed ↦ removed-stands laws number f g w v at removed
  | inr next ↦ elim next [
    | inl standby ↦ standby-stands laws number f g w v at standby
    | inr more ↦ elim more [ inl changed ↦ changed-stands laws number f g w v at changed | inr added ↦ added-stands laws number f g w v at added ]
  ]
]

pub events-stand : EventLaws → (number : ℕ) (f g : Files) (w v : World) → HappenOn f w g v → StandsAtRest number f w → StandsAtRest number g v
events-stand laws number f g w v nothing_more at = at
events-stand laws number f g w v (one_more {between = h} {mid = u} event more) at = events-stand laws number h g u v more (event-stands laws number f h w u at event)

-- they are events of the world
event-happens : (f g : Files) (w v : World) → HappensOn f w g v → Happens w v
event-happens f g w v event = elim event [
  | inl removed ↦ inr (inr (inl removed.medium.world))
  | inr next ↦ elim next [
    | inl standby ↦ inr (inr (inr (inl standby.world)))
    | inr more ↦ elim more [ inl changed ↦ inr (inr (inr (inr (inl changed.medium.world)))) | inr added ↦ inr (inr (inr (inr (inr added.medium.world)))) ]
  ]
]

pub events-happen : (f g : Files) (w v : World) → HappenOn f w g v → Happen w v
events-happen f g w v nothing_more = world.nothing_more
events-happen f g w v (one_more {between = h} {mid = u} event more) = world.one_more (event-happens f h w u event) (events-happen h g u v more)

-- ---- nothing is made yet

-- files without an instance and without media, where the empty world keeps them
pub empty-stands : (number : ℕ) (files : Files) → IsNotMade files → IsSound (empty_world number) → KeepsMedia (empty_world number) None files → Shows files no_rows → StandsAtRest number files (empty_world number)
unfolding empty_world rows_in
empty-stands number files not sound media rows = record {
  stands = record {
    sound = sound;
    own = fresh_own number;
    instance = refl;
    counter = refl;
    hosted = [];
    pends = tt;
    hosts = record { same = refl; each = tt };
    holds = inl (not, refl, refl);
    media = media;
    rows = rows;
    finished = λ closed. refl;
  };
  rest = inr not;
}

pub empty-media : (number : ℕ) → (empty_world number).media ≡ []
unfolding empty_world
empty-media number = refl
