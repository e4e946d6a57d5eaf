-- The media of a world behind acts that write to none.
use Rattle.std.proofs.Common.{◌≡◌, inl, inr, ℕ, List, [], ◌∷◌, Option, None, Some, refl}
use Rattle.bk_device.specs.Disk.{Files}
use Rattle.bk_machine.specs.Acts.{Act, based, created, done, done_all, dropped, goes_online, job_set, jobs_dropped, logged, medium_made, noted, readied, recovered, replaced, restored, says, seated, set_drawn, set_sealed, turned}
use Rattle.bk_machine.specs.MayDo.{MayDo, MayDoAll}
use Rattle.bk_machine.specs.Sound.{IsSound, SetIn}
use Rattle.bk_machine.specs.World.{Database, World, database_named}
use Rattle.bk_machine.specs.Writes.{ActWrites, ActsWrite}
use Rattle.bk_world.specs.declared.header.Header.{Header}
use Rattle.bk_world.specs.Lines.{log_below}
use Rattle.bk_archive.specs.Media.{KeepsMedia}
use Rattle.bk_archive.specs.MediaLaws.{media-on}

-- media stay behind such an act
same-media : (w : World) (act : Act) → ((path : List ℕ) → ActWrites act path → ⊥) → (done w act).media ≡ w.media
unfolding done says goes_online
same-media w (turned name) none = refl
same-media w (seated session) none = refl
same-media w (readied starts) none = refl
same-media w (created c) none = refl
same-media w (dropped name) none = refl
same-media w (logged name said transactions) none = by (database_named w.databases name) refl
  where
    by : (o : Option Database) → database_named w.databases name ≡ o → (done w (logged name said transactions)).media ≡ w.media
    by None is = rw is refl
    by (Some db) is = rw is refl
same-media w (medium_made path) none = absurd (none path refl)
same-media w set_drawn none = refl
same-media w (noted row) none = refl
same-media w (set_sealed path header) none = absurd (none path refl)
same-media w (based name header) none = refl
same-media w (job_set name job) none = refl
same-media w jobs_dropped none = refl
same-media w (replaced name header) none = refl
same-media w (restored name base redo) none = refl
same-media w (recovered name r) none = by (database_named w.databases name) refl
  where
    by : (o : Option Database) → database_named w.databases name ≡ o → (done w (recovered name r)).media ≡ w.media
    by None is = rw is refl
    by (Some db) is = rw is refl

-- what the machine's laws say
abbrev pub SetsAct : Type 0
SetsAct = (w : World) (path : List ℕ) (header : Header) → IsSound w → SetIn w path header → (act : Act) → MayDo w act → log_below (done w act).history header.path header.last ≡ log_below w.history header.path header.last

abbrev pub ActSound : Type 0
ActSound = (w : World) (act : Act) → IsSound w → MayDo w act → IsSound (done w act)

pub media-behind : SetsAct → (w : World) (act : Act) (making : Option (List ℕ)) (files : Files) → IsSound w → MayDo w act → ((path : List ℕ) → ActWrites act path → ⊥) → KeepsMedia w making files → KeepsMedia (done w act) making files
media-behind sets w act making files sound may none media =
    media-on w (done w act) making files (same-media w act none) (λ path header there. sets w path header sound there act may) media

pub media-behind-all : ActSound → SetsAct → (w : World) (acts : List Act) (making : Option (List ℕ)) (files : Files) → IsSound w → MayDoAll w acts → ((path : List ℕ) → ActsWrite acts path → ⊥) → KeepsMedia w making files → KeepsMedia (done_all w acts) making files
media-behind-all keeps sets w [] making files sound may none media = media
media-behind-all keeps sets w (act ∷ acts) making files sound may none media =
    media-behind-all keeps sets (done w act) acts making files (keeps w act sound may.0) may.1 (λ path writes. none path (inr writes))
    (media-behind sets w act making files sound may.0 (λ path writes. none path (inl writes)) media)
