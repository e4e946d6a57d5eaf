-- A checkpoint of a hosted database is one of the world's.
use Rattle.std.proofs.Common.{◌≡◌, ℕ, List, Some, refl, sym, ap, subst, ◌∙◌}
use Rattle.std.proofs.lemmas.Option.{same_Some}
use Rattle.std.specs.Prelude.{set, slice_get}
use Rattle.std.specs.List.{position}
use Rattle.bk_hosted.specs.Hosted.{Hosted, Hosts, IsHosted, database_of, kept_next, names, noting, saying}
use Rattle.bk_hosted.specs.PlaceLaws.{named-there}
use Rattle.bk_hosting.specs.Checkpointing.{checked, to_check}
use Rattle.bk_machine.specs.Acts.{done, kept_after}
use Rattle.bk_machine.specs.Sound.{IsSound}
use Rattle.bk_machine.specs.World.{Database, World, database_named, log_of}
use Rattle.bk_machine.specs.MayDo.{MayDo}
use Rattle.bk_machine.specs.Acts.{logged}
use Rattle.bk_world.specs.declared.transaction.Open.{Open}
use Rattle.bk_world.specs.Cut.{end_behind}
use Rattle.bk_world.specs.Records.{Logged, checkpointed, numbered}
use Rattle.bk_world.specs.Says.{alone}
use Rattle.bk_world.specs.Telling.{model}
use Rattle.bk_engine.specs.Acts.{MayMark, marking}
use Rattle.bk_engine.specs.Copied.{GoesOn}

-- ---- what the laws say

abbrev pub ChecksFollow : Type 0
ChecksFollow = (w : World) (name : List ℕ) (time : ℕ) (transactions : List Open) (hosted : List Hosted) (i : ℕ) (h : Hosted) → IsSound w → Hosts w hosted
    → position (names name) hosted ≡ Some i → slice_get hosted i ≡ Some h → MayDo w (logged name (alone (checkpointed time)) transactions)
    → Hosts (done w (logged name (alone (checkpointed time)) transactions)) (set hosted i (saying (alone (checkpointed time)) transactions (noting h)))

abbrev pub NotesStay : Type 0
NotesStay = (w : World) (name : List ℕ) (hosted : List Hosted) (i : ℕ) (h : Hosted) → IsSound w → Hosts w hosted → position (names name) hosted ≡ Some i → slice_get hosted i ≡ Some h → Hosts w (set hosted i (noting h))

module _ (w : World) (name : List ℕ) (time kept : ℕ) (db : Database) (hosted : List Hosted) (i : ℕ) (h : Hosted) (sound : IsSound w) (hosts : Hosts w hosted) (place : position (names name) hosted ≡ Some i) (there : slice_get hosted i ≡ Some h) (may : MayMark w name time kept db) where
  found : (database_named w.databases name ≡ Some (database_of h)) × IsHosted w.history h
  found = named-there w name hosted i h hosts place there

  same : db ≡ database_of h
  same = same_Some db (database_of h) (sym may.found ∙ found.0)

  -- the number from which the live log is held is the next one of the hosted database
  kept-same : kept ≡ kept_next h
  kept-same = may.kept_is ∙ ap (λ (d : Database). kept_after d (model (log_of w.history d)) d.end) same ∙ ap (λ (rs : List Logged). kept_after (database_of h) (model rs) (end_behind h.records)) found.1.log

  -- where it is noted nothing is changed
  pub notes-hosts : NotesStay → Hosts w (set hosted i (to_check h kept))
  notes-hosts notes = subst (λ (n : ℕ). Hosts w (set hosted i (to_check h n))) (sym kept-same) (notes w name hosted i h sound hosts place there)

  -- and once it is said it is made
  pub checks-hosts : ChecksFollow → Hosts (done w (marking name time db)) (set hosted i (checked h time kept))
  checks-hosts checks =
      let its : MayDo w (logged name (alone (checkpointed time)) h.transactions) = subst (λ (d : Database). MayDo w (marking name time d)) same may.may in
      let here : Hosts (done w (marking name time (database_of h))) (set hosted i (checked h time (kept_next h))) = checks w name time h.transactions hosted i h sound hosts place there its in
      subst (λ (d : Database). Hosts (done w (marking name time d)) (set hosted i (checked h time kept))) (sym same)
      (subst (λ (n : ℕ). Hosts (done w (marking name time (database_of h))) (set hosted i (checked h time n))) (sym kept-same) here)

-- its log goes on
pub marks-on : (h : Hosted) (time kept : ℕ) → GoesOn h (checked h time kept)
marks-on h time kept = record { job = refl; files = refl; later = numbered (end_behind h.records) (alone (checkpointed time)); records = refl }
