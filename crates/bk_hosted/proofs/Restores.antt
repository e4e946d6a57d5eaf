-- Hosted databases behind a restore with recovery: a set takes a database's place first; then that is brought up.
use Rattle.std.proofs.Common.{◌≡◌, ◌<◌, ℕ, zero, suc, ◌+◌, Bool, false, cond, List, [], ◌∷◌, ◌++◌, length, Option, Some, None, refl, sym, ◌∙◌, ap, subst, arith, set-set}
use Rattle.std.specs.Prelude.{◌||◌, set, slice_get}
use Rattle.std.specs.List.{AllByRecursion, position}
use Rattle.std.proofs.lemmas.List.Quantifiers.{position-Some}
use Rattle.bk_machine.specs.Acts.{Act, Recovery, done, done_all, goes_online, gone_online, recovered, replaced, restored, taken_over, units_in, where_found}
use Rattle.bk_machine.specs.MayDo.{HoldsOf, MayDo, MayDoAll, MayRecover}
use Rattle.bk_machine.specs.Sound.{IsSound, IsSoundSet}
use Rattle.bk_machine.specs.World.{World, Database, database_named, log_of, log_to, with_database, with_new_database}
use Rattle.bk_machine.specs.statements.Restore.{base_of}
use Rattle.bk_world.specs.declared.database.State.TheVariants.{Restoring}
use Rattle.bk_world.specs.declared.header.Header.{Header}
use Rattle.bk_world.specs.CrashLaws.{counts-length, counts-numbered}
use Rattle.bk_world.specs.Cut.{end_behind}
use Rattle.bk_world.specs.Lines.{RecordLines, log_below}
use Rattle.bk_world.specs.Records.{Logged, more, numbered}
use Rattle.bk_world.specs.SettledLaws.{end-more}
use Rattle.bk_world.specs.Telling.{model}
use Rattle.bk_hosted.specs.Hosted.{Hosted, Hosts, IsHosted, bringing_up, database_of, has_checkpoint, names, parking, restoring, set_log}
use Rattle.bk_hosted.proofs.Acts.{RecoveredLast, StaysRead, all-still, changed, is-there}
use Rattle.bk_hosted.specs.PlaceLaws.{all-more, all-set, new-at, new-none, same-place}
use Rattle.bk_hosted.specs.PointLaws.{has-below, has-joined}

-- ---- what the machine's laws say

abbrev pub ActsSound : Type 0
ActsSound = (w : World) (act : Act) → IsSound w → MayDo w act → IsSound (done w act)

-- ---- a set in the place of a database

module _ (w : World) (name : List ℕ) (header : Header) (is_set : IsSoundSet w header) where
  -- the log of the set, and the database that is hosted
  abbrev rs : List Logged
  rs = set_log w header

  abbrev put : Hosted
  put = parking rs name header

  rs-ends : end_behind rs ≡ header.last
  rs-ends = let last : header.last ≡ 1 + length rs = counts-length 1 rs header.last is_set.log.counts in omega (arith, last)

  no-checkpoint : has_checkpoint 0 rs ≡ false
  no-checkpoint = has-below 0 1 header.last rs is_set.log.counts (omega arith)

  -- with this end, and with these points
  abbrev taken : ℕ → Bool → Database
  taken end t = record (taken_over name header) { end = end; kept = cond t 0 header.last; checkpoint = cond t 0 header.last }

  pub put-is : database_of put ≡ taken_over name header
  put-is = ap (λ n. taken n (has_checkpoint 0 rs)) rs-ends ∙ ap (taken header.last) no-checkpoint

  replaced-databases : (done w (replaced name header)).databases ≡ with_new_database w.databases (taken_over name header)
  unfolding done
  replaced-databases = refl

  replaced-history : (done w (replaced name header)).history ≡ w.history
  unfolding done
  replaced-history = refl

  its-log : log_of (done w (replaced name header)).history (taken_over name header) ≡ rs
  unfolding log_of
  its-log = ap (λ (lines : RecordLines). log_below lines header.path header.last) replaced-history

  put-hosted : IsHosted (done w (replaced name header)).history put
  put-hosted = record { log = ap (log_of (done w (replaced name header)).history) put-is ∙ its-log }

  module _ (reads : StaysRead) (hosted : List Hosted) (sound : IsSound w) (hosts : Hosts w hosted) where
    others : AllByRecursion (IsHosted (done w (replaced name header)).history) hosted
    others = all-still reads w (replaced name header) hosted sound is_set hosts

    with-put : (done w (replaced name header)).databases ≡ with_new_database w.databases (database_of put)
    with-put = replaced-databases ∙ ap (with_new_database w.databases) (sym put-is)

    pub hosts-parked : (i : ℕ) → position (names name) hosted ≡ Some i → Hosts (done w (replaced name header)) (set hosted i put)
    hosts-parked i place = record {
      same = with-put ∙ ap (λ (dbs : List Database). with_new_database dbs (database_of put)) hosts.same ∙ sym (new-at name hosted i put refl place);
      each = all-set (IsHosted (done w (replaced name header)).history) hosted i put put (position-Some (names name) hosted i put place).0 (λ _. put-hosted) others;
    }

    pub hosts-parked-new : position (names name) hosted ≡ None → Hosts (done w (replaced name header)) (hosted ++ put ∷ [])
    hosts-parked-new none = record {
      same = with-put ∙ ap (λ (dbs : List Database). with_new_database dbs (database_of put)) hosts.same ∙ sym (new-none name hosted put refl none);
      each = all-more (IsHosted (done w (replaced name header)).history) hosted put others put-hosted;
    }

-- ---- it is brought up

module _ (w : World) (name : List ℕ) (header : Header) (r : Recovery) (is_set : IsSoundSet w header) where
  -- the world behind the first of the two acts, and the database there
  abbrev mid : World
  mid = done w (restored name (base_of header) header.last)

  abbrev with_units : Database → Database
  with_units db = record db { units = units_in (Restoring (base_of header) header.last) db.units }

  abbrev parked : Hosted
  parked = parking (set_log w header) name header

  -- it, with its files restored
  abbrev refilled : Hosted
  refilled = record parked { points = record parked.points { units = units_in (Restoring (base_of header) header.last) parked.points.units } }

  abbrev new : Hosted
  new = restoring (set_log w header) name header r

  mid-history : mid.history ≡ w.history
  unfolding done
  mid-history = refl

  mid-databases : mid.databases ≡ with_database w.databases name with_units
  unfolding done
  mid-databases = refl

  recovered-is : database_named mid.databases name ≡ Some (database_of refilled) → done mid (recovered name r) ≡ goes_online mid (database_of refilled) r
  unfolding done
  recovered-is found = ap (λ (d : Option Database). where_found mid d (λ d. goes_online mid d r)) found

  online-databases : (goes_online mid (database_of refilled) r).databases ≡ with_database mid.databases name (gone_online (model (log_to mid.history (database_of refilled) r.at)) r)
  unfolding goes_online
  online-databases = refl

  module _ (at : r.at ≡ header.last) (some : 0 < r.at) where
    -- the log up to the recovery
    log-there : log_to mid.history (database_of refilled) r.at ≡ set_log w header
    unfolding log_to
    log-there = ap (λ (lines : RecordLines). log_below lines header.path r.at) mid-history ∙ ap (log_below w.history header.path) at

    none-there : has_checkpoint 0 (more (set_log w header) r.at r.said) ≡ false
    none-there =
        has-joined 0 (set_log w header) (numbered r.at r.said)
        ∙ ap (λ t. t || has_checkpoint 0 (numbered r.at r.said)) (has-below 0 1 header.last (set_log w header) is_set.log.counts (omega arith))
        ∙ has-below 0 r.at (r.at + length r.said) (numbered r.at r.said) (counts-numbered r.at r.said) some

    end-is : end_behind (more (set_log w header) r.at r.said) ≡ r.at + length r.said
    end-is =
        let last : header.last ≡ 1 + length (set_log w header) = counts-length 1 (set_log w header) header.last is_set.log.counts in
        let ends : end_behind (more (set_log w header) r.at r.said) ≡ end_behind (set_log w header) + length r.said = end-more (set_log w header) r.at r.said in
        omega (arith, last, ends, at)

    -- the database as it goes online, with these for its end and points
    abbrev online : ℕ → Bool → Database
    online end t = record (gone_online (model (set_log w header)) r (database_of refilled)) { end = end; archive = header.last; kept = cond t 0 header.last; checkpoint = cond t 0 header.last }

    new-is : database_of new ≡ gone_online (model (set_log w header)) r (database_of refilled)
    new-is =
        ap (λ n. online n (has_checkpoint 0 (more (set_log w header) r.at r.said))) end-is
        ∙ ap (online (r.at + length r.said)) none-there
        ∙ ap (λ n. record (gone_online (model (set_log w header)) r (database_of refilled)) { archive = n; kept = n; checkpoint = n }) (sym at)

    new-as-told : database_of new ≡ gone_online (model (log_to mid.history (database_of refilled) r.at)) r (database_of refilled)
    new-as-told = new-is ∙ ap (λ (logged : List Logged). gone_online (model logged) r (database_of refilled)) (sym log-there)

module _ (sound_acts : ActsSound) (reads : StaysRead) (last : RecoveredLast) (w : World) (name : List ℕ) (header : Header) (r : Recovery) (hosted : List Hosted) (i : ℕ) (sound : IsSound w)
    (hosts : Hosts w hosted) (is_set : IsSoundSet w header) (may : MayDoAll w (bringing_up name header r)) (at : r.at ≡ header.last) (place : position (names name) hosted ≡ Some i)
    (there : slice_get hosted i ≡ Some (parking (set_log w header) name header)) where
  abbrev two : World
  two = mid w name header r is_set

  abbrev filled : Hosted
  filled = refilled w name header r is_set

  abbrev up : Hosted
  up = new w name header r is_set

  two-sound : IsSound two
  two-sound = sound_acts w (restored name (base_of header) header.last) sound tt

  -- behind the first act its files are restored
  filled-hosted : IsHosted w.history (parking (set_log w header) name header) → IsHosted two.history filled
  unfolding log_of
  filled-hosted is = record { log = ap (λ (lines : RecordLines). log_below lines header.path (end_behind (set_log w header))) (mid-history w name header r is_set) ∙ is.log }

  hosts-filled : Hosts two (set hosted i filled)
  hosts-filled =
      let here = is-there w name hosted i (parking (set_log w header) name header) sound hosts place there in
      changed reads w (restored name (base_of header) header.last) name hosted i (parking (set_log w header) name header) filled (with_units w name header r is_set) sound tt hosts place here.at
      (mid-databases w name header r is_set) refl (filled-hosted here.is)

  abbrev then : List Hosted
  then = set hosted i filled

  then-place : position (names name) then ≡ Some i
  then-place = same-place name hosted i (parking (set_log w header) name header) filled refl place there

  then-there : slice_get then i ≡ Some filled
  then-there = got-set hosted i (parking (set_log w header) name header) filled there
    where
      got-set : (hs : List Hosted) (k : ℕ) (x put : Hosted) → slice_get hs k ≡ Some x → slice_get (set hs k put) k ≡ Some put
      got-set [] k x put is = absurd (cc)
      got-set (h ∷ hs) zero x put is = refl
      got-set (h ∷ hs) (suc k) x put is = got-set hs k x put is

  pub hosts-up : Hosts (done_all w (bringing_up name header r)) (set hosted i up)
  hosts-up =
      let here = is-there two name then i filled two-sound hosts-filled then-place then-there in
      let may-recover : MayRecover two (database_of filled) r = subst (λ (found : Option Database). HoldsOf found (λ db. MayRecover two db r)) here.named may.1.0 in
      let behind : done two (recovered name r) ≡ goes_online two (database_of filled) r = recovered-is w name header r is_set here.named in
      let its : database_of up ≡ gone_online (model (log_to two.history (database_of filled) r.at)) r (database_of filled) = new-as-told w name header r is_set at may-recover.some in
      let log : log_of (goes_online two (database_of filled) r).history (database_of up) ≡ up.records =
      ap (log_of (goes_online two (database_of filled) r).history) its
      ∙ last two name (database_of filled) r two-sound here.named may-recover
      ∙ ap (λ (logged : List Logged). more logged r.at r.said) (log-there w name header r is_set at may-recover.some) in
      subst (Hosts (done two (recovered name r))) (set-set hosted i filled up)
      (changed reads two (recovered name r) name then i filled up (gone_online (model (log_to two.history (database_of filled) r.at)) r) two-sound may.1.0 hosts-filled then-place here.at
      (ap (λ (v : World). v.databases) behind ∙ online-databases w name header r is_set) its
      (record { log = ap (λ (v : World). log_of v.history (database_of up)) behind ∙ log }))
