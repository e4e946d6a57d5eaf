-- What lasts through events: histories only grow, each database has the log that it had, and a closed world stays closed.
use Rattle.std.proofs.Common.{◌≡◌, inl, inr, Bool, true, false, cond, not, List, [], ◌∷◌, refl, sym, ◌∙◌, ap, subst}
use Rattle.std.specs.Prelude.{filter, ℕ}
use Rattle.std.specs.List.{AllByRecursion, AllZip}
use Rattle.bk_ids.specs.Name.{same_name}
use Rattle.bk_world.specs.Lines.{Grew, RecordLines}
use Rattle.bk_world.specs.declared.database.Unit.{Unit as RestoreUnit}
use Rattle.bk_world.specs.GrowthLaws.{grows-on, records-grown}
use Rattle.bk_machine.specs.JoinLaws.{rise-line}
use Rattle.bk_machine.specs.Events.{Happen, Happens, file_lost, is_page_of, nothing_more, one_more, page_lost}
use Rattle.bk_machine.specs.Sound.{IsSound, IsWholeDatabase}
use Rattle.bk_machine.specs.World.{Database, World, log_of, with_database}
use Rattle.bk_machine.proofs.Happened.{event-sound, with_units}
use Rattle.bk_machine.proofs.Histories.{grew-same}
use Rattle.bk_machine.proofs.Joined.{here-grew}

pub event-grows : (old new : World) → IsSound old → Happens old new → Grew old.history new.history
event-grows old new is event =
    elim event [
      | inl e ↦ same (ap (λ (w : World). w.history) e.becomes)
      | inr (inl e) ↦ same (ap (λ (w : World). w.history) e.becomes)
      | inr (inr (inl e)) ↦ same (ap (λ (w : World). w.history) e.becomes)
      | inr (inr (inr (inl e))) ↦ same (ap (λ (w : World). w.history) e.becomes)
      | inr (inr (inr (inr (inl e)))) ↦ same (ap (λ (w : World). w.history) e.becomes)
      | inr (inr (inr (inr (inr e)))) ↦
          subst (Grew old.history) (sym (ap (λ (w : World). w.history) e.becomes))
          (here-grew old.history e.other.history e.history e.joins (λ g. rise-line old old.history g is.whole.lines) (λ g. rise-line e.other e.other.history g e.was_sound.whole.lines))
    ]
  where
    same : new.history ≡ old.history → Grew old.history new.history
    same is = subst (Grew old.history) (sym is) (grew-same old.history)

-- all but the units of a database stays
abbrev pub IsButUnits : Database → Database → Type 0
IsButUnits old new = new ≡ record old { units = new.units }

all-same : (dbs : List Database) → AllZip IsButUnits dbs dbs
all-same [] = tt
all-same (db ∷ dbs) = (refl, all-same dbs)

all-units : (dbs : List Database) (name : List ℕ) (change : List RestoreUnit → List RestoreUnit) → AllZip IsButUnits dbs (with_database dbs name (with_units change))
all-units [] name change = tt
all-units (db ∷ dbs) name change = by (same_name db.name name) (all-units dbs name change)
  where
    by : (t : Bool) → AllZip IsButUnits dbs (with_database dbs name (with_units change)) → AllZip IsButUnits (db ∷ dbs) (cond t (with_units change db ∷ dbs) (db ∷ with_database dbs name (with_units change)))
    by true later = (refl, all-same dbs)
    by false later = (refl, later)

event-databases : (old new : World) → Happens old new → AllZip IsButUnits old.databases new.databases
event-databases old new event =
    elim event [
      | inl e ↦ subst (AllZip IsButUnits old.databases) (sym (ap (λ (w : World). w.databases) e.becomes)) (all-units old.databases e.name (page_lost e.file e.page))
      | inr (inl e) ↦
          subst (AllZip IsButUnits old.databases) (sym (ap (λ (w : World). w.databases) e.becomes)) (all-units old.databases e.name (λ units. file_lost e.file (filter (λ u. not (is_page_of e.file u.id)) units)))
      | inr (inr (inl e)) ↦ same (ap (λ (w : World). w.databases) e.becomes)
      | inr (inr (inr (inl e))) ↦ same (ap (λ (w : World). w.databases) e.becomes)
      | inr (inr (inr (inr (inl e)))) ↦ same (ap (λ (w : World). w.databases) e.becomes)
      | inr (inr (inr (inr (inr e)))) ↦ same (ap (λ (w : World). w.databases) e.becomes)
    ]
  where
    same : new.databases ≡ old.databases → AllZip IsButUnits old.databases new.databases
    same is = subst (AllZip IsButUnits old.databases) (sym is) (all-same old.databases)

-- so its log, as histories grow
abbrev HasLog : RecordLines → RecordLines → Database → Database → Type 0
HasLog before after old new = log_of after new ≡ log_of before old

log-kept : (w : World) (history : RecordLines) → Grew w.history history → (old new : Database) → IsWholeDatabase w old → IsButUnits old new → HasLog w.history history old new
unfolding log_of
log-kept w history grew old new is same = ap (log_of history) same ∙ records-grown w.history history grew old.path old.end is.log.counts

logs-kept : (w : World) (history : RecordLines) → Grew w.history history → (olds news : List Database) → AllByRecursion (IsWholeDatabase w) olds → AllZip IsButUnits olds news → AllZip (HasLog w.history history) olds news
logs-kept w history grew [] [] all each = tt
logs-kept w history grew [] (new ∷ news) all each = absurd each
logs-kept w history grew (old ∷ olds) [] all each = absurd each
logs-kept w history grew (old ∷ olds) (new ∷ news) all each = (log-kept w history grew old new all.0 each.0, logs-kept w history grew olds news all.1 each.1)

logs-on : (a b c : RecordLines) (xs ys zs : List Database) → AllZip (HasLog a b) xs ys → AllZip (HasLog b c) ys zs → AllZip (HasLog a c) xs zs
logs-on a b c [] [] [] first second = tt
logs-on a b c [] [] (z ∷ zs) first second = absurd second
logs-on a b c [] (y ∷ ys) zs first second = absurd first
logs-on a b c (x ∷ xs) [] zs first second = absurd first
logs-on a b c (x ∷ xs) (y ∷ ys) [] first second = absurd second
logs-on a b c (x ∷ xs) (y ∷ ys) (z ∷ zs) first second = (second.0 ∙ first.0, logs-on a b c xs ys zs first.1 second.1)

logs-same : (a : RecordLines) (xs : List Database) → AllZip (HasLog a a) xs xs
logs-same a [] = tt
logs-same a (x ∷ xs) = (refl, logs-same a xs)

pub events-grow : (old new : World) → IsSound old → Happen old new → Grew old.history new.history
events-grow old new is nothing_more = grew-same old.history
events-grow old new is (one_more {mid = mid} event more) = grows-on old.history mid.history new.history (event-grows old mid is event) (events-grow mid new (event-sound old mid is event) more)

pub events-logs : (old new : World) → IsSound old → Happen old new → AllZip (λ (before after : Database). log_of new.history after ≡ log_of old.history before) old.databases new.databases
events-logs old new is nothing_more = logs-same old.history old.databases
events-logs old new is (one_more {mid = mid} event more) =
    logs-on old.history mid.history new.history old.databases mid.databases new.databases
    (logs-kept old mid.history (event-grows old mid is event) old.databases mid.databases is.whole.databases (event-databases old mid event)) (events-logs mid new (event-sound old mid is event) more)

event-closed : (old new : World) → old.closed ≡ true → Happens old new → new.closed ≡ true
event-closed old new is event =
    elim event [
      | inl e ↦ ap (λ (w : World). w.closed) e.becomes ∙ is
      | inr (inl e) ↦ ap (λ (w : World). w.closed) e.becomes ∙ is
      | inr (inr (inl e)) ↦ ap (λ (w : World). w.closed) e.becomes ∙ is
      | inr (inr (inr (inl e))) ↦ ap (λ (w : World). w.closed) e.becomes ∙ is
      | inr (inr (inr (inr (inl e)))) ↦ ap (λ (w : World). w.closed) e.becomes ∙ is
      | inr (inr (inr (inr (inr e)))) ↦ ap (λ (w : World). w.closed) e.becomes ∙ is
    ]

pub events-closed : (old new : World) → old.closed ≡ true → Happen old new → new.closed ≡ true
events-closed old new is nothing_more = is
events-closed old new is (one_more {mid = mid} event more) = events-closed mid new (event-closed old mid is event) more
