-- Worlds with the same databases, whose logs are the same.
use Rattle.std.proofs.Common.{◌≡◌, inr, ℕ, List, Option, refl, sym, ◌∙◌, ap, subst, Bool}
use Rattle.std.specs.List.{AllByRecursion}
use Rattle.bk_world.specs.Lines.{Grew}
use Rattle.bk_lemmas.specs.Lists.{all_mapped}
use Rattle.bk_world.specs.declared.header.Header.{Header}
use Rattle.bk_world.specs.GrowthLaws.{records-grown}
use Rattle.bk_machine.specs.declared.history_row.HistoryRow.{HistoryRow}
use Rattle.bk_machine.specs.Acts.{done, medium_made, set_drawn, noted, seated, set_sealed, turned, readied}
use Rattle.bk_machine.specs.Events.{MediumAdded, MediumChanged, MediumRemoved, StandbyRemoved}
use Rattle.bk_machine.specs.Same.{SameLogs}
use Rattle.bk_machine.specs.SettledLaws.{logs-same}
use Rattle.bk_machine.specs.Sound.{AreIdle, IsIdle, IsSound, IsWhole, IsWholeDatabase}
use Rattle.bk_machine.specs.World.{Database, World, log_of, restarted}
use Rattle.bk_machine.proofs.Lasting.{event-grows}

-- where the history has grown, logs are the same
same-grown : (old new : World) → IsWhole old → new.databases ≡ old.databases → Grew old.history new.history → SameLogs old new
unfolding log_of
same-grown old new is databases grew = record {
  databases = databases;
  logs = all_mapped (IsWholeDatabase old) (λ (db : Database). log_of new.history db ≡ log_of old.history db) (λ db one. records-grown old.history new.history grew db.path db.end one.log.counts) old.databases is.databases;
}

pub same-reflexive : (w : World) → SameLogs w w
same-reflexive w = logs-same w w refl refl

pub same-idle : (old new : World) → SameLogs old new → AreIdle old → AreIdle new
same-idle old new same idle = subst (AllByRecursion IsIdle) (sym same.databases) idle

-- acts

pub same-turned : (w : World) (name : Option (List ℕ)) → SameLogs w (done w (turned name))
unfolding done
same-turned w name = logs-same w (done w (turned name)) refl refl

pub same-seated : (w : World) (session : ℕ) → SameLogs w (done w (seated session))
unfolding done
same-seated w session = logs-same w (done w (seated session)) refl refl

pub same-medium_made : (w : World) (path : List ℕ) → SameLogs w (done w (medium_made path))
unfolding done
same-medium_made w path = logs-same w (done w (medium_made path)) refl refl

pub same-readied : (w : World) (starts : Bool) → SameLogs w (done w (readied starts))
unfolding done
same-readied w starts = logs-same w (done w (readied starts)) refl refl

pub same-set_drawn : (w : World) → SameLogs w (done w set_drawn)
unfolding done
same-set_drawn w = logs-same w (done w set_drawn) refl refl

pub same-noted : (w : World) (row : HistoryRow) → SameLogs w (done w (noted row))
unfolding done
same-noted w row = logs-same w (done w (noted row)) refl refl

pub same-sealed : (w : World) (path : List ℕ) (header : Header) → SameLogs w (done w (set_sealed path header))
unfolding done
same-sealed w path header = logs-same w (done w (set_sealed path header)) refl refl

-- runs

pub same-restarted : (counter : ℕ) (w : World) → SameLogs w (restarted counter w)
unfolding restarted
same-restarted counter w = logs-same w (restarted counter w) refl refl

-- events

same-databases : (old new later : World) → new ≡ later → later.databases ≡ old.databases → new.databases ≡ old.databases
same-databases old new later is same = ap (λ (w : World). w.databases) is ∙ same

same-lines : (old new later : World) → new ≡ later → later.history ≡ old.history → new.history ≡ old.history
same-lines old new later is same = ap (λ (w : World). w.history) is ∙ same

pub same-medium_removed : (old new : World) → IsSound old → MediumRemoved old new → SameLogs old new
same-medium_removed old new is e = logs-same old new (same-databases old new _ e.becomes refl) (same-lines old new _ e.becomes refl)

pub same-standby_removed : (old new : World) → IsSound old → StandbyRemoved old new → SameLogs old new
same-standby_removed old new is e = logs-same old new (same-databases old new _ e.becomes refl) (same-lines old new _ e.becomes refl)

pub same-medium_changed : (old new : World) → IsSound old → MediumChanged old new → SameLogs old new
same-medium_changed old new is e = logs-same old new (same-databases old new _ e.becomes refl) (same-lines old new _ e.becomes refl)

pub same-medium_added : (old new : World) → IsSound old → MediumAdded old new → SameLogs old new
same-medium_added old new is e = same-grown old new is.whole (same-databases old new _ e.becomes refl) (event-grows old new is (inr (inr (inr (inr (inr e))))))
