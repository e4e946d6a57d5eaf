-- Worlds with the same databases, whose logs are the same.
use Rattle.std.proofs.Common.{◌≡◌, List, refl, ◌∙◌, subst}
use Rattle.std.specs.List.{AllByRecursion}
use Rattle.bk_lemmas.specs.Lists.{all_both}
use Rattle.bk_machine.specs.Same.{SameLogs}
use Rattle.bk_machine.specs.SettledLaws.{logs-same}
use Rattle.bk_machine.specs.World.{Database, World, ended, log_of, opened}

pub same-on : (a b c : World) → SameLogs a b → SameLogs b c → SameLogs a c
same-on a b c first second =
    let OfLogs : List Database → Type 0 = AllByRecursion (λ (db : Database). log_of c.history db ≡ log_of b.history db) in record {
      databases = second.databases ∙ first.databases;
      logs = all_both (λ (db : Database). log_of b.history db ≡ log_of a.history db) (λ (db : Database). log_of c.history db ≡ log_of b.history db) (λ (db : Database). log_of c.history db ≡ log_of a.history db)
          (λ db one two. two ∙ one) a.databases first.logs (subst OfLogs first.databases second.logs);
    }

pub same-opened : (w : World) → SameLogs w (opened w)
unfolding opened
same-opened w = logs-same w (opened w) refl refl

pub same-ended : (w : World) → SameLogs w (ended w)
unfolding ended
same-ended w = logs-same w (ended w) refl refl
