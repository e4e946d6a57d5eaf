-- The parts of a full backup, one after the other, and of one that only starts.
use Rattle.std.proofs.Common.{◌≡◌, ℕ, true, List, [], ◌∷◌, ◌++◌, Option, Some, None, sym, ◌∙◌, ap, subst}
use Rattle.std.specs.List.{AllByRecursion}
use Rattle.bk_acts.specs.declared.act.StoredAct.TheVariants.{Checkpointed, Logged as LoggedAct, Based}
use Rattle.bk_machine.specs.declared.history_row.HistoryRow.TheVariants.{Backup}
use Rattle.bk_machine.specs.declared.job.Job.{Job}
use Rattle.bk_machine.specs.Checks.{is_path}
use Rattle.bk_kept.specs.declared.kept.Database.{Database as KeptDatabase}
use Rattle.bk_plans.specs.declared.parts.Part.{Part}
use Rattle.bk_plans.specs.declared.parts.Part.TheVariants.{Stored, SetSealed, Noted, JobBegun}
use Rattle.bk_media_plans.specs.Backups.{BasesOne, IsBackup, IsStart, MarksOne, NotesOne, SealsOne, StampsOne, draws_part}
use Rattle.bk_plans.specs.Planning.{KeepsPart}

pub backup-of : (d : KeptDatabase) (sets : Option ℕ) (job : Job) (none one two three four five all : List Part) → none ≡ [] → one ≡ none ++ draws_part sets job.medium ∷ []
    → MarksOne d job.start one two → StampsOne d job.set job.start two three → SealsOne d job three four → NotesOne d sets job four five → BasesOne d job five all → IsBackup d sets job all
backup-of d sets job none one two three four five all empty made start finish sealed noted based = record {
  kept = start.kept;
  finish = finish.records;
  header = sealed.header;
  position = noted.position;
  row_header = noted.header;
  base = based.header;
  are =
      based.are
      ∙ ap (λ (ps : List Part). ps ++ Stored (Based d.name based.header) ∷ []) (noted.are
      ∙ ap (λ (ps : List Part). ps ++ Noted (Backup (record { position = noted.position; header = noted.header })) ∷ []) (sealed.are
      ∙ ap (λ (ps : List Part). ps ++ SetSealed job.medium sealed.header ∷ []) (finish.are
      ∙ ap (λ (ps : List Part). ps ++ Stored (LoggedAct d.name d.transactions finish.records) ∷ []) (start.are
      ∙ ap (λ (ps : List Part). ps ++ Stored (Checkpointed d.name job.start start.kept) ∷ []) (made ∙ ap (λ (ps : List Part). ps ++ draws_part sets job.medium ∷ []) empty)))));
  kept_is = start.kept_is;
  spell = finish.spell;
  keep = finish.keep;
  is_header = sealed.is;
  position_is = noted.position_is;
  is_row = noted.is;
  is_base = based.is;
  keeps = sealed.keeps;
  row_keeps = noted.keeps;
}

pub start-of : (d : KeptDatabase) (sets : Option ℕ) (job : Job) (none one two all : List Part) → none ≡ [] → one ≡ none ++ draws_part sets job.medium ∷ [] → MarksOne d job.start one two
    → all ≡ two ++ JobBegun d.name job ∷ [] → IsStart d sets job all
start-of d sets job none one two all empty made start begun = record {
  kept = start.kept;
  are =
      begun
      ∙ ap (λ (ps : List Part). ps ++ JobBegun d.name job ∷ []) (start.are
      ∙ ap (λ (ps : List Part). ps ++ Stored (Checkpointed d.name job.start start.kept) ∷ []) (made ∙ ap (λ (ps : List Part). ps ++ draws_part sets job.medium ∷ []) empty));
  kept_is = start.kept_is;
}

draws-keeps : (path : List ℕ) (sets : Option ℕ) → is_path path ≡ true → KeepsPart (draws_part sets path)
draws-keeps path None fits = fits
draws-keeps path (Some sets) fits = tt

pub parts-keep : (d : KeptDatabase) (sets : Option ℕ) (job : Job) (parts : List Part) → is_path job.medium ≡ true → IsBackup d sets job parts → AllByRecursion KeepsPart parts
parts-keep d sets job parts fits b = subst (AllByRecursion KeepsPart) (sym b.are) (draws-keeps job.medium sets fits, (tt, (b.keep, ((fits, b.keeps), (b.row_keeps, (tt, tt))))))

pub start-keeps : (d : KeptDatabase) (sets : Option ℕ) (job : Job) (parts : List Part) → is_path job.medium ≡ true → IsStart d sets job parts → AllByRecursion KeepsPart parts
start-keeps d sets job parts fits b = subst (AllByRecursion KeepsPart) (sym b.are) (draws-keeps job.medium sets fits, (tt, (fits, tt)))
