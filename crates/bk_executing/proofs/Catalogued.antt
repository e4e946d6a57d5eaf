-- What is answered where system rows are selected, and what is known of that statement.
use Rattle.std.proofs.Common.{◌≡◌, ◌∙◌, ℕ, Ok, Err, Option, refl, sym, ap}
use Rattle.bk_device.specs.Calls.{ChangesNothing}
use Rattle.bk_device.specs.Disk.{Disk, Files, IsLawful}
use Rattle.bk_engine.specs.Rows.{rows_in}
use Rattle.bk_engine.specs.Stands.{Kept, StandsFor}
use Rattle.bk_items.specs.declared.item.Catalog.{Catalog}
use Rattle.bk_items.specs.declared.item.ScriptEntry.{ScriptEntry}
use Rattle.bk_items.specs.declared.item.ScriptItem.TheVariants as script
use Rattle.bk_machine.specs.Checks.{Checked, or_refuse}
use Rattle.bk_machine.specs.Machine.{May}
use Rattle.bk_machine.specs.Outcome.{ComesTo, answered}
use Rattle.bk_machine.specs.World.{World}
use Rattle.bk_machine.specs.statements.Catalog.{DoesSelectCatalog, check_catalog, rows_of}
use Rattle.bk_msdb.specs.Laws.{one_tables}
use Rattle.bk_msdb.specs.Msdb.{Shows}
use Rattle.bk_msdb.specs.Rows.{Tables}
use Rattle.bk_plans.specs.declared.parts.Plan.TheVariants as plan
use Rattle.bk_world.specs.declared.reply.Listing.{Listing}
use Rattle.bk_world.specs.declared.reply.Reply.{Reply}
use Rattle.bk_world.specs.declared.rule.Rule.TheVariants.{NotBuilt}
use Rattle.bk_executing.specs.Listing.{listed}
use Rattle.bk_executing.specs.Planned.{IsPlanned}
use Rattle.bk_executing.proofs.Planned.{Knows}

-- ---- the rows

pub backups-are : (w : World) (tables : Tables) → rows_in w ≡ tables → tables.backups ≡ w.backups
unfolding rows_in
backups-are w tables same = ap (λ (t : Tables). t.backups) (sym same)

pub restores-are : (w : World) (tables : Tables) → rows_in w ≡ tables → tables.restores ≡ w.restores
unfolding rows_in
restores-are w tables same = ap (λ (t : Tables). t.restores) (sym same)

pub marks-are : (w : World) (tables : Tables) → rows_in w ≡ tables → tables.marks ≡ w.marks
unfolding rows_in
marks-are w tables same = ap (λ (t : Tables). t.marks) (sym same)

-- what was read is what is found
pub rows-listed : (files : Files) (w : World) (line : ℕ) (catalog : Catalog) (tables : Tables) (listing : Option Listing) (answer : Reply) → Shows files tables → Shows files (rows_in w) → ((u : World) → rows_in u ≡ tables → listing ≡ rows_of u catalog)
    → answer ≡ listed (or_refuse listing (NotBuilt line)) → answer ≡ listed (check_catalog w line catalog)
unfolding check_catalog
rows-listed files w line catalog tables listing answer shows are found is = is ∙ ap (λ (o : Option Listing). listed (or_refuse o (NotBuilt line))) (found w (one_tables files (rows_in w) tables are shows))

-- ---- the statement

-- a SELECT on a line
abbrev pub selecting : ℕ → Catalog → ScriptEntry
selecting line catalog = record { item = script.SelectCatalog catalog; line = line }

-- this is what it comes to in a world
abbrev pub IsListing : ℕ → Catalog → Reply → World → Type 0
IsListing line catalog answer w = answer ≡ listed (check_catalog w line catalog)

catalog-may : (w : World) (line : ℕ) (catalog : Catalog) (now : ℕ) (answer : Reply) → IsListing line catalog answer w → May w (selecting line catalog) now (answered answer)
unfolding May
catalog-may w line catalog now answer is = by (check_catalog w line catalog) is
  where
    by : (checked : Checked Listing) → answer ≡ listed checked → ComesTo checked DoesSelectCatalog (answered answer)
    by (Ok found) same = ap (λ (r : Reply). answered r) same
    by (Err rule) same = ap (λ (r : Reply). answered r) same

-- it is planned to answer so
pub catalog-planned : (e : Kept) (line : ℕ) (catalog : Catalog) (now : ℕ) (answer : Reply) → IsPlanned e (IsListing line catalog answer) (selecting line catalog) now (plan.Answered answer)
catalog-planned e line catalog now answer = record { outcome = answered answer; replies = refl; may = λ w sound has known. catalog-may w line catalog now answer known; acts = λ w sound has known. refl }

pub knows-catalog : {tells : Type 0} (e : Kept) (a b : Disk) (line : ℕ) (catalog : Catalog) (now : ℕ) (answer : Reply) → (tells → IsLawful a) → (tells → ChangesNothing a b) → (tells → (w : World) → StandsFor a e w → IsListing line catalog answer w)
    → Knows tells e a b (IsListing line catalog answer) (plan.Answered answer) (selecting line catalog) now (catalog-planned e line catalog now answer).outcome
unfolding catalog-planned
knows-catalog e a b line catalog now answer lawful call known = record { lawful = lawful; call = call; known = known; may = λ w sound may. tt; sets = λ w sound may acts. tt }
