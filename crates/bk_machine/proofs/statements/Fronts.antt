-- A front of what may be said may be said, and acts that are cut leave a whole world.
use Rattle.std.proofs.Common.{◌≡◌, ℕ, zero, suc, ◌+◌, List, [], ◌∷◌, ◌++◌, length, take, drop, Option, None, Some, refl, sym, ◌∙◌, ap, subst, append_assoc, inl, inr}
use Rattle.std.proofs.lemmas.List.{take-append-drop}
use Rattle.bk_world.specs.Pending.{pending}
use Rattle.bk_world.specs.ReadingLaws.{numbered-append}
use Rattle.bk_world.specs.Records.{Logged, Said, more, numbered, checkpointed}
use Rattle.bk_world.specs.Rows.{tables_of}
use Rattle.bk_world.specs.SoundLaws.{follow-front}
use Rattle.bk_world.specs.SoundLogs.{MayFollow}
use Rattle.bk_world.specs.Telling.{entries_from, tables}
use Rattle.std.specs.List.{AllByRecursion}
use Rattle.bk_machine.specs.Acts.{Act, turned, seated, created, dropped, logged, medium_made, set_drawn, noted, set_sealed, based, replaced, restored, recovered, done, done_all, says, where_found, readied, job_set, jobs_dropped}
use Rattle.bk_machine.specs.Crash.{front_of}
use Rattle.bk_machine.specs.Fits.{FitsLog}
use Rattle.bk_machine.specs.MayDo.{HoldsOf, MayDoAll, MayLog, MaySay, IsNoMark, MarksAlone}
use Rattle.bk_machine.specs.NamedLaws.{named-own}
use Rattle.bk_machine.specs.Sound.{AreNumbered, ArePlaced, IsWhole}
use Rattle.bk_world.specs.declared.transaction.Open.{Open}
use Rattle.bk_machine.specs.World.{World, Database, database_named, log_of}
use Rattle.bk_machine.proofs.ActsLogs.{placed-front, tables-more, numbered-front}
use Rattle.bk_machine.proofs.Fitting.{fits-front}
use Rattle.bk_machine.proofs.ActsSays.{says-whole}

-- ---- what is said

-- a front of it has no checkpoint, or it is all of it
front-none : (n : ℕ) (said : List Said) → AllByRecursion (λ (s : Said). IsNoMark s.deed) said → AllByRecursion (λ (s : Said). IsNoMark s.deed) (take n said)
front-none zero said none = tt
front-none (suc n) [] none = tt
front-none (suc n) (s ∷ said) none = (none.0, front-none n said none.1)

take-nothing : (n : ℕ) → let none : List Said = [] in take n none ≡ none
take-nothing zero = refl
take-nothing (suc n) = refl

front-marks : (n : ℕ) (said : List Said) → MarksAlone said → MarksAlone (take n said)
front-marks n said (inl none) = inl (front-none n said none)
front-marks zero said (inr (time, is)) = inl tt
front-marks (suc n) said (inr (time, is)) = inr (time, ap (take (suc n)) is ∙ ap (λ (rest : List Said). record { begin = 0; deed = checkpointed time } ∷ rest) (take-nothing n))

pub says-front : (w : World) (db : Database) (said : List Said) (n : ℕ) → MaySay w db said → MaySay w db (take n said)
says-front w db said n may =
    let rs : List Logged = log_of w.history db in
    let front : List Logged = numbered db.end (take n said) in
    let back : List Logged = numbered (db.end + length (take n said)) (drop n said) in
    let whole : numbered db.end said ≡ front ++ back = ap (numbered db.end) (sym (take-append-drop n said)) ∙ numbered-append db.end (take n said) (drop n said) in
    let made : tables (more rs db.end said) ≡ tables (rs ++ front) ++ tables_of (entries_from (pending (rs ++ front)) back) =
    ap (λ ss. tables (rs ++ ss)) whole ∙ (ap tables (sym (append_assoc rs front back)) ∙ tables-more (rs ++ front) back) in record {
      online = may.online;
      may = follow-front rs front back (subst (MayFollow rs) whole may.may);
      tables = numbered-front 1 (tables (rs ++ front)) _ (subst (AreNumbered 1) made may.tables);
      places = placed-front db.files rs front back (subst (ArePlaced db.files rs) whole may.places);
      fits = fits-front (length db.groups) (rs ++ front) back (subst (FitsLog (length db.groups)) (ap (λ ss. rs ++ ss) whole ∙ sym (append_assoc rs front back)) may.fits);
      marks = front-marks n said may.marks;
    }

-- ---- an act that is cut

-- a database says a front of what it may say
cut-says : (w : World) (name : List ℕ) (said : List Said) (transactions : List Open) (n : ℕ) → IsWhole w → HoldsOf (database_named w.databases name) (λ db. MayLog w db said transactions)
    → IsWhole (done w (logged name (take n said) transactions))
unfolding done
cut-says w name said transactions n whole may = by (database_named w.databases name) refl may
  where
    by : (o : Option Database) → database_named w.databases name ≡ o → HoldsOf o (λ db. MayLog w db said transactions) → IsWhole (where_found w o (λ db. says w db (take n said) transactions))
    by None is may = whole
    by (Some db) is may = says-whole w db (take n said) transactions whole (named-own w.databases name db is) (says-front w db said n may.says)

pub cut-whole : (w : World) (acts : List Act) (n : ℕ) → IsWhole w → MayDoAll w acts → IsWhole (done_all w (front_of n acts))
cut-whole w acts zero whole may = whole
cut-whole w [] (suc n) whole may = whole
cut-whole w (logged name said transactions ∷ acts) (suc n) whole may = cut-says w name said transactions (suc n) whole may.0
cut-whole w (turned name ∷ acts) (suc n) whole may = whole
cut-whole w (seated session ∷ acts) (suc n) whole may = whole
cut-whole w (readied starts ∷ acts) (suc n) whole may = whole
cut-whole w (created c ∷ acts) (suc n) whole may = whole
cut-whole w (dropped name ∷ acts) (suc n) whole may = whole
cut-whole w (medium_made path ∷ acts) (suc n) whole may = whole
cut-whole w (set_drawn ∷ acts) (suc n) whole may = whole
cut-whole w (set_sealed path header ∷ acts) (suc n) whole may = whole
cut-whole w (noted row ∷ acts) (suc n) whole may = whole
cut-whole w (based name header ∷ acts) (suc n) whole may = whole
cut-whole w (job_set name job ∷ acts) (suc n) whole may = whole
cut-whole w (jobs_dropped ∷ acts) (suc n) whole may = whole
cut-whole w (replaced name header ∷ acts) (suc n) whole may = whole
cut-whole w (restored name base redo ∷ acts) (suc n) whole may = whole
cut-whole w (recovered name r ∷ acts) (suc n) whole may = whole
