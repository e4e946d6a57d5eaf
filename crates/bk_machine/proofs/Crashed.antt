-- A crash leaves sound worlds.
use Rattle.std.proofs.Common.{◌≡◌, ◌≢◌, ℕ, List, [], ◌∷◌, Option, refl, sym, ◌∙◌, ap, subst, arith, None}
use Rattle.std.specs.List.{AllByRecursion, AllZip}
use Rattle.bk_ids.specs.declared.guid.Guid.{Guid}
use Rattle.bk_ids.specs.declared.path.Branch.{Branch}
use Rattle.bk_world.specs.Lines.{RecordLine, log_below}
use Rattle.bk_lemmas.specs.Lists.{all_mapped}
use Rattle.bk_world.specs.Medium.{Reading}
use Rattle.bk_world.specs.Telling.{entries}
use Rattle.bk_world.specs.declared.database.Status.{Status}
use Rattle.bk_world.specs.declared.database.Status.TheVariants.{Online, Standby, Down}
use Rattle.bk_world.specs.declared.header.Header.{Header}
use Rattle.bk_world.specs.CrashLaws.{left-tells}
use Rattle.bk_machine.specs.Crash.{DatabaseLeft, LineLeft, OfflineLeft, OnlineLeft, StatusLeft, WorldLeft, open_begins}
use Rattle.bk_machine.specs.JobLaws.{without-one}
use Rattle.bk_machine.specs.Sound.{AreDifferent, AreIdle, Differ, IsHeld, IsIdle, IsNotToCome, IsPassed, IsSound, IsSoundLine, IsSoundReading, IsSoundSet, IsWhole, IsWholeDatabase, OpenBy}
use Rattle.bk_machine.specs.World.{Database, World, log_of}
use Rattle.bk_machine.proofs.ActsStay.{media-there, set-there}
use Rattle.bk_machine.proofs.Histories.{not_to_come-later}
use Rattle.bk_machine.proofs.Left.{behind_crash, open-offline, open-online, whole-offline, whole-online}
use Rattle.bk_machine.proofs.Lost.{held-left, once-left, passed-left, reads-left}

-- one of two lists, element by element
pub zipped : {A B : Type 0} (P : A → Type 0) (R : A → B → Type 0) (Q : B → Type 0) → ((a : A) (b : B) → P a → R a b → Q b) → (xs : List A) (ys : List B) → AllByRecursion P xs → AllZip R xs ys → AllByRecursion Q ys
zipped P R Q leads [] [] all each = tt
zipped P R Q leads [] (y ∷ ys) all each = absurd each
zipped P R Q leads (x ∷ xs) [] all each = absurd each
zipped P R Q leads (x ∷ xs) (y ∷ ys) all each = (leads x y all.0 each.0, zipped P R Q leads xs ys all.1 each.1)

paired : {A B : Type 0} (R S : A → B → Type 0) → ((a : A) (b : B) → R a b → S a b) → (xs : List A) (ys : List B) → AllZip R xs ys → AllZip S xs ys
paired R S leads [] [] each = tt
paired R S leads [] (y ∷ ys) each = absurd each
paired R S leads (x ∷ xs) [] each = absurd each
paired R S leads (x ∷ xs) (y ∷ ys) each = (leads x y each.0, paired R S leads xs ys each.1)

-- a fact of all holds of nothing that is known
nothing_known : {A : Type 0} (xs : List A) → AllByRecursion (λ a. Unit {0}) xs
nothing_known [] = tt
nothing_known (x ∷ xs) = (tt, nothing_known xs)

standby-down : (file : _) → Standby file ≢ Online
standby-down file = λ same. cc

module _ (before whole cut left : World) (l : WorldLeft before whole cut left) where
  -- what is left of databases that differ differs
  differ-first : (a b other : Database) → DatabaseLeft before whole cut left a b → Differ a other → Differ b other
  differ-first a b other one is =
      let name : b.name ≡ a.name = ap (λ (d : Database). d.name) one.same in
      let status : b.status ≡ a.status = ap (λ (d : Database). d.status) one.same in
      let path : b.path ≡ a.path = ap (λ (d : Database). d.path) one.same in
      subst (λ (d : Database). Differ d other) (sym one.same) (record { names = is.names; branches = is.branches; sets = λ job some. without-one None job refl some })

  differ-second : (a b other : Database) → DatabaseLeft before whole cut left a b → Differ other a → Differ other b
  differ-second a b other one is = subst (λ (d : Database). Differ other d) (sym one.same) (record { names = is.names; branches = is.branches; sets = λ job one_runs other some. without-one None other refl some })

  different-left : (olds news : List Database) → AllZip (DatabaseLeft before whole cut left) olds news → AreDifferent olds → AreDifferent news
  different-left [] [] each all = tt
  different-left [] (n ∷ news) each all = absurd each
  different-left (o ∷ olds) [] each all = absurd each
  different-left (o ∷ olds) (n ∷ news) each all = (
    zipped (Differ o) (DatabaseLeft before whole cut left) (Differ n) (λ a b is one. differ-second a b n one (differ-first o n a each.0 is)) olds news all.0 each.1,
    different-left olds news each.1 all.1,
  )

  -- nothing is open
  idle-left : (olds news : List Database) → AllZip (DatabaseLeft before whole cut left) olds news → AllByRecursion IsIdle news
  idle-left olds news each =
      zipped (λ a. Unit {0}) (DatabaseLeft before whole cut left) IsIdle (λ a b known one. subst IsIdle (sym one.same) (record { job = refl; transactions = refl })) olds news (nothing_known olds) each

  pub crash-idle : AreIdle left
  crash-idle = idle-left cut.databases left.databases l.databases

  -- each database tells what it told
  database-tells : (old new : Database) → DatabaseLeft before whole cut left old new → entries (log_of left.history new) ≡ entries (log_of cut.history old)
  database-tells old new one = by old.status one.log
    where
      by : (s : Status) → StatusLeft s before whole cut left (open_begins before old) old new → entries (log_of left.history new) ≡ entries (log_of cut.history old)
      by Online is = left-tells (open_begins before old) (log_of cut.history old) (log_of left.history new) is.log
      by (Standby file) is = ap entries is.log
      by Down is = ap entries is.log

  pub crash-tells : AllZip (λ (old new : Database). entries (log_of left.history new) ≡ entries (log_of cut.history old)) cut.databases left.databases
  crash-tells = paired (DatabaseLeft before whole cut left) (λ (old new : Database). entries (log_of left.history new) ≡ entries (log_of cut.history old)) database-tells cut.databases left.databases l.databases

  module _ (is : IsWhole cut) where
    passed : (b : Option Guid) (k : ℕ) → IsPassed cut.history b k → IsPassed left.history b k
    passed = passed-left cut cut.history left.history is.lines l.lines

    pub crash-reads : (path : List Branch) (n : ℕ) → IsHeld cut.history path n → log_below left.history path n ≡ log_below cut.history path n
    crash-reads = reads-left cut cut.history left.history is.lines l.lines

    drawn : (g : Guid) → IsNotToCome cut g → IsNotToCome left g
    drawn g = not_to_come-later cut left g l.instance l.no_less

    -- each database, by what it was
    database-left : (old new : Database) → IsWholeDatabase cut old → DatabaseLeft before whole cut left old new → IsWholeDatabase left new × OpenBy left.history new
    unfolding log_of
    database-left old new was one = by old.status refl one.log
      where
        begins : List ℕ
        begins = open_begins before old

        OfDatabase : Database → Type 0
        OfDatabase db = IsWholeDatabase left db × OpenBy left.history db

        offline : old.status ≢ Online → OfflineLeft cut left old new → IsWholeDatabase left new × OpenBy left.history new
        offline down o =
            let OfNew : Database → Type 0 = OfflineLeft cut left old in
            let here : OfNew (behind_crash old new.end) = subst OfNew one.same o in
            let OfEnd : ℕ → Type 0 = λ end. OfDatabase (behind_crash old end) in
            let same : log_below left.history old.path old.end ≡ log_below cut.history old.path old.end = ap (log_below left.history old.path) (sym o.end) ∙ here.log in
            subst OfDatabase (sym one.same) (subst OfEnd (sym o.end) (whole-offline cut left passed drawn old was down same, open-offline cut left passed drawn old was down same))

        by : (s : Status) → old.status ≡ s → StatusLeft s before whole cut left (open_begins before old) old new → IsWholeDatabase left new × OpenBy left.history new
        by Online up o =
            let OfNew : Database → Type 0 = OnlineLeft before whole cut left (open_begins before old) old in
            let here : OfNew (behind_crash old new.end) = subst OfNew one.same o in
            subst OfDatabase (sym one.same) (
              whole-online cut left passed drawn old was begins new.end up here.log here.of_some here.end here.goes_on,
              open-online cut left passed drawn old was begins new.end up here.log here.of_some here.end here.goes_on here.numbers,
            )
        by (Standby file) down o = offline (λ up. let wrong : Standby file ≡ Online = sym down ∙ up in standby-down file wrong) o
        by Down down o = offline (λ up. let wrong : Down ≡ Online = sym down ∙ up in absurd (cc)) o

    each-left : AllByRecursion (λ (db : Database). IsWholeDatabase left db × OpenBy left.history db) left.databases
    each-left = zipped (IsWholeDatabase cut) (DatabaseLeft before whole cut left) (λ (db : Database). IsWholeDatabase left db × OpenBy left.history db) database-left cut.databases left.databases is.databases l.databases

    line-sound : (old new : RecordLine) → IsSoundLine cut old → LineLeft old new → IsSoundLine left new
    line-sound old new sound one = record { drawn = subst (IsNotToCome left) (sym one.branch) (drawn old.branch sound.drawn); rises = one.rises }

    set-left : (header : Header) → IsSoundSet cut header → IsSoundSet left header
    set-left header set =
        set-there cut left l.instance l.no_less header (crash-reads header.path header.last set.held) (held-left cut cut.history left.history is.lines l.lines header.path header.last set.held) set

    pub crash-sound : IsSound left
    crash-sound =
        let OfMedia : List (List ℕ × Reading) → Type 0 = AllByRecursion (λ (m : List ℕ × Reading). IsSoundReading left m.1) in record {
          whole = record {
            once = once-left cut.history left.history l.lines is.once;
            lines = zipped (IsSoundLine cut) LineLeft (IsSoundLine left) line-sound cut.history left.history is.lines l.lines;
            databases = all_mapped (λ (db : Database). IsWholeDatabase left db × OpenBy left.history db) (IsWholeDatabase left) (λ db both. both.0) left.databases each-left;
            different = different-left cut.databases left.databases l.databases is.different;
            media = subst OfMedia (sym l.media) (media-there cut left set-left cut.media is.media);
          };
          opens = all_mapped (λ (db : Database). IsWholeDatabase left db × OpenBy left.history db) (OpenBy left.history) (λ db both. both.1) left.databases each-left;
          seat = omega (arith, l.session);
        }
