-- What a crash leaves of a database, and of all of them.
use Rattle.std.proofs.Common.{◌≡◌, ◌≢◌, ◌<◌, ◌≤◌, ◌⊎◌, inl, inr, ℕ, zero, suc, ◌+◌, Bool, true, false, List, [], ◌∷◌, ◌++◌, length, Option, None, refl, sym, ap, subst, leb, arith}
use Rattle.std.specs.Prelude.{Contains, reverse}
use Rattle.std.specs.List.{AllByRecursion}
use Rattle.std.proofs.lemmas.Bool.Decides.{nat_tests}
use Rattle.std.proofs.lemmas.List.Elements.{Contains-append_left}
use Rattle.bk_ids.specs.Path.{branch_at, last_branch}
use Rattle.bk_ids.specs.declared.guid.Guid.{Guid}
use Rattle.bk_ids.specs.declared.path.Branch.{Branch}
use Rattle.bk_world.specs.Cut.{IsCutLog, end_behind, settled}
use Rattle.bk_world.specs.Lines.{MayGoOn, log_below}
use Rattle.bk_lemmas.specs.Lists.{all_mapped}
use Rattle.bk_world.specs.Pending.{Pending, pending}
use Rattle.bk_world.specs.Records.{Counts, Logged, numbered}
use Rattle.bk_world.specs.Says.{settle_said, undoing}
use Rattle.bk_world.specs.Telling.{tables}
use Rattle.bk_world.specs.Rows.{tables_of}
use Rattle.bk_world.specs.declared.database.FileSpec.{FileSpec}
use Rattle.bk_world.specs.declared.database.Status.TheVariants.{Online}
use Rattle.bk_world.specs.CrashLaws.{left-counts, left-pends, left-sound, left-tells}
use Rattle.bk_world.specs.BranchLaws.{branch_at-last}
use Rattle.bk_machine.specs.JoinLaws.{placed-join}
use Rattle.bk_machine.specs.Checks.{last_number}
use Rattle.bk_machine.specs.Fits.{FitsLog, FitsSet}
use Rattle.bk_machine.specs.Sound.{AreNumbered, ArePlaced, IsLog, IsNotToCome, IsOnline, IsPassed, IsWholeDatabase, OpenBy, has_begin, storage_of}
use Rattle.bk_machine.specs.World.{Database, World, log_of}
use Rattle.bk_machine.specs.SettledLaws.{counts-end}
use Rattle.bk_machine.proofs.ActsLogs.{placed-front}
use Rattle.bk_machine.proofs.Fitting.{fits-told}

-- ---- numbers

pub counts-below : (n end : ℕ) (rs : List Logged) → Counts n rs end → AllByRecursion (λ r. r.lsn < end) rs
counts-below n end [] counts = tt
counts-below n end (r ∷ rs) counts =
    let later : end ≡ (n + 1) + length rs = counts-end (n + 1) end rs counts.1 in
    (omega (arith, later, counts.0), counts-below (n + 1) end rs counts.1)

-- ---- one of a list

pub of-contained : {X : Type 0} (P : X → Type 0) (xs : List X) (x : X) → AllByRecursion P xs → Contains xs x → P x
of-contained P [] x all there = absurd (omega (arith, there.1))
of-contained {X = X} P (y ∷ xs) x all (zero, lt, is) = subst P is all.0
of-contained {X = X} P (y ∷ xs) x all (suc k, lt, is) = of-contained P xs x all.1 (k, omega (arith, lt), is)

-- a record of no transaction is none of those that are lost
pub none-lost : (kept lost : List Logged) (r : Logged) → AllByRecursion (λ (s : Logged). 0 < s.begin) lost → r.begin ≡ 0 → Contains (kept ++ lost) r → Contains kept r
none-lost [] lost r some none there = let one : 0 < r.begin = of-contained (λ (s : Logged). 0 < s.begin) lost r some there in absurd (omega (arith, one, none))
none-lost (s ∷ kept) lost r some none (zero, lt, is) = (zero, omega arith, is)
none-lost (s ∷ kept) lost r some none (suc k, lt, is) =
    let rest : Contains kept r = none-lost kept lost r some none (k, omega (arith, lt), is) in (suc rest.0, omega (arith, rest.1), rest.2)

-- ---- places

pub placed-undoing : (files : List FileSpec) (before : List Logged) (n : ℕ) (ws : List Pending) → ArePlaced files before (numbered n (undoing ws))
placed-undoing files before n [] = tt
placed-undoing files before n (w ∷ ws) = (tt, placed-undoing files (before ++ numbered n (undoing (w ∷ []))) (n + 1) ws)

placed-settled : (files : List FileSpec) (kept : List Logged) → ArePlaced files [] kept → ArePlaced files [] (settled kept)
unfolding settled
placed-settled files kept placed = placed-join files [] kept (numbered (end_behind kept) (settle_said (pending kept))) placed (placed-undoing files kept (end_behind kept) (reverse (pending kept)))

-- ---- a log that is cut

module _ (files : List FileSpec) (begins : List ℕ) (rs left : List Logged) (end : ℕ) (cut : IsCutLog begins rs left) (is : IsLog files rs end) where
  counts-rs : Counts 1 rs (end_behind rs)
  counts-rs = subst (Counts 1 rs) (counts-end 1 end rs is.counts) is.counts

  tables-left : tables left ≡ tables rs
  unfolding tables
  tables-left = ap tables_of (left-tells begins rs left cut)

  pub log-left : IsLog files left (end_behind left)
  log-left = record {
    counts = left-counts begins rs left cut counts-rs;
    sound = left-sound begins rs left cut is.sound counts-rs;
    tables = subst (AreNumbered 1) (sym tables-left) is.tables;
    places = subst (ArePlaced files []) (sym cut.is) (placed-settled files cut.kept (placed-front files [] cut.kept cut.lost (subst (ArePlaced files []) cut.splits is.places)));
  }

  -- what is of no transaction stays
  pub contained-left : (r : Logged) → AllByRecursion (λ (s : Logged). 0 < s.begin) cut.lost → r.begin ≡ 0 → Contains rs r → Contains left r
  unfolding settled
  contained-left r some none there =
      let OfLog : List Logged → Type 0 = λ log. Contains log r in
      subst OfLog (sym cut.is) (Contains-append_left cut.kept (numbered (end_behind cut.kept) (settle_said (pending cut.kept))) r (none-lost cut.kept cut.lost r some none (subst OfLog cut.splits there)))

-- ---- a database

-- a database behind a crash, up to an end
abbrev pub behind_crash : Database → ℕ → Database
behind_crash db end = record db { job = None; transactions = []; end = end }

module _ (cut left : World) (passed : (b : Option Guid) (k : ℕ) → IsPassed cut.history b k → IsPassed left.history b k)
    (drawn : (g : Guid) → IsNotToCome cut g → IsNotToCome left g)
    (old : Database) (is : IsWholeDatabase cut old) where
  path-drawn : AllByRecursion (λ (b : Branch). IsNotToCome left b.guid) old.path
  path-drawn = all_mapped (λ (b : Branch). IsNotToCome cut b.guid) (λ (b : Branch). IsNotToCome left b.guid) (λ b one. drawn b.guid one) old.path is.drawn

  -- what is held stays held, up to its end
  held-below : (k : ℕ) → 0 < k → k < old.end → ((old.status ≡ Online) × (branch_at old.path k ≡ last_branch old.path)) ⊎ IsPassed left.history (branch_at old.path k) k
  held-below k pos lt = elim (is.held k pos lt) [ inl here ↦ inl here | inr one ↦ inr (passed (branch_at old.path k) k one) ]

  -- one that is online
  module _ (begins : List ℕ) (end : ℕ) (up : old.status ≡ Online) (log : IsCutLog begins (log_below cut.history old.path old.end) (log_below left.history old.path end))
      (of_some : AllByRecursion (λ (r : Logged). 0 < r.begin) log.lost) (at_end : end ≡ end_behind (log_below left.history old.path end)) (goes_on : MayGoOn left.history old.path end) where
    log-online : IsLog old.files (log_below left.history old.path end) end
    unfolding log_of
    log-online = subst (IsLog old.files (log_below left.history old.path end)) (sym at_end) (log-left old.files begins (log_below cut.history old.path old.end) (log_below left.history old.path end) old.end log is.log)

    anchored : IsOnline left.history (behind_crash old end)
    unfolding log_of
    anchored =
        let anchor = (is.online up).anchor in record {
          goes_on = goes_on;
          anchor = (anchor.0, contained-left old.files begins (log_below cut.history old.path old.end) (log_below left.history old.path end) old.end log is.log anchor.0 of_some anchor.2 anchor.1, anchor.2, anchor.3);
          holds = (let held = (is.online up).holds in (held.0, contained-left old.files begins (log_below cut.history old.path old.end) (log_below left.history old.path end) old.end log is.log held.0 of_some held.2 held.1, held.2, held.3));
        }

    starts-online : AllByRecursion (λ (b : Branch). b.start < end) old.path
    unfolding log_of
    starts-online =
        let anchor = anchored.anchor in
        let below : anchor.0.lsn < end = of-contained (λ (r : Logged). r.lsn < end) (log_below left.history old.path end) anchor.0 (counts-below 1 end (log_below left.history old.path end) log-online.counts) anchor.1 in
        all_mapped (λ (b : Branch). b.start ≤ anchor.0.lsn) (λ (b : Branch). b.start < end) (λ b le. omega (arith, le, below)) old.path anchor.3

    kept-online : old.kept ≤ end
    unfolding log_of
    kept-online =
        let held = anchored.holds in
        let below : held.0.lsn < end = of-contained (λ (r : Logged). r.lsn < end) (log_below left.history old.path end) held.0 (counts-below 1 end (log_below left.history old.path end) log-online.counts) held.1 in
        omega (arith, below, held.3)

    fits-online : FitsLog (length old.groups) (log_below left.history old.path end)
    unfolding log_of
    fits-online =
        fits-told (length old.groups) (log_below cut.history old.path old.end) (log_below left.history old.path end)
        (left-tells begins (log_below cut.history old.path old.end) (log_below left.history old.path end) log) is.fits.log

    pub whole-online : IsWholeDatabase left (behind_crash old end)
    unfolding log_of
    whole-online = record {
      log = log-online;
      path = is.path;
      starts = starts-online;
      kept = kept-online;
      drawn = path-drawn;
      family = drawn old.family is.family;
      job = tt;
      held = λ k pos lt. held k pos (leb old.end k) refl;
      online = λ e. anchored;
      fits = record { storage = is.fits.storage; branches = is.fits.branches; log = fits-online };
    }
      where
        held : (k : ℕ) → 0 < k → (t : Bool) → leb old.end k ≡ t → ((old.status ≡ Online) × (branch_at old.path k ≡ last_branch old.path)) ⊎ IsPassed left.history (branch_at old.path k) k
        held k pos true e =
            inl (up, branch_at-last old.path old.end k (all_mapped (λ (b : Branch). b.start < old.end) (λ (b : Branch). b.start ≤ old.end) (λ b lt. omega (arith, lt)) old.path is.starts) (grind (arith, nat_tests, e)))
        held k pos false e = held-below k pos (grind (arith, nat_tests, e))

    -- nothing is open in it
    pub open-online : end ≤ last_number → OpenBy left.history (behind_crash old end)
    unfolding log_of
    open-online within =
        let none : pending (log_below left.history old.path end) ≡ [] = left-pends begins (log_below cut.history old.path old.end) (log_below left.history old.path end) log in
        let OfPending : List Pending → Type 0 = AllByRecursion (λ (w : Pending). has_begin [] w.begin ≡ true) in
        let OfLoads : List Pending → Type 0 = AllByRecursion (λ (w : Pending). w.extents ≡ []) in record {
          online = λ e. record { pending = subst OfPending (sym none) tt; loads = subst OfLoads (sym none) tt; apart = tt; begins = tt; few = tt; seats = tt; kept = tt; numbers = (let nothing : length (pending (log_below left.history old.path end)) ≡ 0 = ap length none in omega (arith, nothing, within)) };
          offline = λ e. record { job = refl; transactions = refl };
          job = tt;
          keeps = record { begins = tt; job = tt };
        }

  -- one that isn't
  module _ (down : old.status ≢ Online) (same : log_below left.history old.path old.end ≡ log_below cut.history old.path old.end) where
    pub whole-offline : IsWholeDatabase left (behind_crash old old.end)
    unfolding log_of
    whole-offline =
        let OfLog : List Logged → Type 0 = λ rs. IsLog old.files rs old.end in record {
          log = subst OfLog (sym same) is.log;
          path = is.path;
          starts = is.starts;
          kept = is.kept;
          drawn = path-drawn;
          family = drawn old.family is.family;
          job = tt;
          held = held-below;
          online = λ up. absurd (down up);
          fits = subst (FitsSet (storage_of old) old.path) (sym same) is.fits;
        }

    pub open-offline : OpenBy left.history (behind_crash old old.end)
    open-offline = record { online = λ up. absurd (down up); offline = λ e. record { job = refl; transactions = refl }; job = tt; keeps = record { begins = tt; job = tt } }
