-- A database of which a front of its log stays: its last line is cut there, and what was pending is undone behind it.
use Rattle.std.proofs.Common.{◌≡◌, ◌<◌, ◌≤◌, ◌⊎◌, inl, inr, ℕ, zero, suc, ◌+◌, ◌-◌, Bool, true, false, cond, List, [], ◌∷◌, ◌++◌, length, reverse, Option, None, Some, refl, sym, ◌∙◌, ap, subst, eqb, filter, arith}
use Rattle.std.specs.Prelude.{Contains}
use Rattle.std.specs.List.{AllByRecursion, AllZip}
use Rattle.std.proofs.lemmas.Bool.Decides.{nat_tests}
use Rattle.std.proofs.lemmas.List.{length-append}
use Rattle.std.proofs.lemmas.List.Elements.{filter-append}
use Rattle.bk_ids.specs.Path.{branch_at, last_branch}
use Rattle.bk_ids.specs.declared.guid.Guid.{Guid}
use Rattle.bk_ids.specs.declared.path.Branch.{Branch}
use Rattle.bk_world.specs.Cut.{end_behind, settled}
use Rattle.bk_world.specs.History.{along, at_branch, is_guid}
use Rattle.bk_world.specs.Lines.{MayGoOn, RecordLine, RecordLines, has_record_line, line_on, log_below, logged_on, said_on, said_on_last}
use Rattle.bk_lemmas.specs.Lists.{all_filter, all_joined, all_mapped}
use Rattle.bk_world.specs.Pending.{Pending, pending}
use Rattle.bk_world.specs.Records.{Counts, Logged, Said, numbered}
use Rattle.bk_world.specs.Says.{settle_said, undoing}
use Rattle.bk_world.specs.Telling.{telling}
use Rattle.bk_world.specs.declared.database.Status.TheVariants.{Online}
use Rattle.bk_world.specs.ApartLaws.{along-on}
use Rattle.bk_world.specs.ElsewhereLaws.{along_at, guid_is, line_of-other}
use Rattle.bk_world.specs.BranchLaws.{branch_at-last}
use Rattle.bk_world.specs.SaidLaws.{filter-below, line_of-appended, records-said, numbered-below}
use Rattle.bk_world.specs.SettledLaws.{end-more}
use Rattle.bk_world.specs.SameLaws.{is_guid-refl}
use Rattle.bk_world.specs.CrashLaws.{counts-front as counts-start}
use Rattle.bk_machine.specs.JoinLaws.{rise-line}
use Rattle.bk_machine.specs.Crash.{IsUndoing, LineLeft}
use Rattle.bk_machine.specs.Sound.{IsPassed, IsSoundLine, IsWholeDatabase, RiseFrom}
use Rattle.bk_machine.specs.Stays.{MayStay}
use Rattle.bk_machine.specs.World.{Database, World, log_of}
use Rattle.bk_machine.proofs.Histories.{counts-front, log-front, rise-said}
use Rattle.bk_machine.specs.SettledLaws.{counts-end}
use Rattle.bk_machine.proofs.Left.{counts-below, none-lost, of-contained}
use Rattle.bk_machine.proofs.Lost.{at-first, at-passed, has-left}
use Rattle.bk_machine.proofs.Truncated.{all-below, at-below, below, from, from-each, rise-filter, rise-splits, same-front}

-- ---- a history with one line cut

abbrev cut_line : RecordLine → ℕ → RecordLine
cut_line line m = record { branch = line.branch; records = below m line.records }

abbrev cut_on : RecordLines → Guid → ℕ → RecordLines
cut_on [] branch m = []
cut_on (line ∷ lines) branch m = cond (is_guid line.branch branch) (cut_line line m ∷ lines) (line ∷ cut_on lines branch m)

on-cut : (h : RecordLines) (b : Guid) (m : ℕ) → (line_on (cut_on h b m) b).records ≡ below m (line_on h b).records
on-cut [] b m = refl
on-cut (line ∷ h) b m = by (is_guid line.branch b) refl (on-cut h b m)
  where
    by : (t : Bool) → is_guid line.branch b ≡ t → (line_on (cut_on h b m) b).records ≡ below m (line_on h b).records
        → (line_on (cond t (cut_line line m ∷ h) (line ∷ cut_on h b m)) b).records ≡ below m (cond t line (line_on h b)).records
    by true is later = ap (λ t. (cond t (cut_line line m) (line_on h b)).records) is
    by false is later = ap (λ t. (cond t line (line_on (cut_on h b m) b)).records) is ∙ later

off-cut : (h : RecordLines) (b : Guid) (m : ℕ) (g : Guid) → is_guid b g ≡ false → line_on (cut_on h b m) g ≡ line_on h g
off-cut [] b m g other = refl
off-cut (line ∷ h) b m g other = by (is_guid line.branch b) refl (off-cut h b m g other)
  where
    not_it : is_guid line.branch b ≡ true → is_guid line.branch g ≡ false
    not_it is = grind (arith, nat_tests, is, other)

    by : (t : Bool) → is_guid line.branch b ≡ t → line_on (cut_on h b m) g ≡ line_on h g → line_on (cond t (cut_line line m ∷ h) (line ∷ cut_on h b m)) g ≡ cond (is_guid line.branch g) line (line_on h g)
    by true is later = ap (λ t. cond t (cut_line line m) (line_on h g)) (not_it is) ∙ sym (ap (λ t. cond t line (line_on h g)) (not_it is))
    by false is later = ap (λ l. cond (is_guid line.branch g) line l) later

has-cut : (h : RecordLines) (b : Guid) (m : ℕ) (g : Guid) → has_record_line (cut_on h b m) g ≡ has_record_line h g
has-cut [] b m g = refl
has-cut (line ∷ h) b m g = by (is_guid line.branch b) (has-cut h b m g)
  where
    by : (t : Bool) → has_record_line (cut_on h b m) g ≡ has_record_line h g → has_record_line (cond t (cut_line line m ∷ h) (line ∷ cut_on h b m)) g ≡ has_record_line (line ∷ h) g
    by true later = refl
    by false later = ap (λ r. cond (is_guid line.branch g) true r) later

-- ---- numbers

all-undoing : (n : ℕ) (ws : List Pending) → AllByRecursion (λ (r : Logged). IsUndoing r.deed) (numbered n (undoing ws))
all-undoing n [] = tt
all-undoing n (w ∷ ws) = (tt, all-undoing (n + 1) ws)

-- ---- one database

module _ (before whole cut : World) (sound : AllByRecursion (IsSoundLine cut) cut.history) (db : Database) (is : IsWholeDatabase cut db) (up : db.status ≡ Online) (kept : List Logged)
    (stays : MayStay before whole cut db kept) where
  pub on : MayGoOn cut.history db.path db.end
  on = (is.online up).goes_on

  abbrev said : List Said
  said = settle_said (pending kept)

  -- its log, and the front that stays
  log_is : log_below cut.history db.path db.end ≡ kept ++ stays.front.lost
  unfolding log_of
  log_is = stays.front.splits

  counts : Counts 1 (log_below cut.history db.path db.end) db.end
  unfolding log_of
  counts = is.log.counts

  counts-kept : Counts 1 kept (end_behind kept)
  counts-kept = counts-start 1 db.end kept stays.front.lost (subst (λ rs. Counts 1 rs db.end) log_is counts)

  within : end_behind kept ≤ db.end
  within =
      let all : db.end ≡ 1 + length (log_below cut.history db.path db.end) = counts-end 1 db.end (log_below cut.history db.path db.end) counts in
      let parts : length (log_below cut.history db.path db.end) ≡ length kept + length stays.front.lost = ap length log_is ∙ length-append kept stays.front.lost in
      omega (arith, all, parts)

  starts : AllByRecursion (λ (b : Branch). b.start < end_behind kept) db.path
  unfolding log_of
  starts =
      let anchor = (is.online up).anchor in
      let there : Contains kept anchor.0 = none-lost kept stays.front.lost anchor.0 stays.front.of_some anchor.2 (subst (λ rs. Contains rs anchor.0) log_is anchor.1) in
      let lies : anchor.0.lsn < end_behind kept = of-contained (λ (r : Logged). r.lsn < end_behind kept) kept anchor.0 (counts-below 1 (end_behind kept) kept counts-kept) there in
      all_mapped (λ (b : Branch). b.start ≤ anchor.0.lsn) (λ (b : Branch). b.start < end_behind kept) (λ b le. omega (arith, le, lies)) db.path anchor.3

  starts-le : AllByRecursion (λ (b : Branch). b.start ≤ end_behind kept) db.path
  starts-le = all_mapped (λ (b : Branch). b.start < end_behind kept) (λ (b : Branch). b.start ≤ end_behind kept) (λ b lt. omega (arith, lt)) db.path starts

  -- from there on the path is on its last branch
  at-last : (k : ℕ) → end_behind kept ≤ k → branch_at db.path k ≡ Some on.branch
  at-last k le = branch_at-last db.path (end_behind kept) k starts-le le ∙ on.last

  -- what its last line has there is lost, and tells no entry
  quiet-lost : AllByRecursion (λ (r : Logged). telling r.deed ≡ None) (from (end_behind kept) (line_on cut.history on.branch).records)
  unfolding log_below
  quiet-lost = from-each (λ (r : Logged). telling r.deed ≡ None) (end_behind kept) db.end (line_on cut.history on.branch).records on.below each
    where
      each : (k : ℕ) → end_behind kept ≤ k → k < db.end → AllByRecursion (λ (r : Logged). telling r.deed ≡ None) (filter (λ r. eqb r.lsn k) (line_on cut.history on.branch).records)
      each k le lt =
          let one : filter (λ r. eqb r.lsn k) (along (logged_on cut.history) db.path db.end) ≡ filter (λ r. eqb r.lsn k) (line_on cut.history on.branch).records =
          along_at cut.history db.path db.end k lt ∙ ap (λ o. at_branch (logged_on cut.history) o k) (at-last k le) in
          let two : filter (λ r. eqb r.lsn k) (along (logged_on cut.history) db.path db.end) ≡ filter (λ r. eqb r.lsn k) stays.front.lost =
          ap (filter (λ r. eqb r.lsn k)) log_is ∙ filter-append (λ r. eqb r.lsn k) kept stays.front.lost
          ∙ ap (λ front. front ++ filter (λ r. eqb r.lsn k) stays.front.lost) (filter-below kept (end_behind kept) k (counts-below 1 (end_behind kept) kept counts-kept) le) in
          subst (AllByRecursion (λ (r : Logged). telling r.deed ≡ None)) (sym two ∙ one) (all_filter (λ (r : Logged). telling r.deed ≡ None) (λ r. eqb r.lsn k) stays.front.lost stays.front.quiet)

  -- so its line is left as a crash may leave it
  pub line-settled : LineLeft (line_on cut.history on.branch) (record { branch = (line_on cut.history on.branch).branch; records = below (end_behind kept) (line_on cut.history on.branch).records ++ numbered (end_behind kept) said })
  line-settled =
      let rs : List Logged = (line_on cut.history on.branch).records in
      let rise : RiseFrom 0 rs = rise-line cut cut.history on.branch sound in record {
        branch = refl;
        kept = below (end_behind kept) rs;
        lost = from (end_behind kept) rs;
        undoing = numbered (end_behind kept) said;
        splits = rise-splits (end_behind kept) 0 rs rise;
        quiet = quiet-lost;
        is = refl;
        rises = rise-said 0 (end_behind kept) (below (end_behind kept) rs) said (omega arith) (all-below (end_behind kept) rs) (rise-filter _ 0 rs rise);
        undoes = all-undoing (end_behind kept) (reverse (pending kept));
      }

  -- the log below the number is the front that stays
  front_is : log_below cut.history db.path (end_behind kept) ≡ kept
  front_is =
      let more : end_behind kept + (db.end - end_behind kept) ≡ db.end = omega (arith, within) in
      let rest = log-front cut.history db.path (end_behind kept) (db.end - end_behind kept) in
      let whole_log : log_below cut.history db.path db.end ≡ log_below cut.history db.path (end_behind kept) ++ rest.0 = ap (log_below cut.history db.path) (sym more) ∙ rest.1 in
      let counts_all : Counts 1 (log_below cut.history db.path (end_behind kept + (db.end - end_behind kept))) (end_behind kept + (db.end - end_behind kept)) =
      subst (λ n. Counts 1 (log_below cut.history db.path n) n) (sym more) counts in
      let long : end_behind kept ≡ 1 + length (log_below cut.history db.path (end_behind kept)) =
      counts-end 1 (end_behind kept) (log_below cut.history db.path (end_behind kept)) (counts-front cut.history db.path (end_behind kept) (db.end - end_behind kept) (omega arith) counts_all) in
      let as_long : length (log_below cut.history db.path (end_behind kept)) ≡ length kept = omega (arith, long) in
      (same-front (log_below cut.history db.path (end_behind kept)) rest.0 kept stays.front.lost (sym whole_log ∙ log_is) as_long).0

  -- a history in which its line is left so, and the other lines as a crash may leave them
  module _ (left : RecordLines) (lines : AllZip LineLeft cut.history left) (here : (line_on left on.branch).records ≡ below (end_behind kept) (line_on cut.history on.branch).records ++ numbered (end_behind kept) said) where
    -- the history at the cut, with this line cut, and then with what is said on it
    first : RecordLines
    first = cut_on cut.history on.branch (end_behind kept)

    goes-first : MayGoOn first db.path (end_behind kept)
    unfolding first
    goes-first = record {
      branch = on.branch;
      last = on.last;
      there = has-cut cut.history on.branch (end_behind kept) on.branch ∙ on.there;
      starts = starts-le;
      below = subst (AllByRecursion (λ (r : Logged). r.lsn < end_behind kept)) (sym (on-cut cut.history on.branch (end_behind kept))) (all-below (end_behind kept) (line_on cut.history on.branch).records);
    }

    -- it reads the front
    first-reads : log_below first db.path (end_behind kept) ≡ kept
    unfolding log_below first
    first-reads = along-on (logged_on first) (logged_on cut.history) db.path (end_behind kept) (λ k lt. at k lt (branch_at db.path k)) ∙ front_is
      where
        at : (k : ℕ) → k < end_behind kept → (o : Option Guid) → at_branch (logged_on first) o k ≡ at_branch (logged_on cut.history) o k
        at k lt None = refl
        at k lt (Some g) = by (is_guid on.branch g) refl
          where
            by : (t : Bool) → is_guid on.branch g ≡ t → logged_on first g k ≡ logged_on cut.history g k
            by true same =
                let same_guid : on.branch ≡ g = guid_is on.branch g same in
                subst (λ x. logged_on first x k ≡ logged_on cut.history x k) same_guid
                (ap (filter (λ r. eqb r.lsn k)) (on-cut cut.history on.branch (end_behind kept)) ∙ at-below (end_behind kept) k (line_on cut.history on.branch).records lt)
            by false other = ap (λ (line : RecordLine). filter (λ r. eqb r.lsn k) line.records) (off-cut cut.history on.branch (end_behind kept) g other)

    -- and with what is said it reads as what is left
    left-reads : log_below left db.path (end_behind kept + length said) ≡ log_below (said_on first on.branch (numbered (end_behind kept) said)) db.path (end_behind kept + length said)
    unfolding log_below first
    left-reads = along-on (logged_on left) (logged_on (said_on first on.branch (numbered (end_behind kept) said))) db.path (end_behind kept + length said) (λ k lt. at k (branch_at db.path k) refl)
      where
        has_first : has_record_line first on.branch ≡ true
        has_first = has-cut cut.history on.branch (end_behind kept) on.branch ∙ on.there

        -- a number where the path is on another branch lies below all that is lost
        earlier : (k : ℕ) (g : Guid) → branch_at db.path k ≡ Some g → is_guid on.branch g ≡ false → at_branch (logged_on left) (Some g) k ≡ at_branch (logged_on cut.history) (Some g) k
        earlier zero g at_k other = at-first cut cut.history left sound lines (Some g)
        earlier (suc k) g at_k other = at-passed cut cut.history left sound lines (Some g) (suc k) (passed (is.held (suc k) (omega arith) below_end))
          where
            clash : Some on.branch ≡ Some g → ⊥
            clash same =
                let own : is_guid on.branch on.branch ≡ true = is_guid-refl on.branch in
                let one : on.branch ≡ g = cc in
                let wrong : true ≡ false = sym own ∙ (ap (is_guid on.branch) one ∙ other) in
                absurd (cc)

            below_end : suc k < db.end
            below_end = elim (Rattle.std.proofs.Common.leb (end_behind kept) (suc k)) as (λ t. Rattle.std.proofs.Common.leb (end_behind kept) (suc k) ≡ t → suc k < db.end) [
              | true ↦ λ e. absurd (clash (sym (at-last (suc k) (grind (arith, nat_tests, e))) ∙ at_k))
              | false ↦ λ e. let lt : suc k < end_behind kept = grind (arith, nat_tests, e) in omega (arith, lt, within)
            ] refl

            passed : ((db.status ≡ Online) × (branch_at db.path (suc k) ≡ last_branch db.path)) ⊎ IsPassed cut.history (branch_at db.path (suc k)) (suc k) → IsPassed cut.history (Some g) (suc k)
            passed (inl on_last) = absurd (clash (sym on.last ∙ sym on_last.1 ∙ at_k))
            passed (inr one) = subst (λ o. IsPassed cut.history o (suc k)) at_k one

        at : (k : ℕ) (o : Option Guid) → branch_at db.path k ≡ o → at_branch (logged_on left) o k ≡ at_branch (logged_on (said_on first on.branch (numbered (end_behind kept) said))) o k
        at k None at_k = refl
        at k (Some g) at_k = by (is_guid on.branch g) refl
          where
            by : (t : Bool) → is_guid on.branch g ≡ t → logged_on left g k ≡ logged_on (said_on first on.branch (numbered (end_behind kept) said)) g k
            by true same =
                let same_guid : on.branch ≡ g = guid_is on.branch g same in
                subst (λ x. logged_on left x k ≡ logged_on (said_on first on.branch (numbered (end_behind kept) said)) x k) same_guid
                (ap (filter (λ r. eqb r.lsn k))
                (here ∙ sym (ap (λ rs. rs ++ numbered (end_behind kept) said) (on-cut cut.history on.branch (end_behind kept)))
                ∙ sym (ap (λ (line : RecordLine). line.records) (line_of-appended first on.branch (numbered (end_behind kept) said) has_first))))
            by false other =
                earlier k g at_k other
                ∙ sym (ap (λ (line : RecordLine). filter (λ r. eqb r.lsn k) line.records)
                (line_of-other first on.branch (numbered (end_behind kept) said) g other ∙ off-cut cut.history on.branch (end_behind kept) g other))

    pub end_is : end_behind (settled kept) ≡ end_behind kept + length said
    unfolding settled
    end_is = end-more kept (end_behind kept) said

    -- so its log is the front, settled
    pub log-settled : log_below left db.path (end_behind (settled kept)) ≡ settled kept
    unfolding settled
    log-settled =
        let said_last : log_below (said_on_last first (last_branch db.path) (numbered (end_behind kept) said)) db.path (end_behind kept + length said) ≡ log_below first db.path (end_behind kept) ++ numbered (end_behind kept) said =
        records-said first db.path (end_behind kept) goes-first said in
        ap (log_below left db.path) end_is ∙ left-reads
        ∙ sym (ap (λ b. log_below (said_on_last first b (numbered (end_behind kept) said)) db.path (end_behind kept + length said)) on.last)
        ∙ said_last ∙ ap (λ rs. rs ++ numbered (end_behind kept) said) first-reads

    -- and it goes on behind it
    pub goes-settled : MayGoOn left db.path (end_behind (settled kept))
    goes-settled =
        let ends : end_behind (settled kept) ≡ end_behind kept + length said = end_is in record {
          branch = on.branch;
          last = on.last;
          there = has-left cut.history left lines on.branch ∙ on.there;
          starts = all_mapped (λ (b : Branch). b.start < end_behind kept) (λ (b : Branch). b.start ≤ end_behind (settled kept)) (λ b lt. omega (arith, lt, ends)) db.path starts;
          below = subst (AllByRecursion (λ (r : Logged). r.lsn < end_behind (settled kept))) (sym here)
              (all_joined (λ (r : Logged). r.lsn < end_behind (settled kept)) (below (end_behind kept) (line_on cut.history on.branch).records) (numbered (end_behind kept) said)
              (all_mapped (λ (r : Logged). r.lsn < end_behind kept) (λ (r : Logged). r.lsn < end_behind (settled kept)) (λ r lt. omega (arith, lt, ends)) (below (end_behind kept) (line_on cut.history on.branch).records)
              (all-below (end_behind kept) (line_on cut.history on.branch).records))
              (subst (λ n. AllByRecursion (λ (r : Logged). r.lsn < n) (numbered (end_behind kept) said)) (sym ends) (numbered-below (end_behind kept) said)));
        }
