-- A log in which no load pends may be recovered: all that is pending is undone, and one record names the branch.
use Rattle.std.proofs.Common.{◌≡◌, ◌<◌, ◌≤◌, ℕ, zero, suc, ◌+◌, ◌*◌, min, Bool, true, false, not, ◌&&◌, List, [], ◌∷◌, ◌++◌, length, reverse, refl, sym, ◌∙◌, ap, subst, arith, append_assoc}
use Rattle.std.specs.Prelude.{◌==◌}
use Rattle.std.specs.List.{AllByRecursion, count_by, filter}
use Rattle.std.proofs.Math.Nat.{le-min}
use Rattle.std.proofs.lemmas.Bool.Decides.{nat_tests}
use Rattle.std.proofs.lemmas.List.{append-nil, length-append, length-reverse}
use Rattle.std.proofs.lemmas.List.Elements.{filter-append}
use Rattle.std.proofs.lemmas.List.Sums.{count_by-le-length, length-filter}
use Rattle.bk_ids.specs.declared.guid.Guid.{Guid}
use Rattle.bk_ids.specs.declared.record.ExtentId.{ExtentId}
use Rattle.bk_world.specs.Cut.{end_behind}
use Rattle.bk_lemmas.specs.Lists.{all_filter, all_joined, all_mapped, filter_every}
use Rattle.bk_world.specs.Pending.{Pending, load_writes, pending, pending_after, pending_from}
use Rattle.bk_world.specs.ReadingLaws.{numbered-append, pending-append, pending-more, pending-settled, rise-length}
use Rattle.bk_world.specs.Records.{Counts, Deed, Load, Logged, Said, begun, checkpointed, committed, database_made, loaded, model_set, more, numbered, recovered, rolled_back, stamped, table_made, undone, written}
use Rattle.bk_world.specs.Says.{alone, settle_said, undoing}
use Rattle.bk_world.specs.SoundLogs.{IsSound as IsSoundLog, MayCome, MayFollow, NoLoadPends, most_pending}
use Rattle.bk_world.specs.SettledLaws.{length-undoing}
use Rattle.bk_world.specs.SoundLaws.{follow-join, sound-lying, sound-rise}
use Rattle.bk_machine.specs.Acts.{Recovery}
use Rattle.bk_machine.specs.Built.{IsNoLoad}
use Rattle.bk_machine.specs.statements.Restore.{IsOfRecovery, Recovers, is_recovery_deed}
use Rattle.bk_machine.proofs.Bounded.{sound-behind}
use Rattle.bk_machine.proofs.Histories.{counts-positive}
use Rattle.bk_machine.specs.SettledLaws.{counts-end}
use Rattle.bk_machine.proofs.SettledSteps.{settle-follows}
use Rattle.bk_machine.proofs.statements.Few.{fewer}

-- ---- what is pending where no load was said

single-after : (ws : List Pending) (n begin : ℕ) (deed : Deed) → IsNoLoad deed → AllByRecursion (λ (w : Pending). w.extents ≡ []) ws → AllByRecursion (λ (w : Pending). w.extents ≡ []) (pending_after ws n begin deed)
single-after ws n begin (database_made time family branch) none all = all
single-after ws n begin (table_made time spec) none all = all
single-after ws n begin begun none all = all
single-after ws n begin (written at before c) none all = all_joined (λ (w : Pending). w.extents ≡ []) ws ((record { lsn = n; begin = begin; place = at; before = before; change = c; extents = [] }) ∷ []) all (refl, tt)
single-after ws n begin (committed time mark) none all = all_filter (λ (w : Pending). w.extents ≡ []) (λ w. not (w.begin == begin)) ws all
single-after ws n begin rolled_back none all = all_filter (λ (w : Pending). w.extents ≡ []) (λ w. not (w.begin == begin)) ws all
single-after ws n begin (undone at c m) none all = all_filter (λ (w : Pending). w.extents ≡ []) (λ w. not (w.begin == begin && w.lsn == m)) ws all
single-after ws n begin (checkpointed time) none all = all
single-after ws n begin (stamped time set) none all = all
single-after ws n begin (model_set time model) none all = all
single-after ws n begin (loaded load) none all = absurd none
single-after ws n begin (recovered branch) none all = all

single-from : (ws : List Pending) (rs : List Logged) → AllByRecursion (λ (r : Logged). IsNoLoad r.deed) rs → AllByRecursion (λ (w : Pending). w.extents ≡ []) ws → AllByRecursion (λ (w : Pending). w.extents ≡ []) (pending_from ws rs)
single-from ws [] none all = all
single-from ws (r ∷ rs) none all = single-from (pending_after ws r.lsn r.begin r.deed) rs none.1 (single-after ws r.lsn r.begin r.deed none.0 all)

pub no-load-pends : (rs : List Logged) → AllByRecursion (λ (r : Logged). IsNoLoad r.deed) rs → NoLoadPends rs
unfolding pending
no-load-pends rs none = single-from [] rs none tt

-- ---- how much is pending

-- a write that is none of a load
abbrev is_single : Pending → Bool
is_single w = length w.extents == 0

abbrev singles : List Pending → List Pending
singles ws = filter is_single ws

singles-few : (ws : List Pending) → length (singles ws) ≤ length ws
singles-few ws =
    let same : length (singles ws) ≡ count_by is_single ws = length-filter is_single ws in
    let few : count_by is_single ws ≤ length ws = count_by-le-length is_single ws in
    omega (arith, same, few)

-- no write of a load is single
load-none : (lsn begin : ℕ) (load : Load) (i n : ℕ) → 1 ≤ length load.extents → singles (load_writes lsn begin load i n) ≡ []
load-none lsn begin load i zero some = refl
load-none lsn begin load i (suc n) some = let no : (length load.extents == 0) ≡ false = grind (arith, nat_tests, some) in rw no (load-none lsn begin load (i + 1) n some)

-- where these are few, so are they behind a load
few-load : (ws : List Pending) (lsn begin : ℕ) (load : Load) (n : ℕ) → n ≤ 504 * length load.extents → length (singles ws) ≤ most_pending → length (singles (ws ++ load_writes lsn begin load 0 n)) ≤ most_pending
few-load ws lsn begin load zero fits le = subst (λ vs. length (singles vs) ≤ most_pending) (sym (append-nil ws)) le
few-load ws lsn begin load (suc n) fits le =
    let same : singles (ws ++ load_writes lsn begin load 0 (suc n)) ≡ singles ws =
    filter-append is_single ws (load_writes lsn begin load 0 (suc n)) ∙ ap (λ vs. singles ws ++ vs) (load-none lsn begin load 0 (suc n) (omega (arith, fits))) ∙ append-nil (singles ws) in
    subst (λ vs. length vs ≤ most_pending) (sym same) le

-- and behind a write for which there is room
few-write : (ws : List Pending) (w : Pending) → length ws < most_pending → length (singles (ws ++ w ∷ [])) ≤ most_pending
few-write ws w room =
    let one : length (singles (ws ++ w ∷ [])) ≤ length (ws ++ w ∷ []) = singles-few (ws ++ w ∷ []) in
    let two : length (ws ++ w ∷ []) ≡ length ws + 1 = length-append ws (w ∷ []) in
    omega (arith, one, two, room)

few-some : (p : Pending → Bool) (ws : List Pending) → length (singles ws) ≤ most_pending → length (singles (filter p ws)) ≤ most_pending
few-some p ws le = let one : length (singles (filter p ws)) ≤ length (singles ws) = fewer is_single p ws in omega (arith, one, le)

few-after : (rs : List Logged) (n begin : ℕ) (deed : Deed) → MayCome rs n begin deed → length (singles (pending rs)) ≤ most_pending → length (singles (pending_after (pending rs) n begin deed)) ≤ most_pending
few-after rs n begin (database_made time family branch) may le = le
few-after rs n begin (table_made time spec) may le = le
few-after rs n begin begun may le = le
few-after rs n begin (written at before c) may le = few-write (pending rs) (record { lsn = n; begin = begin; place = at; before = before; change = c; extents = [] }) may.room
few-after rs n begin (committed time mark) may le = few-some (λ w. not (w.begin == begin)) (pending rs) le
few-after rs n begin rolled_back may le = few-some (λ w. not (w.begin == begin)) (pending rs) le
few-after rs n begin (undone at c m) may le = few-some (λ w. not (w.begin == begin && w.lsn == m)) (pending rs) le
few-after rs n begin (checkpointed time) may le = le
few-after rs n begin (stamped time set) may le = le
few-after rs n begin (model_set time model) may le = le
few-after rs n begin (loaded load) may le = few-load (pending rs) n begin load load.count may.fits le
few-after rs n begin (recovered branch) may le = le

few-more : (rs ss : List Logged) → MayFollow rs ss → length (singles (pending rs)) ≤ most_pending → length (singles (pending (rs ++ ss))) ≤ most_pending
few-more rs [] may le = subst (λ log. length (singles (pending log)) ≤ most_pending) (sym (append-nil rs)) le
few-more rs (r ∷ ss) may le =
    let one : length (singles (pending (rs ++ r ∷ []))) ≤ most_pending = subst (λ ws. length (singles ws) ≤ most_pending) (sym (pending-more rs (r ∷ []))) (few-after rs r.lsn r.begin r.deed may.0 le) in
    subst (λ log. length (singles (pending log)) ≤ most_pending) (append_assoc rs (r ∷ []) ss) (few-more (rs ++ r ∷ []) ss may.1 one)

few-pend : (rs : List Logged) → IsSoundLog rs → NoLoadPends rs → length (pending rs) ≤ most_pending
unfolding pending
few-pend rs sound none =
    let few : length (singles (pending rs)) ≤ most_pending = few-more [] rs sound (omega arith) in
    let all : singles (pending rs) ≡ pending rs =
    filter_every is_single (pending rs) (all_mapped (λ (w : Pending). w.extents ≡ []) (λ (w : Pending). is_single w ≡ true) (λ w is. ap (λ (es : List ExtentId). length es == 0) is) (pending rs) none) in
    subst (λ ws. length ws ≤ most_pending) all few

-- ---- what a recovery says

each-undoing : (branch : Guid) (ws : List Pending) → AllByRecursion (λ (s : Said). IsOfRecovery branch s.begin s.deed) (undoing ws)
each-undoing branch [] = tt
each-undoing branch (w ∷ ws) = (tt, each-undoing branch ws)

one-names : (branch : Guid) (ws : List Pending) → count_by is_recovery_deed (undoing ws ++ alone (recovered branch)) ≡ 1
one-names branch [] = refl
one-names branch (w ∷ ws) = one-names branch ws

module _ (rs : List Logged) (end : ℕ) (branch : Guid) (counted : Counts 1 rs end) (sound : IsSoundLog rs) (none : NoLoadPends rs) where
  abbrev pub said : List Said
  said = settle_said (pending rs) ++ alone (recovered branch)

  -- the recovery of the whole log
  abbrev pub recovery : Recovery
  recovery = record { at = end; branch = branch; said = said }

  all : end ≡ end_behind rs
  all = counts-end 1 end rs counted

  counts : Counts 1 rs (end_behind rs)
  counts = subst (Counts 1 rs) all counted

  split : numbered end (settle_said (pending rs) ++ alone (recovered branch)) ≡ numbered end (settle_said (pending rs)) ++ numbered (end + length (settle_said (pending rs))) (alone (recovered branch))
  split = numbered-append end (settle_said (pending rs)) (alone (recovered branch))

  undone-first : MayFollow rs (numbered end (settle_said (pending rs)))
  undone-first = settle-follows rs end counted sound none

  settles : pending (more rs end (settle_said (pending rs) ++ alone (recovered branch))) ≡ []
  settles =
      pending-more rs (numbered end (settle_said (pending rs) ++ alone (recovered branch))) ∙ ap (pending_from (pending rs)) split
      ∙ pending-append (pending rs) (numbered end (settle_said (pending rs))) (numbered (end + length (settle_said (pending rs))) (alone (recovered branch)))
      ∙ sym (pending-more rs (numbered end (settle_said (pending rs)))) ∙ pending-settled rs end

  long : length (settle_said (pending rs) ++ alone (recovered branch)) ≡ length (pending rs) + 1
  long =
      length-append (settle_said (pending rs)) (alone (recovered branch)) ∙ ap (λ n. n + 1) (length-undoing (reverse (pending rs)) ∙ length-reverse (pending rs))

  few : length (settle_said (pending rs) ++ alone (recovered branch)) ≤ min end 4194304
  few =
      let positive : 1 ≤ end = counts-positive 1 end rs counted in
      let from : AllByRecursion (λ (w : Pending). 1 ≤ w.lsn) (pending rs) = all_mapped (λ (w : Pending). w.begin < w.lsn) (λ (w : Pending). 1 ≤ w.lsn) (λ w lt. omega (arith, lt)) (pending rs) (sound-behind rs sound) in
      let within : length (pending rs) + 1 ≤ end = rise-length (pending rs) 1 end positive (sound-rise rs sound counts none) from (sound-lying rs end sound counted).below in
      let most : length (pending rs) ≤ most_pending = few-pend rs sound none in
      subst (λ n. n ≤ min end 4194304) (sym long) (le-min within (omega (arith, most)))

  pub recovers : Recovers rs (record { at = end; branch = branch; said = settle_said (pending rs) ++ alone (recovered branch) })
  recovers = record {
    may = subst (MayFollow rs) (sym split) (follow-join rs (numbered end (settle_said (pending rs))) (numbered (end + length (settle_said (pending rs))) (alone (recovered branch))) undone-first (tt, tt));
    each = all_joined (λ (s : Said). IsOfRecovery branch s.begin s.deed) (settle_said (pending rs)) (alone (recovered branch)) (each-undoing branch (reverse (pending rs))) ((refl, refl), tt);
    one = one-names branch (reverse (pending rs));
    settles = settles;
    few = few;
  }
