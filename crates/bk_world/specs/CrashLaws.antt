-- What a crash leaves of a log.
use Rattle.std.proofs.Common.{◌≡◌, ℕ, ◌+◌, true, List, [], ◌∷◌, ◌++◌, length, reverse, None, refl, sym, ◌∙◌, ap, subst, arith}
use Rattle.std.specs.Prelude.{◌==◌}
use Rattle.std.specs.List.{AllByRecursion}
use Rattle.std.proofs.lemmas.Bool.Decides.{nat_tests}
use Rattle.std.proofs.lemmas.List.{append-nil, reverse-append, reverse-reverse}
use Rattle.std.proofs.lemmas.List.Elements.{filter-append}
use Rattle.bk_world.specs.Cut.{IsCutLog, end_behind, settled}
use Rattle.bk_world.specs.Pending.{Pending, PendingRise, of_transaction, pending, pending_after}
use Rattle.bk_world.specs.Records.{Counts, Deed, Logged, Said, more, numbered, database_made, table_made, begun, written, committed, rolled_back, undone, checkpointed, stamped, model_set, loaded, recovered}
use Rattle.bk_world.specs.Says.{settle_said, undoing}
use Rattle.bk_world.specs.SoundLogs.{IsSound, MayFollow, NoLoadPends}
use Rattle.bk_world.specs.Telling.{entries, entries_from, entry_of, telling}
use Rattle.bk_lemmas.specs.Lists.{all_front, all_middle}
use Rattle.bk_world.specs.ReadingLaws.{entries-more}
use Rattle.bk_world.specs.AgainLaws.{undone-one, rise-one}
use Rattle.bk_world.specs.SettledLaws.{end-more, nothing-pends, tells-same}
use Rattle.bk_world.specs.SoundLaws.{follow-front, follow-join, sound-rise}

-- ---- numbers

pub counts-front : (n end : ℕ) (a b : List Logged) → Counts n (a ++ b) end → Counts n a (n + length a)
counts-front n end [] b counts = let none : List Logged = [] in let same : n ≡ n + length none = omega arith in same
counts-front n end (r ∷ a) b counts =
    let on : (n + 1) + length a ≡ n + length (r ∷ a) = omega arith in
    (counts.0, subst (Counts (n + 1) a) on (counts-front (n + 1) end a b counts.1))

pub counts-numbered : (n : ℕ) (said : List Said) → Counts n (numbered n said) (n + length said)
counts-numbered n [] = let none : List Said = [] in let same : n ≡ n + length none = omega arith in same
counts-numbered n (s ∷ said) =
    let on : (n + 1) + length said ≡ n + length (s ∷ said) = omega arith in
    (refl, subst (Counts (n + 1) (numbered (n + 1) said)) on (counts-numbered (n + 1) said))

pub counts-join : (n m end : ℕ) (a b : List Logged) → Counts n a m → Counts m b end → Counts n (a ++ b) end
counts-join n m end [] b first then = subst (λ k. Counts k b end) (sym first) then
counts-join n m end (r ∷ a) b first then = (first.0, counts-join (n + 1) m end a b first.1 then)

-- what is said at the end of a log that has each number once
pub counts-more : (rs : List Logged) (said : List Said) → Counts 1 rs (end_behind rs) → Counts 1 (more rs (end_behind rs) said) (end_behind (more rs (end_behind rs) said))
counts-more rs said counts =
    subst (Counts 1 (more rs (end_behind rs) said)) (sym (end-more rs (end_behind rs) said))
    (counts-join 1 (end_behind rs) (end_behind rs + length said) rs (numbered (end_behind rs) said) counts (counts-numbered (end_behind rs) said))

-- ---- undoing

undo-follows : (rs : List Logged) (n : ℕ) (vs : List Pending) → PendingRise (pending rs) → NoLoadPends rs → reverse (pending rs) ≡ vs → MayFollow rs (numbered n (undoing vs))
undo-follows rs n [] rise none is = tt
undo-follows rs n (v ∷ vs) rise none is =
    let whole : pending rs ≡ reverse vs ++ v ∷ [] = sym (reverse-reverse (pending rs)) ∙ (ap reverse is ∙ reverse-append (v ∷ []) vs) in
    let own : (v.begin == v.begin) ≡ true = grind (arith, nat_tests) in
    let alone : of_transaction v.begin (v ∷ []) ≡ v ∷ [] = rw own refl in
    let last : of_transaction v.begin (pending rs) ≡ of_transaction v.begin (reverse vs) ++ v ∷ [] =
    ap (of_transaction v.begin) whole ∙ (filter-append (λ w. w.begin == v.begin) (reverse vs) (v ∷ []) ∙ ap (λ rest. of_transaction v.begin (reverse vs) ++ rest) alone) in
    let OfNone : List Pending → Type 0 = λ ws. AllByRecursion (λ w. w.extents ≡ []) ws in
    let nones : OfNone (reverse vs ++ v ∷ []) = subst OfNone whole none in
    let next : List Logged = more rs n (undoing (v ∷ [])) in
    let rest : reverse (pending next) ≡ vs = undone-one rs n vs v rise is in
    let left : pending next ≡ reverse vs = sym (reverse-reverse (pending next)) ∙ ap reverse rest in (
      record { before = of_transaction v.begin (reverse vs); write = v; last = last; single = all_middle (λ w. w.extents ≡ []) (reverse vs) v [] nones; place = refl; back = refl; number = refl },
      undo-follows next (n + 1) vs (rise-one rs n vs v rise is) (subst OfNone (sym left) (all_front (λ w. w.extents ≡ []) (reverse vs) (v ∷ []) nones)) rest,
    )

pub sound-settled : (rs : List Logged) → IsSound rs → Counts 1 rs (end_behind rs) → NoLoadPends rs → IsSound (settled rs)
unfolding settled
sound-settled rs sound counts none =
    follow-join [] rs (numbered (end_behind rs) (settle_said (pending rs))) sound (undo-follows rs (end_behind rs) (reverse (pending rs)) (sound-rise rs sound counts none) none refl)

-- ---- records that tell nothing

quiet-one : (ws : List Pending) (lsn begin : ℕ) (deed : Deed) → telling deed ≡ None → entry_of ws lsn begin deed ≡ []
quiet-one ws lsn begin (database_made time family branch) is = cc
quiet-one ws lsn begin (table_made time spec) is = cc
quiet-one ws lsn begin begun is = refl
quiet-one ws lsn begin (written at before c) is = refl
quiet-one ws lsn begin (committed time mark) is = cc
quiet-one ws lsn begin rolled_back is = refl
quiet-one ws lsn begin (undone at c n) is = refl
quiet-one ws lsn begin (checkpointed time) is = cc
quiet-one ws lsn begin (stamped time set) is = cc
quiet-one ws lsn begin (model_set time model) is = cc
quiet-one ws lsn begin (loaded load) is = refl
quiet-one ws lsn begin (recovered branch) is = refl

quiet-all : (ws : List Pending) (rs : List Logged) → AllByRecursion (λ r. telling r.deed ≡ None) rs → entries_from ws rs ≡ []
quiet-all ws [] all = refl
quiet-all ws (r ∷ rs) all = rw (quiet-one ws r.lsn r.begin r.deed all.0) (quiet-all (pending_after ws r.lsn r.begin r.deed) rs all.1)

-- ---- a crash

module _ (begins : List ℕ) (rs left : List Logged) (cut : IsCutLog begins rs left) where
  pub left-tells : entries left ≡ entries rs
  left-tells =
      ap entries cut.is ∙ tells-same cut.kept
      ∙ sym (ap entries cut.splits ∙ (entries-more cut.kept cut.lost ∙ (ap (λ es. entries cut.kept ++ es) (quiet-all (pending cut.kept) cut.lost cut.quiet) ∙ append-nil (entries cut.kept))))

  pub left-pends : pending left ≡ []
  left-pends = ap pending cut.is ∙ nothing-pends cut.kept

  kept-counts : Counts 1 rs (end_behind rs) → Counts 1 cut.kept (end_behind cut.kept)
  kept-counts counts = counts-front 1 (end_behind rs) cut.kept cut.lost (subst (λ log. Counts 1 log (end_behind rs)) cut.splits counts)

  pub left-counts : Counts 1 rs (end_behind rs) → Counts 1 left (end_behind left)
  unfolding settled
  left-counts counts = subst (λ log. Counts 1 log (end_behind log)) (sym cut.is) (counts-more cut.kept (settle_said (pending cut.kept)) (kept-counts counts))

  pub left-sound : IsSound rs → Counts 1 rs (end_behind rs) → IsSound left
  left-sound sound counts = subst IsSound (sym cut.is) (sound-settled cut.kept (follow-front [] cut.kept cut.lost (subst IsSound cut.splits sound)) (kept-counts counts) cut.loads)

pub counts-length : (n : ℕ) (rs : List Logged) (end : ℕ) → Counts n rs end → end ≡ n + length rs
counts-length n [] end is = omega (arith, is)
counts-length n (r ∷ rs) end is = let rest : end ≡ (n + 1) + length rs = counts-length (n + 1) rs end is.1 in omega (arith, rest)
