-- What a database says leaves its kept number at its end or below, and at or below what is open and what its job needs.
use Rattle.std.proofs.Common.{◌≡◌, ◌≤◌, ◌⊎◌, inl, inr, ℕ, ◌+◌, max, min, Bool, true, false, cond, not, ◌||◌, Option, None, Some, List, [], ◌∷◌, refl, sym, ◌∙◌, ap, subst, arith}
use Rattle.std.specs.List.{AllByRecursion}
use Rattle.bk_ids.specs.declared.record.RecoveryModel.{RecoveryModel}
use Rattle.bk_world.specs.Records.{Deed, Said, database_made, table_made, begun, written, committed, rolled_back, undone, checkpointed, stamped, model_set, loaded, numbered, recovered}
use Rattle.bk_world.specs.Says.{alone}
use Rattle.bk_machine.specs.Acts.{floor, gone_on, is_simple, job_first, kept_after, pointed, pointed_by}
use Rattle.bk_machine.specs.BeginLaws.{least-open, of-begin}
use Rattle.bk_machine.specs.MayDo.{IsNoMark, IsOpenOrNew, MarksAlone}
use Rattle.bk_machine.specs.Sound.{IsKept, JobIs}
use Rattle.bk_world.specs.declared.transaction.Open.{Open}
use Rattle.bk_machine.specs.declared.job.Job.{Job}
use Rattle.bk_machine.specs.World.{Database, least_begin}

-- ---- records that move no points

unmarked_by : (m : RecoveryModel) (db : Database) (n : ℕ) (deed : Deed) → IsNoMark deed → pointed_by m db n deed ≡ db
unmarked_by m db n (database_made time family branch) none = refl
unmarked_by m db n (table_made time spec) none = refl
unmarked_by m db n begun none = refl
unmarked_by m db n (written at before c) none = refl
unmarked_by m db n (committed time mark) none = refl
unmarked_by m db n rolled_back none = refl
unmarked_by m db n (undone at c k) none = refl
unmarked_by m db n (checkpointed time) none = absurd none
unmarked_by m db n (stamped time set) none = refl
unmarked_by m db n (model_set time other) none = refl
unmarked_by m db n (loaded load) none = refl
unmarked_by m db n (recovered branch) none = refl

unmarked : (m : RecoveryModel) (db : Database) (n : ℕ) (said : List Said) → AllByRecursion (λ (s : Said). IsNoMark s.deed) said → pointed m db (numbered n said) ≡ db
unmarked m db n [] none = refl
unmarked m db n (s ∷ said) none = ap (λ (d : Database). pointed m d (numbered (n + 1) said)) (unmarked_by m db n s.deed none.0) ∙ unmarked m db (n + 1) said none.1

-- the kept number stays, or a checkpoint moved it
pub kept-is : (m : RecoveryModel) (db : Database) (said : List Said) (transactions : List Open) → MarksAlone said
    → ((gone_on m said transactions db).kept ≡ db.kept) ⊎ ((time : ℕ) × (said ≡ alone (checkpointed time)) × ((gone_on m said transactions db).kept ≡ kept_after db m db.end))
kept-is m db said transactions (inl none) = inl (ap (λ (d : Database). d.kept) (unmarked m db db.end said none))
kept-is m db said transactions (inr (time, is)) = inr (time, is, subst (λ (ss : List Said). (gone_on m ss transactions db).kept ≡ kept_after db m db.end) (sym is) refl)

-- ---- behind a checkpoint

after-kept : (m : RecoveryModel) (db : Database) (n bound : ℕ) → db.kept ≤ bound → floor db n ≤ bound → kept_after db m n ≤ bound
after-kept m db n bound le low = by (is_simple m || not db.chain)
  where
    by : (b : Bool) → cond b (max db.kept (floor db n)) db.kept ≤ bound
    by true = omega (arith, le, low)
    by false = le

-- it isn't above the end
pub checkpoint-end : (m : RecoveryModel) (db : Database) → db.kept ≤ db.end → kept_after db m db.end ≤ db.end
checkpoint-end m db le = after-kept m db db.end db.end le (omega arith)

kept-least : (ts : List Open) (end k : ℕ) → k ≤ end → AllByRecursion (λ (t : Open). k ≤ t.begin) ts → k ≤ least_begin ts end
kept-least [] end k le all = le
kept-least (t ∷ ts) end k le all = let rest : k ≤ least_begin ts end = kept-least ts end k le all.1 in omega (arith, rest, all.0)

-- nor above the first record of what is open
pub checkpoint-least : (m : RecoveryModel) (db : Database) → db.kept ≤ db.end → AllByRecursion (λ (t : Open). db.kept ≤ t.begin) db.transactions → kept_after db m db.end ≤ least_begin db.transactions db.end
checkpoint-least m db le begins = after-kept m db db.end (least_begin db.transactions db.end) (kept-least db.transactions db.end db.kept le begins) (omega arith)

checkpoint-job : (m : RecoveryModel) (db : Database) (o : Option Job) → db.job ≡ o → JobIs (λ (j : Job). db.kept ≤ j.first) o → JobIs (λ (j : Job). kept_after db m db.end ≤ j.first) o
checkpoint-job m db None is low = tt
checkpoint-job m db (Some j) is low = after-kept m db db.end j.first low (let first : job_first db.job db.end ≡ min j.first db.end = ap (λ (x : Option Job). job_first x db.end) is in omega (arith, first))

-- ---- what is open

each-from : (db : Database) (k : ℕ) → ((t : Open) → IsOpenOrNew db t → k ≤ t.begin) → (ts : List Open) → AllByRecursion (IsOpenOrNew db) ts → AllByRecursion (λ (t : Open). k ≤ t.begin) ts
each-from db k leads [] each = tt
each-from db k leads (t ∷ ts) each = (leads t each.0, each-from db k leads ts each.1)

-- behind what it says a database keeps what is open then, and what its job needs
pub keeps-said : (m : RecoveryModel) (db : Database) (said : List Said) (ts : List Open) → MarksAlone said → db.kept ≤ db.end → IsKept db.kept db.transactions db.job → AllByRecursion (IsOpenOrNew db) ts
    → IsKept (gone_on m said ts db).kept ts db.job
keeps-said m db said ts marks below keeps each = by (kept-is m db said ts marks)
  where
    stayed : (t : Open) → IsOpenOrNew db t → db.kept ≤ t.begin
    stayed t (inl there) = of-begin db.transactions db.kept t.begin keeps.begins there
    stayed t (inr new) = omega (arith, new, below)

    moved : (t : Open) → IsOpenOrNew db t → kept_after db m db.end ≤ t.begin
    moved t (inl there) =
        let least : kept_after db m db.end ≤ least_begin db.transactions db.end = checkpoint-least m db below keeps.begins in
        let first : least_begin db.transactions db.end ≤ t.begin = least-open db.transactions db.end t.begin there in
        omega (arith, least, first)
    moved t (inr new) = let end : kept_after db m db.end ≤ db.end = checkpoint-end m db below in omega (arith, end, new)

    by : ((gone_on m said ts db).kept ≡ db.kept) ⊎ ((time : ℕ) × (said ≡ alone (checkpointed time)) × ((gone_on m said ts db).kept ≡ kept_after db m db.end)) → IsKept (gone_on m said ts db).kept ts db.job
    by (inl same) = subst (λ (k : ℕ). IsKept k ts db.job) (sym same) (record { begins = each-from db db.kept stayed ts each; job = keeps.job })
    by (inr (time, is, same)) = subst (λ (k : ℕ). IsKept k ts db.job) (sym same) (record { begins = each-from db (kept_after db m db.end) moved ts each; job = checkpoint-job m db db.job refl keeps.job })
