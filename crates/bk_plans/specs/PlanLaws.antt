-- Plans of statements that are refused, that only answer, that turn to a database or a session, or that store one act.
use Rattle.std.proofs.Common.{◌≡◌, ℕ, Bool, List, [], ◌∷◌, Option, Result, Ok, Err, refl, sym, ap, subst}
use Rattle.std.specs.Prelude.{IfOk}
use Rattle.bk_acts.specs.declared.act.StoredAct.{StoredAct}
use Rattle.bk_acts.specs.Meaning.{Means}
use Rattle.bk_items.specs.declared.item.ScriptEntry.{ScriptEntry}
use Rattle.bk_machine.specs.Acts.{Act, readied, seated, turned}
use Rattle.bk_machine.specs.Checks.{Checked}
use Rattle.bk_machine.specs.Machine.{May}
use Rattle.bk_machine.specs.MayDo.{MayDoAll}
use Rattle.bk_machine.specs.Outcome.{ComesTo, Outcome, answered, in_one, refused}
use Rattle.bk_machine.specs.Sound.{IsSound}
use Rattle.bk_machine.specs.World.{World}
use Rattle.bk_world.specs.declared.reply.Reply.{Reply}
use Rattle.bk_world.specs.declared.reply.Reply.TheVariants as reply
use Rattle.bk_world.specs.declared.rule.Rule.{Rule}
use Rattle.bk_kept.specs.declared.kept.Kept.{Kept}
use Rattle.bk_plans.specs.declared.parts.Part.{Part}
use Rattle.bk_plans.specs.declared.parts.Plan.{Plan}
use Rattle.bk_plans.specs.declared.parts.Plan.TheVariants.{Refused, Answered, Turned, Seated, Parts, Readied}
use Rattle.bk_plans.specs.declared.refusal.Refusal.{Refusal}
use Rattle.bk_plans.specs.declared.refusal.Refusal.TheVariants.{Broken, NoMemory}
use Rattle.bk_plans.specs.Checking.{IsRefused}
use Rattle.bk_kept.specs.Keeps.{Sees}
use Rattle.bk_plans.specs.Planned.{IsOne, IsReadied, IsRefusedBy}
use Rattle.bk_plans.specs.Planning.{AreParts, Plans}
use Rattle.bk_kept.specs.Views.{IsSeen}
use Rattle.bk_kept.specs.ViewsLaws.{seen-sees}
use Rattle.bk_kept.specs.Stored.{HasFreePaths, IsDone, IsMarked, IsNumbered, IsTaken, MayDraw}

-- What checks come to.

pub comes-refused : {A : Type 0} (checked : Checked A) (may : A → Outcome → Type 0) (rule : Rule) → checked ≡ Err rule → ComesTo checked may (refused rule)
comes-refused checked may rule is = subst (λ (c : Checked _). ComesTo c may (refused rule)) (sym is) refl

pub comes-found : {A : Type 0} (checked : Checked A) (may : A → Outcome → Type 0) (found : A) (outcome : Outcome) → checked ≡ Ok found → may found outcome → ComesTo checked may outcome
comes-found checked may found outcome is does = subst (λ (c : Checked _). ComesTo c may outcome) (sym is) does

-- this holds in each sound world that is seen, and of which something is known
abbrev pub InEach : Kept → (World → Type 0) → (World → Type 0) → Type 0
InEach k Known P = (w : World) → IsSound w → Sees w k → Known w → P w

-- what statements may do, they may do act by act
abbrev pub DoWhatTheyMay : Type 0
DoWhatTheyMay = (w : World) (s : ScriptEntry) (now : ℕ) (outcome : Outcome) → IsSound w → May w s now outcome → MayDoAll w outcome.acts

-- what is planned over what is seen of what is kept is planned over what is kept
pub plans-kept : (k seen : Kept) (Known : World → Type 0) (s : ScriptEntry) (now : ℕ) (plan : Plan) → IsSeen k seen → Plans seen Known s now plan → Plans k Known s now plan
plans-kept k seen Known s now plan is plans = record {
  outcome = plans.outcome;
  replies = plans.replies;
  may = λ w sound sees known. plans.may w sound (seen-sees k seen is w sees) known;
  acts = λ w sound sees known. plans.acts w sound (seen-sees k seen is w sees) known;
}

-- what is stored of an act, beside what the statement may do
pub record Stores (stored : StoredAct) (act : Act) (w : World) : Type 0 where
  pub draws : MayDraw w stored
  pub unused : HasFreePaths w stored
  pub from_end : IsNumbered w stored
  pub marked : IsMarked w stored act
  pub taken : IsTaken w act

module _ (k : Kept) (Known : World → Type 0) (s : ScriptEntry) (now : ℕ) where
  pub plans-refused : (rule : Rule) → InEach k Known (λ w. May w s now (refused rule)) → Plans k Known s now (Refused rule)
  plans-refused rule may = record { outcome = refused rule; replies = refl; may = may; acts = λ w sound sees known. refl }

  pub plans-answered : (answer : Reply) → InEach k Known (λ w. May w s now (answered answer)) → Plans k Known s now (Answered answer)
  plans-answered answer may = record { outcome = answered answer; replies = refl; may = may; acts = λ w sound sees known. refl }

  pub plans-turned : (name : Option (List ℕ)) → InEach k Known (λ w. May w s now (in_one (turned name) reply.Done)) → Plans k Known s now (Turned name)
  plans-turned name may = record { outcome = in_one (turned name) reply.Done; replies = refl; may = may; acts = λ w sound sees known. refl }

  pub plans-seated : (session : ℕ) → InEach k Known (λ w. May w s now (in_one (seated session) reply.Nothing)) → Plans k Known s now (Seated session)
  plans-seated session may = record { outcome = in_one (seated session) reply.Nothing; replies = refl; may = may; acts = λ w sound sees known. refl }

  -- a line behind which the session's next backup only starts, or it doesn't any more
  pub plans-readied : (starts : Bool) (answer : Reply) (plan : Plan) → IsReadied starts answer plan → InEach k Known (λ w. May w s now (in_one (readied starts) answer)) → Plans k Known s now plan
  plans-readied starts answer (Readied parts ready said) is may = record {
    outcome = in_one (readied starts) answer;
    replies = sym is.2;
    may = may;
    acts = λ w sound sees known. record { front = []; parts_are = subst (λ (ps : List Part). AreParts w ps []) (sym is.0) tt; are = ap (λ (b : Bool). readied b ∷ []) (sym is.1) };
  }
  plans-readied starts answer (Refused rule) is may = absurd is
  plans-readied starts answer (Answered reply) is may = absurd is
  plans-readied starts answer (Turned name) is may = absurd is
  plans-readied starts answer (Seated session) is may = absurd is
  plans-readied starts answer (Parts parts said) is may = absurd is

  -- a statement that a check refuses
  pub plans-refusal : {A : Type 0} (check : World → Checked A) (refusal : Refusal) (plan : Plan) → IsRefusedBy refusal plan
      → InEach k Known (λ w. IsRefused refusal (check w)) → ((w : World) (rule : Rule) → check w ≡ Err rule → May w s now (refused rule)) → Plans k Known s now plan
  plans-refusal check (Broken rule) plan is refuses may =
      subst (Plans k Known s now) (sym is) (plans-refused rule (λ w sound sees known. may w rule (refuses w sound sees known)))
  plans-refusal check NoMemory plan is refuses may = absurd is

  -- a statement that stores one act
  pub plans-one : (stored : StoredAct) (act : Act) (answer : Reply) (plan : Plan) → IsOne stored answer plan → Means stored act → DoWhatTheyMay
      → InEach k Known (λ w. May w s now (in_one act answer)) → InEach k Known (Stores stored act) → Plans k Known s now plan
  plans-one stored act answer (Parts parts said) is means law may stores = record {
    outcome = in_one act answer;
    replies = sym is.1;
    may = may;
    acts = λ w sound sees known. subst (λ (ps : List Part). AreParts w ps (act ∷ [])) (sym is.0) (done w sound sees known, tt);
  }
    where
      done : InEach k Known (λ w. IsDone w stored act)
      done w sound sees known =
          let its = stores w sound sees known in
          record { means = means; may = (law w s now (in_one act answer) sound (may w sound sees known)).0; draws = its.draws; unused = its.unused; from_end = its.from_end; marked = its.marked; taken = its.taken }
  plans-one stored act answer (Refused rule) is means law may stores = absurd is
  plans-one stored act answer (Answered reply) is means law may stores = absurd is
  plans-one stored act answer (Turned name) is means law may stores = absurd is
  plans-one stored act answer (Seated session) is means law may stores = absurd is
  plans-one stored act answer (Readied parts starts said) is means law may stores = absurd is

-- what holds of each result holds of the one that came out, if one did
pub if-ok : {A E : Type 0} (P Q : A → Type 0) (result : Result A E) → ((a : A) → P a → Q a) → IfOk result P → IfOk result Q
if-ok P Q (Ok a) leads is = leads a is
if-ok P Q (Err e) leads is = tt

pub if-plan : {E : Type 0} (P Q : Plan → Type 0) (result : Result Plan E) → ((plan : Plan) → P plan → Q plan) → IfOk result P → IfOk result Q
if-plan P Q result leads is = if-ok P Q result leads is

pub both-of : {E : Type 0} (P Q : Plan → Type 0) (result : Result Plan E) → IfOk result P → IfOk result Q → IfOk result (λ plan. P plan × Q plan)
both-of P Q (Ok plan) one other = (one, other)
both-of P Q (Err e) one other = tt
