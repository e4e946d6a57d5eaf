-- One statement more is answered, or is the last.
use Rattle.std.proofs.Common.{◌≡◌, ◌<◌, ◌≤◌, ◌⊎◌, ℕ, ◌+◌, ◌-◌, Bool, true, false, List, [], ◌∷◌, ◌++◌, length, get_or, take, drop, inl, inr, refl, sym, ◌∙◌, ap, subst, arith, append_assoc, length-append}
use Rattle.std.specs.Prelude.{◌||◌}
use Rattle.std.specs.List.{list_any}
use Rattle.std.proofs.lemmas.List.{append-nil, get_or_append_left, take-append-drop}
use Rattle.std.proofs.lemmas.List.Folds.{list_any-append}
use Rattle.std.proofs.lemmas.Bool.{cases_lt}
use Rattle.std.proofs.lemmas.Grind.{flat_map-append}
use Rattle.std.proofs.Math.Seq.{get_or-append_seam, take-append-add, take-append_seam, take-length}
use Rattle.bk_device.specs.Calls.{Elapses, TellsFront}
use Rattle.bk_device.specs.Disk.{Files, Disk}
use Rattle.bk_executing.specs.EngineStands.{Covers, Kept, StandsFor}
use Rattle.bk_executing.specs.EngineTouched.{IsTouched}
use Rattle.bk_items.specs.declared.item.ScriptEntry.{ScriptEntry}
use Rattle.bk_machine.specs.Machine.{May}
use Rattle.bk_machine.specs.Outcome.{Outcome}
use Rattle.bk_machine.specs.Run.{IsRun, behind_all, replies_of}
use Rattle.bk_machine.specs.World.{World}
use Rattle.bk_machine.specs.Writes.{ActsWrite}
use Rattle.bk_restarts.specs.Crashes.{CrashLaws}
use Rattle.bk_report.specs.Listing.{listing_text}
use Rattle.bk_world.specs.declared.reply.Reply.{Reply}
use Rattle.bk_world.specs.declared.reply.Reply.TheVariants.{Done, Nothing, Counted, Selected, SetMade, JobStarted, Valid, Listed, Recovered, Refused}
use Rattle.bk_world.specs.Text.{reply_text, replies_text}
use Rattle.bk_lemmas.specs.Tests.{first_false}
use Rattle.bk_console.specs.Answers.{is_refusal, NoneRefused, EndsRefused, GoesOnAccepted, Asked, CrashLeaves, CutWithin, CutNowhere, Runs, Answered, CutTelling, CutExecuting, CutShort, AnsweredFront, Stopped, CutAll}
use Rattle.bk_console.specs.Spares.{AreStill, LeavesAlone, OutcomesWrite, Spares}
use Rattle.bk_console.proofs.Asking.{elapses-none, elapses-then}
use Rattle.bk_console.proofs.Sparing.{spares-more, spares-none, spares-then, spares-wider, still-front, writes-before, writes-last}
use Rattle.bk_console.proofs.Leaving.{run-more, behind-more, replies-more, replies-length, LeavesOf-done, LeavesOf-within, LeavesOf-more}

-- Refusals.

none-more : (replies : List Reply) (reply : Reply) → NoneRefused replies → is_refusal reply ≡ false → NoneRefused (replies ++ reply ∷ [])
none-more replies reply none accepted =
    list_any-append is_refusal replies (reply ∷ []) ∙ ap (λ t. t || (is_refusal reply || false)) none ∙ ap (λ t. t || false) accepted

goes-on : (replies rest : List Reply) (n : ℕ) → length replies ≡ n → NoneRefused replies → GoesOnAccepted (n + 1) (replies ++ rest)
goes-on replies rest n is none =
    let front : n + 1 - 1 ≡ length replies = omega arith in
    ap (list_any is_refusal) (ap (λ k. take k (replies ++ rest)) front ∙ take-append_seam replies rest) ∙ none

pub none-front : (n : ℕ) (replies : List Reply) → NoneRefused replies → NoneRefused (take n replies)
none-front n replies none =
    first_false (list_any is_refusal (take n replies)) (list_any is_refusal (drop n replies))
    (sym (list_any-append is_refusal (take n replies) (drop n replies)) ∙ ap (list_any is_refusal) (take-append-drop n replies) ∙ none)

goes-on-all : (replies : List Reply) (n : ℕ) → length replies ≡ n → NoneRefused replies → GoesOnAccepted (n + 1) replies
goes-on-all replies n is none =
    let front : n + 1 - 1 ≡ length replies = omega arith in
    ap (list_any is_refusal) (ap (λ k. take k replies) front ∙ take-length replies) ∙ none

ends-refused : (before : List Reply) (reply : Reply) → is_refusal reply ≡ true → EndsRefused (before ++ reply ∷ [])
ends-refused before (Refused rule) is = (before, rule, refl)
ends-refused before Done is = let no : ⊥ = cc is in absurd no
ends-refused before Nothing is = let no : ⊥ = cc is in absurd no
ends-refused before (Counted rows) is = let no : ⊥ = cc is in absurd no
ends-refused before (Selected rows) is = let no : ⊥ = cc is in absurd no
ends-refused before (SetMade position first checkpoint last) is = let no : ⊥ = cc is in absurd no
ends-refused before JobStarted is = let no : ⊥ = cc is in absurd no
ends-refused before (Valid position) is = let no : ⊥ = cc is in absurd no
ends-refused before (Listed listing) is = let no : ⊥ = cc is in absurd no
ends-refused before (Recovered at) is = let no : ⊥ = cc is in absurd no

-- a refusal that stops nothing, or none
pub not-stopped : (stop refused : Bool) → ((refused ≡ true) × (stop ≡ false)) ⊎ (refused ≡ false) → stop ≡ true → refused ≡ false
not-stopped stop refused (inl on) asked = let no : true ≡ false = sym asked ∙ on.1 in absurd cc
not-stopped stop refused (inr accepted) asked = accepted

-- one moment more
asked_more : (tells : Type 0) (before middle after : ℕ → ℕ) (moments : List ℕ) (now : ℕ) → Asked tells before middle moments → Asked tells middle after (now ∷ [])
    → Asked tells before after (moments ++ now ∷ [])
asked_more tells before middle after moments now first last = record {
  shown = λ t i lt. one t i (omega (arith, lt, length-append moments (now ∷ [])));
  moved = λ t i. last.moved t i ∙ first.moved t (1 + i) ∙ ap before (omega (arith, length-append moments (now ∷ [])));
}
  where
    at : tells → now ≡ before (length moments)
    at t = last.shown t 0 (omega arith) ∙ first.moved t 0 ∙ ap before (omega arith)

    later : tells → (i : ℕ) → i < length moments + 1 → (i < length moments) ⊎ (length moments ≤ i) → get_or (moments ++ now ∷ []) i 0 ≡ before i
    later t i lt (inl below) = get_or_append_left moments (now ∷ []) 0 i below ∙ first.shown t i below
    later t i lt (inr above) =
        let last_one : i ≡ length moments = omega arith in
        ap (λ k. get_or (moments ++ now ∷ []) k 0) last_one ∙ get_or-append_seam moments now [] 0 ∙ at t ∙ ap before (sym last_one)

    one : tells → (i : ℕ) → i < length moments + 1 → get_or (moments ++ now ∷ []) i 0 ≡ before i
    one t i lt = later t i lt (cases_lt i (length moments))

-- the texts of the replies, with one more
texts_more : (told told1 told2 : List ℕ) (replies : List Reply) (reply : Reply) → told1 ≡ told ++ replies_text listing_text replies → told2 ≡ told1 ++ reply_text listing_text reply
    → told2 ≡ told ++ replies_text listing_text (replies ++ reply ∷ [])
texts_more told told1 told2 replies reply before more =
    more ∙ ap (λ front. front ++ reply_text listing_text reply) before ∙ append_assoc told (replies_text listing_text replies) (reply_text listing_text reply)
    ∙ ap (λ texts. told ++ texts) (ap (λ last. replies_text listing_text replies ++ last) (sym (append-nil (reply_text listing_text reply))) ∙ sym (flat_map-append (reply_text listing_text) replies (reply ∷ [])))

-- a front of the text of one more
front_more : (told told1 told2 : List ℕ) (replies : List Reply) (reply : Reply) → told1 ≡ told ++ replies_text listing_text replies → TellsFront (reply_text listing_text reply) told1 told2
    → TellsFront (replies_text listing_text (replies ++ reply ∷ [])) told told2
front_more told told1 told2 replies reply before more = (
  length (replies_text listing_text replies) + more.0,
  more.1 ∙ ap (λ front. front ++ take more.0 (reply_text listing_text reply)) before ∙ append_assoc told (replies_text listing_text replies) (take more.0 (reply_text listing_text reply))
      ∙ ap (λ texts. told ++ texts) (sym (take-append-add (replies_text listing_text replies) (reply_text listing_text reply) more.0))
      ∙ ap (λ texts. told ++ take (length (replies_text listing_text replies) + more.0) texts)
      (ap (λ last. replies_text listing_text replies ++ last) (sym (append-nil (reply_text listing_text reply))) ∙ sym (flat_map-append (reply_text listing_text) replies (reply ∷ []))),
)

-- nothing more
pub front_same : (told told1 told2 : List ℕ) (replies : List Reply) → told1 ≡ told ++ replies_text listing_text replies → told2 ≡ told1 → TellsFront (replies_text listing_text replies) told told2
front_same told told1 told2 replies before same =
    (length (replies_text listing_text replies), same ∙ before ∙ ap (λ texts. told ++ texts) (sym (take-length (replies_text listing_text replies))))

-- the same of outcomes
none-next : (os : List Outcome) (o : Outcome) → NoneRefused (replies_of os) → is_refusal o.reply ≡ false → NoneRefused (replies_of (os ++ o ∷ []))
none-next os o none accepted = subst NoneRefused (sym (replies-more os o)) (none-more (replies_of os) o.reply none accepted)

goes-next : (os : List Outcome) (o : Outcome) (n : ℕ) → length os ≡ n → NoneRefused (replies_of os) → GoesOnAccepted (n + 1) (replies_of (os ++ o ∷ []))
goes-next os o n is none = subst (GoesOnAccepted (n + 1)) (sym (replies-more os o)) (goes-on (replies_of os) (o.reply ∷ []) n (replies-length os ∙ is) none)

text_next : (told told1 told2 : List ℕ) (os : List Outcome) (o : Outcome) → told1 ≡ told ++ replies_text listing_text (replies_of os) → told2 ≡ told1 ++ reply_text listing_text o.reply
    → told2 ≡ told ++ replies_text listing_text (replies_of (os ++ o ∷ []))
text_next told told1 told2 os o before more = texts_more told told1 told2 (replies_of os) o.reply before more ∙ ap (λ rs. told ++ replies_text listing_text rs) (sym (replies-more os o))

front_next : (told told1 told2 : List ℕ) (os : List Outcome) (o : Outcome) → told1 ≡ told ++ replies_text listing_text (replies_of os) → TellsFront (reply_text listing_text o.reply) told1 told2
    → TellsFront (replies_text listing_text (replies_of (os ++ o ∷ []))) told told2
front_next told told1 told2 os o before more =
    subst (λ rs. TellsFront (replies_text listing_text rs) told told2) (sym (replies-more os o)) (front_more told told1 told2 (replies_of os) o.reply before more)

module _ (laws : CrashLaws) (stop : Bool) (old mid : Kept) (script ss : List ScriptEntry) (s : ScriptEntry) (ct : Type 0) (before middle after : ℕ → ℕ) (dt : Type 0) (disk disk1 disk2 : Disk)
    (so_far : AnsweredFront stop old mid ss ct before middle dt disk disk1) (front : take (length ss) script ≡ ss) (more : take (length ss + 1) script ≡ ss ++ s ∷ []) where
  front-is : take (length so_far.outcomes) script ≡ ss
  front-is = ap (λ k. take k script) so_far.each_outcome ∙ front

  each : length so_far.moments ≡ length so_far.outcomes
  each = so_far.each_moment ∙ sym so_far.each_outcome

  one-more : (o : Outcome) → length (so_far.outcomes ++ o ∷ []) ≡ length ss + 1
  one-more o = omega (arith, length-append so_far.outcomes (o ∷ []), so_far.each_outcome)

  each-more : (now : ℕ) (o : Outcome) → length (so_far.moments ++ now ∷ []) ≡ length (so_far.outcomes ++ o ∷ [])
  each-more now o = omega (arith, length-append so_far.outcomes (o ∷ []), length-append so_far.moments (now ∷ []), each)

  more-is : (o : Outcome) → take (length (so_far.outcomes ++ o ∷ [])) script ≡ ss ++ s ∷ []
  more-is o = ap (λ k. take k script) (one-more o) ∙ more

  -- one statement more
  run-next : (now : ℕ) (o : Outcome) (w : World) → May (behind_all w so_far.outcomes) s now o → IsRun w ss so_far.moments so_far.outcomes → IsRun w (ss ++ s ∷ []) (so_far.moments ++ now ∷ []) (so_far.outcomes ++ o ∷ [])
  run-next now o w may run = run-more w ss so_far.moments so_far.outcomes s now o run may

  -- Crashes.

  -- before anything is done
  crashes-nowhere : dt → ((w : World) → StandsFor disk1 mid w → Elapses disk1 disk2 (CutNowhere w disk1.told)) → (w : World) → StandsFor disk old w → Elapses disk disk2 (CrashLeaves w so_far.outcomes disk.told)
  crashes-nowhere t one w stands =
      let to = so_far.runs t w stands in
      elapses-then _ _ _ disk disk1 disk2 (λ image heard leaves. leaves)
      (λ image heard cut number. LeavesOf-done laws number w stands.sound ss so_far.moments so_far.outcomes to.0 disk.told image heard cut.0
      (front_same disk.told disk1.told heard (replies_of so_far.outcomes) (so_far.text t) cut.1)) (so_far.crashes t w stands) (one (behind_all w so_far.outcomes) to.1)

  -- before the reply is told, while it is, or behind it
  cut-telling : dt → (now : ℕ) (o : Outcome) (w : World) → StandsFor disk old w → May (behind_all w so_far.outcomes) s now o → (image : Files) (heard : List ℕ) → CutWithin (behind_all w so_far.outcomes) o disk1.told image heard
      → CrashLeaves w (so_far.outcomes ++ o ∷ []) disk.told image heard
  cut-telling t now o w stands may image heard (inl cut) number =
      LeavesOf-within laws number w stands.sound ss so_far.moments so_far.outcomes (so_far.runs t w stands).0 s now o may disk.told image heard cut.0 (cut.1 ∙ so_far.text t)
  cut-telling t now o w stands may image heard (inr holds) number =
      LeavesOf-done laws number w stands.sound (ss ++ s ∷ []) (so_far.moments ++ now ∷ []) (so_far.outcomes ++ o ∷ []) (run-next now o w may (so_far.runs t w stands).0) disk.told image heard
      (subst (λ v. Covers v image) (sym (behind-more w so_far.outcomes o)) holds.0)
      (front_next disk.told disk1.told heard so_far.outcomes o (so_far.text t) holds.1)

  crashes-telling : dt → (now : ℕ) (o : Outcome) → ((w : World) → StandsFor disk1 mid w → May w s now o) → ((w : World) → StandsFor disk1 mid w → Elapses disk1 disk2 (CutWithin w o disk1.told))
      → (w : World) → StandsFor disk old w → Elapses disk disk2 (CrashLeaves w (so_far.outcomes ++ o ∷ []) disk.told)
  crashes-telling t now o may one w stands =
      let to = so_far.runs t w stands in
      elapses-then _ _ _ disk disk1 disk2
      (λ image heard leaves number. LeavesOf-more number w so_far.outcomes o disk.told image heard (leaves number))
      (cut-telling t now o w stands (may (behind_all w so_far.outcomes) to.1)) (so_far.crashes t w stands) (one (behind_all w so_far.outcomes) to.1)

  -- What is left alone.

  spares-next : dt → (o : Outcome) → ((w : World) → StandsFor disk1 mid w → Spares (IsTouched (ActsWrite o.acts)) disk1 disk2) → (w : World) → StandsFor disk old w
      → Spares (IsTouched (OutcomesWrite (so_far.outcomes ++ o ∷ []))) disk disk2
  spares-next t o one w stands = spares-then (spares-more (writes-before so_far.outcomes (o ∷ [])) (so_far.spares t w stands))
      (spares-more (writes-last so_far.outcomes o) (one (behind_all w so_far.outcomes) (so_far.runs t w stands).1))

  module _ (new : Kept) (refused : Bool) (one : Answered mid new s ct middle after dt disk1 disk2 refused) where
    runs-more : dt → Runs old disk (ss ++ s ∷ []) (so_far.moments ++ one.now ∷ []) (so_far.outcomes ++ one.outcome ∷ []) new disk2
    runs-more t w stands =
        let to = so_far.runs t w stands in (
          run-next one.now one.outcome w (one.may t (behind_all w so_far.outcomes) to.1) to.0,
          subst (StandsFor disk2 new) (sym (behind-more w so_far.outcomes one.outcome)) (one.does t (behind_all w so_far.outcomes) to.1),
        )

    still-more : dt → (w : World) → StandsFor disk old w → AreStill (so_far.outcomes ++ one.outcome ∷ []) → LeavesAlone old disk new disk2
    still-more t w stands all =
        let each = still-front so_far.outcomes one.outcome all in
        let before = so_far.still t w stands each.0 in
        let last = one.still t (behind_all w so_far.outcomes) (so_far.runs t w stands).1 each.1 in
        record { files = spares-then before.files last.files; reserves = λ exact. last.reserves (before.reserves exact) }

    pub front-more : (stop ≡ true → refused ≡ false) → AnsweredFront stop old new (ss ++ s ∷ []) ct before after dt disk disk2
    front-more accepted = record {
      moments = so_far.moments ++ one.now ∷ [];
      outcomes = so_far.outcomes ++ one.outcome ∷ [];
      each_moment = omega (arith, length-append so_far.moments (one.now ∷ []), length-append ss (s ∷ []), so_far.each_moment);
      each_outcome = omega (arith, length-append so_far.outcomes (one.outcome ∷ []), length-append ss (s ∷ []), so_far.each_outcome);
      asked = asked_more ct before middle after so_far.moments one.now so_far.asked one.asked;
      runs = runs-more;
      crashes = λ t. crashes-telling t one.now one.outcome (one.may t) (one.crashes t);
      text = λ t. text_next disk.told disk1.told disk2.told so_far.outcomes one.outcome (so_far.text t) (one.text t);
      accepted = λ on. none-next so_far.outcomes one.outcome (so_far.accepted on) (sym one.which ∙ accepted on);
      still = still-more;
      spares = λ t. spares-next t one.outcome (one.spares t);
    }

    -- the statement was refused, and stops it
    pub Stopped-from : length ss < length script → refused ≡ true → stop ≡ true → Stopped stop old new script ct before after dt disk disk2
    Stopped-from room is on =
        let outcomes = so_far.outcomes ++ one.outcome ∷ [] in
        let n : length outcomes ≡ length ss + 1 = one-more one.outcome in
        record {
          moments = so_far.moments ++ one.now ∷ [];
          outcomes = outcomes;
          each_moment = each-more one.now one.outcome;
          within = omega arith;
          asked = asked_more ct before middle after so_far.moments one.now so_far.asked one.asked;
          runs = λ t. subst (λ xs. Runs old disk xs (so_far.moments ++ one.now ∷ []) outcomes new disk2) (sym (more-is one.outcome)) (runs-more t);
          crashes = λ t. crashes-telling t one.now one.outcome (one.may t) (one.crashes t);
          text = λ t. text_next disk.told disk1.told disk2.told so_far.outcomes one.outcome (so_far.text t) (one.text t);
          stops = on;
          accepted = subst (λ k. GoesOnAccepted k (replies_of outcomes)) (sym n) (goes-next so_far.outcomes one.outcome (length ss) so_far.each_outcome (so_far.accepted on));
          refused = subst EndsRefused (sym (replies-more so_far.outcomes one.outcome)) (ends-refused (replies_of so_far.outcomes) one.outcome.reply (sym one.which ∙ is));
          still = still-more;
          spares = λ t. spares-next t one.outcome (one.spares t);
        }

  -- the last statement came to something, or nothing of it was done
  cut-by : length ss < length script → (has_reply asks : Type 0) → (asks → has_reply) → (now : ℕ) → Asked ct middle after (now ∷ [])
      → CutTelling mid s now dt disk1 disk2 ⊎ ((has_reply → ⊥) × CutExecuting mid dt disk1 disk2) → CutAll stop old script ct before after dt disk disk2 asks
  cut-by room has_reply asks weaker now asked (inl last) =
      let outcomes = so_far.outcomes ++ last.outcome ∷ [] in
      let moments = so_far.moments ++ now ∷ [] in
      let n : length outcomes ≡ length ss + 1 = one-more last.outcome in
      let same : length moments ≡ length outcomes = each-more now last.outcome in
      record {
        moments = moments;
        outcomes = outcomes;
        asked_each = (omega arith, omega arith);
        within = omega arith;
        asked = asked_more ct before middle after so_far.moments now so_far.asked asked;
        runs = λ t w stands.
            subst (λ xs. IsRun w xs (take (length outcomes) moments) outcomes) (sym (more-is last.outcome))
            (subst (λ xs. IsRun w (ss ++ s ∷ []) xs outcomes) (sym (ap (λ k. take k moments) (sym same) ∙ take-length moments))
            (let to = so_far.runs t w stands in run-next now last.outcome w (last.may t (behind_all w so_far.outcomes) to.1) to.0));
        crashes = λ t. crashes-telling t now last.outcome (last.may t) (last.crashes t);
        front = λ t. front_next disk.told disk1.told disk2.told so_far.outcomes last.outcome (so_far.text t) (last.front t);
        some = λ h. omega arith;
        accepted = λ on. subst (λ k. GoesOnAccepted k (replies_of outcomes)) (sym (same ∙ n)) (goes-next so_far.outcomes last.outcome (length ss) so_far.each_outcome (so_far.accepted on));
        spares = λ t. spares-next t last.outcome (last.spares t);
      }
  cut-by room has_reply asks weaker now asked (inr none) =
      let moments = so_far.moments ++ now ∷ [] in
      let n : length moments ≡ length ss + 1 = omega (arith, length-append so_far.moments (now ∷ []), so_far.each_moment) in
      record {
        moments = moments;
        outcomes = so_far.outcomes;
        asked_each = (omega (arith, so_far.each_outcome), omega (arith, so_far.each_outcome));
        within = omega (arith, so_far.each_outcome);
        asked = asked_more ct before middle after so_far.moments now so_far.asked asked;
        runs = λ t w stands.
            subst (λ xs. IsRun w xs (take (length so_far.outcomes) moments) so_far.outcomes) (sym front-is)
            (subst (λ xs. IsRun w ss xs so_far.outcomes) (sym (ap (λ k. take k moments) (sym each) ∙ take-append_seam so_far.moments (now ∷ []))) (so_far.runs t w stands).0);
        crashes = λ t. crashes-nowhere t (none.1.crashes t);
        front = λ t. front_same disk.told disk1.told disk2.told (replies_of so_far.outcomes) (so_far.text t) (none.1.silent t);
        some = λ h. absurd (none.0 (weaker h));
        accepted = λ on. subst (λ k. GoesOnAccepted k (replies_of so_far.outcomes)) (sym n)
            (goes-on-all (replies_of so_far.outcomes) (length ss) (replies-length so_far.outcomes ∙ so_far.each_outcome) (so_far.accepted on));
        spares = λ t w stands. spares-then (so_far.spares t w stands) (spares-wider (λ name never. absurd never) (none.1.spares t));
      }

  pub CutAll-from : length ss < length script → (has_reply asks : Type 0) → (asks → has_reply) → CutShort mid s ct middle after dt disk1 disk2 has_reply → CutAll stop old script ct before after dt disk disk2 asks
  CutAll-from room has_reply asks weaker cut = cut-by room has_reply asks weaker cut.now cut.asked cut.front

-- nothing is answered yet
pub front-none : (stop : Bool) (old : Kept) (ct : Type 0) (before : ℕ → ℕ) (dt : Type 0) (disk : Disk) → AnsweredFront stop old old [] ct before before dt disk disk
front-none stop old ct before dt disk = record {
  moments = [];
  outcomes = [];
  each_moment = refl;
  each_outcome = refl;
  asked = record { shown = λ t i lt. absurd (omega (arith, lt)); moved = λ t i. ap before (omega arith) };
  runs = λ t w stands. (tt, stands);
  crashes = λ t w stands. elapses-none _ disk;
  text = λ t. sym (append-nil disk.told);
  accepted = λ on. refl;
  still = λ t w stands all. record { files = spares-none disk; reserves = λ exact. exact };
  spares = λ t w stands. spares-none disk;
}
