-- Statements are answered while they are read, one by one.
use Rattle.std.proofs.Common.{◌≡◌, ◌<◌, ℕ, ◌+◌, ◌-◌, Bool, true, false, List, [], ◌∷◌, ◌++◌, length, take, Some, None, refl, sym, ◌∙◌, ap, subst, arith, length-append, append-nil, append_assoc}
use Rattle.std.proofs.Math.Seq.{take-append-add, take-append_seam, take-length}
use Rattle.bk_device.specs.Disk.{Disk}
use Rattle.bk_executing.specs.EngineStands.{Kept}
use Rattle.bk_items.specs.declared.item.ScriptEntry.{ScriptEntry}
use Rattle.bk_syntax.specs.Items.{AreItems}
use Rattle.bk_syntax.specs.Reader.{HasItems, GivesItem}
use Rattle.bk_syntax.specs.declared.reader.Reader.{Reader}
use Rattle.bk_machine.specs.Run.{IsRun, replies_of}
use Rattle.bk_restarts.specs.Crashes.{CrashLaws}
use Rattle.bk_console.specs.Answers.{Answered, AnsweredFront, AnsweredAll, Stopped, CutShort, CutAll}
use Rattle.bk_console.proofs.Answering.{front-more, front-none, none-front, front_same, Stopped-from, CutAll-from}

-- a front of the statements was answered, and the reader has the others before it
pub record AnsweredSoFar (stop : Bool) (old mid : Kept) (src : List ℕ) (r : Reader) (script : List ScriptEntry) (ct : Type 0) (before middle : ℕ → ℕ) (dt : Type 0) (disk disk1 : Disk) : Type 0 where
  pub front : List ScriptEntry
  pub rest : List ScriptEntry
  pub whole : script ≡ front ++ rest
  pub left : HasItems src r rest
  pub answered : AnsweredFront stop old mid front ct before middle dt disk disk1

pub so_far-none : (stop : Bool) (old : Kept) (src : List ℕ) (r : Reader) (script : List ScriptEntry) (ct : Type 0) (before : ℕ → ℕ) (dt : Type 0) (disk : Disk)
    → ((es : List ScriptEntry) → AreItems src es → HasItems src r es) → AreItems src script → AnsweredSoFar stop old old src r script ct before before dt disk disk
so_far-none stop old src r script ct before dt disk has items = record {
  front = [];
  rest = script;
  whole = refl;
  left = has script items;
  answered = front-none stop old ct before dt disk;
}

module _ (laws : CrashLaws) (stop : Bool) (old mid : Kept) (src : List ℕ) (r : Reader) (script : List ScriptEntry) (ct : Type 0) (before middle : ℕ → ℕ) (dt : Type 0) (disk disk1 : Disk)
    (so_far : AnsweredSoFar stop old mid src r script ct before middle dt disk disk1) where
  front-is : take (length so_far.front) script ≡ so_far.front
  front-is = ap (take (length so_far.front)) so_far.whole ∙ take-append_seam so_far.front so_far.rest

  -- no statement is left
  pub so_far-all : (r2 : Reader) → ((ss : List ScriptEntry) → HasItems src r ss → GivesItem src None ss r2) → AnsweredAll stop old mid script ct before middle dt disk disk1
  so_far-all r2 gives =
      let all : so_far.front ≡ script = sym (so_far.whole ∙ ap (λ l. so_far.front ++ l) (gives so_far.rest so_far.left) ∙ append-nil so_far.front) in
      subst (λ ss. AnsweredFront stop old mid ss ct before middle dt disk disk1) all so_far.answered

  -- the next couldn't be read
  pub so_far-unread : (asks : Type 0) → (asks → ⊥) → CutAll stop old script ct before middle dt disk disk1 asks
  so_far-unread asks never =
      let a = so_far.answered in
      let each : length a.moments ≡ length a.outcomes = a.each_moment ∙ sym a.each_outcome in
      record {
        moments = a.moments;
        outcomes = a.outcomes;
        asked_each = (omega arith, omega arith);
        within = omega (arith, a.each_outcome, ap length so_far.whole, length-append so_far.front so_far.rest);
        asked = a.asked;
        runs = λ t w stands.
            subst (λ xs. IsRun w xs (take (length a.outcomes) a.moments) a.outcomes) (sym (ap (λ k. take k script) a.each_outcome ∙ front-is))
            (subst (λ xs. IsRun w so_far.front xs a.outcomes) (sym (ap (λ k. take k a.moments) (sym each) ∙ take-length a.moments)) (a.runs t w stands).0);
        crashes = a.crashes;
        front = λ t. front_same disk.told disk1.told disk1.told (replies_of a.outcomes) (a.text t) refl;
        some = λ h. absurd (never h);
        accepted = λ on. none-front (length a.moments - 1) (replies_of a.outcomes) (a.accepted on);
        spares = a.spares;
      }

  module _ (r2 : Reader) (s : ScriptEntry) (gives : (ss : List ScriptEntry) → HasItems src r ss → GivesItem src (Some s) ss r2) where
    others : List ScriptEntry
    others = (gives so_far.rest so_far.left).0

    next-is : script ≡ so_far.front ++ s ∷ others
    unfolding others
    next-is = so_far.whole ∙ ap (λ l. so_far.front ++ l) (gives so_far.rest so_far.left).1

    more-is : take (length so_far.front + 1) script ≡ so_far.front ++ s ∷ []
    more-is = ap (take (length so_far.front + 1)) next-is ∙ take-append-add so_far.front (s ∷ others) 1

    room : length so_far.front < length script
    room = omega (arith, ap length next-is, length-append so_far.front (s ∷ others))

    pub so_far-cut : (after : ℕ → ℕ) (disk2 : Disk) (has_reply asks : Type 0) → (asks → has_reply) → CutShort mid s ct middle after dt disk1 disk2 has_reply → CutAll stop old script ct before after dt disk disk2 asks
    so_far-cut after disk2 has_reply asks weaker cut =
        CutAll-from laws stop old mid script so_far.front s ct before middle after dt disk disk1 disk2 so_far.answered front-is more-is room has_reply asks weaker cut

    module _ (new : Kept) (after : ℕ → ℕ) (disk2 : Disk) (refused : Bool) (one : Answered mid new s ct middle after dt disk1 disk2 refused) where
      pub so_far-more : (stop ≡ true → refused ≡ false) → AnsweredSoFar stop old new src r2 script ct before after dt disk disk2
      unfolding others
      so_far-more accepted = record {
        front = so_far.front ++ s ∷ [];
        rest = others;
        whole = next-is ∙ sym (append_assoc so_far.front (s ∷ []) others);
        left = (gives so_far.rest so_far.left).2;
        answered = front-more laws stop old mid script so_far.front s ct before middle after dt disk disk1 disk2 so_far.answered front-is more-is new refused one accepted;
      }

      pub so_far-stopped : refused ≡ true → stop ≡ true → Stopped stop old new script ct before after dt disk disk2
      so_far-stopped is on =
          Stopped-from laws stop old mid script so_far.front s ct before middle after dt disk disk1 disk2 so_far.answered front-is more-is new refused one room is on
