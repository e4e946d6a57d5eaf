-- What a crash of a run leaves, from the files that it leaves.
use Rattle.std.proofs.Common.{◌≡◌, ◌<◌, ◌≤◌, ◌⊎◌, ℕ, List, [], ◌∷◌, ◌++◌, length, take, drop, inl, inr, refl, sym, ◌∙◌, ap, subst, arith, length-append}
use Rattle.std.proofs.lemmas.List.{append-nil, take-append-le, take_all, length-map, map-append}
use Rattle.std.proofs.lemmas.Bool.{cases_lt}
use Rattle.std.proofs.lemmas.Grind.{flat_map-append}
use Rattle.std.proofs.Math.Seq.{take-append_seam, take-length, drop-append_seam}
use Rattle.bk_device.specs.Calls.{TellsFront}
use Rattle.bk_device.specs.Disk.{Files}
use Rattle.bk_executing.specs.EngineLoading.{Stands}
use Rattle.bk_executing.specs.EngineStands.{Covers}
use Rattle.bk_items.specs.declared.item.ScriptEntry.{ScriptEntry}
use Rattle.bk_machine.specs.Acts.{Act, done_all}
use Rattle.bk_machine.specs.Closing.{AreClosing, closed_by}
use Rattle.bk_machine.specs.Crash.{Leaves, next_acts}
use Rattle.bk_machine.specs.Machine.{May, behind}
use Rattle.bk_machine.specs.Outcome.{Outcome}
use Rattle.bk_machine.specs.Run.{IsRun, behind_all, replies_of}
use Rattle.bk_machine.specs.Sound.{IsSound}
use Rattle.bk_machine.specs.World.{World, ended, opened}
use Rattle.bk_restarts.specs.Crashes.{CrashLaws, CutIn, LeavesFrom}
use Rattle.bk_restarts.specs.CutLaws.{cut-first}
use Rattle.bk_report.specs.Listing.{listing_text}
use Rattle.bk_world.specs.declared.reply.Reply.{Reply}
use Rattle.bk_world.specs.Text.{reply_text, replies_text}
use Rattle.bk_console.specs.Answers.{told_whole, LeavesOf}
use Rattle.bk_console.proofs.Told.{told-none, told-all, told-front}

-- Runs.

-- one statement more
pub run-more : (w : World) (ss : List ScriptEntry) (ms : List ℕ) (os : List Outcome) (s : ScriptEntry) (now : ℕ) (o : Outcome)
    → IsRun w ss ms os → May (behind_all w os) s now o → IsRun w (ss ++ s ∷ []) (ms ++ now ∷ []) (os ++ o ∷ [])
run-more w [] [] [] s now o run may = (may, tt)
run-more w [] [] (p ∷ os) s now o run may = absurd run
run-more w [] (m ∷ ms) os s now o run may = absurd run
run-more w (t ∷ ss) [] os s now o run may = absurd run
run-more w (t ∷ ss) (m ∷ ms) [] s now o run may = absurd run
run-more w (t ∷ ss) (m ∷ ms) (p ∷ os) s now o run may = (run.0, run-more (behind w p) ss ms os s now o run.1 may)

pub behind-more : (w : World) (os : List Outcome) (o : Outcome) → behind_all w (os ++ o ∷ []) ≡ behind (behind_all w os) o
behind-more w [] o = refl
behind-more w (p ∷ os) o = behind-more (behind w p) os o

pub replies-more : (os : List Outcome) (o : Outcome) → replies_of (os ++ o ∷ []) ≡ replies_of os ++ o.reply ∷ []
replies-more os o = map-append (λ (o : Outcome). o.reply) os (o ∷ [])

pub replies-length : (os : List Outcome) → length (replies_of os) ≡ length os
replies-length os = length-map os (λ (o : Outcome). o.reply)

-- Bytes.

-- a front of some bytes, and no more than there are
front-within : (bytes told heard : List ℕ) → TellsFront bytes told heard → (n : ℕ) × (heard ≡ told ++ take n bytes) × (n ≤ length bytes)
front-within bytes told heard front = by (cases_lt front.0 (length bytes))
  where
    by : (front.0 < length bytes) ⊎ (length bytes ≤ front.0) → (n : ℕ) × (heard ≡ told ++ take n bytes) × (n ≤ length bytes)
    by (inl below) = (front.0, front.1, omega (arith, below))
    by (inr above) = (length bytes, front.1 ∙ ap (λ b. told ++ b) (take_all front.0 bytes above ∙ sym (take-length bytes)), omega arith)

-- no statement was begun
pub LeavesOf-none : CrashLaws → (number : ℕ) (w : World) (outcomes : List Outcome) (told : List ℕ) (image : Files) (heard : List ℕ) → Stands number image w → heard ≡ told
    → LeavesOf number (opened w) outcomes told image heard
LeavesOf-none laws number w outcomes told image heard stands same =
    let to = laws.begins number w image stands in
    record {
      count = 0;
      bytes = same ∙ sym (append-nil told);
      within = omega arith;
      begun = 0;
      few = omega arith;
      left = to.0;
      leaves = subst (λ least. Leaves (opened w) [] least to.0) (sym (told-none (replies_of outcomes))) to.1;
      stands = to.2;
    }

-- within the last one, or behind it, once the texts of the replies to those before it were told
LeavesOf-last : (number : ℕ) (first : World) (outcomes : List Outcome) (o : Outcome) (told : List ℕ) (image : Files) (heard : List ℕ)
    → ((least : ℕ) → least ≤ length outcomes → (left : World) × Leaves first (outcomes ++ o ∷ []) least left × Stands number image left) → heard ≡ told ++ replies_text listing_text (replies_of outcomes)
    → LeavesOf number first (outcomes ++ o ∷ []) told image heard
LeavesOf-last number first outcomes o told image heard leads same =
    let all : List Outcome = outcomes ++ o ∷ [] in
    let count : ℕ = length (replies_text listing_text (replies_of outcomes)) in
    let whole : told_whole (replies_of all) count ≡ told_whole (replies_of outcomes) count =
    ap (λ rs. told_whole rs count) (replies-more outcomes o) ∙ told-front (replies_of outcomes) (o.reply ∷ []) count (omega arith) in
    let to = leads (told_whole (replies_of all) count) (omega (arith, whole, told-all (replies_of outcomes) count, replies-length outcomes)) in
    let texts : replies_text listing_text (replies_of all) ≡ replies_text listing_text (replies_of outcomes) ++ replies_text listing_text (o.reply ∷ []) =
    ap (replies_text listing_text) (replies-more outcomes o) ∙ flat_map-append (reply_text listing_text) (replies_of outcomes) (o.reply ∷ []) in
    record {
      count = count;
      bytes = same ∙ ap (λ b. told ++ b) (sym (ap (take count) texts ∙ take-append_seam (replies_text listing_text (replies_of outcomes)) (replies_text listing_text (o.reply ∷ []))));
      within = omega (arith, ap (λ (b : List ℕ). length b) texts, length-append (replies_text listing_text (replies_of outcomes)) (replies_text listing_text (o.reply ∷ [])));
      begun = length all;
      few = omega arith;
      left = to.0;
      leaves = subst (λ os. Leaves first os (told_whole (replies_of all) count) to.0) (sym (take-length all)) to.1;
      stands = to.2;
    }

-- where it is cut
cut-last : (number : ℕ) (first : World) (outcomes : List Outcome) (o : Outcome) (image : Files) → LeavesFrom number first (outcomes ++ o ∷ []) → CutIn (behind_all first outcomes) o.acts image
    → (least : ℕ) → least ≤ length outcomes → (left : World) × Leaves first (outcomes ++ o ∷ []) least left × Stands number image left
cut-last number first outcomes o image from cut least few =
    let all : List Outcome = outcomes ++ o ∷ [] in
    let there : CutIn (behind_all first (take (length outcomes) all)) (next_acts (drop (length outcomes) all)) image =
    subst (λ os. CutIn (behind_all first (take (length outcomes) all)) (next_acts os) image) (sym (drop-append_seam outcomes (o ∷ [])))
    (subst (λ os. CutIn (behind_all first os) o.acts image) (sym (take-append_seam outcomes (o ∷ []))) cut) in
    from least (length outcomes) image few (omega (arith, length-append outcomes (o ∷ []))) there

module _ (laws : CrashLaws) (number : ℕ) (first : World) (sound : IsSound first) (statements : List ScriptEntry) (moments : List ℕ) (outcomes : List Outcome) (run : IsRun first statements moments outcomes) where
  -- behind all of them, of whose replies' texts a front was told
  pub LeavesOf-done : (told : List ℕ) (image : Files) (heard : List ℕ) → Covers (behind_all first outcomes) image → TellsFront (replies_text listing_text (replies_of outcomes)) told heard
      → LeavesOf number first outcomes told image heard
  LeavesOf-done told image heard covers front =
      let texts = front-within (replies_text listing_text (replies_of outcomes)) told heard front in
      let n : ℕ = length outcomes in
      let there : CutIn (behind_all first (take n outcomes)) (next_acts (drop n outcomes)) image =
      cut-first (behind_all first (take n outcomes)) (next_acts (drop n outcomes)) image (subst (λ os. Covers (behind_all first os) image) (sym (take-length outcomes)) covers) in
      let to = laws.runs number first statements moments outcomes sound run (told_whole (replies_of outcomes) texts.0) n image
      (omega (arith, told-all (replies_of outcomes) texts.0, replies-length outcomes)) (omega arith) there in
      record {
        count = texts.0;
        bytes = texts.1;
        within = texts.2;
        begun = length outcomes;
        few = omega arith;
        left = to.0;
        leaves = subst (λ os. Leaves first os (told_whole (replies_of outcomes) texts.0) to.0) (sym (take-length outcomes)) to.1;
        stands = to.2;
      }

  -- within the next one
  pub LeavesOf-within : (s : ScriptEntry) (now : ℕ) (o : Outcome) → May (behind_all first outcomes) s now o → (told : List ℕ) (image : Files) (heard : List ℕ)
      → CutIn (behind_all first outcomes) o.acts image → heard ≡ told ++ replies_text listing_text (replies_of outcomes)
      → LeavesOf number first (outcomes ++ o ∷ []) told image heard
  LeavesOf-within s now o may told image heard cut = LeavesOf-last number first outcomes o told image heard
      (cut-last number first outcomes o image (laws.runs number first (statements ++ s ∷ []) (moments ++ now ∷ []) (outcomes ++ o ∷ []) sound (run-more first statements moments outcomes s now o run may)) cut)

  -- within its closing
  pub LeavesOf-closing : (acts : List Act) → AreClosing (behind_all first outcomes) acts → (told : List ℕ) (image : Files) (heard : List ℕ)
      → CutIn (behind_all first outcomes) acts image → heard ≡ told ++ replies_text listing_text (replies_of outcomes)
      → LeavesOf number first (outcomes ++ closed_by acts ∷ []) told image heard
  LeavesOf-closing acts closing told image heard cut = LeavesOf-last number first outcomes (closed_by acts) told image heard
      (cut-last number first outcomes (closed_by acts) image (laws.closings number first statements moments outcomes acts sound run closing) cut)

  -- behind that
  pub LeavesOf-ended : (acts : List Act) → AreClosing (behind_all first outcomes) acts → (told : List ℕ) (image : Files) (heard : List ℕ)
      → Stands number image (ended (done_all (behind_all first outcomes) acts)) → heard ≡ told ++ replies_text listing_text (replies_of outcomes)
      → LeavesOf number first (outcomes ++ closed_by acts ∷ []) told image heard
  LeavesOf-ended acts closing told image heard stands = LeavesOf-last number first outcomes (closed_by acts) told image heard
      (λ least few. laws.ends number first statements moments outcomes acts sound run closing least image (omega (arith, few, length-append outcomes (closed_by acts ∷ []))) stands)

-- one outcome more
pub LeavesOf-more : (number : ℕ) (first : World) (outcomes : List Outcome) (o : Outcome) (told : List ℕ) (image : Files) (heard : List ℕ)
    → LeavesOf number first outcomes told image heard → LeavesOf number first (outcomes ++ o ∷ []) told image heard
LeavesOf-more number first outcomes o told image heard leaves =
    let replies : List Reply = replies_of outcomes in
    let texts : replies_text listing_text (replies_of (outcomes ++ o ∷ [])) ≡ replies_text listing_text replies ++ replies_text listing_text (o.reply ∷ []) =
    ap (replies_text listing_text) (replies-more outcomes o) ∙ flat_map-append (reply_text listing_text) replies (o.reply ∷ []) in
    let whole : told_whole (replies_of (outcomes ++ o ∷ [])) leaves.count ≡ told_whole replies leaves.count =
    ap (λ rs. told_whole rs leaves.count) (replies-more outcomes o) ∙ told-front replies (o.reply ∷ []) leaves.count leaves.within in
    record {
      count = leaves.count;
      bytes = leaves.bytes ∙ ap (λ b. told ++ b) (sym (ap (take leaves.count) texts ∙ take-append-le leaves.count (replies_text listing_text replies) (replies_text listing_text (o.reply ∷ [])) leaves.within));
      within = omega (arith, leaves.within, ap (λ (b : List ℕ). length b) texts, length-append (replies_text listing_text replies) (replies_text listing_text (o.reply ∷ [])));
      begun = leaves.begun;
      few = omega (arith, leaves.few, length-append outcomes (o ∷ []));
      left = leaves.left;
      leaves = subst (λ os. Leaves first os (told_whole (replies_of (outcomes ++ o ∷ [])) leaves.count) leaves.left) (sym (take-append-le leaves.begun outcomes (o ∷ []) leaves.few))
          (subst (λ least. Leaves first (take leaves.begun outcomes) least leaves.left) (sym whole) leaves.leaves);
      stands = leaves.stands;
    }
