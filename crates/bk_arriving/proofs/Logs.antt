-- The log of a set.
use Rattle.std.proofs.Common.{◌≡◌, ◌≤◌, ◌+◌, ℕ, List, [], ◌∷◌, ◌++◌, length, length-append, None, refl, sym, ap, subst, ◌∙◌, arith}
use Rattle.std.specs.List.{AllByRecursion, flat_map}
use Rattle.bk_body.specs.Body.{Body}
use Rattle.bk_body.specs.Conditions.{FollowOn}
use Rattle.bk_facts.specs.declared.facts.DataFile.{DataFile}
use Rattle.bk_filling.specs.Records.{Spell}
use Rattle.bk_ids.specs.declared.record.Rec.{Rec}
use Rattle.bk_known.specs.declared.known.Known.{Known}
use Rattle.bk_restoring.specs.PagedHolds.{Recovers}
use Rattle.bk_restored.specs.Paths.{kept_from}
use Rattle.bk_record.specs.Laws.{one_record}
use Rattle.bk_record.specs.Log.{IsLog}
use Rattle.bk_record.specs.RecordsLaws.{some_bytes, whole_is}
use Rattle.bk_record.specs.Spelling.{spelling, IsRecord}
use Rattle.bk_restored.specs.Restored.{SufficesTold}
use Rattle.bk_restoring.specs.Arriving.{Kept}
use Rattle.bk_segments.specs.Records.{Numbered}
use Rattle.bk_restored.specs.StoreTold.{Told, stood_of}
use Rattle.bk_volume.specs.Stored.{IsOf, Stored}
use Rattle.bk_world.specs.declared.header.Header.{Header}
use Rattle.bk_arriving.specs.Sets.{arriving_of}

no_bytes : (r : Rec) (rest : List ℕ) → [] ≡ spelling r ++ rest → ⊥
no_bytes r rest same = omega (arith, some_bytes r, ap (λ (bytes : List ℕ). length bytes) same, length-append (spelling r) rest)

-- bytes spell one list of records
same_records : (rs ss : List Rec) → AllByRecursion IsRecord rs → AllByRecursion IsRecord ss → flat_map spelling rs ≡ flat_map spelling ss → rs ≡ ss
same_records [] [] are ares same = refl
same_records [] (s ∷ ss) are ares same = absurd (no_bytes s (flat_map spelling ss) same)
same_records (r ∷ rs) [] are ares same = absurd (no_bytes r (flat_map spelling rs) (sym same))
same_records (r ∷ rs) (s ∷ ss) are ares same =
    let both = one_record r s (flat_map spelling rs) (flat_map spelling ss) are.0 ares.0 same in
    ap (λ (q : Rec). q ∷ rs) both.0 ∙ ap (λ (qs : List Rec). s ∷ qs) (same_records rs ss are.1 ares.1 both.1)

numbered : (first : ℕ) (rs : List Rec) (last : ℕ) → FollowOn first rs last → Numbered first rs
numbered first [] last follow = tt
numbered first (r ∷ rs) last follow = (follow.0, numbered (first + 1) rs last follow.1)

-- the bytes of a set's log spell its records
pub log_spells : (file : List ℕ) (body : Body) (set : Stored) (records : List Rec) → IsOf file body set → IsLog body.log records None → Spell body.log set.header.first records
log_spells file body set records is log =
    let own = is.is_body.log in
    let same : own.0 ≡ records = same_records own.0 records own.1.are_records log.are_records (sym (whole_is body.log own.0 own.1) ∙ whole_is body.log records log) in
    let first : body.header.first ≡ set.header.first = ap (λ (h : Header). h.first) (sym is.header) in
    record {
      spelled = whole_is body.log records log;
      are = log.are_records;
      numbered = subst (λ (n : ℕ). Numbered n records) first (subst (Numbered body.header.first) same (numbered body.header.first own.0 body.header.last own.2.numbers));
    }

-- what suffices for these files, and for the first record
pub suffices_as : (a : Kept) (files : List DataFile) (db first checkpoint : ℕ) (note : List ℕ) (given : ℕ × ℕ → List ℕ) (records : List Rec) (known : Known) (told : Told) → a.filling.files ≡ files → a.log.kept ≡ first
    → SufficesTold (arriving_of files db first) checkpoint note given records known told → SufficesTold a checkpoint note given records known told
suffices_as a files db first checkpoint note given records known told same kept enough = record {
  noted = enough.noted;
  log = enough.log;
  same_note = enough.same_note;
  suffices = record {
    files = enough.suffices.files ∙ sym same;
    same_note = enough.suffices.same_note;
    held = enough.suffices.held ∙ ap (λ (n : ℕ). kept_from n (stood_of known told).records) (sym kept);
    needs = subst (λ (n : ℕ). n ≤ (stood_of known told).needed) (sym kept) enough.suffices.needs;
    recovers = subst (λ (n : ℕ). Recovers n checkpoint (stood_of known told).files (λ at. given (at.file, at.page)) (stood_of known told).records) (sym kept) enough.suffices.recovers;
  };
}
