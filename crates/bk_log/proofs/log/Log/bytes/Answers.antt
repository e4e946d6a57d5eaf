use Rattle.std.proofs.Common.{◌≡◌, ◌≤◌, ◌-◌, ◌+◌, List, ℕ, length, take, drop, sym, ap, subst, ◌∙◌, arith}
use Rattle.std.specs.List.{flat_map}
use Rattle.std.proofs.lemmas.List.{drop-drop}
use Rattle.bk_ids.specs.declared.record.Rec.{Rec}
use Rattle.bk_record.specs.Spelling.{spelling}
use Rattle.bk_segments.specs.FileLaws.{all_blobs}
use Rattle.bk_log.specs.Log.{Kept, IsLog, value_of}
use Rattle.bk_segments.specs.Files.{blobs_of}
use Rattle.bk_segments.specs.Records.{records_of, joined}
use Rattle.bk_log.proofs.Parts.{joined_spelled, records_are, part_spelled, places_rise}
use Rattle.bk_log.proofs.log.Log.bytes.Goals as goal

pub returns-clause-bytes : goal.returns-clause-bytes
returns-clause-bytes g c t =
    let a = g.D.Device.disk c.args.dev.now in
    let head = c.self.inside.head in
    let is = subst (IsLog a) (sym c.self.view_is) (c.requires.stands t) in
    let rs : List Rec = records_of (blobs_of a.files c.self.inside.db head) in
    let gathered : c.in_ok-all.all.items ≡ flat_map spelling rs = c.in_ok-all.ensures.bytes t ∙ ap joined (all_blobs a.files c.self.inside.db head is.sound.front) ∙ joined_spelled (blobs_of a.files c.self.inside.db head) is.run.batches in
    let are = records_are (blobs_of a.files c.self.inside.db head) is.run.batches in
    let kept : head.kept ≤ c.args.from = subst (λ (k : Kept). k.head.kept ≤ c.args.from) (sym c.self.view_is) c.requires.kept in
    let inside : c.args.to ≤ c.self.inside.stored = subst (λ (k : Kept). c.args.to ≤ k.stored) (sym c.self.view_is) c.requires.inside in
    let order : c.args.from ≤ c.args.to = c.requires.order in
    let i = c.args.from - head.first in
    let j = c.args.to - head.first in
    let start : c.place_of-start.result ≡ length (flat_map spelling (take i rs)) = c.place_of-start.ensures.value rs (c.deref.ensures.value ∙ gathered) are (omega (arith, is.run.ends, inside, order)) in
    let end : c.place_of.result ≡ length (flat_map spelling (take j rs)) = c.place_of.ensures.value rs (c.deref-2.ensures.value ∙ gathered) are (omega (arith, is.run.ends, inside)) in
    let rise : length (flat_map spelling (take i rs)) ≤ length (flat_map spelling (take j rs)) = places_rise rs i j (omega (arith, order)) in
    let size : c.max-end.result - c.place_of-start.result ≡ length (flat_map spelling (take j rs)) - length (flat_map spelling (take i rs)) = omega (arith, c.max-end.ensures, start, end, rise) in
    let all : c.deref-3.result.now ≡ flat_map spelling rs = c.deref-3.ensures.value ∙ gathered in
    let between : j - i ≡ c.args.to - c.args.from = omega (arith, is.sound.kept, kept, order) in
    let sum : i ≡ (head.kept - head.first) + (c.args.from - head.kept) = omega (arith, is.sound.kept, kept) in
    let read : c.in_ok-part.part.items ≡ flat_map spelling (take (c.args.to - c.args.from) (drop (c.args.from - head.kept) (drop (head.kept - head.first) rs))) =
    c.in_ok-part.ensures.items
    ∙ ap (λ (n : ℕ). take n (drop c.place_of-start.result c.deref-3.result.now)) size
    ∙ ap (λ (n : ℕ). take (length (flat_map spelling (take j rs)) - length (flat_map spelling (take i rs))) (drop n c.deref-3.result.now)) start
    ∙ ap (λ (x : List ℕ). take (length (flat_map spelling (take j rs)) - length (flat_map spelling (take i rs))) (drop (length (flat_map spelling (take i rs))) x)) all
    ∙ part_spelled rs i j (omega (arith, order))
    ∙ ap (λ (n : ℕ). flat_map spelling (take n (drop i rs))) between
    ∙ ap (λ (n : ℕ). flat_map spelling (take (c.args.to - c.args.from) (drop n rs))) sum
    ∙ ap (λ (x : List Rec). flat_map spelling (take (c.args.to - c.args.from) x)) (sym (drop-drop (c.args.from - head.kept) (head.kept - head.first) rs)) in
    let W : Kept → Type 0 = λ k. c.in_ok-part.part.items ≡ flat_map spelling (take (c.args.to - c.args.from) (drop (c.args.from - k.head.kept) (value_of a.files k).records)) in
    subst W c.self.view_is read
