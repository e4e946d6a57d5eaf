use Rattle.std.proofs.Common.{◌≡◌, ◌≤◌, ◌+◌, ◌-◌, List, [], ◌∷◌, ◌++◌, ℕ, length, sym, ap, subst, ◌∙◌, arith}
use Rattle.bk_ids.specs.declared.record.Rec.{Rec}
use Rattle.bk_record.specs.Spelling.{spelling}
use Rattle.bk_log.specs.contracts.log.Log.{the_view}
use Rattle.bk_segments.specs.BatchLaws.{part_more, records_more}
use Rattle.bk_log.specs.Log.{Kept}
use Rattle.bk_segments.specs.Records.{IsPart, records_in}
use Rattle.bk_log.proofs.log.Log.append_reserved.Goals as goal

pub encode_reserved-requires-clause-room : goal.encode_reserved-requires-clause-room
encode_reserved-requires-clause-room c =
    let enough : length (spelling c.args.r.now) ≤ c.self.inside.spare_bytes = subst (λ (k : Kept). length (spelling c.args.r.now) ≤ k.spare_bytes) (sym c.self.view_is) c.requires.spare in
    omega (arith, c.self.invariant.8, enough)

pub overflow_sub-self : goal.overflow_sub-self
overflow_sub-self c =
    let enough : length (spelling c.args.r.now) ≤ c.self.inside.spare_bytes = subst (λ (k : Kept). length (spelling c.args.r.now) ≤ k.spare_bytes) (sym c.self.view_is) c.requires.spare in
    omega (arith, c.spelled_len-len.ensures.len, enough)

pub invariant_of-self : goal.invariant_of-self
invariant_of-self c =
    let inv = c.self.invariant in
    let ends : c.self.inside.end ≡ c.args.self.now.end = ap (λ (k : Kept). k.end) c.self.view_is in
    let enough : length (spelling c.args.r.now) ≤ c.self.inside.spare_bytes = subst (λ (k : Kept). length (spelling c.args.r.now) ≤ k.spare_bytes) (sym c.self.view_is) c.requires.spare in
    let more = part_more c.self.inside.stored c.self.inside.end c.self.inside.waiting.items c.args.r.now inv.4 c.encode_reserved.ensures.fits (c.requires.number ∙ sym ends) in
    (inv.0, inv.1, inv.2, inv.3, subst (λ (bs : List ℕ). IsPart c.self.inside.stored bs (c.self.inside.end + 1)) (sym c.encode_reserved.ensures.items) more, omega (arith, c.requires.small, ends), inv.6, inv.7, omega (arith, inv.8, enough, c.spelled_len-len.ensures.len, c.encode_reserved.ensures.len, c.encode_reserved.ensures.room), inv.9)

pub returns-clause-more : goal.returns-clause-more
returns-clause-more c =
    let inv = c.self.invariant in
    let grown : records_in c.encode_reserved.new.out.items ≡ records_in c.self.inside.waiting.items ++ c.args.r.now ∷ [] =
    ap records_in c.encode_reserved.ensures.items ∙ records_more c.self.inside.waiting.items c.args.r.now inv.4.batch c.encode_reserved.ensures.fits in
    let View : Kept = the_view c.self.inside in
    let W : Kept → Type 0 = λ k. record View { waiting = records_in c.encode_reserved.new.out.items; end = c.self.inside.end + 1; spare_bytes = c.self.inside.spare_bytes - c.spelled_len-len.result } ≡ record k { waiting = k.waiting ++ c.args.r.now ∷ []; end = k.end + 1; spare_bytes = k.spare_bytes - length (spelling c.args.r.now) } in
    subst W c.self.view_is (
    ap (λ (w : List Rec). record View { waiting = w; end = c.self.inside.end + 1; spare_bytes = c.self.inside.spare_bytes - c.spelled_len-len.result }) grown
    ∙ ap (λ (n : ℕ). record View { waiting = records_in c.self.inside.waiting.items ++ c.args.r.now ∷ []; end = c.self.inside.end + 1; spare_bytes = c.self.inside.spare_bytes - n }) c.spelled_len-len.ensures.len
    )
