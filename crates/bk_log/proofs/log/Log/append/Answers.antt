use Rattle.std.proofs.Common.{◌≡◌, ◌+◌, List, [], ◌∷◌, ◌++◌, ℕ, sym, ap, subst, ◌∙◌, arith}
use Rattle.bk_ids.specs.declared.record.Rec.{Rec}
use Rattle.bk_record.specs.Spelling.{spelling}
use Rattle.bk_log.specs.contracts.log.Log.{the_view}
use Rattle.bk_segments.specs.BatchLaws.{part_more, records_more}
use Rattle.bk_log.specs.Log.{Kept}
use Rattle.bk_segments.specs.Records.{IsPart, records_in}
use Rattle.bk_log.proofs.log.Log.append.Goals as goal

pub invariant_of-self-2 : goal.invariant_of-self-2
invariant_of-self-2 c =
    let inv = c.self.invariant in
    let ends : c.self.inside.end ≡ c.args.self.now.end = ap (λ (k : Kept). k.end) c.self.view_is in
    let written : c.encode_reserved.new.out.items ≡ c.self.inside.waiting.items ++ spelling c.args.r.now = c.encode_reserved.ensures.items ∙ ap (λ (bs : List ℕ). bs ++ spelling c.args.r.now) c.reserve.ensures.items in
    let more = part_more c.self.inside.stored c.self.inside.end c.self.inside.waiting.items c.args.r.now inv.4 c.encode_reserved.ensures.fits (c.requires.number ∙ sym ends) in
    (inv.0, inv.1, inv.2, inv.3, subst (λ (bs : List ℕ). IsPart c.self.inside.stored bs (c.self.inside.end + 1)) (sym written) more, omega (arith, c.requires.small, ends), inv.6, inv.7, omega (arith, c.in_ok-reserve.ensures.ok, c.in-Some.ensures, c.spelled_len-len.ensures.len, c.encode_reserved.ensures.len, c.encode_reserved.ensures.room), inv.9)

pub returns-clause-more : goal.returns-clause-more
returns-clause-more c =
    let inv = c.self.invariant in
    let written : c.encode_reserved.new.out.items ≡ c.self.inside.waiting.items ++ spelling c.args.r.now = c.encode_reserved.ensures.items ∙ ap (λ (bs : List ℕ). bs ++ spelling c.args.r.now) c.reserve.ensures.items in
    let grown : records_in c.encode_reserved.new.out.items ≡ records_in c.self.inside.waiting.items ++ c.args.r.now ∷ [] =
    ap records_in written ∙ records_more c.self.inside.waiting.items c.args.r.now inv.4.batch c.encode_reserved.ensures.fits in
    let View : Kept = the_view c.self.inside in
    let W : Kept → Type 0 = λ k. record View { waiting = records_in c.encode_reserved.new.out.items; end = c.self.inside.end + 1 } ≡ record k { waiting = k.waiting ++ c.args.r.now ∷ []; end = k.end + 1 } in
    subst W c.self.view_is (ap (λ (w : List Rec). record View { waiting = w; end = c.self.inside.end + 1 }) grown)
