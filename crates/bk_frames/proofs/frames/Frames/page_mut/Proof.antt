use Prim.Native.Nat.{ℕ, ◌<◌}
use lib.ListN.{length}
use mathlib.Core.Path.{◌≡◌, refl, sym, ap, subst, ◌∙◌}
use mathlib.Core.List.{List, [], ◌∷◌}
use base.Logic.{id⊢, emp}
use base.Fml.{Fml, ftrue, flft}
use mir.Syntax.{w64, named}
use mir.Val.{Val}
use contract.Monad.{fact, fact_i}
use contract.Running.{tables}
use types.Kit.{‵, raw, ◌⊛◌, some, later, ◌$◌, ◌∵◌, !, qed, done, move, drop, use0, use1, use2, split, join, pick, await, rewrite, suffices, group, frame}
use types.Run.{enter, addr, stop, no_more, and_then, returns}
use types.ByLocal.{alloc_all, pass_all, free_all, look_at, get, through, sets, lands_as}
use denote.Builtin.{u8, usize}
use denote.Array.{Array}
use denote.Slice.{MutSlice, mut_slice_Lawful}
use denote.Laws.{shows}
use Rattle.std.specs.Borrow.{Lends}
use Rattle.std.specs.Prelude.{slice_get, slice_set, Some}
use denote.Exit.{yes, no}
use denote.Follow.{follows_then}
use denote.Plain.{uint_vals, uint_Tells, uint_Makes}
use denote.Ref.{MutBor, MutRef, mut_vals, mut_Tells, mut_Lawful}
use denote.Signature.{plain, mut_ref_to, type_at}
use Rattle.bk_frames.proofs.Pairs.{refilled-set}
use Rattle.bk_frames.specs.Lending.{LendsPages}
use Rattle.bk_frames.specs.Pages.{refilled}
use denote.Steps.{nothing, heard, owned, peeks}
use denote.Triple.Call.{calls_at}
use denote.Triple.Clauses.{lasts, Lasts}
use denote.Triple.Spec.{triple_of}
use denote.Triple.Walked.{Stays, walk_of, says, stay_dropped, Goes-dropped, Goes-spent_ref, ends_at}
use denote.Triple.Table.{framed}
use Rattle.std.proofs.raw_atomic.Walks.{proved}
use Rattle.bk_frames.specs.contracts.frames.Frames.{the_row as R}
use Rattle.bk_frames.specs.contracts.frames.Frames.page_mut as f
use Rattle.bk_frames.proofs.frames.Frames.page_mut.Statement.{statement}
use Rattle.bk_frames.proofs.frames.Frames.page_mut.Code as code
use Rattle.bk_frames.specs.contracts.frames.Frames.as_mut_slice as g
use Rattle.bk_frames.proofs.frames.Frames.as_mut_slice.Met as g-met
use Rattle.bk_frames.specs.contracts.frames_mut.lend_page as h
use Rattle.bk_frames.proofs.frames_mut.lend_page.Met as h-met

abbrev stayed : Stays f.ended.signature.params f.ended.kept
stayed = (stay_dropped (mut_ref_to (0 ∷ []) tt (plain (λ _. R))) no, (stay_dropped _ yes, tt))

pub page_mut_spec : {M : Type 1} → statement M
page_mut_spec 𝓤 𝓛 𝓜 𝓡 wired =
    let c = f.clauses 𝓛 𝓜.mem 𝓡.returns in let W = walk_of 𝓛 f.ended stayed c in let 𝓣 = tables 𝓤 𝓛.H 𝓜 𝓡 𝓡.env in
    let goes = Goes-dropped 𝓛 1 (plain (λ _. usize)) yes (λ κs x w. refl) in
    proved 𝓛 f.ended stayed c 𝓜 𝓡 (Goes-spent_ref 𝓛 1 (0 ∷ []) tt (plain (λ _. R)), (goes, tt))
    f.Key.name code.function (code.unfolded 𝓤 𝓛.H 𝓜 𝓡 wired)
    (λ κs. (mut_vals, (uint_vals w64, tt))) (λ κs. (mut_Tells (named 0) κs.0 R, (uint_Tells w64, tt))) (λ κs qs bounds a _ are.
    let κ = κs.0 in let q = qs.0 in let r = a.0 in let i = a.1.0 in
    let y : W.Ghost = ((κs, qs, bounds, a, (mut_vals r, (uint_vals w64 i, tt))), tt) in
    let Ref : MutBor (List (List ℕ)) → List Val → Fml = λ x us. (MutRef (named 0) κ R).own_val x us in
    let Slice = MutSlice (named 0) κ (Array u8 8192) in let Page = Array u8 0 in let Slices = Array (Array u8 0) 0 in
    let tokens = ‵ (flft κ q) ⊛ ‵ ftrue in
    let G = triple_of 𝓛 g.signature (g.spec 𝓛 𝓜.mem 𝓡.returns) in
    let z : G.Ghost = ((κs, qs, bounds, (r, tt), (mut_vals r, tt)), tt) in
    qed 𝓛 ((tokens ⊛ ‵ (Ref r (mut_vals r)) ⊛ ‵ (usize.own_val i (uint_vals w64 i)) ⊛ ‵ ftrue) ∷ raw (fact 𝓤 (i < length r.now)) ∷ []) ∵
    move ! (1 ∷ []) $ heard ! _ (λ within.
    split ! $ move ! (1 ∷ []) $ split ! $ move ! (1 ∷ []) $ drop ! $
    enter ! _ _ _ _ _ $ alloc_all ! (λ l. pass_all ! refl ((tt, tt), ((tt, record { fits = are.1.0.1 }), tt)) $
    sets ! (addr ! (through ! refl (stop !))) refl (tt, tt) $
    nothing ! $ move ! (1 ∷ 0 ∷ []) $ join ! $ move ! (1 ∷ 0 ∷ []) $ join ! $ nothing ! $ move ! (1 ∷ 0 ∷ []) $ use2 𝓛 (raw (G.pre z)) (id⊢ 𝓤 _) $
    calls_at ! (framed 𝓤 𝓛.H 𝓜 (tables 𝓤 𝓛.H 𝓜 𝓡 𝓡.env)) G (g-met.met 𝓤 𝓛 𝓜 𝓡 (code.calls-bk_frames::frames::Frames::as_mut_slice 𝓡.env wired)) z
    (and_then ! (get ! refl) (no_more !)) (λ v.
    use1 𝓛 (later (some (λ (r2 : MutBor (List (List ℕ))). (tokens ⊛ ‵ ((type_at g.signature.result κs).own_val r2 (v ∷ []))) ⊛
    some (λ (ws : Lasts g.ended κs (r, tt)). ‵ (lasts g.ended κs (r, tt) ws) ⊛ ‵ (LendsPages r r2) ⊛ raw (fact 𝓤 (r2.now ≡ r.now)))))) (id⊢ 𝓤 _) $
    await ! tt $ pick ! (λ r2. split ! $ split ! $ move ! (2 ∷ []) $ pick ! (λ ws. split ! $ drop ! $ split ! $ move ! (1 ∷ []) $ heard ! _ (λ same.
    move ! (2 ∷ []) $ peeks ! Slice _ (shows 𝓛 Slice) r2 (v ∷ []) (λ is.
    lands_as ! refl refl (((mut_slice_Lawful 𝓛 (named 0) κ (Array u8 8192)).typed r2 (v ∷ []) is).0) $
    -- [the slice; what it lends; the token]
    let G2 = triple_of 𝓛 h.signature (h.spec 𝓛 𝓜.mem 𝓡.returns) in
    let z2 : G2.Ghost = ((κs, qs, bounds, (r2, (i, tt)), (v ∷ [], (uint_vals w64 i, tt))), tt) in
    let in_i : i < length r2.now = subst (λ (l : List (List ℕ)). i < length l) (sym same) within in
    nothing ! $ owned ! usize _ (uint_Makes 𝓛 w64) i _ are.1.0 $ join ! $
    move ! (1 ∷ 0 ∷ []) $ join ! $ move ! (2 ∷ 0 ∷ []) $ join ! $
    use0 𝓛 (raw (fact 𝓤 (i < length r2.now))) (fact_i 𝓤 (i < length r2.now) (emp 𝓤) in_i) $
    move ! (1 ∷ 0 ∷ []) $ use2 𝓛 (raw (G2.pre z2)) (id⊢ 𝓤 _) $
    calls_at ! (framed 𝓤 𝓛.H 𝓜 (tables 𝓤 𝓛.H 𝓜 𝓡 𝓡.env)) G2 (h-met.met 𝓤 𝓛 𝓜 𝓡 (code.calls-bk_frames::frames_mut::lend_page 𝓡.env wired)) z2
    (and_then ! (get ! refl) (and_then ! (get ! refl) (no_more !))) (λ v2.
    let One = type_at h.signature.result κs in
    use1 𝓛 (later (some (λ (p : MutBor (List ℕ)). (tokens ⊛ ‵ (One.own_val p (v2 ∷ []))) ⊛
    some (λ (ws : Lasts h.ended κs (r2, (i, tt))). ‵ (lasts h.ended κs (r2, (i, tt)) ws) ⊛ ‵ (Lends Slices Page r2 p (slice_set r2.now i)) ⊛
    raw (fact 𝓤 (slice_get r2.now i ≡ Some p.now)))))) (id⊢ 𝓤 _) $
    await ! tt $ pick ! (λ p. split ! $ split ! $ move ! (2 ∷ []) $ pick ! (λ ws2. split ! $ drop ! $ split ! $ move ! (1 ∷ []) $ heard ! _ (λ value.
    -- [what the page lends; the token; the page; what the slice lends]
    move ! (2 ∷ []) $ peeks ! One _ (shows 𝓛 One) p (v2 ∷ []) (λ is2.
    lands_as ! refl refl (((mut_Lawful 𝓛 (named 0) κ (Array u8 8192)).typed p (v2 ∷ []) is2).0) $
    returns ! (look_at ! 0 refl) $ free_all ! refl $
    -- [the page; what it lends; the token; what the slice lends]
    move ! (3 ∷ 1 ∷ []) $ use2 𝓛 (‵ (Lends R Page r p (λ left. refilled r.now (slice_set r2.now i left)))) (follows_then 𝓛 R Slices Page (refilled r.now) (slice_set r2.now i) r.ghost_name r2.ghost_name p.ghost_name) $
    rewrite ! 0 (λ (l : List (List ℕ)). ‵ (Lends R Page r p (λ left. refilled r.now (slice_set l i left)))) same refl $
    rewrite ! 0 (λ (F : List ℕ → List (List ℕ)). ‵ (Lends R Page r p F)) (λ j left. refilled-set r.now i left j) refl $
    -- [what is lent; the page; the token]
    suffices ! _ (ends_at 𝓛 f.ended stayed c y v2 p (tt, (tt, tt)) (tt, (tt, tt))) $
    let at_i : slice_get r.now i ≡ Some p.now = ap (λ (l : List (List ℕ)). slice_get l i) (sym same) ∙ value in
    nothing ! $ nothing ! $ join ! $ nothing ! $ join ! $
    -- [the parameters; what is lent; the page; the token]
    move ! (3 ∷ 0 ∷ 2 ∷ []) $ group ! 3 $ frame ! $ says ! at_i $ done !)))))))))))))
