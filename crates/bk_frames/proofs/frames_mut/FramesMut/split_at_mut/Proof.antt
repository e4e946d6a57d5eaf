use Prim.Native.Nat.{ℕ, ◌≤◌}
use lib.ListN.{length}
use mathlib.Core.Path.{◌≡◌, refl, sym, ap, subst, ◌∙◌}
use mathlib.Core.List.{List, [], ◌∷◌, ◌++◌}
use base.Logic.{id⊢, emp}
use base.Fml.{Fml, ftrue, flft}
use mir.Syntax.{w64, named}
use mir.Val.{Val, vunit, vstruct, of_list}
use contract.Lifetimes.{Lfts}
use contract.Monad.{fact, fact_i}
use contract.Running.{tables}
use types.Kit.{‵, raw, ◌⊛◌, some, later, ◌$◌, ◌∵◌, !, qed, done, move, drop, use0, use1, use2, split, join, pick, await, suffices, group, fsplit, fjoin, fpick, fpack, feq_l, feq_i}
use types.Part.{agg, sub, whole}
use types.Run.{enter, addr, stop, fld, hop, from, of_opd, no_more, and_then, returns}
use types.ByLocal.{alloc_all, pass_all, free_all, look_at, look_in_at, get, get_in, through, sets, lands_as}
use denote.Builtin.{u8, usize}
use denote.Array.{Array}
use denote.Slice.{MutSlice, mut_slice_Lawful, mut_slice_vals, mut_slice_Tells}
use denote.Laws.{shows, Spells, Typed}
use denote.RattleType.{Denots, Valss}
use Rattle.std.specs.Borrow.{LendsBoth}
use Rattle.std.specs.Prelude.{take as front_of, drop as rest_of}
use denote.Exit.{yes, no}
use denote.Plain.{uint_vals, uint_Tells, uint_Makes}
use denote.Ref.{MutBor, MutRef, mut_vals, mut_Tells}
use denote.Struct.Struct.{Struct-Lawful, Struct-Tells, machine, Struct, within as struct_within}
use denote.Struct.Declared.{shape}
use denote.Struct.Tuple.{type_at as tuple_at}
use Rattle.bk_frames.proofs.BothThen.{both_then}
use denote.Signature.{plain, mut_ref_to, type_at, named_lft}
use Rattle.bk_frames.specs.declared.frames_mut.FramesMut.{FramesMut}
use Rattle.bk_frames.specs.contracts.frames_mut.FramesMut.{the_row as FM, the_type as FMT}
use Rattle.bk_frames.specs.Lending.{LendsPagesOfPart, LendsPartsOfPart, with_pages}
use denote.Steps.{nothing, heard, owned, peeks}
use denote.Triple.Call.{calls_at}
use denote.Triple.Clauses.{lasts, Lasts}
use denote.Triple.Spec.{triple_of}
use denote.Triple.Walked.{Stays, walk_of, stay_dropped, Goes-dropped, Goes-spent_ref, ends_at}
use denote.Triple.Table.{framed}
use Rattle.std.proofs.raw_atomic.Walks.{proved}
use Rattle.bk_frames.specs.contracts.frames_mut.FramesMut.split_at_mut as f
use Rattle.bk_frames.proofs.frames_mut.FramesMut.split_at_mut.Statement.{statement}
use Rattle.bk_frames.proofs.frames_mut.FramesMut.split_at_mut.Code as code
use Rattle.bk_frames.specs.contracts.frames_mut.FramesMut.as_mut_slice as g
use Rattle.bk_frames.proofs.frames_mut.FramesMut.as_mut_slice.Met as g-met
use Rattle.bk_frames.specs.contracts.frames_mut.lend_parts as h
use Rattle.bk_frames.proofs.frames_mut.lend_parts.Met as h-met

abbrev stayed : Stays f.ended.signature.params f.ended.kept
stayed = (stay_dropped (mut_ref_to (0 ∷ []) tt (plain (λ κs. FM (named_lft 2 1 tt κs)))) no, (stay_dropped _ yes, tt))

abbrev first_of : List Val → Val
first_of [] = vunit
first_of (v ∷ vs) = v

pub split_at_mut_spec : {M : Type 1} → statement M
split_at_mut_spec 𝓤 𝓛 𝓜 𝓡 wired =
    let c = f.clauses 𝓛 𝓜.mem 𝓡.returns in let W = walk_of 𝓛 f.ended stayed c in let 𝓣 = tables 𝓤 𝓛.H 𝓜 𝓡 𝓡.env in
    let goes = Goes-dropped 𝓛 2 (plain (λ _. usize)) yes (λ κs x w. refl) in
    proved 𝓛 f.ended stayed c 𝓜 𝓡 (Goes-spent_ref 𝓛 2 (0 ∷ []) tt (plain (λ κs. FM (named_lft 2 1 tt κs))), (goes, tt))
    f.Key.name code.function (code.unfolded 𝓤 𝓛.H 𝓜 𝓡 wired)
    (λ κs. (mut_vals, (uint_vals w64, tt))) (λ κs. (mut_Tells (named 0) κs.0 (FM (named_lft 2 1 tt κs)), (uint_Tells w64, tt))) (λ κs qs bounds a _ are.
    let κ = κs.0 in let q = qs.0 in let r = a.0 in let mid = a.1.0 in
    let y : W.Ghost = ((κs, qs, bounds, a, (mut_vals r, (uint_vals w64 mid, tt))), tt) in
    let R = FM (named_lft 2 1 tt κs) in
    let Ref : MutBor FramesMut → List Val → Fml = λ x us. (MutRef (named 0) κ R).own_val x us in
    let Slice = MutSlice (named 0) κ (Array u8 8192) in let Slices = Array (Array u8 0) 0 in
    let tokens = ‵ (flft κ q) ⊛ ‵ (flft κs.1.0 qs.1.0) ⊛ ‵ ftrue in
    let token = ‵ (flft κ q) ⊛ ‵ ftrue in
    let G = triple_of 𝓛 g.signature (g.spec 𝓛 𝓜.mem 𝓡.returns) in
    let z : G.Ghost = ((κs, qs, bounds, (r, tt), (mut_vals r, tt)), tt) in
    qed 𝓛 ((tokens ⊛ ‵ (Ref r (mut_vals r)) ⊛ ‵ (usize.own_val mid (uint_vals w64 mid)) ⊛ ‵ ftrue)
    ∷ raw (fact 𝓤 (mid ≤ length r.now.pages.now)) ∷ []) ∵
    move ! (1 ∷ []) $ heard ! _ (λ within.
    split ! $ move ! (1 ∷ []) $ split ! $ move ! (1 ∷ []) $ drop ! $
    enter ! _ _ _ _ _ $ alloc_all ! (λ l. pass_all ! refl ((tt, tt), ((tt, record { fits = are.1.0.1 }), tt)) $
    sets ! (addr ! (through ! refl (stop !))) refl (tt, tt) $
    nothing ! $ move ! (1 ∷ 0 ∷ []) $ join ! $ move ! (1 ∷ 0 ∷ []) $ join ! $ nothing ! $ move ! (1 ∷ 0 ∷ []) $ use2 𝓛 (raw (G.pre z)) (id⊢ 𝓤 _) $
    calls_at ! (framed 𝓤 𝓛.H 𝓜 (tables 𝓤 𝓛.H 𝓜 𝓡 𝓡.env)) G (g-met.met 𝓤 𝓛 𝓜 𝓡 (code.calls-bk_frames::frames_mut::FramesMut::as_mut_slice 𝓡.env wired)) z
    (and_then ! (get ! refl) (no_more !)) (λ v.
    use1 𝓛 (later (some (λ (r2 : MutBor (List (List ℕ))). (tokens ⊛ ‵ ((type_at g.signature.result κs).own_val r2 (v ∷ []))) ⊛
    some (λ (ws : Lasts g.ended κs (r, tt)). ‵ (lasts g.ended κs (r, tt) ws) ⊛ ‵ (LendsPagesOfPart r r2) ⊛ raw (fact 𝓤 (r2.now ≡ r.now.pages.now)))))) (id⊢ 𝓤 _) $
    await ! tt $ pick ! (λ r2. split ! $ split ! $ move ! (2 ∷ []) $ pick ! (λ ws. split ! $ drop ! $ split ! $ move ! (1 ∷ []) $ heard ! _ (λ same.
    move ! (2 ∷ []) $ peeks ! Slice _ (shows 𝓛 Slice) r2 (v ∷ []) (λ is.
    lands_as ! refl refl (((mut_slice_Lawful 𝓛 (named 0) κ (Array u8 8192)).typed r2 (v ∷ []) is).0) $
    -- [the slice; what it lends; the token]
    let G2 = triple_of 𝓛 h.signature (h.spec 𝓛 𝓜.mem 𝓡.returns) in
    let κs₁ : Lfts 1 = (κ, tt) in
    let z2 : G2.Ghost = ((κs₁, (q, tt), tt, (r2, (mid, tt)), (v ∷ [], (uint_vals w64 mid, tt))), tt) in
    let in_mid : mid ≤ length r2.now = subst (λ (l : List (List ℕ)). mid ≤ length l) (sym same) within in
    move ! (2 ∷ []) $ split ! $ nothing ! $ move ! (1 ∷ 0 ∷ []) $ join ! $ move ! (2 ∷ 3 ∷ 0 ∷ []) $
    -- [the slice; what it lends; the token that the call takes; the other]
    nothing ! $ owned ! usize _ (uint_Makes 𝓛 w64) mid _ are.1.0 $ join ! $
    move ! (1 ∷ 0 ∷ []) $ join ! $ move ! (2 ∷ 0 ∷ []) $ join ! $
    use0 𝓛 (raw (fact 𝓤 (mid ≤ length r2.now))) (fact_i 𝓤 (mid ≤ length r2.now) (emp 𝓤) in_mid) $
    move ! (1 ∷ 0 ∷ []) $ use2 𝓛 (raw (G2.pre z2)) (id⊢ 𝓤 _) $
    calls_at ! (framed 𝓤 𝓛.H 𝓜 (tables 𝓤 𝓛.H 𝓜 𝓡 𝓡.env)) G2 (h-met.met 𝓤 𝓛 𝓜 𝓡 (code.calls-bk_frames::frames_mut::lend_parts 𝓡.env wired)) z2
    (and_then ! (get ! refl) (and_then ! (get ! refl) (no_more !))) (λ v2.
    let Pair = type_at h.signature.result κs₁ in
    use1 𝓛 (later (some (λ (p : MutBor (List (List ℕ)) × MutBor (List (List ℕ))). (token ⊛ ‵ (Pair.own_val p (v2 ∷ []))) ⊛
    some (λ (ws : Lasts h.ended κs₁ (r2, (mid, tt))). ‵ (lasts h.ended κs₁ (r2, (mid, tt)) ws) ⊛ ‵ (LendsBoth Slices Slices Slices r2 p (λ a b. a ++ b)) ⊛
    raw (fact 𝓤 (p.0.now ≡ front_of mid r2.now)) ⊛ raw (fact 𝓤 (p.1.now ≡ rest_of mid r2.now)))))) (id⊢ 𝓤 _) $
    await ! tt $ pick ! (λ p. split ! $ split ! $ move ! (2 ∷ []) $ pick ! (λ ws2. split ! $ drop ! $ split ! $ move ! (1 ∷ []) $ split ! $
    heard ! _ (λ first. heard ! _ (λ second.
    -- [what the pair lends; the token; the pair; what the slice lends]
    move ! (2 ∷ []) $ peeks ! Pair _ (shows 𝓛 Pair) p (v2 ∷ []) (λ is2.
    let S = shape (tuple_at (40 ∷ 44 ∷ 41 ∷ []) (MutSlice (named 0) κ (Array u8 8192) ∷ MutSlice (named 0) κ (Array u8 8192) ∷ [])) in
    let spells : Spells S.fields = (mut_slice_vals, (mut_slice_vals, tt)) in let tells = mut_slice_Tells (named 0) κ (Array u8 8192) in
    let x2 : Denots S.fields = (p.0, (p.1, tt)) in let m = machine S spells x2 in
    let told : v2 ∷ [] ≡ m ∷ [] = Struct-Tells S spells (tells, (tells, tt)) x2 (v2 ∷ []) is2 in
    let law = mut_slice_Lawful 𝓛 (named 0) κ (Array u8 8192) in
    lands_as ! (ap first_of told) refl ((subst (Typed (Struct S).mir) told ((Struct-Lawful 𝓛 S (law, (law, tt))).typed x2 (v2 ∷ []) is2)).0) $
    let typed_0 : Typed Slice.mir (mut_slice_vals p.0) = subst (Typed Slice.mir) (is2.1.1.0.0.0) (law.typed p.0 is2.0.0 is2.1.1.0) in
    let typed_1 : Typed Slice.mir (mut_slice_vals p.1) = subst (Typed Slice.mir) (is2.1.1.1.0.0.0) (law.typed p.1 is2.0.1.0 is2.1.1.1.0) in
    sets ! (of_opd ! (get_in ! (fld ! refl (stop !)) (sub ! 0 refl (whole !)))) refl (typed_0.0) $
    sets ! (of_opd ! (get_in ! (fld ! refl (stop !)) (sub ! 1 refl (whole !)))) refl (typed_1.0) $
    sets ! (addr ! (from ! (fld ! refl (hop ! (look_in_at ! 3 (sub ! 0 refl (whole !))) (stop !))))) refl (tt, tt) $
    sets ! (agg ! (and_then ! (get ! refl) (and_then ! (get_in ! (fld ! refl (stop !)) (sub ! 1 refl (whole !))) (no_more !)))) refl (typed_0.0) $
    sets ! (agg ! (and_then ! (get ! refl) (no_more !))) refl (tt, (typed_0.0.1, tt)) $
    sets ! (addr ! (from ! (fld ! refl (hop ! (look_in_at ! 4 (sub ! 0 refl (whole !))) (stop !))))) refl (tt, tt) $
    sets ! (agg ! (and_then ! (get ! refl) (and_then ! (get_in ! (fld ! refl (stop !)) (sub ! 1 refl (whole !))) (no_more !)))) refl (typed_1.0) $
    sets ! (agg ! (and_then ! (get ! refl) (no_more !))) refl (tt, (typed_1.0.1, tt)) $
    sets ! (agg ! (and_then ! (get ! refl) (and_then ! (get ! refl) (no_more !)))) refl (tt, ((typed_0.0.1, tt), ((typed_1.0.1, tt), tt))) $
    returns ! (look_at ! 0 refl) $ free_all ! refl $
    -- [the pair; what it lends; the token; what the slice lends]
    let answer : FramesMut × FramesMut = (record { pages = p.0 }, record { pages = p.1 }) in
    let Result = type_at f.signature.result κs in
    let one : List Val → List Val = λ us. vstruct (of_list (us ++ [])) ∷ [] in
    let both : List Val → List Val → List Val = λ us ws. vstruct (of_list (one us ++ (one ws ++ []))) ∷ [] in
    let made : Val = vstruct (of_list (one (mut_slice_vals p.0) ++ (one (mut_slice_vals p.1) ++ []))) in
    let lft_0 = named_lft 2 0 tt κs in
    let T = shape (tuple_at (40 ∷ 44 ∷ 41 ∷ []) (FM lft_0 ∷ FM lft_0 ∷ [])) in
    let F = shape (FMT lft_0) in
    fpick ! (λ vss. fsplit ! $ feq_l ! (λ e. fsplit ! $ peeks ! Slice _ (shows 𝓛 Slice) p.0 vss.0 (λ at_0.
    move ! (1 ∷ []) $ fsplit ! $ peeks ! Slice _ (shows 𝓛 Slice) p.1 vss.1.0 (λ at_1.
    fjoin ! $ feq_i ! (List Val) (one vss.1.0) (one vss.1.0) refl $ fjoin ! $
    fpack ! (Valss F.fields) (struct_within F (p.1, tt) (one vss.1.0)) (vss.1.0, tt) $
    use0 𝓛 (‵ ftrue) (id⊢ 𝓤 (emp 𝓤)) $ move ! (1 ∷ 0 ∷ []) $ fjoin ! $
    use0 𝓛 (‵ ftrue) (id⊢ 𝓤 (emp 𝓤)) $ move ! (2 ∷ 0 ∷ []) $ fjoin ! $ feq_i ! (List Val) (one vss.0) (one vss.0) refl $ fjoin ! $
    fpack ! (Valss F.fields) (struct_within F (p.0, tt) (one vss.0)) (vss.0, tt) $ fjoin ! $
    feq_i ! (List Val) (made ∷ []) (both vss.0 vss.1.0) (ap (λ (us : List Val). both us (mut_slice_vals p.1)) (sym at_0.0.0) ∙ ap (λ (us : List Val). both vss.0 us) (sym at_1.0.0)) $ fjoin ! $
    fpack ! (Valss T.fields) (struct_within T (answer.0, (answer.1, tt)) (made ∷ [])) (one vss.0, (one vss.1.0, tt)) $
    -- [the parts; what they lend; the token; what the slice lends]
    move ! (3 ∷ 1 ∷ []) $ use2 𝓛 (‵ (LendsPartsOfPart r answer)) (both_then 𝓛 R Slices Slices Slices (with_pages r.now) (λ a b. a ++ b) (λ a b. with_pages r.now (a ++ b)) (λ x w. refl) r.ghost_name r2.ghost_name p.0.ghost_name p.1.ghost_name) $
    move ! (2 ∷ []) $ split ! $ move ! (1 ∷ []) $ drop ! $ move ! (0 ∷ 3 ∷ []) $ join ! $ move ! (1 ∷ 2 ∷ 0 ∷ []) $
    suffices ! _ (ends_at 𝓛 f.ended stayed c y made answer (tt, (tt, tt)) (tt, (tt, tt))) $
    let front : p.0.now ≡ front_of mid r.now.pages.now = first ∙ ap (λ (pages : List (List ℕ)). front_of mid pages) same in
    let back : p.1.now ≡ rest_of mid r.now.pages.now = second ∙ ap (λ (pages : List (List ℕ)). rest_of mid pages) same in
    use0 𝓛 (raw (fact 𝓤 (p.1.now ≡ rest_of mid r.now.pages.now))) (fact_i 𝓤 (p.1.now ≡ rest_of mid r.now.pages.now) (emp 𝓤) back) $
    use0 𝓛 (raw (fact 𝓤 (p.0.now ≡ front_of mid r.now.pages.now))) (fact_i 𝓤 (p.0.now ≡ front_of mid r.now.pages.now) (emp 𝓤) front) $ join ! $
    -- [the facts; what is lent; the parts; the token]
    nothing ! $ nothing ! $ join ! $ nothing ! $ join ! $
    -- [the parameters; the facts; what is lent; the parts; the token]
    move ! (4 ∷ 0 ∷ 3 ∷ []) $ group ! 3 $ move ! (0 ∷ 2 ∷ 1 ∷ []) $ done !))))))))))))))))))
