use Prim.Native.Nat.{ℕ, ◌*◌, ◌^◌, ◌+◌}
use lib.ListN.{length}
use mathlib.Core.Path.{refl, ap}
use mathlib.Core.List.{List, [], ◌∷◌}
use base.Fraction.{full_share}
use base.Fml.{GName, ftrue, flft, fat, fobs, fbor}
use mir.Syntax.{Ty, ty_ref, ty_int, ty_array, erased, mut, w8, named}
use mir.Val.{Val}
use contract.Running.{tables}
use types.Kit.{‵, ◌⊛◌, some, later, ◌$◌, ◌∵◌, !, qed, done, move, keep, drop, use1, use2, use3, split, split3, fsplit3, fjoin3, feq_i, feq_l, flt_i, flt_l, join, pick, await, rewrite, suffices, group, frame}
use types.Part.{agg, sub, look_in, whole}
use types.Run.{enter, addr, load, stop, fld, hop, of_opd, no_more, and_then, returns}
use types.ByLocal.{alloc_all, pass_all, free_all, look_at, get, through, sets}
use types.SemTy.{Body}
use types.Mut.{open_ref, close_ref}
use denote.Builtin.{u8}
use denote.Array.{Array}
use denote.Slice.{MutSlice, mut_slice_vals, slice_ty, slice_val}
use denote.Memory.{mem, part_at}
use denote.Follow.{follows, follows_then}
use denote.Through.{renamed, lends_inner_slice}
use denote.Exit.{no}
use denote.Ref.{MutBor, MutRef, mut_vals, mut_Tells, at_last}
use denote.Signature.{plain, mut_ref_to, named_lft}
use denote.Steps.{nothing, only}
use denote.Struct.At.{get_at}
use denote.Triple.Walked.{Stays, walk_of, says, stay_dropped, Goes-spent_ref, ends_at}
use borrow.Table.OneValue.{part_out_at, part_in_at}
use borrow.Follows.Field.{HandsTo, hands_on}
use borrow.Struct.Lend.{put_record, kept_record, record_fill, record_apart}
use Rattle.std.proofs.raw_atomic.Walks.{proved}
use Rattle.bk_frames.specs.declared.frames_mut.FramesMut.{FramesMut}
use Rattle.bk_frames.specs.contracts.frames_mut.FramesMut as part
use Rattle.bk_frames.proofs.frames_mut.FramesMut.TheLaws as laws
use Rattle.bk_frames.specs.contracts.frames_mut.FramesMut.as_mut_slice as f
use Rattle.bk_frames.proofs.frames_mut.FramesMut.as_mut_slice.Statement.{statement}
use Rattle.bk_frames.proofs.frames_mut.FramesMut.as_mut_slice.Code as code

abbrev stayed : Stays f.ended.signature.params f.ended.kept
stayed = (stay_dropped (mut_ref_to (0 ∷ []) tt (plain (λ κs. part.the_row (named_lft 2 1 tt κs)))) no, tt)

pub as_mut_slice_spec : {M : Type 1} → statement M
as_mut_slice_spec 𝓤 𝓛 𝓜 𝓡 wired =
    let c = f.clauses 𝓛 𝓜.mem 𝓡.returns in let W = walk_of 𝓛 f.ended stayed c in let 𝓣 = tables 𝓤 𝓛.H 𝓜 𝓡 𝓡.env in
    proved 𝓛 f.ended stayed c 𝓜 𝓡 (Goes-spent_ref 𝓛 2 (0 ∷ []) tt (plain (λ κs. part.the_row (named_lft 2 1 tt κs))), tt)
    f.Key.name code.function (code.unfolded 𝓤 𝓛.H 𝓜 𝓡 wired)
    (λ κs. (mut_vals, tt)) (λ κs. (mut_Tells (named 0) κs.0 (part.the_row (named_lft 2 1 tt κs)), tt)) (λ κs qs bounds a _ are.
    let κ = κs.0 in let q = qs.0 in let r = a.0 in let b = r.ref_ptr.0 in let o = r.ref_ptr.1 in
    let lft = named_lft 2 1 tt κs in let T = part.the_type lft in let R = part.the_row lft in let S = part.struct lft in let L = laws.the_loose lft in
    let Page = Array u8 8192 in let F = MutSlice (named 1) κs.1.0 Page in
    let pages : MutBor (List (List ℕ)) = r.now.pages in
    let y : W.Ghost = ((κs, qs, bounds, a, (mut_vals r, tt)), tt) in
    let back : MutBor (List (List ℕ)) → FramesMut = λ w. record { pages = w } in
    let hands : HandsTo 𝓛 R F (λ n. n + 0) r.now pages back = hands_on 𝓛 R F 0 (λ x. get_at T.parts 0 (S.as_values x))
    (put_record T L 0 0 S.as_values S.Ghost S.make (λ v. tt) (λ x. refl) (λ v g. refl) (λ x. x))
    (kept_record T L 0 0 S.as_values S.Ghost S.make (λ v. tt) (λ x. refl) (λ v g. refl) (λ x. x))
    (record_fill T L 0 0 S.as_values S.Ghost S.make (λ v. tt) (λ x. refl) (λ v g. refl) (λ x. x) refl (λ w. refl))
    (record_apart T L 0 0 S.as_values S.Ghost S.make (λ v. tt) (λ x. refl) (λ v g. refl) (λ x. x) 𝓛 refl refl) r.now in
    let cell : Ty = slice_ty (ty_ref erased mut (ty_array (ty_int w8) 8192)) in
    let n : ℕ = length pages.now in
    qed 𝓛 (((‵ (flft κ q) ⊛ ‵ (flft κs.1.0 qs.1.0) ⊛ ‵ ftrue) ⊛ ‵ ((MutRef (named 0) κ R).own_val r (mut_vals r)) ⊛ ‵ ftrue) ∷ ‵ ftrue ∷ []) ∵
    split ! $ split ! $ move ! (2 ∷ []) $ split ! $ keep ! (0 ∷ 2 ∷ 3 ∷ []) $
    -- [the reference; the token of κ; the other]
    enter ! _ _ _ _ _ $ alloc_all ! (λ l. pass_all ! refl ((tt, tt), tt) $
    fsplit3 ! $ drop ! $ move ! (0 ∷ 1 ∷ 2 ∷ []) $
    use3 𝓛 (later (some (λ (γ : GName). ‵ (fobs γ (F.coded.code pages)) ⊛ ‵ (fbor κ (Body (mem F) b (o + 0) γ)) ⊛ ‵ (flft κ q) ⊛ ‵ (follows R F r.ghost_name γ back))))
    (hands κ q r.ghost_name b o) $ await ! tt $ pick ! (λ γ. split3 ! $ move ! (2 ∷ []) $ split ! $ move ! (2 ∷ 3 ∷ 0 ∷ []) $
    open_ref ! tt (mem F) {b = b} {o = o + 0} $ use1 𝓛 (some (λ (v : Val). ‵ (fat full_share cell b (o + 0) v) ⊛ ‵ (F.own_val pages (v ∷ [])))) (part_out_at 𝓛 F refl full_share pages b (o + 0) cell refl) $
    pick ! (λ v. split ! $ move ! (1 ∷ []) $ fsplit3 ! $ fsplit3 ! $ feq_l ! (λ is. flt_l ! (λ fits. flt_l ! (λ small.
    rewrite ! 2 (λ (u : Val). ‵ (fat full_share cell b (o + 0) u)) (ap only is) refl $
    -- [the slice's two parts; its cell; the open borrow, in three entries; what the field lends; the other token]
    sets ! (of_opd ! (load ! (through ! refl (fld ! refl (fld ! refl (stop !)))) (look_in ! 2 (sub ! 1 refl (whole !))))) refl (tt, record { fits = fits }) $
    sets ! (addr ! (through ! refl (fld ! refl (fld ! refl (hop ! (look_in ! 2 (sub ! 0 refl (whole !))) (stop !)))))) refl (tt, tt) $
    sets ! (agg ! (and_then ! (get ! refl) (and_then ! (get ! refl) (no_more !)))) refl (tt, (tt, (record { fits = fits }, tt))) $
    flt_i ! (n * (mem Page).size) (2 ^ 63) small $ flt_i ! n (2 ^ 64) fits $ feq_i ! (List Val) (mut_slice_vals pages) (mut_slice_vals pages) refl $ fjoin3 ! $ fjoin3 ! $
    move ! (1 ∷ 0 ∷ []) $ use2 𝓛 (‵ (part_at F full_share pages b (o + 0))) (part_in_at 𝓛 F refl full_share pages b (o + 0) cell refl (slice_val pages.ref_ptr n)) $
    close_ref ! tt (mem F) pages {b = b} {o = o + 0} $
    use3 𝓛 (later (some (λ (γ' : GName). ‵ ((MutSlice (named 0) κ Page).own_val (renamed pages γ') (mut_slice_vals pages)) ⊛ ‵ (flft κ q) ⊛ ‵ (follows F (Array Page 0) γ γ' (at_last pages)))))
    (lends_inner_slice 𝓛 Page (named 0) (named 1) κ κs.1.0 (record { ref_ptr = (b, o + 0); ghost_name = γ; now = pages }) bounds.0 (fits, small) q) $ await ! tt $ pick ! (λ γ'. split3 ! $
    -- [the slice; the token of κ; what it lends; what the field lends; the other token]
    move ! (3 ∷ 2 ∷ []) $ use2 𝓛 (‵ (follows R (Array Page 0) r.ghost_name γ' (λ w. back (at_last pages w)))) (follows_then 𝓛 R F (Array Page 0) back (at_last pages) r.ghost_name γ γ') $
    returns ! (look_at ! 0 refl) $ free_all ! refl $
    suffices ! _ (ends_at 𝓛 f.ended stayed c y (slice_val pages.ref_ptr n) (renamed pages γ') (tt, tt) (tt, tt)) $
    -- [what is lent; the slice; the tokens]
    move ! (2 ∷ 3 ∷ []) $ join ! $ nothing ! $ nothing ! $ join ! $ move ! (1 ∷ 0 ∷ 3 ∷ []) $ group ! 3 $ frame ! $ says ! refl $ done !))))))))
