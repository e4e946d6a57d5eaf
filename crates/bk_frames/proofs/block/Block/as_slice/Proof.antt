-- `as_slice` shows the pages that a `&` to the block lends. Assumes `Logic`.
use Rattle.std.proofs.Common.{◌≡◌, ℕ, ◌+◌, ◌*◌, ◌^◌, ◌<◌, List, [], ◌∷◌, ◌++◌, length, refl, sym, subst, ap, arith}
use mir.Syntax.{Fn, Args, a_type, dcons, dnil}
use mir.Val.{Val, vptr}
use mir.MapTy.{inst_fn}
use base.Logic.{SProp, emp, never, id⊢}
use base.Fml.{Lft, Share, ftrue, flft}
use prog.Wp.{Env, WpFn}
use contract.BorrowLft.{◌⊑◌}
use contract.Monad.{fact, fact_i}
use contract.Running.{tables}
use types.Kit.{‵, raw, ◌⊛◌, prop, at_ret, ◌$◌, ◌∵◌, !, qed, by, move, drop, use0, use1, split, join, rewrite, regoal, fsplit, fjoin, feq_i, flt_i}
use types.Part.{agg}
use types.Run.{stop, fld, load, look, of_opd, no_more, and_then, first, blocks, exec, returns, enter}
use types.ByLocal.{alloc_all, pass_all, free_all, look_at, get, through, sets, sets_last, env}
use denote.RattleType.{RattleType, owns}
use denote.Memory.{hidden_shr}
use denote.Opens.{hide, unhide}
use denote.Param.{param, bounded}
use denote.RawPtr.{Ptr, InBlock, block_of, count_of, in_a_block}
use denote.Signature.{types_at}
use denote.Slice.{slice_val, elements_shared}
use denote.Steps.{nothing}
use denote.Triple.Entry.{alive}
use denote.Triple.Walked.{Stays, stay_dropped, walk_of, Goes-dropped}
use Rattle.std.proofs.alloc.Shapes.{after}
use Rattle.std.proofs.Words.{word_in, word_out, pointer_in, pointer_out}
use Rattle.std.proofs.raw_atomic.Walks.{proved_at, leaves}
use Rattle.bk_frames.proofs.Seen.{fields_seen, pages_seen, seen_apart, shows_at, shows_count}
use Rattle.bk_frames.proofs.Walks.{slot_at}
use Rattle.bk_frames.specs.Blocks.{page_row, block_lends}
use Rattle.bk_frames.specs.contracts.block.Block as block
use Rattle.bk_frames.specs.contracts.block.Block.as_slice.{ended, clauses}
use Rattle.bk_frames.specs.contracts.block.Block.as_slice.Key.{name as #self}
use Rattle.bk_frames.proofs.block.Block.as_slice.Statement.{statement}
use Rattle.bk_frames.proofs.block.Block.as_slice.Code as compiled

pub as_slice_spec : {M : Type 1} → statement M
as_slice_spec 𝓤 𝓛 𝓜 𝓡 wired A L g d dd met md =
    let H = 𝓛.H in
    let En₀ = ended A g d dd in
    let c = clauses A g d dd 𝓛 𝓜.mem 𝓡.returns in
    let args : Args = bounded (a_type ∷ []) (A, tt) (dcons d (dcons dd dnil)) in
    let fn : Fn = inst_fn args compiled.function in
    let hs : Stays En₀.signature.params En₀.kept = (stay_dropped (slot_at 0 En₀.signature.params) En₀.kept.0, tt) in
    let C = (tables 𝓤 H 𝓜 𝓡 𝓡.env).C in
    let Λ = (tables 𝓤 H 𝓜 𝓡 𝓡.env).Λ in
    proved_at 𝓛 En₀ hs c 𝓜 𝓡 (Goes-dropped 𝓛 2 (slot_at 0 En₀.signature.params) En₀.kept.0 (λ κs x f. refl), tt) (#self args) fn (compiled.unfolded 𝓤 H 𝓜 𝓡 wired (A, tt) d dd) (λ z are.
    let Post : Val → SProp 𝓤 = (walk_of 𝓛 En₀ hs c).post z in
    let a = z.0.3 in
    let vss = z.0.4 in
    let Z : RattleType = param 0 A in
    let κ : Lft = z.0.0.0 in
    let q : Share = z.0.1.0 in
    let h = a.0.now in
    let at = a.0.ref_ptr in
    let xs = h.pages in
    let to : ℕ × ℕ = (block_of h.at, count_of h.at) in
    let many : length xs * 8192 < 2 ^ 63 = omega (arith, h.counted.0, h.counted.1, h.counted.2) in
    qed 𝓛 ((raw (alive 𝓛 En₀.signature z.0.0 z.0.1) ⊛ ‵ (owns (types_at En₀.signature.params z.0.0) a vss)) ∷ (raw (fact 𝓤 (z.0.0.1.0 ⊑ A.lives)) ⊛ ‵ ftrue) ∷ []) ∵
    move ! (1 ∷ []) $ drop ! $ split ! $ move ! (1 ∷ []) $ fsplit ! $ fsplit ! $ drop ! $ move ! (1 ∷ []) $ drop ! $
    use1 𝓛 (‵ (hidden_shr (block.the_row Z g) κ h at.0 at.1)) (id⊢ 𝓤 _) $ use1 𝓛 (‵ (fields_seen Z g 𝓛 κ at.0 at.1 h) ⊛ ‵ (pages_seen Z g 𝓛 κ at.0 at.1 h)) (seen_apart Z g 𝓛 κ at.0 at.1 h) $ split ! $ move ! (1 ∷ []) $
    unhide ! $ in_a_block ! h.at (λ p. block_lends p xs κ) (id⊢ 𝓤 (never 𝓤)) (λ b o e.
    let inb : InBlock h.at = subst InBlock (sym e) tt in
    rewrite ! 0 (λ (p : Ptr). ‵ (elements_shared page_row xs (block_of p) (count_of p) κ)) (sym e) refl $ hide ! $
    move ! (2 ∷ []) $ use1 𝓛 (‵ (flft κ q) ⊛ ‵ (flft z.0.0.1.0 z.0.1.1.0) ⊛ ‵ ftrue) (id⊢ 𝓤 _) $ split ! $ move ! (3 ∷ 0 ∷ []) $
    -- [the fields; the token; the other token; the pages]
    regoal ! (λ (us : List Val). prop (WpFn 𝓤 H C Λ fn us Post)) (λ i. are.0.0 i ++ []) refl $
    enter ! C Λ fn (vptr at.0 at.1 ∷ []) Post $
    alloc_all ! (λ l. pass_all ! refl ((tt, tt), tt) $ let En : Env 𝓤 𝓛.H = env fn.locals l in
    first ! $ blocks ! $
    pointer_in ! tt h.at inb at.0 (at.1 + 0) (shows_at Z g 𝓛 κ at.0 at.1 h) (λ q₀.
    sets ! (of_opd ! (load ! (through ! refl (fld ! refl (stop !))) (look ! 1 refl))) refl (tt, tt) $
    pointer_out ! tt h.at inb at.0 (at.1 + 0) $ move ! (1 ∷ 0 ∷ []) $
    word_in ! tt h.count at.0 (at.1 + 8) (shows_count Z g 𝓛 κ at.0 at.1 h) (λ q₁ fits.
    sets ! (of_opd ! (load ! (through ! refl (fld ! refl (stop !))) (look ! 1 refl))) refl (tt, record { fits = fits }) $
    word_out ! tt h.count at.0 (at.1 + 8) fits $
    sets_last ! (agg ! (and_then ! (get ! refl) (and_then ! (get ! refl) (no_more !)))) refl (tt, (tt, (record { fits = fits }, tt))) $
    exec ! C Λ En (after 1 fn.body) (at_ret En Post) $
    sets ! (of_opd ! (get ! refl)) refl (tt, (tt, (record { fits = fits }, tt))) $
    returns ! (look_at ! 0 refl) $ free_all ! refl $
    move ! (1 ∷ []) $ drop ! $ join ! $ move ! (1 ∷ []) $
    flt_i ! (length xs * 8192) (2 ^ 63) many $ flt_i ! (length xs) (2 ^ 64) (omega arith) $ fjoin ! $
    feq_i ! (List Val) (slice_val to h.count ∷ []) (slice_val to (length xs) ∷ []) (ap (λ (k : ℕ). slice_val to k ∷ []) h.counted.0) $ fjoin ! $ fjoin ! $
    use0 𝓛 (raw (fact 𝓤 (xs ≡ xs))) (fact_i 𝓤 (xs ≡ xs) (emp 𝓤) refl) $ nothing ! $ nothing ! $ fjoin ! $ move ! (3 ∷ 0 ∷ 2 ∷ 1 ∷ []) $
    by ! (leaves 𝓛 En₀ hs c z (slice_val to h.count) (record { ref_ptr = to; now = xs }) (tt, tt) (tt, tt)))))))
