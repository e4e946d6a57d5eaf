-- `as_mut_slice` lends the pages, and the block follows them. Assumes `Logic`.
use Rattle.std.proofs.Common.{◌≡◌, ℕ, ◌+◌, ◌-◌, ◌*◌, ◌^◌, ◌<◌, List, [], ◌∷◌, ◌++◌, length, drop as dropped, refl, sym, ap, ◌∙◌, arith}
use Rattle.std.proofs.lemmas.List.{take_at}
use seplogic.Ra.Ura.{Ura}
use base.Fraction.{full_share}
use mir.Syntax.{Fn, Args, a_type, dcons, dnil, named}
use mir.Val.{Val, vptr}
use mir.MapTy.{inst_fn}
use base.Logic.{SProp, ent, sep, emp, never, id⊢}
use base.Fml.{Lft, GName, Share, Fml, ftrue, fsep, froom, flft}
use prog.Wp.{Env, WpFn}
use contract.BorrowLft.{◌⊑◌}
use contract.Monad.{fact, fact_i}
use contract.Running.{tables}
use types.Logic.{Logic, sem}
use types.Kit.{‵, raw, ◌⊛◌, some, later, prop, at_ret, ◌$◌, ◌∵◌, !, qed, by, move, keep, drop, use0, use1, split, split3, join, group, pick, await, rewrite, regoal, fsplit, fsplit3, fjoin, fjoin3, fpack, done}
use types.Part.{whole, sub, look_in, agg}
use types.Run.{stop, fld, load, of_opd, no_more, and_then, first, blocks, exec, returns, enter}
use types.ByLocal.{alloc_all, pass_all, free_all, look_at, get, through, sets, sets_last, env}
use denote.RattleType.{RattleType, owns}
use denote.Follow.{follows}
use denote.FollowSlice.{Elements, lends_Elements}
use denote.Array.{Array}
use denote.Laws.{shows}
use denote.Memory.{mem, cell_at, part_of}
use denote.Param.{param, bounded}
use denote.RawPtr.{Ptr, block_ptr, in_a_block}
use denote.Ref.{MutBor}
use denote.Signature.{types_at, plain}
use denote.Slice.{MutSlice, slice_val}
use denote.Steps.{nothing, opens, peeks}
use denote.Triple.Entry.{alive}
use denote.Triple.Walked.{Stays, stay_dropped, walk_of, Goes-spent_ref}
use Rattle.std.specs.declared.alloc.Allocator.{Ghosts}
use Rattle.std.proofs.alloc.Shapes.{after}
use Rattle.std.proofs.raw_atomic.Walks.{proved_at, leaves}
use Rattle.bk_frames.proofs.Walks.{slot_at}
use Rattle.bk_frames.proofs.Words.{block_val, block_fields, block_told}
use Rattle.bk_frames.specs.Blocks.{page_row, pages_type, pages_at, block_owns}
use Rattle.bk_frames.specs.Lent.{with_left}
use Rattle.bk_frames.specs.Pages.{refilled}
use Rattle.bk_frames.specs.contracts.block.Block as block
use Rattle.bk_frames.specs.contracts.block.Block.as_mut_slice.{ended, clauses}
use Rattle.bk_frames.specs.contracts.block.Block.as_mut_slice.Key.{name as #self}
use Rattle.bk_frames.proofs.block.Block.as_mut_slice.Statement.{statement}
use Rattle.bk_frames.proofs.block.Block.as_mut_slice.Code as compiled

module _ (Z : RattleType) (g : Ghosts Z.Denot) {M : Type 1} {𝓤 : Ura M} (𝓛 : Logic 𝓤) (rb ro b o : ℕ) (us : List Val) (h : (block.the_row Z g).Denot) where
  abbrev R : RattleType
  R = block.the_row Z g

  -- the memory after k pages, with the right to free the block
  abbrev After : ℕ → Fml
  After k = fsep (froom (pages_type (h.room - k)) b (k * 8192 + o)) (g.dealloc_token h.alloc (pages_type h.room) (block_ptr b o))

  -- all but the pages
  abbrev Rest : Fml
  Rest = fsep (After (length h.pages)) (fsep (block_fields h.at h.count h.room us) (cell_at full_share R.mir us rb ro))

  back : h.at ≡ block_ptr b o → (ws : List (List ℕ)) → length ws ≡ length h.pages
      → ent 𝓤 (sep 𝓤 (sem 𝓛 (pages_at b o ws)) (sem 𝓛 Rest)) (sem 𝓛 ((mem R).own_at (with_left h ws) rb ro))
  unfolding part_of
  back e ws same =
      let left = refilled h.pages ws in
      let all : left ≡ ws = take_at ws (dropped (length ws) h.pages) (length h.pages) same in
      let long : length h.pages ≡ length left = sym (ap length all ∙ same) in
      let token = g.dealloc_token h.alloc in
      qed 𝓛 (‵ (pages_at b o ws) ∷ ‵ Rest ∷ []) ∵ rewrite ! 0 (λ (l : List (List ℕ)). ‵ (pages_at b o l)) (sym all) refl $ move ! (1 ∷ []) $ fsplit3 ! $
      rewrite ! 0 (λ (k : ℕ). ‵ (After k)) long refl $ move ! (3 ∷ 0 ∷ []) $ fjoin ! $
      rewrite ! 0 (λ (p : Ptr). ‵ (block_owns token p h.room left)) (sym e) refl $ move ! (1 ∷ 0 ∷ []) $ fjoin ! $ move ! (1 ∷ 0 ∷ []) $ fjoin ! $
      fpack ! (List Val) (λ vs. fsep (cell_at full_share R.mir vs rb ro) (R.own_val (with_left h ws) vs)) us $ done !

pub as_mut_slice_spec : {M : Type 1} → statement M
as_mut_slice_spec 𝓤 𝓛 𝓜 𝓡 wired A L g d dd met md =
    let H = 𝓛.H in
    let En₀ = ended A g d dd in
    let c = clauses A g d dd 𝓛 𝓜.mem 𝓡.returns in
    let args : Args = bounded (a_type ∷ []) (A, tt) (dcons d (dcons dd dnil)) in
    let fn : Fn = inst_fn args compiled.function in
    let Z : RattleType = param 0 A in
    let S : RattleType = block.the_row Z g in
    let hs : Stays En₀.signature.params En₀.kept = (stay_dropped (slot_at 0 En₀.signature.params) En₀.kept.0, tt) in
    let C = (tables 𝓤 H 𝓜 𝓡 𝓡.env).C in
    let Λ = (tables 𝓤 H 𝓜 𝓡 𝓡.env).Λ in
    proved_at 𝓛 En₀ hs c 𝓜 𝓡 (Goes-spent_ref 𝓛 2 (0 ∷ []) tt (plain (λ _. S)), tt) (#self args) fn (compiled.unfolded 𝓤 H 𝓜 𝓡 wired (A, tt) d dd) (λ z are.
    let Post : Val → SProp 𝓤 = (walk_of 𝓛 En₀ hs c).post z in
    let a = z.0.3 in
    let vss = z.0.4 in
    let κ : Lft = z.0.0.0 in
    let q : Share = z.0.1.0 in
    let h = a.0.now in
    let γ : GName = a.0.ghost_name in
    let rb : ℕ = a.0.ref_ptr.0 in
    let ro : ℕ = a.0.ref_ptr.1 in
    let xs = h.pages in
    let token = g.dealloc_token h.alloc in
    let Slice = MutSlice (named 0) κ page_row in
    qed 𝓛 ((raw (alive 𝓛 En₀.signature z.0.0 z.0.1) ⊛ ‵ (owns (types_at En₀.signature.params z.0.0) a vss)) ∷ (raw (fact 𝓤 (z.0.0.1.0 ⊑ A.lives)) ⊛ ‵ ftrue) ∷ []) ∵
    move ! (1 ∷ []) $ drop ! $ split ! $ move ! (1 ∷ []) $ fsplit ! $ fsplit3 ! $ keep ! (4 ∷ 1 ∷ 2 ∷ []) $
    use1 𝓛 (‵ (flft κ q) ⊛ ‵ (flft z.0.0.1.0 z.0.1.1.0) ⊛ ‵ ftrue) (id⊢ 𝓤 _) $ split ! $ move ! (2 ∷ 3 ∷ 0 ∷ []) $
    regoal ! (λ (us : List Val). prop (WpFn 𝓤 H C Λ fn us Post)) (λ i. are.0.0 i ++ []) refl $
    enter ! C Λ fn (vptr rb ro ∷ []) Post $
    alloc_all ! (λ l. pass_all ! refl ((tt, tt), tt) $ let En : Env 𝓤 𝓛.H = env fn.locals l in
    opens ! tt S {h = h} rb ro (λ us. move ! (1 ∷ []) $ peeks ! S _ (shows 𝓛 S) h us (λ is. fsplit ! $ move ! (1 ∷ []) $
    in_a_block ! h.at (λ p. block_owns token p h.room xs) (id⊢ 𝓤 (never 𝓤)) (λ b o e.
    let told = block_told h.at h.count h.room us is.0 in
    let word : Val = block_val (block_ptr b o) h.count h.room in
    let is_word : us ≡ word ∷ [] = told.0 ∙ ap (λ (p : Ptr). block_val p h.count h.room ∷ []) e in
    let many : length xs * 8192 < 2 ^ 63 = omega (arith, h.counted.0, h.counted.1, h.counted.2) in
    let few : length xs < 2 ^ 64 = omega arith in
    let way = back Z g 𝓛 rb ro b o (word ∷ []) h e in
    let Kept = Rest Z g 𝓛 rb ro b o (word ∷ []) h in
    fsplit ! $ rewrite ! 2 (λ (vs : List Val). ‵ (block_fields h.at h.count h.room vs)) is_word refl $ rewrite ! 3 (λ (vs : List Val). ‵ (cell_at full_share S.mir vs rb ro)) is_word refl $
    -- [the pages; the memory after them, with the right to free it; the fields; the block's cell; the open borrow, in three entries; the other token]
    first ! $ blocks ! $
    sets ! (of_opd ! (load ! (through ! refl (fld ! refl (stop !))) (look_in ! 3 (sub ! 0 refl (whole !))))) refl (tt, tt) $
    sets ! (of_opd ! (load ! (through ! refl (fld ! refl (stop !))) (look_in ! 3 (sub ! 1 refl (whole !))))) refl (tt, record { fits = told.1 }) $
    sets_last ! (agg ! (and_then ! (get ! refl) (and_then ! (get ! refl) (no_more !)))) refl (tt, (tt, (record { fits = told.1 }, tt))) $
    exec ! C Λ En (after 1 fn.body) (at_ret En Post) $
    sets ! (of_opd ! (get ! refl)) refl (tt, (tt, (record { fits = told.1 }, tt))) $
    move ! (1 ∷ 2 ∷ 3 ∷ []) $ fjoin3 ! $ move ! (2 ∷ 3 ∷ 4 ∷ 1 ∷ 0 ∷ []) $ group ! 5 $
    use1 𝓛 (later (some (λ (δ : GName). raw (Elements 𝓛 S page_row (with_left h) (named 0) κ q rb ro b o γ xs (few, many) (sem 𝓛 Kept) way δ))))
    (lends_Elements 𝓛 S page_row (with_left h) (named 0) κ q rb ro b o γ xs (few, many) (sem 𝓛 Kept) way (S.coded.code h) (S.coded.code h)) $ await ! tt $ pick ! (λ δ.
    let r : MutBor (List (List ℕ)) = record { ref_ptr = (b, o); ghost_name = δ; now = xs } in
    returns ! (look_at ! 0 refl) $ free_all ! refl $
    use1 𝓛 (‵ (Slice.own_val r (slice_val (b, o) (length xs) ∷ [])) ⊛ ‵ (flft κ q) ⊛ ‵ (follows S (Array page_row 0) γ δ (with_left h))) (id⊢ 𝓤 _) $ split3 ! $
    rewrite ! 0 (λ (k : ℕ). ‵ (Slice.own_val r (slice_val (b, o) k ∷ []))) (sym h.counted.0) refl $
    -- [the slice; the token; what it lends; the other token]
    move ! (1 ∷ 3 ∷ []) $ join ! $ move ! (2 ∷ []) $ use0 𝓛 (raw (fact 𝓤 (xs ≡ xs))) (fact_i 𝓤 (xs ≡ xs) (emp 𝓤) refl) $ move ! (1 ∷ 0 ∷ []) $ join ! $
    nothing ! $ nothing ! $ fjoin ! $ move ! (2 ∷ 0 ∷ 3 ∷ 1 ∷ []) $
    by ! (leaves 𝓛 En₀ hs c z (slice_val (b, o) h.count) r (tt, tt) (tt, tt))))))))
