-- `push` writes the first page of the memory after the last page. Assumes `Logic`.
use Rattle.std.proofs.Common.{◌≡◌, ℕ, ◌+◌, ◌-◌, ◌*◌, ◌^◌, ◌<◌, List, [], ◌∷◌, ◌++◌, length, length-append, refl, sym, ap, ◌∙◌, arith, lit<, w8}
use base.Fraction.{full_share}
use mir.Syntax.{Fn, Args, a_type, dcons, dnil}
use mir.Val.{Val, vptr, vunit}
use mir.MapTy.{inst_fn}
use base.Logic.{SProp, emp, never, id⊢}
use base.Fml.{Lft, Share, ftrue, froom, flft}
use prog.Wp.{Env, WpFn}
use contract.BorrowLft.{◌⊑◌}
use contract.Monad.{fact, fact_i}
use contract.Running.{tables}
use types.Kit.{‵, raw, ◌⊛◌, prop, at_ret, ◌$◌, ◌∵◌, !, qed, by, move, keep, drop, use0, use1, use2, split, join, rewrite, regoal, fsplit, fsplit3, fjoin, fjoin3, feq_i}
use types.Part.{whole, sub, look_in, store_in}
use types.Run.{stop, fld, load, lit, unit_lit, init, bin, of_opd, assigns, assigns_last, first, blocks, exec, returns, enter}
use types.ByLocal.{alloc_all, pass_all, free_all, look_at, get, through, sets, env}
use denote.Builtin.{u8}
use denote.RattleType.{RattleType, owns}
use denote.Array.{Array-Lawful}
use denote.Laws.{shows}
use denote.Memory.{cell_at, part_at}
use denote.Param.{param, bounded}
use denote.Plain.{uint_Lawful}
use denote.RawPtr.{Ptr, block_ptr, in_a_block}
use denote.Signature.{types_at, plain}
use denote.Steps.{nothing, heard, opens, closes, peeks}
use denote.Triple.Entry.{alive}
use denote.Triple.Walked.{Stays, stay_ref, stay_dropped, walk_of, Goes-ref, Goes-dropped}
use borrow.Table.OneValue.{part_in}
use Rattle.std.proofs.alloc.Shapes.{after}
use Rattle.std.proofs.cell.Inside.{one}
use Rattle.std.proofs.raw_atomic.Walks.{proved_at, leaves}
use Rattle.bk_frames.proofs.Blocks.{pages-snoc, next-room}
use Rattle.bk_frames.proofs.Walks.{slot_at, big_lit}
use Rattle.bk_frames.proofs.Words.{block_val, block_fields, block_told, block_made}
use Rattle.bk_frames.specs.Blocks.{page_row, page_type, pages_type, pages_at, block_owns}
use Rattle.bk_frames.specs.contracts.block.Block as block
use Rattle.bk_frames.specs.contracts.block.Block.push.{ended, clauses}
use Rattle.bk_frames.specs.contracts.block.Block.push.Key.{name as #self}
use Rattle.bk_frames.proofs.block.Block.push.Statement.{statement}
use Rattle.bk_frames.proofs.block.Block.push.Code as compiled

pub push_spec : {M : Type 1} → statement M
push_spec 𝓤 𝓛 𝓜 𝓡 wired A L g d dd met md =
    let H = 𝓛.H in
    let En₀ = ended A g d dd in
    let c = clauses A g d dd 𝓛 𝓜.mem 𝓡.returns in
    let args : Args = bounded (a_type ∷ []) (A, tt) (dcons d (dcons dd dnil)) in
    let fn : Fn = inst_fn args compiled.function in
    let Z : RattleType = param 0 A in
    let S : RattleType = block.the_row Z g in
    let hs : Stays En₀.signature.params En₀.kept = (stay_ref (0 ∷ []) tt (plain (λ _. S)), (stay_dropped (slot_at 1 En₀.signature.params) En₀.kept.1.0, tt)) in
    let C = (tables 𝓤 H 𝓜 𝓡 𝓡.env).C in
    let Λ = (tables 𝓤 H 𝓜 𝓡 𝓡.env).Λ in
    proved_at 𝓛 En₀ hs c 𝓜 𝓡 (Goes-ref 𝓛 2 0 tt (plain (λ _. S)), (Goes-dropped 𝓛 2 (slot_at 1 En₀.signature.params) En₀.kept.1.0 (λ κs x f. refl), tt)) (#self args) fn (compiled.unfolded 𝓤 H 𝓜 𝓡 wired (A, tt) d dd) (λ z are.
    let Post : Val → SProp 𝓤 = (walk_of 𝓛 En₀ hs c).post z in
    let a = z.0.3 in
    let vss = z.0.4 in
    let κ : Lft = z.0.0.0 in
    let q : Share = z.0.1.0 in
    let h = a.0.now in
    let rb : ℕ = a.0.ref_ptr.0 in
    let ro : ℕ = a.0.ref_ptr.1 in
    let page : List ℕ = a.1.0 in
    let got = one page_type vss.1.0 ((Array-Lawful 𝓛 u8 (uint_Lawful 𝓛 w8) 8192).typed page vss.1.0 are.1.0) in
    let v : Val = got.0 in
    let xs = h.pages in
    let k = h.count in
    let n = h.room in
    let token = g.dealloc_token h.alloc in
    let Asked : Type 0 = length xs < n in
    qed 𝓛 ((raw (alive 𝓛 En₀.signature z.0.0 z.0.1) ⊛ ‵ (owns (types_at En₀.signature.params z.0.0) a vss)) ∷ (raw (fact 𝓤 (z.0.0.1.0 ⊑ A.lives)) ⊛ raw (fact 𝓤 Asked)) ∷ []) ∵
    move ! (1 ∷ []) $ split ! $ drop ! $ heard ! Asked (λ asked. split ! $ move ! (1 ∷ []) $ fsplit ! $ fsplit3 ! $ move ! (3 ∷ []) $ fsplit ! $ keep ! (5 ∷ 3 ∷ 4 ∷ 0 ∷ []) $
    use1 𝓛 (‵ (flft κ q) ⊛ ‵ (flft z.0.0.1.0 z.0.1.1.0) ⊛ ‵ ftrue) (id⊢ 𝓤 _) $ split ! $ move ! (2 ∷ 3 ∷ 0 ∷ 4 ∷ []) $
    rewrite ! 3 (λ (ws : List Val). ‵ (page_row.own_val page ws)) got.1 refl $
    -- [what is seen of the block; its borrow; the token; the page; the other token]
    regoal ! (λ (us : List Val). prop (WpFn 𝓤 H C Λ fn us Post)) (λ i. are.0.0 i ++ (got.1 i ++ [])) refl $
    enter ! C Λ fn (vptr rb ro ∷ v ∷ []) Post $
    alloc_all ! (λ l. pass_all ! refl ((tt, tt), (got.2, tt)) $ let En : Env 𝓤 𝓛.H = env fn.locals l in
    opens ! tt S {h = h} rb ro (λ us. move ! (1 ∷ []) $ peeks ! S _ (shows 𝓛 S) h us (λ is. fsplit ! $ move ! (1 ∷ []) $
    in_a_block ! h.at (λ p. block_owns token p n xs) (id⊢ 𝓤 (never 𝓤)) (λ b o e.
    let told = block_told h.at k n us is.0 in
    let is_word : us ≡ block_val (block_ptr b o) k n ∷ [] = told.0 ∙ ap (λ (p : Ptr). block_val p k n ∷ []) e in
    let same : length xs ≡ k = sym h.counted.0 in
    let less : k < n = omega arith in
    let far : k * 8192 < 2 ^ 64 = omega (arith, h.counted.2) in
    let more : k + 1 < 2 ^ 64 = omega (arith, h.counted.2) in
    let xs' = xs ++ page ∷ [] in
    let long : k + 1 ≡ length xs' = omega (arith, length-append xs (page ∷ [])) in
    move ! (1 ∷ []) $ drop ! $ rewrite ! 1 (λ (vs : List Val). ‵ (cell_at full_share S.mir vs rb ro)) is_word refl $
    fsplit ! $ move ! (1 ∷ []) $ fsplit ! $ rewrite ! 0 (λ (j : ℕ). ‵ (froom (pages_type (n - j)) b (j * 8192 + o))) same refl $
    use1 𝓛 (‵ (froom page_type b (k * 8192 + o)) ⊛ ‵ (froom (pages_type (n - (k + 1))) b ((k + 1) * 8192 + o))) (next-room 𝓛 b k n o less) $ split ! $
    -- [the page's memory; the memory after it; the right to free it; the pages; the block's cell; the open borrow, in three entries; the page; the other token]
    sets ! (of_opd ! (load ! (through ! refl (fld ! refl (stop !))) (look_in ! 4 (sub ! 1 refl (whole !))))) refl (tt, record { fits = told.1 }) $
    first ! $ blocks ! $
    sets ! (of_opd ! (load ! (through ! refl (fld ! refl (stop !))) (look_in ! 4 (sub ! 0 refl (whole !))))) refl (tt, tt) $
    sets ! (bin ! (get ! refl) (big_lit ! (record { fits = lit< tt })) (record { fits = far })) refl (tt, record { fits = far }) $
    sets ! (bin ! (get ! refl) (get ! refl) tt) refl (tt, tt) $
    assigns_last ! (of_opd ! (get ! refl)) (through ! refl (stop !)) (init ! 0 refl got.2) $
    exec ! C Λ En (after 2 fn.body) (at_ret En Post) $
    sets ! (bin ! (get ! refl) (lit ! tt) (record { fits = more })) refl (tt, record { fits = more }) $
    assigns ! (of_opd ! (get ! refl)) (through ! refl (fld ! refl (stop !))) (store_in ! 4 (sub ! 1 refl (whole !)) (tt, record { fits = more })) $
    sets ! (of_opd ! (unit_lit !)) refl (tt, tt) $
    move ! (0 ∷ 8 ∷ []) $ use2 𝓛 (‵ (part_at page_row full_share page b (k * 8192 + o))) (part_in 𝓛 page_row refl full_share page b (k * 8192 + o) v) $
    rewrite ! 0 (λ (j : ℕ). ‵ (part_at page_row full_share page b (j * 8192 + o))) h.counted.0 refl $ move ! (3 ∷ 0 ∷ []) $
    use2 𝓛 (‵ (pages_at b o xs')) (pages-snoc 𝓛 b xs page o) $ rewrite ! 1 (λ (j : ℕ). ‵ (froom (pages_type (n - j)) b (j * 8192 + o))) long refl $
    move ! (1 ∷ 2 ∷ []) $ fjoin ! $ move ! (1 ∷ 0 ∷ []) $ fjoin ! $ rewrite ! 0 (λ (p : Ptr). ‵ (block_owns token p n xs')) (sym e) refl $
    -- [what the block owns; its cell; the open borrow, in three entries; the other token]
    let h' : S.Denot = record { at = h.at; count = k + 1; room = n; by = h.by; alloc = h.alloc; pages = xs'; counted = (long, omega arith, h.counted.2) } in
    let word' : Val = block_val h.at (k + 1) n in
    rewrite ! 1 (λ (p : Ptr). ‵ (cell_at full_share S.mir (block_val p (k + 1) n ∷ []) rb ro)) (sym e) refl $
    use0 𝓛 (‵ (block_fields h.at (k + 1) n (word' ∷ []))) (block_made 𝓛 h.at (k + 1) n more told.2) $ fjoin ! $ move ! (1 ∷ 0 ∷ []) $
    closes ! tt S h' (word' ∷ []) rb ro $
    returns ! (look_at ! 0 refl) $ free_all ! refl $
    feq_i ! (List Val) vss.0 (vptr rb ro ∷ []) are.0.0 $ fjoin3 ! $ nothing ! $ nothing ! $ fjoin ! $ move ! (1 ∷ 0 ∷ []) $ fjoin ! $ move ! (1 ∷ 2 ∷ []) $ join ! $
    let Kept : Type 0 = (h.alloc ≡ h.alloc) × (n ≡ n) × (xs' ≡ xs') in
    use0 𝓛 (raw (fact 𝓤 Kept)) (fact_i 𝓤 Kept (emp 𝓤) (refl, refl, refl)) $ feq_i ! (List Val) (vunit ∷ []) (vunit ∷ []) refl $
    move ! (2 ∷ 3 ∷ 0 ∷ 1 ∷ []) $ by ! (leaves 𝓛 En₀ hs c z vunit tt (h', (tt, tt)) (tt, (tt, tt)))))))))
