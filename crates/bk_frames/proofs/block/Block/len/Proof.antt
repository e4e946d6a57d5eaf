-- `len` reads one field through a `&`. Assumes `Logic`.
use Rattle.std.proofs.Common.{◌≡◌, ◌+◌, List, [], ◌∷◌, ◌++◌, length, refl, w64}
use mir.Syntax.{Fn, Args, a_type, dcons, dnil}
use mir.Val.{Val, vint, vptr}
use mir.MapTy.{inst_fn}
use base.Logic.{SProp, emp, id⊢}
use base.Fml.{Lft, Share, ftrue, flft}
use prog.Wp.{Env, WpFn}
use contract.BorrowLft.{◌⊑◌}
use contract.Monad.{fact, fact_i}
use contract.Running.{tables}
use types.Kit.{‵, raw, ◌⊛◌, prop, ◌$◌, ◌∵◌, !, qed, by, move, drop, use0, use1, split, join, regoal, fsplit, fjoin}
use types.Run.{stop, fld, load, look, of_opd, returns, enter}
use types.ByLocal.{alloc_all, pass_all, free_all, look_at, through, sets, env}
use denote.Builtin.{usize}
use denote.RattleType.{RattleType, owns}
use denote.Memory.{hidden_shr}
use denote.Param.{param, bounded}
use denote.Plain.{uint_Makes}
use denote.Signature.{types_at}
use denote.Steps.{nothing, owned}
use denote.Triple.Entry.{alive}
use denote.Triple.Walked.{Stays, stay_dropped, walk_of, Goes-dropped}
use Rattle.std.proofs.Words.{word_in, word_out}
use Rattle.std.proofs.raw_atomic.Walks.{proved_at, leaves}
use Rattle.bk_frames.proofs.Seen.{fields_seen, pages_seen, seen_apart, shows_count}
use Rattle.bk_frames.proofs.Walks.{slot_at}
use Rattle.bk_frames.specs.contracts.block.Block as block
use Rattle.bk_frames.specs.contracts.block.Block.len.{ended, clauses}
use Rattle.bk_frames.specs.contracts.block.Block.len.Key.{name as #self}
use Rattle.bk_frames.proofs.block.Block.len.Statement.{statement}
use Rattle.bk_frames.proofs.block.Block.len.Code as compiled

pub len_spec : {M : Type 1} → statement M
len_spec 𝓤 𝓛 𝓜 𝓡 wired A L g d dd met md =
    let H = 𝓛.H in
    let En₀ = ended A g d dd in
    let c = clauses A g d dd 𝓛 𝓜.mem 𝓡.returns in
    let args : Args = bounded (a_type ∷ []) (A, tt) (dcons d (dcons dd dnil)) in
    let fn : Fn = inst_fn args compiled.function in
    let hs : Stays En₀.signature.params En₀.kept = (stay_dropped (slot_at 0 En₀.signature.params) En₀.kept.0, tt) in
    let C = (tables 𝓤 H 𝓜 𝓡 𝓡.env).C in
    let Λ = (tables 𝓤 H 𝓜 𝓡 𝓡.env).Λ in
    proved_at 𝓛 En₀ hs c 𝓜 𝓡 (Goes-dropped 𝓛 2 (slot_at 0 En₀.signature.params) En₀.kept.0 (λ κs x f. refl), tt) (#self args) fn (compiled.unfolded 𝓤 H 𝓜 𝓡 wired (A, tt) d dd) (λ z are.
    let Post : Val → SProp 𝓤 = (walk_of 𝓛 En₀ hs c).post z in
    let a = z.0.3 in
    let vss = z.0.4 in
    let Z : RattleType = param 0 A in
    let κ : Lft = z.0.0.0 in
    let q : Share = z.0.1.0 in
    let h = a.0.now in
    let at = a.0.ref_ptr in
    qed 𝓛 ((raw (alive 𝓛 En₀.signature z.0.0 z.0.1) ⊛ ‵ (owns (types_at En₀.signature.params z.0.0) a vss)) ∷ (raw (fact 𝓤 (z.0.0.1.0 ⊑ A.lives)) ⊛ ‵ ftrue) ∷ []) ∵
    move ! (1 ∷ []) $ drop ! $ split ! $ move ! (1 ∷ []) $ fsplit ! $ fsplit ! $ drop ! $ move ! (1 ∷ []) $ drop ! $
    use1 𝓛 (‵ (hidden_shr (block.the_row Z g) κ h at.0 at.1)) (id⊢ 𝓤 _) $ use1 𝓛 (‵ (fields_seen Z g 𝓛 κ at.0 at.1 h) ⊛ ‵ (pages_seen Z g 𝓛 κ at.0 at.1 h)) (seen_apart Z g 𝓛 κ at.0 at.1 h) $ split ! $ move ! (1 ∷ []) $ drop ! $
    move ! (1 ∷ []) $ use1 𝓛 (‵ (flft κ q) ⊛ ‵ (flft z.0.0.1.0 z.0.1.1.0) ⊛ ‵ ftrue) (id⊢ 𝓤 _) $ split ! $ move ! (2 ∷ 0 ∷ []) $
    regoal ! (λ (us : List Val). prop (WpFn 𝓤 H C Λ fn us Post)) (λ i. are.0.0 i ++ []) refl $
    enter ! C Λ fn (vptr at.0 at.1 ∷ []) Post $
    alloc_all ! (λ l. pass_all ! refl ((tt, tt), tt) $ let En : Env 𝓤 𝓛.H = env fn.locals l in
    word_in ! tt h.count at.0 (at.1 + 8) (shows_count Z g 𝓛 κ at.0 at.1 h) (λ q' fits.
    sets ! (of_opd ! (load ! (through ! refl (fld ! refl (stop !))) (look ! 1 refl))) refl (tt, record { fits = fits }) $
    word_out ! tt h.count at.0 (at.1 + 8) fits $
    returns ! (look_at ! 0 refl) $ free_all ! refl $
    -- [the token; what is seen; the other token]
    move ! (1 ∷ []) $ drop ! $ join ! $ owned ! usize _ (uint_Makes 𝓛 w64) h.count _ (refl, fits) $
    use0 𝓛 (raw (fact 𝓤 (h.count ≡ length h.pages))) (fact_i 𝓤 (h.count ≡ length h.pages) (emp 𝓤) h.counted.0) $ nothing ! $ nothing ! $ fjoin ! $ move ! (3 ∷ 0 ∷ 2 ∷ 1 ∷ []) $
    by ! (leaves 𝓛 En₀ hs c z (vint w64 h.count) h.count (tt, tt) (tt, tt)))))
