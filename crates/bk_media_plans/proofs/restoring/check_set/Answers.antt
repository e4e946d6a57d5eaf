-- The checks of a set, one after the other.
use Rattle.std.proofs.Common.{◌≡◌, List, Ok, Option, map, sym, ◌∙◌, ap, subst}
use Rattle.std.specs.Option.{option_map}
use Rattle.bk_items.specs.declared.options.FileMove.{FileMove}
use Rattle.bk_kept.specs.Keeps.{database_of}
use Rattle.bk_machine.specs.Checks.{Checked, ◌>>=◌}
use Rattle.bk_machine.specs.World.{Database, database_named}
use Rattle.bk_machine.specs.statements.Restore.{check_family, check_moves, check_number, check_room, check_set, check_tail, check_unused}
use Rattle.bk_plans.specs.Checking.{IsCheck}
use Rattle.bk_plans.specs.CheckingLaws.{passed-on}
use Rattle.bk_world.specs.declared.header.Header.{Header}
use Rattle.bk_kept.specs.declared.kept.Kept.{Kept}
use Rattle.bk_media_plans.proofs.restoring.check_set.Goals as goal

pub returns : goal.returns
unfolding check_set
returns c = λ w sees.
    let name = c.args.name.now in
    let moves : List FileMove = c.args.options.now.moves in
    let replace = c.args.options.now.replace in
    let header : Header = c.args.header.now in
    let moved : Header = c.args.moved.now in
    let o : Option Database = option_map (λ d. database_of d.now) c.named_in-named.result in
    let chain : Option Database → Header → Checked Header =
    λ (x : Option Database) (h : Header). check_unused x >>= (λ (a : Unit {0}). check_family x replace header >>= (λ (b : Unit {0}). check_moves header moves >>= (λ (d : Unit {0}). check_tail w x replace >>= (λ (e : Unit {0}). check_number w.databases x >>= (λ (f : Unit {0}). check_room w name h))))) in
    subst (λ (h : Header). IsCheck (λ u. moved) c.check_room.result (chain (database_named w.databases name) h)) c.requires
    (subst (λ (x : Option Database). IsCheck (λ u. moved) c.check_room.result (chain x moved)) (c.named_in-named.ensures.found w sees)
    (passed-on _ _ (check_unused o) _ tt c.in_ok-check_unused.ensures
    (passed-on _ _ (check_family o replace header) _ tt c.in_ok-check_family.ensures
    (passed-on _ _ (check_moves header moves) _ tt (subst (λ (ms : List FileMove). check_moves header ms ≡ Ok tt) c.as_slice.ensures c.in_ok-check_moves.ensures)
    (passed-on _ _ (check_tail w o replace) _ tt (c.in_ok-check_tail.ensures w (c.named_in-named.ensures.seen w sees))
    (passed-on _ _ (check_number w.databases o) _ tt (ap (λ (dbs : List Database). check_number dbs o) (sees.databases ∙ ap (map database_of) (sym (c.deref.ensures.value ∙ ap (λ (k : Kept). k.databases.items) c.kept.view_is))) ∙ c.in_ok-check_number.ensures)
    (c.check_room.ensures w sees)))))))
