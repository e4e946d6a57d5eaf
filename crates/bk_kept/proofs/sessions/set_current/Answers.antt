use Rattle.std.proofs.Common.{◌∙◌, refl, sym, ap, map}
use Rattle.std.specs.List.{position}
use Rattle.bk_machine.specs.World.{Session}
use Rattle.bk_kept.specs.declared.kept.Session.{Session as KeptSession}
use Rattle.bk_kept.specs.Keeps.{session_of}
use Rattle.bk_kept.proofs.Seated.{seats, with-at, with-none}
use Rattle.bk_kept.proofs.sessions.set_current.Goals as goal

pub returns-in-Some-clause-ok : goal.returns-in-Some-clause-ok
returns-in-Some-clause-ok c =
    with-at c.args.number (λ (s : Session). record s { current = c.args.name }) (λ s. refl) (λ (s : KeptSession). record s { current = c.args.name }) (λ s. refl) c.args.sessions.now.items c.in-Some.at c.index_mut.result.now
    (ap (position (seats c.args.number)) (sym c.deref.ensures.value) ∙ sym c.in-Some.ensures.place) c.index_mut.ensures.value

pub returns-in_ok-push-in-None-clause-ok : goal.returns-in_ok-push-in-None-clause-ok
returns-in_ok-push-in-None-clause-ok c =
    ap (map session_of) c.in_ok-push-in-None.ensures.items
    ∙ with-none c.args.number (λ (s : Session). record s { current = c.args.name }) (λ s. refl) c.args.sessions.now.items _ refl (ap (position (seats c.args.number)) (sym c.deref.ensures.value) ∙ sym c.in-None.ensures.place)
