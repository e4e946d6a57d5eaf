use Rattle.std.proofs.Common.{◌≡◌, None, Some, sym, ◌∙◌, ap, subst, rules}
use Rattle.std.specs.List.{find}
use Rattle.std.specs.Option.{option_map}
use Rattle.bk_kept.specs.declared.kept.Kept.{Kept}
use Rattle.bk_kept.proofs.Seated.{name_in, name-is, seats}
use Rattle.bk_kept.proofs.views.InstanceView.current.Goals as goal

pub returns-in_err-session : goal.returns-in_err-session
returns-in_err-session c = λ w sees.
    let same : option_map (λ s. s.now) c.session_numbered.result ≡ find (seats c.args.self.now.session) c.args.self.now.sessions.items =
    subst (λ (k : Kept). option_map (λ s. s.now) c.session_numbered.result ≡ find (seats k.session) k.sessions.items) c.self.view_is (rw (← c.deref.ensures.value) c.session_numbered.ensures) in
    let none : c.from_residual.result ≡ None = search rules in
    let gone : c.session_numbered.result ≡ None = search rules in
    ap (option_map (λ name. name.now)) none ∙ (sym (ap (λ f. name_in (option_map (λ s. s.now) f)) gone) ∙ name-is w c.args.self.now c.session_numbered.result same sees)

pub returns : goal.returns
returns c = λ w sees.
    let same : option_map (λ s. s.now) c.session_numbered.result ≡ find (seats c.args.self.now.session) c.args.self.now.sessions.items =
    subst (λ (k : Kept). option_map (λ s. s.now) c.session_numbered.result ≡ find (seats k.session) k.sessions.items) c.self.view_is (rw (← c.deref.ensures.value) c.session_numbered.ensures) in
    let there : c.session_numbered.result ≡ Some c.in_ok-session.session = search rules in
    c.as_ref.ensures.value ∙ (sym (ap (λ f. name_in (option_map (λ s. s.now) f)) there) ∙ name-is w c.args.self.now c.session_numbered.result same sees)
