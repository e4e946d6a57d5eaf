use Rattle.std.proofs.Common.{◌≡◌, None, Some, sym, ◌∙◌, ap, subst, rules}
use Rattle.std.specs.List.{find}
use Rattle.std.specs.Option.{option_map}
use Rattle.bk_kept.specs.declared.kept.Kept.{Kept}
use Rattle.bk_kept.proofs.Seated.{seats, starts_in, starts-is}
use Rattle.bk_kept.proofs.views.InstanceView.starts.Goals as goal

pub returns-in-Some : goal.returns-in-Some
returns-in-Some c = λ w sees.
    let same : option_map (λ s. s.now) c.session_numbered.result ≡ find (seats c.args.self.now.session) c.args.self.now.sessions.items =
    subst (λ (k : Kept). option_map (λ s. s.now) c.session_numbered.result ≡ find (seats k.session) k.sessions.items) c.self.view_is (rw (← c.deref.ensures.value) c.session_numbered.ensures) in
    let there : c.session_numbered.result ≡ Some c.in-Some.session = search rules in
    sym (ap (λ f. starts_in (option_map (λ s. s.now) f)) there) ∙ starts-is w c.args.self.now c.session_numbered.result same sees

pub returns-in-None : goal.returns-in-None
returns-in-None c = λ w sees.
    let same : option_map (λ s. s.now) c.session_numbered.result ≡ find (seats c.args.self.now.session) c.args.self.now.sessions.items =
    subst (λ (k : Kept). option_map (λ s. s.now) c.session_numbered.result ≡ find (seats k.session) k.sessions.items) c.self.view_is (rw (← c.deref.ensures.value) c.session_numbered.ensures) in
    let none : c.session_numbered.result ≡ None = search rules in
    sym (ap (λ f. starts_in (option_map (λ s. s.now) f)) none) ∙ starts-is w c.args.self.now c.session_numbered.result same sees
