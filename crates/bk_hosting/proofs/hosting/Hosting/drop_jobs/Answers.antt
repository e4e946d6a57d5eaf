use Rattle.std.proofs.Common.{◌≡◌, ◌∙◌, rules, false, map, sym, ap}
use Rattle.std.specs.List.{list_any}
use Rattle.bk_hosting.specs.Hosting.{Kept, state_of}
use Rattle.bk_hosting.specs.Jobs.{has_job, without_job}
use Rattle.bk_hosting.proofs.Dropped.{dropped-states, none-dropped, none-runs}
use Rattle.bk_hosting.proofs.hosting.Hosting.drop_jobs.Goals as goal

pub returns-then-not-have_one-clause-stands : goal.returns-then-not-have_one-clause-stands
returns-then-not-have_one-clause-stands c = λ hosted states.
    let items : c.self.inside.states.items ≡ map state_of hosted = ap (λ (k : Kept). k.states) c.self.view_is ∙ states in
    let any : c.have_one.result ≡ list_any has_job c.self.inside.states.items = search rules in
    let none : list_any has_job (map state_of hosted) ≡ false = ap (list_any has_job) (sym items) ∙ sym any ∙ c.if-not-have_one.true in
    states ∙ ap (map state_of) (sym (none-dropped hosted (none-runs hosted none)))

pub returns-then-not-have_one-clause-idle : goal.returns-then-not-have_one-clause-idle
returns-then-not-have_one-clause-idle c = λ no hosted states.
    let items : c.self.inside.states.items ≡ map state_of hosted = ap (λ (k : Kept). k.states) c.self.view_is ∙ states in
    let any : c.have_one.result ≡ list_any has_job c.self.inside.states.items = search rules in
    none-runs hosted (ap (list_any has_job) (sym items) ∙ sym any ∙ c.if-not-have_one.true)

pub returns-clause-stands : goal.returns-clause-stands
returns-clause-stands c = λ hosted states.
    let items : c.self.inside.states.items ≡ map state_of hosted = ap (λ (k : Kept). k.states) c.self.view_is ∙ states in
    c.drop_all.ensures ∙ ap (map without_job) items ∙ dropped-states hosted

pub returns-clause-ran : goal.returns-clause-ran
returns-clause-ran c = λ yes.
    let any : c.have_one.result ≡ list_any has_job c.self.inside.states.items = search rules in
    ap (λ (k : Kept). list_any has_job k.states) (sym c.self.view_is) ∙ sym any ∙ c.if-not-have_one.false
