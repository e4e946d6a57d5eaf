use Rattle.std.proofs.Common.{◌≡◌, ◌∙◌, sym, subst, ℕ, List, ◌∷◌, [], ◌++◌}
use Rattle.std.specs.Prelude.{string_bytes}
use Rattle.bk_settling.specs.Noted.{IsAmong, names_in}
use Rattle.bk_settling.proofs.Lists.{among_front, among_last, found_in, added_to}
use Rattle.bk_settling.proofs.noted.Noted.note.Goals as goal

pub returns-then-is_some-clause-noted : goal.returns-then-is_some-clause-noted
returns-then-is_some-clause-noted c whole = found_in string_bytes c.args.self.now.names.items c.args.name.now c.find.result (sym c.is_some.ensures ∙ c.if-is_some.true) c.find.ensures

added : (c : goal.Else-is_err) → names_in c.add.new.self ≡ names_in c.args.self.now ++ c.args.name.now ∷ []
added c = added_to c.add.result (sym c.is_err.ensures.value ∙ c.if-is_err.false) c.add.ensures.added

pub returns-else-is_err-clause-noted : goal.returns-else-is_err-clause-noted
returns-else-is_err-clause-noted c whole =
    let Among : List (List ℕ) → Type 0 = λ names. IsAmong names c.args.name.now in
    subst Among (sym (added c)) (among_last (names_in c.args.self.now) c.args.name.now)

pub returns-else-is_err-clause-kept : goal.returns-else-is_err-clause-kept
returns-else-is_err-clause-kept c other among =
    let Among : List (List ℕ) → Type 0 = λ names. IsAmong names other in
    subst Among (sym (added c)) (among_front (names_in c.args.self.now) c.args.name.now other among)
