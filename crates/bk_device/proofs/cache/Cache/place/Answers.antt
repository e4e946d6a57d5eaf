-- Where there is none of the name, the new one stands at the end and holds nothing.
use Rattle.std.proofs.Common.{◌≡◌, ◌≤◌, List, [], ◌∷◌, ◌++◌, length, None, ◌∙◌, ap, arith}
use Rattle.bk_device.specs.Held.{name_of, place_of, begin_of, durable_of, current_of, begin_files, durable_files, current_files}
use Rattle.bk_device.specs.declared.held.Held.{Held}
use Rattle.bk_device.proofs.Lookups.{found, place_of-push, files_more}
use Rattle.bk_device.proofs.cache.Cache.place.Goals as goal

absent_before : (c : goal.In_ok-push) → length c.args.self.now.held.items ≤ place_of name_of c.args.self.now.held.items c.args.name.now
absent_before c = found name_of c.args.self.now.held.items c.args.name.now None c.in_default.ensures

named : (c : goal.In_ok-push) → name_of c.new.result ≡ c.args.name.now
named c = c.new.ensures.name ∙ c.in_ok-name.ensures.ok

pushed : (c : goal.In_ok-push) → c.push.new.self.items ≡ c.args.self.now.held.items ++ c.new.result ∷ []
pushed c = c.in_ok-push.ensures.items

pub returns-clause-place : goal.returns-clause-place
returns-clause-place c =
    let at : place_of name_of (c.args.self.now.held.items ++ c.new.result ∷ []) c.args.name.now ≡ length c.args.self.now.held.items = place_of-push name_of c.args.self.now.held.items c.new.result c.args.name.now (absent_before c) (named c) in
    let same : place_of name_of c.push.new.self.items c.args.name.now ≡ place_of name_of (c.args.self.now.held.items ++ c.new.result ∷ []) c.args.name.now = ap (λ (l : List Held). place_of name_of l c.args.name.now) (pushed c) in
    omega (arith, at, same)

pub returns-clause-current : goal.returns-clause-current
returns-clause-current c = ap current_files (pushed c) ∙ files_more name_of current_of c.args.self.now.held.items c.new.result c.args.name.now (absent_before c) (named c) c.new.ensures.current

pub returns-clause-durable : goal.returns-clause-durable
returns-clause-durable c = ap durable_files (pushed c) ∙ files_more name_of durable_of c.args.self.now.held.items c.new.result c.args.name.now (absent_before c) (named c) c.new.ensures.durable

pub returns-clause-begin : goal.returns-clause-begin
returns-clause-begin c = ap begin_files (pushed c) ∙ files_more name_of begin_of c.args.self.now.held.items c.new.result c.args.name.now (absent_before c) (named c) c.new.ensures.begin
