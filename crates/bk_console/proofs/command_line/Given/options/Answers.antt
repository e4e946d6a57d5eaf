use Rattle.std.proofs.Common.{◌≡◌, refl, rules}
use Rattle.bk_console.proofs.Taking.{end-of-value, end-without-dir, end-not-none, end-asked}
use Rattle.bk_console.specs.declared.command_line.Next.TheVariants.{InstanceNumber}
use Rattle.bk_console.proofs.command_line.Given.options.Goals as goal

pub returns-in_default-clause-usage : goal.returns-in_default-clause-usage
returns-in_default-clause-usage c = (λ _. end-without-dir c.args.self.next c.args.self.dir c.args.self.stop c.args.self.instance c.in_default.is, λ _. refl)

pub returns-then-eq-clause-usage : goal.returns-then-eq-clause-usage
returns-then-eq-clause-usage c = let e : c.args.self.next ≡ InstanceNumber = search rules in (λ _. end-of-value c.args.self e, λ _. refl)

pub returns-in_err-from_str-clause-usage : goal.returns-in_err-from_str-clause-usage
returns-in_err-from_str-clause-usage c =
    let number : (c.args.self.next ≡ InstanceNumber → ⊥) = search rules in
    (λ h. search rules, λ n. absurd (end-not-none c.args.self.next c.args.self.dir c.args.self.stop c.args.self.instance c.in-Some.dir c.in-Some.is number n))

pub returns-clause-asked : goal.returns-clause-asked
returns-clause-asked c =
    let number : (c.args.self.next ≡ InstanceNumber → ⊥) = search rules in
    end-asked c.args.self.next c.args.self.dir c.args.self.stop c.args.self.instance c.in-Some.dir (record { dir = c.in_ok-from_str.field-0; stop = c.args.self.stop; instance = c.unwrap_or.result }) c.in-Some.is number (search rules) refl c.unwrap_or.ensures

pub returns-clause-usage : goal.returns-clause-usage
returns-clause-usage c =
    let number : (c.args.self.next ≡ InstanceNumber → ⊥) = search rules in
    (λ h. search rules, λ n. absurd (end-not-none c.args.self.next c.args.self.dir c.args.self.stop c.args.self.instance c.in-Some.dir c.in-Some.is number n))
