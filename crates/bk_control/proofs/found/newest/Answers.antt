use Rattle.std.proofs.Common.{subst, sym}
use Rattle.bk_control.specs.Found.{IsFound}
use Rattle.bk_control.proofs.Finding.{first_counts, second_counts, no_slot_counts, short_entry, not_less, is_less, not_some}
use Rattle.bk_control.proofs.found.newest.Goals as goal

pub returns-then-a-b-clause-found : goal.returns-then-a-b-clause-found
returns-then-a-b-clause-found c file one two =
    subst (IsFound file) (sym c.counts-then-a-b.ensures)
    (second_counts file c.args.first c.args.second c.in-Some-entry-2.b one two c.in-Some-entry-2.is (is_less c.args.first.entry c.in-Some.a c.in-Some-entry-2.b.sequence c.in-Some.is c.if-a-b.true) (short_entry c.args.second.entry c.in-Some-entry-2.b c.in-Some-entry-2.is c.requires.second))

pub returns-else-a-b-clause-found : goal.returns-else-a-b-clause-found
returns-else-a-b-clause-found c file one two =
    subst (IsFound file) (sym c.counts-else-a-b.ensures)
    (first_counts file c.args.first c.args.second c.in-Some.a one two c.in-Some.is (not_less c.args.second.entry c.in-Some-entry-2.b c.in-Some.a.sequence c.in-Some-entry-2.is c.if-a-b.false) (short_entry c.args.first.entry c.in-Some.a c.in-Some.is c.requires.first))

pub returns-in_default-entry-clause-found : goal.returns-in_default-entry-clause-found
returns-in_default-entry-clause-found c file one two = no_slot_counts file c.args.first c.args.second one two c.in_default.is c.in_default-entry.is

pub returns-in_default-clause-found : goal.returns-in_default-clause-found
returns-in_default-clause-found c file one two =
    subst (IsFound file) (sym c.counts.ensures)
    (second_counts file c.args.first c.args.second c.in-Some-entry.b one two c.in-Some-entry.is (λ a some. absurd (not_some c.args.first.entry a c.in_default.is some)) (short_entry c.args.second.entry c.in-Some-entry.b c.in-Some-entry.is c.requires.second))

pub returns-in_default-entry-2-clause-found : goal.returns-in_default-entry-2-clause-found
returns-in_default-entry-2-clause-found c file one two =
    subst (IsFound file) (sym c.counts-in_default-entry-2.ensures)
    (first_counts file c.args.first c.args.second c.in-Some.a one two c.in-Some.is (λ b some. absurd (not_some c.args.second.entry b c.in_default-entry-2.is some)) (short_entry c.args.first.entry c.in-Some.a c.in-Some.is c.requires.first))
