use Rattle.std.proofs.Common.{◌≡◌, rules, length, ap, ◌∙◌, arith}
use Rattle.std.proofs.lemmas.Grind.{common_steps}
use Rattle.bk_master.specs.Spelling.{IsRecord, record_bytes, read_record}
use Rattle.bk_master.proofs.Forms.{record_read, record_fits}
use Rattle.bk_master.proofs.writing.spell_record.Goals as goal

pub returns-clause-read : goal.returns-clause-read
unfolding record_bytes
returns-clause-read c =
    let is : IsRecord c.args.kept.now = search rules in
    let same : c.append_all_unfinished.new.out.items ≡ record_bytes c.args.kept.now = grind (arith, common_steps) in
    ap read_record same ∙ record_read c.args.kept.now is

pub returns-clause-short : goal.returns-clause-short
unfolding record_bytes
returns-clause-short c =
    let same : c.append_all_unfinished.new.out.items ≡ record_bytes c.args.kept.now = grind (arith, common_steps) in
    omega (arith, ap length same, record_fits c.args.kept.now c.requires)
