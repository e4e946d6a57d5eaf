use Rattle.std.proofs.Common.{Bool, sym, ◌∙◌}
use Rattle.bk_ids.specs.Name.{same_name}
use Rattle.bk_world.specs.declared.database.FileSpec.{FileSpec}
use Rattle.bk_new_plans.proofs.NewFiles.{repeated-here, repeated-on}
use Rattle.bk_new_plans.proofs.new_storage.namesake.Goals as goal

abbrev alike : FileSpec → FileSpec → Bool
alike f other = same_name f.name other.name

pub returns-then-has_name : goal.returns-then-has_name
returns-then-has_name c =
    sym (repeated-here alike c.args.files.now c.loop-i.i c.index-files-i.result c.loop-i-test.true c.index-files-i.is (sym c.has_name.ensures ∙ c.if-has_name.true)) ∙ c.loop-i.invariant

pub loop-i-preserved : goal.loop-i-preserved
loop-i-preserved c = repeated-on alike c.args.files.now c.loop-i.i c.index-files-i.result c.loop-i-test.true c.index-files-i.is (sym c.has_name.ensures ∙ c.if-has_name.false) ∙ c.loop-i.invariant
