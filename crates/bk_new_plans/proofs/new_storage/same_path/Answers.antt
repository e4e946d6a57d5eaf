use Rattle.std.proofs.Common.{Bool, sym, ◌∙◌}
use Rattle.std.specs.Str.{bytes_eq}
use Rattle.bk_world.specs.declared.database.FileSpec.{FileSpec}
use Rattle.bk_new_plans.proofs.NewFiles.{repeated-here, repeated-on}
use Rattle.bk_new_plans.proofs.new_storage.same_path.Goals as goal

abbrev alike : FileSpec → FileSpec → Bool
alike f other = bytes_eq f.path other.path

pub returns-then-has_path : goal.returns-then-has_path
returns-then-has_path c =
    sym (repeated-here alike c.args.files.now c.loop-i.i c.index-files-i.result c.loop-i-test.true c.index-files-i.is (sym c.has_path.ensures ∙ c.if-has_path.true)) ∙ c.loop-i.invariant

pub loop-i-preserved : goal.loop-i-preserved
loop-i-preserved c = repeated-on alike c.args.files.now c.loop-i.i c.index-files-i.result c.loop-i-test.true c.index-files-i.is (sym c.has_path.ensures ∙ c.if-has_path.false) ∙ c.loop-i.invariant
