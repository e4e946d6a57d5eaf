use Rattle.std.proofs.lemmas.Result.{IfOk-weaker}
use Rattle.std.proofs.Common.{◌≡◌, map, ap, ◌∙◌}
use Rattle.bk_side.specs.Names.{data_file}
use Rattle.bk_filling.specs.Filling.{names_of}
use Rattle.bk_filling.proofs.filling.file_names.Goals as goal

pub returns : goal.returns
returns c =
    IfOk-weaker c.data_files.result (λ names. names.items ≡ map data_file c.deref.result.now) (λ names. names.items ≡ names_of c.args.files.now)
    (λ names are. are ∙ ap (map data_file) (c.deref.ensures.value ∙ c.in_ok-paths.ensures)) c.data_files.ensures
