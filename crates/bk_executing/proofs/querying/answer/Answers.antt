use Rattle.std.proofs.Common.{◌∙◌, sym}
use Rattle.bk_items.specs.declared.item.MediumQuery.TheVariants as query
use Rattle.bk_executing.proofs.Queried.{path-asked, path-refused}
use Rattle.bk_executing.proofs.querying.answer.Goals as goal

pub returns-then-not-is_path-clause-replies : goal.returns-then-not-is_path-clause-replies
returns-then-not-is_path-clause-replies g c = λ tells w media. path-refused w c.args.line c.args.query c.args.disk.now c.as_str-path.result.now c.args.file c.as_str-path.ensures (sym c.is_path.ensures ∙ c.if-not-is_path.true)

pub returns-in-Headers-clause-replies : goal.returns-in-Headers-clause-replies
returns-in-Headers-clause-replies g c = λ tells w media. path-asked w c.args.line c.args.query query.Headers c.args.disk.now c.as_str-path.result.now c.args.file c.list_headers.result c.as_str-path.ensures c.in-Headers.is (sym c.is_path.ensures ∙ c.if-not-is_path.false) (c.list_headers.ensures.replies tells w media)

pub returns-in-FileList-clause-replies : goal.returns-in-FileList-clause-replies
returns-in-FileList-clause-replies g c = λ tells w media. path-asked w c.args.line c.args.query query.FileList c.args.disk.now c.as_str-path.result.now c.args.file c.list_files.result c.as_str-path.ensures c.in-FileList.is (sym c.is_path.ensures ∙ c.if-not-is_path.false) (c.list_files.ensures.replies tells w media)

pub returns-in-Verify-clause-replies : goal.returns-in-Verify-clause-replies
returns-in-Verify-clause-replies g c = λ tells w media. path-asked w c.args.line c.args.query query.Verify c.args.disk.now c.as_str-path.result.now c.args.file c.verify.result c.as_str-path.ensures c.in-Verify.is (sym c.is_path.ensures ∙ c.if-not-is_path.false) (c.verify.ensures.replies tells w media)
