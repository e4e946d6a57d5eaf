use Rattle.std.proofs.Common.{◌∙◌, sym}
use Rattle.bk_header.proofs.Tested.{all_kept, kept_all}
use Rattle.bk_header.proofs.keeping.keeps.Goals as goal

pub returns-clause-kept : goal.returns-clause-kept
returns-clause-kept c = λ holds. all_kept c.args.header.now (sym c.is_kept.ensures ∙ holds)

pub returns-clause-found : goal.returns-clause-found
returns-clause-found c = λ keeps. c.is_kept.ensures ∙ kept_all c.args.header.now keeps
