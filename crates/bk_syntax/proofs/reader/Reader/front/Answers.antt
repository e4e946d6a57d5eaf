use Rattle.bk_syntax.proofs.ReaderLaws.{front_if}
use Rattle.bk_syntax.proofs.reader.Reader.front.Goals as goal

pub returns-clause-front : goal.returns-clause-front
returns-clause-front c =
    front_if c.args.src.now _ c.ahead-2.result.now _ c.loop-self.self.place c.front_of-2.result c.loop-self-test.false c.ahead-2.ensures c.front_of-2.ensures
