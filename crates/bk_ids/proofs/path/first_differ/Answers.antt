use Rattle.bk_ids.specs.Laws.{differ-some, differ-none}
use Rattle.bk_ids.proofs.path.first_differ.Goals as goal

pub returns-then-least-end : goal.returns-then-least-end
returns-then-least-end c =
    differ-some c.args.path.now c.args.other.now c.args.x c.args.y c.min-end.result c.lesser-at_1.result c.earlier-in_path.result c.earlier-least.result
    c.min-end.ensures c.lesser-at_1.ensures.within c.earlier-in_path.ensures.within c.earlier-least.ensures.within
    c.lesser-at_1.ensures.tried c.earlier-in_path.ensures.tried c.earlier-least.ensures.tried
    c.lesser-at_1.ensures.lower c.earlier-in_path.ensures.lower c.earlier-least.ensures.lower c.if-least-end.true

pub returns-else-least-end : goal.returns-else-least-end
returns-else-least-end c =
    differ-none c.args.path.now c.args.other.now c.args.x c.args.y c.min-end.result c.lesser-at_1.result c.earlier-in_path.result c.earlier-least.result
    c.min-end.ensures c.lesser-at_1.ensures.within c.earlier-in_path.ensures.within c.earlier-least.ensures.within
    c.lesser-at_1.ensures.tried c.earlier-in_path.ensures.tried c.earlier-least.ensures.tried c.if-least-end.false
