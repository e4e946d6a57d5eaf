use Rattle.std.proofs.Common.{◌≡◌, [], List, Option, sym, subst}
use Rattle.bk_items.specs.declared.item.ScriptEntry.{ScriptEntry}
use Rattle.bk_syntax.specs.Reader.{HasItems, GivesItem}
use Rattle.bk_syntax.proofs.ItemsLaw.{some_items}
use Rattle.bk_syntax.proofs.ReaderLaws.{ReadSoFar, read_none, read_more, all_read}
use Rattle.bk_syntax.proofs.entries.items.Goals as goal

pub loop-found-init : goal.loop-found-init
loop-found-init c =
    let found : c.new-found.result.items ≡ [] = c.new-found.ensures.items in
    subst (ReadSoFar c.args.src.now c.new-reader.result) (sym found) (read_none c.args.src.now c.new-reader.result (c.new-reader.ensures.reader c.args.src.now) (c.new-reader.ensures.items c.args.src.now))

pub loop-found-preserved : goal.loop-found-preserved
loop-found-preserved c =
    let src = c.args.src.now in
    let P : Option ScriptEntry → Type 0 = λ found. (es : List ScriptEntry) → HasItems src c.loop-found.reader es → GivesItem src found es c.next.new.self in
    subst (ReadSoFar src c.next.new.self) (sym c.in_ok-push.ensures)
    (read_more src c.loop-found.reader c.next.new.self c.loop-found.found.items c.in-Some.entry c.loop-found.invariant c.in_ok-entry.ensures.reader (subst P c.in-Some.is c.in_ok-entry.ensures.item))

pub returns : goal.returns
returns c =
    let src = c.args.src.now in
    let P : Option ScriptEntry → Type 0 = λ found. (es : List ScriptEntry) → HasItems src c.loop-found.reader es → GivesItem src found es c.next.new.self in
    let tokens = c.one_token_list.ensures.some src in
    let items = some_items src tokens.0 tokens.1 in
    all_read src c.loop-found.reader c.loop-found.found.items items.0 c.loop-found.invariant (subst P c.in_default.is c.in_ok-entry.ensures.item) items.1
