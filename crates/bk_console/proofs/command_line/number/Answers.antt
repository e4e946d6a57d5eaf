use Rattle.std.proofs.Common.{◌≡◌, false, true, sym, ◌∙◌, ap, rules}
use Rattle.bk_console.specs.Words.{begins_as_number}
use Rattle.bk_console.proofs.Taking.{number-parsed, not-number}
use Rattle.bk_console.proofs.command_line.number.Goals as goal

pub returns-then-not-begins_as_number : goal.returns-then-not-begins_as_number
returns-then-not-begins_as_number c =
    let not : c.begins_as_number.result ≡ false = search rules in
    not-number c.args.word.now (ap begins_as_number (sym c.as_bytes.ensures.value) ∙ (sym c.begins_as_number.ensures ∙ not))

pub returns : goal.returns
returns c =
    let is : c.begins_as_number.result ≡ true = search rules in
    c.ok.ensures.value ∙ number-parsed c.args.word.now c.parse.result
    (ap begins_as_number (sym c.as_bytes.ensures.value) ∙ (sym c.begins_as_number.ensures ∙ is)) c.parse.ensures.value.0
