use Rattle.std.proofs.Common.{◌∙◌, ap, cond, Some, take}
use Rattle.std.proofs.lemmas.List.{take_rest}
use Rattle.bk_token.specs.Pieces.{is_go}
use Rattle.bk_token.specs.declared.token.Kind.TheVariants.{Word, Go}
use Rattle.bk_token.proofs.PieceLemmas.{cuts_word}
use Rattle.bk_token.proofs.piece.word.Goals as goal

pub returns : goal.returns
returns c =
    let bytes = c.args.bytes.now in
    let len = c.word_len-len.result in
    cuts_word c.args.before.now bytes _ _ c.requires (c.token.ensures.1 ∙ c.word_len-len.ensures.value)
    (rw c.token.ensures.1 (c.token.ensures.0 ∙ ap Some (c.word_kind.ensures ∙ ap (λ rest. cond (is_go c.args.before.now (take len bytes) rest) Go Word) (take_rest bytes len))))
