use Rattle.std.proofs.Common.{◌≡◌, ℕ, sym, ap, ◌∙◌, Vec, Global}
use Rattle.std.specs.String.{string_bytes}
use Rattle.std.proofs.lemmas.Str.{IsUtf8-string_bytes}
use Rattle.bk_token.proofs.ContentLemmas.{as_text-valid, as_text-invalid}
use Rattle.bk_token.proofs.words.as_text.Goals as goal

pub returns-in-Ok : goal.returns-in-Ok
returns-in-Ok c =
    let same : string_bytes c.in-Ok.text ≡ c.args.bytes.items = ap (λ (v : Vec ℕ Global). v.items) c.in-Ok.ensures.ok in
    sym (as_text-valid (string_bytes c.in-Ok.text) (IsUtf8-string_bytes c.in-Ok.text)) ∙ rw same

pub returns : goal.returns
returns c = sym (as_text-invalid c.args.bytes.items (λ valid. cc (c.in-Err.ensures.succeeds valid)))
