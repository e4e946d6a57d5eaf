use Rattle.std.proofs.Common.{refl, ◌∙◌}
use Rattle.bk_stores.proofs.Noted.{spelled-read, spelled-refused}
use Rattle.bk_reading.specs.declared.unread.Unread.TheVariants.{Unspelled}
use Rattle.bk_stores.proofs.noting.spelled_in.Goals as goal

pub returns-in-Err-Unspelled-clause-broken : goal.returns-in-Err-Unspelled-clause-broken
returns-in-Err-Unspelled-clause-broken c = λ broken known note its.
    spelled-refused c.args.bytes.now Unspelled known note (rw c.in-Err-Unspelled.field-0-is at c.in-Err-Unspelled.ensures) refl its

pub returns-in_ok-to_vec-in-Ok-clause-told : goal.returns-in_ok-to_vec-in-Ok-clause-told
returns-in_ok-to_vec-in-Ok-clause-told c known note its =
    let same = spelled-read c.args.bytes.now known c.in-Ok.known note c.in-Ok.rest.now its c.in-Ok.ensures in
    (same.0, c.in_ok-to_vec-in-Ok.ensures.items_if_clones_equal (λ x y e. e) ∙ same.1)
