use Rattle.std.proofs.Common.{sym, subst}
use Rattle.bk_redo.specs.Listing.{IsListed}
use Rattle.bk_redo.proofs.Listed.{joined_listed}
use Rattle.bk_redo.proofs.listing.+listing.Goals as goal

pub returns : goal.returns
returns g t c =
    let wanted = c.args.wanted in
    let front = c.split_at.result.0.now in
    let back = c.split_at.result.1.now in
    let first : IsListed wanted front c.in_ok-ahead.ahead.items = rw c.in_ok-ahead.was at c.join_mut-ahead.ensures.0.met.1 in
    let behind : IsListed wanted back c.in_ok-behind.behind.items = rw c.in_ok-behind.was at c.join_mut-ahead.ensures.1.met.1 in
    let second = subst (IsListed wanted back) (sym c.deref.ensures.value) behind in
    joined_listed wanted c.args.log.now front back c.cut.result c.in_ok-ahead.ahead.items c.deref.result.now c.joined.result first second c.split_at.ensures.front c.split_at.ensures.back c.joined.ensures
