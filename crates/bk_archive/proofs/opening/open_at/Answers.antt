use Rattle.std.proofs.Common.{refl}
use Rattle.bk_archive.proofs.Openings.{found-damaged, found-no-set, found-none, found-opened}
use Rattle.bk_archive.proofs.opening.open_at.Goals as goal

pub returns-in-Err-NoSuchSet-clause-answer : goal.returns-in-Err-NoSuchSet-clause-answer
returns-in-Err-NoSuchSet-clause-answer g c tells =
    let none = rw c.in-Err-NoSuchSet.field-0-is at c.in-Err-NoSuchSet.ensures.no_such in
    found-none c.args.position c.count.result (g.D.Device.disk c.args.dev.now) c.args.medium.now c.count.ensures (c.requires.shows tells) (none.0 refl)

pub returns-in-Ok-clause-answer : goal.returns-in-Ok-clause-answer
returns-in-Ok-clause-answer g c tells =
    found-opened c.args.position (g.D.Device.disk c.args.dev.now) c.args.medium.now c.in-Ok.set (c.requires.shows tells) (λ none. let other = c.in-Ok.ensures.no_such.1 none in cc) (c.in-Ok.ensures.answer tells)

pub returns-in-Err-Damaged-clause-answer : goal.returns-in-Err-Damaged-clause-answer
returns-in-Err-Damaged-clause-answer g c tells =
    let no_such = rw c.in-Err-Damaged.field-0-is at c.in-Err-Damaged.ensures.no_such in
    found-damaged c.args.position (g.D.Device.disk c.args.dev.now) c.args.medium.now c.in-Err-Damaged.stored c.in-Err-Damaged.found (c.requires.shows tells)
    (λ none. let other = no_such.1 none in cc)
    (rw c.in-Err-Damaged.field-0-is at (c.in-Err-Damaged.ensures.answer tells))

pub returns-in-Err-NotMedia-clause-answer : goal.returns-in-Err-NotMedia-clause-answer
returns-in-Err-NotMedia-clause-answer g c tells =
    let no_such = rw c.in-Err-NotMedia.field-0-is at c.in-Err-NotMedia.ensures.no_such in
    found-no-set c.args.position (g.D.Device.disk c.args.dev.now) c.args.medium.now (c.requires.shows tells) (λ none. let other = no_such.1 none in cc)
    (rw c.in-Err-NotMedia.field-0-is at (c.in-Err-NotMedia.ensures.answer tells))
