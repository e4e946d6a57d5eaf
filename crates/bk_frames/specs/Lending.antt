-- What becomes of frames once the pages that they lent are given back.
use Rattle.std.specs.Prelude.{ℕ, List, [], ◌++◌, slice_set}
use Rattle.std.specs.Borrow.{Lends, LendsBoth, MutBor, Fml, RattleType, Array, u8}
use mir.Syntax.{named}
use Rattle.bk_frames.specs.Pages.{refilled, with_pair}
use Rattle.bk_frames.specs.declared.frames_mut.FramesMut.{FramesMut}
use Rattle.bk_frames.specs.contracts.frames.Frames.{the_row}
use Rattle.bk_frames.specs.contracts.frames_mut.FramesMut as part

-- the frames end with the page at i as it was left, and all others as they were
abbrev pub LendsPage : MutBor (List (List ℕ)) → ℕ → MutBor (List ℕ) → Fml
LendsPage frames i page = Lends the_row (Array u8 0) frames page (λ left. slice_set frames.now i left)

-- the frames end as all of them were left
abbrev pub LendsPages : MutBor (List (List ℕ)) → MutBor (List (List ℕ)) → Fml
LendsPages frames pages = Lends the_row (Array (Array u8 0) 0) frames pages (refilled frames.now)

-- the frames end with the pages at i and j as they were left, and all others as they were
abbrev pub LendsPair : MutBor (List (List ℕ)) → ℕ → ℕ → MutBor (List ℕ) × MutBor (List ℕ) → Fml
LendsPair frames i j pair = LendsBoth the_row (Array u8 0) (Array u8 0) frames pair (with_pair frames.now i j)

-- the frames end as the two parts were left, one after the other
abbrev pub LendsParts : MutBor (List (List ℕ)) → FramesMut × FramesMut → Fml
LendsParts frames parts =
    LendsBoth the_row (Array (Array u8 0) 0) (Array (Array u8 0) 0) frames (parts.0.pages, parts.1.pages)
    (λ first second. refilled frames.now (first ++ second))

-- the part with other pages behind its reference
abbrev pub with_pages : FramesMut → List (List ℕ) → FramesMut
with_pages lent pages = record { pages = record lent.pages { now = pages } }

-- a part's type, where a method lends from it: its lifetime is the second of the method's signature
abbrev pub the_part : RattleType
the_part = part.the_row (record { mir = named 1; lft = [] })

-- the part ends with the page at i as it was left, and all others as they were
abbrev pub LendsPageOfPart : MutBor FramesMut → ℕ → MutBor (List ℕ) → Fml
LendsPageOfPart lent i page = Lends the_part (Array u8 0) lent page (λ left. with_pages lent.now (slice_set lent.now.pages.now i left))

-- the part ends with its pages as they were left
abbrev pub LendsPagesOfPart : MutBor FramesMut → MutBor (List (List ℕ)) → Fml
LendsPagesOfPart lent pages = Lends the_part (Array (Array u8 0) 0) lent pages (with_pages lent.now)

-- the part ends as its two parts were left, one after the other
abbrev pub LendsPartsOfPart : MutBor FramesMut → FramesMut × FramesMut → Fml
LendsPartsOfPart lent parts =
    LendsBoth the_part (Array (Array u8 0) 0) (Array (Array u8 0) 0) lent (parts.0.pages, parts.1.pages)
    (λ first second. with_pages lent.now (first ++ second))
