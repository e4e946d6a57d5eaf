use Rattle.std.proofs.Common.{◌≡◌, ◌-◌, length, ap, ◌∙◌, arith, length-set}
use Rattle.std.proofs.lemmas.List.{get_or_read}
use Rattle.bk_groups.specs.FileSpace.{FileSpace, with_touched}
use Rattle.bk_groups.specs.Groups.{Room}
use Rattle.bk_groups.specs.Sound.{no_space}
use Rattle.bk_groups.proofs.Spaces.{has_file, space_at, room_at-rooms_of, rooms_of-touched, bits-touched}
use Rattle.bk_groups.proofs.files.touch_extent.Goals as goal

pub index_mut-requires : goal.index_mut-requires
index_mut-requires c = omega (arith, c.from.ensures, has_file c.args.files.now.items c.args.file c.requires.has_file, c.args.files.now.ok)

pub touch-requires : goal.touch-requires
touch-requires c =
    let files = c.args.files.now.items in
    let inside = has_file files c.args.file c.requires.has_file in
    let read = rw c.from.ensures at c.index_mut.ensures.value in
    let is : c.index_mut.result.now ≡ space_at files c.args.file = get_or_read files (c.args.file - 1) c.index_mut.result.now inside read no_space in
    let len = ap (λ (s : FileSpace). length s.touched) is in
    let room = ap (λ (r : Room). length r.touched) (room_at-rooms_of files c.args.file) in
    record { first = c.requires.first_extent; last = omega (arith, c.requires.last_extent, len, room) }

pub returns : goal.returns
returns c =
    let files = c.args.files.now.items in
    let inside = has_file files c.args.file c.requires.has_file in
    let read = rw c.from.ensures at c.index_mut.ensures.value in
    let is : c.index_mut.result.now ≡ space_at files c.args.file = get_or_read files (c.args.file - 1) c.index_mut.result.now inside read no_space in
    let new : c.touch.new.self ≡ with_touched (space_at files c.args.file) c.args.extent = c.touch.ensures ∙ ap (λ (s : FileSpace). with_touched s c.args.extent) is in
    rw (c.from.ensures, new) (record {
      rooms = rooms_of-touched files c.args.file c.args.extent;
      len = length-set files (c.args.file - 1) (with_touched (space_at files c.args.file) c.args.extent);
      bits = bits-touched files c.args.file c.args.extent inside;
    })
