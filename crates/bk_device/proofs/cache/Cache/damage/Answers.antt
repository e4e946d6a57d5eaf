-- The entry that was found is changed, and one is found, since the file is there.
use Rattle.std.proofs.Common.{◌<◌, ℕ, List, length, None, Some, Option, ap, sym, ◌∙◌, subst}
use Rattle.std.specs.Prelude.{string_bytes, option_map, IsSomeAnd}
use Rattle.bk_device.specs.Disk.{replaced}
use Rattle.bk_device.specs.Held.{name_of, current_of, current_files, flipped}
use Rattle.bk_device.proofs.Lookups.{found, look_at, look-absent, files_put_at}
use Rattle.bk_device.proofs.cache.Cache.damage.Goals as goal

pub damage-requires : goal.damage-requires
damage-requires c =
    let at = found name_of c.args.self.now.held.items c.args.name.now (Some c.in-Some.i) c.in-Some.ensures in
    let there = look_at name_of current_of c.args.self.now.held.items c.in-Some.i c.index_mut.result.now c.args.name.now at.0 at.1 c.index_mut.ensures.value in
    let Within : Option (List ℕ) → Type 0 = λ file. IsSomeAnd file (λ content. c.args.at < length content) in
    subst Within there c.requires

pub returns-in-Some : goal.returns-in-Some
returns-in-Some c =
    let at = found name_of c.args.self.now.held.items c.args.name.now (Some c.in-Some.i) c.in-Some.ensures in
    let there = look_at name_of current_of c.args.self.now.held.items c.in-Some.i c.index_mut.result.now c.args.name.now at.0 at.1 c.index_mut.ensures.value in
    record {
      current =
          files_put_at name_of current_of c.args.self.now.held.items c.in-Some.i c.index_mut.result.now c.damage.new.self c.args.name.now at.0 at.1 c.index_mut.ensures.value (ap string_bytes c.damage.ensures.name)
          ∙ ap (replaced (current_files c.args.self.now.held.items) c.args.name.now) (c.damage.ensures.current ∙ ap (option_map (flipped c.args.at)) (sym there));
    }

pub returns-in_default : goal.returns-in_default
returns-in_default c =
    let none = look-absent name_of current_of c.args.self.now.held.items c.args.name.now (found name_of c.args.self.now.held.items c.args.name.now None c.in_default.ensures) in
    let Within : Option (List ℕ) → Type 0 = λ file. IsSomeAnd file (λ content. c.args.at < length content) in
    absurd (subst Within none c.requires)
