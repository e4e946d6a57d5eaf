use Rattle.std.proofs.Common.{◌≡◌, map, take, replicate}
use Rattle.bk_maps.specs.Marks.{unmarked}
use Rattle.bk_maps.proofs.maps.Maps.new.Given as goal

abbrev pub invariant-loop-n : goal.invariant-loop-n
invariant-loop-n l = l.files.items ≡ map (λ n. replicate n unmarked) (take l.n-index l.extents)
