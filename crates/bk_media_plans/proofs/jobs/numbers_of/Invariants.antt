use Rattle.std.proofs.Common.{◌≡◌, map, take}
use Rattle.bk_media_plans.proofs.jobs.numbers_of.Given as goal

abbrev pub invariant-loop-file : goal.invariant-loop-file
invariant-loop-file l = l.numbers.items ≡ map (λ f. f.number) (take l.file-index l.files)
