use Rattle.std.proofs.Common.{◌≡◌, true, map, take}
use Rattle.bk_media_plans.proofs.headers.header_files.Given as goal

abbrev pub invariant-loop-file : goal.invariant-loop-file
invariant-loop-file l = l.named.items ≡ map (λ file. record { spec = file; in_set = true }) (take l.file-index l.files)
