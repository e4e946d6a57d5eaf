use Rattle.std.proofs.Common.{map}
use Rattle.std.specs.String.{string_bytes}
use Rattle.bk_console.proofs.Taking.{initial}
use Rattle.bk_console.proofs.command_line.words.Goals as goal

pub loop-word-init : goal.loop-word-init
loop-word-init c = initial (map string_bytes c.args.words.now)
