use Rattle.std.proofs.Common.{rules}
use Rattle.covd_commands.proofs.options.+options_from.Goals as goal
