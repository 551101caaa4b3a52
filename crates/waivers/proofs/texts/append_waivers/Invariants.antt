use Rattle.std.proofs.Common.{◌≡◌, ◌++◌, take}
use Rattle.waivers.specs.Texts.{waivers_text}
use Rattle.waivers.proofs.texts.append_waivers.Given as goal

abbrev pub invariant-loop-waiver : goal.invariant-loop-waiver
invariant-loop-waiver l = l.text.items ≡ l.fn.text.items ++ waivers_text l.paths (take l.waiver-index l.waivers)
