use Rattle.std.proofs.Common.{true}
use Rattle.value_bins.proofs.Keeping.{kept_one}
use Rattle.value_bins.proofs.filter.keep_number.Goals as goal

pub returns-in_ok-push : goal.returns-in_ok-push
returns-in_ok-push g c = (true, (c.get-number.ensures.range, c.if-keep.ensures), kept_one _ _ c.args.number c.in_ok-push.ensures.items)
