use Rattle.export_json.specs.Export.{bins_total_member}
use Rattle.export_json.proofs.items.write_bins_total.Goals as goal

pub returns : goal.returns
unfolding bins_total_member
returns c = c.in_ok-number_member.ensures
