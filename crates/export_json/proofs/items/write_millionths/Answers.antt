use Rattle.export_json.specs.Export.{millionths_member}
use Rattle.export_json.proofs.items.write_millionths.Goals as goal

pub returns : goal.returns
unfolding millionths_member
returns c = c.in_ok-number_member.ensures
