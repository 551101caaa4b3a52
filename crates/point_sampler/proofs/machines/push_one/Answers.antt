use Rattle.point_sampler.proofs.machines.push_one.Goals as goal

pub returns-in-CvgBin-clause-stands : goal.returns-in-CvgBin-clause-stands
returns-in-CvgBin-clause-stands c = rw c.in-CvgBin.is c.push.ensures.stands

pub returns-in-IgnoreBin-clause-stands : goal.returns-in-IgnoreBin-clause-stands
returns-in-IgnoreBin-clause-stands c = rw c.in-IgnoreBin.is c.push-in-IgnoreBin.ensures.stands

pub returns-in-IllegalBin-clause-stands : goal.returns-in-IllegalBin-clause-stands
returns-in-IllegalBin-clause-stands c = rw c.in-IllegalBin.is c.push-in-IllegalBin.ensures.stands

pub returns-in-DefaultBin-clause-stands : goal.returns-in-DefaultBin-clause-stands
returns-in-DefaultBin-clause-stands c = rw c.in-DefaultBin.is c.push-in-DefaultBin.ensures.stands
