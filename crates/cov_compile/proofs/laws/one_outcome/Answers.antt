use Rattle.cov_compile.proofs.Texts.{design_one, fault_one, design_or_fault}
use Rattle.cov_compile.proofs.laws.one_outcome.Goals as goal

pub returns : goal.returns
returns c = λ text. record { one_design = design_one text; one_fault = fault_one text; not_both = design_or_fault text }
