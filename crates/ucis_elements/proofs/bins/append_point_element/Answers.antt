use Rattle.std.proofs.Common.{◌≡◌, ℕ, List, OnOk, subst}
use Rattle.ucis_elements.specs.Bins.{point_element}
use Rattle.ucis_elements.proofs.Chains.{three}
use Rattle.ucis_elements.proofs.bins.append_point_element.Goals as goal

pub returns : goal.returns
unfolding point_element
returns c =
    subst (λ (bytes : List ℕ). OnOk c.close.result (c.close.new.text.items ≡ bytes))
    (three c.args.text.now.items _ _ _ _ _ c.in_ok-begin_bin.ensures c.in_ok-append_rule.ensures) c.close.ensures
