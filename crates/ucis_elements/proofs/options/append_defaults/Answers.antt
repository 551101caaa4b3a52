use Rattle.std.proofs.Common.{◌≡◌, ℕ, List, OnOk, subst}
use Rattle.ucis_elements.proofs.Chains.{three_all}
use Rattle.ucis_elements.proofs.options.append_defaults.Goals as goal

pub returns : goal.returns
returns c =
    subst (λ (bytes : List ℕ). OnOk c.number-2.result (c.number-2.new.text.items ≡ bytes))
    (three_all c.args.text.now.items _ _ _ _ _ c.in_ok-truth.ensures c.in_ok-number.ensures) c.number-2.ensures
