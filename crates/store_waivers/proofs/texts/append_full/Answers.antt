use Rattle.std.proofs.Common.{◌≡◌, ◌∙◌, ℕ, List, ◌++◌, OnOk, ap, subst, append_assoc}
use Rattle.std.specs.Prelude.{codes}
use Rattle.store_waivers.specs.Lines.{which_word, amounts_part}
use Rattle.store_waivers.proofs.texts.append_full.Goals as goal

grouped : (old one mid front word bytes amounts : List ℕ) → one ≡ old ++ front → mid ≡ one ++ bytes → bytes ≡ word → mid ++ amounts ≡ old ++ (front ++ (word ++ amounts))
grouped old one mid front word bytes amounts e f g =
    ap (λ (text : List ℕ). text ++ amounts) (f ∙ ap (λ (text : List ℕ). text ++ bytes) e ∙ ap (λ (text : List ℕ). (old ++ front) ++ text) g)
    ∙ append_assoc (old ++ front) word amounts ∙ append_assoc old front (word ++ amounts)

pub returns : goal.returns
returns c =
    let word : c.as_bytes.result.now ≡ which_word c.args.which = c.as_bytes.ensures.value ∙ c.which_word.ensures in
    subst (λ (text : List ℕ). OnOk c.append_amounts.result (c.append_amounts.new.text.items ≡ text))
    (grouped c.args.text.now.items c.append.new.text.items c.append-2.new.text.items (codes "waivers refused Full ") (which_word c.args.which) c.as_bytes.result.now
    (amounts_part c.args.have c.args.want) c.in_ok-append.ensures c.in_ok-append-2.ensures word) c.append_amounts.ensures
