use Rattle.std.proofs.Common.{◌≡◌, ◌∙◌, ℕ, List, ◌++◌, OnOk, ap, subst, append_assoc}
use Rattle.std.specs.Prelude.{codes}
use Rattle.waivers.specs.Texts.{kind_word, place_part}
use Rattle.waivers.proofs.texts.append_refusal.Goals as goal

grouped : (old one mid word kind bytes place : List ℕ) → one ≡ old ++ word → mid ≡ one ++ bytes → bytes ≡ kind → mid ++ place ≡ old ++ (word ++ (kind ++ place))
grouped old one mid word kind bytes place e f g =
    ap (λ (l : List ℕ). l ++ place) (f ∙ ap (λ (l : List ℕ). l ++ bytes) e ∙ ap (λ (l : List ℕ). old ++ word ++ l) g)
    ∙ append_assoc (old ++ word) kind place ∙ append_assoc old word (kind ++ place)

pub returns : goal.returns
returns c =
    let kind : c.as_bytes.result.now ≡ kind_word c.args.kind = c.as_bytes.ensures.value ∙ c.kind_word.ensures in
    subst (λ (bytes : List ℕ). OnOk c.append_place.result (c.append_place.new.text.items ≡ bytes))
    (grouped c.args.text.now.items c.append.new.text.items c.append-2.new.text.items (codes "waivers refused ") (kind_word c.args.kind) c.as_bytes.result.now (place_part c.args.at)
    c.in_ok-append.ensures c.in_ok-append-2.ensures kind) c.append_place.ensures
