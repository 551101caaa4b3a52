use Rattle.std.proofs.Common.{◌≡◌, [], ◌∷◌, map, sym, ap, ◌∙◌}
use Rattle.std.specs.Prelude.{codes, string_bytes}
use Rattle.std.proofs.lemmas.Slice.Eq.{bytes_eq-Decides}
use Rattle.covd_commands.proofs.Items.{three_items}
use Rattle.covd_commands.proofs.count.count_words.Goals as goal

pub returns-then-eq : goal.returns-then-eq
returns-then-eq c =
    let all = three_items c.args.words.now c.command-item.result c.design-item.result c.rec-item.result c.in-len3.len_at_least c.in-len3.len_below c.command-item.is c.design-item.is c.rec-item.is in
    let first : string_bytes c.command-item.result ≡ codes "count" = sym c.as_str.ensures.value ∙ (bytes_eq-Decides c.as_str.result.now (codes "count")).0 (sym c.eq.ensures ∙ c.if-eq.true) in
    ap (map string_bytes) all ∙ (λ i. first i ∷ (sym c.as_str-then-eq.ensures.value) i ∷ (sym c.as_str-then-eq-2.ensures.value) i ∷ [])
