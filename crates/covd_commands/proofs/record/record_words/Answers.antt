use Rattle.std.proofs.Common.{◌≡◌, [], ◌∷◌, map, true, sym, ap, ◌∙◌}
use Rattle.std.specs.Prelude.{codes, string_bytes}
use Rattle.std.proofs.lemmas.Bool.{not-false}
use Rattle.std.proofs.lemmas.Slice.Eq.{bytes_eq-Decides}
use Rattle.covd_commands.specs.Dumps.{is_test_id}
use Rattle.covd_commands.proofs.Items.{five_items}
use Rattle.covd_commands.proofs.record.record_words.Goals as goal

-- five words, of which the first is the command and the last an id
pub returns-else-not-is_test_id : goal.returns-else-not-is_test_id
returns-else-not-is_test_id c =
    let all = five_items c.args.words.now c.command-item.result c.design-item.result c.dump-item.result c.scope-item.result c.id-item.result c.in-len5.len_at_least c.in-len5.len_below c.command-item.is c.design-item.is c.dump-item.is c.scope-item.is c.id-item.is in
    let first : string_bytes c.command-item.result ≡ codes "record" = sym c.as_str.ensures.value ∙ (bytes_eq-Decides c.as_str.result.now (codes "record")).0 (not-false _ (sym c.ne.ensures ∙ c.if-ne.false)) in
    let is_id : is_test_id c.as_str-in-len5-4.result.now ≡ true = ap is_test_id (c.as_str-in-len5-4.ensures.value ∙ sym c.as_bytes.ensures.value) ∙ sym c.is_test_id.ensures ∙ c.if-not-is_test_id.false in
    (ap (map string_bytes) all ∙ (λ i. first i ∷ (sym c.as_str-in-len5.ensures.value) i ∷ (sym c.as_str-in-len5-2.ensures.value) i ∷ (sym c.as_str-in-len5-3.ensures.value) i ∷ (sym c.as_str-in-len5-4.ensures.value) i ∷ []), is_id)
