use Rattle.std.proofs.Common.{◌≡◌, ◌∙◌, ◌+◌, ap, sym, length, List, ℕ, refl, arith}
use Rattle.std.proofs.lemmas.List.{length-map}
use Rattle.std.proofs.lemmas.List.Sums.{length-filter, count_by-le-length}
use Rattle.ucis_model.specs.declared.answers.Which.TheVariants.{History}
use Rattle.cov_history.specs.History.{out_of, is_found}
use Rattle.store_parts.specs.Words.{entry_of}
use Rattle.merge_store.specs.Stores.{opening_of, entries_of}
use Rattle.store_parts.proofs.Excluding.{history_amount}
use Rattle.store_parts.proofs.Revising.{contents_since, revised_amounts}
use Rattle.merge_store.proofs.store.Store.amounts_revised.Goals as goal

pub overflow_add-result-3 : goal.overflow_add-result-3
overflow_add-result-3 c =
    let s = c.args.self.now in
    let h = entries_of s in
    let r = c.args.rebinned.now in
    let point : length c.as_slice.result.now ≡ length h = ap length c.as_slice.ensures.value ∙ sym (length-map s.entries.items entry_of) in
    let a = length-filter (is_found r.design) (out_of h) in
    let b = count_by-le-length (is_found r.design) (out_of h) in
    let most = s.keeps.within History in
    let all = history_amount (opening_of s) h s.keeps.going in
    omega (arith, point, a, b, most, all, c.requires.outs)

pub returns : goal.returns
returns c caller =
    let s = c.args.self.now in
    let h = entries_of s in
    let r = c.args.rebinned.now in
    let point : length c.as_slice.result.now ≡ length h = ap length c.as_slice.ensures.value ∙ sym (length-map s.entries.items entry_of) in
    revised_amounts (opening_of s) h caller r c.amounts-now.result _ c.args.outs s.keeps.going c.amounts-now.ensures (contents_since h r.since c.requires.calm ∙ sym c.requires.readied.records) c.requires.outs
    refl (ap (λ (n : ℕ). c.amounts-now.result.bytes + n) (ap (λ (xs : List ℕ). length xs) c.text.ensures.text)) c.entries.ensures (ap (λ (n : ℕ). (n + 1) + c.args.outs) point)
