use Rattle.std.proofs.Common.{◌≡◌, ◌∙◌, ◌+◌, ap, subst, length, List, ℕ, refl}
use Rattle.design_data.specs.declared.design.Design.{Design}
use Rattle.sampler.specs.Plans.{IsTallyOf}
use Rattle.record_codec.specs.Spelling.{spelling}
use Rattle.cov_history.specs.History.{design_of, bins_hit}
use Rattle.merge_store.specs.Stores.{opening_of, entries_of}
use Rattle.store_parts.proofs.Tallied.{rows_are, size_is}
use Rattle.cov_history.proofs.Amounting.{amounts_more}
use Rattle.merge_store.proofs.store.Store.amounts_with.Goals as goal

pub returns : goal.returns
returns c caller =
    let s = c.args.self.now in
    let p = c.args.prepared.now in
    let d = design_of (opening_of s) (entries_of s) in
    let tallied : IsTallyOf d p.of p.counted = subst (λ (x : Design). IsTallyOf x p.of p.counted) c.requires c.tally.ensures.counted in
    let bytes : length c.bytes.result.now ≡ length (spelling p.of) = ap (λ (xs : List ℕ). length xs) (c.bytes.ensures.bytes ∙ c.bytes.ensures.spelled) in
    let rows : length c.rows.result.now ≡ bins_hit d p.of = ap (λ (xs : List (ℕ × ℕ)). length xs) (c.rows.ensures.rows ∙ c.deref.ensures ∙ c.tally.ensures.tally ∙ rows_are d p.of p.counted tallied) ∙ size_is d p.of in
    amounts_more (opening_of s) (entries_of s) caller p.of c.amounts-now.result _ c.amounts-now.ensures refl (ap (λ (n : ℕ). c.amounts-now.result.bytes + n) bytes) (ap (λ (n : ℕ). c.amounts-now.result.entries + n) rows) refl
