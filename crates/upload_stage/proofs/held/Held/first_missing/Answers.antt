use Rattle.std.proofs.Common.{◌≡◌, ℕ, ◌<◌, ◌≤◌, List, sym, ap, ◌∙◌, arith, inl, inr}
use Rattle.std.proofs.lemmas.Bool.{cases_lt}
use Rattle.upload_stage.specs.Places.{first_missing, mark_of}
use Rattle.upload_stage.proofs.Places.{none_missing, some_missing}
use Rattle.upload_stage.proofs.held.Held.first_missing.Goals as goal

-- the marks before the place that was found
up_to : (marks slice : List ℕ) (whole found : ℕ) → slice ≡ marks → ((place : ℕ) → place < whole → mark_of marks place ≡ 1) → ((place : ℕ) → whole ≤ place → place < found → mark_of slice place ≡ 1) → (place : ℕ) → place < found → mark_of marks place ≡ 1
up_to marks slice whole found same passed before place lt = elim (cases_lt place whole) [
  | inl low ↦ passed place low
  | inr high ↦ ap (λ (l : List ℕ). mark_of l place) (sym same) ∙ before place high lt
]

pub invariant_of-self : goal.invariant_of-self
invariant_of-self c =
    let kept = c.self.invariant in
    let found = c.first_unmarked-self-inside.ensures in
    record {
      short = kept.short;
      wide = kept.wide;
      long = kept.long;
      room = kept.room;
      front = found.range.1;
      passed = up_to c.self.inside.marks.items c.as_slice.result.now c.self.inside.whole c.first_unmarked-self-inside.result c.as_slice.ensures.value kept.passed found.before;
      there = kept.there;
    }

pub returns-then-self-clause-missing : goal.returns-then-self-clause-missing
returns-then-self-clause-missing c =
    let found = c.first_unmarked-self-inside.ensures in
    let all = up_to c.self.inside.marks.items c.as_slice.result.now c.self.inside.whole c.first_unmarked-self-inside.result c.as_slice.ensures.value c.self.invariant.passed found.before in
    none_missing c.self.inside.marks.items c.self.inside.bytes.items c.self.inside.len (λ k lt. all k (omega (arith, c.if-self.true))) ∙ ap (first_missing 0) c.self.view_is

pub returns-clause-missing : goal.returns-clause-missing
returns-clause-missing c =
    let found = c.first_unmarked-self-inside.ensures in
    let at = c.first_unmarked-self-inside.result in
    let all = up_to c.self.inside.marks.items c.as_slice.result.now c.self.inside.whole at c.as_slice.ensures.value c.self.invariant.passed found.before in
    let lt : at < c.self.inside.len = omega (arith, found.range.1, c.if-self.false) in
    some_missing c.self.inside.marks.items c.self.inside.bytes.items c.self.inside.len at lt all (ap (λ (l : List ℕ). mark_of l at) (sym c.as_slice.ensures.value) ∙ found.at lt) ∙ ap (first_missing 0) c.self.view_is
