use Rattle.std.proofs.Common.{ℕ, List, [], ◌∷◌, ◌++◌, Option, IsTrue, ◌↔◌, subst}
use Rattle.std.specs.Prelude.{ℤ}
use Rattle.trans_seq.specs.Windows.{EndsWindow, EndsKept}
use Rattle.trans_auto.specs.State.{Stands}
use Rattle.trans_auto.proofs.RunLemmas.{stands-more}
use Rattle.trans_auto.proofs.runs.push_runs.Goals as goal

pub returns-clause-stands : goal.returns-clause-stands
returns-clause-stands c = λ w st.
    stands-more c.args.own.now c.args.removed.now c.args.sample.now c.args.runs.now.items _ w st c.in_ok-advance.ensures.ok

pub returns-clause-counts : goal.returns-clause-counts
returns-clause-counts c = λ w st.
    let own = c.args.own.now in
    let removed = c.args.removed.now in
    let next = c.advance.new.runs.items in
    let Says : List (ℕ × ℕ) → Type 0 = λ n. (w : List (Option ℤ)) → Stands own removed n w → IsTrue c.answer.result.counts ↔ EndsKept own removed w in
    let says : Says next = subst Says c.as_slice.ensures.value c.answer.ensures.counts in
    says (w ++ c.args.sample.now ∷ []) (stands-more own removed c.args.sample.now c.args.runs.now.items next w st c.in_ok-advance.ensures.ok)

pub returns-clause-ends : goal.returns-clause-ends
returns-clause-ends c = λ w st.
    let own = c.args.own.now in
    let removed = c.args.removed.now in
    let next = c.advance.new.runs.items in
    let Says : List (ℕ × ℕ) → Type 0 = λ n. (w : List (Option ℤ)) → Stands own removed n w → IsTrue c.answer.result.ends ↔ EndsWindow own w in
    let says : Says next = subst Says c.as_slice.ensures.value c.answer.ensures.ends in
    says (w ++ c.args.sample.now ∷ []) (stands-more own removed c.args.sample.now c.args.runs.now.items next w st c.in_ok-advance.ensures.ok)
