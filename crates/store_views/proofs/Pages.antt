-- Tests that are read page by page.
use Rattle.std.proofs.Common.{◌≡◌, ℕ, ◌+◌, ◌-◌, ◌≤◌, List, ◌++◌, length, map, take, drop, inl, inr, sym, ap, ◌∙◌, arith}
use Rattle.std.proofs.lemmas.List.{take-append-drop, take-take, drop-take, take_all, map-append}
use Rattle.ucis_model.specs.declared.answers.Answer.TheVariants as answers
use Rattle.ucis_model.specs.declared.answers.HistoryNode.{HistoryNode}
use Rattle.cov_history.specs.declared.entry.Entry.{Entry}
use Rattle.cov_history.specs.History.{Test, tests_of}
use Rattle.cov_history.specs.Answers.{test_row, tests_at}
use Rattle.merge_store.specs.Told.{Reads}

take_more_of : (at n : ℕ) (all : List Test) → take at all ++ take n (drop at all) ≡ take (at + n) all
take_more_of at n all =
    ap (λ (x : List Test). take at all ++ x) (sym (drop-take at n all)) ∙ ap (λ (x : List Test). x ++ drop at (take (at + n) all)) (sym (take-take at (at + n) all (omega arith))) ∙ take-append-drop at (take (at + n) all)

-- what a page is
pub record IsPage (h : List Entry) (first total : ℕ) (rows : List HistoryNode) : Type 0 where
  pub total_is : total ≡ length (tests_of h)
  pub rows_are : rows ≡ map test_row (take 1024 (drop first (tests_of h)))

pub page_is : (h : List Entry) (first total : ℕ) (rows : List HistoryNode) → Reads (tests_at h first) (answers.TestRows total rows) → IsPage h first total rows
page_is h first total rows r = elim r [ inl e ↦ record { total_is = cc e; rows_are = cc e } | inr e ↦ absurd (cc e) ]

module _ (h : List Entry) (first total : ℕ) (rows before after : List HistoryNode) (page : IsPage h first total rows) where
  pub page_more : before ≡ map test_row (take first (tests_of h)) → after ≡ before ++ rows → after ≡ map test_row (take (first + 1024) (tests_of h))
  page_more b a =
      let all = tests_of h in
      a ∙ ap (λ (rs : List HistoryNode). rs ++ rows) b ∙ ap (λ (rs : List HistoryNode). map test_row (take first all) ++ rs) page.rows_are
      ∙ sym (map-append test_row (take first all) (take 1024 (drop first all))) ∙ ap (map test_row) (take_more_of first 1024 all)

  pub last_page : before ≡ map test_row (take first (tests_of h)) → after ≡ before ++ rows → total ≤ first + 1024 → after ≡ map test_row (tests_of h)
  last_page b a le = let t = page.total_is in page_more b a ∙ ap (map test_row) (take_all (first + 1024) (tests_of h) (omega (arith, le, t)))
