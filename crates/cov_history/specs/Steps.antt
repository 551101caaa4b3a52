-- What one more entry does to each word of a history.
use Rattle.std.specs.Prelude.{◌≡◌, ℕ, ◌+◌, List, [], ◌∷◌, ◌++◌, length, sum_by, count_by, Bool, not, ◌&&◌, ◌||◌, cond, nat_le}
use Rattle.design_data.specs.declared.design.Design.{Design}
use Rattle.record_codec.specs.declared.record.Record.{Record}
use Rattle.ucis_model.specs.declared.answers.Which.TheVariants.{Tests, Bytes, Entries, History}
use Rattle.cov_history.specs.declared.entry.Event.{Event}
use Rattle.cov_history.specs.declared.entry.Event.TheVariants.{Admit}
use Rattle.cov_history.specs.declared.entry.Entry.{Entry}
use Rattle.cov_history.specs.History.{design_of, design_after, tests_of, tests_in, contents, hits_of, count_of, out_of, out_after, is_stop, has_stop, bytes_in, bins_hit, amount, may_follow, is_legal}
use Rattle.cov_history.specs.Answers.{stands_since}

-- the records that a change admits
abbrev pub admitted : Event → List Record
admitted (Admit r) = r ∷ []
admitted other = []

-- one entry more, and the paths that are out after it
abbrev pub history_after : (opening : Design) → List Entry → Entry → ℕ
history_after opening h e = (count_by (λ x. not (is_stop x.event)) h + cond (is_stop e.event) 0 1) + length (out_after (out_of h) e.event)

-- The words of the history with one more entry, by those of the history.
pub record Adds (opening : Design) (h : List Entry) (e : Entry) : Type 0 where
  pub point : length (h ++ e ∷ []) ≡ length h + 1
  pub design : design_of opening (h ++ e ∷ []) ≡ design_after (design_of opening h) e.event
  pub tests : tests_of (h ++ e ∷ []) ≡ tests_of h ++ tests_in (length h + 1) e.event
  pub records : contents (h ++ e ∷ []) ≡ contents h ++ admitted e.event
  pub out : out_of (h ++ e ∷ []) ≡ out_after (out_of h) e.event
  -- the counts of all records, and of the one admitted
  pub counts : (bin : ℕ) → count_of opening (h ++ e ∷ []) bin
      ≡ hits_of (design_after (design_of opening h) e.event) (contents h) bin + hits_of (design_after (design_of opening h) e.event) (admitted e.event) bin
  pub test_amount : amount opening (h ++ e ∷ []) Tests ≡ amount opening h Tests + length (admitted e.event)
  pub byte_amount : amount opening (h ++ e ∷ []) Bytes ≡ amount opening h Bytes + bytes_in e.event
  pub entry_amount : amount opening (h ++ e ∷ []) Entries
      ≡ sum_by (bins_hit (design_after (design_of opening h) e.event)) (contents h) + sum_by (bins_hit (design_after (design_of opening h) e.event)) (admitted e.event)
  pub history_amount : amount opening (h ++ e ∷ []) History ≡ history_after opening h e
  pub stops : has_stop (h ++ e ∷ []) ≡ (has_stop h || is_stop e.event)
  pub legal : is_legal opening (h ++ e ∷ []) ≡ (is_legal opening h && may_follow opening h e)
  pub since : (test : Event → Bool) (since : ℕ) → stands_since test (h ++ e ∷ []) since ≡ (stands_since test h since || (nat_le since (length h) && test e.event))

abbrev pub OneMoreEntry : Type 0
OneMoreEntry = (opening : Design) (h : List Entry) (e : Entry) → Adds opening h e
