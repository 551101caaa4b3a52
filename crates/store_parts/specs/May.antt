-- Changes that nothing stands against but want of memory.
use Rattle.std.specs.Prelude.{◌≡◌, ℕ, ◌+◌, ◌≤◌, List, [], ◌∷◌, ◌++◌, Some, None, true, false}
use Rattle.design_data.specs.declared.design.Design.{Design}
use Rattle.record_codec.specs.declared.record.Record.{Record}
use Rattle.ucis_model.specs.declared.answers.Which.TheVariants.{History}
use Rattle.ucis_model.specs.Paths.{find_in}
use Rattle.cov_history.specs.declared.entry.Entry.{Entry}
use Rattle.cov_history.specs.declared.entry.Event.TheVariants as event
use Rattle.cov_history.specs.Tables.{fits}
use Rattle.cov_history.specs.History.{design_of, kept, has, out_of, amount, most}
use Rattle.cov_history.specs.Answers.{nodes_at, by, admit_at}
use Rattle.ucis_model.specs.declared.answers.Answer.TheVariants as answer
use Rattle.store_parts.specs.declared.judged.Judged.{Judged}
use Rattle.store_parts.specs.declared.judged.Judged.TheVariants as judged
use Rattle.store_parts.specs.Told.{refused}
use Rattle.cov_history.specs.Amounts.{Amounts, AreAmounts, first_passed}

-- the path finds this node, isn't out, and there is room for it
pub record MayExclude (opening : Design) (h : List Entry) (path : List ℕ) (n : ℕ) : Type 0 where
  pub found : find_in (nodes_at opening h) path ≡ Some n
  pub free : has path (out_of h) ≡ false
  pub room : amount opening h History + 2 ≤ most History

-- the id is new, the record was prepared under the design of now and fits it, and these amounts afterwards pass no limit
pub record MayAdmit (opening : Design) (h : List Entry) (r : Record) (under : Design) (after : Amounts) : Type 0 where
  pub is_new : kept h r.id ≡ None
  pub same : under ≡ design_of opening h
  pub fit : fits (design_of opening h) r ≡ true
  pub amounts : (caller : ℕ) → AreAmounts opening (h ++ by caller (event.Admit r) ∷ []) after
  pub room : first_passed after ≡ None

-- what becomes of the record is what is answered, whoever asks
abbrev pub IsJudged : (opening : Design) → List Entry → (since : ℕ) → Record → (under : Design) → Judged → Type 0
IsJudged opening h since r under (judged.Here point) = (caller : ℕ) → admit_at opening h since (by caller (event.Admit r)) r ≡ answer.Here point
IsJudged opening h since r under (judged.Refused fault) = (caller : ℕ) → admit_at opening h since (by caller (event.Admit r)) r ≡ refused fault
IsJudged opening h since r under (judged.May after) =
    MayAdmit opening h r under after × ((caller : ℕ) → admit_at opening h since (by caller (event.Admit r)) r ≡ answer.New)
