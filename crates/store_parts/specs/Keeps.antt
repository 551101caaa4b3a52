-- What a store keeps beside its entries, in terms of them.
use Rattle.std.specs.Prelude.{◌≡◌, ℕ, ◌≤◌, List, length, map, find, count_by, slice_index, slice_index_or, Option, None, Bool, true, false, ◌==◌, nat_lt, bytes_eq}
use Rattle.std.specs.Option.{option_map_or}
use Rattle.tally.specs.Rows.{rows_from}
use Rattle.design_data.specs.declared.design.Design.{Design}
use Rattle.ucis_model.specs.declared.node.Node.{Node}
use Rattle.ucis_model.specs.declared.answers.Which.{Which}
use Rattle.ucis_model.specs.declared.answers.Which.TheVariants.{Bytes, Entries}
use Rattle.ucis_model.specs.Nodes.{nodes_of}
use Rattle.ucis_model.specs.Paths.{find_in}
use Rattle.cov_history.specs.declared.entry.Entry.{Entry}
use Rattle.cov_history.specs.declared.entry.Event.{Event}
use Rattle.cov_history.specs.Tallies.{tally}
use Rattle.cov_history.specs.History.{Test, design_of, tests_of, count_of, out_of, amount, most, is_legal, has_stop, is_revise}
use Rattle.cov_history.specs.Answers.{stands_since}
use Rattle.store_core.specs.Histories.{AreDeclared}

-- the path finds this node
abbrev pub finds : List Node → (n : ℕ) → (path : List ℕ) → Bool
finds nodes n path = option_map_or (λ m. m == n) (find_in nodes path) false

-- the first of these paths that finds the node
abbrev pub path_at : List Node → (paths : List (List ℕ)) → (n : ℕ) → Option (List ℕ)
path_at nodes paths n = find (finds nodes n) paths

-- each path at the node that it finds, and how many paths they are
pub record HasOut (nodes : List Node) (paths : List (List ℕ)) (out : List (Option (List ℕ))) (outs : ℕ) : Type 0 where
  pub same_len : length out ≡ length nodes
  pub at : (n : ℕ) → slice_index_or out n None ≡ path_at nodes paths n
  pub each_once : (path : List ℕ) → count_by (λ p. bytes_eq p path) paths ≤ 1
  pub count : outs ≡ length paths

-- the counts of all bins
pub record HasSums (opening : Design) (h : List Entry) (counts : List ℕ) : Type 0 where
  pub same_len : length counts ≡ (design_of opening h).bin_count
  pub at : (bin : ℕ) → slice_index counts bin ≡ count_of opening h bin

-- one more than the place of the last entry of this kind, or 0
abbrev pub IsLast : (Event → Bool) → List Entry → ℕ → Type 0
IsLast test h last = (since : ℕ) → stands_since test h since ≡ nat_lt since last

-- the rows of a test's tally
abbrev pub rows_of : Design → Test → List (ℕ × ℕ)
rows_of d t = rows_from 0 (tally d t.content)

pub record Keeps (opening design : Design) (nodes : List Node) (h : List Entry) (tests : List (List ℕ × Test)) (tallies : List (List (ℕ × ℕ))) (counts : List ℕ) (out : List (Option (List ℕ))) (outs bytes entries revised : ℕ) : Type 0 where
  pub legal : is_legal opening h ≡ true
  pub declared : AreDeclared h
  pub going : has_stop h ≡ false
  pub design_is : design ≡ design_of opening h
  pub nodes_are : nodes ≡ nodes_of (design_of opening h)
  pub tests_are : tests ≡ map (λ t. (t.content.id, t)) (tests_of h)
  pub tallies_are : tallies ≡ map (rows_of (design_of opening h)) (tests_of h)
  pub within : (which : Which) → amount opening h which ≤ most which
  pub sums : HasSums opening h counts
  pub outs_are : HasOut nodes (out_of h) out outs
  pub bytes_are : bytes ≡ amount opening h Bytes
  pub entries_are : entries ≡ amount opening h Entries
  pub revised_is : IsLast is_revise h revised
