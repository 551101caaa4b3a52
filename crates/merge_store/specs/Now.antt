-- What a store's entries make of its nodes, its counts and what is out.
use Rattle.std.specs.Prelude.{ℕ, List, Bool}
use Rattle.ucis_model.specs.declared.node.Node.{Node}
use Rattle.cov_history.specs.History.{count_of, out_of}
use Rattle.cov_history.specs.Answers.{nodes_at, excluded_at}
use Rattle.merge_store.specs.declared.store.Store.{Store}
use Rattle.merge_store.specs.Stores.{opening_of, entries_of}

-- the nodes of the design of now
abbrev pub nodes_now : Store → List Node
nodes_now s = nodes_at (opening_of s) (entries_of s)

abbrev pub outs_now : Store → List (List ℕ)
outs_now s = out_of (entries_of s)

-- whether a node or one above it is out
abbrev pub excluded_now : Store → ℕ → Bool
excluded_now s = excluded_at (opening_of s) (entries_of s)

abbrev pub count_now : Store → ℕ → ℕ
count_now s bin = count_of (opening_of s) (entries_of s) bin
