-- One caller's entries in a history, and those of all others.
use Rattle.std.specs.Prelude.{ℕ, suc, ◌==◌, List, [], ◌∷◌, filter, not, if◌then◌else◌}
use Rattle.cov_history.specs.declared.entry.Entry.{Entry}

-- the entries of the caller n with their places, the first of the list standing at k
abbrev pub own_from : (n k : ℕ) → List Entry → List (ℕ × Entry)
own_from n k [] = []
own_from n k (e ∷ es) = if e.caller == n then (k, e) ∷ own_from n (suc k) es else own_from n (suc k) es

-- the entries of all others
abbrev pub others : (n : ℕ) → List Entry → List Entry
others n h = filter (λ e. not (e.caller == n)) h
