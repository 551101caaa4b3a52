-- One call more.
use Rattle.std.proofs.Common.{◌≡◌, inl, inr, ⊎_elim, ℕ, List, [], ◌∷◌, ◌++◌, length, map, sym, ◌∙◌, ap, subst, arith}
use Rattle.std.specs.Prelude.{reverse}
use Rattle.std.proofs.lemmas.List.{map-append, reverse-append}
use Rattle.cov_disk.specs.declared.memory.Call.{Call}
use Rattle.cov_disk.specs.Files.{Elapses}
use Rattle.cov_disk.specs.Calls.{Done, Leaves, LeftSince}
use Rattle.cov_disk.specs.Noted.{done, done_of}

pub noted : (calls : List Call) (call : Call) → done_of (calls ++ call ∷ []) ≡ done call ∷ done_of calls
noted calls call = ap reverse (map-append done calls (call ∷ [])) ∙ reverse-append (map done calls) (done call ∷ [])

pub elapses_same : (first : List ℕ) (calls : List Done) → Elapses (length calls) (length calls) (LeftSince first calls) (LeftSince first calls) (Leaves first calls)
elapses_same first calls = record { later = omega arith; nothing_else = λ t c le left. inl left; keeps = λ t c le left. left }

elapses_push : (first : List ℕ) (calls : List Done) (call : Done) → Elapses (length calls) (length (call ∷ calls)) (LeftSince first calls) (LeftSince first (call ∷ calls)) (Leaves first (call ∷ calls))
elapses_push first calls call = record {
  later = omega arith;
  nothing_else = λ t c le left. ⊎_elim (λ now. inr now) (λ past. inl past.1) left;
  keeps = λ t c le left. inr (le, left);
}

pub elapses_to : (first : List ℕ) (calls later : List Done) (call : Done) → later ≡ call ∷ calls → Elapses (length calls) (length later) (LeftSince first calls) (LeftSince first later) (Leaves first later)
elapses_to first calls later call is = subst (λ (l : List Done). Elapses (length calls) (length l) (LeftSince first calls) (LeftSince first l) (Leaves first l)) (sym is) (elapses_push first calls call)
