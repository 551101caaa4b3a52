-- Calls that are made again.
use Rattle.std.proofs.Common.{◌≡◌, ◌≤◌, ℕ, ◌+◌, suc, subst, arith, inl, inr, refl}
use Rattle.std.specs.Prelude.{Result, Err, IfErr, ◌^◌, ◌-◌}
use Rattle.std.specs.declared.io.Error.{Error}
use Rattle.cov_net.specs.Calls.{Answers, Passes, Repeats, most_calls}

module _ {S T : Type 0} (passed : Error → Type 0) (call : S → Result T Error → S → Type 0) where
  -- one call more is passed over
  pub passed_more : (n : ℕ) (before s after : S) (e : Error) → Repeats (Passes {T = T} passed call) n before s → passed e → call s (Err e) after → Repeats (Passes {T = T} passed call) (n + 1) before after
  passed_more n before s after e h p c =
      let is : suc n ≡ n + 1 = omega arith in
      subst (λ (k : ℕ). Repeats (Passes {T = T} passed call) k before after) is (s, h, (e, p, c))

  -- the first that isn't
  pub first : (n : ℕ) (before s after : S) (answer : Result T Error) → Repeats (Passes {T = T} passed call) n before s → call s answer after → IfErr answer (λ e. passed e → ⊥) → Answers passed call before answer after
  first n before s after answer h c k = inl (record { calls = n; last = s; passes = h; answered = c; kept = k })

  -- none that isn't
  pub tired : (n : ℕ) (before after : S) (e : Error) → n ≡ most_calls → Repeats (Passes {T = T} passed call) n before after → Answers passed call before (Err e) after
  tired n before after e is h = inr (subst (λ (k : ℕ). Repeats (Passes {T = T} passed call) k before after) is h, refl)
