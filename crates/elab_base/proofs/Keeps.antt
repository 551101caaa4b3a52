-- What each step keeps, the whole walk keeps.
use Rattle.std.proofs.Common.{◌≡◌, ℕ, ◌+◌, List, [], ◌∷◌, ◌++◌, Bool, true, false, refl, subst, Result, Ok, Err}
use Rattle.std.specs.Prelude.{◌&&◌}
use Rattle.std.specs.List.{AllByRecursion}
use Rattle.elab_base.specs.declared.fault.ElabKind.{ElabKind}
use Rattle.elab_base.specs.Gives.{Refusal, ◌>>=◌, needs, each_at}

pub bind_ok : {A B : Type 0} (r : Result A Refusal) (f : A → Result B Refusal) (y : B) → (r >>= f) ≡ Ok y → (x : A) × (r ≡ Ok x) × (f x ≡ Ok y)
bind_ok (Ok x) f y e = (x, refl, e)
bind_ok (Err d) f y e = absurd cc

abbrev done : {A : Type 0} → A → Result A Refusal
done x = Ok x

pub ok_is : {A : Type 0} (x y : A) → done x ≡ done y → x ≡ y
ok_is x y e = cc

pub each_keeps : {A S : Type 0} (step : ℕ → A → S → Result S Refusal) (P : S → Type 0) → ((k : ℕ) (x : A) (s t : S) → step k x s ≡ Ok t → P s → P t)
    → (k : ℕ) (xs : List A) (s t : S) → each_at step k xs s ≡ Ok t → P s → P t
unfolding each_at
each_keeps step P keeps k [] s t e p = subst P (ok_is s t e) p
each_keeps step P keeps k (x ∷ xs) s t e p =
    let b = bind_ok (step k x s) (each_at step (k + 1) xs) t e in
    each_keeps step P keeps (k + 1) xs b.0 t b.2 (keeps k x s b.0 b.1 p)

-- what was needed holds
pub needs_ok : (holds : Bool) (kind : ElabKind) (at : ℕ) (x : Unit {0}) → needs holds kind at ≡ Ok x → holds ≡ true
unfolding needs
needs_ok true kind at x e = refl
needs_ok false kind at x e = absurd cc

pub and_first : (a b : Bool) → (a && b) ≡ true → a ≡ true
and_first true b e = refl
and_first false b e = absurd cc

pub and_second : (a b : Bool) → (a && b) ≡ true → b ≡ true
and_second true b e = e
and_second false b e = absurd cc

-- ---- what holds of each element

pub all_push : {X : Type 0} (P : X → Type 0) (xs : List X) (x : X) → AllByRecursion P xs → P x → AllByRecursion P (xs ++ x ∷ [])
all_push P [] x all p = (p, tt)
all_push P (y ∷ ys) x all p = (all.0, all_push P ys x all.1 p)

pub all_append : {X : Type 0} (P : X → Type 0) (xs ys : List X) → AllByRecursion P xs → AllByRecursion P ys → AllByRecursion P (xs ++ ys)
all_append P [] ys all more = more
all_append P (x ∷ xs) ys all more = (all.0, all_append P xs ys all.1 more)

pub all_as : {X : Type 0} (P Q : X → Type 0) → ((x : X) → P x → Q x) → (xs : List X) → AllByRecursion P xs → AllByRecursion Q xs
all_as P Q f [] all = tt
all_as P Q f (x ∷ xs) all = (f x all.0, all_as P Q f xs all.1)
