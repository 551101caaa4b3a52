-- What is collected where each item answers Ok.
use Rattle.std.proofs.Common.{◌≡◌, List, [], ◌∷◌, ◌∙◌, Vec, Global}
use Rattle.std.specs.Prelude.{IfOk, Ok, Err, Result, MatchResult, map}
use Rattle.std.specs.List.{AllZip, Contains}
use Rattle.std.proofs.lemmas.Slice.Zip.{AllZip-map}

each_ok : {X Y : Type 0} (E : Type 0) (f : X → Y) (xs : List X) (ys : List Y) → AllZip (λ x (r : Result Y E). IfOk r (λ y. y ≡ f x)) xs (map Ok ys) → AllZip (λ x y. y ≡ f x) xs ys
each_ok E f [] [] h = tt
each_ok E f [] (y ∷ ys) h = absurd h
each_ok E f (x ∷ xs) [] h = absurd h
each_ok E f (x ∷ xs) (y ∷ ys) h = (h.0, each_ok E f xs ys h.1)

pub all_ok : {X Y E : Type 0} (f : X → Y) (xs : List X) (results : List (Result Y E)) (whole : Result (Vec Y Global) E) → AllZip (λ x (r : Result Y E). IfOk r (λ y. y ≡ f x)) xs results
    → MatchResult whole (λ v. (ys : List Y) × (results ≡ map Ok ys) × (v.items ≡ ys)) (λ e. Contains results (Err e)) → IfOk whole (λ v. v.items ≡ map f xs)
all_ok {E = E} f xs results (Ok v) each m = m.2 ∙ AllZip-map f xs m.0 (each_ok E f xs m.0 (rw m.1 at each))
all_ok f xs results (Err e) each m = tt
