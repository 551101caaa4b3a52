-- Fields of one kind, one after the other.
use Rattle.std.proofs.Common.{◌≡◌, ℕ, zero, suc, List, [], ◌∷◌, ◌++◌, length, Ok, refl, ap, subst, ◌∙◌, append_assoc}
use Rattle.std.specs.List.{flat_map, AllByRecursion}
use Rattle.std.proofs.lemmas.List.Concat.{flat_map-cons}
use Rattle.record_codec.specs.Reading.{Reader, counted}
use Rattle.record_codec.proofs.Readers.{IsBytes, bind_ok, ok_is, Takes, Takes-then, IsField}

-- what was read is spelled so, is as many, and each is within its limits
pub record ReadAll {A : Type 0} (spelled : A → List ℕ) (Fits : A → Type 0) (count : ℕ) (bytes : List ℕ) (x : List A × List ℕ) : Type 0 where
  pub takes : Takes bytes (flat_map spelled x.0) x.1
  pub many : length x.0 ≡ count
  pub fits : AllByRecursion Fits x.0

pub counted_takes : {A : Type 0} {read : Reader A} {spelled : A → List ℕ} {Fits : A → Type 0} → IsField read spelled Fits → (count : ℕ) (bytes : List ℕ) (x : List A × List ℕ) → IsBytes bytes → counted read count bytes ≡ Ok x → ReadAll spelled Fits count bytes x
unfolding counted
counted_takes {spelled = spelled} {Fits = Fits} field zero bytes x fits e =
    subst (λ (y : List _ × List ℕ). ReadAll spelled Fits 0 bytes y) {x = ([], bytes)} (ok_is ([], bytes) x e) (record { takes = record { parts = refl; rest_fits = fits }; many = refl; fits = tt })
counted_takes {A = A} {read = read} {spelled = spelled} {Fits = Fits} field (suc n) bytes x fits e =
    let a = bind_ok (read bytes) _ x e in
    let b = bind_ok (counted read n a.0.1) _ x a.2 in
    let first = field.takes bytes a.0 fits a.1 in
    let others = counted_takes field n a.0.1 b.0 first.takes.rest_fits b.1 in
    let both : Takes bytes (spelled a.0.0 ++ flat_map spelled b.0.0) b.0.1 = Takes-then first.takes others.takes in
    let made : List A × List ℕ = (a.0.0 ∷ b.0.0, b.0.1) in
    let all : ReadAll spelled Fits (suc n) bytes made = record { takes = rw flat_map-cons both; many = ap suc others.many; fits = (first.fits, others.fits) } in
    subst (λ (y : List A × List ℕ). ReadAll spelled Fits (suc n) bytes y) {x = made} (ok_is made x b.2) all

pub counted_again : {A : Type 0} {read : Reader A} {spelled : A → List ℕ} {Fits : A → Type 0} → IsField read spelled Fits → (xs : List A) (rest : List ℕ) → AllByRecursion Fits xs → counted read (length xs) (flat_map spelled xs ++ rest) ≡ Ok (xs, rest)
unfolding counted
counted_again field [] rest fits = refl
counted_again {read = read} {spelled = spelled} field (x ∷ xs) rest fits =
    let regrouped : flat_map spelled (x ∷ xs) ++ rest ≡ spelled x ++ (flat_map spelled xs ++ rest) = ap (λ (bytes : List ℕ). bytes ++ rest) (flat_map-cons spelled x xs) ∙ append_assoc (spelled x) (flat_map spelled xs) rest in
    ap (counted read (suc (length xs))) regrouped ∙ rw (field.again x (flat_map spelled xs ++ rest) fits.0, counted_again field xs rest fits.1) refl
