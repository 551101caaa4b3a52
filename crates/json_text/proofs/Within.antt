-- How deep values are, and that their numbers are numbers.
use Rattle.std.proofs.Common.{◌≡◌, ℕ, suc, ◌≤◌, Bool, true, false, nat_le, List, [], ◌∷◌, refl, arith, decimal, if◌then◌else◌}
use Rattle.std.specs.Prelude.{⊤}
use Rattle.json.specs.Json as json
use Rattle.json.specs.Json.{Json}
use Rattle.json.specs.Tree.{items_depth, members_depth, ItemsHaveNumbers, MembersHaveNumbers}
use Rattle.json.proofs.Printed.Decimals.{IsNumber-decimal}
use Rattle.json_text.specs.Values.{text, number, truth, most_exact, Member, items_of, array_of, members_of, object_of}
use Rattle.json_text.specs.Laws.{IsWithin}

pub within_text : (most : ℕ) (bytes : List ℕ) → IsWithin most (text bytes)
within_text most bytes = record { numbers = tt; shallow = omega arith }

pub within_truth : (most : ℕ) (holds : Bool) → IsWithin most (truth holds)
within_truth most holds = record { numbers = tt; shallow = omega arith }

number_by : (most n : ℕ) (exact : Bool) → nat_le n most_exact ≡ exact → IsWithin most (if exact then json.number (decimal n) else json.string (decimal n))
number_by most n true e = record { numbers = IsNumber-decimal n (grind (arith, e)); shallow = omega arith }
number_by most n false e = record { numbers = tt; shallow = omega arith }

pub within_number : (most n : ℕ) → IsWithin most (number n)
unfolding number
within_number most n = number_by most n (nat_le n most_exact) refl

-- each of these members is within
abbrev pub AllWithin : (most : ℕ) → List Member → Type 0
AllWithin most [] = ⊤
AllWithin most (m ∷ ms) = IsWithin most m.1 × AllWithin most ms

members_numbers : (most : ℕ) (ms : List Member) → AllWithin most ms → MembersHaveNumbers (members_of ms)
members_numbers most [] h = tt
members_numbers most (m ∷ ms) h = (h.0.numbers, members_numbers most ms h.1)

members_shallow : (most : ℕ) (ms : List Member) → AllWithin most ms → members_depth (members_of ms) ≤ most
members_shallow most [] h = omega arith
members_shallow most (m ∷ ms) h = let one = h.0.shallow in let more = members_shallow most ms h.1 in omega (arith, one, more)

pub within_object : (most : ℕ) (ms : List Member) → AllWithin most ms → IsWithin (suc most) (object_of ms)
unfolding object_of
within_object most ms h = let inside = members_shallow most ms h in record { numbers = members_numbers most ms h; shallow = omega (arith, inside) }

module _ {A : Type 0} (most : ℕ) (value : A → Json) (within : (x : A) → IsWithin most (value x)) where
  items_numbers : (xs : List A) → ItemsHaveNumbers (items_of value xs)
  items_numbers [] = tt
  items_numbers (x ∷ xs) = ((within x).numbers, items_numbers xs)

  items_shallow : (xs : List A) → items_depth (items_of value xs) ≤ most
  items_shallow [] = omega arith
  items_shallow (x ∷ xs) = let one = (within x).shallow in let more = items_shallow xs in omega (arith, one, more)

  pub within_array : (xs : List A) → IsWithin (suc most) (array_of value xs)
  unfolding array_of
  within_array xs = let inside = items_shallow xs in record { numbers = items_numbers xs; shallow = omega (arith, inside) }

-- what is within a depth is within a greater one
pub within_more : (most more : ℕ) (value : Json) → most ≤ more → IsWithin most value → IsWithin more value
within_more most more value le h = let inside = h.shallow in record { numbers = h.numbers; shallow = omega (arith, le, inside) }
