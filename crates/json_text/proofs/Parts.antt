-- The tokens of a whole are those of its parts, between brackets.
use Rattle.std.proofs.Common.{◌≡◌, ℕ, ◌≤◌, Bool, true, false, List, [], ◌∷◌, ◌++◌, length, take, filter, refl, sym, ◌∙◌, ap, append_assoc, append-nil, if◌then◌else◌}
use Rattle.std.proofs.lemmas.Grind.{flat_map-append}
use Rattle.std.specs.List.{flat_map}
use Rattle.std.proofs.lemmas.List.{take_all}
use Rattle.json.specs.Token as token
use Rattle.json.specs.Token.{Token}
use Rattle.json.specs.Json.{Json}
use Rattle.json.specs.Tree.{json_tokens, items_tokens, members_tokens}
use Rattle.json_text.specs.Values.{Member, items_of, array_of, members_of, object_of, member_tokens, all_member_tokens, all_tokens}

members_are : (ms : List Member) → members_tokens (members_of ms) ≡ all_member_tokens ms ++ token.end_object ∷ []
unfolding member_tokens
members_are [] = refl
members_are (m ∷ ms) =
    ap (λ (ts : List Token). token.key m.0 ∷ (json_tokens m.1 ++ ts)) (members_are ms) ∙ sym (append_assoc (member_tokens m) (all_member_tokens ms) (token.end_object ∷ []))

pub object_tokens : (ms : List Member) → json_tokens (object_of ms) ≡ token.begin_object ∷ (all_member_tokens ms ++ token.end_object ∷ [])
unfolding object_of
object_tokens ms = ap (λ (ts : List Token). token.begin_object ∷ ts) (members_are ms)

items_are : {A : Type 0} (value : A → Json) (xs : List A) → items_tokens (items_of value xs) ≡ all_tokens value xs ++ token.end_array ∷ []
items_are value [] = refl
items_are value (x ∷ xs) =
    ap (λ (ts : List Token). json_tokens (value x) ++ ts) (items_are value xs) ∙ sym (append_assoc (json_tokens (value x)) (all_tokens value xs) (token.end_array ∷ []))

pub array_tokens : {A : Type 0} (value : A → Json) (xs : List A) → json_tokens (array_of value xs) ≡ token.begin_array ∷ (all_tokens value xs ++ token.end_array ∷ [])
unfolding array_of
array_tokens value xs = ap (λ (ts : List Token). token.begin_array ∷ ts) (items_are value xs)

array_around : {A : Type 0} (value : A → Json) (xs : List A) (old : List Token) → ((old ++ token.begin_array ∷ []) ++ all_tokens value xs) ++ token.end_array ∷ [] ≡ old ++ json_tokens (array_of value xs)
array_around value xs old =
    append_assoc (old ++ token.begin_array ∷ []) (all_tokens value xs) (token.end_array ∷ [])
    ∙ append_assoc old (token.begin_array ∷ []) (all_tokens value xs ++ token.end_array ∷ [])
    ∙ ap (λ (ts : List Token). old ++ ts) (sym (array_tokens value xs))

-- an array of which the beginning, the elements and the end were written
module _ {A : Type 0} (value : A → Json) (xs : List A) (old begun written ended : List Token) where
  pub array_whole : begun ≡ old ++ token.begin_array ∷ [] → written ≡ begun ++ all_tokens value xs → ended ≡ written ++ token.end_array ∷ [] → ended ≡ old ++ json_tokens (array_of value xs)
  array_whole first inside last =
      last ∙ ap (λ (ts : List Token). ts ++ token.end_array ∷ []) (inside ∙ ap (λ (ts : List Token). ts ++ all_tokens value xs) first) ∙ array_around value xs old

  -- the same, where so many of them were written, and there are no more
  pub array_written : (n : ℕ) → length xs ≤ n → begun ≡ old ++ token.begin_array ∷ [] → written ≡ begun ++ all_tokens value (take n xs) → ended ≡ written ++ token.end_array ∷ [] → ended ≡ old ++ json_tokens (array_of value xs)
  array_written n all first inside last = array_whole first (inside ∙ ap (λ (ys : List A). begun ++ all_tokens value ys) (take_all n xs all)) last

-- elements that are chosen as they are written
module _ {A : Type 0} (value : A → Json) (is_chosen : A → Bool) where
  abbrev pub tokens_if : A → List Token
  tokens_if x = if is_chosen x then json_tokens (value x) else []

  one_chosen : (b : Bool) (x : A) (before : List Token) (rest : List A) → before ≡ all_tokens value rest → (if b then json_tokens (value x) else []) ++ before ≡ all_tokens value (if b then x ∷ rest else rest)
  one_chosen true x before rest e = ap (λ (ts : List Token). json_tokens (value x) ++ ts) e
  one_chosen false x before rest e = e

  pub chosen_tokens : (xs : List A) → flat_map tokens_if xs ≡ all_tokens value (filter is_chosen xs)
  chosen_tokens [] = refl
  chosen_tokens (x ∷ xs) = one_chosen (is_chosen x) x (flat_map tokens_if xs) (filter is_chosen xs) (chosen_tokens xs)

-- members that were written behind others
pub more_members : (ms ns : List Member) (begun written ended : List Token) → written ≡ begun ++ all_member_tokens ms → ended ≡ written ++ all_member_tokens ns → ended ≡ begun ++ all_member_tokens (ms ++ ns)
more_members ms ns begun written ended first last =
    last ∙ ap (λ (ts : List Token). ts ++ all_member_tokens ns) first ∙ append_assoc begun (all_member_tokens ms) (all_member_tokens ns)
    ∙ ap (λ (ts : List Token). begun ++ ts) (sym (flat_map-append member_tokens ms ns))

-- a member whose name and value were written
pub member_written : (m : Member) (begun named ended : List Token) → named ≡ begun ++ token.key m.0 ∷ [] → ended ≡ named ++ json_tokens m.1 → ended ≡ begun ++ all_member_tokens (m ∷ [])
unfolding member_tokens
member_written m begun named ended first last =
    last ∙ ap (λ (ts : List Token). ts ++ json_tokens m.1) first ∙ append_assoc begun (token.key m.0 ∷ []) (json_tokens m.1)
    ∙ ap (λ (ts : List Token). begun ++ ts) (sym (append-nil (token.key m.0 ∷ json_tokens m.1)))

-- members, and one more behind them whose name and value were written
pub last_member : (ms : List Member) (m : Member) (begun written named ended : List Token) → written ≡ begun ++ all_member_tokens ms → named ≡ written ++ token.key m.0 ∷ [] → ended ≡ named ++ json_tokens m.1
    → ended ≡ begun ++ all_member_tokens (ms ++ m ∷ [])
last_member ms m begun written named ended first name value = more_members ms (m ∷ []) begun written ended first (member_written m written named ended name value)

-- an object of which the beginning, the members and the end were written
pub object_written : (ms : List Member) (old begun written ended : List Token) → begun ≡ old ++ token.begin_object ∷ [] → written ≡ begun ++ all_member_tokens ms → ended ≡ written ++ token.end_object ∷ [] → ended ≡ old ++ json_tokens (object_of ms)
object_written ms old begun written ended first inside last =
    last ∙ ap (λ (ts : List Token). ts ++ token.end_object ∷ []) (inside ∙ ap (λ (ts : List Token). ts ++ all_member_tokens ms) first)
    ∙ append_assoc (old ++ token.begin_object ∷ []) (all_member_tokens ms) (token.end_object ∷ []) ∙ append_assoc old (token.begin_object ∷ []) (all_member_tokens ms ++ token.end_object ∷ [])
    ∙ ap (λ (ts : List Token). old ++ ts) (sym (object_tokens ms))
