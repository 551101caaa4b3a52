-- What a filter keeps of numbers, one after the other.
use Rattle.std.proofs.Common.{◌≡◌, ◌∙◌, refl, ap, sym, subst, ℕ, ◌+◌, ℤ, pos, ◌+ℤ◌, List, [], ◌∷◌, ◌++◌, ◌<◌, ◌≤◌, length, take, take_all, get_or, append_assoc, filter, arith, Bool, true, false, cond}
use Rattle.std.specs.List.{items_where_true}
use Rattle.std.proofs.lemmas.List.{append-nil, take_more}
use Rattle.std.proofs.lemmas.Int.{ints}
use Rattle.cov_base.specs.Sets.{count_from, size, span, written}
use Rattle.value_bins.proofs.Written.{written-one, span_of, span_at, count_from-last}
use Rattle.value_bins.specs.Listed.{AnswersEach, Keeps}

answers-append : (Gives : ℤ → Bool → Type 0) (xs ys : List ℤ) (bs cs : List Bool) → AnswersEach Gives xs bs → AnswersEach Gives ys cs → AnswersEach Gives (xs ++ ys) (bs ++ cs)
answers-append Gives [] ys [] cs a b = b
answers-append Gives [] ys (x ∷ bs) cs a b = absurd a
answers-append Gives (x ∷ xs) ys [] cs a b = absurd a
answers-append Gives (x ∷ xs) ys (y ∷ bs) cs a b = (a.0, answers-append Gives xs ys bs cs a.1 b)

items-append : (Gives : ℤ → Bool → Type 0) (xs ys : List ℤ) (bs cs : List Bool) → AnswersEach Gives xs bs → items_where_true (bs ++ cs) (xs ++ ys) ≡ items_where_true bs xs ++ items_where_true cs ys
items-append Gives [] ys [] cs a = refl
items-append Gives [] ys (x ∷ bs) cs a = absurd a
items-append Gives (x ∷ xs) ys [] cs a = absurd a
items-append Gives (x ∷ xs) ys (true ∷ bs) cs a = ap (λ (zs : List ℤ). x ∷ zs) (items-append Gives xs ys bs cs a.1)
items-append Gives (x ∷ xs) ys (false ∷ bs) cs a = items-append Gives xs ys bs cs a.1

-- nothing is asked
pub keeps_none : (Gives : ℤ → Bool → Type 0) (old new : List ℤ) → new ≡ old → Keeps Gives [] old new
keeps_none Gives old new e = record { answers = []; asked = tt; kept = e ∙ sym (append-nil old) }

-- further numbers
pub keeps_more : (Gives : ℤ → Bool → Type 0) (xs ys zs : List ℤ) (old middle new : List ℤ) → zs ≡ xs ++ ys → Keeps Gives xs old middle → Keeps Gives ys middle new → Keeps Gives zs old new
keeps_more Gives xs ys zs old middle new e one two = subst (λ (ws : List ℤ). Keeps Gives ws old new) (sym e) (record {
  answers = one.answers ++ two.answers;
  asked = answers-append Gives xs ys one.answers two.answers one.asked two.asked;
  kept = two.kept ∙ (ap (λ (ws : List ℤ). ws ++ items_where_true two.answers ys) one.kept ∙ (append_assoc old (items_where_true one.answers xs) (items_where_true two.answers ys) ∙ ap (λ (ws : List ℤ). old ++ ws) (sym (items-append Gives xs ys one.answers two.answers one.asked))));
})

-- one number
pub keeps_one : (Gives : ℤ → Bool → Type 0) (x : ℤ) (old new : List ℤ) → ((answer : Bool) × Gives x answer × (new ≡ old ++ items_where_true (answer ∷ []) (x ∷ []))) → Keeps Gives (x ∷ []) old new
keeps_one Gives x old new k = record { answers = k.0 ∷ []; asked = (k.1, tt); kept = k.2 }

items-test : (Gives : ℤ → Bool → Type 0) (test : ℤ → Bool) → ((v : ℤ) (b : Bool) → Gives v b → b ≡ test v) → (xs : List ℤ) (bs : List Bool) → AnswersEach Gives xs bs → items_where_true bs xs ≡ filter test xs
items-test Gives test same [] [] a = refl
items-test Gives test same [] (b ∷ bs) a = absurd a
items-test Gives test same (x ∷ xs) [] a = absurd a
items-test Gives test same (x ∷ xs) (true ∷ bs) a = ap (λ (zs : List ℤ). x ∷ zs) (items-test Gives test same xs bs a.1) ∙ ap (λ (t : Bool). cond t (x ∷ filter test xs) (filter test xs)) (same x true a.0)
items-test Gives test same (x ∷ xs) (false ∷ bs) a = items-test Gives test same xs bs a.1 ∙ ap (λ (t : Bool). cond t (x ∷ filter test xs) (filter test xs)) (same x false a.0)

-- where the filter is a test, what is kept is what passes it
pub keeps_what_passes : (Gives : ℤ → Bool → Type 0) (test : ℤ → Bool) (xs new : List ℤ) → Keeps Gives xs [] new → ((v : ℤ) (b : Bool) → Gives v b → b ≡ test v) → new ≡ filter test xs
keeps_what_passes Gives test xs new k same = k.kept ∙ items-test Gives test same xs k.answers k.asked

-- a number that is kept, as a range
pub kept_one : (old new : List (ℤ × ℤ)) (v : ℤ) → new ≡ old ++ (v, v) ∷ [] → written new ≡ written old ++ v ∷ []
kept_one old new v added = ap written added ∙ (written-one old (v, v) ∙ ap (λ (xs : List ℤ). written old ++ xs) (span_of v 1 (v, v) refl (omega (arith, ints))))

pub keeps_next : (Gives : ℤ → Bool → Type 0) (low : ℤ) (offset : ℕ) (v : ℤ) (old middle new : List ℤ) → v ≡ low +ℤ pos offset → Keeps Gives (count_from low offset) old middle
    → ((answer : Bool) × Gives v answer × (new ≡ middle ++ items_where_true (answer ∷ []) (v ∷ []))) → Keeps Gives (count_from low (offset + 1)) old new
keeps_next Gives low offset v old middle new is was one =
    keeps_more Gives (count_from low offset) (v ∷ []) (count_from low (offset + 1)) old middle new (count_from-last low offset ∙ ap (λ (x : ℤ). count_from low offset ++ x ∷ []) (sym is)) was (keeps_one Gives v middle new one)

pub keeps_span : (Gives : ℤ → Bool → Type 0) (low high : ℤ) (offset end : ℕ) (old new : List ℤ) → end ≡ size (low, high) → end ≤ offset → offset ≤ end → Keeps Gives (count_from low offset) old new → Keeps Gives (span (low, high)) old new
keeps_span Gives low high offset end old new is past within k = subst (λ (xs : List ℤ). Keeps Gives xs old new) (sym (span_at low high offset end is past within)) k

-- ---- ranges, one after the other

pub keeps_start : (Gives : ℤ → Bool → Type 0) (kept : List (ℤ × ℤ)) → kept ≡ [] → Keeps Gives (written []) [] (written kept)
unfolding written
keeps_start Gives kept none = keeps_none Gives [] (written kept) (ap written none)

pub keeps_range : (Gives : ℤ → Bool → Type 0) (ranges : List (ℤ × ℤ)) (i : ℕ) (range : ℤ × ℤ) (old middle new : List ℤ) → i < length ranges → range ≡ get_or ranges i range
    → Keeps Gives (written (take i ranges)) old middle → Keeps Gives (span range) middle new → Keeps Gives (written (take (i + 1) ranges)) old new
keeps_range Gives ranges i range old middle new lt is one two =
    keeps_more Gives (written (take i ranges)) (span range) (written (take (i + 1) ranges)) old middle new
    (ap written (take_more ranges i range lt) ∙ (written-one (take i ranges) (get_or ranges i range) ∙ ap (λ (r : ℤ × ℤ). written (take i ranges) ++ span r) (sym is))) one two

pub keeps_all : (Gives : ℤ → Bool → Type 0) (whole ranges : List (ℤ × ℤ)) (i : ℕ) (old new : List ℤ) → ranges ≡ whole → length ranges ≤ i → Keeps Gives (written (take i ranges)) old new → Keeps Gives (written whole) old new
keeps_all Gives whole ranges i old new same past k = subst (λ (xs : List (ℤ × ℤ)). Keeps Gives (written xs) old new) (take_all i ranges past ∙ same) k
