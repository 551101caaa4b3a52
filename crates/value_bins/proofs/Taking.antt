-- Numbers taken off ranges, of which the first stands last.
use Rattle.std.proofs.Common.{◌≡◌, ◌∙◌, refl, ap, sym, ℕ, ◌+◌, ◌-◌, ◌*◌, ◌/◌, ◌<◌, ◌≤◌, max, map, add-one, length-drop, ℤ, pos, ◌+ℤ◌, List, [], ◌∷◌, ◌++◌, length, take, drop, reverse, append_assoc, take_all, arith, Bool}
use Rattle.std.proofs.lemmas.Int.{ints}
use Rattle.std.proofs.lemmas.List.{reverse-append, append-nil, drop_all, drop-drop}
use Rattle.std.proofs.Math.Nat.{suc-mul}
use Rattle.std.specs.Prelude.{◌||◌}
use Rattle.std.specs.List.{list_any, flat_map}
use Rattle.cov_base.specs.Sets.{count_from, size, span, written, set_of, is_in}
use Rattle.cov_base.proofs.Members.{is_in-append}
use Rattle.cov_base.proofs.Runs.{set_of_numbers}
use Rattle.value_bins.specs.Listed.{spread_sets, HaveTogether}
use Rattle.bin_spec.specs.Parts.{part, parts, places, share}
use Rattle.bin_spec.proofs.Spreads.{part_before, part_end, next_part, all_parts, parts_together}
use Rattle.value_bins.proofs.Written.{written-one, written-nil, take_past, drop_past, take_within, drop_within, span_of}

-- what is taken and what is still missing of the first `count` numbers, and what is left behind them
pub record IsTaken (bin0 rest0 : List (ℤ × ℤ)) (count : ℕ) (bin rest : List (ℤ × ℤ)) (missing : ℕ) : Type 0 where
  pub taken : written bin ++ take missing (written (reverse rest)) ≡ written bin0 ++ take count (written (reverse rest0))
  pub left : drop missing (written (reverse rest)) ≡ drop count (written (reverse rest0))

pub reverse_last : (old new : List (ℤ × ℤ)) (r : ℤ × ℤ) → old ≡ new ++ r ∷ [] → reverse old ≡ r ∷ reverse new
reverse_last old new r e = ap reverse e ∙ reverse-append new (r ∷ [])

-- the next range whole
pub takes_whole : {bin0 rest0 : List (ℤ × ℤ)} {count : ℕ} → (bin rest bin' rest' : List (ℤ × ℤ)) (missing missing' : ℕ) (r : ℤ × ℤ) → IsTaken bin0 rest0 count bin rest missing
    → rest ≡ rest' ++ r ∷ [] → size r ≤ missing → bin' ≡ bin ++ r ∷ [] → missing' ≡ missing - size r → IsTaken bin0 rest0 count bin' rest' missing'
takes_whole bin rest bin' rest' missing missing' r was at fits added less =
    let next = reverse_last rest rest' r at in
    let front : take missing (written (reverse rest)) ≡ span r ++ take (missing - size r) (written (reverse rest')) = ap (λ (xs : List (ℤ × ℤ)). take missing (written xs)) next ∙ take_past r (reverse rest') missing fits in
    let back : drop missing (written (reverse rest)) ≡ drop (missing - size r) (written (reverse rest')) = ap (λ (xs : List (ℤ × ℤ)). drop missing (written xs)) next ∙ drop_past r (reverse rest') missing fits in
    record {
      taken = ap (λ (m : ℕ). written bin' ++ take m (written (reverse rest'))) less ∙ (ap (λ (xs : List ℤ). xs ++ take (missing - size r) (written (reverse rest'))) (ap written added ∙ written-one bin r) ∙ (append_assoc (written bin) (span r) (take (missing - size r) (written (reverse rest'))) ∙ (ap (λ (xs : List ℤ). written bin ++ xs) (sym front) ∙ was.taken)));
      left = ap (λ (m : ℕ). drop m (written (reverse rest'))) less ∙ (sym back ∙ was.left);
    }

-- the end: what was taken, and what is left
pub record HasTaken (bin0 rest0 : List (ℤ × ℤ)) (count : ℕ) (bin rest : List (ℤ × ℤ)) : Type 0 where
  pub taken : written bin ≡ written bin0 ++ take count (written (reverse rest0))
  pub left : written (reverse rest) ≡ drop count (written (reverse rest0))

-- a part of the next range
pub takes_part : {bin0 rest0 : List (ℤ × ℤ)} {count : ℕ} → (bin rest bin' middle rest' : List (ℤ × ℤ)) (missing : ℕ) (low high cut : ℤ) → IsTaken bin0 rest0 count bin rest missing
    → rest ≡ middle ++ (low, high) ∷ [] → missing < size (low, high) → cut ≡ low +ℤ pos missing → rest' ≡ middle ++ (cut, high) ∷ [] → written bin' ≡ written bin ++ count_from low missing → HasTaken bin0 rest0 count bin' rest'
takes_part bin rest bin' middle rest' missing low high cut was at fits is put added =
    let next = reverse_last rest middle (low, high) at in
    let front : take missing (written (reverse rest)) ≡ count_from low missing = ap (λ (xs : List (ℤ × ℤ)). take missing (written xs)) next ∙ take_within low high (reverse middle) missing fits in
    let back : drop missing (written (reverse rest)) ≡ written ((low +ℤ pos missing, high) ∷ reverse middle) = ap (λ (xs : List (ℤ × ℤ)). drop missing (written xs)) next ∙ drop_within low high (reverse middle) missing fits in
    record {
      taken = added ∙ (ap (λ (xs : List ℤ). written bin ++ xs) (sym front) ∙ was.taken);
      left = ap written (reverse_last rest' middle (cut, high) put) ∙ (ap (λ (v : ℤ). written ((v, high) ∷ reverse middle)) is ∙ (sym back ∙ was.left));
    }

-- the first numbers of a range, as a range
pub cut_added : (bin bin' : List (ℤ × ℤ)) (low end : ℤ) (missing : ℕ) → 0 < missing → end ≡ low +ℤ pos (missing - 1) → bin' ≡ bin ++ (low, end) ∷ [] → written bin' ≡ written bin ++ count_from low missing
cut_added bin bin' low end missing some is added = ap written added ∙ (written-one bin (low, end) ∙ ap (λ (xs : List ℤ). written bin ++ xs) (span_of low missing (low, end) refl (omega (arith, ints, is, some))))

-- no range is left
pub takes_rest : {bin0 rest0 : List (ℤ × ℤ)} {count : ℕ} → (bin rest rest' : List (ℤ × ℤ)) (missing : ℕ) → IsTaken bin0 rest0 count bin rest missing → rest ≡ [] → rest' ≡ [] → HasTaken bin0 rest0 count bin rest'
takes_rest bin rest rest' missing was none none' =
    let nothing : written (reverse rest) ≡ [] = ap (λ (xs : List (ℤ × ℤ)). written (reverse xs)) none ∙ written-nil in
    record {
      taken = sym (ap (λ (xs : List ℤ). written bin ++ take missing xs) nothing ∙ (ap (λ (xs : List ℤ). written bin ++ xs) (none_taken missing) ∙ append-nil (written bin))) ∙ was.taken;
      left = ap (λ (xs : List (ℤ × ℤ)). written (reverse xs)) none' ∙ (written-nil ∙ (sym (ap (drop missing) nothing ∙ none_left missing) ∙ was.left));
    }
  where
    none_taken : (m : ℕ) → take {A = ℤ} m [] ≡ []
    none_taken m = take_all m [] (omega arith)

    none_left : (m : ℕ) → drop {A = ℤ} m [] ≡ []
    none_left m = drop_all m [] (omega arith)

-- what a pop leaves where there was nothing
pub none_left : (len : ℕ) (rest rest' : List (ℤ × ℤ)) → len ≡ 0 → rest' ≡ take (len - 1) rest → rest' ≡ []
none_left len rest rest' none is = is ∙ ap (λ (n : ℕ). take (n - 1) rest) none

pub none_before : (rest rest' : List (ℤ × ℤ)) → rest ≡ rest' ++ [] → rest' ≡ [] → rest ≡ []
none_before rest rest' is none = is ∙ ap (λ (xs : List (ℤ × ℤ)). xs ++ []) none

pub first_taken : (none bin now : List (ℤ × ℤ)) (numbers : List ℤ) → none ≡ [] → written bin ≡ written none ++ numbers → now ≡ bin → written now ≡ numbers
first_taken none bin now numbers nothing taken same = ap written same ∙ (taken ∙ ap (λ (xs : List ℤ). xs ++ numbers) (ap written nothing ∙ written-nil))

-- ---- the sets of bins

-- the rest behind one more bin
pub rest_step : (numbers : List ℤ) (old new : List (ℤ × ℤ)) (bin share : ℕ) → written (reverse old) ≡ drop (bin * share) numbers → written (reverse new) ≡ drop share (written (reverse old)) → written (reverse new) ≡ drop ((bin + 1) * share) numbers
rest_step numbers old new bin share was next = next ∙ (ap (drop share) was ∙ (drop-drop share (bin * share) numbers ∙ ap (λ (n : ℕ). drop n numbers) (times bin share)))
  where
    times : (m n : ℕ) → m * n + n ≡ (m + 1) * n
    times m n = sym (rw add-one (suc-mul m n))

-- the sets behind one more bin
pub sets_step : (numbers : List ℤ) (n bin share total : ℕ) (sets new : List (List (ℤ × ℤ))) (rest : List (ℤ × ℤ)) (set : List (ℤ × ℤ)) → total ≡ length numbers → share ≡ max (total / n) 1 → bin < n - 1
    → written (reverse rest) ≡ drop (bin * share) numbers → set ≡ set_of (take share (written (reverse rest))) → new ≡ sets ++ set ∷ []
    → sets ≡ map set_of (map (part numbers n) (places bin)) → new ≡ map set_of (map (part numbers n) (places (bin + 1)))
sets_step numbers n bin per total sets new rest set many is before left set_is added was =
    let shared : per ≡ max (share numbers n) 1 = is ∙ ap (λ (m : ℕ). max (m / n) 1) many in
    let here : set ≡ set_of (part numbers n bin) = set_is ∙ ap set_of (ap (take per) left ∙ sym (part_before numbers n bin per (omega arith) shared)) in
    added ∙ (joined was here ∙ sym (next_part set_of numbers n bin))
  where
    joined : {xs ys : List (List (ℤ × ℤ))} {x y : List (ℤ × ℤ)} → xs ≡ ys → x ≡ y → xs ++ x ∷ [] ≡ ys ++ y ∷ []
    joined e f = λ i. e i ++ f i ∷ []

-- all sets
pub sets_end : (numbers : List ℤ) (n bin share total : ℕ) (sets new : List (List (ℤ × ℤ))) (rest : List (ℤ × ℤ)) (set : List (ℤ × ℤ)) → total ≡ length numbers → share ≡ max (total / n) 1 → bin + 1 ≡ n
    → written (reverse rest) ≡ drop (bin * share) numbers → set ≡ set_of (take total (written (reverse rest))) → new ≡ sets ++ set ∷ []
    → sets ≡ map set_of (map (part numbers n) (places bin)) → new ≡ map set_of (parts numbers n)
sets_end numbers n bin per total sets new rest set many is last left set_is added was =
    let shared : per ≡ max (share numbers n) 1 = is ∙ ap (λ (m : ℕ). max (m / n) 1) many in
    let all : take total (drop (bin * per) numbers) ≡ drop (bin * per) numbers = take_all total (drop (bin * per) numbers) (omega (arith, many, length-drop {A = ℤ} (bin * per) numbers)) in
    let here : set ≡ set_of (part numbers n bin) = set_is ∙ ap set_of (ap (take total) left ∙ (all ∙ sym (part_end numbers n bin per last shared))) in
    added ∙ (joined was here ∙ sym (all_parts set_of numbers n bin last))
  where
    joined : {xs ys : List (List (ℤ × ℤ))} {x y : List (ℤ × ℤ)} → xs ≡ ys → x ≡ y → xs ++ x ∷ [] ≡ ys ++ y ∷ []
    joined e f = λ i. e i ++ f i ∷ []

-- ---- all bins together

any_of_sets : (lists : List (List ℤ)) (v : ℤ) → list_any (λ set. is_in (written set) v) (map set_of lists) ≡ is_in (flat_map (λ xs. xs) lists) v
any_of_sets [] v = refl
any_of_sets (xs ∷ lists) v = either (set_of_numbers xs v) (any_of_sets lists v) ∙ sym (is_in-append xs (flat_map (λ xs. xs) lists) v)
  where
    either : {a b c d : Bool} → a ≡ c → b ≡ d → (a || b) ≡ (c || d)
    either e f = λ i. e i || f i

-- the bins have together the numbers that are listed
pub spread_together : (ranges : List (ℤ × ℤ)) (sets : List (List (ℤ × ℤ))) (n : ℕ) → 0 < n → sets ≡ spread_sets ranges n → HaveTogether sets (written ranges)
spread_together ranges sets n some is = λ v.
    ap (list_any (λ set. is_in (written set) v)) is ∙ (any_of_sets (parts (written ranges) n) v ∙ ap (λ (xs : List ℤ). is_in xs v) (parts_together (written ranges) n some))
