-- Sums tell the items that they were made of.
use Rattle.std.proofs.Common.{◌≡◌, inl, ℕ, zero, suc, ◌*◌, ◌+◌, ◌-◌, ◌≤◌, ◌<◌, List, [], ◌∷◌, ◌++◌, length, take, drop, refl, sym, ap, ◌∙◌, arith, add-one}
use Rattle.std.proofs.lemmas.List.{take_at, drop_at, take-take, drop-take, drop-drop, length-take, length-take-le}
use Rattle.std.proofs.lemmas.List.Elements.{All-take}
use Rattle.sha2.proofs.Facts256.{length-sha256}
use Rattle.journal_bytes.specs.Items.{Item, IsWritable}
use Rattle.journal_bytes.specs.Sums.{sum_behind, sum_of, sums_of}
use Rattle.journal_bytes.proofs.Telling.{sums_tell}
use Rattle.journal_file.specs.Damage.{whole, sum_at}
use Rattle.journal_file.specs.Laws.{SumsTellDamage}
use Rattle.journal_file.proofs.Longer.{sums_long}

-- a sum further on, behind a first one
sum_further : (s rest : List ℕ) (k : ℕ) → length s ≡ 32 → sum_at (s ++ rest) (suc k) ≡ sum_at rest k
sum_further s rest k long =
    let more : 32 * suc k ≡ 32 + 32 * k = omega arith in
    ap (λ (n : ℕ). take 32 (drop n (s ++ rest))) more
    ∙ ap (take 32) (sym (drop-drop (32 * k) 32 (s ++ rest)))
    ∙ ap (λ (l : List ℕ). take 32 (drop (32 * k) l)) (drop_at s rest 32 long)

-- the sum at a place is that of the items up to it
sum_there : (before : List ℕ) (items : List Item) (k : ℕ) → k < length items → sum_at (sums_of before items) k ≡ sum_of before (take (suc k) items)
sum_there before [] k lt = absurd (omega (arith, lt))
sum_there before (x ∷ xs) zero lt = take_at (sum_behind before x) (sums_of (sum_behind before x) xs) 32 (length-sha256 _)
sum_there before (x ∷ xs) (suc k) lt =
    sum_further (sum_behind before x) (sums_of (sum_behind before x) xs) k (length-sha256 _)
    ∙ sum_there (sum_behind before x) xs k (omega (arith, lt))

-- a sum in a front is there in the whole
sum_in_front : (sums all : List ℕ) (k : ℕ) → sums ≡ take (length sums) all → k < whole sums → sum_at sums k ≡ sum_at all k
sum_in_front sums all k is there =
    let rest = length sums - 32 * k in
    let split : length sums ≡ 32 * k + rest = omega (arith, there) in
    ap (λ (l : List ℕ). take 32 (drop (32 * k) l)) (is ∙ ap (λ (n : ℕ). take n all) split)
    ∙ ap (take 32) (drop-take (32 * k) rest all)
    ∙ take-take 32 rest (drop (32 * k) all) (omega (arith, there))

few_whole : (sums digest : List ℕ) (items : List Item) → sums ≡ take (length sums) (sums_of digest items) → whole sums ≤ length items
few_whole sums digest items is =
    omega (arith, ap (λ (l : List ℕ). length l) is, length-take (length sums) (sums_of digest items), sums_long digest items)

pub sums_tell_damage : SumsTellDamage
sums_tell_damage digest sums items others zero long fit fits is agrees few less = inl refl
sums_tell_damage digest sums items others (suc k) long fit fits is agrees few less =
    let enough = few_whole sums digest items is in
    let here : sum_at sums k ≡ sum_of digest (take (suc k) items) = sum_in_front sums (sums_of digest items) k is (omega (arith, few)) ∙ sum_there digest items k (omega (arith, few, enough)) in
    let there : sum_at sums k ≡ sum_of digest (take (suc k) others) = agrees k (omega (arith, less)) (omega (arith, few)) ∙ ap (λ (n : ℕ). sum_of digest (take n others)) (add-one k) in
    sums_tell digest (take (suc k) items) (take (suc k) others) long (All-take IsWritable (suc k) items fit) (All-take IsWritable (suc k) others fits)
    (length-take-le (suc k) items (omega (arith, few, enough)) ∙ sym (length-take-le (suc k) others less))
    (sym here ∙ there)
