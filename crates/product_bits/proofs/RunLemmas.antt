-- Runs of bits, and their repetition.
use Rattle.std.proofs.Common.{◌≡◌, ℕ, ◌+◌, ◌-◌, ◌*◌, ◌/◌, ◌%◌, ◌<◌, ◌≤◌, ◌&&◌, ◌||◌, ◌⊎◌, min, List, get_or, refl, sym, ap, ◌∙◌, arith, inl, inr, true, false, Bool, leb, ltb}
use Rattle.std.proofs.lemmas.Bool.{cases_lt, lt-ltb, le-ltb, le-leb, lt-leb}
use Rattle.std.proofs.lemmas.Nat.{div-mul-add, mul-le}
use Rattle.std.proofs.Math.Nat.{lt-div-mul-add, div-mul-le_self, add-mul-div_left, add-mul-mod_self_left, mul_assoc}
use Rattle.product_bits.specs.Marks.{in_run}
use Rattle.product_bits.proofs.WordLemmas.{and-false, or-false}

-- a run begins before the end
pub run_below : (run stride end : ℕ) → 1 ≤ stride → run < (end + stride - 1) / stride → run * stride < end
run_below run stride end some lt =
    let more : (run + 1) * stride ≤ (end + stride - 1) / stride * stride = mul-le (run + 1) stride ((end + stride - 1) / stride) stride (omega arith) (omega arith) in
    let whole : (end + stride - 1) / stride * stride ≤ end + stride - 1 = div-mul-le_self (end + stride - 1) stride in
    let next : (run + 1) * stride ≡ run * stride + stride = omega arith in
    omega (arith, more, whole, next)

-- all bits are in the runs
pub runs_reach : (stride end : ℕ) → 1 ≤ stride → end ≤ (end + stride - 1) / stride * stride
runs_reach stride end some = let h = lt-div-mul-add {a = end + stride - 1} {b = stride} some in omega (arith, h)

run_of : (n run stride : ℕ) → run * stride ≤ n → n < run * stride + stride → n / stride ≡ run
run_of n run stride low high =
    let is : n ≡ run * stride + (n - run * stride) = omega arith in
    ap (λ (k : ℕ). k / stride) is ∙ div-mul-add run stride (n - run * stride) (omega arith)

both : (c a b : Bool) → a ≡ true → b ≡ true → (c && (a && b)) ≡ c
both true a b e f = λ i. e i && f i
both false a b e f = refl

all : (a b x c : Bool) → a ≡ true → b ≡ true → x ≡ c → (a && (b && x)) ≡ c
all a b x c e f g = λ i. e i && (f i && g i)

-- one run more
pub run_more : (old new c : Bool) (chosen : List Bool) (stride size run end n : ℕ)
    → old ≡ (ltb n end && (ltb n (run * stride) && in_run stride size chosen n))
    → new ≡ (old || (c && (leb (run * stride) n && ltb n (min (run * stride + stride) end))))
    → c ≡ get_or chosen (run % size) false
    → new ≡ (ltb n end && (ltb n (run * stride + stride) && in_run stride size chosen n))
run_more old new c chosen stride size run end n was step is = elim (cases_lt n end) [
  | inr past ↦
      let e : ltb n end ≡ false = le-ltb n end past in
      let f : ltb n (min (run * stride + stride) end) ≡ false = le-ltb n (min (run * stride + stride) end) (omega arith) in
      step ∙ (or-false old (c && (leb (run * stride) n && ltb n (min (run * stride + stride) end))) (and-false c (leb (run * stride) n && ltb n (min (run * stride + stride) end)) (and-false (leb (run * stride) n) (ltb n (min (run * stride + stride) end)) f))
      ∙ (was ∙ (ap (λ (b : Bool). b && (ltb n (run * stride) && in_run stride size chosen n)) e ∙ sym (ap (λ (b : Bool). b && (ltb n (run * stride + stride) && in_run stride size chosen n)) e))))
  | inl lt ↦ inside lt (cases_lt n (run * stride)) (cases_lt n (run * stride + stride))
]
  where
    inside : n < end → ((n < run * stride) ⊎ (run * stride ≤ n)) → ((n < run * stride + stride) ⊎ (run * stride + stride ≤ n)) → new ≡ (ltb n end && (ltb n (run * stride + stride) && in_run stride size chosen n))
    inside lt (inl before) other =
        step ∙ (ap (λ (b : Bool). old || (c && (b && ltb n (min (run * stride + stride) end)))) (lt-leb (run * stride) n before)
        ∙ (or-false old (c && false) (and-false c false refl)
        ∙ (was ∙ ap (λ (b : Bool). ltb n end && (b && in_run stride size chosen n)) (lt-ltb n (run * stride) before ∙ sym (lt-ltb n (run * stride + stride) (omega arith))))))
    inside lt (inr after) (inl here) =
        let none : old ≡ false = was ∙ and-false (ltb n end) (ltb n (run * stride) && in_run stride size chosen n) (ap (λ (b : Bool). b && in_run stride size chosen n) (le-ltb n (run * stride) after)) in
        let value : in_run stride size chosen n ≡ c = ap (λ (k : ℕ). get_or chosen (k % size) false) (run_of n run stride after here) ∙ sym is in
        step ∙ (ap (λ (b : Bool). b || (c && (leb (run * stride) n && ltb n (min (run * stride + stride) end)))) none
        ∙ (both c (leb (run * stride) n) (ltb n (min (run * stride + stride) end)) (le-leb (run * stride) n after) (lt-ltb n (min (run * stride + stride) end) (omega arith))
        ∙ sym (all (ltb n end) (ltb n (run * stride + stride)) (in_run stride size chosen n) c (lt-ltb n end lt) (lt-ltb n (run * stride + stride) here) value)))
    inside lt (inr after) (inr past) =
        let f : ltb n (min (run * stride + stride) end) ≡ false = le-ltb n (min (run * stride + stride) end) (omega arith) in
        step ∙ (or-false old (c && (leb (run * stride) n && ltb n (min (run * stride + stride) end))) (and-false c (leb (run * stride) n && ltb n (min (run * stride + stride) end)) (and-false (leb (run * stride) n) (ltb n (min (run * stride + stride) end)) f))
        ∙ (was ∙ ap (λ (b : Bool). ltb n end && (b && in_run stride size chosen n)) (le-ltb n (run * stride) after ∙ sym (le-ltb n (run * stride + stride) past))))

pub runs_begin : (old in_end : Bool) (x : Bool) (n stride : ℕ) → old ≡ false → old ≡ (in_end && (ltb n (0 * stride) && x))
runs_begin old in_end x n stride none = none ∙ sym (and-false in_end (ltb n (0 * stride) && x) (ap (λ (b : Bool). b && x) (le-ltb n (0 * stride) (omega arith))))

-- all runs are marked
pub runs_done : (new x : Bool) (n stride end runs : ℕ) → end ≤ runs * stride → new ≡ (ltb n end && (ltb n (runs * stride) && x)) → new ≡ (ltb n end && x)
runs_done new x n stride end runs reach is = is ∙ elim (cases_lt n end) [
  | inl lt ↦ ap (λ (b : Bool). ltb n end && (b && x)) (lt-ltb n (runs * stride) (omega arith))
  | inr past ↦ ap (λ (b : Bool). b && (ltb n (runs * stride) && x)) (le-ltb n end past) ∙ sym (ap (λ (b : Bool). b && x) (le-ltb n end past))
]

-- ---- whole periods

pub front_long : (period : ℕ) → 1 ≤ period → 64 ≤ period * ((63 + period) / period)
front_long period some =
    let h = lt-div-mul-add {a = 63 + period} {b = period} some in
    let turn : period * ((63 + period) / period) ≡ (63 + period) / period * period = omega arith in
    omega (arith, h, turn)

pub front_short : (period : ℕ) → period * ((63 + period) / period) ≤ 63 + period
front_short period =
    let h = div-mul-le_self (63 + period) period in
    let turn : period * ((63 + period) / period) ≡ (63 + period) / period * period = omega arith in
    omega (arith, h, turn)

pub comes_again : (stride size times : ℕ) (chosen : List Bool) (n : ℕ) → 1 ≤ stride → in_run stride size chosen (n + stride * size * times) ≡ in_run stride size chosen n
comes_again stride size times chosen n some =
    let whole : n + stride * size * times ≡ n + stride * (size * times) = ap (λ (k : ℕ). n + k) (mul_assoc stride size times) in
    ap (λ (k : ℕ). get_or chosen k false)
    (ap (λ (k : ℕ). k / stride % size) whole ∙ (ap (λ (k : ℕ). k % size) (add-mul-div_left n (size * times) {y = stride} some) ∙ add-mul-mod_self_left (n / stride) size times))
