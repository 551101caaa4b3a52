-- What is packed is read again.
use Rattle.std.proofs.Common.{◌≡◌, ℕ, zero, suc, ◌+◌, ◌-◌, ◌*◌, ◌/◌, ◌%◌, ◌^◌, ◌<◌, ◌≤◌, Bool, true, false, nat_lt, List, [], ◌∷◌, ◌++◌, length, Option, Some, None, refl, sym, ap, subst, ◌∙◌, append_assoc, append-nil, arith}
use Rattle.std.specs.Prelude.{IfSome, ◌==◌, if◌then◌else◌}
use Rattle.std.proofs.lemmas.List.{length-append}
use Rattle.std.proofs.lemmas.Bool.Decides.{nat_tests}
use native.Mathlib.Numerals.{unary_clauses}
use Rattle.vcd_dump.specs.declared.dump.Bit4.{Bit4}
use Rattle.vcd_dump.specs.declared.dump.Bit4.TheVariants.{Zero, One, X, Z}
use Rattle.vcd_dump.specs.declared.dump.Change.{Change}
use Rattle.vcd_dump.specs.declared.packing.Item.{Item}
use Rattle.vcd_dump.specs.declared.packing.Item.TheVariants.{Begins, Changes}
use Rattle.vcd_dump.specs.Packing.{number_bytes, Number, number_in, with_byte, bit_number, bit_of, form_of, value_bytes, head_of, value_in, far_value, item_bytes, OneItem, begins, changes_with, changes, item_behind, item_in, items_for, items_in, IsItem, IsWhole}

-- ---- one step of each definition

pub more_bytes : (more n : ℕ) → (more ≡ 0 → ⊥) → nat_lt n 128 ≡ false → number_bytes more n ≡ (128 + n % 128) ∷ number_bytes (more - 1) (n / 128)
unfolding number_bytes
more_bytes zero n some lt = absurd (some refl)
more_bytes (suc more) n some lt = let e : suc more - 1 ≡ more = omega arith in rw (lt, e) refl

pub appended : (old mid all : List ℕ) (more n : ℕ) → (more ≡ 0 → ⊥) → (n < 128 → ⊥) → mid ≡ old ++ (128 + n % 128) ∷ [] → all ≡ mid ++ number_bytes (more - 1) (n / 128) → all ≡ old ++ number_bytes more n
appended old mid all more n some high h k =
    let le : nat_lt n 128 ≡ false = grind (arith, nat_tests, high) in
    k ∙ ap (λ (x : List ℕ). x ++ number_bytes (more - 1) (n / 128)) h ∙ append_assoc old ((128 + n % 128) ∷ []) (number_bytes (more - 1) (n / 128)) ∙ ap (λ (x : List ℕ). old ++ x) (sym (more_bytes more n some le))

-- ---- numbers

number_by : (below : Bool) (more n : ℕ) (rest : List ℕ) → nat_lt n 128 ≡ below → n < 2 ^ 64 → number_in more (number_bytes more (n / 128) ++ rest) ≡ record { n = n / 128; rest = rest }
    → number_in (suc more) (number_bytes (suc more) n ++ rest) ≡ record { n = n; rest = rest }
unfolding number_bytes number_in
number_by true more n rest below wide again = rw below (rw below refl)
number_by false more n rest below wide again =
    let le : 128 ≤ n = grind (arith, nat_tests) in
    let high : nat_lt (128 + n % 128) 128 ≡ false = grind (arith, nat_tests) in
    let number_is : (128 + n % 128 - 128 + n / 128 * 128 % 2 ^ 64) % 2 ^ 64 ≡ n = omega (arith, wide) in
    rw below (rw high (ap (with_byte (128 + n % 128)) again ∙ (λ i. record { n = number_is i; rest = rest })))

pub number_again : (more n : ℕ) (rest : List ℕ) → n < 2 ^ 64 → n < 2 * 128 ^ more → number_in more (number_bytes more n ++ rest) ≡ record { n = n; rest = rest }
unfolding number_bytes number_in
number_again zero n rest wide few = let e : n % 256 ≡ n = omega (arith, few) in λ i. record { n = e i; rest = rest }
number_again (suc more) n rest wide few =
    let power : 128 ^ suc more ≡ 128 * 128 ^ more = simp unary_clauses (omega arith) in
    number_by (nat_lt n 128) more n rest refl wide (number_again more (n / 128) rest (omega (arith, wide)) (omega (arith, few, power)))

pub again : (n : ℕ) (rest : List ℕ) → n < 2 ^ 64 → number_in 9 (number_bytes 9 n ++ rest) ≡ record { n = n; rest = rest }
again n rest wide = number_again 9 n rest wide (omega (arith, wide))

-- ---- changes

bit_again : (bit : Bit4) → bit_of (bit_number bit) ≡ bit
bit_again Zero = refl
bit_again One = refl
bit_again X = refl
bit_again Z = refl

bit_below : (bit : Bit4) → bit_number bit < 4
bit_below Zero = omega arith
bit_below One = omega arith
bit_below X = omega arith
bit_below Z = omega arith

form_by : (small : Bool) (value : ℕ) → nat_lt value 2 ≡ small → form_of (Some value) < 4
form_by true value e = let lt : value < 2 = grind (arith, nat_tests) in rw e (omega (arith, lt))
form_by false value e = rw e (omega arith)

form_below : (value : Option ℕ) → form_of value < 4
form_below None = omega arith
form_below (Some value) = form_by (nat_lt value 2) value refl

value_by : (small : Bool) (value : ℕ) (rest : List ℕ) → nat_lt value 2 ≡ small → value < 2 ^ 64 → value_in (form_of (Some value)) (value_bytes (Some value) ++ rest) ≡ record { value = Some value; rest = rest }
unfolding value_in
value_by true zero rest e wide = refl
value_by true (suc zero) rest e wide = refl
value_by true (suc (suc value)) rest e wide = absurd (grind (arith, nat_tests))
value_by false value rest e wide = rw e (ap (λ (number : Number). record { value = Some number.n; rest = number.rest }) (again value rest wide))

value_again : (value : Option ℕ) (rest : List ℕ) → IfSome value (λ v. v < 2 ^ 64) → value_in (form_of value) (value_bytes value ++ rest) ≡ record { value = value; rest = rest }
unfolding value_in
value_again None rest fits = refl
value_again (Some value) rest fits = value_by (nat_lt value 2) value rest refl fits

module _ (code bit form : ℕ) (few : bit < 4) (fewer : form < 4) (narrow : code < 2 ^ 32) where
  abbrev head : ℕ
  head = code * 16 + (bit * 4 + form)

  head_wide : 1 + head < 2 ^ 64
  head_wide = omega (arith, few, fewer, narrow)

  form_is : head % 4 ≡ form
  form_is = omega (arith, few, fewer)

  bit_is : head / 4 % 4 ≡ bit
  bit_is = omega (arith, few, fewer)

  code_is : head / 16 % 2 ^ 32 ≡ code
  code_is = omega (arith, few, fewer, narrow)

-- ---- items

time_again : (time : ℕ) (rest : List ℕ) → time < 2 ^ 64 → item_in (item_bytes (Begins time) ++ rest) ≡ record { item = Begins time; rest = rest }
unfolding item_in item_bytes number_in
time_again time rest fits = ap begins (again time rest fits)

change_again : (change : Change) (rest : List ℕ) → IsItem (Changes change) → item_in (item_bytes (Changes change) ++ rest) ≡ record { item = Changes change; rest = rest }
unfolding item_in item_bytes
change_again change rest fits =
    let bit = bit_number change.low in
    let form = form_of change.value in
    let few = bit_below change.low in
    let fewer = form_below change.value in
    let n = change.code * 16 + (bit * 4 + form) in
    let head_is = again (head_of change) (value_bytes change.value ++ rest) (head_wide change.code bit form few fewer fits.0) in
    let joined = ap (number_in 9) (append_assoc (number_bytes 9 (head_of change)) (value_bytes change.value) rest) in
    let value_is = ap (λ (f : ℕ). value_in f (value_bytes change.value ++ rest)) (form_is change.code bit form few fewer fits.0) ∙ value_again change.value rest fits.1 in
    let code = code_is change.code bit form few fewer fits.0 in
    let low = ap bit_of (bit_is change.code bit form few fewer fits.0) ∙ bit_again change.low in
    let less : 1 + n - 1 ≡ n = omega arith in
    let some : (1 + n == 0) ≡ false = grind (arith, nat_tests) in
    let behind : item_behind (record { n = 1 + n; rest = value_bytes change.value ++ rest }) ≡ changes n (value_bytes change.value ++ rest) = rw (some, less) refl in
    let parts : changes_with n (record { value = change.value; rest = rest }) ≡ record { item = Changes change; rest = rest } = λ i. record { item = Changes (record { code = code i; value = change.value; low = low i }); rest = rest } in
    ap item_behind (joined ∙ head_is) ∙ (behind ∙ (ap (changes_with n) value_is ∙ parts))

pub item_again : (item : Item) (rest : List ℕ) → IsItem item → item_in (item_bytes item ++ rest) ≡ record { item = item; rest = rest }
item_again (Begins time) rest fits = time_again time rest fits
item_again (Changes change) rest fits = change_again change rest fits

-- ---- lengths

number_short : (more : ℕ) (bytes : List ℕ) → length (number_in more bytes).rest ≤ length bytes - 1
unfolding number_in
number_short more [] = omega arith
number_short zero (byte ∷ bytes) = omega arith
number_short (suc more) (byte ∷ bytes) = elim (nat_lt byte 128) as (λ b. length (if b then record { n = byte; rest = bytes } else with_byte byte (number_in more bytes)).rest ≤ length (byte ∷ bytes) - 1) [
  | true ↦ omega arith
  | false ↦ let h = number_short more bytes in omega (arith, h)
]

value_short : (form : ℕ) (bytes : List ℕ) → length (value_in form bytes).rest ≤ length bytes
unfolding value_in
value_short form bytes = elim (form == 0) as (λ b. length (if b then record { value = None; rest = bytes } else if form == 3 then far_value (number_in 9 bytes) else record { value = Some (form - 1); rest = bytes }).rest ≤ length bytes) [
  | true ↦ omega arith
  | false ↦ elim (form == 3) as (λ b. length (if b then far_value (number_in 9 bytes) else record { value = Some (form - 1); rest = bytes }).rest ≤ length bytes) [
    | true ↦ let h = number_short 9 bytes in omega (arith, h)
    | false ↦ omega arith
  ]
]

changes_short : (head : ℕ) (bytes : List ℕ) → length (changes head bytes).rest ≤ length bytes
changes_short head bytes = value_short (head % 4) bytes

behind_by : (time : Bool) (head : Number) → (head.n == 0) ≡ time → length (item_behind head).rest ≤ length head.rest
behind_by true head e = let h = number_short 9 head.rest in rw e (omega (arith, h))
behind_by false head e = let h = changes_short (head.n - 1) head.rest in rw e h

pub item_short : (byte : ℕ) (bytes : List ℕ) → length (item_in (byte ∷ bytes)).rest ≤ length bytes
unfolding item_in
item_short byte bytes =
    let head = number_in 9 (byte ∷ bytes) in
    let h : length head.rest ≤ length (byte ∷ bytes) - 1 = number_short 9 (byte ∷ bytes) in
    let k = behind_by (head.n == 0) head refl in
    omega (arith, h, k)

-- ---- items in a row

-- so many are enough
enough : (most other : ℕ) (bytes : List ℕ) → length bytes ≤ most → length bytes ≤ other → items_for most bytes ≡ items_for other bytes
unfolding items_for
enough zero zero [] le lf = refl
enough zero (suc other) [] le lf = refl
enough (suc most) zero [] le lf = refl
enough (suc most) (suc other) [] le lf = refl
enough zero other (byte ∷ bytes) le lf = absurd (omega (arith, le))
enough (suc most) zero (byte ∷ bytes) le lf = absurd (omega (arith, lf))
enough (suc most) (suc other) (byte ∷ bytes) le lf =
    let short = item_short byte bytes in
    ap (λ (items : List Item). (item_in (byte ∷ bytes)).item ∷ items) (enough most other (item_in (byte ∷ bytes)).rest (omega (arith, short, le)) (omega (arith, short, lf)))

pub no_items : items_in [] ≡ []
unfolding items_in items_for
no_items = refl

first_item : (byte : ℕ) (bytes : List ℕ) → items_in (byte ∷ bytes) ≡ (item_in (byte ∷ bytes)).item ∷ items_in (item_in (byte ∷ bytes)).rest
unfolding items_in items_for
first_item byte bytes =
    let rest = (item_in (byte ∷ bytes)).rest in
    ap (λ (items : List Item). (item_in (byte ∷ bytes)).item ∷ items) (enough (length bytes) (length rest) rest (item_short byte bytes) (omega arith))

some_bytes : (more n : ℕ) → 0 < length (number_bytes more n)
unfolding number_bytes
some_bytes zero n = omega arith
some_bytes (suc more) n = elim (nat_lt n 128) as (λ b. 0 < length (if b then n ∷ [] else (128 + n % 128) ∷ number_bytes more (n / 128))) [ true ↦ omega arith | false ↦ omega arith ]

some_item : (item : Item) → 0 < length (item_bytes item)
unfolding item_bytes
some_item (Begins time) = omega arith
some_item (Changes change) =
    let h = some_bytes 9 (head_of change) in
    let e = length-append (number_bytes 9 (head_of change)) (value_bytes change.value) in
    omega (arith, h, e)

item_and_more : (bytes more : List ℕ) (item : Item) → 0 < length bytes → item_in (bytes ++ more) ≡ record { item = item; rest = more } → items_in (bytes ++ more) ≡ item ∷ items_in more
item_and_more [] more item some h = absurd (omega (arith, some))
item_and_more (byte ∷ bytes) more item some h = first_item byte (bytes ++ more) ∙ ap (λ (one : OneItem). one.item ∷ items_in one.rest) h

-- an item is read in front of more
item_first : (item : Item) (more : List ℕ) → IsItem item → items_in (item_bytes item ++ more) ≡ item ∷ items_in more
item_first item more fits = item_and_more (item_bytes item) more item (some_item item) (item_again item more fits)

pub whole_at_first : IsWhole []
whole_at_first more = ap (λ (items : List Item). items ++ items_in more) (sym no_items)

module _ (bytes : List ℕ) (item : Item) (whole : IsWhole bytes) (fits : IsItem item) where
  longer : (more : List ℕ) → items_in ((bytes ++ item_bytes item) ++ more) ≡ items_in bytes ++ item ∷ items_in more
  longer more = ap items_in (append_assoc bytes (item_bytes item) more) ∙ whole (item_bytes item ++ more) ∙ ap (λ (items : List Item). items_in bytes ++ items) (item_first item more fits)

  pub one_more_item : items_in (bytes ++ item_bytes item) ≡ items_in bytes ++ item ∷ []
  one_more_item = ap items_in (sym (append-nil (bytes ++ item_bytes item))) ∙ longer [] ∙ ap (λ (items : List Item). items_in bytes ++ item ∷ items) no_items

  pub still_whole : IsWhole (bytes ++ item_bytes item)
  still_whole more = longer more ∙ sym (append_assoc (items_in bytes) (item ∷ []) (items_in more)) ∙ ap (λ (items : List Item). items ++ items_in more) (sym one_more_item)

-- the first item of bytes, and those behind it
pub is_first : (bytes rest : List ℕ) (item : Item) → (length bytes ≡ 0 → ⊥) → item ≡ (item_in bytes).item → rest ≡ (item_in bytes).rest → items_in bytes ≡ item ∷ items_in rest
is_first [] rest item some i r = absurd (some refl)
is_first (byte ∷ bytes) rest item some i r = first_item byte bytes ∙ (λ k. sym i k ∷ items_in (sym r k))

pub is_shorter : (bytes rest : List ℕ) → (length bytes ≡ 0 → ⊥) → rest ≡ (item_in bytes).rest → length rest < length bytes
is_shorter [] rest some r = absurd (some refl)
is_shorter (byte ∷ bytes) rest some r = let h = item_short byte bytes in let e = ap (λ (xs : List ℕ). length xs) r in omega (arith, h, e)

pub is_empty : (bytes : List ℕ) → length bytes ≡ 0 → items_in bytes ≡ []
is_empty [] e = no_items
is_empty (byte ∷ bytes) e = absurd (omega (arith, e))

pub whole_as : (bytes other : List ℕ) → bytes ≡ other → IsWhole other → IsWhole bytes
whole_as bytes other e h = subst IsWhole (sym e) h
