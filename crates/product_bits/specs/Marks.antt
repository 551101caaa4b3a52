-- Sets of products as bits of words, 64 a word: bit n says of the product of number n whether it is in the set.
use Rattle.std.specs.Prelude.{◌≡◌, ℕ, ◌+◌, ◌*◌, ◌/◌, ◌%◌, ◌<◌, nat_eq, List, length, slice_index, slice_index_or, Bool, false}
use Rattle.std.specs.Int.{bit_at}
use Rattle.cross_select.specs.Products.{product_of}
use Rattle.product_bits.specs.Numbers.{product_at}

-- bit i of a word
abbrev pub has_bit : ℕ → ℕ → Bool
has_bit word i = nat_eq (bit_at word i) 1

-- bit n of words
abbrev pub is_marked : List ℕ → ℕ → Bool
is_marked words n = has_bit (slice_index words (n / 64)) (n % 64)

-- how many words hold so many bits
abbrev pub word_count : ℕ → ℕ
word_count products = (products + 63) / 64

-- the words are those of the products that are meant
pub record Marks (sizes : List ℕ) (meant : List ℕ → Bool) (words : List ℕ) : Type 0 where
  pub len : length words ≡ word_count (product_of sizes)
  pub each : (n : ℕ) → n < 64 * length words → is_marked words n ≡ meant (product_at sizes n)

-- whether the bin of an axis of so many bins is chosen, where each bin has a run of so many products
abbrev pub in_run : (stride size : ℕ) → List Bool → ℕ → Bool
in_run stride size chosen n = slice_index_or chosen (n / stride % size) false
