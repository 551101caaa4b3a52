-- How many seats a word says.
use Rattle.std.specs.Prelude.{ℕ, ◌+◌, ◌-◌, ◌*◌, List, [], ◌∷◌, Option, Some, None, nat_le, if◌then◌else◌}

-- a decimal digit
abbrev pub digit_of : ℕ → Option ℕ
digit_of b = if nat_le 48 b then (if nat_le b 57 then Some (b - 48) else None) else None

-- a number and one more digit behind it
abbrev pub then_digit : Option ℕ → Option ℕ → Option ℕ
then_digit (Some m) (Some n) = Some (10 * m + n)
then_digit (Some m) None = None
then_digit None n = None

-- the number of one to three digits
abbrev pub number_of : List ℕ → Option ℕ
number_of (c ∷ []) = digit_of c
number_of (b ∷ c ∷ []) = then_digit (digit_of b) (digit_of c)
number_of (a ∷ b ∷ c ∷ []) = then_digit (then_digit (digit_of a) (digit_of b)) (digit_of c)
number_of other = None

-- the most seats of a server, each of a caller that is served at the time
abbrev pub most_callers : ℕ
most_callers = 256

-- a number from 1 to that of the most callers
abbrev pub if_seats : Option ℕ → Option ℕ
if_seats None = None
if_seats (Some n) = if nat_le 1 n then (if nat_le n most_callers then Some n else None) else None

abbrev pub seats_of : List ℕ → Option ℕ
seats_of word = if_seats (number_of word)
