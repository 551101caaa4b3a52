-- What an option may be set to, and in what.
use Rattle.std.specs.Prelude.{ℕ, pos, int_le, List, [], Bool, true, false, ◌&&◌, Option, Some, None, Result, Ok, Err, if◌then◌else◌}
use Rattle.cov_base.specs.Sets.{natural}
use Rattle.cov_options.specs.declared.values.Level.{Level}
use Rattle.cov_options.specs.declared.values.Level.TheVariants.{Group, Point, Cross}
use Rattle.cov_options.specs.declared.values.OptValue.{OptValue}
use Rattle.cov_options.specs.declared.values.OptValue.TheVariants.{Number, Text}
use Rattle.cov_options.specs.declared.values.OptFault.{OptFault}
use Rattle.cov_options.specs.declared.values.OptFault.TheVariants.{WrongLevel, OutOfRange, SetTwice}

-- the values of an option: the numbers from one to another, or any string
pub data Values : Type 0 where
  numbers : ℕ → ℕ → Values
  texts : Values

abbrev pub accepts : Values → OptValue → Bool
accepts (numbers least most) (Number n) = int_le (pos least) n && int_le n (pos most)
accepts (numbers least most) (Text t) = false
accepts texts (Number n) = false
accepts texts (Text t) = true

-- each option may be set in a covergroup, and in points and crosses where so is said
abbrev pub allows : Bool → Bool → Level → Bool
allows point cross Group = true
allows point cross Point = point
allows point cross Cross = cross

-- the first of the faults that an option meets, by whether it may stand there, takes the value, and is set already
abbrev pub refusal : Bool → Bool → Bool → Result (Unit {0}) OptFault
refusal allowed accepted is_set = if allowed then (if accepted then (if is_set then Err SetTwice else Ok tt) else Err OutOfRange) else Err WrongLevel

-- the number that is set, and the string
abbrev pub number_of : OptValue → ℕ
number_of (Number n) = natural n
number_of (Text t) = 0

abbrev pub text_of : OptValue → List ℕ
text_of (Number n) = []
text_of (Text t) = t

abbrev pub number_in : ℕ → ℕ → OptValue → Option ℕ
number_in least most value = if accepts (numbers least most) value then Some (number_of value) else None
