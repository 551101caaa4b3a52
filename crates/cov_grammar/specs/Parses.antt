-- What a reader of a rule answers, with so much room.
use Rattle.std.specs.Prelude.{◌≡◌, ℕ, ◌+◌, ◌≤◌, Result, Ok, Err}
use Rattle.cov_grammar.specs.declared.place.Place.{Place}
use Rattle.cov_grammar.specs.declared.place.Room.{Room}
use Rattle.cov_grammar.specs.declared.place.Stop.{Stop}
use Rattle.cov_grammar.specs.declared.place.Stop.TheVariants.{Memory, Syntax, TooDeep}
use Rattle.cov_grammar.specs.Rule.{Rule}

-- the tokens from p up to q derive t, and with the next token they don't begin the rule, whatever the room
pub record Reads {T : Type 0} (F : Room → Rule T) (r : Room) (p : Place) (t : T) (q : Place) : Type 0 where
  pub derives : (F r).derives p t q
  pub reach : (e : Room) (n : ℕ) → (F e).begins p n → n ≤ q.at

-- the tokens from p up to k begin the rule and derive nothing, and with the next token they don't begin it, whatever the room
pub record Stops {T : Type 0} (F : Room → Rule T) (r : Room) (p : Place) (k : ℕ) : Type 0 where
  pub begins : (F r).begins p k
  pub reach : (e : Room) (n : ℕ) → (F e).begins p n → n ≤ k
  pub none : (e : Room) (t : T) (q : Place) → (F e).derives p t q → q.at ≡ k → ⊥

-- the tokens from p up to k begin the rule, and with the next token they do only where there is more room
pub record Sinks {T : Type 0} (F : Room → Rule T) (r : Room) (p : Place) (k : ℕ) : Type 0 where
  pub begins : (F r).begins p k
  pub more : Room
  pub deeper : (F more).begins p (k + 1)
  pub reach : (n : ℕ) → (F r).begins p n → n ≤ k

abbrev pub Cause : {T : Type 0} → (Room → Rule T) → Room → Place → Stop → Type 0
Cause F r p Memory = Unit {0}
Cause F r p (Syntax k) = Stops F r p k
Cause F r p (TooDeep k) = Sinks F r p k

-- each answer but that of want of memory has its cause
pub record Fails {T : Type 0} (F : Room → Rule T) (r : Room) (p : Place) (s : Stop) : Type 0 where
  pub cause : Cause F r p s

-- what a reader of the rule F answered, where it began at p
abbrev pub Parses : {T : Type 0} → (Room → Rule T) → Room → Place → Result (T × Place) Stop → Type 0
Parses F r p (Ok x) = Reads F r p x.0 x.1
Parses F r p (Err s) = Fails F r p s
