-- From what a port promises to a turn at a history.
use Rattle.std.proofs.Common.{◌≡◌, ℕ, ◌≤◌, List, length, take, Bool, true, false, refl, sym, ap, subst, arith}
use Rattle.std.specs.Prelude.{Option, Some, None, nat_lt, if◌then◌else◌, ◌&&◌}
use Rattle.design_data.specs.declared.design.Design.{Design}
use Rattle.ucis_model.specs.declared.answers.Answer.{Answer}
use Rattle.ucis_model.specs.declared.answers.Answer.TheVariants as answer
use Rattle.ucis_model.specs.Paths.{find_in}
use Rattle.cov_history.specs.declared.entry.Entry.{Entry}
use Rattle.cov_history.specs.declared.asks.Ask.{Ask}
use Rattle.cov_history.specs.declared.asks.Ask.TheVariants as ask
use Rattle.cov_history.specs.History.{design_of, has, has_stop, out_of}
use Rattle.cov_history.specs.Answers.{answer_at, table, unless_stopped, at_node, nodes_at, hello_at, include_at, made, is_made, may_want}
use Rattle.cov_history.specs.Turns.{wish_of, ask_of, since_of, made_by, Answers, TurnsAt, PortTurns, IsFrom}
use Rattle.store_core.specs.declared.asks.Ask.{Ask as Call}
use Rattle.store_core.specs.declared.asks.Ask.TheVariants as call
use Rattle.store_core.specs.Asks.{asked, Meets}
use Rattle.answer_frames.specs.Frames.{is_long}

pub asked_again : (a : Ask) (at : ℕ) → ask_of (since_of a at) (wish_of a) ≡ a
asked_again (ask.Admit since r) at = refl
asked_again (ask.Revise since revision) at = refl
asked_again (ask.Hello point) at = refl
asked_again (ask.Counts first path) at = refl
asked_again (ask.Coverage path) at = refl
asked_again (ask.Illegal first) at = refl
asked_again (ask.Tests first) at = refl
asked_again (ask.TestCounts first id path) at = refl
asked_again ask.Rank at = refl
asked_again (ask.NameOf bin) at = refl
asked_again (ask.Exclude path) at = refl
asked_again (ask.Include path) at = refl
asked_again (ask.Fetch place offset) at = refl

pub made_wished : (caller : ℕ) (a : Ask) (given : Answer) → made caller a given ≡ made_by caller (wish_of a) given
made_wished caller (ask.Admit since r) given = refl
made_wished caller (ask.Revise since revision) given = refl
made_wished caller (ask.Hello point) given = refl
made_wished caller (ask.Counts first path) given = refl
made_wished caller (ask.Coverage path) given = refl
made_wished caller (ask.Illegal first) given = refl
made_wished caller (ask.Tests first) given = refl
made_wished caller (ask.TestCounts first id path) given = refl
made_wished caller ask.Rank given = refl
made_wished caller (ask.NameOf bin) given = refl
made_wished caller (ask.Exclude path) given = refl
made_wished caller (ask.Include path) given = refl
made_wished caller (ask.Fetch place offset) given = refl

since_low : (n at : ℕ) (a : Ask) → n ≤ at → IsFrom n a → n ≤ since_of a at
since_low n at (ask.Admit since r) le f = f
since_low n at (ask.Revise since revision) le f = f
since_low n at (ask.Hello point) le f = le
since_low n at (ask.Counts first path) le f = le
since_low n at (ask.Coverage path) le f = le
since_low n at (ask.Illegal first) le f = le
since_low n at (ask.Tests first) le f = le
since_low n at (ask.TestCounts first id path) le f = le
since_low n at ask.Rank le f = le
since_low n at (ask.NameOf bin) le f = le
since_low n at (ask.Exclude path) le f = le
since_low n at (ask.Include path) le f = le
since_low n at (ask.Fetch place offset) le f = le

-- an ask is of no later point than the place of its turn
abbrev pub IsTo : ℕ → Ask → Type 0
IsTo at a = since_of a at ≤ at

pub since_high : (opening : Design) (h : List Entry) (at : ℕ) (a : Call) → Meets opening h a → length h ≤ at → IsTo at (asked a)
since_high opening h at (call.Admit since p) m le = omega (arith, m.reached)
since_high opening h at (call.Revise r) m le = omega (arith, m.reached)
since_high opening h at (call.Hello point) m le = omega arith
since_high opening h at (call.Counts first path) m le = omega arith
since_high opening h at (call.Coverage path) m le = omega arith
since_high opening h at (call.Illegal first) m le = omega arith
since_high opening h at (call.Tests first) m le = omega arith
since_high opening h at (call.TestCounts first id path) m le = omega arith
since_high opening h at call.Rank m le = omega arith
since_high opening h at (call.NameOf bin) m le = omega arith
since_high opening h at (call.Exclude path) m le = omega arith
since_high opening h at (call.Include path) m le = omega arith
since_high opening h at (call.Fetch place offset) m le = omega arith

pub port_turned : (opening : Design) (seen after : List Entry) (caller from : ℕ) (a : Ask) (given : Answer) (added : List (ℕ × Entry)) (to : ℕ) → from ≤ length seen → IsFrom from a → (t : PortTurns opening seen after caller a given added to) → IsTo t.at a → TurnsAt opening after caller from (wish_of a) given added to
port_turned opening seen after caller from a given added to le f t order = record {
  at = t.at;
  since = since_of a t.at;
  entries = t.entries;
  low = since_low from t.at a (omega (arith, t.low)) f;
  order = order;
  high = t.high;
  point = t.point;
  answer = subst (λ x. Answers caller (wish_of a) (answer_at opening (take t.at after) caller x) given t.entries) (sym (asked_again a t.at)) t.answer;
  there = t.there;
  adds = t.adds;
}

-- ---- long answers make nothing, and are given only where memory may be wanted

pub long_makes_none : (a : Answer) → is_long a ≡ true → is_made a ≡ false
long_makes_none answer.New e = absurd cc
long_makes_none answer.Changed e = absurd cc
long_makes_none other e = refl

pub stopped_is_short : (a : Answer) → a ≡ answer.Stopped → is_long a ≡ true → ⊥
stopped_is_short a is e = let f : is_long a ≡ false = ap is_long is in absurd cc

either : (b : Bool) (x y : Answer) → is_long x ≡ false → is_long y ≡ false → is_long (if b then x else y) ≡ false
either true x y p q = p
either false x y p q = q

unless_short : (h : List Entry) (a : Answer) → is_long a ≡ false → is_long (unless_stopped h a) ≡ false
unless_short h a q = either (has_stop h && is_made a) answer.Stopped a refl q

include_short : (o : Option ℕ) (b : Bool) → is_long (at_node o (λ n. if b then answer.Changed else answer.NotExcluded)) ≡ false
include_short None b = refl
include_short (Some n) b = either b answer.Changed answer.NotExcluded refl refl

-- neither to a Hello nor to an Include
pub long_wants : (opening : Design) (h : List Entry) (caller : ℕ) (a : Ask) → is_long (answer_at opening h caller a) ≡ true → may_want a ≡ true
unfolding table
long_wants opening h caller (ask.Hello point) e =
    let f : is_long (unless_stopped h (hello_at opening h point)) ≡ false = unless_short h (hello_at opening h point) (either (nat_lt (length h) point) (answer.Ahead (length h)) (answer.Welcome (design_of opening h).bin_count) refl refl) in absurd cc
long_wants opening h caller (ask.Include path) e =
    let f : is_long (unless_stopped h (include_at opening h path)) ≡ false = unless_short h (include_at opening h path) (include_short (find_in (nodes_at opening h) path) (has path (out_of h))) in absurd cc
long_wants opening h caller (ask.Admit since r) e = refl
long_wants opening h caller (ask.Revise since revision) e = refl
long_wants opening h caller (ask.Counts first path) e = refl
long_wants opening h caller (ask.Coverage path) e = refl
long_wants opening h caller (ask.Illegal first) e = refl
long_wants opening h caller (ask.Tests first) e = refl
long_wants opening h caller (ask.TestCounts first id path) e = refl
long_wants opening h caller ask.Rank e = refl
long_wants opening h caller (ask.NameOf bin) e = refl
long_wants opening h caller (ask.Exclude path) e = refl
long_wants opening h caller (ask.Fetch place offset) e = refl
