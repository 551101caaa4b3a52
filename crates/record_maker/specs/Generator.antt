-- The generator of records: numbers drawn one after the other, and the events that are made of them.
use Rattle.std.specs.Prelude.{ℕ, zero, suc, ◌+◌, ◌-◌, ◌*◌, ◌/◌, ◌%◌, ◌^◌, List, [], ◌∷◌, ◌++◌, codes, decimal, length, ◌==◌, not, Option, Some, Bool, if◌then◌else◌}
use Rattle.std.specs.List.{list_any}
use Rattle.record_codec.specs.declared.record.Event.{Event}
use Rattle.record_codec.specs.declared.record.Event.TheVariants.{Set, Sample}
use Rattle.record_codec.specs.declared.record.Start.{Start}
use Rattle.design_data.specs.declared.infos.Signal.{Signal}
use Rattle.design_data.specs.declared.infos.InstInfo.{InstInfo}
use Rattle.design_data.specs.declared.design.Design.{Design}
use Rattle.cov_counting.specs.Tables.{signals_of, instances_of}

-- ---- numbers

-- the number drawn after x
abbrev pub draw : ℕ → ℕ
draw x = (x * 6364136223846793005 + 1442695040888963407) % 2 ^ 64

-- the number before the first draw for a test
abbrev pub first_number : (seed test : ℕ) → ℕ
first_number seed test = (seed + test) % 2 ^ 64

-- the highest bits of a number of 64
abbrev pub highest : (width x : ℕ) → ℕ
highest width x = x / 2 ^ (64 - width)

-- ---- the events of a round, where x was the last number drawn; and the number drawn last behind it

-- one draw for each of these
abbrev pub after : List Signal → (x : ℕ) → ℕ
after [] x = x
after (signal ∷ signals) x = after signals (draw x)

-- a known Set of each signal, the first of which has this number
abbrev pub sets_from : (number : ℕ) → List Signal → (x : ℕ) → List Event
sets_from number [] x = []
sets_from number (signal ∷ signals) x = Set number (Some (highest signal.width (draw x))) ∷ sets_from (number + 1) signals (draw x)

-- a known value for each argument
abbrev pub values_of : List Signal → (x : ℕ) → List (Option ℕ)
values_of [] x = []
values_of (arg ∷ args) x = Some (highest arg.width (draw x)) ∷ values_of args (draw x)

abbrev pub after_samples : List InstInfo → (x : ℕ) → ℕ
after_samples [] x = x
after_samples (inst ∷ instances) x = after_samples instances (after inst.args x)

-- a Sample of each instance, the first of which has this number
abbrev pub samples_from : (number : ℕ) → List InstInfo → (x : ℕ) → List Event
samples_from number [] x = []
samples_from number (inst ∷ instances) x = Sample number (values_of inst.args x) ∷ samples_from (number + 1) instances (after inst.args x)

unfoldable pub round : Design → (x : ℕ) → List Event
round d x = sets_from 0 d.signals x ++ samples_from 0 d.instances (after d.signals x)

unfoldable pub after_round : Design → (x : ℕ) → ℕ
after_round d x = after_samples d.instances (after d.signals x)

-- ---- records

-- the events of so many rounds
abbrev pub rounds_from : Design → (rounds : ℕ) → (x : ℕ) → List Event
rounds_from d zero x = []
rounds_from d (suc rounds) x = round d x ++ rounds_from d rounds (after_round d x)

abbrev pub has_args : InstInfo → Bool
has_args inst = not (length inst.args == 0)

-- arguments need version 2
abbrev pub version_of : Design → ℕ
version_of d = if list_any has_args d.instances then 2 else 1

-- what the record of a test says before its events
unfoldable pub start_of : Design → (seed rounds test : ℕ) → Start
start_of d seed rounds test = record { version = version_of d; id = codes "t" ++ decimal test; status = 0; seed = seed; time = rounds; user = codes "make"; signals = signals_of d; instances = instances_of d (version_of d) }

-- the events of the record of a test
unfoldable pub events_of : Design → (seed rounds test : ℕ) → List Event
events_of d seed rounds test = rounds_from d rounds (first_number seed test)
