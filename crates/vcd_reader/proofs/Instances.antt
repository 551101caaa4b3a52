-- Events of instances.
use Rattle.std.proofs.Common.{◌≡◌, ℕ, ◌+◌, List, [], ◌∷◌, ◌++◌, length, true, false, Option, Some, None, Result, Ok, Err, refl, sym, ap, ◌∙◌, arith}
use Rattle.std.specs.Prelude.{◌==◌}
use Rattle.std.proofs.lemmas.List.{length_push}
use Rattle.std.proofs.lemmas.Bool.{eqb-true}
use Rattle.cov_tree.specs.declared.groups.EdgeText.{EdgeText}
use Rattle.cov_tree.specs.declared.declarations.Decl.{Decl}
use Rattle.cov_tree.specs.declared.declarations.DesignText.{DesignText}
use Rattle.const_eval.specs.Scopes.{Levels, names_of}
use Rattle.design_data.specs.declared.infos.InstInfo.{InstInfo}
use Rattle.design_data.specs.declared.infos.Signal.{Signal}
use Rattle.elab_base.specs.Gives.{Refusal}
use Rattle.cov_design.specs.Events.{event_levels}
use Rattle.vcd_dump.specs.declared.header.Code.{Code}
use Rattle.vcd_dump.specs.declared.fault.DumpFault.{DumpFault}
use Rattle.vcd_reader.specs.declared.watching.Watch.{Watch}
use Rattle.vcd_reader.specs.declared.watching.Watches.{Watches}
use Rattle.vcd_reader.specs.Refusals.{◌>>=◌, each}
use Rattle.vcd_reader.specs.Signals.{code_for, add_code, codes_of}
use Rattle.vcd_reader.specs.Watching.{all_watched, with_event, first_of}
use Rattle.vcd_reader.specs.Events.{watched_in, event_watched, add_event, all_events}
use Rattle.vcd_reader.specs.Records.{nothing_found, unless_bad, watches_of}

pub watched_is : (text : List Decl) (instance : ℕ) (levels : Levels) (edges : List EdgeText) → event_levels text instance ≡ Ok levels
    → watched_in (event_levels text instance) edges ≡ all_watched (names_of levels) edges []
watched_is text instance levels edges e = ap (λ (given : Result Levels Refusal). watched_in given edges) e

pub none_written : (text : List Decl) (instance : ℕ) (edges : List EdgeText) → (length edges == 0) ≡ true → event_watched text instance edges ≡ Some []
none_written text instance [] e = refl
none_written text instance (edge ∷ edges) e = absurd (omega (arith, eqb-true (length (edge ∷ edges)) 0 e))

pub some_written : (text : List Decl) (instance : ℕ) (edges : List EdgeText) → (length edges == 0) ≡ false → event_watched text instance edges ≡ watched_in (event_levels text instance) edges
some_written text instance [] e = absurd cc
some_written text instance (edge ∷ edges) e = refl

longer_by : (found : Watches) (group : ℕ) (event : Option (List Watch)) → length (with_event found group event).events ≡ length found.events + 1
longer_by found group None = length_push found.events []
longer_by found group (Some event) = length_push found.events event

pub one_longer : (text : List Decl) (instance : InstInfo) (found : Watches) → length (add_event text instance found).events ≡ length found.events + 1
unfolding add_event
one_longer text instance found = longer_by found _ _

events_long : (text : List Decl) (instances : List InstInfo) (found : Watches) → length (all_events text instances found).events ≡ length found.events + length instances
events_long text [] found = omega arith
events_long text (instance ∷ instances) found =
    let one = one_longer text instance found in
    let rest = events_long text instances (add_event text instance found) in
    omega (arith, one, rest)

bad_is : (bad : Option ℕ) (all found : Watches) → unless_bad bad all ≡ Ok found → all ≡ found
bad_is None all found e = cc
bad_is (Some at) all found e = absurd cc

-- each instance has its event
pub watches_long : (text : DesignText) (instances : List InstInfo) (found : Watches) → watches_of text instances ≡ Ok found → length found.events ≡ length instances
unfolding watches_of
watches_long text instances found e =
    let all = all_events text.decls instances nothing_found in
    let is : all ≡ found = bad_is (first_of all.bad text.decls 0) all found e in
    let long = events_long text.decls instances nothing_found in
    let same = ap (λ (w : Watches). length w.events) is in
    omega (arith, long, same)

each_ok : {A B : Type 0} (given : Result A DumpFault) (f : A → Result B DumpFault) (y : B) → (given >>= f) ≡ Ok y → (x : A) × (given ≡ Ok x) × (f x ≡ Ok y)
each_ok (Ok x) f y e = (x, refl, e)
each_ok (Err fault) f y e = absurd cc

added_is : (given : Result ℕ DumpFault) (found more : List ℕ) → (given >>= λ code. Ok (found ++ code ∷ [])) ≡ Ok more → length more ≡ length found + 1
added_is (Ok code) found more e = let is : found ++ code ∷ [] ≡ more = cc in ap length (sym is) ∙ length_push found code
added_is (Err fault) found more e = absurd cc

each_longer : (find : List ℕ → Option Code) (signals : List Signal) (found codes : List ℕ) → each (add_code find) signals found ≡ Ok codes → length codes ≡ length found + length signals
unfolding each add_code
each_longer find [] found codes e = let is : found ≡ codes = cc in let same = ap length is in omega (arith, same)
each_longer find (signal ∷ signals) found codes e =
    let b = each_ok (add_code find signal found) (each (add_code find) signals) codes e in
    let one = added_is (code_for (find signal.name) (length found) signal.width) found b.0 b.1 in
    let rest = each_longer find signals b.0 codes b.2 in
    omega (arith, one, rest)

-- each signal has its code
pub codes_long : (find : List ℕ → Option Code) (signals : List Signal) (codes : List ℕ) → codes_of find signals ≡ Ok codes → length codes ≡ length signals
unfolding codes_of
codes_long find signals codes e = let long = each_longer find signals [] codes e in omega (arith, long)
