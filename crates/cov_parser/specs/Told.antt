-- What a fault tells of where a reading stopped.
use Rattle.std.specs.Prelude.{ℕ, List, cond}
use Rattle.cov_grammar.specs.declared.marked.Marked.{Marked}
use Rattle.cov_grammar.specs.declared.place.Stop.{Stop}
use Rattle.cov_grammar.specs.declared.place.Stop.TheVariants as stop
use Rattle.cov_grammar.specs.Fault.{is_foreign}
use Rattle.cov_parser.specs.declared.fault.ParseFault.{ParseFault}
use Rattle.cov_parser.specs.declared.fault.ParseFault.TheVariants.{Syntax, NotSupported, TooDeep, Memory}
use Rattle.cov_parser.specs.Parse.{place_of}

-- the fault of a place, by the stop
abbrev pub told : List ℕ → List Marked → Stop → ParseFault
told text ts stop.Memory = Memory
told text ts (stop.Syntax k) = cond (is_foreign ts k) (NotSupported (place_of text ts k)) (Syntax (place_of text ts k))
told text ts (stop.TooDeep k) = TooDeep (place_of text ts k)
