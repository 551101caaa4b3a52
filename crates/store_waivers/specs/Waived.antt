-- What a team's waivers make of a history: it goes on with an Exclude, by caller 0, of each node that one of them
-- matches.
use Rattle.std.specs.Prelude.{◌≡◌, ℕ, List, [], ◌∷◌, ◌++◌, map, Result, Ok, Err}
use Rattle.std.specs.List.{flat_map}
use Rattle.design_data.specs.declared.design.Design.{Design}
use Rattle.ucis_model.specs.declared.node.Node.{Node}
use Rattle.ucis_model.specs.declared.answers.Which.{Which}
use Rattle.ucis_model.specs.declared.answers.Answer.{Answer}
use Rattle.ucis_model.specs.declared.answers.Answer.TheVariants as answers
use Rattle.ucis_model.specs.Paths.{path_of}
use Rattle.cov_history.specs.declared.entry.Entry.{Entry}
use Rattle.cov_history.specs.declared.entry.Event.TheVariants as event
use Rattle.cov_history.specs.Answers.{nodes_at, exclude_at, by}
use Rattle.waivers.specs.declared.waiver.Waiver.{Waiver}
use Rattle.waivers.specs.Waived.{waived}
use Rattle.store_waivers.specs.declared.fault.WaiveFault.{WaiveFault}
use Rattle.store_waivers.specs.declared.fault.WaiveFault.TheVariants.{Full, Memory}

-- a limit that would be passed: the amount now, and the one afterwards
pub record Limit : Type 0 where
  pub which : Which
  pub have : ℕ
  pub want : ℕ

-- the paths of the nodes that a waiver leaves out, in the order of the nodes
abbrev pub paths_waived : List Node → Waiver → List (List ℕ)
paths_waived nodes waiver = map (path_of nodes) (waived waiver.pattern nodes)

-- ---- one Exclude

-- what the Exclude of a path by caller 0 is answered
abbrev pub exclusion : (opening : Design) → List Entry → (path : List ℕ) → Answer
exclusion opening h path = exclude_at opening h (by 0 (event.Exclude path)) path

-- the history behind it: longer where it is Changed, and as it was where the node is out already; or the limit
abbrev pub behind_answer : List Entry → (path : List ℕ) → Answer → Result (List Entry) Limit
behind_answer h path answers.Changed = Ok (h ++ by 0 (event.Exclude path) ∷ [])
behind_answer h path (answers.Full which have want) = Err (record { which = which; have = have; want = want })
behind_answer h path other = Ok h

unfoldable pub behind_exclude : (opening : Design) → List Entry → (path : List ℕ) → Result (List Entry) Limit
behind_exclude opening h path = behind_answer h path (exclusion opening h path)

-- ---- all of them, one after the other

infixl 10 ◌>>=◌
abbrev pub ◌>>=◌ : {A B : Type 0} → Result A Limit → (A → Result B Limit) → Result B Limit
(Ok x) >>= f = f x
(Err limit) >>= f = Err limit

abbrev pub excluding : (opening : Design) → List Entry → List (List ℕ) → Result (List Entry) Limit
excluding opening h [] = Ok h
excluding opening h (path ∷ paths) = do
  more ← behind_exclude opening h path
  excluding opening more paths

-- of each waiver in turn, the nodes that it leaves out of the design of the history
unfoldable pub waiving : (opening : Design) → List Entry → List Waiver → Result (List Entry) Limit
waiving opening h waivers = excluding opening h (flat_map (paths_waived (nodes_at opening h)) waivers)

-- ---- what calls owe

-- a fault that was told is the limit that is given, unless memory ran out
abbrev pub IsLimit : (given : Result (List Entry) Limit) → WaiveFault → Type 0
IsLimit given (Full which have want) = given ≡ Err (record { which = which; have = have; want = want })
IsLimit given Memory = Unit {0}

-- the entries after a call are those that are given, or its fault is
abbrev pub Waives : {A : Type 0} → Result A WaiveFault → (after : List Entry) → Result (List Entry) Limit → Type 0
Waives (Ok x) after given = given ≡ Ok after
Waives (Err fault) after given = IsLimit given fault
