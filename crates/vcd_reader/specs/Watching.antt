-- The events of instances (IEEE 1800-2017, 19.3), bound to the signals that they watch.
use Rattle.std.specs.Prelude.{ℕ, List, [], ◌∷◌, ◌++◌, ◌+◌, ◌-◌, ◌==◌, nat_eq, true, false, Option, Some, None, Result, Ok, Err, Bool, if◌then◌else◌}
use Rattle.std.specs.List.{list_any}
use Rattle.cov_tree.specs.declared.expr.Expr.{Expr}
use Rattle.cov_tree.specs.declared.groups.EdgeText.{EdgeText}
use Rattle.cov_tree.specs.declared.declarations.Decl.{Decl}
use Rattle.cov_tree.specs.declared.declarations.Decl.TheVariants as decls
use Rattle.const_eval.specs.declared.meaning.Meaning.{Meaning}
use Rattle.const_eval.specs.declared.meaning.Meaning.TheVariants.{Signal, Const}
use Rattle.const_eval.specs.declared.fault.BindFault.{BindFault}
use Rattle.const_eval.specs.Scopes.{Names, meaning_of}
use Rattle.const_eval.specs.Terms.{Term}
use Rattle.const_eval.specs.Binding.{bound_of}
use Rattle.vcd_reader.specs.declared.watching.Watch.{Watch}
use Rattle.vcd_reader.specs.declared.watching.Watches.{Watches}

-- the number of the signal that a name stands for: that of a variable or of a `ref` formal
abbrev pub signal_named : Option Meaning → Option ℕ
signal_named None = None
signal_named (Some (Signal index typ low)) = Some index
signal_named (Some (Const value typ low)) = None

abbrev pub bound_guard : Result Term BindFault → Option (Option Term)
bound_guard (Ok term) = Some (Some term)
bound_guard (Err fault) = None

-- a condition, where one is written and its names can be bound
abbrev pub guard_in : Names → Option Expr → Option (Option Term)
guard_in names None = Some None
guard_in names (Some guard) = bound_guard (bound_of names guard)

abbrev pub watch_of : EdgeText → Option ℕ → Option (Option Term) → Option Watch
watch_of edge None guard = None
watch_of edge (Some signal) None = None
watch_of edge (Some signal) (Some guard) = Some (record { kind = edge.kind; signal = signal; guard = guard })

-- an edge with what its names stand for
unfoldable pub watched : Names → EdgeText → Option Watch
watched names edge = watch_of edge (signal_named (meaning_of names edge.name)) (guard_in names edge.guard)

-- the edges with what their names stand for, behind those that are there; none where one of them can't be watched
abbrev pub all_watched : Names → List EdgeText → List Watch → Option (List Watch)
all_watched names [] found = Some found
all_watched names (edge ∷ edges) found = elim (watched names edge) [ None ↦ None | Some watch ↦ all_watched names edges (found ++ watch ∷ []) ]

abbrev pub is_group : Decl → Bool
is_group (decls.Group name formals event args members at) = true
is_group (decls.Enum name base names at) = false
is_group (decls.Var typ name at) = false
is_group (decls.Instance of_group name args at) = false

abbrev pub own_event : Decl → List EdgeText
own_event (decls.Group name formals event args members at) = event
own_event (decls.Enum name base names at) = []
own_event (decls.Var typ name at) = []
own_event (decls.Instance of_group name args at) = []

-- where a declaration begins
abbrev pub place_of : Decl → ℕ
place_of (decls.Group name formals event args members at) = at
place_of (decls.Enum name base names at) = at
place_of (decls.Var typ name at) = at
place_of (decls.Instance of_group name args at) = at

-- the event of a group by its number in the text
abbrev pub group_event : List Decl → (group : ℕ) → List EdgeText
group_event [] group = []
group_event (decl ∷ text) group = if is_group decl then (if group == 0 then own_event decl else group_event text (group - 1)) else group_event text group

-- one instance more: its edges, or that its group is at fault
abbrev pub with_event : Watches → (group : ℕ) → Option (List Watch) → Watches
with_event found group None = record { events = found.events ++ [] ∷ []; bad = found.bad ++ group ∷ [] }
with_event found group (Some event) = record found { events = found.events ++ event ∷ [] }

-- where the first group begins that is one of these; groups are counted from this number
abbrev pub first_of : (bad : List ℕ) → List Decl → (group : ℕ) → Option ℕ
first_of bad [] group = None
first_of bad (decl ∷ text) group = if is_group decl then (if list_any (nat_eq group) bad then Some (place_of decl) else first_of bad text (group + 1)) else first_of bad text group
