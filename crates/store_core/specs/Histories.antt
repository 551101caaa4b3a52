-- What callers know of a history: it is legal, and each revision in it is of a text that declares its design.
use Rattle.std.specs.Prelude.{◌≡◌, ◌≤◌, ℕ, List, length, All, Ok, true}
use Rattle.std.proofs.Props.{props}
use Rattle.cov_ground.specs.Limits.{longest_design}
use Rattle.design_data.specs.declared.design.Design.{Design}
use Rattle.cov_compile.specs.Compiling.{Compiles}
use Rattle.cov_history.specs.declared.entry.Event.{Event}
use Rattle.cov_history.specs.declared.entry.Event.TheVariants.{Admit, Exclude, Include, Revise, Stop}
use Rattle.cov_history.specs.declared.entry.Entry.{Entry}
use Rattle.cov_history.specs.History.{is_legal}

-- a text of at most 1,048,576 bytes declares the design
pub record Declaring (text : List ℕ) (d : Design) : Type 0 where
  pub short : length text ≤ longest_design
  pub design : Compiles text (Ok d)

-- the text of a revision declares its design
abbrev pub IsDeclared : Event → Type 0
IsDeclared (Revise revision) = ∥ Declaring revision.text revision.design ∥₁
IsDeclared other = Unit {0}

-- those of all revisions do
abbrev pub AreDeclared : List Entry → Type 0
AreDeclared h = All (λ e. IsDeclared e.event) h

-- Each entry may follow those before it, and the text of each revision declares its design.
pub record IsHistory (opening : Design) (h : List Entry) : Type 0 where
  pub legal : is_legal opening h ≡ true
  pub declared : AreDeclared h

-- both are known in one way at most
pub IsDeclared-prop : (e : Event) → IsProp (IsDeclared e)
IsDeclared-prop (Admit r) = hlevel props
IsDeclared-prop (Exclude path) = hlevel props
IsDeclared-prop (Include path) = hlevel props
IsDeclared-prop (Revise revision) = hlevel props
IsDeclared-prop Stop = hlevel props

pub IsHistory-prop : (opening : Design) (h : List Entry) → IsProp (IsHistory opening h)
IsHistory-prop opening h = hlevel (props, IsDeclared-prop)
