-- Statuses with which no command ends that fills a store.
use Rattle.std.proofs.Common.{◌≡◌, ℕ, ◌+◌, List, [], ◌∷◌, Bool, true, false, Result, Ok, Err, inl, inr, sym, subst, ◌∙◌}
use Rattle.std.specs.Prelude.{if◌then◌else◌}
use Rattle.cov_ground.specs.Limits.{longest_record}
use Rattle.design_data.specs.declared.design.Design.{Design}
use Rattle.covd_commands.specs.declared.status.Status.{Status}
use Rattle.covd_commands.specs.declared.status.Status.TheVariants as status
use Rattle.covd_commands.specs.Options.{Options}
use Rattle.covd_commands.specs.FromFiles.{Files, NotLoaded}
use Rattle.covd_commands.specs.Finding.{Origin, File, Made, FindsNone}
use Rattle.covd_filling.specs.Left.{left_line, name_of, ended_cause, refusal_cause}
use Rattle.covd_filling.specs.Outcomes.{Outcome, Taken, Unpassed, Refused, Becomes, Filled, with_taken, with_left, passes_on, EndsBy, Shown, Fills}

-- no record is refused with this status
pub record RefusesNone (s : Status) : Type 0 where
  pub refused : s ≡ status.RecordRefused → ⊥
  pub unadmitted : s ≡ status.AdmitRefused → ⊥
  pub unloaded : (files : Files) (before now : ℕ) (name : List ℕ) (most : ℕ) (text : List ℕ) → NotLoaded files before now name most s text → ⊥

module _ {s : Status} (none : RefusesNone s) where
  found : (files : Files) (before now : ℕ) (d : Design) (k : ℕ) (origin : Origin) (text : List ℕ) → FindsNone files before now d k origin s text → ⊥
  found files before now d k (File name) text a = elim a [ inl b ↦ none.unloaded files before now name longest_record text b | inr b ↦ none.refused b.0 ]
  found files before now d k (Made seed rounds) text a = none.unadmitted a.0

  not_so : (options : Options) (files : Files) (before now : ℕ) (d : Design) (k : ℕ) (f : Filled) (origin : Origin) (given : Status) (line : List ℕ) → s ≡ given → Becomes options.passed files before now d k f.history origin (Refused given line) → ⊥
  not_so options files before now d k f origin given line e b = elim b [
    | inl a ↦ found files before now d k origin line (subst (λ (x : Status). FindsNone files before now d k origin x line) (sym e) a)
    | inr a ↦ none.unadmitted (e ∙ a.3)
  ]

  -- a record that is refused is left out, or the command ends with its status
  by_keeping : (options : Options) (files : Files) (before now : ℕ) (d : Design) (k : ℕ) (f : Filled) (origin : Origin) (GoesOn : Filled → Type 0) (text : List ℕ) → ((g : Filled) → GoesOn g → ⊥)
      → (keep : Bool) (g : Filled) (given : Status) (line : List ℕ) → Becomes options.passed files before now d k f.history origin (Refused given line) → EndsBy GoesOn s text (if keep then Ok g else Err (given, line)) → ⊥
  by_keeping options files before now d k f origin GoesOn text later true g given line b e = later g e
  by_keeping options files before now d k f origin GoesOn text later false g given line b e = not_so options files before now d k f origin given line e.0 b

  by_outcome : (options : Options) (files : Files) (before now : ℕ) (d : Design) (k : ℕ) (f : Filled) (origin : Origin) (GoesOn : Filled → Type 0) (text : List ℕ) → ((g : Filled) → GoesOn g → ⊥)
      → (outcome : Outcome) → Becomes options.passed files before now d k f.history origin outcome → EndsBy GoesOn s text (passes_on options d k origin f outcome) → ⊥
  by_outcome options files before now d k f origin GoesOn text later (Taken r) b e = later (with_taken d f r) e
  by_outcome options files before now d k f origin GoesOn text later (Unpassed ended) b e = later (with_left f (left_line k (ended_cause ended) (name_of origin k)) false) e
  by_outcome options files before now d k f origin GoesOn text later (Refused given line) b e =
      by_keeping options files before now d k f origin GoesOn text later options.keep_going (with_left f (left_line k (refusal_cause given k (name_of origin k) line) (name_of origin k)) true) given line b e

  pub fills_none : (shown : Shown) → ((d : Design) (f : Filled) → s ≡ (shown d f).0 → ⊥) → (options : Options) (files : Files) (before now : ℕ) (d : Design) (origins : List Origin) (k : ℕ) (f : Filled) (text : List ℕ) → Fills shown options files before now d k f origins s text → ⊥
  fills_none shown apart options files before now d [] k f text a = apart d f a.0
  fills_none shown apart options files before now d (origin ∷ later) k f text a =
      by_outcome options files before now d k f origin (λ g. Fills shown options files before now d (k + 1) g later s text) text
      (λ g b. fills_none shown apart options files before now d later (k + 1) g text b) a.0 a.1 a.2
