-- The steps of filling a store, one after the other.
use Rattle.std.proofs.Common.{◌≡◌, ℕ, ◌+◌, ◌≤◌, List, [], ◌∷◌, ◌++◌, Bool, true, false, Option, Some, None, Result, Ok, Err, inl, inr, refl, sym, ap, subst, ◌∙◌, arith}
use Rattle.std.specs.Prelude.{if◌then◌else◌}
use Rattle.cov_ground.specs.Limits.{longest_record}
use Rattle.design_data.specs.declared.design.Design.{Design}
use Rattle.record_codec.specs.declared.record.Record.{Record}
use Rattle.cov_history.specs.declared.entry.Entry.{Entry}
use Rattle.merge_store.specs.declared.store.Store.{Store}
use Rattle.merge_store.specs.Stores.{opening_of, entries_of}
use Rattle.covd_commands.specs.declared.stop.Stop.{Stop}
use Rattle.covd_commands.specs.declared.stop.Stop.TheVariants.{Memory, Refused}
use Rattle.covd_commands.specs.declared.answer.Answer.{Answer}
use Rattle.covd_commands.specs.declared.status.Status.{Status}
use Rattle.covd_commands.specs.Options.{Options}
use Rattle.covd_commands.specs.FromFiles.{Files}
use Rattle.covd_commands.specs.Finding.{Origin, File, Made, Finds, FindsNone, IsFound}
use Rattle.covd_commands.proofs.Unread.{not_loaded, not_loaded_until}
use Rattle.covd_filling.specs.declared.admitting.Taking.{Taking}
use Rattle.covd_filling.specs.declared.admitting.Taking.TheVariants as taking
use Rattle.covd_filling.specs.declared.leaving.Left.{Left}
use Rattle.covd_filling.specs.Admission.{behind}
use Rattle.covd_filling.specs.Outcomes.{Outcome, Taken, Unpassed, may_pass, Becomes, Filled, nothing_yet, with_taken, with_left, passes_on, EndsBy, Shown, Prints, Fills}
use Rattle.covd_filling.specs.Outcomes.{Refused as NotTaken}
use Rattle.covd_filling.specs.Left.{left_line, name_of, ended_cause, refusal_cause}
use Rattle.covd_filling.specs.Steps.{IsPlain, Admits, Takes, Notes, filled_of, Leads, Stops, IsFilled, IsStored}
use Rattle.covd_filling.proofs.Admissions.{plain_more, same_plain}

-- ---- one record

module _ (passed : Bool) (files : Files) (before now : ℕ) (d : Design) (k : ℕ) (h : List Entry) (origin : Origin) where
  pub unfound : (stop : Stop) → IsFound files before now d k origin (Err stop) → Takes passed files before now d k h origin h (Err stop)
  unfound (Refused a) u = (inl u, refl)
  unfound Memory u = tt

  pub unpassed : (r : Record) → Finds files d k origin r → may_pass passed r ≡ false → Takes passed files before now d k h origin h (Ok (taking.Unpassed r.status))
  unpassed r f fails = ((r, f, fails, refl), refl)

  module _ (after : List Entry) (r : Record) (f : Finds files d k origin r) (may : may_pass passed r ≡ true) where
    pub unadmitted : (stop : Stop) → Admits d k h r after (Err stop) → Takes passed files before now d k h origin after (Err stop)
    unadmitted (Refused a) u = (inr (r, f, may, u.1, u.0), u.2)
    unadmitted Memory u = tt

    pub taken : Admits d k h r after (Ok tt) → Takes passed files before now d k h origin after (Ok taking.Taken)
    taken u = (r, (f, may, u.0), u.1)

-- ---- the count of faults, looked at from an earlier time, or at a later one

none_within : (files : Files) (before middle now last : ℕ) (d : Design) (k : ℕ) (origin : Origin) (s : Status) (text : List ℕ) → before ≤ middle → now ≤ last → FindsNone files middle now d k origin s text → FindsNone files before last d k origin s text
none_within files before middle now last d k (File name) s text le ge n = elim n [
  | inl a ↦ inl (not_loaded_until files before now last name longest_record s text ge (not_loaded files before middle now name longest_record s text le a))
  | inr a ↦ inr a
]
none_within files before middle now last d k (Made seed rounds) s text le ge n = n

becomes_within : (passed : Bool) (files : Files) (before middle now last : ℕ) (d : Design) (k : ℕ) (h : List Entry) (origin : Origin) (outcome : Outcome) → before ≤ middle → now ≤ last
    → Becomes passed files middle now d k h origin outcome → Becomes passed files before last d k h origin outcome
becomes_within passed files before middle now last d k h origin (Taken r) le ge b = b
becomes_within passed files before middle now last d k h origin (Unpassed status) le ge b = b
becomes_within passed files before middle now last d k h origin (NotTaken s line) le ge b = elim b [
  | inl a ↦ inl (none_within files before middle now last d k origin s line le ge a)
  | inr a ↦ inr a
]

ends_alike : (P Q : Filled → Type 0) → ((f : Filled) → P f → Q f) → (s : Status) (text : List ℕ) (r : Result Filled (Status × List ℕ)) → EndsBy P s text r → EndsBy Q s text r
ends_alike P Q each s text (Ok f) e = each f e
ends_alike P Q each s text (Err end) e = e

-- the answer where the count of faults is looked at from an earlier time
pub fills_from : (shown : Shown) (options : Options) (files : Files) (before middle now : ℕ) (d : Design) (origins : List Origin) (k : ℕ) (f : Filled) (s : Status) (text : List ℕ) → before ≤ middle
    → Fills shown options files middle now d k f origins s text → Fills shown options files before now d k f origins s text
fills_from shown options files before middle now d [] k f s text le a = a
fills_from shown options files before middle now d (origin ∷ later) k f s text le a = (
  a.0,
  becomes_within options.passed files before middle now now d k f.history origin a.0 le (omega arith) a.1,
  ends_alike _ _ (λ g b. fills_from shown options files before middle now d later (k + 1) g s text le b) s text (passes_on options d k origin f a.0) a.2,
)

-- ---- what a step makes of what has come so far

module _ (options : Options) (files : Files) (before now : ℕ) (d : Design) (k : ℕ) (s t : Store) (origin : Origin) (l m : Left) where
  -- it goes on with this
  pub record Passes : Type 0 where
    pub outcome : Outcome
    pub becomes : Becomes options.passed files before now d k (entries_of s) origin outcome
    pub on : passes_on options d k origin (filled_of s l) outcome ≡ Ok (filled_of t m)

  pub step : (given : Result Taking Stop) → Takes options.passed files before now d k (entries_of s) origin (entries_of t) given → Notes options.keep_going k origin l m given (Ok tt) → Passes
  step (Ok taking.Taken) a n = record {
    outcome = Taken a.0;
    becomes = a.1;
    on = λ i. Ok (record { history = sym a.2 i; left = (sym n i).text.items; partly = (sym n i).partly });
  }
  step (Ok (taking.Unpassed status)) a n = record {
    outcome = Unpassed status;
    becomes = a.0;
    on = λ i. Ok (record { history = sym a.1 i; left = sym n.text i; partly = sym n.partly i });
  }
  step (Err (Refused a)) b n = record {
    outcome = NotTaken a.status a.text.items;
    becomes = b.0;
    on =
        let name = name_of origin k in
        let more = with_left (filled_of s l) (left_line k (refusal_cause a.status k name a.text.items) name) true in
        ap (λ (keep : Bool). if keep then Ok more else Err (a.status, a.text.items)) n.0
        ∙ (λ i. Ok (record { history = sym b.1 i; left = sym n.1.text i; partly = sym n.1.partly i }));
  }
  step (Err Memory) b n = absurd n

  -- no entry changes the design
  pub plain : IsPlain d s → opening_of t ≡ opening_of s → (given : Result Taking Stop) → Takes options.passed files before now d k (entries_of s) origin (entries_of t) given → Notes options.keep_going k origin l m given (Ok tt) → IsPlain d t
  plain p o (Ok taking.Taken) a n = plain_more d s t a.0 p o a.2
  plain p o (Ok (taking.Unpassed status)) a n = same_plain d s t p o a.1
  plain p o (Err (Refused a)) b n = same_plain d s t p o b.1
  plain p o (Err Memory) b n = absurd n

  -- the command ends so
  abbrev pub IsEnd : Stop → Type 0
  IsEnd (Refused b) =
      Becomes options.passed files before now d k (entries_of s) origin (NotTaken b.status b.text.items)
      × (passes_on options d k origin (filled_of s l) (NotTaken b.status b.text.items) ≡ Err (b.status, b.text.items))
  IsEnd Memory = Unit {0}

  pub ended : (stop : Stop) (given : Result Taking Stop) → Takes options.passed files before now d k (entries_of s) origin (entries_of t) given → Notes options.keep_going k origin l m given (Err stop) → IsEnd stop
  ended Memory given x n = tt
  ended (Refused b) (Ok taking.Taken) x n = absurd n
  ended (Refused b) (Ok (taking.Unpassed status)) x n = absurd n
  ended (Refused b) (Err Memory) x n = absurd n
  ended (Refused b) (Err (Refused a)) x n =
      let name = name_of origin k in
      let more = with_left (filled_of s l) (left_line k (refusal_cause a.status k name a.text.items) name) true in
      subst (λ (c : Answer). IsEnd (Refused c)) (sym n.1) (x.0, ap (λ (keep : Bool). if keep then Ok more else Err (a.status, a.text.items)) n.0)

-- ---- all of them

-- what becomes of the records from here on is the answer, whatever is shown at the end, at any later count of faults
pub record SoFar (options : Options) (files : Files) (before now : ℕ) (d : Design) (origins : List Origin) (k : ℕ) (f : Filled) (rest : List Origin) : Type 0 where
  pub leads : (shown : Shown) (last : ℕ) → now ≤ last → (s : Status) (text : List ℕ) → Fills shown options files before last d k f rest s text → Fills shown options files before last d 1 nothing_yet origins s text

module _ (options : Options) (files : Files) (before now : ℕ) (d : Design) (origins : List Origin) where
  pub begins : (f : Filled) → f ≡ nothing_yet → SoFar options files before now d origins 1 f origins
  begins f e = record { leads = λ shown last le s text a. subst (λ (x : Filled). Fills shown options files before last d 1 x origins s text) e a }

  module _ (k : ℕ) (rest : List Origin) where
    -- no record is left
    pub ends : (f : Filled) → SoFar options files before now d origins k f rest → rest ≡ [] → Leads options files before now d origins f
    ends f so e = record {
      ends = λ shown last le s text p. so.leads shown last le s text (subst (λ (xs : List Origin). Fills shown options files before last d k f xs s text) (sym e) p);
    }

    module _ (s t : Store) (l m : Left) (so : SoFar options files before now d origins k (filled_of s l) rest) (middle later-now : ℕ) (le : before ≤ middle) (ge : now ≤ later-now) (origin : Origin) (later : List Origin) (is : rest ≡ origin ∷ later) where
      -- the next record is taken in or left out
      pub goes_on : Passes options files middle later-now d k s t origin l m → SoFar options files before later-now d origins (k + 1) (filled_of t m) later
      goes_on p = record {
        leads = λ shown last from st text fills.
            let next : EndsBy (λ (g : Filled). Fills shown options files before last d (k + 1) g later st text) st text (passes_on options d k origin (filled_of s l) p.outcome) =
            subst (λ (r : Result Filled (Status × List ℕ)). EndsBy (λ (g : Filled). Fills shown options files before last d (k + 1) g later st text) st text r) (sym p.on) fills in
            let all : Fills shown options files before last d k (filled_of s l) (origin ∷ later) st text =
            (p.outcome, becomes_within options.passed files before middle later-now last d k (entries_of s) origin p.outcome le from p.becomes, next) in
            so.leads shown last (omega (arith, ge, from)) st text (subst (λ (xs : List Origin). Fills shown options files before last d k (filled_of s l) xs st text) (sym is) all);
      }

      -- the command ends
      pub stops : (stop : Stop) → IsEnd options files middle later-now d k s t origin l m stop → Stops options files before later-now d origins stop
      stops Memory e = tt
      stops (Refused a) e = λ shown.
          let refused = NotTaken a.status a.text.items in
          let next : EndsBy (λ (g : Filled). Fills shown options files before later-now d (k + 1) g later a.status a.text.items) a.status a.text.items (passes_on options d k origin (filled_of s l) refused) =
          subst (λ (r : Result Filled (Status × List ℕ)). EndsBy (λ (g : Filled). Fills shown options files before later-now d (k + 1) g later a.status a.text.items) a.status a.text.items r) (sym e.1) (refl, refl) in
          let all : Fills shown options files before later-now d k (filled_of s l) (origin ∷ later) a.status a.text.items =
          (refused, becomes_within options.passed files before middle later-now later-now d k (entries_of s) origin refused le (omega arith) e.0, next) in
          so.leads shown later-now ge a.status a.text.items (subst (λ (xs : List Origin). Fills shown options files before later-now d k (filled_of s l) xs a.status a.text.items) (sym is) all)
