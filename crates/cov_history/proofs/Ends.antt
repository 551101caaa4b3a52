-- What a Stop, a repeated record, an exclusion and a proof of legality change.
use Rattle.std.proofs.Common.{◌≡◌, ℕ, ◌+◌, Bool, true, false, ◌&&◌, not, List, [], ◌∷◌, ◌++◌, map, refl, sym, ap, ◌∙◌, true≢false, Some, is_none}
use Rattle.std.specs.Prelude.{filter, bytes_eq, if◌then◌else◌}
use Rattle.std.proofs.Props.{props}
use Rattle.std.proofs.lemmas.List.{map-append}
use Rattle.sha2.specs.Sha256.{sha256}
use Rattle.design_data.specs.declared.design.Design.{Design}
use Rattle.record_codec.specs.declared.record.Record.{Record}
use Rattle.record_codec.specs.Spelling.{spelling}
use Rattle.ucis_model.specs.declared.answers.Answer.{Answer}
use Rattle.ucis_model.specs.declared.answers.Answer.TheVariants as answers
use Rattle.cov_history.specs.declared.entry.Event.{Event}
use Rattle.cov_history.specs.declared.entry.Event.TheVariants.{Admit, Exclude, Include, Revise, Stop}
use Rattle.cov_history.specs.declared.entry.Entry.{Entry}
use Rattle.cov_history.specs.declared.asks.Ask.TheVariants as ask
use Rattle.cov_history.specs.History.{Test, design_of, design_after, tests_in, tests_from, hits_of, has_stop, suits, passed, may_follow, legal_from, is_legal}
use Rattle.cov_history.specs.Answers.{admit_by, admit_at, by, entries_of, is_made, table, unless_stopped, answer_at, made}
use Rattle.cov_history.specs.Steps.{admitted}
use Rattle.cov_history.specs.Laws.{LegalIsOne, is_exclusion, ExclusionsChangeNoCount, RepeatsAreHere, NothingAfterStop}
use Rattle.cov_history.proofs.Bools.{by_bool, and_false}
use Rattle.cov_history.proofs.Snoc.{admitted_is}
use Rattle.cov_history.proofs.Undoing.{itself, legal_append}

pub legal_is_one : LegalIsOne
legal_is_one opening h = hlevel props

-- ---- exclusions

abbrev others : List Entry → List Entry
others h = filter (λ e. not (is_exclusion e.event)) h

-- an exclusion is neither a revision nor a test
keeps_design : (d : Design) (e : Event) → is_exclusion e ≡ true → design_after d e ≡ d
keeps_design d (Exclude path) x = refl
keeps_design d (Include path) x = refl
keeps_design d (Admit r) x = refl
keeps_design d (Revise revision) x = absurd (true≢false (sym x))
keeps_design d Stop x = refl

adds_none : (e : Event) → is_exclusion e ≡ true → admitted e ≡ []
adds_none (Exclude path) x = refl
adds_none (Include path) x = refl
adds_none (Admit r) x = absurd (true≢false (sym x))
adds_none (Revise revision) x = refl
adds_none Stop x = refl

design_others : (d : Design) (h : List Entry) → design_of d (others h) ≡ design_of d h
design_others d [] = refl
design_others d (e ∷ es) =
    let rest = design_others (design_after d e.event) es in
    let skip = design_others d es in
    by_bool (is_exclusion e.event)
    (λ out. let f : others (e ∷ es) ≡ others es = rw out refl in ap (design_of d) f ∙ skip ∙ ap (λ (x : Design). design_of x es) (sym (keeps_design d e.event out)))
    (λ in_. let f : others (e ∷ es) ≡ e ∷ others es = rw in_ refl in ap (design_of d) f ∙ rest)

-- the records, without the tests' points
abbrev records_from : ℕ → List Entry → List Record
records_from point h = map (λ (t : Test). t.content) (tests_from point h)

records_cons : (point : ℕ) (e : Entry) (es : List Entry) → records_from point (e ∷ es) ≡ admitted e.event ++ records_from (point + 1) es
records_cons point e es = map-append (λ (t : Test). t.content) (tests_in (point + 1) e.event) (tests_from (point + 1) es) ∙ ap (λ rs. rs ++ records_from (point + 1) es) (admitted_is (point + 1) e.event)

records_at : (point other : ℕ) (h : List Entry) → records_from point h ≡ records_from other h
records_at point other [] = refl
records_at point other (e ∷ es) = records_cons point e es ∙ ap (λ rs. admitted e.event ++ rs) (records_at (point + 1) (other + 1) es) ∙ sym (records_cons other e es)

records_others : (point : ℕ) (h : List Entry) → records_from point (others h) ≡ records_from point h
records_others point [] = refl
records_others point (e ∷ es) =
    let rest = records_others (point + 1) es in
    by_bool (is_exclusion e.event)
    (λ out. let f : others (e ∷ es) ≡ others es = rw out refl in
    ap (records_from point) f ∙ records_at point (point + 1) (others es) ∙ rest ∙ sym (records_cons point e es ∙ ap (λ rs. rs ++ records_from (point + 1) es) (adds_none e.event out)))
    (λ in_. let f : others (e ∷ es) ≡ e ∷ others es = rw in_ refl in
    ap (records_from point) f ∙ records_cons point e (others es) ∙ ap (λ rs. admitted e.event ++ rs) rest ∙ sym (records_cons point e es))

pub no_count : ExclusionsChangeNoCount
no_count opening h bin = let d = design_others opening h in let c = records_others 0 h in λ i. hits_of (d i) (c i) bin

-- ---- records that are there

here_by : (opening : Design) (h : List Entry) (since : ℕ) (e : Entry) (r : Record) (t : Test) → spelling t.content ≡ spelling r → admit_by opening h since e r (Some t) ≡ answers.Here t.point
here_by opening h since e r t same =
    let is : bytes_eq (spelling t.content) (spelling r) ≡ true = ap (λ bytes. bytes_eq (spelling t.content) bytes) (sym same) ∙ itself (spelling t.content) in
    ap (λ b. if b then answers.Here t.point else answers.IdTaken (sha256 (spelling t.content))) is

nothing_stopped : (stop : Bool) (point : ℕ) → (if stop && false then answers.Stopped else answers.Here point) ≡ answers.Here point
nothing_stopped true point = refl
nothing_stopped false point = refl

pub repeats : RepeatsAreHere
unfolding table
repeats opening h caller since r t k same =
    let x : admit_at opening h since (by caller (Admit r)) r ≡ answers.Here t.point = ap (admit_by opening h since (by caller (Admit r)) r) k ∙ here_by opening h since (by caller (Admit r)) r t same in
    let a : answer_at opening h caller (ask.Admit since r) ≡ answers.Here t.point = ap (unless_stopped h) x ∙ nothing_stopped (has_stop h) t.point in
    record {
      answer = a;
      no_entry = ap (made caller (ask.Admit since r)) a;
    }

-- ---- the end

none_made : (h : List Entry) (x : Answer) → has_stop h ≡ true → is_made (unless_stopped h x) ≡ false
none_made h x s = by_bool (is_made x) (λ m. rw (s, m) refl) (λ m. rw (s, m) m)

pub ended : NothingAfterStop
ended opening h s = record {
  no_entry = λ caller a. ap (λ b. if b then entries_of caller a else []) (none_made h (table opening h caller a) s);
  none_follows = λ e es.
      let last : may_follow opening h e ≡ false = ap (λ b. not b && (suits opening h e.event && is_none (passed opening (h ++ e ∷ [])))) s in
      legal_append opening [] h (e ∷ es) ∙ ap (λ b. is_legal opening h && (b && legal_from opening (h ++ e ∷ []) es)) last ∙ and_false (is_legal opening h);
}
