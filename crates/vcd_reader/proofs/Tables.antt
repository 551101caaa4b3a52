-- Tables by code, and moments.
use Rattle.std.proofs.Common.{◌≡◌, ℤ, ℕ, zero, suc, ◌+◌, ◌<◌, ◌≢◌, List, [], ◌∷◌, ◌++◌, length, map, get_or, Bool, true, false, Option, Some, None, refl, sym, ap, subst, ◌∙◌, arith}
use Rattle.std.specs.Prelude.{slice_index_or, slice_set, slice_get, replicate, ◌==◌, if◌then◌else◌}
use mathlib.Core.Bool.{◌||◌}
use Rattle.std.specs.List.{list_any, AllByRecursion}
use Rattle.std.proofs.lemmas.Bool.{eqb-true, eqb-false}
use Rattle.std.proofs.lemmas.Bool.Decides.{nat_tests}
use Rattle.std.proofs.lemmas.Option.{get_or_from_slice_get, slice_get_within}
use Rattle.std.proofs.lemmas.List.{get_or-set_same, get_or-set_other, length-set, get_or-replicate, length-replicate}
use Rattle.record_codec.specs.declared.record.Event.{Event}
use Rattle.vcd_dump.specs.declared.dump.Change.{Change}
use Rattle.vcd_dump.specs.declared.dump.DumpStep.{DumpStep}
use Rattle.vcd_reader.specs.declared.watching.Watch.{Watch}
use Rattle.vcd_reader.specs.declared.held.Held.{Held}
use Rattle.record_codec.specs.declared.record.SignalRow.{SignalRow}
use Rattle.vcd_reader.specs.Held.{unknown, held_by, held_after, held, applied, shown_by, shown}
use Rattle.vcd_reader.specs.Moments.{Moment, has_edge, matches, samples_from, sets_from, moment_with, moment_of, held_by_code, signal_held, values_after, table_events, events_from, events_of}

-- ---- moments

pub none_sampled : (last now : List (Option ℕ)) (samples : List Event) → (length samples == 0) ≡ true → moment_with last now samples ≡ record { events = samples; last = last }
none_sampled last now [] e = refl
none_sampled last now (sample ∷ samples) e = absurd (omega (arith, eqb-true (length (sample ∷ samples)) 0 e))

pub some_sampled : (last now : List (Option ℕ)) (samples : List Event) → (length samples == 0) ≡ false → moment_with last now samples ≡ record { events = sets_from 0 last now ++ samples; last = now }
some_sampled last now [] e = absurd cc
some_sampled last now (sample ∷ samples) e = refl

or_first : (a b : Bool) → (a || b) ≡ false → a ≡ false
or_first true b e = absurd cc
or_first false b e = refl

or_second : (a b : Bool) → (a || b) ≡ false → b ≡ false
or_second true b e = absurd cc
or_second false b e = e

no_match : (env : List (Option ℤ)) (before after : ℕ → Held) (event : List Watch) → list_any (has_edge before after) event ≡ false → list_any (matches env before after) event ≡ false
no_match env before after [] e = refl
no_match env before after (watch ∷ event) e =
    let one = or_first (has_edge before after watch) (list_any (has_edge before after) event) e in
    let rest = no_match env before after event (or_second (has_edge before after watch) (list_any (has_edge before after) event) e) in
    rw (one, rest) refl

pub no_edge : (env : List (Option ℤ)) (before after : ℕ → Held) (instance : ℕ) (events : List (List Watch)) → list_any (list_any (has_edge before after)) events ≡ false
    → samples_from env before after instance events ≡ []
no_edge env before after instance [] e = refl
no_edge env before after instance (event ∷ events) e =
    let one = no_match env before after event (or_first (list_any (has_edge before after) event) (list_any (list_any (has_edge before after)) events) e) in
    let rest = no_edge env before after (instance + 1) events (or_second (list_any (has_edge before after) event) (list_any (list_any (has_edge before after)) events) e) in
    rw (one, rest) refl

-- ---- tables by code

length_applied : (changes : List Change) (table : List Held) → length (applied changes table) ≡ length table
length_applied [] table = refl
length_applied (change ∷ changes) table = length_applied changes (slice_set table change.code (held_by change)) ∙ length-set table change.code (held_by change)

differs : (code other : ℕ) → code ≡ other → (other == code) ≡ false → ⊥
differs code other e is = omega (arith, eqb-false other code is, e)

put_at : (same : Bool) (code : ℕ) (change : Change) (table : List Held) → (change.code == code) ≡ same → code < length table
    → get_or (slice_set table change.code (held_by change)) code unknown ≡ (if same then held_by change else get_or table code unknown)
put_at true code change table is lt =
    let e : change.code ≡ code = grind (arith, nat_tests) in
    let within : change.code < length table = omega arith in
    subst (λ (n : ℕ). get_or (slice_set table change.code (held_by change)) n unknown ≡ held_by change) e (get_or-set_same table change.code (held_by change) unknown within)
put_at false code change table is lt =
    let ne : code ≢ change.code = λ e. absurd (differs code change.code e is) in
    get_or-set_other table change.code code (held_by change) unknown ne

applied_at : (code : ℕ) (changes : List Change) (table : List Held) → code < length table → get_or (applied changes table) code unknown ≡ held_after code changes (get_or table code unknown)
applied_at code [] table lt = refl
applied_at code (change ∷ changes) table lt =
    let more = slice_set table change.code (held_by change) in
    let long : code < length more = subst (λ (n : ℕ). code < n) (sym (length-set table change.code (held_by change))) lt in
    applied_at code changes more long ∙ ap (held_after code changes) (put_at (change.code == code) code change table refl lt)

held_append : (code : ℕ) (xs ys : List Change) (h : Held) → held_after code (xs ++ ys) h ≡ held_after code ys (held_after code xs h)
held_append code [] ys h = refl
held_append code (x ∷ xs) ys h = held_append code xs ys (if x.code == code then held_by x else h)

-- the table shows what these codes hold after these changes
pub record Shows (codes : List ℕ) (table : List Held) (before : List Change) : Type 0 where
  pub within : AllByRecursion (λ code. code < length table) codes
  pub holds : AllByRecursion (λ code. get_or table code unknown ≡ held code before) codes

more_within : (codes : List ℕ) (changes : List Change) (table : List Held) → AllByRecursion (λ code. code < length table) codes → AllByRecursion (λ code. code < length (applied changes table)) codes
more_within [] changes table all = tt
more_within (code ∷ codes) changes table all = (subst (λ (n : ℕ). code < n) (sym (length_applied changes table)) all.0, more_within codes changes table all.1)

more_holds : (codes : List ℕ) (changes before : List Change) (table : List Held) → AllByRecursion (λ code. code < length table) codes → AllByRecursion (λ code. get_or table code unknown ≡ held code before) codes
    → AllByRecursion (λ code. get_or (applied changes table) code unknown ≡ held code (before ++ changes)) codes
unfolding held
more_holds [] changes before table within all = tt
more_holds (code ∷ codes) changes before table within all = (
  applied_at code changes table within.0 ∙ (ap (held_after code changes) all.0 ∙ sym (held_append code before changes unknown)),
  more_holds codes changes before table within.1 all.1,
)

pub shows_more : {codes : List ℕ} {table : List Held} {before : List Change} (changes : List Change) → Shows codes table before → Shows codes (applied changes table) (before ++ changes)
shows_more {codes = codes} {table = table} {before = before} changes s = record {
  within = more_within codes changes table s.within;
  holds = more_holds codes changes before table s.within s.holds;
}

all_get : (P : ℕ → Type 0) (xs : List ℕ) (k d : ℕ) → k < length xs → AllByRecursion P xs → P (get_or xs k d)
all_get P [] k d lt all = absurd (omega arith)
all_get P (x ∷ xs) zero d lt all = all.0
all_get P (x ∷ xs) (suc k) d lt all = let less : k < length xs = omega arith in all_get P xs k d less all.1

by_code : (table : List Held) (before : List Change) (code : Option ℕ) → ((c : ℕ) → code ≡ Some c → get_or table c unknown ≡ held c before) → shown_by table code ≡ held_by_code code before
by_code table before None f = refl
by_code table before (Some c) f = f c refl

shown_at : {codes : List ℕ} {table : List Held} {before : List Change} → Shows codes table before → (signal : ℕ) → shown codes table signal ≡ signal_held codes before signal
shown_at {codes = codes} {table = table} {before = before} s signal = by_code table before (slice_get codes signal)
    (λ c e. subst (λ (n : ℕ). get_or table n unknown ≡ held n before) (get_or_from_slice_get codes signal c 0 e) (all_get (λ n. get_or table n unknown ≡ held n before) codes signal 0 (slice_get_within codes signal c e) s.holds))

shown_is : {codes : List ℕ} {table : List Held} {before : List Change} → Shows codes table before → shown codes table ≡ signal_held codes before
shown_is s = λ i signal. shown_at s signal i

values_are : (codes : List ℕ) (table : List Held) (before : List Change) → AllByRecursion (λ code. get_or table code unknown ≡ held code before) codes
    → map (λ code. (slice_index_or table code unknown).value) codes ≡ values_after codes before
values_are [] table before all = refl
values_are (code ∷ codes) table before all = λ i. (all.0 i).value ∷ values_are codes table before all.1 i

pub tables_show : (rows : List SignalRow) (codes : List ℕ) (events : List (List Watch)) (last : List (Option ℕ)) (table : List Held) (before : List Change) (steps : List DumpStep)
    → Shows codes table before → table_events rows codes events last table steps ≡ events_from rows codes events last before steps
unfolding table_events events_from
tables_show rows codes events last table before [] s = refl
tables_show rows codes events last table before (step ∷ steps) s =
    let next = shows_more step.changes s in
    let by_table : Moment = moment_of rows events last (map (λ code. (slice_index_or table code unknown).value) codes) (shown codes table) (shown codes (applied step.changes table)) in
    let by_changes : Moment = moment_of rows events last (values_after codes before) (signal_held codes before) (signal_held codes (before ++ step.changes)) in
    let same : by_table ≡ by_changes = λ i. moment_of rows events last (values_are codes table before s.holds i) (shown_is s i) (shown_is next i) in
    let rest : table_events rows codes events by_table.last (applied step.changes table) steps ≡ events_from rows codes events by_table.last (before ++ step.changes) steps = tables_show rows codes events by_table.last (applied step.changes table) (before ++ step.changes) steps next in
    ap (λ (es : List Event). by_table.events ++ es) rest ∙ ap (λ (m : Moment). m.events ++ events_from rows codes events m.last (before ++ step.changes) steps) same

none_shown : (codes : List ℕ) (n : ℕ) → AllByRecursion (λ code. code < n) codes → AllByRecursion (λ code. get_or (replicate n unknown) code unknown ≡ held code []) codes
unfolding held
none_shown [] n all = tt
none_shown (code ∷ codes) n all = (get_or-replicate n code unknown unknown all.0, none_shown codes n all.1)

none_within : (codes : List ℕ) (n : ℕ) → AllByRecursion (λ code. code < n) codes → AllByRecursion (λ code. code < length (replicate n unknown)) codes
none_within [] n all = tt
none_within (code ∷ codes) n all = (subst (λ (m : ℕ). code < m) (sym (length-replicate n unknown)) all.0, none_within codes n all.1)

pub shows_none : (codes : List ℕ) (n : ℕ) → AllByRecursion (λ code. code < n) codes → Shows codes (replicate n unknown) []
shows_none codes n all = record { within = none_within codes n all; holds = none_shown codes n all }

-- the walk from the second step on
pub walk_is : (rows : List SignalRow) (codes : List ℕ) (events : List (List Watch)) (n : ℕ) (step : DumpStep) (steps : List DumpStep) → AllByRecursion (λ code. code < n) codes
    → table_events rows codes events (map (λ code. None) codes) (applied step.changes (replicate n unknown)) steps ≡ events_of rows codes events (step ∷ steps)
unfolding events_of
walk_is rows codes events n step steps all = tables_show rows codes events (map (λ code. None) codes) (applied step.changes (replicate n unknown)) step.changes steps (shows_more step.changes (shows_none codes n all))

pub table_step : (rows : List SignalRow) (codes : List ℕ) (events : List (List Watch)) (last : List (Option ℕ)) (before after : List Held) (rest : List DumpStep) (step : DumpStep) (later : List DumpStep)
    (changes : List Change) (made : List Event) (set : List (Option ℕ)) (behind : List Held)
    → rest ≡ step ∷ later → before ≡ after → changes ≡ step.changes
    → made ≡ (moment_of rows events last (map (λ code. (slice_index_or before code unknown).value) codes) (shown codes before) (shown codes (applied changes after))).events
    → set ≡ (moment_of rows events last (map (λ code. (slice_index_or before code unknown).value) codes) (shown codes before) (shown codes (applied changes after))).last
    → behind ≡ applied changes before
    → table_events rows codes events last before rest ≡ made ++ table_events rows codes events set behind later
unfolding table_events
table_step rows codes events last before after rest step later changes made set behind er et ec em es eb =
    let by : List Held → List Change → Moment = λ table more. moment_of rows events last (map (λ code. (slice_index_or before code unknown).value) codes) (shown codes before) (shown codes (applied more table)) in
    let one : table_events rows codes events last before rest ≡ (by before step.changes).events ++ table_events rows codes events (by before step.changes).last (applied step.changes before) later = ap (table_events rows codes events last before) er in
    let two : (by before step.changes).events ++ table_events rows codes events (by before step.changes).last (applied step.changes before) later ≡ (by after changes).events ++ table_events rows codes events (by after changes).last (applied changes before) later =
    λ i. (by (et i) (sym ec i)).events ++ table_events rows codes events (by (et i) (sym ec i)).last (applied (sym ec i) before) later in
    one ∙ (two ∙ (λ i. sym em i ++ table_events rows codes events (sym es i) (sym eb i) later))

pub no_steps : (rows : List SignalRow) (codes : List ℕ) (events : List (List Watch)) (last : List (Option ℕ)) (table : List Held) (steps : List DumpStep) → length steps ≡ 0 → table_events rows codes events last table steps ≡ []
unfolding table_events
no_steps rows codes events last table [] e = refl
no_steps rows codes events last table (step ∷ steps) e = absurd (omega arith)

pub no_events : (rows : List SignalRow) (codes : List ℕ) (events : List (List Watch)) (steps : List DumpStep) → length steps ≡ 0 → events_of rows codes events steps ≡ []
unfolding events_of
no_events rows codes events [] e = refl
no_events rows codes events (step ∷ steps) e = absurd (omega arith)
