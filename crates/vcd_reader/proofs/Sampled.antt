-- The samples of an instance in the record of a dump.
use Rattle.std.proofs.Common.{◌≡◌, ℤ, ℕ, zero, suc, ◌+◌, ◌<◌, ◌≤◌, List, [], ◌∷◌, ◌++◌, length, map, get_or, Bool, true, false, Option, Some, None, refl, sym, ap, ◌∙◌, arith}
use Rattle.std.specs.Prelude.{slice_get, nat_lt, ◌==◌, if◌then◌else◌}
use Rattle.std.specs.List.{range_with_len, list_any}
use Rattle.std.proofs.lemmas.List.{length-map}
use Rattle.std.proofs.lemmas.Bool.{eqb-true}
use Rattle.std.proofs.lemmas.Bool.Decides.{nat_tests}
use Rattle.std.proofs.lemmas.Option.{get_or_from_slice_get, slice_get_within, slice_get-get_or}
use Rattle.cov_ground.specs.Limits.{most_signals, most_arguments}
use Rattle.record_codec.specs.declared.record.SignalRow.{SignalRow}
use Rattle.record_codec.specs.declared.record.ArgRow.{ArgRow}
use Rattle.record_codec.specs.declared.record.Event.{Event}
use Rattle.record_codec.specs.declared.record.Event.TheVariants.{Set, Sample}
use Rattle.record_codec.specs.Samples.{Env, latest, signal_value, arg_at, env_of, envs_after}
use Rattle.vcd_dump.specs.declared.dump.Change.{Change}
use Rattle.vcd_dump.specs.declared.dump.DumpStep.{DumpStep}
use Rattle.vcd_reader.specs.declared.held.Held.{Held}
use Rattle.vcd_reader.specs.declared.watching.Watch.{Watch}
use Rattle.vcd_reader.specs.Held.{held}
use Rattle.vcd_reader.specs.Moments.{Moment, same_value, sets_from, samples_from, matches, held_by_code, signal_held, numbers_from, values_after, moment_with, moment_of, events_from, events_of}
use Rattle.vcd_reader.specs.Laws.{env_after, moments_from, moments_of}

-- ---- events behind events, the latest first

pushed : List Event → List Event → List Event
pushed before [] = before
pushed before (x ∷ xs) = pushed (x ∷ before) xs

pushed_append : (before xs ys : List Event) → pushed before (xs ++ ys) ≡ pushed (pushed before xs) ys
unfolding pushed
pushed_append before [] ys = refl
pushed_append before (x ∷ xs) ys = pushed_append (x ∷ before) xs ys

if_more : (b : Bool) (env : Env) (xs ys zs : List Env) → zs ≡ xs ++ ys → (if b then env ∷ zs else zs) ≡ (if b then env ∷ xs else xs) ++ ys
if_more true env xs ys zs e = ap (λ (es : List Env). env ∷ es) e
if_more false env xs ys zs e = e

envs_append : (rows : List SignalRow) (args : List ArgRow) (k : ℕ) (before xs ys : List Event)
    → envs_after rows args k before (xs ++ ys) ≡ envs_after rows args k before xs ++ envs_after rows args k (pushed before xs) ys
unfolding pushed
envs_append rows args k before [] ys = refl
envs_append rows args k before (Set s v ∷ xs) ys = envs_append rows args k (Set s v ∷ before) xs ys
envs_append rows args k before (Sample s values ∷ xs) ys =
    if_more (s == k) (env_of rows args before values) (envs_after rows args k (Sample s values ∷ before) xs) (envs_after rows args k (pushed (Sample s values ∷ before) xs) ys) (envs_after rows args k (Sample s values ∷ before) (xs ++ ys)) (envs_append rows args k (Sample s values ∷ before) xs ys)

-- ---- Sets

sets_by : (b : Bool) (rows : List SignalRow) (args : List ArgRow) (k : ℕ) (before : List Event) (i : ℕ) (v : Option ℕ) (rest : List Event)
    → ((now : List Event) → envs_after rows args k now rest ≡ []) → envs_after rows args k before ((if b then [] else Set i v ∷ []) ++ rest) ≡ []
sets_by true rows args k before i v rest f = f before
sets_by false rows args k before i v rest f = f (Set i v ∷ before)

sets_no_envs : (rows : List SignalRow) (args : List ArgRow) (k : ℕ) (i : ℕ) (last now : List (Option ℕ)) (before : List Event) → envs_after rows args k before (sets_from i last now) ≡ []
sets_no_envs rows args k i [] [] before = refl
sets_no_envs rows args k i (old ∷ last) [] before = refl
sets_no_envs rows args k i [] (v ∷ now) before = refl
sets_no_envs rows args k i (old ∷ last) (v ∷ now) before = sets_by (same_value old v) rows args k before i v (sets_from (i + 1) last now) (λ b. sets_no_envs rows args k (i + 1) last now b)

-- ---- Samples

is_self : (i k : ℕ) → k ≡ i → (i == k) ≡ true
is_self i k e = grind (arith, nat_tests)

is_other : (i k : ℕ) → k < i → (i == k) ≡ false
is_other i k h = grind (arith, nat_tests)

is_later : (i k : ℕ) → i < k → (i == k) ≡ false
is_later i k h = grind (arith, nat_tests)

past_by : (b : Bool) (rows : List SignalRow) (args : List ArgRow) (k i : ℕ) (before : List Event) (rest : List Event) → k < i
    → ((now : List Event) → envs_after rows args k now rest ≡ []) → envs_after rows args k before ((if b then Sample i [] ∷ [] else []) ++ rest) ≡ []
past_by true rows args k i before rest lt f = let e = is_other i k lt in rw e (f (Sample i [] ∷ before))
past_by false rows args k i before rest lt f = f before

past : (rows : List SignalRow) (args : List ArgRow) (env : List (Option ℤ)) (from to : ℕ → Held) (k i : ℕ) (events : List (List Watch)) (before : List Event) → k < i
    → envs_after rows args k before (samples_from env from to i events) ≡ []
past rows args env from to k i [] before lt = refl
past rows args env from to k i (event ∷ events) before lt =
    let more : k < i + 1 = omega arith in
    past_by (list_any (matches env from to) event) rows args k i before (samples_from env from to (i + 1) events) lt (λ b. past rows args env from to k (i + 1) events b more)

-- what the samples of a step are for the instance j places on
sampled : Bool → Env → List Env
sampled b env = if b then env ∷ [] else []

here_by : (b : Bool) (rows : List SignalRow) (args : List ArgRow) (k i : ℕ) (before : List Event) (rest : List Event) → k ≡ i
    → ((now : List Event) → envs_after rows args k now rest ≡ []) → envs_after rows args k before ((if b then Sample i [] ∷ [] else []) ++ rest) ≡ sampled b (env_of rows args before [])
unfolding sampled
here_by true rows args k i before rest is f = let e = is_self i k is in let g = f (Sample i [] ∷ before) in rw (e, g) refl
here_by false rows args k i before rest is f = f before

later_by : (b : Bool) (rows : List SignalRow) (args : List ArgRow) (k i : ℕ) (before : List Event) (rest : List Event) (wanted : List Env) → i < k
    → envs_after rows args k before rest ≡ wanted → envs_after rows args k (Sample i [] ∷ before) rest ≡ wanted → envs_after rows args k before ((if b then Sample i [] ∷ [] else []) ++ rest) ≡ wanted
later_by true rows args k i before rest wanted lt f g = let e = is_later i k lt in rw e g
later_by false rows args k i before rest wanted lt f g = f

samples_are : (rows : List SignalRow) (args : List ArgRow) (env : List (Option ℤ)) (from to : ℕ → Held) (k i j : ℕ) (events : List (List Watch)) (before : List Event) → k ≡ i + j
    → envs_after rows args k before (samples_from env from to i events) ≡ sampled (list_any (matches env from to) (get_or events j [])) (env_of rows args before [])
unfolding sampled env_of
samples_are rows args env from to k i j [] before e = refl
samples_are rows args env from to k i zero (event ∷ events) before e =
    let is : k ≡ i = omega arith in
    let less : k < i + 1 = omega arith in
    here_by (list_any (matches env from to) event) rows args k i before (samples_from env from to (i + 1) events) is (λ b. past rows args env from to k (i + 1) events b less)
samples_are rows args env from to k i (suc j) (event ∷ events) before e =
    let lt : i < k = omega arith in
    let more : k ≡ (i + 1) + j = omega arith in
    later_by (list_any (matches env from to) event) rows args k i before (samples_from env from to (i + 1) events) (sampled (list_any (matches env from to) (get_or events j [])) (env_of rows args before [])) lt
    (samples_are rows args env from to k (i + 1) j events before more) (samples_are rows args env from to k (i + 1) j events (Sample i [] ∷ before) more)

kept_by : (b : Bool) (p i : ℕ) (before rest : List Event) → ((now : List Event) → latest p (pushed now rest) ≡ latest p now) → latest p (pushed before ((if b then Sample i [] ∷ [] else []) ++ rest)) ≡ latest p before
unfolding pushed
kept_by true p i before rest f = f (Sample i [] ∷ before)
kept_by false p i before rest f = f before

samples_set_nothing : (env : List (Option ℤ)) (from to : ℕ → Held) (p i : ℕ) (events : List (List Watch)) (before : List Event) → latest p (pushed before (samples_from env from to i events)) ≡ latest p before
unfolding pushed
samples_set_nothing env from to p i [] before = refl
samples_set_nothing env from to p i (event ∷ events) before = kept_by (list_any (matches env from to) event) p i before (samples_from env from to (i + 1) events) (λ b. samples_set_nothing env from to p (i + 1) events b)

-- ---- the value that the latest Set gave, by place

put : ℕ → List (Option ℕ) → (ℕ → Option ℕ) → ℕ → Option ℕ
put i [] f = f
put i (v ∷ vs) f = put (i + 1) vs (λ p. if i == p then v else f p)

abbrev Agrees : ℕ → List (Option ℕ) → (ℕ → Option ℕ) → Type 0
Agrees i [] f = Unit {0}
Agrees i (v ∷ vs) f = (f i ≡ v) × Agrees (i + 1) vs f

over : ℕ → Option ℕ → (ℕ → Option ℕ) → ℕ → Option ℕ
over i v f p = if i == p then v else f p

agrees_over : (m i : ℕ) (v : Option ℕ) (vs : List (Option ℕ)) (f : ℕ → Option ℕ) → i < m → Agrees m vs f → Agrees m vs (λ p. if i == p then v else f p)
agrees_over m i v [] f lt all = tt
agrees_over m i v (w ∷ ws) f lt all =
    let e = is_later i m lt in
    let more : i < m + 1 = omega arith in
    (rw e all.0, agrees_over (m + 1) i v ws f more all.1)

same_is : (old v : Option ℕ) → same_value old v ≡ true → old ≡ v
same_is None None e = refl
same_is None (Some v) e = absurd cc
same_is (Some old) None e = absurd cc
same_is (Some old) (Some v) e = ap (λ (n : ℕ). Some n) (eqb-true old v e)

over_same : (b : Bool) (i p : ℕ) (v : Option ℕ) (f : ℕ → Option ℕ) → (i == p) ≡ b → f i ≡ v → (if b then v else f p) ≡ f p
over_same true i p v f e h = let is : i ≡ p = eqb-true i p e in sym h ∙ ap f is
over_same false i p v f e h = refl

-- a Set where the value differs, or none, gives the new value
one_set : (b : Bool) (i : ℕ) (old v : Option ℕ) (before rest : List Event) (f : ℕ → Option ℕ) (wanted : ℕ → Option ℕ) → same_value old v ≡ b → f i ≡ old → ((p : ℕ) → latest p before ≡ f p)
    → ((now : List Event) → ((p : ℕ) → latest p now ≡ (if i == p then v else f p)) → (p : ℕ) → latest p (pushed now rest) ≡ wanted p)
    → (p : ℕ) → latest p (pushed before ((if b then [] else Set i v ∷ []) ++ rest)) ≡ wanted p
unfolding pushed
one_set true i old v before rest f wanted is h now goes =
    let e : f i ≡ v = h ∙ same_is old v is in
    goes before (λ p. now p ∙ sym (over_same (i == p) i p v f refl e))
one_set false i old v before rest f wanted is h now goes = goes (Set i v ∷ before) (λ p. ap (λ (x : Option ℕ). if i == p then v else x) (now p))

sets_latest : (i : ℕ) (last now : List (Option ℕ)) (before : List Event) (f : ℕ → Option ℕ) → length last ≡ length now → Agrees i last f → ((p : ℕ) → latest p before ≡ f p)
    → (p : ℕ) → latest p (pushed before (sets_from i last now)) ≡ put i now f p
unfolding pushed put
sets_latest i [] [] before f long all h = h
sets_latest i (old ∷ last) [] before f long all h = absurd (omega arith)
sets_latest i [] (v ∷ now) before f long all h = absurd (omega arith)
sets_latest i (old ∷ last) (v ∷ now) before f long all h =
    let less : length last ≡ length now = omega arith in
    let lt : i < i + 1 = omega arith in
    one_set (same_value old v) i old v before (sets_from (i + 1) last now) f (put (i + 1) now (λ q. if i == q then v else f q)) refl all.0 h
    (λ b g. sets_latest (i + 1) last now b (λ q. if i == q then v else f q) less (agrees_over (i + 1) i v last f lt all.1) g)

put_below : (i p : ℕ) (now : List (Option ℕ)) (f : ℕ → Option ℕ) → p < i → put i now f p ≡ f p
unfolding put
put_below i p [] f lt = refl
put_below i p (v ∷ now) f lt =
    let more : p < i + 1 = omega arith in
    let e = is_other i p lt in
    put_below (i + 1) p now (λ q. if i == q then v else f q) more ∙ rw e refl

put_agrees : (i : ℕ) (now : List (Option ℕ)) (f : ℕ → Option ℕ) → Agrees i now (put i now f)
unfolding put
put_agrees i [] f = tt
put_agrees i (v ∷ now) f =
    let lt : i < i + 1 = omega arith in
    let e = is_self i i refl in
    (put_below (i + 1) i now (λ q. if i == q then v else f q) lt ∙ rw e refl, put_agrees (i + 1) now (λ q. if i == q then v else f q))

put_beyond : (i p : ℕ) (now : List (Option ℕ)) (f : ℕ → Option ℕ) → i + length now ≤ p → put i now f p ≡ f p
unfolding put
put_beyond i p [] f le = refl
put_beyond i p (v ∷ now) f le =
    let more : (i + 1) + length now ≤ p = omega arith in
    let lt : i < p = omega arith in
    let e = is_later i p lt in
    put_beyond (i + 1) p now (λ q. if i == q then v else f q) more ∙ rw e refl

agrees_at : (i j : ℕ) (codes : List ℕ) (g : ℕ → Option ℕ) (f : ℕ → Option ℕ) → Agrees i (map g codes) f → j < length codes → f (i + j) ≡ g (get_or codes j 0)
agrees_at i j [] g f all lt = absurd (omega arith)
agrees_at i zero (code ∷ codes) g f all lt = let e : i + 0 ≡ i = omega arith in ap f e ∙ all.0
agrees_at i (suc j) (code ∷ codes) g f all lt =
    let less : j < length codes = omega arith in
    let e : i + suc j ≡ (i + 1) + j = omega arith in
    ap f e ∙ agrees_at (i + 1) j codes g f all.1 less

-- ---- steps

-- what is known of the events so far: which value the latest Set of each signal gave
record Kept (codes : List ℕ) (last : List (Option ℕ)) (done : List Event) (f : ℕ → Option ℕ) : Type 0 where
  long : length last ≡ length codes
  agrees : Agrees 0 last f
  sets : (p : ℕ) → latest p done ≡ f p
  beyond : (p : ℕ) → length codes ≤ p → f p ≡ None

by_held : (given : Option ℕ) (before : List Change) (v : Option ℕ) → ((c : ℕ) → given ≡ Some c → v ≡ (held c before).value) → (given ≡ None → v ≡ None) → v ≡ (held_by_code given before).value
by_held None before v f g = g refl
by_held (Some c) before v f g = f c refl

never_none : (codes : List ℕ) (p : ℕ) → p < length codes → slice_get codes p ≡ None → ⊥
never_none codes p lt e = let h = slice_get-get_or codes p 0 lt in cc

within_or_past : (b : Bool) (codes : List ℕ) (p : ℕ) → nat_lt p (length codes) ≡ b → slice_get codes p ≡ None → length codes ≤ p
within_or_past true codes p is e = let lt : p < length codes = grind (arith, nat_tests) in absurd (never_none codes p lt e)
within_or_past false codes p is e = grind (arith, nat_tests)

value_is : (codes : List ℕ) (before : List Change) (g : ℕ → Option ℕ) → Agrees 0 (values_after codes before) g → ((p : ℕ) → length codes ≤ p → g p ≡ None) → (p : ℕ) → g p ≡ (signal_held codes before p).value
value_is codes before g all beyond p =
    let z : p ≡ 0 + p = omega arith in
    by_held (slice_get codes p) before (g p)
    (λ c e. ap g z ∙ (agrees_at 0 p codes (λ code. (held code before).value) g all (slice_get_within codes p c e) ∙ ap (λ (code : ℕ). (held code before).value) (get_or_from_slice_get codes p c 0 e)))
    (λ e. beyond p (within_or_past (nat_lt p (length codes)) codes p refl e))

env_is : (rows : List SignalRow) (args : List ArgRow) (codes : List ℕ) (before : List Change) (done : List Event) → ((p : ℕ) → latest p done ≡ (signal_held codes before p).value) → env_of rows args done [] ≡ env_after rows args codes before
unfolding env_of env_after
env_is rows args codes before done h = λ i. map (λ place. signal_value (slice_get rows place) (h place i)) (range_with_len 0 most_signals) ++ map (arg_at args []) (range_with_len 0 most_arguments)

none_left : (b : Bool) (x y : Env) → [] ≡ sampled b x → [] ≡ sampled b y
unfolding sampled
none_left true x y e = absurd cc
none_left false x y e = refl

past_all : (codes : List ℕ) (before : List Change) (p : ℕ) → length codes ≤ p → 0 + length (values_after codes before) ≤ p
past_all codes before p le = let e = length-map codes (λ (code : ℕ). (held code before).value) in omega (arith, e)

-- what a step does
record Done (rows : List SignalRow) (args : List ArgRow) (k : ℕ) (codes : List ℕ) (m : Moment) (done : List Event) (wanted : List Env) : Type 0 where
  envs : envs_after rows args k done m.events ≡ wanted
  f : ℕ → Option ℕ
  kept : Kept codes m.last (pushed done m.events) f

step_by : (rows : List SignalRow) (args : List ArgRow) (codes : List ℕ) (events : List (List Watch)) (last : List (Option ℕ)) (before : List Change) (to : ℕ → Held) (done : List Event) (f : ℕ → Option ℕ) (k : ℕ) (samples : List Event)
    → samples ≡ samples_from (numbers_from rows 0 (values_after codes before)) (signal_held codes before) to 0 events → Kept codes last done f
    → Done rows args k codes (moment_with last (values_after codes before) samples) done (sampled (list_any (matches (numbers_from rows 0 (values_after codes before)) (signal_held codes before) to) (get_or events k [])) (env_after rows args codes before))
unfolding pushed
step_by rows args codes events last before to done f k [] e kept =
    let b = list_any (matches (numbers_from rows 0 (values_after codes before)) (signal_held codes before) to) (get_or events k []) in
    let is : k ≡ 0 + k = omega arith in
    let had = samples_are rows args (numbers_from rows 0 (values_after codes before)) (signal_held codes before) to k 0 k events done is in
    let none : [] ≡ sampled b (env_of rows args done []) = ap (envs_after rows args k done) e ∙ had in
    record { envs = none_left b (env_of rows args done []) (env_after rows args codes before) none; f = f; kept = kept }
step_by rows args codes events last before to done f k (sample ∷ samples) e kept =
    let now = values_after codes before in
    let env = numbers_from rows 0 now in
    let from = signal_held codes before in
    let sets = sets_from 0 last now in
    let behind = pushed done sets in
    let is : k ≡ 0 + k = omega arith in
    let long : length last ≡ length now = kept.long ∙ sym (length-map codes (λ (code : ℕ). (held code before).value)) in
    let set : (p : ℕ) → latest p behind ≡ put 0 now f p = sets_latest 0 last now done f long kept.agrees kept.sets in
    let beyond : (p : ℕ) → length codes ≤ p → put 0 now f p ≡ None = λ p le. put_beyond 0 p now f (past_all codes before p le) ∙ kept.beyond p le in
    let values : (p : ℕ) → latest p behind ≡ (signal_held codes before p).value = λ p. set p ∙ value_is codes before (put 0 now f) (put_agrees 0 now f) beyond p in
    let had = samples_are rows args env from to k 0 k events behind is in
    let b = list_any (matches env from to) (get_or events k []) in
    let shown : envs_after rows args k behind (sample ∷ samples) ≡ sampled b (env_after rows args codes before) = ap (envs_after rows args k behind) e ∙ (had ∙ ap (sampled b) (env_is rows args codes before behind values)) in
    let cut = envs_append rows args k done sets (sample ∷ samples) in
    let none = sets_no_envs rows args k 0 last now done in
    record {
      envs = cut ∙ (λ i. none i ++ shown i);
      f = put 0 now f;
      kept = record {
        long = length-map codes (λ (code : ℕ). (held code before).value);
        agrees = put_agrees 0 now f;
        sets = λ p. ap (latest p) (pushed_append done sets (sample ∷ samples)) ∙ (ap (λ (es : List Event). latest p (pushed behind es)) e ∙ (samples_set_nothing env from to p 0 events behind ∙ set p));
        beyond = beyond;
      };
    }

steps_are : (rows : List SignalRow) (args : List ArgRow) (codes : List ℕ) (events : List (List Watch)) (k : ℕ) (last : List (Option ℕ)) (before : List Change) (steps : List DumpStep) (done : List Event) (f : ℕ → Option ℕ) → Kept codes last done f
    → envs_after rows args k done (events_from rows codes events last before steps) ≡ moments_from rows args codes (get_or events k []) before steps
unfolding events_from moments_from moment_of sampled
steps_are rows args codes events k last before [] done f kept = refl
steps_are rows args codes events k last before (step ∷ steps) done f kept =
    let to = signal_held codes (before ++ step.changes) in
    let m = moment_with last (values_after codes before) (samples_from (numbers_from rows 0 (values_after codes before)) (signal_held codes before) to 0 events) in
    let one = step_by rows args codes events last before to done f k (samples_from (numbers_from rows 0 (values_after codes before)) (signal_held codes before) to 0 events) refl kept in
    let rest = steps_are rows args codes events k m.last (before ++ step.changes) steps (pushed done m.events) one.f one.kept in
    envs_append rows args k done m.events (events_from rows codes events m.last (before ++ step.changes) steps) ∙ (λ i. one.envs i ++ rest i)

none_agrees : (i : ℕ) (codes : List ℕ) → Agrees i (map (λ code. None) codes) (λ p. None)
none_agrees i [] = tt
none_agrees i (code ∷ codes) = (refl, none_agrees (i + 1) codes)

no_value : ℕ → Option ℕ
no_value code = None

pub samples_are_moments : (rows : List SignalRow) (args : List ArgRow) (codes : List ℕ) (events : List (List Watch)) (steps : List DumpStep) (instance : ℕ)
    → envs_after rows args instance [] (events_of rows codes events steps) ≡ moments_of rows args codes (get_or events instance []) steps
unfolding events_of moments_of no_value
samples_are_moments rows args codes events [] instance = refl
samples_are_moments rows args codes events (step ∷ steps) instance =
    steps_are rows args codes events instance (map (λ code. None) codes) step.changes steps [] (λ p. None)
    (record { long = length-map codes no_value; agrees = none_agrees 0 codes; sets = λ p. refl; beyond = λ p le. refl })
