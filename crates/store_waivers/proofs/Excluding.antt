-- Excludes one after the other.
use Rattle.std.proofs.Common.{◌≡◌, ◌∙◌, ℕ, zero, suc, ◌<◌, List, [], ◌∷◌, ◌++◌, length, get_or, Bool, true, false, Option, Some, None, Result, Ok, Err, refl, sym, ap, append_assoc, inl, inr, arith}
use Rattle.std.specs.Prelude.{if◌then◌else◌, slice_index_or}
use Rattle.std.specs.List.{flat_map}
use Rattle.std.proofs.lemmas.List.{append-nil}
use Rattle.design_data.specs.declared.design.Design.{Design}
use Rattle.ucis_model.specs.declared.answers.Which.{Which}
use Rattle.ucis_model.specs.declared.answers.Answer.{Answer}
use Rattle.ucis_model.specs.declared.answers.Answer.TheVariants as answers
use Rattle.ucis_model.specs.Paths.{find_in}
use Rattle.cov_history.specs.declared.entry.Entry.{Entry}
use Rattle.cov_history.specs.declared.entry.Event.TheVariants as event
use Rattle.cov_history.specs.History.{design_of, has, out_of, passed}
use Rattle.cov_history.specs.Answers.{nodes_at, at_node, unless_full, is_made, by}
use Rattle.cov_history.proofs.Snoc.{design_snoc}
use Rattle.merge_store.specs.Told.{Makes}
use Rattle.waivers.specs.declared.waiver.Waiver.{Waiver}
use Rattle.waivers.specs.Waived.{paths_in}
use Rattle.store_waivers.specs.declared.fault.WaiveFault.{WaiveFault}
use Rattle.store_waivers.specs.declared.fault.WaiveFault.TheVariants as faults
use Rattle.store_waivers.specs.Waived.{Limit, exclusion, behind_answer, behind_exclude, ◌>>=◌, excluding, waiving, IsLimit}
use Rattle.store_waivers.specs.Among.{paths_at, paths_among, line_among}
use Rattle.store_waivers.proofs.Among.{each_path}

-- ---- one of them

module _ (opening : Design) (h after : List Entry) (path : List ℕ) where
  is_told : (given : Answer) → given ≡ exclusion opening h path → behind_exclude opening h path ≡ behind_answer h path given
  unfolding behind_exclude
  is_told given e = ap (behind_answer h path) (sym e)

  -- what the store answers, where that isn't that memory is wanted, is what the definition goes by
  told_by : (given : Answer) → Makes h (by 0 (event.Exclude path)) (exclusion opening h path) given after → (given ≡ answers.Memory → ⊥)
      → (behind_exclude opening h path ≡ behind_answer h path given) × (after ≡ h ++ (if is_made given then by 0 (event.Exclude path) ∷ [] else []))
  told_by given makes apart = elim makes [ inl g ↦ (is_told given g.answer, g.entries) | inr w ↦ absurd (apart w.answer) ]

  pub changed : Makes h (by 0 (event.Exclude path)) (exclusion opening h path) answers.Changed after → behind_exclude opening h path ≡ Ok after
  changed makes = let t = told_by answers.Changed makes (λ e. absurd (cc e)) in t.0 ∙ ap Ok (sym t.1)

  pub out_already : Makes h (by 0 (event.Exclude path)) (exclusion opening h path) answers.AlreadyExcluded after → behind_exclude opening h path ≡ Ok after
  out_already makes = let t = told_by answers.AlreadyExcluded makes (λ e. absurd (cc e)) in t.0 ∙ ap Ok (sym (t.1 ∙ append-nil h))

  pub none_found : Makes h (by 0 (event.Exclude path)) (exclusion opening h path) answers.NoSuchPath after → behind_exclude opening h path ≡ Ok after
  none_found makes = let t = told_by answers.NoSuchPath makes (λ e. absurd (cc e)) in t.0 ∙ ap Ok (sym (t.1 ∙ append-nil h))

  pub full : (which : Which) (have want : ℕ) → Makes h (by 0 (event.Exclude path)) (exclusion opening h path) (answers.Full which have want) after
      → behind_exclude opening h path ≡ Err (record { which = which; have = have; want = want })
  full which have want makes = (told_by (answers.Full which have want) makes (λ e. absurd (cc e))).0

-- ---- one more

-- the path at a place, and those at the later ones
pub place_next : (opening now : Design) (h next : List Entry) (paths : List (List ℕ)) (place : ℕ) (rest later : List ℕ) (path : List ℕ) (given : Result (List Entry) Limit)
    → now ≡ opening → rest ≡ place ∷ later → path ≡ slice_index_or paths place [] → excluding opening h (paths_at paths rest) ≡ given → behind_exclude now h path ≡ Ok next
    → excluding opening next (paths_at paths later) ≡ given
place_next opening now h next paths place rest later path given same is at all e =
    let here : behind_exclude opening h (slice_index_or paths place []) ≡ Ok next = (λ i. behind_exclude (sym same i) h (sym at i)) ∙ e in
    let one : excluding opening h (paths_at paths (place ∷ later)) ≡ excluding opening next (paths_at paths later) = rw here refl in
    sym one ∙ ap (λ (ps : List ℕ). excluding opening h (paths_at paths ps)) (sym is) ∙ all

-- or the limit that its Exclude would pass
pub place_stops : (opening now : Design) (h : List Entry) (paths : List (List ℕ)) (place : ℕ) (rest later : List ℕ) (path : List ℕ) (given : Result (List Entry) Limit)
    → now ≡ opening → rest ≡ place ∷ later → path ≡ slice_index_or paths place [] → excluding opening h (paths_at paths rest) ≡ given → (fault : WaiveFault) → IsLimit (behind_exclude now h path) fault → IsLimit given fault
place_stops opening now h paths place rest later path given same is at all (faults.Full which have want) e =
    let here : behind_exclude opening h (slice_index_or paths place []) ≡ Err (record { which = which; have = have; want = want }) = (λ i. behind_exclude (sym same i) h (sym at i)) ∙ e in
    sym all ∙ ap (λ (ps : List ℕ). excluding opening h (paths_at paths ps)) is ∙ ap (λ (r : Result (List Entry) Limit). r >>= (λ x. excluding opening x (paths_at paths later))) here
place_stops opening now h paths place rest later path given same is at all faults.Memory e = tt

pub any_default : (paths : List (List ℕ)) (place : ℕ) (path d : List ℕ) → place < length paths → path ≡ get_or paths place path → path ≡ slice_index_or paths place d
any_default [] place path d lt e = absurd (omega (arith, lt))
any_default (first ∷ paths) zero path d lt e = e
any_default (first ∷ paths) (suc place) path d lt e = any_default paths place path d (omega (arith, lt)) e

-- ---- some more

along : {A B C : Type 0} (r : Result A Limit) (f : A → Result C Limit) (g : A → Result B Limit) (k : B → Result C Limit) → ((x : A) → f x ≡ (g x >>= k)) → (r >>= f) ≡ ((r >>= g) >>= k)
along (Ok x) f g k e = e x
along (Err limit) f g k e = refl

excluding_both : (opening : Design) (h : List Entry) (first later : List (List ℕ)) → excluding opening h (first ++ later) ≡ (excluding opening h first >>= (λ next. excluding opening next later))
excluding_both opening h [] later = refl
excluding_both opening h (path ∷ first) later =
    along (behind_exclude opening h path) (λ next. excluding opening next (first ++ later)) (λ next. excluding opening next first) (λ next. excluding opening next later)
    (λ next. excluding_both opening next first later)

-- a waiver's paths, and those of the later ones
module _ (opening now : Design) (h : List Entry) (paths : List (List ℕ)) (waiver : Waiver) (rest later : List Waiver) (given : Result (List Entry) Limit)
    (same : now ≡ opening) (is : rest ≡ waiver ∷ later) (all : excluding opening h (flat_map (paths_among paths) rest) ≡ given) where
  parted : given ≡ (excluding now h (paths_among paths waiver) >>= (λ next. excluding opening next (flat_map (paths_among paths) later)))
  parted =
      sym all ∙ ap (λ (ws : List Waiver). excluding opening h (flat_map (paths_among paths) ws)) is
      ∙ excluding_both opening h (paths_among paths waiver) (flat_map (paths_among paths) later)
      ∙ ap (λ (d : Design). excluding d h (paths_among paths waiver) >>= (λ next. excluding opening next (flat_map (paths_among paths) later))) (sym same)

  pub waiver_next : (next : List Entry) → excluding now h (paths_among paths waiver) ≡ Ok next → excluding opening next (flat_map (paths_among paths) later) ≡ given
  waiver_next next e =
      sym (parted ∙ ap (λ (r : Result (List Entry) Limit). r >>= (λ x. excluding opening x (flat_map (paths_among paths) later))) e)

  pub waiver_stops : (fault : WaiveFault) → IsLimit (excluding now h (paths_among paths waiver)) fault → IsLimit given fault
  waiver_stops (faults.Full which have want) e =
      parted ∙ ap (λ (r : Result (List Entry) Limit). r >>= (λ x. excluding opening x (flat_map (paths_among paths) later))) e
  waiver_stops faults.Memory e = tt

pub line_next : (paths : List (List ℕ)) (waiver : Waiver) (rest later : List Waiver) (old new all : List ℕ) → rest ≡ waiver ∷ later → old ++ flat_map (line_among paths) rest ≡ all → new ≡ old ++ line_among paths waiver
    → new ++ flat_map (line_among paths) later ≡ all
line_next paths waiver rest later old new all is so e =
    ap (λ (text : List ℕ). text ++ flat_map (line_among paths) later) e
    ∙ append_assoc old (line_among paths waiver) (flat_map (line_among paths) later)
    ∙ ap (λ (ws : List Waiver). old ++ flat_map (line_among paths) ws) (sym is) ∙ so

-- ---- all of them

pub waiving_is : (opening : Design) (h : List Entry) (paths : List (List ℕ)) (waivers : List Waiver) → paths ≡ paths_in (nodes_at opening h) → waiving opening h waivers ≡ excluding opening h (flat_map (paths_among paths) waivers)
unfolding waiving
waiving_is opening h paths waivers e = ap (excluding opening h) (sym (each_path (nodes_at opening h) paths waivers e))

-- ---- the design stays

module _ (opening : Design) (h next : List Entry) (path : List ℕ) where
  behind_as : (found : Option ℕ) (there : Bool) (over : Option Which)
      → behind_answer h path (at_node found (λ n. if there then answers.AlreadyExcluded else unless_full opening h (h ++ by 0 (event.Exclude path) ∷ []) over answers.Changed)) ≡ Ok next
      → design_of opening next ≡ design_of opening h
  behind_as None there over e = let same : next ≡ h = cc in ap (design_of opening) same
  behind_as (Some n) true over e = let same : next ≡ h = cc in ap (design_of opening) same
  behind_as (Some n) false None e =
      let more : next ≡ h ++ by 0 (event.Exclude path) ∷ [] = cc in
      ap (design_of opening) more ∙ design_snoc opening h (by 0 (event.Exclude path))
  behind_as (Some n) false (Some which) e = absurd cc

  behind_design : behind_exclude opening h path ≡ Ok next → design_of opening next ≡ design_of opening h
  unfolding behind_exclude
  behind_design e = behind_as (find_in (nodes_at opening h) path) (has path (out_of h)) (passed opening (h ++ by 0 (event.Exclude path) ∷ [])) e

bind_ok : {A B : Type 0} (r : Result A Limit) (f : A → Result B Limit) (value : B) → (r >>= f) ≡ Ok value → (found : A) × (r ≡ Ok found) × (f found ≡ Ok value)
bind_ok (Ok found) f value e = (found, refl, e)
bind_ok (Err limit) f value e = absurd cc

pub excluding_design : (opening : Design) (h next : List Entry) (paths : List (List ℕ)) → excluding opening h paths ≡ Ok next → design_of opening next ≡ design_of opening h
excluding_design opening h next [] e = let same : next ≡ h = cc in ap (design_of opening) same
excluding_design opening h next (path ∷ paths) e =
    let step = bind_ok (behind_exclude opening h path) (λ more. excluding opening more paths) next e in
    excluding_design opening step.0 next paths step.2 ∙ behind_design opening h step.0 path step.1
