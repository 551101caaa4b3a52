-- Counts that are raised place by place, and what a quick point takes.
use Rattle.std.proofs.Common.{◌≡◌, ◌≢◌, ℤ, pos, ◌+ℤ◌, ◌≤ℤ◌, ℕ, ◌+◌, ◌-◌, ◌^◌, ◌<◌, ◌≤◌, List, [], ◌∷◌, ◌++◌, length, All, true, Option, Some, None, refl, ap, sym, subst, ◌∙◌, inl, inr, arith}
use Rattle.std.specs.Prelude.{Contains, AllPairs, IfSome, slice_get, slice_index, slice_set}
use Rattle.std.proofs.lemmas.Int.{ints}
use Rattle.std.proofs.lemmas.List.{get_or-set_same, get_or-set_other}
use Rattle.std.proofs.lemmas.List.Elements.{Contains-append_left, Contains-push, Contains-push_cases}
use Rattle.std.proofs.lemmas.Option.{cond_some}
use Rattle.const_eval.specs.Terms.{Term, typ_of}
use Rattle.const_eval.specs.Typs.{Typ}
use Rattle.const_eval.specs.Values.{value, IsNumberOf}
use Rattle.design_data.specs.declared.infos.ItemInfo.{ItemInfo}
use Rattle.design_data.specs.declared.infos.BinInfo.{BinInfo}
use Rattle.design_data.specs.Laws.{Value}
use Rattle.record_codec.specs.Samples.{Env}
use Rattle.cov_counting.specs.Hits.{holds}
use Rattle.point_tables.specs.declared.tables.Lookup.{Lookup}
use Rattle.point_sampler.specs.declared.plan.PointPlan.{PointPlan}
use Rattle.point_sampler.specs.declared.state.PointState.{PointState}
use Rattle.point_sampler.specs.Plans.{IsPlanOf, IsStill}
use Rattle.point_tables.specs.Tables.{IsEntry, places_from, has_value}
use Rattle.point_sampler.specs.Points.{IsSample, PointStands, IsOutside}
use Rattle.point_sampler.specs.Met.{raised, IsOn, AllTaken, ValueTaken}
use Rattle.point_sampler.specs.Quick.{HasKeys, AreRaised}
use Rattle.point_sampler.proofs.Meeting.{are_met, met_within, met_once}
use Rattle.point_sampler.proofs.Standing.{remembered, counts_stand}
use Rattle.point_sampler.proofs.Still.{still_met, still_remembers, none_among, none_once}
use Rattle.point_sampler.proofs.Taking.{some_at, plain_entry}

-- ---- counts

pub raised_none : (first : ℕ) (counts : List ℕ) → AreRaised first [] counts counts
raised_none first counts = record { on = λ place c. absurd (omega (arith, c.1)); off = λ number none. refl }

module _ (first : ℕ) (front : List ℕ) (place : ℕ) (old now : List ℕ) (fresh : Contains front place → ⊥) (inside : first + place < length now) where
  abbrev up : ℕ
  up = raised (slice_index now (first + place))

  pub raised_more : AreRaised first front old now → AreRaised first (front ++ place ∷ []) old (slice_set now (first + place) up)
  raised_more h = record {
    on = λ p c. elim (Contains-push_cases front place p c) [
      | inl earlier ↦ get_or-set_other now (first + place) (first + p) up 0 (λ e. fresh (subst (Contains front) (let s : p ≡ place = omega (arith, e) in s) earlier)) ∙ h.on p earlier
      | inr e ↦ subst (λ (q : ℕ). slice_index (slice_set now (first + place) up) (first + q) ≡ raised (slice_index old (first + q))) e
          (get_or-set_same now (first + place) up 0 inside ∙ ap raised (h.off (first + place) (λ q m same. fresh (subst (Contains front) (let s : q ≡ place = omega (arith, same) in s) m))))
    ];
    off = λ n none. get_or-set_other now (first + place) n up 0 (λ e. none place (Contains-push front place) e)
        ∙ h.off n (λ p c. none p (Contains-append_left front (place ∷ []) p c));
  }

pub empty_list : {X : Type 0} (xs : List X) → length xs ≡ 0 → xs ≡ []
empty_list [] e = refl
empty_list (x ∷ xs) e = absurd (omega (arith, e))

-- ---- keys

pub same_lookup : (o : Option Lookup) (a b : Lookup) → o ≡ Some a → o ≡ Some b → a ≡ b
same_lookup o a b e f = (cond_some true a b (sym e ∙ f)).1

in_keys : (lookup : Lookup) (typ : Typ) → HasKeys lookup typ → (v : ℤ) → IsNumberOf typ v → (lookup.least ≤ℤ v) × (v ≤ℤ (lookup.least +ℤ pos (2 ^ 64 - 1)))
in_keys lookup typ keys v n =
    let low = keys.low in
    let high = keys.high in
    (omega (arith, ints, low, n.0), omega (arith, ints, high, n.1))

if_some : (P : ℤ → Type 0) (o : Option ℤ) → ((v : ℤ) → o ≡ Some v → P v) → IfSome o P
if_some P None h = tt
if_some P (Some v) h = h v refl

-- each known value of an expression has a key
pub keyed : (lookup : Lookup) (expr : Term) (env : Env) (v : Value) → HasKeys lookup (typ_of expr) → v ≡ value expr env None → ((number : ℤ) → value expr env None ≡ Some number → IsNumberOf (typ_of expr) number)
    → IfSome v (λ number. (lookup.least ≤ℤ number) × (number ≤ℤ (lookup.least +ℤ pos (2 ^ 64 - 1))))
keyed lookup expr env v keys is typed = if_some (λ number. (lookup.least ≤ℤ number) × (number ≤ℤ (lookup.least +ℤ pos (2 ^ 64 - 1)))) v (λ number e. in_keys lookup (typ_of expr) keys number (typed number (sym is ∙ e)))

-- ---- a sample

module _ (item : ItemInfo) (plan : PointPlan) (is_plan : IsPlanOf item plan) (still : IsStill plan) (plain : plan.entries.items ≡ []) (v : Value) (met : List ℕ) (is : met ≡ places_from (λ bin. has_value item.bins v bin.rule) 0 item.bins) where
  pub quick_within : All (λ place. place < length item.bins) met
  quick_within = met_within item plan is_plan v [] met (none_among plan [] refl) is

  pub quick_once : AllPairs (λ a b. a ≢ b) met
  quick_once = met_once item plan is_plan v [] met (none_among plan [] refl) is (none_once [] refl)

  pub quick_room : (first n : ℕ) → item.first_bin ≡ first → first + length item.bins ≤ n → All (λ place. first + place < n) met
  quick_room first n e room = λ k d lt. let less = quick_within k d lt in omega (arith, less, room)

  module _ (env : Env) where
    within : (place : ℕ) → Contains met place → place < length item.bins
    within place c = subst (λ (p : ℕ). p < length item.bins) c.2 (quick_within c.0 place c.1)

    entry : (place : ℕ) (bin : BinInfo) → Contains met place → slice_get item.bins place ≡ Some bin → IsEntry item.bins place bin (record { covers = true; number = place; guard = None })
    entry place bin c e = plain_entry item.bins plan.entries.items place bin is_plan.entries (ap (λ (es : List _). length es) plain) (within place c) e

    is_on : (place : ℕ) (bin : BinInfo) → Contains met place → slice_get item.bins place ≡ Some bin → IsOn item.bins env place bin
    is_on place bin c e = record { is_bin = e; guarded = ap (λ (g : Option Term). holds g env) (entry place bin c e).guard }

    all_taken : (old new : List ℕ) → AreRaised item.first_bin met old new → AllTaken item env met old new met
    all_taken old new h = record {
      on = λ place bin c on. h.on place c;
      off = λ number none. h.off number (λ place c e. let b = some_at item.bins place (within place c) in none place b.0 c (is_on place b.0 c b.1) e);
      row = λ number. (
        (λ c.
            let b = some_at item.bins number (within number c) in
            let e = entry number b.0 c b.1 in
            record { place = number; is_met = c; bin = b.0; is_on = is_on number b.0 c b.1; covers = sym e.covers; is_number = e.number }),
        (λ n. subst (Contains met) ((entry n.place n.bin n.is_met n.is_on.is_bin).number ∙ sym n.is_number) n.is_met),
      );
      once = quick_once;
    }

    value_taken : (w : List Value) (old new : List ℕ) → AreRaised item.first_bin met old new → ValueTaken item env w v old new met
    value_taken w old new h = record {
      met = met;
      are_met = are_met item plan is_plan w v [] met (still_met plan still.0 still.1 still.2 w v [] refl) is;
      taken = all_taken old new h;
    }

    pub quick_stands : (expr : Term) (all : List Env) (m : ℕ) (state : PointState) (first : ℕ) (old new : List ℕ) → v ≡ value expr env None → item.first_bin ≡ first → item.guard ≡ None → IsSample all m env → AreRaised first met old new
        → PointStands item expr plan all m state old → PointStands item expr plan all (m + 1) state new
    quick_stands expr all m state first old new is_value is_first unguarded sample h stands =
        let guarded : holds item.guard env ≡ true = ap (λ (g : Option Term). holds g env) unguarded in
        let here : AreRaised item.first_bin met old new = subst (λ (f : ℕ). AreRaised f met old new) (sym is_first) h in
        record {
          remembers = remembered item expr plan all m env sample v is_value guarded state state stands.remembers (λ w r. still_remembers plan still.0 still.1 still.2 state (w ++ v ∷ []));
          counted = counts_stand item expr plan all m env sample v is_value guarded old new met (value_taken (_) old new here) stands.counted;
        }

  pub quick_others : (first : ℕ) (old new : List ℕ) → item.first_bin ≡ first → AreRaised first met old new → (number : ℕ) → IsOutside item number → slice_index new number ≡ slice_index old number
  quick_others first old new is_first h number outside = h.off number (λ place c e.
      let lt : place < length item.bins = subst (λ (p : ℕ). p < length item.bins) c.2 (quick_within c.0 place c.1) in
      elim outside [ inl below ↦ absurd (omega (arith, below, e, is_first)) | inr above ↦ absurd (omega (arith, above, e, lt, is_first)) ])
