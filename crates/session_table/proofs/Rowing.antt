-- Replies to what is said by itself or by a turn.
use Rattle.std.proofs.Common.{◌≡◌, ◌⊎◌, inl, inr, ⊎_elim, ℕ, ◌+◌, ◌≤◌, List, [], ◌++◌, length, take, map, true, refl, sym, ap, ◌∙◌, subst, append-nil, arith}
use Rattle.std.specs.Prelude.{Option, Some, if◌then◌else◌}
use Rattle.design_data.specs.declared.design.Design.{Design}
use Rattle.ucis_model.specs.declared.answers.Answer.{Answer}
use Rattle.ucis_model.specs.declared.answers.Answer.TheVariants as answer
use Rattle.cov_history.specs.declared.entry.Entry.{Entry}
use Rattle.cov_history.specs.declared.asks.Ask.{Ask}
use Rattle.cov_history.specs.Answers.{answer_at, entries_of, may_want}
use Rattle.cov_history.specs.Turns.{Wish, wish_of, ask_of, Answers, TurnsAt, PortTurns, PortWants, PortTurn, Grown, IsFrom}
use Rattle.upload_stage.specs.Uploads.{Upload}
use Rattle.cov_proto.specs.declared.replies.Body.{Body}
use Rattle.cov_proto.specs.declared.replies.Body.TheVariants as body
use Rattle.cov_proto.specs.declared.replies.Reply.{Reply}
use Rattle.store_core.specs.declared.asks.Ask.{Ask as Call}
use Rattle.store_core.specs.Asks.{asked, Meets}
use Rattle.session_table.specs.Serves.{Place, Lacks, BySaid}
use Rattle.answer_frames.specs.Frames.{IsWritable, HasNoFrame, IsKept, is_long}
use Rattle.session_table.specs.Says.{Rowed}
use Rattle.session_table.proofs.Growing.{grown_then, grown_long}
use Rattle.session_table.proofs.Wishing.{port_turned, since_high, long_makes_none, stopped_is_short, long_wants}

-- an answer that is too long to be written came with no entry, to an ask that may want memory
record Quiet (a : Ask) (entries : List Entry) : Type 0 where
  none : entries ≡ []
  may : may_want a ≡ true

quiet : (opening : Design) (h : List Entry) (caller : ℕ) (a : Ask) (given : Answer) (entries : List Entry) → Answers caller (wish_of a) (answer_at opening h caller a) given entries → is_long given ≡ true → Quiet a entries
quiet opening h caller a given entries (inl p) long = record {
  none = p.1 ∙ ap (λ b. if b then entries_of caller (ask_of 0 (wish_of a)) else []) (long_makes_none given long);
  may = long_wants opening h caller a (ap is_long (sym p.0) ∙ long);
}
quiet opening h caller a given entries (inr p) long = absurd (stopped_is_short given p.1 long)

turn_by : (opening : Design) (caller : ℕ) (seen after : List Entry) (from : Place) (k : Call) (stage : Upload) (may : Option Upload) (given kept : Answer) (added : List (ℕ × Entry)) (p : ℕ) (reply : Reply)
    → Meets opening seen k → IsFrom from.point (asked k) → from.point ≤ length seen → (may_want (asked k) ≡ true → may ≡ Some stage) → reply.point ≡ p → reply.body ≡ body.Store kept → IsKept given kept
    → PortTurns opening seen after caller (asked k) given added p ⊎ PortWants seen after (asked k) given added p → BySaid opening after caller from (inr (wish_of (asked k))) stage reply added (record { point = p; stage = stage }) ⊎ Lacks after from may reply added (record { point = p; stage = stage })
turn_by opening caller seen after from k stage may given kept added p reply m f le wants point is (inl same) (inl t) =
    inl (record {
      answer = given;
      body = is ∙ ap body.Store same;
      turn = subst (λ n. TurnsAt opening after caller from.point (wish_of (asked k)) given added n) (sym point) (port_turned opening seen after caller from.point (asked k) given added p le f t (since_high opening seen t.at k m t.low));
      goes = ap (λ n. record { point = n; stage = stage }) (sym point);
    })
turn_by opening caller seen after from k stage may given kept added p reply m f le wants point is (inr long) (inl t) =
    let q = quiet opening (take t.at after) caller (asked k) given t.entries t.answer long.1 in
    inr (record {
      stage = stage;
      may_be = wants q.may;
      body = is ∙ ap body.Store long.0;
      low = omega (arith, t.low, t.point, point);
      high = omega (arith, t.high, point);
      goes = ap (λ n. record { point = n; stage = stage }) (sym point);
      adds = t.adds ∙ ap (λ (l : List Entry). map (λ e. (t.at, e)) l) q.none;
    })
turn_by opening caller seen after from k stage may given kept added p reply m f le wants point is same (inr w) =
    inr (record {
      stage = stage;
      may_be = wants w.may;
      body = is ∙ ap body.Store (⊎_elim (λ x. x ∙ w.answer) (λ (x : (kept ≡ answer.Memory) × (is_long given ≡ true) × HasNoFrame given). x.0) same);
      low = omega (arith, w.low, point);
      high = omega (arith, w.high, point);
      goes = ap (λ n. record { point = n; stage = stage }) (sym point);
      adds = w.adds;
    })

turn_high : (opening : Design) (caller : ℕ) (seen after : List Entry) (a : Ask) (given : Answer) (added : List (ℕ × Entry)) (p : ℕ) → PortTurns opening seen after caller a given added p ⊎ PortWants seen after a given added p → p ≤ length after
turn_high opening caller seen after a given added p (inl t) = t.high
turn_high opening caller seen after a given added p (inr w) = w.high

pub turn_rowed : (opening : Design) (caller : ℕ) (seen : List Entry) (own : List (ℕ × Entry)) (after : List Entry) (own_after : List (ℕ × Entry)) (from : Place) (k : Call) (stage : Upload) (may : Option Upload) (given kept : Answer) (p : ℕ) (reply : Reply)
    → Meets opening seen k → IsFrom from.point (asked k) → from.point ≤ length seen → Grown seen after
    → PortTurn opening seen own after own_after caller (asked k) given p → (may_want (asked k) ≡ true → may ≡ Some stage) → IsKept given kept → reply.point ≡ p → reply.body ≡ body.Store kept → IsWritable reply.body
    → Rowed opening caller seen own after own_after from (inr (wish_of (asked k))) stage may reply (record { point = p; stage = stage })
turn_rowed opening caller seen own after own_after from k stage may given kept p reply m f le g t wants same point is writable = record {
  adds = t.added;
  by = turn_by opening caller seen after from k stage may given kept t.added p reply m f le wants point is same t.turn;
  owns = t.owns;
  grown = g;
  within = turn_high opening caller seen after (asked k) given t.added p t.turn;
  writable = writable;
}

-- a turn before it that changed nothing
pub rowed_before : (opening0 : Design) (caller0 : ℕ) (seen0 : List Entry) (own0 : List (ℕ × Entry)) (opening : Design) (caller : ℕ) (seen : List Entry) (own : List (ℕ × Entry)) (after : List Entry) (own_after : List (ℕ × Entry)) (from : Place) (said : Body ⊎ Wish) (stage : Upload) (may : Option Upload) (reply : Reply) (to : Place)
    → opening ≡ opening0 → caller ≡ caller0 → Grown seen0 seen → own ≡ own0
    → Rowed opening caller seen own after own_after from said stage may reply to → Rowed opening0 caller0 seen0 own0 after own_after from said stage may reply to
rowed_before opening0 caller0 seen0 own0 opening caller seen own after own_after from said stage may reply to o c g e p = record {
  adds = p.adds;
  by = subst (λ d. BySaid d after caller0 from said stage reply p.adds to ⊎ Lacks after from may reply p.adds to) o (subst (λ n. BySaid opening after n from said stage reply p.adds to ⊎ Lacks after from may reply p.adds to) c p.by);
  owns = p.owns ∙ ap (λ l. l ++ p.adds) e;
  grown = grown_then g p.grown;
  within = p.within;
  writable = p.writable;
}

-- a basis was wanted, or what comes behind it, and memory ran out
pub lacks_after : (opening : Design) (caller : ℕ) (seen : List Entry) (own : List (ℕ × Entry)) (after : List Entry) (own_after : List (ℕ × Entry)) (from : Place) (said : Body ⊎ Wish) (stage : Upload) (reply : Reply)
    → from.point ≤ length seen → Grown seen after → own_after ≡ own → reply.point ≡ from.point → reply.body ≡ body.Store answer.Memory → IsWritable reply.body
    → Rowed opening caller seen own after own_after from said stage (Some stage) reply (record { point = from.point; stage = stage })
lacks_after opening caller seen own after own_after from said stage reply le g e point is writable =
    let long = grown_long g in
    record {
      adds = [];
      by = inr (record { stage = stage; may_be = refl; body = is; low = omega (arith, point); high = omega (arith, point); goes = ap (λ n. record { point = n; stage = stage }) (sym point); adds = refl });
      owns = e ∙ sym (append-nil own);
      grown = g;
      within = omega arith;
      writable = writable;
    }

-- the same wish by an equal name
pub wished_as : {opening : Design} {caller : ℕ} {seen : List Entry} {own : List (ℕ × Entry)} {after : List Entry} {own_after : List (ℕ × Entry)} {from : Place} (w v : Wish) {stage : Upload} {may : Option Upload} {reply : Reply} {to : Place} → w ≡ v → Rowed opening caller seen own after own_after from (inr w) stage may reply to → Rowed opening caller seen own after own_after from (inr v) stage may reply to
wished_as {opening} {caller} {seen} {own} {after} {own_after} {from} w v {stage} {may} {reply} {to} e p = subst (λ x. Rowed opening caller seen own after own_after from (inr x) stage may reply to) e p

-- the same, where the place afterwards has an equal name
pub at_place : {opening : Design} {caller : ℕ} {seen : List Entry} {own : List (ℕ × Entry)} {after : List Entry} {own_after : List (ℕ × Entry)} {from : Place} {said : Body ⊎ Wish} {stage : Upload} {may : Option Upload} {reply : Reply} (to past : Place) → past ≡ to → Rowed opening caller seen own after own_after from said stage may reply to → Rowed opening caller seen own after own_after from said stage may reply past
at_place {opening} {caller} {seen} {own} {after} {own_after} {from} {said} {stage} {may} {reply} to past e p = subst (λ x. Rowed opening caller seen own after own_after from said stage may reply x) (sym e) p
