-- Where nobody else makes an entry and no reply is Memory, the bodies decide the replies.
use Rattle.std.proofs.Common.{◌≡◌, ◌⊎◌, inl, inr, ⊎_elim, ℕ, zero, suc, ◌+◌, ◌≤◌, List, [], ◌∷◌, ◌++◌, length, take, map, Bool, true, false, ◌||◌, refl, sym, ap, ◌∙◌, subst, arith, length-append}
use Rattle.std.specs.Prelude.{Option}
use Rattle.std.specs.List.{list_any}
use Rattle.std.proofs.lemmas.List.{length-map}
use Rattle.design_data.specs.declared.design.Design.{Design}
use Rattle.ucis_model.specs.declared.answers.Answer.{Answer}
use Rattle.cov_history.specs.declared.entry.Entry.{Entry}
use Rattle.cov_history.specs.declared.entry.Event.TheVariants as event
use Rattle.cov_history.specs.History.{is_stop, has_stop}
use Rattle.cov_history.specs.Answers.{by}
use Rattle.cov_history.specs.Turns.{Wish, wished, made_by, TurnsAt}
use Rattle.upload_stage.specs.Uploads.{Upload}
use Rattle.cov_proto.specs.declared.replies.Body.{Body}
use Rattle.cov_proto.specs.declared.replies.Body.TheVariants as body
use Rattle.cov_proto.specs.declared.replies.Reply.{Reply}
use Rattle.cov_proto.specs.Requests.{request_read}
use Rattle.cov_session.specs.Table.{Row, lost}
use Rattle.cov_session.specs.Serves.{Place, Lacks, BySaid, Replied, Step, Serves}
use Rattle.session_laws.specs.Laws.{is_memory, is_body_of, is_reply_of, NoneIs, AreOne}
use Rattle.session_laws.proofs.OneRow.{row_one}

-- ---- counting: points rise by the entries at least

added_long : {opening : Design} {h : List Entry} {caller from : ℕ} {w : Wish} {a : Answer} {added : List (ℕ × Entry)} {to : ℕ} → (t : TurnsAt opening h caller from w a added to) → length added ≡ length t.entries
added_long t = ap length t.adds ∙ length-map t.entries (λ e. (t.at, e))

said_grows : (opening : Design) (h : List Entry) (caller : ℕ) (from : Place) (said : Body ⊎ Wish) (stage : Upload) (reply : Reply) (added : List (ℕ × Entry)) (to : Place) → BySaid opening h caller from said stage reply added to → from.point + length added ≤ to.point
said_grows opening h caller from (inl b) stage reply added to t = let e : to.point ≡ from.point = ap (λ (x : Place). x.point) t.goes in omega (arith, ap length t.adds)
said_grows opening h caller from (inr w) stage reply added to t = let e : to.point ≡ reply.point = ap (λ (x : Place). x.point) t.goes in let long = added_long t.turn in omega (arith, t.turn.low, t.turn.order, t.turn.point)

pub step_grows : (opening : Design) (h : List Entry) (caller : ℕ) (from : Place) (b : List ℕ) (reply : Reply) (added : List (ℕ × Entry)) (to : Place) → Step opening h caller from b reply added to → from.point + length added ≤ to.point
unfolding Step
step_grows opening h caller from b reply added to p = ⊎_elim
    (λ (x : Replied opening h caller from (request_read b) reply added to). said_grows opening h caller from x.row.said x.row.stage reply added to x.by)
    (λ (x : Lacks h from (lost from.stage (request_read b)) reply added to). let e : to.point ≡ reply.point = ap (λ (y : Place). y.point) x.goes in omega (arith, x.low, ap length x.adds)) p

pub serves_grows : (opening : Design) (h : List Entry) (caller : ℕ) (from : Place) (bs : List (List ℕ)) (rs : List Reply) (es : List (ℕ × Entry)) (to : Place) → Serves opening h caller from bs rs es to → from.point + length es ≤ to.point
serves_grows opening h caller from [] [] es to p = let e : to.point ≡ from.point = ap (λ (x : Place). x.point) p.1 in omega (arith, ap length p.0)
serves_grows opening h caller from [] (r ∷ rs) es to p = absurd p
serves_grows opening h caller from (b ∷ bs) [] es to p = absurd p
serves_grows opening h caller from (b ∷ bs) (r ∷ rs) es to p =
    let x = step_grows opening h caller from b r p.1 p.0 p.3 in
    let y = serves_grows opening h caller p.0 bs rs p.2 to p.4 in
    omega (arith, ap length p.5, length-append p.1 p.2)

-- ---- points stay within the history

said_within : (opening : Design) (h : List Entry) (caller : ℕ) (from : Place) (said : Body ⊎ Wish) (stage : Upload) (reply : Reply) (added : List (ℕ × Entry)) (to : Place) → from.point ≤ length h → BySaid opening h caller from said stage reply added to → to.point ≤ length h
said_within opening h caller from (inl b) stage reply added to le t = subst (λ (x : Place). x.point ≤ length h) (sym t.goes) le
said_within opening h caller from (inr w) stage reply added to le t = subst (λ (x : Place). x.point ≤ length h) (sym t.goes) t.turn.high

step_within : (opening : Design) (h : List Entry) (caller : ℕ) (from : Place) (b : List ℕ) (reply : Reply) (added : List (ℕ × Entry)) (to : Place) → from.point ≤ length h → Step opening h caller from b reply added to → to.point ≤ length h
unfolding Step
step_within opening h caller from b reply added to le p = ⊎_elim
    (λ (x : Replied opening h caller from (request_read b) reply added to). said_within opening h caller from x.row.said x.row.stage reply added to le x.by)
    (λ (x : Lacks h from (lost from.stage (request_read b)) reply added to). subst (λ (y : Place). y.point ≤ length h) (sym x.goes) x.high) p

pub serves_within : (opening : Design) (h : List Entry) (caller : ℕ) (from : Place) (bs : List (List ℕ)) (rs : List Reply) (es : List (ℕ × Entry)) (to : Place) → from.point ≤ length h → Serves opening h caller from bs rs es to → to.point ≤ length h
serves_within opening h caller from [] [] es to le p = subst (λ (x : Place). x.point ≤ length h) (sym p.1) le
serves_within opening h caller from [] (r ∷ rs) es to le p = absurd p
serves_within opening h caller from (b ∷ bs) [] es to le p = absurd p
serves_within opening h caller from (b ∷ bs) (r ∷ rs) es to le p = serves_within opening h caller p.0 bs rs p.2 to (step_within opening h caller from b r p.1 p.0 le p.3) p.4

-- ---- a history without a Stop

pub stop_taken : (n : ℕ) (h : List Entry) → has_stop h ≡ false → has_stop (take n h) ≡ false
stop_taken zero h e = refl
stop_taken (suc n) [] e = refl
stop_taken (suc n) (x ∷ h) e = by_first (stop_taken n h) (is_stop x.event) refl
  where
    by_first : (has_stop h ≡ false → has_stop (take n h) ≡ false) → (b : Bool) → is_stop x.event ≡ b → (is_stop x.event || has_stop (take n h)) ≡ false
    by_first rest true is = let f : true ≡ false = sym (ap (λ b. b || has_stop h) is) ∙ e in absurd cc
    by_first rest false is = ap (λ b. b || has_stop (take n h)) is ∙ rest (sym (ap (λ b. b || has_stop h) is) ∙ e)

stop_behind : (xs : List Entry) (e : Entry) → is_stop e.event ≡ true → has_stop (xs ++ e ∷ []) ≡ true
stop_behind [] e is = ap (λ b. b || false) is
stop_behind (x ∷ xs) e is = ap (λ b. is_stop x.event || b) (stop_behind xs e is) ∙ ends (is_stop x.event)
  where
    ends : (b : Bool) → (b || true) ≡ true
    ends true = refl
    ends false = refl

-- ---- one turn

-- what a turn at the place where it begins leads to
pub record Tight (opening : Design) (h : List Entry) (caller from : ℕ) (w : Wish) (given : Answer) (added : List (ℕ × Entry)) (to : ℕ) : Type 0 where
  pub given_is : given ≡ wished opening (take from h) caller from w
  pub added_is : added ≡ map (λ e. (from, e)) (made_by caller w given)
  pub to_is : to ≡ from + length (made_by caller w given)
  pub there : take to h ≡ take from h ++ made_by caller w given

pub tight : (opening : Design) (h : List Entry) (caller from : ℕ) (w : Wish) (given : Answer) (added : List (ℕ × Entry)) (to : ℕ) → has_stop h ≡ false → to ≤ from + length added → TurnsAt opening h caller from w given added to → Tight opening h caller from w given added to
tight opening h caller from w given added to going le t =
    let long = added_long t in
    let at_is : t.at ≡ from = omega (arith, t.low, t.order, t.point) in
    let since_is : t.since ≡ from = omega (arith, t.low, t.order, t.point) in
    ⊎_elim
    (λ (x : (given ≡ wished opening (take t.at h) caller t.since w) × (t.entries ≡ made_by caller w given)). record {
      given_is = x.0 ∙ (ap (λ n. wished opening (take n h) caller t.since w) at_is ∙ ap (λ n. wished opening (take from h) caller n w) since_is);
      added_is = t.adds ∙ (ap (λ n. map (λ e. (n, e)) t.entries) at_is ∙ ap (λ es. map (λ e. (from, e)) es) x.1);
      to_is = t.point ∙ (ap (λ n. n + length t.entries) at_is ∙ ap (λ es. from + length es) x.1);
      there = t.there ∙ (ap (λ n. take n h ++ t.entries) at_is ∙ ap (λ es. take from h ++ es) x.1);
    })
    (λ x. let f : has_stop (take to h) ≡ true = ap has_stop (t.there ∙ ap (λ es. take t.at h ++ es) x.2) ∙ stop_behind (take t.at h) (by caller event.Stop) refl in let g = stop_taken to h going in absurd cc)
    t.answer

-- ---- two sessions of the same bodies

record Alike (h k : List Entry) (reply other : Reply) (added more : List (ℕ × Entry)) (to past : Place) : Type 0 where
  replies_same : reply ≡ other
  added_same : added ≡ more
  to_same : to ≡ past
  front : take to.point h ≡ take to.point k

reply_is : (r q : Reply) → r.point ≡ q.point → r.body ≡ q.body → r ≡ q
reply_is r q p b = λ i. record { point = p i; body = b i }

said_alike : (opening : Design) (h k : List Entry) (caller : ℕ) (from : Place) (said : Body ⊎ Wish) (stage : Upload) (reply other : Reply) (added more : List (ℕ × Entry)) (to past : Place)
    → has_stop h ≡ false → has_stop k ≡ false → take from.point h ≡ take from.point k → to.point ≤ from.point + length added → past.point ≤ from.point + length more
    → BySaid opening h caller from said stage reply added to → BySaid opening k caller from said stage other more past → Alike h k reply other added more to past
said_alike opening h k caller from (inl b) stage reply other added more to past going_h going_k same le_h le_k p q = record {
  replies_same = reply_is reply other (p.point ∙ sym q.point) (p.body ∙ sym q.body);
  added_same = p.adds ∙ sym q.adds;
  to_same = p.goes ∙ sym q.goes;
  front = subst (λ (x : Place). take x.point h ≡ take x.point k) (sym p.goes) same;
}
said_alike opening h k caller from (inr w) stage reply other added more to past going_h going_k same le_h le_k p q =
    let to_h : to.point ≡ reply.point = ap (λ (x : Place). x.point) p.goes in
    let to_k : past.point ≡ other.point = ap (λ (x : Place). x.point) q.goes in
    let a = tight opening h caller from.point w p.answer added reply.point going_h (omega (arith, to_h, le_h)) p.turn in
    let b = tight opening k caller from.point w q.answer more other.point going_k (omega (arith, to_k, le_k)) q.turn in
    let given : p.answer ≡ q.answer = a.given_is ∙ (ap (λ l. wished opening l caller from.point w) same ∙ sym b.given_is) in
    let made : made_by caller w p.answer ≡ made_by caller w q.answer = ap (made_by caller w) given in
    let points : reply.point ≡ other.point = a.to_is ∙ (ap (λ es. from.point + length es) made ∙ sym b.to_is) in
    record {
      replies_same = reply_is reply other points (p.body ∙ (ap body.Store given ∙ sym q.body));
      added_same = a.added_is ∙ (ap (λ es. map (λ e. (from.point, e)) es) made ∙ sym b.added_is);
      to_same = p.goes ∙ (ap (λ n. record { point = n; stage = stage }) points ∙ sym q.goes);
      front = ap (λ n. take n h) to_h ∙ (a.there ∙ ((λ i. same i ++ made i) ∙ (sym b.there ∙ ap (λ n. take n k) (sym (to_h ∙ points)))));
    }

not_memory : (h : List Entry) (from : Place) (may : Option Upload) (reply : Reply) (added : List (ℕ × Entry)) (to : Place) → is_reply_of is_memory reply ≡ false → Lacks h from may reply added to → ⊥
not_memory h from may reply added to quiet l = let f : is_reply_of is_memory reply ≡ true = ap (is_body_of is_memory) l.body in absurd cc

step_alike : (opening : Design) (h k : List Entry) (caller : ℕ) (from : Place) (b : List ℕ) (reply other : Reply) (added more : List (ℕ × Entry)) (to past : Place)
    → has_stop h ≡ false → has_stop k ≡ false → take from.point h ≡ take from.point k → to.point ≤ from.point + length added → past.point ≤ from.point + length more → is_reply_of is_memory reply ≡ false → is_reply_of is_memory other ≡ false
    → Step opening h caller from b reply added to → Step opening k caller from b other more past → Alike h k reply other added more to past
unfolding Step
step_alike opening h k caller from b reply other added more to past going_h going_k same le_h le_k no_h no_k p q = ⊎_elim
    (λ (x : Replied opening h caller from (request_read b) reply added to). ⊎_elim
    (λ (y : Replied opening k caller from (request_read b) other more past).
    let row : y.row ≡ x.row = row_one opening from.stage (request_read b) y.row x.row y.is_row x.is_row in
    said_alike opening h k caller from x.row.said x.row.stage reply other added more to past going_h going_k same le_h le_k x.by (subst (λ (r : Row). BySaid opening k caller from r.said r.stage other more past) row y.by))
    (λ (y : Lacks k from (lost from.stage (request_read b)) other more past). absurd (not_memory k from (lost from.stage (request_read b)) other more past no_k y)) q)
    (λ (x : Lacks h from (lost from.stage (request_read b)) reply added to). absurd (not_memory h from (lost from.stage (request_read b)) reply added to no_h x)) p

pub first_no : (test : Answer → Bool) (r : Reply) (rs : List Reply) → NoneIs test (r ∷ rs) → (is_reply_of test r ≡ false) × NoneIs test rs
first_no test r rs e = by_first (is_reply_of test r) refl
  where
    by_first : (b : Bool) → is_reply_of test r ≡ b → (is_reply_of test r ≡ false) × NoneIs test rs
    by_first true is = let f : true ≡ false = sym (ap (λ b. b || list_any (is_reply_of test) rs) is) ∙ e in absurd cc
    by_first false is = (is, sym (ap (λ b. b || list_any (is_reply_of test) rs) is) ∙ e)

pub serves_one : (opening : Design) (h k : List Entry) (caller : ℕ) (from to past : Place) (bs : List (List ℕ)) (rs qs : List Reply) (es fs : List (ℕ × Entry))
    → has_stop h ≡ false → has_stop k ≡ false → take from.point h ≡ take from.point k → to.point ≤ from.point + length es → past.point ≤ from.point + length fs
    → NoneIs is_memory rs → NoneIs is_memory qs → Serves opening h caller from bs rs es to → Serves opening k caller from bs qs fs past → AreOne rs qs es fs
serves_one opening h k caller from to past [] [] [] es fs going_h going_k same le_h le_k no_h no_k p q = record { same_replies = refl; same_entries = p.0 ∙ sym q.0 }
serves_one opening h k caller from to past [] (r ∷ rs) qs es fs going_h going_k same le_h le_k no_h no_k p q = absurd p
serves_one opening h k caller from to past [] [] (r ∷ qs) es fs going_h going_k same le_h le_k no_h no_k p q = absurd q
serves_one opening h k caller from to past (b ∷ bs) [] qs es fs going_h going_k same le_h le_k no_h no_k p q = absurd p
serves_one opening h k caller from to past (b ∷ bs) (r ∷ rs) [] es fs going_h going_k same le_h le_k no_h no_k p q = absurd q
serves_one opening h k caller from to past (b ∷ bs) (r ∷ rs) (o ∷ qs) es fs going_h going_k same le_h le_k no_h no_k p q =
    let x = step_grows opening h caller from b r p.1 p.0 p.3 in
    let y = serves_grows opening h caller p.0 bs rs p.2 to p.4 in
    let u = step_grows opening k caller from b o q.1 q.0 q.3 in
    let v = serves_grows opening k caller q.0 bs qs q.2 past q.4 in
    let long : length es ≡ length p.1 + length p.2 = ap length p.5 ∙ length-append p.1 p.2 in
    let far : length fs ≡ length q.1 + length q.2 = ap length q.5 ∙ length-append q.1 q.2 in
    let quiet = first_no is_memory r rs no_h in
    let none = first_no is_memory o qs no_k in
    let s = step_alike opening h k caller from b r o p.1 q.1 p.0 q.0 going_h going_k same (omega arith) (omega arith) quiet.0 none.0 p.3 q.3 in
    let rest = serves_one opening h k caller p.0 to past bs rs qs p.2 q.2 going_h going_k s.front (omega arith) (let e : q.0.point ≡ p.0.point = ap (λ (z : Place). z.point) (sym s.to_same) in omega arith) quiet.1 none.1 p.4 (subst (λ z. Serves opening k caller z bs qs q.2 past) (sym s.to_same) q.4) in
    record {
      same_replies = λ i. s.replies_same i ∷ rest.same_replies i;
      same_entries = p.5 ∙ ((λ i. s.added_same i ++ rest.same_entries i) ∙ sym q.5);
    }
