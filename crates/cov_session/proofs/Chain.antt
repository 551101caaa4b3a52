-- One part of a session after the other.
use Rattle.std.proofs.Common.{◌≡◌, ℕ, ◌+◌, List, [], ◌∷◌, ◌++◌, take, refl, sym, ap, ◌∙◌, subst, append_assoc, append-nil, arith, length-append, Option, Some, None, Bool, true, false, rules}
use Rattle.std.specs.Prelude.{All}
use Rattle.std.specs.List.{flat_map}
use Rattle.std.proofs.lemmas.Grind.{flat_map-append}
use Rattle.std.proofs.lemmas.List.Elements.{All-append}
use Rattle.cov_spec.specs.Told.{Grows, Shrinks}
use Rattle.design_data.specs.declared.design.Design.{Design}
use Rattle.cov_history.specs.declared.entry.Entry.{Entry}
use Rattle.cov_proto.specs.declared.replies.Reply.{Reply}
use Rattle.cov_proto.specs.Frames.{IsBody, frame, frames}
use Rattle.session_table.specs.Table.{is_bye}
use Rattle.session_table.proofs.Growing.{grown_then}
use Rattle.session_table.proofs.Later.{serves_later, serves_then}
use Rattle.cov_session.specs.Streams.{reply_frame}
use Rattle.cov_session.specs.Moments.{World, Goes, Ran, RanToBye, RanToFault, Frame, Whole, Front}

pub shrinks_then : (a b c : Option (List ℕ)) (x y : List ℕ) → Shrinks a b x → Shrinks b c y → Shrinks a c (x ++ y)
shrinks_then a b None x y p q = tt
shrinks_then a None (Some c) x y p q = absurd q
shrinks_then None (Some b) (Some c) x y p q = absurd p
shrinks_then (Some a) (Some b) (Some c) x y p q = p ∙ (ap (λ l. x ++ l) q ∙ sym (append_assoc x y c))

pub grows_then : (a b c : Option (List ℕ)) (x y : List ℕ) → Grows a b x → Grows b c y → Grows a c (x ++ y)
grows_then a b None x y p q = tt
grows_then a None (Some c) x y p q = absurd q
grows_then None (Some b) (Some c) x y p q = absurd p
grows_then (Some a) (Some b) (Some c) x y p q = q ∙ (ap (λ l. l ++ y) p ∙ append_assoc a x y)

pub none_all : {A : Type 0} (P : A → Type 0) → All P []
none_all P = search rules

pub one_all : {A : Type 0} (P : A → Type 0) (x : A) → P x → All P (x ∷ [])
one_all P x p = search rules

all_then : {A : Type 0} (P : A → Type 0) (xs ys : List A) → All P xs → All P ys → All P (xs ++ ys)
all_then P xs ys p q = All-append P xs ys p q

pub goes_then : {opening : Design} {caller : ℕ} {w v u : World} {t1 t2 : List ℕ} {b1 b2 : List (List ℕ)} {r1 r2 : List Reply} {e1 e2 : List (ℕ × Entry)} → Goes opening caller w v t1 b1 r1 e1 → Goes opening caller v u t2 b2 r2 e2 → Goes opening caller w u (t1 ++ t2) (b1 ++ b2) (r1 ++ r2) (e1 ++ e2)
goes_then {opening} {caller} {w} {v} {u} {t1} {t2} {b1} {b2} {r1} {r2} {e1} {e2} p q = record {
  takes = shrinks_then w.left v.left u.left t1 t2 p.takes q.takes;
  cut = sym (append_assoc w.held t1 t2) ∙ (ap (λ l. l ++ t2) p.cut ∙ (append_assoc (frames b1) v.held t2 ∙ (ap (λ l. frames b1 ++ l) q.cut ∙ (sym (append_assoc (frames b1) (frames b2) u.held) ∙ ap (λ l. l ++ u.held) (sym (flat_map-append frame b1 b2))))));
  each = all_then IsBody b1 b2 p.each q.each;
  grown = grown_then p.grown q.grown;
  within = q.within;
  serves = serves_then opening u.seen caller w.place v.place u.place b1 b2 r1 r2 e1 e2 (serves_later opening v.seen u.seen caller w.place b1 r1 e1 v.place q.grown p.serves) q.serves;
  own = q.own ∙ (ap (λ l. l ++ e2) p.own ∙ append_assoc w.own e1 e2);
}

grows_both : (w v u : World) (r1 r2 : List Reply) → Grows w.written v.written (flat_map reply_frame r1) → Grows v.written u.written (flat_map reply_frame r2) → Grows w.written u.written (flat_map reply_frame (r1 ++ r2))
grows_both w v u r1 r2 p q = subst (λ l. Grows w.written u.written l) (sym (flat_map-append reply_frame r1 r2)) (grows_then w.written v.written u.written (flat_map reply_frame r1) (flat_map reply_frame r2) p q)

pub ran_then : {opening : Design} {caller n m k : ℕ} {w v u : World} → Ran opening caller n w v → Ran opening caller m v u → n + m ≡ k → Ran opening caller k w u
ran_then {opening} {caller} {n} {m} {k} {w} {v} {u} p q e = record {
  taken = p.taken ++ q.taken;
  bodies = p.bodies ++ q.bodies;
  replies = p.replies ++ q.replies;
  entries = p.entries ++ q.entries;
  goes = goes_then p.goes q.goes;
  long = omega (arith, length-append p.taken q.taken, p.long, q.long);
  no_bye = all_then (λ b. is_bye b ≡ false) p.bodies q.bodies p.no_bye q.no_bye;
  out = grows_both w v u p.replies q.replies p.out q.out;
}

pub bye_then : {opening : Design} {caller n m k : ℕ} {w v u : World} → Ran opening caller n w v → RanToBye opening caller m v u → n + m ≡ k → RanToBye opening caller k w u
bye_then {opening} {caller} {n} {m} {k} {w} {v} {u} p q e = record {
  taken = p.taken ++ q.taken;
  bodies = p.bodies ++ q.bodies;
  replies = p.replies ++ q.replies;
  entries = p.entries ++ q.entries;
  goes = goes_then p.goes q.goes;
  long = omega (arith, length-append p.taken q.taken, p.long, q.long);
  bye = record { before = p.bodies ++ q.bye.before; last = q.bye.last; is = ap (λ l. p.bodies ++ l) q.bye.is ∙ sym (append_assoc p.bodies q.bye.before (q.bye.last ∷ [])); bye = q.bye.bye; none = all_then (λ b. is_bye b ≡ false) p.bodies q.bye.before p.no_bye q.bye.none };
  out = grows_both w v u p.replies q.replies p.out q.out;
}

pub fault_then : {opening : Design} {caller n m k : ℕ} {w v u : World} → Ran opening caller n w v → RanToFault opening caller m v u → n + m ≡ k → RanToFault opening caller k w u
fault_then {opening} {caller} {n} {m} {k} {w} {v} {u} p q e = record {
  taken = p.taken ++ q.taken;
  bodies = p.bodies ++ q.bodies;
  replies = p.replies ++ q.replies;
  entries = p.entries ++ q.entries;
  goes = goes_then p.goes q.goes;
  long = omega (arith, length-append p.taken q.taken, p.long, q.long);
  none = record { before = p.bodies ++ q.none.before; last = q.none.last; is = ap (λ l. p.bodies ++ l) q.none.is ∙ sym (append_assoc p.bodies q.none.before (q.none.last ∷ [])); none = all_then (λ b. is_bye b ≡ false) p.bodies q.none.before p.no_bye q.none.none };
  out = record {
    whole = p.replies ++ q.out.whole;
    last = q.out.last;
    some = q.out.some;
    is = ap (λ l. p.replies ++ l) q.out.is ∙ sym (append_assoc p.replies q.out.whole (q.out.last ∷ []));
    out = subst (λ l. Grows w.written u.written l)
        (sym (append_assoc (flat_map reply_frame p.replies) (flat_map reply_frame q.out.whole) (take q.out.some (reply_frame q.out.last))) ∙ ap (λ l. l ++ take q.out.some (reply_frame q.out.last)) (sym (flat_map-append reply_frame p.replies q.out.whole)))
        (grows_then w.written v.written u.written (flat_map reply_frame p.replies) (flat_map reply_frame q.out.whole ++ take q.out.some (reply_frame q.out.last)) p.out q.out.out);
  };
}

-- ---- one frame

pub frame_ran : {opening : Design} {caller : ℕ} {w v : World} → Frame opening caller w v false (Whole w v) → Ran opening caller 0 w v
frame_ran {opening} {caller} {w} {v} f = record {
  taken = [];
  bodies = f.body ∷ [];
  replies = f.reply ∷ [];
  entries = f.entries;
  goes = f.goes;
  long = refl;
  no_bye = one_all (λ b. is_bye b ≡ false) f.body f.bye_is;
  out = subst (λ l. Grows w.written v.written l) (sym (append-nil (reply_frame f.reply))) f.writes;
}

pub frame_bye : {opening : Design} {caller : ℕ} {w v : World} → Frame opening caller w v true (Whole w v) → RanToBye opening caller 0 w v
frame_bye {opening} {caller} {w} {v} f = record {
  taken = [];
  bodies = f.body ∷ [];
  replies = f.reply ∷ [];
  entries = f.entries;
  goes = f.goes;
  long = refl;
  bye = record { before = []; last = f.body; is = refl; bye = f.bye_is; none = none_all (λ b. is_bye b ≡ false) };
  out = subst (λ l. Grows w.written v.written l) (sym (append-nil (reply_frame f.reply))) f.writes;
}

pub frame_fault : {opening : Design} {caller : ℕ} {w v : World} {bye : Bool} → Frame opening caller w v bye (Front w v) → RanToFault opening caller 0 w v
frame_fault {opening} {caller} {w} {v} {bye} f = record {
  taken = [];
  bodies = f.body ∷ [];
  replies = f.reply ∷ [];
  entries = f.entries;
  goes = f.goes;
  long = refl;
  none = record { before = []; last = f.body; is = refl; none = none_all (λ b. is_bye b ≡ false) };
  out = record { whole = []; last = f.reply; some = f.writes.0; is = refl; out = f.writes.1 };
}
