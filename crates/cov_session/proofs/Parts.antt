-- One frame of a stream.
use Rattle.std.proofs.Common.{◌≡◌, ℕ, ◌+◌, ◌-◌, ◌≤◌, List, [], ◌∷◌, ◌++◌, length, take, drop, refl, sym, ap, ◌∙◌, subst, append-nil, arith, length-append, Option, Some, None, false}
use Rattle.std.proofs.lemmas.List.{take-append-le, take_all}
use Rattle.std.specs.Int.{w64, to_be_bytes}
use Rattle.cov_spec.specs.Told.{Grows, Shrinks}
use Rattle.design_data.specs.declared.design.Design.{Design}
use Rattle.cov_history.specs.declared.entry.Entry.{Entry}
use Rattle.cov_proto.specs.declared.replies.Reply.{Reply}
use Rattle.cov_proto.specs.Frames.{IsBody, frame, HasFrame, longest_body}
use Rattle.cov_proto.specs.Limits.{IsReply}
use Rattle.cov_proto.specs.Spelled.{reply_spelled, body_fields}
use Rattle.session_table.specs.declared.bodies.Said.{Said}
use Rattle.upload_stage.specs.Uploads.{Upload}
use Rattle.session_table.specs.Frames.{IsWritable}
use Rattle.session_table.specs.Says.{Says}
use Rattle.session_table.specs.Table.{is_bye}
use Rattle.session_table.proofs.Growing.{grown_refl}
use Rattle.cov_session.specs.Fills.{longest_frame}
use Rattle.cov_session.specs.Moments.{World, Ran, Frame}
use Rattle.cov_session.proofs.Chain.{one_all, none_all}

take_front : (xs ys : List ℕ) → take (length xs) (xs ++ ys) ≡ xs
take_front xs ys = take-append-le (length xs) xs ys (omega arith) ∙ take_all (length xs) xs (omega arith)

drop_front : (xs ys : List ℕ) → drop (length xs) (xs ++ ys) ≡ ys
drop_front [] ys = refl
drop_front (x ∷ xs) ys = drop_front xs ys

pub frame_long : (len : ℕ) (held : List ℕ) → HasFrame len held → 4 + len ≤ length held
frame_long len held h = omega (arith, ap length h.begins, h.long, length-append (frame h.body) h.rest)

pub frame_body : (len n : ℕ) (held : List ℕ) (h : HasFrame len held) → n ≡ len → take n (drop 4 held) ≡ h.body
frame_body len n held h e = rw (h.begins, e, ← h.long) (take_front h.body h.rest)

frame_rest : (len : ℕ) (held : List ℕ) (h : HasFrame len held) → drop (4 + len) held ≡ h.rest
frame_rest len held h = let four : 4 + len ≡ length (frame h.body) = omega (arith, h.long) in rw (h.begins, four) (drop_front (frame h.body) h.rest)

pub shrinks_none : (a b : Option (List ℕ)) → b ≡ a → Shrinks a b []
shrinks_none a None e = tt
shrinks_none None (Some b) e = absurd cc
shrinks_none (Some a) (Some b) e = (cc)

pub one_frame : (opening : Design) (caller len : ℕ) (w w' : World) (body : List ℕ) (said : Said) (h : HasFrame len w.held) → body ≡ h.body → w'.held ≡ drop (4 + len) w.held → w'.left ≡ w.left → Says opening caller w.seen w.own w'.seen w'.own w.place body said w'.place → (out : Reply → Type 0) → out said.reply → Frame opening caller w w' said.bye out
one_frame opening caller len w w' body said h is rest left p out o = record {
  body = body;
  reply = said.reply;
  entries = p.adds;
  goes = record {
    takes = shrinks_none w.left w'.left left;
    cut = append-nil w.held ∙ (h.begins ∙ (ap (λ b. frame b ++ h.rest) (sym is) ∙ (ap (λ r. frame body ++ r) (sym (rest ∙ frame_rest len w.held h)) ∙ ap (λ l. l ++ w'.held) (sym (append-nil (frame body))))));
    each = one_all IsBody body (subst IsBody (sym is) h.is_body);
    grown = p.grown;
    within = p.within;
    serves = (w'.place, p.adds, [], p.step, (refl, refl), sym (append-nil p.adds));
    own = p.owns;
  };
  bye_is = sym p.bye;
  writes = o;
}

pub grows_none : (a : Option (List ℕ)) → Grows a a []
grows_none None = tt
grows_none (Some a) = sym (append-nil a)

-- nothing happened yet
pub ran_none : (opening : Design) (caller : ℕ) (w : World) → w.place.point ≤ length w.seen → Ran opening caller 0 w w
ran_none opening caller w within = record {
  taken = [];
  bodies = [];
  replies = [];
  entries = [];
  goes = record {
    takes = shrinks_none w.left w.left refl;
    cut = append-nil w.held;
    each = none_all IsBody;
    grown = grown_refl w.seen;
    within = within;
    serves = (refl, refl);
    own = sym (append-nil w.own);
  };
  long = refl;
  no_bye = none_all (λ b. is_bye b ≡ false);
  out = grows_none w.written;
}

pub ran_start : (opening : Design) (caller n : ℕ) (left written : Option (List ℕ)) (seen : List Entry) (own : List (ℕ × Entry)) (held : List ℕ) (point : ℕ) (stage : Upload) → held ≡ [] → point ≡ length seen → stage ≡ None → n ≡ 0
    → Ran opening caller n (record { left = left; held = []; place = record { point = length seen; stage = None }; seen = seen; own = own; written = written }) (record { left = left; held = held; place = record { point = point; stage = stage }; seen = seen; own = own; written = written })
ran_start opening caller n left written seen own held point stage p q r s = rw (p, q, r, s) (ran_none opening caller (record { left = left; held = []; place = record { point = length seen; stage = None }; seen = seen; own = own; written = written }) (omega arith))

-- ---- a reply that can be written

pub writable_spelled : (r : Reply) → IsWritable r.body → IsReply r
unfolding IsWritable
writable_spelled r w = w.0

pub writable_short : (r : Reply) → IsWritable r.body → length (reply_spelled r) ≤ longest_body
unfolding IsWritable reply_spelled
writable_short r w = omega (arith, w.1, length-append (to_be_bytes w64 r.point) (body_fields r.body))

pub frame_short : (len n : ℕ) (held : List ℕ) (h : HasFrame len held) → n ≡ len → length (take n (drop 4 held)) ≤ longest_body
frame_short len n held h e = subst (λ b. length b ≤ longest_body) (sym (frame_body len n held h e)) h.is_body.1

pub frame_room : (r : Reply) (n room : ℕ) → IsWritable r.body → n ≡ 0 → longest_frame ≤ room → n + length (frame (reply_spelled r)) ≤ room
frame_room r n room w e le = let s = writable_short r w in omega (arith, s, e, le)
