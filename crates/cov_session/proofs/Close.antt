-- The end of a session, and one read.
use Rattle.std.proofs.Common.{◌≡◌, ℕ, ◌+◌, ◌-◌, ◌<◌, ◌≤◌, List, [], ◌∷◌, ◌++◌, length, refl, sym, ap, ◌∙◌, subst, append-nil, arith, length-append, Option, Some, None, false, inl, inr}
use Rattle.cov_spec.specs.Told.{Shrinks, Stays}
use Rattle.design_data.specs.declared.design.Design.{Design}
use Rattle.cov_history.specs.declared.entry.Entry.{Entry}
use Rattle.cov_proto.specs.declared.replies.Reply.{Reply}
use Rattle.cov_proto.specs.Frames.{IsBody, IsTorn, HasBadLength}
use Rattle.session_table.specs.Table.{is_bye}
use Rattle.session_table.specs.Serves.{Serves}
use Rattle.session_table.proofs.Growing.{grown_refl}
use Rattle.cov_session.specs.declared.ended.Ended.{Ended}
use Rattle.cov_session.specs.declared.ended.Ended.TheVariants as ended
use Rattle.cov_session.specs.Streams.{Rest, Out, Took, Outside, Session, begins_at}
use Rattle.cov_session.specs.Moments.{World, Goes, Ran, RanToBye, RanToFault}
use Rattle.cov_session.specs.Fills.{longest_frame, Filled}
use Rattle.cov_session.proofs.Chain.{none_all, ran_then, bye_then, fault_then}
use Rattle.cov_session.proofs.Parts.{grows_none, shrinks_none}

abbrev pub outside : World → Outside
outside w = record { left = w.left; written = w.written; seen = w.seen; own = w.own }

-- a session begins so
pub record Starts (w : World) : Type 0 where
  pub empty : w.held ≡ []
  pub place : w.place ≡ begins_at w.seen

abbrev pub Closes : Design → ℕ → ℕ → World → World → Ended → Type 0
Closes opening caller most w u end = Session opening caller most (outside w) (outside u) end

-- the session up to its end
closed : {opening : Design} {caller most : ℕ} {w u : World} {taken : List ℕ} {bodies : List (List ℕ)} {replies : List Reply} {entries : List (ℕ × Entry)} (end : Ended) → Starts w → Goes opening caller w u taken bodies replies entries → length taken ≤ most → Rest end bodies u.held → Took end most taken u.left → Out end w.written u.written replies → Closes opening caller most w u end
closed {opening} {caller} {most} {w} {u} {taken} {bodies} {replies} {entries} end s g few rest took out = record {
  taken = taken;
  bodies = bodies;
  replies = replies;
  entries = entries;
  to = u.place;
  takes = g.takes;
  most_taken = few;
  took = took;
  cut = record { rest = u.held; is = ap (λ l. l ++ taken) (sym s.empty) ∙ g.cut; each = g.each; ends = rest };
  grown = g.grown;
  serves = subst (λ p. Serves opening u.seen caller p bodies replies entries u.place) s.place g.serves;
  out = out;
  own = g.own;
}

-- a read of these bytes
pub read_ran : {opening : Design} {caller n m k : ℕ} {w v : World} (left : Option (List ℕ)) (held got : List ℕ) → Ran opening caller n w v → length got ≡ m → held ≡ v.held ++ got → Shrinks v.left left got → n + m ≡ k → Ran opening caller k w (record { left = left; held = held; place = v.place; seen = v.seen; own = v.own; written = v.written })
read_ran {opening} {caller} {n} {m} {k} {w} {v} left held got r long is takes e = ran_then r (record {
  taken = got;
  bodies = [];
  replies = [];
  entries = [];
  goes = record {
    takes = takes;
    cut = sym is;
    each = none_all IsBody;
    grown = grown_refl v.seen;
    within = r.goes.within;
    serves = (refl, refl);
    own = sym (append-nil v.own);
  };
  long = long;
  no_bye = none_all (λ b. is_bye b ≡ false);
  out = grows_none v.written;
}) e

stays_shrinks : (a b : Option (List ℕ)) → Stays a b → Shrinks a b []
stays_shrinks a None k = tt
stays_shrinks None (Some b) k = absurd k
stays_shrinks (Some a) (Some b) k = sym k

no_bytes : (xs : List ℕ) → length xs ≡ 0 → xs ≡ []
no_bytes [] e = refl
no_bytes (x ∷ xs) e = absurd (omega arith)

pub torn_short : (xs : List ℕ) → IsTorn xs → length xs < longest_frame
torn_short xs (inl p) = omega arith
torn_short xs (inr f) = omega (arith, ap length f.whole, length-append xs f.more, f.some, f.is_body.1)

-- ---- one lemma for each end

pub ends_memory : {opening : Design} {caller most : ℕ} {w : World} → Starts w → w.place.point ≤ length w.seen → Closes opening caller most w w ended.Memory
ends_memory {opening} {caller} {most} {w} s within = closed {taken = []} {bodies = []} {replies = []} {entries = []} ended.Memory s
    (record { takes = shrinks_none w.left w.left refl; cut = append-nil w.held; each = none_all IsBody; grown = grown_refl w.seen; within = within; serves = (refl, refl); own = sym (append-nil w.own) })
    (omega arith) (refl, s.empty) tt (grows_none w.written)

pub ends_bye : {opening : Design} {caller most n : ℕ} {w v u : World} → Starts w → n ≤ most → Ran opening caller n w v → RanToBye opening caller 0 v u → Closes opening caller most w u ended.Bye
ends_bye {opening} {caller} {most} {n} {w} {v} {u} s few p q = close (bye_then p q refl)
  where
    close : RanToBye opening caller (n + 0) w u → Closes opening caller most w u ended.Bye
    close r = closed ended.Bye s r.goes (omega (arith, r.long)) r.bye tt r.out

pub ends_fault : {opening : Design} {caller most n : ℕ} {w v u : World} → Starts w → n ≤ most → Ran opening caller n w v → RanToFault opening caller 0 v u → Closes opening caller most w u ended.WriteFault
ends_fault {opening} {caller} {most} {n} {w} {v} {u} s few p q = close (fault_then p q refl)
  where
    close : RanToFault opening caller (n + 0) w u → Closes opening caller most w u ended.WriteFault
    close r = closed ended.WriteFault s r.goes (omega (arith, r.long)) r.none tt r.out

pub ends_length : {opening : Design} {caller most n len : ℕ} {w v u : World} → Starts w → n ≤ most → Ran opening caller n w v → Ran opening caller 0 v u → HasBadLength len u.held → Closes opening caller most w u (ended.FrameTooLong len)
ends_length {opening} {caller} {most} {n} {len} {w} {v} {u} s few p q bad = close (ran_then p q refl)
  where
    close : Ran opening caller (n + 0) w u → Closes opening caller most w u (ended.FrameTooLong len)
    close r = closed (ended.FrameTooLong len) s r.goes (omega (arith, r.long)) (r.no_bye, bad) tt r.out

pub ends_long : {opening : Design} {caller most n : ℕ} {w v u : World} → Starts w → Ran opening caller n w v → Ran opening caller 0 v u → IsTorn u.held → n ≡ most → Closes opening caller most w u ended.SessionTooLong
ends_long {opening} {caller} {most} {n} {w} {v} {u} s p q torn e = close (ran_then p q refl)
  where
    close : Ran opening caller (n + 0) w u → Closes opening caller most w u ended.SessionTooLong
    close r = closed ended.SessionTooLong s r.goes (omega (arith, r.long)) (r.no_bye, torn) (omega (arith, r.long)) r.out

-- after a read
abbrev pub then_read : World → Option (List ℕ) → List ℕ → World
then_read u left held = record { left = left; held = held; place = u.place; seen = u.seen; own = u.own; written = u.written }

pub ends_read : {opening : Design} {caller most n : ℕ} {w v u : World} (left : Option (List ℕ)) → Starts w → n < most → Ran opening caller n w v → Ran opening caller 0 v u → IsTorn u.held → Stays u.left left → Closes opening caller most w (then_read u left u.held) ended.ReadFault
ends_read {opening} {caller} {most} {n} {w} {v} {u} left s few p q torn stays = close (read_ran left u.held [] (ran_then p q refl) refl (sym (append-nil u.held)) (stays_shrinks u.left left stays) refl)
  where
    close : Ran opening caller (n + 0 + 0) w (then_read u left u.held) → Closes opening caller most w (then_read u left u.held) ended.ReadFault
    close r = closed ended.ReadFault s r.goes (omega (arith, r.long)) (r.no_bye, torn) (omega (arith, r.long)) r.out

pub ends_input : {opening : Design} {caller most n m : ℕ} {w v u : World} {left : Option (List ℕ)} {held : List ℕ} → Starts w → n < most → Ran opening caller n w v → Ran opening caller 0 v u → Filled u.left left u.held held m → m ≡ 0 → length held ≡ 0 → Closes opening caller most w (then_read u left held) ended.InputEnd
ends_input {opening} {caller} {most} {n} {m} {w} {v} {u} {left} {held} s few p q f zero none = close (read_ran left held f.got (ran_then p q refl) f.long f.is f.takes refl)
  where
    close : Ran opening caller (n + 0 + m) w (then_read u left held) → Closes opening caller most w (then_read u left held) ended.InputEnd
    close r = closed ended.InputEnd s r.goes (omega (arith, r.long)) (r.no_bye, no_bytes held none) (omega (arith, r.long, zero), f.ends zero) r.out

pub ends_torn : {opening : Design} {caller most n m : ℕ} {w v u : World} {left : Option (List ℕ)} {held : List ℕ} → Starts w → n < most → Ran opening caller n w v → Ran opening caller 0 v u → IsTorn u.held → Filled u.left left u.held held m → m ≡ 0 → 0 < length held → Closes opening caller most w (then_read u left held) ended.TornFrame
ends_torn {opening} {caller} {most} {n} {m} {w} {v} {u} {left} {held} s few p q torn f zero some = close (read_ran left held f.got (ran_then p q refl) f.long f.is f.takes refl)
  where
    same : held ≡ u.held
    same = f.is ∙ (ap (λ l. u.held ++ l) (no_bytes f.got (f.long ∙ zero)) ∙ append-nil u.held)

    close : Ran opening caller (n + 0 + m) w (then_read u left held) → Closes opening caller most w (then_read u left held) ended.TornFrame
    close r = closed ended.TornFrame s r.goes (omega (arith, r.long)) (r.no_bye, some, subst IsTorn (sym same) torn) (omega (arith, r.long, zero), f.ends zero) r.out
