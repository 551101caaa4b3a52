-- What comes decides what is written.
use Rattle.std.proofs.Common.{◌≡◌, ℕ, ◌+◌, List, ◌++◌, length, refl, sym, ap, ◌∙◌, subst, arith}
use Rattle.std.specs.Prelude.{Option, Some}
use Rattle.std.specs.List.{flat_map}
use Rattle.std.specs.Io.KnownBytes.{IsAtEnd}
use Rattle.std.proofs.lemmas.List.{append_cancel_left}
use Rattle.cov_spec.specs.Told.{Grows, Shrinks}
use Rattle.design_data.specs.declared.design.Design.{Design}
use Rattle.cov_history.specs.declared.entry.Entry.{Entry}
use Rattle.cov_proto.specs.declared.replies.Reply.{Reply}
use Rattle.cov_proto.specs.Frames.{frames}
use Rattle.cov_session.specs.Serves.{Serves}
use Rattle.cov_session.specs.declared.ended.Ended.{Ended}
use Rattle.cov_session.specs.declared.ended.Ended.TheVariants as ended
use Rattle.cov_session.specs.Streams.{Out, Took, begins_at, reply_frame}
use Rattle.session_laws.specs.Laws.{IsAlone}
use Rattle.session_laws.specs.Outputs.{IsOrderly, Writes, OneOutput}
use Rattle.session_laws.proofs.OneCut.{Halts, Cuts, one_cut}
use Rattle.session_laws.proofs.OneSession.{alone_is_one}

halts_of : (end : Ended) (most : ℕ) (taken rest : List ℕ) (left : Option (List ℕ)) → left ≡ Some rest → Took end most taken left → Halts end (length taken) most rest
halts_of ended.InputEnd most taken rest left e t = subst IsAtEnd e t.1
halts_of ended.TornFrame most taken rest left e t = subst IsAtEnd e t.1
halts_of ended.SessionTooLong most taken rest left e t = t
halts_of ended.Bye most taken rest left e t = tt
halts_of (ended.FrameTooLong len) most taken rest left e t = tt
halts_of ended.ReadFault most taken rest left e t = tt
halts_of ended.WriteFault most taken rest left e t = tt
halts_of ended.Memory most taken rest left e t = tt

taken_of : (before after : Option (List ℕ)) (bytes rest taken : List ℕ) → before ≡ Some bytes → after ≡ Some rest → Shrinks before after taken → bytes ≡ taken ++ rest
taken_of before after bytes rest taken e e' s = subst (λ (o : Option (List ℕ)). Shrinks (Some bytes) o taken) e' (subst (λ (o : Option (List ℕ)). Shrinks o after taken) e s)

from_zero : (n : ℕ) → n ≡ 0 + n
from_zero n = omega arith

cuts_of : {opening : Design} {caller most : ℕ} {h : List Entry} {bytes out : List ℕ} → (w : Writes opening caller most h bytes out) → Cuts w.end 0 most bytes w.session.bodies
cuts_of {opening} {caller} {most} {h} {bytes} {out} w =
    let s = w.session in
    let is = ap length s.cut.is in
    record {
      rest = s.cut.rest;
      left = w.rest;
      orderly = w.orderly;
      is = taken_of w.before.left w.after.left bytes w.rest s.taken w.told w.left s.takes ∙ ap (λ l. l ++ w.rest) s.cut.is;
      each = s.cut.each;
      ends = s.cut.ends;
      few = omega (arith, s.most_taken, is);
      halts = subst (λ n. Halts w.end n most w.rest) (is ∙ from_zero (length (frames s.bodies ++ s.cut.rest))) (halts_of w.end most s.taken w.rest w.after.left w.left s.took);
    }

alone_of : {opening : Design} {caller most : ℕ} {h : List Entry} {bytes out : List ℕ} → (w : Writes opening caller most h bytes out) → IsAlone opening h w.after.seen caller (begins_at h) w.session.bodies w.session.replies w.session.entries
alone_of {opening} {caller} {most} {h} {bytes} {out} w =
    let s = w.session in
    record {
      more = s.grown.more;
      grown = s.grown.is ∙ ap (λ l. l ++ s.grown.more) w.seen;
      begins = refl;
      own = sym w.own_now ∙ (s.own ∙ ap (λ l. l ++ s.entries) w.own);
      rest = w.alone;
      going = w.going;
      to = s.to;
      serves = subst (λ (x : List Entry). Serves opening w.after.seen caller (begins_at x) s.bodies s.replies s.entries s.to) w.seen s.serves;
    }

grows_of : (end : Ended) (before after : Option (List ℕ)) (replies : List Reply) → IsOrderly end → Out end before after replies → Grows before after (flat_map reply_frame replies)
grows_of ended.Bye before after replies o p = p
grows_of ended.InputEnd before after replies o p = p
grows_of ended.TornFrame before after replies o p = p
grows_of (ended.FrameTooLong len) before after replies o p = p
grows_of ended.SessionTooLong before after replies o p = p
grows_of ended.ReadFault before after replies o p = absurd o
grows_of ended.WriteFault before after replies o p = absurd o
grows_of ended.Memory before after replies o p = absurd o

out_of : {opening : Design} {caller most : ℕ} {h : List Entry} {bytes out : List ℕ} → (w : Writes opening caller most h bytes out) → out ≡ flat_map reply_frame w.session.replies
out_of {opening} {caller} {most} {h} {bytes} {out} w =
    let g = grows_of w.end w.before.written w.after.written w.session.replies w.orderly w.session.out in
    let grown = subst (λ (o : Option (List ℕ)). Grows (Some w.old) o (flat_map reply_frame w.session.replies)) w.writes (subst (λ (o : Option (List ℕ)). Grows o w.after.written (flat_map reply_frame w.session.replies)) w.wrote g) in
    append_cancel_left w.old out (flat_map reply_frame w.session.replies) grown

pub one_output : OneOutput
one_output opening caller most h bytes out other w v =
    let same = one_cut w.end v.end 0 most bytes w.session.bodies v.session.bodies (cuts_of w) (cuts_of v) in
    let one = alone_is_one opening h w.after.seen v.after.seen caller (begins_at h) w.session.bodies w.session.replies v.session.replies w.session.entries v.session.entries
    (alone_of w)
    (subst (λ bodies. IsAlone opening h v.after.seen caller (begins_at h) bodies v.session.replies v.session.entries) (sym same) (alone_of v))
    w.quiet v.quiet in
    out_of w ∙ (ap (λ replies. flat_map reply_frame replies) one.same_replies ∙ sym (out_of v))
