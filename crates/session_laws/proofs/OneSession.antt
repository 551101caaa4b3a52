-- A caller who is alone.
use Rattle.std.proofs.Common.{◌≡◌, ℕ, suc, ◌+◌, ◌==◌, ◌≤◌, List, [], ◌∷◌, length, take, Bool, true, false, not, if◌then◌else◌, refl, sym, ap, ◌∙◌, arith, length-append}
use Rattle.std.proofs.Math.Seq.{take-append_seam}
use Rattle.design_data.specs.declared.design.Design.{Design}
use Rattle.cov_history.specs.declared.entry.Entry.{Entry}
use Rattle.cov_proto.specs.declared.replies.Reply.{Reply}
use Rattle.cov_session.specs.Alone.{own_from, others}
use Rattle.cov_session.specs.Serves.{Place}
use Rattle.session_laws.specs.Laws.{IsAlone, AloneIsOne, AloneIsNeverLate}
use Rattle.session_laws.proofs.OneServing.{serves_one, serves_within}
use Rattle.session_laws.proofs.GoingOn.{serves_on}

split_length : (n k : ℕ) (h : List Entry) → length h ≡ length (own_from n k h) + length (others n h)
split_length n k [] = refl
split_length n k (e ∷ es) = choose (split_length n (suc k) es) (e.caller == n)
  where
    choose : length es ≡ length (own_from n (suc k) es) + length (others n es) → (b : Bool) → suc (length es) ≡ length (if b then (k, e) ∷ own_from n (suc k) es else own_from n (suc k) es) + length (if not b then e ∷ others n es else others n es)
    choose x true = omega (arith, x)
    choose x false = omega (arith, x)

long_of : {opening : Design} {h after : List Entry} {caller : ℕ} {from : Place} {bodies : List (List ℕ)} {replies : List Reply} {entries : List (ℕ × Entry)} → IsAlone opening h after caller from bodies replies entries → length after ≡ length h + length entries
long_of {opening} {h} {after} {caller} {from} {bodies} {replies} {entries} s =
    let a = split_length caller 0 h in
    let b = split_length caller 0 after in
    let c = ap length s.own ∙ length-append (own_from caller 0 h) entries in
    let d : length (others caller after) ≡ length (others caller h) = ap length s.rest in
    omega arith

front_of : {opening : Design} {h after : List Entry} {caller : ℕ} {from : Place} {bodies : List (List ℕ)} {replies : List Reply} {entries : List (ℕ × Entry)} → IsAlone opening h after caller from bodies replies entries → take (length h) after ≡ h
front_of {opening} {h} s = ap (take (length h)) s.grown ∙ take-append_seam h s.more

within_of : {opening : Design} {h after : List Entry} {caller : ℕ} {from : Place} {bodies : List (List ℕ)} {replies : List Reply} {entries : List (ℕ × Entry)} → (s : IsAlone opening h after caller from bodies replies entries) → s.to.point ≤ from.point + length entries
within_of {opening} {h} {after} {caller} {from} {bodies} {replies} {entries} s =
    let a = long_of s in
    let p = serves_within opening after caller from bodies replies entries s.to (omega (arith, a, s.begins)) s.serves in
    omega (arith, s.begins, p, a)

pub alone_is_one : AloneIsOne
alone_is_one opening h after later caller from bodies replies qs entries more s t quiet silent =
    serves_one opening after later caller from s.to t.to bodies replies qs entries more s.going t.going
    (ap (λ n. take n after) s.begins ∙ (front_of s ∙ (sym (front_of t) ∙ ap (λ n. take n later) (sym s.begins))))
    (within_of s) (within_of t) quiet silent s.serves t.serves

pub alone_is_never_late : AloneIsNeverLate
alone_is_never_late opening h after caller from bodies replies entries s = serves_on opening after caller from s.to bodies replies entries s.going (within_of s) s.serves
