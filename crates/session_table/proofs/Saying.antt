-- From what is said to a request to what is replied to a body.
use Rattle.std.proofs.Common.{◌≡◌, ◌⊎◌, inl, inr, ⊎_elim, ℕ, ◌≤◌, List, [], length, true, false, refl, sym, ap, ◌∙◌, subst, append-nil, arith}
use Rattle.std.specs.Prelude.{Some, Result, Ok}
use Rattle.design_data.specs.declared.design.Design.{Design}
use Rattle.ucis_model.specs.declared.answers.Answer.TheVariants as answer
use Rattle.cov_history.specs.declared.entry.Entry.{Entry}
use Rattle.cov_history.specs.declared.asks.Ask.{Ask}
use Rattle.cov_history.specs.Turns.{Plain}
use Rattle.upload_stage.specs.Uploads.{Upload}
use Rattle.cov_proto.specs.Request.{Request}
use Rattle.cov_proto.specs.Request.TheVariants as request
use Rattle.cov_proto.specs.declared.replies.Body.{Body}
use Rattle.cov_proto.specs.declared.replies.Body.TheVariants as body
use Rattle.cov_proto.specs.declared.replies.Reply.{Reply}
use Rattle.cov_proto.specs.Requests.{request_read, has_text, WantsMemory}
use Rattle.session_table.specs.declared.bodies.Said.{Said}
use Rattle.session_table.specs.Table.{Row, IsRow, lost, is_bye_request}
use Rattle.session_table.specs.Serves.{Place, BySaid, Answered, Step}
use Rattle.answer_frames.specs.Frames.{IsWritable}
use Rattle.session_table.specs.Says.{Rowed, Local, Replies, Says}
use Rattle.session_table.proofs.Growing.{grown_refl}

pub rowed_replies : (opening : Design) (caller : ℕ) (seen : List Entry) (own : List (ℕ × Entry)) (after : List Entry) (own_after : List (ℕ × Entry)) (from : Place) (q : Result Request ℕ) (row : Row) (reply : Reply) (to : Place)
    → IsRow opening from.stage q row → Rowed opening caller seen own after own_after from row.said row.stage (lost from.stage q) reply to → Replies opening caller seen own after own_after from q reply to
rowed_replies opening caller seen own after own_after from q row reply to is p = record {
  adds = p.adds;
  answered = ⊎_elim (λ (x : BySaid opening after caller from row.said row.stage reply p.adds to). inl (record { row = row; is_row = is; by = x })) (λ x. inr x) p.by;
  owns = p.owns;
  grown = p.grown;
  within = p.within;
  writable = p.writable;
}

-- by itself, while the history stays
pub told_replies : (opening : Design) (caller : ℕ) (seen : List Entry) (own : List (ℕ × Entry)) (from : Place) (q : Result Request ℕ) (b : Body) (stage : Upload) (reply : Reply) (to : Place)
    → from.point ≤ length seen → IsRow opening from.stage q (record { said = inl b; stage = stage }) → reply.point ≡ from.point → reply.body ≡ b → IsWritable reply.body → to ≡ record { point = from.point; stage = stage } → Replies opening caller seen own seen own from q reply to
told_replies opening caller seen own from q b stage reply to le is point body writable goes = record {
  adds = [];
  answered = inl (record { row = record { said = inl b; stage = stage }; is_row = is; by = record { body = body; point = point; goes = goes; adds = refl } });
  owns = sym (append-nil own);
  grown = grown_refl seen;
  within = subst (λ (x : Place). x.point ≤ length seen) (sym goes) le;
  writable = writable;
}

pub lacks_replies : (opening : Design) (caller : ℕ) (seen : List Entry) (own : List (ℕ × Entry)) (from : Place) (q : Result Request ℕ) (stage : Upload) (reply : Reply) (to : Place)
    → from.point ≤ length seen → lost from.stage q ≡ Some stage → reply.point ≡ from.point → reply.body ≡ body.Store answer.Memory → IsWritable reply.body → to ≡ record { point = from.point; stage = stage } → Replies opening caller seen own seen own from q reply to
lacks_replies opening caller seen own from q stage reply to le may point body writable goes = record {
  adds = [];
  answered = inr (record { stage = stage; may_be = may; body = body; low = omega (arith, point); high = omega (arith, point); goes = goes ∙ ap (λ n. record { point = n; stage = stage }) (sym point); adds = refl });
  owns = sym (append-nil own);
  grown = grown_refl seen;
  within = subst (λ (x : Place). x.point ≤ length seen) (sym goes) le;
  writable = writable;
}

pub local_replies : (opening : Design) (caller : ℕ) (seen : List Entry) (own : List (ℕ × Entry)) (from : Place) (q : Result Request ℕ) (row : Row) (reply : Reply) (to : Place)
    → from.point ≤ length seen → IsRow opening from.stage q row → Local from row (lost from.stage q) reply to → Replies opening caller seen own seen own from q reply to
local_replies opening caller seen own from q row reply to le is l =
    ⊎_elim
    (λ (x : (b : Body) × (row.said ≡ inl b) × (reply.body ≡ b) × (to ≡ record { point = from.point; stage = row.stage })).
    told_replies opening caller seen own from q x.0 row.stage reply to le (subst (λ s. IsRow opening from.stage q (record { said = s; stage = row.stage })) x.1 is) l.point x.2 l.writable x.3)
    (λ (x : (stage : Upload) × (lost from.stage q ≡ Some stage) × (reply.body ≡ body.Store answer.Memory) × (to ≡ record { point = from.point; stage = stage })).
    lacks_replies opening caller seen own from q x.0 reply to le x.1 l.point x.2 l.writable x.3)
    l.by

-- ---- bodies

pub body_says : (opening : Design) (caller : ℕ) (seen : List Entry) (own : List (ℕ × Entry)) (after : List Entry) (own_after : List (ℕ × Entry)) (from : Place) (b : List ℕ) (q : Result Request ℕ) (said : Said) (to : Place)
    → request_read b ≡ q → Replies opening caller seen own after own_after from q said.reply to → said.bye ≡ is_bye_request q → Says opening caller seen own after own_after from b said to
unfolding Step
body_says opening caller seen own after own_after from b q said to reads p bye = record {
  adds = p.adds;
  step = subst (λ x. Answered opening after caller from x said.reply p.adds to) (sym reads) p.answered;
  owns = p.owns;
  grown = p.grown;
  within = p.within;
  writable = p.writable;
  bye = bye ∙ ap is_bye_request (sym reads);
}

-- memory is wanted for a text alone
text_lost : (s : Upload) (r : Request) → has_text r ≡ true → lost s (Ok r) ≡ Some s
text_lost s (request.Piece offset bytes) e = refl
text_lost s (request.Counts first path) e = refl
text_lost s (request.Coverage path) e = refl
text_lost s (request.TestCounts first id path) e = refl
text_lost s (request.Exclude path) e = refl
text_lost s (request.Include path) e = refl
text_lost s other e = absurd cc

text_goes_on : (r : Request) → has_text r ≡ true → false ≡ is_bye_request (Ok r)
text_goes_on request.Bye e = absurd cc
text_goes_on other e = refl

pub wants_says : (opening : Design) (caller : ℕ) (seen : List Entry) (own : List (ℕ × Entry)) (from : Place) (b : List ℕ) (said : Said)
    → from.point ≤ length seen → WantsMemory (request_read b) → said.reply.point ≡ from.point → said.reply.body ≡ body.Store answer.Memory → IsWritable said.reply.body → said.bye ≡ false → Says opening caller seen own seen own from b said (record { point = from.point; stage = from.stage })
wants_says opening caller seen own from b said le w point is writable bye =
    body_says opening caller seen own seen own from b (Ok w.request) said _ w.is
    (lacks_replies opening caller seen own from (Ok w.request) from.stage said.reply _ le (text_lost from.stage w.request w.text) point is writable refl)
    (bye ∙ text_goes_on w.request w.text)

-- a request that is asked as it stands
pub asked_replies : (opening : Design) (caller : ℕ) (seen : List Entry) (own : List (ℕ × Entry)) (after : List Entry) (own_after : List (ℕ × Entry)) (from : Place) (r : Request) (a : Ask) (reply : Reply) (to : Place)
    → IsRow opening from.stage (Ok r) (record { said = inr (Plain a); stage = from.stage }) → Rowed opening caller seen own after own_after from (inr (Plain a)) from.stage (lost from.stage (Ok r)) reply to → Replies opening caller seen own after own_after from (Ok r) reply to
asked_replies opening caller seen own after own_after from r a reply to is p = rowed_replies opening caller seen own after own_after from (Ok r) (record { said = inr (Plain a); stage = from.stage }) reply to is p
