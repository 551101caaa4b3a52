-- What was said at a history stays said at a longer one, and one part of a session follows another.
use Rattle.std.proofs.Common.{◌≡◌, ◌⊎◌, inl, inr, ⊎_elim, ℕ, ◌+◌, ◌≤◌, List, [], ◌∷◌, ◌++◌, length, take, sym, ap, ◌∙◌, subst, append_assoc, arith}
use Rattle.std.specs.Prelude.{Option}
use Rattle.design_data.specs.declared.design.Design.{Design}
use Rattle.ucis_model.specs.declared.answers.Answer.{Answer}
use Rattle.cov_history.specs.declared.entry.Entry.{Entry}
use Rattle.cov_history.specs.Turns.{Wish, wished, Answers, TurnsAt, Grown}
use Rattle.upload_stage.specs.Uploads.{Upload}
use Rattle.cov_proto.specs.declared.replies.Body.{Body}
use Rattle.cov_proto.specs.declared.replies.Reply.{Reply}
use Rattle.cov_proto.specs.Requests.{request_read}
use Rattle.session_table.specs.Table.{lost}
use Rattle.session_table.specs.Serves.{Place, Lacks, BySaid, Replied, Step, Serves}
use Rattle.session_table.proofs.Growing.{grown_long, take_later}

turns_later : {opening : Design} {h after : List Entry} {caller from : ℕ} {w : Wish} {a : Answer} {added : List (ℕ × Entry)} {to : ℕ} → Grown h after → TurnsAt opening h caller from w a added to → TurnsAt opening after caller from w a added to
turns_later {opening} {h} {after} {caller} {from} {w} {a} {added} {to} g t =
    let long = grown_long g in
    let le : t.at ≤ length h = omega (arith, t.point, t.high) in
    let same : take t.at after ≡ take t.at h = take_later t.at g le in
    record {
      at = t.at;
      since = t.since;
      entries = t.entries;
      low = t.low;
      order = t.order;
      high = omega (arith, t.high);
      point = t.point;
      answer = subst (λ l. Answers caller w (wished opening l caller t.since w) a t.entries) (sym same) t.answer;
      there = take_later to g t.high ∙ (t.there ∙ ap (λ l. l ++ t.entries) (sym same));
      adds = t.adds;
    }

said_later : (opening : Design) (h after : List Entry) (caller : ℕ) (from : Place) (said : Body ⊎ Wish) (stage : Upload) (reply : Reply) (added : List (ℕ × Entry)) (to : Place) → Grown h after → BySaid opening h caller from said stage reply added to → BySaid opening after caller from said stage reply added to
said_later opening h after caller from (inl b) stage reply added to g p = p
said_later opening h after caller from (inr w) stage reply added to g t = record { answer = t.answer; body = t.body; turn = turns_later g t.turn; goes = t.goes }

lacks_later : {h after : List Entry} {from : Place} {may : Option Upload} {reply : Reply} {added : List (ℕ × Entry)} {to : Place} → Grown h after → Lacks h from may reply added to → Lacks after from may reply added to
lacks_later g l = let long = grown_long g in record { stage = l.stage; may_be = l.may_be; body = l.body; low = l.low; high = omega (arith, l.high); goes = l.goes; adds = l.adds }

pub step_later : (opening : Design) (h after : List Entry) (caller : ℕ) (from : Place) (b : List ℕ) (reply : Reply) (added : List (ℕ × Entry)) (to : Place) → Grown h after → Step opening h caller from b reply added to → Step opening after caller from b reply added to
unfolding Step
step_later opening h after caller from b reply added to g p = ⊎_elim
    (λ (x : Replied opening h caller from (request_read b) reply added to). inl (record { row = x.row; is_row = x.is_row; by = said_later opening h after caller from x.row.said x.row.stage reply added to g x.by }))
    (λ (x : Lacks h from (lost from.stage (request_read b)) reply added to). inr (lacks_later g x)) p

pub serves_later : (opening : Design) (h after : List Entry) (caller : ℕ) (from : Place) (bs : List (List ℕ)) (rs : List Reply) (es : List (ℕ × Entry)) (to : Place) → Grown h after → Serves opening h caller from bs rs es to → Serves opening after caller from bs rs es to
serves_later opening h after caller from [] [] es to g p = p
serves_later opening h after caller from [] (r ∷ rs) es to g p = p
serves_later opening h after caller from (b ∷ bs) [] es to g p = p
serves_later opening h after caller from (b ∷ bs) (r ∷ rs) es to g p =
    (p.0, p.1, p.2, step_later opening h after caller from b r p.1 p.0 g p.3, serves_later opening h after caller p.0 bs rs p.2 to g p.4, p.5)

pub serves_then : (opening : Design) (h : List Entry) (caller : ℕ) (from mid to : Place) (bs cs : List (List ℕ)) (rs ss : List Reply) (es fs : List (ℕ × Entry)) → Serves opening h caller from bs rs es mid → Serves opening h caller mid cs ss fs to → Serves opening h caller from (bs ++ cs) (rs ++ ss) (es ++ fs) to
serves_then opening h caller from mid to [] cs [] ss es fs p q = rw (p.0, ← p.1) q
serves_then opening h caller from mid to [] cs (r ∷ rs) ss es fs p q = absurd p
serves_then opening h caller from mid to (b ∷ bs) cs [] ss es fs p q = absurd p
serves_then opening h caller from mid to (b ∷ bs) cs (r ∷ rs) ss es fs p q =
    (p.0, p.1, p.2 ++ fs, p.3, serves_then opening h caller p.0 mid to bs cs rs ss p.2 fs p.4 q, ap (λ l. l ++ fs) p.5 ∙ append_assoc p.1 p.2 fs)
