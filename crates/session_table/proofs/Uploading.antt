-- A Commit and a Revise: the upload refuses, its bytes are no record or text that fits, or they go to a turn.
use Rattle.std.proofs.Common.{◌≡◌, ◌⊎◌, inl, inr, ⊎_elim, ℕ, ◌≤◌, List, length, refl, sym, ap, ◌∙◌, subst}
use Rattle.std.specs.Prelude.{Some, None, Ok, Err}
use Rattle.design_data.specs.declared.design.Design.{Design}
use Rattle.record_codec.specs.declared.record.Record.{Record}
use Rattle.ucis_model.specs.declared.answers.Answer.TheVariants as answer
use Rattle.cov_compile.specs.Texts.{Declared}
use Rattle.cov_history.specs.declared.entry.Entry.{Entry}
use Rattle.cov_history.specs.Turns.{Admit, Revise}
use Rattle.upload_stage.specs.declared.fault.StageFault.{StageFault}
use Rattle.upload_stage.specs.Uploads.{Upload, finish_fault, finished, bytes_of}
use Rattle.cov_proto.specs.Request.{Request}
use Rattle.cov_proto.specs.Request.TheVariants as request
use Rattle.cov_proto.specs.declared.replies.Body.{Body}
use Rattle.cov_proto.specs.declared.replies.Body.TheVariants as body
use Rattle.cov_proto.specs.declared.replies.Reply.{Reply}
use Rattle.session_table.specs.Contents.{Content, Fitting, IsContent, Text, Revising, IsTextContent}
use Rattle.session_table.specs.Table.{IsRow, IsCommitRow, IsReviseRow, lost, unless, stage_refusal, said_to, said_to_text}
use Rattle.session_table.specs.Serves.{Place}
use Rattle.answer_frames.specs.Frames.{IsWritable}
use Rattle.session_table.specs.Says.{Rowed, Replies, FindsRecord, FindsText}
use Rattle.session_table.proofs.Saying.{rowed_replies, told_replies, lacks_replies}

-- said of a list and a design by other names
pub moved : (F : Design → List ℕ → Type 0) (d e : Design) (xs ys : List ℕ) → d ≡ e → xs ≡ ys → F e xs → F d ys
moved F d e xs ys p q f = subst (λ x. F x ys) (sym p) (subst (F e) q f)

module _ (opening : Design) (caller : ℕ) (seen : List Entry) (own : List (ℕ × Entry)) where
  -- ---- a Commit

  pub commit_refused : (from : Place) (digest : List ℕ) (f : StageFault) (new : Upload) (reply : Reply) → from.point ≤ length seen → finish_fault from.stage digest ≡ Some f → new ≡ finished from.stage → reply.point ≡ from.point → reply.body ≡ stage_refusal f → IsWritable reply.body
      → Replies opening caller seen own seen own from (Ok (request.Commit digest)) reply (record { point = from.point; stage = new })
  commit_refused from digest f new reply le is goes point body writable =
      told_replies opening caller seen own from (Ok (request.Commit digest)) (stage_refusal f) (finished from.stage) reply _ le (subst (λ o. IsCommitRow opening o from.stage (record { said = inl (stage_refusal f); stage = finished from.stage })) (sym is) refl) point body writable (ap (λ s. record { point = from.point; stage = s }) goes)

  commit_lost : (s : Upload) (digest : List ℕ) (new : Upload) → finish_fault s digest ≡ None → new ≡ finished s → lost s (Ok (request.Commit digest)) ≡ Some new
  commit_lost s digest new is goes = ap (λ o. unless o (finished s)) is ∙ ap Some (sym goes)

  commit_row : (s : Upload) (digest items : List ℕ) (new : Upload) (c : Content) → finish_fault s digest ≡ None → items ≡ bytes_of s → new ≡ finished s → IsContent opening items c → IsRow opening s (Ok (request.Commit digest)) (record { said = said_to c; stage = new })
  commit_row s digest items new c is held goes content =
      subst (λ o. IsCommitRow opening o s (record { said = said_to c; stage = new })) (sym is) (c, subst (λ l. IsContent opening l c) held content, ap (λ x. record { said = said_to c; stage = x }) goes)

  pub commit_done : (after : List Entry) (own_after : List (ℕ × Entry)) (from : Place) (digest items : List ℕ) (new : Upload) (r : Record) (reply : Reply) (to : Place) → finish_fault from.stage digest ≡ None → items ≡ bytes_of from.stage → new ≡ finished from.stage → IsContent opening items (Fitting r)
      → Rowed opening caller seen own after own_after from (inr (Admit r)) new (Some new) reply to → Replies opening caller seen own after own_after from (Ok (request.Commit digest)) reply to
  commit_done after own_after from digest items new r reply to is held goes content p =
      rowed_replies opening caller seen own after own_after from (Ok (request.Commit digest)) (record { said = inr (Admit r); stage = new }) reply to
      (commit_row from.stage digest items new (Fitting r) is held goes content)
      (subst (λ m. Rowed opening caller seen own after own_after from (inr (Admit r)) new m reply to) (sym (commit_lost from.stage digest new is goes)) p)

  pub commit_instead : (from : Place) (digest items : List ℕ) (new : Upload) (b : Body) (reply : Reply) → from.point ≤ length seen → finish_fault from.stage digest ≡ None → items ≡ bytes_of from.stage → new ≡ finished from.stage → FindsRecord opening items (Err b) → reply.point ≡ from.point → reply.body ≡ b → IsWritable reply.body
      → Replies opening caller seen own seen own from (Ok (request.Commit digest)) reply (record { point = from.point; stage = new })
  commit_instead from digest items new b reply le is held goes finds point says writable = ⊎_elim
      (λ (x : (c : Content) × IsContent opening items c × (said_to c ≡ inl b)).
      told_replies opening caller seen own from (Ok (request.Commit digest)) b new reply _ le
      (subst (λ s. IsRow opening from.stage (Ok (request.Commit digest)) (record { said = s; stage = new })) x.2 (commit_row from.stage digest items new x.0 is held goes x.1)) point says writable refl)
      (λ (x : b ≡ body.Store answer.Memory). lacks_replies opening caller seen own from (Ok (request.Commit digest)) new reply _ le (commit_lost from.stage digest new is goes) point (says ∙ x) writable refl)
      finds.0

  -- ---- a Revise

  pub revise_refused : (from : Place) (digest : List ℕ) (f : StageFault) (new : Upload) (reply : Reply) → from.point ≤ length seen → finish_fault from.stage digest ≡ Some f → new ≡ finished from.stage → reply.point ≡ from.point → reply.body ≡ stage_refusal f → IsWritable reply.body
      → Replies opening caller seen own seen own from (Ok (request.Revise digest)) reply (record { point = from.point; stage = new })
  revise_refused from digest f new reply le is goes point body writable =
      told_replies opening caller seen own from (Ok (request.Revise digest)) (stage_refusal f) (finished from.stage) reply _ le (subst (λ o. IsReviseRow opening o from.stage (record { said = inl (stage_refusal f); stage = finished from.stage })) (sym is) refl) point body writable (ap (λ s. record { point = from.point; stage = s }) goes)

  revise_lost : (s : Upload) (digest : List ℕ) (new : Upload) → finish_fault s digest ≡ None → new ≡ finished s → lost s (Ok (request.Revise digest)) ≡ Some new
  revise_lost s digest new is goes = ap (λ o. unless o (finished s)) is ∙ ap Some (sym goes)

  revise_row : (s : Upload) (digest items : List ℕ) (new : Upload) (t : Text) → finish_fault s digest ≡ None → items ≡ bytes_of s → new ≡ finished s → IsTextContent opening items t → IsRow opening s (Ok (request.Revise digest)) (record { said = said_to_text items t; stage = new })
  revise_row s digest items new t is held goes content =
      subst (λ o. IsReviseRow opening o s (record { said = said_to_text items t; stage = new })) (sym is) (t, subst (λ l. IsTextContent opening l t) held content, λ i. record { said = said_to_text (held i) t; stage = goes i })

  pub revise_done : (after : List Entry) (own_after : List (ℕ × Entry)) (from : Place) (digest items : List ℕ) (new : Upload) (c : Declared) (reply : Reply) (to : Place) → finish_fault from.stage digest ≡ None → items ≡ bytes_of from.stage → new ≡ finished from.stage → FindsText opening items (Ok c)
      → Rowed opening caller seen own after own_after from (inr (Revise (record { text = c.text; design = c.design }))) new (Some new) reply to → Replies opening caller seen own after own_after from (Ok (request.Revise digest)) reply to
  revise_done after own_after from digest items new c reply to is held goes content p =
      rowed_replies opening caller seen own after own_after from (Ok (request.Revise digest)) (record { said = inr (Revise (record { text = c.text; design = c.design })); stage = new }) reply to
      (revise_row from.stage digest items new (Revising (record { text = c.text; design = c.design })) is held goes content)
      (subst (λ m. Rowed opening caller seen own after own_after from (inr (Revise (record { text = c.text; design = c.design }))) new m reply to) (sym (revise_lost from.stage digest new is goes)) p)

  pub revise_instead : (from : Place) (digest items : List ℕ) (new : Upload) (b : Body) (reply : Reply) → from.point ≤ length seen → finish_fault from.stage digest ≡ None → items ≡ bytes_of from.stage → new ≡ finished from.stage → FindsText opening items (Err b) → reply.point ≡ from.point → reply.body ≡ b → IsWritable reply.body
      → Replies opening caller seen own seen own from (Ok (request.Revise digest)) reply (record { point = from.point; stage = new })
  revise_instead from digest items new b reply le is held goes finds point says writable = ⊎_elim
      (λ (x : (t : Text) × IsTextContent opening items t × (said_to_text items t ≡ inl b)).
      told_replies opening caller seen own from (Ok (request.Revise digest)) b new reply _ le
      (subst (λ s. IsRow opening from.stage (Ok (request.Revise digest)) (record { said = s; stage = new })) x.2 (revise_row from.stage digest items new x.0 is held goes x.1)) point says writable refl)
      (λ (x : b ≡ body.Store answer.Memory). lacks_replies opening caller seen own from (Ok (request.Revise digest)) new reply _ le (revise_lost from.stage digest new is goes) point (says ∙ x) writable refl)
      finds.0
