-- Where nobody else makes an entry and the history has no Stop, no reply says that it has moved on or has ended.
use Rattle.std.proofs.Common.{◌≡◌, ◌⊎◌, inl, inr, ⊎_elim, ℕ, zero, suc, ◌+◌, ◌≤◌, List, [], ◌∷◌, ◌++◌, length, take, drop, Bool, true, false, ◌||◌, ◌&&◌, refl, sym, ap, ◌∙◌, subst, arith, length-append}
use Rattle.std.specs.Prelude.{Option, Some, None, Result, Ok, Err, if◌then◌else◌, nat_lt, bytes_eq, slice_get}
use Rattle.std.specs.List.{list_any}
use Rattle.design_data.specs.declared.design.Design.{Design}
use Rattle.record_codec.specs.declared.record.Record.{Record}
use Rattle.record_codec.specs.declared.fault.RecordFault.{RecordFault}
use Rattle.record_codec.specs.declared.fault.RecordFault.TheVariants as no_record
use Rattle.record_codec.specs.Spelling.{spelling}
use Rattle.ucis_model.specs.declared.answers.Which.{Which}
use Rattle.ucis_model.specs.declared.answers.Answer.{Answer}
use Rattle.ucis_model.specs.declared.answers.Answer.TheVariants as answer
use Rattle.ucis_model.specs.Paths.{find_in, path_of}
use Rattle.cov_history.specs.declared.entry.Event.{Event}
use Rattle.cov_history.specs.declared.entry.Event.TheVariants as event
use Rattle.cov_history.specs.declared.entry.Entry.{Entry}
use Rattle.cov_history.specs.declared.asks.Ask.{Ask}
use Rattle.cov_history.specs.declared.asks.Ask.TheVariants as ask
use Rattle.cov_history.specs.Nodes.{bins_under, node_of_bin}
use Rattle.cov_history.specs.History.{Test, tests_of, kept, hits, count_of, design_of, out_of, has, has_stop, passed, is_revise, is_test_or_revise}
use Rattle.cov_history.specs.Answers.{is_made, by, table, unless_stopped, at_node, nodes_at, excluded_at, rows, cover_row, rows_at, test_counts_by, chunk, unless_full, change, stands_since, admit_by, revise_at}
use Rattle.cov_history.specs.Turns.{Wish, Plain, Admit, Revise, wished, TurnsAt}
use Rattle.upload_stage.specs.declared.fault.StageFault.{StageFault}
use Rattle.upload_stage.specs.declared.fault.StageFault.TheVariants as stage
use Rattle.upload_stage.specs.Uploads.{Upload, begin_fault, piece_fault, finish_fault, bytes_of}
use Rattle.cov_proto.specs.Request.{Request}
use Rattle.cov_proto.specs.Request.TheVariants as request
use Rattle.cov_proto.specs.declared.replies.Body.{Body}
use Rattle.cov_proto.specs.declared.replies.Reply.{Reply}
use Rattle.cov_proto.specs.Requests.{request_read}
use Rattle.cov_session.specs.Contents.{Content, NoRecord, OtherShape, Fitting, Text, LongText, NoDesign, OtherTables, Revising}
use Rattle.cov_session.specs.Table.{Row, IsRow, IsCommitRow, IsReviseRow, lost, stage_refusal, record_refusal, said_to, said_to_text, begin_row, piece_row}
use Rattle.cov_session.specs.Serves.{Place, Lacks, BySaid, Replied, Step, Serves}
use Rattle.session_laws.specs.Laws.{is_body_of, is_reply_of, NoneIs, is_late}
use Rattle.session_laws.proofs.OneServing.{tight, stop_taken, step_grows, serves_grows}

-- ---- answers

either : (b : Bool) (x y : Answer) → is_late x ≡ false → is_late y ≡ false → is_late (if b then x else y) ≡ false
either true x y p q = p
either false x y p q = q

at_on : (o : Option ℕ) (f : ℕ → Answer) → ((n : ℕ) → is_late (f n) ≡ false) → is_late (at_node o f) ≡ false
at_on None f q = refl
at_on (Some n) f q = q n

full_on : (opening : Design) (h after : List Entry) (o : Option Which) (made : Answer) → is_late made ≡ false → is_late (unless_full opening h after o made) ≡ false
full_on opening h after None made q = q
full_on opening h after (Some which) made q = refl

change_on : (opening : Design) (h : List Entry) (e : Entry) (made : Answer) → is_late made ≡ false → is_late (change opening h e made) ≡ false
change_on opening h e made q = full_on opening h (h ++ e ∷ []) (passed opening (h ++ e ∷ [])) made q

going_on : (h : List Entry) (a : Answer) → has_stop h ≡ false → is_late a ≡ false → is_late (unless_stopped h a) ≡ false
going_on h a going q = ap (λ b. is_late (if b && is_made a then answer.Stopped else a)) going ∙ q

-- no entry stands behind the last place
none_since : (test : Event → Bool) (h : List Entry) (at : ℕ) → drop at h ≡ [] → stands_since test h at ≡ false
none_since test h at e = ap (list_any (λ (x : Entry). test x.event)) e

admit_on : (opening : Design) (h : List Entry) (at : ℕ) (e : Entry) (r : Record) (o : Option Test) → drop at h ≡ [] → is_late (admit_by opening h at e r o) ≡ false
admit_on opening h at e r None d = ap (λ b. is_late (if b then answer.Moved at else change opening h e answer.New)) (none_since is_revise h at d) ∙ change_on opening h e answer.New refl
admit_on opening h at e r (Some t) d = either (bytes_eq (spelling t.content) (spelling r)) (answer.Here t.point) _ refl refl

revise_on : (opening : Design) (h : List Entry) (at : ℕ) (e : Entry) → drop at h ≡ [] → is_late (revise_at opening h at e) ≡ false
revise_on opening h at e d = ap (λ b. is_late (if b then answer.Moved at else change opening h e answer.Changed)) (none_since is_test_or_revise h at d) ∙ change_on opening h e answer.Changed refl

counts_on : (opening : Design) (h : List Entry) (count : ℕ → ℕ) (first : ℕ) (path : List ℕ) → is_late (rows_at opening h count first path) ≡ false
counts_on opening h count first path = at_on (find_in (nodes_at opening h) path) (λ n. rows (nodes_at opening h) count (excluded_at opening h) first (bins_under (nodes_at opening h) n)) (λ n. refl)

test_on : (opening : Design) (h : List Entry) (o : Option Test) (first : ℕ) (path : List ℕ) → is_late (test_counts_by opening h o first path) ≡ false
test_on opening h None first path = refl
test_on opening h (Some t) first path = counts_on opening h (hits (design_of opening h) t.content) first path

chunk_on : (o : Option Test) (offset : ℕ) → is_late (chunk o offset) ≡ false
chunk_on None offset = refl
chunk_on (Some t) offset = refl

-- an ask that has no point of its own
abbrev pub Proper : Wish → Type 0
Proper (Plain (ask.Admit since r)) = ⊥
Proper (Plain (ask.Revise since revision)) = ⊥
Proper other = Unit {0}

plain_on : (opening : Design) (h : List Entry) (caller : ℕ) (a : Ask) → Proper (Plain a) → is_late (table opening h caller a) ≡ false
unfolding table
plain_on opening h caller (ask.Hello point) p = either (nat_lt (length h) point) (answer.Ahead (length h)) _ refl refl
plain_on opening h caller (ask.Counts first path) p = counts_on opening h (count_of opening h) first path
plain_on opening h caller (ask.Coverage path) p = at_on (find_in (nodes_at opening h) path) (λ n. answer.CoverageIs (cover_row (nodes_at opening h) (count_of opening h) (excluded_at opening h) n)) (λ n. refl)
plain_on opening h caller (ask.Illegal first) p = refl
plain_on opening h caller (ask.Tests first) p = refl
plain_on opening h caller (ask.TestCounts first id path) p = test_on opening h (kept h id) first path
plain_on opening h caller ask.Rank p = refl
plain_on opening h caller (ask.NameOf bin) p = at_on (node_of_bin (nodes_at opening h) bin) (λ n. answer.PathIs (path_of (nodes_at opening h) n)) (λ n. refl)
plain_on opening h caller (ask.Exclude path) p = at_on (find_in (nodes_at opening h) path) (λ n. if has path (out_of h) then answer.AlreadyExcluded else change opening h (by caller (event.Exclude path)) answer.Changed) (λ n. either (has path (out_of h)) answer.AlreadyExcluded _ refl (change_on opening h (by caller (event.Exclude path)) answer.Changed refl))
plain_on opening h caller (ask.Include path) p = at_on (find_in (nodes_at opening h) path) (λ n. if has path (out_of h) then answer.Changed else answer.NotExcluded) (λ n. either (has path (out_of h)) answer.Changed answer.NotExcluded refl refl)
plain_on opening h caller (ask.Fetch place offset) p = chunk_on (slice_get (tests_of h) place) offset
plain_on opening h caller (ask.Admit since r) p = absurd p
plain_on opening h caller (ask.Revise since revision) p = absurd p

wish_on : (opening : Design) (h : List Entry) (caller at : ℕ) (w : Wish) → Proper w → has_stop h ≡ false → drop at h ≡ [] → is_late (wished opening h caller at w) ≡ false
unfolding table
wish_on opening h caller at (Admit r) p going d = going_on h _ going (admit_on opening h at (by caller (event.Admit r)) r (kept h r.id) d)
wish_on opening h caller at (Revise revision) p going d = going_on h _ going (revise_on opening h at (by caller (event.Revise revision)) d)
wish_on opening h caller at (Plain a) p going d = going_on h _ going (plain_on opening h caller a p)

-- ---- what the table says

abbrev pub ProperSaid : Body ⊎ Wish → Type 0
ProperSaid (inl b) = is_body_of is_late b ≡ false
ProperSaid (inr w) = Proper w

stage_on : (f : StageFault) → is_body_of is_late (stage_refusal f) ≡ false
stage_on stage.NoUpload = refl
stage_on stage.StageBusy = refl
stage_on (stage.TooLong n) = refl
stage_on (stage.Outside offset len) = refl
stage_on (stage.Differs at) = refl
stage_on (stage.Missing at) = refl
stage_on (stage.DigestDiffers got) = refl
stage_on stage.Memory = refl

record_on : (f : RecordFault) → is_body_of is_late (record_refusal f) ≡ false
record_on (no_record.Short at) = refl
record_on no_record.BadMagic = refl
record_on (no_record.BadVersion v) = refl
record_on (no_record.BadField at) = refl
record_on (no_record.TooManyEvents n) = refl
record_on (no_record.Trailing at) = refl
record_on no_record.Memory = refl

content_on : (c : Content) → ProperSaid (said_to c)
content_on (NoRecord f) = record_on f
content_on (OtherShape at) = refl
content_on (Fitting r) = tt

text_on : (text : List ℕ) (t : Text) → ProperSaid (said_to_text text t)
text_on text LongText = refl
text_on text (NoDesign f) = refl
text_on text (OtherTables at) = refl
text_on text (Revising r) = tt

over : (row other : Row) → row ≡ other → ProperSaid other.said → ProperSaid row.said
over row other e p = subst (λ (r : Row). ProperSaid r.said) (sym e) p

begin_on : (f : Option StageFault) (s : Upload) (len : ℕ) → ProperSaid (begin_row f s len).said
begin_on None s len = refl
begin_on (Some f) s len = stage_on f

piece_on : (f : Option StageFault) (s : Upload) (offset : ℕ) (bytes : List ℕ) → ProperSaid (piece_row f s offset bytes).said
piece_on None s offset bytes = refl
piece_on (Some f) s offset bytes = stage_on f

commit_on : (opening : Design) (f : Option StageFault) (s : Upload) (row : Row) → IsCommitRow opening f s row → ProperSaid row.said
commit_on opening (Some f) s row is = over row _ is (stage_on f)
commit_on opening None s row is = over row _ is.2 (content_on is.0)

revise_row_on : (opening : Design) (f : Option StageFault) (s : Upload) (row : Row) → IsReviseRow opening f s row → ProperSaid row.said
revise_row_on opening (Some f) s row is = over row _ is (stage_on f)
revise_row_on opening None s row is = over row _ is.2 (text_on (bytes_of s) is.0)

row_on : (opening : Design) (s : Upload) (q : Result Request ℕ) (row : Row) → IsRow opening s q row → ProperSaid row.said
row_on opening s (Err at) row is = over row _ is refl
row_on opening s (Ok (request.Begin len)) row is = over row _ is (begin_on (begin_fault s len) s len)
row_on opening s (Ok (request.Piece offset bytes)) row is = over row _ is (piece_on (piece_fault s offset bytes) s offset bytes)
row_on opening s (Ok (request.Commit digest)) row is = commit_on opening (finish_fault s digest) s row is
row_on opening s (Ok (request.Revise digest)) row is = revise_row_on opening (finish_fault s digest) s row is
row_on opening s (Ok request.Bye) row is = over row _ is refl
row_on opening s (Ok (request.Hello point)) row is = over row _ is tt
row_on opening s (Ok (request.Counts first path)) row is = over row _ is tt
row_on opening s (Ok (request.Coverage path)) row is = over row _ is tt
row_on opening s (Ok (request.Illegal first)) row is = over row _ is tt
row_on opening s (Ok (request.Tests first)) row is = over row _ is tt
row_on opening s (Ok (request.TestCounts first id path)) row is = over row _ is tt
row_on opening s (Ok request.Rank) row is = over row _ is tt
row_on opening s (Ok (request.Exclude path)) row is = over row _ is tt
row_on opening s (Ok (request.Include path)) row is = over row _ is tt
row_on opening s (Ok (request.NameOf bin)) row is = over row _ is tt
row_on opening s (Ok (request.Fetch place offset)) row is = over row _ is tt

-- ---- a session

drop_take : (n : ℕ) (xs : List Entry) → drop n (take n xs) ≡ []
drop_take zero xs = refl
drop_take (suc n) [] = refl
drop_take (suc n) (x ∷ xs) = drop_take n xs

turn_on : (opening : Design) (h : List Entry) (caller from : ℕ) (w : Wish) (given : Answer) (added : List (ℕ × Entry)) (to : ℕ) → Proper w → has_stop h ≡ false → to ≤ from + length added → TurnsAt opening h caller from w given added to → is_late given ≡ false
turn_on opening h caller from w given added to p going le t =
    let a = tight opening h caller from w given added to going le t in
    ap is_late a.given_is ∙ wish_on opening (take from h) caller from w p (stop_taken from h going) (drop_take from h)

said_on : (opening : Design) (h : List Entry) (caller : ℕ) (from : Place) (said : Body ⊎ Wish) (stage : Upload) (reply : Reply) (added : List (ℕ × Entry)) (to : Place) → ProperSaid said → has_stop h ≡ false → to.point ≤ from.point + length added → BySaid opening h caller from said stage reply added to → is_reply_of is_late reply ≡ false
said_on opening h caller from (inl b) stage reply added to p going le t = ap (is_body_of is_late) t.body ∙ p
said_on opening h caller from (inr w) stage reply added to p going le t =
    let e : to.point ≡ reply.point = ap (λ (x : Place). x.point) t.goes in
    ap (is_body_of is_late) t.body ∙ turn_on opening h caller from.point w t.answer added reply.point p going (omega arith) t.turn

step_on : (opening : Design) (h : List Entry) (caller : ℕ) (from : Place) (b : List ℕ) (reply : Reply) (added : List (ℕ × Entry)) (to : Place) → has_stop h ≡ false → to.point ≤ from.point + length added → Step opening h caller from b reply added to → is_reply_of is_late reply ≡ false
unfolding Step
step_on opening h caller from b reply added to going le p = ⊎_elim
    (λ (x : Replied opening h caller from (request_read b) reply added to). said_on opening h caller from x.row.said x.row.stage reply added to (row_on opening from.stage (request_read b) x.row x.is_row) going le x.by)
    (λ (x : Lacks h from (lost from.stage (request_read b)) reply added to). ap (is_body_of is_late) x.body) p

pub serves_on : (opening : Design) (h : List Entry) (caller : ℕ) (from to : Place) (bs : List (List ℕ)) (rs : List Reply) (es : List (ℕ × Entry)) → has_stop h ≡ false → to.point ≤ from.point + length es → Serves opening h caller from bs rs es to → NoneIs is_late rs
serves_on opening h caller from to [] [] es going le p = refl
serves_on opening h caller from to [] (r ∷ rs) es going le p = absurd p
serves_on opening h caller from to (b ∷ bs) [] es going le p = absurd p
serves_on opening h caller from to (b ∷ bs) (r ∷ rs) es going le p =
    let x = step_grows opening h caller from b r p.1 p.0 p.3 in
    let y = serves_grows opening h caller p.0 bs rs p.2 to p.4 in
    let long : length es ≡ length p.1 + length p.2 = ap length p.5 ∙ length-append p.1 p.2 in
    let q = step_on opening h caller from b r p.1 p.0 going (omega arith) p.3 in
    let z = serves_on opening h caller p.0 to bs rs p.2 going (omega arith) p.4 in
    ap (λ t. t || list_any (is_reply_of is_late) rs) q ∙ z
