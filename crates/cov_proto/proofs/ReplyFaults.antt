-- Where faults of replies stand: a byte more, and fronts.
use Rattle.std.proofs.Common.{◌≡◌, ℕ, zero, suc, ◌+◌, ◌<◌, ◌≤◌, eqb, Bool, true, false, List, [], ◌∷◌, ◌++◌, length, take, drop, Result, Ok, Err, refl, sym, ap, subst, ◌∙◌, append_assoc, arith, length-append}
use Rattle.std.specs.Prelude.{◌||◌}
use Rattle.std.specs.List.{AllByRecursion, flat_map}
use Rattle.std.specs.Int.{w64, to_be_bytes}
use Rattle.std.proofs.lemmas.Bool.{eqb-true, ne_eqb}
use Rattle.std.proofs.lemmas.List.{append-nil, nil_from_length, take-append-drop, length-drop, length-take}
use Rattle.ucis_model.specs.declared.answers.Answer.{Answer}
use Rattle.ucis_model.specs.declared.answers.Answer.TheVariants as answer
use Rattle.cov_proto.specs.declared.replies.Body.{Body}
use Rattle.cov_proto.specs.declared.replies.Body.TheVariants.{Store, Done, Farewell, BadMessage, NoUpload, StageBusy, TooLong, Outside, Differs, Missing, DigestDiffers, BadRecord, WrongShape, BadDesign, ShapeDiffers, ReadOnly}
use Rattle.cov_proto.specs.declared.replies.Reply.{Reply}
use Rattle.cov_proto.specs.Laws.{AreBytes, SpellsReply, FailsBy, stops_reply, is_open}
use Rattle.cov_proto.specs.Limits.{IsAnswer, IsReplyBody, IsReply, HasAnswerType, HasBodyType, HasReplyType}
use Rattle.cov_proto.specs.Spelled.{count_row, test_row, answer_tag, answer_fields, body_tag, body_fields, reply_spelled}
use Rattle.request_forms.specs.Reading.{Reader, made}
use Rattle.request_forms.specs.Requests.{from_front}
use Rattle.cov_proto.specs.Reading.{rows_in, rows}
use Rattle.cov_proto.specs.Replies.{count_row_at, test_row_at, body_at, tagged_at, reply_left, reply_read}
use Rattle.request_forms.proofs.Readers.{IsBytes-take, IsField, no_fault, number32, number64, digest_field, pair_field}
use Rattle.request_forms.proofs.Behind.{place_behind, made_more, only_made, nothing_made, path_made, before_made}
use Rattle.cov_proto.proofs.SmallNumbers.{limit_field}
use Rattle.cov_proto.proofs.RowLaws.{cover_row_field, count_row_field, rank_row_field, test_row_field, fault_field, some_count, some_rank, some_test}
use Rattle.cov_proto.proofs.ReplyLaws.{joined, body_tags, is_spelled, begins, read_again}

-- ---- less than a row behind rows

rows_in_more : {A : Type 0} {read : Reader A} {s : A → List ℕ} {F : A → Type 0} → IsField read s F → ((x : A) → 1 ≤ length (s x)) → (byte : ℕ) → read (byte ∷ []) ≡ Err 1 → (n : ℕ) (xs : List A) → length (flat_map s xs) < n → AllByRecursion F xs
    → rows_in read n (flat_map s xs ++ byte ∷ []) ≡ Err 1
unfolding rows_in
rows_in_more f some byte short zero xs lt fits = absurd (omega arith)
rows_in_more f some byte short (suc n) [] lt fits = rw short refl
rows_in_more {read = read} {s = s} f some byte short (suc n) (x ∷ xs) lt fits =
    let all : length ((s x ++ flat_map s xs) ++ byte ∷ []) ≡ length (s x) + length (flat_map s xs) + 1 = omega (arith, length-append (s x ++ flat_map s xs) (byte ∷ []), length-append (s x) (flat_map s xs)) in
    let filled : eqb (length ((s x ++ flat_map s xs) ++ byte ∷ [])) 0 ≡ false = ne_eqb _ 0 (λ e. absurd (omega (arith, e, all))) in
    let below : rows_in read n (flat_map s xs ++ byte ∷ []) ≡ Err 1 = rows_in_more f some byte short n xs (omega (arith, some x, lt, length-append (s x) (flat_map s xs))) fits.1 in
    rw (filled, append_assoc (s x) (flat_map s xs) (byte ∷ []), f.again x (flat_map s xs ++ byte ∷ []) fits.0, below) refl

rows_more : {A : Type 0} {read : Reader A} {s : A → List ℕ} {F : A → Type 0} → IsField read s F → ((x : A) → 1 ≤ length (s x)) → (xs : List A) (byte : ℕ) (more : List ℕ) → read (byte ∷ []) ≡ Err 1 → AllByRecursion F xs → eqb (length more) 0 ≡ true
    → rows read (flat_map s xs ++ byte ∷ more) ≡ Err (length (byte ∷ more))
rows_more {read = read} {s = s} f some xs byte more short fits e =
    let nil : more ≡ [] = nil_from_length more (eqb-true _ _ e) in
    let last : rows read (flat_map s xs ++ byte ∷ []) ≡ Err (length (byte ∷ [])) = rows_in_more f some byte short (length (flat_map s xs ++ byte ∷ [])) xs (omega (arith, length-append (flat_map s xs) (byte ∷ []))) fits in
    subst (λ (l : List ℕ). rows read (flat_map s xs ++ byte ∷ l) ≡ Err (length (byte ∷ l))) (sym nil) last

rows_made : {A C : Type 0} {read : Reader A} {s : A → List ℕ} {F : A → Type 0} → IsField read s F → ((x : A) → 1 ≤ length (s x)) → (make : List A → C) (xs : List A) (byte : ℕ) (more : List ℕ) → read (byte ∷ []) ≡ Err 1 → AllByRecursion F xs → eqb (length more) 0 ≡ true
    → made make (rows read) (flat_map s xs ++ byte ∷ more) ≡ Err (length (byte ∷ more))
rows_made {read = read} {s = s} f some make xs byte more short fits e = made_more (rows read) make (flat_map s xs ++ byte ∷ more) (length (byte ∷ more)) (rows_more f some xs byte more short fits e)

-- ---- a byte more

answer_more : (a : Answer) (byte : ℕ) (more : List ℕ) → IsAnswer a → HasAnswerType a → stops_reply (Store a) byte more ≡ true → body_at (answer_tag a) (answer_fields a ++ byte ∷ more) ≡ Err (length (byte ∷ more))
unfolding answer_tag answer_fields
answer_more (answer.Welcome bins) byte more is typed e = only_made number32 (λ x. Store (answer.Welcome x)) bins byte more typed
answer_more answer.New byte more is typed e = nothing_made (Store answer.New) byte more
answer_more (answer.Here first) byte more is typed e = only_made number64 (λ x. Store (answer.Here x)) first byte more typed
answer_more (answer.Rows total list) byte more is typed e =
    before_made number32 (rows count_row_at) (flat_map count_row) (λ x. Store (answer.Rows x.0 x.1)) (total, list) byte more typed.0 (rows_more count_row_field some_count list byte more refl typed.1 e)
answer_more (answer.CoverageIs row) byte more is typed e = only_made cover_row_field (λ x. Store (answer.CoverageIs x)) row byte more typed
answer_more (answer.TestRows total list) byte more is typed e =
    before_made number32 (rows test_row_at) (flat_map test_row) (λ x. Store (answer.TestRows x.0 x.1)) (total, list) byte more typed.0 (rows_more test_row_field some_test list byte more refl (joined list is typed.1) e)
answer_more (answer.RankRows list) byte more is typed e = rows_made rank_row_field some_rank (λ x. Store (answer.RankRows x)) list byte more refl typed e
answer_more (answer.PathIs p) byte more is typed e = path_made (λ x. Store (answer.PathIs x)) p byte more is e
answer_more answer.Changed byte more is typed e = nothing_made (Store answer.Changed) byte more
answer_more (answer.Ahead have) byte more is typed e = only_made number64 (λ x. Store (answer.Ahead x)) have byte more typed
answer_more (answer.IdTaken digest) byte more is typed e = only_made digest_field (λ x. Store (answer.IdTaken x)) digest byte more typed
answer_more (answer.Full which have want) byte more is typed e = only_made (pair_field limit_field (pair_field number64 number64)) (λ x. Store (answer.Full x.0 x.1.0 x.1.1)) (which, (have, want)) byte more (tt, typed)
answer_more answer.NoSuchPath byte more is typed e = nothing_made (Store answer.NoSuchPath) byte more
answer_more answer.AlreadyExcluded byte more is typed e = nothing_made (Store answer.AlreadyExcluded) byte more
answer_more answer.NotExcluded byte more is typed e = nothing_made (Store answer.NotExcluded) byte more
answer_more answer.NoSuchTest byte more is typed e = nothing_made (Store answer.NoSuchTest) byte more
answer_more answer.Memory byte more is typed e = nothing_made (Store answer.Memory) byte more
answer_more (answer.Moved since) byte more is typed e = only_made number64 (λ x. Store (answer.Moved x)) since byte more typed
answer_more answer.Stopped byte more is typed e = nothing_made (Store answer.Stopped) byte more
answer_more (answer.Chunk len bytes) byte more is typed e = absurd cc

body_more : (b : Body) (byte : ℕ) (more : List ℕ) → IsReplyBody b → HasBodyType b → stops_reply b byte more ≡ true → body_at (body_tag b) (body_fields b ++ byte ∷ more) ≡ Err (length (byte ∷ more))
unfolding body_tag body_fields
body_more (Store a) byte more is typed e = answer_more a byte more is typed e
body_more Done byte more is typed e = nothing_made Done byte more
body_more Farewell byte more is typed e = nothing_made Farewell byte more
body_more (BadMessage at) byte more is typed e = only_made number32 (λ x. BadMessage x) at byte more typed
body_more NoUpload byte more is typed e = nothing_made NoUpload byte more
body_more StageBusy byte more is typed e = nothing_made StageBusy byte more
body_more (TooLong n) byte more is typed e = only_made number64 (λ x. TooLong x) n byte more typed
body_more (Outside offset len) byte more is typed e = only_made (pair_field number64 number64) (λ x. Outside x.0 x.1) (offset, len) byte more typed
body_more (Differs at) byte more is typed e = only_made number64 (λ x. Differs x) at byte more typed
body_more (Missing at) byte more is typed e = only_made number64 (λ x. Missing x) at byte more typed
body_more (DigestDiffers got) byte more is typed e = only_made digest_field (λ x. DigestDiffers x) got byte more typed
body_more (BadRecord code number) byte more is typed e = only_made fault_field (λ x. BadRecord x.0 x.1) (code, number) byte more (record { fault = is; typed = typed })
body_more (WrongShape at) byte more is typed e = only_made number32 (λ x. WrongShape x) at byte more typed
body_more (BadDesign at kind) byte more is typed e = absurd cc
body_more (ShapeDiffers at) byte more is typed e = only_made number32 (λ x. ShapeDiffers x) at byte more typed
body_more ReadOnly byte more is typed e = nothing_made ReadOnly byte more

left_more : (r : Reply) (byte : ℕ) (more : List ℕ) → IsReply r → HasReplyType r → stops_reply r.body byte more ≡ true → reply_left (reply_spelled r ++ byte ∷ more) ≡ Err (length (byte ∷ more))
unfolding reply_left reply_spelled tagged_at
left_more r byte more is typed e =
    rw (
      body_tags r.body,
      append_assoc (to_be_bytes w64 r.point) (body_fields r.body) (byte ∷ more),
      number64.again r.point (body_fields r.body ++ byte ∷ more) typed.0,
      body_more r.body byte more is typed.1 e,
    ) refl

pub more_fails : (r : Reply) (byte : ℕ) (more : List ℕ) → IsReply r → HasReplyType r → stops_reply r.body byte more ≡ true → reply_read (reply_spelled r ++ byte ∷ more) ≡ Err (length (reply_spelled r))
more_fails r byte more is typed e = ap (from_front _) (left_more r byte more is typed e) ∙ place_behind (reply_spelled r) (byte ∷ more)

-- ---- fronts

abbrev open_tag : ℕ → Bool
open_tag tag = eqb tag 0x84 || (eqb tag 0x86 || (eqb tag 0x87 || (eqb tag 0x88 || (eqb tag 0x8B || eqb tag 0xD2))))

answer_open : (a : Answer) → open_tag (answer_tag a) ≡ is_open (Store a)
unfolding answer_tag
answer_open (answer.Welcome bins) = refl
answer_open answer.New = refl
answer_open (answer.Here first) = refl
answer_open (answer.Rows total rows) = refl
answer_open (answer.CoverageIs row) = refl
answer_open (answer.TestRows total rows) = refl
answer_open (answer.RankRows rows) = refl
answer_open (answer.PathIs p) = refl
answer_open answer.Changed = refl
answer_open (answer.Ahead have) = refl
answer_open (answer.IdTaken digest) = refl
answer_open (answer.Full which have want) = refl
answer_open answer.NoSuchPath = refl
answer_open answer.AlreadyExcluded = refl
answer_open answer.NotExcluded = refl
answer_open answer.NoSuchTest = refl
answer_open answer.Memory = refl
answer_open (answer.Moved since) = refl
answer_open answer.Stopped = refl
answer_open (answer.Chunk len bytes) = refl

body_open : (b : Body) → open_tag (body_tag b) ≡ is_open b
unfolding body_tag
body_open (Store a) = answer_open a
body_open Done = refl
body_open Farewell = refl
body_open (BadMessage at) = refl
body_open NoUpload = refl
body_open StageBusy = refl
body_open (TooLong n) = refl
body_open (Outside offset len) = refl
body_open (Differs at) = refl
body_open (Missing at) = refl
body_open (DigestDiffers got) = refl
body_open (BadRecord code number) = refl
body_open (WrongShape at) = refl
body_open (BadDesign at kind) = refl
body_open (ShapeDiffers at) = refl
body_open ReadOnly = refl

answer_stops : (a : Answer) (byte : ℕ) (more : List ℕ) → is_open (Store a) ≡ false → stops_reply (Store a) byte more ≡ true
answer_stops (answer.Welcome bins) byte more e = refl
answer_stops answer.New byte more e = refl
answer_stops (answer.Here first) byte more e = refl
answer_stops (answer.Rows total rows) byte more e = absurd cc
answer_stops (answer.CoverageIs row) byte more e = refl
answer_stops (answer.TestRows total rows) byte more e = absurd cc
answer_stops (answer.RankRows rows) byte more e = absurd cc
answer_stops (answer.PathIs p) byte more e = absurd cc
answer_stops answer.Changed byte more e = refl
answer_stops (answer.Ahead have) byte more e = refl
answer_stops (answer.IdTaken digest) byte more e = refl
answer_stops (answer.Full which have want) byte more e = refl
answer_stops answer.NoSuchPath byte more e = refl
answer_stops answer.AlreadyExcluded byte more e = refl
answer_stops answer.NotExcluded byte more e = refl
answer_stops answer.NoSuchTest byte more e = refl
answer_stops answer.Memory byte more e = refl
answer_stops (answer.Moved since) byte more e = refl
answer_stops answer.Stopped byte more e = refl
answer_stops (answer.Chunk len bytes) byte more e = absurd cc

body_stops : (b : Body) (byte : ℕ) (more : List ℕ) → is_open b ≡ false → stops_reply b byte more ≡ true
body_stops (Store a) byte more e = answer_stops a byte more e
body_stops Done byte more e = refl
body_stops Farewell byte more e = refl
body_stops (BadMessage at) byte more e = refl
body_stops NoUpload byte more e = refl
body_stops StageBusy byte more e = refl
body_stops (TooLong n) byte more e = refl
body_stops (Outside offset len) byte more e = refl
body_stops (Differs at) byte more e = refl
body_stops (Missing at) byte more e = refl
body_stops (DigestDiffers got) byte more e = refl
body_stops (BadRecord code number) byte more e = refl
body_stops (WrongShape at) byte more e = refl
body_stops (BadDesign at kind) byte more e = absurd cc
body_stops (ShapeDiffers at) byte more e = refl
body_stops ReadOnly byte more e = refl

abbrev first_open : List ℕ → Bool
first_open [] = false
first_open (tag ∷ rest) = open_tag tag

is_first : (r : Reply) (more : List ℕ) → first_open (reply_spelled r ++ more) ≡ is_open r.body
unfolding reply_spelled
is_first r more = body_open r.body

-- no reply without a text or rows at its end begins with another
no_longer : (q r : Reply) (front behind : List ℕ) → SpellsReply q front → SpellsReply r (front ++ behind) → is_open r.body ≡ false → 0 < length behind → ⊥
no_longer q r front [] s t e lt = omega (arith, lt)
no_longer q r front (byte ∷ more) s t e lt =
    let both : reply_spelled q ++ byte ∷ more ≡ reply_spelled r = ap (λ (l : List ℕ). l ++ byte ∷ more) (sym s.parts) ∙ t.parts in
    let same : is_open q.body ≡ is_open r.body = sym (is_first q (byte ∷ more)) ∙ ap first_open (both ∙ sym (append-nil (reply_spelled r))) ∙ is_first r [] in
    let fails : reply_read (reply_spelled q ++ byte ∷ more) ≡ Err (length (reply_spelled q)) = more_fails q byte more s.fits s.typed (body_stops q.body byte more (same ∙ e)) in
    no_fault r (length (reply_spelled q)) (sym (read_again r t.fits t.typed) ∙ ap reply_read (sym both) ∙ fails)

pub front_fails : (body : List ℕ) (r : Reply) (n : ℕ) → AreBytes body → SpellsReply r body → is_open r.body ≡ false → n < length body → FailsBy n (reply_read (take n body))
front_fails body r n fits s e lt = by (reply_read (take n body)) refl
  where
    by : (read : Result Reply ℕ) → reply_read (take n body) ≡ read → FailsBy n read
    by (Ok q) h = absurd (no_longer q r (take n body) (drop n body) (is_spelled (take n body) q (IsBytes-take n body fits) h) (subst (SpellsReply r) (sym (take-append-drop n body)) s) e (omega (arith, length-drop n body, lt)))
    by (Err at) h = (at, omega (arith, (begins (take n body) at (IsBytes-take n body fits) h).0, length-take n body), refl)
