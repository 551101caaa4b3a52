-- Replies: what is read is spelled so, what is spelled so is read again, and what stands before a fault begins a reply.
use Rattle.std.proofs.Common.{◌≡◌, ◌⊎◌, ℕ, zero, suc, ◌+◌, ◌^◌, ◌<◌, ◌≤◌, eqb, leb, Bool, true, false, cond, List, [], ◌∷◌, ◌++◌, length, take, Ok, Err, refl, sym, ap, subst, ◌∙◌, inl, inr, arith, length-append}
use Rattle.std.specs.List.{AllByRecursion}
use Rattle.std.specs.Int.{w32, w64, to_be_bytes}
use Rattle.std.specs.Prelude.{◌||◌}
use mathlib.Core.Bool.{◌&&◌}
use Rattle.std.proofs.lemmas.Bool.{cases_lt, eqb-true, leb-true}
use Rattle.std.proofs.lemmas.List.{append-nil, take_at}
use Rattle.ucis_model.specs.declared.answers.HistoryNode.{HistoryNode}
use Rattle.ucis_model.specs.declared.answers.Answer.{Answer}
use Rattle.ucis_model.specs.declared.answers.Answer.TheVariants as answer
use Rattle.cov_proto.specs.declared.replies.Body.{Body}
use Rattle.cov_proto.specs.declared.replies.Body.TheVariants.{Store, Done, Farewell, BadMessage, NoUpload, StageBusy, TooLong, Outside, Differs, Missing, DigestDiffers, BadRecord, WrongShape, BadDesign, ShapeDiffers, ReadOnly}
use Rattle.cov_proto.specs.declared.replies.Reply.{Reply}
use Rattle.cov_proto.specs.Laws.{AreBytes, SpellsReply, BeginsReply}
use Rattle.cov_proto.specs.Limits.{IsTestRow, HasTestType, IsAnswer, IsReplyBody, IsReply, HasAnswerType, HasBodyType, HasReplyType}
use Rattle.cov_proto.specs.Spelled.{answer_tag, answer_fields, body_tag, body_fields, reply_spelled}
use Rattle.request_forms.specs.Reading.{◌>>=◌, Form, Table, number_at, only, made, found, unknown}
use Rattle.request_forms.specs.Requests.{from_front}
use Rattle.cov_proto.specs.Replies.{bare_replies, number_replies, long_replies, bare_at, number_reply_at, body_at, is_reply_tag, tagged_at, reply_left, reply_read}
use Rattle.request_forms.proofs.Readers.{bind_ok, bind_err, both, let_pass, ok_is, fault_is, no_fault, Begun, begun_low, bind_early, then_early, then_low, IsMet, at_front, behind_front, before_more, number_cut, IsForm, number32, number64, digest_field, pair_field, nothing_form, only_form, before_form, bytes_form}
use Rattle.request_forms.proofs.Texts.{path_form}
use Rattle.request_forms.proofs.Early.{IsEarly}
use Rattle.cov_proto.proofs.SmallNumbers.{limit_field}
use Rattle.request_forms.proofs.Behind.{decided, made_early, unknown_early, front_ok, front_fault}
use Rattle.cov_proto.proofs.RowLaws.{IsTest, cover_row_field, fault_field, count_rows_form, rank_rows_form, test_rows_form}

-- a tag and fields that spell a body within its limits
pub record Says (b : Body) (tag : ℕ) (fields : List ℕ) : Type 0 where
  pub tagged : body_tag b ≡ tag
  pub parts : fields ≡ body_fields b
  pub fits : IsReplyBody b
  pub typed : HasBodyType b

-- a body of this tag within its limits
pub record IsOf (tag : ℕ) (b : Body) : Type 0 where
  pub tagged : body_tag b ≡ tag
  pub fits : IsReplyBody b
  pub typed : HasBodyType b

record IsRow (tag : ℕ) (form : Form Body) : Type 0 where
  takes : (fields : List ℕ) (b : Body) → AreBytes fields → form fields ≡ Ok b → Says b tag fields
  begun : (fields : List ℕ) (left : ℕ) → AreBytes fields → form fields ≡ Err left → Begun body_fields (IsOf tag) fields left
  example : IsMet (IsOf tag)
  early : IsEarly form

abbrev AreRows : Table Body → Type 0
AreRows [] = Unit {0}
AreRows (row ∷ more) = IsRow row.0 row.1 × AreRows more

row : {A : Type 0} {form : Form A} {s : A → List ℕ} {F : A → Type 0} (tag : ℕ) (make : A → Body) → IsForm form s F → ((x : A) → F x → Says (make x) tag (s x)) → IsRow tag (made make form)
row {A = A} {form = read} {s = s} tag make form says = record { takes = takes; begun = begun; example = record { value = make form.example.value; fits = is (make form.example.value) (s form.example.value) (says form.example.value form.example.fits) }; early = made_early read form.early make }
  where
    is : (b : Body) (fields : List ℕ) → Says b tag fields → IsOf tag b
    is b fields h = record { tagged = h.tagged; fits = h.fits; typed = h.typed }

    takes : (fields : List ℕ) (b : Body) → AreBytes fields → made make read fields ≡ Ok b → Says b tag fields
    takes fields b fits e =
        let a = bind_ok (read fields) _ b e in
        let w = form.takes fields a.0 fits a.1 in
        let h = says a.0 w.fits in
        subst (λ (q : Body). Says q tag fields) (ok_is (make a.0) b a.2) (record { tagged = h.tagged; parts = w.parts ∙ h.parts; fits = h.fits; typed = h.typed })

    begun : (fields : List ℕ) (left : ℕ) → AreBytes fields → made make read fields ≡ Err left → Begun body_fields (IsOf tag) fields left
    begun fields left fits e = elim (bind_err (read fields) _ left e) [
      | inl h ↦ before_more [] make (λ x fit. let k = says x fit in (sym k.parts ∙ sym (append-nil (s x)), is (make x) (s x) k)) (form.begun fields left fits h)
      | inr h ↦ absurd (no_fault (make h.0) left h.2)
    ]

numbers32 : IsForm (only (number_at w32)) (to_be_bytes w32) (λ n. n < 2 ^ 32)
numbers32 = only_form number32

numbers64 : IsForm (only (number_at w64)) (to_be_bytes w64) (λ n. n < 2 ^ 64)
numbers64 = only_form number64

limits : (rows : List HistoryNode) → AllByRecursion IsTest rows → AllByRecursion IsTestRow rows
limits [] all = tt
limits (r ∷ rows) all = (all.0.limits, limits rows all.1)

types : (rows : List HistoryNode) → AllByRecursion IsTest rows → AllByRecursion HasTestType rows
types [] all = tt
types (r ∷ rows) all = (all.0.typed, types rows all.1)

pub joined : (rows : List HistoryNode) → AllByRecursion IsTestRow rows → AllByRecursion HasTestType rows → AllByRecursion IsTest rows
joined [] all typed = tt
joined (r ∷ rows) all typed = (record { limits = all.0; typed = typed.0 }, joined rows all.1 typed.1)

bare : AreRows bare_replies
unfolding body_tag body_fields answer_tag answer_fields
bare = (
  row 0x80 (λ x. Done) nothing_form (λ x f. record { tagged = refl; parts = refl; fits = tt; typed = tt }),
  (
    row 0x82 (λ x. Store answer.New) nothing_form (λ x f. record { tagged = refl; parts = refl; fits = tt; typed = tt }),
    (
      row 0x89 (λ x. Store answer.Changed) nothing_form (λ x f. record { tagged = refl; parts = refl; fits = tt; typed = tt }),
      (
        row 0x8A (λ x. Farewell) nothing_form (λ x f. record { tagged = refl; parts = refl; fits = tt; typed = tt }),
        (
          row 0xC1 (λ x. NoUpload) nothing_form (λ x f. record { tagged = refl; parts = refl; fits = tt; typed = tt }),
          (
            row 0xC2 (λ x. StageBusy) nothing_form (λ x f. record { tagged = refl; parts = refl; fits = tt; typed = tt }),
            (
              row 0xCC (λ x. Store answer.NoSuchPath) nothing_form (λ x f. record { tagged = refl; parts = refl; fits = tt; typed = tt }),
              (
                row 0xCD (λ x. Store answer.AlreadyExcluded) nothing_form (λ x f. record { tagged = refl; parts = refl; fits = tt; typed = tt }),
                (
                  row 0xCE (λ x. Store answer.NotExcluded) nothing_form (λ x f. record { tagged = refl; parts = refl; fits = tt; typed = tt }),
                  (
                    row 0xCF (λ x. Store answer.NoSuchTest) nothing_form (λ x f. record { tagged = refl; parts = refl; fits = tt; typed = tt }),
                    (
                      row 0xD1 (λ x. Store answer.Memory) nothing_form (λ x f. record { tagged = refl; parts = refl; fits = tt; typed = tt }),
                      (
                        row 0xD5 (λ x. Store answer.Stopped) nothing_form (λ x f. record { tagged = refl; parts = refl; fits = tt; typed = tt }),
                        (
                          row 0xD6 (λ x. ReadOnly) nothing_form (λ x f. record { tagged = refl; parts = refl; fits = tt; typed = tt }),
                          tt,
                        ),
                      ),
                    ),
                  ),
                ),
              ),
            ),
          ),
        ),
      ),
    ),
  ),
)

numbers : AreRows number_replies
unfolding body_tag body_fields answer_tag answer_fields
numbers = (
  row 0x81 (λ x. Store (answer.Welcome x)) numbers32 (λ x f. record { tagged = refl; parts = refl; fits = tt; typed = f }),
  (
    row 0x83 (λ x. Store (answer.Here x)) numbers64 (λ x f. record { tagged = refl; parts = refl; fits = tt; typed = f }),
    (
      row 0xC0 (λ x. BadMessage x) numbers32 (λ x f. record { tagged = refl; parts = refl; fits = tt; typed = f }),
      (
        row 0xC3 (λ x. TooLong x) numbers64 (λ x f. record { tagged = refl; parts = refl; fits = tt; typed = f }),
        (
          row 0xC5 (λ x. Differs x) numbers64 (λ x f. record { tagged = refl; parts = refl; fits = tt; typed = f }),
          (
            row 0xC6 (λ x. Missing x) numbers64 (λ x f. record { tagged = refl; parts = refl; fits = tt; typed = f }),
            (
              row 0xC7 (λ x. DigestDiffers x) (only_form digest_field) (λ x f. record { tagged = refl; parts = refl; fits = tt; typed = f }),
              (
                row 0xC9 (λ x. WrongShape x) numbers32 (λ x f. record { tagged = refl; parts = refl; fits = tt; typed = f }),
                (
                  row 0xCA (λ x. Store (answer.IdTaken x)) (only_form digest_field) (λ x f. record { tagged = refl; parts = refl; fits = tt; typed = f }),
                  (
                    row 0xD0 (λ x. Store (answer.Ahead x)) numbers64 (λ x f. record { tagged = refl; parts = refl; fits = tt; typed = f }),
                    (
                      row 0xD3 (λ x. ShapeDiffers x) numbers32 (λ x f. record { tagged = refl; parts = refl; fits = tt; typed = f }),
                      (
                        row 0xD4 (λ x. Store (answer.Moved x)) numbers64 (λ x f. record { tagged = refl; parts = refl; fits = tt; typed = f }),
                        tt,
                      ),
                    ),
                  ),
                ),
              ),
            ),
          ),
        ),
      ),
    ),
  ),
)

long : AreRows long_replies
unfolding body_tag body_fields answer_tag answer_fields
long = (
  row 0x84 (λ x. Store (answer.Rows x.0 x.1)) (before_form number32 count_rows_form) (λ x f. record { tagged = refl; parts = refl; fits = tt; typed = f }),
  (
    row 0x85 (λ x. Store (answer.CoverageIs x)) (only_form cover_row_field) (λ x f. record { tagged = refl; parts = refl; fits = tt; typed = f }),
    (
      row 0x86 (λ x. Store (answer.TestRows x.0 x.1)) (before_form number32 test_rows_form) (λ x f. record { tagged = refl; parts = refl; fits = limits x.1 f.1; typed = (f.0, types x.1 f.1) }),
      (
        row 0x87 (λ x. Store (answer.RankRows x)) rank_rows_form (λ x f. record { tagged = refl; parts = refl; fits = tt; typed = f }),
        (
          row 0x88 (λ x. Store (answer.PathIs x)) path_form (λ x f. record { tagged = refl; parts = refl; fits = f; typed = tt }),
          (
            row 0x8B (λ x. Store (answer.Chunk x.0 x.1)) (before_form number64 bytes_form) (λ x f. record { tagged = refl; parts = refl; fits = tt; typed = f.0 }),
            (
              row 0xC4 (λ x. Outside x.0 x.1) (only_form (pair_field number64 number64)) (λ x f. record { tagged = refl; parts = refl; fits = tt; typed = f }),
              (
                row 0xC8 (λ x. BadRecord x.0 x.1) (only_form fault_field) (λ x f. record { tagged = refl; parts = refl; fits = f.fault; typed = f.typed }),
                (
                  row 0xCB (λ x. Store (answer.Full x.0 x.1.0 x.1.1)) (only_form (pair_field limit_field (pair_field number64 number64))) (λ x f. record { tagged = refl; parts = refl; fits = tt; typed = f.1 }),
                  (
                    row 0xD2 (λ x. BadDesign x.0 x.1) (before_form number32 bytes_form) (λ x f. record { tagged = refl; parts = refl; fits = tt; typed = f.0 }),
                    tt,
                  ),
                ),
              ),
            ),
          ),
        ),
      ),
    ),
  ),
)

-- a row of the table has this tag
abbrev has : ℕ → Table Body → Bool
has tag [] = false
has tag (r ∷ more) = cond (eqb tag r.0) true (has tag more)

chosen : (tag t : ℕ) (b m : Bool) (read next other : Form Body) → eqb tag t ≡ b → IsRow t read → ((m ≡ false → IsRow tag other) → IsRow tag next) → (cond b true m ≡ false → IsRow tag other) → IsRow tag (λ rest. (cond b read next) rest)
chosen tag t true m read next other e first below last = subst (λ (n : ℕ). IsRow n read) (sym (eqb-true tag t e)) first
chosen tag t false m read next other e first below last = below last

walk : (tag : ℕ) (table : Table Body) (other : Form Body) → AreRows table → (has tag table ≡ false → IsRow tag other) → IsRow tag (found tag table other)
walk tag [] other rows last = last refl
walk tag (r ∷ more) other rows last = chosen tag r.0 (eqb tag r.0) (has tag more) r.1 (found tag more other) other refl rows.0 (λ l. walk tag more other rows.1 l) last

-- ---- each tag of a reply is that of a row

abbrev each_below : (ℕ → Bool) → ℕ → Bool
each_below p zero = true
each_below p (suc n) = cond (p n) (each_below p n) false

both_true : (a b : Bool) → cond a b false ≡ true → (a ≡ true) × (b ≡ true)
both_true true b e = (refl, e)
both_true false b e = absurd cc

below_holds : (p : ℕ → Bool) (n k : ℕ) → each_below p n ≡ true → k < n → p k ≡ true
below_holds p zero k e lt = absurd (omega arith)
below_holds p (suc n) k e lt = elim (cases_lt k n) [
  | inl less ↦ below_holds p n k (both_true (p n) (each_below p n) e).1 less
  | inr le ↦ let same : n ≡ k = omega arith in subst (λ (i : ℕ). p i ≡ true) same (both_true (p n) (each_below p n) e).0
]

abbrev in_some : ℕ → Bool
in_some tag = has tag long_replies || (has tag number_replies || has tag bare_replies)

abbrev is_found : ℕ → Bool
is_found tag = cond (is_reply_tag tag) (in_some tag) true

all_found : each_below is_found 215 ≡ true
all_found = refl

in_range : (a b c d : Bool) → ((a && b) || (c && d)) ≡ true → (b ≡ true) ⊎ (d ≡ true)
in_range true true c d e = inl refl
in_range true false c d e = inr (both c d e).1
in_range false b c d e = inr (both c d e).1

is_low : (tag : ℕ) → is_reply_tag tag ≡ true → tag < 215
is_low tag e = elim (in_range (leb 0x80 tag) (leb tag 0x8B) (leb 0xC0 tag) (leb tag 0xD6) e) [
  | inl h ↦ omega (arith, leb-true _ _ h)
  | inr h ↦ omega (arith, leb-true _ _ h)
]

none : (tag : ℕ) → is_reply_tag tag ≡ true → has tag long_replies ≡ false → has tag number_replies ≡ false → has tag bare_replies ≡ false → ⊥
none tag is a b c =
    let found : is_found tag ≡ true = below_holds is_found 215 tag all_found (is_low tag is) in
    let some : in_some tag ≡ true = ap (λ (v : Bool). cond v (in_some tag) true) (sym is) ∙ found in
    let lost : in_some tag ≡ false = rw (a, b, c) refl in
    absurd (apart (sym some ∙ lost))
  where
    apart : true ≡ false → ⊥
    apart e = cc

any_row : (tag : ℕ) → is_reply_tag tag ≡ true → IsRow tag (body_at tag)
any_row tag is = walk tag long_replies (number_reply_at tag) long (λ a. walk tag number_replies (bare_at tag) numbers (λ b. walk tag bare_replies unknown bare (λ c. absurd (none tag is a b c))))

tail_fits : (byte : ℕ) (rest : List ℕ) → AreBytes (byte ∷ rest) → AreBytes rest
tail_fits byte rest fits at = fits (suc at)

spells_tagged : (tag : ℕ) (bytes : List ℕ) (r : Reply) → is_reply_tag tag ≡ true → AreBytes bytes → tagged_at tag bytes ≡ Ok r → SpellsReply r (tag ∷ bytes)
unfolding tagged_at reply_spelled
spells_tagged tag bytes r is fits e =
    let p = bind_ok (number_at w64 bytes) (λ point. body_at tag point.1 >>= (λ body. Ok (record { point = point.0; body = body }))) r e in
    let m = number64.takes bytes p.0 fits p.1 in
    let b = bind_ok (body_at tag p.0.1) (λ body. Ok (record { point = p.0.0; body = body })) r p.2 in
    let h = (any_row tag is).takes p.0.1 b.0 m.takes.rest_fits b.1 in
    let reply : Reply = record { point = p.0.0; body = b.0 } in
    subst (λ (q : Reply). SpellsReply q (tag ∷ bytes)) {x = reply} (ok_is reply r b.2) (record {
      parts = ap (λ (l : List ℕ). tag ∷ l) (m.takes.parts ∙ ap (λ (l : List ℕ). to_be_bytes w64 p.0.0 ++ l) h.parts) ∙ ap (λ (t : ℕ). t ∷ (to_be_bytes w64 p.0.0 ++ body_fields b.0)) (sym h.tagged);
      fits = h.fits;
      typed = (m.fits, h.typed);
    })

pub spells_left : (body : List ℕ) (r : Reply) → AreBytes body → reply_left body ≡ Ok r → SpellsReply r body
unfolding reply_left
spells_left [] r fits e = absurd cc
spells_left (tag ∷ rest) r fits e =
    let t = let_pass (is_reply_tag tag) (suc (length rest)) (tagged_at tag rest) r e in
    spells_tagged tag rest r t.0 (tail_fits tag rest fits) t.1

pub is_spelled : (body : List ℕ) (r : Reply) → AreBytes body → reply_read body ≡ Ok r → SpellsReply r body
is_spelled body r fits e = spells_left body r fits (front_ok (length body) (reply_left body) r e)

-- ---- before a fault

abbrev IsFit : Reply → Type 0
IsFit r = IsReply r × HasReplyType r

begun_tagged : (tag : ℕ) (bytes : List ℕ) (left : ℕ) → is_reply_tag tag ≡ true → AreBytes bytes → tagged_at tag bytes ≡ Err left → Begun reply_spelled IsFit (tag ∷ bytes) left
unfolding tagged_at reply_spelled
begun_tagged tag bytes left is fits e = elim (bind_err (number_at w64 bytes) (λ point. body_at tag point.1 >>= (λ body. Ok (record { point = point.0; body = body }))) left e) [
  | inl h ↦
      let some = (any_row tag is).example in
      record {
        front = tag ∷ [];
        behind = bytes;
        parts = refl;
        long = number_cut w64 bytes left h;
        value = record { point = 0; body = some.value };
        fits = (some.fits.fits, (omega arith, some.fits.typed));
        more = to_be_bytes w64 0 ++ body_fields some.value;
        starts = ap (λ (t : ℕ). t ∷ (to_be_bytes w64 0 ++ body_fields some.value)) some.fits.tagged;
      }
  | inr h ↦
      let m = number64.takes bytes h.0 fits h.1 in
      elim (bind_err (body_at tag h.0.1) (λ body. Ok (record { point = h.0.0; body = body })) left h.2) [
        | inl k ↦ behind_front (tag ∷ to_be_bytes w64 h.0.0) (tag ∷ bytes) (λ b. record { point = h.0.0; body = b }) (ap (λ (l : List ℕ). tag ∷ l) m.takes.parts)
            (λ b fit. (ap (λ (t : ℕ). t ∷ (to_be_bytes w64 h.0.0 ++ body_fields b)) fit.tagged, (fit.fits, (m.fits, fit.typed))))
            ((any_row tag is).begun h.0.1 left m.takes.rest_fits k)
        | inr k ↦ absurd (no_fault (record { point = h.0.0; body = k.0 }) left k.2)
      ]
]

-- any reply begins with no bytes
at_tag : (bytes : List ℕ) (left : ℕ) → length bytes ≡ left → Begun reply_spelled IsFit bytes left
at_tag bytes left e = at_front (record { value = record { point = 0; body = Done }; fits = (tt, (omega arith, tt)) }) e

begun_left : (body : List ℕ) (left : ℕ) → AreBytes body → reply_left body ≡ Err left → Begun reply_spelled IsFit body left
unfolding reply_left
begun_left [] left fits e = at_tag [] left (fault_is {A = Reply} 0 left e)
begun_left (tag ∷ rest) left fits e = by (is_reply_tag tag) refl e
  where
    by : (b : Bool) → is_reply_tag tag ≡ b → cond b (tagged_at tag rest) (Err (suc (length rest))) ≡ Err left → Begun reply_spelled IsFit (tag ∷ rest) left
    by true is h = begun_tagged tag rest left is (tail_fits tag rest fits) h
    by false is h = at_tag (tag ∷ rest) left (fault_is {A = Reply} (suc (length rest)) left h)

left_low : (body : List ℕ) (left : ℕ) → AreBytes body → reply_left body ≡ Err left → left ≤ length body
left_low body left fits e = begun_low (begun_left body left fits e)

tagged_early : (tag : ℕ) → is_reply_tag tag ≡ true → IsEarly (tagged_at tag)
unfolding tagged_at
tagged_early tag is = bind_early number64.takes number64.again number64.early (λ point. body_at tag point.1 >>= (λ body. Ok (record { point = point.0; body = body }))) (record {
  low = λ x rest left fx fits e. then_low (body_at tag) (λ bytes left fits e. begun_low ((any_row tag is).begun bytes left fits e)) (λ body. record { point = x; body = body }) rest left fits e;
  early = λ x fx. then_early (body_at tag) (any_row tag is).early (λ body. record { point = x; body = body });
})

left_early : IsEarly reply_left
unfolding reply_left
left_early [] more other l fits e big = let low = left_low more (l + length more) fits e in absurd (omega (arith, low, big))
left_early (tag ∷ front) more other l fits e big = by (is_reply_tag tag) refl e
  where
    by : (b : Bool) → is_reply_tag tag ≡ b → cond b (tagged_at tag (front ++ more)) (unknown (front ++ more)) ≡ Err (l + length more) → cond b (tagged_at tag (front ++ other)) (unknown (front ++ other)) ≡ Err (l + length other)
    by true is h = tagged_early tag is front more other l (tail_fits tag (front ++ more) fits) h big
    by false is h = unknown_early front more other l (tail_fits tag (front ++ more) fits) h big

pub is_decided : (body more : List ℕ) (at : ℕ) → AreBytes body → reply_read body ≡ Err at → at + 255 ≤ length body → reply_read (take (at + 255) body ++ more) ≡ Err at
is_decided = decided reply_left left_low left_early

pub begins : (body : List ℕ) (at : ℕ) → AreBytes body → reply_read body ≡ Err at → (at ≤ length body) × BeginsReply (take at body)
begins body at fits e =
    let f = front_fault (length body) (reply_left body) at e in
    let b = begun_left body f.0 fits f.1 in
    let place : length b.front ≡ at = omega (arith, ap length b.parts, length-append b.front b.behind, b.long, f.2) in
    let first : take at body ≡ b.front = ap (take at) b.parts ∙ take_at b.front b.behind at place in (
      omega (arith, f.2),
      record { reply = b.value; more = b.more; spells = record { parts = ap (λ (l : List ℕ). l ++ b.more) first ∙ sym b.starts; fits = b.fits.0; typed = b.fits.1 } },
    )

-- ---- read again

made_again : {A : Type 0} {form : Form A} {s : A → List ℕ} {F : A → Type 0} → IsForm form s F → (make : A → Body) (x : A) → F x → made make form (s x) ≡ Ok (make x)
made_again is make x fits = rw (is.again x fits) refl

answer_again : (a : Answer) → IsAnswer a → HasAnswerType a → body_at (answer_tag a) (answer_fields a) ≡ Ok (Store a)
unfolding answer_tag answer_fields
answer_again (answer.Welcome bins) is typed = made_again numbers32 (λ x. Store (answer.Welcome x)) bins typed
answer_again answer.New is typed = refl
answer_again (answer.Here first) is typed = made_again numbers64 (λ x. Store (answer.Here x)) first typed
answer_again (answer.Rows total rows) is typed = made_again (before_form number32 count_rows_form) (λ x. Store (answer.Rows x.0 x.1)) (total, rows) typed
answer_again (answer.CoverageIs row) is typed = made_again (only_form cover_row_field) (λ x. Store (answer.CoverageIs x)) row typed
answer_again (answer.TestRows total rows) is typed = made_again (before_form number32 test_rows_form) (λ x. Store (answer.TestRows x.0 x.1)) (total, rows) (typed.0, joined rows is typed.1)
answer_again (answer.RankRows rows) is typed = made_again rank_rows_form (λ x. Store (answer.RankRows x)) rows typed
answer_again (answer.PathIs p) is typed = made_again path_form (λ x. Store (answer.PathIs x)) p is
answer_again answer.Changed is typed = refl
answer_again (answer.Ahead have) is typed = made_again numbers64 (λ x. Store (answer.Ahead x)) have typed
answer_again (answer.IdTaken digest) is typed = made_again (only_form digest_field) (λ x. Store (answer.IdTaken x)) digest typed
answer_again (answer.Full which have want) is typed = made_again (only_form (pair_field limit_field (pair_field number64 number64))) (λ x. Store (answer.Full x.0 x.1.0 x.1.1)) (which, (have, want)) (tt, typed)
answer_again answer.NoSuchPath is typed = refl
answer_again answer.AlreadyExcluded is typed = refl
answer_again answer.NotExcluded is typed = refl
answer_again answer.NoSuchTest is typed = refl
answer_again answer.Memory is typed = refl
answer_again (answer.Moved since) is typed = made_again numbers64 (λ x. Store (answer.Moved x)) since typed
answer_again answer.Stopped is typed = refl
answer_again (answer.Chunk len bytes) is typed = made_again (before_form number64 bytes_form) (λ x. Store (answer.Chunk x.0 x.1)) (len, bytes) (typed, tt)

body_again : (b : Body) → IsReplyBody b → HasBodyType b → body_at (body_tag b) (body_fields b) ≡ Ok b
unfolding body_tag body_fields
body_again (Store a) is typed = answer_again a is typed
body_again Done is typed = refl
body_again Farewell is typed = refl
body_again (BadMessage at) is typed = made_again numbers32 (λ x. BadMessage x) at typed
body_again NoUpload is typed = refl
body_again StageBusy is typed = refl
body_again (TooLong n) is typed = made_again numbers64 (λ x. TooLong x) n typed
body_again (Outside offset len) is typed = made_again (only_form (pair_field number64 number64)) (λ x. Outside x.0 x.1) (offset, len) typed
body_again (Differs at) is typed = made_again numbers64 (λ x. Differs x) at typed
body_again (Missing at) is typed = made_again numbers64 (λ x. Missing x) at typed
body_again (DigestDiffers got) is typed = made_again (only_form digest_field) (λ x. DigestDiffers x) got typed
body_again (BadRecord code number) is typed = made_again (only_form fault_field) (λ x. BadRecord x.0 x.1) (code, number) (record { fault = is; typed = typed })
body_again (WrongShape at) is typed = made_again numbers32 (λ x. WrongShape x) at typed
body_again (BadDesign at kind) is typed = made_again (before_form number32 bytes_form) (λ x. BadDesign x.0 x.1) (at, kind) (typed, tt)
body_again (ShapeDiffers at) is typed = made_again numbers32 (λ x. ShapeDiffers x) at typed
body_again ReadOnly is typed = refl

answer_tags : (a : Answer) → is_reply_tag (answer_tag a) ≡ true
unfolding answer_tag
answer_tags (answer.Welcome bins) = refl
answer_tags answer.New = refl
answer_tags (answer.Here first) = refl
answer_tags (answer.Rows total rows) = refl
answer_tags (answer.CoverageIs row) = refl
answer_tags (answer.TestRows total rows) = refl
answer_tags (answer.RankRows rows) = refl
answer_tags (answer.PathIs p) = refl
answer_tags answer.Changed = refl
answer_tags (answer.Ahead have) = refl
answer_tags (answer.IdTaken digest) = refl
answer_tags (answer.Full which have want) = refl
answer_tags answer.NoSuchPath = refl
answer_tags answer.AlreadyExcluded = refl
answer_tags answer.NotExcluded = refl
answer_tags answer.NoSuchTest = refl
answer_tags answer.Memory = refl
answer_tags (answer.Moved since) = refl
answer_tags answer.Stopped = refl
answer_tags (answer.Chunk len bytes) = refl

pub body_tags : (b : Body) → is_reply_tag (body_tag b) ≡ true
unfolding body_tag
body_tags (Store a) = answer_tags a
body_tags Done = refl
body_tags Farewell = refl
body_tags (BadMessage at) = refl
body_tags NoUpload = refl
body_tags StageBusy = refl
body_tags (TooLong n) = refl
body_tags (Outside offset len) = refl
body_tags (Differs at) = refl
body_tags (Missing at) = refl
body_tags (DigestDiffers got) = refl
body_tags (BadRecord code number) = refl
body_tags (WrongShape at) = refl
body_tags (BadDesign at kind) = refl
body_tags (ShapeDiffers at) = refl
body_tags ReadOnly = refl

left_again : (r : Reply) → IsReply r → HasReplyType r → reply_left (reply_spelled r) ≡ Ok r
unfolding reply_left reply_spelled tagged_at
left_again r is typed = rw (body_tags r.body, number64.again r.point (body_fields r.body) typed.0, body_again r.body is typed.1) refl

pub read_again : (r : Reply) → IsReply r → HasReplyType r → reply_read (reply_spelled r) ≡ Ok r
read_again r is typed = ap (from_front (length (reply_spelled r))) (left_again r is typed)

pub is_read : (r : Reply) (bytes : List ℕ) → SpellsReply r bytes → reply_read bytes ≡ Ok r
is_read r bytes s = ap reply_read s.parts ∙ read_again r s.fits s.typed

pub one_reply : (r q : Reply) (bytes : List ℕ) → SpellsReply r bytes → SpellsReply q bytes → r ≡ q
one_reply r q bytes s t = ok_is r q (sym (is_read r bytes s) ∙ is_read q bytes t)

pub none_left : (bytes : List ℕ) (left : ℕ) → reply_left bytes ≡ Err left → (r : Reply) → SpellsReply r bytes → ⊥
none_left bytes left e r s = no_fault r left (sym (left_again r s.fits s.typed) ∙ ap reply_left (sym s.parts) ∙ e)
