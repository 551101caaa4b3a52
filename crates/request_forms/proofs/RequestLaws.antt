-- Requests: what is read is spelled so, what is spelled so is read again, and where faults stand.
use Rattle.std.proofs.Common.{◌≡◌, ℕ, suc, ◌+◌, ◌^◌, ◌<◌, ◌≤◌, eqb, Bool, true, false, cond, List, [], ◌∷◌, ◌++◌, length, take, drop, Result, Ok, Err, refl, sym, ap, subst, ◌∙◌, inl, inr, arith, length-append}
use Rattle.std.specs.Int.{w32, w64, to_be_bytes}
use Rattle.std.specs.Prelude.{◌||◌}
use Rattle.std.proofs.lemmas.Bool.{eqb-true}
use Rattle.std.proofs.lemmas.List.{append-nil, take_at, take-append-drop, length-drop, length-take}
use Rattle.request_forms.specs.declared.requests.Request.{Request}
use Rattle.request_forms.specs.declared.requests.Request.TheVariants.{Hello, Begin, Piece, Commit, Counts, Coverage, Illegal, Tests, TestCounts, Rank, Exclude, Include, NameOf, Bye, Revise, Fetch}
use Rattle.request_forms.specs.Laws.{AreBytes, SpellsRequest, FailsBy, BeginsRequest, stops_request}
use Rattle.request_forms.specs.Limits.{IsRequest, HasRequestType}
use Rattle.request_forms.specs.Spelled.{text, request_spelled}
use Rattle.request_forms.specs.Reading.{Form, Table, number_at, text_at, only, before, path, made, found, unknown}
use Rattle.request_forms.specs.Requests.{text_requests, plain_requests, plain_at, request_at, request_left, from_front, request_read, has_text}
use Rattle.request_forms.proofs.Readers.{IsBytes-take, bind_ok, bind_err, ok_is, fault_is, no_fault, no_value, Begun, begun_low, at_front, behind_front, IsForm, number32, number64, digest_field, pair_field, nothing_form, only_form, before_form, bytes_form}
use Rattle.request_forms.proofs.Early.{IsEarly}
use Rattle.request_forms.proofs.Behind.{decided, made_early, unknown_early, front_ok, front_fault, place_behind, path_more, before_bad, only_made, nothing_made, path_made, before_made}
use Rattle.request_forms.proofs.Texts.{path_form, text_field}

-- a request within its limits
abbrev pub IsFit : Request → Type 0
IsFit r = IsRequest r × HasRequestType r

-- what a row of a table owes
record IsRow (tag : ℕ) (form : Form Request) : Type 0 where
  takes : (rest : List ℕ) (r : Request) → AreBytes rest → form rest ≡ Ok r → SpellsRequest r (tag ∷ rest)
  begun : (rest : List ℕ) (left : ℕ) → AreBytes rest → form rest ≡ Err left → Begun request_spelled IsFit (tag ∷ rest) left
  early : IsEarly form

abbrev AreRows : Table Request → Type 0
AreRows [] = Unit {0}
AreRows (row ∷ more) = IsRow row.0 row.1 × AreRows more

row : {A : Type 0} {form : Form A} {s : A → List ℕ} {F : A → Type 0} (tag : ℕ) (make : A → Request) → IsForm form s F → ((x : A) → F x → SpellsRequest (make x) (tag ∷ s x)) → IsRow tag (made make form)
row {A = A} {form = read} tag make form spells = record { takes = takes; begun = begun; early = made_early read form.early make }
  where
    takes : (rest : List ℕ) (r : Request) → AreBytes rest → made make read rest ≡ Ok r → SpellsRequest r (tag ∷ rest)
    takes rest r fits e =
        let a = bind_ok (read rest) _ r e in
        let w = form.takes rest a.0 fits a.1 in
        let h = spells a.0 w.fits in
        subst (λ (q : Request). SpellsRequest q (tag ∷ rest)) (ok_is (make a.0) r a.2) (record { parts = ap (λ (l : List ℕ). tag ∷ l) w.parts ∙ h.parts; fits = h.fits; typed = h.typed })

    begun : (rest : List ℕ) (left : ℕ) → AreBytes rest → made make read rest ≡ Err left → Begun request_spelled IsFit (tag ∷ rest) left
    begun rest left fits e = elim (bind_err (read rest) _ left e) [
      | inl h ↦ behind_front (tag ∷ []) (tag ∷ rest) make refl (λ x fit. let k = spells x fit in (sym k.parts, (k.fits, k.typed))) (form.begun rest left fits h)
      | inr h ↦ absurd (no_fault (make h.0) left h.2)
    ]

numbers32 : IsForm (only (number_at w32)) (to_be_bytes w32) (λ n. n < 2 ^ 32)
numbers32 = only_form number32

numbers64 : IsForm (only (number_at w64)) (to_be_bytes w64) (λ n. n < 2 ^ 64)
numbers64 = only_form number64

texts : AreRows text_requests
unfolding request_spelled
texts = (
  row 0x03 (λ x. Piece x.0 x.1) (before_form number64 bytes_form) (λ x f. record { parts = refl; fits = tt; typed = f.0 }),
  (
    row 0x05 (λ x. Counts x.0 x.1) (before_form number32 path_form) (λ x f. record { parts = refl; fits = f.1; typed = f.0 }),
    (
      row 0x06 (λ x. Coverage x) path_form (λ x f. record { parts = refl; fits = f; typed = tt }),
      (
        row 0x09 (λ x. TestCounts x.0 x.1.0 x.1.1) (before_form number32 (before_form (text_field 1 33 (omega arith) (omega arith)) path_form)) (λ x f. record { parts = refl; fits = f.1; typed = f.0 }),
        (
          row 0x0B (λ x. Exclude x) path_form (λ x f. record { parts = refl; fits = f; typed = tt }),
          (
            row 0x0C (λ x. Include x) path_form (λ x f. record { parts = refl; fits = f; typed = tt }),
            tt,
          ),
        ),
      ),
    ),
  ),
)

plain : AreRows plain_requests
unfolding request_spelled
plain = (
  row 0x01 (λ x. Hello x) numbers64 (λ x f. record { parts = refl; fits = tt; typed = f }),
  (
    row 0x02 (λ x. Begin x) numbers64 (λ x f. record { parts = refl; fits = tt; typed = f }),
    (
      row 0x04 (λ x. Commit x) (only_form digest_field) (λ x f. record { parts = refl; fits = tt; typed = f }),
      (
        row 0x07 (λ x. Illegal x) numbers32 (λ x f. record { parts = refl; fits = tt; typed = f }),
        (
          row 0x08 (λ x. Tests x) numbers32 (λ x f. record { parts = refl; fits = tt; typed = f }),
          (
            row 0x0A (λ x. Rank) nothing_form (λ x f. record { parts = refl; fits = tt; typed = tt }),
            (
              row 0x0D (λ x. NameOf x) numbers32 (λ x f. record { parts = refl; fits = tt; typed = f }),
              (
                row 0x0E (λ x. Bye) nothing_form (λ x f. record { parts = refl; fits = tt; typed = tt }),
                (
                  row 0x0F (λ x. Revise x) (only_form digest_field) (λ x f. record { parts = refl; fits = tt; typed = f }),
                  (
                    row 0x10 (λ x. Fetch x.0 x.1) (only_form (pair_field number32 number64)) (λ x f. record { parts = refl; fits = tt; typed = f }),
                    tt,
                  ),
                ),
              ),
            ),
          ),
        ),
      ),
    ),
  ),
)

-- the row that a tag finds, or what stands for the others
chosen : (tag t : ℕ) (b : Bool) (read other : Form Request) → eqb tag t ≡ b → IsRow t read → IsRow tag other → IsRow tag (λ rest. (cond b read other) rest)
chosen tag t true read other e first others = subst (λ (n : ℕ). IsRow n read) (sym (eqb-true tag t e)) first
chosen tag t false read other e first others = others

walk : (tag : ℕ) (table : Table Request) (other : Form Request) → AreRows table → IsRow tag other → IsRow tag (found tag table other)
walk tag [] other rows last = last
walk tag (r ∷ more) other rows last = chosen tag r.0 (eqb tag r.0) r.1 (found tag more other) refl rows.0 (walk tag more other rows.1 last)

-- the bytes of any request begin with none
at_tag : (bytes : List ℕ) (left : ℕ) → length bytes ≡ left → Begun request_spelled IsFit bytes left
at_tag bytes left e = at_front (record { value = Bye; fits = (tt, tt) }) e

none : (tag : ℕ) → IsRow tag unknown
none tag = record { takes = λ rest r fits e. absurd (no_value (suc (length rest)) r e); begun = λ rest left fits e. at_tag (tag ∷ rest) left (fault_is (suc (length rest)) left e); early = unknown_early }

tail_fits : (byte : ℕ) (rest : List ℕ) → AreBytes (byte ∷ rest) → AreBytes rest
tail_fits byte rest fits at = fits (suc at)

any_row : (tag : ℕ) → IsRow tag (request_at tag)
any_row tag = walk tag text_requests (plain_at tag) texts (walk tag plain_requests unknown plain (none tag))

pub spells_left : (body : List ℕ) (r : Request) → AreBytes body → request_left body ≡ Ok r → SpellsRequest r body
unfolding request_left
spells_left [] r fits e = absurd cc
spells_left (tag ∷ rest) r fits e = (any_row tag).takes rest r (tail_fits tag rest fits) e

begun_left : (body : List ℕ) (left : ℕ) → AreBytes body → request_left body ≡ Err left → Begun request_spelled IsFit body left
unfolding request_left
begun_left [] left fits e = at_tag [] left (fault_is {A = Request} 0 left e)
begun_left (tag ∷ rest) left fits e = (any_row tag).begun rest left (tail_fits tag rest fits) e

pub is_spelled : (body : List ℕ) (r : Request) → AreBytes body → request_read body ≡ Ok r → SpellsRequest r body
is_spelled body r fits e = spells_left body r fits (front_ok (length body) (request_left body) r e)

-- ---- read again

made_again : {A : Type 0} {form : Form A} {s : A → List ℕ} {F : A → Type 0} → IsForm form s F → (make : A → Request) (x : A) → F x → made make form (s x) ≡ Ok (make x)
made_again is make x fits = rw (is.again x fits) refl

left_again : (r : Request) → IsRequest r → HasRequestType r → request_left (request_spelled r) ≡ Ok r
unfolding request_left request_spelled
left_again (Hello point) is typed = made_again numbers64 (λ x. Hello x) point typed
left_again (Begin len) is typed = made_again numbers64 (λ x. Begin x) len typed
left_again (Piece offset bytes) is typed = made_again (before_form number64 bytes_form) (λ x. Piece x.0 x.1) (offset, bytes) (typed, tt)
left_again (Commit digest) is typed = made_again (only_form digest_field) (λ x. Commit x) digest typed
left_again (Counts first p) is typed = made_again (before_form number32 path_form) (λ x. Counts x.0 x.1) (first, p) (typed, is)
left_again (Coverage p) is typed = made_again path_form (λ x. Coverage x) p is
left_again (Illegal first) is typed = made_again numbers32 (λ x. Illegal x) first typed
left_again (Tests first) is typed = made_again numbers32 (λ x. Tests x) first typed
left_again (TestCounts first id p) is typed = made_again (before_form number32 (before_form (text_field 1 33 (omega arith) (omega arith)) path_form)) (λ x. TestCounts x.0 x.1.0 x.1.1) (first, (id, p)) (typed, is)
left_again Rank is typed = made_again nothing_form (λ x. Rank) tt tt
left_again (Exclude p) is typed = made_again path_form (λ x. Exclude x) p is
left_again (Include p) is typed = made_again path_form (λ x. Include x) p is
left_again (NameOf bin) is typed = made_again numbers32 (λ x. NameOf x) bin typed
left_again Bye is typed = made_again nothing_form (λ x. Bye) tt tt
left_again (Revise digest) is typed = made_again (only_form digest_field) (λ x. Revise x) digest typed
left_again (Fetch place offset) is typed = made_again (only_form (pair_field number32 number64)) (λ x. Fetch x.0 x.1) (place, offset) typed

pub read_again : (r : Request) → IsRequest r → HasRequestType r → request_read (request_spelled r) ≡ Ok r
read_again r is typed = ap (from_front (length (request_spelled r))) (left_again r is typed)

pub is_read : (r : Request) (bytes : List ℕ) → SpellsRequest r bytes → request_read bytes ≡ Ok r
is_read r bytes s = ap request_read s.parts ∙ read_again r s.fits s.typed

pub one_request : (r q : Request) (bytes : List ℕ) → SpellsRequest r bytes → SpellsRequest q bytes → r ≡ q
one_request r q bytes s t = ok_is r q (sym (is_read r bytes s) ∙ is_read q bytes t)

pub none_left : (bytes : List ℕ) (left : ℕ) → request_left bytes ≡ Err left → (r : Request) → SpellsRequest r bytes → ⊥
none_left bytes left e r s = no_fault r left (sym (left_again r s.fits s.typed) ∙ ap request_left (sym s.parts) ∙ e)

-- ---- before a fault

pub begins : (body : List ℕ) (at : ℕ) → AreBytes body → request_read body ≡ Err at → (at ≤ length body) × BeginsRequest (take at body)
begins body at fits e =
    let f = front_fault (length body) (request_left body) at e in
    let b = begun_left body f.0 fits f.1 in
    let place : length b.front ≡ at = omega (arith, ap length b.parts, length-append b.front b.behind, b.long, f.2) in
    let first : take at body ≡ b.front = ap (take at) b.parts ∙ take_at b.front b.behind at place in (
      omega (arith, f.2),
      record { request = b.value; more = b.more; spells = record { parts = ap (λ (l : List ℕ). l ++ b.more) first ∙ sym b.starts; fits = b.fits.0; typed = b.fits.1 } },
    )

left_low : (body : List ℕ) (left : ℕ) → AreBytes body → request_left body ≡ Err left → left ≤ length body
left_low body left fits e = begun_low (begun_left body left fits e)

left_early : IsEarly request_left
unfolding request_left
left_early [] more other l fits e big = let low = left_low more (l + length more) fits e in absurd (omega (arith, low, big))
left_early (tag ∷ front) more other l fits e big = (any_row tag).early front more other l (tail_fits tag (front ++ more) fits) e big

pub is_decided : (body more : List ℕ) (at : ℕ) → AreBytes body → request_read body ≡ Err at → at + 255 ≤ length body → request_read (take (at + 255) body ++ more) ≡ Err at
is_decided = decided request_left left_low left_early

-- ---- a byte more

left_more : (r : Request) (byte : ℕ) (more : List ℕ) → IsRequest r → HasRequestType r → stops_request r byte ≡ true → request_left (request_spelled r ++ byte ∷ more) ≡ Err (length (byte ∷ more))
unfolding request_left request_spelled
left_more (Hello point) byte more is typed e = only_made number64 (λ x. Hello x) point byte more typed
left_more (Begin len) byte more is typed e = only_made number64 (λ x. Begin x) len byte more typed
left_more (Piece offset bytes) byte more is typed e = absurd cc
left_more (Commit digest) byte more is typed e = only_made digest_field (λ x. Commit x) digest byte more typed
left_more (Counts first p) byte more is typed e = before_made number32 path (λ l. l) (λ x. Counts x.0 x.1) (first, p) byte more typed (path_more p byte more is e)
left_more (Coverage p) byte more is typed e = path_made (λ x. Coverage x) p byte more is e
left_more (Illegal first) byte more is typed e = only_made number32 (λ x. Illegal x) first byte more typed
left_more (Tests first) byte more is typed e = only_made number32 (λ x. Tests x) first byte more typed
left_more (TestCounts first id p) byte more is typed e =
    before_made number32 (before (text_at 1 33) path) (λ x. text x.0 ++ x.1) (λ x. TestCounts x.0 x.1.0 x.1.1) (first, (id, p)) byte more typed
    (before_bad (text_field 1 33 (omega arith) (omega arith)) path (λ l. l) (id, p) byte more is.0 (path_more p byte more is.1 e))
left_more Rank byte more is typed e = nothing_made Rank byte more
left_more (Exclude p) byte more is typed e = path_made (λ x. Exclude x) p byte more is e
left_more (Include p) byte more is typed e = path_made (λ x. Include x) p byte more is e
left_more (NameOf bin) byte more is typed e = only_made number32 (λ x. NameOf x) bin byte more typed
left_more Bye byte more is typed e = nothing_made Bye byte more
left_more (Revise digest) byte more is typed e = only_made digest_field (λ x. Revise x) digest byte more typed
left_more (Fetch place offset) byte more is typed e = only_made (pair_field number32 number64) (λ x. Fetch x.0 x.1) (place, offset) byte more typed

pub more_fails : (r : Request) (byte : ℕ) (more : List ℕ) → IsRequest r → HasRequestType r → stops_request r byte ≡ true → request_read (request_spelled r ++ byte ∷ more) ≡ Err (length (request_spelled r))
more_fails r byte more is typed e = ap (from_front _) (left_more r byte more is typed e) ∙ place_behind (request_spelled r) (byte ∷ more)

-- ---- fronts

abbrev first_tag : List ℕ → Bool
first_tag [] = false
first_tag (tag ∷ rest) = eqb tag 3 || (eqb tag 5 || (eqb tag 6 || (eqb tag 9 || (eqb tag 11 || eqb tag 12))))

tag_is : (r : Request) (more : List ℕ) → first_tag (request_spelled r ++ more) ≡ has_text r
unfolding request_spelled
tag_is (Hello point) more = refl
tag_is (Begin len) more = refl
tag_is (Piece offset bytes) more = refl
tag_is (Commit digest) more = refl
tag_is (Counts first p) more = refl
tag_is (Coverage p) more = refl
tag_is (Illegal first) more = refl
tag_is (Tests first) more = refl
tag_is (TestCounts first id p) more = refl
tag_is Rank more = refl
tag_is (Exclude p) more = refl
tag_is (Include p) more = refl
tag_is (NameOf bin) more = refl
tag_is Bye more = refl
tag_is (Revise digest) more = refl
tag_is (Fetch place offset) more = refl

always_stops : (r : Request) (byte : ℕ) → has_text r ≡ false → stops_request r byte ≡ true
always_stops (Hello point) byte e = refl
always_stops (Begin len) byte e = refl
always_stops (Piece offset bytes) byte e = absurd cc
always_stops (Commit digest) byte e = refl
always_stops (Counts first p) byte e = absurd cc
always_stops (Coverage p) byte e = absurd cc
always_stops (Illegal first) byte e = refl
always_stops (Tests first) byte e = refl
always_stops (TestCounts first id p) byte e = absurd cc
always_stops Rank byte e = refl
always_stops (Exclude p) byte e = absurd cc
always_stops (Include p) byte e = absurd cc
always_stops (NameOf bin) byte e = refl
always_stops Bye byte e = refl
always_stops (Revise digest) byte e = refl
always_stops (Fetch place offset) byte e = refl

-- no request without a text begins with another
no_longer : (q r : Request) (front behind : List ℕ) → SpellsRequest q front → SpellsRequest r (front ++ behind) → has_text r ≡ false → 0 < length behind → ⊥
no_longer q r front [] s t e lt = omega (arith, lt)
no_longer q r front (byte ∷ more) s t e lt =
    let both : request_spelled q ++ byte ∷ more ≡ request_spelled r = ap (λ (l : List ℕ). l ++ byte ∷ more) (sym s.parts) ∙ t.parts in
    let same : has_text q ≡ has_text r = sym (tag_is q (byte ∷ more)) ∙ ap first_tag (both ∙ sym (append-nil (request_spelled r))) ∙ tag_is r [] in
    let fails : request_read (request_spelled q ++ byte ∷ more) ≡ Err (length (request_spelled q)) = more_fails q byte more s.fits s.typed (always_stops q byte (same ∙ e)) in
    no_fault r (length (request_spelled q)) (sym (read_again r t.fits t.typed) ∙ ap request_read (sym both) ∙ fails)

pub front_fails : (body : List ℕ) (r : Request) (n : ℕ) → AreBytes body → SpellsRequest r body → has_text r ≡ false → n < length body → FailsBy n (request_read (take n body))
front_fails body r n fits s e lt = by (request_read (take n body)) refl
  where
    by : (read : Result Request ℕ) → request_read (take n body) ≡ read → FailsBy n read
    by (Ok q) h = absurd (no_longer q r (take n body) (drop n body) (is_spelled (take n body) q (IsBytes-take n body fits) h) (subst (SpellsRequest r) (sym (take-append-drop n body)) s) e (omega (arith, length-drop n body, lt)))
    by (Err at) h = (at, omega (arith, (begins (take n body) at (IsBytes-take n body fits) h).0, length-take n body), refl)
