-- Bytes that come are cut into bodies in one way.
use Rattle.std.proofs.Common.{◌≡◌, ◌⊎◌, inl, inr, ⊎_elim, ℕ, suc, ◌+◌, ◌<◌, ◌≤◌, ◌^◌, List, [], ◌∷◌, ◌++◌, length, take, drop, Bool, true, false, refl, sym, ap, ◌∙◌, subst, append_assoc, append-nil, arith, length-append}
use Rattle.std.specs.Prelude.{All, ⊤}
use Rattle.std.specs.Int.{w32, to_be_bytes, from_be_bytes}
use Rattle.std.proofs.lemmas.List.{take_at, drop_at, take-append-le, take-append-drop}
use Rattle.std.proofs.lemmas.Nat.{from_be_bytes-to_be_bytes_4}
use Rattle.cov_proto.specs.Frames.{IsBody, IsTorn, HasBadLength, frame, frames, longest_body}
use Rattle.cov_session.specs.Table.{is_bye}
use Rattle.cov_session.specs.declared.ended.Ended.{Ended}
use Rattle.cov_session.specs.declared.ended.Ended.TheVariants as ended
use Rattle.cov_session.specs.Streams.{NoBye, LastBye, Rest}
use Rattle.session_laws.specs.Outputs.{IsOrderly}

-- ---- one frame at the front

heads : (b c more rest : List ℕ) → length b < 2 ^ 32 → length c < 2 ^ 32 → frame b ++ more ≡ frame c ++ rest → length b ≡ length c
heads b c more rest short less e =
    let whole : to_be_bytes w32 (length b) ++ (b ++ more) ≡ to_be_bytes w32 (length c) ++ (c ++ rest) =
    sym (append_assoc (to_be_bytes w32 (length b)) b more) ∙ (e ∙ append_assoc (to_be_bytes w32 (length c)) c rest) in
    let same : to_be_bytes w32 (length b) ≡ to_be_bytes w32 (length c) =
    sym (take_at (to_be_bytes w32 (length b)) (b ++ more) 4 refl) ∙ (ap (λ (l : List ℕ). take 4 l) whole ∙ take_at (to_be_bytes w32 (length c)) (c ++ rest) 4 refl) in
    sym (from_be_bytes-to_be_bytes_4 (length b) short) ∙ (ap (from_be_bytes w32) same ∙ from_be_bytes-to_be_bytes_4 (length c) less)

long_frame : (b : List ℕ) → length (frame b) ≡ 4 + length b
long_frame b = length-append (to_be_bytes w32 (length b)) b

body_of : (b : List ℕ) → drop 4 (frame b) ≡ b
body_of b = drop_at (to_be_bytes w32 (length b)) b 4 refl

two_frames : (b c more rest : List ℕ) → IsBody b → IsBody c → frame b ++ more ≡ frame c ++ rest → (b ≡ c) × (more ≡ rest)
two_frames b c more rest p q e =
    let long = heads b c more rest (omega (arith, p.1)) (omega (arith, q.1)) e in
    let same : length (frame b) ≡ length (frame c) = long_frame b ∙ (ap (λ n. 4 + n) long ∙ sym (long_frame c)) in
    let front : frame b ≡ frame c = sym (take_at (frame b) more (length (frame b)) refl) ∙ (ap (λ (l : List ℕ). take (length (frame b)) l) e ∙ take_at (frame c) rest (length (frame b)) (sym same)) in
    let back : more ≡ rest = sym (drop_at (frame b) more (length (frame b)) refl) ∙ (ap (λ (l : List ℕ). drop (length (frame b)) l) e ∙ drop_at (frame c) rest (length (frame b)) (sym same)) in
    (sym (body_of b) ∙ (ap (λ (l : List ℕ). drop 4 l) front ∙ body_of c), back)

-- what stands whole at the front of both
front_is : (xs rest left more : List ℕ) → length xs ≤ length rest → rest ++ left ≡ xs ++ more → rest ≡ xs ++ drop (length xs) rest
front_is xs rest left more le e =
    let front : take (length xs) rest ≡ xs = sym (take-append-le (length xs) rest left le) ∙ (ap (λ (l : List ℕ). take (length xs) l) e ∙ take_at xs more (length xs) refl) in
    sym (take-append-drop (length xs) rest) ∙ ap (λ l. l ++ drop (length xs) rest) front

-- ---- no frame stands where an orderly session stopped

whole_torn : (rest b tail : List ℕ) → IsTorn rest → IsBody b → rest ≡ frame b ++ tail → ⊥
whole_torn rest b tail (inl few) p e = absurd (omega (arith, few, ap length e, length-append (frame b) tail, long_frame b))
whole_torn rest b tail (inr f) p e =
    let both : frame b ++ (tail ++ f.more) ≡ frame f.body ++ [] = sym (append_assoc (frame b) tail f.more) ∙ (ap (λ l. l ++ f.more) (sym e) ∙ (f.whole ∙ sym (append-nil (frame f.body)))) in
    let none = (two_frames b f.body (tail ++ f.more) [] p f.is_body both).1 in
    absurd (omega (arith, f.some, ap length none, length-append tail f.more))

bad_length : (len : ℕ) (rest left b more : List ℕ) → len < 2 ^ 32 → HasBadLength len rest → IsBody b → rest ++ left ≡ frame b ++ more → ⊥
bad_length len rest left b more short bad p e =
    let whole : to_be_bytes w32 len ++ (bad.more ++ left) ≡ to_be_bytes w32 (length b) ++ (b ++ more) =
    sym (append_assoc (to_be_bytes w32 len) bad.more left) ∙ (ap (λ l. l ++ left) (sym bad.begins) ∙ (e ∙ append_assoc (to_be_bytes w32 (length b)) b more)) in
    let same : to_be_bytes w32 len ≡ to_be_bytes w32 (length b) =
    sym (take_at (to_be_bytes w32 len) (bad.more ++ left) 4 refl) ∙ (ap (λ (l : List ℕ). take 4 l) whole ∙ take_at (to_be_bytes w32 (length b)) (b ++ more) 4 refl) in
    let long : len ≡ length b = sym (from_be_bytes-to_be_bytes_4 len short) ∙ (ap (from_be_bytes w32) same ∙ from_be_bytes-to_be_bytes_4 (length b) (omega (arith, p.1))) in
    ⊎_elim (λ (z : len ≡ 0). absurd (omega (arith, z, long, p.0))) (λ (z : longest_body < len). absurd (omega (arith, z, long, p.1))) bad.bad

-- what is left behind the bytes taken, and how many these are, of `most` that may be taken
abbrev pub Halts : Ended → (taken most : ℕ) → (left : List ℕ) → Type 0
Halts ended.InputEnd taken most left = left ≡ []
Halts ended.TornFrame taken most left = left ≡ []
Halts ended.SessionTooLong taken most left = taken ≡ most
Halts other taken most left = ⊤

no_frame : (end : Ended) (base most : ℕ) (rest left b more : List ℕ) → IsOrderly end → Rest end [] rest → Halts end (base + length rest) most left → IsBody b → base + length (frame b) ≤ most → rest ++ left ≡ frame b ++ more → ⊥
no_frame ended.Bye base most rest left b more o r h p few e = absurd (omega (arith, ap length r.is, length-append r.before (r.last ∷ [])))
no_frame ended.InputEnd base most rest left b more o r h p few e = absurd (omega (arith, ap length r.1, ap length h, ap length e, length-append rest left, length-append (frame b) more, long_frame b))
no_frame ended.TornFrame base most rest left b more o r h p few e = whole_torn rest b more r.2 p (sym (append-nil rest) ∙ (ap (λ l. rest ++ l) (sym h) ∙ e))
no_frame (ended.FrameTooLong len) base most rest left b more o r h p few e = bad_length len rest left b more o r.1 p e
no_frame ended.SessionTooLong base most rest left b more o r h p few e =
    let le : length (frame b) ≤ length rest = omega (arith, h, few) in
    whole_torn rest b (drop (length (frame b)) rest) r.1 p (front_is (frame b) rest left more le e)
no_frame ended.ReadFault base most rest left b more o r h p few e = absurd o
no_frame ended.WriteFault base most rest left b more o r h p few e = absurd o
no_frame ended.Memory base most rest left b more o r h p few e = absurd o

-- ---- behind the first body

first : {A : Type 0} (P : A → Type 0) (x : A) (xs : List A) → All P (x ∷ xs) → P x
first P x xs p = p 0 x (omega arith)

later : {A : Type 0} (P : A → Type 0) (x : A) (xs : List A) → All P (x ∷ xs) → All P xs
later P x xs p = λ k d l. p (suc k) d (omega (arith, l))

-- a Bye is the last body; else the session goes on behind it
abbrev pub Onward : Ended → (b : List ℕ) (bs : List (List ℕ)) (rest : List ℕ) → Type 0
Onward end b bs rest = ((is_bye b ≡ true) × (bs ≡ [])) ⊎ ((is_bye b ≡ false) × Rest end bs rest)

none_on : (b : List ℕ) (bs : List (List ℕ)) → NoBye (b ∷ bs) → (is_bye b ≡ false) × NoBye bs
none_on b bs p = (first (λ b. is_bye b ≡ false) b bs p, later (λ b. is_bye b ≡ false) b bs p)

bye_on : (b : List ℕ) (bs before : List (List ℕ)) (last : List ℕ) → b ∷ bs ≡ before ++ last ∷ [] → is_bye last ≡ true → NoBye before → ((is_bye b ≡ true) × (bs ≡ [])) ⊎ ((is_bye b ≡ false) × LastBye bs)
bye_on b bs [] last e bye none = inl (ap is_bye (ap (λ l. head_or l b) e) ∙ bye, ap (λ l. drop 1 l) e)
  where
    head_or : List (List ℕ) → List ℕ → List ℕ
    head_or [] d = d
    head_or (x ∷ xs) d = x
bye_on b bs (x ∷ before) last e bye none = inr (ap is_bye (ap (λ l. head_or l b) e) ∙ (none_on x before none).0, record { before = before; last = last; is = ap (λ l. drop 1 l) e; bye = bye; none = (none_on x before none).1 })
  where
    head_or : List (List ℕ) → List ℕ → List ℕ
    head_or [] d = d
    head_or (x ∷ xs) d = x

onward : (end : Ended) (b : List ℕ) (bs : List (List ℕ)) (rest : List ℕ) → IsOrderly end → Rest end (b ∷ bs) rest → Onward end b bs rest
onward ended.Bye b bs rest o r = bye_on b bs r.before r.last r.is r.bye r.none
onward ended.InputEnd b bs rest o r = let n = none_on b bs r.0 in inr (n.0, (n.1, r.1))
onward ended.TornFrame b bs rest o r = let n = none_on b bs r.0 in inr (n.0, (n.1, r.1, r.2))
onward (ended.FrameTooLong len) b bs rest o r = let n = none_on b bs r.0 in inr (n.0, (n.1, r.1))
onward ended.SessionTooLong b bs rest o r = let n = none_on b bs r.0 in inr (n.0, (n.1, r.1))
onward ended.ReadFault b bs rest o r = absurd o
onward ended.WriteFault b bs rest o r = absurd o
onward ended.Memory b bs rest o r = absurd o

-- ---- all bodies

-- bytes cut so far that two sessions have in common, and how each goes on from there
pub record Cuts (end : Ended) (base most : ℕ) (bytes : List ℕ) (bodies : List (List ℕ)) : Type 0 where
  pub rest : List ℕ
  pub left : List ℕ
  pub orderly : IsOrderly end
  pub is : bytes ≡ (frames bodies ++ rest) ++ left
  pub each : All IsBody bodies
  pub ends : Rest end bodies rest
  pub few : base + length (frames bodies ++ rest) ≤ most
  pub halts : Halts end (base + length (frames bodies ++ rest)) most left

-- the bytes behind the first frame
behind : (b : List ℕ) (bs : List (List ℕ)) (rest left : List ℕ) → (frames (b ∷ bs) ++ rest) ++ left ≡ frame b ++ ((frames bs ++ rest) ++ left)
behind b bs rest left = ap (λ l. l ++ left) (append_assoc (frame b) (frames bs) rest) ∙ append_assoc (frame b) (frames bs ++ rest) left

long_behind : (b : List ℕ) (bs : List (List ℕ)) (rest : List ℕ) → length (frames (b ∷ bs) ++ rest) ≡ length (frame b) + length (frames bs ++ rest)
long_behind b bs rest = ap length (append_assoc (frame b) (frames bs) rest) ∙ length-append (frame b) (frames bs ++ rest)

stops : {end end' : Ended} {base most : ℕ} {bytes : List ℕ} (b : List ℕ) (bs : List (List ℕ)) → Cuts end base most bytes [] → Cuts end' base most bytes (b ∷ bs) → ⊥
stops {end} {end'} {base} {most} {bytes} b bs p q =
    no_frame end base most p.rest p.left b ((frames bs ++ q.rest) ++ q.left) p.orderly p.ends p.halts (first IsBody b bs q.each)
    (omega (arith, q.few, long_behind b bs q.rest)) (sym p.is ∙ (q.is ∙ behind b bs q.rest q.left))

halts_on : (end : Ended) (n k most : ℕ) (left : List ℕ) → n ≡ k → Halts end n most left → Halts end k most left
halts_on end n k most left e h = subst (λ n. Halts end n most left) e h

cut_on : {end : Ended} {base most : ℕ} {bytes : List ℕ} (b : List ℕ) (bs : List (List ℕ)) (q : Cuts end base most bytes (b ∷ bs)) → Rest end bs q.rest → Cuts end (base + length (frame b)) most ((frames bs ++ q.rest) ++ q.left) bs
cut_on {end} {base} {most} {bytes} b bs q r =
    let long = long_behind b bs q.rest in
    record {
      rest = q.rest;
      left = q.left;
      orderly = q.orderly;
      is = refl;
      each = later IsBody b bs q.each;
      ends = r;
      few = omega (arith, q.few, long);
      halts = halts_on end (base + length (frames (b ∷ bs) ++ q.rest)) (base + length (frame b) + length (frames bs ++ q.rest)) most q.left (omega (arith, long)) q.halts;
    }

both : {end end' : Ended} {base most : ℕ} {bytes : List ℕ} (b c : List ℕ) (bs cs : List (List ℕ)) → (p : Cuts end base most bytes (b ∷ bs)) → (q : Cuts end' base most bytes (c ∷ cs)) → (b ≡ c) × ((frames bs ++ p.rest) ++ p.left ≡ (frames cs ++ q.rest) ++ q.left)
both {end} {end'} {base} {most} {bytes} b c bs cs p q =
    two_frames b c ((frames bs ++ p.rest) ++ p.left) ((frames cs ++ q.rest) ++ q.left) (first IsBody b bs p.each) (first IsBody c cs q.each)
    (sym (behind b bs p.rest p.left) ∙ (sym p.is ∙ (q.is ∙ behind c cs q.rest q.left)))

differ : {A : Type 0} (x : Bool) → x ≡ true → x ≡ false → A
differ true p q = absurd (cc)
differ false p q = absurd (cc)

pub one_cut : (end end' : Ended) (base most : ℕ) (bytes : List ℕ) (bodies others : List (List ℕ)) → Cuts end base most bytes bodies → Cuts end' base most bytes others → bodies ≡ others
one_cut end end' base most bytes [] [] p q = refl
one_cut end end' base most bytes [] (c ∷ cs) p q = absurd (stops c cs p q)
one_cut end end' base most bytes (b ∷ bs) [] p q = absurd (stops b bs q p)
one_cut end end' base most bytes (b ∷ bs) (c ∷ cs) p q =
    let same = both b c bs cs p q in
    ⊎_elim
    (λ (x : (is_bye b ≡ true) × (bs ≡ [])). ⊎_elim
    (λ (y : (is_bye c ≡ true) × (cs ≡ [])). ap (λ l. l ∷ bs) same.0 ∙ ap (λ l. c ∷ l) (x.1 ∙ sym y.1))
    (λ (y : (is_bye c ≡ false) × Rest end' cs q.rest). differ (is_bye c) (sym (ap is_bye same.0) ∙ x.0) y.0)
    (onward end' c cs q.rest q.orderly q.ends))
    (λ (x : (is_bye b ≡ false) × Rest end bs p.rest). ⊎_elim
    (λ (y : (is_bye c ≡ true) × (cs ≡ [])). differ (is_bye c) y.0 (sym (ap is_bye same.0) ∙ x.0))
    (λ (y : (is_bye c ≡ false) × Rest end' cs q.rest).
    ap (λ l. l ∷ bs) same.0 ∙ ap (λ l. c ∷ l)
    (one_cut end end' (base + length (frame b)) most ((frames bs ++ p.rest) ++ p.left) bs cs
    (cut_on b bs p x.1)
    (subst (λ (bytes : List ℕ). Cuts end' (base + length (frame b)) most bytes cs) (sym same.1)
    (subst (λ (n : ℕ). Cuts end' (base + n) most ((frames cs ++ q.rest) ++ q.left) cs) (ap (λ b. length (frame b)) (sym same.0)) (cut_on c cs q y.1)))))
    (onward end' c cs q.rest q.orderly q.ends))
    (onward end b bs p.rest p.orderly p.ends)
