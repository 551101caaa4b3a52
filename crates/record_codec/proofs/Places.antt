-- Where the faults of a whole record stand.
use Rattle.std.proofs.Common.{◌≡◌, ℕ, ◌+◌, ◌-◌, ◌<◌, Bool, false, cond, eqb, List, [], ◌∷◌, ◌++◌, length, take, drop, Result, Ok, Err, refl, sym, ap, subst, ◌∙◌, append_assoc, arith, length-append}
use Rattle.std.specs.Prelude.{IfSome}
use Rattle.std.proofs.lemmas.Bool.{ne_eqb}
use Rattle.std.proofs.lemmas.List.{take_at, take-append-drop, append-nil, length-drop}
use Rattle.record_codec.specs.declared.fault.Fault.{Fault}
use Rattle.record_codec.specs.declared.fault.Fault.TheVariants.{Short, BadMagic, BadVersion, BadField, TooManyEvents, Trailing, Memory}
use Rattle.record_codec.specs.declared.fault.RecordFault.{RecordFault}
use Rattle.record_codec.specs.declared.fault.RecordFault.TheVariants as refusals
use Rattle.record_codec.specs.declared.record.Record.{Record}
use Rattle.record_codec.specs.declared.record.Fields.{Fields}
use Rattle.record_codec.specs.Spelling.{spelling, fields_of}
use Rattle.record_codec.specs.Reading.{◌>>=◌, record_at, whole, told, from_front, reading, HasFault}
use Rattle.record_codec.specs.Laws.{place_of, IsCut, IsFieldEnd, IsDecided, IsDecidedEarly, IsNoCut}
use Rattle.record_codec.proofs.Readers.{ok_is}
use Rattle.record_codec.proofs.RecordLaws.{of_any_length, front_again}
use Rattle.record_codec.proofs.Local.{moved, IsMended, IsLasting, first, later, bind_err}
use Rattle.record_codec.proofs.LocalFields.{record_local}

abbrev ends_there : Fields × List ℕ → Result Fields Fault
ends_there r = cond (eqb (length r.1) 0) (Ok r.0) (Err (Trailing (length r.1)))

whole_is : (bytes : List ℕ) → whole bytes ≡ (record_at bytes >>= ends_there)
unfolding whole
whole_is bytes = refl

reading_is : (bytes : List ℕ) (d : Fault) → whole bytes ≡ Err d → HasFault bytes (told (length bytes) d)
unfolding reading
reading_is bytes d e = ap (from_front (length bytes)) e

spelled_and : (r : Record) (more : List ℕ) → record_at (spelling r ++ more) ≡ Ok (fields_of r, more)
spelled_and r more = front_again (fields_of r) more (of_any_length (fields_of r) r.within)

-- ---- bytes behind a record

ends_behind : (made : Fields) (byte : ℕ) (more : List ℕ) → ends_there (made, byte ∷ more) ≡ Err (Trailing (1 + length more))
ends_behind made byte more =
    let differs : eqb (length (byte ∷ more)) 0 ≡ false = ne_eqb (length (byte ∷ more)) 0 (λ e. absurd (omega (arith, e))) in
    let one : length (byte ∷ more) ≡ 1 + length more = omega arith in
    ap (λ (b : Bool). cond b (Ok made) (Err (Trailing (length (byte ∷ more))))) differs ∙ ap (λ (l : ℕ). Err (Trailing l)) one

pub trailing : (r : Record) (byte : ℕ) (more : List ℕ) → HasFault (spelling r ++ byte ∷ more) (refusals.Trailing (length (spelling r)))
trailing r byte more =
    let bytes : List ℕ = spelling r ++ byte ∷ more in
    let e : whole bytes ≡ Err (Trailing (1 + length more)) = whole_is bytes ∙ ap (λ (x : Result (Fields × List ℕ) Fault). x >>= ends_there) (spelled_and r (byte ∷ more)) ∙ ends_behind (fields_of r) byte more in
    let place : length bytes - (1 + length more) ≡ length (spelling r) = omega (arith, length-append (spelling r) (byte ∷ more)) in
    subst (λ (at : ℕ). HasFault bytes (refusals.Trailing at)) place (reading_is bytes (Trailing (1 + length more)) e)

-- ---- fronts of a record

module _ (f : Fields) (bytes more : List ℕ) (some : 0 < length more) (read : record_at (bytes ++ more) ≡ Ok (f, [])) where
  not_whole : (x : Fields × List ℕ) → record_at bytes ≡ Ok x → ⊥
  not_whole x e =
      let p = record_local.took bytes x e in
      let all : bytes ++ more ≡ p.front ++ (x.1 ++ more) = ap (λ (l : List ℕ). l ++ more) p.parts ∙ append_assoc p.front x.1 more in
      let same : ◌≡◌ {A = Result (Fields × List ℕ) Fault} (Ok (x.0, x.1 ++ more)) (Ok (f, [])) = sym (p.same (x.1 ++ more)) ∙ ap record_at (sym all) ∙ read in
      let none : x.1 ++ more ≡ [] = ap (λ (y : Fields × List ℕ). y.1) (ok_is (x.0, x.1 ++ more) (f, []) same) in
      absurd (omega (arith, ap length none, length-append x.1 more, some))

  not_refused : (d : Fault) → record_at bytes ≡ Err d → (IsMended d → ⊥) → ⊥
  not_refused d e lasts =
      let p = record_local.refused bytes d e lasts in
      let all : bytes ++ more ≡ p.front ++ (p.behind ++ more) = ap (λ (l : List ℕ). l ++ more) p.parts ∙ append_assoc p.front p.behind more in
      let same : ◌≡◌ {A = Result (Fields × List ℕ) Fault} (Err (moved (length (p.behind ++ more)) p.fault)) (Ok (f, [])) = sym (p.same (p.behind ++ more)) ∙ ap record_at (sym all) ∙ read in
      cc

  cut_by : (x : Result (Fields × List ℕ) Fault) → record_at bytes ≡ x → IsCut bytes
  cut_by (Ok x) e = absurd (not_whole x e)
  cut_by (Err (Short left)) e =
      let w : whole bytes ≡ Err (Short left) = whole_is bytes ∙ ap (λ (y : Result (Fields × List ℕ) Fault). y >>= ends_there) e in
      (length bytes - left, omega arith, reading_is bytes (Short left) w)
  cut_by (Err BadMagic) e = absurd (not_refused BadMagic e (λ h. h))
  cut_by (Err (BadVersion version)) e = absurd (not_refused (BadVersion version) e (λ h. h))
  cut_by (Err (BadField left)) e = absurd (not_refused (BadField left) e (λ h. h))
  cut_by (Err (TooManyEvents count)) e = absurd (not_refused (TooManyEvents count) e (λ h. h))
  cut_by (Err (Trailing left)) e = absurd (not_refused (Trailing left) e (λ h. h))
  cut_by (Err Memory) e = absurd (not_refused Memory e (λ h. h))

  pub is_cut : IsCut bytes
  is_cut = cut_by (record_at bytes) refl

pub front_is_cut : (r : Record) (n : ℕ) → n < length (spelling r) → IsCut (take n (spelling r))
front_is_cut r n lt =
    let s : List ℕ = spelling r in
    let read : record_at (take n s ++ drop n s) ≡ Ok (fields_of r, []) = ap record_at (take-append-drop n s ∙ sym (append-nil s)) ∙ spelled_and r [] in
    is_cut (fields_of r) (take n s) (drop n s) (omega (arith, length-drop n s, lt)) read

-- ---- the bytes that decide

pub record Decides (bytes : List ℕ) (d : Fault) : Type 0 where
  pub front : List ℕ
  pub behind : List ℕ
  pub parts : bytes ≡ front ++ behind
  pub fault : Fault
  pub is : d ≡ moved (length behind) fault
  pub lasting : IsLasting (length front) fault
  pub same : (more : List ℕ) → whole (front ++ more) ≡ Err (moved (length more) fault)

trailing_decides : (bytes : List ℕ) (d : Fault) (made : Fields) (rest : List ℕ) → record_at bytes ≡ Ok (made, rest) → ends_there (made, rest) ≡ Err d → Decides bytes d
trailing_decides bytes d made [] e k = absurd cc
trailing_decides bytes d made (byte ∷ rest) e k =
    let p = record_local.took bytes (made, byte ∷ rest) e in
    let same : ◌≡◌ {A = Result Fields Fault} (Err (Trailing (1 + length rest))) (Err d) = sym (ends_behind made byte rest) ∙ k in
    let is : Trailing (1 + length rest) ≡ d = cc in
    record {
      front = p.front ++ byte ∷ [];
      behind = rest;
      parts = p.parts ∙ sym (append_assoc p.front (byte ∷ []) rest);
      fault = Trailing 1;
      is = sym is;
      lasting = (omega arith, omega arith, omega (arith, length-append p.front (byte ∷ [])));
      same = λ more.
          let read : record_at ((p.front ++ byte ∷ []) ++ more) ≡ Ok (made, byte ∷ more) = ap record_at (append_assoc p.front (byte ∷ []) more) ∙ p.same (byte ∷ more) in
          whole_is ((p.front ++ byte ∷ []) ++ more) ∙ ap (λ (y : Result (Fields × List ℕ) Fault). y >>= ends_there) read ∙ ends_behind made byte more;
    }

decides : (bytes : List ℕ) (d : Fault) → whole bytes ≡ Err d → (IsMended d → ⊥) → Decides bytes d
decides bytes d e lasts = elim (bind_err (record_at bytes) ends_there d (sym (whole_is bytes) ∙ e)) [
  | first h ↦
      let p = record_local.refused bytes d h lasts in
      record {
        front = p.front;
        behind = p.behind;
        parts = p.parts;
        fault = p.fault;
        is = p.is;
        lasting = p.lasting;
        same = λ more. whole_is (p.front ++ more) ∙ ap (λ (y : Result (Fields × List ℕ) Fault). y >>= ends_there) (p.same more);
      }
  | later x h k ↦ trailing_decides bytes d x.0 x.1 h k
]

told_same : (long n : ℕ) (f : Fault) → IsLasting long f → told (long + n) (moved n f) ≡ told long f
told_same long n (Short left) h = absurd h
told_same long n BadMagic h = refl
told_same long n (BadVersion version) h = refl
told_same long n (BadField left) h = let e : long + n - (left + n) ≡ long - left = omega arith in ap refusals.BadField e
told_same long n (TooManyEvents count) h = refl
told_same long n (Trailing left) h = let e : long + n - (left + n) ≡ long - left = omega arith in ap refusals.Trailing e
told_same long n Memory h = refl

near : (long : ℕ) (f : Fault) → IsLasting long f → IfSome (place_of (told long f)) (IsFieldEnd long)
near long (Short left) h = absurd h
near long BadMagic h = tt
near long (BadVersion version) h = tt
near long (BadField left) h = (omega (arith, h.0, h.2), omega (arith, h.1))
near long (TooManyEvents count) h = tt
near long (Trailing left) h = (omega (arith, h.0, h.2), omega (arith, h.1))
near long Memory h = tt

decided : (bytes : List ℕ) (d : Fault) → Decides bytes d → IsDecidedEarly bytes (told (length bytes) d)
decided bytes d p =
    let end : ℕ = length p.front in
    let total : length bytes ≡ end + length p.behind = ap length p.parts ∙ length-append p.front p.behind in
    let fault : told (length bytes) d ≡ told end p.fault = ap (λ (n : ℕ). told n d) total ∙ ap (told (end + length p.behind)) p.is ∙ told_same end (length p.behind) p.fault p.lasting in
    let begins : take end bytes ≡ p.front = ap (take end) p.parts ∙ take_at p.front p.behind end refl in
    let found : IsDecided bytes (told end p.fault) end = record {
      within = omega (arith, total);
      near = near end p.fault p.lasting;
      same = λ more.
          let long : length (p.front ++ more) ≡ end + length more = length-append p.front more in
          let has : HasFault (p.front ++ more) (told (length (p.front ++ more)) (moved (length more) p.fault)) = reading_is (p.front ++ more) (moved (length more) p.fault) (p.same more) in
          let is : told (length (p.front ++ more)) (moved (length more) p.fault) ≡ told end p.fault = ap (λ (n : ℕ). told n (moved (length more) p.fault)) long ∙ told_same end (length more) p.fault p.lasting in
          subst (λ (l : List ℕ). HasFault (l ++ more) (told end p.fault)) (sym begins) (subst (HasFault (p.front ++ more)) is has);
    } in
    subst (IsDecidedEarly bytes) (sym fault) (end, found)

-- the fault that reading answers, as it is told
by_whole : (bytes : List ℕ) (fault : RecordFault) (read : Result Fields Fault) → whole bytes ≡ read → from_front (length bytes) read ≡ Err fault → (d : Fault) × (whole bytes ≡ Err d) × (told (length bytes) d ≡ fault)
by_whole bytes fault (Ok x) w e = absurd cc
by_whole bytes fault (Err d) w e = (d, w, cc)

found_fault : (bytes : List ℕ) (fault : RecordFault) → HasFault bytes fault → (d : Fault) × (whole bytes ≡ Err d) × (told (length bytes) d ≡ fault)
unfolding reading
found_fault bytes fault e = by_whole bytes fault (whole bytes) refl e

not_mended : (total : ℕ) (d : Fault) (fault : RecordFault) → told total d ≡ fault → IsNoCut fault → IsMended d → ⊥
not_mended total (Short left) fault e lasts h = lasts (total - left) (sym e)
not_mended total BadMagic fault e lasts h = h
not_mended total (BadVersion version) fault e lasts h = h
not_mended total (BadField left) fault e lasts h = h
not_mended total (TooManyEvents count) fault e lasts h = h
not_mended total (Trailing left) fault e lasts h = h
not_mended total Memory fault e lasts h = h

pub is_decided : (bytes : List ℕ) (fault : RecordFault) → HasFault bytes fault → IsNoCut fault → IsDecidedEarly bytes fault
is_decided bytes fault e lasts =
    let f = found_fault bytes fault e in
    subst (IsDecidedEarly bytes) f.2 (decided bytes f.0 (decides bytes f.0 f.1 (not_mended (length bytes) f.0 fault f.2 lasts)))
