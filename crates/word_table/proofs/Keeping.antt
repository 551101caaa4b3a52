-- The last values of a trace, kept.
use Rattle.std.proofs.Common.{◌≡◌, ◌↔◌, ℕ, ◌+◌, ◌-◌, ◌<◌, ◌≤◌, ℤ, List, [], ◌∷◌, ◌++◌, length, drop, get_or, Option, None, refl, ap, sym, ◌∙◌, inl, inr, arith, length-append, length-drop, drop-drop}
use Rattle.std.proofs.lemmas.List.{drop-append-le, get_or-drop}
use Rattle.word_table.specs.Words.{back, Ends}
use Rattle.word_table.specs.Recent.{longest, AreLast}

pub none_last : AreLast [] []
none_last = record { fits = omega arith; same = refl; enough = inl refl }

pub last_itself : (kept : List (Option ℤ)) → AreLast kept kept
last_itself kept = record { fits = omega arith; same = ap (λ (n : ℕ). drop n kept) (let zero : length kept - length kept ≡ 0 = omega arith in zero); enough = inl refl }

-- one more value
pub last_more : (kept w : List (Option ℤ)) (v : Option ℤ) → AreLast kept w → AreLast (kept ++ v ∷ []) (w ++ v ∷ [])
last_more kept w v h =
    let a = length-append kept (v ∷ []) in
    let b = length-append w (v ∷ []) in
    let fits : length kept ≤ length w = h.fits in
    let e : length (w ++ v ∷ []) - length (kept ++ v ∷ []) ≡ length w - length kept = omega (arith, a, b, fits) in
    record {
      fits = omega (arith, a, b, fits);
      same = ap (λ (n : ℕ). drop n (w ++ v ∷ [])) e ∙ drop-append-le (length w - length kept) w (v ∷ []) (omega arith) ∙ ap (λ (xs : List (Option ℤ)). xs ++ v ∷ []) h.same;
      enough = elim h.enough [ inl all ↦ inl (omega (arith, a, b, all)) | inr many ↦ inr (omega (arith, a, many)) ];
    }

-- the earlier ones go
pub last_few : (kept w : List (Option ℤ)) (n : ℕ) → longest ≤ length kept - n → AreLast kept w → AreLast (drop n kept) w
last_few kept w n many h =
    let fits : length kept ≤ length w = h.fits in
    let len = length-drop n kept in
    let e : length w - length (drop n kept) ≡ (length w - length kept) + n = omega (arith, len, fits, many) in
    record {
      fits = omega (arith, len, fits);
      same = ap (λ (m : ℕ). drop m w) e ∙ sym (drop-drop n (length w - length kept) w) ∙ ap (drop n) h.same;
      enough = inr (omega (arith, len, many));
    }

-- ---- the trace ends with a word where the last values do

module _ (kept w : List (Option ℤ)) (h : AreLast kept w) where
  back_same : (e : ℕ) → e < length kept → back kept e ≡ back w e
  back_same e lt =
      let fits : length kept ≤ length w = h.fits in
      let at : (length w - length kept) + (length kept - 1 - e) ≡ length w - 1 - e = omega (arith, lt, fits) in
      ap (λ (xs : List (Option ℤ)). get_or xs (length kept - 1 - e) None) (sym h.same) ∙ get_or-drop (length w - length kept) w (length kept - 1 - e) None ∙ ap (λ (n : ℕ). get_or w n None) at

  pub ends_last : (word : List ℤ) → length word ≤ longest → Ends word kept ↔ Ends word w
  ends_last word short = (
    (λ a. let long : length word ≤ length kept = a.long in record {
      long = omega (arith, long, h.fits);
      longer = omega arith;
      at = λ e lt. sym (back_same e (omega (arith, lt, long))) ∙ a.at e lt;
    }),
    (λ a.
        let long : length word ≤ length w = a.long in
        let enough : length word ≤ length kept = elim h.enough [ inl all ↦ omega (arith, long, all) | inr many ↦ omega (arith, short, many) ] in
        record {
          long = enough;
          longer = omega arith;
          at = λ e lt. back_same e (omega (arith, lt, enough)) ∙ a.at e lt;
        }),
  )
