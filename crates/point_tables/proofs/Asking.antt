-- Questions that stand for rules.
use Rattle.std.proofs.Common.{◌≡◌, ℤ, ◌≤ℤ◌, ℕ, ◌-◌, ◌^◌, ◌<◌, ◌≤◌, nat_eq, bit_and, List, [], ◌∷◌, ◌++◌, length, get_or, Bool, true, false, Some, None, inl, inr, refl, ap, sym, subst, ◌∙◌, arith, length-append}
use Rattle.std.specs.Prelude.{slice_get, bit_xor}
use mathlib.Core.Bool.{◌||◌}
use Rattle.std.proofs.lemmas.Bool.{cases_lt}
use Rattle.std.proofs.lemmas.Option.{cond_some, slice_get_within}
use Rattle.cov_base.specs.Sets.{written, is_in, is_within}
use Rattle.cov_base.proofs.Members.{is_in-written}
use Rattle.cov_base.specs.Types.{lowest, highest}
use Rattle.wildcard_bins.specs.declared.pattern.Pattern.{Pattern}
use Rattle.wildcard_bins.specs.Patterns.{bits_of, agrees}
use Rattle.wildcard_bins.proofs.Agreement.{matched}
use Rattle.const_eval.specs.Typs.{Typ}
use Rattle.design_data.specs.declared.infos.BinInfo.{BinInfo}
use Rattle.design_data.specs.declared.infos.BinRule.{BinRule}
use Rattle.design_data.specs.declared.infos.BinRule.TheVariants.{Values, Patterns}
use Rattle.design_data.specs.Laws.{Value}
use Rattle.point_tables.specs.declared.tables.Question.{Question}
use Rattle.point_tables.specs.declared.tables.Question.TheVariants.{Bits}
use Rattle.point_tables.specs.Tables.{has_value, IsWordOf, IsQuestionOf, AreQuestions}
use Rattle.point_tables.proofs.Bins.{same_bin, slice_get_left, slice_get_last}

alone : (b : Bool) → b ≡ (b || false)
alone true = refl
alone false = refl

-- ---- a question of each rule

-- bits are compared as those of the pattern
pub asked_by_bits : (p : Pattern) (w : ℕ) (s : Bool) (bins : List BinInfo) (v : ℤ) (word : ℕ) → p.width ≡ w → p.signed ≡ s → w ≤ 64 → p.free < 2 ^ 64
    → lowest w s ≤ℤ v → v ≤ℤ highest w s → word ≡ bits_of w v
    → nat_eq (bit_and (bit_xor word p.bits) (bit_and (18446744073709551615 - p.free) (2 ^ w - 1))) 0 ≡ has_value bins (Some v) (Patterns (p ∷ []))
asked_by_bits p w s bins v word same_width same_sign wide free =
    subst (λ (t : Bool). lowest w t ≤ℤ v → v ≤ℤ highest w t → word ≡ bits_of w v
    → nat_eq (bit_and (bit_xor word p.bits) (bit_and (18446744073709551615 - p.free) (2 ^ w - 1))) 0 ≡ has_value bins (Some v) (Patterns (p ∷ []))) same_sign
    (subst (λ (n : ℕ). n ≤ 64 → lowest n p.signed ≤ℤ v → v ≤ℤ highest n p.signed → word ≡ bits_of n v
    → nat_eq (bit_and (bit_xor word p.bits) (bit_and (18446744073709551615 - p.free) (2 ^ n - 1))) 0 ≡ has_value bins (Some v) (Patterns (p ∷ []))) same_width
    (λ most low high is. matched p v word most free low high is ∙ alone (agrees p v)) wide)

-- a set of one range
pub asked_by_range : (set ranges : List (ℤ × ℤ)) (d other : ℤ × ℤ) (bins : List BinInfo) (v : ℤ) → ranges ≡ set → length ranges ≡ 1
    → is_within v ((get_or ranges 0 d).0, (get_or ranges 0 other).1) ≡ has_value bins (Some v) (Values set)
asked_by_range set [] d other bins v e one = absurd (omega (arith, one))
asked_by_range set (range ∷ []) d other bins v e one = alone (is_within v range) ∙ sym (sym (ap (λ (rs : List (ℤ × ℤ)). is_in (written rs) v) e) ∙ is_in-written (range ∷ []) v)
asked_by_range set (range ∷ next ∷ ranges) d other bins v e one = absurd (omega (arith, one))

-- ---- what is answered

pub bits_answer : (typ : Typ) (rule : BinRule) (bins : List BinInfo) (fixed bits word : ℕ) (value : Value) → IsQuestionOf typ rule (Bits fixed bits) → IsWordOf typ value word
    → nat_eq (bit_and (bit_xor word bits) fixed) 0 ≡ has_value bins value rule
bits_answer typ rule bins fixed bits word None asks is = absurd is
bits_answer typ rule bins fixed bits word (Some v) asks is = asks bins v word is

-- ---- a question for each bin

pub none_asked : (typ : Typ) (bins : List BinInfo) → AreQuestions typ bins []
none_asked typ bins = λ place bin question is_bin is_question. let lt : place < length {A = Question} [] = slice_get_within [] place question is_question in absurd (omega (arith, lt))

pub asked_more : (typ : Typ) (bins : List BinInfo) (list : List Question) (bin : BinInfo) (question : Question) → slice_get bins (length list) ≡ Some bin → IsQuestionOf typ bin.rule question → AreQuestions typ bins list
    → AreQuestions typ bins (list ++ question ∷ [])
asked_more typ bins list bin question is here h = λ place b q is_b is_q. elim (cases_lt place (length list)) [
  | inl lower ↦ h place b q is_b (sym (slice_get_left list (question ∷ []) place lower) ∙ is_q)
  | inr past ↦
      let lt : place < length (list ++ question ∷ []) = slice_get_within (list ++ question ∷ []) place q is_q in
      let last : length list ≡ place = omega (arith, past, lt, length-append list (question ∷ [])) in
      let same_question : question ≡ q = (cond_some true question q (sym (slice_get_last list question) ∙ ap (λ (k : ℕ). slice_get (list ++ question ∷ []) k) last ∙ is_q)).1 in
      let same : bin ≡ b = same_bin bins (length list) bin b is (ap (λ (k : ℕ). slice_get bins k) last ∙ is_b) in
      subst (λ (x : BinInfo). IsQuestionOf typ x.rule q) same (subst (λ (x : Question). IsQuestionOf typ bin.rule x) same_question here)
]
