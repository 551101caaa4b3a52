-- Kinds that may be operators of an expression.
use Rattle.std.proofs.Common.{◌≡◌, ℕ, zero, suc, List, [], ◌∷◌, Bool, true, false, ◌&&◌, ◌||◌, ◌<◌, inl, inr, not, nat_le, eqb, refl, sym, subst, ◌∙◌, ap, arith, Option, Some, None}
use Rattle.std.proofs.lemmas.Bool.{cases_Bool, eqb-true, eqb-false, and_parts, or_cases}
use Rattle.cov_lexer.specs.declared.kind.Kind.{Kind}
use Rattle.cov_lexer.specs.declared.kind.Kind.TheVariants.{Ident, PlusSign, SignedRight}
use Rattle.cov_grammar.specs.declared.marked.Marked.{Marked}
use Rattle.cov_lexer.specs.Kinds.{code, has, has_code}
use Rattle.cov_grammar.specs.Rule.{In}
use Rattle.cov_grammar.specs.Operators.{unary_kinds, level_kinds}
use Rattle.expr_parser.specs.Operating.{operates, all_operate, AllOperate, KindAt, level_of}

abbrev between : ℕ → Bool
between n = nat_le (code PlusSign) n && nat_le n (code SignedRight)

code_operates : (ks : List Kind) (n : ℕ) → AllOperate ks → has_code n ks ≡ true → between n ≡ true
code_operates [] n a h = absurd (cc)
code_operates (k ∷ ks) n a h =
    let p = and_parts (operates k) (all_operate ks) a in
    elim (or_cases (eqb n (code k)) (has_code n ks) h) [
      | inl e ↦ subst (λ q. between q ≡ true) (sym (eqb-true n (code k) e)) p.0
      | inr r ↦ code_operates ks n p.1 r
    ]

pub one_operates : (ks : List Kind) (k : Kind) → AllOperate ks → has k ks ≡ true → operates k ≡ true
one_operates ks k a h = code_operates ks (code k) a h

pub levels_operate : (l : ℕ) → AllOperate (level_kinds l)
levels_operate zero = refl
levels_operate (suc zero) = refl
levels_operate (suc (suc zero)) = refl
levels_operate (suc (suc (suc zero))) = refl
levels_operate (suc (suc (suc (suc zero)))) = refl
levels_operate (suc (suc (suc (suc (suc zero))))) = refl
levels_operate (suc (suc (suc (suc (suc (suc zero)))))) = refl
levels_operate (suc (suc (suc (suc (suc (suc (suc zero))))))) = refl
levels_operate (suc (suc (suc (suc (suc (suc (suc (suc zero)))))))) = refl
levels_operate (suc (suc (suc (suc (suc (suc (suc (suc (suc zero))))))))) = refl
levels_operate (suc (suc (suc (suc (suc (suc (suc (suc (suc (suc n)))))))))) = refl

pub unary_operate : AllOperate unary_kinds
unary_operate = refl

-- a token of this kind is of others only where the kind is
pub same_kind : (ts : List Marked) (i : ℕ) (k : Kind) (ks : List Kind) → KindAt ts i k → In ts i ks → has k ks ≡ true
same_kind ts i k ks at is =
    let same : at.token ≡ is.token = (let a = at.stands in let b = is.stands in cc) in
    subst (λ q. has q ks ≡ true) at.is (subst (λ t. has t.kind ks ≡ true) (sym same) is.of)

-- levels

abbrev tells : Option ℕ → ℕ → Bool
tells None n = false
tells (Some m) n = eqb m n

-- of the first n levels, the kind is in that one at most
abbrev only_in : Kind → Option ℕ → ℕ → Bool
only_in k level zero = true
only_in k level (suc n) = (tells level n || not (has k (level_kinds n))) && only_in k level n

only_in_ten : (k : Kind) → only_in k (level_of k) 10 ≡ true
only_in_ten Ident = refl
only_in_ten k = refl

told : (level : Option ℕ) (n : ℕ) → tells level n ≡ true → level ≡ Some n
told None n h = absurd (cc)
told (Some m) n h = ap (λ q. Some q) (eqb-true m n h)

in_one : (k : Kind) (level : Option ℕ) (n l : ℕ) → only_in k level n ≡ true → l < n → has k (level_kinds l) ≡ true → level ≡ Some l
in_one k level zero l h less is = absurd (omega arith)
in_one k level (suc n) l h less is =
    let p = and_parts (tells level n || not (has k (level_kinds n))) (only_in k level n) h in
    elim (cases_Bool (eqb l n)) [
      | inl e ↦ (let same = eqb-true l n e in elim (or_cases (tells level n) (not (has k (level_kinds n))) p.0) [
        | inl t ↦ told level n t ∙ ap (λ q. Some q) (sym same)
        | inr other ↦ absurd (let here = subst (λ q. has k (level_kinds q) ≡ true) same is in let z = rw here at other in cc)
      ])
      | inr e ↦ (let apart = eqb-false l n e in in_one k level n l p.1 (omega arith) is)
    ]

only_level : (k : Kind) (l : ℕ) → has k (level_kinds l) ≡ true → level_of k ≡ Some l
only_level k zero is = in_one k (level_of k) 10 0 (only_in_ten k) (omega arith) is
only_level k (suc zero) is = in_one k (level_of k) 10 1 (only_in_ten k) (omega arith) is
only_level k (suc (suc zero)) is = in_one k (level_of k) 10 2 (only_in_ten k) (omega arith) is
only_level k (suc (suc (suc zero))) is = in_one k (level_of k) 10 3 (only_in_ten k) (omega arith) is
only_level k (suc (suc (suc (suc zero)))) is = in_one k (level_of k) 10 4 (only_in_ten k) (omega arith) is
only_level k (suc (suc (suc (suc (suc zero))))) is = in_one k (level_of k) 10 5 (only_in_ten k) (omega arith) is
only_level k (suc (suc (suc (suc (suc (suc zero)))))) is = in_one k (level_of k) 10 6 (only_in_ten k) (omega arith) is
only_level k (suc (suc (suc (suc (suc (suc (suc zero))))))) is = in_one k (level_of k) 10 7 (only_in_ten k) (omega arith) is
only_level k (suc (suc (suc (suc (suc (suc (suc (suc zero)))))))) is = in_one k (level_of k) 10 8 (only_in_ten k) (omega arith) is
only_level k (suc (suc (suc (suc (suc (suc (suc (suc (suc zero))))))))) is = in_one k (level_of k) 10 9 (only_in_ten k) (omega arith) is
only_level k (suc (suc (suc (suc (suc (suc (suc (suc (suc (suc n)))))))))) is = absurd (cc)

-- a token of a level's kinds tells the level
pub level_here : (ts : List Marked) (i l : ℕ) (k : Kind) → KindAt ts i k → In ts i (level_kinds l) → level_of k ≡ Some l
level_here ts i l k at is = only_level k l (same_kind ts i k (level_kinds l) at is)
