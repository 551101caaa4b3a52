-- The sets of the rules of expressions, and that each keeps its facts.
use Rattle.std.proofs.Common.{◌≡◌, ℕ, zero, suc, ◌≤◌, List, [], ◌∷◌, ◌++◌, true, false, refl, arith}
use Rattle.cov_lexer.specs.declared.kind.Kind.{Kind}
use Rattle.cov_lexer.specs.declared.kind.Kind.TheVariants.{Ident, Numeral, OpenParen, CloseParen, CloseSquare, OpenBrace, CloseBrace, Comma, Colon, Question}
use Rattle.cov_grammar.specs.declared.marked.Marked.{Marked}
use Rattle.cov_grammar.specs.declared.place.Room.{Room}
use Rattle.cov_grammar.specs.declared.place.Standing.{Standing}
use Rattle.cov_grammar.specs.declared.place.Standing.TheVariants.{Plain, StepEnd}
use Rattle.cov_grammar.specs.Rule.{word}
use Rattle.cov_grammar.specs.Operators.{unary_kinds, level_kinds}
use Rattle.cov_grammar.specs.Expressions.{Inner, index_kinds, number_rule, index_in, named_in, paren_in, list_in, concat_in, primary_in, signed_in, unary_in, binary_in, branches_in, expr_in, inner_at, part_expr, whole_expr, expr, pair, joined, test_or_choice}
use Rattle.cov_grammar.proofs.Sets.{disjoint, subset, disjoint-nil, subset_self, subset_nil, subset_append, subset_right, subset_left}
use Rattle.cov_grammar.proofs.Facts.{never_facts}
use Rattle.cov_grammar.proofs.Sound.{Under, Sound, afresh_sound, one_sound, counted_sound, here_sound, never_sound, either_sound, bind_sound, map_sound, both_sound, ahead_sound, behind_sound, fold_sound, maybe_sound, larger_sound, allow_sound}
use Rattle.cov_grammar.proofs.Lawful.{Lawful}

-- the kinds that begin an operand, and one with its operators
abbrev pub primary_firsts : List Kind
primary_firsts = Numeral ∷ Ident ∷ OpenParen ∷ OpenBrace ∷ []

abbrev pub expr_firsts : List Kind
expr_firsts = unary_kinds ++ primary_firsts

-- the kinds that go on with operands joined by the operators of so many levels, and with an expression
abbrev pub on_binary : Standing → ℕ → List Kind
on_binary s zero = index_kinds s
on_binary s (suc level) = level_kinds level ++ on_binary s level

abbrev pub on_expr : Standing → List Kind
on_expr s = Question ∷ on_binary s 10

pub apart : (s : Standing) (level : ℕ) → disjoint (on_binary s level) (level_kinds level) ≡ true
apart Plain zero = refl
apart Plain (suc zero) = refl
apart Plain (suc (suc zero)) = refl
apart Plain (suc (suc (suc zero))) = refl
apart Plain (suc (suc (suc (suc zero)))) = refl
apart Plain (suc (suc (suc (suc (suc zero))))) = refl
apart Plain (suc (suc (suc (suc (suc (suc zero)))))) = refl
apart Plain (suc (suc (suc (suc (suc (suc (suc zero))))))) = refl
apart Plain (suc (suc (suc (suc (suc (suc (suc (suc zero)))))))) = refl
apart Plain (suc (suc (suc (suc (suc (suc (suc (suc (suc zero))))))))) = refl
apart Plain (suc (suc (suc (suc (suc (suc (suc (suc (suc (suc n)))))))))) = disjoint-nil (on_binary Plain (suc (suc (suc (suc (suc (suc (suc (suc (suc (suc n)))))))))))
apart StepEnd zero = refl
apart StepEnd (suc zero) = refl
apart StepEnd (suc (suc zero)) = refl
apart StepEnd (suc (suc (suc zero))) = refl
apart StepEnd (suc (suc (suc (suc zero)))) = refl
apart StepEnd (suc (suc (suc (suc (suc zero))))) = refl
apart StepEnd (suc (suc (suc (suc (suc (suc zero)))))) = refl
apart StepEnd (suc (suc (suc (suc (suc (suc (suc zero))))))) = refl
apart StepEnd (suc (suc (suc (suc (suc (suc (suc (suc zero)))))))) = refl
apart StepEnd (suc (suc (suc (suc (suc (suc (suc (suc (suc zero))))))))) = refl
apart StepEnd (suc (suc (suc (suc (suc (suc (suc (suc (suc (suc n)))))))))) = disjoint-nil (on_binary StepEnd (suc (suc (suc (suc (suc (suc (suc (suc (suc (suc n)))))))))))

pub no_question : (s : Standing) → disjoint (on_binary s 10) (Question ∷ []) ≡ true
no_question Plain = refl
no_question StepEnd = refl

self : (xs : List Kind) → subset xs xs ≡ true
self xs = subset_self xs

nil : (xs zs : List Kind) → subset xs zs ≡ true → subset (xs ++ []) zs ≡ true
nil xs zs h = subset_nil xs zs h

-- b has at least the room of a
pub record Deeper (ts : List Marked) (s : Standing) (a b : Inner) : Type 0 where
  pub room : a.room ≡ true → b.room ≡ true
  pub inside : Sound ts a.inside b.inside expr_firsts (on_expr Plain) false
  pub operand : Sound ts a.operand b.operand expr_firsts (index_kinds s) false
  pub last : Sound ts a.last b.last expr_firsts (on_expr s) false

module _ (text : List ℕ) (ts : List Marked) (s : Standing) (a b : Inner) (deeper : Deeper ts s a b) where
  word_sound : (k : Kind) → Sound ts (word ts k) (word ts k) (k ∷ []) [] false
  word_sound k = one_sound ts (k ∷ [])

  pub number_sound : Sound ts (number_rule text ts) (number_rule text ts) (Numeral ∷ []) [] false
  unfolding number_rule
  number_sound = map_sound _ (word_sound Numeral)

  pub index_sound : Sound ts (index_in text ts s a) (index_in text ts s b) (index_kinds s) [] false
  unfolding index_in
  index_sound = allow_sound a.room b.room deeper.room (larger_sound
      (ahead_sound (one_sound ts (index_kinds s))
      (behind_sound (both_sound _ deeper.inside (maybe_sound (ahead_sound (word_sound Colon) deeper.inside refl)) refl) (word_sound CloseSquare) refl) refl)
      (nil (index_kinds s) _ (self (index_kinds s))) refl)

  pub named_sound : Sound ts (named_in text ts s a) (named_in text ts s b) (Ident ∷ []) (index_kinds s) false
  unfolding named_in
  named_sound = larger_sound (both_sound _ (word_sound Ident) (maybe_sound index_sound) refl) refl (nil (index_kinds s) _ (self (index_kinds s)))

  pub paren_sound : Sound ts (paren_in text ts a) (paren_in text ts b) (OpenParen ∷ []) [] false
  unfolding paren_in
  paren_sound = allow_sound a.room b.room deeper.room (ahead_sound (word_sound OpenParen) (behind_sound deeper.inside (word_sound CloseParen) refl) refl)

  pub list_sound : Sound ts (list_in text ts a.inside) (list_in text ts b.inside) expr_firsts (Comma ∷ on_expr Plain) false
  unfolding list_in
  list_sound = larger_sound (fold_sound _ (map_sound _ deeper.inside) (ahead_sound (word_sound Comma) deeper.inside refl) refl refl) refl refl

  pub concat_sound : Sound ts (concat_in text ts a) (concat_in text ts b) (OpenBrace ∷ []) [] false
  unfolding concat_in
  concat_sound = allow_sound a.room b.room deeper.room (both_sound _ (word_sound OpenBrace) (behind_sound list_sound (word_sound CloseBrace) refl) refl)

  pub primary_sound : Sound ts (primary_in text ts s a) (primary_in text ts s b) primary_firsts (index_kinds s) false
  unfolding primary_in
  primary_sound = larger_sound (either_sound number_sound (either_sound named_sound (either_sound paren_sound concat_sound refl) refl) refl) refl
      (nil ((index_kinds s ++ []) ++ []) _ (nil (index_kinds s ++ []) _ (nil (index_kinds s) _ (self (index_kinds s)))))

  pub signed_sound : Sound ts (signed_in text ts a) (signed_in text ts b) unary_kinds (index_kinds s) false
  unfolding signed_in
  signed_sound = allow_sound a.room b.room deeper.room (larger_sound (both_sound _ (one_sound ts unary_kinds) deeper.operand refl) refl (nil (index_kinds s) _ (self (index_kinds s))))

  pub unary_sound : Sound ts (unary_in text ts s a) (unary_in text ts s b) expr_firsts (index_kinds s) false
  unfolding unary_in
  unary_sound = larger_sound (either_sound signed_sound primary_sound refl) refl
      (nil (index_kinds s ++ index_kinds s) _ (subset_append (index_kinds s) (index_kinds s) _ (self (index_kinds s)) (self (index_kinds s))))

  pub branches_sound : Sound ts (branches_in text ts a) (branches_in text ts b) (Question ∷ []) (on_expr s) false
  unfolding branches_in
  branches_sound = allow_sound a.room b.room deeper.room (larger_sound
      (ahead_sound (word_sound Question) (both_sound _ deeper.inside (ahead_sound (word_sound Colon) deeper.last refl) refl) refl) refl
      (nil ((on_expr s ++ []) ++ []) (on_expr s) (nil (on_expr s ++ []) (on_expr s) (nil (on_expr s) (on_expr s) (self (on_expr s))))))

  module _ (m n : ℕ) (rises : m ≤ n) where
    pub binary_sound : (level : ℕ) → Sound ts (binary_in text ts m s a level) (binary_in text ts n s b level) expr_firsts (on_binary s level) false
    unfolding binary_in
    binary_sound zero = unary_sound
    binary_sound (suc level) =
        let below = binary_sound level in
        let on = on_binary s level in
        let ks = level_kinds level in
        let up = subset_right on ks on (self on) in
        let item = larger_sound {first' = ks} {cont' = on} (both_sound pair (counted_sound ts m n ks rises) below refl) (nil ks ks (self ks)) (nil on on (self on)) in
        larger_sound (fold_sound joined below item (apart s level) (apart s level)) refl
        (subset_append (on ++ ks) on (ks ++ on) (subset_append on ks (ks ++ on) up (subset_left ks ks on (self ks))) up)

    pub expr_in_sound : Sound ts (expr_in text ts m s a) (expr_in text ts n s b) expr_firsts (on_expr s) false
    unfolding expr_in
    expr_in_sound =
        let on = on_binary s 10 in
        larger_sound (bind_sound (here_sound ts) (λ at. both_sound (test_or_choice at) (binary_sound 10) (maybe_sound branches_sound) (no_question s)) refl) refl
        (nil ((on_expr s ++ Question ∷ []) ++ on) (on_expr s) (subset_append (on_expr s ++ Question ∷ []) on (on_expr s)
        (subset_append (on_expr s) (Question ∷ []) (on_expr s) (self (on_expr s)) refl) (subset_right on (Question ∷ []) on (self on))))

pub inner_sound : (text : List ℕ) (ts : List Marked) (s : Standing) (m n : ℕ) → m ≤ n → (d e : ℕ) → d ≤ e → Deeper ts s (inner_at text ts m s d) (inner_at text ts n s e)
unfolding inner_at
inner_sound text ts s m n l zero zero h = record { room = λ x. x; inside = never_sound (never_facts _ _ _ _); operand = never_sound (never_facts _ _ _ _); last = never_sound (never_facts _ _ _ _) }
inner_sound text ts s m n l zero (suc e) h =
    let plain = inner_sound text ts Plain n n (omega arith) e e (omega arith) in
    let same = inner_sound text ts s n n (omega arith) e e (omega arith) in record {
      room = λ x. refl;
      inside = never_sound (expr_in_sound text ts Plain _ _ plain n n (omega arith)).more;
      operand = never_sound (unary_sound text ts s _ _ same).more;
      last = never_sound (expr_in_sound text ts s _ _ same n n (omega arith)).more;
    }
inner_sound text ts s m n l (suc d) zero h = absurd (omega arith)
inner_sound text ts s m n l (suc d) (suc e) h =
    let plain = inner_sound text ts Plain m n l d e (omega arith) in
    let same = inner_sound text ts s m n l d e (omega arith) in record {
      room = λ x. refl;
      inside = expr_in_sound text ts Plain _ _ plain m n l;
      operand = unary_sound text ts s _ _ same;
      last = expr_in_sound text ts s _ _ same m n l;
    }

module _ (text : List ℕ) (ts : List Marked) (s : Standing) where
  -- what stands inside, in this room
  abbrev pub inner : Room → Inner
  inner r = inner_at text ts r.operators s r.levels

  pub deep : (d e : Room) → Under d e → Deeper ts s (inner d) (inner e)
  deep d e h = inner_sound text ts s d.operators e.operators h.operators d.levels e.levels h.levels

  abbrev pub number_lawful : Lawful ts (λ _. number_rule text ts)
  number_lawful = record { first = Numeral ∷ []; cont = []; null = false; sound = λ d e h. number_sound text ts s (inner d) (inner e) (deep d e h) }

  abbrev pub index_lawful : Lawful ts (λ r. index_in text ts s (inner r))
  index_lawful = record { first = index_kinds s; cont = []; null = false; sound = λ d e h. index_sound text ts s (inner d) (inner e) (deep d e h) }

  abbrev pub named_lawful : Lawful ts (λ r. named_in text ts s (inner r))
  named_lawful = record { first = Ident ∷ []; cont = index_kinds s; null = false; sound = λ d e h. named_sound text ts s (inner d) (inner e) (deep d e h) }

  abbrev pub paren_lawful : Lawful ts (λ r. paren_in text ts (inner r))
  paren_lawful = record { first = OpenParen ∷ []; cont = []; null = false; sound = λ d e h. paren_sound text ts s (inner d) (inner e) (deep d e h) }

  abbrev pub concat_lawful : Lawful ts (λ r. concat_in text ts (inner r))
  concat_lawful = record { first = OpenBrace ∷ []; cont = []; null = false; sound = λ d e h. concat_sound text ts s (inner d) (inner e) (deep d e h) }

  abbrev pub primary_lawful : Lawful ts (λ r. primary_in text ts s (inner r))
  primary_lawful = record { first = primary_firsts; cont = index_kinds s; null = false; sound = λ d e h. primary_sound text ts s (inner d) (inner e) (deep d e h) }

  abbrev pub signed_lawful : Lawful ts (λ r. signed_in text ts (inner r))
  signed_lawful = record { first = unary_kinds; cont = index_kinds s; null = false; sound = λ d e h. signed_sound text ts s (inner d) (inner e) (deep d e h) }

  abbrev pub unary_lawful : Lawful ts (λ r. unary_in text ts s (inner r))
  unary_lawful = record { first = expr_firsts; cont = index_kinds s; null = false; sound = λ d e h. unary_sound text ts s (inner d) (inner e) (deep d e h) }

  abbrev pub binary_lawful : (level : ℕ) → Lawful ts (λ r. binary_in text ts r.operators s (inner r) level)
  binary_lawful level = record { first = expr_firsts; cont = on_binary s level; null = false; sound = λ d e h. binary_sound text ts s (inner d) (inner e) (deep d e h) d.operators e.operators h.operators level }

  abbrev pub branches_lawful : Lawful ts (λ r. branches_in text ts (inner r))
  branches_lawful = record { first = Question ∷ []; cont = on_expr s; null = false; sound = λ d e h. branches_sound text ts s (inner d) (inner e) (deep d e h) }

  abbrev pub part_expr_lawful : Lawful ts (part_expr text ts s)
  part_expr_lawful = record { first = expr_firsts; cont = on_expr s; null = false; sound = λ d e h. expr_in_sound text ts s (inner d) (inner e) (deep d e h) d.operators e.operators h.operators }

  pub whole_sound : (d e : Room) → Under d e → Sound ts (whole_expr text ts s d) (whole_expr text ts s e) expr_firsts (on_expr s) false
  unfolding whole_expr
  whole_sound d e h = afresh_sound (part_expr_lawful.sound d e h)

  abbrev pub whole_expr_lawful : Lawful ts (whole_expr text ts s)
  whole_expr_lawful = record { first = expr_firsts; cont = on_expr s; null = false; sound = whole_sound }

abbrev pub expr_lawful : (text : List ℕ) (ts : List Marked) → Lawful ts (expr text ts)
expr_lawful text ts = whole_expr_lawful text ts Plain
