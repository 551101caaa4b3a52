-- Nothing that an attribute or a text says makes a mark.
use Rattle.std.proofs.Common.{◌≡◌, ℕ, zero, suc, ◌/◌, ◌%◌, ◌==◌, Bool, true, false, List, [], ◌∷◌, ◌++◌, refl, sym, ◌∙◌, ap, ap₂, if◌then◌else◌, cond, filter, decimal, codes, arith, map}
use Rattle.std.specs.Fmt.{digit_glyph, digits_onto, digits}
use Rattle.std.proofs.lemmas.List.Elements.{filter-append}
use Rattle.markup.specs.Escaping.{is_plain, reference, character, escape_byte, escape}
use Rattle.markup.specs.Trees.{Markup, Nothing, Break, Both, Element, Empty, Text, Attribute, attribute_text, attributes_text, tag_text, tag_end, empty_end, start_text, end_text, markup_text, silent, silenced}
use Rattle.markup.specs.Laws.{is_mark, IsMarkedAlike}

-- the marks of a text
marks : List ℕ → List ℕ
marks bytes = filter is_mark bytes

unmarked : (byte : ℕ) (rest : List ℕ) → is_mark byte ≡ false → marks rest ≡ [] → marks (byte ∷ rest) ≡ []
unfolding marks
unmarked byte rest e h = ap (λ (b : Bool). cond b (byte ∷ filter is_mark rest) (filter is_mark rest)) e ∙ h

joined : (xs ys : List ℕ) → marks (xs ++ ys) ≡ marks xs ++ marks ys
unfolding marks
joined xs ys = filter-append is_mark xs ys

-- ---- numbers

glyph_unmarked : (n : ℕ) → is_mark (digit_glyph false (n % 10)) ≡ false
glyph_unmarked n = grind arith

either_unmarked : (b : Bool) (xs ys : List ℕ) → marks xs ≡ [] → marks ys ≡ [] → marks (if b then xs else ys) ≡ []
either_unmarked true xs ys p q = p
either_unmarked false xs ys p q = q

digits_unmarked : (fuel n : ℕ) (acc : List ℕ) → marks acc ≡ [] → marks (digits_onto fuel 10 false n acc) ≡ []
digits_unmarked zero n acc h = h
digits_unmarked (suc k) n acc h =
    let more : marks (digit_glyph false (n % 10) ∷ acc) ≡ [] = unmarked (digit_glyph false (n % 10)) acc (glyph_unmarked n) h in
    either_unmarked (n / 10 == 0) _ _ more (digits_unmarked k (n / 10) (digit_glyph false (n % 10) ∷ acc) more)

no_marks : marks [] ≡ []
unfolding marks
no_marks = refl

decimal_unmarked : (n : ℕ) → marks (decimal n) ≡ []
unfolding digits
decimal_unmarked n = digits_unmarked 64 n [] no_marks

-- ---- bytes

reference_unmarked : (byte : ℕ) → marks (reference byte) ≡ []
unfolding marks
reference_unmarked byte = by_cases (byte == 60) (byte == 62) (byte == 38) (byte == 34) (byte == 39)
  where
    by_cases : (a b c d e : Bool) → marks (if a then codes "lt" else if b then codes "gt" else if c then codes "amp" else if d then codes "quot" else if e then codes "#39" else 35 ∷ decimal (character byte)) ≡ []
    by_cases true b c d e = refl
    by_cases false true c d e = refl
    by_cases false false true d e = refl
    by_cases false false false true e = refl
    by_cases false false false false true = refl
    by_cases false false false false false = decimal_unmarked (character byte)

plain_unmarked : (byte : ℕ) → is_plain byte ≡ true → is_mark byte ≡ false
plain_unmarked byte h = grind arith

byte_unmarked : (byte : ℕ) → marks (escape_byte byte) ≡ []
unfolding escape_byte
byte_unmarked byte = by_cases (is_plain byte) refl
  where
    by_cases : (b : Bool) → is_plain byte ≡ b → marks (if b then byte ∷ [] else 38 ∷ (reference byte ++ 59 ∷ [])) ≡ []
    by_cases true e = unmarked byte [] (plain_unmarked byte e) no_marks
    by_cases false e = unmarked 38 (reference byte ++ 59 ∷ []) refl (joined (reference byte) (59 ∷ []) ∙ ap₂ (λ (xs ys : List ℕ). xs ++ ys) (reference_unmarked byte) (unmarked 59 [] refl no_marks))

escape_unmarked : (bytes : List ℕ) → marks (escape bytes) ≡ []
escape_unmarked [] = no_marks
escape_unmarked (byte ∷ bytes) = joined (escape_byte byte) (escape bytes) ∙ ap₂ (λ (xs ys : List ℕ). xs ++ ys) (byte_unmarked byte) (escape_unmarked bytes)

-- ---- trees

beside : (a b xs ys : List ℕ) → marks a ≡ marks b → marks xs ≡ marks ys → marks (a ++ xs) ≡ marks (b ++ ys)
beside a b xs ys p q = joined a xs ∙ ap₂ (λ (us vs : List ℕ). us ++ vs) p q ∙ sym (joined b ys)

behind : (a xs ys : List ℕ) → marks xs ≡ marks ys → marks (a ++ xs) ≡ marks (a ++ ys)
behind a xs ys q = beside a a xs ys refl q

byte_before : (byte : ℕ) (xs ys : List ℕ) → marks xs ≡ marks ys → marks (byte ∷ xs) ≡ marks (byte ∷ ys)
byte_before byte xs ys q = behind (byte ∷ []) xs ys q

attribute_alike : (a : Attribute) → marks (attribute_text a) ≡ marks (attribute_text (silent a))
unfolding attribute_text
attribute_alike a =
    byte_before 32 _ _ (behind a.name _ _ (byte_before 61 _ _ (byte_before 34 _ _ (beside (escape a.value) [] (34 ∷ []) (34 ∷ []) (escape_unmarked a.value ∙ sym no_marks) refl))))

attributes_alike : (attributes : List Attribute) → marks (attributes_text attributes) ≡ marks (attributes_text (map silent attributes))
attributes_alike [] = refl
attributes_alike (a ∷ rest) = beside (attribute_text a) (attribute_text (silent a)) (attributes_text rest) (attributes_text (map silent rest)) (attribute_alike a) (attributes_alike rest)

start_alike : (name : List ℕ) (attributes : List Attribute) → marks (start_text name attributes) ≡ marks (start_text name (map silent attributes))
start_alike name attributes = behind (tag_text name) _ _ (beside (attributes_text attributes) (attributes_text (map silent attributes)) tag_end tag_end (attributes_alike attributes) refl)

empty_alike : (name : List ℕ) (attributes : List Attribute) → marks (markup_text (Empty name attributes)) ≡ marks (markup_text (Empty name (map silent attributes)))
empty_alike name attributes = behind (tag_text name) _ _ (beside (attributes_text attributes) (attributes_text (map silent attributes)) empty_end empty_end (attributes_alike attributes) refl)

alike : (tree : Markup) → marks (markup_text tree) ≡ marks (markup_text (silenced tree))
alike Nothing = refl
alike Break = refl
alike (Both first second) = beside (markup_text first) (markup_text (silenced first)) (markup_text second) (markup_text (silenced second)) (alike first) (alike second)
alike (Element name attributes inside) =
    beside (start_text name attributes) (start_text name (map silent attributes)) _ _ (start_alike name attributes) (beside (markup_text inside) (markup_text (silenced inside)) (end_text name) (end_text name) (alike inside) refl)
alike (Empty name attributes) = empty_alike name attributes
alike (Text bytes) = escape_unmarked bytes ∙ sym no_marks

pub marked_alike : IsMarkedAlike
unfolding marks
marked_alike tree = alike tree
