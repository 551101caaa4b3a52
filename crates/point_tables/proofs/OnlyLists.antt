-- The only list of a sequence.
use Rattle.std.proofs.Common.{◌≡◌, ◌+◌, ℤ, List, [], ◌∷◌, ◌++◌, length, true, false, Option, Some, None, refl, ap, sym, ◌∙◌, arith}
use Rattle.std.proofs.lemmas.Bool.{false≢true}
use Rattle.std.proofs.lemmas.Option.{cond_some}
use Rattle.trans_seq.specs.declared.seq.Item.{Item}
use Rattle.trans_seq.specs.declared.seq.Repeat.{Repeat}
use Rattle.trans_seq.specs.declared.seq.Repeat.TheVariants.{Once, Consec, Goto, NonConsec}
use Rattle.trans_seq.specs.Words.{value_once, with_value, word_of}
use Rattle.trans_seq.specs.Cells.{cells_of_repeat, cells_of_items}

some-injective : {A : Type 0} (x y : A) → Some x ≡ Some y → x ≡ y
some-injective x y e = (cond_some true x y e).1

some-ne-none : {A : Type 0} (x : A) → None ≡ Some x → ⊥
some-ne-none x e = false≢true (cond_some false x x e).0

-- ---- the list of a sequence

pub no_items : word_of [] ≡ Some []
no_items = refl

pub word_more : (items : List Item) (item : Item) (word : List ℤ) (v : ℤ) → word_of items ≡ Some word → value_once item.repeat item.set ≡ Some v → word_of (items ++ item ∷ []) ≡ Some (word ++ v ∷ [])
word_more [] item word v e is =
    ap (λ (x : Option ℤ). with_value x (Some [])) is ∙ ap (λ (u : List ℤ). Some (u ++ v ∷ [])) (some-injective [] word e)
word_more (first ∷ items) item word v e is = by (value_once first.repeat first.set) (word_of items) (λ rest f. word_more items item rest v f is) refl e
  where
    by : (x : Option ℤ) (y : Option (List ℤ)) → ((rest : List ℤ) → y ≡ Some rest → word_of (items ++ item ∷ []) ≡ Some (rest ++ v ∷ [])) → value_once first.repeat first.set ≡ x → with_value x y ≡ Some word
        → word_of (first ∷ items ++ item ∷ []) ≡ Some (word ++ v ∷ [])
    by None y more here f = absurd (some-ne-none word f)
    by (Some a) None more here f = absurd (some-ne-none word f)
    by (Some a) (Some rest) more here f =
        ap (λ (x : Option ℤ). with_value x (word_of (items ++ item ∷ []))) here ∙ ap (with_value (Some a)) (more rest refl) ∙ ap (λ (u : List ℤ). Some (u ++ v ∷ [])) (some-injective (a ∷ rest) word f)

once_cell : (repeat : Repeat) (set : List (ℤ × ℤ)) (v : ℤ) → value_once repeat set ≡ Some v → cells_of_repeat repeat ≡ 1
once_cell Once set v e = refl
once_cell (Consec low high) set v e = absurd (some-ne-none v e)
once_cell (Goto low high) set v e = absurd (some-ne-none v e)
once_cell (NonConsec low high) set v e = absurd (some-ne-none v e)

pub word_cells : (items : List Item) (word : List ℤ) → word_of items ≡ Some word → length word ≡ cells_of_items items
word_cells [] word e = ap (λ (u : List ℤ). length u) (sym (some-injective [] word e))
word_cells (item ∷ items) word e = by (value_once item.repeat item.set) (word_of items) (λ rest f. word_cells items rest f) refl e
  where
    by : (x : Option ℤ) (y : Option (List ℤ)) → ((rest : List ℤ) → y ≡ Some rest → length rest ≡ cells_of_items items) → value_once item.repeat item.set ≡ x → with_value x y ≡ Some word → length word ≡ cells_of_repeat item.repeat + cells_of_items items
    by None y more here f = absurd (some-ne-none word f)
    by (Some a) None more here f = absurd (some-ne-none word f)
    by (Some a) (Some rest) more here f =
        let long : length (a ∷ rest) ≡ length word = ap (λ (u : List ℤ). length u) (some-injective (a ∷ rest) word f) in
        omega (arith, long, more rest refl, once_cell item.repeat item.set a here)
