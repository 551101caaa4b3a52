-- What tests of the parts of a design have shown.
use Rattle.std.proofs.Common.{◌≡◌, ◌↔◌, ℕ, ◌+◌, ◌<◌, ◌≤◌, zero, suc, Bool, true, List, [], ◌∷◌, ◌++◌, length, get_or, take, refl, ap, sym, subst, ◌∙◌, arith}
use Rattle.std.proofs.Common.{min, ◌-◌, ◌^◌, leb, Result, Ok, Err}
use Rattle.std.specs.Prelude.{IfOk}
use Rattle.std.proofs.lemmas.Bool.{leb-true, le-leb}
use Rattle.std.proofs.lemmas.List.Elements.{All-push}
use Rattle.cov_ground.specs.Limits.{most_bins}
use Rattle.trans_seq.specs.declared.seq.Seq.{Seq}
use Rattle.trans_seq.specs.Cells.{cells_of_seqs}
use Rattle.design_data.specs.declared.infos.ItemInfo.{ItemInfo}
use Rattle.design_data.specs.Tested.{HaveFewBins, AreItems}
use Rattle.design_data.proofs.Answering.{all_at}
use Rattle.std.proofs.lemmas.List.{take_more, take_all}
use Rattle.std.specs.List.{list_any}
use Rattle.cross_select.specs.declared.select.Select.{Select}
use Rattle.design_data.specs.declared.infos.BinInfo.{BinInfo}
use Rattle.design_data.specs.declared.infos.BinKind.{BinKind}
use Rattle.design_data.specs.declared.infos.BinRule.{BinRule}
use Rattle.design_data.specs.declared.infos.BinRule.TheVariants.{Picked}
use Rattle.design_data.specs.Limits.{IsItem, IsCrossRule}
use Rattle.design_data.specs.Crosses.{IsProduct, products, fits, has}

pub product_length : (sizes members : List ℕ) → IsProduct sizes members → length sizes ≡ length members
product_length [] [] h = refl
product_length [] (bin ∷ members) h = absurd h
product_length (size ∷ sizes) [] h = absurd h
product_length (size ∷ sizes) (bin ∷ members) h = omega (arith, product_length sizes members h.1)

pub product_at : (sizes members : List ℕ) (i d e : ℕ) → IsProduct sizes members → i < length sizes → get_or members i e < get_or sizes i d
product_at [] members i d e h lt = absurd (omega (arith, lt))
product_at (size ∷ sizes) [] i d e h lt = absurd h
product_at (size ∷ sizes) (bin ∷ members) zero d e h lt = h.0
product_at (size ∷ sizes) (bin ∷ members) (suc i) d e h lt = product_at sizes members i d e h.1 (omega (arith, lt))

product_snoc : (sizes members : List ℕ) (size bin : ℕ) → IsProduct sizes members → bin < size → IsProduct (sizes ++ size ∷ []) (members ++ bin ∷ [])
product_snoc [] [] size bin h lt = (lt, tt)
product_snoc [] (b ∷ members) size bin h lt = absurd h
product_snoc (s ∷ sizes) [] size bin h lt = absurd h
product_snoc (s ∷ sizes) (b ∷ members) size bin h lt = (h.0, product_snoc sizes members size bin h.1 lt)

pub product_more : (sizes members : List ℕ) (i d e : ℕ) → length sizes ≡ length members → i < length sizes → IsProduct (take i sizes) (take i members) → get_or members i e < get_or sizes i d → IsProduct (take (i + 1) sizes) (take (i + 1) members)
product_more sizes members i d e same lt h below = rw (take_more sizes i d lt, take_more members i e (omega (arith, same, lt))) (product_snoc (take i sizes) (take i members) (get_or sizes i d) (get_or members i e) h below)

pub product_done : (sizes members : List ℕ) (i : ℕ) → length sizes ≡ length members → length sizes ≤ i → IsProduct (take i sizes) (take i members) → IsProduct sizes members
product_done sizes members i same le h = rw (take_all i sizes le, take_all i members (omega (arith, same, le))) at h

-- ---- crosses

pub picked_is : (sizes : List ℕ) (bins : List BinInfo) (kind : BinKind) (rule : BinRule) (select : Select) (all : List (List ℕ)) (f s : Bool) → rule ≡ Picked select → f ≡ true → f ≡ fits sizes select → all ≡ products sizes → s ≡ list_any (has bins kind rule) all
    → (s ≡ true) ↔ IsCrossRule sizes bins kind rule
picked_is sizes bins kind rule select all f s is fits_it fit made some =
    subst (λ (r : BinRule). (s ≡ true) ↔ IsCrossRule sizes bins kind r) (sym is)
    (λ t. (sym fit ∙ fits_it, sym at ∙ t), λ h. at ∙ h.1)
  where
    at : s ≡ list_any (has bins kind (Picked select)) (products sizes)
    at = some ∙ ap (λ (r : BinRule). list_any (has bins kind r) all) is ∙ ap (list_any (has bins kind (Picked select))) made

-- a step that gives a value, and another thing that is known of the value
pub if_ok : {A E : Type 0} (P Q : A → Type 0) (r : Result A E) → ((x : A) → P x → Q x) → IfOk r P → IfOk r Q
if_ok P Q (Ok x) f h = f x h
if_ok P Q (Err e) f h = tt

-- ---- cells

cells_append : (a b : List Seq) → cells_of_seqs (a ++ b) ≡ cells_of_seqs a + cells_of_seqs b
cells_append [] b = omega arith
cells_append (seq ∷ a) b = omega (arith, cells_append a b)

pub few_cells : (a b : List Seq) (s m n : ℕ) → m ≡ min (cells_of_seqs a) (2 ^ 64 - 1) → n ≡ min (cells_of_seqs b) (2 ^ 64 - 1) → s ≡ min (m + n) (2 ^ 64 - 1) → (leb s 120 ≡ true) ↔ cells_of_seqs (a ++ b) ≤ 120
few_cells a b s m n p q r = (λ t. omega (arith, leb-true s 120 t, p, q, r, cells_append a b), λ h. le-leb s 120 (omega (arith, h, p, q, r, cells_append a b)))

-- ---- bins

abbrev FewBins : ItemInfo → Type 0
FewBins item = length item.bins ≤ most_bins

pub few_more : (items : List ItemInfo) (i : ℕ) (x : ItemInfo) → i < length items → x ≡ get_or items i x → HaveFewBins (take i items) → length x.bins ≤ most_bins → HaveFewBins (take (i + 1) items)
few_more items i x lt at h p = subst HaveFewBins (sym (take_more items i x lt)) (All-push FewBins (take i items) (get_or items i x) h (subst FewBins at p))

pub few_done : (items : List ItemInfo) (i : ℕ) → length items ≤ i → HaveFewBins (take i items) → HaveFewBins items
few_done items i le h = subst HaveFewBins (take_all i items le) h

pub few_of : (all items : List ItemInfo) → AreItems all items → HaveFewBins items
few_of all items h i d lt = (all_at (IsItem all) items i d h lt).bins
