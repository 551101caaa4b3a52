-- A walk over a side's cells, one item and one sequence at a time.
use Rattle.std.proofs.Common.{◌≡◌, ℕ, ◌+◌, ◌<◌, ◌↔◌, ◌&&◌, ◌||◌, Bool, true, false, ap, sym, ◌∙◌, arith, refl, List, [], ◌∷◌, length, Option}
use Rattle.std.specs.Prelude.{ℤ, eqb}
use Rattle.std.proofs.Math.Bool.{or-false, or_assoc}
use Rattle.trans_seq.specs.declared.seq.Item.{Item}
use Rattle.trans_seq.specs.declared.seq.Seq.{Seq}
use Rattle.trans_seq.specs.declared.seq.Repeat.{Repeat}
use Rattle.trans_seq.specs.Windows.{is_end}
use Rattle.trans_seq.specs.Cells.{cells_of_repeat, cells_of_items, cells_of_seqs}
use Rattle.trans_auto.specs.declared.marks.Mark.TheVariants.{First}
use Rattle.trans_auto.specs.declared.marks.ItemCells.{ItemCells}
use Rattle.trans_auto.specs.Masks.{has_bit}
use Rattle.trans_auto.specs.Steps.{Leaves, Accepts, SomeAccepts}
use Rattle.trans_auto.specs.Layout.{IsClear, Adds, IsLaid, ItemsLaid, SeqsLaid, ItemsInside, SeqsInside, ItemsEnter, SeqsEnter}
use Rattle.trans_auto.proofs.Adding.{Cells, cells-same, adds-mark, adds-nothing, adds-as, adds-then, items-inside-same, items-enter-same}

no-cons : {X : Type 0} {x : X} {xs : List X} → x ∷ xs ≡ [] → ⊥
no-cons e = absurd (omega (arith, ap length e))

-- what a slice has in the place of an item's cells where there is none
abbrev pub no_cells : ItemCells
no_cells = record { all = 0; first = 0; done = 0; skips = false }

-- which items may begin
pub enter-nil : (enter : Bool) (base old start : ℕ) (items : List Item) (cells : List ItemCells) → length cells < 1 → ItemsLaid base items cells → IsClear base start → Adds base (cells_of_items items) start start (λ mask. ItemsEnter enter base old mask items)
enter-nil enter base old start [] cells none laid clear = adds-nothing base start (λ mask. ItemsEnter enter base old mask []) clear tt
enter-nil enter base old start (item ∷ items) [] none laid clear = absurd laid
enter-nil enter base old start (item ∷ items) (one ∷ rest) none laid clear = absurd (omega (arith, none))

pub enter-cons : (enter : Bool) (base old start lower new : ℕ) (items : List Item) (one : ItemCells) (rest : List ItemCells) (next : Bool)
    → ItemsLaid base items (one ∷ rest) → IsClear base start
    → ((b : ℕ) (r : Repeat) (last : Bool) → IsLaid b r last one → (next ≡ true) ↔ Leaves enter b old r last)
    → ((k : ℕ) → has_bit lower k ≡ (has_bit start k || enter && has_bit one.first k))
    → ((b : ℕ) (others : List Item) → ItemsLaid b others rest → IsClear b lower → Adds b (cells_of_items others) lower new (λ mask. ItemsEnter next b old mask others))
    → Adds base (cells_of_items items) start new (λ mask. ItemsEnter enter base old mask items)
enter-cons enter base old start lower new [] one rest next laid clear leaves with others = absurd (no-cons laid)
enter-cons enter base old start lower new (item ∷ items) one rest next laid clear leaves with others =
    let n = cells_of_repeat item.repeat in
    let here = adds-mark base start lower one.first First item.repeat (is_end items) enter laid.0.first clear with in
    let P : ℕ → Type 0 = Cells base n (λ k. enter && eqb k 0) in
    let Q : ℕ → Type 0 = λ mask. ItemsEnter next (base + n) old mask items in
    adds-as base (n + cells_of_items items) start new (λ mask. P mask × Q mask) (λ mask. ItemsEnter enter base old mask (item ∷ items))
    (λ both. (both.0, next, leaves base item.repeat (is_end items) laid.0, both.1))
    (adds-then base n (cells_of_items items) start lower new P Q (λ same cells. cells-same base n (λ k. enter && eqb k 0) new lower same cells) here (others (base + n) items laid.1 here.above))

-- whether all items are complete
pub accept-nil : (enter : Bool) (base mask : ℕ) (items : List Item) (cells : List ItemCells) → length cells < 1 → ItemsLaid base items cells → Accepts enter base mask items enter
accept-nil enter base mask [] cells none laid = refl
accept-nil enter base mask (item ∷ items) [] none laid = absurd laid
accept-nil enter base mask (item ∷ items) (one ∷ rest) none laid = absurd (omega (arith, none))

pub accept-cons : (enter : Bool) (base mask : ℕ) (items : List Item) (one : ItemCells) (rest : List ItemCells) (next answer : Bool)
    → ItemsLaid base items (one ∷ rest)
    → ((b : ℕ) (r : Repeat) (last : Bool) → IsLaid b r last one → (next ≡ true) ↔ Leaves enter b mask r last)
    → ((b : ℕ) (others : List Item) → ItemsLaid b others rest → Accepts next b mask others answer)
    → Accepts enter base mask items answer
accept-cons enter base mask [] one rest next answer laid leaves others = absurd (no-cons laid)
accept-cons enter base mask (item ∷ items) one rest next answer laid leaves others =
    (next, leaves base item.repeat (is_end items) laid.0, others (base + cells_of_repeat item.repeat) items laid.1)

-- the same over sequences
abbrev pub SeqInside : Option ℤ → ℕ → ℕ → List Item → List ItemCells → Type 0
SeqInside v start lower items one = (b : ℕ) → ItemsLaid b items one → IsClear b start → Adds b (cells_of_items items) start lower (λ mask. ItemsInside b mask v items)

abbrev pub SeqEnters : Bool → ℕ → ℕ → ℕ → List ItemCells → Type 0
SeqEnters fresh old start lower one = (b : ℕ) (items : List Item) → ItemsLaid b items one → IsClear b start → Adds b (cells_of_items items) start lower (λ mask. ItemsEnter fresh b old mask items)

abbrev pub SeqAccepts : Bool → ℕ → Bool → List ItemCells → Type 0
SeqAccepts fresh mask complete one = (b : ℕ) (items : List Item) → ItemsLaid b items one → Accepts fresh b mask items complete

pub seqs_inside-cons : (base start lower new : ℕ) (v : Option ℤ) (seq : Seq) (seqs : List Seq) (one : List ItemCells) (rest : List (List ItemCells))
    → SeqsLaid base (seq ∷ seqs) (one ∷ rest) → IsClear base start
    → SeqInside v start lower seq.items one
    → ((b : ℕ) → SeqsLaid b seqs rest → IsClear b lower → Adds b (cells_of_seqs seqs) lower new (λ mask. SeqsInside b mask v seqs))
    → Adds base (cells_of_seqs (seq ∷ seqs)) start new (λ mask. SeqsInside base mask v (seq ∷ seqs))
seqs_inside-cons base start lower new v seq seqs one rest laid clear first others =
    let n = cells_of_items seq.items in
    let here = first base laid.0 clear in
    adds-then base n (cells_of_seqs seqs) start lower new (λ mask. ItemsInside base mask v seq.items) (λ mask. SeqsInside (base + n) mask v seqs)
    (λ same held. items-inside-same base new lower v seq.items same held) here (others (base + n) laid.1 here.above)

pub seqs_enter-nil : (fresh : Bool) (base old start : ℕ) (seqs : List Seq) (cells : List (List ItemCells)) → length cells < 1 → SeqsLaid base seqs cells → IsClear base start → Adds base (cells_of_seqs seqs) start start (λ mask. SeqsEnter fresh base old mask seqs)
seqs_enter-nil fresh base old start [] cells none laid clear = adds-nothing base start (λ mask. SeqsEnter fresh base old mask []) clear tt
seqs_enter-nil fresh base old start (seq ∷ seqs) [] none laid clear = absurd laid
seqs_enter-nil fresh base old start (seq ∷ seqs) (one ∷ rest) none laid clear = absurd (omega (arith, none))

pub seqs_enter-cons : (fresh : Bool) (base old start lower new : ℕ) (seqs : List Seq) (one : List ItemCells) (rest : List (List ItemCells))
    → SeqsLaid base seqs (one ∷ rest) → IsClear base start
    → SeqEnters fresh old start lower one
    → ((b : ℕ) (others : List Seq) → SeqsLaid b others rest → IsClear b lower → Adds b (cells_of_seqs others) lower new (λ mask. SeqsEnter fresh b old mask others))
    → Adds base (cells_of_seqs seqs) start new (λ mask. SeqsEnter fresh base old mask seqs)
seqs_enter-cons fresh base old start lower new [] one rest laid clear first others = absurd (no-cons laid)
seqs_enter-cons fresh base old start lower new (seq ∷ seqs) one rest laid clear first others =
    let n = cells_of_items seq.items in
    let here = first base seq.items laid.0 clear in
    adds-then base n (cells_of_seqs seqs) start lower new (λ mask. ItemsEnter fresh base old mask seq.items) (λ mask. SeqsEnter fresh (base + n) old mask seqs)
    (λ same held. items-enter-same fresh base old new lower seq.items same held) here (others (base + n) seqs laid.1 here.above)

pub seqs_accept-nil : (fresh : Bool) (base mask : ℕ) (found : Bool) (seqs : List Seq) (cells : List (List ItemCells)) → length cells < 1 → SeqsLaid base seqs cells → (some : Bool) × SomeAccepts fresh base mask seqs some × (found ≡ (found || some))
seqs_accept-nil fresh base mask found [] cells none laid = (false, refl, sym (or-false found))
seqs_accept-nil fresh base mask found (seq ∷ seqs) [] none laid = absurd laid
seqs_accept-nil fresh base mask found (seq ∷ seqs) (one ∷ rest) none laid = absurd (omega (arith, none))

pub seqs_accept-cons : (fresh : Bool) (base mask : ℕ) (found : Bool) (seqs : List Seq) (one : List ItemCells) (rest : List (List ItemCells)) (complete answer : Bool)
    → SeqsLaid base seqs (one ∷ rest)
    → SeqAccepts fresh mask complete one
    → ((b : ℕ) (others : List Seq) → SeqsLaid b others rest → (some : Bool) × SomeAccepts fresh b mask others some × (answer ≡ ((found || complete) || some)))
    → (some : Bool) × SomeAccepts fresh base mask seqs some × (answer ≡ (found || some))
seqs_accept-cons fresh base mask found [] one rest complete answer laid first others = absurd (no-cons laid)
seqs_accept-cons fresh base mask found (seq ∷ seqs) one rest complete answer laid first others =
    let s = others (base + cells_of_items seq.items) seqs laid.1 in
    (complete || s.0, (complete, s.0, first base seq.items laid.0, s.1, refl), s.2 ∙ or_assoc found complete s.0)
