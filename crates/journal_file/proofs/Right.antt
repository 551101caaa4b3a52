-- A right journal isn't refused.
use Rattle.std.proofs.Common.{◌≡◌, ◌≢◌, ⊎_elim, ℕ, ◌+◌, ◌≤◌, ◌<◌, ◌^◌, List, [], ◌∷◌, ◌++◌, length, take, drop, refl, sym, ap, ◌∙◌, subst, arith, append_assoc, length-append}
use Rattle.std.specs.Prelude.{All}
use Rattle.std.specs.List.{flat_map, AllByRecursion}
use Rattle.std.proofs.lemmas.List.{append-nil, append_cancel_left, take_at}
use Rattle.std.proofs.lemmas.List.Elements.{All-nil, recursion_from_All}
use Rattle.journal_bytes.specs.Items.{Item, IsWritable, letters, header, part_of, gated, journal_of}
use Rattle.journal_bytes.specs.Sums.{sum_of}
use Rattle.journal_bytes.proofs.Heads.{item_read, one_journal}
use Rattle.journal_file.specs.declared.fault.OpenFault.TheVariants.{DiskFault, BadJournal, OtherDesign, Damaged, TooLong, Memory}
use Rattle.journal_file.specs.Stands.{StandsFor, Begins, StartsWith, BreaksOff}
use Rattle.journal_file.specs.Damage.{whole, Agrees, Differs, Lacks}
use Rattle.journal_file.specs.Laws.{RightIsOpened}
use Rattle.journal_file.proofs.Longer.{one_longer}

-- a gate that isn't open, in front of other bytes
abbrev Shut : List ℕ → Type 0
Shut [] = ⊥
Shut (gate ∷ rest) = gate ≢ 1

-- these items are the first of those, and the bytes behind them are the others'
record IsFront (items all : List Item) (x y : List ℕ) : Type 0 where
  more : List Item
  is : all ≡ items ++ more
  behind : x ≡ flat_map gated more ++ y

front : (items all : List Item) (x y : List ℕ) → AllByRecursion IsWritable items → AllByRecursion IsWritable all → Shut y → flat_map gated items ++ x ≡ flat_map gated all ++ y → IsFront items all x y
front [] all x y fit fits shut same = record { more = all; is = refl; behind = same }
front (a ∷ items) [] x y fit fits shut same = absurd (subst Shut (sym same) shut refl)
front (a ∷ items) (b ∷ all) x y fit fits shut same =
    let more : part_of a ++ (flat_map gated items ++ x) ≡ part_of b ++ (flat_map gated all ++ y) =
    sym (append_assoc (part_of a) (flat_map gated items) x) ∙ ap (drop 1) same ∙ append_assoc (part_of b) (flat_map gated all) y in
    let both = item_read a b (flat_map gated items ++ x) (flat_map gated all ++ y) fit.0 fits.0 more in
    let rest = front items all x y fit.1 fits.1 shut both.1 in
    let back = sym both.0 in
    record { more = rest.more; is = λ i. back i ∷ rest.is i; behind = rest.behind }

-- bytes that begin with a gate, open or not
record HasGate (bytes : List ℕ) : Type 0 where
  gate : ℕ
  rest : List ℕ
  is : bytes ≡ gate ∷ rest

has_gate : (items : List Item) (y : List ℕ) → Shut y → HasGate (flat_map gated items ++ y)
has_gate [] [] shut = absurd shut
has_gate [] (gate ∷ rest) shut = record { gate = gate; rest = rest; is = refl }
has_gate (item ∷ items) y shut = record { gate = 1; rest = (part_of item ++ flat_map gated items) ++ y; is = refl }

no_gate_open : (more : List Item) (y rest : List ℕ) → AllByRecursion IsWritable more → Shut y → 1 ∷ rest ≡ flat_map gated more ++ y → ((item : Item) → StartsWith item rest → ⊥) → ⊥
no_gate_open [] y rest fit shut same none = subst Shut (sym same) shut refl
no_gate_open (item ∷ more) y rest fit shut same none =
    let g = has_gate more y shut in
    none item (record {
      writable = fit.0;
      gate = g.gate;
      rest = g.rest;
      is = ap (drop 1) same ∙ append_assoc (part_of item) (flat_map gated more) y ∙ ap (λ (l : List ℕ). part_of item ++ l) g.is;
    })

rest_fits : (items more : List Item) → AllByRecursion IsWritable (items ++ more) → AllByRecursion IsWritable more
rest_fits [] more fit = fit
rest_fits (item ∷ items) more fit = rest_fits items more fit.1

module _ (digest sums file : List ℕ) (items : List Item) (long : length digest ≡ 32) (stands : StandsFor digest items file) where
  abbrev y : List ℕ
  y = stands.ends.gate ∷ stands.ends.rest

  fits : AllByRecursion IsWritable items
  fits = recursion_from_All IsWritable items stands.writable

  split : file ≡ header digest ++ (flat_map gated items ++ y)
  split = stands.ends.is ∙ append_assoc (header digest) (flat_map gated items) y

  front_of : (others : List Item) (x : List ℕ) → All IsWritable others → file ≡ journal_of digest others ++ x → IsFront others items x y
  front_of others x fit is = front others items x y (recursion_from_All IsWritable others fit) fits stands.ends.shut
      (append_cancel_left (header digest) _ _ (sym (append_assoc (header digest) (flat_map gated others) x) ∙ sym is ∙ split))

  begun : Begins digest [] file
  begun = let g = has_gate items y stands.ends.shut in record {
    writable = All-nil IsWritable;
    gate = g.gate;
    rest = g.rest;
    is = split ∙ ap (λ (l : List ℕ). header digest ++ l) g.is ∙ ap (λ (l : List ℕ). l ++ g.gate ∷ g.rest) (sym (append-nil (header digest)));
  }

  same_header : (other : List ℕ) → length other ≡ 32 → Begins other [] file → other ≡ digest
  same_header other size b =
      let there : file ≡ letters ++ (other ++ b.gate ∷ b.rest) = b.is ∙ ap (λ (l : List ℕ). l ++ b.gate ∷ b.rest) (append-nil (header other)) ∙ append_assoc letters other (b.gate ∷ b.rest) in
      let here : file ≡ letters ++ (digest ++ (flat_map gated items ++ y)) = split ∙ append_assoc letters digest (flat_map gated items ++ y) in
      sym (take_at other (b.gate ∷ b.rest) 32 size) ∙ ap (λ (l : List ℕ). take 32 (drop 8 l)) (sym there ∙ here) ∙ take_at digest (flat_map gated items ++ y) 32 long

  -- what is read of it is a front of it
  front_begun : (others : List Item) (b : Begins digest others file) → IsFront others items (b.gate ∷ b.rest) y
  front_begun others b = front_of others (b.gate ∷ b.rest) b.writable b.is

  fits_more : (others : List Item) (x : List ℕ) (f : IsFront others items x y) → AllByRecursion IsWritable f.more
  fits_more others x f = rest_fits others f.more (subst (AllByRecursion IsWritable) f.is fits)

  none_broken : (others : List Item) (at : ℕ) → BreaksOff digest others at file → ⊥
  none_broken others at b =
      let f = front_of others (1 ∷ b.rest) b.writable b.is in
      no_gate_open f.more y b.rest (fits_more others (1 ∷ b.rest) f) stands.ends.shut f.behind b.none

  none_differs : Agrees digest sums items → (others : List Item) (at : ℕ) → Differs digest sums others at file → ⊥
  none_differs agrees others at d =
      let all = others ++ d.item ∷ [] in
      let f = front_begun all d.begins in
      let inside : length others < length items = omega (arith, ap (λ (l : List Item). length l) f.is, length-append all f.more, one_longer others d.item) in
      d.differs (agrees (length others) inside d.there ∙ ap (sum_of digest) (ap (take (length others + 1)) f.is ∙ take_at all f.more (length others + 1) (one_longer others d.item)))

  none_lacks : whole sums ≤ length items + 1 → (others : List Item) (at : ℕ) → Lacks digest sums others at file → ⊥
  none_lacks few others at l =
      let same = one_journal digest file others items l.stands.writable stands.writable l.stands.ends stands.ends in
      absurd (omega (arith, few, l.more, ap (λ (is : List Item). length is) same))

  none_longer : length (journal_of digest items) < 2 ^ 62 → (others : List Item) → Begins digest others file → 2 ^ 62 ≤ length (journal_of digest others) → ⊥
  none_longer short others b far =
      let f = front_begun others b in
      absurd (omega (
        arith,
        short,
        far,
        ap (λ (l : List ℕ). length l) b.is,
        length-append (journal_of digest others) (b.gate ∷ b.rest),
        ap (λ (l : List ℕ). length l) stands.ends.is,
        length-append (journal_of digest items) y,
        ap (λ (l : List ℕ). length l) f.behind,
        length-append (flat_map gated f.more) y,
      ))

pub right_is_opened : RightIsOpened
right_is_opened digest sums file items DiskFault long stands agrees few short refused = tt
right_is_opened digest sums file items (BadJournal at) long stands agrees few short refused = absurd (⊎_elim
    (λ first. first.1 digest long (begun digest sums file items long stands))
    (λ later. none_broken digest sums file items long stands later.0 at later.1.0)
    refused)
right_is_opened digest sums file items (OtherDesign other) long stands agrees few short refused =
    absurd (refused.0 (same_header digest sums file items long stands other refused.1.0 refused.1.1))
right_is_opened digest sums file items (Damaged at) long stands agrees few short refused = absurd (⊎_elim
    (none_differs digest sums file items long stands agrees refused.0 at)
    (none_lacks digest sums file items long stands few refused.0 at)
    refused.1)
right_is_opened digest sums file items TooLong long stands agrees few short refused =
    absurd (none_longer digest sums file items long stands short refused.0 refused.1.0.0 refused.1.1)
right_is_opened digest sums file items Memory long stands agrees few short refused = tt
