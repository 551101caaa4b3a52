-- What is prepared of a point's bins.
use Rattle.std.specs.Prelude.{◌≡◌, ◌⊎◌, ⊤, ℤ, pos, ◌+ℤ◌, ◌-ℤ◌, ◌≤ℤ◌, ℕ, min, ◌+◌, ◌-◌, ◌^◌, ◌<◌, ◌≤◌, nat_eq, bit_and, bit_xor, List, [], ◌∷◌, ◌++◌, length, filter, take, reverse, slice_get, slice_index_or, All, AllPairs, Contains, Option, Some, None, Bool, true, false, not, if◌then◌else◌}
use Rattle.std.specs.List.{AllByRecursion}
use Rattle.cov_base.specs.Limits.{most_bins, most_cells}
use Rattle.cov_base.specs.Sets.{is_within, least, natural}
use Rattle.cov_base.specs.Types.{lowest, highest}
use Rattle.wildcard_bins.specs.Patterns.{bits_of}
use Rattle.const_eval.specs.Typs.{Typ}
use Rattle.const_eval.specs.Terms.{Term}
use Rattle.trans_seq.specs.declared.seq.Seq.{Seq}
use Rattle.trans_seq.specs.declared.seq.Item.{Item}
use Rattle.trans_seq.specs.declared.seq.Repeat.TheVariants.{Once}
use Rattle.trans_seq.specs.Windows.{is_known_in, SomeHasWord}
use Rattle.trans_seq.specs.Words.{IsWordOf as IsOnlyListOf}
use Rattle.trans_seq.specs.Cells.{cells_of_seqs}
use Rattle.design_data.specs.declared.infos.ItemInfo.{ItemInfo}
use Rattle.design_data.specs.declared.infos.BinInfo.{BinInfo}
use Rattle.design_data.specs.declared.infos.BinKind.{BinKind}
use Rattle.design_data.specs.declared.infos.BinKind.TheVariants.{CvgBin, IllegalBin, IgnoreBin, DefaultBin}
use Rattle.design_data.specs.declared.infos.BinRule.{BinRule}
use Rattle.design_data.specs.declared.infos.BinRule.TheVariants.{Values, Patterns, Trans, Default, DefaultValues, DefaultSequence, Picked, Product}
use Rattle.design_data.specs.Bins.{is_coverage}
use Rattle.design_data.specs.Laws.{Value, in_patterns, is_listed}
use Rattle.design_data.specs.Limits.{IsPointRule}
use Rattle.value_index.specs.declared.sets.Span.{Span}
use Rattle.value_index.specs.Found.{places}
use Rattle.value_index.specs.Finds.{Finds}
use Rattle.word_table.specs.declared.row.PlacedWord.{PlacedWord}
use Rattle.word_table.specs.Placed.{StandOnce, HasPlace}
use Rattle.point_tables.specs.declared.tables.Lookup.{Lookup}
use Rattle.point_tables.specs.declared.tables.Question.{Question}
use Rattle.point_tables.specs.declared.tables.Question.TheVariants.{Bits, Range, Rule}
use Rattle.point_tables.specs.declared.tables.Questions.{Questions}
use Rattle.point_tables.specs.declared.tables.Entry.{Entry}
use Rattle.point_tables.specs.declared.tables.Entrance.{Entrance}
use Rattle.point_tables.specs.declared.tables.Machine.{Machine}
use Rattle.point_tables.specs.declared.tables.Removers.{Removers}

-- The item is within the limits of a point of a design.
pub record IsPoint (item : ItemInfo) : Type 0 where
  pub few : length item.bins ≤ most_bins
  pub removing : cells_of_seqs (item.ignored ++ item.illegal) ≤ most_cells
  pub rules : AllByRecursion (λ bin. IsPointRule item bin.kind bin.rule) item.bins

-- the places, from this one on, of the elements that pass the test
abbrev pub places_from : {X : Type 0} → (X → Bool) → ℕ → List X → List ℕ
places_from test place [] = []
places_from test place (x ∷ xs) = if test x then place ∷ places_from test (place + 1) xs else places_from test (place + 1) xs

-- ---- values

-- the rule of a bin of values is met at the value, of a point with these bins
abbrev pub has_value : List BinInfo → Value → BinRule → Bool
has_value bins v (Values set) = is_known_in set v
has_value bins v (Patterns patterns) = in_patterns patterns v
has_value bins v (Trans seqs) = false
has_value bins v Default = not (is_listed bins v)
has_value bins v (DefaultValues set) = is_known_in set v
has_value bins v DefaultSequence = false
has_value bins v (Picked select) = false
has_value bins v (Product members) = false

-- What a look-up knows: for each key the places of the bins that have the value, which stands that far above the
-- least one; and those that are met where the value is Unknown.
pub record IsLookupOf (bins : List BinInfo) (lookup : Lookup) : Type 0 where
  pub sets : List (List Span)
  pub finds : Finds lookup.index sets
  pub meets : (key : ℕ) → key < 2 ^ 64 → places key 0 sets ≡ places_from (λ bin. has_value bins (Some (lookup.least +ℤ pos key)) bin.rule) 0 bins
  pub unknown : lookup.unknown.items ≡ places_from (λ bin. has_value bins None bin.rule) 0 bins

-- the value is a number of the type, and these are its bits
pub record AreBits (typ : Typ) (v : ℤ) (word : ℕ) : Type 0 where
  pub low : lowest typ.width typ.signed ≤ℤ v
  pub high : v ≤ℤ highest typ.width typ.signed
  pub bits : word ≡ bits_of typ.width v

abbrev pub IsWordOf : Typ → Value → ℕ → Type 0
IsWordOf typ None word = ⊥
IsWordOf typ (Some v) word = AreBits typ v word

-- the question asks of a value what the rule does
abbrev pub IsQuestionOf : Typ → BinRule → Question → Type 0
IsQuestionOf typ rule (Bits fixed bits) = (bins : List BinInfo) (v : ℤ) (word : ℕ) → AreBits typ v word → nat_eq (bit_and (bit_xor word bits) fixed) 0 ≡ has_value bins (Some v) rule
IsQuestionOf typ rule (Range low high) = (bins : List BinInfo) (v : ℤ) → is_within v (low, high) ≡ has_value bins (Some v) rule
IsQuestionOf typ rule Rule = ⊤

-- the questions are those of the first bins
abbrev pub AreQuestions : Typ → List BinInfo → List Question → Type 0
AreQuestions typ bins list = (place : ℕ) (bin : BinInfo) (question : Question) → slice_get bins place ≡ Some bin → slice_get list place ≡ Some question → IsQuestionOf typ bin.rule question

pub record AreQuestionsOf (bins : List BinInfo) (questions : Questions) : Type 0 where
  pub each : AreQuestions questions.typ bins questions.list.items

-- ---- what is prepared of each bin

-- the coverage bins among bins
abbrev pub covering : List BinInfo → List BinInfo
covering bins = filter (λ bin. is_coverage bin.kind) bins

-- there is no guard, or the bin at this place has the same
abbrev pub IsGuardAt : List BinInfo → Option ℕ → Option Term → Type 0
IsGuardAt bins None guard = guard ≡ None
IsGuardAt bins (Some place) guard = (bin : BinInfo) × (slice_get bins place ≡ Some bin) × (bin.guard ≡ guard)

pub record IsEntry (bins : List BinInfo) (place : ℕ) (bin : BinInfo) (entry : Entry) : Type 0 where
  pub covers : entry.covers ≡ is_coverage bin.kind
  pub number : entry.number ≡ length (covering (take place bins))
  pub guard : IsGuardAt bins entry.guard bin.guard

-- the entries are those of the first n bins
pub record AreEntriesOf (bins : List BinInfo) (n : ℕ) (entries : List Entry) : Type 0 where
  pub same : length entries ≡ n
  pub at : (place : ℕ) (bin : BinInfo) (entry : Entry) → slice_get bins place ≡ Some bin → slice_get entries place ≡ Some entry → IsEntry bins place bin entry

-- the bin counts for coverage and has no guard
abbrev pub IsPlain : BinInfo → Type 0
IsPlain bin = (is_coverage bin.kind ≡ true) × (bin.guard ≡ None)

-- there is an entry for each bin, or none at all, where each bin counts for coverage and has no guard
abbrev pub AreEntries : List BinInfo → List Entry → Type 0
AreEntries bins entries = AreEntriesOf bins (length bins) entries ⊎ ((entries ≡ []) × All IsPlain bins)

-- ---- transitions

-- the automaton of a transition bin, whether it gets one or not; none of another
abbrev pub machine_of : (place : ℕ) → BinKind → BinRule → List Machine
machine_of place kind (Values set) = []
machine_of place kind (Patterns patterns) = []
machine_of place kind (Trans seqs) = record { place = place; kind = kind; watcher = seqs } ∷ []
machine_of place kind Default = []
machine_of place kind (DefaultValues set) = []
machine_of place kind DefaultSequence = []
machine_of place kind (Picked select) = []
machine_of place kind (Product members) = []

-- those of the transition bins among bins, the first of which stands at this place
abbrev pub machines_from : ℕ → List BinInfo → List Machine
machines_from place [] = []
machines_from place (bin ∷ bins) = machine_of place bin.kind bin.rule ++ machines_from (place + 1) bins

-- the sequences whose windows a bin of this kind doesn't count
abbrev pub removed_by : Removers → BinKind → List Seq
removed_by removers CvgBin = removers.covering
removed_by removers IllegalBin = removers.none
removed_by removers IgnoreBin = removers.ignoring
removed_by removers DefaultBin = removers.none

-- the sequences that take windows away are those of the point
pub record AreRemovers (item : ItemInfo) (removers : Removers) : Type 0 where
  pub covering : removers.covering ≡ item.ignored ++ item.illegal
  pub ignoring : removers.ignoring ≡ item.illegal
  pub none : removers.none ≡ []

-- The sequences have one list alone, which is the word from its last value to its first, and no sequence takes it away.
pub record AreKnownBy (removed seqs : List Seq) (word : List ℤ) : Type 0 where
  pub seq : Seq
  pub is_only : seqs ≡ seq ∷ []
  pub is_word : IsOnlyListOf (reverse word) seq
  pub some : 0 < length word
  pub kept : SomeHasWord removed (reverse word) → ⊥

-- the bin of the automaton is known by the word
pub record IsKnownBy (removers : Removers) (machine : Machine) (row : PlacedWord) : Type 0 where
  pub is_place : row.place ≡ machine.place
  pub known : AreKnownBy (removed_by removers machine.kind) machine.watcher row.word

-- Of all these automata some are own ones; the bins of the others are known by their words.
pub record AreDivided (removers : Removers) (all own : List Machine) (rows : List PlacedWord) : Type 0 where
  pub from : (machine : Machine) → Contains own machine → Contains all machine
  pub words : (row : PlacedWord) → Contains rows row → (machine : Machine) × Contains all machine × IsKnownBy removers machine row
  pub each : (machine : Machine) → Contains all machine → Contains own machine ⊎ ((row : PlacedWord) × Contains rows row × IsKnownBy removers machine row)
  pub ascend : AllPairs (λ a b. a.place < b.place) own
  pub once : StandOnce rows
  pub apart : (machine : Machine) → Contains own machine → HasPlace rows machine.place → ⊥

-- how far a number stands above the least one of an `Int`, or the last number of 64 bits
abbrev pub key : ℤ → ℕ
key v = min (natural (v -ℤ least)) (2 ^ 64 - 1)

-- the value is beyond the bounds of the entrance
abbrev pub IsOut : Entrance → Value → Type 0
IsOut entrance None = entrance.bounded ≡ true
IsOut entrance (Some v) = (key v < entrance.low) ⊎ (entrance.high < key v)

-- the first of the items stands for one value, and this is none of its values
abbrev pub BeginsElsewhere : Value → List Item → Type 0
BeginsElsewhere v [] = ⊤
BeginsElsewhere v (item ∷ items) = (item.repeat ≡ Once) × (is_known_in item.set v ≡ false)

-- with a value beyond the bounds no window of the sequences begins
abbrev pub IsEntrance : List Seq → Entrance → Type 0
IsEntrance seqs entrance = (v : Value) → IsOut entrance v → AllByRecursion (λ seq. BeginsElsewhere v seq.items) seqs

-- the entrances are those of the automata
pub record AreEntrances (machines : List Machine) (entrances : List Entrance) : Type 0 where
  pub same : length entrances ≡ length machines
  pub at : (k : ℕ) (machine : Machine) (entrance : Entrance) → k < length machines → IsEntrance (slice_index_or machines k machine).watcher (slice_index_or entrances k entrance)

-- the automata from one place up to another rest at the value v: no window stands, and none begins with it
abbrev pub AreResting : List Entrance → List (List (ℕ × ℕ)) → Value → ℕ → ℕ → Type 0
AreResting entrances runs v from to = (j : ℕ) (e : Entrance) (r : List (ℕ × ℕ)) → from ≤ j → j < to
    → (slice_index_or runs j r ≡ []) × IsOut (slice_index_or entrances j e) v
