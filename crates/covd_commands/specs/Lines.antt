-- The lines that are printed. Each ends with a newline, and numbers are decimal.
use Rattle.std.specs.Prelude.{◌≡◌, ℕ, List, [], ◌∷◌, ◌++◌, codes, decimal, length, slice_get, Option, Some, None}
use Rattle.std.specs.List.{flat_map, range_with_len}
use Rattle.record_codec.specs.declared.fault.RecordFault.{RecordFault}
use Rattle.record_codec.specs.declared.fault.RecordFault.TheVariants.{Short, BadMagic, BadVersion, BadField, TooManyEvents, Trailing, Memory}
use Rattle.cov_compile.specs.declared.fault.CompileFault.{CompileFault}
use Rattle.cov_compile.specs.Compiling.{is_memory}
use Rattle.cov_compile.specs.Faults.{fault_word, fault_place}
use Rattle.bin_words.specs.Words.{kind_word}
use Rattle.design_data.specs.declared.design.Design.{Design}
use Rattle.design_data.specs.declared.infos.BinKind.{BinKind}
use Rattle.ucis_model.specs.declared.node.Node.{Node}
use Rattle.ucis_model.specs.declared.node.NodeKind.{NodeKind}
use Rattle.ucis_model.specs.declared.node.NodeKind.TheVariants as node_kinds
use Rattle.ucis_model.specs.Nodes.{nodes_of}
use Rattle.ucis_model.specs.Paths.{node_at, path_of}
use Rattle.vcd_reader.specs.DumpFault.{DumpFault}
use Rattle.vcd_reader.specs.DumpFault.TheVariants as dumping

abbrev pub newline : List ℕ
newline = 10 ∷ []

abbrev pub count_at : Option ℕ → ℕ
count_at None = 0
count_at (Some count) = count

-- the column of a bin's count, where counts are printed
abbrev pub count_column : Option (List ℕ) → ℕ → List ℕ
count_column None number = []
count_column (Some counts) number = 32 ∷ decimal (count_at (slice_get counts number))

-- bin NUMBER KIND PATH, or bin NUMBER KIND COUNT PATH
abbrev pub bin_line : Option (List ℕ) → (number : ℕ) → BinKind → (path : List ℕ) → List ℕ
bin_line counts number kind path =
    codes "bin " ++ (decimal number ++ 32 ∷ (kind_word kind ++ (count_column counts number ++ 32 ∷ (path ++ newline))))

-- the line of a node, where it is a bin
abbrev pub line_of : Option (List ℕ) → NodeKind → (number : ℕ) → (path : List ℕ) → List ℕ
line_of counts node_kinds.Root number path = []
line_of counts node_kinds.CoverGroup number path = []
line_of counts node_kinds.CoverInstance number path = []
line_of counts node_kinds.CoverPoint number path = []
line_of counts node_kinds.Cross number path = []
line_of counts (node_kinds.Bin kind) number path = bin_line counts number kind path

-- the line of the node at a place; the path is the node's own, by which it is found
abbrev pub node_line : Option (List ℕ) → List Node → (place : ℕ) → List ℕ
node_line counts nodes place = line_of counts (node_at nodes place).kind (node_at nodes place).first_bin (path_of nodes place)

-- a line for each bin among nodes, in their order
abbrev pub node_lines : Option (List ℕ) → List Node → List ℕ
node_lines counts nodes = flat_map (node_line counts nodes) (range_with_len 0 (length nodes))

-- A line for each bin of a design in the order of its nodes, which is that of the numbers of bins.
unfoldable pub design_lines : Option (List ℕ) → Design → List ℕ
design_lines counts d = node_lines counts (nodes_of d)

-- `test ID`, and a line for each bin with its count
abbrev pub count_text : Design → List ℕ → List ℕ → List ℕ
count_text d id counts = codes "test " ++ (id ++ (newline ++ design_lines (Some counts) d))

-- a word and a number
abbrev pub number_line : List ℕ → ℕ → List ℕ
number_line word number = word ++ 32 ∷ (decimal number ++ newline)

-- how many signals, instances and bins the design has, and a line for each bin
abbrev pub check_text : Design → List ℕ
check_text d =
    number_line (codes "signals") (length d.signals) ++ (number_line (codes "instances") (length d.instances) ++ (number_line (codes "bins") d.bin_count ++ design_lines None d))

abbrev pub bad_words_text : List ℕ
bad_words_text = codes "bad words" ++ newline

-- the kind of the fault of a design text, and the byte at which it stands
abbrev pub design_refused_text : List ℕ → ℕ → List ℕ
design_refused_text kind at = codes "design refused " ++ (kind ++ (codes " at " ++ (decimal at ++ newline)))

-- The line of a fault of a design text. Want of memory has no line.
abbrev pub IsDesignFaultText : CompileFault → List ℕ → Type 0
IsDesignFaultText fault text = (is_memory fault → ⊥) × (text ≡ design_refused_text (fault_word fault) (fault_place fault))

-- the k-th record is refused: the kind of the refusal and its number
abbrev pub record_refused_text : (k : ℕ) → (kind : List ℕ) → (number : ℕ) → List ℕ
record_refused_text k kind number = codes "record " ++ (decimal k ++ (codes " refused " ++ (kind ++ 32 ∷ (decimal number ++ newline))))

-- The line of a fault of the k-th record's bytes. BadMagic has the number 0, and want of memory has no line.
abbrev pub IsFaultText : (k : ℕ) → RecordFault → List ℕ → Type 0
IsFaultText k (Short at) text = text ≡ record_refused_text k (codes "Short") at
IsFaultText k BadMagic text = text ≡ record_refused_text k (codes "BadMagic") 0
IsFaultText k (BadVersion version) text = text ≡ record_refused_text k (codes "BadVersion") version
IsFaultText k (BadField at) text = text ≡ record_refused_text k (codes "BadField") at
IsFaultText k (TooManyEvents count) text = text ≡ record_refused_text k (codes "TooManyEvents") count
IsFaultText k (Trailing at) text = text ≡ record_refused_text k (codes "Trailing") at
IsFaultText k Memory text = ⊥

abbrev pub wrong_shape_text : (k at : ℕ) → List ℕ
wrong_shape_text k at = record_refused_text k (codes "WrongShape") at

abbrev pub cannot_read_text : List ℕ → List ℕ
cannot_read_text name = codes "cannot read " ++ (name ++ newline)

abbrev pub too_long_text : List ℕ → ℕ → List ℕ
too_long_text name size = codes "too long " ++ (name ++ 32 ∷ (decimal size ++ newline))

-- the kind of the refusal of a dump and its number
abbrev pub dump_refused_text : List ℕ → ℕ → List ℕ
dump_refused_text kind number = codes "dump refused " ++ (kind ++ 32 ∷ (decimal number ++ newline))

-- The line of a dump's refusal. Want of memory has no line.
abbrev pub IsDumpFaultText : DumpFault → List ℕ → Type 0
IsDumpFaultText (dumping.Syntax at) text = text ≡ dump_refused_text (codes "Syntax") at
IsDumpFaultText (dumping.TimeBack at) text = text ≡ dump_refused_text (codes "TimeBack") at
IsDumpFaultText (dumping.UnknownCode at) text = text ≡ dump_refused_text (codes "UnknownCode") at
IsDumpFaultText (dumping.BadEvent at) text = text ≡ dump_refused_text (codes "BadEvent") at
IsDumpFaultText (dumping.NoSignal number) text = text ≡ dump_refused_text (codes "NoSignal") number
IsDumpFaultText (dumping.WidthDiffers number) text = text ≡ dump_refused_text (codes "WidthDiffers") number
IsDumpFaultText (dumping.TooManyEvents count) text = text ≡ dump_refused_text (codes "TooManyEvents") count
IsDumpFaultText (dumping.TooLong size) text = text ≡ dump_refused_text (codes "TooLong") size
IsDumpFaultText dumping.Memory text = ⊥
