-- The limits of the product, each with the name that clauses and definitions of the crates above cite.
use Rattle.std.specs.Prelude.{ℕ}

-- bytes of a design text
abbrev pub longest_design : ℕ
longest_design = 1048576

-- bytes of a record, and its events
abbrev pub longest_record : ℕ
longest_record = 8388608

abbrev pub most_events : ℕ
most_events = 1048576

-- signals and instances of a design, and the items of all its instances
abbrev pub most_signals : ℕ
most_signals = 4096

abbrev pub most_instances : ℕ
most_instances = 1024

abbrev pub most_items : ℕ
most_items = 262144

-- arguments of a group's sample function
abbrev pub most_arguments : ℕ
most_arguments = 16

-- bins of an item, and of a design
abbrev pub most_bins : ℕ
most_bins = 65536

abbrev pub most_design_bins : ℕ
most_design_bins = 262144

-- intervals of a set, and of all sets of a design
abbrev pub most_ranges : ℕ
most_ranges = 65536

abbrev pub most_design_ranges : ℕ
most_design_ranges = 4194304

-- values that a bin's `with` filters
abbrev pub most_values : ℕ
most_values = 1048576

-- points of a cross, and its products
abbrev pub most_points : ℕ
most_points = 16

abbrev pub most_products : ℕ
most_products = 1048576

-- cells of a transition bin, and of all that ignored and illegal sequences of a point take away
abbrev pub most_cells : ℕ
most_cells = 120

-- bits of a type
abbrev pub most_bits : ℕ
most_bits = 64

-- bytes of a name
abbrev pub longest_name : ℕ
longest_name = 1024

-- tests of a store, the bytes of their records, the entries of their tallies, and entries of a history
abbrev pub most_tests : ℕ
most_tests = 4096

abbrev pub most_bytes : ℕ
most_bytes = 268435456

abbrev pub most_entries : ℕ
most_entries = 16777216

abbrev pub most_history : ℕ
most_history = 1048576

-- rows of bins in an answer, rows of tests in one, and bytes of a record or of a path in one
abbrev pub most_rows : ℕ
most_rows = 65536

abbrev pub most_test_rows : ℕ
most_test_rows = 1024

abbrev pub longest_chunk : ℕ
longest_chunk = 1048576
