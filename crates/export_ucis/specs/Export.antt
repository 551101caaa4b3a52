-- A history in the interchange format of UCIS 1.0: its tests, and what they cover.
use Rattle.std.specs.Prelude.{ℕ, List, [], ◌∷◌, ◌++◌, codes, map}
use Rattle.design_data.specs.declared.design.Design.{Design}
use Rattle.markup.specs.Trees.{Markup, Both, Break, Element, Empty, Attribute, attribute, number, line, markup_text}
use Rattle.ucis_model.specs.declared.answers.HistoryNode.{HistoryNode}
use Rattle.ucis_elements.specs.Words.{source_id}
use Rattle.cov_history.specs.declared.entry.Entry.{Entry}
use Rattle.cov_history.specs.Nodes.{children}
use Rattle.cov_history.specs.History.{tests_of}
use Rattle.cov_history.specs.Answers.{nodes_at, test_row}
use Rattle.store_views.specs.Version.{version}
use Rattle.export_ucis.specs.Tests.{format_version, no_time, merge_node, test_nodes}
use Rattle.export_ucis.specs.Nodes.{types_of}

-- the one source, whose name a history doesn't keep
unfoldable pub source_file : Markup
source_file = line (Empty (codes "sourceFiles") (attribute (codes "fileName") (codes "design") ∷ number (codes "id") 1 ∷ []))

-- the design as the instance of a module, with all types in it
abbrev pub design_attributes : List Attribute
design_attributes = attribute (codes "name") (codes "design") ∷ number (codes "key") 0 ∷ attribute (codes "moduleName") (codes "design") ∷ []

unfoldable pub coverage_element : (opening : Design) → List Entry → Markup
coverage_element opening h =
    line (Element (codes "instanceCoverages") design_attributes (Both Break (Both (line (source_id (codes "id"))) (types_of opening h (children (nodes_at opening h) 0)))))

unfoldable pub head_attributes : List Attribute
head_attributes =
    attribute (codes "ucisVersion") format_version ∷ attribute (codes "writtenBy") (codes "covd " ++ version)
    ∷ attribute (codes "writtenTime") no_time ∷ []

-- what stands before the coverage; `rows` are those of the tests
unfoldable pub history_part : (rows : List HistoryNode) → Markup
history_part rows = Both source_file (Both merge_node (test_nodes 1 rows))

unfoldable pub whole : (opening : Design) → List Entry → (rows : List HistoryNode) → Markup
whole opening h rows =
    line (Element (codes "UCIS") head_attributes (Both Break (Both (history_part rows) (coverage_element opening h))))

-- the history as an element
unfoldable pub ucis_of : (opening : Design) → List Entry → Markup
ucis_of opening h = whole opening h (map test_row (tests_of h))

-- a text of XML 1.0
unfoldable pub declaration : List ℕ
declaration = codes "<?xml version='1.0' encoding='UTF-8'?>" ++ 10 ∷ []

-- its text
unfoldable pub ucis_text : (opening : Design) → List Entry → List ℕ
ucis_text opening h = declaration ++ markup_text (ucis_of opening h)
